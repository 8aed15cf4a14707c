-- A written plan is read back.
use Rattle.std.proofs.Common.{◌≡◌, ℕ, ◌-◌, ◌/◌, ◌<◌, ◌≤◌, true, nat_le, nat_lt, max, List, [], ◌∷◌, length, map, codes, Option, Some, None, option_map, refl, sym, ap, ◌∙◌, arith}
use Rattle.serde_json.specs.Data.{Data}
use Rattle.serde_json.specs.Find.{get}
use Rattle.onvm_base.specs.declared.limits.TheConstants.{MAX_AGE, MAX_BUFFERS, MAX_BURST, MAX_CHAINS, MAX_CORES, MAX_FUNCTIONS, MAX_PORTS, MAX_RING, MAX_RULES, MAX_TICK, MAX_TRANSMIT_ROLES, MAX_WINDOW, MIN_RING, MIN_TICK}
use Rattle.onvm_base.specs.declared.plan.Plan.{Plan}
use Rattle.onvm_base.specs.declared.rules.RulePlan.{RulePlan}
use Rattle.chain_file.specs.declared.fault.Cause.{Cause}
use Rattle.chain_file.specs.declared.judged.Judged.{Judged}
use Rattle.chain_file.specs.declared.top.Sizes.{Sizes}
use Rattle.chain_file.specs.declared.top.Roles.{Roles}
use Rattle.chain_file.specs.declared.top.Rings.{Rings}
use Rattle.chain_file.specs.declared.top.Times.{Times}
use Rattle.chain_file.specs.Causes.{first_of}
use Rattle.chain_file.specs.File.{IsPlanOf, chain_list, default_of, function_list, functions_of, chains_of, rules_of, function_cause_at, chain_cause_at, steps_cause_at, rule_cause_at, numbers_of, sizes_of}
use Rattle.chain_file.specs.Guests.{HaveGuests}
use Rattle.chain_file.specs.Rules.{chain_at}
use Rattle.chain_file.specs.Top.{top_keys, roles_in, ring_in, high_in, low_in, rings_in, times_in, list_or_none, lists_cause, top_in}
use Rattle.chain_file.specs.Values.{right, number, number_or, list_at, name_at, only, under}
use Rattle.chain_file.specs.Widths.{PlanFits}
use Rattle.chain_file.specs.Written.{plan_rows, form, function, chain, rule, list, name_of_chain}
use Rattle.chain_file.proofs.Compact.{sorted, IsPlain}
use Rattle.chain_file.proofs.Rows.{get_of, value_at, only_right, number_right, number_or_right, name_at_right, sorted-mapped, under_is, list_at_is, items_plain}
use Rattle.chain_file.proofs.WrittenKinds.{function_plain}
use Rattle.chain_file.proofs.WrittenPlan.{AreWritten, functions_back, functions_right_back, AreChains, chains_back, chains_right_back, steps_right_back, AreNamed, chain_at_back, chain_name_is, chain_name_plain, AreRules, rules_back, rules_right_back, chain_plain, rule_plain}

-- ---- the top object

roles_from : (captures : ℕ) (d : Data) (r : Roles) → captures ≤ r.ports → number (codes "version") 1 1 d ≡ right r.version
    → number (codes "ports") 1 MAX_PORTS d ≡ right r.ports → number_or (codes "transmit") 1 MAX_TRANSMIT_ROLES 1 d ≡ right r.transmit
    → number_or (codes "cores") 1 MAX_CORES 1 d ≡ right r.cores → roles_in captures d ≡ right r
roles_from captures d r enough version ports transmit cores =
    let fits : nat_le captures r.ports ≡ true = grind arith in
    rw (version, ports, transmit, cores, fits) refl

rings_from : (d : Data) (r : Rings) → number_or (codes "buffers") 1 MAX_BUFFERS 1024 d ≡ right r.buffers → ring_in d ≡ right r.ring
    → number_or (codes "output") MIN_RING MAX_RING (ring_in d).value d ≡ right r.output → number_or (codes "burst") 1 MAX_BURST 32 d ≡ right r.burst
    → high_in d ≡ right r.high → low_in d ≡ right r.low → r.low < r.high → r.high ≤ r.ring → rings_in d ≡ right r
rings_from d r buffers ring output burst high low less most =
    let above : nat_lt r.low r.high ≡ true = grind arith in
    let below : nat_le r.high r.ring ≡ true = grind arith in
    rw (buffers, output, burst, high, low, ring, above, below) refl

times_from : (d : Data) (r : Times) → number_or (codes "age") 0 MAX_AGE 100000 d ≡ right r.age
    → number_or (codes "window") 1 MAX_WINDOW 100000000 d ≡ right r.window → number_or (codes "tick") MIN_TICK MAX_TICK 10000000 d ≡ right r.tick
    → times_in d ≡ right r
times_from d r age window tick = rw (age, window, tick) refl

lists_from : (d : Data) → list_at 1 MAX_FUNCTIONS (get (codes "functions") d) ≡ None → list_at 1 MAX_CHAINS (get (codes "chains") d) ≡ None
    → list_or_none 0 MAX_RULES (get (codes "rules") d) ≡ None → (name_at (get (codes "default") d)).cause ≡ None → lists_cause d ≡ None
lists_from d functions chains rules default = rw (functions, chains, rules, default) refl

abbrev sizes_with : Roles → Rings → Times → Sizes
sizes_with r s t = record {
  version = r.version;
  ports = r.ports;
  transmit = r.transmit;
  cores = r.cores;
  buffers = s.buffers;
  ring = s.ring;
  output = s.output;
  burst = s.burst;
  high = s.high;
  low = s.low;
  age = t.age;
  window = t.window;
  tick = t.tick;
}

abbrev top_with : Option Cause → Judged Roles → Judged Rings → Judged Times → Option Cause → Judged Sizes
top_with keys roles rings times lists = record {
  cause = first_of (keys ∷ roles.cause ∷ rings.cause ∷ times.cause ∷ lists ∷ []);
  value = sizes_with roles.value rings.value times.value;
}

with_parts : (keys : Option Cause) (roles : Judged Roles) (rings : Judged Rings) (times : Judged Times) (lists : Option Cause) (r : Roles) (s : Rings) (t : Times)
    → keys ≡ None → roles ≡ right r → rings ≡ right s → times ≡ right t → lists ≡ None
    → top_with keys roles rings times lists ≡ right (sizes_with r s t)
with_parts keys roles rings times lists r s t a b c d e = rw (a, b, c, d, e) refl

top_from : (captures : ℕ) (d : Data) (r : Roles) (s : Rings) (t : Times) → only top_keys [] d ≡ None → roles_in captures d ≡ right r
    → rings_in d ≡ right s → times_in d ≡ right t → lists_cause d ≡ None → top_in captures d ≡ right (sizes_with r s t)
unfolding top_in
top_from captures d r s t keys roles rings times lists =
    with_parts (only top_keys [] d) (roles_in captures d) (rings_in d) (times_in d) (lists_cause d) r s t keys roles rings times lists

-- ---- the numbers of a plan

at_key : (p : Plan) (key : List ℕ) → get key (sorted (form p)) ≡ option_map sorted (value_at key (plan_rows p))
at_key p key = get_of key (plan_rows p) refl

pub named : (p : Plan) → AreNamed p.chains
named p = record {
  names = λ k d less. (p.kept.chains_are k d less).name;
  differ = p.kept.chains_differ;
}

functions_listed : (p : Plan) → get (codes "functions") (sorted (form p)) ≡ Some (list (map (λ f. sorted (function f)) p.functions))
functions_listed p = at_key p (codes "functions") ∙ ap Some (sorted-mapped function p.functions)

chains_listed : (p : Plan) → get (codes "chains") (sorted (form p)) ≡ Some (list (map (λ c. sorted (chain c)) p.chains))
chains_listed p = at_key p (codes "chains") ∙ ap Some (sorted-mapped chain p.chains)

rules_listed : (p : Plan) → get (codes "rules") (sorted (form p)) ≡ Some (list (map (λ r. sorted (rule p.chains r)) p.rules))
rules_listed p = at_key p (codes "rules") ∙ ap Some (sorted-mapped (rule p.chains) p.rules)

rules_cause : (o : Option Data) (form : RulePlan → Data) (rs : List RulePlan) → o ≡ Some (list (map form rs)) → length rs ≤ MAX_RULES → list_or_none 0 MAX_RULES o ≡ None
rules_cause o form rs e few = ap (list_or_none 0 MAX_RULES) e ∙ list_at_is 0 MAX_RULES (Some (list (map form rs))) form rs refl (omega arith, few)

default_named : (p : Plan) → (name_at (get (codes "default") (sorted (form p)))).cause ≡ None
default_named p =
    ap (λ j. j.cause) (name_at_right (name_of_chain p.chains p.default.0) (get (codes "default") (sorted (form p))) (at_key p (codes "default"))
    (chain_name_is p.chains p.default.0 (named p) p.kept.default_is))

top_back : (captures : ℕ) (p : Plan) → captures ≤ p.ports → top_in captures (sorted (form p)) ≡ right (numbers_of p)
top_back captures p enough =
    let d = sorted (form p) in
    let h = p.kept.sizes_are in
    let r : Roles = record { version = p.version; ports = p.ports; transmit = p.transmit; cores = p.cores } in
    let s : Rings = record { buffers = p.buffers; ring = p.ring; output = p.output; burst = p.burst; high = p.high; low = p.low } in
    let t : Times = record { age = p.age; window = p.window; tick = p.tick } in
    top_from captures d r s t (only_right top_keys [] (plan_rows p) refl)
    (roles_from captures d r enough
    (number_right (codes "version") 1 1 p.version d (at_key p (codes "version")) (omega (arith, h.version), omega (arith, h.version)))
    (number_right (codes "ports") 1 MAX_PORTS p.ports d (at_key p (codes "ports")) h.ports)
    (number_or_right (codes "transmit") 1 MAX_TRANSMIT_ROLES 1 p.transmit d (at_key p (codes "transmit")) h.transmit)
    (number_or_right (codes "cores") 1 MAX_CORES 1 p.cores d (at_key p (codes "cores")) h.cores))
    (rings_from d s
    (number_or_right (codes "buffers") 1 MAX_BUFFERS 1024 p.buffers d (at_key p (codes "buffers")) h.buffers)
    (number_or_right (codes "ring") MIN_RING MAX_RING 128 p.ring d (at_key p (codes "ring")) h.ring)
    (number_or_right (codes "output") MIN_RING MAX_RING (ring_in d).value p.output d (at_key p (codes "output")) h.output)
    (number_or_right (codes "burst") 1 MAX_BURST 32 p.burst d (at_key p (codes "burst")) h.burst)
    (number_or_right (codes "high") 1 MAX_RING ((ring_in d).value - (ring_in d).value / 4) p.high d (at_key p (codes "high")) (omega (arith, h.marks, h.low), omega (arith, h.high, h.ring.1)))
    (number_or_right (codes "low") 1 MAX_RING (max ((ring_in d).value / 4) 1) p.low d (at_key p (codes "low")) (h.low, omega (arith, h.marks, h.high, h.ring.1)))
    h.marks h.high)
    (times_from d t
    (number_or_right (codes "age") 0 MAX_AGE 100000 p.age d (at_key p (codes "age")) (omega arith, h.age))
    (number_or_right (codes "window") 1 MAX_WINDOW 100000000 p.window d (at_key p (codes "window")) h.window)
    (number_or_right (codes "tick") MIN_TICK MAX_TICK 10000000 p.tick d (at_key p (codes "tick")) h.tick))
    (lists_from d
    (list_at_is 1 MAX_FUNCTIONS (get (codes "functions") d) (λ f. sorted (function f)) p.functions (functions_listed p) p.kept.function_count)
    (list_at_is 1 MAX_CHAINS (get (codes "chains") d) (λ c. sorted (chain c)) p.chains (chains_listed p) p.kept.chain_count)
    (rules_cause (get (codes "rules") d) (λ r. sorted (rule p.chains r)) p.rules (rules_listed p) p.kept.rule_count)
    (default_named p))

-- ---- the whole plan

written_functions : (guests : List (List ℕ)) (p : Plan) → PlanFits p → HaveGuests guests p.functions → AreWritten p.cores guests p.functions
written_functions guests p fits known = record {
  are = p.kept.functions_are;
  fit = fits.kinds;
  known = known;
  differ = p.kept.functions_differ;
}

written_chains : (p : Plan) → AreChains p.cores p.ports p.functions p.chains
written_chains p = record { functions = p.kept.functions_are; are = p.kept.chains_are; differ = p.kept.chains_differ }

written_rules : (p : Plan) → PlanFits p → AreRules p.chains p.rules
written_rules p fits = record { named = named p; are = p.kept.rules_are; fit = fits.rules }

pub plan_back : (captures : ℕ) (guests : List (List ℕ)) (p : Plan) → captures ≤ p.ports → PlanFits p → HaveGuests guests p.functions
    → IsPlanOf captures guests (sorted (form p)) p
plan_back captures guests p enough fits known =
    let d = sorted (form p) in
    let top = top_back captures p enough in
    let sizes : sizes_of captures d ≡ numbers_of p = ap (λ j. j.value) top in
    let fs = map (λ f. sorted (function f)) p.functions in
    let cs = map (λ c. sorted (chain c)) p.chains in
    let rs = map (λ r. sorted (rule p.chains r)) p.rules in
    let under_functions : under (codes "functions") d ≡ fs = under_is (codes "functions") d (λ f. sorted (function f)) p.functions (functions_listed p) in
    let under_chains : under (codes "chains") d ≡ cs = under_is (codes "chains") d (λ c. sorted (chain c)) p.chains (chains_listed p) in
    let under_rules : under (codes "rules") d ≡ rs = under_is (codes "rules") d (λ r. sorted (rule p.chains r)) p.rules (rules_listed p) in
    let functions : function_list captures guests d ≡ p.functions =
    ap (λ s. functions_of s.cores guests (under (codes "functions") d)) sizes ∙ ap (functions_of p.cores guests) under_functions
    ∙ functions_back p.cores guests p.functions (written_functions guests p fits known) in
    let chains : chain_list captures guests d ≡ p.chains =
    ap (λ s. chains_of s.ports (function_list captures guests d) (under (codes "chains") d)) sizes
    ∙ ap (λ functions. chains_of p.ports functions (under (codes "chains") d)) functions ∙ ap (chains_of p.ports p.functions) under_chains
    ∙ chains_back p.cores p.ports p.functions p.chains (written_chains p) in
    let default : default_of captures guests d ≡ right p.default =
    ap (λ chains. chain_at chains (codes "default") d) chains
    ∙ chain_at_back p.chains (codes "default") d p.default (named p) p.kept.default_is (at_key p (codes "default")) in
    record {
      top = ap (λ j. j.cause) top;
      functions = λ k.
          ap (λ s. function_cause_at s.cores guests (under (codes "functions") d) k) sizes
          ∙ ap (λ ds. function_cause_at p.cores guests ds k) under_functions
          ∙ functions_right_back p.cores guests p.functions (written_functions guests p fits known) k;
      chains = record {
        chains = λ k.
            ap (λ s. chain_cause_at s.ports (function_list captures guests d) (under (codes "chains") d) k) sizes
            ∙ ap (λ functions. chain_cause_at p.ports functions (under (codes "chains") d) k) functions
            ∙ ap (λ ds. chain_cause_at p.ports p.functions ds k) under_chains
            ∙ chains_right_back p.cores p.ports p.functions p.chains (written_chains p) k;
        steps = λ k j.
            ap (λ s. steps_cause_at s.ports (function_list captures guests d) (under (codes "chains") d) k j) sizes
            ∙ ap (λ functions. steps_cause_at p.ports functions (under (codes "chains") d) k j) functions
            ∙ ap (λ ds. steps_cause_at p.ports p.functions ds k j) under_chains
            ∙ steps_right_back p.cores p.ports p.functions p.chains (written_chains p) k j;
      };
      rules = λ k.
          ap (λ chains. rule_cause_at chains (under (codes "rules") d) k) chains ∙ ap (λ ds. rule_cause_at p.chains ds k) under_rules
          ∙ rules_right_back p.chains p.rules (written_rules p fits) k;
      default = ap (λ j. j.cause) default;
      sizes_are = sym sizes;
      functions_are = sym functions;
      chains_are = sym chains;
      rules_are =
          sym (ap (λ chains. rules_of chains (under (codes "rules") d)) chains ∙ ap (rules_of p.chains) under_rules
          ∙ rules_back p.chains p.rules (written_rules p fits));
      default_is = sym (ap (λ j. j.value) default);
    }

-- ---- what is written

pub form_plain : (p : Plan) → PlanFits p → IsPlain 6 (form p)
form_plain p fits =
    let h = p.kept.sizes_are in (
      refl,
      omega (arith, h.version),
      (
        refl,
        omega (arith, h.ports.1),
        (
          refl,
          omega (arith, h.transmit.1),
          (
            refl,
            omega (arith, h.cores.1),
            (
              refl,
              omega (arith, h.buffers.1),
              (
                refl,
                omega (arith, h.ring.1),
                (
                  refl,
                  omega (arith, h.output.1),
                  (
                    refl,
                    omega (arith, h.burst.1),
                    (
                      refl,
                      omega (arith, h.high, h.ring.1),
                      (
                        refl,
                        omega (arith, h.marks, h.high, h.ring.1),
                        (
                          refl,
                          omega (arith, h.age),
                          (
                            refl,
                            omega (arith, h.window.1),
                            (
                              refl,
                              omega (arith, h.tick.1),
                              (
                                refl,
                                items_plain 4 function p.functions (λ k d less. function_plain p.cores _ h.cores.1 (p.kept.functions_are k d less) (fits.kinds k d less)),
                                (
                                  refl,
                                  items_plain 4 chain p.chains (λ k d less. chain_plain p.cores p.ports p.functions _ p.kept.functions_are h.ports.1 (p.kept.chains_are k d less)),
                                  (
                                    refl,
                                    items_plain 4 (rule p.chains) p.rules (λ k d less. rule_plain p.chains _ (named p) (p.kept.rules_are k d less) (fits.rules k d less)),
                                    (refl, chain_name_plain p.chains p.default.0 (named p) p.kept.default_is, tt),
                                  ),
                                ),
                              ),
                            ),
                          ),
                        ),
                      ),
                    ),
                  ),
                ),
              ),
            ),
          ),
        ),
      ),
    )
