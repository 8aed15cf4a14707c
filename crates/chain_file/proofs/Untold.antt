-- Where no cause is told, there is none.
use Rattle.std.proofs.Common.{◌≡◌, ℕ, suc, ◌≤◌, List, [], ◌∷◌, length, Option, Some, None, option_and_then, refl, ap, arith}
use Rattle.serde_json.specs.Data.{Data, Items, no_items, item}
use Rattle.serde_json.specs.Events.{items_len}
use Rattle.std.specs.Prelude.{codes, not, is_some}
use Rattle.serde_json.specs.Find.{get, as_array}
use Rattle.onvm_base.specs.declared.limits.TheConstants.{MAX_CHAINS, MAX_CHAIN_STEPS, MAX_FUNCTIONS, MAX_RULES}
use Rattle.onvm_base.specs.declared.chain.ChainPlan.{ChainPlan}
use Rattle.chain_file.specs.Chains.{chain_cause, chain_name, place_of}
use Rattle.chain_file.specs.declared.fault.Cause.{Cause}
use Rattle.chain_file.specs.declared.fault.Cause.TheVariants.{Shape, Unknown, Limit, Twice, Marks}
use Rattle.chain_file.specs.Top.{top_in, top_keys, roles_in, rings_in, times_in, lists_cause, list_or_none}
use Rattle.chain_file.specs.Causes.{earlier, first_of, unless}
use Rattle.chain_file.specs.Values.{name_at, only, under, listed, listed_in, length_from, length_in, list_at}

pub earlier_none : (c d : Option Cause) → earlier c d ≡ None → (c ≡ None) × (d ≡ None)
earlier_none None None e = (refl, refl)
earlier_none None (Some Shape) e = grind arith
earlier_none None (Some Unknown) e = grind arith
earlier_none None (Some Limit) e = grind arith
earlier_none None (Some Twice) e = grind arith
earlier_none None (Some Marks) e = grind arith
earlier_none (Some Shape) d e = grind arith
earlier_none (Some Unknown) d e = grind arith
earlier_none (Some Limit) d e = grind arith
earlier_none (Some Twice) d e = grind arith
earlier_none (Some Marks) d e = grind arith

pub first_of_none : (c : Option Cause) (cs : List (Option Cause)) → first_of (c ∷ cs) ≡ None → (c ≡ None) × (first_of cs ≡ None)
first_of_none c cs e = earlier_none c (first_of cs) e

pub length_listed : (ds : Items) → length (listed ds) ≡ items_len ds
length_listed no_items = refl
length_listed (item d ds) = ap suc (length_listed ds)

length_from_none : (first last n : ℕ) → length_from first last n ≡ None → n ≤ last
length_from_none first last n e = grind arith

length_in_none : (first last : ℕ) (ds : Option Items) → length_in first last ds ≡ None → length (listed_in ds) ≤ last
length_in_none first last None e = grind arith
length_in_none first last (Some ds) e = omega (arith, length_listed ds, length_from_none first last (items_len ds) e)

pub list_at_none : (first last : ℕ) (o : Option Data) → list_at first last o ≡ None → length (listed_in (option_and_then as_array o)) ≤ last
list_at_none first last None e = grind arith
list_at_none first last (Some d) e = length_in_none first last (as_array d) e

pub not_some : {A : Type 0} (o : Option A) → ((x : A) → o ≡ Some x → ⊥) → o ≡ None
not_some None h = refl
not_some (Some x) h = absurd (h x refl)

third_none : (a b c d : Option Cause) → first_of (a ∷ b ∷ c ∷ d ∷ []) ≡ None → c ≡ None
third_none a b c d e = (first_of_none c (d ∷ []) (first_of_none b (c ∷ d ∷ []) (first_of_none a (b ∷ c ∷ d ∷ []) e).1).1).0

-- a chain that has no cause has at most MAX_CHAIN_STEPS steps
pub chain_few : (before : List ChainPlan) (d : Data) → chain_cause before d ≡ None → length (under (codes "steps") d) ≤ MAX_CHAIN_STEPS
unfolding chain_cause
chain_few before d e =
    list_at_none 1 MAX_CHAIN_STEPS (get (codes "steps") d)
    (third_none (only (codes "name" ∷ codes "steps" ∷ []) [] d) (chain_name d).cause (list_at 1 MAX_CHAIN_STEPS (get (codes "steps") d))
    (unless (not (is_some (place_of before (chain_name d).value))) Twice) e)

list_or_none_none : (first last : ℕ) (o : Option Data) → list_or_none first last o ≡ None → length (listed_in (option_and_then as_array o)) ≤ last
list_or_none_none first last None e = omega arith
list_or_none_none first last (Some d) e = length_in_none first last (as_array d) e

fifth_none : (a b c d e : Option Cause) → first_of (a ∷ b ∷ c ∷ d ∷ e ∷ []) ≡ None → e ≡ None
fifth_none a b c d e h =
    (first_of_none e [] (first_of_none d (e ∷ []) (first_of_none c (d ∷ e ∷ []) (first_of_none b (c ∷ d ∷ e ∷ []) (first_of_none a (b ∷ c ∷ d ∷ e ∷ []) h).1).1).1).1).0

pub record HasFew (d : Data) : Type 0 where
  pub functions : length (under (codes "functions") d) ≤ MAX_FUNCTIONS
  pub chains : length (under (codes "chains") d) ≤ MAX_CHAINS
  pub rules : length (under (codes "rules") d) ≤ MAX_RULES

lists_few : (d : Data) → lists_cause d ≡ None → HasFew d
lists_few d e =
    let functions = list_at 1 MAX_FUNCTIONS (get (codes "functions") d) in
    let chains = list_at 1 MAX_CHAINS (get (codes "chains") d) in
    let rules = list_or_none 0 MAX_RULES (get (codes "rules") d) in
    let default = (name_at (get (codes "default") d)).cause in
    let one = first_of_none functions (chains ∷ rules ∷ default ∷ []) e in
    let two = first_of_none chains (rules ∷ default ∷ []) one.1 in
    let three = first_of_none rules (default ∷ []) two.1 in
    record {
      functions = list_at_none 1 MAX_FUNCTIONS (get (codes "functions") d) one.0;
      chains = list_at_none 1 MAX_CHAINS (get (codes "chains") d) two.0;
      rules = list_or_none_none 0 MAX_RULES (get (codes "rules") d) three.0;
    }

-- where the top object has no cause, its lists are short
pub top_few : (captures : ℕ) (d : Data) → (top_in captures d).cause ≡ None → HasFew d
unfolding top_in
top_few captures d e =
    lists_few d (fifth_none (only top_keys [] d) (roles_in captures d).cause (rings_in d).cause (times_in d).cause (lists_cause d) e)
