-- What a pass of the tick role promises, from the samples that it took and the weights that it posted.
use Rattle.std.proofs.Common.{◌≡◌, ℕ, zero, suc, ◌+◌, ◌<◌, ◌≤◌, Bool, true, false, List, [], ◌∷◌, ◌++◌, length, Some, None, Option, refl, sym, ◌∙◌, ap, subst, arith, append_assoc, append-nil}
use Rattle.std.specs.Prelude.{◌==◌, ◌≢◌, ◌||◌, slice_get, nat_lt, if◌then◌else◌}
use Rattle.std.proofs.lemmas.Bool.{eq-eqb, le-ltb, ne_eqb}
use Rattle.onvm_base.specs.declared.function.FunctionPlan.{FunctionPlan}
use Rattle.onvm_base.specs.declared.ids.FnId.{FnId}
use Rattle.onvm_base.specs.declared.ids.RingId.TheVariants.{Mail}
use Rattle.onvm_base.specs.declared.plan.Plan.{Plan}
use Rattle.onvm_core.specs.declared.entry.Entry.{Entry}
use Rattle.onvm_core.specs.declared.layout.Layout.{Layout}
use Rattle.onvm_core.specs.declared.layout.Word.TheVariants.{Weight}
use Rattle.onvm_core.specs.declared.step.Act.{Act}
use Rattle.onvm_core.specs.declared.step.Act.TheVariants.{Post}
use Rattle.onvm_core.specs.declared.step.Item.{Item}
use Rattle.onvm_core.specs.Blocks.{IsOfBlocks, MayTick, kind_of}
use Rattle.onvm_core.specs.Blocks.RoleKind.{Handles, Leads, Receives, Sends, Ticks}
use Rattle.onvm_core.specs.History.{pops}
use Rattle.onvm_core.specs.Layouts.{IsLayoutOf, tick_role}
use Rattle.onvm_core.specs.Logs.{Log, Setting}
use Rattle.onvm_core.specs.Places.{how_many, one_if}
use Rattle.onvm_core.specs.Potential.{popped_in}
use Rattle.onvm_core.proofs.Lists.{if_met, if_unmet}
use Rattle.onvm_core.proofs.Once.{how_many-append}
use Rattle.onvm_board.specs.Tokens.{TokenView, grown}
use Rattle.onvm_board.proofs.Stretches.{grown_twice}
use Rattle.load_estimate.specs.declared.sample.Sample.{Sample}
use Rattle.load_estimate.specs.declared.tick.Share.{Share}
use Rattle.load_estimate.specs.declared.tick.Tick.{Tick}
use Rattle.load_estimate.specs.declared.tick.TickLine.{TickLine}
use Rattle.onvm_promises.specs.declared.pass.Pass.{Pass}
use Rattle.onvm_promises.specs.declared.pass.Pass.TheVariants.{Wanting}
use Rattle.onvm_promises.specs.Answers.{Tells, is_complete}
use Rattle.onvm_promises.specs.Follows.{TicksOn}
use Rattle.onvm_promises.specs.Kept.{kept_at, kept_now, moment_then, samples_by}
use Rattle.onvm_promises.specs.Lines.{lines_from, lines_of, share_at, share_in, weight_posted, weights_posted}
use Rattle.onvm_promises.specs.Passes.{IsDrained, is_pop_of, ran_dry}
use Rattle.onvm_promises.specs.Roles.{IsTickPromise, IsTickerSoFar, setting_of, ticks_of_pass}
use Rattle.onvm_promises.specs.Ticks.{is_due, new_ticks, tick_at, weight_posts, weights_in}
use Rattle.onvm_promises.proofs.Following.{ticks_append, ticks_follow}
use Rattle.onvm_promises.proofs.Keeping.{kept_append, kept_then}
use Rattle.tick_pass.specs.Taking.{HasTakenAll}
use Rattle.tick_pass.specs.Telling.{IsTurn, post_of, posts_from, posts_where, ticks_where}
use Rattle.tick_pass.proofs.Residing.{number}
use Rattle.tick_pass.proofs.Takes.{no_weights, takes_tick}

-- Posts of weights

pub data IsWeightPost (functions : ℕ) : Act → Type 0 where
  AWeight : (f : FnId) (weight : ℕ) → f.0 < functions → IsWeightPost functions (Post (Weight f) weight)

abbrev pub ArePosts : ℕ → Log → Type 0
ArePosts functions [] = Unit {0}
ArePosts functions (act ∷ before) = IsWeightPost functions act × ArePosts functions before

posts_append : (functions : ℕ) (xs ys : Log) → ArePosts functions xs → ArePosts functions ys
    → ArePosts functions (xs ++ ys)
posts_append functions [] ys first second = second
posts_append functions (act ∷ xs) ys first second = (first.0, posts_append functions xs ys first.1 second)

post_is : (functions f : ℕ) (share : Option Share) → f < functions → ArePosts functions (post_of (number f) share)
post_is functions f None known = tt
post_is functions f (Some share) known = (AWeight (number f) share.weight known, tt)

pub posts_are : (functions n : ℕ) (lines : List TickLine) → n + length lines ≤ functions
    → ArePosts functions (posts_from n lines)
posts_are functions n [] within = tt
posts_are functions n (line ∷ lines) within =
    posts_append functions (posts_from (n + 1) lines) (post_of (number n) line.share)
    (posts_are functions (n + 1) lines (omega (arith, within)))
    (post_is functions n line.share (omega (arith, within)))

-- they pop and take nothing

module _ (functions : ℕ) where
  pub posts_pop : (f : FnId) (log : Log) → ArePosts functions log → how_many (is_pop_of (Mail f)) log ≡ 0
  posts_pop f [] are = refl
  posts_pop f (act ∷ log) are = pop_one f act are.0 (how_many (is_pop_of (Mail f)) log) (posts_pop f log are.1)
    where
      pop_one : (f : FnId) (act : Act) → IsWeightPost functions act → (n : ℕ) → n ≡ 0
          → one_if (is_pop_of (Mail f) act) + n ≡ 0
      pop_one f act (AWeight g weight known) n none = omega (arith, none)

  pub posts_dry : (f : FnId) (log before : Log) → ArePosts functions log
      → ran_dry (Mail f) (log ++ before) ≡ ran_dry (Mail f) before
  posts_dry f [] before are = refl
  posts_dry f (act ∷ log) before are = dry_one f act are.0 (log ++ before) ∙ posts_dry f log before are.1
    where
      dry_one : (f : FnId) (act : Act) → IsWeightPost functions act → (before : Log)
          → ran_dry (Mail f) (act ∷ before) ≡ ran_dry (Mail f) before
      dry_one f act (AWeight g weight known) before = refl

  pub posts_popped : (f : FnId) (log : Log) → ArePosts functions log → popped_in (Mail f) log ≡ []
  posts_popped f [] are = refl
  posts_popped f (act ∷ log) are =
      ap (λ (items : List Item). items ++ pops (Mail f) act) (posts_popped f log are.1) ∙ popped_one f act are.0
    where
      popped_one : (f : FnId) (act : Act) → IsWeightPost functions act → pops (Mail f) act ≡ []
      popped_one f act (AWeight g weight known) = refl

  pub posts_told : (now : ℕ) (log : Log) → ArePosts functions log → kept_now samples_by now log ≡ []
  posts_told now [] are = refl
  posts_told now (act ∷ log) are =
      ap (λ ss. ss ++ samples_by now act) (posts_told now log are.1) ∙ told_one now act are.0
    where
      told_one : (now : ℕ) (act : Act) → IsWeightPost functions act → samples_by now act ≡ []
      told_one now act (AWeight g weight known) = refl

pub posts_tick : (setting : Setting) (log : Log) → ArePosts setting.layout.functions log → TicksOn setting log
posts_tick setting [] are = tt
posts_tick setting (act ∷ log) are = (one act are.0, posts_tick setting log are.1)
  where
    one : (act : Act) → IsWeightPost setting.layout.functions act
        → MayTick setting act
    one act (AWeight f weight known) = known

-- The weights that they post

weights_append : (f : FnId) (xs ys : Log) → weights_in f (xs ++ ys) ≡ weights_in f ys ++ weights_in f xs
weights_append f [] ys = sym (append-nil (weights_in f ys))
weights_append f (act ∷ xs) ys =
    ap (λ ws. ws ++ weight_posts f act) (weights_append f xs ys)
    ∙ append_assoc (weights_in f ys) (weights_in f xs) (weight_posts f act)

own_weight : (f : FnId) (n : ℕ) (share : Option Share) → n ≡ f.0
    → weights_in f (post_of (number n) share) ≡ weight_posted share
own_weight f n None same = refl
own_weight f n (Some share) same = rw (eq-eqb n f.0 same) refl

other_weight : (f : FnId) (n : ℕ) (share : Option Share) → n ≢ f.0 → weights_in f (post_of (number n) share) ≡ []
other_weight f n None other = refl
other_weight f n (Some share) other = rw (ne_eqb n f.0 other) refl

later_weights : (f : FnId) (n : ℕ) (lines : List TickLine) → f.0 < n → weights_in f (posts_from n lines) ≡ []
later_weights f n [] below = refl
later_weights f n (line ∷ lines) below =
    weights_append f (posts_from (n + 1) lines) (post_of (number n) line.share)
    ∙ ap (λ ws. ws ++ weights_in f (posts_from (n + 1) lines))
    (other_weight f n line.share (λ e. omega (arith, below, e)))
    ∙ later_weights f (n + 1) lines (omega (arith, below))

weights_of : (f : FnId) (n k : ℕ) (lines : List TickLine) → f.0 ≡ n + k
    → weights_in f (posts_from n lines) ≡ weight_posted (share_in (slice_get lines k))
weights_of f n k [] at = refl
weights_of f n zero (line ∷ lines) at =
    weights_append f (posts_from (n + 1) lines) (post_of (number n) line.share)
    ∙ ap (λ ws. weights_in f (post_of (number n) line.share) ++ ws) (later_weights f (n + 1) lines (omega (arith, at)))
    ∙ append-nil (weights_in f (post_of (number n) line.share))
    ∙ own_weight f n line.share (omega (arith, at))
weights_of f n (suc k) (line ∷ lines) at =
    weights_append f (posts_from (n + 1) lines) (post_of (number n) line.share)
    ∙ ap (λ ws. ws ++ weights_in f (posts_from (n + 1) lines))
    (other_weight f n line.share (λ e. omega (arith, at, e)))
    ∙ weights_of f (n + 1) k lines (omega (arith, at))

pub weights_are : (f : FnId) (tick : Tick) → weights_in f (posts_from 0 tick.lines) ≡ weights_posted f.0 (tick ∷ [])
weights_are f tick =
    weights_of f 0 f.0 tick.lines (omega arith) ∙ sym (append-nil (weight_posted (share_at tick f.0)))

-- A tick, or none

pub posts_where_are : (functions : ℕ) (due : Bool) (lines : List TickLine) → length lines ≤ functions
    → ArePosts functions (posts_where due lines)
posts_where_are functions true lines within = posts_are functions 0 lines (omega (arith, within))
posts_where_are functions false lines within = tt

weights_where : (f : FnId) (due : Bool) (tick : Tick)
    → weights_in f (posts_where due tick.lines) ≡ weights_posted f.0 (ticks_where due tick)
weights_where f true tick = weights_are f tick
weights_where f false tick = refl

pub length_lines : (plan : Plan) (ticks : List Tick) (samples : List Sample) (now n : ℕ)
    (functions : List FunctionPlan)
    → length (lines_from plan ticks samples now n functions) ≡ length functions
length_lines plan ticks samples now n [] = refl
length_lines plan ticks samples now n (function ∷ functions) =
    ap suc (length_lines plan ticks samples now (n + 1) functions)

kind_ticks : (layout : Layout) (role : ℕ) → role ≡ tick_role layout → kind_of layout role ≡ Ticks
kind_ticks layout role mine =
    let receivers = layout.ports in
    let feeders = layout.ports + layout.transmit in
    let cores = layout.ports + layout.transmit + layout.cores in
    if_unmet (nat_lt role receivers) Receives
    (if nat_lt role feeders then Sends else if nat_lt role cores then Handles else if role == cores then Ticks else Leads)
    (le-ltb role receivers (omega (arith, mine)))
    ∙ if_unmet (nat_lt role feeders) Sends
    (if nat_lt role cores then Handles else if role == cores then Ticks else Leads)
    (le-ltb role feeders (omega (arith, mine)))
    ∙ if_unmet (nat_lt role cores) Handles (if role == cores then Ticks else Leads)
    (le-ltb role cores (omega (arith, mine)))
    ∙ if_met (role == cores) Ticks Leads (eq-eqb role cores mine)

pub turn_is : (functions now n : ℕ) (due : Bool) (lines : List TickLine) (before mid after : TokenView)
    (samples all : List Sample) → HasTakenAll functions now n before mid samples all
    → after ≡ grown (posts_where due lines) mid.hand mid → IsTurn functions now due lines before after samples all
turn_is functions now n due lines before mid after samples all taken posted = record {
  taken = taken.added;
  takes = taken.taking.takes;
  told = taken.taking.told;
  ordered = taken.ordered;
  grew =
      grown_twice taken.added (posts_where due lines) before.hand before.hand before mid after taken.taking.grew
      (posted
      ∙ ap (λ hand. grown (posts_where due lines) hand mid) (ap (λ (t : TokenView). t.hand) taken.taking.grew));
}

module _ (layout : Layout) (plan : Plan) (entries : List Entry) (moment : ℕ → ℕ) (first now : ℕ) (closing : Bool)
    (before mid after : TokenView) (samples all : List Sample) (ticks ticks_now : List Tick) (n : ℕ) (due : Bool)
    (answer : Pass) (layout_of : IsLayoutOf plan layout) (mine : before.role ≡ tick_role layout)
    (taken : HasTakenAll layout.functions now n before mid samples all)
    (due_is : due ≡ (closing || is_due plan first now ticks))
    (posted : after ≡ grown (posts_where due (lines_of plan ticks all now)) mid.hand mid)
    (ticked : ticks_now ≡ ticks ++ ticks_where due (tick_at plan ticks all now))
    (complete : is_complete answer ≡ true)
    (tells : Tells answer (n + length (ticks_where due (tick_at plan ticks all now))) (Unit {0}) ⊥) where
  abbrev posts : Log
  posts = posts_where due (lines_of plan ticks all now)

  abbrev setting : Setting
  setting = setting_of layout plan entries

  abbrev added : Log
  added = posts ++ taken.added

  are : ArePosts layout.functions posts
  are =
      posts_where_are layout.functions due (lines_of plan ticks all now)
      (omega (arith, length_lines plan ticks all now 0 plan.functions, layout_of.functions))

  token_grew : after ≡ grown added before.hand before
  unfolding turn_is
  token_grew =
      (turn_is layout.functions now n due (lines_of plan ticks all now) before mid after samples all taken posted).grew

  log_grew : after.log ≡ added ++ before.log
  log_grew = ap (λ (t : TokenView). t.log) token_grew

  new : ticks_of_pass plan first now closing all ticks answer ≡ ticks_where due (tick_at plan ticks all now)
  new =
      if_met (is_complete answer) (new_ticks plan first now closing all ticks) [] complete
      ∙ ap (λ b. ticks_where b (tick_at plan ticks all now)) (sym due_is)

  told : kept_now samples_by now added ≡ kept_now samples_by now taken.added
  told =
      kept_append samples_by now taken.added posts
      ∙ ap (λ ss. kept_now samples_by now taken.added ++ ss) (posts_told layout.functions now posts are)
      ∙ append-nil (kept_now samples_by now taken.added)

  blocks_then : IsOfBlocks setting before.role before.log → IsOfBlocks setting before.role (added ++ before.log)
  blocks_then blocks =
      ticks_follow setting before.role added before.log (kind_ticks layout before.role mine) blocks
      (ticks_append setting taken.added posts
      (takes_tick setting (λ g. g.0 < layout.functions) (λ g known. known) taken.added taken.taking.takes)
      (posts_tick setting posts are))

  kept_all : samples ≡ kept_at samples_by moment before.log
      → all ≡ kept_at samples_by (moment_then moment (length before.log) now) (added ++ before.log)
  kept_all kept =
      taken.taking.told
      ∙ ap (λ ss. ss ++ kept_now samples_by now taken.added) kept
      ∙ ap (λ ss. kept_at samples_by moment before.log ++ ss) (sym told)
      ∙ sym (kept_then samples_by moment now added before.log)

  drained_all : (f : FnId) → f.0 < layout.functions → IsDrained (Mail f) 64 added
  drained_all f known =
      let drained = taken.drained f known in
      let both = how_many-append (is_pop_of (Mail f)) posts taken.added in
      let none = posts_pop layout.functions f posts are in
      record {
        bounded = omega (arith, both, none, drained.bounded);
        fewer = λ rest.
            posts_dry layout.functions f posts taken.added are ∙ drained.fewer (omega (arith, both, none, rest));
      }

  pub promise : IsTickerSoFar setting before.role moment before.log samples
      → IsTickPromise setting before.role first now closing moment before.log after.log all ticks ticks_now answer
  promise so_far = record {
    added = added;
    grown = log_grew;
    so_far = record {
      blocks = subst (IsOfBlocks setting before.role) (sym log_grew) (blocks_then so_far.blocks);
      kept =
          subst (λ log. all ≡ kept_at samples_by (moment_then moment (length before.log) now) log) (sym log_grew)
          (kept_all so_far.kept);
    };
    ticked = ticked ∙ ap (λ ts. ticks ++ ts) (sym new);
    posts = λ f known.
        weights_append f posts taken.added
        ∙ ap (λ ws. ws ++ weights_in f posts)
        (no_weights (λ g. g.0 < layout.functions) f taken.added taken.taking.takes)
        ∙ weights_where f due (tick_at plan ticks all now)
        ∙ ap (weights_posted f.0) (sym new);
    whole = λ c. record { blocks = blocks_then so_far.blocks; drained = drained_all };
    tells =
        subst (λ work. Tells answer work (Unit {0}) ⊥)
        (sym (omega (arith, ap length told, taken.count, ap length new))) tells;
  }

-- a pass that was cut short before its first step
pub wanting_promise : (layout : Layout) (plan : Plan) (entries : List Entry) (moment : ℕ → ℕ) (role first now : ℕ)
    (closing : Bool) (log : Log) (samples all : List Sample) (ticks ticks_now : List Tick) → all ≡ samples
    → ticks_now ≡ ticks → IsTickerSoFar (setting_of layout plan entries) role moment log samples
    → IsTickPromise (setting_of layout plan entries) role first now closing moment log log all ticks ticks_now Wanting
wanting_promise layout plan entries moment role first now closing log samples all ticks ticks_now same_samples same_ticks
    so_far =
    record {
      added = [];
      grown = refl;
      so_far = record {
        blocks = so_far.blocks;
        kept =
            same_samples ∙ so_far.kept ∙ sym (append-nil (kept_at samples_by moment log))
            ∙ sym (kept_then samples_by moment now [] log);
      };
      ticked = same_ticks ∙ sym (append-nil ticks);
      posts = λ f known. refl;
      whole = λ complete. cc;
      tells = tt;
    }
