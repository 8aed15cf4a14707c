-- Turns one after the other.
use Rattle.std.proofs.Common.{◌≡◌, ℕ, ◌+◌, ◌<◌, List, [], ◌∷◌, ◌++◌, Some, None, refl, sym, ap, ◌∙◌, subst, arith, append-nil, append_assoc}
use Rattle.std.specs.Prelude.{◌==◌}
use Rattle.std.proofs.lemmas.Bool.{eq-eqb}
use Rattle.onvm_base.specs.declared.ids.BufId.{BufId}
use Rattle.onvm_base.specs.declared.ids.FnId.{FnId}
use Rattle.onvm_base.specs.declared.ids.RingId.TheVariants.{Lane, Output}
use Rattle.onvm_base.specs.declared.plan.Plan.{Plan}
use Rattle.onvm_core.specs.declared.layout.Word.TheVariants.{Weight}
use Rattle.onvm_core.specs.declared.step.Act.TheVariants.{Look}
use Rattle.onvm_core.specs.Handling.{budget, budget_left, core_hand, is_push_on}
use Rattle.onvm_core.specs.Journals.{GoesThrough, Handling, journal}
use Rattle.onvm_core.specs.Layouts.{core_role, feeder_count}
use Rattle.onvm_core.specs.Logs.{Hand, Log}
use Rattle.onvm_core.specs.Places.{how_many, one_if}
use Rattle.onvm_core.proofs.Lists.{if_met}
use Rattle.onvm_core.proofs.Once.{how_many-append}
use Rattle.onvm_board.specs.Tokens.{BoardView, TokenView, grown}
use Rattle.onvm_board.proofs.Stretches.{grown_twice}
use Rattle.nf_api.specs.Acts.{Acts}
use Rattle.nf_api.specs.Tree.{Tree}
use Rattle.onvm_promises.specs.Answers.{is_handled}
use Rattle.onvm_promises.specs.Kept.{is_yield}
use Rattle.onvm_promises.specs.Passes.{EndsBarred, EndsWithEmpties, is_weight_look, saw_full}
use Rattle.onvm_promises.specs.Passes.EndsBarred.{ABar}
use Rattle.onvm_promises.specs.Passes.EndsWithEmpties.{NoEmpty, OneEmpty}
use Rattle.onvm_promises.specs.Roles.{setting_of}
use Rattle.onvm_promises.proofs.Moving.{dry_more}
use Rattle.nf_exec.specs.declared.turn.Turn.{Turn}
use Rattle.nf_exec.specs.declared.turn.Turn.TheVariants.{Handled, Barred, Dry, Wanting}
use Rattle.nf_exec.specs.Handing.{HasGoneOn, IsUnmoved, by_handling}
use Rattle.nf_exec.specs.Serving.{EndsBy, HasPassedOn, IsServing, is_handled_turn}
use Rattle.nf_exec.specs.Stations.{Stands}
use Rattle.nf_exec.specs.Steps.{DoesFrom, MayDo}
use Rattle.nf_exec.specs.Steps.IsServiceStep.{APush}
use Rattle.nf_exec.proofs.Doing.{does_append}
use Rattle.nf_exec.proofs.Glancing.{steps_append}
use Rattle.nf_exec.proofs.HandingOn.{made, pass_act, pass_does, pass_left, pass_pushes, pass_stands}

-- How a longer log ends

barred_over : (f : FnId) (log more : Log) → EndsBarred f log → EndsBarred f (log ++ more)
barred_over f log more (ABar g at seen told before same some) = ABar g at seen told (before ++ more) same some

empties_over : (f : FnId) (n : ℕ) (log more : Log) → EndsWithEmpties f n log → EndsWithEmpties f n (log ++ more)
empties_over f n log more (NoEmpty other) = NoEmpty (log ++ more)
empties_over f n log more (OneEmpty g feeder m before same rest) =
    OneEmpty g feeder m (before ++ more) same (empties_over f m before more rest)

pub ends_over : (lanes : ℕ) (f : FnId) (last : Turn) (log more : Log) → EndsBy lanes f last log
    → EndsBy lanes f last (log ++ more)
ends_over lanes f Handled log more ends = tt
ends_over lanes f Barred log more ends = barred_over f log more ends
ends_over lanes f Dry log more ends = (
  empties_over f lanes log more ends.0,
  λ p known. dry_more (Lane f p) log more (ends.1 p known),
)
ends_over lanes f (Wanting buf) log more ends = tt

-- Two stretches of turns

pub serving_then : (site : BoardView) (plan : Plan) (f : FnId) (n k : ℕ) (last : Turn) (a b c : TokenView)
    → IsServing site plan f n Handled a b → IsServing site plan f k last b c → IsServing site plan f (n + k) last a c
serving_then site plan f n k last a b c first second =
    let log_is : b.log ≡ first.added ++ a.log = ap (λ (t : TokenView). t.log) first.grew in
    let role_is : b.role ≡ a.role = ap (λ (t : TokenView). t.role) first.grew in
    record {
      added = second.added ++ first.added;
      grew = grown_twice first.added second.added b.hand c.hand a b c first.grew second.grew;
      does = λ entries.
          does_append (setting_of site.layout plan entries) a.role a.log first.added second.added (first.does entries)
          (subst (λ (z : ℕ × Log). DoesFrom (setting_of site.layout plan entries) z.0 z.1 second.added)
          (λ i. (role_is i, log_is i)) (second.does entries));
      steps = steps_append f second.added first.added second.steps first.steps;
      unlooked = omega (
        arith,
        how_many-append (is_weight_look f) second.added first.added,
        first.unlooked,
        second.unlooked,
      );
      pushes = omega (
        arith,
        how_many-append (is_push_on (Output f)) second.added first.added,
        first.pushes,
        second.pushes,
      );
      handles = omega (arith, how_many-append is_handled second.added first.added, first.handles, second.handles);
      barred = omega (arith, how_many-append (saw_full f) second.added first.added, first.barred, second.barred);
      yields = omega (arith, how_many-append is_yield second.added first.added, first.yields, second.yields);
      left = omega (arith, first.left, second.left);
      ends = ends_over (feeder_count site.layout) f last second.added first.added second.ends;
      stands = second.stands;
    }

-- none yet
pub serving_none : (site : BoardView) (plan : Plan) (f : FnId) (a : TokenView) → Stands site.layout None a
    → IsServing site plan f 0 Handled a a
serving_none site plan f a stands = record {
  added = [];
  grew = refl;
  does = λ entries. tt;
  steps = tt;
  unlooked = refl;
  pushes = refl;
  handles = refl;
  barred = refl;
  yields = refl;
  left = omega arith;
  ends = tt;
  stands = stands;
}

-- by the number
pub serving_as : (site : BoardView) (plan : Plan) (f : FnId) (n k : ℕ) (last : Turn) (a b : TokenView) → n ≡ k
    → IsServing site plan f n last a b → IsServing site plan f k last a b
serving_as site plan f n k last a b e is = subst (λ m. IsServing site plan f m last a b) e is

-- A frame that was found was handled

pub serving_passed : {N : Type 0} (acts : N → Acts) (state : N → Tree) (site : BoardView) (plan : Plan) (f : FnId)
    (buf : BufId) (was now : N) (a b c : TokenView)
    → (f.0 < site.layout.functions) × (core_role site.layout f.0 ≡ b.role) → IsServing site plan f 0 (Wanting buf) a b
    → HasPassedOn acts state f buf was now b c → IsServing site plan f 1 Handled a c
serving_passed acts state site plan f buf was now a b c own first done =
    let log_is : b.log ≡ first.added ++ a.log = ap (λ (t : TokenView). t.log) first.grew in
    let role_is : b.role ≡ a.role = ap (λ (t : TokenView). t.role) first.grew in
    let act = pass_act acts state site plan f buf was now b c own first.stands done in
    let pushed : how_many (is_push_on (Output f)) (act ∷ []) ≡ 1 =
    pass_pushes acts state site plan f buf was now b c own first.stands done in
    record {
      added = act ∷ first.added;
      grew = grown_twice first.added (act ∷ []) b.hand c.hand a b c first.grew
          (done.grew ∙ ap (λ h. grown (act ∷ []) h b) (sym (ap (λ (t : TokenView). t.hand) done.grew)));
      does = λ entries. (
        subst (λ (z : ℕ × Log). MayDo (setting_of site.layout plan entries) z.0 z.1 act) (λ i. (role_is i, log_is i))
            (pass_does acts state site plan f buf was now b c own first.stands done entries),
        first.does entries,
      );
      steps = (APush buf (made acts state site plan f buf was now b c own first.stands done), first.steps);
      unlooked = omega (arith, first.unlooked);
      pushes = omega (arith, first.pushes, pushed);
      handles = omega (arith, first.handles);
      barred = omega (arith, first.barred);
      yields = omega (arith, first.yields);
      left = omega (arith, first.left, pass_left acts state site plan f buf was now b c own first.stands done);
      ends = tt;
      stands = pass_stands acts state site plan f buf was now b c own first.stands done;
    }

-- Journals

goes_append : {S : Type 0} (acts : S → Handling → S → Type 0) (start mid finish : S) (xs ys : List Handling)
    → GoesThrough acts start xs mid → GoesThrough acts mid ys finish → GoesThrough acts start (xs ++ ys) finish
goes_append acts start mid finish [] ys first second =
    subst (λ s. GoesThrough acts s ys finish) (sym first) second
goes_append acts start mid finish (x ∷ xs) ys first second =
    (first.0, first.1, goes_append acts first.0 mid finish xs ys first.2 second)

goes_wider : {S : Type 0} (acts wider : S → Handling → S → Type 0)
    → ((s : S) (h : Handling) (t : S) → acts s h t → wider s h t) → (start finish : S) (xs : List Handling)
    → GoesThrough acts start xs finish → GoesThrough wider start xs finish
goes_wider acts wider more start finish [] goes = goes
goes_wider acts wider more start finish (x ∷ xs) goes =
    (goes.0, more start x goes.0 goes.1, goes_wider acts wider more goes.0 finish xs goes.2)

module _ {N : Type 0} (acts : N → Acts) (state : N → Tree) where
  pub went_on_then : (f : FnId) (u v w : N) (a b c : Log) → HasGoneOn acts state f u v a b
      → HasGoneOn acts state f v w b c → HasGoneOn acts state f u w a c
  went_on_then f u v w a b c first second = record {
    entries = first.entries ++ second.entries;
    grown =
        second.grown ∙ ap (λ (hs : List Handling). hs ++ second.entries) first.grown
        ∙ append_assoc (journal f a) first.entries second.entries;
    goes =
        goes_append (by_handling (acts u)) (state u) (state v) (state w) first.entries second.entries first.goes
        (goes_wider (by_handling (acts v)) (by_handling (acts u))
        (λ s h t acted. first.narrows s h.before.packet _ h.verdict h.bytes t acted) (state v) (state w) second.entries
        second.goes);
    narrows = λ s bytes meta verdict left t acted.
        first.narrows s bytes meta verdict left t (second.narrows s bytes meta verdict left t acted);
  }

  pub stood : (f : FnId) (u : N) (a b : Log) → journal f b ≡ journal f a → HasGoneOn acts state f u u a b
  stood f u a b same = record {
    entries = [];
    grown = same ∙ sym (append-nil (journal f a));
    goes = refl;
    narrows = λ s bytes meta verdict left t acted. acted;
  }

  -- want of memory
  pub stood_still : (f : FnId) (u v : N) (a b : Log) → IsUnmoved acts state u v → journal f b ≡ journal f a
      → HasGoneOn acts state f u v a b
  stood_still f u v a b is same = record {
    entries = [];
    grown = same ∙ sym (append-nil (journal f a));
    goes = sym is.state_is;
    narrows = is.narrows;
  }

-- A look at the weight word

pub looked_stands : (site : BoardView) (f : FnId) (seen : ℕ) (before after : TokenView)
    → after ≡ grown (Look (Weight f) seen None ∷ []) before.hand before → Stands site.layout None before
    → Stands site.layout None after
looked_stands site f seen before after grew stands = record {
  hand = ap (λ (t : TokenView). t.hand) grew ∙ stands.hand;
  logged = ap (λ (t : TokenView). core_hand t.log) grew ∙ stands.logged;
  ready = λ hand e. no_hand hand e;
}
  where
    no_hand : {P : Type 0} (hand : Hand) → None ≡ Some hand → P
    no_hand hand e = cc

pub budget_begun : (plan : Plan) (f : FnId) (seen : ℕ) (before after : TokenView)
    → after ≡ grown (Look (Weight f) seen None ∷ []) before.hand before
    → budget_left plan f after.log ≡ budget plan f seen
budget_begun plan f seen before after grew =
    ap (λ (t : TokenView). budget_left plan f t.log) grew
    ∙ if_met (f.0 == f.0) (budget plan f seen) (budget_left plan f before.log) (eq-eqb f.0 f.0 refl)

pub weighed_journal : (f : FnId) (seen : ℕ) (before after : TokenView)
    → after ≡ grown (Look (Weight f) seen None ∷ []) before.hand before → journal f after.log ≡ journal f before.log
weighed_journal f seen before after grew =
    ap (λ (t : TokenView). journal f t.log) grew ∙ append-nil (journal f before.log)

pub unhandled : (last : Turn) → (last ≡ Handled → ⊥) → one_if (is_handled_turn last) ≡ 0
unhandled Handled other = absurd (other refl)
unhandled Barred other = refl
unhandled Dry other = refl
unhandled (Wanting buf) other = refl
