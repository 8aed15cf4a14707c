-- Services one after the other.
use Rattle.std.proofs.Common.{◌≡◌, ℕ, zero, suc, ◌+◌, ◌<◌, ◌≤◌, true, false, inl, inr, List, [], ◌∷◌, ◌++◌, length, Some, None, refl, sym, ap, ◌∙◌, subst, arith, append_assoc}
use Rattle.std.specs.Prelude.{◌≢◌, ◌⊎◌, ◌==◌, slice_index_or}
use Rattle.std.proofs.lemmas.Bool.Decides.{eqb_tells}
use Rattle.onvm_base.specs.declared.ids.FnId.{FnId}
use Rattle.onvm_base.specs.declared.ids.RingId.TheVariants.{Lane, Output}
use Rattle.onvm_base.specs.declared.plan.Plan.{Plan}
use Rattle.onvm_core.specs.declared.entry.Entry.{Entry}
use Rattle.onvm_core.specs.declared.layout.Word.TheVariants.{Weight}
use Rattle.onvm_core.specs.declared.step.Act.{Act}
use Rattle.onvm_core.specs.declared.step.Act.TheVariants.{Push, Look}
use Rattle.onvm_core.specs.Handling.{budget_left, core_hand, is_push_on}
use Rattle.onvm_core.specs.Layouts.{core_role, feeder_count}
use Rattle.onvm_core.specs.Logs.{Log}
use Rattle.onvm_core.specs.Places.{how_many, one_if}
use Rattle.onvm_core.proofs.Once.{how_many-append}
use Rattle.onvm_board.specs.Tokens.{BoardView, TokenView}
use Rattle.onvm_board.proofs.Stretches.{grown_twice}
use Rattle.onvm_promises.specs.Answers.{is_handled}
use Rattle.onvm_promises.specs.Passes.{EndsService, IsServed, is_mailed, is_service_act, ran_dry, saw_full}
use Rattle.onvm_promises.specs.Roles.{oldest, setting_of}
use Rattle.onvm_promises.proofs.Moving.{dry_more}
use Rattle.nf_exec.specs.declared.turn.Turn.{Turn}
use Rattle.nf_exec.specs.declared.turn.Turn.TheVariants.{Handled, Barred, Dry, Wanting}
use Rattle.nf_exec.specs.Roles.{AreServed, IsPassing, IsUnserved, WasServed}
use Rattle.nf_exec.specs.Serving.{EndsBy, IsService, is_barred, kept_by}
use Rattle.nf_exec.specs.Stations.{AreFunctionsOf}
use Rattle.nf_exec.specs.Steps.{DoesFrom}
use Rattle.nf_exec.proofs.Doing.{does_append}
use Rattle.nf_exec.proofs.Elsewhere.{AreQuiet, AreSilent, quiet_dry, quiet_full, quiet_pushes, quiet_services, services_elsewhere, silent_quiet}
use Rattle.nf_exec.proofs.WholeServices.{service, service_does, service_ends, service_full, service_grew, service_handles, service_steps, unmailed_steps}

-- The oldest act stays

oldest_cons : (act other : Act) (log : Log) → oldest log ≡ Some other → oldest (act ∷ log) ≡ Some other
oldest_cons act other [] e = cc
oldest_cons act other (x ∷ xs) e = e

pub oldest_over : (more log : Log) (other : Act) → oldest log ≡ Some other → oldest (more ++ log) ≡ Some other
oldest_over [] log other e = e
oldest_over (act ∷ more) log other e = oldest_cons act other (more ++ log) (oldest_over more log other e)

-- An item of a list, whatever stands in for it

pub same_at : {A : Type 0} (xs : List A) (i : ℕ) (x y : A) → i < length xs → x ≡ slice_index_or xs i x
    → y ≡ slice_index_or xs i y → x ≡ y
same_at [] i x y less at there = absurd (omega arith)
same_at (z ∷ zs) zero x y less at there = at ∙ sym there
same_at (z ∷ zs) (suc i) x y less at there = same_at zs i x y (omega arith) at there

-- One more function is served

barred_few : (last : Turn) → one_if (is_barred last) ≤ 1
barred_few Handled = omega arith
barred_few Barred = omega arith
barred_few Dry = omega arith
barred_few (Wanting buf) = omega arith

module _ (site : BoardView) (plan : Plan) (functions : List FnId) (upto n k : ℕ) (f : FnId) (last : Turn)
    (start mid after : TokenView) (are : AreFunctionsOf site.layout mid.role functions) (within : upto < length functions)
    (f_is : f ≡ slice_index_or functions upto f) (was : IsPassing site plan functions upto n start mid)
    (free : core_hand mid.log ≡ None) (is : IsService site plan f k last mid after) where
  own : (f.0 < site.layout.functions) × (core_role site.layout f.0 ≡ mid.role)
  own = are.own upto f within f_is

  abbrev new : Log
  new = service site plan f k last mid after own is

  abbrev old : Log
  old = was.added

  old_served : AreServed site plan functions upto n start.log old
  old_served = was.served free

  old_rest : IsUnserved f start.log old
  old_rest = old_served.rest upto f (omega arith) within f_is

  mid_log : mid.log ≡ old ++ start.log
  mid_log = ap (λ (t : TokenView). t.log) was.grew

  all_log : after.log ≡ (new ++ old) ++ start.log
  all_log =
      ap (λ (t : TokenView). t.log)
      (grown_twice old new mid.hand after.hand start mid after was.grew
      (service_grew site plan f k last mid after own is))

  here_log : after.log ≡ (is.serving.added ++ Look (Weight f) is.seen None ∷ []) ++ (old ++ start.log)
  here_log = all_log ∙ append_assoc new old start.log

  last_one : core_hand after.log ≡ None → kept_by f last after ≡ None
  last_one none = sym is.serving.stands.logged ∙ none

  how_ended : kept_by f last after ≡ None → EndsBy (feeder_count site.layout) f last new
      → EndsService (setting_of site.layout plan []) f (old ++ start.log) new
  how_ended kept ends = by_last last kept ends is.spent
    where
      by_last : (last : Turn) → kept_by f last after ≡ None → EndsBy (feeder_count site.layout) f last new
          → (last ≡ Handled → budget_left plan f after.log ≡ 0)
          → EndsService (setting_of site.layout plan []) f (old ++ start.log) new
      by_last Handled kept ends spent = inl (sym (ap (budget_left plan f) here_log) ∙ spent refl)
      by_last Barred kept ends spent = inr (inl ends)
      by_last Dry kept ends spent = inr (inr ends.0)
      by_last (Wanting buf) kept ends spent = cc

  now_served : core_hand after.log ≡ None → (entries : List Entry)
      → IsServed (setting_of site.layout plan entries) f start.log (new ++ old)
  now_served none entries = record {
    earlier = old;
    service = is.serving.added;
    later = [];
    seen = is.seen;
    parts = append_assoc is.serving.added (Look (Weight f) is.seen None ∷ []) old;
    ends = how_ended (last_one none) (service_ends site plan f k last mid after own is);
    once = is.serving.unlooked;
    alone = omega (arith, old_rest.acts);
    barred_once = omega (
      arith,
      how_many-append (saw_full f) new old,
      service_full site plan f k last mid after own is,
      old_rest.full,
      barred_few last,
    );
    behind = λ hand. omega (arith, old_rest.pushes hand, was.unmailed f);
  }

  now_idle : core_hand after.log ≡ None → n + k ≡ 0
      → (0 < how_many (saw_full f) (new ++ old))
      ⊎ ((feeder : ℕ) → feeder < feeder_count site.layout → ran_dry (Lane f feeder) (new ++ old) ≡ true)
  now_idle none zero_is =
      by_last last (last_one none) (service_ends site plan f k last mid after own is) is.some
      (service_full site plan f k last mid after own is)
    where
      by_last : (last : Turn) → kept_by f last after ≡ None → EndsBy (feeder_count site.layout) f last new
          → (last ≡ Handled → 0 < k) → how_many (saw_full f) new ≡ one_if (is_barred last)
          → (0 < how_many (saw_full f) (new ++ old))
          ⊎ ((feeder : ℕ) → feeder < feeder_count site.layout → ran_dry (Lane f feeder) (new ++ old) ≡ true)
      by_last Handled kept ends some full = absurd (omega (arith, zero_is, some refl))
      by_last Barred kept ends some full = inl (omega (arith, how_many-append (saw_full f) new old, full))
      by_last Dry kept ends some full = inr (λ p known. dry_more (Lane f p) new old (ends.1 p known))
      by_last (Wanting buf) kept ends some full = cc

  apart_from : (i : ℕ) (g : FnId) → i < length functions → i ≢ upto → g ≡ slice_index_or functions i g
      → AreSilent g new
  apart_from i g less other g_is =
      services_elsewhere f g new (are.apart upto i f g within less (λ e. other (sym e)) f_is g_is)
      (service_steps site plan f k last mid after own is)

  still_served : (g : FnId) → AreSilent g new → WasServed site plan g n start.log old
      → WasServed site plan g (n + k) start.log (new ++ old)
  still_served g silent had =
      let quiet = silent_quiet g new silent in
      record {
        served = λ entries.
            let has = had.served entries in
            record {
              earlier = has.earlier;
              service = has.service;
              later = new ++ has.later;
              seen = has.seen;
              parts =
                  ap (λ (log : Log). new ++ log) has.parts
                  ∙ sym (append_assoc new (has.later ++ has.service) (Look (Weight g) has.seen None ∷ has.earlier))
                  ∙ ap (λ (log : Log). log ++ Look (Weight g) has.seen None ∷ has.earlier)
                  (sym (append_assoc new has.later has.service));
              ends = has.ends;
              once = has.once;
              alone = omega (
                arith,
                how_many-append (is_service_act g) new has.later,
                quiet_services g new quiet,
                has.alone,
              );
              barred_once = omega (
                arith,
                how_many-append (saw_full g) new old,
                quiet_full g new quiet,
                has.barred_once,
              );
              behind = has.behind;
            };
        idle = λ zero_is. idle_more g quiet (had.idle (omega (arith, zero_is)));
      }
    where
      idle_more : (g : FnId) → AreQuiet g new → (0 < how_many (saw_full g) old)
          ⊎ ((feeder : ℕ) → feeder < feeder_count site.layout → ran_dry (Lane g feeder) old ≡ true)
          → (0 < how_many (saw_full g) (new ++ old))
          ⊎ ((feeder : ℕ) → feeder < feeder_count site.layout → ran_dry (Lane g feeder) (new ++ old) ≡ true)
      idle_more g quiet (inl full) = inl (omega (arith, how_many-append (saw_full g) new old, full))
      idle_more g quiet (inr dry) = inr (λ p known. quiet_dry g p new old quiet ∙ dry p known)

  still_unserved : (g : FnId) → AreSilent g new → IsUnserved g start.log old → IsUnserved g start.log (new ++ old)
  still_unserved g silent had =
      let quiet = silent_quiet g new silent in
      record {
        acts = omega (arith, how_many-append (is_service_act g) new old, quiet_services g new quiet, had.acts);
        full = omega (arith, how_many-append (saw_full g) new old, quiet_full g new quiet, had.full);
        pushes = λ hand.
            omega (arith, how_many-append (is_push_on (Output g)) new old, quiet_pushes g new quiet, had.pushes hand);
      }

  all_served : core_hand after.log ≡ None → AreServed site plan functions (upto + 1) (n + k) start.log (new ++ old)
  all_served none = record {
    done = λ i g below less g_is. done_at i g below less g_is (eqb_tells i upto);
    rest = λ i g above less g_is.
        still_unserved g (apart_from i g less (λ e. absurd (omega (arith, above, e))) g_is)
        (old_served.rest i g (omega (arith, above)) less g_is);
  }
    where
      done_at : (i : ℕ) (g : FnId) → i < upto + 1 → i < length functions → g ≡ slice_index_or functions i g
          → (((i == upto) ≡ true) × (i ≡ upto)) ⊎ (((i == upto) ≡ false) × (i ≢ upto))
          → WasServed site plan g (n + k) start.log (new ++ old)
      done_at i g below less g_is (inl met) =
          subst (λ (h : FnId). WasServed site plan h (n + k) start.log (new ++ old))
          (sym (same_at functions i g f less g_is (f_is ∙ ap (λ j. slice_index_or functions j f) (sym met.1))))
          (record { served = now_served none; idle = now_idle none })
      done_at i g below less g_is (inr unmet) =
          still_served g (apart_from i g less unmet.1 g_is)
          (old_served.done i g (omega (arith, below, unmet.1)) less g_is)

  pub passing_served : IsPassing site plan functions (upto + 1) (n + k) start after
  passing_served = record {
    added = new ++ old;
    grew = grown_twice old new mid.hand after.hand start mid after was.grew
        (service_grew site plan f k last mid after own is);
    does = λ entries.
        does_append (setting_of site.layout plan entries) start.role start.log old new (was.does entries)
        (subst (λ (z : ℕ × Log). DoesFrom (setting_of site.layout plan entries) z.0 z.1 new)
        (λ i. (ap (λ (t : TokenView). t.role) was.grew i, mid_log i))
        (service_does site plan f k last mid after own is entries));
    first = λ hand some.
        let at = was.first hand some in
        (at.0, oldest_over new old (Push (Output hand.function) at.0) at.1);
    handles = omega (
      arith,
      how_many-append is_handled new old,
      service_handles site plan f k last mid after own is,
      was.handles,
    );
    unmailed = λ g. omega (
      arith,
      how_many-append (is_mailed g) new old,
      unmailed_steps f g new (service_steps site plan f k last mid after own is),
      was.unmailed g,
    );
    served = all_served;
  }

-- where a parcel is kept nothing is said of who was served
pub passing_kept : (site : BoardView) (plan : Plan) (functions : List FnId) (upto other n : ℕ)
    (start after : TokenView) → (core_hand after.log ≡ None → ⊥) → IsPassing site plan functions upto n start after
    → IsPassing site plan functions other n start after
passing_kept site plan functions upto other n start after kept is = record {
  added = is.added;
  grew = is.grew;
  does = is.does;
  first = is.first;
  handles = is.handles;
  unmailed = is.unmailed;
  served = λ e. absurd (kept e);
}
