-- A glance at an output ring: whether it has room.
use Rattle.std.proofs.Common.{◌≡◌, ℕ, ◌%◌, ◌<◌, Bool, true, false, List, [], ◌∷◌, ◌++◌, Some, None, Result, Ok, Err, refl, sym, ap, ◌∙◌, subst, arith}
use Rattle.std.specs.Prelude.{IfOk, IfErr, is_ok, ◌≢◌, ◌==◌}
use Rattle.std.proofs.lemmas.Bool.{eq-eqb, ne_eqb, true≢false}
use Rattle.std.proofs.lemmas.Nat.{mod_below}
use Rattle.onvm_base.specs.declared.ids.FnId.{FnId}
use Rattle.onvm_base.specs.declared.ids.RingId.{RingId}
use Rattle.onvm_base.specs.declared.ids.RingId.TheVariants.{Output}
use Rattle.onvm_base.specs.declared.refusal.Full.{Full as FullRing}
use Rattle.onvm_base.specs.declared.plan.Plan.{Plan}
use Rattle.onvm_core.specs.declared.entry.Entry.{Entry}
use Rattle.onvm_core.specs.declared.layout.Word.TheVariants.{Cell}
use Rattle.onvm_core.specs.declared.step.Act.{Act}
use Rattle.onvm_core.specs.declared.step.Act.TheVariants.{Look}
use Rattle.onvm_core.specs.Handling.{IsOwn, SawRoom, budget_left, core_hand}
use Rattle.onvm_core.specs.Handling.SawRoom.{ByLook}
use Rattle.onvm_core.specs.Layouts.{IsLayoutOf, core_role}
use Rattle.onvm_core.specs.Logs.{Hand, Log, push_count}
use Rattle.onvm_board.specs.Rule.{Hand as Slots}
use Rattle.onvm_board.specs.Tokens.{BoardView, TokenView, grown, token_after}
use Rattle.desc_ring.specs.Ends.{SeesFull, SeesRoom, next_cell as next_cell_of}
use Rattle.onvm_promises.specs.Passes.EndsBarred.{ABar}
use Rattle.onvm_promises.specs.Roles.{setting_of}
use Rattle.nf_exec.specs.declared.station.Station.{Station}
use Rattle.nf_exec.specs.declared.turn.Turn.TheVariants.{Barred}
use Rattle.nf_exec.specs.Serving.{HasGlanced, IsServing}
use Rattle.nf_exec.specs.Stations.{Stands}
use Rattle.nf_exec.specs.Steps.{AreServiceSteps, DoesFrom}
use Rattle.nf_exec.specs.Steps.IsServiceStep.{AGlance}

-- the hand that a token has is the one that it grew by
pub own_hand : (added : Log) (hand : Slots) (before after : TokenView) → after ≡ grown added hand before
    → after ≡ grown added after.hand before
own_hand added hand before after grew =
    grew ∙ ap (λ (h : Slots). grown added h before) (sym (ap (λ (t : TokenView). t.hand) grew))

pub steps_append : (f : FnId) (xs ys : Log) → AreServiceSteps f xs → AreServiceSteps f ys → AreServiceSteps f (xs ++ ys)
steps_append f [] ys first second = second
steps_append f (act ∷ xs) ys first second = (first.0, steps_append f xs ys first.1 second)

pub no_hand : {P : Type 0} (hand : Hand) → None ≡ Some hand → P
no_hand hand e = cc

-- Glances at the output ring

pub glanced : (site : BoardView) (station : Station) (r : Result (Unit {0}) FullRing) (roomy : Bool)
    (before after : TokenView) → roomy ≡ is_ok r
    → IfOk r (λ u. SeesRoom site station.output.spot.ring before after)
    → IfErr r (λ e. SeesFull site station.output.spot.ring before after)
    → station.output.spot.ring ≡ Output station.function → HasGlanced site station.function roomy before after
glanced site station (Ok u) roomy before after roomy_is room full ring = record {
  seen = 0;
  some = λ e. absurd (true≢false (sym roomy_is ∙ e));
  none = λ e. refl;
  grew = room.made.grew
      ∙ ap (λ (r : RingId). token_after (Look (Cell r (next_cell_of site.layout r before.log)) 0 None) before) ring;
}
glanced site station (Err x) roomy before after roomy_is room full ring = record {
  seen = full.seen;
  some = λ e. full.some;
  none = λ e. absurd (true≢false (sym e ∙ roomy_is));
  grew = full.made.grew
      ∙ ap (λ (r : RingId). token_after (Look (Cell r (next_cell_of site.layout r before.log)) full.seen None) before)
      ring;
}

module _ (site : BoardView) (plan : Plan) (f : FnId) (at seen : ℕ) (before after : TokenView)
    (layout_of : IsLayoutOf plan site.layout)
    (own : (f.0 < site.layout.functions) × (core_role site.layout f.0 ≡ before.role))
    (at_is : at ≡ push_count (Output f) before.log % site.layout.output)
    (grew : after ≡ grown (Look (Cell (Output f) at) seen None ∷ []) before.hand before) where
  abbrev pub glance : Act
  glance = Look (Cell (Output f) at) seen None

  pub own_in : (entries : List Entry) → IsOwn (setting_of site.layout plan entries) before.role f
  own_in entries = record { known = own.0; core = own.1 }

  pub glance_does : (entries : List Entry)
      → DoesFrom (setting_of site.layout plan entries) before.role before.log
      (Look (Cell (Output f) at) seen None ∷ [])
  glance_does entries = (
    record {
      handles = (
        (
          own_in entries,
          subst (λ n. n < site.layout.output) (sym at_is)
              (mod_below (push_count (Output f) before.log) site.layout.output
              (omega (arith, layout_of.output, plan.kept.sizes_are.output.0))),
        ),
        refl,
      );
      tries = tt;
      looks = at_is;
      samples = tt;
    },
    tt,
  )

  log_is : after.log ≡ Look (Cell (Output f) at) seen None ∷ before.log
  log_is = ap (λ (t : TokenView). t.log) grew

  hand_is : after.hand ≡ before.hand
  hand_is = ap (λ (t : TokenView). t.hand) grew

  pub glance_stands : Stands site.layout None before → Stands site.layout None after
  glance_stands stands = record {
    hand = hand_is ∙ stands.hand;
    logged = ap core_hand log_is ∙ stands.logged;
    ready = λ hand e. no_hand hand e;
  }

  pub glance_left : budget_left plan f after.log ≡ budget_left plan f before.log
  glance_left = ap (λ (log : Log). budget_left plan f log) log_is

  -- no room
  pub turn_barred : seen ≢ 0 → Stands site.layout None before → IsServing site plan f 0 Barred before after
  turn_barred some stands =
      let one : (f.0 == f.0) ≡ true = eq-eqb f.0 f.0 refl in
      let full : (seen == 0) ≡ false = ne_eqb seen 0 some in
      record {
        added = Look (Cell (Output f) at) seen None ∷ [];
        grew = own_hand (glance ∷ []) before.hand before after grew;
        does = glance_does;
        steps = (AGlance at seen, tt);
        unlooked = refl;
        pushes = refl;
        handles = refl;
        barred = rw (one, full) refl;
        yields = rw full refl;
        left = omega (arith, glance_left);
        ends = ABar f at seen None [] refl some;
        stands = glance_stands stands;
      }

  -- room
  pub glance_room : (entries : List Entry) → seen ≡ 0 → SawRoom (setting_of site.layout plan entries) f after.log
  glance_room entries none =
      subst (λ (log : Log). SawRoom (setting_of site.layout plan entries) f log)
      (sym (log_is ∙ ap (λ (z : ℕ × ℕ). Look (Cell (Output f) z.0) z.1 None ∷ before.log) (λ i. (at_is i, none i))))
      (ByLook before.log)

-- A search behind a glance that found room

pub roomy_grew : (site : BoardView) (f : FnId) (before after : TokenView) → HasGlanced site f true before after
    → after ≡ grown (Look (Cell (Output f) (push_count (Output f) before.log % site.layout.output)) 0 None ∷ [])
    before.hand before
roomy_grew site f before after is =
    is.grew
    ∙ ap (λ (n : ℕ).
    grown (Look (Cell (Output f) (push_count (Output f) before.log % site.layout.output)) n None ∷ []) before.hand before)
    (is.none refl)
