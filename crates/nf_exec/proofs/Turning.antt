-- How a turn ends behind a glance that found room.
use Rattle.std.proofs.Common.{◌≡◌, ℕ, ◌+◌, ◌-◌, ◌%◌, ◌<◌, true, List, [], ◌∷◌, ◌++◌, Some, None, refl, sym, ap, ◌∙◌, subst, arith, append-nil}
use Rattle.std.specs.Prelude.{◌==◌, if◌then◌else◌}
use Rattle.std.proofs.lemmas.Bool.{eq-eqb}
use Rattle.onvm_base.specs.declared.ids.BufId.{BufId}
use Rattle.onvm_base.specs.declared.ids.FnId.{FnId}
use Rattle.onvm_base.specs.declared.ids.RingId.TheVariants.{Lane, Output}
use Rattle.onvm_base.specs.declared.plan.Plan.{Plan}
use Rattle.onvm_core.specs.declared.entry.Entry.{Entry}
use Rattle.onvm_core.specs.declared.layout.Word.TheVariants.{Cell}
use Rattle.onvm_core.specs.declared.parcel.Parcel.{Parcel}
use Rattle.onvm_core.specs.declared.step.Act.{Act}
use Rattle.onvm_core.specs.declared.step.Act.TheVariants.{Pop, Look}
use Rattle.onvm_core.specs.declared.step.Item.TheVariants.{Buffer}
use Rattle.onvm_core.specs.Handling.{budget_left, core_hand, is_push_on}
use Rattle.onvm_core.specs.Journals.{journal, last_popped_parcel}
use Rattle.onvm_core.specs.Layouts.{IsLayoutOf, core_role, feeder_count}
use Rattle.onvm_core.specs.Logs.{Hand, Log, push_count}
use Rattle.onvm_core.specs.Places.{how_many}
use Rattle.onvm_core.specs.Potential.{pushed_in}
use Rattle.onvm_core.proofs.Once.{how_many-append}
use Rattle.onvm_board.specs.Known.{has_room}
use Rattle.onvm_board.specs.Tokens.{BoardView, TokenView, grown, parcel_in}
use Rattle.onvm_board.proofs.Stretches.{grown_twice}
use Rattle.desc_ring.proofs.Roominess.{room_grown}
use Rattle.onvm_promises.specs.Answers.{is_handled}
use Rattle.onvm_promises.specs.Kept.{is_yield}
use Rattle.onvm_promises.specs.Passes.{EndsWithEmpties, is_weight_look, saw_full}
use Rattle.onvm_promises.specs.Roles.{setting_of}
use Rattle.onvm_promises.proofs.Moving.{dry_more}
use Rattle.nf_exec.specs.declared.turn.Turn.TheVariants.{Dry, Wanting}
use Rattle.nf_exec.specs.Serving.{HasGlanced, HasSearched, IsServing}
use Rattle.nf_exec.specs.Stations.{IsToHandle, Stands}
use Rattle.nf_exec.specs.Steps.{AreServiceSteps, DoesFrom, MayDo}
use Rattle.nf_exec.specs.Steps.IsServiceStep.{AGlance, APop}
use Rattle.nf_exec.proofs.Doing.{does_append}
use Rattle.nf_exec.proofs.Empties.{empties_budget, empties_do, empties_end, empties_hand, empties_journal, empties_no_yield, empties_pushed, empties_room, empties_steps, empties_unbarred, empties_unhandled, empties_unlooked, empties_unpushed}
use Rattle.nf_exec.proofs.Glancing.{glance_does, glance_left, glance_room, glance_stands, no_hand, own_in, steps_append}

-- Nothing was found

pub dry_journal : (site : BoardView) (f : FnId) (first lanes : ℕ) (before mid after : TokenView)
    → HasGlanced site f true before mid → HasSearched site f first lanes None mid after
    → journal f after.log ≡ journal f before.log
dry_journal site f first lanes before mid after seen is =
    ap (λ (t : TokenView). journal f t.log) is.grew ∙ empties_journal site.layout f mid.log is.empties is.are
    ∙ ap (λ (t : TokenView). journal f t.log) seen.grew ∙ append-nil (journal f before.log)

pub turn_dry : (site : BoardView) (plan : Plan) (f : FnId) (at first lanes : ℕ) (before mid after : TokenView)
    → IsLayoutOf plan site.layout
    → (f.0 < site.layout.functions) × (core_role site.layout f.0 ≡ before.role)
    → at ≡ push_count (Output f) before.log % site.layout.output
    → mid ≡ grown (Look (Cell (Output f) at) 0 None ∷ []) before.hand before
    → lanes ≡ feeder_count site.layout
    → HasSearched site f first lanes None mid after → Stands site.layout None before
    → IsServing site plan f 0 Dry before after
turn_dry site plan f at first lanes before mid after layout_of own at_is grew lanes_are is stands =
    let look : Act = Look (Cell (Output f) at) 0 None in
    let es : Log = is.empties in
    let mid_log : mid.log ≡ look ∷ before.log = ap (λ (t : TokenView). t.log) grew in
    let mid_role : mid.role ≡ before.role = ap (λ (t : TokenView). t.role) grew in
    let log_is : after.log ≡ es ++ mid.log = ap (λ (t : TokenView). t.log) is.grew in
    record {
      added = es ++ look ∷ [];
      grew = grown_twice (look ∷ []) es before.hand after.hand before mid after grew is.grew;
      does = λ entries.
          does_append (setting_of site.layout plan entries) before.role before.log (look ∷ []) es
          (glance_does site plan f at 0 before mid layout_of own at_is grew entries)
          (subst (λ (log : Log). DoesFrom (setting_of site.layout plan entries) before.role log es) mid_log
          (empties_do site.layout f mid.log (setting_of site.layout plan entries) before.role refl
          (own_in site plan f at 0 before mid layout_of own at_is grew entries) es is.are));
      steps = steps_append f es (look ∷ []) (empties_steps site.layout f mid.log es is.are) (AGlance at 0, tt);
      unlooked = omega (
        arith,
        how_many-append (is_weight_look f) es (look ∷ []),
        empties_unlooked site.layout f mid.log es is.are,
      );
      pushes = omega (
        arith,
        how_many-append (is_push_on (Output f)) es (look ∷ []),
        empties_unpushed site.layout f mid.log es is.are,
      );
      handles = omega (
        arith,
        how_many-append is_handled es (look ∷ []),
        empties_unhandled site.layout f mid.log es is.are,
      );
      barred = omega (
        arith,
        how_many-append (saw_full f) es (look ∷ []),
        empties_unbarred site.layout f mid.log es is.are,
        room_seen f at,
      );
      yields = omega (
        arith,
        how_many-append is_yield es (look ∷ []),
        empties_no_yield site.layout f mid.log es is.are,
      );
      left = omega (
        arith,
        ap (budget_left plan f) log_is,
        empties_budget site.layout f mid.log plan es is.are,
        glance_left site plan f at 0 before mid layout_of own at_is grew,
      );
      ends = (
        subst (λ n. EndsWithEmpties f n (es ++ look ∷ [])) ((is.all refl).0 ∙ lanes_are)
            (empties_end site.layout f mid.log es (look ∷ []) is.are),
        λ p known. dry_more (Lane f p) es (look ∷ []) ((is.all refl).1 p known),
      );
      stands = record {
        hand = is.none refl;
        logged = ap core_hand log_is ∙ empties_hand site.layout f mid.log es is.are
            ∙ (glance_stands site plan f at 0 before mid layout_of own at_is grew stands).logged;
        ready = λ hand e. no_hand hand e;
      };
    }
  where
    room_seen : (f : FnId) (at : ℕ) → how_many (saw_full f) (Look (Cell (Output f) at) 0 None ∷ []) ≡ 0
    room_seen f at = rw (eq-eqb f.0 f.0 refl) refl

-- a frame was found
module _ (site : BoardView) (plan : Plan) (f : FnId) (at first lanes : ℕ) (buf : BufId) (before mid after : TokenView)
    (layout_of : IsLayoutOf plan site.layout)
    (own : (f.0 < site.layout.functions) × (core_role site.layout f.0 ≡ before.role))
    (at_is : at ≡ push_count (Output f) before.log % site.layout.output)
    (grew : mid ≡ grown (Look (Cell (Output f) at) 0 None ∷ []) before.hand before)
    (roomy : has_room site.layout (Output f) mid.log ≡ true)
    (is : HasSearched site f first lanes (Some buf) mid after)
    (stands : Stands site.layout None before) (left : 0 < budget_left plan f before.log) where
  abbrev pub look : Act
  look = Look (Cell (Output f) at) 0 None

  abbrev pub es : Log
  es = is.empties

  abbrev pub parcel : Parcel
  parcel = parcel_in after

  abbrev pub pop : Act
  pop = Pop (Lane f is.feeder) (Buffer buf parcel)

  found_mid : mid.log ≡ look ∷ before.log
  found_mid = ap (λ (t : TokenView). t.log) grew

  found_log : after.log ≡ pop ∷ (es ++ mid.log)
  found_log = ap (λ (t : TokenView). t.log) is.grew

  all_is : after.log ≡ (pop ∷ (es ++ look ∷ [])) ++ before.log
  all_is =
      ap (λ (t : TokenView). t.log)
      (grown_twice (look ∷ []) (pop ∷ es) before.hand after.hand before mid after grew is.grew)

  mid_stands : Stands site.layout None mid
  mid_stands = glance_stands site plan f at 0 before mid layout_of own at_is grew stands

  there_hand : core_hand (es ++ mid.log) ≡ None
  there_hand = empties_hand site.layout f mid.log es is.are ∙ mid_stands.logged

  there_left : budget_left plan f (es ++ mid.log) ≡ budget_left plan f before.log
  there_left =
      empties_budget site.layout f mid.log plan es is.are
      ∙ glance_left site plan f at 0 before mid layout_of own at_is grew

  pop_does : (entries : List Entry)
      → MayDo (setting_of site.layout plan entries) before.role (es ++ mid.log) pop
  pop_does entries = record {
    handles = record {
      own = own_in site plan f at 0 before mid layout_of own at_is grew entries;
      known = is.known;
      free = there_hand;
      room = empties_room site.layout f mid.log (setting_of site.layout plan entries) es is.are
          (glance_room site plan f at 0 before mid layout_of own at_is grew entries refl);
      left = subst (λ n. 0 < n) (sym there_left) left;
    };
    tries = is.due;
    looks = tt;
    samples = tt;
  }

  pub found_does : (entries : List Entry)
      → DoesFrom (setting_of site.layout plan entries) before.role before.log (pop ∷ (es ++ look ∷ []))
  found_does entries =
      does_append (setting_of site.layout plan entries) before.role before.log (look ∷ []) (pop ∷ es)
      (glance_does site plan f at 0 before mid layout_of own at_is grew entries)
      (subst (λ (log : Log). DoesFrom (setting_of site.layout plan entries) before.role log (pop ∷ es)) found_mid (
        pop_does entries,
        empties_do site.layout f mid.log (setting_of site.layout plan entries) before.role refl
            (own_in site plan f at 0 before mid layout_of own at_is grew entries) es is.are,
      ))

  pub found_steps : AreServiceSteps f (pop ∷ (es ++ look ∷ []))
  found_steps = (
    APop is.feeder buf parcel,
    steps_append f es (look ∷ []) (empties_steps site.layout f mid.log es is.are) (AGlance at 0, tt),
  )

  pub found_left : budget_left plan f after.log + 1 ≡ budget_left plan f before.log
  found_left =
      let one : budget_left plan f after.log ≡ budget_left plan f (es ++ mid.log) - 1 =
      ap (budget_left plan f) found_log ∙ spent f is.feeder buf parcel (budget_left plan f (es ++ mid.log)) in
      omega (arith, one, there_left, left)
    where
      spent : (f : FnId) (p : ℕ) (buf : BufId) (parcel : Parcel) (n : ℕ) → (if f.0 == f.0 then n - 1 else n) ≡ n - 1
      spent f p buf parcel n = rw (eq-eqb f.0 f.0 refl) refl

  -- what is in hand now
  abbrev pub found_hand : Hand
  found_hand = record { function = f; buf = buf.0; parcel = parcel_in after }

  pub found_stands : Stands site.layout (Some (record { function = f; buf = buf.0; parcel = parcel_in after })) after
  found_stands = record {
    hand = (is.carries buf refl).0;
    logged = ap core_hand found_log;
    ready = λ hand e.
        subst (λ (h : Hand). IsToHandle site.layout h after.log) (same_hand found_hand hand e)
        (record {
          known = (is.carries buf refl).1;
          fits = (is.carries buf refl).2;
          room =
              ap (has_room site.layout (Output f)) found_log
              ∙ room_grown site.layout (Output f) (pop ∷ es) mid.log
              (append-nil (pushed_in (Output f) es) ∙ empties_pushed site.layout f mid.log (Output f) es is.are) roomy;
          popped = ap (last_popped_parcel buf.0) found_log ∙ popped_last buf is.feeder parcel (es ++ mid.log);
        });
  }
    where
      same_hand : (x y : Hand) → Some x ≡ Some y → x ≡ y
      same_hand x y e = cc

      popped_last : (buf : BufId) (p : ℕ) (parcel : Parcel) (log : Log)
          → last_popped_parcel buf.0 (Pop (Lane f p) (Buffer buf parcel) ∷ log) ≡ Some parcel
      popped_last buf p parcel log = rw (eq-eqb buf.0 buf.0 refl) refl

  pub found_journal : journal f after.log ≡ journal f before.log
  found_journal =
      ap (journal f) found_log ∙ append-nil (journal f (es ++ mid.log)) ∙ empties_journal site.layout f mid.log es is.are
      ∙ ap (journal f) found_mid ∙ append-nil (journal f before.log)

  pub found_unlooked : how_many (is_weight_look f) (pop ∷ (es ++ look ∷ [])) ≡ 0
  found_unlooked = omega (
    arith,
    how_many-append (is_weight_look f) es (look ∷ []),
    empties_unlooked site.layout f mid.log es is.are,
  )

  pub found_unpushed : how_many (is_push_on (Output f)) (pop ∷ (es ++ look ∷ [])) ≡ 0
  found_unpushed = omega (
    arith,
    how_many-append (is_push_on (Output f)) es (look ∷ []),
    empties_unpushed site.layout f mid.log es is.are,
  )

  pub found_unhandled : how_many is_handled (pop ∷ (es ++ look ∷ [])) ≡ 0
  found_unhandled = omega (
    arith,
    how_many-append is_handled es (look ∷ []),
    empties_unhandled site.layout f mid.log es is.are,
  )

  pub found_unbarred : how_many (saw_full f) (pop ∷ (es ++ look ∷ [])) ≡ 0
  found_unbarred = omega (
    arith,
    how_many-append (saw_full f) es (look ∷ []),
    empties_unbarred site.layout f mid.log es is.are,
    room_seen f at,
  )
    where
      room_seen : (f : FnId) (at : ℕ) → how_many (saw_full f) (Look (Cell (Output f) at) 0 None ∷ []) ≡ 0
      room_seen f at = rw (eq-eqb f.0 f.0 refl) refl

  pub found_no_yield : how_many is_yield (pop ∷ (es ++ look ∷ [])) ≡ 0
  found_no_yield = omega (
    arith,
    how_many-append is_yield es (look ∷ []),
    empties_no_yield site.layout f mid.log es is.are,
  )

  found_grew : after ≡ grown (pop ∷ (es ++ look ∷ [])) after.hand before
  found_grew = grown_twice (look ∷ []) (pop ∷ es) before.hand after.hand before mid after grew is.grew

  -- and memory was wanting for it
  pub turn_wanting : IsServing site plan f 0 (Wanting buf) before after
  turn_wanting = record {
    added = pop ∷ (es ++ look ∷ []);
    grew = found_grew;
    does = found_does;
    steps = found_steps;
    unlooked = found_unlooked;
    pushes = found_unpushed;
    handles = found_unhandled;
    barred = found_unbarred;
    yields = found_no_yield;
    left = omega (arith, found_left);
    ends = tt;
    stands = found_stands;
  }
