-- The closing turn of a session, and the account of the run behind it.
use Rattle.std.proofs.Common.{◌≡◌, ◌≢◌, ℕ, ◌-◌, ◌<◌, ◌≤◌, Bool, true, false, inl, inr, List, [], ◌∷◌, ◌++◌, length, refl, sym, ◌∙◌, ap, subst, arith, Some, None, zero, suc}
use Rattle.std.specs.Prelude.{◌==◌, nat_lt, slice_get}
use Rattle.std.proofs.lemmas.Bool.{cases_Bool, eq-eqb, ltb-true, ltb-false}
use Rattle.onvm_base.specs.declared.ids.FnId.{FnId}
use Rattle.load_estimate.specs.declared.sample.Sample.{Sample}
use Rattle.load_estimate.specs.declared.tick.Tick.{Tick}
use Rattle.onvm_core.specs.Blocks.RoleKind.{Handles}
use Rattle.onvm_core.proofs.Lists.{if_met, if_unmet}
use Rattle.onvm_core.proofs.RoleKinds.{core_handles, kind_port, kind_sends, kind_tick}
use Rattle.onvm_core.specs.Blocks.{IsOfBlocks, RoleKind, kind_of}
use Rattle.onvm_core.specs.Handling.{IsOwn}
use Rattle.onvm_core.specs.Journals.{Handling}
use Rattle.onvm_core.specs.Layouts.{IsLayout, IsFeeder, core_role, first_role, tick_role}
use Rattle.onvm_core.specs.Logs.{Setting, Log}
use Rattle.onvm_core.specs.Settings.{IsSetting, frame_count}
use Rattle.onvm_promises.specs.Kept.{kept_at, kept_now, moment_then, records_by, samples_by}
use Rattle.onvm_promises.specs.Passes.{IsTickPass}
use Rattle.onvm_promises.specs.Rests.{IsSettledFeeder}
use Rattle.onvm_promises.specs.Roles.{IsTickerSoFar}
use Rattle.onvm_promises.specs.Stretches.{log_until, stretch}
use Rattle.onvm_promises.specs.Ticks.{AreAllTicks, NeverFall}
use Rattle.onvm_promises.specs.Times.{aged_by}
use Rattle.onvm_session.proofs.Accounted.{accounted}
use Rattle.onvm_session.proofs.LastRound.{closing_takes_none, no_samples}
use Rattle.onvm_session.proofs.Passing.{Passed, passed_of, so_far_blocks}
use Rattle.onvm_session.proofs.Phasing.{closing_of, phased_lead}
use Rattle.onvm_session.proofs.Serial.{serial_end}
use Rattle.onvm_session.proofs.KeptByTurns.{pass_roles, pass_whole, timed_pass}
use Rattle.onvm_session.proofs.TickTurns.{all_closed, never_fall, rounds_closed, told_now}
use Rattle.onvm_session.specs.Accounts.{AreShares, IsAccounted, IsWhole, RunView, aged_of}
use Rattle.onvm_session.specs.Endings.{AreViewMoments, Closes, HasEnded, HasLists, IsClosed, IsClosingMoment, closing_moments}
use Rattle.onvm_session.specs.Lists.{all_told}
use Rattle.onvm_session.specs.Moments.{round_of_turn}
use Rattle.onvm_session.specs.SerialTicks.{AreSerialTicks}
use Rattle.onvm_session.specs.Sessions.{AllTold, AreTicksTimed, HasTurns, IsPhasedSoFar, IsRolePass, IsRoleSoFar, IsSession, IsSoFar, Keeps, after_turn, with_keeps, with_log}
use Rattle.onvm_session.specs.Turns.{Turn, joined_count}
use Rattle.onvm_session.specs.Views.{FinalView, IsHistoryOf, IsLead, turn_of, turns_in}

-- What a feeder is at rest, whatever its kind

feeder_settled : {S : Type 0} (acts : ℕ → S → Handling → S → Type 0) (start state : ℕ → S)
    (cost_may_take : ℕ → ℕ → Type 0) (setting : Setting) (feeder : ℕ) (moment : ℕ → ℕ) (log : Log) (keeps : Keeps)
    → IsFeeder setting.layout feeder
    → IsRoleSoFar acts start state cost_may_take setting feeder (kind_of setting.layout feeder) moment log keeps
    → IsSettledFeeder setting feeder (aged_by setting feeder moment log) log
feeder_settled acts start state cost_may_take setting feeder moment log keeps known is =
    elim (cases_Bool (nat_lt feeder setting.layout.ports)) [
      | inl met ↦
          let rests = subst (λ (kind : RoleKind).
          IsRoleSoFar acts start state cost_may_take setting feeder kind moment log keeps)
          (kind_port setting.layout feeder (ltb-true feeder setting.layout.ports met)) is in
          rests.rests.feeder
      | inr unmet ↦
          let from : setting.layout.ports ≤ feeder = ltb-false feeder setting.layout.ports unmet in
          let rests = subst (λ (kind : RoleKind).
          IsRoleSoFar acts start state cost_may_take setting feeder kind moment log keeps)
          (kind_sends setting.layout feeder (feeder - setting.layout.ports) (omega (arith, from)) (omega
          (arith, from, known)))
          is in
          rests.rests.feeder
    ]

told_at : (may_tell : ℕ → Type 0) (ticks : List Tick) → AllTold may_tell ticks → (at : ℕ) (t : Tick)
    → slice_get ticks at ≡ Some t → may_tell t.moment
told_at may_tell [] told at t found = absurd (let off : None ≡ Some t = found in cc)
told_at may_tell (u ∷ us) told zero t found =
    let same : u ≡ t = cc in subst (λ (v : Tick). may_tell v.moment) same told.0
told_at may_tell (u ∷ us) told (suc at) t found = told_at may_tell us told.1 at t found

no_turn : (setting : Setting) (final : FinalView) → 0 < round_of_turn setting.layout (turns_in final) → final.lead ≢ []
no_turn setting final some e =
    let none : round_of_turn setting.layout (turns_in final) ≡ 0 = by_lead final.lead final.counts e in
    omega (arith, some, none)
  where
    by_lead : (lead : Log) (counts : List ℕ) → lead ≡ []
        → round_of_turn setting.layout (turns_in (record { lead = lead; logs = final.logs; counts = counts })) ≡ 0
    by_lead [] counts e = refl
    by_lead (act ∷ lead) counts e = absurd (let off : ◌≡◌ {A = Log} (act ∷ lead) [] = e in cc)

module _ {S : Type 0} (serial : Bool) (may_tell : ℕ → Type 0) (acts : ℕ → S → Handling → S → Type 0)
    (start state : ℕ → S) (cost_may_take : ℕ → ℕ → Type 0) (setting : Setting) (moments : ℕ → ℕ → ℕ)
    (first latest : ℕ) (final : FinalView) (keeps : ℕ → Keeps) (seen now : ℕ) (after : Log) (kept : Keeps)
    (run : RunView)
    (ranges : IsLayout setting.layout) (is_setting : IsSetting setting)
    (session : IsSession serial may_tell acts start state cost_may_take setting moments first latest final keeps)
    (closes : Closes serial may_tell setting moments first latest final keeps seen now after kept run)
    (closed : IsClosed setting run)
  where
    abbrev tick : ℕ
    tick = tick_role setting.layout

    abbrev last_moments : ℕ → ℕ → ℕ
    last_moments = closing_moments setting moments final now

    abbrev last_logs : ℕ → Log
    last_logs = with_log (tick_role setting.layout) after final.logs

    was_ticker : IsTickerSoFar setting tick (moments tick) (final.logs tick) (keeps tick).samples
    was_ticker =
        subst (λ (kind : RoleKind).
        IsRoleSoFar acts start state cost_may_take setting tick kind (moments tick) (final.logs tick) (keeps tick))
        (kind_tick setting.layout) (session.roles tick (omega arith))

    passed : Passed acts start state cost_may_take setting tick (kind_of setting.layout tick) now (moments tick)
        (final.logs tick) after kept
    passed =
        passed_of acts start state state cost_may_take setting tick (kind_of setting.layout tick) first now true
        (moments tick) (final.logs tick) after (keeps tick) kept closes.answer (session.roles tick (omega arith))
        (subst (λ (kind : RoleKind).
        IsRolePass acts start state cost_may_take setting tick kind first now true (moments tick)
        (final.logs tick) after
        (keeps tick) kept closes.answer) (sym (kind_tick setting.layout)) closes.pass)
        closes.complete

    grown_logs : with_log tick (passed.added ++ final.logs tick) final.logs ≡ with_log tick after final.logs
    grown_logs = ap (λ (log : Log). with_log tick log final.logs) (sym passed.grown)

    view : run.final ≡ after_turn tick seen (passed.added ++ final.logs tick) final
    view = closes.view ∙ ap (λ (log : Log). after_turn tick seen log final) passed.grown

    logs_are : run.final.logs ≡ with_log tick (passed.added ++ final.logs tick) final.logs
    logs_are = ap (λ (v : FinalView). v.logs) view

    whole : IsWhole setting (aged_of setting last_moments (with_log tick (passed.added
        ++ final.logs tick) final.logs)) tick
        (kind_of setting.layout tick) (final.logs tick) passed.added
    whole =
        pass_whole acts start state state cost_may_take setting moments final keeps tick now after kept passed

    tick_whole : IsTickPass setting tick (final.logs tick) passed.added
    tick_whole =
        subst (λ (kind : RoleKind).
        IsWhole setting (aged_of setting last_moments (with_log tick (passed.added
        ++ final.logs tick) final.logs)) tick kind
        (final.logs tick) passed.added) (kind_tick setting.layout) whole

    pub roles : (r : ℕ) → r < first_role setting.layout
        → IsRoleSoFar acts start state cost_may_take setting r (kind_of setting.layout r)
        (closing_moments setting moments final now r) (run.final.logs r) (with_keeps (tick_role setting.layout) kept keeps r)
    roles =
        subst (λ (logs : ℕ → Log). (r : ℕ) → r < first_role setting.layout
        → IsRoleSoFar acts start state cost_may_take setting r (kind_of setting.layout r) (last_moments r) (logs r)
        (with_keeps tick kept keeps r)) (sym logs_are)
        (pass_roles acts start state state cost_may_take setting moments final keeps tick now after kept passed
        session.roles (λ f other own apart. refl))

    all_kept_then : (b : Bool) → serial ≡ b → joined_count tick (turns_in final) ≡ length (final.logs tick)
    all_kept_then true e =
        (subst (λ (b : Bool). IsSoFar b may_tell setting moments final) e session.so_far).has.kept tick
    all_kept_then false e =
        (subst (λ (b : Bool). IsSoFar b may_tell setting moments final) e session.so_far).kept tick

    -- The view behind the turn

    serial_both : serial ≡ true → IsLead true setting.layout (turn_of tick seen ++ final.lead)
        × HasTurns setting last_moments (after_turn tick seen (passed.added ++ final.logs tick) final)
    serial_both e =
        let so_far = subst (λ (b : Bool). IsSoFar b may_tell setting moments final) e session.so_far in
        let at = subst (λ (b : Bool). IsClosingMoment b may_tell setting final latest now) e closes.at in
        subst (λ (n : ℕ). IsLead true setting.layout (turn_of tick seen ++ final.lead)
        × HasTurns setting (closing_moments setting moments final n)
        (after_turn tick seen (passed.added ++ final.logs tick) final)) (sym at.2)
        (serial_end setting moments final ranges so_far seen passed.added at.0 at.1
        (subst (λ (n : ℕ).
        IsWhole setting (aged_of setting (closing_moments setting moments final n)
        (with_log tick (passed.added ++ final.logs tick) final.logs)) tick (kind_of setting.layout tick)
        (final.logs tick) passed.added) at.2 whole))

    lead_by : (b : Bool) → serial ≡ b → IsLead b setting.layout (turn_of tick seen ++ final.lead)
    lead_by true e = (serial_both e).0
    lead_by false e =
        phased_lead may_tell setting moments final seen
        (subst (λ (b : Bool). IsSoFar b may_tell setting moments final) e session.so_far)

    pub lead : IsLead serial setting.layout run.final.lead
    lead = subst (λ (v : FinalView). IsLead serial setting.layout v.lead) (sym view) (lead_by serial refl)

    turned : serial ≡ true → HasTurns setting last_moments run.final
    turned e = subst (HasTurns setting last_moments) (sym view) (serial_both e).1

    answered : serial ≡ false → (role number : ℕ) → number < length (run.final.logs role)
        → may_tell (last_moments role number)
    answered e =
        subst (λ (logs : ℕ → Log). (role number : ℕ) → number < length (logs role) → may_tell
        (last_moments role number))
        (sym logs_are)
        (λ role number less. elim (cases_Bool (role == tick)) [
          | inl met ↦
              let at_tick : number < length (passed.added ++ final.logs tick) =
              subst (λ (log : Log). number < length log)
              (if_met (role == tick) (passed.added ++ final.logs tick) (final.logs role) met) less in
              subst (λ (m : ℕ → ℕ). may_tell (m number))
              (sym (if_met (role == tick) (moment_then (moments tick) (length (final.logs tick)) now)
              (moments role) met))
              (timed_pass may_tell (moments tick) now passed.added (final.logs tick)
              (so_far.timed tick) at.0 number at_tick)
          | inr unmet ↦
              let before : number < length (final.logs role) =
              subst (λ (log : Log). number < length log)
              (if_unmet (role == tick) (passed.added ++ final.logs tick) (final.logs role) unmet) less in
              subst (λ (m : ℕ → ℕ). may_tell (m number))
              (sym (if_unmet (role == tick) (moment_then (moments tick) (length (final.logs tick)) now) (moments role)
              unmet))
              (so_far.timed role number before)
        ])
      where
        so_far : IsPhasedSoFar may_tell setting moments final
        so_far = subst (λ (b : Bool). IsSoFar b may_tell setting moments final) e session.so_far

        at : may_tell now × (latest ≤ now)
        at = subst (λ (b : Bool). IsClosingMoment b may_tell setting final latest now) e closes.at

    view_moments : (b : Bool) → serial ≡ b → AreViewMoments b may_tell setting run.final last_moments
    view_moments true e = (turned e).timed
    view_moments false e = answered e

    core_so_far : (f : FnId) → f.0 < setting.layout.functions
        → IsRoleSoFar acts start state cost_may_take setting (core_role setting.layout f.0) Handles
        (last_moments (core_role setting.layout f.0)) (run.final.logs (core_role setting.layout f.0))
        (with_keeps tick kept keeps (core_role setting.layout f.0))
    core_so_far f known =
        subst (λ (kind : RoleKind).
        IsRoleSoFar acts start state cost_may_take setting (core_role setting.layout f.0) kind
        (last_moments (core_role setting.layout f.0)) (run.final.logs (core_role setting.layout f.0))
        (with_keeps tick kept keeps (core_role setting.layout f.0))) (core_handles setting.layout f.0 ranges known)
        (roles (core_role setting.layout f.0)
        (omega (arith, ranges.core_of f.0 0 (omega (arith, ranges.places, ranges.functions.1, known)))))

    has_ended : all_told (λ told. true) records_by last_moments run.final.logs (first_role setting.layout)
        ≡ frame_count setting
        → HasEnded serial may_tell acts start setting last_moments run
    has_ended recorded = record {
      lead = lead;
      blocks = λ role known.
          so_far_blocks acts start state cost_may_take setting role (kind_of setting.layout role) (last_moments role)
          (run.final.logs role) (with_keeps tick kept keeps role) (roles role known);
      feeders = λ feeder known.
          feeder_settled acts start state cost_may_take setting feeder (last_moments feeder) (run.final.logs feeder)
          (with_keeps tick kept keeps feeder) known (roles feeder (omega (arith, known)));
      whole = λ e. (turned e).whole;
      timed = view_moments serial refl;
      recorded = recorded;
      closing =
          subst (λ (v : FinalView). (t : Turn) (ts : List Turn) → turns_in v ≡ t ∷ ts
          → IsTickPass setting t.role (log_until (joined_count t.role ts) (v.logs t.role))
          (stretch (joined_count t.role ts) t.count (v.logs t.role))) (sym view)
          (closing_of setting final tick seen passed.added (all_kept_then serial refl) tick_whole);
      journals = λ f known.
          (state f.0, (core_so_far f known).0.journals f (record { known = known; core = refl }));
    }

    -- Samples and ticks

    rises_by : (b : Bool) → serial ≡ b → latest ≤ now
    rises_by true e =
        let of = subst (λ (b : Bool). AreTicksTimed b may_tell setting
        (round_of_turn setting.layout (turns_in final)) first latest (keeps tick)) e session.timed_ticks in
        let at = subst (λ (b : Bool). IsClosingMoment b may_tell setting final latest now) e closes.at in
        omega (arith, of.latest_is, at.2)
    rises_by false e = (subst (λ (b : Bool). IsClosingMoment b may_tell setting final latest now) e closes.at).1

    rises : latest ≤ now
    rises = rises_by serial refl

    tick_log : run.final.logs tick ≡ after
    tick_log =
        ap (λ (v : FinalView). v.logs tick) closes.view
        ∙ if_met (tick == tick) after (final.logs tick) (eq-eqb tick tick refl)

    -- in a serial session it took no sample
    none_taken : serial ≡ true → kept_now samples_by now closes.pass.added ≡ []
    none_taken e =
        let so_far = subst (λ (b : Bool). IsSoFar b may_tell setting moments final) e session.so_far in
        let at = subst (λ (b : Bool). IsClosingMoment b may_tell setting final latest now) e closes.at in
        let history : IsHistoryOf setting.layout
        (after_turn tick seen (closes.pass.added ++ final.logs tick) final) closed.past =
        subst (λ (v : FinalView). IsHistoryOf setting.layout v closed.past)
        (closes.view ∙ ap (λ (log : Log). after_turn tick seen log final) closes.pass.grown) closed.history in
        no_samples setting now tick closes.pass.added (final.logs tick) (kind_tick setting.layout)
        (subst (IsOfBlocks setting tick) closes.pass.grown closes.pass.so_far.blocks)
        (λ f known.
        closing_takes_none setting moments final closed.past seen closes.pass.added f ranges known so_far.turns at.0
        (no_turn setting final at.1) so_far.has history)

    run_ticks : AreAllTicks setting.plan setting.layout.functions first run.samples run.ticks (run.final.logs tick)
    run_ticks =
        subst (λ (log : Log).
        AreAllTicks setting.plan setting.layout.functions first run.samples run.ticks log) (sym tick_log)
        (subst (λ (ts : List Tick).
        AreAllTicks setting.plan setting.layout.functions first run.samples ts after) (sym closes.ticks)
        (subst (λ (ss : List Sample).
        AreAllTicks setting.plan setting.layout.functions first ss kept.ticks after) (sym closes.samples)
        (all_closed setting tick first latest now true (moments tick) (final.logs tick) after (keeps tick) kept
        closes.answer was_ticker closes.pass closes.complete session.ticks rises refl)))

    serial_ticks : serial ≡ true
        → (first ≡ 0) × ((rounds : ℕ) × AreSerialTicks setting.plan rounds run.samples run.ticks)
    serial_ticks e =
        let of = subst (λ (b : Bool). AreTicksTimed b may_tell setting
        (round_of_turn setting.layout (turns_in final)) first latest (keeps tick)) e session.timed_ticks in
        let at = subst (λ (b : Bool). IsClosingMoment b may_tell setting final latest now) e closes.at in
        let rounds : ℕ = round_of_turn setting.layout (turns_in final) in (
          of.first_is,
          (
            rounds,
            subst (λ (ts : List Tick). AreSerialTicks setting.plan rounds run.samples ts) (sym closes.ticks)
                (subst (λ (ss : List Sample). AreSerialTicks setting.plan rounds ss kept.ticks) (sym closes.samples)
                (rounds_closed setting tick first latest now true (moments tick) (final.logs tick) after
                (keeps tick) kept
                closes.answer was_ticker closes.pass closes.complete session.ticks rises rounds refl at.2 (none_taken e)
                of)),
          ),
        )

    told_ticks : serial ≡ false → (at : ℕ) (t : Tick) → slice_get run.ticks at ≡ Some t → may_tell t.moment
    told_ticks e at t found =
        let told = subst (λ (b : Bool). AreTicksTimed b may_tell setting
        (round_of_turn setting.layout (turns_in final)) first latest (keeps tick)) e session.timed_ticks in
        let answer = subst (λ (b : Bool). IsClosingMoment b may_tell setting final latest now) e closes.at in
        told_at may_tell kept.ticks
        (told_now setting tick first latest now true (moments tick) (final.logs tick) after (keeps tick) kept
        closes.answer was_ticker closes.pass closes.complete session.ticks rises may_tell told answer.0) at t
        (subst (λ (ts : List Tick). slice_get ts at ≡ Some t) closes.ticks found)

    shares : AreShares serial may_tell cost_may_take setting last_moments run
    shares = record {
      mailed = λ f known.
          let is = core_so_far f known in
          let own : IsOwn setting (core_role setting.layout f.0) f = record { known = known; core = refl } in
          record {
            counted = is.0.rests.samples;
            timed = is.0.timed;
            even = is.1.at_looks f own;
            even_now = is.1.now f own;
            none_left = is.0.rests.sampled f own;
          };
      samples =
          closes.samples
          ∙ closes.pass.so_far.kept
          ∙ (λ i. kept_at samples_by
          (sym (if_met (tick == tick) (moment_then (moments tick) (length (final.logs tick)) now) (moments tick)
          (eq-eqb tick tick refl)) i)
          (sym tick_log i));
      never_fall =
          subst (NeverFall 0) (sym closes.samples)
          (never_fall setting tick first latest now true (moments tick) (final.logs tick) after (keeps tick) kept
          closes.answer was_ticker closes.pass closes.complete session.ticks rises);
      first = first;
      ticks = run_ticks;
      serial_ticks = serial_ticks;
      told_ticks = told_ticks;
    }

    -- the headline
    pub done : HasLists setting (closing_moments setting moments final now) run
        → all_told (λ told. true) records_by (closing_moments setting moments final now) run.final.logs
        (first_role setting.layout) ≡ frame_count setting
        → IsAccounted serial may_tell cost_may_take acts start setting run
    done lists recorded =
        accounted serial may_tell cost_may_take acts start setting last_moments run ranges is_setting closed
        (has_ended recorded) lists shares
