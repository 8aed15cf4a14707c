-- From turn to turn a serial session keeps its invariant.
use Rattle.std.proofs.Common.{◌≡◌, ◌≢◌, ℕ, ◌+◌, ◌<◌, ◌≤◌, true, false, inl, inr, ◌++◌, length, refl, sym, ◌∙◌, ap, subst, arith}
use Rattle.std.specs.Prelude.{◌==◌, nat_lt}
use Rattle.std.proofs.lemmas.Bool.{cases_Bool, eqb-true, eqb-false, eq-eqb, ne_eqb, ltb-true, ltb-false}
use Rattle.std.proofs.lemmas.Bool.Decides.{eqb_tells}
use Rattle.onvm_promises.specs.declared.pass.Pass.{Pass}
use Rattle.onvm_core.proofs.Lists.{if_met, if_unmet}
use Rattle.onvm_core.proofs.RoleKinds.{kind_tick}
use Rattle.onvm_core.specs.Blocks.{RoleKind, kind_of}
use Rattle.onvm_core.specs.Journals.{Handling}
use Rattle.onvm_core.specs.Layouts.{IsLayout, first_role, tick_role}
use Rattle.onvm_core.specs.Logs.{Setting, Log}
use Rattle.onvm_promises.proofs.Keeping.{earlier_moment, later_moment}
use Rattle.onvm_promises.specs.Answers.{is_complete}
use Rattle.onvm_promises.specs.Kept.{moment_then}
use Rattle.onvm_promises.specs.Times.{aged_by}
use Rattle.onvm_session.proofs.LastRound.{ends_round}
use Rattle.onvm_session.proofs.Passing.{Passed, passed_of, so_far_as, whole_at}
use Rattle.onvm_session.proofs.Phasing.{phase_next}
use Rattle.onvm_session.proofs.Places.{place_below, role_below, round_ends, round_stays, tick_last}
use Rattle.onvm_session.proofs.Serial.{read_rounds, serial_turn}
use Rattle.onvm_session.proofs.TickTurns.{kept_next, rounds_next}
use Rattle.onvm_session.specs.Accounts.{IsWhole, aged_of}
use Rattle.onvm_session.specs.Moments.{moment_of_round, place_of_turn, round_of_turn}
use Rattle.onvm_session.specs.Sessions.{AllTold, AreTicksKept, AreTicksOfRounds, IsRolePass, IsRoleSoFar, IsSession, Keeps, OthersKeep, after_phase, after_turn, with_keeps, with_log, with_moment}
use Rattle.onvm_session.specs.Views.{FinalView, place_in, role_at, turns_in}

-- A pass, in the terms of the session's moments, logs and lists behind it

module _ {S : Type 0} (acts : ℕ → S → Handling → S → Type 0) (start state now : ℕ → S)
    (cost_may_take : ℕ → ℕ → Type 0) (setting : Setting) (moments : ℕ → ℕ → ℕ) (final : FinalView) (keeps : ℕ → Keeps)
    (role moment : ℕ) (after : Log) (kept : Keeps)
    (passed : Passed acts start now cost_may_take setting role (kind_of setting.layout role) moment (moments role)
    (final.logs role) after kept)
  where
    own_log : with_log role (passed.added ++ final.logs role) final.logs role ≡ passed.added ++ final.logs role
    own_log = if_met (role == role) (passed.added ++ final.logs role) (final.logs role) (eq-eqb role role refl)

    own_moment : with_moment role (moment_then (moments role) (length (final.logs role)) moment) moments role
        ≡ moment_then (moments role) (length (final.logs role)) moment
    own_moment =
        if_met (role == role) (moment_then (moments role) (length (final.logs role)) moment) (moments role)
        (eq-eqb role role refl)

    -- it is whole
    pub pass_whole : IsWhole setting
        (aged_of setting (with_moment role (moment_then (moments role) (length (final.logs role)) moment) moments)
        (with_log role (passed.added ++ final.logs role) final.logs))
        role (kind_of setting.layout role) (final.logs role) passed.added
    pass_whole =
        let moment_now : ℕ → ℕ = moment_then (moments role) (length (final.logs role)) moment in
        let log_now : Log = passed.added ++ final.logs role in
        let answers : aged_by setting role moment_now after
        ≡ aged_of setting (with_moment role moment_now moments) (with_log role log_now final.logs) role
        = ap (λ (log : Log). aged_by setting role moment_now log) (passed.grown ∙ sym own_log)
        ∙ ap (λ (m : ℕ → ℕ). aged_by setting role m (with_log role log_now final.logs role)) (sym own_moment) in
        whole_at setting (λ r. aged_by setting role moment_now after)
        (aged_of setting (with_moment role moment_now moments) (with_log role log_now final.logs)) role
        (kind_of setting.layout role) (final.logs role) passed.added answers passed.whole

    -- the roles behind it
    pub pass_roles : ((r : ℕ) → r < first_role setting.layout
        → IsRoleSoFar acts start state cost_may_take setting r (kind_of setting.layout r) (moments r) (final.logs r)
        (keeps r))
        → OthersKeep setting role state now
        → (r : ℕ) → r < first_role setting.layout
        → IsRoleSoFar acts start now cost_may_take setting r (kind_of setting.layout r)
        (with_moment role (moment_then (moments role) (length (final.logs role)) moment) moments r)
        (with_log role (passed.added ++ final.logs role) final.logs r) (with_keeps role kept keeps r)
    pass_roles roles others r known =
        let moment_now : ℕ → ℕ = moment_then (moments role) (length (final.logs role)) moment in
        let log_now : Log = passed.added ++ final.logs role in
        elim (cases_Bool (r == role)) [
          | inl met ↦
              let same : r ≡ role = eqb-true r role met in
              subst (λ (q : ℕ).
              IsRoleSoFar acts start now cost_may_take setting q (kind_of setting.layout q)
              (with_moment role moment_now moments q) (with_log role log_now final.logs q)
              (with_keeps role kept keeps q))
              (sym same)
              (so_far_as acts start now now cost_may_take setting role (kind_of setting.layout role) moment_now
              (with_moment role moment_now moments role) after (with_log role log_now final.logs role) kept
              (with_keeps role kept keeps role) (sym own_moment) (passed.grown ∙ sym own_log)
              (sym (if_met (role == role) kept (keeps role) (eq-eqb role role refl))) (λ f own. refl) passed.so_far)
          | inr unmet ↦
              so_far_as acts start state now cost_may_take setting r (kind_of setting.layout r) (moments r)
              (with_moment role moment_now moments r) (final.logs r) (with_log role log_now final.logs r) (keeps r)
              (with_keeps role kept keeps r) (sym (if_unmet (r == role) moment_now (moments r) unmet))
              (sym (if_unmet (r == role) log_now (final.logs r) unmet))
              (sym (if_unmet (r == role) kept (keeps r) unmet)) (λ f own. others f r own (eqb-false r role unmet))
              (roles r known)
        ]

-- From turn to turn

module _ {S : Type 0} (may_tell : ℕ → Type 0) (acts : ℕ → S → Handling → S → Type 0) (start state now : ℕ → S)
    (cost_may_take : ℕ → ℕ → Type 0) (setting : Setting) (moments : ℕ → ℕ → ℕ) (first latest : ℕ) (final : FinalView)
    (keeps : ℕ → Keeps) (role seen : ℕ) (after : Log) (kept : Keeps) (answer : Pass)
    (ranges : IsLayout setting.layout)
    (session : IsSession true may_tell acts start state cost_may_take setting moments first latest final keeps)
    (at : role ≡ role_at setting.layout (place_in setting.layout final.lead))
    (pass : IsRolePass acts start now cost_may_take setting role (kind_of setting.layout role) first
    (moment_of_round (round_of_turn setting.layout (turns_in final))) false (moments role) (final.logs role) after
    (keeps role) kept answer)
    (complete : is_complete answer ≡ true)
    (others : OthersKeep setting role state now)
  where
    abbrev round : ℕ
    round = round_of_turn setting.layout (turns_in final)

    abbrev place : ℕ
    place = place_of_turn setting.layout (turns_in final)

    at_place : role ≡ role_at setting.layout place
    at_place = at ∙ ap (role_at setting.layout) (sym (read_rounds setting moments final ranges session.so_far).1)

    known : role < first_role setting.layout
    known = subst (λ (r : ℕ). r < first_role setting.layout) (sym at) (role_below setting.layout
        (place_in setting.layout final.lead))

    pub turn_passed : Passed acts start now cost_may_take setting role (kind_of setting.layout role)
        (moment_of_round (round_of_turn setting.layout (turns_in final))) (moments role) (final.logs role) after kept
    turn_passed =
        passed_of acts start state now cost_may_take setting role (kind_of setting.layout role) first
        (moment_of_round round) false (moments role) (final.logs role) after (keeps role) kept answer
        (session.roles role known) pass complete

    -- what is said of the ticks behind the turn, where the tick role's last pass had this moment
    abbrev TicksBehind : ℕ → Type 0
    TicksBehind later =
        AreTicksKept setting first later
        (with_log role (turn_passed.added ++ final.logs role) final.logs (tick_role setting.layout))
        (with_keeps role kept keeps (tick_role setting.layout))
        × AreTicksOfRounds setting
        (round_of_turn setting.layout (turns_in (after_turn role seen (turn_passed.added ++ final.logs role) final)))
        first later (with_keeps role kept keeps (tick_role setting.layout))

    by_tick : role ≡ tick_role setting.layout → TicksBehind (moment_of_round round)
    by_tick same =
        let tick : ℕ = tick_role setting.layout in
        let own : (role == tick) ≡ true = eq-eqb role tick same in
        let rotated : (tick == role) ≡ true = eq-eqb tick role (sym same) in
        let promise = subst (λ (kind : RoleKind).
        IsRolePass acts start now cost_may_take setting tick kind first (moment_of_round round) false (moments tick)
        (final.logs tick) after (keeps tick) kept answer) (kind_tick setting.layout)
        (subst (λ (r : ℕ).
        IsRolePass acts start now cost_may_take setting r (kind_of setting.layout r) first (moment_of_round round) false
        (moments r) (final.logs r) after (keeps r) kept answer) same pass) in
        let so_far = subst (λ (kind : RoleKind).
        IsRoleSoFar acts start state cost_may_take setting tick kind (moments tick) (final.logs tick) (keeps tick))
        (kind_tick setting.layout) (session.roles tick (omega arith)) in
        let rises : latest ≤ moment_of_round round = omega (arith, session.timed_ticks.latest_is) in
        let log_is : after ≡ with_log role (turn_passed.added ++ final.logs role) final.logs tick =
        turn_passed.grown
        ∙ sym (if_met (tick == role) (turn_passed.added ++ final.logs role) (final.logs tick) rotated) in
        let kept_is : kept ≡ with_keeps role kept keeps tick = sym (if_met (tick == role) kept (keeps tick) rotated) in
        let next : place + 1 ≡ first_role setting.layout =
        tick_last setting.layout place (place_below setting.layout (turns_in final)) (sym at_place ∙ same) in (
          subst (AreTicksKept setting first (moment_of_round round)
              (with_log role (turn_passed.added ++ final.logs role) final.logs tick)) kept_is
              (subst (λ (log : Log). AreTicksKept setting first (moment_of_round round) log kept) log_is
              (kept_next setting tick first latest (moment_of_round round) false (moments tick) (final.logs tick) after
              (keeps tick) kept answer so_far promise complete session.ticks rises refl)),
          subst (λ (n : ℕ).
              AreTicksOfRounds setting n first (moment_of_round round) (with_keeps role kept keeps tick))
              (sym (round_ends setting.layout
              (record { role = role; count = length (turn_passed.added ++ final.logs role) }) (turns_in final) next))
              (subst (AreTicksOfRounds setting (round + 1) first (moment_of_round round)) kept_is
              (rounds_next setting tick first latest (moment_of_round round) false (moments tick)
              (final.logs tick) after
              (keeps tick) kept answer so_far promise complete session.ticks rises round refl refl
              session.timed_ticks)),
        )

    by_other : role ≢ tick_role setting.layout → TicksBehind latest
    by_other apart =
        let tick : ℕ = tick_role setting.layout in
        let foreign : (tick == role) ≡ false = ne_eqb tick role (λ e. apart (sym e)) in
        let log_is : final.logs tick ≡ with_log role (turn_passed.added ++ final.logs role) final.logs tick =
        sym (if_unmet (tick == role) (turn_passed.added ++ final.logs role) (final.logs tick) foreign) in
        let kept_is : keeps tick ≡ with_keeps role kept keeps tick =
        sym (if_unmet (tick == role) kept (keeps tick) foreign) in
        let stays : place + 1 ≢ first_role setting.layout =
        λ e. apart (at_place ∙ ends_round setting.layout place e) in (
          subst (AreTicksKept setting first latest
              (with_log role (turn_passed.added ++ final.logs role) final.logs tick)) kept_is
              (subst (λ (log : Log). AreTicksKept setting first latest log (keeps tick)) log_is session.ticks),
          subst (λ (n : ℕ). AreTicksOfRounds setting n first latest (with_keeps role kept keeps tick))
              (sym (round_stays setting.layout
              (record { role = role; count = length (turn_passed.added ++ final.logs role) }) (turns_in final) stays))
              (subst (AreTicksOfRounds setting round first latest) kept_is session.timed_ticks),
        )

    ticks_behind : (later : ℕ) × TicksBehind later
    ticks_behind = elim (eqb_tells role (tick_role setting.layout)) [
      | inl same ↦ (moment_of_round round, by_tick same.1)
      | inr other ↦ (latest, by_other other.1)
    ]

    -- the invariant behind the turn
    pub session_turn : (later : ℕ)
        × IsSession true may_tell acts start now cost_may_take setting
        (with_moment role (moment_then (moments role) (length (final.logs role))
        (moment_of_round (round_of_turn setting.layout (turns_in final)))) moments)
        first later (after_turn role seen (turn_passed.added ++ final.logs role) final) (with_keeps role kept keeps)
    session_turn = (
      ticks_behind.0,
      record {
        so_far =
            serial_turn setting moments final ranges session.so_far role seen turn_passed.added at
            (pass_whole acts start state now cost_may_take setting moments final keeps role
            (moment_of_round round) after
            kept turn_passed);
        roles =
            pass_roles acts start state now cost_may_take setting moments final keeps role (moment_of_round round) after
            kept turn_passed session.roles others;
        ticks = ticks_behind.1.0;
        timed_ticks = ticks_behind.1.1;
      },
    )

-- In a phase: the moments of a role's log that grew by a pass are answers of the clock, if they were
pub timed_pass : (may_tell : ℕ → Type 0) (moment : ℕ → ℕ) (now : ℕ) (added log : Log)
    → ((number : ℕ) → number < length log → may_tell (moment number)) → may_tell now
    → (number : ℕ) → number < length (added ++ log) → may_tell (moment_then moment (length log) now number)
timed_pass may_tell moment now added log earlier answered number less =
    elim (cases_Bool (nat_lt number (length log))) [
      | inl early ↦
          let below : number < length log = ltb-true number (length log) early in
          subst may_tell (sym (earlier_moment moment (length log) now number below)) (earlier number below)
      | inr late ↦
          subst may_tell (sym (later_moment moment (length log) now number (ltb-false number (length log) late)))
          answered
    ]

-- The same by the log behind the turn

pub turn_keeps : {S : Type 0} (may_tell : ℕ → Type 0) (acts : ℕ → S → Handling → S → Type 0) (start state now : ℕ → S)
    (cost_may_take : ℕ → ℕ → Type 0) (setting : Setting) (moments : ℕ → ℕ → ℕ) (first latest : ℕ) (final : FinalView)
    (keeps : ℕ → Keeps) (role seen : ℕ) (after : Log) (kept : Keeps) (answer : Pass)
    → IsLayout setting.layout
    → IsSession true may_tell acts start state cost_may_take setting moments first latest final keeps
    → role ≡ role_at setting.layout (place_in setting.layout final.lead)
    → IsRolePass acts start now cost_may_take setting role (kind_of setting.layout role) first
    (moment_of_round (round_of_turn setting.layout (turns_in final))) false (moments role) (final.logs role) after
    (keeps role) kept answer
    → is_complete answer ≡ true → OthersKeep setting role state now
    → (later : ℕ)
    × IsSession true may_tell acts start now cost_may_take setting
    (with_moment role (moment_then (moments role) (length (final.logs role))
    (moment_of_round (round_of_turn setting.layout (turns_in final)))) moments)
    first later (after_turn role seen after final) (with_keeps role kept keeps)
turn_keeps may_tell acts start state now cost_may_take setting moments first latest final keeps role seen after
    kept answer
    ranges session at pass complete others =
    let passed = turn_passed may_tell acts start state now cost_may_take setting moments first latest final keeps
    role seen
    after kept answer ranges session at pass complete others in
    let behind = session_turn may_tell acts start state now cost_may_take setting moments first latest final keeps role
    seen after kept answer ranges session at pass complete others in (
      behind.0,
      subst (λ (log : Log).
          IsSession true may_tell acts start now cost_may_take setting
          (with_moment role (moment_then (moments role) (length (final.logs role))
          (moment_of_round (round_of_turn setting.layout (turns_in final)))) moments)
          first behind.0 (after_turn role seen log final) (with_keeps role kept keeps)) (sym passed.grown) behind.1,
    )

-- From phase to phase: what each role's passes promise makes the invariant behind the phase
pub phase_keeps : {S : Type 0} (may_tell : ℕ → Type 0) (acts : ℕ → S → Handling → S → Type 0) (start state now : ℕ → S)
    (cost_may_take : ℕ → ℕ → Type 0) (setting : Setting) (moments moments_now : ℕ → ℕ → ℕ) (first latest later : ℕ)
    (final : FinalView) (keeps keeps_now : ℕ → Keeps) (seen : ℕ) (logs : ℕ → Log)
    → IsSession false may_tell acts start state cost_may_take setting moments first latest final keeps
    → ((role : ℕ) → first_role setting.layout ≤ role → logs role ≡ final.logs role)
    → ((role number : ℕ) → number < length (logs role) → may_tell (moments_now role number))
    → ((role : ℕ) → role < first_role setting.layout
    → IsRoleSoFar acts start now cost_may_take setting role (kind_of setting.layout role) (moments_now role) (logs role)
    (keeps_now role))
    → AreTicksKept setting first later (logs (tick_role setting.layout)) (keeps_now (tick_role setting.layout))
    → AllTold may_tell (keeps_now (tick_role setting.layout)).ticks
    → IsSession false may_tell acts start now cost_may_take setting moments_now first later
    (after_phase (first_role setting.layout) seen logs final) keeps_now
phase_keeps may_tell acts start state now cost_may_take setting moments moments_now first latest later final keeps
    keeps_now seen logs session others timed roles ticks told =
    record {
      so_far = phase_next may_tell setting moments moments_now final seen logs session.so_far others timed;
      roles = roles;
      ticks = ticks;
      timed_ticks = told;
    }
