-- The serial session: from turn to turn, and at its end.
use Rattle.std.proofs.Common.{◌≡◌, ◌≢◌, ℕ, ◌+◌, ◌-◌, ◌<◌, true, false, inl, inr, List, [], ◌∷◌, ◌++◌, length, refl, sym, ◌∙◌, ap, subst, arith, None}
use Rattle.std.specs.Prelude.{slice_index}
use Rattle.std.proofs.lemmas.Bool.{eq-eqb, lt-ltb, le-ltb, both_ways}
use Rattle.onvm_base.specs.declared.ids.FnId.{FnId}
use Rattle.onvm_base.specs.declared.ids.RingId.TheVariants.{Mail}
use Rattle.onvm_core.specs.declared.layout.Layout.{Layout}
use Rattle.onvm_core.specs.declared.layout.Word.TheVariants.{Weight}
use Rattle.onvm_core.specs.declared.step.Act.{Act}
use Rattle.onvm_core.specs.declared.step.Act.TheVariants.{Look}
use Rattle.onvm_core.specs.Blocks.RoleKind.{Handles, Ticks}
use Rattle.onvm_session.specs.Views.AreTurns.{ATurn}
use Rattle.onvm_core.specs.Blocks.{RoleKind, kind_of}
use Rattle.onvm_core.specs.Handling.{IsOwn}
use Rattle.onvm_core.specs.Layouts.{IsLayout, core_role, tick_role}
use Rattle.onvm_core.specs.Logs.{Setting, Log}
use Rattle.onvm_core.specs.Marks.{Ages}
use Rattle.onvm_core.specs.Places.{how_many}
use Rattle.onvm_promises.specs.Kept.{moment_then}
use Rattle.onvm_promises.specs.Passes.{IsCorePass, IsTickPass, IsServed, is_pop_of, ran_dry}
use Rattle.onvm_promises.specs.Stretches.{log_until, stretch}
use Rattle.onvm_session.proofs.Reading.{rounds_read}
use Rattle.onvm_session.proofs.Rounds.{Stands, round_for, round_here, stands_turns, closing_is}
use Rattle.onvm_session.proofs.Stepping.{turn_has}
use Rattle.onvm_session.specs.Accounts.{IsWhole, AreWhole, aged_of}
use Rattle.onvm_session.specs.Moments.{moment_of_round, place_of_turn, round_of_turn, AreInRounds, AreShown}
use Rattle.onvm_session.specs.Sessions.{HasTurns, IsSerialSoFar, with_log, with_moment, after_turn}
use Rattle.onvm_session.specs.Turns.{Turn, joined_count, turn_steps}
use Rattle.onvm_session.specs.Views.{FinalView, turns_in, turn_of, role_at, place_in, AreTurns, IsSerialLead}

-- Each round has a step of a core and one of the tick role

kind_core : (layout : Layout) (core : ℕ) → core < layout.cores
    → kind_of layout (layout.ports + layout.transmit + core) ≡ Handles
kind_core layout core less =
    rw (
      le-ltb (layout.ports + layout.transmit + core) layout.ports (omega arith),
      le-ltb (layout.ports + layout.transmit + core) (layout.ports + layout.transmit) (omega arith),
      lt-ltb (layout.ports + layout.transmit + core) (layout.ports + layout.transmit + layout.cores)
          (omega (arith, less)),
    ) refl

pub kind_tick : (layout : Layout) → kind_of layout (tick_role layout) ≡ Ticks
kind_tick layout =
    rw (
      le-ltb (tick_role layout) layout.ports (omega arith),
      le-ltb (tick_role layout) (layout.ports + layout.transmit) (omega arith),
      le-ltb (tick_role layout) (layout.ports + layout.transmit + layout.cores) (omega arith),
      eq-eqb (tick_role layout) (tick_role layout) refl,
    ) refl

not_nil : (later : Log) (act : Act) (earlier : Log) → later ++ act ∷ earlier ≡ [] → ⊥
not_nil [] act earlier e = let off : ◌≡◌ {A = Log} (act ∷ earlier) [] = e in cc
not_nil (a ∷ later) act earlier e = let off : ◌≡◌ {A = Log} (a ∷ (later ++ act ∷ earlier)) [] = e in cc

-- the core of the first function
abbrev pub busy_core : Layout → ℕ
busy_core layout = slice_index layout.core_of 0

pub busy_known : (layout : Layout) → IsLayout layout → busy_core layout < layout.cores
busy_known layout ranges =
    ranges.core_of 0 0 (omega (arith, ranges.places))

abbrev first_function : FnId
first_function = record { 0 = 0 }

core_shows : (setting : Setting) (before added : Log) → IsLayout setting.layout
    → IsCorePass setting (core_role setting.layout 0) before added
    → added ≢ []
core_shows setting before added ranges is none =
    let own : IsOwn setting (core_role setting.layout 0) first_function =
    record { known = omega (arith, ranges.functions.0); core = refl } in
    let turn : IsServed setting first_function before added = is.served first_function own in
    not_nil (turn.later ++ turn.service) (Look (Weight first_function) turn.seen None) turn.earlier
    (sym turn.parts ∙ none)

tick_shows : (setting : Setting) (role : ℕ) (before added : Log) → IsLayout setting.layout
    → IsTickPass setting role before added
    → added ≢ []
tick_shows setting role before added ranges is none =
    let drained = is.drained first_function (omega (arith, ranges.functions.0)) in
    let count : how_many (is_pop_of (Mail first_function)) added ≡ 0 =
    ap (how_many (is_pop_of (Mail first_function))) none in
    let dry : ran_dry (Mail first_function) added ≡ true = drained.fewer (omega (arith, count)) in
    both_ways false refl (sym (ap (ran_dry (Mail first_function)) none) ∙ dry)

pub shown_of : (setting : Setting) (aged : ℕ → Ages) (logs : ℕ → Log) (ts : List Turn) → IsLayout setting.layout
    → AreWhole setting aged logs ts
    → AreShown setting.layout (busy_core setting.layout) logs ts
shown_of setting aged logs [] ranges whole = tt
shown_of setting aged logs (t ∷ ts) ranges whole = (
  (λ which. elim which [
    | inl core ↦
        core_shows setting (log_until (joined_count t.role ts) (logs t.role))
        (stretch (joined_count t.role ts) t.count (logs t.role)) ranges
        (subst (λ (role : ℕ).
        IsCorePass setting role (log_until (joined_count t.role ts) (logs t.role))
        (stretch (joined_count t.role ts) t.count (logs t.role))) core
        (subst (λ (kind : RoleKind).
        IsWhole setting aged t.role kind (log_until (joined_count t.role ts) (logs t.role))
        (stretch (joined_count t.role ts) t.count (logs t.role)))
        (ap (kind_of setting.layout) core
        ∙ kind_core setting.layout (busy_core setting.layout) (busy_known setting.layout ranges)) whole.0))
    | inr tick ↦
        tick_shows setting t.role (log_until (joined_count t.role ts) (logs t.role))
        (stretch (joined_count t.role ts) t.count (logs t.role)) ranges
        (subst (λ (kind : RoleKind).
        IsWhole setting aged t.role kind (log_until (joined_count t.role ts) (logs t.role))
        (stretch (joined_count t.role ts) t.count (logs t.role)))
        (ap (kind_of setting.layout) tick ∙ kind_tick setting.layout) whole.0)
  ]),
  shown_of setting aged logs ts ranges whole.1,
)

-- From turn to turn

module _ (setting : Setting) (moments : ℕ → ℕ → ℕ) (final : FinalView) (ranges : IsLayout setting.layout)
    (so_far : IsSerialSoFar setting moments final) where
  pub read_rounds : AreInRounds setting.layout (turns_in final)
      × (place_of_turn setting.layout (turns_in final) ≡ place_in setting.layout final.lead)
  read_rounds = rounds_read setting.layout final.lead final.counts so_far.turns so_far.counts

  stands : Stands setting.layout (busy_core setting.layout) (place_of_turn setting.layout (turns_in final))
      (round_of_turn setting.layout (turns_in final)) (turn_steps final.logs (turns_in final))
  stands =
      stands_turns setting.layout (busy_core setting.layout) final.logs (turns_in final)
      (busy_known setting.layout ranges) read_rounds.0
      (shown_of setting (aged_of setting moments final.logs) final.logs (turns_in final) ranges so_far.has.whole)

  -- the round of the next turn
  abbrev pub round_now : ℕ
  round_now = round_of_turn setting.layout (turns_in final)

  pub serial_turn : (role seen : ℕ) (added : Log) → role ≡ role_at setting.layout (place_in setting.layout final.lead)
      → IsWhole setting
      (aged_of setting (with_moment role (moment_then (moments role) (length (final.logs role))
      (moment_of_round (round_of_turn setting.layout (turns_in final)))) moments)
      (with_log role (added ++ final.logs role) final.logs))
      role (kind_of setting.layout role) (final.logs role) added
      → IsSerialSoFar setting
      (with_moment role (moment_then (moments role) (length (final.logs role))
      (moment_of_round (round_of_turn setting.layout (turns_in final)))) moments)
      (after_turn role seen (added ++ final.logs role) final)
  serial_turn role seen added at pass =
      let round : round_for setting.layout role (turn_steps final.logs (turns_in final))
      ≡ round_of_turn setting.layout (turns_in final)
      = ap (λ (r : ℕ). round_for setting.layout r (turn_steps final.logs (turns_in final)))
      (at ∙ ap (role_at setting.layout) (sym read_rounds.1))
      ∙ round_here setting.layout (busy_core setting.layout) (place_of_turn setting.layout (turns_in final))
      (round_of_turn setting.layout (turns_in final)) (turn_steps final.logs (turns_in final))
      (busy_known setting.layout ranges) stands in
      record {
        turns =
            subst (λ (r : ℕ). AreTurns setting.layout (turn_of r seen ++ final.lead)) (sym at)
            (ATurn seen final.lead so_far.turns);
        counts = omega (arith, so_far.counts);
        has =
            turn_has setting moments final role seen (round_of_turn setting.layout (turns_in final)) added so_far.has
            round pass;
      }

  -- behind whole rounds, at least one, the closing turn is of the last round
  pub serial_end : (seen : ℕ) (added : Log) → place_in setting.layout final.lead ≡ 0
      → 0 < round_of_turn setting.layout (turns_in final)
      → IsWhole setting
      (aged_of setting (with_moment (tick_role setting.layout) (moment_then (moments (tick_role setting.layout))
      (length (final.logs (tick_role setting.layout)))
      (moment_of_round (round_of_turn setting.layout (turns_in final) - 1))) moments)
      (with_log (tick_role setting.layout) (added ++ final.logs (tick_role setting.layout)) final.logs))
      (tick_role setting.layout) (kind_of setting.layout (tick_role setting.layout))
      (final.logs (tick_role setting.layout)) added
      → IsSerialLead setting.layout (turn_of (tick_role setting.layout) seen ++ final.lead)
      × HasTurns setting
      (with_moment (tick_role setting.layout) (moment_then (moments (tick_role setting.layout))
      (length (final.logs (tick_role setting.layout)))
      (moment_of_round (round_of_turn setting.layout (turns_in final) - 1))) moments)
      (after_turn (tick_role setting.layout) seen (added ++ final.logs (tick_role setting.layout)) final)
  serial_end seen added whole some pass =
      let ends = stands.ended (read_rounds.1 ∙ whole) some in
      let now = stands.now in
      let round : round_for setting.layout (tick_role setting.layout) (turn_steps final.logs (turns_in final))
      ≡ round_of_turn setting.layout (turns_in final) - 1
      = closing_is setting.layout (round_of_turn setting.layout (turns_in final)) (turn_steps final.logs
      (turns_in final))
      ends now in (
        record { rounds = final.lead; seen = seen; turns = so_far.turns; whole = whole; closed = refl },
        turn_has setting moments final (tick_role setting.layout) seen
            (round_of_turn setting.layout (turns_in final) - 1) added so_far.has round pass,
      )
