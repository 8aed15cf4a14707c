-- The run under overload is a session's: from the start each of its twelve turns keeps the loop's invariant.
use Rattle.std.proofs.Common.{◌≡◌, ℕ, true, false, List, [], length, refl, sym, subst, None}
use Rattle.onvm_base.specs.declared.ids.FnId.{FnId}
use Rattle.onvm_core.specs.Blocks.{kind_of}
use Rattle.onvm_core.specs.Layouts.{core_role}
use Rattle.onvm_core.specs.Logs.{Log}
use Rattle.load_estimate.specs.declared.sample.Sample.{Sample}
use Rattle.load_estimate.specs.declared.tick.Tick.{Tick}
use Rattle.onvm_promises.specs.declared.pass.Pass.{Pass}
use Rattle.onvm_promises.specs.declared.pass.Pass.TheVariants.{Did, Idle}
use Rattle.onvm_promises.specs.Answers.{is_complete}
use Rattle.onvm_promises.specs.Kept.{FeederKeeps, moment_then}
use Rattle.onvm_promises.specs.Sampling.{is_cost}
use Rattle.onvm_promises.proofs.ExamplePromises.{counts}
use Rattle.onvm_session.specs.Moments.{moment_of_round, round_of_turn}
use Rattle.onvm_session.specs.Sessions.{IsRolePass, IsSession, Keeps, OthersKeep, after_turn, with_keeps, with_moment}
use Rattle.onvm_session.specs.Starts.{first_view, no_keeps}
use Rattle.onvm_session.specs.Views.{FinalView, place_in, role_at, turns_in}
use Rattle.onvm_session.proofs.OverloadCore.{core_log, first_served, only, two_served}
use Rattle.onvm_session.proofs.OverloadPlan.{layout, ranges, setting}
use Rattle.onvm_session.proofs.OverloadPromises.{handles_first, handles_second, handles_third, held_keeps, holds_one, moves_first, moves_second, moves_third, one_sample, one_sent, receives_four, stays_raised, takes_first, takes_second, takes_third, three_samples, three_sent, turned_keeps, two_samples, two_sent}
use Rattle.onvm_session.proofs.OverloadReceive.{held_log, receive_log, turned_back}
use Rattle.onvm_session.proofs.OverloadSend.{first_moved, send_log, two_moved}
use Rattle.onvm_session.proofs.OverloadTick.{taken, three_taken, two_taken}
use Rattle.onvm_session.proofs.KeptByTurns.{turn_keeps}
use Rattle.onvm_session.proofs.Starting.{session_starts}

-- Where a session stands: the functions' states, the moments of acts, the first token's view, and what roles keep
pub record Standing : Type 0 where
  pub state : ℕ → ℕ
  pub moments : ℕ → ℕ → ℕ
  pub view : FinalView
  pub keeps : ℕ → Keeps

abbrev pub HoldsAt : (state : ℕ → ℕ) → (ℕ → ℕ → ℕ) → FinalView → (ℕ → Keeps) → Type 0
HoldsAt state moments view keeps =
    (latest : ℕ)
    × IsSession true (λ n. ⊥) counts (λ g. 0) state is_cost setting moments 0 latest view keeps

abbrev pub Holds : Standing → Type 0
Holds now = HoldsAt now.state now.moments now.view now.keeps

-- behind a turn of a role, at this moment
abbrev pub behind : Standing → (role seen moment : ℕ) → Log → Keeps → (state : ℕ → ℕ) → Standing
behind was role seen moment after kept state =
    record {
      state = state;
      moments = with_moment role (moment_then (was.moments role) (length (was.view.logs role)) moment) was.moments;
      view = after_turn role seen after was.view;
      keeps = with_keeps role kept was.keeps;
    }

-- a pass at the round's moment keeps the invariant
turn : (was : Standing) (role seen moment : ℕ) (after : Log) (kept : Keeps) (state : ℕ → ℕ) (answer : Pass)
    → Holds was → moment_of_round (round_of_turn layout (turns_in was.view)) ≡ moment
    → role ≡ role_at layout (place_in layout was.view.lead)
    → IsRolePass counts (λ g. 0) state is_cost setting role (kind_of layout role) 0 moment false (was.moments role)
    (was.view.logs role) after (was.keeps role) kept answer
    → is_complete answer ≡ true → OthersKeep setting role was.state state
    → Holds (behind was role seen moment after kept state)
turn was role seen moment after kept state answer session at_moment at_place pass complete others =
    let pass_then : IsRolePass counts (λ g. 0) state is_cost setting role (kind_of layout role) 0
    (moment_of_round (round_of_turn layout (turns_in was.view))) false (was.moments role) (was.view.logs role) after
    (was.keeps role) kept answer
    = subst (λ (m : ℕ).
    IsRolePass counts (λ g. 0) state is_cost setting role (kind_of layout role) 0 m false (was.moments role)
    (was.view.logs role) after (was.keeps role) kept answer) (sym at_moment) pass in
    subst (λ (m : ℕ).
    HoldsAt state (with_moment role (moment_then (was.moments role) (length (was.view.logs role)) m) was.moments)
    (after_turn role seen after was.view) (with_keeps role kept was.keeps)) at_moment
    (turn_keeps (λ n. ⊥) counts (λ g. 0) was.state state is_cost setting was.moments 0 session.0 was.view was.keeps
    role seen after kept answer ranges session.1 at_place pass_then complete others)

-- the one function is the core's
others_keep : (state now : ℕ → ℕ) → OthersKeep setting 2 state now
others_keep state now h other mine apart =
    let own : 2 ≡ other
    = subst (λ (g : FnId). core_role layout g.0 ≡ other) (sym (only h mine.known)) mine.core in
    absurd (apart (sym own))

-- The standings, turn by turn

abbrev pub feeder_keeps : FeederKeeps → Keeps
feeder_keeps keeps = record no_keeps { feeder = keeps }

abbrev pub tick_keeps : List Sample → List Tick → Keeps
tick_keeps samples ticks = record no_keeps { samples = samples; ticks = ticks }

abbrev pub at_start : Standing
at_start = record { state = λ g. 0; moments = λ role number. 0; view = first_view; keeps = λ role. no_keeps }

starts : Holds at_start
starts = (0, session_starts true (λ n. ⊥) counts (λ g. 0) is_cost setting (λ role number. 0) 0 refl)

abbrev pub first_receive : Standing
first_receive = behind at_start 0 8 0 turned_back (feeder_keeps turned_keeps) (λ g. 0)

first_receive_holds : Holds first_receive
first_receive_holds =
    turn at_start 0 8 0 turned_back (feeder_keeps turned_keeps) (λ g. 0) (Did 4) starts refl refl receives_four refl
    (λ h other mine apart. refl)

abbrev pub first_core : Standing
first_core = behind first_receive 2 8 0 first_served no_keeps (λ g. 1)

first_core_holds : Holds first_core
first_core_holds =
    turn first_receive 2 8 0 first_served no_keeps (λ g. 1) (Did 1) first_receive_holds refl refl
    (None, handles_first) refl (others_keep (λ g. 0) (λ g. 1))

abbrev pub first_send : Standing
first_send = behind first_core 1 9 0 first_moved (feeder_keeps one_sent) (λ g. 1)

first_send_holds : Holds first_send
first_send_holds =
    turn first_core 1 9 0 first_moved (feeder_keeps one_sent) (λ g. 1) (Did 1) first_core_holds refl refl
    (moves_first 0 _) refl (λ h other mine apart. refl)

abbrev pub first_tick : Standing
first_tick = behind first_send 3 9 0 taken (tick_keeps one_sample []) (λ g. 1)

first_tick_holds : Holds first_tick
first_tick_holds =
    turn first_send 3 9 0 taken (tick_keeps one_sample []) (λ g. 1) (Did 1) first_send_holds refl refl takes_first
    refl (λ h other mine apart. refl)

abbrev pub second_receive : Standing
second_receive = behind first_tick 0 9 1000 held_log (feeder_keeps held_keeps) (λ g. 1)

second_receive_holds : Holds second_receive
second_receive_holds =
    turn first_tick 0 9 1000 held_log (feeder_keeps held_keeps) (λ g. 1) (Did 1) first_tick_holds refl refl holds_one
    refl (λ h other mine apart. refl)

abbrev pub second_core : Standing
second_core = behind second_receive 2 9 1000 two_served no_keeps (λ g. 2)

second_core_holds : Holds second_core
second_core_holds =
    turn second_receive 2 9 1000 two_served no_keeps (λ g. 2) (Did 1) second_receive_holds refl refl
    (None, handles_second) refl (others_keep (λ g. 1) (λ g. 2))

abbrev pub second_send : Standing
second_send = behind second_core 1 11 1000 two_moved (feeder_keeps two_sent) (λ g. 2)

second_send_holds : Holds second_send
second_send_holds =
    turn second_core 1 11 1000 two_moved (feeder_keeps two_sent) (λ g. 2) (Did 1) second_core_holds refl refl
    (moves_second 1000 _) refl (λ h other mine apart. refl)

abbrev pub second_tick : Standing
second_tick = behind second_send 3 11 1000 two_taken (tick_keeps two_samples []) (λ g. 2)

second_tick_holds : Holds second_tick
second_tick_holds =
    turn second_send 3 11 1000 two_taken (tick_keeps two_samples []) (λ g. 2) (Did 1) second_send_holds refl refl
    takes_second refl (λ h other mine apart. refl)

abbrev pub third_receive : Standing
third_receive = behind second_tick 0 11 2000 receive_log (feeder_keeps held_keeps) (λ g. 2)

third_receive_holds : Holds third_receive
third_receive_holds =
    turn second_tick 0 11 2000 receive_log (feeder_keeps held_keeps) (λ g. 2) Idle second_tick_holds refl refl
    stays_raised refl (λ h other mine apart. refl)

abbrev pub third_core : Standing
third_core = behind third_receive 2 11 2000 core_log no_keeps (λ g. 3)

third_core_holds : Holds third_core
third_core_holds =
    turn third_receive 2 11 2000 core_log no_keeps (λ g. 3) (Did 1) third_receive_holds refl refl
    (None, handles_third) refl (others_keep (λ g. 2) (λ g. 3))

abbrev pub third_send : Standing
third_send = behind third_core 1 15 2000 send_log (feeder_keeps three_sent) (λ g. 3)

third_send_holds : Holds third_send
third_send_holds =
    turn third_core 1 15 2000 send_log (feeder_keeps three_sent) (λ g. 3) (Did 1) third_core_holds refl refl
    (moves_third 2000 _) refl (λ h other mine apart. refl)

abbrev pub third_tick : Standing
third_tick = behind third_send 3 15 2000 three_taken (tick_keeps three_samples []) (λ g. 3)

pub third_tick_holds : Holds third_tick
third_tick_holds =
    turn third_send 3 15 2000 three_taken (tick_keeps three_samples []) (λ g. 3) (Did 1) third_send_holds refl refl
    takes_third refl (λ h other mine apart. refl)
