-- What a session knows at its end, of the final view and its lists, and what the closed board tells.
use Rattle.std.specs.Prelude.{ℕ, ◌≡◌, ◌+◌, ◌-◌, ◌*◌, ◌<◌, ◌≤◌, Bool, true, false, not, List, ◌∷◌, length}
use Rattle.onvm_base.specs.declared.frame.SentFrame.{SentFrame}
use Rattle.onvm_base.specs.declared.ids.FnId.{FnId}
use Rattle.onvm_base.specs.declared.outcome.Record.{Record}
use Rattle.onvm_core.specs.Layouts.{IsFeeder, core_role, first_role, tick_role}
use Rattle.onvm_core.specs.History.{History, place_of}
use Rattle.onvm_core.specs.Places.{numbers_below, how_many}
use Rattle.onvm_core.specs.Words.{is_pool}
use Rattle.onvm_core.specs.Logs.{Setting, Log}
use Rattle.onvm_core.specs.Settings.{frame_count}
use Rattle.onvm_core.specs.Blocks.{IsOfBlocks}
use Rattle.onvm_core.specs.Journals.{Handling, GoesThrough, journal}
use Rattle.onvm_promises.specs.declared.pass.Pass.{Pass}
use Rattle.onvm_promises.specs.Answers.{is_complete}
use Rattle.onvm_promises.specs.Kept.{at_most_64_bits, is_lost, is_yield, moment_then, posts_by, records_by, sent_by}
use Rattle.onvm_promises.specs.Passes.{IsTickPass}
use Rattle.onvm_promises.specs.Rests.{IsSettledFeeder}
use Rattle.onvm_promises.specs.Roles.{IsTickPromise}
use Rattle.onvm_promises.specs.Stretches.{log_until, stretch}
use Rattle.onvm_session.specs.Accounts.{RunView, AreWhole, aged_of}
use Rattle.onvm_session.specs.Lists.{Ascends, all_acts, all_kept, all_told}
use Rattle.onvm_session.specs.Moments.{moment_in, moment_of_round, round_of_turn}
use Rattle.onvm_session.specs.Sessions.{Keeps, after_turn, with_moment}
use Rattle.onvm_session.specs.Turns.{Turn, joined_count, turn_steps}
use Rattle.onvm_session.specs.Views.{FinalView, IsHistoryOf, IsLead, place_in, turns_in}

-- the closed board: its logs and numbers are those of a lawful history, after which so many buffers are out of the pool
pub record IsClosed (setting : Setting) (run : RunView) : Type 0 where
  pub past : History
  pub history : IsHistoryOf setting.layout run.final past
  pub left : run.left ≡ how_many (λ buf. not (is_pool (place_of buf past)))
      (numbers_below (setting.layout.ports * setting.layout.buffers))

-- the moments of acts by the view alone
abbrev pub AreViewMoments : Bool → (may_tell : ℕ → Type 0) → Setting → FinalView → (ℕ → ℕ → ℕ) → Type 0
AreViewMoments true may_tell setting final moments =
    (role number : ℕ) → number < length (final.logs role)
    → moments role number ≡ moment_in setting.layout (turn_steps final.logs (turns_in final)) role number
AreViewMoments false may_tell setting final moments =
    (role number : ℕ) → number < length (final.logs role) → may_tell (moments role number)

-- the roles' logs, as their passes left them
pub record HasEnded {S : Type 0} (serial : Bool) (may_tell : ℕ → Type 0) (acts : ℕ → S → Handling → S → Type 0)
    (start : ℕ → S) (setting : Setting) (moments : ℕ → ℕ → ℕ) (run : RunView) : Type 0 where
  pub lead : IsLead serial setting.layout run.final.lead
  pub blocks : (role : ℕ) → role < first_role setting.layout → IsOfBlocks setting role (run.final.logs role)
  pub feeders : (feeder : ℕ) → IsFeeder setting.layout feeder
      → IsSettledFeeder setting feeder (aged_of setting moments run.final.logs feeder) (run.final.logs feeder)
  pub whole : serial ≡ true
      → AreWhole setting (aged_of setting moments run.final.logs) run.final.logs (turns_in run.final)
  pub timed : AreViewMoments serial may_tell setting run.final moments
  -- the roles have as many records as there are frames
  pub recorded : all_told (λ told. true) records_by moments run.final.logs (first_role setting.layout)
      ≡ frame_count setting
  -- the last turn took what was mailed
  pub closing : (t : Turn) (ts : List Turn) → turns_in run.final ≡ t ∷ ts
      → IsTickPass setting t.role (log_until (joined_count t.role ts) (run.final.logs t.role))
      (stretch (joined_count t.role ts) t.count (run.final.logs t.role))
  pub journals : (f : FnId) → f.0 < setting.layout.functions
      → (end : S)
      × GoesThrough (acts f.0) (start f.0) (journal f (run.final.logs (core_role setting.layout f.0))) end

-- the lists that the session puts together from what the roles kept
pub record HasLists (setting : Setting) (moments : ℕ → ℕ → ℕ) (run : RunView) : Type 0 where
  pub records : (test : Record → Bool)
      → how_many test run.records ≡ all_told test records_by moments run.final.logs (first_role setting.layout)
  pub records_ascend : Ascends (λ told. told.frame) run.records
  pub sent : (test : SentFrame → Bool)
      → how_many test run.sent ≡ all_told test sent_by moments run.final.logs (first_role setting.layout)
  pub sent_ascend : Ascends (λ frame. frame.frame) run.sent
  pub posts : run.posts
      ≡ all_kept posts_by moments run.final.logs (setting.layout.ports + setting.layout.transmit)
  pub yields : run.yields ≡ at_most_64_bits (all_acts is_yield run.final.logs (first_role setting.layout))
  pub lost : run.lost ≡ at_most_64_bits (all_acts is_lost run.final.logs (first_role setting.layout))

-- The closing turn

-- its moment: in a serial session, behind whole rounds, that of the last round; in another one that the clock may
-- tell, and
-- not before that of the tick role's last pass
abbrev pub IsClosingMoment : Bool → (may_tell : ℕ → Type 0) → Setting → FinalView → (latest now : ℕ) → Type 0
IsClosingMoment true may_tell setting final latest now =
    (place_in setting.layout final.lead ≡ 0)
    × (0 < round_of_turn setting.layout (turns_in final))
    × (now ≡ moment_of_round (round_of_turn setting.layout (turns_in final) - 1))
IsClosingMoment false may_tell setting final latest now = may_tell now × (latest ≤ now)

-- the tick role made a last pass, whose turn is the last of the run's view, and the run's samples and ticks are the
-- role's
pub record Closes (serial : Bool) (may_tell : ℕ → Type 0) (setting : Setting) (moments : ℕ → ℕ → ℕ)
    (first latest : ℕ) (final : FinalView) (keeps : ℕ → Keeps) (seen now : ℕ) (after : Log) (kept : Keeps)
    (run : RunView) : Type 0 where
  pub answer : Pass
  pub pass : IsTickPromise setting (tick_role setting.layout) first now true (moments (tick_role setting.layout))
      (final.logs (tick_role setting.layout)) after kept.samples (keeps (tick_role setting.layout)).ticks kept.ticks
      answer
  pub complete : is_complete answer ≡ true
  pub at : IsClosingMoment serial may_tell setting final latest now
  pub view : run.final ≡ after_turn (tick_role setting.layout) seen after final
  pub samples : run.samples ≡ kept.samples
  pub ticks : run.ticks ≡ kept.ticks

-- the moments behind it
abbrev pub closing_moments : Setting → (ℕ → ℕ → ℕ) → FinalView → (now : ℕ) → ℕ → ℕ → ℕ
closing_moments setting moments final now =
    with_moment (tick_role setting.layout)
    (moment_then (moments (tick_role setting.layout)) (length (final.logs (tick_role setting.layout))) now) moments
