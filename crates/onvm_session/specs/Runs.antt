-- What a session answers.
use Rattle.std.specs.Prelude.{ℕ, ◌≡◌, ◌<◌, Bool, true, false, List, length, Option, Some, None, slice_get}
use Rattle.onvm_base.specs.declared.plan.Plan.{Plan}
use Rattle.onvm_core.specs.Journals.{Handling}
use Rattle.onvm_core.specs.Logs.{Setting}
use Rattle.onvm_host.specs.Deeds.{Amounts}
use Rattle.onvm_promises.specs.Entries.{IsRunOf}
use Rattle.onvm_promises.specs.Sampling.{is_cost}
use Rattle.rx_feed.specs.declared.fault.FeedFault.{FeedFault}
use Rattle.rx_feed.specs.declared.fault.FeedFault.TheVariants as fault
use Rattle.rx_feed.specs.declared.feed.Feed.{Feed}
use Rattle.rx_feed.specs.Feeds.{StaysFeed}
use Rattle.rx_feed.specs.Standing.{Standing}
use Rattle.onvm_session.specs.declared.run.Run.{Run}
use Rattle.onvm_session.specs.declared.run.Stop.{Stop}
use Rattle.onvm_session.specs.declared.run.Stop.TheVariants.{Read, Capture, TooMany, Memory}
use Rattle.onvm_session.specs.Accounts.{IsAccounted, RunView}
use Rattle.onvm_session.specs.Boards.{view_of_closed}
use Rattle.onvm_session.specs.RoleStates.{IsFedBy}

-- a run as laws see it
abbrev pub view_of_run : Run → RunView
view_of_run run =
    record {
      records = run.records;
      sent = run.sent;
      posts = run.posts;
      samples = run.samples;
      ticks = run.ticks;
      yields = run.counters.yields;
      lost = run.counters.lost;
      left = run.closed.left;
      final = view_of_closed run.closed;
    }

-- a clock isn't asked for moments, or spans

abbrev pub any_moment : ℕ → Type 0
any_moment moment = Unit {0}

abbrev pub any_span : (cost span : ℕ) → Type 0
any_span cost span = Unit {0}

-- the moments and spans that may be told: in a serial session no clock is asked, and a frame takes its function's cost

abbrev pub told_by : Bool → (may_tell : ℕ → Type 0) → ℕ → Type 0
told_by true may_tell = any_moment
told_by false may_tell = may_tell

abbrev pub taken_by : Bool → (cost_may_take : ℕ → ℕ → Type 0) → ℕ → ℕ → Type 0
taken_by true cost_may_take = is_cost
taken_by false cost_may_take = cost_may_take

-- the fault of a port that a stop tells
abbrev pub told_fault : Stop → Option (ℕ × FeedFault)
told_fault (Read port) = Some (port.0, fault.Read)
told_fault (Capture port broken) = Some (port.0, fault.Capture broken)
told_fault (TooMany port) = Some (port.0, fault.TooMany)
told_fault Memory = None

-- each feed is handed back, port by port
pub record AreHandedBack {I : Type 0} (name_of : I → List ℕ) (feeds back : List (Feed I)) : Type 0 where
  pub many : length back ≡ length feeds
  pub stay : (port : ℕ) → StaysFeed name_of (slice_get feeds port) (slice_get back port)

module _ {I : Type 0} (name_of : I → List ℕ) (left_of : I → Option (List ℕ)) (takes_of : I → Amounts) where
  -- the port stands so with its feed
  abbrev pub StandsWith : (feeds back : List (Feed I)) → (port : ℕ) → Standing → Type 0
  StandsWith feeds back port standing =
      IsFedBy name_of left_of takes_of (slice_get feeds port) (slice_get back port) standing

  -- whatever came of the session, each port stands with its feed as the bytes and the takes of that tell
  pub record AllStand (plan : Plan) (feeds back : List (Feed I)) : Type 0 where
    pub stand : (port : ℕ) → port < plan.ports → (s : Standing) × StandsWith feeds back port s

  -- each capture was pulled to its end, and each frame is accounted for
  pub record IsDone {S : Type 0} (serial : Bool) (may_tell : ℕ → Type 0) (cost_may_take : ℕ → ℕ → Type 0)
      (acts : ℕ → S → Handling → S → Type 0) (start : ℕ → S) (plan : Plan) (feeds back : List (Feed I)) (run : Run)
      : Type 0 where
    pub standings : ℕ → Standing
    pub stand : (port : ℕ) → port < plan.ports → StandsWith feeds back port (standings port)
    pub ended : (port : ℕ) → port < plan.ports → (standings port).ended ≡ true
    -- the frames make a run, and of each run that they make
    pub run_is : (setting : Setting) × IsRunOf plan (λ port. (standings port).pulled) setting
    pub accounted : (setting : Setting) → IsRunOf plan (λ port. (standings port).pulled) setting
        → IsAccounted serial (told_by serial may_tell) (taken_by serial cost_may_take) acts start setting (view_of_run run)
    -- as many records as frames
    pub counted : (setting : Setting) → IsRunOf plan (λ port. (standings port).pulled) setting
        → length run.records ≡ length setting.entries

  -- the lowest port that has a fault is told, with the first fault in its bytes; the captures of lower ports were read to
  -- their ends
  pub record HasStopped (plan : Plan) (feeds back : List (Feed I)) (port : ℕ) (fault : FeedFault) : Type 0 where
    pub known : port < plan.ports
    pub standing : Standing
    pub stands : StandsWith feeds back port standing
    pub fault_is : standing.fault ≡ Some fault
    pub lower : (p : ℕ) → p < port → (s : Standing) × StandsWith feeds back p s × (s.ended ≡ true)

  -- a stop that isn't for want of memory is a port's
  abbrev pub IsStop : Plan → (feeds back : List (Feed I)) → Stop → Type 0
  IsStop plan feeds back stop =
      (port : ℕ) (fault : FeedFault) → told_fault stop ≡ Some (port, fault) → HasStopped plan feeds back port fault
