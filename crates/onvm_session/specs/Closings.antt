-- The closing turn of a manager, and the run that is put together behind it.
use Rattle.std.specs.Prelude.{ℕ, ◌≡◌, Bool, true, List, [], Some, Result, Ok, Err, slice_get, slice_set}
use Rattle.onvm_base.specs.declared.plan.Plan.{Plan}
use Rattle.onvm_core.specs.Layouts.{tick_role}
use Rattle.onvm_core.specs.Logs.{Log, Setting}
use Rattle.onvm_board.specs.Closing.{ClosedView, IsEndOf}
use Rattle.onvm_board.specs.Rule.{AllJoined}
use Rattle.onvm_board.specs.Tokens.{IsFirstToken, kept_log}
use Rattle.load_estimate.specs.declared.sample.Sample.{Sample}
use Rattle.load_estimate.specs.declared.tick.Tick.{Tick as TickView}
use Rattle.onvm_promises.specs.declared.pass.Pass.{Pass}
use Rattle.onvm_promises.specs.Answers.{is_complete}
use Rattle.onvm_promises.specs.Roles.{IsTickPromise, IsTickerSoFar}
use Rattle.tick_pass.specs.declared.role.TickRole.{TickRole}
use Rattle.tick_pass.specs.Roles.{first_of, logged, ticked}
use Rattle.onvm_session.specs.declared.leaving.Leavings.{Leavings}
use Rattle.onvm_session.specs.declared.lists.Gathered.{Gathered}
use Rattle.onvm_session.specs.declared.manager.Manager.{Manager}
use Rattle.onvm_session.specs.declared.role.Role.{Role}
use Rattle.onvm_session.specs.declared.role.Role.TheVariants.{Tick}
use Rattle.onvm_session.specs.declared.run.Run.{Run}
use Rattle.onvm_session.specs.declared.run.Stop.{Stop}
use Rattle.onvm_session.specs.declared.run.Stop.TheVariants.{Memory}
use Rattle.onvm_session.specs.Boards.{view_of_token}
use Rattle.onvm_session.specs.Gathering.{IsByFrame}
use Rattle.onvm_session.specs.Leaving.{HaveLeft}
use Rattle.onvm_session.specs.Sessions.{after_turn}

-- the tick role made its closing pass at this moment, in a turn of its own
pub record IsClosingTurn {I N : Type 0} (plan : Plan) (now : ℕ) (old new : Manager I N) : Type 0 where
  pub before : TickRole
  pub after : TickRole
  pub answer : Pass
  pub log : Log
  pub seen : ℕ
  pub was : slice_get old.roles.items (tick_role old.board.layout) ≡ Some (Tick before)
  pub roles : new.roles.items ≡ slice_set old.roles.items (tick_role old.board.layout) (Tick after)
  pub complete : is_complete answer ≡ true
  pub promise : (setting : Setting) (moment : ℕ → ℕ) → setting.layout ≡ old.board.layout → setting.plan ≡ plan
      → IsTickerSoFar setting (tick_role setting.layout) moment (kept_log (tick_role setting.layout) old.first)
      (logged before)
      → IsTickPromise setting (tick_role setting.layout) (first_of before) now true moment
      (kept_log (tick_role setting.layout) old.first) log (logged after) (ticked before) (ticked after) answer
  pub view : view_of_token new.first
      ≡ after_turn (tick_role old.board.layout) seen log (view_of_token old.first)
  pub board : new.board ≡ old.board
  pub first : IsFirstToken new.board new.first
  pub joined : AllJoined new.board.layout new.first.log

-- the lists of a run that is put together
pub record IsRunOfKept (gathered : Gathered) (samples : List Sample) (ticks : List TickView) (closed : ClosedView)
    (run : Run) : Type 0 where
  pub records : IsByFrame (λ told. told.frame) gathered.records.items run.records
  pub sent : IsByFrame (λ frame. frame.frame) gathered.sent.items run.sent
  pub posts : run.posts ≡ gathered.posts.items
  pub yields : run.counters.yields ≡ gathered.yields
  pub lost : run.counters.lost ≡ gathered.lost
  pub samples_are : run.samples ≡ samples
  pub ticks_are : run.ticks ≡ ticks
  pub closed_is : run.closed ≡ closed

-- a run is put together where all lists are complete, and only memory may be wanting
abbrev pub IsRunOfLists : (complete : Bool) → Gathered → List Sample → List TickView → ClosedView → Result Run Stop → Type 0
IsRunOfLists complete gathered samples ticks closed (Ok run) =
    (complete ≡ true) × IsRunOfKept gathered samples ticks closed run
IsRunOfLists complete gathered samples ticks closed (Err stop) = stop ≡ Memory

-- The whole end

-- the board that was closed is the manager's
pub record IsBoardOf {I N : Type 0} (manager : Manager I N) (closed : ClosedView) : Type 0 where
  pub layout : closed.layout ≡ manager.board.layout
  pub log : closed.log ≡ manager.first.log
  pub logs : closed.logs ≡ manager.first.logs
  pub counts : closed.counts ≡ manager.first.counts
  pub history : (past : _) × IsEndOf closed past

-- these roles have left, the first of them where none had
pub record AreLeftOf {I N : Type 0} (roles : List (Role I N)) (none left : Leavings I) : Type 0 where
  pub records : none.gathered.records.items ≡ []
  pub sent : none.gathered.sent.items ≡ []
  pub posts : none.gathered.posts.items ≡ []
  pub yields : none.gathered.yields ≡ 0
  pub lost : none.gathered.lost ≡ 0
  pub left_are : HaveLeft roles none left

-- the run behind a closing turn at this moment: of the board that was closed then, and of what the roles left
pub record IsClosedRun {I N : Type 0} (plan : Plan) (now : ℕ) (manager : Manager I N) (run : Run) : Type 0 where
  pub later : Manager I N
  pub none : Leavings I
  pub left : Leavings I
  pub closed : ClosedView
  pub turn : IsClosingTurn plan now manager later
  pub board_of : IsBoardOf later closed
  pub left_of : AreLeftOf later.roles.items none left
  pub lists : IsRunOfLists left.complete left.gathered left.samples left.ticks closed (Ok run)
