-- A run of a command, of which the headline holds, and what it leaves.
use Rattle.std.specs.Prelude.{◌≡◌, ◌≢◌, ◌≤◌, ◌<◌, ℕ, Bool, true, List, ◌++◌, length, map, Option, Some}
use Rattle.onvm_base.specs.declared.frame.Frame.{Frame}
use Rattle.onvm_base.specs.declared.frame.SentFrame.{SentFrame}
use Rattle.onvm_base.specs.declared.plan.Plan.{Plan}
use Rattle.onvm_core.specs.Journals.{Handling}
use Rattle.onvm_core.specs.Logs.{Setting}
use Rattle.onvm_host.specs.Deeds.{Amounts, Deed, Said}
use Rattle.onvm_host.specs.Files.{Entries, file_of}
use Rattle.pcap_in.specs.Emitted.{emit}
use Rattle.chain_file.specs.Guests.{names_of}
use Rattle.nf_api.specs.Acts.{Acts}
use Rattle.nf_api.specs.Tree.{Tree}
use Rattle.nf_api.specs.declared.guest.Guest.{Guest}
use Rattle.nf_catalog.specs.Units.{AreUnits, acts_of, state_of}
use Rattle.nf_catalog.specs.declared.unit.UnitOf.{UnitOf}
use Rattle.onvm_promises.specs.Entries.{IsRunOf}
use Rattle.rx_feed.specs.Standing.{Standing}
use Rattle.onvm_report.specs.Report.{IsReport}
use Rattle.onvm_report.specs.declared.options.Options.{Options}
use Rattle.onvm_report.specs.declared.printed.Printed.{Printed}
use Rattle.onvm_session.specs.Accounts.{IsAccounted}
use Rattle.onvm_session.specs.RoleStates.{acts_by, start_by}
use Rattle.onvm_session.specs.Runs.{taken_by, told_by, view_of_run}
use Rattle.onvm_session.specs.declared.run.Run.{Run}
use Rattle.command_words.specs.Commands.{IsCommand}
use Rattle.command_words.specs.declared.capture.CaptureWord.{CaptureWord}
use Rattle.command_words.specs.declared.command.Command.{Command}
use Rattle.onvm_top.specs.Calls.{ReadsChain, ReadsTo, Then, Writes}
use Rattle.onvm_top.specs.Captures.{AreGood}
use Rattle.onvm_top.specs.Chains.{HasPlan}
use Rattle.onvm_top.specs.Known.{OnTold}
use Rattle.onvm_top.specs.Put.{AppendsAll}

-- one file has these bytes, and no other file changed
pub record OnlyChanges (name bytes : List ℕ) (before now : Entries) : Type 0 where
  pub changed : file_of name now ≡ Some bytes
  pub others : (other : List ℕ) → other ≢ name → file_of other now ≡ file_of other before

-- where files were told, they are told, and only this file changed
abbrev pub Leaves : (name bytes : List ℕ) → (told told_now : Option Entries) → Type 0
Leaves name bytes told told_now =
    OnTold told (λ files. (now : Entries) × (told_now ≡ Some now) × OnlyChanges name bytes files now)

-- the capture text of what a run sent
abbrev pub frame_in : SentFrame → Frame
frame_in sent = record { stamp = sent.stamp; packet = sent.packet }

abbrev pub capture_text : List SentFrame → List ℕ
capture_text sent = emit (map frame_in sent)

-- the output of this name got this text, and then the report was said
pub record IsLeft (name text report : List ℕ) (told told_now : Option Entries) (said said_now : Option (List ℕ))
    (deeds : List Deed) : Type 0 where
  pub says : Amounts
  pub calls : Then (Writes (length text) name) (λ rest. rest ≡ map Said says) deeds
  pub output : Leaves name text told told_now
  pub appended : AppendsAll said said_now says report

-- the headline holds of a run of this plan, these functions and the frames of each port. Some setting is one of them. A clock
-- may tell these moments, and may take these spans for a cost; a serial run doesn't ask it
pub record IsAccount {S : Type 0} (serial : Bool) (may_tell : ℕ → Type 0) (cost_may_take : ℕ → ℕ → Type 0)
    (acts : ℕ → S → Handling → S → Type 0) (start : ℕ → S) (plan : Plan) (frames : ℕ → List Frame) (run : Run)
    : Type 0 where
  pub run_is : (setting : Setting) × IsRunOf plan frames setting
  pub accounted : (setting : Setting) → IsRunOf plan frames setting
      → IsAccounted serial (told_by serial may_tell) (taken_by serial cost_may_take) acts start setting (view_of_run run)

-- what is printed is the run's, with as many frames as it has records
pub record IsPrintOf (run : Run) (printed : Printed) : Type 0 where
  pub frames : printed.frames ≡ length run.records
  pub yields : printed.yields ≡ run.counters.yields
  pub lost : printed.lost ≡ run.counters.lost
  pub records : printed.records.now ≡ run.records
  pub posts : printed.posts.now ≡ run.posts
  pub ticks : printed.ticks.now ≡ run.ticks

abbrev pub IsReportOf : Plan → Run → Options → List ℕ → Type 0
IsReportOf plan run options text =
    (printed : Printed) × IsPrintOf run printed × IsReport plan.functions printed options text

-- the captures were opened, read to their ends and shut, and the headline holds of this run of their frames
pub record IsReplayOf {S : Type 0} (serial : Bool) (may_tell : ℕ → Type 0) (cost_may_take : ℕ → ℕ → Type 0)
    (acts : ℕ → S → Handling → S → Type 0) (start : ℕ → S) (told : Option Entries) (plan : Plan)
    (captures : List CaptureWord) (deeds : List Deed) (run : Run) : Type 0 where
  pub frames : ℕ → List Frame
  pub good : AreGood told captures frames
  pub account : IsAccount serial may_tell cost_may_take acts start plan frames run
  -- there are as many records as frames
  pub counted : (setting : Setting) → IsRunOf plan frames setting → length run.records ≡ length setting.entries
  pub standings : ℕ → Standing
  pub ended : (port : ℕ) → port < length captures → (standings port).ended ≡ true
  -- the frames are those that were pulled of the bytes taken
  pub pulled : (port : ℕ) → port < length captures → frames port ≡ (standings port).pulled
  pub calls : ReadsTo told standings captures deeds

-- The clock may tell these moments and take these spans for a cost, and a guest does this and has this state
module _ {V : Type 0} {F : V → Type 0} (may_tell : ℕ → Type 0) (cost_may_take : ℕ → ℕ → Type 0)
    (guest_acts : Guest V F → Acts) (guest_state : Guest V F → Tree)
    (words : List (List ℕ)) (guests : List (Guest V F)) where
  -- the chain file was read as this plan, and its captures were replayed by this run, serially where the command says so
  pub record IsReplayed (told : Option Entries) (command : Command) (plan : Plan) (deeds : List Deed) (run : Run) : Type 0 where
    pub is_command : IsCommand words command
    pub plan_is : OnTold told (λ files. HasPlan command (names_of guests) files plan)
    pub ports : length command.captures.items ≤ plan.ports
    pub units : List (UnitOf (Guest V F))
    pub units_are : AreUnits plan.functions guests units
    pub calls : Then (ReadsChain command.chain.now)
        (λ rest. IsReplayOf command.options.serial may_tell cost_may_take
        (acts_by (acts_of guest_acts) (state_of guest_state) units)
        (start_by (acts_of guest_acts) (state_of guest_state) units) told plan command.captures.items rest run) deeds

  -- and the output holds what was sent, and the report of the run was said
  pub record IsDone (told told_now : Option Entries) (said said_now : Option (List ℕ)) (deeds : List Deed) (run : Run)
      : Type 0 where
    pub command : Command
    pub plan : Plan
    pub read : List Deed
    pub written : List Deed
    pub in_order : deeds ≡ read ++ written
    pub replayed : IsReplayed told command plan read run
    pub report : List ℕ
    pub report_is : IsReportOf plan run command.options report
    pub left : IsLeft command.output.now (capture_text run.sent) report told told_now said said_now written
