-- Where a run stops, by which fault, after which calls, and what that tells.
use Rattle.std.specs.Prelude.{◌≡◌, ◌⊎◌, ◌<◌, ℕ, true, List, [], ◌∷◌, ◌++◌, length, Option, Some, slice_get}
use Rattle.std.specs.Io.KnownBytes.{Appends}
use Rattle.onvm_base.specs.declared.ids.PortId.{PortId}
use Rattle.onvm_base.specs.declared.plan.Plan.{Plan}
use Rattle.onvm_base.specs.declared.status.Status.{Status}
use Rattle.onvm_host.specs.Deeds.{CreateFailed, Deed}
use Rattle.onvm_host.specs.Files.{Entries}
use Rattle.chain_file.specs.Guests.{names_of}
use Rattle.chain_file.specs.declared.fault.FileFault.{FileFault}
use Rattle.nf_api.specs.Acts.{Acts}
use Rattle.nf_api.specs.Tree.{Tree}
use Rattle.nf_api.specs.declared.guest.Guest.{Guest}
use Rattle.rx_feed.specs.Standing.{Standing}
use Rattle.rx_feed.specs.declared.fault.FeedFault.{FeedFault}
use Rattle.onvm_session.specs.declared.run.Run.{Run}
use Rattle.command_words.specs.Commands.{IsCommand}
use Rattle.command_words.specs.declared.capture.CaptureWord.{CaptureWord}
use Rattle.command_words.specs.declared.command.Command.{Command}
use Rattle.onvm_top.specs.Accounts.{IsReplayed, IsReportOf, Leaves, capture_text}
use Rattle.onvm_top.specs.Calls.{CannotFinish, CannotOpen, CannotReadChain, CannotSay, ReadsChain, ReadsPart, ReadsTo, StopsOpening, Then, Writes}
use Rattle.onvm_top.specs.Captures.{AreFramesOf, IsFileOf}
use Rattle.onvm_top.specs.Chains.{HasFaultyPlan, HasPlan}
use Rattle.onvm_top.specs.Fault.{fault_of_feed, line_of, status_of}
use Rattle.onvm_top.specs.Known.{OnTold}
use Rattle.onvm_top.specs.Names.{IsNoCommand}
use Rattle.onvm_top.specs.Put.{SaysOnce}
use Rattle.onvm_top.specs.declared.fault.Fault.{Fault}
use Rattle.onvm_top.specs.declared.fault.Fault.TheVariants.{Words, Plan as NoPlan, ReadChain, ReadCapture, Write, Memory}

-- at the chain file of a command, after these calls
abbrev pub StopsAtChain : Command → (guests : List (List ℕ)) → Option Entries → List Deed → Fault → Type 0
StopsAtChain command guests told deeds fault =
    ((cause : FileFault) × (fault ≡ NoPlan cause) × ReadsChain command.chain.now deeds
    × OnTold told (λ files. HasFaultyPlan command guests files cause))
    ⊎ ((fault ≡ ReadChain) × CannotReadChain command.chain.now deeds)
    ⊎ ((fault ≡ Memory) × (ReadsPart command.chain.now deeds ⊎ ReadsChain command.chain.now deeds))

-- the fault is that of a port where it stands; the captures of lower ports are good
pub record IsFaultOfPort (told : Option Entries) (captures : List CaptureWord) (standings : ℕ → Standing) (fault : Fault)
    : Type 0 where
  pub port : PortId
  pub name : List ℕ
  pub file : IsFileOf captures port.0 name
  pub cause : FeedFault
  pub fault_is : fault ≡ fault_of_feed port cause
  pub stands : (standings port.0).fault ≡ Some cause
  pub lower : (p : ℕ) → p < port.0
      → ((standings p).ended ≡ true) × AreFramesOf told (slice_get captures p) (standings p).pulled

-- at these captures
abbrev pub StopsAtCaptures : List CaptureWord → Option Entries → List Deed → Fault → Type 0
StopsAtCaptures captures told deeds fault =
    ((port : PortId) × (fault ≡ ReadCapture port) × CannotOpen captures port.0 deeds)
    ⊎ ((fault ≡ Memory) × StopsOpening captures deeds)
    ⊎ ((standings : ℕ → Standing) × ReadsTo told standings captures deeds
    × ((fault ≡ Memory) ⊎ IsFaultOfPort told captures standings fault))

-- at the output of this name, to which this text goes: it wasn't created, or holds a front of the text
abbrev pub StopsAtWrite : (name text : List ℕ) → (told told_now : Option Entries) → List Deed → Fault → Type 0
StopsAtWrite name text told told_now deeds fault =
    ((fault ≡ Write) × (deeds ≡ CreateFailed name ∷ []) × (told_now ≡ told))
    ⊎ ((fault ≡ Memory) × (deeds ≡ []) × (told_now ≡ told))
    ⊎ ((fault ≡ Write) × CannotFinish (length text) name deeds
    × ((front rest : List ℕ) × (text ≡ front ++ rest) × Leaves name front told told_now))

-- there, or at the report behind it: of that this front was said
abbrev pub StopsAtOutput : (name text report : List ℕ) → (told told_now : Option Entries) → (said : List ℕ) → List Deed → Fault
    → Type 0
StopsAtOutput name text report told told_now said deeds fault =
    ((said ≡ []) × StopsAtWrite name text told told_now deeds fault)
    ⊎ ((fault ≡ Write) × Then (Writes (length text) name) (CannotSay (length report)) deeds
    × Leaves name text told told_now × ((rest : List ℕ) × (report ≡ said ++ rest)))

-- before a run was there, where these are the guests' names. Want of memory may be met while the words are read
abbrev pub IsStoppedEarly : (words guests : List (List ℕ)) → Option Entries → List Deed → Fault → Type 0
IsStoppedEarly words guests told deeds fault =
    ((fault ≡ Words) × IsNoCommand words × (deeds ≡ []))
    ⊎ ((fault ≡ Memory) × (deeds ≡ []))
    ⊎ ((command : Command) × IsCommand words command × StopsAtChain command guests told deeds fault)
    ⊎ ((command : Command) × IsCommand words command
    × ((plan : Plan) × OnTold told (λ files. HasPlan command guests files plan))
    × Then (ReadsChain command.chain.now) (λ rest. StopsAtCaptures command.captures.items told rest fault) deeds)

-- The clock may tell these moments and take these spans for a cost, and a guest does this and has this state
module _ {V : Type 0} {F : V → Type 0} (may_tell : ℕ → Type 0) (cost_may_take : ℕ → ℕ → Type 0)
    (guest_acts : Guest V F → Acts) (guest_state : Guest V F → Tree)
    (words : List (List ℕ)) (guests : List (Guest V F)) where
  -- behind the run, of which the headline holds. Without memory for its report nothing is said of it
  pub record IsStoppedLate (told told_now : Option Entries) (said : List ℕ) (deeds : List Deed) (fault : Fault) : Type 0 where
    pub command : Command
    pub plan : Plan
    pub run : Run
    pub read : List Deed
    pub writes : List Deed
    pub in_order : deeds ≡ read ++ writes
    pub replayed : IsReplayed may_tell cost_may_take guest_acts guest_state words guests told command plan read run
    pub stops : ((fault ≡ Memory) × (writes ≡ []) × (told_now ≡ told) × (said ≡ []))
        ⊎ ((report : List ℕ) × IsReportOf plan run command.options report
        × StopsAtOutput command.output.now (capture_text run.sent) report told told_now said writes fault)

  -- of the report this was said
  abbrev pub IsStopped : (told told_now : Option Entries) → (said : List ℕ) → List Deed → Fault → Type 0
  IsStopped told told_now said deeds fault =
      ((told_now ≡ told) × (said ≡ []) × IsStoppedEarly words (names_of guests) told deeds fault)
      ⊎ IsStoppedLate told told_now said deeds fault

  -- the calls of a run that was stopped, and what it said of its report before its line, which it said once
  pub record IsStoppedRun (told told_now : Option Entries) (said said_now : Option (List ℕ)) (before now : List Deed)
      (status : Status) : Type 0 where
    pub fault : Fault
    pub deeds : List Deed
    pub front : List ℕ
    pub between : Option (List ℕ)
    pub status_is : status_of fault ≡ status
    pub stopped : IsStopped told told_now front deeds fault
    pub appended : Appends said between front
    pub line : SaysOnce between said_now (before ++ deeds) now (line_of fault)
