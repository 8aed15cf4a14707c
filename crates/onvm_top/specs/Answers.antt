-- What each status tells of a run: of the words, and of the files that were there and are there now.
use Rattle.std.specs.Prelude.{◌≡◌, ◌⊎◌, ℕ, List, Option, Some}
use Rattle.onvm_base.specs.declared.frame.Frame.{Frame}
use Rattle.onvm_base.specs.declared.plan.Plan.{Plan}
use Rattle.onvm_base.specs.declared.status.Status.{Status}
use Rattle.onvm_base.specs.declared.status.Status.TheVariants as status
use Rattle.chain_file.specs.declared.fault.FileFault.{FileFault}
use Rattle.onvm_host.specs.Files.{Entries}
use Rattle.command_words.specs.Commands.{IsCommand}
use Rattle.command_words.specs.declared.command.Command.{Command}
use Rattle.onvm_top.specs.Captures.{AreGood, IsLowestBad}
use Rattle.onvm_top.specs.Chains.{HasFaultyPlan, HasPlan}
use Rattle.onvm_top.specs.Known.{OnTold}
use Rattle.onvm_top.specs.Names.{IsNoCommand}

-- the words are a command, its chain file is a plan for these guests, and its captures are good
abbrev pub IsAccepted : (words guests : List (List ℕ)) → Option Entries → Type 0
IsAccepted words guests told = (command : Command) × IsCommand words command
    × (plan : Plan) × OnTold told (λ files. HasPlan command guests files plan)
    × (frames : ℕ → List Frame) × AreGood told command.captures.items frames

-- status 3: the chain file is no plan
abbrev pub IsNoPlan : (words guests : List (List ℕ)) → Option Entries → Type 0
IsNoPlan words guests told = (command : Command) × IsCommand words command
    × (cause : FileFault) × OnTold told (λ files. HasFaultyPlan command guests files cause)

-- status 4: the chain file is a plan, and a capture is bad
abbrev pub HasBadCapture : (words guests : List (List ℕ)) → Option Entries → Type 0
HasBadCapture words guests told = (command : Command) × IsCommand words command
    × (plan : Plan) × OnTold told (λ files. HasPlan command guests files plan)
    × (port : ℕ) × OnTold told (λ files. IsLowestBad files command.captures.items port)

-- what each status tells. Unless the run was done or failed to write, the files are the same
abbrev pub IsTrueStatus : (words guests : List (List ℕ)) → (told told_now : Option Entries) → Status → Type 0
IsTrueStatus words guests told told_now status.Done = IsAccepted words guests told
IsTrueStatus words guests told told_now status.Words = IsNoCommand words × (told_now ≡ told)
IsTrueStatus words guests told told_now status.Plan = IsNoPlan words guests told × (told_now ≡ told)
IsTrueStatus words guests told told_now status.Capture = HasBadCapture words guests told × (told_now ≡ told)
IsTrueStatus words guests told told_now status.Read =
    ((command : Command) × IsCommand words command) × (told_now ≡ told)
IsTrueStatus words guests told told_now status.Write = IsAccepted words guests told
IsTrueStatus words guests told told_now status.Memory = told_now ≡ told

-- where the words are a command and the files are told, this holds of both
abbrev pub OnCommand : List (List ℕ) → Option Entries → (Command → Entries → Type 0) → Type 0
OnCommand words told P = (command : Command) → IsCommand words command
    → (files : Entries) → told ≡ Some files
    → P command files

-- the status is this one, unless the outside failed or memory ran out first
abbrev pub IsUnlessStopped : Status → Status → Type 0
IsUnlessStopped expected result = (result ≡ expected) ⊎ (result ≡ status.Read) ⊎ (result ≡ status.Memory)

-- statuses that blame a call of the host
abbrev pub HasFault : Status → Type 0
HasFault answer = (answer ≡ status.Read) ⊎ (answer ≡ status.Write)
