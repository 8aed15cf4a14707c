-- What a chain file is read as.
use Rattle.std.specs.Prelude.{◌≡◌, ◌≢◌, ◌⊎◌, ℕ, List, Some, length}
use Rattle.onvm_base.specs.declared.plan.Plan.{Plan}
use Rattle.onvm_host.specs.Files.{Entries, file_of}
use Rattle.chain_file.specs.File.{IsRead, IsRefused}
use Rattle.chain_file.specs.declared.fault.FileFault.{FileFault}
use Rattle.chain_file.specs.declared.fault.FileFault.TheVariants as file
use Rattle.command_words.specs.declared.command.Command.{Command}
use Rattle.onvm_top.specs.declared.fault.Fault.{Fault}
use Rattle.onvm_top.specs.declared.fault.Fault.TheVariants.{Plan as NoPlan, Memory}

-- the file of this name is this plan, for so many captures and with these guests
pub record IsPlanFile (name : List ℕ) (captures : ℕ) (guests : List (List ℕ)) (files : Entries) (plan : Plan) : Type 0 where
  pub bytes : List ℕ
  pub file_is : file_of name files ≡ Some bytes
  pub read : IsRead bytes captures guests plan

-- it is no plan, for this fault
pub record IsFaultyPlan (name : List ℕ) (captures : ℕ) (guests : List (List ℕ)) (files : Entries) (fault : FileFault) : Type 0 where
  pub bytes : List ℕ
  pub file_is : file_of name files ≡ Some bytes
  pub refused : IsRefused bytes captures guests fault
  pub known : fault ≢ file.Memory

-- the same of a command's chain file
abbrev pub HasPlan : Command → (guests : List (List ℕ)) → Entries → Plan → Type 0
HasPlan command guests files plan = IsPlanFile command.chain.now (length command.captures.items) guests files plan

abbrev pub HasFaultyPlan : Command → (guests : List (List ℕ)) → Entries → FileFault → Type 0
HasFaultyPlan command guests files fault = IsFaultyPlan command.chain.now (length command.captures.items) guests files fault

-- the text is refused for the cause that this fault tells, or memory was wanting
abbrev pub IsRefusedFor : (text : List ℕ) (captures : ℕ) (guests : List (List ℕ)) → Fault → Type 0
IsRefusedFor text captures guests fault =
    (fault ≡ Memory) ⊎ ((cause : FileFault) × (fault ≡ NoPlan cause) × (cause ≢ file.Memory) × IsRefused text captures guests cause)
