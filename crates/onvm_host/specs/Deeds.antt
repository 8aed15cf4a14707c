-- The calls of a host, what came of each, and which of them are faults.
use Rattle.std.specs.Prelude.{ℕ, ◌+◌, List, [], ◌∷◌, Option, Bool, true, false, if◌then◌else◌, is_none, Result, Ok, Err}
use Rattle.std.specs.List.{list_any}
use Rattle.onvm_host.specs.declared.fault.HostFault.{HostFault}
use Rattle.onvm_host.specs.declared.fault.HostFault.TheVariants.{Failed, Memory}

-- how many bytes a call moved, or None where it failed; of an input the takes, of an output the puts
abbrev pub Amounts : Type 0
Amounts = List (Option ℕ)

-- a call of a host: of a file its name, and of an end all takes or puts since it was opened or created
pub data Deed : Type 0 where
  Opened : (name : List ℕ) → Deed
  OpenFailed : (name : List ℕ) → Deed
  Shut : (name : List ℕ) → (takes : Amounts) → Deed
  Created : (name : List ℕ) → Deed
  CreateFailed : (name : List ℕ) → Deed
  Kept : (name : List ℕ) → (puts : Amounts) → Deed
  KeepFailed : (name : List ℕ) → (puts : Amounts) → Deed
  Said : (amount : Option ℕ) → Deed

-- the deed of an open or a create: want of memory is none
abbrev pub made_or_failed : {T : Type 0} → Deed → Deed → Result T HostFault → List Deed
made_or_failed made failed (Ok end) = made ∷ []
made_or_failed made failed (Err Failed) = failed ∷ []
made_or_failed made failed (Err Memory) = []

abbrev pub kept_or_failed : {T E : Type 0} → List ℕ → Amounts → Result T E → Deed
kept_or_failed name puts (Ok done) = Kept name puts
kept_or_failed name puts (Err failed) = KeepFailed name puts

abbrev pub has_failed : Amounts → Bool
has_failed amounts = list_any is_none amounts

-- a failed take is a fault of the shut behind it, and a failed put one of the keep
abbrev pub is_fault : Deed → Bool
is_fault (Opened name) = false
is_fault (OpenFailed name) = true
is_fault (Shut name takes) = has_failed takes
is_fault (Created name) = false
is_fault (CreateFailed name) = true
is_fault (Kept name puts) = has_failed puts
is_fault (KeepFailed name puts) = true
is_fault (Said amount) = is_none amount

-- how many are faults
abbrev pub faults_of : List Deed → ℕ
faults_of [] = 0
faults_of (deed ∷ deeds) = (if is_fault deed then 1 else 0) + faults_of deeds
