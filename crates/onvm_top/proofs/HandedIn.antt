-- Guests whose names a plan's functions need are handed in.
use Rattle.std.proofs.Common.{List}
use Rattle.onvm_base.specs.declared.function.FunctionPlan.{FunctionPlan}
use Rattle.nf_api.specs.declared.guest.Guest.{Guest}
use Rattle.nf_catalog.specs.Units.{AreHandedIn}
use Rattle.nf_catalog.proofs.Naming.{handed_in_by_names}
use Rattle.chain_file.specs.Guests.{HaveGuests, names_of}

pub handed_in : {V : Type 0} {F : V → Type 0} (functions : List FunctionPlan) (guests : List (Guest V F))
    → HaveGuests (names_of guests) functions → AreHandedIn functions guests
handed_in functions guests have = handed_in_by_names functions guests have
