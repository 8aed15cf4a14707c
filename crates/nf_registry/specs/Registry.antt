-- What a registry holds.
use Rattle.std.specs.Prelude.{ℕ, ◌≡◌, ◌<◌, Some, slice_get}
use Rattle.onvm_base.specs.Services.{instances}
use Rattle.nf_registry.specs.declared.registry.Registry.TheInside.{Inside}
use Rattle.nf_registry.specs.declared.tables.TheConstants.{SERVICES}
use Rattle.nf_registry.specs.Masks.{AreMasks}
use Rattle.nf_registry.specs.Places.{residents}

-- the tables are those of the plan that the registry was made of
pub record IsRegistry (registry : Inside) : Type 0 where
  pub services : (service : ℕ) → service < SERVICES
      → slice_get registry.services.items service ≡ Some (instances service registry.made_of.value.functions)
  pub cores : (core : ℕ) → core < registry.made_of.value.cores
      → slice_get registry.cores.items core ≡ Some (residents core registry.made_of.value.functions)
  pub masks : AreMasks registry.made_of.value registry.masks.items
  pub transmit : registry.transmit ≡ registry.made_of.value.transmit
