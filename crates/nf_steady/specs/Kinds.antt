-- Steady functions as kinds of a chain file, and which of their calls may want memory.
use Rattle.std.specs.Prelude.{ℕ, Bool, true, false, ◌&&◌, List}
use Rattle.onvm_base.specs.declared.function.Kind.{Kind}
use Rattle.onvm_base.specs.declared.function.Kind.TheVariants as kind
use Rattle.nf_api.specs.Answers.{has_room, has_type}
use Rattle.nf_steady.specs.declared.steady.Steady.{Steady}
use Rattle.nf_steady.specs.declared.steady.Steady.TheVariants as steady

-- the kind whose answers a steady function gives
abbrev pub kind_of : Steady → Kind
kind_of steady.Forward = kind.Forward
kind_of steady.Drop = kind.Drop
kind_of (steady.Out to) = kind.Out to
kind_of (steady.To service) = kind.To service
kind_of (steady.Filter tests) = kind.Filter tests
kind_of steady.Ttl = kind.Ttl
kind_of (steady.Tag vlan priority) = kind.Tag vlan priority
kind_of steady.Untag = kind.Untag
kind_of (steady.Macs target source) = kind.Macs target source

-- a function of this kind has tests to keep
abbrev pub keeps_tests : Kind → Bool
keeps_tests (kind.Filter tests) = true
keeps_tests _ = false

-- a function of this kind makes a frame of these bytes longer
abbrev pub does_grow : Kind → List ℕ → Bool
does_grow (kind.Tag vlan priority) bytes = has_type bytes && has_room bytes
does_grow _ bytes = false
