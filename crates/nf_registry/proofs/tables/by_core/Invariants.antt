use Rattle.std.proofs.Common.{◌≡◌, ◌<◌, ℕ, length, slice_get, Some}
use Rattle.nf_registry.specs.Places.{residents}
use Rattle.nf_registry.proofs.tables.by_core.Given as goal

abbrev pub invariant-loop-core : goal.invariant-loop-core
invariant-loop-core l = record {
  count : length l.table.items ≡ l.core;
  lists : (k : ℕ) → k < l.core → slice_get l.table.items k ≡ Some (residents k l.functions);
}
