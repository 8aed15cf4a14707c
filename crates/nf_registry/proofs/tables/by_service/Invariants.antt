use Rattle.std.proofs.Common.{◌≡◌, ◌<◌, ℕ, length, slice_get, Some}
use Rattle.onvm_base.specs.Services.{instances}
use Rattle.nf_registry.proofs.tables.by_service.Given as goal

abbrev pub invariant-loop-service : goal.invariant-loop-service
invariant-loop-service l = record {
  count : length l.table.items ≡ l.service;
  lists : (k : ℕ) → k < l.service → slice_get l.table.items k ≡ Some (instances k l.functions);
}
