use Rattle.std.proofs.Common.{◌≡◌, ◌≤◌, [], Some, length, vec_capacity}
use Rattle.std.specs.Prelude.{Vec, slice_get}
use Rattle.std.proofs.Common.{Global, ℕ}
use Rattle.nf_registry.specs.Places.{residents}
use Rattle.onvm_session.proofs.rooms.unit_lists.Given as goal

abbrev pub invariant-loop-core : goal.invariant-loop-core
invariant-loop-core g l = record {
  many : length l.lists.items ≡ l.core;
  none : (core : ℕ) (list : Vec g.row.N.Denot Global) → slice_get l.lists.items core ≡ Some list → list.items ≡ [];
  room : (core : ℕ) (list : Vec g.row.N.Denot Global) → slice_get l.lists.items core ≡ Some list
      → length (residents core l.plan.functions) ≤ vec_capacity list;
}
