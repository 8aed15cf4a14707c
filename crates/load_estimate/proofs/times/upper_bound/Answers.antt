use Rattle.std.proofs.Common.{ℕ, leb, leb-true, rules}
use Rattle.std.proofs.lemmas.Bool.{leb-false}
use Rattle.std.proofs.lemmas.List.Sorted.{IsPartitionPoint-from_clause, IsPartitionedBy-leb}
use Rattle.load_estimate.proofs.Order.{upper_bound-is}
use Rattle.load_estimate.proofs.times.upper_bound.Goals as goal

pub returns : goal.returns
returns c =
    let parted = IsPartitionedBy-leb (λ (item : ℕ). item) _ c.args.time c.requires in
    let point = IsPartitionPoint-from_clause (λ (item : ℕ). leb item c.args.time) _ _
    c.partition_point.ensures.partitioned parted (λ a r q k. search rules) in
    upper_bound-is _ _ _ c.partition_point.ensures.bound
    (λ k d from below. leb-true _ _ (point.0 k d from below), λ k d from below. leb-false _ _ (point.1 k d from below))
