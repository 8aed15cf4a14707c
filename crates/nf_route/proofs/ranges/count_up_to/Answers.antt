use Rattle.std.proofs.Common.{leb, leb-true, rules}
use Rattle.std.proofs.lemmas.Bool.{leb-false}
use Rattle.std.proofs.lemmas.List.Sorted.{IsPartitionPoint-from_clause, IsPartitionedBy-leb}
use Rattle.nf_route.specs.declared.ranges.Range.{Range}
use Rattle.nf_route.proofs.ranges.count_up_to.Goals as goal

pub returns-clause-point : goal.returns-clause-point
returns-clause-point c =
    let parted = IsPartitionedBy-leb (λ (range : Range). range.first) _ c.args.target c.requires in
    let point = IsPartitionPoint-from_clause (λ (range : Range). leb range.first c.args.target) _ _
    c.partition_point.ensures.partitioned parted (λ a r q k. search rules) in
    (λ k d from below. leb-true _ _ (point.0 k d from below), λ k d from below. leb-false _ _ (point.1 k d from below))
