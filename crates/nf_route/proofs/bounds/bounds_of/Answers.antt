use Rattle.std.proofs.lemmas.List.Filters.{dedup_is}
use Rattle.std.proofs.lemmas.List.Kept.{Contains-dedup_nat}
use Rattle.std.proofs.lemmas.List.Sorted.{Contains-permutation}
use Rattle.std.proofs.lemmas.Map.Keys.{IsStrictlyIncreasing-dedup}
use Rattle.nf_route.proofs.Parting.{AreBounds-more}
use Rattle.nf_route.proofs.bounds.bounds_of.Goals as goal

pub returns-clause-rise : goal.returns-clause-rise
returns-clause-rise c =
    let is = dedup_is _ _ _ c.dedup.ensures.filtered in
    rw is (IsStrictlyIncreasing-dedup _ c.sort_unstable.ensures.sorted)

pub returns-clause-part : goal.returns-clause-part
returns-clause-part c =
    let is = dedup_is _ _ _ c.dedup.ensures.filtered in
    AreBounds-more c.args.entries.now c.in_ok-bounds.bounds.items c.dedup.new.self.items
    (λ bound has. rw is (Contains-dedup_nat _ bound (Contains-permutation _ _ bound c.sort_unstable.ensures.permutation has)))
    c.in_ok-bounds.ensures
