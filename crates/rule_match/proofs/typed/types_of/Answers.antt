use Rattle.std.proofs.Common.{sym, subst, ℕ, List}
use Rattle.std.specs.List.{Contains}
use Rattle.std.proofs.lemmas.List.Filters.{dedup_is}
use Rattle.std.proofs.lemmas.List.Kept.{Contains-dedup_nat}
use Rattle.std.proofs.lemmas.List.Sorted.{Contains-permutation}
use Rattle.std.proofs.lemmas.Map.Keys.{IsStrictlyIncreasing-dedup}
use Rattle.rule_match.proofs.Parted.{Contains-asked}
use Rattle.rule_match.proofs.typed.types_of.Goals as goal

pub returns : goal.returns
returns c =
    let is = dedup_is _ _ _ c.dedup.ensures.filtered in
    rw is (record {
      rise = IsStrictlyIncreasing-dedup _ c.sort_unstable.ensures.sorted;
      asked = λ rule ethertype has asks.
          Contains-dedup_nat _ ethertype
          (Contains-permutation _ _ ethertype c.sort_unstable.ensures.permutation
          (subst (λ (l : List ℕ). Contains l ethertype) (sym c.in_ok-types.ensures)
          (Contains-asked c.args.rules.now rule ethertype has asks)));
    })
