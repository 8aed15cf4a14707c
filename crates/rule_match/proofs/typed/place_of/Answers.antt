use Rattle.rule_match.proofs.Parted.{found_place}
use Rattle.rule_match.proofs.typed.place_of.Goals as goal

pub returns : goal.returns
returns c =
    rw (c.ok.ensures.value, c.in_ok-ethertype.was)
    (found_place c.args.types.now _ _ c.requires c.binary_search.ensures.position)
