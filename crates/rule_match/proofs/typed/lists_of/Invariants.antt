use Rattle.std.proofs.Common.{◌≡◌, take}
use Rattle.rule_match.specs.Parts.{lists_by_type}
use Rattle.rule_match.proofs.typed.lists_of.Given as goal

-- the lists so far are of the types that were looked at
abbrev pub invariant-loop-ethertype : goal.invariant-loop-ethertype
invariant-loop-ethertype l = l.lists.items ≡ lists_by_type l.rules (take l.ethertype-index l.types)
