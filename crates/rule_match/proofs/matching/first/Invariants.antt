use Rattle.std.proofs.Common.{◌≡◌, drop}
use Rattle.rule_match.specs.Rules.{first_chain}
use Rattle.rule_match.proofs.matching.first.Given as goal

-- what the rules that are left pick is what all pick
abbrev pub invariant-loop-rule : goal.invariant-loop-rule
invariant-loop-rule l = first_chain (drop l.rule-index l.rule-items) l.port l.heads ≡ first_chain l.fn.rules l.port l.heads
