use Rattle.std.proofs.Common.{◌≡◌, length}
use Rattle.rule_match.specs.Parts.{ArePartedByPort}
use Rattle.rule_match.proofs.compiled.rules_by_port.Given as goal

-- the rules of the ports so far
abbrev pub invariant-loop-port : goal.invariant-loop-port
invariant-loop-port l = record {
  count : length l.ports.items ≡ l.port;
  parted : ArePartedByPort l.rules l.ports.items;
}
