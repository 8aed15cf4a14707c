use Rattle.std.proofs.Common.{◌≡◌, []}
use Rattle.desc_ring.specs.Ends.{IsHeadOf}
use Rattle.entry_throttle.proofs.tests.drain.Given as goal

abbrev pub invariant-loop : goal.invariant-loop
invariant-loop l = record { head : IsHeadOf l.board l.head l.token; empty_handed : l.token.hand ≡ [] }
