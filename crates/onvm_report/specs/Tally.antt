-- A tally that grows by a record.
use Rattle.std.specs.Prelude.{ℕ, ◌+◌}
use Rattle.onvm_base.specs.declared.outcome.Why.TheVariants.{Asked, ChainEnd, NoService, NoPort, Hops}
use Rattle.onvm_base.specs.declared.outcome.Outcome.{Outcome}
use Rattle.onvm_base.specs.declared.outcome.Outcome.TheVariants.{Sent, Dropped, Throttled, RingFull, PoolEmpty}
use Rattle.onvm_report.specs.declared.tally.Tally.{Tally}

abbrev pub total : Tally → ℕ
total tally =
    tally.sent + tally.asked + tally.chain_end + tally.no_service + tally.no_port + tally.hops + tally.throttled
    + tally.ring_full + tally.pool_empty

-- one record more of this outcome
abbrev pub one_more : Outcome → Tally → Tally
one_more (Sent port) tally = record tally { sent = tally.sent + 1 }
one_more (Dropped f Asked) tally = record tally { asked = tally.asked + 1 }
one_more (Dropped f ChainEnd) tally = record tally { chain_end = tally.chain_end + 1 }
one_more (Dropped f NoService) tally = record tally { no_service = tally.no_service + 1 }
one_more (Dropped f NoPort) tally = record tally { no_port = tally.no_port + 1 }
one_more (Dropped f Hops) tally = record tally { hops = tally.hops + 1 }
one_more (Throttled feeder post f) tally = record tally { throttled = tally.throttled + 1 }
one_more (RingFull ring) tally = record tally { ring_full = tally.ring_full + 1 }
one_more PoolEmpty tally = record tally { pool_empty = tally.pool_empty + 1 }
