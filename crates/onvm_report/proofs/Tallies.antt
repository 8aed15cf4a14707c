-- The tally of some records and of one more.
use Rattle.std.proofs.Common.{◌≡◌, refl, sym, arith, ℕ, ◌+◌, ◌==◌, ◌<◌, Bool, true, false, List, length, take, get_or}
use Rattle.std.proofs.lemmas.List.Sums.{count_by_more_yes, count_by_more_no}
use Rattle.onvm_base.specs.declared.outcome.Why.TheVariants.{Asked, ChainEnd, NoService, NoPort, Hops}
use Rattle.onvm_base.specs.declared.outcome.Outcome.{Outcome}
use Rattle.onvm_base.specs.declared.outcome.Outcome.TheVariants.{Sent, Dropped, Throttled, RingFull, PoolEmpty}
use Rattle.onvm_base.specs.declared.outcome.Record.{Record}
use Rattle.onvm_report.specs.declared.tally.Tally.{Tally}
use Rattle.onvm_report.specs.Report.{row_of, counted, tally_of}
use Rattle.onvm_report.specs.Tally.{one_more, total}

abbrev one_if : Bool → ℕ → ℕ
one_if true n = n + 1
one_if false n = n

counted_by : (row : ℕ) (records : List Record) (i : ℕ) (item : Record) → i < length records
    → (b : Bool) → (row_of (get_or records i item).outcome == row) ≡ b
    → counted row (take (i + 1) records) ≡ one_if b (counted row (take i records))
counted_by row records i item within true it =
    count_by_more_yes (λ (x : Record). row_of x.outcome == row) records i item within it
counted_by row records i item within false not_it =
    count_by_more_no (λ (x : Record). row_of x.outcome == row) records i item within not_it

by_row : (o : Outcome) (before after : List Record)
    → ((row : ℕ) → counted row after ≡ one_if (row_of o == row) (counted row before))
    → one_more o (tally_of before) ≡ tally_of after
by_row (Sent port) before after each = λ i. record {
  sent = sym (each 0) i;
  asked = sym (each 1) i;
  chain_end = sym (each 2) i;
  no_service = sym (each 3) i;
  no_port = sym (each 4) i;
  hops = sym (each 5) i;
  throttled = sym (each 6) i;
  ring_full = sym (each 7) i;
  pool_empty = sym (each 8) i;
}
by_row (Dropped f Asked) before after each = λ i. record {
  sent = sym (each 0) i;
  asked = sym (each 1) i;
  chain_end = sym (each 2) i;
  no_service = sym (each 3) i;
  no_port = sym (each 4) i;
  hops = sym (each 5) i;
  throttled = sym (each 6) i;
  ring_full = sym (each 7) i;
  pool_empty = sym (each 8) i;
}
by_row (Dropped f ChainEnd) before after each = λ i. record {
  sent = sym (each 0) i;
  asked = sym (each 1) i;
  chain_end = sym (each 2) i;
  no_service = sym (each 3) i;
  no_port = sym (each 4) i;
  hops = sym (each 5) i;
  throttled = sym (each 6) i;
  ring_full = sym (each 7) i;
  pool_empty = sym (each 8) i;
}
by_row (Dropped f NoService) before after each = λ i. record {
  sent = sym (each 0) i;
  asked = sym (each 1) i;
  chain_end = sym (each 2) i;
  no_service = sym (each 3) i;
  no_port = sym (each 4) i;
  hops = sym (each 5) i;
  throttled = sym (each 6) i;
  ring_full = sym (each 7) i;
  pool_empty = sym (each 8) i;
}
by_row (Dropped f NoPort) before after each = λ i. record {
  sent = sym (each 0) i;
  asked = sym (each 1) i;
  chain_end = sym (each 2) i;
  no_service = sym (each 3) i;
  no_port = sym (each 4) i;
  hops = sym (each 5) i;
  throttled = sym (each 6) i;
  ring_full = sym (each 7) i;
  pool_empty = sym (each 8) i;
}
by_row (Dropped f Hops) before after each = λ i. record {
  sent = sym (each 0) i;
  asked = sym (each 1) i;
  chain_end = sym (each 2) i;
  no_service = sym (each 3) i;
  no_port = sym (each 4) i;
  hops = sym (each 5) i;
  throttled = sym (each 6) i;
  ring_full = sym (each 7) i;
  pool_empty = sym (each 8) i;
}
by_row (Throttled feeder post f) before after each = λ i. record {
  sent = sym (each 0) i;
  asked = sym (each 1) i;
  chain_end = sym (each 2) i;
  no_service = sym (each 3) i;
  no_port = sym (each 4) i;
  hops = sym (each 5) i;
  throttled = sym (each 6) i;
  ring_full = sym (each 7) i;
  pool_empty = sym (each 8) i;
}
by_row (RingFull ring) before after each = λ i. record {
  sent = sym (each 0) i;
  asked = sym (each 1) i;
  chain_end = sym (each 2) i;
  no_service = sym (each 3) i;
  no_port = sym (each 4) i;
  hops = sym (each 5) i;
  throttled = sym (each 6) i;
  ring_full = sym (each 7) i;
  pool_empty = sym (each 8) i;
}
by_row PoolEmpty before after each = λ i. record {
  sent = sym (each 0) i;
  asked = sym (each 1) i;
  chain_end = sym (each 2) i;
  no_service = sym (each 3) i;
  no_port = sym (each 4) i;
  hops = sym (each 5) i;
  throttled = sym (each 6) i;
  ring_full = sym (each 7) i;
  pool_empty = sym (each 8) i;
}

pub tally_more : (records : List Record) (i : ℕ) (item : Record) → i < length records
    → one_more (get_or records i item).outcome (tally_of (take i records)) ≡ tally_of (take (i + 1) records)
tally_more records i item within =
    by_row (get_or records i item).outcome (take i records) (take (i + 1) records)
    (λ row. counted_by row records i item within (row_of (get_or records i item).outcome == row) refl)

pub total_more : (o : Outcome) (tally : Tally) → total (one_more o tally) ≡ total tally + 1
total_more (Sent port) tally = omega arith
total_more (Dropped f Asked) tally = omega arith
total_more (Dropped f ChainEnd) tally = omega arith
total_more (Dropped f NoService) tally = omega arith
total_more (Dropped f NoPort) tally = omega arith
total_more (Dropped f Hops) tally = omega arith
total_more (Throttled feeder post f) tally = omega arith
total_more (RingFull ring) tally = omega arith
total_more PoolEmpty tally = omega arith
