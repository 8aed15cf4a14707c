-- What a role keeps of the frames that left by it.
use Rattle.std.specs.Prelude.{ℕ, ◌+◌, ◌≤◌, vec_len, vec_capacity}
use Rattle.onvm_promises.specs.Kept.{Outcomes}
use Rattle.rx_pass.specs.declared.kept.Kept.{Kept}

-- so many more records and sent frames need no memory
pub record HasRoom (n : ℕ) (kept : Kept) : Type 0 where
  pub records : vec_len kept.records + n ≤ vec_capacity kept.records
  pub sent : vec_len kept.sent + n ≤ vec_capacity kept.sent

-- the lists that are kept
abbrev pub outcomes_of : Kept → Outcomes
outcomes_of kept = record { records = kept.records.items; sent = kept.sent.items }
