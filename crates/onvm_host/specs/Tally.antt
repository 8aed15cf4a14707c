-- Calls that are counted, and which of them fail.
use Rattle.std.specs.Prelude.{◌≡◌, ◌⊎◌, ◌<◌, ◌+◌, ◌-◌, ◌^◌, ◌==◌, ℕ, Bool, IsTrue, List, length, min}
use Rattle.std.specs.List.{list_any}
use Rattle.onvm_host.specs.declared.memory.tally.Tally.{Tally}

-- of no call yet, with the numbers of those that fail
abbrev pub fresh : List ℕ → Tally
fresh fail = record { fail = fail; calls = 0 }

-- the number of the next call, as far as a u64 counts
abbrev pub next_call : Tally → ℕ
next_call tally = min (tally.calls + 1) (2 ^ 64 - 1)

-- whether the next call is one of those that fail
abbrev pub fails_next : Tally → Bool
fails_next tally = list_any (λ number. number == next_call tally) tally.fail

-- with the next call counted
abbrev pub counted : Tally → Tally
counted tally = record { fail = tally.fail; calls = next_call tally }

-- a piece is refused where the call is one of those that fail, or where no byte of it has space
abbrev pub Refuses : Tally → ℕ → List ℕ → Type 0
Refuses tally space piece = IsTrue (fails_next tally) ⊎ ((0 < length piece) × (space ≡ 0))
