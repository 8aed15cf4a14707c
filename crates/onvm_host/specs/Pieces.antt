-- How many bytes one call moves.
use Rattle.std.specs.Prelude.{ℕ, ◌==◌, if◌then◌else◌, min}

-- at most so many of the bytes, or all of them where it is 0
abbrev pub at_most : ℕ → ℕ → ℕ
at_most piece count = if piece == 0 then count else min piece count
