-- The moments of a lane's last pushes.
use Rattle.std.specs.Prelude.{◌≡◌, ◌≤◌, ℕ, ◌-◌, List, [], ◌∷◌, ◌++◌, length, drop, slice_get, unwrap_or}
use Rattle.circular_buffer.specs.Buffer.{Buffer}

-- the high mark, and the moments of the last pushes: as many at most, the oldest first
pub record PushMoments : Type 0 where
  pub high : ℕ
  pub moments : List ℕ

-- the last n of a list
abbrev pub last_of : ℕ → List ℕ → List ℕ
last_of n xs = drop (length xs - n) xs

-- no push yet
abbrev pub no_moments : (high : ℕ) → PushMoments
no_moments high = record { high = high; moments = [] }

-- after one more push
abbrev pub pushed_at : (now : ℕ) → PushMoments → PushMoments
pushed_at now kept = record { high = kept.high; moments = last_of kept.high (kept.moments ++ now ∷ []) }

-- the moment of the oldest push that is kept
abbrev pub oldest_of : PushMoments → ℕ
oldest_of kept = unwrap_or (slice_get kept.moments 0) 0

-- how long ago that was, 0 where it is negative
abbrev pub age_of : (now : ℕ) → PushMoments → ℕ
age_of now kept = now - oldest_of kept

-- what keeps them
pub record AreMoments (high : ℕ) (moments : Buffer ℕ) : Type 0 where
  pub room : moments.capacity ≡ high
  pub few : length moments.items ≤ high
  pub some : 1 ≤ high

-- what is kept after pushes at these moments, the oldest first
abbrev pub with_pushes : PushMoments → List ℕ → PushMoments
with_pushes kept [] = kept
with_pushes kept (now ∷ later) = with_pushes (pushed_at now kept) later

abbrev pub after_pushes : (high : ℕ) → List ℕ → PushMoments
after_pushes high moments = with_pushes (no_moments high) moments
