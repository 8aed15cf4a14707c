-- How many bytes calls moved together, and where takes ended.
use Rattle.std.specs.Prelude.{◌≡◌, ℕ, ◌+◌, ◌<◌, [], ◌∷◌, ◌++◌, Option, Some, None}
use Rattle.onvm_host.specs.Deeds.{Amounts}

-- each call moved at least one byte, and all together so many
abbrev pub Moved : ℕ → Amounts → Type 0
Moved bytes [] = bytes ≡ 0
Moved bytes (None ∷ amounts) = ⊥
Moved bytes (Some count ∷ amounts) = (rest : ℕ) × (0 < count) × (bytes ≡ count + rest) × Moved rest amounts

-- calls that all moved bytes came behind the earlier ones, so many together
abbrev pub MovedSince : ℕ → Amounts → Amounts → Type 0
MovedSince bytes before now = (amounts : Amounts) × (now ≡ before ++ amounts) × Moved bytes amounts

-- the last take answered this. Each one before it gave at least one byte, and together they gave
-- fewer than the limit
pub record IsReading (limit : ℕ) (last : Option ℕ) (takes : Amounts) : Type 0 where
  pub earlier : Amounts
  pub bytes : ℕ
  pub in_order : takes ≡ earlier ++ last ∷ []
  pub moved : Moved bytes earlier
  pub fewer : bytes < limit

-- such takes came behind the earlier ones
abbrev pub Reads : ℕ → Option ℕ → Amounts → Amounts → Type 0
Reads limit last before now = (takes : Amounts) × (now ≡ before ++ takes) × IsReading limit last takes
