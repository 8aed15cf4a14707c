-- What puts and says appended together, and where they ended.
use Rattle.std.specs.Prelude.{◌≡◌, ◌⊎◌, ℕ, ◌<◌, List, [], ◌∷◌, ◌++◌, length, map, Option, None}
use Rattle.std.specs.Io.KnownBytes.{Appends}
use Rattle.onvm_host.specs.Deeds.{Amounts, Deed, Said}
use Rattle.onvm_host.specs.Moved.{Moved}

-- calls that append appended all of these bytes
pub record AppendsAll (old new : Option (List ℕ)) (amounts : Amounts) (whole : List ℕ) : Type 0 where
  pub appended : Appends old new whole
  pub moved : Moved (length whole) amounts

-- they appended a front of these bytes, and then one failed, which was the last
pub record AppendsPart (old new : Option (List ℕ)) (amounts : Amounts) (whole : List ℕ) : Type 0 where
  pub front : List ℕ
  pub rest : List ℕ
  pub split : whole ≡ front ++ rest
  pub some : 0 < length rest
  pub appended : Appends old new front
  pub earlier : Amounts
  pub in_order : amounts ≡ earlier ++ None ∷ []
  pub moved : Moved (length front) earlier

-- an output took all of these bytes, or a part of them, in puts behind the earlier ones
abbrev pub PutsAll : Option (List ℕ) → Option (List ℕ) → Amounts → Amounts → List ℕ → Type 0
PutsAll old new before now whole = (puts : Amounts) × (now ≡ before ++ puts) × AppendsAll old new puts whole

abbrev pub PutsPart : Option (List ℕ) → Option (List ℕ) → Amounts → Amounts → List ℕ → Type 0
PutsPart old new before now whole = (puts : Amounts) × (now ≡ before ++ puts) × AppendsPart old new puts whole

-- a host said all of these bytes, or a part of them, in calls behind the earlier ones
abbrev pub SaysAll : Option (List ℕ) → Option (List ℕ) → List Deed → List Deed → List ℕ → Type 0
SaysAll old new before now whole = (says : Amounts) × (now ≡ before ++ map Said says) × AppendsAll old new says whole

abbrev pub SaysPart : Option (List ℕ) → Option (List ℕ) → List Deed → List Deed → List ℕ → Type 0
SaysPart old new before now whole = (says : Amounts) × (now ≡ before ++ map Said says) × AppendsPart old new says whole

-- a host said all of these bytes, or as much of them as it said before one of the calls failed
abbrev pub SaysOnce : Option (List ℕ) → Option (List ℕ) → List Deed → List Deed → List ℕ → Type 0
SaysOnce old new before now whole = SaysAll old new before now whole ⊎ SaysPart old new before now whole
