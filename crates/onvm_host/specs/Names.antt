-- The names that may be opened and created.
use Rattle.std.specs.Prelude.{ℕ, List}

-- the same names may be opened, and the same ones created, before and after
pub record SameNames (may_open may_create may_open' may_create' : List ℕ → Type 0) : Type 0 where
  pub still_opens : (name : List ℕ) → may_open name → may_open' name
  pub opened_before : (name : List ℕ) → may_open' name → may_open name
  pub still_creates : (name : List ℕ) → may_create name → may_create' name
  pub created_before : (name : List ℕ) → may_create' name → may_create name
