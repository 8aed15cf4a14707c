-- An intake: its feed, and where its port stands with it.
use Rattle.std.specs.Prelude.{ℕ, ◌≡◌, List, Option}
use Rattle.rx_feed.specs.Standing.{Standing}

pub record IntakeView (F : Type 0) : Type 0 where
  pub feed : Option F
  pub standing : Standing
