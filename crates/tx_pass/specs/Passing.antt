-- What the moves of a transmit pass add to a role's log.
use Rattle.std.specs.Prelude.{ℕ, ◌≡◌, ◌<◌, ◌≤◌, Bool, true, []}
use Rattle.onvm_base.specs.declared.ids.FnId.{FnId}
use Rattle.onvm_base.specs.declared.ids.RingId.TheVariants.{Output}
use Rattle.onvm_base.specs.declared.plan.Plan.{Plan}
use Rattle.onvm_core.specs.Layouts.{consumer}
use Rattle.onvm_core.specs.Logs.{Log}
use Rattle.onvm_core.specs.Places.{how_many}
use Rattle.onvm_core.specs.Sending.SendPhase.{Free}
use Rattle.onvm_board.specs.Tokens.{BoardView, TokenView, grown}
use Rattle.onvm_promises.specs.Acts.{AreMoveSteps}
use Rattle.onvm_promises.specs.Answers.{is_moved}
use Rattle.onvm_promises.specs.Kept.{Told}
use Rattle.onvm_promises.specs.Passes.{IsDrained, is_pop_of, ran_dry}
use Rattle.tx_pass.specs.declared.outlet.Outlet.{Outlet}
use Rattle.tx_pass.specs.Keeping.{outcomes_of}
use Rattle.tx_pass.specs.Moving.{GoFrom}
use Rattle.tx_pass.specs.Noting.{HasNoted}

-- the token made these moves at this moment, from empty hands to empty hands
pub record IsStretch (site : BoardView) (plan : Plan) (now : ℕ) (added : Log) (before after : TokenView)
    (old new : Outlet) : Type 0 where
  pub grew : after ≡ grown added [] before
  pub told : Told added (outcomes_of old.kept) (outcomes_of new.kept)
  pub noted : HasNoted now added before.log old.feeder new.feeder
  pub goes : GoFrom site.layout plan before.role Free added

-- so many parcels of one function were moved, and then its ring was found empty, where it is said so
pub record IsDrain (site : BoardView) (plan : Plan) (now : ℕ) (f : FnId) (n : ℕ) (dry : Bool)
    (before after : TokenView) (old new : Outlet) : Type 0 where
  pub added : Log
  pub stretch : IsStretch site plan now added before after old new
  pub steps : AreMoveSteps (λ g. g.0 ≡ f.0) added
  pub pops : how_many (is_pop_of (Output f)) added ≡ n
  pub moves : how_many is_moved added ≡ n
  pub dries : dry ≡ true → ran_dry (Output f) added ≡ true

-- so many parcels were moved, and the output rings below `upto` that the role reads were drained
pub record AreDrained (site : BoardView) (plan : Plan) (now : ℕ) (upto : ℕ) (n : ℕ) (before after : TokenView)
    (old new : Outlet) : Type 0 where
  pub added : Log
  pub stretch : IsStretch site plan now added before after old new
  pub steps : AreMoveSteps (λ f. f.0 < upto) added
  pub moves : how_many is_moved added ≡ n
  pub few : (f : FnId) → how_many (is_pop_of (Output f)) added ≤ plan.burst
  pub drained : (f : FnId) → f.0 < upto → consumer site.layout (Output f) ≡ before.role
      → IsDrained (Output f) plan.burst added
