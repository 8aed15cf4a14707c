-- Classes of acts, with a constructor for each act that may come, and logs of them.
use Rattle.std.specs.Prelude.{ℕ, ◌<◌, [], ◌∷◌, Option, None}
use Rattle.onvm_base.specs.declared.ids.BufId.{BufId}
use Rattle.onvm_base.specs.declared.ids.FnId.{FnId}
use Rattle.onvm_base.specs.declared.ids.PortId.{PortId}
use Rattle.onvm_base.specs.declared.ids.RingId.TheVariants.{Lane, Output}
use Rattle.onvm_base.specs.declared.outcome.Outcome.{Outcome}
use Rattle.onvm_base.specs.declared.outcome.Record.{Record}
use Rattle.onvm_core.specs.declared.layout.Word.TheVariants.{Pool as PoolWord, Cell, Post as PostWord}
use Rattle.onvm_core.specs.declared.parcel.Parcel.{Parcel}
use Rattle.onvm_core.specs.declared.step.Act.{Act}
use Rattle.onvm_core.specs.declared.step.Act.TheVariants.{Take, Give, Push, Full, Pop, Empty, Look, Post}
use Rattle.onvm_core.specs.declared.step.Item.{Item}
use Rattle.onvm_core.specs.Logs.{Log, Setting}

-- of a marks pass
pub data IsMarkStep (setting : Setting) (feeder : ℕ) : Act → Type 0 where
  ALook : (f : FnId) (at seen : ℕ) → f.0 < setting.layout.functions → at < setting.layout.ring
      → IsMarkStep setting feeder (Look (Cell (Lane f feeder) at) seen None)
  APost : (value : ℕ) → IsMarkStep setting feeder (Post (PostWord feeder) value)

abbrev pub AreMarkSteps : Setting → ℕ → Log → Type 0
AreMarkSteps setting feeder [] = Unit {0}
AreMarkSteps setting feeder (act ∷ before) = IsMarkStep setting feeder act × AreMarkSteps setting feeder before

-- of a block of a receive role
pub data IsBlockStep : Act → Type 0 where
  AnAsk : (feeder seen : ℕ) (told : Option Record) → IsBlockStep (Look (PostWord feeder) seen told)
  ASeek : (port : PortId) (index seen : ℕ) (told : Option Record) → IsBlockStep (Look (PoolWord port index) seen told)
  ATake : (buf : BufId) → IsBlockStep (Take buf)
  APush : (f : FnId) (feeder : ℕ) (item : Item) → IsBlockStep (Push (Lane f feeder) item)
  AFull : (f : FnId) (feeder : ℕ) → IsBlockStep (Full (Lane f feeder))
  AGive : (buf : BufId) (outcome : Outcome) (parcel : Parcel) → IsBlockStep (Give buf outcome parcel)

abbrev pub AreBlockSteps : Log → Type 0
AreBlockSteps [] = Unit {0}
AreBlockSteps (act ∷ before) = IsBlockStep act × AreBlockSteps before

-- of a transmit role that moves parcels from the output rings of functions that pass this test
pub data IsMoveStep (may : FnId → Type 0) : Act → Type 0 where
  APop : (f : FnId) (item : Item) → may f → IsMoveStep may (Pop (Output f) item)
  AnEmpty : (f : FnId) → may f → IsMoveStep may (Empty (Output f))
  APush : (f : FnId) (feeder : ℕ) (item : Item) → IsMoveStep may (Push (Lane f feeder) item)
  AFull : (f : FnId) (feeder : ℕ) → IsMoveStep may (Full (Lane f feeder))
  AGive : (buf : BufId) (outcome : Outcome) (parcel : Parcel) → IsMoveStep may (Give buf outcome parcel)

abbrev pub AreMoveSteps : (FnId → Type 0) → Log → Type 0
AreMoveSteps may [] = Unit {0}
AreMoveSteps may (act ∷ before) = IsMoveStep may act × AreMoveSteps may before
