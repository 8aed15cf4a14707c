-- What a feeder knows of its lanes, and what a marks pass finds in them.
use Rattle.std.specs.Prelude.{ℕ, ◌≡◌, ◌-◌, ◌<◌, ◌≤◌, Bool, true, false, nat_le, min, List, ◌++◌, length, Option, Some, None, slice_index_or}
use Rattle.onvm_base.specs.declared.ids.RingId.{RingId}
use Rattle.onvm_core.specs.declared.layout.Layout.{Layout}
use Rattle.onvm_core.specs.declared.layout.Word.{Word}
use Rattle.onvm_core.specs.Logs.{Log, Setting, push_count}
use Rattle.onvm_core.specs.Marks.{Ages, Pass, finds, looks_from, looks_of_pass, mark_events, pass_count}
use Rattle.onvm_board.specs.declared.spot.Spot.{Spot}
use Rattle.onvm_board.specs.Known.{post_count_in}
use Rattle.onvm_board.specs.Tokens.{BoardView, TokenView, IsTail}
use Rattle.onvm_promises.specs.Acts.{AreMarkSteps}
use Rattle.watermark.specs.declared.mark.Mark.{Mark}
use Rattle.watermark.specs.Marks.{next_mark}
use Rattle.watermark.specs.Moments.{PushMoments, age_of, no_moments}
use Rattle.entry_throttle.specs.Looks.{acts_of, lane, looks_then}
use Rattle.entry_throttle.specs.Throttles.{mark_at}

-- the setting is of this layout, and its plan has these marks and this age
pub record HasMarks (setting : Setting) (layout : Layout) (high low age : ℕ) : Type 0 where
  pub same : setting.layout ≡ layout
  pub high_is : setting.plan.high ≡ high
  pub low_is : setting.plan.low ≡ low
  pub age_is : setting.plan.age ≡ age

-- Ends and moments

-- the token's own end of a lane. Before the first push none is kept
abbrev pub IsOwnEnd : BoardView → RingId → Option Spot → TokenView → Type 0
IsOwnEnd board ring None token = push_count ring token.log ≡ 0
IsOwnEnd board ring (Some spot) token = (spot.ring ≡ ring) × IsTail board spot token

-- these are the token's own ends of its lanes, in order of functions
abbrev pub AreOwnEnds : BoardView → List (Option Spot) → TokenView → Type 0
AreOwnEnds board spots token =
    (f : ℕ) (d : Option Spot) → f < length spots
    → IsOwnEnd board (lane f token.role) (slice_index_or spots f d) token

-- of a lane's last pushes so many moments are kept: all, and at most as many as the high mark
pub record KeepsEnough (token : TokenView) (f high : ℕ) (kept : PushMoments) : Type 0 where
  pub high_is : kept.high ≡ high
  pub counted : length kept.moments ≡ min (push_count (lane f token.role) token.log) high
  pub many : high ≤ push_count (lane f token.role) token.log → length kept.moments ≡ high

-- whether a lane's queuing time is at least the age, by the moments that are kept
abbrev pub is_aged : Setting → List PushMoments → (now f : ℕ) → Bool
is_aged setting ages now f = nat_le setting.plan.age (age_of now (slice_index_or ages f (no_moments 0)))

-- at this moment the answers on the age in the pass that comes next are those of the moments that are kept. A lane with
-- fewer pushes than its high mark has no queuing time
abbrev pub AreTimely : Setting → (feeder : ℕ) → Ages → List PushMoments → (now : ℕ) → Log → Type 0
AreTimely setting feeder aged ages now log =
    (f : ℕ) → f < setting.layout.functions → setting.plan.high ≤ push_count (lane f feeder) log
    → aged (pass_count (mark_events setting feeder log)) f ≡ is_aged setting ages now f

-- A pass

-- the high mark of a plan (true), or the low one
abbrev pub mark_of_plan : Setting → Bool → ℕ
mark_of_plan setting true = setting.plan.high
mark_of_plan setting false = setting.plan.low

-- a pass has read the lanes of so many first functions: its looks, and the marks by what they found
pub record HasReadLanes (setting : Setting) (feeder : ℕ) (ages : List PushMoments) (now count : ℕ)
    (old new : List Mark) (before after : Log) : Type 0 where
  pub found : Pass
  pub grew : after ≡ acts_of feeder found ++ before
  pub asks : looks_then found (looks_from setting feeder before count (setting.layout.functions - count))
      ≡ looks_of_pass setting feeder before
  pub are_marks : AreMarkSteps setting feeder (acts_of feeder found)
  pub few : (is_high : Bool) (f : ℕ) → push_count (lane f feeder) before < mark_of_plan setting is_high
      → finds is_high f found ≡ false
  pub later : (is_high : Bool) (f : ℕ) → count ≤ f → finds is_high f found ≡ false
  pub judged : (f : ℕ) → f < count → mark_at new f ≡ next_mark (mark_at old f) (record {
    high = finds true f found;
    low = finds false f found;
    aged = is_aged setting ages now f;
  })
  pub others : (f : ℕ) → count ≤ f → mark_at new f ≡ mark_at old f
  pub as_long : length new ≡ length old

-- what looks leave as it was
pub record OnlyLooked (before after : TokenView) : Type 0 where
  pub board : after.board ≡ before.board
  pub role : after.role ≡ before.role
  pub hand : after.hand ≡ before.hand
  pub pushes : (r : RingId) → push_count r after.log ≡ push_count r before.log
  pub posts : (w : Word) → post_count_in w after.log ≡ post_count_in w before.log
