-- The machine is the search back.
use Rattle.std.proofs.Common.{◌≡◌, ℕ, Bool, true, false, List, [], ◌∷◌, refl, ap, ◌∙◌}
use Rattle.std.specs.Prelude.{◌&&◌, ◌||◌}
use Rattle.onvm_core.specs.Marks.{MarkEvents, Ages, is_throttled, finds, pass_count}
use Rattle.onvm_core.specs.Marks.MarkEvent.{Passed, Posted}
use Rattle.watermark.specs.declared.mark.Mark.{Mark}
use Rattle.watermark.specs.declared.mark.Mark.TheVariants.{Calm, Watch, Throttle}
use Rattle.watermark.specs.Marks.{Reading, is_throttle, next_mark, mark_of, readings_of, is_raised}

after_by : (old : Mark) (high low old_enough : Bool)
    → is_throttle (next_mark old (record { high = high; low = low; aged = old_enough }))
    ≡ (low && ((high && old_enough) || is_throttle old))
after_by Calm true true true = refl
after_by Calm true true false = refl
after_by Calm false true true = refl
after_by Calm false true false = refl
after_by Calm true false true = refl
after_by Calm true false false = refl
after_by Calm false false true = refl
after_by Calm false false false = refl
after_by Watch true true true = refl
after_by Watch true true false = refl
after_by Watch false true true = refl
after_by Watch false true false = refl
after_by Watch true false true = refl
after_by Watch true false false = refl
after_by Watch false false true = refl
after_by Watch false false false = refl
after_by Throttle true true true = refl
after_by Throttle true true false = refl
after_by Throttle false true true = refl
after_by Throttle false true false = refl
after_by Throttle true false true = refl
after_by Throttle true false false = refl
after_by Throttle false false true = refl
after_by Throttle false false false = refl

pub throttle_after : (old : Mark) (reading : Reading)
    → is_throttle (next_mark old reading)
    ≡ (reading.low && ((reading.high && reading.aged) || is_throttle old))
throttle_after old reading = after_by old reading.high reading.low reading.aged

pub throttle_is : (readings : List Reading) → is_throttle (mark_of readings) ≡ is_raised readings
throttle_is [] = refl
throttle_is (reading ∷ before) =
    throttle_after (mark_of before) reading
    ∙ ap (λ (b : Bool). reading.low && ((reading.high && reading.aged) || b)) (throttle_is before)

pub throttled_is : (aged : Ages) (f : ℕ) (events : MarkEvents)
    → is_throttle (mark_of (readings_of aged f events)) ≡ is_throttled aged f events
throttled_is aged f [] = refl
throttled_is aged f (Passed pass ∷ before) =
    throttle_after (mark_of (readings_of aged f before))
    (record { high = finds true f pass; low = finds false f pass; aged = aged (pass_count before) f })
    ∙ ap (λ (b : Bool). finds false f pass && ((finds true f pass && aged (pass_count before) f) || b))
    (throttled_is aged f before)
throttled_is aged f (Posted value ∷ before) = throttled_is aged f before
