-- A feeder takes note of pushes, stretch after stretch.
use Rattle.std.proofs.Common.{◌≡◌, ℕ, ◌<◌, ◌≤◌, [], ◌∷◌, ◌++◌, length, sym, ap, ◌∙◌, subst, refl, arith, append_assoc, length-append}
use Rattle.onvm_core.specs.declared.step.Act.TheVariants.{Push}
use Rattle.onvm_core.specs.declared.step.Item.{Item}
use Rattle.onvm_core.specs.Logs.{Log}
use Rattle.onvm_core.specs.Potential.{pushed_in}
use Rattle.onvm_board.specs.declared.spot.Spot.{Spot}
use Rattle.watermark.specs.Moments.{no_moments, pushed_at}
use Rattle.std.specs.Prelude.{slice_index_or}
use Rattle.std.proofs.lemmas.List.{length-set}
use Rattle.entry_throttle.specs.Feeders.{FeederView, pushed_on_lane}
use Rattle.entry_throttle.specs.Looks.{lane}
use Rattle.entry_throttle.specs.Moments.{KeepsMoments}
use Rattle.entry_throttle.proofs.OtherActs.{moments_grown}
use Rattle.entry_throttle.proofs.Pushes.{moments_after_push}
use Rattle.rx_pass.specs.Noting.{AreMadeAt, HasNoted}

-- acts that push nothing on the feeder's lanes
pub noted_none : (now : ℕ) (added before : Log) (feeder : FeederView)
    → ((f : ℕ) → pushed_in (lane f feeder.number) added ≡ []) → HasNoted now added before feeder feeder
noted_none now added before feeder none = record {
  same = refl;
  long = refl;
  moments = λ moment made was. moments_grown moment feeder added before none was;
}

-- a push
pub noted_push : (now : ℕ) (before : Log) (feeder : FeederView) (f : ℕ) (spot : Spot) (item : Item)
    → f < length feeder.ages → 0 < feeder.high
    → HasNoted now (Push (lane f feeder.number) item ∷ []) before feeder (pushed_on_lane f spot now feeder)
noted_push now before feeder f spot item under some = record {
  same = refl;
  long = length-set feeder.ages f (pushed_at now (slice_index_or feeder.ages f (no_moments 0)));
  moments = λ moment made was.
      moments_after_push moment feeder f now spot item before under some
      (made (length before) (omega arith) (omega arith)) was;
}

pub noted_then : (now : ℕ) (added more before : Log) (a b c : FeederView) → HasNoted now added before a b
    → HasNoted now more (added ++ before) b c → HasNoted now (more ++ added) before a c
noted_then now added more before a b c first second =
    let all = append_assoc more added before in record {
      same =
          second.same
          ∙ ap (λ (x : FeederView). record x { spots = c.spots; ages = c.ages }) first.same;
      long = second.long ∙ first.long;
      moments = λ moment made was.
          let under : (number : ℕ) → number < length (added ++ before) → number < length ((more ++ added) ++ before) =
          λ number less.
          omega (arith, less, ap length all, length-append more (added ++ before)) in
          subst (KeepsMoments moment c) (sym all)
          (second.moments moment
          (λ number from less.
          made number (omega (arith, from, length-append added before))
          (subst (λ (l : Log). number < length l) (sym all) less))
          (first.moments moment (λ number from less. made number from (under number less)) was));
    }
