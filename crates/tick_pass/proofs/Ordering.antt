-- Samples that are taken function by function stand in the order of their functions.
use Rattle.std.proofs.Common.{◌≡◌, ℕ, ◌<◌, ◌≤◌, List, [], ◌∷◌, ◌++◌, subst, sym, arith}
use Rattle.onvm_base.specs.declared.ids.FnId.{FnId}
use Rattle.onvm_core.specs.declared.step.Act.{Act}
use Rattle.onvm_core.specs.Logs.{Log}
use Rattle.load_estimate.specs.declared.sample.Sample.{Sample}
use Rattle.onvm_promises.specs.Kept.{kept_now, samples_by}
use Rattle.onvm_promises.proofs.Keeping.{kept_append}
use Rattle.tick_pass.specs.Taking.{AreInOrder, AreTakes, IsTake}
use Rattle.tick_pass.specs.Taking.IsTake.{ASample, NoSample}

-- of functions that pass the test
abbrev AreOf : (may : FnId → Type 0) → List Sample → Type 0
AreOf may [] = Unit {0}
AreOf may (sample ∷ samples) = may sample.function × AreOf may samples

of_append : (may : FnId → Type 0) (xs ys : List Sample) → AreOf may xs → AreOf may ys → AreOf may (xs ++ ys)
of_append may [] ys first second = second
of_append may (x ∷ xs) ys first second = (first.0, of_append may xs ys first.1 second)

of_one : (may : FnId → Type 0) (now : ℕ) (act : Act) → IsTake may act → AreOf may (samples_by now act)
of_one may now act (ASample f n is) = (is, tt)
of_one may now act (NoSample f is) = tt

of_takes : (may : FnId → Type 0) (now : ℕ) (log : Log) → AreTakes may log → AreOf may (kept_now samples_by now log)
of_takes may now [] are = tt
of_takes may now (act ∷ log) are =
    of_append may (kept_now samples_by now log) (samples_by now act) (of_takes may now log are.1)
    (of_one may now act are.0)

-- behind samples of the functions below f stand those of f
order_then : (from : ℕ) (f : FnId) (samples more : List Sample) → from ≤ f.0 → AreInOrder from samples
    → AreOf (λ g. g.0 < f.0) samples → AreOf (λ g. g ≡ f) more → AreInOrder from (samples ++ more)
order_then from f [] [] least ordered below own = tt
order_then from f [] (x ∷ xs) least ordered below own =
    let same : x.function.0 ≡ f.0 = (λ i. (own.0 i).0) in (
      omega (arith, least, same),
      order_then x.function.0 f [] xs (omega (arith, same)) tt tt own.1,
    )
order_then from f (x ∷ xs) more least ordered below own =
    (ordered.0, order_then x.function.0 f xs more (omega (arith, below.0)) ordered.1 below.1 own)

pub ordered_next : (f : FnId) (now : ℕ) (before added : Log) → AreTakes (λ g. g.0 < f.0) before
    → AreTakes (λ g. g ≡ f) added → AreInOrder 0 (kept_now samples_by now before)
    → AreInOrder 0 (kept_now samples_by now (added ++ before))
ordered_next f now before added below own ordered =
    subst (AreInOrder 0) (sym (kept_append samples_by now before added))
    (order_then 0 f (kept_now samples_by now before) (kept_now samples_by now added) (omega arith) ordered
    (of_takes (λ g. g.0 < f.0) now before below) (of_takes (λ g. g ≡ f) now added own))
