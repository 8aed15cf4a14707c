-- What the machine that judges steps stands for.
use Rattle.std.specs.Prelude.{◌≡◌, ◌∷◌}
use Rattle.onvm_core.specs.declared.layout.Layout.{Layout}
use Rattle.onvm_core.specs.declared.judged.Judged.{Judged}
use Rattle.onvm_core.specs.declared.judged.Judged.TheVariants.{Allowed, Refused}
use Rattle.onvm_core.specs.declared.step.Step.{Step}
use Rattle.onvm_core.specs.History.{History}
use Rattle.onvm_core.specs.Lawful.{Allows, refusing_part}

-- a layout, and the steps that were made on it, the newest first
pub record Past : Type 0 where
  pub layout : Layout
  pub steps : History

-- a step was judged by the steps before it: it was allowed and made, or refused and nothing changed
abbrev pub IsJudged : Past → Step → Past → Judged → Type 0
IsJudged before step now Allowed =
    Allows before.layout before.steps step × (now ≡ record before { steps = step ∷ before.steps })
IsJudged before step now (Refused part) =
    (¬ Allows before.layout before.steps step) × (part ≡ refusing_part before.layout before.steps step) × (now ≡ before)
