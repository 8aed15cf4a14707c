use Rattle.std.proofs.Common.{◌≡◌, ◌∙◌, sym, ap, ℕ, List}
use Rattle.std.proofs.lemmas.Bool.{OnTrue_at, OnFalse_at}
use Rattle.load_estimate.specs.declared.sample.Sample.{Sample}
use Rattle.load_estimate.specs.Windows.{WindowState, without_old, young_of}
use Rattle.load_estimate.specs.Fields.{AreYoung, IsOldestOld, without_oldest}
use Rattle.load_estimate.proofs.Windows.{young_of-drop_old, length-drop_first}
use Rattle.load_estimate.proofs.window.Window.age_out.Goals as goal

-- a window whose oldest sample is old, without that sample
gone : (window : WindowState) (now : ℕ) → IsOldestOld window now
    → young_of window.span now (without_oldest window).samples ≡ young_of window.span now window.samples
gone window now old = young_of-drop_old window.span now window.samples old.0 old.1 old.2

pub loop-self-preserved : goal.loop-self-preserved
loop-self-preserved c =
    let old = OnTrue_at c.loop-self-test.true c.is_oldest_old.ensures.old in
    rw c.drop_oldest.ensures
    (record {
      span = c.loop-self.invariant.span;
      latest = c.loop-self.invariant.latest;
      young = gone c.loop-self.self c.args.now old ∙ c.loop-self.invariant.young;
    })

pub loop-self-smaller : goal.loop-self-smaller
loop-self-smaller c =
    let old = OnTrue_at c.loop-self-test.true c.is_oldest_old.ensures.old in
    rw c.drop_oldest.ensures (length-drop_first c.loop-self.self.samples old.0 old.1)

abbrev made : ℕ → ℕ → List Sample → WindowState
made span latest samples = record { span = span; latest = latest; samples = samples }

all : (window was : WindowState) (now : ℕ) → AreYoung window now → window.span ≡ was.span → window.latest ≡ now
    → young_of window.span now window.samples ≡ young_of was.span now was.samples → window ≡ without_old now was
all window was now young span latest same =
    ap (λ s. made s window.latest window.samples) span ∙ ap (λ l. made was.span l window.samples) latest
    ∙ ap (made was.span now) (sym young ∙ same)

pub returns-clause-young : goal.returns-clause-young
returns-clause-young c =
    let young = OnFalse_at c.loop-self-test.false c.is_oldest_old.ensures.young in
    all c.loop-self.self c.args.self.now c.args.now young c.loop-self.invariant.span c.loop-self.invariant.latest
    c.loop-self.invariant.young
