use Rattle.std.proofs.Common.{sym}
use Rattle.load_estimate.proofs.Windows.{AreOfSamples-without_oldest}
use Rattle.load_estimate.proofs.window.Window.drop_oldest.Goals as goal

pub invariant_of-self : goal.invariant_of-self
invariant_of-self c =
    rw (c.in-Some.ensures.items, c.from.ensures)
    (AreOfSamples-without_oldest _ _ _ _ _ _ _ (sym c.in-Some.ensures.value) c.remove.ensures c.self.invariant)
