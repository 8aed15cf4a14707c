use Rattle.std.proofs.Common.{◌≡◌, length}
use Rattle.load_estimate.specs.Windows.{young_of}
use Rattle.load_estimate.proofs.window.Window.age_out.Given as goal

-- the young ones are those that there were
abbrev pub invariant-loop-self : goal.invariant-loop-self
invariant-loop-self l =
    record {
      span : l.self.span ≡ l.fn.self.span;
      latest : l.self.latest ≡ l.now;
      young : young_of l.self.span l.now l.self.samples ≡ young_of l.fn.self.span l.now l.fn.self.samples;
    }

abbrev pub decreases-loop-self : goal.decreases-loop-self
decreases-loop-self l = length l.self.samples
