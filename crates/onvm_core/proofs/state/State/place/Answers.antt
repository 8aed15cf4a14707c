use Rattle.std.proofs.Common.{subst}
use Rattle.onvm_core.specs.Lawful.{IsLawful}
use Rattle.onvm_core.proofs.Once.{stands_once}
use Rattle.onvm_core.proofs.state.State.place.Goals as goal

pub returns-clause-once : goal.returns-clause-once
returns-clause-once c =
    let lawful : IsLawful c.args.self.now.layout c.args.self.now.steps =
    subst (λ s. IsLawful s.layout s.steps) c.self.view_is c.self.invariant.1 in
    stands_once c.args.self.now.layout c.args.self.now.steps lawful c.args.buf.0 c.requires
