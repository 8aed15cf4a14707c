use Rattle.std.proofs.Common.{sym, subst}
use Rattle.entry_throttle.specs.Feeders.{FeederView, IsFeederOf}
use Rattle.entry_throttle.proofs.Pushes.{feeder_after_push}
use Rattle.entry_throttle.proofs.feeder.Feeder.pushed.Goals as goal

pub returns-clause-feeder : goal.returns-clause-feeder
returns-clause-feeder c board item before after was made tail ring =
    subst (λ (feeder : FeederView). IsFeederOf board feeder after) (sym c.note.ensures.noted)
    (feeder_after_push board c.args.self.now c.args.function.0 c.args.now c.args.spot item before after was c.requires
    c.note.ensures.long made tail ring)
