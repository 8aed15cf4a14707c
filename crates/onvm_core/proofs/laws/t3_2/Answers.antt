use Rattle.onvm_core.proofs.Contents.{content_bounded, popped-append-content}
use Rattle.onvm_core.specs.History.{content_of}
use Rattle.onvm_core.proofs.laws.t3_2.Goals as goal

pub returns-clause-bounded : goal.returns-clause-bounded
returns-clause-bounded c = content_bounded

pub returns-clause-in_order : goal.returns-clause-in_order
returns-clause-in_order c layout past lawful ring =
    (content_of ring past, popped-append-content layout ring past lawful)
