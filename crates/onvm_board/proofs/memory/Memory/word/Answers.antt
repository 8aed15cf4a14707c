use Rattle.std.proofs.Common.{ℕ, ◌<◌, sym, subst}
use Rattle.onvm_board.proofs.Separation.{address_below}
use Rattle.onvm_board.proofs.memory.Memory.word.Goals as goal

pub returns-clause-within : goal.returns-clause-within
returns-clause-within c =
    let memory = c.args.self.now in
    subst (λ (z : ℕ × ℕ). z.0 < z.1) (λ i. (sym c.word.ensures i, sym memory.worded i))
    (address_below memory.layout c.args.word c.requires.known)
