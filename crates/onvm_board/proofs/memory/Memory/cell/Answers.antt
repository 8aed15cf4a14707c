use Rattle.std.proofs.Common.{◌≡◌, ℕ, ◌+◌, ◌<◌, ap, ◌∙◌, sym, subst}
use Rattle.onvm_core.specs.declared.layout.Word.TheVariants.{Cell}
use Rattle.onvm_board.specs.Addresses.{address}
use Rattle.onvm_board.proofs.Separation.{address_below}
use Rattle.onvm_board.proofs.Bounds.{cell_from}
use Rattle.onvm_board.proofs.memory.Memory.cell.Goals as goal

pub returns-clause-at : goal.returns-clause-at
returns-clause-at c =
    ap (λ n. n + c.args.spot.cell) c.requires.based
    ∙ cell_from c.args.self.now.layout c.args.spot.ring c.args.spot.cell

pub returns-clause-within : goal.returns-clause-within
returns-clause-within c =
    let memory = c.args.self.now in
    let spot = c.args.spot in
    let at : spot.base + spot.cell ≡ address memory.layout (Cell spot.ring spot.cell) =
    ap (λ n. n + spot.cell) c.requires.based ∙ cell_from memory.layout spot.ring spot.cell in
    subst (λ (z : ℕ × ℕ). z.0 < z.1) (λ i. (sym at i, sym memory.worded i))
    (address_below memory.layout (Cell spot.ring spot.cell) c.requires.known)
