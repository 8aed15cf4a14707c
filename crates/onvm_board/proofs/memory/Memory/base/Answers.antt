use Rattle.std.proofs.Common.{rules, ◌<◌, sym, subst, arith}
use Rattle.onvm_core.specs.Layouts.{IsWord}
use Rattle.onvm_core.specs.declared.layout.Word.TheVariants.{Cell}
use Rattle.onvm_board.proofs.Bounds.{word_small}
use Rattle.onvm_board.proofs.memory.Memory.base.Goals as goal

pub overflow_cast-result : goal.overflow_cast-result
overflow_cast-result c =
    let memory = c.args.self.now in
    let known : IsWord memory.layout (Cell c.args.ring 0) = search rules in
    let small : c.cell.result < 4294967296 =
    subst (λ n. n < 4294967296) (sym c.cell.ensures) (word_small memory.layout memory.regions (Cell c.args.ring 0) memory.placed known) in
    omega (arith, small)
