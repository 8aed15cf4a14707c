use Rattle.std.proofs.Common.{ℕ, sym, subst}
use Rattle.atomic_table.specs.Table.{Allows as TableAllows}
use Rattle.onvm_core.specs.declared.layout.Layout.{Layout}
use Rattle.onvm_board.specs.Rule.{HasHistory}
use Rattle.onvm_board.proofs.memory.Memory.swap.Goals as goal

pub swap-requires : goal.swap-requires
swap-requires g c =
    let memory = c.args.self.now in
    let seat = c.args.seat.now in (
      c.requires.table,
      c.cell-word.ensures.within,
      subst (λ (z : Layout × ℕ). TableAllows (HasHistory z.0) memory.table.shared.table_id.slots seat.id seat.me z.1
          (λ _. 0) (g.F.StepFact.tells seat.me))
          (λ i. (sym memory.keyed i, sym c.cell-word.ensures.at i)) c.requires.allowed,
    )
