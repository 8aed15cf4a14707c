use Rattle.std.proofs.Common.{ℕ, sym, subst}
use Rattle.atomic_table.specs.Table.{Allows as TableAllows}
use Rattle.onvm_core.specs.declared.layout.Layout.{Layout}
use Rattle.onvm_board.specs.Rule.{HasHistory}
use Rattle.onvm_board.proofs.memory.Memory.store.Goals as goal

pub store-requires : goal.store-requires
store-requires g c =
    let memory = c.args.self.now in
    let seat = c.args.seat.now in (
      c.requires.table,
      c.word-at.ensures.within,
      subst (λ (z : Layout × ℕ). TableAllows (HasHistory z.0) memory.table.shared.table_id.slots seat.id seat.me z.1
          (λ _. c.args.value) (λ _. g.F.StepFact.tells seat.me c.args.value))
          (λ i. (sym memory.keyed i, sym c.word-at.ensures.at i)) c.requires.allowed,
    )
