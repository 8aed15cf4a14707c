use Rattle.std.proofs.Common.{ℕ, ◌<◌, sym, subst}
use Rattle.atomic_table.specs.Table.{Splits}
use Rattle.onvm_core.specs.declared.layout.Layout.{Layout}
use Rattle.onvm_core.specs.declared.step.Act.TheVariants.{Split}
use Rattle.onvm_board.specs.Rule.{HasHistory, view_after, split_view}
use Rattle.onvm_board.proofs.Separation.{some_words}
use Rattle.onvm_board.proofs.memory.Memory.split.Goals as goal

pub split_seat-requires : goal.split_seat-requires
split_seat-requires g c =
    let memory = c.args.self.now in
    let seat = c.args.seat.now in (
      c.requires.table,
      subst (λ n. 0 < n) (sym memory.worded) (some_words memory.layout),
      subst (λ (z : Layout × ℕ).
          Splits (HasHistory z.0) seat.id seat.me.0 (view_after (Split z.1) seat.me.0) (split_view z.1 seat.me.0))
          (λ i. (sym memory.keyed i, sym c.requires.named i)) c.requires.allowed,
    )
