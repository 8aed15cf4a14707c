use Rattle.std.proofs.Common.{◌<◌, sym, subst}
use Rattle.atomic_table.specs.Table.{Joins}
use Rattle.onvm_board.specs.Rule.{HasHistory, view_after_join, spent_view}
use Rattle.onvm_board.proofs.Separation.{some_words}
use Rattle.onvm_board.proofs.memory.Memory.join.Goals as goal

pub join_seat-requires : goal.join_seat-requires
join_seat-requires c =
    let memory = c.args.self.now in
    let seat = c.args.seat.now in
    let other = c.args.other in (
      c.requires.table.0,
      c.requires.table.1,
      c.requires.empty,
      subst (λ n. 0 < n) (sym memory.worded) (some_words memory.layout),
      subst (λ l. Joins (HasHistory l) seat.id seat.me.0 other.id other.me.0 (view_after_join seat.me.0 other.me.0) spent_view)
          (sym memory.keyed) c.requires.allowed,
    )
