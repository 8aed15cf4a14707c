use Rattle.std.proofs.Common.{sym, subst}
use Rattle.onvm_core.specs.declared.layout.Layout.{Layout}
use Rattle.onvm_core.specs.Layouts.{IsLayout, IsLayoutOf}
use Rattle.onvm_session.proofs.rooms.Beginning.make.Goals as goal

pub returns : goal.returns
returns g c =
    let layout = c.of-layout.ensures in
    let board = c.in_ok-board.ensures in
    record {
      layout_is = sym board.layout;
      layout_of = subst (λ (as_made : Layout). IsLayoutOf c.args.plan.now as_made) (sym board.layout) layout.of;
      ranges = subst (λ (as_made : Layout). IsLayout as_made) (sym board.layout) layout.ranges;
      registry = c.in_ok-registry.ensures;
      first = board.first;
      rooms = c.in_ok-rooms.ensures;
    }
