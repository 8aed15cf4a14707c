use Rattle.std.proofs.Common.{◌≡◌, ◌∙◌, ℕ, ◌+◌, ◌<◌, [], ap, sym, subst, arith}
use Rattle.std.specs.Prelude.{slice_index_or}
use Rattle.onvm_base.specs.declared.ids.PortId.{PortId}
use Rattle.onvm_core.specs.Layouts.{IsLayout, IsLayoutOf}
use Rattle.onvm_board.specs.Tokens.{BoardView, TokenView}
use Rattle.pass_bench.proofs.Cores.{core_is, none_kept}
use Rattle.pass_bench.proofs.receiving.Dock.open.Goals as goal

pub lane_of-lane-requires-clause-layout : goal.lane_of-lane-requires-clause-layout
lane_of-lane-requires-clause-layout c =
    subst (IsLayoutOf c.in-Ok.plan) (sym c.in_ok-board.ensures.layout) c.of.ensures.of

pub lane_of-lane-requires-clause-ranges : goal.lane_of-lane-requires-clause-ranges
lane_of-lane-requires-clause-ranges c = subst IsLayout (sym c.in_ok-board.ensures.layout) c.of.ensures.ranges

pub lane_of-lane-requires-clause-fresh : goal.lane_of-lane-requires-clause-fresh
lane_of-lane-requires-clause-fresh c =
    let plan = c.in-Ok.plan in
    let site : BoardView = c.in_ok-board.board in
    let begun = c.in_ok-board.ensures.first in
    let split = c.split-token.ensures.first in
    let is_new = c.split-core.ensures.role in
    let of = subst (IsLayoutOf plan) (sym c.in_ok-board.ensures.layout) c.of.ensures.of in
    let ranges = subst IsLayout (sym c.in_ok-board.ensures.layout) c.of.ensures.ranges in
    let one : plan.cores ≡ 1 = c.if-plan-ne1.false in
    let some : 0 < site.layout.functions = omega (arith, ranges.functions.0) in
    let at = core_is plan site.layout of ranges one 0 some in
    let number : ℕ = c.from.result + c.from-2.result in
    record {
      board =
          ap (λ (t : TokenView). t.board) is_new ∙ ap (λ (t : TokenView). t.board) split
          ∙ ap (λ (t : TokenView). t.board) begun;
      role_is = ap (λ (t : TokenView). t.role) is_new ∙ omega (arith, at, c.from.ensures, c.from-2.ensures);
      log =
          ap (λ (t : TokenView). t.log) is_new ∙ ap (λ (t : TokenView). slice_index_or t.logs number []) split
          ∙ ap (λ (t : TokenView). slice_index_or t.logs number []) begun ∙ none_kept _ number;
      empty_handed = ap (λ (t : TokenView). t.hand) is_new;
    }

pub returns : goal.returns
returns c =
    let plan = c.in-Ok.plan in
    let site : BoardView = c.in_ok-board.board in
    let begun = c.in_ok-board.ensures.first in
    let of = subst (IsLayoutOf plan) (sym c.in_ok-board.ensures.layout) c.of.ensures.of in
    let token : TokenView = c.split-token.result in
    let is_new = c.split-token.ensures.role in
    let port : PortId = record { 0 = 0 } in
    let role = c.start-role.ensures.role site plan port of c.in_ok-make.ensures in
    record {
      dock = record {
        role =
            role.ready token
            (ap (λ (t : TokenView). t.board) is_new ∙ ap (λ (t : TokenView). t.board) begun)
            (ap (λ (t : TokenView). t.role) is_new)
            (ap (λ (t : TokenView). t.log) is_new ∙ ap (λ (t : TokenView). slice_index_or t.logs 0 []) begun
            ∙ none_kept _ 0)
            (ap (λ (t : TokenView). t.hand) is_new);
        registry = c.in_ok-registry.ensures;
        core = c.lane_of-lane.ensures.empties;
      };
    }
