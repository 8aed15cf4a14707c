use Rattle.std.proofs.Common.{◌≡◌, ◌∙◌, List, [], ap, sym, subst, length, arith}
use Rattle.std.specs.Prelude.{slice_index_or}
use Rattle.onvm_base.specs.declared.function.FunctionPlan.{FunctionPlan}
use Rattle.onvm_core.specs.Layouts.{IsLayout, IsLayoutOf, tick_role}
use Rattle.onvm_board.specs.Tokens.{BoardView, TokenView}
use Rattle.desc_ring.proofs.Beginning.{mail_tails_begin}
use Rattle.tick_pass.proofs.Examples.{core_is, none_kept}
use Rattle.tick_pass.proofs.tests.Desk.open.Goals as goal

pub returns-clause-desk : goal.returns-clause-desk
returns-clause-desk c =
    let plan = c.in_ok-plan.plan in
    let small = c.in_ok-plan.ensures in
    let site : BoardView = c.in_ok-board.board in
    let begun = c.in_ok-board.ensures.first in
    let split = c.split-core.ensures.first in
    let of = subst (IsLayoutOf plan) (sym c.in_ok-board.ensures.layout) c.of-layout.ensures.of in
    let ranges = subst IsLayout (sym c.in_ok-board.ensures.layout) c.of-layout.ensures.ranges in
    let core : TokenView = c.split-core.result in
    let core_is_new = c.split-core.ensures.role in
    let core_board = ap (λ (t : TokenView). t.board) core_is_new ∙ ap (λ (t : TokenView). t.board) begun in
    let core_log : core.log ≡ [] =
    ap (λ (t : TokenView). t.log) core_is_new ∙ ap (λ (t : TokenView). slice_index_or t.logs 2 []) begun
    ∙ none_kept _ 2 in
    let token : TokenView = c.split-token.result in
    let token_is_new = c.split-token.ensures.role in
    let token_board =
    ap (λ (t : TokenView). t.board) token_is_new ∙ ap (λ (t : TokenView). t.board) split
    ∙ ap (λ (t : TokenView). t.board) begun in
    let token_log : token.log ≡ [] =
    ap (λ (t : TokenView). t.log) token_is_new ∙ ap (λ (t : TokenView). slice_index_or t.logs 3 []) split
    ∙ ap (λ (t : TokenView). slice_index_or t.logs 3 []) begun ∙ none_kept _ 3 in
    let token_role : token.role ≡ tick_role site.layout =
    ap (λ (t : TokenView). t.role) token_is_new
    ∙ omega (arith, of.ports, small.ports, of.transmit, small.transmit, of.cores, small.cores) in
    record {
      two = of.functions ∙ ap (λ (fs : List FunctionPlan). length fs) small.functions;
      first_board =
          ap (λ (t : TokenView). t.board) c.split-token.ensures.first ∙ ap (λ (t : TokenView). t.board) split
          ∙ ap (λ (t : TokenView). t.board) begun;
      mine = λ f less. ap (λ (t : TokenView). t.role) core_is_new ∙ sym (core_is plan site.layout small of f less);
      ends = mail_tails_begin site core ranges core_board core_log c.in_ok-mails.mails.items c.in_ok-mails.ensures;
      role_is = c.start-role.ensures.role plan site token c.in_ok-make.ensures of token_board token_role token_log;
    }
