use Rattle.std.proofs.Common.{◌≡◌, ◌∙◌, ℕ, ◌+◌, [], ap, sym, subst, arith}
use Rattle.std.specs.Prelude.{slice_index_or}
use Rattle.onvm_core.specs.Layouts.{IsLayout, IsLayoutOf, tick_role}
use Rattle.onvm_board.specs.Tokens.{BoardView, TokenView}
use Rattle.desc_ring.proofs.Beginning.{mail_tails_begin}
use Rattle.pass_bench.proofs.Cores.{core_is, none_kept}
use Rattle.pass_bench.proofs.ticks.Desk.open.Goals as goal

pub returns-clause-mailed : goal.returns-clause-mailed
returns-clause-mailed c =
    let plan = c.in-Ok.plan in
    let site : BoardView = c.in_ok-board.board in
    let begun = c.in_ok-board.ensures.first in
    let of = subst (IsLayoutOf plan) (sym c.in_ok-board.ensures.layout) c.of-layout.ensures.of in
    let ranges = subst IsLayout (sym c.in_ok-board.ensures.layout) c.of-layout.ensures.ranges in
    let one : plan.cores ≡ 1 = c.if-plan-ne1.false in
    let core : TokenView = c.split.result in
    let is_new = c.split.ensures.role in
    let board = ap (λ (t : TokenView). t.board) is_new ∙ ap (λ (t : TokenView). t.board) begun in
    let number : ℕ = c.from.result + c.from-2.result in
    let log : core.log ≡ [] =
    ap (λ (t : TokenView). t.log) is_new ∙ ap (λ (t : TokenView). slice_index_or t.logs number []) begun
    ∙ none_kept _ number in
    record {
      mine = λ f known.
          let at = core_is plan site.layout of ranges one f known in
          let role = ap (λ (t : TokenView). t.role) is_new in
          role ∙ omega (arith, at, c.from.ensures, c.from-2.ensures);
      ends = mail_tails_begin site core ranges board log c.in_ok-mails.mails.items c.in_ok-mails.ensures;
    }

pub returns-clause-role : goal.returns-clause-role
returns-clause-role c =
    let plan = c.in-Ok.plan in
    let site : BoardView = c.in_ok-board.board in
    let begun = c.in_ok-board.ensures.first in
    let split = c.split.ensures.first in
    let of = subst (IsLayoutOf plan) (sym c.in_ok-board.ensures.layout) c.of-layout.ensures.of in
    let one : plan.cores ≡ 1 = c.if-plan-ne1.false in
    let token : TokenView = c.split-2.result in
    let is_new = c.split-2.ensures.role in
    let board =
    ap (λ (t : TokenView). t.board) is_new ∙ ap (λ (t : TokenView). t.board) split
    ∙ ap (λ (t : TokenView). t.board) begun in
    let number : ℕ = c.from.result + c.from-2.result + 1 in
    let log : token.log ≡ [] =
    ap (λ (t : TokenView). t.log) is_new ∙ ap (λ (t : TokenView). slice_index_or t.logs number []) split
    ∙ ap (λ (t : TokenView). slice_index_or t.logs number []) begun ∙ none_kept _ number in
    let role : token.role ≡ tick_role site.layout =
    ap (λ (t : TokenView). t.role) is_new
    ∙ omega (arith, of.ports, of.transmit, of.cores, one, c.from.ensures, c.from-2.ensures) in
    c.start-role.ensures.role plan site token c.in_ok-make.ensures of board role log
