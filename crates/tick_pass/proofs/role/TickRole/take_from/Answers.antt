use Rattle.std.proofs.Common.{◌∙◌, ap, arith, ℕ, nat_lt}
use Rattle.onvm_board.specs.Tokens.{TokenView}
use Rattle.tick_pass.proofs.Working.{mails_next, windows_next}
use Rattle.tick_pass.proofs.role.TickRole.take_from.Goals as goal

pub returns-clause-role : goal.returns-clause-role
returns-clause-role c =
    let site = c.args.board.now in
    let plan = c.args.plan.now in
    let f : ℕ = c.args.f in
    let is = c.take_waiting.ensures in
    let was = c.requires.role in
    let grew = is.taken.taking.grew in
    let samples = c.args.self.now.room.samples.items in
    let all = c.take_waiting.new.samples.items in
    let span = (was.windows.each f c.index_mut-window.result.now c.requires.known c.index_mut-window.ensures.value).span_is in
    record {
      layout_of = was.layout_of;
      board = ap (λ (t : TokenView). t.board) grew ∙ was.board;
      mine = ap (λ (t : TokenView). t.role) grew ∙ was.mine;
      mails =
          mails_next site plan c.args.now f c.take_waiting.result (nat_lt c.take_waiting.result 64) c.args.token.now
          c.take_waiting.new.token samples all is.taken c.args.self.now.room.mails.items c.take_waiting.new.mail
          (omega (arith, c.requires.known, was.layout_of.functions)) is.mail is.ring was.mails;
      windows =
          windows_next site plan c.args.now f c.take_waiting.result (nat_lt c.take_waiting.result 64) c.args.token.now
          c.take_waiting.new.token samples all is.taken c.args.self.now.room.windows.items c.take_waiting.new.window
          c.requires.known (is.span ∙ span) is.window was.windows;
    }
