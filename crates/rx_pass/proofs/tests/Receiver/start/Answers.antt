use Rattle.std.proofs.Common.{◌≡◌, ◌∙◌, ap, refl}
use Rattle.onvm_base.specs.declared.ids.PortId.{PortId}
use Rattle.onvm_board.specs.Tokens.{TokenView}
use Rattle.rx_pass.proofs.Examples.{unused_at_start}
use Rattle.rx_pass.proofs.tests.Receiver.start.Goals as goal

pub returns : goal.returns
returns g c =
    let port : PortId = record { 0 = 0 } in
    let new = c.start-role.ensures.role c.args.board.now c.args.plan.now port c.requires.plan c.in_ok-room.ensures in
    let token = c.split-token.ensures.role in
    record {
      ready = new.ready c.split-token.result
          (ap (λ (t : TokenView). t.board) token ∙ ap (λ (t : TokenView). t.board) c.requires.lead)
          (ap (λ (t : TokenView). t.role) token)
          (ap (λ (t : TokenView). t.log) token ∙ unused_at_start c.args.board.now c.args.lead.now 0 c.requires.lead)
          (ap (λ (t : TokenView). t.hand) token);
    }
