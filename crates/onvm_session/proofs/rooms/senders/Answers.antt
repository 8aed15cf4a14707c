use Rattle.std.proofs.Common.{◌+◌, arith}
use Rattle.tx_pass.specs.Roles.{IsNewRole as IsNewSender}
use Rattle.onvm_session.proofs.Draining.{each_more}
use Rattle.onvm_session.proofs.rooms.senders.Goals as goal

pub loop-number-preserved : goal.loop-number-preserved
loop-number-preserved c =
    let was = c.loop-number.invariant in
    let longer = c.in_ok-push.ensures.len in
    let before = c.loop-number.rooms.ok.0 in
    let after = c.push.new.self.ok.0 in
    let many = was.many in
    record {
      many = omega (arith, longer, before, after, many);
      each = each_more (λ k room. IsNewSender c.args.board.now c.args.plan.now (c.args.plan.now.ports + k) room.role)
          c.loop-number.rooms.items c.push.new.self.items c.in_ok-make.field-0 c.loop-number.number
          c.in_ok-push.ensures.items many was.each c.in_ok-make.ensures;
    }
