use Rattle.std.proofs.Common.{arith}
use Rattle.rx_pass.specs.Rooms.{IsNewRoom as IsNewReceiverRoom}
use Rattle.onvm_session.proofs.Draining.{each_more}
use Rattle.onvm_session.proofs.rooms.receivers.Goals as goal

pub loop-port-preserved : goal.loop-port-preserved
loop-port-preserved c =
    let was = c.loop-port.invariant in
    let longer = c.in_ok-push.ensures.len in
    let before = c.loop-port.rooms.ok.0 in
    let after = c.push.new.self.ok.0 in
    let many = was.many in
    record {
      many = omega (arith, longer, before, after, many);
      each = each_more (λ port room. IsNewReceiverRoom c.args.board.now c.args.plan.now (record { 0 = port }) room)
          c.loop-port.rooms.items c.push.new.self.items c.in_ok-make.field-0 c.loop-port.port
          c.in_ok-push.ensures.items many was.each c.in_ok-make.ensures;
    }
