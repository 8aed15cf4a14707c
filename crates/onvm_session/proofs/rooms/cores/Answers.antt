use Rattle.std.proofs.Common.{subst, arith}
use Rattle.onvm_base.specs.declared.plan.Plan.{Plan}
use Rattle.nf_exec.specs.Rooms.{IsNewRoom as IsNewCoreRoom}
use Rattle.onvm_session.proofs.Draining.{each_more}
use Rattle.onvm_session.proofs.rooms.cores.Goals as goal

pub loop-core-preserved : goal.loop-core-preserved
loop-core-preserved c =
    let was = c.loop-core.invariant in
    let longer = c.in_ok-push.ensures.len in
    let before = c.loop-core.rooms.ok.0 in
    let after = c.push.new.self.ok.0 in
    let many = was.many in
    record {
      many = omega (arith, longer, before, after, many);
      each = each_more (λ core room. IsNewCoreRoom c.args.board.now c.args.plan.now core room)
          c.loop-core.rooms.items c.push.new.self.items c.in_ok-make.field-0 c.loop-core.core
          c.in_ok-push.ensures.items many was.each
          (subst (λ (plan : Plan). IsNewCoreRoom c.args.board.now plan c.loop-core.core c.in_ok-make.field-0)
          c.requires.registry c.in_ok-make.ensures);
    }
