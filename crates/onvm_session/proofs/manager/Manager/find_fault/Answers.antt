use Rattle.std.proofs.Common.{arith, rules, sym, ◌∙◌}
use Rattle.onvm_session.proofs.PortEnds.{below_next, fault_next, has_fault}
use Rattle.onvm_session.proofs.Growing.{got_below}
use Rattle.onvm_session.proofs.ManagerRuns.{grow_same, grow_then}
use Rattle.onvm_session.proofs.manager.Manager.find_fault.Goals as goal

pub loop-at-init : goal.loop-at-init
loop-at-init g c = record {
  below = λ r role less found. absurd (omega (arith, less));
  fault = (c.requires.fault.0, c.requires.fault.1, omega arith, c.requires.fault.2, c.requires.fault.3);
  end = search rules;
  grow = grow_same _ _ _ c.args.self.now;
}

pub returns-in_default-clause-grow : goal.returns-in_default-clause-grow
returns-in_default-clause-grow g c =
    grow_then _ _ _ c.args.self.now c.loop-at.self c.drain_at.new.self c.loop-at.invariant.grow c.drain_at.ensures.grow

pub overflow_cast-at : goal.overflow_cast-at
overflow_cast-at g c =
    omega (arith, c.loop-at-test.true, c.loop-at.invariant.grow.many, c.loop-at.invariant.end, c.requires.few)

pub returns-in-Some-clause-told : goal.returns-in-Some-clause-told
returns-in-Some-clause-told g c =
    has_fault c.loop-at.self c.drain_at.new.self c.loop-at.at c.in-Ok.fault c.in-Some.fault c.in-Ok.ensures.told
    c.in-Some.is c.loop-at.invariant.below c.stop_of.result c.stop_of.ensures

pub returns-in-Some-clause-grow : goal.returns-in-Some-clause-grow
returns-in-Some-clause-grow g c =
    grow_then _ _ _ c.args.self.now c.loop-at.self c.drain_at.new.self c.loop-at.invariant.grow c.drain_at.ensures.grow

pub loop-at-preserved : goal.loop-at-preserved
loop-at-preserved g c =
    let inv = c.loop-at.invariant in
    let next = fault_next c.loop-at.self c.drain_at.new.self c.loop-at.at c.in-Ok.fault c.in-Ok.ensures.told
    c.in_default-fault.is c.drain_at.ensures.stopped inv.fault.0 inv.fault.1 inv.fault.2 inv.fault.3 inv.fault.4 in
    record {
      below =
          below_next c.loop-at.self c.drain_at.new.self c.loop-at.at c.in-Ok.fault c.in-Ok.ensures.told
          c.in_default-fault.is inv.below;
      fault = (inv.fault.0, inv.fault.1, next.0, next.1, inv.fault.4);
      end = inv.end ∙ sym c.drain_at.ensures.grow.many;
      grow = grow_then _ _ _ c.args.self.now c.loop-at.self c.drain_at.new.self inv.grow c.drain_at.ensures.grow;
    }

pub unreachable-requires : goal.unreachable-requires
unreachable-requires g c =
    let inv = c.loop-at.invariant in
    let below = got_below c.loop-at.self.roles.items inv.fault.0 inv.fault.1 inv.fault.3 in
    omega (arith, c.loop-at-test.false, below, inv.fault.2, inv.end)
