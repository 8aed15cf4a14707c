use Rattle.std.proofs.Common.{◌∙◌, ap}
use Rattle.std.specs.Prelude.{Err}
use Rattle.onvm_session.proofs.AnySpans.{any_spans}
use Rattle.onvm_session.proofs.Answered.{phases_done, back_as, stand_as, stopped_as}
use Rattle.onvm_session.proofs.Beginnings.{new_manager}
use Rattle.onvm_session.proofs.Tending.{room_back, tended_first, tended_then}
use Rattle.onvm_session.proofs.run.session_in_phases.Goals as goal

pub make_phases-requires-clause-manager : goal.make_phases-requires-clause-manager
make_phases-requires-clause-manager g c κs within =
    new_manager _ _ _ _ _ c.args.plan.now c.args.units c.args.feeds c.now-first.result c.start-manager.result
    c.start-manager.ensures _

pub make_phases-requires-clause-upto : goal.make_phases-requires-clause-upto
make_phases-requires-clause-upto g c κs within r role found = (c.start-manager.ensures.roles.each r role found).upto

pub finish-requires-clause-manager : goal.finish-requires-clause-manager
finish-requires-clause-manager g c =
    any_spans _ _ _ c.args.plan.now c.make_phases.new.self c.in-Ok-make_phases.ensures.manager

pub finish-requires-clause-room : goal.finish-requires-clause-room
finish-requires-clause-room g c =
    room_back _ _ _ c.args.plan.now c.args.feeds c.make_phases.new.self
    (tended_then _ _ _ _ _ c.start-manager.result c.make_phases.new.self c.make_phases.ensures.grow
    (tended_first _ _ _ _ _ _ _ c.args.units c.now-first.result c.start-manager.result c.start-manager.ensures))
    c.requires.feeds

pub hand_back-requires : goal.hand_back-requires
hand_back-requires g c = record {
  room =
      room_back _ _ _ c.args.plan.now c.args.feeds c.start-manager.result
      (tended_first _ _ _ _ _ _ _ c.args.units c.now-first.result c.start-manager.result c.start-manager.ensures)
      c.requires.feeds;
}

pub hand_back-requires-in-Err-Memory : goal.hand_back-requires-in-Err-Memory
hand_back-requires-in-Err-Memory g c = record {
  room =
      room_back _ _ _ c.args.plan.now c.args.feeds c.make_phases.new.self
      (tended_then _ _ _ _ _ c.start-manager.result c.make_phases.new.self c.make_phases.ensures.grow
      (tended_first _ _ _ _ _ _ _ c.args.units c.now-first.result c.start-manager.result c.start-manager.ensures))
      c.requires.feeds;
}

pub find_fault-stop-requires-clause-fault : goal.find_fault-stop-requires-clause-fault
find_fault-stop-requires-clause-fault g c =
    c.make_phases.ensures.fault (c.in-Err-Fault.is ∙ ap Err c.in-Err-Fault.field-0-is)

pub hand_back-requires-in-Err-Fault : goal.hand_back-requires-in-Err-Fault
hand_back-requires-in-Err-Fault g c = record {
  room =
      room_back _ _ _ c.args.plan.now c.args.feeds c.find_fault-stop.new.self
      (tended_then _ _ _ _ _ c.make_phases.new.self c.find_fault-stop.new.self c.find_fault-stop.ensures.grow
      (tended_then _ _ _ _ _ c.start-manager.result c.make_phases.new.self c.make_phases.ensures.grow
      (tended_first _ _ _ _ _ _ _ c.args.units c.now-first.result c.start-manager.result c.start-manager.ensures)))
      c.requires.feeds;
}

pub returns-in_default-clause-handed_back : goal.returns-in_default-clause-handed_back
returns-in_default-clause-handed_back g c =
    back_as _ _ _ c.args.plan.now c.args.feeds c.start-manager.result
    (tended_first _ _ _ _ _ _ _ c.args.units c.now-first.result c.start-manager.result c.start-manager.ensures)
    c.requires.feeds c.hand_back.result.feeds c.hand_back.ensures.feeds

pub returns-in_default-clause-stands : goal.returns-in_default-clause-stands
returns-in_default-clause-stands g c =
    stand_as _ _ _ c.args.plan.now c.args.feeds c.start-manager.result
    (tended_first _ _ _ _ _ _ _ c.args.units c.now-first.result c.start-manager.result c.start-manager.ensures)
    c.requires.feeds c.hand_back.result.feeds c.hand_back.ensures.feeds

pub returns-in-Ok-make_phases-clause-handed_back : goal.returns-in-Ok-make_phases-clause-handed_back
returns-in-Ok-make_phases-clause-handed_back g c =
    back_as _ _ _ c.args.plan.now c.args.feeds c.make_phases.new.self
    (tended_then _ _ _ _ _ c.start-manager.result c.make_phases.new.self c.make_phases.ensures.grow
    (tended_first _ _ _ _ _ _ _ c.args.units c.now-first.result c.start-manager.result c.start-manager.ensures))
    c.requires.feeds c.finish.result.feeds c.finish.ensures.feeds

pub returns-in-Ok-make_phases-clause-stands : goal.returns-in-Ok-make_phases-clause-stands
returns-in-Ok-make_phases-clause-stands g c =
    stand_as _ _ _ c.args.plan.now c.args.feeds c.make_phases.new.self
    (tended_then _ _ _ _ _ c.start-manager.result c.make_phases.new.self c.make_phases.ensures.grow
    (tended_first _ _ _ _ _ _ _ c.args.units c.now-first.result c.start-manager.result c.start-manager.ensures))
    c.requires.feeds c.finish.result.feeds c.finish.ensures.feeds

pub returns-in-Ok-make_phases-clause-done : goal.returns-in-Ok-make_phases-clause-done
returns-in-Ok-make_phases-clause-done g c =
    let made = c.in-Ok-make_phases.ensures in
    phases_done _ _ _ c.args.plan.now c.args.feeds c.make_phases.new.self
    (tended_then _ _ _ _ _ c.start-manager.result c.make_phases.new.self c.make_phases.ensures.grow
    (tended_first _ _ _ _ _ _ _ c.args.units c.now-first.result c.start-manager.result c.start-manager.ensures))
    c.requires.feeds _ _ _ _ c.args.units c.now-first.result c.start-manager.result _ c.finish.result.outcome
    c.finish.result.feeds c.start-manager.ensures c.make_phases.ensures.grow made.on made.manager made.over made.told
    c.finish.ensures.feeds c.finish.ensures.done

pub returns-in-Err-Memory-clause-handed_back : goal.returns-in-Err-Memory-clause-handed_back
returns-in-Err-Memory-clause-handed_back g c =
    back_as _ _ _ c.args.plan.now c.args.feeds c.make_phases.new.self
    (tended_then _ _ _ _ _ c.start-manager.result c.make_phases.new.self c.make_phases.ensures.grow
    (tended_first _ _ _ _ _ _ _ c.args.units c.now-first.result c.start-manager.result c.start-manager.ensures))
    c.requires.feeds c.hand_back-in-Err-Memory.result.feeds c.hand_back-in-Err-Memory.ensures.feeds

pub returns-in-Err-Memory-clause-stands : goal.returns-in-Err-Memory-clause-stands
returns-in-Err-Memory-clause-stands g c =
    stand_as _ _ _ c.args.plan.now c.args.feeds c.make_phases.new.self
    (tended_then _ _ _ _ _ c.start-manager.result c.make_phases.new.self c.make_phases.ensures.grow
    (tended_first _ _ _ _ _ _ _ c.args.units c.now-first.result c.start-manager.result c.start-manager.ensures))
    c.requires.feeds c.hand_back-in-Err-Memory.result.feeds c.hand_back-in-Err-Memory.ensures.feeds

pub returns-clause-handed_back : goal.returns-clause-handed_back
returns-clause-handed_back g c =
    back_as _ _ _ c.args.plan.now c.args.feeds c.find_fault-stop.new.self
    (tended_then _ _ _ _ _ c.make_phases.new.self c.find_fault-stop.new.self c.find_fault-stop.ensures.grow
    (tended_then _ _ _ _ _ c.start-manager.result c.make_phases.new.self c.make_phases.ensures.grow
    (tended_first _ _ _ _ _ _ _ c.args.units c.now-first.result c.start-manager.result c.start-manager.ensures)))
    c.requires.feeds c.hand_back-in-Err-Fault.result.feeds c.hand_back-in-Err-Fault.ensures.feeds

pub returns-clause-stands : goal.returns-clause-stands
returns-clause-stands g c =
    stand_as _ _ _ c.args.plan.now c.args.feeds c.find_fault-stop.new.self
    (tended_then _ _ _ _ _ c.make_phases.new.self c.find_fault-stop.new.self c.find_fault-stop.ensures.grow
    (tended_then _ _ _ _ _ c.start-manager.result c.make_phases.new.self c.make_phases.ensures.grow
    (tended_first _ _ _ _ _ _ _ c.args.units c.now-first.result c.start-manager.result c.start-manager.ensures)))
    c.requires.feeds c.hand_back-in-Err-Fault.result.feeds c.hand_back-in-Err-Fault.ensures.feeds

pub returns-clause-stopped : goal.returns-clause-stopped
returns-clause-stopped g c =
    stopped_as _ _ _ c.args.plan.now c.args.feeds c.find_fault-stop.new.self
    (tended_then _ _ _ _ _ c.make_phases.new.self c.find_fault-stop.new.self c.find_fault-stop.ensures.grow
    (tended_then _ _ _ _ _ c.start-manager.result c.make_phases.new.self c.make_phases.ensures.grow
    (tended_first _ _ _ _ _ _ _ c.args.units c.now-first.result c.start-manager.result c.start-manager.ensures)))
    c.requires.feeds c.find_fault-stop.result c.hand_back-in-Err-Fault.result.outcome c.hand_back-in-Err-Fault.result.feeds
    c.hand_back-in-Err-Fault.ensures.outcome c.hand_back-in-Err-Fault.ensures.feeds c.find_fault-stop.ensures.told
