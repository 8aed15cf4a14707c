use Rattle.std.proofs.Common.{◌∙◌, ap}
use Rattle.std.specs.Prelude.{Err}
use Rattle.onvm_promises.specs.Sampling.{is_cost}
use Rattle.onvm_session.proofs.AnySpans.{any_spans}
use Rattle.onvm_session.proofs.Answered.{rounds_done, back_as, stand_as, stopped_as}
use Rattle.onvm_session.proofs.Beginnings.{new_manager}
use Rattle.onvm_session.proofs.Tending.{room_back, tended_first, tended_then}
use Rattle.onvm_session.specs.Runs.{any_moment, any_span}
use Rattle.onvm_session.proofs.run.session_in_rounds.Goals as goal

pub make_rounds-requires-clause-manager : goal.make_rounds-requires-clause-manager
make_rounds-requires-clause-manager g c κs within =
    new_manager _ _ _ _ _ c.args.plan.now c.args.units c.args.feeds 0 c.start-manager.result c.start-manager.ensures
    is_cost

pub make_rounds-requires-clause-upto : goal.make_rounds-requires-clause-upto
make_rounds-requires-clause-upto g c κs within r role found = (c.start-manager.ensures.roles.each r role found).upto

pub finish-requires-clause-manager : goal.finish-requires-clause-manager
finish-requires-clause-manager g c =
    any_spans _ _ is_cost c.args.plan.now c.make_rounds.new.self c.in-Ok.ensures.manager

pub finish-requires-clause-room : goal.finish-requires-clause-room
finish-requires-clause-room g c =
    room_back _ _ _ c.args.plan.now c.args.feeds c.make_rounds.new.self
    (tended_then _ _ _ _ _ c.start-manager.result c.make_rounds.new.self c.make_rounds.ensures.grow
    (tended_first _ _ _ _ _ _ _ c.args.units 0 c.start-manager.result c.start-manager.ensures)) c.requires.feeds

pub hand_back-requires : goal.hand_back-requires
hand_back-requires g c = record {
  room =
      room_back _ _ _ c.args.plan.now c.args.feeds c.make_rounds.new.self
      (tended_then _ _ _ _ _ c.start-manager.result c.make_rounds.new.self c.make_rounds.ensures.grow
      (tended_first _ _ _ _ _ _ _ c.args.units 0 c.start-manager.result c.start-manager.ensures)) c.requires.feeds;
}

pub find_fault-stop-requires-clause-fault : goal.find_fault-stop-requires-clause-fault
find_fault-stop-requires-clause-fault g c =
    c.make_rounds.ensures.fault (c.in-Err-Fault.is ∙ ap Err c.in-Err-Fault.field-0-is)

pub hand_back-requires-in-Err-Fault : goal.hand_back-requires-in-Err-Fault
hand_back-requires-in-Err-Fault g c = record {
  room =
      room_back _ _ _ c.args.plan.now c.args.feeds c.find_fault-stop.new.self
      (tended_then _ _ _ _ _ c.make_rounds.new.self c.find_fault-stop.new.self c.find_fault-stop.ensures.grow
      (tended_then _ _ _ _ _ c.start-manager.result c.make_rounds.new.self c.make_rounds.ensures.grow
      (tended_first _ _ _ _ _ _ _ c.args.units 0 c.start-manager.result c.start-manager.ensures))) c.requires.feeds;
}

pub returns-in-Ok-clause-handed_back : goal.returns-in-Ok-clause-handed_back
returns-in-Ok-clause-handed_back g c =
    back_as _ _ _ c.args.plan.now c.args.feeds c.make_rounds.new.self
    (tended_then _ _ _ _ _ c.start-manager.result c.make_rounds.new.self c.make_rounds.ensures.grow
    (tended_first _ _ _ _ _ _ _ c.args.units 0 c.start-manager.result c.start-manager.ensures)) c.requires.feeds
    c.finish.result.feeds c.finish.ensures.feeds

pub returns-in-Ok-clause-stands : goal.returns-in-Ok-clause-stands
returns-in-Ok-clause-stands g c =
    stand_as _ _ _ c.args.plan.now c.args.feeds c.make_rounds.new.self
    (tended_then _ _ _ _ _ c.start-manager.result c.make_rounds.new.self c.make_rounds.ensures.grow
    (tended_first _ _ _ _ _ _ _ c.args.units 0 c.start-manager.result c.start-manager.ensures)) c.requires.feeds
    c.finish.result.feeds c.finish.ensures.feeds

pub returns-in-Ok-clause-done : goal.returns-in-Ok-clause-done
returns-in-Ok-clause-done g c =
    let made = c.in-Ok.ensures in
    rounds_done _ _ _ c.args.plan.now c.args.feeds c.make_rounds.new.self
    (tended_then _ _ _ _ _ c.start-manager.result c.make_rounds.new.self c.make_rounds.ensures.grow
    (tended_first _ _ _ _ _ _ _ c.args.units 0 c.start-manager.result c.start-manager.ensures)) c.requires.feeds _ _
    c.args.units c.start-manager.result _ c.finish.result.outcome c.finish.result.feeds c.start-manager.ensures
    c.make_rounds.ensures.grow made.on made.manager made.over made.place made.some made.now c.finish.ensures.feeds
    c.finish.ensures.done any_moment any_span

pub returns-in-Err-Memory-clause-handed_back : goal.returns-in-Err-Memory-clause-handed_back
returns-in-Err-Memory-clause-handed_back g c =
    back_as _ _ _ c.args.plan.now c.args.feeds c.make_rounds.new.self
    (tended_then _ _ _ _ _ c.start-manager.result c.make_rounds.new.self c.make_rounds.ensures.grow
    (tended_first _ _ _ _ _ _ _ c.args.units 0 c.start-manager.result c.start-manager.ensures)) c.requires.feeds
    c.hand_back.result.feeds c.hand_back.ensures.feeds

pub returns-in-Err-Memory-clause-stands : goal.returns-in-Err-Memory-clause-stands
returns-in-Err-Memory-clause-stands g c =
    stand_as _ _ _ c.args.plan.now c.args.feeds c.make_rounds.new.self
    (tended_then _ _ _ _ _ c.start-manager.result c.make_rounds.new.self c.make_rounds.ensures.grow
    (tended_first _ _ _ _ _ _ _ c.args.units 0 c.start-manager.result c.start-manager.ensures)) c.requires.feeds
    c.hand_back.result.feeds c.hand_back.ensures.feeds

pub returns-in-Err-Fault-clause-handed_back : goal.returns-in-Err-Fault-clause-handed_back
returns-in-Err-Fault-clause-handed_back g c =
    back_as _ _ _ c.args.plan.now c.args.feeds c.find_fault-stop.new.self
    (tended_then _ _ _ _ _ c.make_rounds.new.self c.find_fault-stop.new.self c.find_fault-stop.ensures.grow
    (tended_then _ _ _ _ _ c.start-manager.result c.make_rounds.new.self c.make_rounds.ensures.grow
    (tended_first _ _ _ _ _ _ _ c.args.units 0 c.start-manager.result c.start-manager.ensures))) c.requires.feeds
    c.hand_back-in-Err-Fault.result.feeds c.hand_back-in-Err-Fault.ensures.feeds

pub returns-in-Err-Fault-clause-stands : goal.returns-in-Err-Fault-clause-stands
returns-in-Err-Fault-clause-stands g c =
    stand_as _ _ _ c.args.plan.now c.args.feeds c.find_fault-stop.new.self
    (tended_then _ _ _ _ _ c.make_rounds.new.self c.find_fault-stop.new.self c.find_fault-stop.ensures.grow
    (tended_then _ _ _ _ _ c.start-manager.result c.make_rounds.new.self c.make_rounds.ensures.grow
    (tended_first _ _ _ _ _ _ _ c.args.units 0 c.start-manager.result c.start-manager.ensures))) c.requires.feeds
    c.hand_back-in-Err-Fault.result.feeds c.hand_back-in-Err-Fault.ensures.feeds

pub returns-in-Err-Fault-clause-stopped : goal.returns-in-Err-Fault-clause-stopped
returns-in-Err-Fault-clause-stopped g c =
    stopped_as _ _ _ c.args.plan.now c.args.feeds c.find_fault-stop.new.self
    (tended_then _ _ _ _ _ c.make_rounds.new.self c.find_fault-stop.new.self c.find_fault-stop.ensures.grow
    (tended_then _ _ _ _ _ c.start-manager.result c.make_rounds.new.self c.make_rounds.ensures.grow
    (tended_first _ _ _ _ _ _ _ c.args.units 0 c.start-manager.result c.start-manager.ensures))) c.requires.feeds
    c.find_fault-stop.result c.hand_back-in-Err-Fault.result.outcome c.hand_back-in-Err-Fault.result.feeds
    c.hand_back-in-Err-Fault.ensures.outcome c.hand_back-in-Err-Fault.ensures.feeds c.find_fault-stop.ensures.told
