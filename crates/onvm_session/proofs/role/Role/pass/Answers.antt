use Rattle.std.proofs.Common.{[], length}
use Rattle.onvm_promises.specs.Kept.{moment_then}
use Rattle.onvm_session.specs.declared.role.Role.TheVariants.{Receive}
use Rattle.onvm_session.proofs.RolePasses.{core_empty, core_pass, order_as, send_order, send_pass, setting_is, tick_order, tick_pass}
use Rattle.onvm_session.proofs.role.Role.pass.Goals as goal

-- A port

pub returns-in-Receive-clause-in_order : goal.returns-in-Receive-clause-in_order
returns-in-Receive-clause-in_order g c = λ setting moment fits order.
    c.pass.ensures.in_order setting moment fits
    (order_as setting c.args.token.now.role moment c.args.token.now.log c.args.self.now (Receive c.in-Receive.role)
    c.in-Receive.is order)

-- A transmit role

pub returns-in-Send-clause-promise : goal.returns-in-Send-clause-promise
returns-in-Send-clause-promise g c = λ setting moment first units states fits order started bound has.
    send_pass g.N.NetFunction.acts g.N.NetFunction.state (g.C.Clock.may_span c.args.clock.now) c.args.board.now
    c.args.plan.now c.args.token.now c.pass-in-Send.new.token c.args.now c.pass-in-Send.result setting
    (setting_is c.args.board.now.layout c.args.plan.now setting fits.0 fits.1) first units states moment c.args.self.now
    c.requires.ready c.in-Send.role c.pass-in-Send.new.self c.in-Send.is
    (c.pass-in-Send.ensures.promise setting.entries moment) order

pub returns-in-Send-clause-in_order : goal.returns-in-Send-clause-in_order
returns-in-Send-clause-in_order g c = λ setting moment fits order.
    send_order c.args.board.now.layout c.args.plan.now setting
    (setting_is c.args.board.now.layout c.args.plan.now setting fits.0 fits.1) c.args.token.now.role moment
    (moment_then moment (length c.args.token.now.log) c.args.now) c.args.token.now.log c.pass-in-Send.new.token.log
    c.args.self.now c.in-Send.role c.pass-in-Send.new.self c.in-Send.is
    (c.pass-in-Send.ensures.in_order setting.entries moment) order

-- A core

pub returns-in-Handle-clause-promise : goal.returns-in-Handle-clause-promise
returns-in-Handle-clause-promise g c = λ setting moment first units states fits order started bound has.
    core_pass g.N.NetFunction.acts g.N.NetFunction.state (g.C.Clock.may_span c.args.clock.now) c.args.board.now
    c.args.plan.now c.args.token.now c.pass-in-Handle.new.token c.args.now c.pass-in-Handle.result setting
    (setting_is c.args.board.now.layout c.args.plan.now setting fits.0 fits.1) first units states moment c.args.self.now
    c.requires.ready c.in-Handle.role c.pass-in-Handle.new.self c.in-Handle.is
    (c.pass-in-Handle.ensures.promise setting.entries) bound has

pub returns-in-Handle-clause-ready : goal.returns-in-Handle-clause-ready
returns-in-Handle-clause-ready g c =
    (c.pass-in-Handle.ensures.role, (c.pass-in-Handle.ensures.promise []).so_far.timed)

pub returns-in-Handle-clause-empty_handed : goal.returns-in-Handle-clause-empty_handed
returns-in-Handle-clause-empty_handed g c = λ empty complete.
    core_empty g.N.NetFunction.acts g.N.NetFunction.state (g.C.Clock.may_span c.args.clock.now) c.args.board.now
    c.args.plan.now c.in-Handle.role c.pass-in-Handle.new.self c.args.token.now c.pass-in-Handle.new.token
    c.pass-in-Handle.result c.pass-in-Handle.ensures.role (c.pass-in-Handle.ensures.promise []) complete

-- The tick role

pub returns-in-Tick-clause-promise : goal.returns-in-Tick-clause-promise
returns-in-Tick-clause-promise g c = λ setting moment first units states fits order started bound has.
    tick_pass g.N.NetFunction.acts g.N.NetFunction.state (g.C.Clock.may_span c.args.clock.now) c.args.board.now
    c.args.plan.now c.args.token.now c.pass-in-Tick.new.token c.args.now c.pass-in-Tick.result setting
    (setting_is c.args.board.now.layout c.args.plan.now setting fits.0 fits.1) first units states moment c.args.self.now
    c.requires.ready c.in-Tick.role c.pass-in-Tick.new.self c.in-Tick.is
    (c.pass-in-Tick.ensures.promise setting.entries moment) order started

pub returns-in-Tick-clause-in_order : goal.returns-in-Tick-clause-in_order
returns-in-Tick-clause-in_order g c = λ setting moment fits order.
    tick_order c.args.board.now.layout c.args.plan.now setting
    (setting_is c.args.board.now.layout c.args.plan.now setting fits.0 fits.1) c.args.token.now.role moment
    (moment_then moment (length c.args.token.now.log) c.args.now) c.args.token.now.log c.pass-in-Tick.new.token.log
    c.args.self.now c.in-Tick.role c.pass-in-Tick.new.self c.in-Tick.is
    (λ own. (c.pass-in-Tick.ensures.promise setting.entries moment own).so_far) order
