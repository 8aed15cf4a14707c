use Rattle.std.proofs.Common.{◌<◌, ap, refl, arith}
use Rattle.onvm_promises.specs.Kept.{FeederKeeps}
use Rattle.onvm_promises.specs.Roles.{setting_of}
use Rattle.tx_pass.proofs.Passed.{did_promise, idle_promise, in_order}
use Rattle.tx_pass.proofs.Promising.{wanting_in_order, wanting_promise}
use Rattle.tx_pass.proofs.role.TxRole.pass.Goals as goal

-- Memory was wanting

pub returns-then-is_err-clause-promise : goal.returns-then-is_err-clause-promise
returns-then-is_err-clause-promise c entries moment is =
    let log = c.args.token.now.log in
    wanting_promise (setting_of c.args.board.now.layout c.args.plan.now entries) c.args.token.now.role c.args.now moment
    log log c.args.self.now c.reserve.new.self c.reserve.ensures.kept c.reserve.ensures.feeder refl is

pub returns-then-is_err-clause-in_order : goal.returns-then-is_err-clause-in_order
returns-then-is_err-clause-in_order c entries moment is =
    let log = c.args.token.now.log in
    wanting_in_order (setting_of c.args.board.now.layout c.args.plan.now entries) c.args.token.now.role c.args.now moment
    log log c.args.self.now c.reserve.new.self c.reserve.ensures.kept c.reserve.ensures.feeder refl is

-- Nothing was moved

pub returns-then-moved-eq0-clause-promise : goal.returns-then-moved-eq0-clause-promise
returns-then-moved-eq0-clause-promise c entries moment is =
    idle_promise c.args.board.now c.args.plan.now entries c.args.now moment c.args.self.now c.drain_all-moved.new.self
    c.reserve.new.self.outlet.feeder c.marks_pass.new.feeder _ c.args.token.now c.marks_pass.new.token
    c.drain_all-moved.new.token c.drain_all-moved.result c.requires.role c.reserve.ensures.feeder c.marks_pass.ensures.passed
    c.marks_pass.ensures.feeder.role c.marks_pass.ensures.same
    (ap (λ (k : FeederKeeps). k.outcomes) c.reserve.ensures.kept) refl c.drain_all-moved.ensures.drained is c.if-moved-eq0.true

pub returns-then-moved-eq0-clause-in_order : goal.returns-then-moved-eq0-clause-in_order
returns-then-moved-eq0-clause-in_order c entries moment is =
    in_order c.args.board.now c.args.plan.now entries c.args.now moment c.args.self.now c.drain_all-moved.new.self
    c.reserve.new.self.outlet.feeder c.marks_pass.new.feeder _ c.args.token.now c.marks_pass.new.token
    c.drain_all-moved.new.token c.drain_all-moved.result c.requires.role c.reserve.ensures.feeder c.marks_pass.ensures.passed
    c.marks_pass.ensures.feeder.role c.marks_pass.ensures.same
    (ap (λ (k : FeederKeeps). k.outcomes) c.reserve.ensures.kept) refl c.drain_all-moved.ensures.drained is

-- Some were

pub returns-else-moved-eq0-clause-promise : goal.returns-else-moved-eq0-clause-promise
returns-else-moved-eq0-clause-promise c entries moment is =
    let some : 0 < c.drain_all-moved.result = omega (arith, c.if-moved-eq0.false) in
    did_promise c.args.board.now c.args.plan.now entries c.args.now moment c.args.self.now c.drain_all-moved.new.self
    c.reserve.new.self.outlet.feeder c.marks_pass.new.feeder _ c.args.token.now c.marks_pass.new.token
    c.drain_all-moved.new.token c.drain_all-moved.result c.requires.role c.reserve.ensures.feeder c.marks_pass.ensures.passed
    c.marks_pass.ensures.feeder.role c.marks_pass.ensures.same
    (ap (λ (k : FeederKeeps). k.outcomes) c.reserve.ensures.kept) refl c.drain_all-moved.ensures.drained is some

pub returns-else-moved-eq0-clause-in_order : goal.returns-else-moved-eq0-clause-in_order
returns-else-moved-eq0-clause-in_order c entries moment is =
    in_order c.args.board.now c.args.plan.now entries c.args.now moment c.args.self.now c.drain_all-moved.new.self
    c.reserve.new.self.outlet.feeder c.marks_pass.new.feeder _ c.args.token.now c.marks_pass.new.token
    c.drain_all-moved.new.token c.drain_all-moved.result c.requires.role c.reserve.ensures.feeder c.marks_pass.ensures.passed
    c.marks_pass.ensures.feeder.role c.marks_pass.ensures.same
    (ap (λ (k : FeederKeeps). k.outcomes) c.reserve.ensures.kept) refl c.drain_all-moved.ensures.drained is
