use Rattle.std.proofs.Common.{◌≡◌, ◌∙◌, ◌⊎◌, sym, ap, refl, ℕ, ◌<◌, None, length, arith, rules}
use Rattle.onvm_promises.specs.Kept.{FeederKeeps, moment_then}
use Rattle.entry_throttle.specs.Feeders.{FeederView}
use Rattle.rx_feed.specs.Intakes.{IntakeView}
use Rattle.rx_feed.specs.Standing.{HasStopped}
use Rattle.rx_pass.specs.Roles.{done_of, keeps_of, waiting_of}
use Rattle.rx_pass.proofs.Afterwards.{knows_same, of_order, role_after, to_order}
use Rattle.rx_pass.proofs.Queues.{burst_done}
use Rattle.rx_pass.proofs.Passing.{did_promise, idle_promise, noted, order_after, role_same, stopped_promise}
use Rattle.rx_pass.proofs.Promising.{unstepped, wanting_promise}
use Rattle.rx_pass.proofs.role.RxRole.pass.Goals as goal

-- Memory was wanting

pub returns-then-is_err-clause-promise : goal.returns-then-is_err-clause-promise
returns-then-is_err-clause-promise g c = λ setting moment fits is.
    let role = c.args.token.now.role in
    let log = c.args.token.now.log in
    let old = c.args.self.now in
    let new = c.prepare.new.self in
    wanting_promise setting role c.args.now moment log (keeps_of new) new.inlet.feeder (done_of new)
    (knows_same setting role moment log (keeps_of old) (keeps_of new) old.inlet.feeder new.inlet.feeder (done_of old)
    (done_of new) c.prepare.ensures.kept c.prepare.ensures.feeder c.prepare.ensures.done
    (of_order setting role moment log old is))

pub returns-then-is_err-clause-in_order : goal.returns-then-is_err-clause-in_order
returns-then-is_err-clause-in_order g c = λ setting moment fits is.
    let role = c.args.token.now.role in
    let log = c.args.token.now.log in
    let old = c.args.self.now in
    let new = c.prepare.new.self in
    to_order setting role _ log new
    (unstepped setting role c.args.now moment log (keeps_of new) new.inlet.feeder (done_of new)
    (knows_same setting role moment log (keeps_of old) (keeps_of new) old.inlet.feeder new.inlet.feeder (done_of old)
    (done_of new) c.prepare.ensures.kept c.prepare.ensures.feeder c.prepare.ensures.done
    (of_order setting role moment log old is)))

pub returns-then-is_some-clause-promise : goal.returns-then-is_some-clause-promise
returns-then-is_some-clause-promise g c = λ setting moment fits is.
    let full : (length (waiting_of c.prepare.new.self) ≡ c.args.plan.now.burst)
    ⊎ HasStopped c.prepare.new.self.intake.standing = search rules in
    stopped_promise c.args.board.now c.args.plan.now c.args.now c.args.self.now c.prepare.new.self c.receive_all-received.new.self _
    c.marks_pass.new.feeder c.args.token.now c.marks_pass.new.token c.receive_all-received.new.token c.requires.role
    c.prepare.ensures.feeder c.prepare.ensures.kept c.prepare.ensures.done c.prepare.ensures.queue c.prepare.ensures.few
    full c.marks_pass.ensures.passed c.marks_pass.ensures.feeder.role c.marks_pass.ensures.same refl refl
    c.receive_all-received.ensures.turn c.receive_all-received.ensures.intake.0 c.receive_all-received.ensures.empty setting moment fits is

pub returns-then-is_some-clause-in_order : goal.returns-then-is_some-clause-in_order
returns-then-is_some-clause-in_order g c = λ setting moment fits is.
    let full : (length (waiting_of c.prepare.new.self) ≡ c.args.plan.now.burst)
    ⊎ HasStopped c.prepare.new.self.intake.standing = search rules in
    order_after c.args.board.now c.args.plan.now c.args.now c.args.self.now c.prepare.new.self c.receive_all-received.new.self _
    c.marks_pass.new.feeder c.args.token.now c.marks_pass.new.token c.receive_all-received.new.token c.requires.role
    c.prepare.ensures.feeder c.prepare.ensures.kept c.prepare.ensures.done c.prepare.ensures.queue c.prepare.ensures.few
    full c.marks_pass.ensures.passed c.marks_pass.ensures.feeder.role c.marks_pass.ensures.same refl refl
    c.receive_all-received.ensures.turn c.receive_all-received.ensures.intake.0 c.receive_all-received.ensures.empty setting moment fits is

pub returns-then-is_some-clause-role : goal.returns-then-is_some-clause-role
returns-then-is_some-clause-role g c =
    let full : (length (waiting_of c.prepare.new.self) ≡ c.args.plan.now.burst)
    ⊎ HasStopped c.prepare.new.self.intake.standing = search rules in
    role_after c.args.board.now c.args.plan.now c.args.token.now c.receive_all-received.new.token c.args.self.now
    c.prepare.new.self c.receive_all-received.new.self c.marks_pass.new.feeder c.requires.role c.prepare.ensures.feeder
    c.prepare.ensures.ends.2 c.prepare.ensures.frames c.marks_pass.ensures.same
    (noted c.args.board.now c.args.plan.now c.args.now c.args.self.now c.prepare.new.self c.receive_all-received.new.self _
    c.marks_pass.new.feeder c.args.token.now c.marks_pass.new.token c.receive_all-received.new.token c.requires.role
    c.prepare.ensures.feeder c.prepare.ensures.kept c.prepare.ensures.done c.prepare.ensures.queue c.prepare.ensures.few
    full c.marks_pass.ensures.passed c.marks_pass.ensures.feeder.role c.marks_pass.ensures.same refl refl
    c.receive_all-received.ensures.turn c.receive_all-received.ensures.intake.0 c.receive_all-received.ensures.empty)
    c.receive_all-received.ensures.intake.0 c.receive_all-received.ensures.intake.1 c.receive_all-received.ensures.empty
    c.receive_all-received.ensures.inlet c.receive_all-received.ensures.hand
    (c.receive_all-received.ensures.same.0 ∙ c.marks_pass.ensures.feeder.role
    ∙ ap (λ (f : FeederView). f.number) c.marks_pass.ensures.same
    ∙ ap (λ (f : FeederView). f.number) c.prepare.ensures.feeder ∙ sym c.requires.role.inlet.feeder.role)

pub returns-then-received-eq0-clause-promise : goal.returns-then-received-eq0-clause-promise
returns-then-received-eq0-clause-promise g c = λ setting moment fits is.
    let waits = sym c.receive_all-received.ensures.count ∙ c.if-received-eq0.true in
    let sound : c.receive_all-received.new.self.intake.standing.fault ≡ None = search rules in
    let full : (length (waiting_of c.prepare.new.self) ≡ c.args.plan.now.burst)
    ⊎ HasStopped c.prepare.new.self.intake.standing = search rules in
    idle_promise c.args.board.now c.args.plan.now c.args.now c.args.self.now c.prepare.new.self c.receive_all-received.new.self _
    c.marks_pass.new.feeder c.args.token.now c.marks_pass.new.token c.receive_all-received.new.token c.requires.role
    c.prepare.ensures.feeder c.prepare.ensures.kept c.prepare.ensures.done c.prepare.ensures.queue c.prepare.ensures.few
    full c.marks_pass.ensures.passed c.marks_pass.ensures.feeder.role c.marks_pass.ensures.same refl refl
    c.receive_all-received.ensures.turn c.receive_all-received.ensures.intake.0 c.receive_all-received.ensures.empty setting moment fits is waits sound

pub returns-then-received-eq0-clause-in_order : goal.returns-then-received-eq0-clause-in_order
returns-then-received-eq0-clause-in_order g c = λ setting moment fits is.
    let full : (length (waiting_of c.prepare.new.self) ≡ c.args.plan.now.burst)
    ⊎ HasStopped c.prepare.new.self.intake.standing = search rules in
    order_after c.args.board.now c.args.plan.now c.args.now c.args.self.now c.prepare.new.self c.receive_all-received.new.self _
    c.marks_pass.new.feeder c.args.token.now c.marks_pass.new.token c.receive_all-received.new.token c.requires.role
    c.prepare.ensures.feeder c.prepare.ensures.kept c.prepare.ensures.done c.prepare.ensures.queue c.prepare.ensures.few
    full c.marks_pass.ensures.passed c.marks_pass.ensures.feeder.role c.marks_pass.ensures.same refl refl
    c.receive_all-received.ensures.turn c.receive_all-received.ensures.intake.0 c.receive_all-received.ensures.empty setting moment fits is

pub returns-then-received-eq0-clause-role : goal.returns-then-received-eq0-clause-role
returns-then-received-eq0-clause-role g c =
    let full : (length (waiting_of c.prepare.new.self) ≡ c.args.plan.now.burst)
    ⊎ HasStopped c.prepare.new.self.intake.standing = search rules in
    role_after c.args.board.now c.args.plan.now c.args.token.now c.receive_all-received.new.token c.args.self.now
    c.prepare.new.self c.receive_all-received.new.self c.marks_pass.new.feeder c.requires.role c.prepare.ensures.feeder
    c.prepare.ensures.ends.2 c.prepare.ensures.frames c.marks_pass.ensures.same
    (noted c.args.board.now c.args.plan.now c.args.now c.args.self.now c.prepare.new.self c.receive_all-received.new.self _
    c.marks_pass.new.feeder c.args.token.now c.marks_pass.new.token c.receive_all-received.new.token c.requires.role
    c.prepare.ensures.feeder c.prepare.ensures.kept c.prepare.ensures.done c.prepare.ensures.queue c.prepare.ensures.few
    full c.marks_pass.ensures.passed c.marks_pass.ensures.feeder.role c.marks_pass.ensures.same refl refl
    c.receive_all-received.ensures.turn c.receive_all-received.ensures.intake.0 c.receive_all-received.ensures.empty)
    c.receive_all-received.ensures.intake.0 c.receive_all-received.ensures.intake.1 c.receive_all-received.ensures.empty
    c.receive_all-received.ensures.inlet c.receive_all-received.ensures.hand
    (c.receive_all-received.ensures.same.0 ∙ c.marks_pass.ensures.feeder.role
    ∙ ap (λ (f : FeederView). f.number) c.marks_pass.ensures.same
    ∙ ap (λ (f : FeederView). f.number) c.prepare.ensures.feeder ∙ sym c.requires.role.inlet.feeder.role)

pub returns-else-received-eq0-clause-promise : goal.returns-else-received-eq0-clause-promise
returns-else-received-eq0-clause-promise g c = λ setting moment fits is.
    let received : ℕ = c.receive_all-received.result in
    let count = c.receive_all-received.ensures.count in
    let some : 0 < received = omega (arith, c.if-received-eq0.false) in
    let sound : c.receive_all-received.new.self.intake.standing.fault ≡ None = search rules in
    let full : (length (waiting_of c.prepare.new.self) ≡ c.args.plan.now.burst)
    ⊎ HasStopped c.prepare.new.self.intake.standing = search rules in
    did_promise c.args.board.now c.args.plan.now c.args.now c.args.self.now c.prepare.new.self c.receive_all-received.new.self _
    c.marks_pass.new.feeder c.args.token.now c.marks_pass.new.token c.receive_all-received.new.token c.requires.role
    c.prepare.ensures.feeder c.prepare.ensures.kept c.prepare.ensures.done c.prepare.ensures.queue c.prepare.ensures.few
    full c.marks_pass.ensures.passed c.marks_pass.ensures.feeder.role c.marks_pass.ensures.same refl refl
    c.receive_all-received.ensures.turn c.receive_all-received.ensures.intake.0 c.receive_all-received.ensures.empty setting moment fits is received count some sound

pub returns-else-received-eq0-clause-in_order : goal.returns-else-received-eq0-clause-in_order
returns-else-received-eq0-clause-in_order g c = λ setting moment fits is.
    let full : (length (waiting_of c.prepare.new.self) ≡ c.args.plan.now.burst)
    ⊎ HasStopped c.prepare.new.self.intake.standing = search rules in
    order_after c.args.board.now c.args.plan.now c.args.now c.args.self.now c.prepare.new.self c.receive_all-received.new.self _
    c.marks_pass.new.feeder c.args.token.now c.marks_pass.new.token c.receive_all-received.new.token c.requires.role
    c.prepare.ensures.feeder c.prepare.ensures.kept c.prepare.ensures.done c.prepare.ensures.queue c.prepare.ensures.few
    full c.marks_pass.ensures.passed c.marks_pass.ensures.feeder.role c.marks_pass.ensures.same refl refl
    c.receive_all-received.ensures.turn c.receive_all-received.ensures.intake.0 c.receive_all-received.ensures.empty setting moment fits is

pub returns-else-received-eq0-clause-role : goal.returns-else-received-eq0-clause-role
returns-else-received-eq0-clause-role g c =
    let full : (length (waiting_of c.prepare.new.self) ≡ c.args.plan.now.burst)
    ⊎ HasStopped c.prepare.new.self.intake.standing = search rules in
    role_after c.args.board.now c.args.plan.now c.args.token.now c.receive_all-received.new.token c.args.self.now
    c.prepare.new.self c.receive_all-received.new.self c.marks_pass.new.feeder c.requires.role c.prepare.ensures.feeder
    c.prepare.ensures.ends.2 c.prepare.ensures.frames c.marks_pass.ensures.same
    (noted c.args.board.now c.args.plan.now c.args.now c.args.self.now c.prepare.new.self c.receive_all-received.new.self _
    c.marks_pass.new.feeder c.args.token.now c.marks_pass.new.token c.receive_all-received.new.token c.requires.role
    c.prepare.ensures.feeder c.prepare.ensures.kept c.prepare.ensures.done c.prepare.ensures.queue c.prepare.ensures.few
    full c.marks_pass.ensures.passed c.marks_pass.ensures.feeder.role c.marks_pass.ensures.same refl refl
    c.receive_all-received.ensures.turn c.receive_all-received.ensures.intake.0 c.receive_all-received.ensures.empty)
    c.receive_all-received.ensures.intake.0 c.receive_all-received.ensures.intake.1 c.receive_all-received.ensures.empty
    c.receive_all-received.ensures.inlet c.receive_all-received.ensures.hand
    (c.receive_all-received.ensures.same.0 ∙ c.marks_pass.ensures.feeder.role
    ∙ ap (λ (f : FeederView). f.number) c.marks_pass.ensures.same
    ∙ ap (λ (f : FeederView). f.number) c.prepare.ensures.feeder ∙ sym c.requires.role.inlet.feeder.role)

pub returns-then-is_some-clause-burst : goal.returns-then-is_some-clause-burst
returns-then-is_some-clause-burst g c =
    let ready = c.prepare.new.self in
    let queue = c.prepare.ensures.queue c.requires.role.queue in
    burst_done ready.intake.standing.pulled queue.0 (waiting_of ready) _ _ (done_of c.args.self.now) c.args.plan.now.burst
    queue.1 c.prepare.ensures.done c.prepare.ensures.few
    (ap (λ (i : IntakeView _). i.standing.pulled) c.receive_all-received.ensures.intake.0)
    c.receive_all-received.ensures.empty

pub returns-then-received-eq0-clause-burst : goal.returns-then-received-eq0-clause-burst
returns-then-received-eq0-clause-burst g c =
    let ready = c.prepare.new.self in
    let queue = c.prepare.ensures.queue c.requires.role.queue in
    burst_done ready.intake.standing.pulled queue.0 (waiting_of ready) _ _ (done_of c.args.self.now) c.args.plan.now.burst
    queue.1 c.prepare.ensures.done c.prepare.ensures.few
    (ap (λ (i : IntakeView _). i.standing.pulled) c.receive_all-received.ensures.intake.0)
    c.receive_all-received.ensures.empty

pub returns-else-received-eq0-clause-burst : goal.returns-else-received-eq0-clause-burst
returns-else-received-eq0-clause-burst g c =
    let ready = c.prepare.new.self in
    let queue = c.prepare.ensures.queue c.requires.role.queue in
    burst_done ready.intake.standing.pulled queue.0 (waiting_of ready) _ _ (done_of c.args.self.now) c.args.plan.now.burst
    queue.1 c.prepare.ensures.done c.prepare.ensures.few
    (ap (λ (i : IntakeView _). i.standing.pulled) c.receive_all-received.ensures.intake.0)
    c.receive_all-received.ensures.empty
