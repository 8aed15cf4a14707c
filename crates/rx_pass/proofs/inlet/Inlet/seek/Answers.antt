use Rattle.std.proofs.Common.{◌≡◌, ◌<◌, ℕ, sym, ap, subst, refl, arith}
use Rattle.onvm_board.specs.Tokens.{TokenView}
use Rattle.mbuf_pool.specs.Parts.{FindsNone, TakesLowest}
use Rattle.rx_pass.proofs.Inlets.{inlet_by, none_inlet, taken_inlet}
use Rattle.rx_pass.proofs.Parts.{none_turn, taken_turn}
use Rattle.rx_pass.proofs.inlet.Inlet.seek.Goals as goal

pub returns-in-Some-clause-turn : goal.returns-in-Some-clause-turn
returns-in-Some-clause-turn c = λ setting done same next.
    let role = c.args.token.now.role in
    let Takes : ℕ → Type 0 = λ p. TakesLowest c.args.board.now p c.in-Some.buf c.args.token.now c.take.new.token in
    let some : 0 < c.args.board.now.layout.buffers = omega (arith, c.requires.inlet.part.ranges.buffers) in
    taken_turn setting c.args.board.now role c.args.now done c.args.entry.now c.in-Some.buf c.args.token.now
    c.take.new.token c.args.self.now same some next (subst Takes (sym c.requires.inlet.port) c.in-Some.ensures.taken)

pub returns-in-Some-clause-inlet : goal.returns-in-Some-clause-inlet
returns-in-Some-clause-inlet c =
    taken_inlet c.args.board.now c.args.self.now c.args.self.now.part.port.0 c.in-Some.buf c.args.token.now c.take.new.token
    c.in-Some.ensures.taken c.requires.inlet

pub returns-in-None-clause-turn : goal.returns-in-None-clause-turn
returns-in-None-clause-turn c = λ setting done same next.
    let role = c.args.token.now.role in
    let Finds : ℕ → Type 0 = λ p. FindsNone c.args.board.now p c.args.entry.now.frame c.args.token.now c.take.new.token in
    let some : 0 < c.args.board.now.layout.buffers = omega (arith, c.requires.inlet.part.ranges.buffers) in
    none_turn setting c.args.board.now role c.args.now done c.args.entry.now c.args.token.now c.take.new.token
    c.args.self.now _ same some next (subst Finds (sym c.requires.inlet.port) c.in-None.ensures.none)
    c.record.ensures.records (ap (λ v. v.items) c.record.ensures.sent) refl

pub returns-in-None-clause-inlet : goal.returns-in-None-clause-inlet
returns-in-None-clause-inlet c =
    inlet_by c.args.board.now c.args.self.now _ c.take.new.token refl refl refl
    (none_inlet c.args.board.now c.args.self.now c.args.self.now.part.port.0 c.args.entry.now.frame c.args.token.now
    c.take.new.token c.in-None.ensures.none c.requires.inlet)
