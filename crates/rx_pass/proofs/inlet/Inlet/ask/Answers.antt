use Rattle.std.proofs.Common.{◌≡◌, ℕ, ◌<◌, sym, ap, ◌∙◌, subst, refl, arith}
use Rattle.onvm_core.specs.declared.layout.Layout.{Layout}
use Rattle.onvm_core.specs.Layouts.{feeder_count}
use Rattle.entry_throttle.specs.Admissions.{FoundNone}
use Rattle.rx_pass.proofs.Inlets.{go_inlet, held_inlet, inlet_by}
use Rattle.rx_pass.proofs.Parts.{go_turn, held_turn, mask_of}
use Rattle.rx_pass.proofs.inlet.Inlet.ask.Goals as goal

pub returns-in-Go-clause-turn : goal.returns-in-Go-clause-turn
returns-in-Go-clause-turn c = λ setting done knows.
    let count : c.args.feeders ≡ feeder_count setting.layout = c.requires.feeders ∙ sym (ap feeder_count knows.layout_is) in
    let Found : ℕ → Type 0 = λ n. FoundNone n c.mask-mask.result c.args.token.now c.admit.new.token in
    let Some_ : Layout → Type 0 = λ l. 0 < feeder_count l in
    let some : 0 < feeder_count c.args.board.now.layout = omega (arith, c.requires.inlet.part.port) in
    go_turn setting c.args.token.now.role c.args.now done c.mask-mask.result c.args.entry.now c.args.token.now
    c.admit.new.token c.args.self.now knows.next
    (mask_of setting c.args.registry.now c.args.entry.now c.mask-mask.result knows.plan_is c.mask-mask.ensures)
    (subst Some_ (sym knows.layout_is) some) (subst Found count c.in-Go.ensures.answer)

pub returns-in-Go-clause-inlet : goal.returns-in-Go-clause-inlet
returns-in-Go-clause-inlet c =
    go_inlet c.args.board.now c.args.self.now c.args.feeders c.mask-mask.result c.args.token.now c.admit.new.token
    c.in-Go.ensures.answer c.requires.inlet

pub returns-in-Hold-clause-turn : goal.returns-in-Hold-clause-turn
returns-in-Hold-clause-turn c = λ setting done knows.
    let count : c.args.feeders ≡ feeder_count setting.layout = c.requires.feeders ∙ sym (ap feeder_count knows.layout_is) in
    let Below : ℕ → Type 0 = λ n. c.in-Hold.feeder < n in
    let answer = c.in-Hold.ensures.answer in
    held_turn setting c.args.token.now.role c.args.now done c.mask-mask.result c.in-Hold.feeder c.in-Hold.post
    c.in-Hold.function.0 c.args.entry.now c.args.token.now c.admit.new.token c.args.self.now _ knows.next
    (mask_of setting c.args.registry.now c.args.entry.now c.mask-mask.result knows.plan_is c.mask-mask.ensures)
    (subst Below count answer.0) answer.1 c.record.ensures.records (ap (λ v. v.items) c.record.ensures.sent) refl

pub returns-in-Hold-clause-inlet : goal.returns-in-Hold-clause-inlet
returns-in-Hold-clause-inlet c =
    inlet_by c.args.board.now c.args.self.now _ c.admit.new.token refl refl refl
    (held_inlet c.args.board.now c.args.self.now c.args.entry.now.frame c.mask-mask.result c.in-Hold.feeder c.in-Hold.post
    c.in-Hold.function.0 c.args.token.now c.admit.new.token c.in-Hold.ensures.answer.1 c.requires.inlet)
