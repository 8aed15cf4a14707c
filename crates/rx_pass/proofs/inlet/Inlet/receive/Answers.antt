use Rattle.std.proofs.Common.{◌≡◌, ◌+◌, ℕ, suc, sym, ap, ◌∙◌, subst, refl, Some}
use Rattle.onvm_core.specs.Logs.{entry_after}
use Rattle.onvm_core.specs.Receiving.ReceivePhase.{Between, Seeks, Took}
use Rattle.rx_pass.specs.declared.inlet.Inlet.{Inlet}
use Rattle.rx_pass.specs.Keeping.{HasRoom}
use Rattle.rx_pass.specs.Turns.{IsTurn, Knows}
use Rattle.rx_pass.proofs.Turning.{turn_then}
use Rattle.rx_pass.proofs.inlet.Inlet.receive.Goals as goal

pub returns-in-Some-clause-turn : goal.returns-in-Some-clause-turn
returns-in-Some-clause-turn c = λ setting done knows.
    let role = c.args.token.now.role in
    let e = c.args.entry in
    let asked : c.ask.new.token.role ≡ role = c.ask.ensures.same.0 in
    let sought : c.seek.new.token.role ≡ role = c.seek.ensures.same.0 ∙ asked in
    let first = c.if-not-ask.ensures.turn setting done
    (record { layout_is = knows.layout_is; plan_is = knows.plan_is ∙ sym c.requires.registry; next = knows.next }) in
    let Next : ℕ → Type 0 = λ r. entry_after setting r done ≡ Some e in
    let Second : ℕ → Type 0 = λ r. IsTurn setting r c.args.now (Seeks done 0) (Took done c.in-Some.buf.0) c.ask.new.token
    c.seek.new.token c.ask.new.self c.seek.new.self in
    let second : Second role =
    subst Second asked (c.in-Some.ensures.turn setting done knows.layout_is (subst Next (sym asked) knows.next)) in
    let Know : ℕ → Type 0 = λ r. Knows c.args.board.now.layout c.args.plan.now r done e setting in
    let Third : ℕ → Type 0 = λ r. IsTurn setting r c.args.now (Took done c.in-Some.buf.0) (Between (done + 1)) c.seek.new.token
    c.enter.new.token c.seek.new.self c.enter.new.self in
    let third : Third role =
    subst Third sought (c.enter.ensures.turn setting done (subst Know (sym sought) knows)) in
    turn_then setting role c.args.now (Between done) (Seeks done 0) (Between (done + 1)) c.args.token.now c.ask.new.token
    c.enter.new.token c.args.self.now c.ask.new.self c.enter.new.self first
    (turn_then setting role c.args.now (Seeks done 0) (Took done c.in-Some.buf.0) (Between (done + 1)) c.ask.new.token
    c.seek.new.token c.enter.new.token c.ask.new.self c.seek.new.self c.enter.new.self second third)

pub returns-in-Some-clause-room : goal.returns-in-Some-clause-room
returns-in-Some-clause-room c = λ n room.
    let same : c.seek.new.self ≡ c.args.self.now = c.in-Some.ensures.found ∙ c.if-not-ask.ensures.may refl in
    let Room : Inlet → Type 0 = λ i. HasRoom (suc n) i.kept in
    c.enter.ensures.room n (subst Room (sym same) room)

pub returns-in-None-clause-turn : goal.returns-in-None-clause-turn
returns-in-None-clause-turn c = λ setting done knows.
    let role = c.args.token.now.role in
    let e = c.args.entry in
    let asked : c.ask.new.token.role ≡ role = c.ask.ensures.same.0 in
    let first = c.if-not-ask.ensures.turn setting done
    (record { layout_is = knows.layout_is; plan_is = knows.plan_is ∙ sym c.requires.registry; next = knows.next }) in
    let Next : ℕ → Type 0 = λ r. entry_after setting r done ≡ Some e in
    let Second : ℕ → Type 0 = λ r. IsTurn setting r c.args.now (Seeks done 0) (Between (done + 1)) c.ask.new.token
    c.seek.new.token c.ask.new.self c.seek.new.self in
    let second : Second role =
    subst Second asked (c.in-None.ensures.turn setting done knows.layout_is (subst Next (sym asked) knows.next)) in
    turn_then setting role c.args.now (Between done) (Seeks done 0) (Between (done + 1)) c.args.token.now c.ask.new.token
    c.seek.new.token c.args.self.now c.ask.new.self c.seek.new.self first second

pub returns-in-None-clause-room : goal.returns-in-None-clause-room
returns-in-None-clause-room c = λ n room.
    let Room : Inlet → Type 0 = λ i. HasRoom (suc n) i.kept in
    c.in-None.ensures.room n (subst Room (sym (c.if-not-ask.ensures.may refl)) room)
