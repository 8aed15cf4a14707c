use Rattle.std.proofs.Common.{◌≡◌, ℕ, ◌+◌, ◌-◌, ◌*◌, ◌%◌, ◌<◌, ◌≤◌, ◌∙◌, sym, ap, subst, arith, refl}
use Rattle.onvm_board.specs.Tokens.{TokenView}
use Rattle.tx_pass.specs.Keeping.{HasRoom}
use Rattle.tx_pass.specs.Passing.{AreDrained}
use Rattle.tx_pass.proofs.Draining.{drained_next, none_drained, passed_by}
use Rattle.tx_pass.proofs.Outlets.{fewer_room, rest_rows}
use Rattle.tx_pass.proofs.role.TxRole.drain_all.Goals as goal

pub loop-f-init : goal.loop-f-init
loop-f-init c =
    let plan = c.args.plan.now in
    let outlet = c.args.self.now.outlet in
    let rings : (c.len-rings.result - 0) * plan.burst ≡ c.args.board.now.layout.functions * plan.burst =
    ap (λ (n : ℕ). n * plan.burst)
    (let all : c.len-rings.result - 0 ≡ c.args.board.now.layout.functions =
    omega (arith, c.len-rings.ensures, c.requires.plan.functions) in all) in record {
      drained = none_drained c.args.board.now plan c.args.now c.args.token.now outlet c.requires.empty_handed;
      number = c.requires.number;
      same = refl;
      heads = c.requires.heads;
      outlet = c.requires.outlet;
      empty_handed = c.requires.empty_handed;
      few = omega arith;
      room = subst (λ n. HasRoom n outlet.kept) (sym rings) c.requires.room;
    }

pub loop-f-preserved-then-plan-f : goal.loop-f-preserved-then-plan-f
loop-f-preserved-then-plan-f c =
    let site = c.args.board.now in
    let plan = c.args.plan.now in
    let was = c.loop-f.invariant in
    let outlet = c.loop-f.self.outlet in
    let burst : ℕ = plan.burst in
    let rest : ℕ = (c.len-rings.result - (c.loop-f.f + 1)) * burst in
    let less : c.loop-f.f < c.len-rings.result = c.loop-f-test.true in
    let rows : (c.len-rings.result - c.loop-f.f) * burst ≡ rest + burst = rest_rows c.len-rings.result c.loop-f.f burst less in
    let few : c.loop-f.moved ≤ 1024 * c.loop-f.f = was.few in record {
      drained =
          passed_by site plan c.args.now c.loop-f.f c.loop-f.moved c.args.token.now c.loop-f.token
          c.args.self.now.outlet outlet
          (λ e. c.if-plan-f.true
          (ap (λ (z : ℕ × ℕ). z.0 + c.loop-f.f % z.1)
          (λ i. (sym c.requires.plan.ports i, sym c.requires.plan.transmit i))
          ∙ e ∙ sym (ap (λ (t : TokenView). t.role) was.drained.stretch.grew) ∙ was.number))
          was.drained;
      number = was.number;
      same = was.same;
      heads = was.heads;
      outlet = was.outlet;
      empty_handed = was.empty_handed;
      few = omega (arith, few);
      room =
          fewer_room (rest + burst) rest outlet.kept (omega arith)
          (subst (λ n. HasRoom n outlet.kept) rows was.room);
    }

pub loop-f-preserved : goal.loop-f-preserved
loop-f-preserved c =
    let site = c.args.board.now in
    let plan = c.args.plan.now in
    let was = c.loop-f.invariant in
    let is = c.drain_at.ensures in
    let outlet = c.loop-f.self.outlet in
    let burst : ℕ = plan.burst in
    let rest : ℕ = (c.len-rings.result - (c.loop-f.f + 1)) * burst in
    let less : c.loop-f.f < c.len-rings.result = c.loop-f-test.true in
    let rows : (c.len-rings.result - c.loop-f.f) * burst ≡ rest + burst = rest_rows c.len-rings.result c.loop-f.f burst less in
    let few : c.loop-f.moved ≤ 1024 * c.loop-f.f = was.few in
    let more : c.drain_at.result ≤ burst = is.few in
    let most : burst ≤ 1024 = plan.kept.sizes_are.burst.1 in
    let wide : c.from-moved.result ≡ c.drain_at.result = c.from-moved.ensures in record {
      drained =
          subst (λ (n : ℕ).
          AreDrained site plan c.args.now (c.loop-f.f + 1) (c.loop-f.moved + n) c.args.token.now
          c.drain_at.new.token c.args.self.now.outlet c.drain_at.new.self.outlet) (sym wide)
          (drained_next site plan c.args.now c.loop-f.f c.loop-f.moved c.drain_at.result c.args.token.now c.loop-f.token
          c.drain_at.new.token c.args.self.now.outlet outlet c.drain_at.new.self.outlet more was.drained is.moved);
      number = ap (λ (t : TokenView). t.role) is.moved.stretch.grew ∙ was.number ∙ sym is.number;
      same = is.number ∙ was.same;
      heads = is.heads;
      outlet = is.outlet;
      empty_handed = ap (λ (t : TokenView). t.hand) is.moved.stretch.grew;
      few = omega (arith, few, more, most, wide);
      room = is.room rest (subst (λ n. HasRoom n outlet.kept) rows was.room);
    }
