use Rattle.std.proofs.Common.{◌≡◌, ◌∙◌, ◌<◌, sym, ap, true, arith}
use Rattle.onvm_core.specs.declared.layout.Layout.{Layout}
use Rattle.onvm_core.specs.Layouts.{first_role}
use Rattle.onvm_session.specs.Moments.{moment_of_round}
use Rattle.onvm_session.specs.Runs.{any_moment}
use Rattle.onvm_session.specs.Views.{role_at}
use Rattle.onvm_session.proofs.ManagerRounds.{round_begins, round_next}
use Rattle.onvm_session.proofs.ManagerRuns.{grow_same, grow_then, on_same, on_then}
use Rattle.onvm_session.proofs.manager.Manager.round.Goals as goal

pub loop-place-init : goal.loop-place-init
loop-place-init g c = record {
  manager = c.requires.manager;
  upto = c.requires.upto;
  stands = round_begins c.args.self.now c.requires.place;
  on =
      on_same g.N.NetFunction.acts g.N.NetFunction.state true any_moment (g.C.Clock.may_span c.args.clock.now)
      c.args.plan.now c.args.self.now;
  grow = grow_same g.I.Source.name g.I.Source.left g.I.Source.takes c.args.self.now;
}

pub turn-requires-clause-manager : goal.turn-requires-clause-manager
turn-requires-clause-manager g c = λ lives within. c.loop-place.invariant.manager

pub turn-requires-clause-upto : goal.turn-requires-clause-upto
turn-requires-clause-upto g c = λ lives within. c.loop-place.invariant.upto

pub turn-requires-clause-role : goal.turn-requires-clause-role
turn-requires-clause-role g c = λ lives within.
    let self = c.loop-place.self in
    let less : c.loop-place.place < first_role c.args.self.now.board.layout =
    omega (arith, c.loop-place-test.true, c.len-roles.ensures, c.requires.manager.many) in
    c.role_at-role.ensures
    ∙ ap (λ (l : Layout). role_at l c.loop-place.place) c.loop-place.invariant.manager.layout_is
    ∙ ap (role_at self.board.layout) (sym (c.loop-place.invariant.stands.on_way less).0)

pub turn-requires-clause-now : goal.turn-requires-clause-now
turn-requires-clause-now g c = λ lives within.
    let less : c.loop-place.place < first_role c.args.self.now.board.layout =
    omega (arith, c.loop-place-test.true, c.len-roles.ensures, c.requires.manager.many) in
    c.requires.now ∙ ap moment_of_round (sym (c.loop-place.invariant.stands.on_way less).1)

pub returns-in_err-turn-clause-grow : goal.returns-in_err-turn-clause-grow
returns-in_err-turn-clause-grow g c =
    grow_then g.I.Source.name g.I.Source.left g.I.Source.takes c.args.self.now c.loop-place.self c.turn.new.self
    c.loop-place.invariant.grow c.turn.ensures.grow

pub loop-place-preserved : goal.loop-place-preserved
loop-place-preserved g c =
    let was = c.loop-place.invariant in
    let less : c.loop-place.place < first_role c.args.self.now.board.layout =
    omega (arith, c.loop-place-test.true, c.len-roles.ensures, c.requires.manager.many) in
    record {
      manager = c.in_ok-turn.ensures.manager;
      upto = c.turn.ensures.upto;
      stands =
          round_next c.args.self.now c.loop-place.self c.turn.new.self c.loop-place.place was.stands less
          c.turn.ensures.grow.board c.in_ok-turn.ensures.place c.in_ok-turn.ensures.round;
      on =
          on_then g.N.NetFunction.acts g.N.NetFunction.state true any_moment (g.C.Clock.may_span c.args.clock.now)
          c.args.plan.now g.I.Source.name g.I.Source.left g.I.Source.takes c.args.self.now c.loop-place.self
          c.turn.new.self was.on c.in_ok-turn.ensures.on c.turn.ensures.grow;
      grow =
          grow_then g.I.Source.name g.I.Source.left g.I.Source.takes c.args.self.now c.loop-place.self c.turn.new.self
          was.grow c.turn.ensures.grow;
    }

pub returns-clause-manager : goal.returns-clause-manager
returns-clause-manager g c = c.loop-place.invariant.manager

pub returns-clause-upto : goal.returns-clause-upto
returns-clause-upto g c = c.loop-place.invariant.upto

pub returns-clause-on : goal.returns-clause-on
returns-clause-on g c = c.loop-place.invariant.on

pub returns-clause-grow : goal.returns-clause-grow
returns-clause-grow g c = c.loop-place.invariant.grow

pub returns-clause-place : goal.returns-clause-place
returns-clause-place g c =
    let last : c.loop-place.place ≡ first_role c.args.self.now.board.layout =
    omega (arith, c.loop-place-test.false, c.loop-place.auto.place-end, c.len-roles.ensures, c.requires.manager.many) in
    (c.loop-place.invariant.stands.at_end last).0

pub returns-clause-round : goal.returns-clause-round
returns-clause-round g c =
    let last : c.loop-place.place ≡ first_role c.args.self.now.board.layout =
    omega (arith, c.loop-place-test.false, c.loop-place.auto.place-end, c.len-roles.ensures, c.requires.manager.many) in
    (c.loop-place.invariant.stands.at_end last).1
