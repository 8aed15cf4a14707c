use Rattle.std.proofs.Common.{◌≡◌, ◌∙◌, ◌<◌, ap, subst, refl, true, inl, inr, arith, length}
use Rattle.std.specs.Vec.{with_item}
use Rattle.std.proofs.lemmas.Option.{slice_get_read}
use Rattle.onvm_board.specs.Tokens.{TokenView, token_after, token_after_join}
use Rattle.onvm_promises.specs.Answers.{is_complete}
use Rattle.onvm_session.specs.declared.manager.Manager.{Manager}
use Rattle.onvm_session.specs.Managers.{place_now}
use Rattle.onvm_session.specs.RoleStates.{IsUpTo}
use Rattle.onvm_session.specs.Runs.{any_moment}
use Rattle.onvm_session.specs.Views.{closing_look}
use Rattle.onvm_session.proofs.ManagerGoing.{turn_on}
use Rattle.onvm_session.proofs.ManagerRuns.{each_set, got_same, grow_set}
use Rattle.onvm_session.proofs.ManagerTurns.{IsTurn, IsTurnPass, turn_manager}
use Rattle.onvm_session.proofs.Places.{role_below}
use Rattle.onvm_session.proofs.manager.Manager.turn.Given.{Over}
use Rattle.onvm_session.proofs.manager.Manager.turn.Goals as goal

pub returns-in-Wanting-clause-grow : goal.returns-in-Wanting-clause-grow
returns-in-Wanting-clause-grow g c =
    let below = role_below c.args.self.now.board.layout (place_now c.args.self.now) in
    let known : c.args.role < length c.args.self.now.roles.items =
    omega (arith, below, c.requires.role, c.requires.manager.many) in
    grow_set g.I.Source.name g.I.Source.left g.I.Source.takes c.args.self.now _ c.args.role c.index_mut.result.now
    c.pass-answer.new.self (slice_get_read c.args.self.now.roles.items _ c.args.role _ refl known c.index_mut.ensures.value)
    refl refl refl c.pass-answer.ensures.grows c.pass-answer.ensures.fed

pub returns-in-Stopped-clause-grow : goal.returns-in-Stopped-clause-grow
returns-in-Stopped-clause-grow g c =
    let below = role_below c.args.self.now.board.layout (place_now c.args.self.now) in
    let known : c.args.role < length c.args.self.now.roles.items =
    omega (arith, below, c.requires.role, c.requires.manager.many) in
    grow_set g.I.Source.name g.I.Source.left g.I.Source.takes c.args.self.now _ c.args.role c.index_mut.result.now
    c.pass-answer.new.self (slice_get_read c.args.self.now.roles.items _ c.args.role _ refl known c.index_mut.ensures.value)
    refl refl refl c.pass-answer.ensures.grows c.pass-answer.ensures.fed

pub returns-clause-grow : goal.returns-clause-grow
returns-clause-grow g c =
    let below = role_below c.args.self.now.board.layout (place_now c.args.self.now) in
    let known : c.args.role < length c.args.self.now.roles.items =
    omega (arith, below, c.requires.role, c.requires.manager.many) in
    grow_set g.I.Source.name g.I.Source.left g.I.Source.takes c.args.self.now _ c.args.role c.index_mut.result.now
    c.pass-answer.new.self (slice_get_read c.args.self.now.roles.items _ c.args.role _ refl known c.index_mut.ensures.value)
    refl refl refl c.pass-answer.ensures.grows c.pass-answer.ensures.fed

pub returns-in-Stopped-clause-upto : goal.returns-in-Stopped-clause-upto
returns-in-Stopped-clause-upto g c =
    let below = role_below c.args.self.now.board.layout (place_now c.args.self.now) in
    each_set (λ r role. IsUpTo c.args.now role) c.args.self.now.roles.items c.args.role c.pass-answer.new.self
    (omega (arith, below, c.requires.role, c.requires.manager.many)) c.pass-answer.ensures.upto
    (λ r role apart found. c.requires.upto r role found)

pub returns-clause-upto : goal.returns-clause-upto
returns-clause-upto g c =
    let below = role_below c.args.self.now.board.layout (place_now c.args.self.now) in
    each_set (λ r role. IsUpTo c.args.now role) c.args.self.now.roles.items c.args.role c.pass-answer.new.self
    (omega (arith, below, c.requires.role, c.requires.manager.many)) c.pass-answer.ensures.upto
    (λ r role apart found. c.requires.upto r role found)

pub returns-in-Stopped-clause-fault : goal.returns-in-Stopped-clause-fault
returns-in-Stopped-clause-fault g c = λ stopped.
    let below = role_below c.args.self.now.board.layout (place_now c.args.self.now) in (
      c.args.role,
      c.pass-answer.new.self,
      got_same c.args.self.now.roles.items c.args.role c.pass-answer.new.self
          (omega (arith, below, c.requires.role, c.requires.manager.many)),
      c.pass-answer.ensures.stopped c.in-Stopped.is,
    )

-- the manager behind the look
abbrev behind : (g : Over) → goal.After-look g → Manager g.row.I.Denot g.row.N.Denot
behind g c = record c.args.self.now {
  first = c.look.new.token;
  roles = with_item c.args.self.now.roles c.args.role c.pass-answer.new.self;
}

turn_of : (g : Over) (c : goal.After-look g)
    → IsTurn g.N.NetFunction.acts g.N.NetFunction.state (g.C.Clock.may_span c.args.clock.now) c.args.plan.now c.args.role
    c.args.now c.look.result c.pass-answer.new.token c.pass-answer.result c.index_mut.result.now c.pass-answer.new.self
    c.args.self.now (behind g c)
turn_of g c =
    let below = role_below c.args.self.now.board.layout (place_now c.args.self.now) in
    let is = c.pass-answer.ensures in
    record {
      at = slice_get_read c.args.self.now.roles.items _ c.args.role _ refl
          (omega (arith, below, c.requires.role, c.requires.manager.many)) c.index_mut.ensures.value;
      roles = refl;
      board = refl;
      registry = refl;
      layout = refl;
      first =
          c.look.ensures.looked.grew
          ∙ ap (token_after (closing_look c.look.result))
          (c.join.ensures.joined
          ∙ ap (λ (t : TokenView). token_after_join t c.pass-answer.new.token) c.split-token.ensures.first);
      pass = subst (λ (before : TokenView).
          IsTurnPass g.N.NetFunction.acts g.N.NetFunction.state (g.C.Clock.may_span c.args.clock.now) c.args.plan.now
          c.args.self.now.board c.args.now before c.pass-answer.new.token c.pass-answer.result c.index_mut.result.now
          c.pass-answer.new.self) c.split-token.ensures.role
          (record {
            promise = is.promise;
            in_order = is.in_order;
            ready = is.ready;
            board = is.same.0;
            role = is.same.1;
            empty_handed = is.empty_handed (ap (λ (t : TokenView). t.hand) c.split-token.ensures.role) (complete g c);
            complete = complete g c;
            first = is.first;
            bound = is.bound;
          });
    }
  where
    complete : (g : Over) (c : goal.After-look g) → is_complete c.pass-answer.result ≡ true
    complete g c = elim c.in-Did.is [
      | inl did ↦ ap is_complete did.1
      | inr idle ↦ ap is_complete idle
    ]

pub returns-clause-manager : goal.returns-clause-manager
returns-clause-manager g c =
    turn_manager g.N.NetFunction.acts g.N.NetFunction.state (g.C.Clock.may_span c.args.clock.now) c.args.plan.now
    c.args.role c.args.now c.look.result c.pass-answer.new.token c.pass-answer.result c.index_mut.result.now
    c.pass-answer.new.self c.args.self.now (behind g c) c.requires.manager (turn_of g c)

pub returns-clause-on : goal.returns-clause-on
returns-clause-on g c =
    turn_on g.N.NetFunction.acts g.N.NetFunction.state any_moment (g.C.Clock.may_span c.args.clock.now) c.args.plan.now
    c.args.role c.args.now c.look.result c.pass-answer.new.token c.pass-answer.result c.index_mut.result.now
    c.pass-answer.new.self c.args.self.now (behind g c) c.requires.manager (turn_of g c) c.requires.role c.requires.now
