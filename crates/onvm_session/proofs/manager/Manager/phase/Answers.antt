use Rattle.std.proofs.Common.{◌≡◌, ◌≤◌, All, inl, inr, List, length, refl, sym, ◌∙◌, ap, subst, true, Some}
use Rattle.std.specs.Prelude.{slice_get}
use Rattle.std.specs.Vec.{with_items}
use Rattle.std.proofs.lemmas.List.{with_items_is}
use Rattle.onvm_core.specs.Layouts.{first_role}
use Rattle.onvm_board.specs.Tokens.{BoardView, IsFirstToken, TokenView}
use Rattle.onvm_promises.specs.Answers.{is_complete}
use Rattle.onvm_session.specs.declared.manager.Manager.{Manager}
use Rattle.onvm_session.specs.declared.seat.Seat.{Seat}
use Rattle.onvm_session.specs.Boards.{token_after_splits}
use Rattle.onvm_session.specs.Seats.{AreJoinable, AreRolesOf, AreTokensJoined}
use Rattle.onvm_session.proofs.ManagerPhases.{ArePassed, ArePasses, IsPhase, all_at, all_complete, all_ready, passes_fault, passes_grow, phase_manager, phase_upto, seats_joinable, seats_passed, seats_told}
use Rattle.onvm_session.proofs.PhaseGoing.{phase_on}
use Rattle.onvm_session.proofs.PhaseTokens.{first_split}
use Rattle.onvm_session.proofs.manager.Manager.phase.Given.{Over}
use Rattle.onvm_session.proofs.manager.Manager.phase.Goals as goal

pub run_seats-requires-clause-ready : goal.run_seats-requires-clause-ready
run_seats-requires-clause-ready g c κs within =
    all_ready g.N.NetFunction.acts g.N.NetFunction.state (g.C.Clock.may_be_now c.args.clock.now)
    (g.C.Clock.may_span c.args.clock.now) g.I.Source.name g.I.Source.left g.I.Source.takes c.args.plan.now c.args.latest
    c.seat_all.new.seats.items c.args.self.now c.seat_all.ensures.seated c.as_mut_slice-all.result.now
    c.seat_all.new.self.board c.as_mut_slice-all.ensures.value c.seat_all.ensures.same.0 c.requires.manager
    c.requires.upto c.requires.told

pub run_seats-requires-clause-complete : goal.run_seats-requires-clause-complete
run_seats-requires-clause-complete g c κs within =
    all_complete g.N.NetFunction.acts g.N.NetFunction.state (g.C.Clock.may_be_now c.args.clock.now)
    (g.C.Clock.may_span c.args.clock.now) g.I.Source.name g.I.Source.left g.I.Source.takes c.args.plan.now c.args.latest
    c.seat_all.new.seats.items c.args.self.now c.seat_all.ensures.seated c.as_mut_slice-all.result.now
    c.as_mut_slice-all.ensures.value

-- Where a pass was cut short

-- the seats are those that the passes left
items_cut : (g : Over) (c : goal.After-leave_all g)
    → (with_items c.seat_all.new.seats c.run_seats.new.seats).items ≡ c.run_seats.new.seats
items_cut g c =
    with_items_is c.seat_all.new.seats c.run_seats.new.seats
    (c.run_seats.ensures.many ∙ c.as_mut_slice-all.ensures.len)

passes_cut : (g : Over) (c : goal.After-leave_all g)
    → ArePasses g.N.NetFunction.acts g.N.NetFunction.state (g.C.Clock.may_be_now c.args.clock.now)
    (g.C.Clock.may_span c.args.clock.now) g.I.Source.name g.I.Source.left g.I.Source.takes c.args.plan.now c.args.latest
    c.seat_all.new.seats.items c.run_seats.new.seats c.args.self.now c.leave_all.new.self
passes_cut g c = record {
  passed =
      seats_passed g.N.NetFunction.acts g.N.NetFunction.state (g.C.Clock.may_be_now c.args.clock.now)
      (g.C.Clock.may_span c.args.clock.now) g.I.Source.name g.I.Source.left g.I.Source.takes c.args.plan.now
      c.args.latest c.seat_all.new.seats.items c.args.self.now c.seat_all.ensures.seated c.as_mut_slice-all.result.now
      c.run_seats.new.seats c.seat_all.new.self.board c.as_mut_slice-all.ensures.value c.seat_all.ensures.same.0
      c.run_seats.ensures.many c.run_seats.ensures.each;
  roles =
      subst (λ (seats : List (Seat g.row.I.Denot g.row.N.Denot)). AreRolesOf seats c.leave_all.new.self.roles.items)
      (items_cut g c) c.leave_all.ensures.roles;
  board = c.leave_all.ensures.same.0 ∙ c.seat_all.ensures.same.0;
  feeds = c.leave_all.ensures.same.1 ∙ c.seat_all.ensures.same.3;
}

pub returns-in-Some-clause-grow : goal.returns-in-Some-clause-grow
returns-in-Some-clause-grow g c =
    passes_grow g.N.NetFunction.acts g.N.NetFunction.state (g.C.Clock.may_be_now c.args.clock.now)
    (g.C.Clock.may_span c.args.clock.now) g.I.Source.name g.I.Source.left g.I.Source.takes c.args.plan.now c.args.latest
    c.seat_all.new.seats.items c.run_seats.new.seats c.args.self.now c.leave_all.new.self (passes_cut g c)

pub returns-in-Some-clause-fault : goal.returns-in-Some-clause-fault
returns-in-Some-clause-fault g c = λ stopped.
    let cut = c.halt_of.ensures.fault (c.in-Some.is ∙ cc stopped) in
    passes_fault g.N.NetFunction.acts g.N.NetFunction.state (g.C.Clock.may_be_now c.args.clock.now)
    (g.C.Clock.may_span c.args.clock.now) g.I.Source.name g.I.Source.left g.I.Source.takes c.args.plan.now c.args.latest
    c.seat_all.new.seats.items c.run_seats.new.seats c.args.self.now c.leave_all.new.self (passes_cut g c) cut.0 cut.1
    (subst (λ (seats : List (Seat g.row.I.Denot g.row.N.Denot)). slice_get seats cut.0 ≡ Some cut.1)
    (c.as_slice.ensures.value ∙ items_cut g c) cut.2) cut.3

-- Where none was

pub join_all-requires-clause-first : goal.join_all-requires-clause-first
join_all-requires-clause-first g c =
    subst (λ (b : BoardView). IsFirstToken b c.seat_all.new.self.first) (sym c.seat_all.ensures.same.0)
    (subst (IsFirstToken c.args.self.now.board) (sym c.seat_all.ensures.first)
    (first_split c.args.self.now.board (length c.args.self.now.roles.items) c.args.self.now.first
    c.requires.manager.first))

pub join_all-requires-clause-joinable : goal.join_all-requires-clause-joinable
join_all-requires-clause-joinable g c =
    let items_are = with_items_is c.seat_all.new.seats c.run_seats.new.seats
    (c.run_seats.ensures.many ∙ c.as_mut_slice-all.ensures.len) in
    let passed = seats_passed g.N.NetFunction.acts g.N.NetFunction.state (g.C.Clock.may_be_now c.args.clock.now)
    (g.C.Clock.may_span c.args.clock.now) g.I.Source.name g.I.Source.left g.I.Source.takes c.args.plan.now c.args.latest
    c.seat_all.new.seats.items c.args.self.now c.seat_all.ensures.seated c.as_mut_slice-all.result.now
    c.run_seats.new.seats c.seat_all.new.self.board c.as_mut_slice-all.ensures.value c.seat_all.ensures.same.0
    c.run_seats.ensures.many c.run_seats.ensures.each in
    subst (λ (b : BoardView). AreJoinable b (with_items c.seat_all.new.seats c.run_seats.new.seats).items)
    (sym c.seat_all.ensures.same.0)
    (subst (AreJoinable c.args.self.now.board) (sym items_are)
    (seats_joinable g.N.NetFunction.acts g.N.NetFunction.state (g.C.Clock.may_be_now c.args.clock.now)
    (g.C.Clock.may_span c.args.clock.now) g.I.Source.name g.I.Source.left g.I.Source.takes c.args.plan.now c.args.latest
    c.seat_all.new.seats.items c.run_seats.new.seats c.args.self.now passed c.requires.manager
    (all_at (λ (seat : Seat g.row.I.Denot g.row.N.Denot). is_complete seat.answer ≡ true) c.run_seats.new.seats
    (subst (All (λ (seat : Seat g.row.I.Denot g.row.N.Denot). is_complete seat.answer ≡ true))
    (c.as_slice.ensures.value ∙ items_are) c.in_default.ensures.none))))

items_are : (g : Over) (c : goal.After-look g)
    → (with_items c.seat_all.new.seats c.run_seats.new.seats).items ≡ c.run_seats.new.seats
items_are g c =
    with_items_is c.seat_all.new.seats c.run_seats.new.seats
    (c.run_seats.ensures.many ∙ c.as_mut_slice-all.ensures.len)

passed_run : (g : Over) (c : goal.After-look g)
    → ArePassed g.N.NetFunction.acts g.N.NetFunction.state (g.C.Clock.may_be_now c.args.clock.now)
    (g.C.Clock.may_span c.args.clock.now) g.I.Source.name g.I.Source.left g.I.Source.takes c.args.plan.now c.args.latest
    c.seat_all.new.seats.items c.run_seats.new.seats c.args.self.now
passed_run g c =
    seats_passed g.N.NetFunction.acts g.N.NetFunction.state (g.C.Clock.may_be_now c.args.clock.now)
    (g.C.Clock.may_span c.args.clock.now) g.I.Source.name g.I.Source.left g.I.Source.takes c.args.plan.now c.args.latest
    c.seat_all.new.seats.items c.args.self.now c.seat_all.ensures.seated c.as_mut_slice-all.result.now
    c.run_seats.new.seats c.seat_all.new.self.board c.as_mut_slice-all.ensures.value c.seat_all.ensures.same.0
    c.run_seats.ensures.many c.run_seats.ensures.each

-- the manager behind the look
abbrev behind : (g : Over) → goal.After-look g → Manager g.row.I.Denot g.row.N.Denot
behind g c = record c.join_all.new.self { first = c.look.new.token }

phase_of : (g : Over) (c : goal.After-look g)
    → IsPhase g.N.NetFunction.acts g.N.NetFunction.state (g.C.Clock.may_be_now c.args.clock.now)
    (g.C.Clock.may_span c.args.clock.now) g.I.Source.name g.I.Source.left g.I.Source.takes c.args.plan.now c.args.latest
    c.last_moment-now.result c.look.result c.seat_all.new.seats.items c.run_seats.new.seats c.join_all.new.self.first
    c.args.self.now (behind g c)
phase_of g c = record {
  passes = record {
    passed = passed_run g c;
    roles =
        subst (λ (seats : List (Seat g.row.I.Denot g.row.N.Denot)). AreRolesOf seats c.join_all.new.self.roles.items)
        (items_are g c) c.join_all.ensures.roles;
    board = c.join_all.ensures.same.0 ∙ c.seat_all.ensures.same.0;
    feeds = c.join_all.ensures.same.3 ∙ c.seat_all.ensures.same.3;
  };
  complete =
      all_at (λ (seat : Seat g.row.I.Denot g.row.N.Denot). is_complete seat.answer ≡ true) c.run_seats.new.seats
      (subst (All (λ (seat : Seat g.row.I.Denot g.row.N.Denot). is_complete seat.answer ≡ true))
      (c.as_slice.ensures.value ∙ items_are g c) c.in_default.ensures.none);
  upto =
      all_at (λ (seat : Seat g.row.I.Denot g.row.N.Denot). seat.latest ≤ c.last_moment-now.result)
      c.run_seats.new.seats
      (subst (All (λ (seat : Seat g.row.I.Denot g.row.N.Denot). seat.latest ≤ c.last_moment-now.result))
      (c.as_slice-2.ensures.value ∙ items_are g c) c.last_moment-now.ensures.all);
  registry = c.join_all.ensures.same.1 ∙ c.seat_all.ensures.same.1;
  layout = c.join_all.ensures.same.2 ∙ c.seat_all.ensures.same.2;
  token = record {
    first = c.requires.manager.first;
    kept = c.requires.manager.kept;
    many = (passed_run g c).many ∙ c.seat_all.ensures.seated.many ∙ c.requires.manager.many;
    joined =
        subst (λ (seats : List (Seat g.row.I.Denot g.row.N.Denot)).
        AreTokensJoined seats (token_after_splits (first_role c.args.self.now.board.layout) c.args.self.now.first)
        c.join_all.new.self.first) (items_are g c)
        (subst (λ (t : TokenView).
        AreTokensJoined (with_items c.seat_all.new.seats c.run_seats.new.seats).items t c.join_all.new.self.first)
        (c.seat_all.ensures.first
        ∙ ap (λ n. token_after_splits n c.args.self.now.first) c.requires.manager.many) c.join_all.ensures.joined);
    looked = c.look.ensures.looked.grew;
  };
}

pub returns-clause-manager : goal.returns-clause-manager
returns-clause-manager g c =
    phase_manager g.N.NetFunction.acts g.N.NetFunction.state (g.C.Clock.may_be_now c.args.clock.now)
    (g.C.Clock.may_span c.args.clock.now) g.I.Source.name g.I.Source.left g.I.Source.takes c.args.plan.now c.args.latest
    c.last_moment-now.result c.look.result c.seat_all.new.seats.items c.run_seats.new.seats c.join_all.new.self.first
    c.args.self.now (behind g c) c.requires.manager (phase_of g c)

pub returns-clause-upto : goal.returns-clause-upto
returns-clause-upto g c =
    phase_upto g.N.NetFunction.acts g.N.NetFunction.state (g.C.Clock.may_be_now c.args.clock.now)
    (g.C.Clock.may_span c.args.clock.now) g.I.Source.name g.I.Source.left g.I.Source.takes c.args.plan.now c.args.latest
    c.last_moment-now.result c.look.result c.seat_all.new.seats.items c.run_seats.new.seats c.join_all.new.self.first
    c.args.self.now (behind g c) c.requires.manager (phase_of g c)

pub returns-clause-told : goal.returns-clause-told
returns-clause-told g c = elim c.last_moment-now.ensures.one [
  | inl same ↦ subst (g.C.Clock.may_be_now c.args.clock.now) (sym same) c.requires.told
  | inr later ↦
      subst (g.C.Clock.may_be_now c.args.clock.now) (sym later.3)
      (seats_told g.N.NetFunction.acts g.N.NetFunction.state (g.C.Clock.may_be_now c.args.clock.now)
      (g.C.Clock.may_span c.args.clock.now) g.I.Source.name g.I.Source.left g.I.Source.takes c.args.plan.now
      c.args.latest c.seat_all.new.seats.items c.run_seats.new.seats c.args.self.now (passed_run g c) later.0 later.1
      (subst (λ (seats : List (Seat g.row.I.Denot g.row.N.Denot)). slice_get seats later.0 ≡ Some later.1)
      (c.as_slice-2.ensures.value ∙ items_are g c) later.2))
]

pub returns-clause-on : goal.returns-clause-on
returns-clause-on g c =
    phase_on g.N.NetFunction.acts g.N.NetFunction.state (g.C.Clock.may_be_now c.args.clock.now)
    (g.C.Clock.may_span c.args.clock.now) g.I.Source.name g.I.Source.left g.I.Source.takes c.args.plan.now c.args.latest
    c.last_moment-now.result c.look.result c.seat_all.new.seats.items c.run_seats.new.seats c.join_all.new.self.first
    c.args.self.now (behind g c) c.requires.manager (phase_of g c)

pub returns-clause-grow : goal.returns-clause-grow
returns-clause-grow g c =
    passes_grow g.N.NetFunction.acts g.N.NetFunction.state (g.C.Clock.may_be_now c.args.clock.now)
    (g.C.Clock.may_span c.args.clock.now) g.I.Source.name g.I.Source.left g.I.Source.takes c.args.plan.now c.args.latest
    c.seat_all.new.seats.items c.run_seats.new.seats c.args.self.now (behind g c) (phase_of g c).passes
