use Rattle.std.proofs.Common.{◌≡◌, ℕ, ◌∙◌, Some, refl, sym, ap, subst, arith, List, slice_set}
use Rattle.std.specs.Prelude.{is_some, slice_get}
use Rattle.onvm_base.specs.declared.ids.FnId.{FnId}
use Rattle.onvm_core.specs.Handling.{core_hand}
use Rattle.onvm_promises.specs.Sampling.{cost_of}
use Rattle.nf_exec.specs.declared.station.Station.{Station}
use Rattle.nf_exec.specs.Roles.{IsKept, counts_upto}
use Rattle.nf_exec.specs.Serving.{IsTimedBy}
use Rattle.nf_exec.specs.Stations.{functions_of}
use Rattle.nf_exec.proofs.Keeping.{counts_one, held_some, kept_at, kept_carried, no_times, on_any_err, passing_first, passing_none, rested, work_passed, work_unmoved}
use Rattle.nf_exec.proofs.SampleActs.{set_same}
use Rattle.nf_exec.proofs.Passing.{same_at}
use Rattle.nf_exec.proofs.Working.{kept_free}
use Rattle.nf_exec.proofs.StationLists.{keeps_set, more_counts, times_set}
use Rattle.nf_exec.proofs.role.CoreRole.handle_kept.Goals as goal

-- Nothing is kept

pub returns-in_default-clause-passing : goal.returns-in_default-clause-passing
returns-in_default-clause-passing g c =
    passing_none c.args.board.now c.args.plan.now (functions_of c.args.self.now.stations.items) c.args.token.now
    (kept_free _ _ _ c.requires.role.work.kept (ap is_some c.in_default.is))

pub returns-in_default-clause-counts : goal.returns-in_default-clause-counts
returns-in_default-clause-counts g c =
    more_counts 0 1 c.args.self.now.stations.items (omega arith)
    (rested g.N.NetFunction.acts g.N.NetFunction.state c.args.board.now c.args.plan.now c.args.token.now c.args.self.now
    c.requires.role)

pub returns-in_default-clause-times : goal.returns-in_default-clause-times
returns-in_default-clause-times g c =
    no_times (g.C.Clock.may_span c.args.clock.now) c.args.plan.now c.args.self.now.stations.items
    (rested g.N.NetFunction.acts g.N.NetFunction.state c.args.board.now c.args.plan.now c.args.token.now c.args.self.now
    c.requires.role)

-- A parcel is kept

pub handle-requires-clause-station : goal.handle-requires-clause-station
handle-requires-clause-station g c κs within =
    let is = c.requires.role.work in
    let one = kept_at _ _ _ _ is.kept c.in-Some.is in
    is.stations.each c.in-Some.kept.at c.index_mut-station.result.now one.within c.index_mut-station.ensures.value

pub handle-requires-clause-few : goal.handle-requires-clause-few
handle-requires-clause-few g c κs within =
    let one = kept_at _ _ _ _ c.requires.role.work.kept c.in-Some.is in
    let none = rested g.N.NetFunction.acts g.N.NetFunction.state c.args.board.now c.args.plan.now c.args.token.now
    c.args.self.now c.requires.role c.in-Some.kept.at c.index_mut-station.result.now one.within
    c.index_mut-station.ensures.value in
    omega (arith, none)

pub handle-requires-clause-timed : goal.handle-requires-clause-timed
handle-requires-clause-timed g c κs within some =
    let one = kept_at _ _ _ _ c.requires.role.work.kept c.in-Some.is in
    let none = rested g.N.NetFunction.acts g.N.NetFunction.state c.args.board.now c.args.plan.now c.args.token.now
    c.args.self.now c.requires.role c.in-Some.kept.at c.index_mut-station.result.now one.within
    c.index_mut-station.ensures.value in
    absurd (omega (arith, none, some))

pub handle-requires-clause-ready : goal.handle-requires-clause-ready
handle-requires-clause-ready g c κs within =
    let is = c.requires.role.work in
    let one = kept_at _ _ _ _ is.kept c.in-Some.is in
    let same : one.station ≡ c.index_mut-station.result.now =
    same_at c.args.self.now.stations.items c.in-Some.kept.at one.station c.index_mut-station.result.now one.within
    one.station_is c.index_mut-station.ensures.value in
    (kept_carried c.args.board.now c.args.token.now c.index_mut-station.result.now.function c.in-Some.kept.buf one.parcel
    is.stands (one.hand_is ∙ ap (λ (s : Station). Some (record {
      function = s.function;
      buf = c.in-Some.kept.buf.0;
      parcel = one.parcel;
    })) same)).ready _ refl

-- and memory is wanting

pub returns-in_err-handle-clause-wanting : goal.returns-in_err-handle-clause-wanting
returns-in_err-handle-clause-wanting g c =
    let one = kept_at _ _ _ _ c.requires.role.work.kept c.in-Some.is in
    on_any_err c.from_residual.result (λ none. held_some _ (sym one.hand_is ∙ none))

pub returns-in_err-handle-clause-uncounted : goal.returns-in_err-handle-clause-uncounted
returns-in_err-handle-clause-uncounted g c =
    let one = kept_at _ _ _ _ c.requires.role.work.kept c.in-Some.is in
    let stations : List Station = c.args.self.now.stations.items in
    on_any_err c.from_residual.result
    (subst (counts_upto 0)
    (set_same stations c.in-Some.kept.at c.index_mut-station.result.now one.within c.index_mut-station.ensures.value
    ∙ ap (λ (s : Station). slice_set stations c.in-Some.kept.at s) (sym c.in_err-handle.ensures.unchanged.1))
    (rested g.N.NetFunction.acts g.N.NetFunction.state c.args.board.now c.args.plan.now c.args.token.now c.args.self.now
    c.requires.role))

pub returns-in_err-handle-clause-counts : goal.returns-in_err-handle-clause-counts
returns-in_err-handle-clause-counts g c =
    let one = kept_at _ _ _ _ c.requires.role.work.kept c.in-Some.is in
    let stations : List Station = c.args.self.now.stations.items in
    more_counts 0 1 (slice_set stations c.in-Some.kept.at c.handle.new.self) (omega arith)
    (subst (counts_upto 0)
    (set_same stations c.in-Some.kept.at c.index_mut-station.result.now one.within c.index_mut-station.ensures.value
    ∙ ap (λ (s : Station). slice_set stations c.in-Some.kept.at s) (sym c.in_err-handle.ensures.unchanged.1))
    (rested g.N.NetFunction.acts g.N.NetFunction.state c.args.board.now c.args.plan.now c.args.token.now c.args.self.now
    c.requires.role))

pub returns-in_err-handle-clause-times : goal.returns-in_err-handle-clause-times
returns-in_err-handle-clause-times g c =
    let one = kept_at _ _ _ _ c.requires.role.work.kept c.in-Some.is in
    let stations : List Station = c.args.self.now.stations.items in
    no_times (g.C.Clock.may_span c.args.clock.now) c.args.plan.now
    (slice_set stations c.in-Some.kept.at c.handle.new.self)
    (subst (counts_upto 0)
    (set_same stations c.in-Some.kept.at c.index_mut-station.result.now one.within c.index_mut-station.ensures.value
    ∙ ap (λ (s : Station). slice_set stations c.in-Some.kept.at s) (sym c.in_err-handle.ensures.unchanged.1))
    (rested g.N.NetFunction.acts g.N.NetFunction.state c.args.board.now c.args.plan.now c.args.token.now c.args.self.now
    c.requires.role))

pub returns-in_err-handle-clause-work : goal.returns-in_err-handle-clause-work
returns-in_err-handle-clause-work g c =
    let site = c.args.board.now in
    let is = c.requires.role.work in
    let one = kept_at _ _ _ _ is.kept c.in-Some.is in
    let stations : List Station = c.args.self.now.stations.items in
    let at : ℕ = c.in-Some.kept.at in
    let same : slice_set stations at c.handle.new.self ≡ slice_set stations at c.index_mut-station.result.now =
    ap (λ (s : Station). slice_set stations at s) c.in_err-handle.ensures.unchanged.1 in
    let still = set_same stations at c.index_mut-station.result.now one.within c.index_mut-station.ensures.value in
    work_unmoved g.N.NetFunction.acts g.N.NetFunction.state site at c.args.token.now c.handle.new.token c.args.self.now _
    c.index_mut-station.result.now c.index_mut-unit.result.now c.handle.new.unit c.in_err-handle.ensures.unchanged.0
    one.within is
    c.index_mut-station.ensures.value c.index_mut-unit.ensures.value same refl refl c.in_err-handle.ensures.unmoved
    (subst (λ (xs : List Station). IsKept xs c.args.self.now.kept (core_hand c.args.token.now.log)) (still ∙ sym same)
    is.kept) refl refl

-- and it is handled

pub returns-clause-functions : goal.returns-clause-functions
returns-clause-functions g c =
    let one = kept_at _ _ _ _ c.requires.role.work.kept c.in-Some.is in
    (keeps_set c.args.self.now.stations.items c.in-Some.kept.at c.index_mut-station.result.now c.handle.new.self one.within
    c.index_mut-station.ensures.value c.handle.ensures.function).functions

pub returns-clause-counts : goal.returns-clause-counts
returns-clause-counts g c =
    let one = kept_at _ _ _ _ c.requires.role.work.kept c.in-Some.is in
    let before = rested g.N.NetFunction.acts g.N.NetFunction.state c.args.board.now c.args.plan.now c.args.token.now
    c.args.self.now c.requires.role in
    let none = before c.in-Some.kept.at c.index_mut-station.result.now one.within c.index_mut-station.ensures.value in
    counts_one c.args.self.now.stations.items c.in-Some.kept.at c.handle.new.self one.within before
    (omega (arith, none, c.in_ok-handle.ensures.count))

pub returns-clause-times : goal.returns-clause-times
returns-clause-times g c =
    let one = kept_at _ _ _ _ c.requires.role.work.kept c.in-Some.is in
    times_set (g.C.Clock.may_span c.args.clock.now) c.args.plan.now c.args.self.now.stations.items c.in-Some.kept.at
    c.handle.new.self one.within
    (no_times (g.C.Clock.may_span c.args.clock.now) c.args.plan.now c.args.self.now.stations.items
    (rested g.N.NetFunction.acts g.N.NetFunction.state c.args.board.now c.args.plan.now c.args.token.now c.args.self.now
    c.requires.role))
    (subst (λ (f : FnId). IsTimedBy (g.C.Clock.may_span c.args.clock.now) (cost_of (slice_get c.args.plan.now.functions f.0))
    c.handle.new.self.count c.handle.new.self.time) (sym c.handle.ensures.function) c.handle.ensures.timed)

pub returns-clause-passing : goal.returns-clause-passing
returns-clause-passing g c =
    let is = c.requires.role.work in
    let one = kept_at _ _ _ _ is.kept c.in-Some.is in
    let same : one.station ≡ c.index_mut-station.result.now =
    same_at c.args.self.now.stations.items c.in-Some.kept.at one.station c.index_mut-station.result.now one.within
    one.station_is c.index_mut-station.ensures.value in
    passing_first g.N.NetFunction.acts g.N.NetFunction.state c.args.board.now c.args.plan.now c.in-Some.kept.at
    c.in-Some.kept.buf c.args.token.now c.handle.new.token c.args.self.now c.index_mut-station.result.now
    c.index_mut-unit.result.now c.handle.new.unit one.parcel one.within is c.index_mut-station.ensures.value
    (one.hand_is ∙ ap (λ (s : Station). Some (record {
      function = s.function;
      buf = c.in-Some.kept.buf.0;
      parcel = one.parcel;
    })) same) c.in_ok-handle.ensures.done (functions_of c.args.self.now.stations.items)

pub returns-clause-work : goal.returns-clause-work
returns-clause-work g c =
    let is = c.requires.role.work in
    let one = kept_at _ _ _ _ is.kept c.in-Some.is in
    let same : one.station ≡ c.index_mut-station.result.now =
    same_at c.args.self.now.stations.items c.in-Some.kept.at one.station c.index_mut-station.result.now one.within
    one.station_is c.index_mut-station.ensures.value in
    work_passed g.N.NetFunction.acts g.N.NetFunction.state c.args.board.now c.args.plan.now c.in-Some.kept.at
    c.in-Some.kept.buf c.args.token.now c.handle.new.token c.args.self.now c.index_mut-station.result.now
    c.index_mut-unit.result.now c.handle.new.unit one.parcel one.within is c.index_mut-station.ensures.value
    (one.hand_is ∙ ap (λ (s : Station). Some (record {
      function = s.function;
      buf = c.in-Some.kept.buf.0;
      parcel = one.parcel;
    })) same) c.in_ok-handle.ensures.done _ c.handle.new.self c.index_mut-unit.ensures.value refl refl refl
    c.handle.ensures.station c.handle.ensures.function refl refl refl
