use Rattle.std.proofs.Common.{◌≡◌, ℕ, ◌+◌, ◌-◌, ◌^◌, ◌∙◌, refl, sym, ap, subst, slice_set, Some}
use Rattle.std.specs.Prelude.{min, slice_get}
use Rattle.onvm_base.specs.declared.ids.FnId.{FnId}
use Rattle.onvm_core.specs.Places.{one_if}
use Rattle.onvm_board.specs.Tokens.{parcel_in}
use Rattle.onvm_promises.specs.Sampling.{cost_of}
use Rattle.nf_exec.specs.declared.turn.Turn.{Turn}
use Rattle.nf_exec.specs.Roles.{IsKept}
use Rattle.nf_exec.specs.Roles.IsKept.{OneKept}
use Rattle.nf_exec.specs.Serving.{IsTimedBy, is_barred, kept_by}
use Rattle.nf_exec.proofs.Working.{kept_quiet, kept_still, no_more, set_there, work_served}
use Rattle.nf_exec.proofs.StationLists.{keeps_set, times_set}
use Rattle.nf_exec.proofs.role.CoreRole.serve_at.Goals as goal

pub returns-in-Barred-clause-times : goal.returns-in-Barred-clause-times
returns-in-Barred-clause-times g c =
    times_set (g.C.Clock.may_span c.args.clock.now) c.args.plan.now c.args.self.now.stations.items c.args.at
    c.serve-service.new.self c.requires.known c.requires.times
    (subst (λ (f : FnId). IsTimedBy (g.C.Clock.may_span c.args.clock.now) (cost_of (slice_get c.args.plan.now.functions f.0))
    c.serve-service.new.self.count c.serve-service.new.self.time) (sym c.serve-service.ensures.function)
    c.serve-service.ensures.timed)

pub returns-in-Wanting-clause-times : goal.returns-in-Wanting-clause-times
returns-in-Wanting-clause-times g c =
    times_set (g.C.Clock.may_span c.args.clock.now) c.args.plan.now c.args.self.now.stations.items c.args.at
    c.serve-service.new.self c.requires.known c.requires.times
    (subst (λ (f : FnId). IsTimedBy (g.C.Clock.may_span c.args.clock.now) (cost_of (slice_get c.args.plan.now.functions f.0))
    c.serve-service.new.self.count c.serve-service.new.self.time) (sym c.serve-service.ensures.function)
    c.serve-service.ensures.timed)

pub returns-in-Handled-clause-times : goal.returns-in-Handled-clause-times
returns-in-Handled-clause-times g c =
    times_set (g.C.Clock.may_span c.args.clock.now) c.args.plan.now c.args.self.now.stations.items c.args.at
    c.serve-service.new.self c.requires.known c.requires.times
    (subst (λ (f : FnId). IsTimedBy (g.C.Clock.may_span c.args.clock.now) (cost_of (slice_get c.args.plan.now.functions f.0))
    c.serve-service.new.self.count c.serve-service.new.self.time) (sym c.serve-service.ensures.function)
    c.serve-service.ensures.timed)

pub returns-in-Barred-clause-others : goal.returns-in-Barred-clause-others
returns-in-Barred-clause-others g c =
    keeps_set c.args.self.now.stations.items c.args.at c.index_mut-station.result.now c.serve-service.new.self
    c.requires.known c.index_mut-station.ensures.value c.serve-service.ensures.function

pub returns-in-Wanting-clause-others : goal.returns-in-Wanting-clause-others
returns-in-Wanting-clause-others g c =
    keeps_set c.args.self.now.stations.items c.args.at c.index_mut-station.result.now c.serve-service.new.self
    c.requires.known c.index_mut-station.ensures.value c.serve-service.ensures.function

pub returns-in-Handled-clause-others : goal.returns-in-Handled-clause-others
returns-in-Handled-clause-others g c =
    keeps_set c.args.self.now.stations.items c.args.at c.index_mut-station.result.now c.serve-service.new.self
    c.requires.known c.index_mut-station.ensures.value c.serve-service.ensures.function

pub returns-in-Barred-clause-work : goal.returns-in-Barred-clause-work
returns-in-Barred-clause-work g c =
    let is = c.serve-service.ensures in
    let f : FnId = c.index_mut-station.result.now.function in
    let stations = slice_set c.args.self.now.stations.items c.args.at c.serve-service.new.self in
    let b : one_if (is_barred c.serve-service.result.last) ≡ 1 = ap (λ (t : Turn). one_if (is_barred t)) c.in-Barred.is in
    work_served g.N.NetFunction.acts g.N.NetFunction.state c.args.board.now c.args.plan.now c.args.at
    c.serve-service.result.handled c.serve-service.result.last c.args.token.now c.serve-service.new.token c.args.self.now _
    c.index_mut-station.result.now c.serve-service.new.self c.index_mut-unit.result.now c.serve-service.new.unit
    c.requires.known c.requires.work c.index_mut-station.ensures.value c.index_mut-unit.ensures.value refl refl refl
    is.station is.function is.unit is.served
    (subst (λ (t : Turn). IsKept stations c.args.self.now.kept (kept_by f t c.serve-service.new.token))
    (sym c.in-Barred.is)
    (kept_still g.N.NetFunction.acts g.N.NetFunction.state c.args.board.now c.args.token.now c.args.self.now stations
    c.requires.work c.requires.free))
    (c.saturating_add-self.ensures ∙ ap (λ (n : ℕ). min (c.args.self.now.yields + n) (2 ^ 64 - 1)) (sym b)) refl

pub returns-in-Wanting-clause-work : goal.returns-in-Wanting-clause-work
returns-in-Wanting-clause-work g c =
    let is = c.serve-service.ensures in
    let f : FnId = c.index_mut-station.result.now.function in
    let stations = slice_set c.args.self.now.stations.items c.args.at c.serve-service.new.self in
    let b : one_if (is_barred c.serve-service.result.last) ≡ 0 = ap (λ (t : Turn). one_if (is_barred t)) c.in-Wanting.is in
    let there = set_there c.args.self.now.stations.items c.args.at c.serve-service.new.self c.requires.known in
    work_served g.N.NetFunction.acts g.N.NetFunction.state c.args.board.now c.args.plan.now c.args.at
    c.serve-service.result.handled c.serve-service.result.last c.args.token.now c.serve-service.new.token c.args.self.now _
    c.index_mut-station.result.now c.serve-service.new.self c.index_mut-unit.result.now c.serve-service.new.unit
    c.requires.known c.requires.work c.index_mut-station.ensures.value c.index_mut-unit.ensures.value refl refl refl
    is.station is.function is.unit is.served
    (subst (λ (z : Turn × FnId). IsKept stations (Some (record { at = c.args.at; buf = c.in-Wanting.buf }))
    (kept_by z.1 z.0 c.serve-service.new.token)) (λ i. (sym c.in-Wanting.is i, is.function i))
    (OneKept (record { at = c.args.at; buf = c.in-Wanting.buf }) c.serve-service.new.self
    (parcel_in c.serve-service.new.token) there.0 there.1))
    (no_more c.args.self.now.yields (one_if (is_barred c.serve-service.result.last)) _ b c.requires.work.yields) refl

pub returns-in-Handled-clause-work : goal.returns-in-Handled-clause-work
returns-in-Handled-clause-work g c =
    let is = c.serve-service.ensures in
    let quiet = kept_quiet g.N.NetFunction.acts g.N.NetFunction.state c.args.board.now
    c.index_mut-station.result.now.function c.serve-service.result.last c.args.token.now c.serve-service.new.token
    c.args.self.now _ c.requires.work c.requires.free c.in-Handled.is in
    work_served g.N.NetFunction.acts g.N.NetFunction.state c.args.board.now c.args.plan.now c.args.at
    c.serve-service.result.handled c.serve-service.result.last c.args.token.now c.serve-service.new.token c.args.self.now _
    c.index_mut-station.result.now c.serve-service.new.self c.index_mut-unit.result.now c.serve-service.new.unit
    c.requires.known c.requires.work c.index_mut-station.ensures.value c.index_mut-unit.ensures.value refl refl refl
    is.station is.function is.unit is.served quiet.0
    (no_more c.args.self.now.yields (one_if (is_barred c.serve-service.result.last)) _ quiet.1 c.requires.work.yields) refl
