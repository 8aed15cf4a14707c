use Rattle.std.proofs.Common.{◌≡◌, ap, ◌∙◌, sym, subst, refl}
use Rattle.onvm_base.specs.declared.ids.FnId.{FnId}
use Rattle.onvm_core.specs.Journals.{journal}
use Rattle.onvm_board.specs.Tokens.{TokenView, parcel_in}
use Rattle.nf_exec.specs.declared.station.Station.{Station}
use Rattle.nf_exec.specs.declared.turn.Turn.TheVariants.{Wanting}
use Rattle.nf_exec.specs.Serving.{HasPassedOn, IsServing}
use Rattle.nf_exec.specs.Stations.{IsToHandle}
use Rattle.nf_exec.proofs.Servings.{serving_passed, stood, stood_still, went_on_then}
use Rattle.nf_exec.proofs.Glancing.{roomy_grew, turn_barred}
use Rattle.nf_exec.proofs.HandingOn.{pass_journal}
use Rattle.nf_exec.proofs.Turning.{dry_journal, found_journal, found_stands, turn_dry, turn_wanting}
use Rattle.nf_exec.proofs.station.Station.turn.Goals as goal

pub returns-then-not-has_room-clause-turned : goal.returns-then-not-has_room-clause-turned
returns-then-not-has_room-clause-turned g c =
    let is = c.requires.station in
    let seen = c.if-not-has_room.ensures.glanced in
    turn_barred c.args.board.now c.args.plan.now c.args.self.now.function _ seen.seen c.args.token.now
    c.has_room.new.token c.requires.layout (is.known, is.own) refl seen.grew (seen.some refl) c.requires.stands

pub returns-in_default-clause-turned : goal.returns-in_default-clause-turned
returns-in_default-clause-turned g c =
    let site = c.args.board.now in
    let is = c.requires.station in
    turn_dry site c.args.plan.now c.args.self.now.function _ c.args.self.now.next _ c.args.token.now c.has_room.new.token
    c.next_frame.new.token c.requires.layout (is.known, is.own) refl
    (roomy_grew site c.args.self.now.function c.args.token.now c.has_room.new.token c.if-not-has_room.ensures.glanced)
    is.lanes.long c.in_default.ensures.searched c.requires.stands

pub returns-in_default-clause-unit : goal.returns-in_default-clause-unit
returns-in_default-clause-unit g c =
    stood g.N.NetFunction.acts g.N.NetFunction.state c.args.self.now.function c.args.unit.now c.args.token.now.log
    c.next_frame.new.token.log
    (dry_journal c.args.board.now c.args.self.now.function c.args.self.now.next _ c.args.token.now c.has_room.new.token
    c.next_frame.new.token c.if-not-has_room.ensures.glanced c.in_default.ensures.searched)

pub handle-requires-clause-ready : goal.handle-requires-clause-ready
handle-requires-clause-ready g c κs within =
    let site = c.args.board.now in
    let is = c.requires.station in
    let own : c.next_frame.new.self.function ≡ c.args.self.now.function
    = ap (λ (s : Station). s.function) c.in-Some.ensures.same in
    subst (λ (f : FnId). IsToHandle site.layout
    (record { function = f; buf = c.in-Some.buf.0; parcel = parcel_in c.next_frame.new.token }) c.next_frame.new.token.log)
    (sym own)
    ((found_stands site c.args.plan.now c.args.self.now.function _ c.args.self.now.next _ c.in-Some.buf c.args.token.now
    c.has_room.new.token c.next_frame.new.token c.requires.layout (is.known, is.own) refl
    (roomy_grew site c.args.self.now.function c.args.token.now c.has_room.new.token c.if-not-has_room.ensures.glanced)
    (c.if-not-has_room.ensures.room refl) c.in-Some.ensures.searched c.requires.stands c.requires.left).ready
    (record {
      function = c.args.self.now.function;
      buf = c.in-Some.buf.0;
      parcel = parcel_in c.next_frame.new.token;
    }) refl)

pub returns-in-Err-clause-turned : goal.returns-in-Err-clause-turned
returns-in-Err-clause-turned g c =
    let site = c.args.board.now in
    let is = c.requires.station in
    subst (λ (t : TokenView). IsServing site c.args.plan.now c.args.self.now.function 0 (Wanting c.in-Some.buf)
    c.args.token.now t)
    (sym c.in-Err.ensures.unchanged.0)
    (turn_wanting site c.args.plan.now c.args.self.now.function _ c.args.self.now.next _ c.in-Some.buf c.args.token.now
    c.has_room.new.token c.next_frame.new.token c.requires.layout (is.known, is.own) refl
    (roomy_grew site c.args.self.now.function c.args.token.now c.has_room.new.token c.if-not-has_room.ensures.glanced)
    (c.if-not-has_room.ensures.room refl) c.in-Some.ensures.searched c.requires.stands c.requires.left)

pub returns-in-Err-clause-unit : goal.returns-in-Err-clause-unit
returns-in-Err-clause-unit g c =
    let site = c.args.board.now in
    let is = c.requires.station in
    stood_still g.N.NetFunction.acts g.N.NetFunction.state c.args.self.now.function c.args.unit.now c.handle.new.unit
    c.args.token.now.log c.handle.new.token.log c.in-Err.ensures.unmoved
    (ap (λ (t : TokenView). journal c.args.self.now.function t.log) c.in-Err.ensures.unchanged.0
    ∙ found_journal site c.args.plan.now c.args.self.now.function _ c.args.self.now.next _ c.in-Some.buf c.args.token.now
    c.has_room.new.token c.next_frame.new.token c.requires.layout (is.known, is.own) refl
    (roomy_grew site c.args.self.now.function c.args.token.now c.has_room.new.token c.if-not-has_room.ensures.glanced)
    (c.if-not-has_room.ensures.room refl) c.in-Some.ensures.searched c.requires.stands c.requires.left)

pub returns-in-Ok-clause-turned : goal.returns-in-Ok-clause-turned
returns-in-Ok-clause-turned g c =
    let site = c.args.board.now in
    let plan = c.args.plan.now in
    let f : FnId = c.args.self.now.function in
    let is = c.requires.station in
    let mid = c.next_frame.new.token in
    let own : c.next_frame.new.self.function ≡ f = ap (λ (s : Station). s.function) c.in-Some.ensures.same in
    let first = turn_wanting site plan f _ c.args.self.now.next _ c.in-Some.buf c.args.token.now
    c.has_room.new.token mid c.requires.layout (is.known, is.own) refl
    (roomy_grew site f c.args.token.now c.has_room.new.token c.if-not-has_room.ensures.glanced)
    (c.if-not-has_room.ensures.room refl) c.in-Some.ensures.searched c.requires.stands c.requires.left in
    serving_passed g.N.NetFunction.acts g.N.NetFunction.state site plan f c.in-Some.buf c.args.unit.now c.handle.new.unit
    c.args.token.now mid c.handle.new.token
    (is.known, is.own ∙ sym (ap (λ (t : TokenView). t.role) first.grew)) first
    (subst (λ (h : FnId). HasPassedOn g.N.NetFunction.acts g.N.NetFunction.state h c.in-Some.buf c.args.unit.now
    c.handle.new.unit mid c.handle.new.token) own c.in-Ok.ensures.done)

pub returns-in-Ok-clause-unit : goal.returns-in-Ok-clause-unit
returns-in-Ok-clause-unit g c =
    let site = c.args.board.now in
    let plan = c.args.plan.now in
    let f : FnId = c.args.self.now.function in
    let is = c.requires.station in
    let mid = c.next_frame.new.token in
    let own : c.next_frame.new.self.function ≡ f = ap (λ (s : Station). s.function) c.in-Some.ensures.same in
    let grew = roomy_grew site f c.args.token.now c.has_room.new.token c.if-not-has_room.ensures.glanced in
    let first = turn_wanting site plan f _ c.args.self.now.next _ c.in-Some.buf c.args.token.now
    c.has_room.new.token mid c.requires.layout (is.known, is.own) refl grew
    (c.if-not-has_room.ensures.room refl) c.in-Some.ensures.searched c.requires.stands c.requires.left in
    went_on_then g.N.NetFunction.acts g.N.NetFunction.state f c.args.unit.now c.args.unit.now c.handle.new.unit
    c.args.token.now.log mid.log c.handle.new.token.log
    (stood g.N.NetFunction.acts g.N.NetFunction.state f c.args.unit.now c.args.token.now.log mid.log
    (found_journal site plan f _ c.args.self.now.next _ c.in-Some.buf c.args.token.now c.has_room.new.token mid
    c.requires.layout (is.known, is.own) refl grew (c.if-not-has_room.ensures.room refl) c.in-Some.ensures.searched
    c.requires.stands c.requires.left))
    (pass_journal g.N.NetFunction.acts g.N.NetFunction.state site plan f c.in-Some.buf c.args.unit.now c.handle.new.unit
    mid c.handle.new.token (is.known, is.own ∙ sym (ap (λ (t : TokenView). t.role) first.grew)) first.stands
    (subst (λ (h : FnId). HasPassedOn g.N.NetFunction.acts g.N.NetFunction.state h c.in-Some.buf c.args.unit.now
    c.handle.new.unit mid c.handle.new.token) own c.in-Ok.ensures.done))
