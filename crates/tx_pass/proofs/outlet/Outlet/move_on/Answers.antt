use Rattle.std.proofs.Common.{◌≡◌, length, ◌<◌, ◌∙◌, sym, ap, subst, [], ◌∷◌, refl, Some}
use Rattle.onvm_base.specs.declared.ids.RingId.TheVariants.{Lane}
use Rattle.onvm_base.specs.declared.outcome.Outcome.{Outcome}
use Rattle.onvm_base.specs.declared.outcome.Outcome.TheVariants.{Sent, Dropped}
use Rattle.onvm_core.specs.declared.parcel.Parcel.{Parcel}
use Rattle.onvm_core.specs.declared.step.Act.TheVariants.{Give}
use Rattle.onvm_core.specs.Logs.{with_cursor}
use Rattle.onvm_board.specs.Tokens.{TokenView, grown, parcel_in}
use Rattle.onvm_promises.specs.Kept.{Told}
use Rattle.tx_pass.specs.Keeping.{outcomes_of}
use Rattle.tx_pass.specs.Moving.{IsMoveOf, holding, went_on}
use Rattle.tx_pass.specs.Noting.{HasNoted}
use Rattle.tx_pass.proofs.Goes.{goes_on}
use Rattle.tx_pass.proofs.Outlets.{outlet_by, outlet_grown}
use Rattle.tx_pass.proofs.Stretches.{give_moved, went_goes, went_steps}
use Rattle.tx_pass.proofs.outlet.Outlet.move_on.Goals as goal

-- To a function

pub pass_on-requires-clause-function : goal.pass_on-requires-clause-function
pass_on-requires-clause-function c =
    let parcel : Parcel = parcel_in c.args.token.now in
    let is = c.next_of.ensures.next in
    subst (λ n. c.in-To.next.0 < n) (sym c.requires.plan.functions)
    (goes_on c.args.plan.now parcel.chain parcel.cursor (length parcel.trail) is.crumb.verdict parcel.hash
    c.in-To.next c.in-To.cursor (sym is.moved ∙ c.in-To.is)).0

pub pass_on-requires-clause-outlet : goal.pass_on-requires-clause-outlet
pass_on-requires-clause-outlet c =
    let parcel : Parcel = with_cursor c.in-To.cursor (parcel_in c.next_of.new.token) in
    let set : c.set_cursor.new.token ≡ holding c.args.buf.0 (Some parcel) c.args.token.now =
    c.set_cursor.ensures ∙ ap (holding c.args.buf.0 (Some parcel)) c.next_of.ensures.same in
    outlet_grown c.args.board.now c.args.self.now [] ((c.args.buf.0, Some parcel) ∷ []) c.args.token.now
    c.set_cursor.new.token set (λ ring. refl) (λ feeder. refl) c.requires.outlet

pub returns-in-To-clause-moved : goal.returns-in-To-clause-moved
returns-in-To-clause-moved c =
    let role = c.args.token.now.role in
    let old : Parcel = parcel_in c.args.token.now in
    let new : Parcel = with_cursor c.in-To.cursor old in
    let set : c.set_cursor.new.token ≡ holding c.args.buf.0 (Some new) c.args.token.now =
    c.set_cursor.ensures
    ∙ ap (λ (t : TokenView). holding c.args.buf.0 (Some (with_cursor c.in-To.cursor (parcel_in t))) t)
    c.next_of.ensures.same in record {
      added = went_on (Lane c.in-To.next role) c.args.buf new c.pass_on.result;
      grew =
          c.pass_on.ensures.grew
          ∙ ap (λ (t : TokenView).
          grown (went_on (Lane c.in-To.next t.role) c.args.buf (parcel_in t) c.pass_on.result) [] t) set;
      told =
          subst (λ (t : TokenView). Told (went_on (Lane c.in-To.next t.role) c.args.buf (parcel_in t) c.pass_on.result)
          (outcomes_of c.args.self.now.kept) (outcomes_of c.pass_on.new.self.kept)) set c.pass_on.ensures.told;
      noted =
          subst (λ (t : TokenView).
          HasNoted c.args.now (went_on (Lane c.in-To.next t.role) c.args.buf (parcel_in t) c.pass_on.result) t.log
          c.args.self.now.feeder c.pass_on.new.self.feeder) set c.pass_on.ensures.noted;
      goes =
          went_goes c.args.board.now.layout c.args.plan.now role c.args.function c.args.buf old c.in-To.next
          c.in-To.cursor (subst (λ m. IsMoveOf c.args.plan.now old m) c.in-To.is c.next_of.ensures.next)
          c.pass_on.result;
      steps = went_steps c.in-To.next role c.args.buf new c.pass_on.result;
    }

-- Out of a port

pub returns-in-Leave-clause-moved : goal.returns-in-Leave-clause-moved
returns-in-Leave-clause-moved c =
    let is = c.next_of.ensures.next in
    let buf = c.args.buf in
    let outcome : Outcome = Sent c.in-Leave.port in
    give_moved c.args.board.now c.args.plan.now c.args.now c.args.function buf outcome c.args.token.now
    c.leave.new.token c.args.self.now _
    (c.leave.ensures.grew
    ∙ ap (λ (t : TokenView). grown (Give buf outcome (parcel_in t) ∷ []) [] t) c.next_of.ensures.same)
    (subst (λ (t : TokenView).
    Told (Give buf outcome (parcel_in t) ∷ []) (outcomes_of c.args.self.now.kept) (outcomes_of c.leave.new.kept))
    c.next_of.ensures.same c.leave.ensures.told)
    refl
    (λ entries. (
      refl,
      record { crumb = is.crumb; last = is.last; moved = sym is.moved ∙ c.in-Leave.is },
      refl,
    ))

pub returns-in-Leave-clause-outlet : goal.returns-in-Leave-clause-outlet
returns-in-Leave-clause-outlet c =
    let buf = c.args.buf in
    let outcome : Outcome = Sent c.in-Leave.port in
    let parcel : Parcel = parcel_in c.args.token.now in
    let site = c.args.board.now in
    outlet_by site c.args.self.now _ c.leave.new.token refl refl
    (outlet_grown site c.args.self.now (Give buf outcome parcel ∷ []) [] c.args.token.now c.leave.new.token
    (c.leave.ensures.grew
    ∙ ap (λ (t : TokenView). grown (Give buf outcome (parcel_in t) ∷ []) [] t) c.next_of.ensures.same)
    (λ ring. refl) (λ feeder. refl) c.requires.outlet)

-- To its end

pub returns-in-End-clause-moved : goal.returns-in-End-clause-moved
returns-in-End-clause-moved c =
    let is = c.next_of.ensures.next in
    let buf = c.args.buf in
    let outcome : Outcome = Dropped c.args.function c.in-End.why in
    give_moved c.args.board.now c.args.plan.now c.args.now c.args.function buf outcome c.args.token.now
    c.end.new.token c.args.self.now _
    (c.end.ensures.grew
    ∙ ap (λ (t : TokenView). grown (Give buf outcome (parcel_in t) ∷ []) [] t) c.next_of.ensures.same)
    (subst (λ (t : TokenView).
    Told (Give buf outcome (parcel_in t) ∷ []) (outcomes_of c.args.self.now.kept) (outcomes_of c.end.new.kept))
    c.next_of.ensures.same c.end.ensures.told)
    refl
    (λ entries. (
      refl,
      record { crumb = is.crumb; last = is.last; moved = sym is.moved ∙ c.in-End.is },
      refl,
      refl,
    ))

pub returns-in-End-clause-outlet : goal.returns-in-End-clause-outlet
returns-in-End-clause-outlet c =
    let buf = c.args.buf in
    let outcome : Outcome = Dropped c.args.function c.in-End.why in
    let parcel : Parcel = parcel_in c.args.token.now in
    let site = c.args.board.now in
    outlet_by site c.args.self.now _ c.end.new.token refl refl
    (outlet_grown site c.args.self.now (Give buf outcome parcel ∷ []) [] c.args.token.now c.end.new.token
    (c.end.ensures.grew
    ∙ ap (λ (t : TokenView). grown (Give buf outcome (parcel_in t) ∷ []) [] t) c.next_of.ensures.same)
    (λ ring. refl) (λ feeder. refl) c.requires.outlet)
