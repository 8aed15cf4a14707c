use Rattle.std.proofs.Common.{◌≡◌, ◌<◌, ℕ, [], ◌∷◌, Some, sym, ap, ◌∙◌, subst, refl, arith, length}
use Rattle.onvm_base.specs.declared.ids.RingId.TheVariants.{Lane}
use Rattle.onvm_base.specs.declared.moves.Move.TheVariants.{To, Leave, End}
use Rattle.onvm_base.specs.declared.outcome.Outcome.TheVariants.{Sent}
use Rattle.onvm_base.specs.Moves.{enter}
use Rattle.onvm_core.specs.declared.parcel.Parcel.{Parcel}
use Rattle.onvm_core.specs.declared.step.Act.TheVariants.{Give}
use Rattle.onvm_board.specs.Tokens.{TokenView, grown, parcel_in}
use Rattle.onvm_promises.specs.Kept.{Told}
use Rattle.rx_pass.specs.Keeping.{outcomes_of}
use Rattle.rx_pass.specs.Noting.{HasNoted}
use Rattle.rx_pass.specs.Turns.{went_on}
use Rattle.rx_pass.proofs.Entering.{goes_in}
use Rattle.rx_pass.proofs.Parts.{left_turn, went_turn}
use Rattle.rx_pass.proofs.inlet.Inlet.enter.Goals as goal

pub pass_on-requires-clause-function : goal.pass_on-requires-clause-function
pass_on-requires-clause-function c =
    let is = goes_in c.args.plan.now c.args.entry.chain c.args.entry.hash c.requires.chain in
    let known : c.in-To.function.0 < length c.args.plan.now.functions =
    is.on c.in-To.function c.in-To.field-1 (sym c.enter-next.ensures ∙ c.in-To.is) in
    omega (arith, known, c.requires.plan.functions)

pub unreachable-requires : goal.unreachable-requires
unreachable-requires c =
    (goes_in c.args.plan.now c.args.entry.chain c.args.entry.hash c.requires.chain).ends c.in-End.field-0
    (sym c.enter-next.ensures ∙ c.in-End.is)

pub returns-in-To-clause-turn : goal.returns-in-To-clause-turn
returns-in-To-clause-turn c = λ setting done knows.
    let before = c.args.token.now in
    let after = c.pass_on.new.token in
    let f = c.in-To.function in
    let buf = c.args.buf in
    let went = c.pass_on.result in
    let old = c.args.self.now in
    let new = c.pass_on.new.self in
    let Grew : TokenView → Type 0 = λ t. after ≡ grown (went_on (Lane f t.role) buf (parcel_in t) went) [] t in
    let Told_ : TokenView → Type 0 = λ t.
    Told (went_on (Lane f t.role) buf (parcel_in t) went) (outcomes_of old.kept) (outcomes_of new.kept) in
    let Noted : TokenView → Type 0 = λ t.
    HasNoted c.args.now (went_on (Lane f t.role) buf (parcel_in t) went) t.log old.feeder new.feeder in
    let GrewBy : Parcel → Type 0 = λ p. after ≡ grown (went_on (Lane f before.role) buf p went) [] before in
    let ToldBy : Parcel → Type 0 = λ p.
    Told (went_on (Lane f before.role) buf p went) (outcomes_of old.kept) (outcomes_of new.kept) in
    let NotedBy : Parcel → Type 0 = λ p.
    HasNoted c.args.now (went_on (Lane f before.role) buf p went) before.log old.feeder new.feeder in
    went_turn setting c.args.plan.now before.role c.args.now done c.args.entry buf f c.in-To.field-1 went before after old new
    knows.plan_is knows.next (sym c.enter-next.ensures ∙ c.in-To.is)
    (subst GrewBy c.parcel_of.ensures (subst Grew c.lend.ensures.new c.pass_on.ensures.grew))
    (subst ToldBy c.parcel_of.ensures (subst Told_ c.lend.ensures.new c.pass_on.ensures.told))
    (subst NotedBy c.parcel_of.ensures (subst Noted c.lend.ensures.new c.pass_on.ensures.noted))

pub returns-in-Leave-clause-turn : goal.returns-in-Leave-clause-turn
returns-in-Leave-clause-turn c = λ setting done knows.
    let before = c.args.token.now in
    let after = c.leave.new.token in
    let buf = c.args.buf in
    let q = c.in-Leave.port in
    let old = c.args.self.now in
    let Grew : TokenView → Type 0 = λ t. after ≡ grown (Give buf (Sent q) (parcel_in t) ∷ []) [] t in
    let Told_ : TokenView → Type 0 = λ t.
    Told (Give buf (Sent q) (parcel_in t) ∷ []) (outcomes_of old.kept) (outcomes_of c.leave.new.kept) in
    let GrewBy : Parcel → Type 0 = λ p. after ≡ grown (Give buf (Sent q) p ∷ []) [] before in
    let ToldBy : Parcel → Type 0 = λ p.
    Told (Give buf (Sent q) p ∷ []) (outcomes_of old.kept) (outcomes_of c.leave.new.kept) in
    left_turn setting c.args.plan.now before.role c.args.now done c.args.entry buf q before after old _
    knows.plan_is knows.next (sym c.enter-next.ensures ∙ c.in-Leave.is)
    (subst GrewBy c.parcel_of.ensures (subst Grew c.lend.ensures.new c.leave.ensures.grew))
    (subst ToldBy c.parcel_of.ensures (subst Told_ c.lend.ensures.new c.leave.ensures.told))
    refl
