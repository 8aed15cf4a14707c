use Rattle.std.proofs.Common.{◌≡◌, ℕ, [], ◌∷◌, sym, ap, ◌∙◌, subst, refl, arith}
use Rattle.onvm_base.specs.declared.ids.RingId.{RingId}
use Rattle.onvm_base.specs.declared.ids.RingId.TheVariants.{Lane}
use Rattle.onvm_base.specs.declared.outcome.Outcome.TheVariants.{RingFull}
use Rattle.onvm_core.specs.declared.step.Act.TheVariants.{Full, Give, Push}
use Rattle.onvm_core.specs.declared.step.Item.{Item}
use Rattle.onvm_core.specs.declared.step.Item.TheVariants.{Buffer}
use Rattle.onvm_board.specs.declared.spot.Spot.{Spot}
use Rattle.onvm_board.specs.Tokens.{IsTail, MakesStep, parcel_in}
use Rattle.entry_throttle.specs.Feeders.{FeederView, pushed_on_lane}
use Rattle.entry_throttle.proofs.OtherActs.{feeder_stays}
use Rattle.rx_pass.specs.Noting.{HasNoted}
use Rattle.rx_pass.proofs.Noted.{noted_push}
use Rattle.rx_pass.proofs.inlet.push_on.Goals as goal

pub returns-in-Ok-clause-noted : goal.returns-in-Ok-clause-noted
returns-in-Ok-clause-noted c =
    let feeder = c.args.feeder.now in
    let log = c.args.token.now.log in
    let item : Item = Buffer c.args.buf (parcel_in c.args.token.now) in
    subst (λ (new : FeederView).
    HasNoted c.args.now (Push (Lane c.args.next c.args.token.now.role) item ∷ []) log feeder new)
    (sym c.pushed.ensures.noted)
    (subst (λ (r : ℕ). HasNoted c.args.now (Push (Lane c.args.next r) item ∷ []) log feeder
    (pushed_on_lane c.args.next.0 c.spot.result c.args.now feeder)) (sym c.requires.feeder.role)
    (noted_push c.args.now log feeder c.args.next.0 c.spot.result item
    (omega (arith, c.requires.function, c.requires.ages)) c.requires.high))

pub returns-in-Ok-clause-feeder : goal.returns-in-Ok-clause-feeder
returns-in-Ok-clause-feeder c =
    let site = c.args.board.now in
    let item : Item = Buffer c.args.buf (parcel_in c.args.token.now) in
    let ring : c.args.lane.now.spot.ring ≡ Lane c.args.next c.args.feeder.now.number =
    c.requires.ring ∙ ap (Lane c.args.next) c.requires.feeder.role in
    c.pushed.ensures.feeder site item c.args.token.now c.push.new.token c.requires.feeder
    (subst (λ (r : RingId). MakesStep site (Push r item) c.args.token.now c.push.new.token) ring c.in-Ok.ensures.pushed)
    (subst (λ (s : Spot). IsTail site s c.push.new.token) (sym c.spot.ensures) c.push.ensures.tail.end)
    (ap (λ (s : Spot). s.ring) c.spot.ensures ∙ c.push.ensures.ring ∙ ring)

pub returns-in-Err-clause-feeder : goal.returns-in-Err-clause-feeder
returns-in-Err-clause-feeder c =
    let site = c.args.board.now in
    let feeder = c.args.feeder.now in
    feeder_stays site feeder (Give c.args.buf (RingFull c.spot-ring.result.ring) (parcel_in c.push.new.token))
    c.push.new.token c.give_back.new.token c.give_back.ensures.given
    (record { pushes = λ f. refl; posts = refl })
    (feeder_stays site feeder (Full c.args.lane.now.spot.ring) c.args.token.now c.push.new.token c.in-Err.ensures.full
    (record { pushes = λ f. refl; posts = refl }) c.requires.feeder)
