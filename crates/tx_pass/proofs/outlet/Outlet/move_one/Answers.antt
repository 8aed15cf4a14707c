use Rattle.std.proofs.Common.{◌∙◌, [], ◌∷◌, ap, subst, arith, refl}
use Rattle.onvm_base.specs.declared.ids.RingId.{RingId}
use Rattle.onvm_core.specs.declared.step.Act.{Act}
use Rattle.onvm_core.specs.declared.step.Act.TheVariants.{Pop, Empty}
use Rattle.onvm_core.specs.declared.step.Item.TheVariants.{Buffer}
use Rattle.onvm_core.specs.Layouts.{IsRing, consumer}
use Rattle.onvm_board.specs.Rule.{FitsRing, hand_after}
use Rattle.onvm_board.specs.Tokens.{MakesStep, parcel_in}
use Rattle.tx_pass.specs.Keeping.{HasRoom}
use Rattle.tx_pass.proofs.Outlets.{head_moved_on, outlet_grown}
use Rattle.tx_pass.proofs.Stretches.{one_moved, one_empty}
use Rattle.tx_pass.proofs.outlet.Outlet.move_one.Goals as goal

pub move_on-requires-clause-fits : goal.move_on-requires-clause-fits
move_on-requires-clause-fits c =
    subst (λ (r : RingId). FitsRing r (parcel_in c.pop.new.token)) c.requires.ring c.in-Some.ensures.fits

pub move_on-requires-clause-outlet : goal.move_on-requires-clause-outlet
move_on-requires-clause-outlet c =
    let act : Act = Pop c.args.head.now.spot.ring (Buffer c.in-Some.buf (parcel_in c.pop.new.token)) in
    outlet_grown c.args.board.now c.args.self.now (act ∷ []) (hand_after act c.args.token.now.hand) c.args.token.now
    c.pop.new.token c.in-Some.ensures.popped.grew (λ ring. refl) (λ feeder. refl) c.requires.outlet

pub returns-in-Some-clause-moved : goal.returns-in-Some-clause-moved
returns-in-Some-clause-moved c =
    let site = c.args.board.now in
    one_moved site c.args.plan.now c.args.now c.args.function
    (subst (IsRing site.layout) c.requires.ring c.requires.head.end.known) c.in-Some.buf
    (parcel_in c.pop.new.token) c.args.token.now c.pop.new.token c.move_on.new.token c.args.self.now
    c.move_on.new.self
    (c.requires.head.end.mine ∙ ap (consumer site.layout) c.requires.ring)
    c.requires.empty_handed
    (subst (λ (r : RingId).
    MakesStep site (Pop r (Buffer c.in-Some.buf (parcel_in c.pop.new.token))) c.args.token.now c.pop.new.token)
    c.requires.ring c.in-Some.ensures.popped)
    c.move_on.ensures.moved

pub returns-in-Some-clause-head : goal.returns-in-Some-clause-head
returns-in-Some-clause-head c =
    let is = c.move_on.ensures.moved in
    head_moved_on c.args.board.now c.pop.new.self c.args.function is.added [] c.pop.new.token c.move_on.new.token is.grew
    (c.pop.ensures.ring ∙ c.requires.ring) is.steps c.pop.ensures.head

pub returns-in-Some-clause-room : goal.returns-in-Some-clause-room
returns-in-Some-clause-room c n room =
    c.move_on.ensures.room n (subst (λ k. HasRoom k c.args.self.now.kept) (omega arith) room)

pub returns-in-None-clause-moved : goal.returns-in-None-clause-moved
returns-in-None-clause-moved c =
    let site = c.args.board.now in
    one_empty site c.args.plan.now c.args.now c.args.function
    (subst (IsRing site.layout) c.requires.ring c.requires.head.end.known) c.args.token.now c.pop.new.token
    c.args.self.now
    (c.requires.head.end.mine ∙ ap (consumer site.layout) c.requires.ring)
    c.requires.empty_handed
    (subst (λ (r : RingId). MakesStep site (Empty r) c.args.token.now c.pop.new.token) c.requires.ring
    c.in-None.ensures.empty)

pub returns-in-None-clause-outlet : goal.returns-in-None-clause-outlet
returns-in-None-clause-outlet c =
    let act : Act = Empty c.args.head.now.spot.ring in
    outlet_grown c.args.board.now c.args.self.now (act ∷ []) (hand_after act c.args.token.now.hand) c.args.token.now
    c.pop.new.token c.in-None.ensures.empty.grew (λ ring. refl) (λ feeder. refl) c.requires.outlet
