use Rattle.std.proofs.Common.{◌≡◌, refl, sym, subst, ap, ◌∙◌, []}
use Rattle.onvm_base.specs.declared.ids.RingId.{RingId}
use Rattle.onvm_board.specs.declared.spot.Spot.{Spot}
use Rattle.onvm_core.specs.declared.step.Act.TheVariants.{Push}
use Rattle.onvm_core.specs.declared.step.Item.TheVariants.{Buffer}
use Rattle.onvm_board.specs.Rule.{Hand}
use Rattle.onvm_board.specs.Tokens.{IsTail, MakesStep, TokenView, parcel_in}
use Rattle.entry_throttle.specs.Feeders.{IsFeederOf}
use Rattle.entry_throttle.specs.Looks.{lane}
use Rattle.entry_throttle.proofs.OtherActs.{feeder_grown}
use Rattle.entry_throttle.proofs.tests.frames.enter.Goals as goal

pub returns-in-Ok : goal.returns-in-Ok
returns-in-Ok c =
    let feeds = c.requires.feeds in
    let taken = c.take.new.token in
    let lent = c.lend.new.token in
    let number = sym feeds.feeder.role ∙ feeds.role in
    let was : IsFeederOf c.args.board.now c.args.feeder.now lent =
    feeder_grown c.args.board.now c.args.feeder.now [] lent.hand taken lent
    (c.lend.ensures.new
    ∙ ap (λ (h : Hand). record taken { hand = h }) (sym (ap (λ (t : TokenView). t.hand) c.lend.ensures.new)))
    (record { pushes = λ f. refl; posts = refl }) (c.take.ensures.feeder c.args.feeder.now feeds.feeder) in
    let made = c.in-Ok.ensures.pushed in
    let own : c.args.tail.now.spot.ring ≡ lane 0 c.args.feeder.now.number =
    feeds.ring ∙ ap (lane 0) (sym number) in
    record {
      feeds = λ e. record {
        feeder =
            c.pushed.ensures.feeder c.args.board.now (Buffer (record { 0 = c.from.result })
            (parcel_in lent)) lent c.push.new.token was
            (subst (λ (ring : RingId). MakesStep c.args.board.now (Push ring (Buffer
            (record { 0 = c.from.result }) (parcel_in lent))) lent c.push.new.token)
            own made)
            (subst (λ (spot : Spot). IsTail c.args.board.now spot c.push.new.token)
            (sym c.spot.ensures) c.push.ensures.tail.end)
            (ap (λ (spot : Spot). spot.ring) c.spot.ensures ∙ c.push.ensures.ring ∙ own);
        tail = c.push.ensures.tail;
        ring = c.push.ensures.ring ∙ feeds.ring;
        role = ap (λ (t : TokenView). t.role) made.grew ∙ ap (λ (t : TokenView). t.role) c.lend.ensures.new
            ∙ c.take.ensures.same.1 ∙ feeds.role;
        empty_handed = ap (λ (t : TokenView). t.hand) made.grew;
      };
    }
