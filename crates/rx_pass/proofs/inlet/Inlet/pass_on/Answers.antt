use Rattle.std.proofs.Common.{◌≡◌, ◌≤◌, [], sym, ap, ◌∙◌, subst, refl}
use Rattle.onvm_base.specs.declared.ids.RingId.{RingId}
use Rattle.onvm_base.specs.declared.ids.RingId.TheVariants.{Lane}
use Rattle.onvm_board.specs.Tokens.{TokenView, grown, parcel_in}
use Rattle.desc_ring.specs.Arrays.{IsTailAt, lane_from}
use Rattle.desc_ring.proofs.InArrays.{lanes_moved}
use Rattle.entry_throttle.specs.Feeders.{FeederView}
use Rattle.rx_pass.specs.Turns.{went_on}
use Rattle.rx_pass.proofs.Inlets.{went_elsewhere}
use Rattle.rx_pass.proofs.inlet.Inlet.pass_on.Goals as goal

pub push_on-requires-clause-lane : goal.push_on-requires-clause-lane
push_on-requires-clause-lane c =
    (c.requires.inlet.lanes.each c.args.next.0 c.index_mut-lane.result.now c.requires.function
    c.index_mut-lane.ensures.value).own refl

pub push_on-requires-clause-ring : goal.push_on-requires-clause-ring
push_on-requires-clause-ring c =
    (c.requires.inlet.lanes.each c.args.next.0 c.index_mut-lane.result.now c.requires.function
    c.index_mut-lane.ensures.value).ring_is

pub returns-clause-inlet : goal.returns-clause-inlet
returns-clause-inlet c =
    let role = c.args.token.now.role in
    let parcel = parcel_in c.args.token.now in
    let grew = c.push_on.ensures.grew in record {
      lanes =
          lanes_moved c.args.board.now (went_on (Lane c.args.next role) c.args.buf parcel c.push_on.result) []
          c.args.token.now c.push_on.new.token grew c.args.self.now.lanes.items c.args.next.0 c.push_on.new.lane
          c.requires.function
          (λ g less other. went_elsewhere c.args.next.0 g role c.args.buf parcel c.push_on.result other)
          (record {
            ring_is =
                c.push_on.ensures.ring
                ∙ (c.requires.inlet.lanes.each c.args.next.0 c.index_mut-lane.result.now c.requires.function
                c.index_mut-lane.ensures.value).ring_is;
            own = λ mine. c.push_on.ensures.lane;
          })
          c.requires.inlet.lanes;
      feeder = c.push_on.ensures.feeder;
      ages = c.push_on.ensures.noted.long ∙ c.requires.inlet.ages;
      high = subst (λ (fed : FeederView). 1 ≤ fed.high) (sym c.push_on.ensures.noted.same) c.requires.inlet.high;
      part = c.requires.inlet.part;
      port = ap (λ (t : TokenView). t.role) grew ∙ c.requires.inlet.port;
    }
