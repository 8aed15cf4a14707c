-- A role is ready with each token that has the board, the role, the log and the hand of one with which it is ready.
use Rattle.std.proofs.Common.{◌≡◌, ℕ, List, refl, sym, ◌∙◌, ap, subst, Some, None, Option}
use Rattle.std.specs.Prelude.{slice_index_or}
use Rattle.onvm_base.specs.declared.plan.Plan.{Plan}
use Rattle.onvm_base.specs.declared.ids.RingId.{RingId}
use Rattle.onvm_core.specs.Handling.{core_hand}
use Rattle.onvm_core.specs.Logs.{Log}
use Rattle.onvm_board.specs.declared.spot.Spot.{Spot}
use Rattle.onvm_board.specs.Tokens.{BoardView, IsHead, IsTail, TokenView}
use Rattle.desc_ring.specs.Arrays.{AreEnds, AreLanes, IsHeadAt, IsMailHeadAt, IsTailAt, lane_from}
use Rattle.desc_ring.specs.Ends.{IsHeadOf, IsMailHead, IsMailTail, IsTailOf}
use Rattle.entry_throttle.specs.Feeders.{FeederView, IsFeederOf}
use Rattle.entry_throttle.specs.Lanes.{IsOwnEnd, KeepsEnough}
use Rattle.entry_throttle.specs.Looks.{lane}
use Rattle.nf_api.specs.Acts.{Acts}
use Rattle.nf_api.specs.Tree.{Tree}
use Rattle.nf_exec.specs.Roles.{IsAtWork}
use Rattle.nf_exec.specs.Stations.{IsStation, in_hand}
use Rattle.tick_pass.specs.Roles.{AreMailsOf}
use Rattle.onvm_session.specs.declared.role.Role.{Role}
use Rattle.onvm_session.specs.declared.role.Role.TheVariants.{Receive, Send, Handle, Tick}
use Rattle.onvm_session.specs.RoleStates.{IsReady}

-- all that a pass asks of a token
pub record IsSameToken (old new : TokenView) : Type 0 where
  pub board : new.board ≡ old.board
  pub role : new.role ≡ old.role
  pub log : new.log ≡ old.log
  pub hand : new.hand ≡ old.hand

module _ (site : BoardView) (old new : TokenView) (same : IsSameToken old new) where
  tail_with : (spot : Spot) → IsTail site spot old → IsTail site spot new
  tail_with spot is = record {
    board = same.board ∙ is.board;
    known = is.known;
    mine = same.role ∙ is.mine;
    stands = rw same.log is.stands;
    based = is.based;
  }

  head_with : (spot : Spot) → IsHead site spot old → IsHead site spot new
  head_with spot is = record {
    board = same.board ∙ is.board;
    known = is.known;
    mine = same.role ∙ is.mine;
    stands = rw same.log is.stands;
    based = is.based;
  }

  tail_of_with : (tail : _) → IsTailOf site tail old → IsTailOf site tail new
  tail_of_with tail is = record { sized = is.sized; end = tail_with tail.spot is.end }

  head_of_with : (head : _) → IsHeadOf site head old → IsHeadOf site head new
  head_of_with head is = record { sized = is.sized; buffers = is.buffers; end = head_with head.spot is.end }

  mail_tail_with : (mail : _) → IsMailTail site mail old → IsMailTail site mail new
  mail_tail_with mail is = record { numbers = is.numbers; end = tail_with mail.spot is.end }

  mail_head_with : (mail : _) → IsMailHead site mail old → IsMailHead site mail new
  mail_head_with mail is = record { numbers = is.numbers; end = head_with mail.spot is.end }

  -- Ends in arrays

  ends_with : {End : Type 0} (IsEndAt : BoardView → RingId → End → TokenView → Type 0)
      → ((ring : RingId) (end : End) → IsEndAt site ring end old → IsEndAt site ring end new)
      → (rings : ℕ → RingId) (count : ℕ) (ends : List End)
      → AreEnds IsEndAt site rings count ends old → AreEnds IsEndAt site rings count ends new
  ends_with IsEndAt one rings count ends are = record {
    long = are.long;
    each = λ i end under at. one (rings i) end (are.each i end under at);
  }

  tail_at_with : (ring : RingId) (tail : _) → IsTailAt site ring tail old → IsTailAt site ring tail new
  tail_at_with ring tail is = record {
    ring_is = is.ring_is;
    own = λ mine. tail_of_with tail (is.own (sym same.role ∙ mine));
  }

  head_at_with : (ring : RingId) (head : _) → IsHeadAt site ring head old → IsHeadAt site ring head new
  head_at_with ring head is = record {
    ring_is = is.ring_is;
    own = λ mine. head_of_with head (is.own (sym same.role ∙ mine));
  }

  mail_head_at_with : (ring : RingId) (mail : _) → IsMailHeadAt site ring mail old → IsMailHeadAt site ring mail new
  mail_head_at_with ring mail is = record {
    ring_is = is.ring_is;
    own = λ mine. mail_head_with mail (is.own (sym same.role ∙ mine));
  }

  lanes_with : (tails : List _) → AreLanes site tails old → AreLanes site tails new
  lanes_with tails are =
      subst (λ (role : ℕ). AreEnds IsTailAt site (lane_from role) site.layout.functions tails new) (sym same.role)
      (ends_with IsTailAt tail_at_with (lane_from old.role) site.layout.functions tails are)

  -- Feeders

  own_end_with : (f : ℕ) (spot : Option Spot) → IsOwnEnd site (lane f old.role) spot old
      → IsOwnEnd site (lane f new.role) spot new
  own_end_with f None is = rw (same.role, same.log) is
  own_end_with f (Some spot) is = (rw same.role is.0, tail_with spot is.1)

  enough_with : (f high : ℕ) (kept : _) → KeepsEnough old f high kept → KeepsEnough new f high kept
  enough_with f high kept is = record {
    high_is = is.high_is;
    counted = rw (same.role, same.log) is.counted;
    many = rw (same.role, same.log) is.many;
  }

  feeder_with : (feeder : FeederView) → IsFeederOf site feeder old → IsFeederOf site feeder new
  feeder_with feeder is = record {
    on_board = same.board ∙ is.on_board;
    role = same.role ∙ is.role;
    known = is.known;
    functions = is.functions;
    ring = is.ring;
    ends = λ f d under. own_end_with f (slice_index_or feeder.spots f d) (is.ends f d under);
    enough = λ f d under. enough_with f feeder.high (slice_index_or feeder.ages f d) (is.enough f d under);
    numbered = rw same.log is.numbered;
  }

  -- Stations

  station_with : (station : _) → IsStation site station old → IsStation site station new
  station_with station is = record {
    known = is.known;
    own = is.own ∙ sym same.role;
    lanes = ends_with IsHeadAt head_at_with _ _ station.lanes.items is.lanes;
    output_is = is.output_is;
    output = tail_of_with station.output is.output;
    mail_is = is.mail_is;
    mail = mail_tail_with station.mail is.mail;
    few = is.few;
    within = is.within;
    next = rw same.log is.next;
    place = rw same.log is.place;
    count = rw same.log is.count;
  }

  mails_with : (mails : List _) → AreMailsOf site mails old → AreMailsOf site mails new
  mails_with mails are = record {
    begun = λ some. ends_with IsMailHeadAt mail_head_at_with _ _ mails (are.begun some);
    fresh = λ none. same.log ∙ are.fresh none;
  }

module _ {N : Type 0} (acts : N → Acts) (state : N → Tree) (cost_may_take : ℕ → ℕ → Type 0) (site : BoardView)
    (plan : Plan) (old new : TokenView) (same : IsSameToken old new) where
  work_with : (core : _) → IsAtWork acts state site old core → IsAtWork acts state site new core
  work_with core is = record {
    board = same.board ∙ is.board;
    kind = rw same.role is.kind;
    functions = rw same.role is.functions;
    stations = record {
      each = λ i station under at. station_with site old new same station (is.stations.each i station under at);
    };
    few = is.few;
    units = is.units;
    began = is.began;
    journals = rw same.log is.journals;
    stands = record {
      hand = same.hand ∙ is.stands.hand ∙ ap (λ (log : Log). in_hand (core_hand log)) (sym same.log);
      logged = refl;
      ready = rw same.log is.stands.ready;
    };
    kept = rw same.log is.kept;
    yields = rw same.log is.yields;
    lost = rw same.log is.lost;
  }

  pub ready_with : {I : Type 0} (role : Role I N) → IsReady acts state cost_may_take site plan old role
      → IsReady acts state cost_may_take site plan new role
  ready_with (Receive rx) is = record {
    layout_of = is.layout_of;
    receives = rw same.role is.receives;
    inlet = record {
      lanes = lanes_with site old new same rx.inlet.lanes.items is.inlet.lanes;
      feeder = feeder_with site old new same rx.inlet.feeder is.inlet.feeder;
      ages = is.inlet.ages;
      high = is.inlet.high;
      part = is.inlet.part;
      port = same.role ∙ is.inlet.port;
    };
    marks = is.marks;
    empty_handed = same.hand ∙ is.empty_handed;
    flows = rw same.role is.flows;
    queue = is.queue;
    few = is.few;
    frames = is.frames;
  }
  ready_with (Send tx) is = record {
    layout_of = is.layout_of;
    transmit = rw same.role is.transmit;
    number = same.role ∙ is.number;
    heads = ends_with site old new same IsHeadAt (head_at_with site old new same) _ _ tx.heads.items is.heads;
    outlet = record {
      lanes = lanes_with site old new same tx.outlet.lanes.items is.outlet.lanes;
      feeder = feeder_with site old new same tx.outlet.feeder is.outlet.feeder;
      ages = is.outlet.ages;
      high = is.outlet.high;
    };
    marks = is.marks;
    empty_handed = same.hand ∙ is.empty_handed;
  }
  ready_with (Handle core) is = (
    record {
      layout_of = is.0.layout_of;
      work = work_with core is.0.work;
      rests = rw (same.role, same.log) is.0.rests;
    },
    rw same.log is.1,
  )
  ready_with (Tick tick) is = record {
    layout_of = is.layout_of;
    board = same.board ∙ is.board;
    mine = same.role ∙ is.mine;
    mails = mails_with site old new same tick.room.mails.items is.mails;
    mail_room = is.mail_room;
    windows = is.windows;
    core = is.core;
    in_force = is.in_force;
    rise = is.rise;
    last_sample = is.last_sample;
    last_tick = is.last_tick;
    few = is.few;
  }
