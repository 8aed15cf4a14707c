-- An inlet as its token's log grows.
use Rattle.std.proofs.Common.{◌≡◌, ◌≢◌, ℕ, zero, suc, Bool, true, false, List, ◌<◌, ◌≤◌, [], ◌∷◌, ◌++◌, length, sym, ap, ◌∙◌, subst, refl, append-nil, Some, None}
use Rattle.onvm_base.specs.declared.ids.BufId.{BufId}
use Rattle.onvm_base.specs.declared.ids.FrameId.{FrameId}
use Rattle.onvm_base.specs.declared.ids.RingId.{RingId}
use Rattle.onvm_base.specs.declared.outcome.Record.{Record}
use Rattle.onvm_core.specs.declared.layout.Layout.{Layout}
use Rattle.onvm_core.specs.declared.layout.Word.TheVariants.{Post, Post as PostWord}
use Rattle.onvm_core.specs.declared.parcel.Parcel.{Parcel}
use Rattle.onvm_core.specs.declared.step.Act.TheVariants.{Look, Take}
use Rattle.onvm_core.specs.Logs.{Log}
use Rattle.onvm_core.specs.Potential.{pushed_in}
use Rattle.onvm_board.specs.Known.{post_count_in}
use Rattle.onvm_board.specs.Rule.{Hand}
use Rattle.onvm_board.specs.Tokens.{BoardView, TokenView, grown}
use Rattle.desc_ring.specs.Arrays.{AreLanes, lane_from}
use Rattle.desc_ring.proofs.InArrays.{lanes_from_apart, lanes_grown}
use Rattle.entry_throttle.specs.Feeders.{FeederView, IsFeederOf}
use Rattle.entry_throttle.proofs.OtherActs.{feeder_grown}
use Rattle.entry_throttle.specs.Admissions.{FoundNone, IsHeldBack, held_record, log_after_asks}
use Rattle.entry_throttle.proofs.Blocks.{grown_by_asks}
use Rattle.mbuf_pool.specs.declared.part.Part.{Part}
use Rattle.mbuf_pool.specs.Parts.{FindsNone, IsPartOf, TakesLowest, last_index, last_look, looks_to, zero_looks}
use Rattle.rx_pass.specs.declared.inlet.Inlet.{Inlet}
use Rattle.rx_pass.specs.Turns.{IsInletOf, went_on}
use Rattle.rx_pass.proofs.Turning.{asks_push_none, none_pushes_none, taken_pushes_none}

-- over acts that push nothing and post nothing
pub inlet_grown : (site : BoardView) (inlet : Inlet) (added : Log) (hand : Hand) (before after : TokenView)
    → after ≡ grown added hand before → ((ring : RingId) → pushed_in ring added ≡ [])
    → ((feeder : ℕ) → post_count_in (PostWord feeder) added ≡ 0) → IsInletOf site inlet before
    → IsInletOf site inlet after
inlet_grown site inlet added hand before after grew unpushed unposted is = record {
  lanes =
      lanes_grown site added hand before after grew inlet.lanes.items
      (λ f less. unpushed (lane_from before.role f)) is.lanes;
  feeder =
      feeder_grown site inlet.feeder added hand before after grew
      (record { pushes = λ f. unpushed (lane_from inlet.feeder.number f); posts = unposted inlet.feeder.number })
      is.feeder;
  ages = is.ages;
  high = is.high;
  part = is.part;
  port = ap (λ (t : TokenView). t.role) grew ∙ is.port;
}

-- what is kept is no matter
pub inlet_by : (site : BoardView) (old new : Inlet) (token : TokenView) → new.part ≡ old.part → new.lanes ≡ old.lanes
    → new.feeder ≡ old.feeder → IsInletOf site old token → IsInletOf site new token
inlet_by site old new token part lanes feeder is = record {
  lanes = subst (λ ls. AreLanes site ls.items token) (sym lanes) is.lanes;
  feeder = subst (λ (fed : FeederView). IsFeederOf site fed token) (sym feeder) is.feeder;
  ages = subst (λ (fed : FeederView). length fed.ages ≡ site.layout.functions) (sym feeder) is.ages;
  high = subst (λ (fed : FeederView). 1 ≤ fed.high) (sym feeder) is.high;
  part = subst (λ (p : Part). IsPartOf site.layout p) (sym part) is.part;
  port = subst (λ (p : Part). token.role ≡ p.port.0) (sym part) is.port;
}

-- a parcel that goes on by a lane, or turns back from it, is no push on another
pub went_elsewhere : (f g role : ℕ) (buf : BufId) (parcel : Parcel) (went : Bool) → g ≢ f
    → pushed_in (lane_from role g) (went_on (lane_from role f) buf parcel went) ≡ []
went_elsewhere f g role buf parcel true other = rw (lanes_from_apart role f g other) refl
went_elsewhere f g role buf parcel false other = refl

-- Posts: none among these

pub asks_post_none : (feeder : ℕ) (values : List ℕ) → post_count_in (PostWord feeder) (log_after_asks values []) ≡ 0
asks_post_none feeder [] = refl
asks_post_none feeder (seen ∷ before) = asks_post_none feeder before

zeros_post_none : (feeder port n : ℕ) → post_count_in (PostWord feeder) (zero_looks port n) ≡ 0
zeros_post_none feeder port zero = refl
zeros_post_none feeder port (suc n) = zeros_post_none feeder port n

pub taken_post_none : (feeder port index seen : ℕ) (buf : BufId)
    → post_count_in (PostWord feeder) (Take buf ∷ looks_to port index seen) ≡ 0
taken_post_none feeder port index seen buf = zeros_post_none feeder port index

pub none_post_none : (feeder port : ℕ) (layout : Layout) (frame : FrameId)
    → post_count_in (PostWord feeder) (last_look layout port frame ∷ zero_looks port (last_index layout)) ≡ 0
none_post_none feeder port layout frame = zeros_post_none feeder port (last_index layout)

-- The parts of a block

pub go_inlet : (site : BoardView) (inlet : Inlet) (feeders mask : ℕ) (before after : TokenView)
    → FoundNone feeders mask before after → IsInletOf site inlet before → IsInletOf site inlet after
go_inlet site inlet feeders mask before after found is =
    inlet_grown site inlet (log_after_asks found.values []) before.hand before after
    (found.grew ∙ grown_by_asks found.values before) (λ ring. asks_push_none ring found.values)
    (λ feeder. asks_post_none feeder found.values) is

pub held_inlet : (site : BoardView) (inlet : Inlet) (frame : FrameId) (mask feeder post f : ℕ) (before after : TokenView)
    → IsHeldBack frame mask feeder post f before after → IsInletOf site inlet before → IsInletOf site inlet after
held_inlet site inlet frame mask feeder post f before after back is =
    let told : Record = held_record frame feeder post f in
    inlet_grown site inlet (Look (Post feeder) back.seen (Some told) ∷ log_after_asks back.values []) before.hand before after
    (back.grew
    ∙ ap (λ (t : TokenView). record t { log = Look (Post feeder) back.seen (Some told) ∷ t.log })
    (grown_by_asks back.values before))
    (λ ring. append-nil (pushed_in ring (log_after_asks back.values [])) ∙ asks_push_none ring back.values)
    (λ feeder. asks_post_none feeder back.values) is

pub taken_inlet : (site : BoardView) (inlet : Inlet) (port : ℕ) (buf : BufId) (before after : TokenView)
    → TakesLowest site port buf before after → IsInletOf site inlet before → IsInletOf site inlet after
taken_inlet site inlet port buf before after takes is =
    inlet_grown site inlet (Take buf ∷ looks_to port takes.index takes.seen) ((buf.0, None) ∷ []) before after takes.grew
    (λ ring. taken_pushes_none ring port takes.index takes.seen buf)
    (λ feeder. taken_post_none feeder port takes.index takes.seen buf) is

pub none_inlet : (site : BoardView) (inlet : Inlet) (port : ℕ) (frame : FrameId) (before after : TokenView)
    → FindsNone site port frame before after → IsInletOf site inlet before → IsInletOf site inlet after
none_inlet site inlet port frame before after finds is =
    inlet_grown site inlet (last_look site.layout port frame ∷ zero_looks port (last_index site.layout)) [] before after
    finds.grew (λ ring. none_pushes_none ring port site.layout frame) (λ feeder. none_post_none feeder port site.layout frame)
    is
