-- An outlet, heads and room as their token's log grows.
use Rattle.std.proofs.Common.{◌≡◌, ℕ, suc, Bool, true, false, ◌+◌, ◌-◌, ◌*◌, ◌<◌, ◌≤◌, List, [], ◌++◌, length, sym, ap, ◌∙◌, subst, refl, arith}
use Rattle.std.specs.Prelude.{◌≢◌}
use Rattle.std.proofs.Math.Nat.{suc-mul}
use Rattle.std.proofs.lemmas.List.{append-nil}
use Rattle.onvm_base.specs.declared.ids.BufId.{BufId}
use Rattle.onvm_base.specs.declared.ids.FnId.{FnId}
use Rattle.onvm_base.specs.declared.ids.RingId.{RingId}
use Rattle.onvm_base.specs.declared.ids.RingId.TheVariants.{Output}
use Rattle.onvm_core.specs.declared.layout.Word.TheVariants.{Post as PostWord}
use Rattle.onvm_core.specs.declared.parcel.Parcel.{Parcel}
use Rattle.onvm_core.specs.Logs.{Log}
use Rattle.onvm_core.specs.Potential.{popped_in, pushed_in}
use Rattle.onvm_board.specs.Known.{post_count_in}
use Rattle.onvm_board.specs.Rule.{Hand}
use Rattle.onvm_board.specs.Tokens.{BoardView, TokenView, grown}
use Rattle.desc_ring.specs.declared.head.Head.{Head}
use Rattle.desc_ring.specs.declared.tail.Tail.{Tail}
use Rattle.desc_ring.specs.Arrays.{AreEnds, AreHeads, AreLanes, IsHeadAt, IsTailAt, lane_from, output_of}
use Rattle.desc_ring.specs.Ends.{IsHeadOf, LeavesEnds}
use Rattle.desc_ring.proofs.InArrays.{ends_stay, lanes_from_apart, lanes_grown}
use Rattle.desc_ring.proofs.Stays.{head_stays}
use Rattle.onvm_promises.specs.Acts.{AreMoveSteps}
use Rattle.onvm_promises.proofs.Moving.{popped_past}
use Rattle.entry_throttle.specs.Feeders.{FeederView, IsFeederOf}
use Rattle.entry_throttle.proofs.OtherActs.{feeder_grown}
use Rattle.tx_pass.specs.declared.kept.Kept.{Kept}
use Rattle.tx_pass.specs.declared.outlet.Outlet.{Outlet}
use Rattle.tx_pass.specs.Keeping.{HasRoom}
use Rattle.tx_pass.specs.Moving.{IsOutletOf, never, went_on}

-- Outlets

-- over acts that push nothing and post nothing
pub outlet_grown : (site : BoardView) (outlet : Outlet) (added : Log) (hand : Hand) (before after : TokenView)
    → after ≡ grown added hand before → ((ring : RingId) → pushed_in ring added ≡ [])
    → ((feeder : ℕ) → post_count_in (PostWord feeder) added ≡ 0) → IsOutletOf site outlet before
    → IsOutletOf site outlet after
outlet_grown site outlet added hand before after grew unpushed unposted is = record {
  lanes =
      lanes_grown site added hand before after grew outlet.lanes.items
      (λ f less. unpushed (lane_from before.role f)) is.lanes;
  feeder =
      feeder_grown site outlet.feeder added hand before after grew
      (record { pushes = λ f. unpushed (lane_from outlet.feeder.number f); posts = unposted outlet.feeder.number })
      is.feeder;
  ages = is.ages;
  high = is.high;
}

-- what is kept is no matter
pub outlet_by : (site : BoardView) (old new : Outlet) (token : TokenView) → new.lanes ≡ old.lanes
    → new.feeder ≡ old.feeder → IsOutletOf site old token → IsOutletOf site new token
outlet_by site old new token lanes feeder is = record {
  lanes = subst (λ ls. AreLanes site ls.items token) (sym lanes) is.lanes;
  feeder = subst (λ (fed : FeederView). IsFeederOf site fed token) (sym feeder) is.feeder;
  ages = subst (λ (fed : FeederView). length fed.ages ≡ site.layout.functions) (sym feeder) is.ages;
  high = subst (λ (fed : FeederView). 1 ≤ fed.high) (sym feeder) is.high;
}

-- a parcel that goes on by a lane, or turns back from it, is no push on another
pub went_elsewhere : (f g role : ℕ) (buf : BufId) (parcel : Parcel) (went : Bool) → g ≢ f
    → pushed_in (lane_from role g) (went_on (lane_from role f) buf parcel went) ≡ []
went_elsewhere f g role buf parcel true other = rw (lanes_from_apart role f g other) refl
went_elsewhere f g role buf parcel false other = refl

-- Heads

-- a head over moves that try no ring
pub head_moved_on : (site : BoardView) (head : Head) (f : FnId) (added : Log) (hand : Hand) (before after : TokenView)
    → after ≡ grown added hand before → head.spot.ring ≡ Output f → AreMoveSteps never added
    → IsHeadOf site head before → IsHeadOf site head after
head_moved_on site head f added hand before after grew ring steps is =
    head_stays site head before after (ap (λ (t : TokenView). t.board) grew) (ap (λ (t : TokenView). t.role) grew)
    (ap (λ (t : TokenView). popped_in head.spot.ring t.log) grew
    ∙ subst (λ (r : RingId). popped_in r (added ++ before.log) ≡ popped_in r before.log) (sym ring)
    (popped_past never f (λ g no_try. absurd no_try) added before.log steps))
    is

-- moves that try no ring of a function pop nothing there
pub popped_none : (may : FnId → Type 0) (f : FnId) → ((g : FnId) → may g → g.0 ≢ f.0) → (added : Log)
    → AreMoveSteps may added → popped_in (Output f) added ≡ []
popped_none may f other added steps =
    subst (λ (log : Log). popped_in (Output f) log ≡ []) (append-nil added) (popped_past may f other added [] steps)

-- Ends over a marks pass

pub lanes_left : (site : BoardView) (tails : List Tail) (before after : TokenView) → after.role ≡ before.role
    → LeavesEnds site before after → AreLanes site tails before → AreLanes site tails after
lanes_left site tails before after role leaves is =
    subst (λ (r : ℕ). AreEnds IsTailAt site (lane_from r) site.layout.functions tails after) (sym role)
    (ends_stay IsTailAt site (lane_from before.role) site.layout.functions tails before after
    (λ i tail less was. record {
      ring_is = was.ring_is;
      own = λ mine.
          let old = was.own (sym role ∙ mine) in
          record { sized = old.sized; end = leaves.tails tail.spot old.end };
    }) is)

pub heads_left : (site : BoardView) (heads : List Head) (before after : TokenView) → after.role ≡ before.role
    → LeavesEnds site before after → AreHeads site heads before → AreHeads site heads after
heads_left site heads before after role leaves is =
    ends_stay IsHeadAt site output_of site.layout.functions heads before after
    (λ i head less was. record {
      ring_is = was.ring_is;
      own = λ mine.
          let old = was.own (sym role ∙ mine) in
          record { sized = old.sized; buffers = old.buffers; end = leaves.heads head.spot old.end };
    }) is

-- Room

pub fewer_room : (m n : ℕ) (kept : Kept) → n ≤ m → HasRoom m kept → HasRoom n kept
fewer_room m n kept le room = record { records = omega (arith, le, room.records); sent = omega (arith, le, room.sent) }

-- a ring less to drain
pub rest_rows : (rings f burst : ℕ) → f < rings → (rings - f) * burst ≡ (rings - (f + 1)) * burst + burst
rest_rows rings f burst less =
    let next : rings - f ≡ suc (rings - (f + 1)) = omega (arith, less) in
    ap (λ n. n * burst) next ∙ suc-mul (rings - (f + 1)) burst
