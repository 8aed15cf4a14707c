-- A role's two ends over a hop.
use Rattle.std.proofs.Common.{◌≡◌, ℕ, Bool, false, [], ◌∷◌, ap, refl, sym, subst}
use Rattle.std.specs.Prelude.{Option, if◌then◌else◌}
use Rattle.onvm_base.specs.declared.ids.BufId.{BufId}
use Rattle.onvm_base.specs.declared.ids.RingId.{RingId}
use Rattle.onvm_base.specs.declared.outcome.Outcome.{Outcome}
use Rattle.onvm_core.specs.declared.parcel.Parcel.{Parcel}
use Rattle.onvm_core.specs.declared.step.Item.{Item}
use Rattle.onvm_core.specs.declared.step.Act.TheVariants.{Push, Pop, Full, Give}
use Rattle.onvm_core.specs.Layouts.{ring_size, same_ring}
use Rattle.onvm_core.specs.Logs.{Log}
use Rattle.onvm_core.specs.Potential.{pushed_in, popped_in}
use Rattle.onvm_board.specs.declared.spot.Spot.{Spot}
use Rattle.onvm_board.specs.Spots.{next_spot}
use Rattle.onvm_board.specs.Tokens.{BoardView, TokenView, MakesStep, IsTail, IsHead, token_with}
use Rattle.onvm_board.proofs.RingEnds.{tail_next, head_next}
use Rattle.onvm_board.proofs.Stretches.{tail_stays, head_stays, tail_kept, head_kept}
use Rattle.board_bench.specs.declared.hops.Stage.{Stage}
use Rattle.board_bench.specs.Stages.{IsStage, IsSame}

tail_same : (site : BoardView) (spot : Spot) (before after : TokenView) → IsSame before after
    → IsTail site spot before → IsTail site spot after
tail_same site spot before after same =
    tail_stays site spot before after same.board same.role (ap (λ (log : Log). pushed_in spot.ring log) same.log)

head_same : (site : BoardView) (spot : Spot) (before after : TokenView) → IsSame before after
    → IsHead site spot before → IsHead site spot after
head_same site spot before after same =
    head_stays site spot before after same.board same.role (ap (λ (log : Log). popped_in spot.ring log) same.log)

-- what is in hand is no part of the log
pub with_same : (token : TokenView) (buf : ℕ) (content : Option Parcel) → IsSame token (token_with token buf content)
with_same token buf content = record { board = refl; role = refl; log = refl }

-- the ends after a pop and a change in hand
pub record IsMid (site : BoardView) (before : Stage) (from : Spot) (token : TokenView) : Type 0 where
  pub head : IsHead site from token
  pub tail : IsTail site before.onto token

pub mid_popped : (site : BoardView) (before : Stage) (from : Spot) (size : ℕ) (item : Item) (popped held : TokenView)
    → IsStage site before → size ≡ ring_size site.layout before.from.ring → from ≡ next_spot size before.from
    → MakesStep site (Pop before.from.ring item) before.token popped → IsSame popped held
    → IsMid site before from held
mid_popped site before from size item popped held is sized moved made same = record {
  head =
      head_same site from popped held same
      (head_next site before.from from size item before.token popped is.head sized moved made);
  tail =
      tail_same site before.onto popped held same
      (tail_kept site before.onto (Pop before.from.ring item) before.token popped refl is.tail made);
}

pub stage_pushed : (site : BoardView) (before after : Stage) (size : ℕ) (item : Item) (held : TokenView)
    → IsMid site before after.from held → size ≡ ring_size site.layout before.onto.ring
    → after.onto ≡ next_spot size before.onto → MakesStep site (Push before.onto.ring item) held after.token
    → after.token.hand ≡ [] → IsStage site after
stage_pushed site before after size item held mid sized moved made hand = record {
  head = head_kept site after.from (Push before.onto.ring item) held after.token refl mid.head made;
  tail = tail_next site before.onto after.onto size item held after.token mid.tail sized moved made;
  hand = hand;
}

pub stage_given : (site : BoardView) (before after : Stage) (buf : BufId) (outcome : Outcome) (parcel : Parcel)
    (held full : TokenView) (content : Option Parcel) → IsMid site before after.from held → after.onto ≡ before.onto
    → MakesStep site (Full before.onto.ring) held full
    → MakesStep site (Give buf outcome parcel) (token_with full buf.0 content) after.token → after.token.hand ≡ []
    → IsStage site after
stage_given site before after buf outcome parcel held full content mid stays refused given hand = record {
  head =
      head_kept site after.from (Give buf outcome parcel) (token_with full buf.0 content) after.token refl
      (head_same site after.from full (token_with full buf.0 content) (with_same full buf.0 content)
      (head_kept site after.from (Full before.onto.ring) held full refl mid.head refused)) given;
  tail =
      subst (λ (spot : Spot). IsTail site spot after.token) (sym stays)
      (tail_kept site before.onto (Give buf outcome parcel) (token_with full buf.0 content) after.token refl
      (tail_same site before.onto full (token_with full buf.0 content) (with_same full buf.0 content)
      (tail_kept site before.onto (Full before.onto.ring) held full refl mid.tail refused)) given);
  hand = hand;
}

-- an end of another ring over a pop, and over a change in hand
pub head_other : (site : BoardView) (spot : Spot) (ring : RingId) (item : Item) (before popped held : TokenView)
    → same_ring ring spot.ring ≡ false → IsHead site spot before → MakesStep site (Pop ring item) before popped
    → IsSame popped held → IsHead site spot held
head_other site spot ring item before popped held apart is made same =
    head_same site spot popped held same
    (head_kept site spot (Pop ring item) before popped (ap (λ (b : Bool). if b then item ∷ [] else []) apart) is made)
