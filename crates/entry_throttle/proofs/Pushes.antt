-- For callers: a feeder, and the moments that it keeps, after a push on one of its lanes.
use Rattle.std.proofs.Common.{◌≡◌, ◌≢◌, ◌∙◌, sym, ap, subst, ℕ, ◌+◌, ◌-◌, ◌<◌, ◌≤◌, Bool, true, false, List, [], ◌∷◌, ◌++◌, length, inl, inr, arith, length-append, length-drop, Option, Some, None}
use Rattle.std.specs.Prelude.{◌==◌, ◌&&◌, if◌then◌else◌, min, slice_index_or, slice_set}
use Rattle.std.proofs.lemmas.Bool.{cases_order, ne_eqb}
use Rattle.std.proofs.lemmas.List.{get_or-set_same, get_or-set_other, length-set}
use Rattle.onvm_base.specs.declared.ids.RingId.{RingId}
use Rattle.onvm_core.specs.declared.layout.Word.TheVariants.{Post as PostWord}
use Rattle.onvm_core.specs.declared.step.Item.{Item}
use Rattle.onvm_core.specs.declared.step.Act.TheVariants.{Push}
use Rattle.onvm_core.specs.Layouts.{same_ring}
use Rattle.onvm_core.specs.History.{pushes}
use Rattle.onvm_core.specs.Logs.{Log, push_count}
use Rattle.onvm_core.proofs.Lists.{if_met, if_unmet}
use Rattle.onvm_board.specs.declared.spot.Spot.{Spot}
use Rattle.onvm_board.specs.Known.{post_count_in}
use Rattle.onvm_board.specs.Tokens.{BoardView, TokenView, IsTail, MakesStep}
use Rattle.onvm_board.proofs.Soundness.{same_ring_one}
use Rattle.onvm_board.proofs.Stretches.{tail_kept}
use Rattle.watermark.specs.Moments.{PushMoments, last_of, no_moments, pushed_at}
use Rattle.watermark.proofs.Moments.{last_of-push}
use Rattle.entry_throttle.specs.Feeders.{FeederView, IsFeederOf, pushed_on_lane}
use Rattle.entry_throttle.specs.Lanes.{IsOwnEnd, KeepsEnough}
use Rattle.entry_throttle.specs.Looks.{lane}
use Rattle.entry_throttle.specs.Moments.{KeepsMoments, push_moments}

-- lanes of two functions are two rings
pub lanes_apart : (f g p q : ℕ) → f ≢ g → same_ring (lane f p) (lane g q) ≡ false
lanes_apart f g p q ne = ap (λ (b : Bool). b && (p == q)) (ne_eqb f g ne)

-- one more moment
kept_more : (high n now : ℕ) (moments : List ℕ) → length moments ≡ min n high
    → length (pushed_at now (record { high = high; moments = moments })).moments ≡ min (n + 1) high
kept_more high n now moments was =
    let all : List ℕ = moments ++ now ∷ [] in
    let long : length all ≡ length moments + 1 = length-append moments (now ∷ []) in
    let left = length-drop (length all - high) all in omega (arith, long, left, was)

enough_more : (token after : TokenView) (f high now : ℕ) (kept : PushMoments)
    → push_count (lane f after.role) after.log ≡ push_count (lane f token.role) token.log + 1
    → KeepsEnough token f high kept → KeepsEnough after f high (pushed_at now kept)
enough_more token after f high now kept more was =
    let n : ℕ = push_count (lane f token.role) token.log in
    let m : ℕ = push_count (lane f after.role) after.log in
    let counts : length (pushed_at now kept).moments ≡ min (n + 1) kept.high =
    kept_more kept.high n now kept.moments (was.counted ∙ ap (min n) (sym was.high_is)) in
    let now_is : length (pushed_at now kept).moments ≡ min m high =
    counts ∙ ap (min (n + 1)) was.high_is ∙ ap (λ (k : ℕ). min k high) (sym more) in record {
      high_is = was.high_is;
      counted = now_is;
      many = λ le. now_is ∙ (let e : min m high ≡ high = omega (arith, le) in e);
    }

pub enough_same : (token after : TokenView) (f high : ℕ) (kept : PushMoments)
    → push_count (lane f after.role) after.log ≡ push_count (lane f token.role) token.log
    → KeepsEnough token f high kept → KeepsEnough after f high kept
enough_same token after f high kept same was = record {
  high_is = was.high_is;
  counted = was.counted ∙ ap (λ (n : ℕ). min n high) (sym same);
  many = λ le. was.many (subst (λ (n : ℕ). high ≤ n) same le);
}

-- an end of another lane stays
end_else : (board : BoardView) (f number p g : ℕ) (item : Item) (before after : TokenView) (end : Option Spot) → f ≢ g
    → MakesStep board (Push (lane f number) item) before after → IsOwnEnd board (lane g p) end before
    → IsOwnEnd board (lane g p) end after
end_else board f number p g item before after None ne made is =
    ap (λ (t : TokenView). push_count (lane g p) t.log) made.grew
    ∙ if_unmet (same_ring (lane f number) (lane g p)) (push_count (lane g p) before.log + 1)
    (push_count (lane g p) before.log) (lanes_apart f g number p ne)
    ∙ is
end_else board f number p g item before after (Some spot) ne made is = (
  is.0,
  tail_kept board spot (Push (lane f number) item) before after
      (ap (λ (r : RingId). pushes r (Push (lane f number) item)) is.0
      ∙ if_unmet (same_ring (lane f number) (lane g p)) (item ∷ []) [] (lanes_apart f g number p ne))
      is.1 made,
)

pub feeder_after_push : (board : BoardView) (feeder : FeederView) (f now : ℕ) (spot : Spot) (item : Item)
    (before after : TokenView) → IsFeederOf board feeder before → f < length feeder.spots
    → length feeder.ages ≡ length feeder.spots
    → MakesStep board (Push (lane f feeder.number) item) before after → IsTail board spot after
    → spot.ring ≡ lane f feeder.number → IsFeederOf board (pushed_on_lane f spot now feeder) after
feeder_after_push board feeder f now spot item before after was under long made tail ring =
    let log = ap (λ (t : TokenView). t.log) made.grew in
    let role : after.role ≡ before.role = ap (λ (t : TokenView). t.role) made.grew in
    let kept : PushMoments = slice_index_or feeder.ages f (no_moments 0) in
    let end : Option Spot = Some spot in
    let counts : (g : ℕ) → push_count (lane g after.role) after.log
    ≡ (if same_ring (lane f feeder.number) (lane g before.role) then push_count (lane g before.role) before.log + 1
    else push_count (lane g before.role) before.log)
    = λ g. ap (λ (r : ℕ). push_count (lane g r) after.log) role ∙ ap (push_count (lane g before.role)) log in
    let own : same_ring (lane f feeder.number) (lane f before.role) ≡ true =
    ap (λ (r : ℕ). same_ring (lane f feeder.number) (lane f r)) was.role ∙ same_ring_one (lane f feeder.number) in
    let others : (g : ℕ) → f ≢ g → push_count (lane g after.role) after.log
    ≡ push_count (lane g before.role) before.log =
    λ g ne. counts g
    ∙ if_unmet (same_ring (lane f feeder.number) (lane g before.role)) (push_count (lane g before.role) before.log + 1)
    (push_count (lane g before.role) before.log) (lanes_apart f g feeder.number before.role ne) in
    let other_end : (g : ℕ) (d : Option Spot) → g < length feeder.spots → f ≢ g
    → IsOwnEnd board (lane g after.role) (slice_index_or (slice_set feeder.spots f end) g d) after =
    λ g d inside ne.
    subst (λ (o : Option Spot). IsOwnEnd board (lane g after.role) o after)
    (sym (get_or-set_other feeder.spots f g end d (λ e. ne (sym e))))
    (end_else board f feeder.number after.role g item before after (slice_index_or feeder.spots g d) ne made
    (subst (λ (r : ℕ). IsOwnEnd board (lane g r) (slice_index_or feeder.spots g d) before) (sym role)
    (was.ends g d inside))) in record {
      on_board = ap (λ (t : TokenView). t.board) made.grew ∙ was.on_board;
      role = role ∙ was.role;
      known = was.known;
      functions = length-set feeder.spots f end ∙ was.functions;
      ring = was.ring;
      ends = λ g d inside.
          let within : g < length feeder.spots = subst (λ (n : ℕ). g < n) (length-set feeder.spots f end) inside in
          elim (cases_order f g) [
            | inl e ↦
                subst (λ (h : ℕ). IsOwnEnd board (lane h after.role) (slice_index_or
                (slice_set feeder.spots f end) h d) after) e
                (subst (λ (o : Option Spot). IsOwnEnd board (lane f after.role) o after)
                (sym (get_or-set_same feeder.spots f end d under))
                (ring ∙ ap (lane f) (sym (role ∙ was.role)), tail))
            | inr (inl lower) ↦ other_end g d within (λ e. omega (arith, e, lower))
            | inr (inr upper) ↦ other_end g d within (λ e. omega (arith, e, upper))
          ];
      enough = λ g d inside.
          let within : g < length feeder.ages = subst (λ (n : ℕ). g < n) (length-set feeder.ages f
          (pushed_at now kept)) inside in
          let other : f ≢ g → KeepsEnough after g feeder.high (slice_index_or (slice_set feeder.ages f
          (pushed_at now kept)) g d) =
          λ ne. subst (KeepsEnough after g feeder.high)
          (sym (get_or-set_other feeder.ages f g (pushed_at now kept) d (λ e. ne (sym e))))
          (enough_same before after g feeder.high (slice_index_or feeder.ages g d) (others g ne)
          (was.enough g d within)) in
          elim (cases_order f g) [
            | inl e ↦
                subst (λ (h : ℕ). KeepsEnough after h feeder.high (slice_index_or (slice_set feeder.ages f
                (pushed_at now kept)) h d)) e
                (subst (KeepsEnough after f feeder.high)
                (sym (get_or-set_same feeder.ages f (pushed_at now kept) d (omega (arith, under, long))))
                (enough_more before after f feeder.high now kept
                (counts f
                ∙ if_met (same_ring (lane f feeder.number) (lane f before.role)) (push_count
                (lane f before.role) before.log + 1)
                (push_count (lane f before.role) before.log) own)
                (was.enough f (no_moments 0) (omega (arith, under, long)))))
            | inr (inl lower) ↦ other (λ e. omega (arith, e, lower))
            | inr (inr upper) ↦ other (λ e. omega (arith, e, upper))
          ];
      numbered = ap (post_count_in (PostWord feeder.number)) log ∙ was.numbered;
    }

-- the moments that it keeps, where it takes note of the push at its moment
pub moments_after_push : (moment : ℕ → ℕ) (feeder : FeederView) (f now : ℕ) (spot : Spot) (item : Item) (before : Log)
    → f < length feeder.ages → 0 < feeder.high → moment (length before) ≡ now → KeepsMoments moment feeder before
    → KeepsMoments moment (pushed_on_lane f spot now feeder) (Push (lane f feeder.number) item ∷ before)
moments_after_push moment feeder f now spot item before under some at was g d inside =
    let within : g < length feeder.ages =
    subst (λ (n : ℕ). g < n) (length-set feeder.ages f (pushed_at now (slice_index_or feeder.ages f
    (no_moments 0)))) inside in
    let kept : PushMoments = slice_index_or feeder.ages f (no_moments 0) in
    let keep : List ℕ → PushMoments = λ xs. record { high = feeder.high; moments = last_of feeder.high xs } in
    let ring : RingId = lane f feeder.number in
    let ms : List ℕ = push_moments ring moment before in
    elim (cases_order f g) [
      | inl e ↦
          subst (λ (h : ℕ). slice_index_or (slice_set feeder.ages f (pushed_at now kept)) h d
          ≡ keep (push_moments (lane h feeder.number) moment (Push ring item ∷ before))) e
          (get_or-set_same feeder.ages f (pushed_at now kept) d under
          ∙ ap (pushed_at now) (was f (no_moments 0) under)
          ∙ ap (λ (xs : List ℕ). record { high = feeder.high; moments = xs }) (last_of-push feeder.high ms now some)
          ∙ ap (λ (m : ℕ). keep (ms ++ m ∷ [])) (sym at)
          ∙ ap keep (sym (if_met (same_ring ring ring) (ms ++ moment (length before) ∷ []) ms (same_ring_one ring))))
      | inr (inl lower) ↦ other g d within (λ e. omega (arith, e, lower))
      | inr (inr upper) ↦ other g d within (λ e. omega (arith, e, upper))
    ]
  where
    other : (g : ℕ) (d : PushMoments) → g < length feeder.ages → f ≢ g
        → slice_index_or (slice_set feeder.ages f (pushed_at now (slice_index_or feeder.ages f (no_moments 0)))) g d
        ≡ record {
          high = feeder.high;
          moments = last_of feeder.high (push_moments (lane g feeder.number) moment (Push
              (lane f feeder.number) item ∷ before));
        }
    other g d within ne =
        let ms : List ℕ = push_moments (lane g feeder.number) moment before in
        get_or-set_other feeder.ages f g (pushed_at now (slice_index_or feeder.ages f (no_moments 0))) d (λ e. ne
        (sym e))
        ∙ was g d within
        ∙ ap (λ (xs : List ℕ). record { high = feeder.high; moments = last_of feeder.high xs })
        (sym (if_unmet (same_ring (lane f feeder.number) (lane g feeder.number)) (ms ++ moment (length before) ∷ []) ms
        (ap (λ (b : Bool). b && (feeder.number == feeder.number)) (ne_eqb f g ne))))
