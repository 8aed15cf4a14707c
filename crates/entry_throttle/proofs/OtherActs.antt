-- For callers: what a feeder knows stays true over any acts that are no pushes on its lanes and no posts of it.
use Rattle.std.proofs.Common.{◌≡◌, ◌∙◌, sym, ap, refl, subst, ℕ, ◌+◌, ◌<◌, ◌≤◌, Bool, true, false, List, [], ◌∷◌, ◌++◌, length, arith, length-append, Option, None, Some}
use Rattle.std.specs.Prelude.{if◌then◌else◌, slice_index_or}
use Rattle.std.proofs.lemmas.List.{append-nil}
use Rattle.onvm_base.specs.declared.ids.RingId.{RingId}
use Rattle.onvm_core.specs.declared.layout.Word.{Word}
use Rattle.onvm_core.specs.declared.layout.Word.TheVariants.{Post as PostWord}
use Rattle.onvm_core.specs.declared.step.Act.{Act}
use Rattle.onvm_core.specs.declared.step.Act.TheVariants.{Split, Join, Take, Give, Push, Full, Pop, Empty, Look, Post}
use Rattle.onvm_core.specs.declared.step.Item.{Item}
use Rattle.onvm_core.specs.Handling.{is_push_on}
use Rattle.onvm_core.specs.History.{pushes}
use Rattle.onvm_core.specs.Layouts.{same_ring, same_word}
use Rattle.onvm_core.specs.Logs.{Log, Setting, push_count}
use Rattle.onvm_core.specs.Marks.{Ages, MarkPhase, events_in, is_throttled, posts_so_far}
use Rattle.onvm_core.specs.Potential.{pushed_in}
use Rattle.onvm_core.proofs.Lists.{if_unmet}
use Rattle.onvm_board.specs.declared.spot.Spot.{Spot}
use Rattle.onvm_board.specs.Known.{post_count_in}
use Rattle.onvm_board.specs.Rule.{Hand, hand_after}
use Rattle.onvm_board.specs.Tokens.{BoardView, MakesStep, TokenView, grown}
use Rattle.onvm_board.proofs.Stretches.{pushed_over, tail_grown}
use Rattle.desc_ring.proofs.Counts.{push_count_is}
use Rattle.onvm_promises.proofs.Settling.{mark_phase_same}
use Rattle.onvm_promises.proofs.Unmarked.{AreUnmarked}
use Rattle.watermark.specs.declared.mark.Mark.{Mark}
use Rattle.watermark.specs.Moments.{last_of}
use Rattle.entry_throttle.specs.Feeders.{FeederView, IsFeederOf}
use Rattle.entry_throttle.specs.Lanes.{IsOwnEnd}
use Rattle.entry_throttle.specs.Looks.{lane}
use Rattle.entry_throttle.specs.Moments.{KeepsMoments, push_moments}
use Rattle.entry_throttle.specs.Throttles.{AreMarksOf}
use Rattle.entry_throttle.proofs.Pushes.{enough_same}

-- these acts push on none of the feeder's lanes, and post nothing of its own
pub record LeaveFeeder (feeder : ℕ) (added : Log) : Type 0 where
  pub pushes : (f : ℕ) → pushed_in (lane f feeder) added ≡ []
  pub posts : post_count_in (PostWord feeder) added ≡ 0

-- Counts of a longer log

push_count_same : (ring : RingId) (added log : Log) → pushed_in ring added ≡ []
    → push_count ring (added ++ log) ≡ push_count ring log
push_count_same ring added log unpushed =
    push_count_is ring (added ++ log)
    ∙ ap length (pushed_over ring added log)
    ∙ ap (λ (items : List Item). length (pushed_in ring log ++ items)) unpushed
    ∙ ap length (append-nil (pushed_in ring log))
    ∙ sym (push_count_is ring log)

push_count_more : (ring : RingId) (added log : Log) → push_count ring log ≤ push_count ring (added ++ log)
push_count_more ring added log =
    let long = length-append (pushed_in ring log) (pushed_in ring added) in
    let over = ap length (pushed_over ring added log) in
    omega (arith, push_count_is ring log, push_count_is ring (added ++ log), over, long)

plus_if : (b : Bool) (n m : ℕ) → (if b then n + m + 1 else n + m) ≡ (if b then n + 1 else n) + m
plus_if true n m = omega arith
plus_if false n m = refl

post_count_over : (word : Word) (added log : Log)
    → post_count_in word (added ++ log) ≡ post_count_in word added + post_count_in word log
post_count_over word [] log = let n : ℕ = post_count_in word log in let e : n ≡ 0 + n = omega arith in e
post_count_over word (Post w value ∷ added) log =
    ap (λ (n : ℕ). if same_word w word then n + 1 else n) (post_count_over word added log)
    ∙ plus_if (same_word w word) (post_count_in word added) (post_count_in word log)
post_count_over word (Look a b d ∷ added) log = post_count_over word added log
post_count_over word (Push a b ∷ added) log = post_count_over word added log
post_count_over word (Full a ∷ added) log = post_count_over word added log
post_count_over word (Pop a b ∷ added) log = post_count_over word added log
post_count_over word (Empty a ∷ added) log = post_count_over word added log
post_count_over word (Take a ∷ added) log = post_count_over word added log
post_count_over word (Give a b d ∷ added) log = post_count_over word added log
post_count_over word (Split a ∷ added) log = post_count_over word added log
post_count_over word (Join a ∷ added) log = post_count_over word added log

post_count_same : (word : Word) (added log : Log) → post_count_in word added ≡ 0
    → post_count_in word (added ++ log) ≡ post_count_in word log
post_count_same word added log unposted = omega (arith, post_count_over word added log, unposted)

-- What a feeder knows of its token

end_grown : (board : BoardView) (ring : RingId) (end : Option Spot) (added : Log) (hand : Hand)
    (before after : TokenView)
    → after ≡ grown added hand before → pushed_in ring added ≡ [] → IsOwnEnd board ring end before
    → IsOwnEnd board ring end after
end_grown board ring None added hand before after grew unpushed is =
    ap (λ (t : TokenView). push_count ring t.log) grew ∙ push_count_same ring added before.log unpushed ∙ is
end_grown board ring (Some spot) added hand before after grew unpushed is = (
  is.0,
  tail_grown board spot added hand before after grew (ap (λ (r : RingId). pushed_in r added) is.0 ∙ unpushed) is.1,
)

-- over a stretch of acts
pub feeder_grown : (board : BoardView) (feeder : FeederView) (added : Log) (hand : Hand) (before after : TokenView)
    → after ≡ grown added hand before → LeaveFeeder feeder.number added → IsFeederOf board feeder before
    → IsFeederOf board feeder after
feeder_grown board feeder added hand before after grew leave was =
    let role : after.role ≡ before.role = ap (λ (t : TokenView). t.role) grew in
    let unpushed : (f : ℕ) → pushed_in (lane f before.role) added ≡ [] =
    λ f. ap (λ (r : ℕ). pushed_in (lane f r) added) was.role ∙ leave.pushes f in record {
      on_board = ap (λ (t : TokenView). t.board) grew ∙ was.on_board;
      role = role ∙ was.role;
      known = was.known;
      functions = was.functions;
      ring = was.ring;
      ends = λ f d inside.
          subst (λ (r : ℕ). IsOwnEnd board (lane f r) (slice_index_or feeder.spots f d) after) (sym role)
          (end_grown board (lane f before.role) (slice_index_or feeder.spots f d) added hand before after grew
          (unpushed f) (was.ends f d inside));
      enough = λ f d inside.
          enough_same before after f feeder.high (slice_index_or feeder.ages f d)
          (ap (λ (r : ℕ). push_count (lane f r) after.log) role
          ∙ ap (λ (t : TokenView). push_count (lane f before.role) t.log) grew
          ∙ push_count_same (lane f before.role) added before.log (unpushed f)) (was.enough f d inside);
      numbered =
          ap (λ (t : TokenView). post_count_in (PostWord feeder.number) t.log) grew
          ∙ post_count_same (PostWord feeder.number) added before.log leave.posts ∙ was.numbered;
    }

-- over one step
pub feeder_stays : (board : BoardView) (feeder : FeederView) (act : Act) (before after : TokenView)
    → MakesStep board act before after → LeaveFeeder feeder.number (act ∷ []) → IsFeederOf board feeder before
    → IsFeederOf board feeder after
feeder_stays board feeder act before after made leave was =
    feeder_grown board feeder (act ∷ []) (hand_after act before.hand) before after made.grew leave was

-- Marks: acts that are none of a marks pass leave them, pushes too

pub marks_grown : (setting : Setting) (feeder : ℕ) (aged : Ages) (marks : List Mark) (posts : ℕ) (added log : Log)
    → AreUnmarked added → post_count_in (PostWord feeder) added ≡ 0 → AreMarksOf setting feeder aged marks posts log
    → AreMarksOf setting feeder aged marks posts (added ++ log)
marks_grown setting feeder aged marks posts added log unmarked unposted was =
    let same = mark_phase_same setting feeder added log unmarked in record {
      long = was.long;
      states = λ f. was.states f ∙ ap (λ (p : MarkPhase). is_throttled aged f (events_in p)) (sym same);
      idle = λ f few. was.idle f (omega (arith, few, push_count_more (lane f feeder) added log));
      counted = ap (λ (p : MarkPhase). posts_so_far (events_in p)) same ∙ was.counted;
      numbered = post_count_same (PostWord feeder) added log unposted ∙ was.numbered;
    }

-- Moments

front_none : (xs ys : List Item) → xs ++ ys ≡ [] → xs ≡ []
front_none [] ys e = refl
front_none (x ∷ xs) ys e = let off : ◌≡◌ {A = List Item} (x ∷ (xs ++ ys)) [] = e in cc

back_none : (xs ys : List Item) → xs ++ ys ≡ [] → ys ≡ []
back_none [] ys e = e
back_none (x ∷ xs) ys e = let off : ◌≡◌ {A = List Item} (x ∷ (xs ++ ys)) [] = e in cc

unpushed_if : (b : Bool) (item : Item) → (if b then item ∷ [] else []) ≡ [] → b ≡ false
unpushed_if true item e = let off : ◌≡◌ {A = List Item} (item ∷ []) [] = e in cc
unpushed_if false item e = refl

no_push : (ring : RingId) (act : Act) → pushes ring act ≡ [] → is_push_on ring act ≡ false
no_push ring (Push r item) e = unpushed_if (same_ring r ring) item e
no_push ring (Look a b d) e = refl
no_push ring (Post a b) e = refl
no_push ring (Full a) e = refl
no_push ring (Pop a b) e = refl
no_push ring (Empty a) e = refl
no_push ring (Take a) e = refl
no_push ring (Give a b d) e = refl
no_push ring (Split a) e = refl
no_push ring (Join a) e = refl

push_moments_same : (ring : RingId) (moment : ℕ → ℕ) (added log : Log) → pushed_in ring added ≡ []
    → push_moments ring moment (added ++ log) ≡ push_moments ring moment log
push_moments_same ring moment [] log unpushed = refl
push_moments_same ring moment (act ∷ added) log unpushed =
    let ms : List ℕ = push_moments ring moment (added ++ log) in
    if_unmet (is_push_on ring act) (ms ++ moment (length (added ++ log)) ∷ []) ms
    (no_push ring act (back_none (pushed_in ring added) (pushes ring act) unpushed))
    ∙ push_moments_same ring moment added log (front_none (pushed_in ring added) (pushes ring act) unpushed)

pub moments_grown : (moment : ℕ → ℕ) (feeder : FeederView) (added log : Log)
    → ((f : ℕ) → pushed_in (lane f feeder.number) added ≡ []) → KeepsMoments moment feeder log
    → KeepsMoments moment feeder (added ++ log)
moments_grown moment feeder added log unpushed was f d inside =
    was f d inside
    ∙ ap (λ (ms : List ℕ). record { high = feeder.high; moments = last_of feeder.high ms })
    (sym (push_moments_same (lane f feeder.number) moment added log (unpushed f)))

-- the moments of acts that come later don't count
moments_before : (ring : RingId) (moment later : ℕ → ℕ) (log : Log)
    → ((number : ℕ) → number < length log → later number ≡ moment number)
    → push_moments ring later log ≡ push_moments ring moment log
moments_before ring moment later [] same = refl
moments_before ring moment later (act ∷ log) same =
    let earlier = moments_before ring moment later log (λ number less. same number (omega (arith, less))) in
    λ i. if is_push_on ring act then earlier i ++ same (length log) (omega arith) i ∷ [] else earlier i

pub moments_extended : (moment later : ℕ → ℕ) (feeder : FeederView) (log : Log)
    → ((number : ℕ) → number < length log → later number ≡ moment number) → KeepsMoments moment feeder log
    → KeepsMoments later feeder log
moments_extended moment later feeder log same was f d inside =
    was f d inside
    ∙ ap (λ (ms : List ℕ). record { high = feeder.high; moments = last_of feeder.high ms })
    (sym (moments_before (lane f feeder.number) moment later log same))
