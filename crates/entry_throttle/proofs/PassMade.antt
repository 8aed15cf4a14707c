-- A marks pass of a feeder, as contracts see it.
use Rattle.std.proofs.Common.{◌≡◌, ◌∙◌, sym, ap, refl, subst, ℕ, ◌+◌, ◌*◌, ◌/◌, ◌%◌, ◌^◌, ◌<◌, ◌≤◌, ◌⊎◌, Bool, true, false, List, [], ◌∷◌, ◌++◌, length, inl, inr, arith, length-append}
use Rattle.std.specs.Prelude.{◌==◌}
use Rattle.std.specs.Bool.{OnFalse, OnTrue}
use Rattle.std.proofs.lemmas.Bool.{cases_Bool}
use Rattle.std.proofs.lemmas.List.{append-nil}
use Rattle.onvm_base.specs.declared.limits.TheConstants.{LAST_POST, MAX_FUNCTIONS}
use Rattle.onvm_base.specs.declared.post.Post.{Post}
use Rattle.onvm_core.specs.declared.layout.Layout.{Layout}
use Rattle.onvm_core.specs.declared.layout.Word.TheVariants.{Post as PostWord}
use Rattle.onvm_core.specs.declared.step.Act.TheVariants.{Post as PostAct}
use Rattle.onvm_core.specs.Logs.{Log, Setting}
use Rattle.onvm_core.specs.Marks.{Ages, Pass}
use Rattle.onvm_core.proofs.Lists.{if_met, if_unmet}
use Rattle.onvm_board.specs.Tokens.{BoardView, TokenView}
use Rattle.onvm_promises.specs.Kept.{kept_now, posts_by}
use Rattle.onvm_promises.specs.Passes.{IsMarksPass}
use Rattle.watermark.specs.declared.mark.Mark.{Mark}
use Rattle.watermark.specs.Moments.{PushMoments}
use Rattle.entry_throttle.specs.Feeders.{FeederView, IsReady, MadeMarksPass}
use Rattle.entry_throttle.specs.Lanes.{HasMarks, HasReadLanes}
use Rattle.entry_throttle.specs.Looks.{acts_of}
use Rattle.entry_throttle.specs.Throttles.{AreMarksOf, ThrottleOthers, ThrottleTheSame, posted_bits, set_of}
use Rattle.entry_throttle.proofs.PostOwed.{posted_pass, quiet_pass}
use Rattle.entry_throttle.proofs.SetBits.{high_half, low_half, set_fits}

looks_post_none : (now feeder : ℕ) (found : Pass) → kept_now posts_by now (acts_of feeder found) ≡ []
looks_post_none now feeder [] = refl
looks_post_none now feeder (x ∷ xs) =
    append-nil (kept_now posts_by now (acts_of feeder xs)) ∙ looks_post_none now feeder xs

pub made_quiet : (setting : Setting) (aged : Ages) (board : BoardView) (now : ℕ) (feeder new : FeederView)
    (before after : TokenView) → IsReady setting aged board now feeder before
    → HasReadLanes setting feeder.number feeder.ages now setting.layout.functions feeder.marks new.marks before.log
    after.log
    → new.posts ≡ feeder.posts → ThrottleTheSame feeder.marks new.marks ⊎ (LAST_POST ≤ length feeder.posts)
    → MadeMarksPass setting aged now feeder new before after
made_quiet setting aged board now feeder new before after ready read same quiet =
    let both =
    quiet_pass setting feeder.number aged feeder.ages now feeder.marks new.marks (length feeder.posts) before.log
    after.log ready.settled ready.marks read ready.timely quiet in record {
      made = acts_of feeder.number read.found;
      grew = read.grew;
      posts =
          same ∙ sym (append-nil feeder.posts)
          ∙ ap (λ (ps : List Post). feeder.posts ++ ps) (sym (looks_post_none now feeder.number read.found));
      pass = both.0;
      marks =
          subst (λ (n : ℕ). AreMarksOf setting feeder.number aged new.marks n after.log) (ap length (sym same)) both.1;
    }

-- a post that is kept
abbrev post_kept : (feeder number now bits : ℕ) → Post
post_kept feeder number now bits = record { feeder = feeder; number = number; moment = now; bits = bits }

bits_fit : (marks : List Mark) (number : ℕ) → length marks ≤ MAX_FUNCTIONS → posted_bits number (set_of marks) < 2 ^ 32
bits_fit marks number few = elim (cases_Bool (number == LAST_POST)) [
  | inl met ↦
      let e : posted_bits number (set_of marks) ≡ 0 = if_met (number == LAST_POST) 0 (set_of marks) met in
      omega (arith, e)
  | inr unmet ↦
      let e : posted_bits number (set_of marks) ≡ set_of marks = if_unmet (number == LAST_POST) 0
      (set_of marks) unmet in
      omega (arith, e, set_fits marks few)
]

pub made_post : (setting : Setting) (aged : Ages) (board : BoardView) (now : ℕ) (feeder new : FeederView)
    (before between after : TokenView) (number bits value : ℕ) → IsReady setting aged board now feeder before
    → HasReadLanes setting feeder.number feeder.ages now setting.layout.functions feeder.marks new.marks before.log
    between.log
    → length feeder.marks ≤ MAX_FUNCTIONS
    → number ≡ length feeder.posts + 1
    → bits ≡ posted_bits number (set_of new.marks)
    → value ≡ number * 2 ^ 32 + bits
    → after.log ≡ PostAct (PostWord feeder.number) value ∷ between.log
    → new.posts ≡ feeder.posts ++ record { feeder = feeder.number; number = number; moment = now; bits = bits } ∷ []
    → ThrottleOthers feeder.marks new.marks → length feeder.posts < LAST_POST
    → MadeMarksPass setting aged now feeder new before after
made_post setting aged board now feeder new before between after number bits value ready read few number_is bits_is
    value_is logged kept changed more =
    let functions : setting.layout.functions ≤ MAX_FUNCTIONS = omega (arith, few, ready.marks.long) in
    let both =
    posted_pass setting feeder.number aged feeder.ages now feeder.marks new.marks (length feeder.posts) before.log
    between.log ready.settled ready.marks read ready.timely functions more changed in
    let n : ℕ = length feeder.posts + 1 in
    let same : value ≡ n * 2 ^ 32 + posted_bits n (set_of new.marks) =
    value_is ∙ ap (λ (b : ℕ). number * 2 ^ 32 + b) bits_is
    ∙ ap (λ (k : ℕ). k * 2 ^ 32 + posted_bits k (set_of new.marks)) number_is in
    let small : bits < 2 ^ 32 =
    subst (λ (b : ℕ). b < 2 ^ 32) (sym bits_is) (bits_fit new.marks number (omega (arith, few, read.as_long))) in
    let long : length new.posts ≡ n =
    ap length kept ∙ length-append feeder.posts (post_kept feeder.number number now bits ∷ []) in
    record {
      made = PostAct (PostWord feeder.number) value ∷ acts_of feeder.number read.found;
      grew = logged ∙ ap (λ (l : Log). PostAct (PostWord feeder.number) value ∷ l) read.grew;
      posts =
          kept
          ∙ (λ i. feeder.posts ++ post_kept feeder.number
          (sym (ap (λ (v : ℕ). v / 2 ^ 32) value_is ∙ high_half number bits small) i) now
          (sym (ap (λ (v : ℕ). v % 2 ^ 32) value_is ∙ low_half number bits small) i) ∷ [])
          ∙ ap (λ (ps : List Post). feeder.posts ++ (ps ++ post_kept feeder.number (value / 2 ^ 32) now
          (value % 2 ^ 32) ∷ []))
          (sym (looks_post_none now feeder.number read.found));
      pass =
          subst (λ (v : ℕ). IsMarksPass setting feeder.number aged before.log
          (PostAct (PostWord feeder.number) v ∷ acts_of feeder.number read.found)) (sym same) both.0;
      marks =
          subst (λ (k : ℕ). AreMarksOf setting feeder.number aged new.marks k after.log) (sym long)
          (subst (λ (l : Log). AreMarksOf setting feeder.number aged new.marks n l)
          (sym (logged ∙ ap (λ (v : ℕ). PostAct (PostWord feeder.number) v ∷ between.log) same)) both.1);
    }

-- What a feeder read, under other names

pub read_like : (setting : Setting) (feeder own : ℕ) (ages own_ages : List PushMoments) (now count own_count : ℕ)
    (old own_old new own_new : List Mark) (before after : Log)
    → feeder ≡ own → ages ≡ own_ages → count ≡ own_count → old ≡ own_old → new ≡ own_new
    → HasReadLanes setting feeder ages now count old new before after
    → HasReadLanes setting own own_ages now own_count own_old own_new before after
read_like setting feeder own ages own_ages now count own_count old own_old new own_new before after a b c d e read =
    subst (λ (x : List Mark). HasReadLanes setting own own_ages now own_count own_old x before after) e
    (subst (λ (x : List Mark). HasReadLanes setting own own_ages now own_count x new before after) d
    (subst (λ (x : ℕ). HasReadLanes setting own own_ages now x old new before after) c
    (subst (λ (x : List PushMoments). HasReadLanes setting own x now count old new before after) b
    (subst (λ (x : ℕ). HasReadLanes setting x ages now count old new before after) a read))))

pub alike_like : (changed : Bool) (old own_old new own_new : List Mark) → changed ≡ false → old ≡ own_old → new
    ≡ own_new
    → OnFalse changed (ThrottleTheSame old new) → ThrottleTheSame own_old own_new
alike_like changed old own_old new own_new e a b is =
    let same : ThrottleTheSame old new = subst (λ (c : Bool). OnFalse c (ThrottleTheSame old new)) e is in
    subst (λ (x : List Mark). ThrottleTheSame own_old x) b (subst (λ (x : List Mark). ThrottleTheSame x new) a same)

pub others_like : (changed : Bool) (old own_old new own_new : List Mark) → changed ≡ true → old ≡ own_old → new
    ≡ own_new
    → OnTrue changed (ThrottleOthers old new) → ThrottleOthers own_old own_new
others_like changed old own_old new own_new e a b is =
    let other : ThrottleOthers old new = subst (λ (c : Bool). OnTrue c (ThrottleOthers old new)) e is in
    subst (λ (x : List Mark). ThrottleOthers own_old x) b (subst (λ (x : List Mark). ThrottleOthers x new) a other)

pub marks_like : (setting : Setting) (layout : Layout) (high own_high low own_low age own_age : ℕ)
    → high ≡ own_high → low ≡ own_low → age ≡ own_age
    → HasMarks setting layout high low age → HasMarks setting layout own_high own_low own_age
marks_like setting layout high own_high low own_low age own_age a b c is = record {
  same = is.same;
  high_is = is.high_is ∙ a;
  low_is = is.low_is ∙ b;
  age_is = is.age_is ∙ c;
}
