-- What a marks pass owes, and that it pays.
use Rattle.std.proofs.Common.{◌≡◌, ◌≢◌, ◌∙◌, sym, ap, refl, subst, ℕ, zero, suc, ◌+◌, ◌-◌, ◌*◌, ◌/◌, ◌%◌, ◌^◌, ◌<◌, ◌≤◌, Bool, true, false, List, [], ◌∷◌, ◌++◌, inl, inr, arith, ◌⊎◌}
use Rattle.std.specs.Prelude.{◌==◌, ◌&&◌, ◌||◌, nat_le, if◌then◌else◌}
use Rattle.std.proofs.lemmas.Bool.{cases_Bool, cases_lt, eqb-true, eq-eqb, leb-false}
use Rattle.std.proofs.lemmas.List.{append_assoc, get_or_past}
use Rattle.onvm_base.specs.declared.limits.TheConstants.{LAST_POST, MAX_FUNCTIONS}
use Rattle.onvm_core.specs.declared.layout.Word.TheVariants.{Post as PostWord}
use Rattle.onvm_core.specs.declared.step.Act.TheVariants.{Post}
use Rattle.onvm_core.specs.Logs.{Setting, Log, push_count}
use Rattle.onvm_core.specs.Marks.{MarkEvents, MarkLook, MarkPhase, Pass, Ages, AreMarked, IsOwed, IsPaid, IsResting, IsSettled, MayMark, events_in, finds, has_bit, is_throttled, last_post, look_back, looks_from, looks_of_pass, mark_after, mark_events, mark_phase, pass_count, posts_so_far}
use Rattle.onvm_core.specs.Marks.MarkEvent.{Posted}
use Rattle.onvm_core.specs.Marks.MarkPhase.{AtRest}
use Rattle.onvm_core.specs.Pace.{IsPaced}
use Rattle.onvm_core.proofs.Lists.{if_met, if_unmet}
use Rattle.onvm_board.specs.Known.{post_count_in}
use Rattle.onvm_promises.specs.Acts.IsMarkStep.{APost}
use Rattle.onvm_promises.specs.Passes.{IsMarksPass}
use Rattle.onvm_promises.specs.Rests.{IsSettledFeeder}
use Rattle.watermark.specs.declared.mark.Mark.{Mark}
use Rattle.watermark.specs.declared.mark.Mark.TheVariants.{Calm}
use Rattle.watermark.specs.Marks.{Reading, is_throttle, next_mark}
use Rattle.watermark.specs.Moments.{PushMoments}
use Rattle.watermark.proofs.Marks.{throttle_after}
use Rattle.entry_throttle.specs.Lanes.{AreTimely, HasReadLanes, is_aged}
use Rattle.entry_throttle.specs.Looks.{acts_of, lane, looks_then, phase_in_pass}
use Rattle.entry_throttle.specs.Throttles.{AreMarksOf, ThrottleOthers, ThrottleTheSame, mark_at, posted_bits, set_of}
use Rattle.entry_throttle.proofs.PassLooks.{looks_marked, looks_paced, looks_phase, post_paced}
use Rattle.entry_throttle.proofs.Lanes.{looks_push}
use Rattle.entry_throttle.proofs.SetBits.{bit_of_mark, bit_posted, high_half, set_fits}

-- After all looks of a pass

abbrev pub events_then : MarkEvents → Pass → MarkEvents
events_then events found = events_in (phase_in_pass events found [])

rests_then : (events : MarkEvents) (found : Pass) → phase_in_pass events found [] ≡ AtRest (events_then events found)
rests_then events [] = refl
rests_then events (x ∷ xs) = refl

posts_same : (events : MarkEvents) (found : Pass) → posts_so_far (events_then events found) ≡ posts_so_far events
posts_same events [] = refl
posts_same events (x ∷ xs) = refl

last_same : (events : MarkEvents) (found : Pass) → last_post (events_then events found) ≡ last_post events
last_same events [] = refl
last_same events (x ∷ xs) = refl

passes_more : (events : MarkEvents) (found : Pass) → found ≢ []
    → pass_count (events_then events found) ≡ pass_count events + 1
passes_more events [] some = absurd (some refl)
passes_more events (x ∷ xs) some = refl

posts_kept : (feeder : ℕ) (found : Pass) (before : Log)
    → post_count_in (PostWord feeder) (acts_of feeder found ++ before) ≡ post_count_in (PostWord feeder) before
posts_kept feeder [] before = refl
posts_kept feeder (x ∷ xs) before = posts_kept feeder xs before

-- where no lane has as many pushes as its low mark, a pass has no look, and else it has one

no_look_back : (setting : Setting) (f : ℕ) (b : Bool) (back n : ℕ) (rest : List MarkLook)
    → look_back setting f b back n ++ rest ≡ [] → n < back
no_look_back setting f b back n rest e = elim (cases_Bool (nat_le back n)) [
  | inl met ↦
      let off : ◌≡◌ {A = List MarkLook} (record {
        function = f;
        is_high = b;
        cell =
            (n - back) % setting.layout.ring;
      } ∷ rest) [] =
      sym (ap (λ (xs : List MarkLook). xs ++ rest) (if_met (nat_le back n)
      (record { function = f; is_high = b; cell = (n - back) % setting.layout.ring } ∷ []) [] met)) ∙ e in cc
  | inr unmet ↦ leb-false back n unmet
]

rest_none : (xs rest : List MarkLook) → xs ++ rest ≡ [] → rest ≡ []
rest_none [] rest e = e
rest_none (x ∷ xs) rest e = let off : ◌≡◌ {A = List MarkLook} (x ∷ (xs ++ rest)) [] = e in cc

no_looks_from : (setting : Setting) (feeder : ℕ) (log : Log) (j more f : ℕ)
    → looks_from setting feeder log j more ≡ [] → j ≤ f → f < j + more
    → push_count (lane f feeder) log < setting.plan.low
no_looks_from setting feeder log j zero f e le less = absurd (omega (arith, le, less))
no_looks_from setting feeder log j (suc more) f e le less =
    let n : ℕ = push_count (lane j feeder) log in
    let high : List MarkLook = look_back setting j true setting.plan.high n in
    let low : List MarkLook = look_back setting j false setting.plan.low n in
    let rest : List MarkLook = looks_from setting feeder log (j + 1) more in
    let apart : high ++ (low ++ rest) ≡ [] = sym (append_assoc high low rest) ∙ e in
    let low_none : low ++ rest ≡ [] = rest_none high (low ++ rest) apart in
    elim (cases_lt j f) [
      | inl later ↦
          no_looks_from setting feeder log (j + 1) more f (rest_none low rest low_none) (omega (arith, later))
          (omega (arith, less))
      | inr here ↦
          let same : j ≡ f = omega (arith, le, here) in
          subst (λ (g : ℕ). push_count (lane g feeder) log < setting.plan.low) same
          (no_look_back setting j false setting.plan.low n rest low_none)
    ]

then_some : (found : Pass) (rest : List MarkLook) → rest ≢ [] → looks_then found rest ≢ []
then_some [] rest some = some
then_some (x ∷ xs) rest some =
    then_some xs (x.look ∷ rest) (λ e. let off : ◌≡◌ {A = List MarkLook} (x.look ∷ rest) [] = e in cc)

then_none : (found : Pass) → looks_then found [] ≡ [] → found ≡ []
then_none [] e = refl
then_none (x ∷ xs) e =
    absurd (then_some xs (x.look ∷ []) (λ h. let off : ◌≡◌ {A = List MarkLook} (x.look ∷ []) [] = h in cc) e)

-- marks

low_calm : (m : Mark) (r : Reading) → r.low ≡ false → next_mark m r ≡ Calm
low_calm m r e = rw e refl

timed_and : (high one two : Bool) → (high ≡ true → one ≡ two) → (high && one) ≡ (high && two)
timed_and true one two e = e refl
timed_and false one two e = refl

both_and : (low a b c : Bool) (d : Bool) → a ≡ b → c ≡ d → (low && (a || c)) ≡ (low && (b || d))
both_and low a b c d e h = λ i. low && (e i || h i)

module _ (setting : Setting) (feeder : ℕ) (aged : Ages) (ages : List PushMoments) (now : ℕ) (old new : List Mark)
    (posts : ℕ) (before log : Log) (settled : IsSettledFeeder setting feeder aged before)
    (marks : AreMarksOf setting feeder aged old posts before)
    (read : HasReadLanes setting feeder ages now setting.layout.functions old new before log)
    (timely : AreTimely setting feeder aged ages now before) where
  abbrev events_before : MarkEvents
  events_before = mark_events setting feeder before

  abbrev events_now : MarkEvents
  events_now = events_then events_before read.found

  asks : looks_then read.found [] ≡ looks_of_pass setting feeder before
  asks =
      ap (λ (m : ℕ). looks_then read.found (looks_from setting feeder before setting.layout.functions m))
      (let n : ℕ = setting.layout.functions in let e : 0 ≡ n - n = omega arith in e)
      ∙ read.asks

  stands : mark_phase setting feeder log ≡ AtRest events_now
  stands =
      ap (mark_phase setting feeder) read.grew
      ∙ looks_phase setting feeder before settled.ended read.found [] asks
      ∙ rests_then events_before read.found

  events_are : mark_events setting feeder log ≡ events_now
  events_are = ap events_in stands

  pushes_are : (f : ℕ) → push_count (lane f feeder) log ≡ push_count (lane f feeder) before
  pushes_are f = ap (push_count (lane f feeder)) read.grew ∙ looks_push feeder read.found (lane f feeder) before

  outside : (f : ℕ) → setting.layout.functions ≤ f → mark_at old f ≡ Calm
  outside f past = get_or_past old f Calm (omega (arith, past, marks.long))

  abbrev reading : Pass → ℕ → Reading
  reading pass f = record { high = finds true f pass; low = finds false f pass; aged = is_aged setting ages now f }

  calm_low : (f : ℕ) → push_count (lane f feeder) before < setting.plan.low → mark_at new f ≡ Calm
  calm_low f few = elim (cases_lt f setting.layout.functions) [
    | inl inside ↦ read.judged f inside ∙ low_calm (mark_at old f) (reading read.found f) (read.few false f few)
    | inr past ↦ read.others f past ∙ outside f past
  ]

  new_idle : (f : ℕ) → push_count (lane f feeder) log < setting.plan.low → mark_at new f ≡ Calm
  new_idle f few = calm_low f (subst (λ (n : ℕ). n < setting.plan.low) (pushes_are f) few)

  throttled_in : (found : Pass) → found ≡ read.found
      → (f : ℕ) → is_throttle (mark_at new f) ≡ is_throttled aged f (events_then events_before found)
  throttled_in [] e f =
      let none_looked : looks_of_pass setting feeder before ≡ [] =
      sym asks ∙ ap (λ (p : Pass). looks_then p []) (sym e) in
      elim (cases_lt f setting.layout.functions) [
        | inl inside ↦
            let few =
            no_looks_from setting feeder before 0 setting.layout.functions f none_looked (omega arith)
            (omega (arith, inside)) in
            ap is_throttle (calm_low f few ∙ sym (marks.idle f few)) ∙ marks.states f
        | inr past ↦ ap is_throttle (read.others f past) ∙ marks.states f
      ]
  throttled_in (x ∷ xs) e f =
      let pass : Pass = x ∷ xs in
      elim (cases_lt f setting.layout.functions) [
        | inl inside ↦
            let timed : finds true f pass ≡ true → is_aged setting ages now f ≡ aged (pass_count events_before) f =
            λ high. elim (cases_lt (push_count (lane f feeder) before) setting.plan.high) [
              | inl few ↦
                  let off : false ≡ true = sym (read.few true f few) ∙ ap (finds true f) (sym e) ∙ high in cc
              | inr many ↦ sym (timely f inside many)
            ] in
            ap is_throttle (read.judged f inside)
            ∙ ap (λ (p : Pass). is_throttle (next_mark (mark_at old f) (reading p f))) (sym e)
            ∙ throttle_after (mark_at old f) (reading pass f)
            ∙ both_and (finds false f pass) (finds true f pass && is_aged setting ages now f)
            (finds true f pass && aged (pass_count events_before) f) (is_throttle (mark_at old f))
            (is_throttled aged f events_before)
            (timed_and (finds true f pass) (is_aged setting ages now f) (aged (pass_count events_before) f) timed)
            (marks.states f)
        | inr past ↦
            ap is_throttle (read.others f past ∙ outside f past)
            ∙ sym (ap (λ (b : Bool). b && ((finds true f pass && aged
            (pass_count events_before) f) || is_throttled aged f events_before))
            (ap (finds false f) e ∙ read.later false f past))
      ]

  throttled : (f : ℕ) → is_throttle (mark_at new f) ≡ is_throttled aged f events_now
  throttled f = throttled_in read.found refl f

  looked_marked : AreMarked setting feeder aged log
  looked_marked =
      subst (AreMarked setting feeder aged) (sym read.grew)
      (looks_marked setting feeder before settled.ended aged read.found [] settled.paid settled.marked asks)

  looked_paced : IsPaced setting feeder log
  looked_paced =
      subst (IsPaced setting feeder) (sym read.grew) (looks_paced setting feeder before read.found settled.paced)

  looked_rests : IsResting (mark_phase setting feeder log)
  looked_rests = subst IsResting (sym stands) tt

  posts_now : posts_so_far events_now ≡ posts
  posts_now = posts_same events_before read.found ∙ marks.counted

  one_pass : looks_of_pass setting feeder before ≢ [] → pass_count events_now ≡ pass_count events_before + 1
  one_pass some =
      passes_more events_before read.found (λ e. some (sym asks ∙ ap (λ (p : Pass). looks_then p []) e))

  none_made : looks_of_pass setting feeder before ≡ [] → read.found ≡ []
  none_made none_looked = then_none read.found (asks ∙ none_looked)

  -- Where the set is the same, no post is owed

  still_settled : IsSettled aged events_before → ThrottleTheSame old new → IsSettled aged events_now
  still_settled was same f =
      ap (λ (n : ℕ). has_bit n f) (last_same events_before read.found)
      ∙ was f ∙ sym (marks.states f) ∙ sym (same f) ∙ throttled f

  quiet_paid : ThrottleTheSame old new ⊎ (LAST_POST ≤ posts) → IsPaid aged events_now
  quiet_paid (inl same) = elim settled.paid [
    | inl was ↦ inl (still_settled was same)
    | inr late ↦ inr (subst (λ (n : ℕ). LAST_POST ≤ n) (sym (posts_same events_before read.found)) late)
  ]
  quiet_paid (inr late) = inr (subst (λ (n : ℕ). LAST_POST ≤ n) (sym posts_now) late)

  pub quiet_pass : ThrottleTheSame old new ⊎ (LAST_POST ≤ posts)
      → IsMarksPass setting feeder aged before (acts_of feeder read.found)
      × AreMarksOf setting feeder aged new posts log
  quiet_pass quiet = (
    record {
      marks = read.are_marks;
      settled = subst (IsSettledFeeder setting feeder aged) read.grew (record {
        marked = looked_marked;
        ended = looked_rests;
        paid = subst (IsPaid aged) (sym events_are) (quiet_paid quiet);
        paced = looked_paced;
      });
      one = λ some.
          ap (λ (l : Log). pass_count (mark_events setting feeder l)) (sym read.grew) ∙ ap pass_count events_are
          ∙ one_pass some;
      none = λ none_looked. ap (acts_of feeder) (none_made none_looked);
    },
    record {
      long = read.as_long ∙ marks.long;
      states = λ f. throttled f ∙ ap (is_throttled aged f) (sym events_are);
      idle = new_idle;
      counted = ap posts_so_far events_are ∙ posts_now;
      numbered = ap (post_count_in (PostWord feeder)) read.grew ∙ posts_kept feeder read.found before ∙ marks.numbered;
    },
  )

  -- Where it changed, one is

  module _ (few : setting.layout.functions ≤ MAX_FUNCTIONS) (more : posts < LAST_POST)
      (changed : ThrottleOthers old new) where
    abbrev bits : ℕ
    bits = posted_bits (posts + 1) (set_of new)

    abbrev value : ℕ
    value = (posts + 1) * 2 ^ 32 + bits

    was_settled : IsSettled aged events_before
    was_settled = elim settled.paid [
      | inl was ↦ was
      | inr late ↦ absurd (omega (arith, late, marks.counted, more))
    ]

    unsettled : ¬ IsSettled aged events_now
    unsettled settles =
        let f : ℕ = changed.0 in
        changed.1
        (throttled f ∙ sym (settles f) ∙ ap (λ (n : ℕ). has_bit n f) (last_same events_before read.found)
        ∙ was_settled f ∙ sym (marks.states f))

    fits : set_of new < 2 ^ 32
    fits = set_fits new (omega (arith, few, read.as_long, marks.long))

    value_bits : (f : ℕ) → has_bit value f ≡ (if posts + 1 == LAST_POST then false else is_throttled aged f events_now)
    value_bits f = elim (cases_Bool (posts + 1 == LAST_POST)) [
      | inl met ↦ rw met (bit_posted (posts + 1) 0 f (omega arith) ∙ bit_of_mark [] f)
      | inr unmet ↦ rw unmet (bit_posted (posts + 1) (set_of new) f fits ∙ bit_of_mark new f ∙ throttled f)
    ]

    value_number : value / 2 ^ 32 ≡ posts + 1
    value_number = elim (cases_Bool (posts + 1 == LAST_POST)) [
      | inl met ↦ rw met (high_half (posts + 1) 0 (omega arith))
      | inr unmet ↦ rw unmet (high_half (posts + 1) (set_of new) fits)
    ]

    owed : IsOwed aged events_now value
    owed = record {
      more = omega (arith, more, posts_now);
      unsettled = unsettled;
      number = value_number ∙ ap (λ (n : ℕ). n + 1) (sym posts_now);
      bits = λ f.
          value_bits f
          ∙ ap (λ (n : ℕ). if n + 1 == LAST_POST then false else is_throttled aged f events_now) (sym posts_now);
    }

    paid_now : IsPaid aged (Posted value ∷ events_now)
    paid_now = elim (cases_Bool (posts + 1 == LAST_POST)) [
      | inl met ↦ inr (omega (arith, eqb-true (posts + 1) LAST_POST met, posts_now))
      | inr unmet ↦
          inl (λ f. value_bits f ∙ if_unmet (posts + 1 == LAST_POST) false (is_throttled aged f events_now) unmet)
    ]

    abbrev after : Log
    after = Post (PostWord feeder) value ∷ log

    after_stands : mark_phase setting feeder after ≡ AtRest (Posted value ∷ events_now)
    after_stands = ap (λ (p : MarkPhase). mark_after setting feeder log p (Post (PostWord feeder) value)) stands

    after_events : mark_events setting feeder after ≡ Posted value ∷ events_now
    after_events = ap events_in after_stands

    never_changed : looks_of_pass setting feeder before ≡ [] → ⊥
    never_changed none_looked =
        let f : ℕ = changed.0 in
        changed.1
        (throttled f
        ∙ ap (λ (p : Pass). is_throttled aged f (events_then events_before p)) (none_made none_looked)
        ∙ sym (marks.states f))

    pub posted_pass : IsMarksPass setting feeder aged before (Post (PostWord feeder) value ∷ acts_of feeder read.found)
        × AreMarksOf setting feeder aged new (posts + 1) (Post (PostWord feeder) value ∷ log)
    posted_pass = (
      record {
        marks = (APost value, read.are_marks);
        settled = subst (λ (l : Log). IsSettledFeeder setting feeder aged (Post
            (PostWord feeder) value ∷ l)) read.grew (record {
              marked = (
                subst (λ (p : MarkPhase). MayMark setting feeder aged log p (Post (PostWord feeder) value))
                    (sym stands) owed,
                looked_marked,
              );
              ended = subst IsResting (sym after_stands) tt;
              paid = subst (IsPaid aged) (sym after_events) paid_now;
              paced = post_paced setting feeder value log looked_paced;
            });
        one = λ some.
            ap (λ (l : Log). pass_count (mark_events setting feeder (Post (PostWord feeder) value ∷ l))) (sym read.grew)
            ∙ ap pass_count after_events ∙ one_pass some;
        none = λ none_looked. absurd (never_changed none_looked);
      },
      record {
        long = read.as_long ∙ marks.long;
        states = λ f. throttled f ∙ ap (is_throttled aged f) (sym after_events);
        idle = new_idle;
        counted = ap posts_so_far after_events ∙ ap (λ (n : ℕ). n + 1) posts_now;
        numbered =
            if_met (feeder == feeder) (post_count_in (PostWord feeder) log + 1) (post_count_in (PostWord feeder) log)
            (eq-eqb feeder feeder refl)
            ∙ ap (λ (n : ℕ). n + 1)
            (ap (post_count_in (PostWord feeder)) read.grew ∙ posts_kept feeder read.found before ∙ marks.numbered);
      },
    )
