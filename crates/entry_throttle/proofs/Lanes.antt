-- A lane is read, and then the next one.
use Rattle.std.proofs.Common.{◌≡◌, ◌≢◌, ◌∙◌, sym, ap, refl, subst, ℕ, suc, ◌+◌, ◌-◌, ◌%◌, ◌<◌, ◌≤◌, ◌⊎◌, Bool, true, false, List, [], ◌∷◌, ◌++◌, length, inl, inr, arith}
use Rattle.std.specs.Prelude.{min, None, not, ◌==◌, ◌&&◌, ◌||◌, nat_le, if◌then◌else◌, slice_set}
use Rattle.std.specs.Bool.{OnFalse, OnTrue}
use Rattle.std.proofs.lemmas.Bool.{eq-eqb, ne_eqb, lt-leb, cases_order}
use Rattle.std.proofs.lemmas.List.{append_assoc, get_or-set_same, get_or-set_other, length-set}
use Rattle.std.proofs.Math.Nat.{mod-lt}
use Rattle.onvm_base.specs.declared.ids.RingId.{RingId}
use Rattle.onvm_core.specs.declared.layout.Word.TheVariants.{Cell}
use Rattle.onvm_core.specs.declared.step.Act.TheVariants.{Look}
use Rattle.onvm_core.specs.Logs.{Setting, Log, push_count}
use Rattle.onvm_core.specs.Marks.{Finding, MarkLook, Pass, is_for, finds, looks_from}
use Rattle.onvm_board.specs.Tokens.{TokenView}
use Rattle.onvm_promises.specs.Acts.{AreMarkSteps, IsMarkStep}
use Rattle.onvm_promises.specs.Acts.IsMarkStep.{ALook}
use Rattle.watermark.specs.declared.mark.Mark.{Mark}
use Rattle.watermark.specs.declared.mark.Mark.TheVariants.{Calm}
use Rattle.watermark.specs.Marks.{is_throttle, next_mark}
use Rattle.watermark.specs.Moments.{PushMoments}
use Rattle.entry_throttle.specs.Lanes.{HasReadLanes, KeepsEnough, OnlyLooked, is_aged, mark_of_plan}
use Rattle.entry_throttle.specs.Looks.{act_of, acts_of, lane, looks_then}
use Rattle.entry_throttle.specs.Throttles.{ThrottleOthers, ThrottleTheSame, mark_at}
use Rattle.entry_throttle.proofs.LookBack.{LookAdds}

-- looks push nothing
pub looks_push : (feeder : ℕ) (found : Pass) (ring : RingId) (before : Log)
    → push_count ring (acts_of feeder found ++ before) ≡ push_count ring before
looks_push feeder [] ring before = refl
looks_push feeder (x ∷ xs) ring before = looks_push feeder xs ring before

-- A look that was made, or none

abbrev pub add : Bool → Finding → Pass → Pass
add true x xs = x ∷ xs
add false x xs = xs

looks_add : (b : Bool) (feeder : ℕ) (x : Finding) (xs : Pass) (before : Log)
    → (if b then act_of feeder x ∷ acts_of feeder xs ++ before else acts_of feeder xs ++ before)
    ≡ acts_of feeder (add b x xs) ++ before
looks_add true feeder x xs before = refl
looks_add false feeder x xs before = refl

looks_add_then : (b : Bool) (x : Finding) (xs : Pass) (rest : List MarkLook)
    → looks_then (add b x xs) rest ≡ looks_then xs ((if b then x.look ∷ [] else []) ++ rest)
looks_add_then true x xs rest = refl
looks_add_then false x xs rest = refl

finds_add : (b is_high : Bool) (f : ℕ) (x : Finding) (xs : Pass)
    → finds is_high f (add b x xs)
    ≡ ((b && (is_for is_high f x.look && not (x.seen == 0))) || finds is_high f xs)
finds_add true is_high f x xs = refl
finds_add false is_high f x xs = refl

steps_add : (setting : Setting) (feeder : ℕ) (b : Bool) (x : Finding) (xs : Pass)
    → IsMarkStep setting feeder (act_of feeder x) → AreMarkSteps setting feeder (acts_of feeder xs)
    → AreMarkSteps setting feeder (acts_of feeder (add b x xs))
steps_add setting feeder true x xs is are = (is, are)
steps_add setting feeder false x xs is are = are

and_false : (b : Bool) → (b && false) ≡ false
and_false true = refl
and_false false = refl

or_false : (b : Bool) → (b || false) ≡ b
or_false true = refl
or_false false = refl

for_same : (is_high : Bool) (f cell : ℕ)
    → is_for is_high f (record { function = f; is_high = is_high; cell = cell }) ≡ true
for_same true f cell = eq-eqb f f refl
for_same false f cell = eq-eqb f f refl

for_other : (is_high : Bool) (g f cell : ℕ) (high : Bool) → f ≢ g
    → is_for is_high g (record { function = f; is_high = high; cell = cell }) ≡ false
for_other true g f cell true ne = ne_eqb f g ne
for_other true g f cell false ne = refl
for_other false g f cell true ne = refl
for_other false g f cell false ne = ne_eqb f g ne

not_for : (b i s : Bool) → i ≡ false → (b && (i && s)) ≡ false
not_for b i s e = ap (λ (t : Bool). b && (t && s)) e ∙ and_false b

neither : (a c : Bool) → a ≡ false → c ≡ false → (a || c) ≡ false
neither a c e h = ap (λ (t : Bool). t || c) e ∙ h

one_of : (a c d : Bool) → a ≡ d → c ≡ false → (a || c) ≡ d
one_of a c d e h = ap (λ (t : Bool). a || t) h ∙ or_false a ∙ e

same_mark : (m : Mark) (high low a b : Bool) → (high ≡ true → a ≡ b)
    → next_mark m (record { high = high; low = low; aged = a })
    ≡ next_mark m (record { high = high; low = low; aged = b })
same_mark m true low a b e = ap (λ (t : Bool). next_mark m (record { high = true; low = low; aged = t })) (e refl)
same_mark m false low a b e = refl

module _ (setting : Setting) (feeder : ℕ) (before : Log) (j : ℕ) (found : Pass) (seen_high seen_low : ℕ) where
  abbrev n : ℕ
  n = push_count (lane j feeder) before

  abbrev high_made : Bool
  high_made = nat_le setting.plan.high n

  abbrev low_made : Bool
  low_made = nat_le setting.plan.low n

  abbrev at_high : Finding
  at_high =
      record {
        look = record { function = j; is_high = true; cell = (n - setting.plan.high) % setting.layout.ring };
        seen = seen_high;
      }

  abbrev at_low : Finding
  at_low =
      record {
        look = record { function = j; is_high = false; cell = (n - setting.plan.low) % setting.layout.ring };
        seen = seen_low;
      }

  abbrev both_added : Pass
  both_added = add low_made at_low (add high_made at_high found)

  finds_both : (is_high : Bool) (f : ℕ) → finds is_high f both_added
      ≡ ((low_made && (is_for is_high f at_low.look && not (seen_low == 0)))
      || ((high_made && (is_for is_high f at_high.look && not (seen_high == 0))) || finds is_high f found))
  finds_both is_high f =
      finds_add low_made is_high f at_low (add high_made at_high found)
      ∙ ap (λ (t : Bool). (low_made && (is_for is_high f at_low.look && not (seen_low == 0))) || t)
      (finds_add high_made is_high f at_high found)

  finds_other : (is_high : Bool) (f : ℕ) → j ≢ f → finds is_high f both_added ≡ finds is_high f found
  finds_other is_high f ne =
      finds_both is_high f
      ∙ ap (λ (t : Bool). t || ((high_made && (is_for is_high f at_high.look && not
      (seen_high == 0))) || finds is_high f found))
      (not_for low_made (is_for is_high f at_low.look) (not (seen_low == 0))
      (for_other is_high f j at_low.look.cell false ne))
      ∙ ap (λ (t : Bool). t || finds is_high f found)
      (not_for high_made (is_for is_high f at_high.look) (not (seen_high == 0))
      (for_other is_high f j at_high.look.cell true ne))

  finds_high : finds true j found ≡ false → finds true j both_added ≡ (high_made && not (seen_high == 0))
  finds_high none_yet =
      finds_both true j
      ∙ ap (λ (t : Bool). t || ((high_made && (is_for true j at_high.look && not
      (seen_high == 0))) || finds true j found))
      (and_false low_made)
      ∙ ap (λ (t : Bool). (high_made && (t && not (seen_high == 0))) || finds true j found)
      (for_same true j at_high.look.cell)
      ∙ one_of (high_made && not (seen_high == 0)) (finds true j found) (high_made && not
      (seen_high == 0)) refl none_yet

  finds_low : finds false j found ≡ false → finds false j both_added ≡ (low_made && not (seen_low == 0))
  finds_low none_yet =
      finds_both false j
      ∙ ap (λ (t : Bool). (low_made && (t && not (seen_low == 0)))
      || ((high_made && (is_for false j at_high.look && not (seen_high == 0))) || finds false j found))
      (for_same false j at_low.look.cell)
      ∙ one_of (low_made && not (seen_low == 0))
      ((high_made && (is_for false j at_high.look && not (seen_high == 0))) || finds false j found)
      (low_made && not (seen_low == 0)) refl
      (neither (high_made && (is_for false j at_high.look && not (seen_high == 0))) (finds false j found)
      (and_false high_made) none_yet)

  few_high : n < setting.plan.high → finds true j found ≡ false → finds true j both_added ≡ false
  few_high less none_yet =
      finds_high none_yet
      ∙ ap (λ (t : Bool). t && not (seen_high == 0)) (lt-leb setting.plan.high n less)

  few_low : n < setting.plan.low → finds false j found ≡ false → finds false j both_added ≡ false
  few_low less none_yet =
      finds_low none_yet
      ∙ ap (λ (t : Bool). t && not (seen_low == 0)) (lt-leb setting.plan.low n less)

few_both : (setting : Setting) (feeder : ℕ) (before : Log) (j : ℕ) (found : Pass) (seen_high seen_low : ℕ)
    → (is_high : Bool) → finds is_high j found ≡ false
    → push_count (lane j feeder) before < mark_of_plan setting is_high
    → finds is_high j (both_added setting feeder before j found seen_high seen_low) ≡ false
few_both setting feeder before j found a b true none_yet less =
    few_high setting feeder before j found a b less none_yet
few_both setting feeder before j found a b false none_yet less =
    few_low setting feeder before j found a b less none_yet

-- what a lane adds

pub lane_read : (setting : Setting) (feeder : ℕ) (ages : List PushMoments) (now j : ℕ) (old new : List Mark)
    (before log one two : Log) (high low aged : Bool)
    → j < setting.layout.functions → 0 < setting.layout.ring → j < length new
    → HasReadLanes setting feeder ages now j old new before log
    → LookAdds (lane j feeder) setting.layout.ring setting.plan.high (push_count (lane j feeder) log) log one high
    → LookAdds (lane j feeder) setting.layout.ring setting.plan.low (push_count (lane j feeder) one) one two low
    → (high ≡ true → aged ≡ is_aged setting ages now j)
    → HasReadLanes setting feeder ages now (j + 1) old
    (slice_set new j (next_mark (mark_at new j) (record { high = high; low = low; aged = aged }))) before two
lane_read setting feeder ages now j old new before log one two high low aged below above there read high_look
    low_look timed =
    let ring : RingId = lane j feeder in
    let size : ℕ = setting.layout.ring in
    let found : Pass = read.found in
    let n : ℕ = push_count ring before in
    let seen_high : ℕ = high_look.seen in
    let seen_low : ℕ = low_look.seen in
    let same : push_count ring log ≡ n = ap (push_count ring) read.grew ∙ looks_push feeder found ring before in
    let h_at : Finding = at_high setting feeder before j found seen_high seen_low in
    let l_at : Finding = at_low setting feeder before j found seen_high seen_low in
    let hb : Bool = nat_le setting.plan.high n in
    let lb : Bool = nat_le setting.plan.low n in
    let one_is : one ≡ acts_of feeder (add hb h_at found) ++ before =
    high_look.grew
    ∙ ap (λ (m : ℕ). if nat_le setting.plan.high m then Look (Cell ring
    ((m - setting.plan.high) % size)) seen_high None ∷ log else log) same
    ∙ ap (λ (l : Log). if hb then act_of feeder h_at ∷ l else l) read.grew
    ∙ looks_add hb feeder h_at found before in
    let same_one : push_count ring one ≡ n =
    ap (push_count ring) one_is ∙ looks_push feeder (add hb h_at found) ring before in
    let two_is : two ≡ acts_of feeder (add lb l_at (add hb h_at found)) ++ before =
    low_look.grew
    ∙ ap (λ (m : ℕ). if nat_le setting.plan.low m then Look (Cell ring
    ((m - setting.plan.low) % size)) seen_low None ∷ one else one) same_one
    ∙ ap (λ (l : Log). if lb then act_of feeder l_at ∷ l else l) one_is
    ∙ looks_add lb feeder l_at (add hb h_at found) before in
    let more : ℕ = setting.layout.functions - (j + 1) in
    let rest : List MarkLook = looks_from setting feeder before (j + 1) more in
    let left : suc more ≡ setting.layout.functions - j = omega (arith, below) in
    let high_is : high ≡ (hb && not (seen_high == 0)) =
    high_look.found_is ∙ ap (λ (m : ℕ). nat_le setting.plan.high m && not (seen_high == 0)) same in
    let low_is : low ≡ (lb && not (seen_low == 0)) =
    low_look.found_is ∙ ap (λ (m : ℕ). nat_le setting.plan.low m && not (seen_low == 0)) same_one in
    let none_high : finds true j found ≡ false = read.later true j (omega arith) in
    let none_low : finds false j found ≡ false = read.later false j (omega arith) in
    let added : Pass = both_added setting feeder before j found seen_high seen_low in
    let finds_h : finds true j added ≡ high = finds_high setting feeder before j found seen_high seen_low none_high
    ∙ sym high_is in
    let finds_l : finds false j added ≡ low = finds_low setting feeder before j found seen_high seen_low none_low
    ∙ sym low_is in
    let apart : (is_high : Bool) (f : ℕ) → j ≢ f → finds is_high f added ≡ finds is_high f found =
    finds_other setting feeder before j found seen_high seen_low in
    let value : Mark = next_mark (mark_at new j) (record { high = high; low = low; aged = aged }) in
    let put_other : (f : ℕ) → f ≢ j → mark_at (slice_set new j value) f ≡ mark_at new f =
    λ f ne. get_or-set_other new j f value Calm ne in record {
      found = added;
      grew = two_is;
      asks =
          looks_add_then lb l_at (add hb h_at found) rest
          ∙ looks_add_then hb h_at found ((if lb then l_at.look ∷ [] else []) ++ rest)
          ∙ ap (looks_then found)
          (sym (append_assoc (if hb then h_at.look ∷ [] else []) (if lb then l_at.look ∷ [] else []) rest))
          ∙ ap (λ (m : ℕ). looks_then found (looks_from setting feeder before j m)) left
          ∙ read.asks;
      are_marks =
          steps_add setting feeder lb l_at (add hb h_at found)
          (ALook (record { 0 = j }) ((n - setting.plan.low) % size) seen_low below
          (mod-lt (n - setting.plan.low) above))
          (steps_add setting feeder hb h_at found
          (ALook (record { 0 = j }) ((n - setting.plan.high) % size) seen_high below
          (mod-lt (n - setting.plan.high) above))
          read.are_marks);
      few = λ is_high f less. elim (cases_order j f) [
        | inl e ↦
            subst (λ (g : ℕ). finds is_high g added ≡ false) e
            (few_both setting feeder before j found seen_high seen_low is_high (read.later is_high j (omega arith))
            (subst (λ (g : ℕ). push_count (lane g feeder) before < mark_of_plan setting is_high) (sym e) less))
        | inr (inl lower) ↦ apart is_high f (λ e. omega (arith, e, lower)) ∙ read.few is_high f less
        | inr (inr upper) ↦ apart is_high f (λ e. omega (arith, e, upper)) ∙ read.few is_high f less
      ];
      later = λ is_high f past. apart is_high f (λ e. omega (arith, e, past))
          ∙ read.later is_high f (omega (arith, past));
      judged = λ f under. elim (cases_order j f) [
        | inl e ↦
            subst (λ (g : ℕ). mark_at (slice_set new j value) g ≡ next_mark (mark_at old g) (record {
              high = finds true g added;
              low = finds false g added;
              aged = is_aged setting ages now g;
            })) e
            (get_or-set_same new j value Calm there
            ∙ ap (λ (m : Mark). next_mark m (record { high = high; low = low; aged = aged })) (read.others j
            (omega arith))
            ∙ same_mark (mark_at old j) high low aged (is_aged setting ages now j) timed
            ∙ (λ i. next_mark (mark_at old j) (record {
              high = sym finds_h i;
              low = sym finds_l i;
              aged = is_aged setting ages now j;
            })))
        | inr (inl lower) ↦ absurd (omega (arith, lower, under))
        | inr (inr upper) ↦
            let ne : j ≢ f = λ e. omega (arith, e, upper) in
            put_other f (λ e. omega (arith, e, upper))
            ∙ read.judged f upper
            ∙ (λ i. next_mark (mark_at old f) (record {
              high = sym (apart true f ne) i;
              low = sym (apart false f ne) i;
              aged = is_aged setting ages now f;
            }))
      ];
      others = λ f past. put_other f (λ e. omega (arith, e, past)) ∙ read.others f (omega (arith, past));
      as_long = length-set new j value ∙ read.as_long;
    }

pub enough_kept : (before after : TokenView) (f high : ℕ) (kept : PushMoments) → OnlyLooked before after
    → KeepsEnough before f high kept → KeepsEnough after f high kept
enough_kept before after f high kept same enough =
    let pushes : push_count (lane f after.role) after.log ≡ push_count (lane f before.role) before.log =
    ap (λ (role : ℕ). push_count (lane f role) after.log) same.role ∙ same.pushes (lane f before.role) in record {
      high_is = enough.high_is;
      counted = enough.counted ∙ ap (λ (n : ℕ). min n high) (sym pushes);
      many = λ le. enough.many (subst (λ (n : ℕ). high ≤ n) pushes le);
    }

-- none before the first lane

pub none_read_yet : (setting : Setting) (feeder : ℕ) (ages : List PushMoments) (now : ℕ) (marks : List Mark)
    (before : Log)
    → HasReadLanes setting feeder ages now 0 marks marks before before
none_read_yet setting feeder ages now marks before = record {
  found = [];
  grew = refl;
  asks = ap (λ (m : ℕ). looks_from setting feeder before 0 m) (let n : ℕ = setting.layout.functions
      in let e : n - 0 ≡ n = omega arith in e);
  are_marks = tt;
  few = λ is_high f less. refl;
  later = λ is_high f past. refl;
  judged = λ f under. absurd (omega (arith, under));
  others = λ f past. refl;
  as_long = refl;
}

-- a look at a lane, by the setting's names
pub look_like : (ring : RingId) (size own_size k own_k : ℕ) (log after : Log) (found : Bool) → size ≡ own_size
    → k ≡ own_k
    → LookAdds ring size k (push_count ring log) log after found
    → LookAdds ring own_size own_k (push_count ring log) log after found
look_like ring size own_size k own_k log after found s e is =
    subst (λ (x : ℕ). LookAdds ring own_size x (push_count ring log) log after found) e
    (subst (λ (x : ℕ). LookAdds ring x k (push_count ring log) log after found) s is)

-- Whether another set of functions is throttled, after one mark more

pub record Changed (old marks : List Mark) (count : ℕ) (changed : Bool) : Type 0 where
  pub others : OnTrue changed (ThrottleOthers old marks)
  pub alike : OnFalse changed (ThrottleTheSame old marks)
  pub unread : (f : ℕ) → count ≤ f → mark_at marks f ≡ mark_at old f

pub none_changed : (marks : List Mark) → Changed marks marks 0 false
none_changed marks = record { others = tt; alike = λ f. refl; unread = λ f past. refl }

module _ (old marks : List Mark) (j : ℕ) (mark : Mark) (there : j < length marks) where
  put_here : mark_at (slice_set marks j mark) j ≡ mark
  put_here = get_or-set_same marks j mark Calm there

  put_else : (f : ℕ) → f ≢ j → mark_at (slice_set marks j mark) f ≡ mark_at marks f
  put_else f ne = get_or-set_other marks j f mark Calm ne

  unread_on : (was : Bool) → Changed old marks j was
      → (f : ℕ) → j + 1 ≤ f → mark_at (slice_set marks j mark) f ≡ mark_at old f
  unread_on was is f past = put_else f (λ e. omega (arith, e, past)) ∙ is.unread f (omega (arith, past))

  before_here : (was : Bool) → Changed old marks j was → mark_at marks j ≡ mark_at old j
  before_here was is = is.unread j (omega arith)

  -- it differs here
  here_differs : (was : Bool) → Changed old marks j was → is_throttle mark ≢ is_throttle (mark_at marks j)
      → ThrottleOthers old (slice_set marks j mark)
  here_differs was is differ =
      (j, λ e. differ (sym (ap is_throttle put_here) ∙ e ∙ sym (ap is_throttle (before_here was is))))

  -- it differed at an earlier lane
  still_differs : Changed old marks j true → ThrottleOthers old (slice_set marks j mark)
  still_differs is =
      let at : ℕ = is.others.0 in
      let ne : at ≢ j = λ e. is.others.1 (ap (λ (f : ℕ). is_throttle (mark_at marks f)) e
      ∙ ap is_throttle (before_here true is)
      ∙ ap (λ (f : ℕ). is_throttle (mark_at old f)) (sym e)) in
      (at, λ e. is.others.1 (sym (ap is_throttle (put_else at ne)) ∙ e))

  all_alike : Changed old marks j false → is_throttle mark ≡ is_throttle (mark_at marks j)
      → ThrottleTheSame old (slice_set marks j mark)
  all_alike is same f = elim (cases_order f j) [
    | inl e ↦
        subst (λ (g : ℕ). is_throttle (mark_at (slice_set marks j mark) g) ≡ is_throttle (mark_at old g)) (sym e)
        (ap is_throttle put_here ∙ same ∙ ap is_throttle (before_here false is))
    | inr (inl lower) ↦ ap is_throttle (put_else f (λ e. omega (arith, e, lower))) ∙ is.alike f
    | inr (inr upper) ↦ ap is_throttle (put_else f (λ e. omega (arith, e, upper))) ∙ is.alike f
  ]

  pub changed_on : (was now : Bool) → Changed old marks j was
      → OnTrue now ((was ≡ true) ⊎ (is_throttle mark ≢ is_throttle (mark_at marks j)))
      → OnFalse now ((was ≡ false) × (is_throttle mark ≡ is_throttle (mark_at marks j)))
      → Changed old (slice_set marks j mark) (j + 1) now
  changed_on was true is other alike = record {
    others =
        elim other [
          | inl e ↦ still_differs (subst (Changed old marks j) e is)
          | inr differ ↦ here_differs was is differ
        ];
    alike = tt;
    unread = unread_on was is;
  }
  changed_on was false is other alike = record {
    others = tt;
    alike = all_alike (subst (Changed old marks j) alike.0 is) alike.1;
    unread = unread_on was is;
  }
