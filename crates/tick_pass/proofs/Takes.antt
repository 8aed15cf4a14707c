-- Samples that are taken, one after the other.
use Rattle.std.proofs.Common.{◌≡◌, ℕ, ◌+◌, ◌<◌, ◌≤◌, inl, inr, Bool, true, false, List, [], ◌∷◌, ◌++◌, length, refl, sym, ◌∙◌, ap, subst, arith, append_assoc, append-nil, length-append, nat_lt}
use Rattle.std.specs.Prelude.{◌==◌, ◌≢◌}
use Rattle.std.proofs.lemmas.Bool.{eq-eqb, lt-ltb, ne_eqb}
use Rattle.std.proofs.lemmas.Bool.Decides.{eqb_tells}
use Rattle.onvm_base.specs.declared.ids.FnId.{FnId}
use Rattle.onvm_base.specs.declared.ids.RingId.{RingId}
use Rattle.onvm_base.specs.declared.ids.RingId.TheVariants.{Mail}
use Rattle.onvm_core.specs.declared.step.Act.{Act}
use Rattle.onvm_core.specs.declared.step.Act.TheVariants.{Pop, Empty}
use Rattle.onvm_core.specs.declared.step.Item.{Item}
use Rattle.onvm_core.specs.declared.step.Item.TheVariants.{Number}
use Rattle.onvm_core.specs.Blocks.{MayTick}
use Rattle.onvm_core.specs.History.{pops}
use Rattle.onvm_core.specs.Logs.{Log, Setting}
use Rattle.onvm_core.specs.Places.{how_many, one_if}
use Rattle.onvm_core.specs.Potential.{popped_in}
use Rattle.onvm_core.proofs.Once.{how_many-append}
use Rattle.onvm_board.specs.Tokens.{BoardView, MakesStep, TokenView, grown}
use Rattle.onvm_board.proofs.Stretches.{grown_twice}
use Rattle.load_estimate.specs.declared.sample.Sample.{Sample}
use Rattle.onvm_promises.specs.Follows.{TicksOn}
use Rattle.onvm_promises.specs.Kept.{kept_now, samples_by}
use Rattle.onvm_promises.specs.Lines.{samples_of}
use Rattle.onvm_promises.specs.Passes.{dry_after, is_pop_of, ran_dry}
use Rattle.onvm_promises.specs.Ticks.{weights_in, weight_posts}
use Rattle.onvm_promises.proofs.Keeping.{kept_append}
use Rattle.onvm_promises.proofs.Moving.{dry_more}
use Rattle.tick_pass.specs.Taking.{AreTakes, HasTaken, HasTakenAll, IsTake, IsTaking}
use Rattle.tick_pass.specs.Taking.IsTake.{ASample, NoSample}
use Rattle.tick_pass.proofs.Ordering.{ordered_next}
use Rattle.tick_pass.proofs.Windowing.{samples_append}

-- Classes

take_weaker : (may can : FnId → Type 0) → ((g : FnId) → may g → can g) → (act : Act) → IsTake may act → IsTake can act
take_weaker may can weaker act (ASample g n is) = ASample g n (weaker g is)
take_weaker may can weaker act (NoSample g is) = NoSample g (weaker g is)

pub takes_weaker : (may can : FnId → Type 0) → ((g : FnId) → may g → can g) → (log : Log) → AreTakes may log
    → AreTakes can log
takes_weaker may can weaker [] are = tt
takes_weaker may can weaker (act ∷ log) are =
    (take_weaker may can weaker act are.0, takes_weaker may can weaker log are.1)

pub takes_append : (may : FnId → Type 0) (xs ys : Log) → AreTakes may xs → AreTakes may ys → AreTakes may (xs ++ ys)
takes_append may [] ys first second = second
takes_append may (act ∷ xs) ys first second = (first.0, takes_append may xs ys first.1 second)

-- What takes tell

-- of another function than those of the takes
pub record IsOff (f : FnId) (act : Act) : Type 0 where
  pub pop : is_pop_of (Mail f) act ≡ false
  pub dry : (was : Bool) → dry_after (Mail f) act was ≡ was
  pub popped : pops (Mail f) act ≡ []
  pub told : (now : ℕ) → samples_of f.0 (samples_by now act) ≡ []

off : (may : FnId → Type 0) (f : FnId) → ((g : FnId) → may g → g.0 ≢ f.0) → (act : Act) → IsTake may act → IsOff f act
off may f other act (ASample g n is) =
    let no : (g.0 == f.0) ≡ false = ne_eqb g.0 f.0 (other g is) in
    record { pop = no; dry = λ was. rw no refl; popped = rw no refl; told = λ now. rw no refl }
off may f other act (NoSample g is) =
    let no : (g.0 == f.0) ≡ false = ne_eqb g.0 f.0 (other g is) in
    record { pop = refl; dry = λ was. rw no refl; popped = refl; told = λ now. refl }

module _ (may : FnId → Type 0) (f : FnId) (other : (g : FnId) → may g → g.0 ≢ f.0) where
  pub no_pops : (log : Log) → AreTakes may log → how_many (is_pop_of (Mail f)) log ≡ 0
  no_pops [] are = refl
  no_pops (act ∷ log) are =
      let one : one_if (is_pop_of (Mail f) act) ≡ 0 = ap one_if (off may f other act are.0).pop in
      omega (arith, one, no_pops log are.1)

  pub dry_past : (xs ys : Log) → AreTakes may xs → ran_dry (Mail f) (xs ++ ys) ≡ ran_dry (Mail f) ys
  dry_past [] ys are = refl
  dry_past (act ∷ xs) ys are =
      (off may f other act are.0).dry (ran_dry (Mail f) (xs ++ ys)) ∙ dry_past xs ys are.1

  pub none_popped : (log : Log) → AreTakes may log → popped_in (Mail f) log ≡ []
  none_popped [] are = refl
  none_popped (act ∷ log) are =
      ap (λ (items : List Item). items ++ pops (Mail f) act) (none_popped log are.1)
      ∙ (off may f other act are.0).popped

  pub none_told : (now : ℕ) (log : Log) → AreTakes may log → samples_of f.0 (kept_now samples_by now log) ≡ []
  none_told now [] are = refl
  none_told now (act ∷ log) are =
      samples_append f.0 (kept_now samples_by now log) (samples_by now act)
      ∙ ap (λ ss. ss ++ samples_of f.0 (samples_by now act)) (none_told now log are.1)
      ∙ (off may f other act are.0).told now

-- each pop is a sample
one_told : (f : FnId) (now : ℕ) (act : Act) → IsTake (λ g. g ≡ f) act
    → length (samples_by now act) ≡ one_if (is_pop_of (Mail f) act)
one_told f now act (ASample g n is) = sym (ap one_if (eq-eqb g.0 f.0 (ap (λ (h : FnId). h.0) is)))
one_told f now act (NoSample g is) = refl

pub count_told : (f : FnId) (now : ℕ) (log : Log) → AreTakes (λ g. g ≡ f) log
    → length (kept_now samples_by now log) ≡ how_many (is_pop_of (Mail f)) log
count_told f now [] are = refl
count_told f now (act ∷ log) are =
    let both : length (kept_now samples_by now log ++ samples_by now act)
    ≡ length (kept_now samples_by now log) + length (samples_by now act) =
    length-append (kept_now samples_by now log) (samples_by now act) in
    omega (arith, both, count_told f now log are.1, one_told f now act are.0)

may_tick : (setting : Setting) (may : FnId → Type 0) → ((g : FnId) → may g → g.0 < setting.layout.functions)
    → (act : Act) → IsTake may act → MayTick setting act
may_tick setting may known act (ASample g n is) = known g is
may_tick setting may known act (NoSample g is) = known g is

pub takes_tick : (setting : Setting) (may : FnId → Type 0) → ((g : FnId) → may g → g.0 < setting.layout.functions)
    → (log : Log) → AreTakes may log → TicksOn setting log
takes_tick setting may known [] are = tt
takes_tick setting may known (act ∷ log) are =
    (may_tick setting may known act are.0, takes_tick setting may known log are.1)

no_weight : (may : FnId → Type 0) (f : FnId) (act : Act) → IsTake may act → weight_posts f act ≡ []
no_weight may f act (ASample g n is) = refl
no_weight may f act (NoSample g is) = refl

pub no_weights : (may : FnId → Type 0) (f : FnId) (log : Log) → AreTakes may log → weights_in f log ≡ []
no_weights may f [] are = refl
no_weights may f (act ∷ log) are =
    ap (λ ws. ws ++ weight_posts f act) (no_weights may f log are.1) ∙ no_weight may f act are.0

-- Stretches

pub taking_then : (may : FnId → Type 0) (now : ℕ) (added more : Log) (a b c : TokenView) (s t u : List Sample)
    → IsTaking may now added a b s t → IsTaking may now more b c t u → IsTaking may now (more ++ added) a c s u
taking_then may now added more a b c s t u first second = record {
  grew =
      grown_twice added more a.hand a.hand a b c first.grew
      (second.grew ∙ ap (λ hand. grown more hand b) (ap (λ (token : TokenView). token.hand) first.grew));
  takes = takes_append may more added second.takes first.takes;
  told =
      second.told ∙ ap (λ ss. ss ++ kept_now samples_by now more) first.told
      ∙ append_assoc s (kept_now samples_by now added) (kept_now samples_by now more)
      ∙ ap (λ ss. s ++ ss) (sym (kept_append samples_by now added more));
}

pub taking_weaker : (may can : FnId → Type 0) → ((g : FnId) → may g → can g) → (now : ℕ) (added : Log)
    (a b : TokenView) (s t : List Sample) → IsTaking may now added a b s t → IsTaking can now added a b s t
taking_weaker may can weaker now added a b s t is = record {
  grew = is.grew;
  takes = takes_weaker may can weaker added is.takes;
  told = is.told;
}

-- One function's ring

pub took_one : (site : BoardView) (ring : RingId) (f : FnId) (now n : ℕ) (a b : TokenView) (samples : List Sample)
    (sample : Sample) → ring ≡ Mail f → MakesStep site (Pop ring (Number n)) a b
    → sample ∷ [] ≡ samples_by now (Pop (Mail f) (Number n))
    → HasTaken f now 1 false a b samples (samples ++ sample ∷ [])
took_one site ring f now n a b samples sample ring_is made tells = record {
  added = Pop (Mail f) (Number n) ∷ [];
  taking = record {
    grew = made.grew ∙ ap (λ r. grown (Pop r (Number n) ∷ []) a.hand a) ring_is;
    takes = (ASample f n refl, tt);
    told = ap (λ ss. samples ++ ss) tells;
  };
  count =
      let own : one_if (f.0 == f.0) ≡ 1 = ap one_if (eq-eqb f.0 f.0 refl) in
      omega (arith, own);
  dries = λ e. cc;
}

pub found_none : (site : BoardView) (ring : RingId) (f : FnId) (now : ℕ) (a b : TokenView) (samples : List Sample)
    → ring ≡ Mail f → MakesStep site (Empty ring) a b → HasTaken f now 0 true a b samples samples
found_none site ring f now a b samples ring_is made = record {
  added = Empty (Mail f) ∷ [];
  taking = record {
    grew = made.grew ∙ ap (λ r. grown (Empty r ∷ []) a.hand a) ring_is;
    takes = (NoSample f refl, tt);
    told = sym (append-nil samples);
  };
  count = refl;
  dries = λ e. rw (eq-eqb f.0 f.0 refl) refl;
}

pub took_nothing : (f : FnId) (now : ℕ) (a : TokenView) (samples : List Sample)
    → HasTaken f now 0 false a a samples samples
took_nothing f now a samples = record {
  added = [];
  taking = record { grew = refl; takes = tt; told = sym (append-nil samples) };
  count = refl;
  dries = λ e. cc;
}

pub taken_then : (f : FnId) (now n k : ℕ) (dry : Bool) (a b c : TokenView) (s t u : List Sample)
    → HasTaken f now n false a b s t → HasTaken f now k dry b c t u → HasTaken f now (n + k) dry a c s u
taken_then f now n k dry a b c s t u first second = record {
  added = second.added ++ first.added;
  taking = taking_then (λ g. g ≡ f) now first.added second.added a b c s t u first.taking second.taking;
  count =
      let both = how_many-append (is_pop_of (Mail f)) second.added first.added in
      omega (arith, both, first.count, second.count);
  dries = λ e. dry_more (Mail f) second.added first.added (second.dries e);
}

-- by what it says
pub taken_as : (f : FnId) (now n m : ℕ) (dry now_dry : Bool) (a b : TokenView) (s t : List Sample) → n ≡ m
    → (now_dry ≡ true → dry ≡ true) → HasTaken f now n dry a b s t → HasTaken f now m now_dry a b s t
taken_as f now n m dry now_dry a b s t same drier is = record {
  added = is.added;
  taking = is.taking;
  count = is.count ∙ same;
  dries = λ e. is.dries (drier e);
}

-- All rings

pub took_none : (now : ℕ) (a : TokenView) (samples : List Sample) → HasTakenAll 0 now 0 a a samples samples
took_none now a samples = record {
  added = [];
  taking = record { grew = refl; takes = tt; told = sym (append-nil samples) };
  count = refl;
  ordered = tt;
  drained = λ f less. absurd (omega (arith, less));
}

pub taken_next : (upto now n k : ℕ) (a b c : TokenView) (s t u : List Sample) → k ≤ 64
    → HasTakenAll upto now n a b s t → HasTaken (record { 0 = upto }) now k (nat_lt k 64) b c t u
    → HasTakenAll (upto + 1) now (n + k) a c s u
taken_next upto now n k a b c s t u few are is =
    let own : FnId = record { 0 = upto } in
    record {
      added = is.added ++ are.added;
      taking =
          taking_then (λ g. g.0 < upto + 1) now are.added is.added a b c s t u
          (taking_weaker (λ g. g.0 < upto) (λ g. g.0 < upto + 1) (λ g less. omega (arith, less)) now are.added a b s t
          are.taking)
          (taking_weaker (λ g. g ≡ own) (λ g. g.0 < upto + 1)
          (λ g same. omega (arith, ap (λ (h : FnId). h.0) same)) now is.added b c t u is.taking);
      count =
          let both = ap length (kept_append samples_by now are.added is.added) in
          let parts = length-append (kept_now samples_by now are.added) (kept_now samples_by now is.added) in
          omega (arith, both, parts, are.count, is.count, count_told own now is.added is.taking.takes);
      ordered = ordered_next own now are.added is.added are.taking.takes is.taking.takes are.ordered;
      drained = λ f less. elim (eqb_tells f.0 upto) [
        | inl met ↦
            let none : how_many (is_pop_of (Mail f)) are.added ≡ 0 =
            no_pops (λ g. g.0 < upto) f (λ g below same. omega (arith, below, same, met.1)) are.added are.taking.takes in
            let both = how_many-append (is_pop_of (Mail f)) is.added are.added in
            let here : how_many (is_pop_of (Mail f)) is.added ≡ k =
            subst (λ (h : FnId). how_many (is_pop_of (Mail h)) is.added ≡ k) (λ i. record { 0 = sym met.1 i }) is.count in
            record {
              bounded = omega (arith, both, none, here, few);
              fewer = λ rest.
                  dry_more (Mail f) is.added are.added
                  (subst (λ (h : FnId). ran_dry (Mail h) is.added ≡ true) (λ i. record { 0 = sym met.1 i })
                  (is.dries (lt-ltb k 64 (omega (arith, rest, both, none, here)))));
            }
        | inr unmet ↦
            let below : f.0 < upto = omega (arith, less, unmet.1) in
            let drained = are.drained f below in
            let none : how_many (is_pop_of (Mail f)) is.added ≡ 0 =
            no_pops (λ g. g ≡ own) f (λ g same e. unmet.1 (sym e ∙ ap (λ (h : FnId). h.0) same)) is.added
            is.taking.takes in
            let both = how_many-append (is_pop_of (Mail f)) is.added are.added in
            record {
              bounded = omega (arith, both, none, drained.bounded);
              fewer = λ rest.
                  dry_past (λ g. g ≡ own) f (λ g same e. unmet.1 (sym e ∙ ap (λ (h : FnId). h.0) same)) is.added are.added
                  is.taking.takes
                  ∙ drained.fewer (omega (arith, both, none, rest));
            }
      ];
    }
