-- The ticks of a serial session, from round to round: their moments, and the samples that they count.
use Rattle.std.proofs.Common.{◌≡◌, ℕ, zero, suc, ◌+◌, ◌-◌, ◌*◌, ◌^◌, ◌<◌, ◌≤◌, true, false, inl, inr, List, [], ◌∷◌, ◌++◌, length, refl, sym, ◌∙◌, ap, subst, arith, Some, None}
use Rattle.std.specs.Prelude.{◌&&◌, nat_lt, nat_le, slice_get}
use Rattle.std.proofs.lemmas.Bool.{cases_Bool, le-leb, lt-leb}
use Rattle.std.proofs.lemmas.List.{append-nil}
use Rattle.load_estimate.specs.declared.sample.Sample.{Sample}
use Rattle.load_estimate.specs.declared.tick.Tick.{Tick}
use Rattle.onvm_base.specs.declared.plan.Plan.{Plan}
use Rattle.onvm_core.proofs.Lists.{if_met, if_unmet}
use Rattle.onvm_core.proofs.Once.{how_many-append}
use Rattle.onvm_core.specs.Places.{one_if}
use Rattle.onvm_promises.proofs.Ticking.{AllAt}
use Rattle.onvm_promises.specs.Ticks.{AllUpTo, is_due, last_moment, last_number, new_ticks, tick_at}
use Rattle.onvm_session.specs.Moments.{moment_of_round}
use Rattle.onvm_session.specs.SerialTicks.{AreSerialTicksSoFar, AreSerialTicks, AreTakenBy, due_moments, last_of_moments, logged_by, moments_of}

-- A tick stands where one is due

last_same : (first : ℕ) (ticks : List Tick) → last_moment first ticks ≡ last_of_moments first (moments_of ticks)
last_same first [] = refl
last_same first (t ∷ ts) = last_same t.moment ts

count_same : (ticks : List Tick) → length ticks ≡ length (moments_of ticks)
count_same [] = refl
count_same (t ∷ ts) = omega (arith, count_same ts)

moments_append : (ticks more : List Tick) → moments_of (ticks ++ more) ≡ moments_of ticks ++ moments_of more
moments_append [] more = refl
moments_append (u ∷ us) more = ap (λ (ms : List ℕ). u.moment ∷ ms) (moments_append us more)

pub serial_moments : (plan : Plan) (round : ℕ) (samples : List Sample) (ticks : List Tick)
    → moments_of ticks ≡ due_moments plan.tick round
    → moments_of (ticks ++ new_ticks plan 0 (moment_of_round round) false samples ticks)
    ≡ due_moments plan.tick (suc round)
serial_moments plan round samples ticks are =
    let now : ℕ = moment_of_round round in
    let made : List ℕ = due_moments plan.tick round in
    let due_is : is_due plan 0 now ticks
    ≡ (nat_le plan.tick (now - last_of_moments 0 made) && nat_lt (length made + 1) last_number)
    = ap (λ (m : ℕ). nat_le plan.tick (now - m) && nat_lt (length ticks + 1) last_number)
    (last_same 0 ticks ∙ ap (last_of_moments 0) are)
    ∙ ap (λ (n : ℕ). nat_le plan.tick (now - last_of_moments 0 made) && nat_lt (n + 1) last_number)
    (count_same ticks ∙ ap length are) in
    moments_append ticks (new_ticks plan 0 now false samples ticks)
    ∙ ap (λ (ms : List ℕ). ms ++ moments_of (new_ticks plan 0 now false samples ticks)) are
    ∙ elim (cases_Bool (is_due plan 0 now ticks)) [
      | inl due ↦
          ap (λ (ts : List Tick). made ++ moments_of ts)
          (if_met (is_due plan 0 now ticks) (tick_at plan ticks samples now ∷ []) [] due)
          ∙ sym (if_met (nat_le plan.tick (now - last_of_moments 0 made) && nat_lt (length made + 1) last_number)
          (made ++ now ∷ []) made (sym due_is ∙ due))
      | inr not_due ↦
          ap (λ (ts : List Tick). made ++ moments_of ts)
          (if_unmet (is_due plan 0 now ticks) (tick_at plan ticks samples now ∷ []) [] not_due)
          ∙ append-nil made
          ∙ sym (if_unmet (nat_le plan.tick (now - last_of_moments 0 made) && nat_lt (length made + 1) last_number)
          (made ++ now ∷ []) made (sym due_is ∙ not_due))
    ]

-- The samples that they count

logged_none : (more : List Sample) (now moment : ℕ) → AllAt now more → moment < now → logged_by more moment ≡ 0
logged_none [] now moment all less = refl
logged_none (s ∷ ss) now moment all less =
    let off : one_if (nat_le s.moment moment) ≡ 0 = ap one_if (lt-leb s.moment moment (omega (arith, all.0, less))) in
    omega (arith, off, logged_none ss now moment all.1 less)

logged_all : (samples : List Sample) (now : ℕ) → AllUpTo now samples → logged_by samples now ≡ length samples
logged_all [] now up = refl
logged_all (s ∷ ss) now up =
    let on : one_if (nat_le s.moment now) ≡ 1 = ap one_if (le-leb s.moment now up.0) in
    omega (arith, on, logged_all ss now up.1)

logged_more : (samples more : List Sample) (moment : ℕ)
    → logged_by (samples ++ more) moment ≡ logged_by samples moment + logged_by more moment
logged_more samples more moment = how_many-append (λ s. nat_le s.moment moment) samples more

pub up_to_later : (samples : List Sample) (was now : ℕ) → was ≤ now → AllUpTo was samples → AllUpTo now samples
up_to_later [] was now le up = tt
up_to_later (s ∷ ss) was now le up = (omega (arith, le, up.0), up_to_later ss was now le up.1)

pub at_up_to : (more : List Sample) (now : ℕ) → AllAt now more → AllUpTo now more
at_up_to [] now all = tt
at_up_to (s ∷ ss) now all = (omega (arith, all.0), at_up_to ss now all.1)

pub up_to_append : (samples more : List Sample) (now : ℕ) → AllUpTo now samples → AllUpTo now more
    → AllUpTo now (samples ++ more)
up_to_append [] more now up rest = rest
up_to_append (s ∷ ss) more now up rest = (up.0, up_to_append ss more now up.1 rest)

-- later samples are none of an earlier tick's
taken_more : (samples more : List Sample) (was now : ℕ) (ticks : List Tick)
    → AreTakenBy samples was ticks → AllAt now more → was < now
    → AreTakenBy (samples ++ more) now ticks
taken_more samples more was now [] are all less = tt
taken_more samples more was now (t ∷ ts) are all less = (
  are.0
      ∙ omega (
        arith,
        logged_more samples more t.moment,
        logged_none more now t.moment all (omega (arith, are.1, less)),
      ),
  omega (arith, are.1, less),
  taken_more samples more was now ts are.2 all less,
)

taken_push : (samples : List Sample) (now : ℕ) (ticks : List Tick) (t : Tick)
    → AreTakenBy samples now ticks → t.taken ≡ logged_by samples t.moment → t.moment ≤ now
    → AreTakenBy samples now (ticks ++ t ∷ [])
taken_push samples now [] t are taken within = (taken, within, tt)
taken_push samples now (u ∷ us) t are taken within =
    (are.0, are.1, taken_push samples now us t are.2 taken within)

-- behind a pass, over no tick or a later one
taken_new : (plan : Plan) (first now : ℕ) (samples : List Sample) (ticks : List Tick)
    → AreTakenBy samples now ticks → AllUpTo now samples
    → AreTakenBy samples now (ticks ++ new_ticks plan first now false samples ticks)
taken_new plan first now samples ticks are up =
    elim (cases_Bool (is_due plan first now ticks)) [
      | inl due ↦
          subst (λ (ts : List Tick). AreTakenBy samples now (ticks ++ ts))
          (sym (if_met (is_due plan first now ticks) (tick_at plan ticks samples now ∷ []) [] due))
          (taken_push samples now ticks (tick_at plan ticks samples now) are (sym (logged_all samples now up))
          (omega arith))
      | inr not_due ↦
          subst (λ (ts : List Tick). AreTakenBy samples now ts)
          (sym (ap (λ (ts : List Tick). ticks ++ ts)
          (if_unmet (is_due plan first now ticks) (tick_at plan ticks samples now ∷ []) [] not_due)
          ∙ append-nil ticks))
          are
    ]

-- the closing one, at the last round's moment, which takes none
pub taken_closed : (plan : Plan) (first now : ℕ) (samples : List Sample) (ticks : List Tick)
    → AreTakenBy samples now ticks → AllUpTo now samples
    → AreTakenBy samples now (ticks ++ new_ticks plan first now true samples ticks)
taken_closed plan first now samples ticks are up =
    taken_push samples now ticks (tick_at plan ticks samples now) are (sym (logged_all samples now up)) (omega arith)

pub taken_at : (samples : List Sample) (bound : ℕ) (ticks : List Tick) → AreTakenBy samples bound ticks
    → (at : ℕ) (t : Tick) → slice_get ticks at ≡ Some t
    → t.taken ≡ logged_by samples t.moment
taken_at samples bound [] are at t found = absurd (let off : None ≡ Some t = found in cc)
taken_at samples bound (u ∷ us) are zero t found =
    let same : u ≡ t = cc in subst (λ (v : Tick). v.taken ≡ logged_by samples v.moment) same are.0
taken_at samples bound (u ∷ us) are (suc at) t found = taken_at samples bound us are.2 at t found

no_moments : (ticks : List Tick) → moments_of ticks ≡ [] → ticks ≡ []
no_moments [] e = refl
no_moments (u ∷ us) e = absurd (let off : ◌≡◌ {A = List ℕ} (u.moment ∷ moments_of us) [] = e in cc)

-- a round's pass of the tick role
pub serial_ticks_next : (plan : Plan) (round : ℕ) (samples more : List Sample) (ticks : List Tick)
    → AreSerialTicksSoFar plan round samples ticks → AllUpTo (moment_of_round (round - 1)) samples
    → AllAt (moment_of_round round) more
    → AreSerialTicksSoFar plan (suc round) (samples ++ more)
    (ticks ++ new_ticks plan 0 (moment_of_round round) false (samples ++ more) ticks)
serial_ticks_next plan round samples more ticks so_far up all =
    record {
      moments = serial_moments plan round (samples ++ more) ticks so_far.moments;
      none_before = λ e. absurd (omega (arith, e));
      taken = λ few. by_round round refl few;
    }
  where
    later : AllUpTo (moment_of_round round) (samples ++ more)
    later =
        up_to_append samples more (moment_of_round round)
        (up_to_later samples (moment_of_round (round - 1)) (moment_of_round round) (omega arith) up)
        (at_up_to more (moment_of_round round) all)

    earlier : (n : ℕ) → round ≡ n → 1000 * suc round < 2 ^ 64 → AreTakenBy (samples ++ more)
        (moment_of_round round) ticks
    earlier zero e few =
        let none : ticks ≡ [] = no_moments ticks (so_far.moments ∙ ap (due_moments plan.tick) e) in
        subst (AreTakenBy (samples ++ more) (moment_of_round round)) (sym none) tt
    earlier (suc n) e few =
        taken_more samples more (moment_of_round (round - 1)) (moment_of_round round) ticks
        (so_far.taken (omega (arith, few))) all (omega (arith, few, e))

    by_round : (n : ℕ) → round ≡ n → 1000 * suc round < 2 ^ 64
        → AreTakenBy (samples ++ more) (moment_of_round (suc round - 1))
        (ticks ++ new_ticks plan 0 (moment_of_round round) false (samples ++ more) ticks)
    by_round n e few =
        subst (λ (m : ℕ). AreTakenBy (samples ++ more) (moment_of_round m)
        (ticks ++ new_ticks plan 0 (moment_of_round round) false (samples ++ more) ticks)) (omega arith)
        (taken_new plan 0 (moment_of_round round) (samples ++ more) ticks (earlier n e few) later)

-- and the closing one, at the last round's moment, which takes no sample
pub serial_ticks_closed : (plan : Plan) (round : ℕ) (samples : List Sample) (ticks : List Tick)
    → AreSerialTicksSoFar plan round samples ticks → AllUpTo (moment_of_round (round - 1)) samples
    → AreSerialTicks plan round samples (ticks ++ new_ticks plan 0 (moment_of_round (round - 1)) true samples ticks)
serial_ticks_closed plan round samples ticks so_far up =
    record {
      moments =
          moments_append ticks (tick_at plan ticks samples (moment_of_round (round - 1)) ∷ [])
          ∙ ap (λ (ms : List ℕ). ms ++ moment_of_round (round - 1) ∷ []) so_far.moments;
      taken = λ few.
          taken_at samples (moment_of_round (round - 1))
          (ticks ++ new_ticks plan 0 (moment_of_round (round - 1)) true samples ticks)
          (taken_closed plan 0 (moment_of_round (round - 1)) samples ticks (so_far.taken few) up);
    }
