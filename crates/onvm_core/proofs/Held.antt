-- A mark is raised, holds a frame, and is cleared, in the steps of HeldSteps. They follow the pattern and the rules of
-- marks passes.
use Rattle.std.proofs.Common.{◌≡◌, ℕ, zero, suc, ◌/◌, ◌%◌, ◌^◌, true, false, inl, inr, List, [], ◌∷◌, refl, sym, ◌∙◌, subst, arith, Option, Some, None}
use Rattle.std.specs.Prelude.{◌==◌, IsBitSet, slice_get}
use Rattle.std.proofs.lemmas.Bool.{cases_Bool, ne_eqb}
use Rattle.std.proofs.lemmas.Nat.{pow_pos}
use Rattle.std.proofs.Math.Nat.{zero-div, div-eq_of_lt}
use Rattle.onvm_base.specs.declared.ids.RingId.TheVariants.{Lane, Output}
use Rattle.onvm_base.specs.declared.chain.ChainStep.TheVariants.{To as Service, Out as Port}
use Rattle.onvm_base.specs.declared.outcome.Record.{Record}
use Rattle.onvm_base.specs.declared.outcome.Verdict.TheVariants.{Next}
use Rattle.onvm_base.specs.Moves.{IsOfChain, step_at}
use Rattle.onvm_base.specs.Services.{instances}
use Rattle.onvm_core.specs.declared.layout.Word.TheVariants.{Cell, Post as PostWord, Weight}
use Rattle.onvm_core.specs.declared.step.Act.TheVariants.{Push, Pop, Look}
use Rattle.onvm_core.specs.declared.step.Item.TheVariants.{Buffer}
use Rattle.onvm_core.specs.History.{History}
use Rattle.onvm_core.specs.Logs.{Log, entry_parcel, log_of}
use Rattle.onvm_core.specs.Receiving.{IsThrottleRecord, Raises}
use Rattle.onvm_core.specs.Handling.SawRoom.{ByLook}
use Rattle.onvm_core.specs.Blocks.{AllOfBlocks, IsOfBlocks}
use Rattle.onvm_core.specs.Marks.{MarkEvents, MarkLook, MarkPhase, Pass, Ages, AreMarked, AllMarked, IsPaid, IsSettled, IsOwed, finds, has_bit, is_throttled, mark_phase}
use Rattle.onvm_core.specs.Marks.MarkEvent.{Passed, Posted}
use Rattle.onvm_core.specs.Pace.{IsPaced}
use Rattle.onvm_core.specs.Marks.MarkPhase.{AtRest, InPass}
use Rattle.onvm_core.specs.Earned.{IsEarnedThrottle, IsRaised, IsRaisedUpToNow}
use Rattle.onvm_core.specs.Earned.IsRaised.{ByPost, ByAnotherPost, ByPass}
use Rattle.onvm_core.proofs.Plans.{hasty}
use Rattle.onvm_core.proofs.Steps.{◌◂◌}
use Rattle.onvm_core.proofs.WalkLogs.{no_bit, at_role}
use Rattle.onvm_core.proofs.Crowd.{f, b0, e1, e2, e3, e4, setting, bit_7_0, bit_6_1, lowest_7, lowest_6}
use Rattle.onvm_core.proofs.HeldSteps.{handled, held, second_begun, raised, emptied, cleared, whole}
use Rattle.onvm_core.proofs.Marked.{no_bit as no_bits}

-- the held frame's chain has function f, the lowest there is
f_of_chain : IsOfChain setting.plan e3.chain 0
f_of_chain = record { at = 0; service = 1; named = refl; place = 0; found = refl }

pub raises_f : Raises setting e3 4294967297 0
raises_f = record { of_chain = f_of_chain; bit = λ h. let off : 1 ≡ 0 = h in absurd (omega (arith, off)) }

abbrev is_held : IsThrottleRecord setting e3 0 4294967297 held
is_held = record { function = 0; raised = raises_f; lowest = λ k less. absurd (omega (arith, less)); told_is = refl }

abbrev first_popped : Log
first_popped =
    Pop (Lane f 0) (Buffer b0 (entry_parcel e1))
    ∷ Look (Cell (Output f) 0) 0 None
    ∷ Look (Weight f) 0 None
    ∷ []

core_is : IsOfBlocks setting 2 (log_of 2 whole)
core_is =
    -- frame 2
    record {
      own = record { known = omega arith; core = refl };
      hand = record { function = f; buf = 1; parcel = entry_parcel e2 };
      held = refl;
      function = refl;
      same = refl;
      handled = record { verdict = Next; same = refl };
    }
    ◂ record {
      own = record { known = omega arith; core = refl };
      known = omega arith;
      free = refl;
      room = ByLook (Push (Output f) (Buffer b0 (handled e1 0)) ∷ first_popped);
      left = omega arith;
    }
    ◂ ((record { known = omega arith; core = refl }, omega arith), refl)
    -- frame 1
    ◂ record {
      own = record { known = omega arith; core = refl };
      hand = record { function = f; buf = 0; parcel = entry_parcel e1 };
      held = refl;
      function = refl;
      same = refl;
      handled = record { verdict = Next; same = refl };
    }
    ◂ record {
      own = record { known = omega arith; core = refl };
      known = omega arith;
      free = refl;
      room = ByLook (Look (Weight f) 0 None ∷ []);
      left = omega arith;
    }
    ◂ ((record { known = omega arith; core = refl }, omega arith), refl)
    ◂ (record { known = omega arith; core = refl }, refl)
    ◂ tt

receive_is : IsOfBlocks setting 0 (log_of 0 whole)
receive_is =
    -- frame 4 is asked for
    inr (e4, refl, (refl, λ k raised. no_bit k raised.bit))
    -- a marks pass, and its post
    ◂ inl (tt, refl)
    ◂ inl (tt, (omega arith, refl, omega arith, refl))
    ◂ inl (tt, (omega arith, refl, omega arith, refl))
    -- frame 3 is held
    ◂ inr (e3, refl, (refl, is_held))
    -- a marks pass, and its post
    ◂ inl (tt, refl)
    ◂ inl (tt, (omega arith, refl, omega arith, refl))
    ◂ inl (tt, (omega arith, refl, omega arith, refl))
    -- frame 2 enters
    ◂ inr (e2, refl, (refl, refl, record { function = f; cursor = 0; move = refl; lane = refl }))
    ◂ inr (e2, refl, record { known = omega arith; word = refl; shown = bit_6_1; lowest = lowest_6 })
    ◂ inr (e2, refl, (refl, λ none. absurd (omega (arith, none))))
    ◂ inr (e2, refl, (refl, λ k raised. no_bit k raised.bit))
    ◂ inr (e2, refl, (refl, λ k raised. no_bit k raised.bit))
    -- frame 1 enters
    ◂ inr (e1, refl, (refl, refl, record { function = f; cursor = 0; move = refl; lane = refl }))
    ◂ inr (e1, refl, record { known = omega arith; word = refl; shown = bit_7_0; lowest = lowest_7 })
    ◂ inr (e1, refl, (refl, λ none. absurd (omega (arith, none))))
    ◂ inr (e1, refl, (refl, λ k raised. no_bit k raised.bit))
    ◂ inr (e1, refl, (refl, λ k raised. no_bit k raised.bit))
    ◂ tt

lead_is : IsOfBlocks setting 4 (log_of 4 whole)
lead_is = tt ◂ tt ◂ tt

pub whole_follows : AllOfBlocks setting whole
whole_follows role =
    elim (cases_Bool (0 == role)) [
      | inl met ↦ at_role setting whole 0 role receive_is met
      | inr not_receive ↦ elim (cases_Bool (2 == role)) [
        | inl met ↦ at_role setting whole 2 role core_is met
        | inr not_core ↦ elim (cases_Bool (4 == role)) [
          | inl met ↦ at_role setting whole 4 role lead_is met
          | inr not_lead ↦ rw (not_receive, not_core, not_lead) tt
        ]
      ]
    ]

-- Marks passes, where every reading had the age

abbrev pub in_time : Ages
in_time pass function = true

-- no bit above the first
high_bits : (k : ℕ) → has_bit 4294967297 (suc k) ≡ false
high_bits k =
    let small : 1 / 2 ^ suc k ≡ 0 = div-eq_of_lt (omega (arith, pow_pos k)) in
    rw small refl

no_bits_left : (k : ℕ) → has_bit 8589934592 k ≡ false
no_bits_left k = let none : 0 / 2 ^ k ≡ 0 = zero-div (2 ^ k) in rw none refl

nothing_owed : IsPaid in_time []
nothing_owed = inl no_bits

abbrev found_both : Pass
found_both =
    record { look = record { function = 0; is_high = false; cell = 1 }; seen = 2 }
    ∷ record { look = record { function = 0; is_high = true; cell = 0 }; seen = 1 }
    ∷ []

abbrev found_none : Pass
found_none =
    record { look = record { function = 0; is_high = false; cell = 1 }; seen = 0 }
    ∷ record { look = record { function = 0; is_high = true; cell = 0 }; seen = 0 }
    ∷ []

abbrev up : MarkEvents
up = Posted 4294967297 ∷ Passed found_both ∷ []

abbrev down : MarkEvents
down = Posted 8589934592 ∷ Passed found_none ∷ up

apart : (k : ℕ) → (0 == suc k) ≡ false
apart k = ne_eqb 0 (suc k) (λ e. omega (arith, e))

-- no other function is throttled by the passes
only_first : (k : ℕ) → is_throttled in_time (suc k) (Passed found_both ∷ []) ≡ false
only_first k = rw (apart k) refl

only_first_down : (k : ℕ) → is_throttled in_time (suc k) (Passed found_none ∷ up) ≡ false
only_first_down k = rw (apart k) refl

raised_bits : (k : ℕ) → has_bit 4294967297 k ≡ is_throttled in_time k (Passed found_both ∷ [])
raised_bits zero = refl
raised_bits (suc k) = high_bits k ∙ sym (only_first k)

up_is_paid : IsPaid in_time up
up_is_paid = inl raised_bits

post_up : IsOwed in_time (Passed found_both ∷ []) 4294967297
post_up =
    record {
      more = omega arith;
      unsettled = λ settled. let off : false ≡ true = settled 0 in cc;
      number = refl;
      bits = raised_bits;
    }

cleared_bits : (k : ℕ) → has_bit 8589934592 k ≡ is_throttled in_time k (Passed found_none ∷ up)
cleared_bits zero = refl
cleared_bits (suc k) = no_bits_left (suc k) ∙ sym (only_first_down k)

post_down : IsOwed in_time (Passed found_none ∷ up) 8589934592
post_down =
    record {
      more = omega arith;
      unsettled = λ settled. let off : true ≡ false = settled 0 in cc;
      number = refl;
      bits = cleared_bits;
    }

down_is_paid : IsPaid in_time down
down_is_paid = inl cleared_bits

feeder_is : AreMarked setting 0 in_time (log_of 0 whole)
feeder_is =
    -- frame 4 is asked for
    down_is_paid
    -- a pass finds neither mark, and a post clears
    ◂ post_down
    ◂ ((refl, refl), up_is_paid)
    ◂ ((refl, refl), up_is_paid)
    -- frame 3 is held
    ◂ up_is_paid
    -- a pass finds both marks, and a post raises
    ◂ post_up
    ◂ ((refl, refl), nothing_owed)
    ◂ ((refl, refl), nothing_owed)
    -- frame 2 enters
    ◂ nothing_owed
    ◂ nothing_owed
    ◂ nothing_owed
    ◂ nothing_owed
    ◂ nothing_owed
    -- frame 1 enters
    ◂ nothing_owed
    ◂ nothing_owed
    ◂ nothing_owed
    ◂ nothing_owed
    ◂ nothing_owed
    ◂ tt

sender_is : AreMarked setting 1 in_time (log_of 1 whole)
sender_is = tt

pub whole_is_marked : AllMarked setting (λ feeder. in_time) whole
whole_is_marked zero known = feeder_is
whole_is_marked (suc zero) known = sender_is
whole_is_marked (suc (suc k)) known = absurd (omega (arith, known))

-- The pace: a burst is 32

pub whole_is_paced : IsPaced setting 0 (log_of 0 whole)
whole_is_paced =
    -- frame 4 is asked for
    ((λ known. omega arith), λ g. omega arith)
    -- a marks pass
    ◂ ((λ known. omega arith), λ g. omega arith)
    ◂ ((λ known. omega arith), λ g. omega arith)
    ◂ ((λ known. omega arith), λ g. omega arith)
    -- frame 3 is held
    ◂ ((λ known. omega arith), λ g. omega arith)
    -- a marks pass
    ◂ ((λ known. omega arith), λ g. omega arith)
    ◂ ((λ known. omega arith), λ g. omega arith)
    ◂ ((λ known. omega arith), λ g. omega arith)
    -- frame 2 enters
    ◂ ((λ known. omega arith), λ g. omega arith)
    ◂ ((λ known. omega arith), λ g. omega arith)
    ◂ ((λ known. omega arith), λ g. omega arith)
    ◂ ((λ known. omega arith), λ g. omega arith)
    ◂ ((λ known. omega arith), λ g. omega arith)
    -- frame 1 enters
    ◂ ((λ known. omega arith), λ g. omega arith)
    ◂ ((λ known. omega arith), λ g. omega arith)
    ◂ ((λ known. omega arith), λ g. omega arith)
    ◂ ((λ known. omega arith), λ g. omega arith)
    ◂ ((λ known. omega arith), λ g. omega arith)
    ◂ tt

-- with a burst of one the second block may not begin before a marks pass
pub not_in_haste : IsPaced (record setting { plan = hasty }) 0 (log_of 0 second_begun) → ⊥
not_in_haste paced = omega (arith, paced.0.0 (omega arith))

-- The held frame's throttle is earned

pub throttle_is_earned : IsEarnedThrottle setting in_time raised e3 held 0 1 0
throttle_is_earned = record {
  seen = 4294967297;
  shown = refl;
  number = refl;
  held = is_held;
  names = refl;
  raised = inl (ByPost 4294967297 found_both [] refl refl refl refl refl);
}

-- Wrong ideas

step_of : (at service : ℕ) → step_at setting.plan e3.chain at ≡ Some (Service service) → service ≡ 1
step_of zero service e = let same : Service 1 ≡ Service service = cc in cc
step_of (suc zero) service e = absurd (let off : Port 0 ≡ Service service = cc in cc)
step_of (suc (suc k)) service e = absurd (let off : None ≡ Some (Service service) = e in cc)

second_is_first : (k : ℕ) → slice_get {X = ℕ} (0 ∷ []) k ≡ Some 1 → ⊥
second_is_first zero e = let off : ◌≡◌ {A = ℕ} 0 1 = cc in omega (arith, off)
second_is_first (suc k) e = let off : None ≡ Some 1 = e in cc

not_of_chain : IsOfChain setting.plan e3.chain 1 → ⊥
not_of_chain of =
    second_is_first of.place (subst (λ s. slice_get (instances s setting.plan.functions) of.place ≡ Some 1)
    (step_of of.at of.service of.named) of.found)

-- no throttle by a function of another chain is earned, whatever was posted
pub not_by_another_chain : (aged : Ages) (past : History) (told : Record) (feeder post : ℕ)
    → IsEarnedThrottle setting aged past e3 told feeder post 1
    → ⊥
not_by_another_chain aged past told feeder post earned =
    not_of_chain (subst (IsOfChain setting.plan e3.chain) earned.names earned.held.raised.of_chain)

-- none is once the mark was cleared, whichever post it names
pub not_after_clearing : (aged : Ages) (told : Record) (post function : ℕ)
    → IsEarnedThrottle setting aged cleared e3 told 0 post function
    → ⊥
not_after_clearing aged told post function earned =
    no_bit earned.held.function
    (subst (λ v. IsBitSet (v % 2 ^ 32) earned.held.function) (sym earned.shown) earned.held.raised.bit)

-- no throttle is earned where no reading had the age

abbrev never : Ages
never = λ pass function. false

never_raised : (f : ℕ) (events : MarkEvents) → IsRaised never f events → ⊥
never_raised f events (ByPost value pass before bit none high low time) = let off : false ≡ true = time in cc
never_raised f events (ByAnotherPost value before bit was) = never_raised f before was
never_raised f events (ByPass pass before low was) = never_raised f before was

never_up_to_now : (f : ℕ) (phase : MarkPhase) → IsRaisedUpToNow never f phase → ⊥
never_up_to_now f (InPass next later found events) raised = never_raised f events raised
never_up_to_now f (AtRest events) (inl raised) = never_raised f events raised
never_up_to_now f (AtRest events) (inr due) = never_raised f due.before due.raised

pub not_without_the_time : (past : History) (told : Record) (feeder post function : ℕ)
    → IsEarnedThrottle setting never past e3 told feeder post function
    → ⊥
not_without_the_time past told feeder post function earned =
    never_up_to_now function (mark_phase setting feeder (log_of feeder past)) earned.raised

-- a feeder in a pass may not leave out the pass before
pub not_in_another_pass : (aged : Ages) (f : ℕ) (next : MarkLook) (later : List MarkLook) (found pass : Pass)
    (before : MarkEvents)
    → finds false f pass ≡ false → IsRaisedUpToNow aged f (InPass next later found (Passed pass ∷ before))
    → ⊥
not_in_another_pass aged f next later found pass before none (ByPass p b low was) =
    let off : false ≡ true = sym none ∙ low in cc

late : (k : ℕ) → is_throttled (λ pass function. false) (suc k) (Passed found_both ∷ []) ≡ false
late k = rw (apart k) refl

-- where no reading had the age, nothing is throttled after the pass
settled_late : IsSettled (λ pass function. false) (Passed found_both ∷ [])
settled_late zero = refl
settled_late (suc k) = no_bits (suc k) ∙ sym (late k)

-- the mark may not be raised where the reading hadn't the age
pub not_without_the_age : AreMarked setting 0 (λ pass function. false) (log_of 0 raised) → ⊥
not_without_the_age marked = marked.0.unsettled settled_late

-- a feeder that found the lane empty must clear: it may begin no block
pub not_without_clearing : (aged : Ages) (told : Option Record)
    → AreMarked setting 0 aged (Look (PostWord 0) 4294967297 told ∷ log_of 0 emptied)
    → ⊥
not_without_clearing aged told marked =
    elim marked.0 [
      | inl settled ↦ let off : true ≡ false = settled 0 in cc
      | inr last ↦ omega (arith, last)
    ]
