-- A mark is raised, holds a frame, and is cleared, in three passes of a receive role. A burst is two, and so is the
-- high mark; a reading counts from 1,000 nanoseconds on.
use Rattle.std.proofs.Common.{◌≡◌, ℕ, zero, suc, ◌^◌, ◌/◌, true, false, inl, inr, [], ◌∷◌, ◌++◌, refl, sym, ◌∙◌, arith, Some, None}
use Rattle.std.specs.Prelude.{◌==◌}
use Rattle.std.proofs.lemmas.Bool.{ne_eqb}
use Rattle.std.proofs.lemmas.Nat.{pow_pos}
use Rattle.std.proofs.Math.Nat.{zero-div, div-eq_of_lt}
use Rattle.onvm_base.specs.declared.ids.RingId.TheVariants.{Lane}
use Rattle.onvm_core.specs.declared.layout.Word.TheVariants.{Pool as PoolWord, Cell, Post as PostWord}
use Rattle.onvm_core.specs.declared.step.Act.TheVariants.{Take, Push, Look, Post}
use Rattle.onvm_core.specs.declared.step.Item.TheVariants.{Buffer}
use Rattle.onvm_core.specs.Blocks.{IsOfBlocks}
use Rattle.onvm_core.specs.Logs.{Log, Setting, entry_parcel, log_of}
use Rattle.onvm_core.specs.Marks.{Ages, AreMarked, IsOwed, MarkEvents, Pass, has_bit, is_throttled}
use Rattle.onvm_core.specs.Marks.MarkEvent.{Passed, Posted}
use Rattle.onvm_core.specs.Pace.{IsPaced}
use Rattle.onvm_core.specs.Receiving.{IsThrottleRecord, Raises}
use Rattle.onvm_core.proofs.Crowd.{layout, port, f, b0, b1, e1, e2, e3, bit_7_0, bit_6_1, lowest_7, lowest_6}
use Rattle.onvm_core.proofs.HeldSteps.{cleared, held, raised}
use Rattle.onvm_core.proofs.Marked.{no_bit as no_bits}
use Rattle.onvm_core.proofs.Steps.{◌◂◌}
use Rattle.onvm_core.proofs.WalkLogs.{no_bit}
use Rattle.onvm_promises.specs.Acts.IsBlockStep.{AnAsk, ASeek, ATake, APush}
use Rattle.onvm_promises.specs.Acts.IsMarkStep.{ALook, APost}
use Rattle.onvm_promises.specs.Passes.{IsMarksPass, IsReceivePass}
use Rattle.onvm_promises.specs.Rests.{IsSettledFeeder}
use Rattle.onvm_promises.proofs.ExamplePlans.{patient}

abbrev pub setting : Setting
setting = record { layout = layout; plan = patient; entries = e1 ∷ e2 ∷ e3 ∷ [] }

-- The passes

-- two frames enter
abbrev pub entered : Log
entered =
    Push (Lane f 0) (Buffer b1 (entry_parcel e2))
    ∷ Take b1
    ∷ Look (PoolWord port 0) 6 None
    ∷ Look (PostWord 1) 0 None
    ∷ Look (PostWord 0) 0 None
    ∷ Push (Lane f 0) (Buffer b0 (entry_parcel e1))
    ∷ Take b0
    ∷ Look (PoolWord port 0) 7 None
    ∷ Look (PostWord 1) 0 None
    ∷ Look (PostWord 0) 0 None
    ∷ []

-- a marks pass finds high and low, and the mark is raised
abbrev pub raising : Log
raising =
    Post (PostWord 0) 4294967297 ∷ Look (Cell (Lane f 0) 1) 2 None ∷ Look (Cell (Lane f 0) 0) 1 None ∷ []

-- the third frame is held
abbrev pub holding : Log
holding = Look (PostWord 0) 4294967297 (Some held) ∷ []

-- a marks pass finds neither, and the mark is cleared
abbrev pub clearing : Log
clearing =
    Post (PostWord 0) 8589934592 ∷ Look (Cell (Lane f 0) 1) 0 None ∷ Look (Cell (Lane f 0) 0) 0 None ∷ []

-- a role makes these steps in a list that is lawful
of_the_list : (raising ++ entered ≡ log_of 0 raised) × (clearing ++ holding ++ raising ++ entered ≡ log_of 0 cleared)
of_the_list = (refl, refl)

-- The first pass, whatever the age of readings

pub entered_settled : (aged : Ages) → IsSettledFeeder setting 0 aged entered
entered_settled aged = record {
  marked = inl no_bits ◂ inl no_bits ◂ inl no_bits ◂ inl no_bits ◂ inl no_bits ◂ inl no_bits ◂ inl no_bits
      ◂ inl no_bits
      ◂ inl no_bits
      ◂ inl no_bits
      ◂ tt;
  ended = tt;
  paid = inl no_bits;
  paced =
      ((λ known. omega arith), λ g. omega arith)
      ◂ ((λ known. omega arith), λ g. omega arith)
      ◂ ((λ known. omega arith), λ g. omega arith)
      ◂ ((λ known. omega arith), λ g. omega arith)
      ◂ ((λ known. omega arith), λ g. omega arith)
      ◂ ((λ known. omega arith), λ g. omega arith)
      ◂ ((λ known. omega arith), λ g. omega arith)
      ◂ ((λ known. omega arith), λ g. omega arith)
      ◂ ((λ known. omega arith), λ g. omega arith)
      ◂ ((λ known. omega arith), λ g. omega arith)
      ◂ tt;
}

entered_blocks : IsOfBlocks setting 0 entered
entered_blocks =
    inr (e2, refl, (refl, refl, record { function = f; cursor = 0; move = refl; lane = refl }))
    ◂ inr (e2, refl, record { known = omega arith; word = refl; shown = bit_6_1; lowest = lowest_6 })
    ◂ inr (e2, refl, (refl, λ none. absurd (omega (arith, none))))
    ◂ inr (e2, refl, (refl, λ k raised. no_bit k raised.bit))
    ◂ inr (e2, refl, (refl, λ k raised. no_bit k raised.bit))
    ◂ inr (e1, refl, (refl, refl, record { function = f; cursor = 0; move = refl; lane = refl }))
    ◂ inr (e1, refl, record { known = omega arith; word = refl; shown = bit_7_0; lowest = lowest_7 })
    ◂ inr (e1, refl, (refl, λ none. absurd (omega (arith, none))))
    ◂ inr (e1, refl, (refl, λ k raised. no_bit k raised.bit))
    ◂ inr (e1, refl, (refl, λ k raised. no_bit k raised.bit))
    ◂ tt

pub first_is : (aged : Ages) → IsReceivePass setting 0 aged [] entered
first_is aged = record {
  marks = [];
  blocks = entered;
  parts = refl;
  pass = record {
    marks = tt;
    settled = record { marked = tt; ended = tt; paid = inl no_bits; paced = tt };
    one = λ some. absurd (some refl);
    none = λ e. refl;
  };
  steps = APush f 0 (Buffer b1 (entry_parcel e2)) ◂ ATake b1 ◂ ASeek port 0 6 None ◂ AnAsk 1 0 None ◂ AnAsk 0 0 None
      ◂ APush f 0 (Buffer b0 (entry_parcel e1))
      ◂ ATake b0
      ◂ ASeek port 0 7 None
      ◂ AnAsk 1 0 None
      ◂ AnAsk 0 0 None
      ◂ tt;
  count = refl;
  rests = record { blocks = entered_blocks; between = refl; feeder = entered_settled aged };
}

-- What the later passes find and post

abbrev pub found_both : Pass
found_both =
    record { look = record { function = 0; is_high = false; cell = 1 }; seen = 2 }
    ∷ record { look = record { function = 0; is_high = true; cell = 0 }; seen = 1 }
    ∷ []

abbrev pub found_none : Pass
found_none =
    record { look = record { function = 0; is_high = false; cell = 1 }; seen = 0 }
    ∷ record { look = record { function = 0; is_high = true; cell = 0 }; seen = 0 }
    ∷ []

abbrev pub found : MarkEvents
found = Passed found_both ∷ []

abbrev pub up : MarkEvents
up = Posted 4294967297 ∷ found

abbrev pub down : MarkEvents
down = Posted 8589934592 ∷ Passed found_none ∷ up

-- no bit above the first
high_bits : (k : ℕ) → has_bit 4294967297 (suc k) ≡ false
high_bits k = let small : 1 / 2 ^ suc k ≡ 0 = div-eq_of_lt (omega (arith, pow_pos k)) in rw small refl

no_bits_left : (k : ℕ) → has_bit 8589934592 k ≡ false
no_bits_left k = let none : 0 / 2 ^ k ≡ 0 = zero-div (2 ^ k) in rw none refl

apart : (k : ℕ) → (0 == suc k) ≡ false
apart k = ne_eqb 0 (suc k) (λ e. omega (arith, e))

-- no other function is throttled, whatever the age of readings
pub only_first : (aged : Ages) (k : ℕ) → is_throttled aged (suc k) found ≡ false
only_first aged k = rw (apart k) refl

raises_f : Raises setting e3 4294967297 0
raises_f = record {
  of_chain = record { at = 0; service = 1; named = refl; place = 0; found = refl };
  bit = λ h. let off : 1 ≡ 0 = h in absurd (omega (arith, off));
}

abbrev is_held : IsThrottleRecord setting e3 0 4294967297 held
is_held = record { function = 0; raised = raises_f; lowest = λ k less. absurd (omega (arith, less)); told_is = refl }

raised_blocks : IsOfBlocks setting 0 (raising ++ entered)
raised_blocks =
    inl (tt, refl) ◂ inl (tt, (omega arith, refl, omega arith, refl)) ◂ inl (tt, (omega arith, refl, omega arith, refl))
    ◂ entered_blocks

held_blocks : IsOfBlocks setting 0 (holding ++ raising ++ entered)
held_blocks = inr (e3, refl, (refl, is_held)) ◂ raised_blocks

cleared_blocks : IsOfBlocks setting 0 (clearing ++ (holding ++ raising ++ entered))
cleared_blocks =
    inl (tt, refl) ◂ inl (tt, (omega arith, refl, omega arith, refl)) ◂ inl (tt, (omega arith, refl, omega arith, refl))
    ◂ held_blocks

raised_paced : IsPaced setting 0 (raising ++ entered)
raised_paced =
    ((λ known. omega arith), λ g. omega arith)
    ◂ ((λ known. omega arith), λ g. omega arith)
    ◂ ((λ known. omega arith), λ g. omega arith)
    ◂ (entered_settled (λ pass g. false)).paced

held_paced : IsPaced setting 0 (holding ++ raising ++ entered)
held_paced = ((λ known. omega arith), λ g. omega arith) ◂ raised_paced

cleared_paced : IsPaced setting 0 (clearing ++ (holding ++ raising ++ entered))
cleared_paced =
    ((λ known. omega arith), λ g. omega arith)
    ◂ ((λ known. omega arith), λ g. omega arith)
    ◂ ((λ known. omega arith), λ g. omega arith)
    ◂ held_paced

-- Where the reading in the first marks pass had the age

module _ (aged : Ages) (old : aged 0 0 ≡ true) where
  pub is_throttled_now : is_throttled aged 0 found ≡ true
  is_throttled_now = rw old refl

  raised_bits : (k : ℕ) → has_bit 4294967297 k ≡ is_throttled aged k found
  raised_bits zero = sym is_throttled_now
  raised_bits (suc k) = high_bits k ∙ sym (only_first aged k)

  cleared_bits : (k : ℕ) → has_bit 8589934592 k ≡ is_throttled aged k (Passed found_none ∷ up)
  cleared_bits zero = refl
  cleared_bits (suc k) = no_bits_left (suc k) ∙ sym (rw (apart k) refl)

  post_up : IsOwed aged found 4294967297
  post_up = record {
    more = omega arith;
    unsettled = λ settled. let off : false ≡ true = settled 0 ∙ is_throttled_now in cc;
    number = refl;
    bits = raised_bits;
  }

  post_down : IsOwed aged (Passed found_none ∷ up) 8589934592
  post_down = record {
    more = omega arith;
    unsettled = λ settled. let off : true ≡ false = settled 0 in cc;
    number = refl;
    bits = cleared_bits;
  }

  raised_marked : AreMarked setting 0 aged (raising ++ entered)
  raised_marked = post_up ◂ ((refl, refl), inl no_bits) ◂ ((refl, refl), inl no_bits) ◂ (entered_settled aged).marked

  held_marked : AreMarked setting 0 aged (holding ++ raising ++ entered)
  held_marked = inl raised_bits ◂ raised_marked

  cleared_marked : AreMarked setting 0 aged (clearing ++ (holding ++ raising ++ entered))
  cleared_marked = post_down ◂ ((refl, refl), inl raised_bits) ◂ ((refl, refl), inl raised_bits) ◂ held_marked

  -- a marks pass raises the mark
  pub raising_is : IsMarksPass setting 0 aged entered raising
  raising_is = record {
    marks = APost 4294967297 ◂ ALook f 1 2 (omega arith) (omega arith) ◂ ALook f 0 1 (omega arith) (omega arith) ◂ tt;
    settled = record { marked = raised_marked; ended = tt; paid = inl raised_bits; paced = raised_paced };
    one = λ some. refl;
    none = λ e. absurd (cc);
  }

  -- and the frame behind it is held
  pub second_is : IsReceivePass setting 0 aged entered (holding ++ raising)
  second_is = record {
    marks = raising;
    blocks = holding;
    parts = refl;
    pass = raising_is;
    steps = AnAsk 0 4294967297 (Some held) ◂ tt;
    count = refl;
    rests = record {
      blocks = held_blocks;
      between = refl;
      feeder = record { marked = held_marked; ended = tt; paid = inl raised_bits; paced = held_paced };
    };
  }

  -- a marks pass clears the mark
  pub clearing_is : IsMarksPass setting 0 aged (holding ++ raising ++ entered) clearing
  clearing_is = record {
    marks = APost 8589934592 ◂ ALook f 1 0 (omega arith) (omega arith) ◂ ALook f 0 0 (omega arith) (omega arith) ◂ tt;
    settled = record { marked = cleared_marked; ended = tt; paid = inl cleared_bits; paced = cleared_paced };
    one = λ some. refl;
    none = λ e. absurd (cc);
  }

  -- and no frame is left
  pub third_is : IsReceivePass setting 0 aged (holding ++ raising ++ entered) clearing
  third_is = record {
    marks = clearing;
    blocks = [];
    parts = refl;
    pass = clearing_is;
    steps = tt;
    count = refl;
    rests = record { blocks = cleared_blocks; between = refl; feeder = clearing_is.settled };
  }
