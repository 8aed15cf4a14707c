-- The receive role's three passes under overload: three frames enter and a fourth finds the lane full, the mark is
-- raised and a fifth frame is held, and the mark stays raised.
use Rattle.std.proofs.Common.{◌≡◌, ℕ, zero, suc, ◌^◌, ◌/◌, true, false, inl, inr, [], ◌∷◌, ◌++◌, refl, sym, ◌∙◌, arith, Some, None}
use Rattle.std.specs.Prelude.{◌==◌}
use Rattle.std.proofs.lemmas.Bool.{ne_eqb}
use Rattle.std.proofs.lemmas.Nat.{pow_pos}
use Rattle.std.proofs.Math.Nat.{div-eq_of_lt}
use Rattle.onvm_base.specs.declared.ids.RingId.TheVariants.{Lane}
use Rattle.onvm_base.specs.declared.outcome.Outcome.TheVariants.{RingFull, Throttled}
use Rattle.onvm_base.specs.declared.outcome.Record.{Record}
use Rattle.onvm_core.specs.declared.layout.Word.TheVariants.{Pool as PoolWord, Cell, Post as PostWord}
use Rattle.onvm_core.specs.declared.step.Act.TheVariants.{Take, Give, Push, Full, Look, Post}
use Rattle.onvm_core.specs.declared.step.Item.TheVariants.{Buffer}
use Rattle.onvm_core.specs.Blocks.{IsOfBlocks}
use Rattle.onvm_core.specs.Logs.{Log, entry_parcel}
use Rattle.onvm_core.specs.Marks.{Ages, AreMarked, IsOwed, MarkEvents, Pass, has_bit, is_throttled}
use Rattle.onvm_core.specs.Marks.MarkEvent.{Passed, Posted}
use Rattle.onvm_core.specs.Pace.{IsPaced}
use Rattle.onvm_core.specs.Receiving.{IsThrottleRecord, Raises}
use Rattle.onvm_core.proofs.Crowd.{port, f, b0, b1, b2}
use Rattle.onvm_core.proofs.Marked.{no_bit as no_bits}
use Rattle.onvm_core.proofs.Steps.{◌◂◌}
use Rattle.onvm_core.proofs.WalkLogs.{no_bit}
use Rattle.onvm_promises.specs.Acts.{AreBlockSteps}
use Rattle.onvm_promises.specs.Acts.IsBlockStep.{AnAsk, ASeek, ATake, APush, AFull, AGive}
use Rattle.onvm_promises.specs.Acts.IsMarkStep.{ALook, APost}
use Rattle.onvm_promises.specs.Passes.{IsMarksPass, IsReceivePass}
use Rattle.onvm_promises.specs.Rests.{IsSettledFeeder}
use Rattle.onvm_session.proofs.OverloadPlan.{b3, bit_12, bit_14, bit_15, bit_8, e1, e2, e3, e4, e5, lowest_12, lowest_14, lowest_15, lowest_8, setting}

-- The first pass

-- three frames enter

abbrev pub first_entered : Log
first_entered =
    Push (Lane f 0) (Buffer b0 (entry_parcel e1))
    ∷ Take b0
    ∷ Look (PoolWord port 0) 15 None
    ∷ Look (PostWord 1) 0 None
    ∷ Look (PostWord 0) 0 None
    ∷ []

abbrev pub second_entered : Log
second_entered =
    Push (Lane f 0) (Buffer b1 (entry_parcel e2))
    ∷ Take b1
    ∷ Look (PoolWord port 0) 14 None
    ∷ Look (PostWord 1) 0 None
    ∷ Look (PostWord 0) 0 None
    ∷ first_entered

abbrev pub third_entered : Log
third_entered =
    Push (Lane f 0) (Buffer b2 (entry_parcel e3))
    ∷ Take b2
    ∷ Look (PoolWord port 0) 12 None
    ∷ Look (PostWord 1) 0 None
    ∷ Look (PostWord 0) 0 None
    ∷ second_entered

-- the fourth finds the lane full
abbrev pub turned_back : Log
turned_back =
    Give b3 (RingFull (Lane f 0)) (entry_parcel e4)
    ∷ Full (Lane f 0)
    ∷ Take b3
    ∷ Look (PoolWord port 0) 8 None
    ∷ Look (PostWord 1) 0 None
    ∷ Look (PostWord 0) 0 None
    ∷ third_entered

first_blocks : IsOfBlocks setting 0 first_entered
first_blocks =
    inr (e1, refl, (refl, refl, record { function = f; cursor = 0; move = refl; lane = refl }))
    ◂ inr (e1, refl, record { known = omega arith; word = refl; shown = bit_15; lowest = lowest_15 })
    ◂ inr (e1, refl, (refl, λ none. absurd (omega (arith, none))))
    ◂ inr (e1, refl, (refl, λ k raised. no_bit k raised.bit))
    ◂ inr (e1, refl, (refl, λ k raised. no_bit k raised.bit))
    ◂ tt

second_blocks : IsOfBlocks setting 0 second_entered
second_blocks =
    inr (e2, refl, (refl, refl, record { function = f; cursor = 0; move = refl; lane = refl }))
    ◂ inr (e2, refl, record { known = omega arith; word = refl; shown = bit_14; lowest = lowest_14 })
    ◂ inr (e2, refl, (refl, λ none. absurd (omega (arith, none))))
    ◂ inr (e2, refl, (refl, λ k raised. no_bit k raised.bit))
    ◂ inr (e2, refl, (refl, λ k raised. no_bit k raised.bit))
    ◂ first_blocks

third_blocks : IsOfBlocks setting 0 third_entered
third_blocks =
    inr (e3, refl, (refl, refl, record { function = f; cursor = 0; move = refl; lane = refl }))
    ◂ inr (e3, refl, record { known = omega arith; word = refl; shown = bit_12; lowest = lowest_12 })
    ◂ inr (e3, refl, (refl, λ none. absurd (omega (arith, none))))
    ◂ inr (e3, refl, (refl, λ k raised. no_bit k raised.bit))
    ◂ inr (e3, refl, (refl, λ k raised. no_bit k raised.bit))
    ◂ second_blocks

turned_blocks : IsOfBlocks setting 0 turned_back
turned_blocks =
    inr (e4, refl, (refl, refl, refl))
    ◂ inr (e4, refl, record { function = f; cursor = 0; move = refl; lane = refl })
    ◂ inr (e4, refl, record { known = omega arith; word = refl; shown = bit_8; lowest = lowest_8 })
    ◂ inr (e4, refl, (refl, λ none. absurd (omega (arith, none))))
    ◂ inr (e4, refl, (refl, λ k raised. no_bit k raised.bit))
    ◂ inr (e4, refl, (refl, λ k raised. no_bit k raised.bit))
    ◂ third_blocks

first_steps : AreBlockSteps first_entered
first_steps =
    APush f 0 (Buffer b0 (entry_parcel e1)) ◂ ATake b0 ◂ ASeek port 0 15 None ◂ AnAsk 1 0 None ◂ AnAsk 0 0 None
    ◂ tt

second_steps : AreBlockSteps second_entered
second_steps =
    APush f 0 (Buffer b1 (entry_parcel e2)) ◂ ATake b1 ◂ ASeek port 0 14 None ◂ AnAsk 1 0 None ◂ AnAsk 0 0 None
    ◂ first_steps

third_steps : AreBlockSteps third_entered
third_steps =
    APush f 0 (Buffer b2 (entry_parcel e3)) ◂ ATake b2 ◂ ASeek port 0 12 None ◂ AnAsk 1 0 None ◂ AnAsk 0 0 None
    ◂ second_steps

turned_steps : AreBlockSteps turned_back
turned_steps =
    AGive b3 (RingFull (Lane f 0)) (entry_parcel e4) ◂ AFull f 0 ◂ ATake b3 ◂ ASeek port 0 8 None ◂ AnAsk 1 0 None
    ◂ AnAsk 0 0 None
    ◂ third_steps

first_marked : (aged : Ages) → AreMarked setting 0 aged first_entered
first_marked aged = inl no_bits ◂ inl no_bits ◂ inl no_bits ◂ inl no_bits ◂ inl no_bits ◂ tt

second_marked : (aged : Ages) → AreMarked setting 0 aged second_entered
second_marked aged = inl no_bits ◂ inl no_bits ◂ inl no_bits ◂ inl no_bits ◂ inl no_bits ◂ first_marked aged

third_marked : (aged : Ages) → AreMarked setting 0 aged third_entered
third_marked aged = inl no_bits ◂ inl no_bits ◂ inl no_bits ◂ inl no_bits ◂ inl no_bits ◂ second_marked aged

turned_marked : (aged : Ages) → AreMarked setting 0 aged turned_back
turned_marked aged =
    inl no_bits ◂ inl no_bits ◂ inl no_bits ◂ inl no_bits ◂ inl no_bits ◂ inl no_bits ◂ third_marked aged

first_paced : IsPaced setting 0 first_entered
first_paced =
    ((λ known. omega arith), λ g. omega arith)
    ◂ ((λ known. omega arith), λ g. omega arith)
    ◂ ((λ known. omega arith), λ g. omega arith)
    ◂ ((λ known. omega arith), λ g. omega arith)
    ◂ ((λ known. omega arith), λ g. omega arith)
    ◂ tt

second_paced : IsPaced setting 0 second_entered
second_paced =
    ((λ known. omega arith), λ g. omega arith)
    ◂ ((λ known. omega arith), λ g. omega arith)
    ◂ ((λ known. omega arith), λ g. omega arith)
    ◂ ((λ known. omega arith), λ g. omega arith)
    ◂ ((λ known. omega arith), λ g. omega arith)
    ◂ first_paced

third_paced : IsPaced setting 0 third_entered
third_paced =
    ((λ known. omega arith), λ g. omega arith)
    ◂ ((λ known. omega arith), λ g. omega arith)
    ◂ ((λ known. omega arith), λ g. omega arith)
    ◂ ((λ known. omega arith), λ g. omega arith)
    ◂ ((λ known. omega arith), λ g. omega arith)
    ◂ second_paced

turned_paced : IsPaced setting 0 turned_back
turned_paced =
    ((λ known. omega arith), λ g. omega arith)
    ◂ ((λ known. omega arith), λ g. omega arith)
    ◂ ((λ known. omega arith), λ g. omega arith)
    ◂ ((λ known. omega arith), λ g. omega arith)
    ◂ ((λ known. omega arith), λ g. omega arith)
    ◂ ((λ known. omega arith), λ g. omega arith)
    ◂ third_paced

pub turned_settled : (aged : Ages) → IsSettledFeeder setting 0 aged turned_back
turned_settled aged =
    record { marked = turned_marked aged; ended = tt; paid = inl no_bits; paced = turned_paced }

pub first_is : (aged : Ages) → IsReceivePass setting 0 aged [] turned_back
first_is aged = record {
  marks = [];
  blocks = turned_back;
  parts = refl;
  pass = record {
    marks = tt;
    settled = record { marked = tt; ended = tt; paid = inl no_bits; paced = tt };
    one = λ some. absurd (some refl);
    none = λ e. refl;
  };
  steps = turned_steps;
  count = refl;
  rests = record { blocks = turned_blocks; between = refl; feeder = turned_settled aged };
}

-- The later passes

-- the fifth frame is held by the first post of feeder 0, for function f
abbrev pub held : Record
held = record { frame = e5.frame; outcome = Throttled 0 1 f }

-- frame 1 was handled, and the two behind it are in the lane: high and low are found, and the mark is raised
abbrev pub raising : Log
raising =
    Post (PostWord 0) 4294967297 ∷ Look (Cell (Lane f 0) 2) 3 None ∷ Look (Cell (Lane f 0) 1) 2 None ∷ []

abbrev pub holding : Log
holding = Look (PostWord 0) 4294967297 (Some held) ∷ []

-- frame 2 was handled too: low is found and high isn't, and the mark stays raised
abbrev pub staying : Log
staying = Look (Cell (Lane f 0) 2) 3 None ∷ Look (Cell (Lane f 0) 1) 0 None ∷ []

abbrev pub raised : Log
raised = raising ++ turned_back

abbrev pub held_log : Log
held_log = holding ++ raised

abbrev pub receive_log : Log
receive_log = staying ++ held_log

abbrev found_both : Pass
found_both =
    record { look = record { function = 0; is_high = false; cell = 2 }; seen = 3 }
    ∷ record { look = record { function = 0; is_high = true; cell = 1 }; seen = 2 }
    ∷ []

abbrev found_low : Pass
found_low =
    record { look = record { function = 0; is_high = false; cell = 2 }; seen = 3 }
    ∷ record { look = record { function = 0; is_high = true; cell = 1 }; seen = 0 }
    ∷ []

abbrev found : MarkEvents
found = Passed found_both ∷ []

abbrev up : MarkEvents
up = Posted 4294967297 ∷ found

apart : (k : ℕ) → (0 == suc k) ≡ false
apart k = ne_eqb 0 (suc k) (λ e. omega (arith, e))

-- no bit above the first
high_bits : (k : ℕ) → has_bit 4294967297 (suc k) ≡ false
high_bits k = let small : 1 / 2 ^ suc k ≡ 0 = div-eq_of_lt (omega (arith, pow_pos k)) in rw small refl

raises_f : Raises setting e5 4294967297 0
raises_f = record {
  of_chain = record { at = 0; service = 1; named = refl; place = 0; found = refl };
  bit = λ h. let off : 1 ≡ 0 = h in absurd (omega (arith, off));
}

is_held : IsThrottleRecord setting e5 0 4294967297 held
is_held = record { function = 0; raised = raises_f; lowest = λ k less. absurd (omega (arith, less)); told_is = refl }

raised_blocks : IsOfBlocks setting 0 raised
raised_blocks =
    inl (tt, refl) ◂ inl (tt, (omega arith, refl, omega arith, refl)) ◂ inl (tt, (omega arith, refl, omega arith, refl))
    ◂ turned_blocks

held_blocks : IsOfBlocks setting 0 held_log
held_blocks = inr (e5, refl, (refl, is_held)) ◂ raised_blocks

staying_blocks : IsOfBlocks setting 0 receive_log
staying_blocks =
    inl (tt, (omega arith, refl, omega arith, refl)) ◂ inl (tt, (omega arith, refl, omega arith, refl)) ◂ held_blocks

raised_paced : IsPaced setting 0 raised
raised_paced =
    ((λ known. omega arith), λ g. omega arith)
    ◂ ((λ known. omega arith), λ g. omega arith)
    ◂ ((λ known. omega arith), λ g. omega arith)
    ◂ turned_paced

held_paced : IsPaced setting 0 held_log
held_paced = ((λ known. omega arith), λ g. omega arith) ◂ raised_paced

staying_paced : IsPaced setting 0 receive_log
staying_paced =
    ((λ known. omega arith), λ g. omega arith) ◂ ((λ known. omega arith), λ g. omega arith) ◂ held_paced

-- Where the reading in the first marks pass had the age

module _ (aged : Ages) (old : aged 0 0 ≡ true) where
  is_throttled_now : is_throttled aged 0 found ≡ true
  is_throttled_now = rw old refl

  raised_bits : (k : ℕ) → has_bit 4294967297 k ≡ is_throttled aged k found
  raised_bits zero = sym is_throttled_now
  raised_bits (suc k) = high_bits k ∙ sym (rw (apart k) refl)

  staying_bits : (k : ℕ) → has_bit 4294967297 k ≡ is_throttled aged k (Passed found_low ∷ up)
  staying_bits zero = sym (rw old refl)
  staying_bits (suc k) = high_bits k ∙ sym (rw (apart k) refl)

  post_up : IsOwed aged found 4294967297
  post_up = record {
    more = omega arith;
    unsettled = λ settled. let off : false ≡ true = settled 0 ∙ is_throttled_now in cc;
    number = refl;
    bits = raised_bits;
  }

  raised_marked : AreMarked setting 0 aged raised
  raised_marked = post_up ◂ ((refl, refl), inl no_bits) ◂ ((refl, refl), inl no_bits) ◂ turned_marked aged

  held_marked : AreMarked setting 0 aged held_log
  held_marked = inl raised_bits ◂ raised_marked

  staying_marked : AreMarked setting 0 aged receive_log
  staying_marked = ((refl, refl), inl raised_bits) ◂ ((refl, refl), inl raised_bits) ◂ held_marked

  -- a marks pass raises the mark
  raising_is : IsMarksPass setting 0 aged turned_back raising
  raising_is = record {
    marks = APost 4294967297 ◂ ALook f 2 3 (omega arith) (omega arith) ◂ ALook f 1 2 (omega arith) (omega arith) ◂ tt;
    settled = record { marked = raised_marked; ended = tt; paid = inl raised_bits; paced = raised_paced };
    one = λ some. refl;
    none = λ e. absurd (cc);
  }

  -- and the frame behind it is held
  pub second_is : IsReceivePass setting 0 aged turned_back (holding ++ raising)
  second_is = record {
    marks = raising;
    blocks = holding;
    parts = refl;
    pass = raising_is;
    steps = AnAsk 0 4294967297 (Some held) ◂ tt;
    count = refl;
    rests = record {
      blocks = held_blocks;
      between = refl;
      feeder = record { marked = held_marked; ended = tt; paid = inl raised_bits; paced = held_paced };
    };
  }

  -- a marks pass leaves the mark raised, and no frame is left
  staying_is : IsMarksPass setting 0 aged held_log staying
  staying_is = record {
    marks = ALook f 2 3 (omega arith) (omega arith) ◂ ALook f 1 0 (omega arith) (omega arith) ◂ tt;
    settled = record { marked = staying_marked; ended = tt; paid = inl staying_bits; paced = staying_paced };
    one = λ some. refl;
    none = λ e. absurd (cc);
  }

  pub third_is : IsReceivePass setting 0 aged held_log staying
  third_is = record {
    marks = staying;
    blocks = [];
    parts = refl;
    pass = staying_is;
    steps = tt;
    count = refl;
    rests = record { blocks = staying_blocks; between = refl; feeder = staying_is.settled };
  }
