-- A receive pass of five frames of a port with three buffers: two enter by a lane, the third finds it full, the fourth
-- enters by another lane, and for the fifth there is no buffer.
use Rattle.std.proofs.Common.{◌≡◌, ℕ, inl, [], ◌∷◌, refl, arith, Some, None}
use Rattle.onvm_base.specs.declared.ids.RingId.TheVariants.{Lane}
use Rattle.onvm_base.specs.declared.outcome.Outcome.TheVariants.{PoolEmpty, RingFull}
use Rattle.onvm_core.specs.declared.layout.Word.TheVariants.{Pool as PoolWord, Post as PostWord}
use Rattle.onvm_core.specs.declared.step.Act.TheVariants.{Take, Give, Push, Full, Look}
use Rattle.onvm_core.specs.declared.step.Item.TheVariants.{Buffer}
use Rattle.onvm_core.specs.Logs.{Log, entry_parcel, log_of}
use Rattle.onvm_core.specs.Marks.{Ages, AreMarked}
use Rattle.onvm_core.specs.Pace.{IsPaced}
use Rattle.onvm_core.proofs.Crowd.{setting, port, f, g, b0, b1, b2, e1, e2, e3, e4, e5, crowd, crowd_follows}
use Rattle.onvm_core.proofs.Marked.{no_bit}
use Rattle.onvm_core.proofs.Steps.{◌◂◌}
use Rattle.onvm_promises.specs.declared.pass.Pass.TheVariants.{Did}
use Rattle.onvm_promises.specs.Acts.{AreBlockSteps}
use Rattle.onvm_promises.specs.Acts.IsBlockStep.{AnAsk, ASeek, ATake, APush, AFull, AGive}
use Rattle.onvm_promises.specs.Kept.{FeederKeeps}
use Rattle.onvm_promises.specs.Passes.{IsReceivePass}
use Rattle.onvm_promises.specs.Roles.{IsReceivePromise}

-- two frames enter
abbrev first_two : Log
first_two =
    Push (Lane f 0) (Buffer b1 (entry_parcel e2))
    ∷ Take b1
    ∷ Look (PoolWord port 0) 6 None
    ∷ Look (PostWord 1) 0 None
    ∷ Look (PostWord 0) 0 None
    ∷ Push (Lane f 0) (Buffer b0 (entry_parcel e1))
    ∷ Take b0
    ∷ Look (PoolWord port 0) 7 None
    ∷ Look (PostWord 1) 0 None
    ∷ Look (PostWord 0) 0 None
    ∷ []

-- the third finds the lane full
abbrev turned_back : Log
turned_back =
    Give b2 (RingFull (Lane f 0)) (entry_parcel e3)
    ∷ Full (Lane f 0)
    ∷ Take b2
    ∷ Look (PoolWord port 0) 4 None
    ∷ Look (PostWord 1) 0 None
    ∷ Look (PostWord 0) 0 None
    ∷ first_two

abbrev pub all_five : Log
all_five =
    Look (PoolWord port 0) 0 (Some (record { frame = e5.frame; outcome = PoolEmpty }))
    ∷ Look (PostWord 1) 0 None
    ∷ Look (PostWord 0) 0 None
    ∷ Push (Lane g 0) (Buffer b2 (entry_parcel e4))
    ∷ Take b2
    ∷ Look (PoolWord port 0) 4 None
    ∷ Look (PostWord 1) 0 None
    ∷ Look (PostWord 0) 0 None
    ∷ turned_back

of_the_crowd : all_five ≡ log_of 0 crowd
of_the_crowd = refl

first_steps : AreBlockSteps first_two
first_steps =
    APush f 0 (Buffer b1 (entry_parcel e2)) ◂ ATake b1 ◂ ASeek port 0 6 None ◂ AnAsk 1 0 None ◂ AnAsk 0 0 None
    ◂ APush f 0 (Buffer b0 (entry_parcel e1))
    ◂ ATake b0
    ◂ ASeek port 0 7 None
    ◂ AnAsk 1 0 None
    ◂ AnAsk 0 0 None
    ◂ tt

turned_steps : AreBlockSteps turned_back
turned_steps =
    AGive b2 (RingFull (Lane f 0)) (entry_parcel e3) ◂ AFull f 0 ◂ ATake b2 ◂ ASeek port 0 4 None ◂ AnAsk 1 0 None
    ◂ AnAsk 0 0 None
    ◂ first_steps

all_steps : AreBlockSteps all_five
all_steps =
    ASeek port 0 0 (Some (record { frame = e5.frame; outcome = PoolEmpty })) ◂ AnAsk 1 0 None ◂ AnAsk 0 0 None
    ◂ APush g 0 (Buffer b2 (entry_parcel e4))
    ◂ ATake b2
    ◂ ASeek port 0 4 None
    ◂ AnAsk 1 0 None
    ◂ AnAsk 0 0 None
    ◂ turned_steps

first_marked : (aged : Ages) → AreMarked setting 0 aged first_two
first_marked aged =
    inl no_bit ◂ inl no_bit ◂ inl no_bit ◂ inl no_bit ◂ inl no_bit ◂ inl no_bit ◂ inl no_bit ◂ inl no_bit ◂ inl no_bit
    ◂ inl no_bit
    ◂ tt

turned_marked : (aged : Ages) → AreMarked setting 0 aged turned_back
turned_marked aged =
    inl no_bit ◂ inl no_bit ◂ inl no_bit ◂ inl no_bit ◂ inl no_bit ◂ inl no_bit ◂ first_marked aged

all_marked : (aged : Ages) → AreMarked setting 0 aged all_five
all_marked aged =
    inl no_bit ◂ inl no_bit ◂ inl no_bit ◂ inl no_bit ◂ inl no_bit ◂ inl no_bit ◂ inl no_bit ◂ inl no_bit
    ◂ turned_marked aged

first_paced : IsPaced setting 0 first_two
first_paced =
    ((λ known. omega arith), λ g. omega arith)
    ◂ ((λ known. omega arith), λ g. omega arith)
    ◂ ((λ known. omega arith), λ g. omega arith)
    ◂ ((λ known. omega arith), λ g. omega arith)
    ◂ ((λ known. omega arith), λ g. omega arith)
    ◂ ((λ known. omega arith), λ g. omega arith)
    ◂ ((λ known. omega arith), λ g. omega arith)
    ◂ ((λ known. omega arith), λ g. omega arith)
    ◂ ((λ known. omega arith), λ g. omega arith)
    ◂ ((λ known. omega arith), λ g. omega arith)
    ◂ tt

turned_paced : IsPaced setting 0 turned_back
turned_paced =
    ((λ known. omega arith), λ g. omega arith)
    ◂ ((λ known. omega arith), λ g. omega arith)
    ◂ ((λ known. omega arith), λ g. omega arith)
    ◂ ((λ known. omega arith), λ g. omega arith)
    ◂ ((λ known. omega arith), λ g. omega arith)
    ◂ ((λ known. omega arith), λ g. omega arith)
    ◂ first_paced

all_paced : IsPaced setting 0 all_five
all_paced =
    ((λ known. omega arith), λ g. omega arith)
    ◂ ((λ known. omega arith), λ g. omega arith)
    ◂ ((λ known. omega arith), λ g. omega arith)
    ◂ ((λ known. omega arith), λ g. omega arith)
    ◂ ((λ known. omega arith), λ g. omega arith)
    ◂ ((λ known. omega arith), λ g. omega arith)
    ◂ ((λ known. omega arith), λ g. omega arith)
    ◂ ((λ known. omega arith), λ g. omega arith)
    ◂ turned_paced

pub five_are : (aged : Ages) → IsReceivePass setting 0 aged [] all_five
five_are aged = record {
  marks = [];
  blocks = all_five;
  parts = refl;
  pass = record {
    marks = tt;
    settled = record { marked = tt; ended = tt; paid = inl no_bit; paced = tt };
    one = λ some. absurd (some refl);
    none = λ e. refl;
  };
  steps = all_steps;
  count = refl;
  rests = record {
    blocks = crowd_follows 0;
    between = refl;
    feeder = record { marked = all_marked aged; ended = tt; paid = inl no_bit; paced = all_paced };
  };
}

-- two of the five have a record
abbrev pub two_records : FeederKeeps
two_records = record {
  outcomes = record {
    records = record { frame = e3.frame; outcome = RingFull (Lane f 0) }
        ∷ record { frame = e5.frame; outcome = PoolEmpty }
        ∷ [];
    sent = [];
  };
  posts = [];
}

pub receives_five : (now : ℕ) (moment : ℕ → ℕ)
    → IsReceivePromise setting 0 now moment [] all_five two_records (Did 5)
receives_five now moment = record {
  added = all_five;
  grown = refl;
  so_far = record { rests = (five_are _).rests; kept = record { records = refl; sent = refl; posts = refl } };
  whole = λ e. five_are _;
  tells = (omega arith, refl);
}
