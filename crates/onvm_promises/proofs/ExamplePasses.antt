-- One frame on its way: it is received, handled and sampled, moved, and its sample is taken. Each of the four passes is
-- whole.
use Rattle.std.proofs.Common.{◌≡◌, ℕ, ◌+◌, ◌^◌, ◌<◌, ◌≤◌, Bool, true, false, inl, inr, [], ◌∷◌, refl, ap, subst, arith, None}
use Rattle.std.specs.Prelude.{◌==◌, if◌then◌else◌}
use Rattle.std.proofs.lemmas.Bool.{cases_Bool}
use Rattle.onvm_base.specs.declared.ids.FnId.{FnId}
use Rattle.onvm_base.specs.declared.ids.RingId.TheVariants.{Lane, Output, Mail}
use Rattle.onvm_base.specs.declared.limits.TheConstants.{MAIL_RING}
use Rattle.onvm_base.specs.declared.outcome.Outcome.TheVariants.{Sent}
use Rattle.onvm_core.specs.declared.layout.Word.TheVariants.{Cell}
use Rattle.onvm_core.specs.declared.step.Act.{Act}
use Rattle.onvm_core.specs.declared.step.Act.TheVariants.{Push, Pop, Empty, Look}
use Rattle.onvm_core.specs.declared.step.Item.TheVariants.{Buffer, Number}
use Rattle.onvm_core.specs.Logs.{Log, log_of}
use Rattle.onvm_core.specs.Handling.{IsOwn}
use Rattle.onvm_core.specs.Samples.{is_sampled}
use Rattle.onvm_core.specs.Marks.{Ages}
use Rattle.onvm_core.proofs.Marked.{no_bit}
use Rattle.onvm_core.proofs.Steps.{◌◂◌}
use Rattle.onvm_core.proofs.Walk.{f, buf, entered, handled, walk}
use Rattle.onvm_core.proofs.WalkLogs.{setting, walk_follows}
use Rattle.onvm_promises.specs.Acts.IsBlockStep.{AnAsk, ASeek, ATake, APush as BlockPush}
use Rattle.onvm_promises.specs.Acts.IsMoveStep.{APop, AnEmpty, AGive as MoveGive}
use Rattle.onvm_promises.specs.Passes.{HasOneSample, IsCorePass, IsDrained, IsMarksPass, IsReceivePass, IsSendPass, IsServed, IsTickPass, is_pop_of}
use Rattle.onvm_promises.specs.Passes.EndsWithEmpties.{NoEmpty, OneEmpty}
use Rattle.onvm_core.specs.Places.{how_many}
use Rattle.onvm_promises.specs.Rests.{IsSettledFeeder}

-- the one function
pub only : (g : FnId) → g.0 < 1 → f ≡ g
only g less = let zero_is : 0 ≡ g.0 = omega (arith, less) in ap (λ (n : ℕ). record { 0 = n }) zero_is

pub settled : (feeder : ℕ) (aged : Ages) → IsSettledFeeder setting feeder aged []
settled feeder aged = record { marked = tt; ended = tt; paid = inl no_bit; paced = tt }

-- a feeder that has pushed nothing has no lane to look at
pub no_marks : (feeder : ℕ) (aged : Ages) → IsMarksPass setting feeder aged [] []
no_marks feeder aged =
    record { marks = tt; settled = settled feeder aged; one = λ some. absurd (some refl); none = λ e. refl }

-- Received

abbrev pub received : Log
received = log_of 0 walk

pub received_settled : (aged : Ages) → IsSettledFeeder setting 0 aged received
received_settled aged = record {
  marked = inl no_bit ◂ inl no_bit ◂ inl no_bit ◂ inl no_bit ◂ inl no_bit ◂ tt;
  ended = tt;
  paid = inl no_bit;
  paced =
      ((λ known. omega arith), λ g. omega arith)
      ◂ ((λ known. omega arith), λ g. omega arith)
      ◂ ((λ known. omega arith), λ g. omega arith)
      ◂ ((λ known. omega arith), λ g. omega arith)
      ◂ ((λ known. omega arith), λ g. omega arith)
      ◂ tt;
}

pub received_is : (aged : Ages) → IsReceivePass setting 0 aged [] received
received_is aged = record {
  marks = [];
  blocks = received;
  parts = refl;
  pass = no_marks 0 aged;
  steps = BlockPush f 0 (Buffer buf entered) ◂ ATake buf ◂ ASeek (record { 0 = 0 }) 0 18446744073709551615 None
      ◂ AnAsk 1 0 None
      ◂ AnAsk 0 0 None
      ◂ tt;
  count = refl;
  rests = record { blocks = walk_follows 0; between = refl; feeder = received_settled aged };
}

-- Handled: the look at the weight word, the frame, no other one, and a sample of one frame that took 100

abbrev pub mailed : Act
mailed = Push (Mail f) (Number (2 ^ 40 + 100))

abbrev pub served : Log
served =
    mailed ∷ Empty (Lane f 0) ∷ Empty (Lane f 1) ∷ Look (Cell (Output f) 1) 0 None ∷ log_of 2 walk

pub own : IsOwn setting 2 f
own = record { known = omega arith; core = refl }

served_once : IsServed setting f [] served
served_once = record {
  earlier = [];
  service = Empty (Lane f 0) ∷ Empty (Lane f 1) ∷ Look (Cell (Output f) 1) 0 None ∷ Push (Output f) (Buffer buf handled)
      ∷ Pop (Lane f 0) (Buffer buf entered) ∷ Look (Cell (Output f) 0) 0 None ∷ [];
  later = mailed ∷ [];
  seen = 0;
  parts = refl;
  ends = inr (inr (OneEmpty f 0 1 _ refl (OneEmpty f 1 0 _ refl (NoEmpty _))));
  once = refl;
  alone = refl;
  barred_once = omega arith;
  behind = λ none. refl;
}

pub served_is : IsCorePass setting 2 [] served
served_is = record {
  served = λ g mine. subst (λ (h : FnId). IsServed setting h [] served) (only g mine.known) served_once;
  samples = λ g mine. subst (λ (h : FnId). HasOneSample h served) (only g mine.known) refl;
  rests = record {
    blocks = own ◂ (own, omega arith) ◂ (own, omega arith) ◂ ((own, omega arith), refl) ◂ walk_follows 2;
    hand = refl;
    tries = tt ◂ refl ◂ refl ◂ tt ◂ tt ◂ refl ◂ tt ◂ tt ◂ tt;
    looks = tt ◂ tt ◂ tt ◂ refl ◂ tt ◂ tt ◂ refl ◂ tt ◂ tt;
    samples = (refl, omega arith) ◂ tt ◂ tt ◂ tt ◂ tt ◂ tt ◂ tt ◂ tt ◂ tt;
    sampled = λ g mine. subst (λ (h : FnId). is_sampled h served ≡ true) (only g mine.known) refl;
  };
}

-- Moved

abbrev pub moved : Log
moved = Empty (Output f) ∷ log_of 1 walk

few : (b : Bool) → 0 + (if b then 1 else 0) ≤ 32
few true = omega arith
few false = omega arith

pub moved_settled : (aged : Ages) → IsSettledFeeder setting 1 aged moved
moved_settled aged = record {
  marked = inl no_bit ◂ inl no_bit ◂ inl no_bit ◂ tt;
  ended = tt;
  paid = inl no_bit;
  paced =
      ((λ known. absurd (omega (arith, known))), λ g. few (0 == g))
      ◂ ((λ known. absurd (omega (arith, known))), λ g. few (0 == g))
      ◂ ((λ known. absurd (omega (arith, known))), λ g. few (0 == g))
      ◂ tt;
}

-- one pop at most of any ring
few_popped : (g : FnId) → how_many (is_pop_of (Output g)) moved ≤ 32
few_popped g = elim (cases_Bool (0 == g.0)) [ inl hit ↦ rw hit (omega arith) | inr miss ↦ rw miss (omega arith) ]

pub moved_is : (aged : Ages) → IsSendPass setting 1 aged [] moved
moved_is aged = record {
  marks = [];
  moves = moved;
  parts = refl;
  pass = no_marks 1 aged;
  steps = AnEmpty f (omega arith) ◂ MoveGive buf (Sent 0) handled ◂ APop f (Buffer buf handled) (omega arith) ◂ tt;
  few = few_popped;
  drained = λ g reads.
      subst (λ (h : FnId). IsDrained (Output h) 32 moved) (only g reads.known)
      (record { bounded = omega arith; fewer = λ less. refl });
  rests = record {
    blocks = record { known = omega arith; consumes = refl } ◂ walk_follows 1;
    free = refl;
    feeder = moved_settled aged;
  };
}

-- Taken

abbrev pub taken : Log
taken = Empty (Mail f) ∷ Pop (Mail f) (Number (2 ^ 40 + 100)) ∷ []

pub taken_is : IsTickPass setting 3 [] taken
taken_is = record {
  blocks = omega arith ◂ omega arith ◂ tt;
  drained = λ g known.
      subst (λ (h : FnId). IsDrained (Mail h) MAIL_RING taken) (only g known)
      (record { bounded = omega arith; fewer = λ less. refl });
}
