-- The core's three passes under overload: each has a look at the weight word, one frame, which is the budget, and its
-- sample, that took 100.
use Rattle.std.proofs.Common.{◌≡◌, ℕ, ◌+◌, ◌^◌, ◌<◌, true, inl, [], ◌∷◌, ◌++◌, refl, ap, subst, arith, None}
use Rattle.onvm_base.specs.declared.ids.FnId.{FnId}
use Rattle.onvm_base.specs.declared.ids.RingId.TheVariants.{Lane, Output, Mail}
use Rattle.onvm_base.specs.declared.outcome.Verdict.TheVariants.{Next}
use Rattle.onvm_core.specs.declared.layout.Word.TheVariants.{Cell, Weight}
use Rattle.onvm_core.specs.declared.step.Act.{Act}
use Rattle.onvm_core.specs.declared.step.Act.TheVariants.{Push, Pop, Empty, Look}
use Rattle.onvm_core.specs.declared.step.Item.TheVariants.{Buffer, Number}
use Rattle.onvm_core.specs.Blocks.{IsOfBlocks}
use Rattle.onvm_core.specs.Handling.{IsOwn}
use Rattle.onvm_core.specs.Handling.SawRoom.{ByLook, Since}
use Rattle.onvm_core.specs.Logs.{Log, entry_parcel}
use Rattle.onvm_core.specs.Samples.{is_sampled}
use Rattle.onvm_core.proofs.Crowd.{f, b0, b1, b2}
use Rattle.onvm_core.proofs.HeldSteps.{handled}
use Rattle.onvm_core.proofs.Steps.{◌◂◌}
use Rattle.onvm_promises.specs.Passes.{HasOneSample, IsCorePass, IsServed}
use Rattle.onvm_promises.specs.Rests.{RestsHandling}
use Rattle.onvm_session.proofs.OverloadPlan.{e1, e2, e3, setting}

-- the one function
pub only : (g : FnId) → g.0 < 1 → f ≡ g
only g less = let zero_is : 0 ≡ g.0 = omega (arith, less) in ap (λ (n : ℕ). record { 0 = n }) zero_is

abbrev pub mailed : Act
mailed = Push (Mail f) (Number (2 ^ 40 + 100))

abbrev first_service : Log
first_service =
    Push (Output f) (Buffer b0 (handled e1 0)) ∷ Pop (Lane f 0) (Buffer b0 (entry_parcel e1))
    ∷ Look (Cell (Output f) 0) 0 None
    ∷ []

abbrev pub first_served : Log
first_served =
    mailed ∷ Push (Output f) (Buffer b0 (handled e1 0)) ∷ Pop (Lane f 0) (Buffer b0 (entry_parcel e1))
    ∷ Look (Cell (Output f) 0) 0 None
    ∷ Look (Weight f) 0 None
    ∷ []

abbrev second_service : Log
second_service =
    Push (Output f) (Buffer b1 (handled e2 1)) ∷ Pop (Lane f 0) (Buffer b1 (entry_parcel e2)) ∷ Empty (Lane f 1)
    ∷ Look (Cell (Output f) 1) 0 None
    ∷ []

abbrev pub second_served : Log
second_served =
    mailed ∷ Push (Output f) (Buffer b1 (handled e2 1)) ∷ Pop (Lane f 0) (Buffer b1 (entry_parcel e2))
    ∷ Empty (Lane f 1)
    ∷ Look (Cell (Output f) 1) 0 None
    ∷ Look (Weight f) 0 None
    ∷ []

abbrev third_service : Log
third_service =
    Push (Output f) (Buffer b2 (handled e3 2)) ∷ Pop (Lane f 0) (Buffer b2 (entry_parcel e3)) ∷ Empty (Lane f 1)
    ∷ Look (Cell (Output f) 0) 0 None
    ∷ []

abbrev pub third_served : Log
third_served =
    mailed ∷ Push (Output f) (Buffer b2 (handled e3 2)) ∷ Pop (Lane f 0) (Buffer b2 (entry_parcel e3))
    ∷ Empty (Lane f 1)
    ∷ Look (Cell (Output f) 0) 0 None
    ∷ Look (Weight f) 0 None
    ∷ []

abbrev pub two_served : Log
two_served = second_served ++ first_served

abbrev pub core_log : Log
core_log = third_served ++ two_served

own : IsOwn setting 2 f
own = record { known = omega arith; core = refl }

first_blocks : IsOfBlocks setting 2 first_served
first_blocks =
    own
    ◂ record {
      own = own;
      hand = record { function = f; buf = 0; parcel = entry_parcel e1 };
      held = refl;
      function = refl;
      same = refl;
      handled = record { verdict = Next; same = refl };
    }
    ◂ record {
      own = own;
      known = omega arith;
      free = refl;
      room = ByLook (Look (Weight f) 0 None ∷ []);
      left = omega arith;
    }
    ◂ ((own, omega arith), refl)
    ◂ (own, refl)
    ◂ tt

first_once : IsServed setting f [] first_served
first_once = record {
  earlier = [];
  service = first_service;
  later = mailed ∷ [];
  seen = 0;
  parts = refl;
  ends = inl refl;
  once = refl;
  alone = refl;
  barred_once = omega arith;
  behind = λ none. refl;
}

first_rests : RestsHandling setting 2 None first_served
first_rests = record {
  blocks = first_blocks;
  hand = refl;
  tries = tt ◂ tt ◂ refl ◂ tt ◂ tt ◂ tt;
  looks = tt ◂ tt ◂ tt ◂ refl ◂ tt ◂ tt;
  samples = (refl, omega arith) ◂ tt ◂ tt ◂ tt ◂ tt ◂ tt;
  sampled = λ g mine. subst (λ (h : FnId). is_sampled h first_served ≡ true) (only g mine.known) refl;
}

pub first_served_is : IsCorePass setting 2 [] first_served
first_served_is = record {
  served = λ g mine. subst (λ (h : FnId). IsServed setting h [] first_served) (only g mine.known) first_once;
  samples = λ g mine. subst (λ (h : FnId). HasOneSample h first_served) (only g mine.known) refl;
  rests = first_rests;
}

second_blocks : IsOfBlocks setting 2 two_served
second_blocks =
    own
    ◂ record {
      own = own;
      hand = record { function = f; buf = 1; parcel = entry_parcel e2 };
      held = refl;
      function = refl;
      same = refl;
      handled = record { verdict = Next; same = refl };
    }
    ◂ record {
      own = own;
      known = omega arith;
      free = refl;
      room = Since (Empty (Lane f 1)) _ refl (ByLook (Look (Weight f) 0 None ∷ first_served));
      left = omega arith;
    }
    ◂ (own, omega arith)
    ◂ ((own, omega arith), refl)
    ◂ (own, refl)
    ◂ first_blocks

second_once : IsServed setting f first_served second_served
second_once = record {
  earlier = [];
  service = second_service;
  later = mailed ∷ [];
  seen = 0;
  parts = refl;
  ends = inl refl;
  once = refl;
  alone = refl;
  barred_once = omega arith;
  behind = λ none. refl;
}

second_rests : RestsHandling setting 2 None two_served
second_rests = record {
  blocks = second_blocks;
  hand = refl;
  tries = tt ◂ tt ◂ refl ◂ refl ◂ tt ◂ tt ◂ first_rests.tries;
  looks = tt ◂ tt ◂ tt ◂ tt ◂ refl ◂ tt ◂ first_rests.looks;
  samples = (refl, omega arith) ◂ tt ◂ tt ◂ tt ◂ tt ◂ tt ◂ first_rests.samples;
  sampled = λ g mine. subst (λ (h : FnId). is_sampled h two_served ≡ true) (only g mine.known) refl;
}

pub second_served_is : IsCorePass setting 2 first_served second_served
second_served_is = record {
  served = λ g mine.
      subst (λ (h : FnId). IsServed setting h first_served second_served) (only g mine.known) second_once;
  samples = λ g mine. subst (λ (h : FnId). HasOneSample h second_served) (only g mine.known) refl;
  rests = second_rests;
}

third_blocks : IsOfBlocks setting 2 core_log
third_blocks =
    own
    ◂ record {
      own = own;
      hand = record { function = f; buf = 2; parcel = entry_parcel e3 };
      held = refl;
      function = refl;
      same = refl;
      handled = record { verdict = Next; same = refl };
    }
    ◂ record {
      own = own;
      known = omega arith;
      free = refl;
      room = Since (Empty (Lane f 1)) _ refl (ByLook (Look (Weight f) 0 None ∷ two_served));
      left = omega arith;
    }
    ◂ (own, omega arith)
    ◂ ((own, omega arith), refl)
    ◂ (own, refl)
    ◂ second_blocks

third_once : IsServed setting f two_served third_served
third_once = record {
  earlier = [];
  service = third_service;
  later = mailed ∷ [];
  seen = 0;
  parts = refl;
  ends = inl refl;
  once = refl;
  alone = refl;
  barred_once = omega arith;
  behind = λ none. refl;
}

third_rests : RestsHandling setting 2 None core_log
third_rests = record {
  blocks = third_blocks;
  hand = refl;
  tries = tt ◂ tt ◂ refl ◂ refl ◂ tt ◂ tt ◂ second_rests.tries;
  looks = tt ◂ tt ◂ tt ◂ tt ◂ refl ◂ tt ◂ second_rests.looks;
  samples = (refl, omega arith) ◂ tt ◂ tt ◂ tt ◂ tt ◂ tt ◂ second_rests.samples;
  sampled = λ g mine. subst (λ (h : FnId). is_sampled h core_log ≡ true) (only g mine.known) refl;
}

pub third_served_is : IsCorePass setting 2 two_served third_served
third_served_is = record {
  served = λ g mine. subst (λ (h : FnId). IsServed setting h two_served third_served) (only g mine.known) third_once;
  samples = λ g mine. subst (λ (h : FnId). HasOneSample h third_served) (only g mine.known) refl;
  rests = third_rests;
}
