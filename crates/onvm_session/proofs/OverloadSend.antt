-- The transmit role's three passes under overload: each moves the one frame on the output ring, which then is empty.
use Rattle.std.proofs.Common.{◌+◌, ◌≤◌, Bool, true, false, inl, inr, [], ◌∷◌, ◌++◌, refl, subst, arith}
use Rattle.std.specs.Prelude.{◌==◌, if◌then◌else◌}
use Rattle.std.proofs.lemmas.Bool.{cases_Bool}
use Rattle.onvm_base.specs.declared.ids.FnId.{FnId}
use Rattle.onvm_base.specs.declared.ids.RingId.TheVariants.{Output}
use Rattle.onvm_base.specs.declared.outcome.Outcome.TheVariants.{Sent}
use Rattle.onvm_base.specs.declared.outcome.Verdict.TheVariants.{Next}
use Rattle.onvm_core.specs.declared.step.Act.TheVariants.{Give, Pop, Empty}
use Rattle.onvm_core.specs.declared.step.Item.TheVariants.{Buffer}
use Rattle.onvm_core.specs.Logs.{Log}
use Rattle.onvm_core.specs.Marks.{Ages}
use Rattle.onvm_core.specs.Places.{how_many}
use Rattle.onvm_core.proofs.Crowd.{f, b0, b1, b2}
use Rattle.onvm_core.proofs.HeldSteps.{handled}
use Rattle.onvm_core.proofs.Marked.{no_bit}
use Rattle.onvm_core.proofs.Steps.{◌◂◌}
use Rattle.onvm_promises.specs.Acts.IsMoveStep.{APop, AnEmpty, AGive}
use Rattle.onvm_promises.specs.Passes.{IsDrained, IsSendPass, is_pop_of}
use Rattle.onvm_promises.specs.Rests.{IsSettledFeeder, RestsSending}
use Rattle.onvm_session.proofs.OverloadPlan.{e1, e2, e3, setting}
use Rattle.onvm_session.proofs.OverloadCore.{only}

abbrev pub first_moved : Log
first_moved =
    Empty (Output f) ∷ Give b0 (Sent 0) (handled e1 0) ∷ Pop (Output f) (Buffer b0 (handled e1 0)) ∷ []

abbrev pub second_moved : Log
second_moved =
    Empty (Output f) ∷ Give b1 (Sent 0) (handled e2 1) ∷ Pop (Output f) (Buffer b1 (handled e2 1)) ∷ []

abbrev pub third_moved : Log
third_moved =
    Empty (Output f) ∷ Give b2 (Sent 0) (handled e3 2) ∷ Pop (Output f) (Buffer b2 (handled e3 2)) ∷ []

abbrev pub two_moved : Log
two_moved = second_moved ++ first_moved

abbrev pub send_log : Log
send_log = third_moved ++ two_moved

few : (b : Bool) → 0 + (if b then 1 else 0) ≤ 4
few true = omega arith
few false = omega arith

first_settled : (aged : Ages) → IsSettledFeeder setting 1 aged []
first_settled aged = record { marked = tt; ended = tt; paid = inl no_bit; paced = tt }

first_moved_rests : (aged : Ages) → RestsSending setting 1 aged first_moved
first_moved_rests aged = record {
  blocks =
      record { known = omega arith; consumes = refl }
      ◂ (
        refl,
        record { crumb = record { function = f; place = 0; verdict = Next }; last = refl; moved = refl },
        refl,
      )
      ◂ record { known = omega arith; consumes = refl }
      ◂ tt;
  free = refl;
  feeder = record {
    marked = inl no_bit ◂ inl no_bit ◂ inl no_bit ◂ tt;
    ended = tt;
    paid = inl no_bit;
    paced =
        ((λ known. absurd (omega (arith, known))), λ g. few (0 == g))
        ◂ ((λ known. absurd (omega (arith, known))), λ g. few (0 == g))
        ◂ ((λ known. absurd (omega (arith, known))), λ g. few (0 == g))
        ◂ tt;
  };
}

-- one pop at most of any ring
first_few : (g : FnId) → how_many (is_pop_of (Output g)) first_moved ≤ 4
first_few g = elim (cases_Bool (0 == g.0)) [ inl hit ↦ rw hit (omega arith) | inr miss ↦ rw miss (omega arith) ]

pub first_moved_is : (aged : Ages) → IsSendPass setting 1 aged [] first_moved
first_moved_is aged = record {
  marks = [];
  moves = first_moved;
  parts = refl;
  pass = record {
    marks = tt;
    settled = first_settled aged;
    one = λ some. absurd (some refl);
    none = λ e. refl;
  };
  steps = AnEmpty f (omega arith) ◂ AGive b0 (Sent 0) (handled e1 0) ◂ APop f (Buffer b0 (handled e1 0)) (omega arith)
      ◂ tt;
  few = first_few;
  drained = λ g reads.
      subst (λ (h : FnId). IsDrained (Output h) 4 first_moved) (only g reads.known)
      (record { bounded = omega arith; fewer = λ less. refl });
  rests = first_moved_rests aged;
}

second_moved_rests : (aged : Ages) → RestsSending setting 1 aged two_moved
second_moved_rests aged = record {
  blocks =
      record { known = omega arith; consumes = refl }
      ◂ (
        refl,
        record { crumb = record { function = f; place = 1; verdict = Next }; last = refl; moved = refl },
        refl,
      )
      ◂ record { known = omega arith; consumes = refl }
      ◂ (first_moved_rests aged).blocks;
  free = refl;
  feeder = record {
    marked = inl no_bit ◂ inl no_bit ◂ inl no_bit ◂ (first_moved_rests aged).feeder.marked;
    ended = tt;
    paid = inl no_bit;
    paced =
        ((λ known. absurd (omega (arith, known))), λ g. few (0 == g))
        ◂ ((λ known. absurd (omega (arith, known))), λ g. few (0 == g))
        ◂ ((λ known. absurd (omega (arith, known))), λ g. few (0 == g))
        ◂ (first_moved_rests aged).feeder.paced;
  };
}

-- one pop at most of any ring
second_few : (g : FnId) → how_many (is_pop_of (Output g)) second_moved ≤ 4
second_few g = elim (cases_Bool (0 == g.0)) [ inl hit ↦ rw hit (omega arith) | inr miss ↦ rw miss (omega arith) ]

pub second_moved_is : (aged : Ages) → IsSendPass setting 1 aged first_moved second_moved
second_moved_is aged = record {
  marks = [];
  moves = second_moved;
  parts = refl;
  pass = record {
    marks = tt;
    settled = (first_moved_rests aged).feeder;
    one = λ some. absurd (some refl);
    none = λ e. refl;
  };
  steps = AnEmpty f (omega arith) ◂ AGive b1 (Sent 0) (handled e2 1) ◂ APop f (Buffer b1 (handled e2 1)) (omega arith)
      ◂ tt;
  few = second_few;
  drained = λ g reads.
      subst (λ (h : FnId). IsDrained (Output h) 4 second_moved) (only g reads.known)
      (record { bounded = omega arith; fewer = λ less. refl });
  rests = second_moved_rests aged;
}

third_moved_rests : (aged : Ages) → RestsSending setting 1 aged send_log
third_moved_rests aged = record {
  blocks =
      record { known = omega arith; consumes = refl }
      ◂ (
        refl,
        record { crumb = record { function = f; place = 2; verdict = Next }; last = refl; moved = refl },
        refl,
      )
      ◂ record { known = omega arith; consumes = refl }
      ◂ (second_moved_rests aged).blocks;
  free = refl;
  feeder = record {
    marked = inl no_bit ◂ inl no_bit ◂ inl no_bit ◂ (second_moved_rests aged).feeder.marked;
    ended = tt;
    paid = inl no_bit;
    paced =
        ((λ known. absurd (omega (arith, known))), λ g. few (0 == g))
        ◂ ((λ known. absurd (omega (arith, known))), λ g. few (0 == g))
        ◂ ((λ known. absurd (omega (arith, known))), λ g. few (0 == g))
        ◂ (second_moved_rests aged).feeder.paced;
  };
}

-- one pop at most of any ring
third_few : (g : FnId) → how_many (is_pop_of (Output g)) third_moved ≤ 4
third_few g = elim (cases_Bool (0 == g.0)) [ inl hit ↦ rw hit (omega arith) | inr miss ↦ rw miss (omega arith) ]

pub third_moved_is : (aged : Ages) → IsSendPass setting 1 aged two_moved third_moved
third_moved_is aged = record {
  marks = [];
  moves = third_moved;
  parts = refl;
  pass = record {
    marks = tt;
    settled = (second_moved_rests aged).feeder;
    one = λ some. absurd (some refl);
    none = λ e. refl;
  };
  steps = AnEmpty f (omega arith) ◂ AGive b2 (Sent 0) (handled e3 2) ◂ APop f (Buffer b2 (handled e3 2)) (omega arith)
      ◂ tt;
  few = third_few;
  drained = λ g reads.
      subst (λ (h : FnId). IsDrained (Output h) 4 third_moved) (only g reads.known)
      (record { bounded = omega arith; fewer = λ less. refl });
  rests = third_moved_rests aged;
}
