-- Where a session begins: nothing was done, and its invariant holds.
use Rattle.std.proofs.Common.{◌≡◌, ℕ, ◌+◌, ◌<◌, Bool, true, false, inl, inr, [], refl, arith}
use Rattle.std.specs.Prelude.{◌==◌, nat_lt}
use Rattle.std.proofs.lemmas.Bool.{cases_Bool, eq-eqb, ltb-false}
use Rattle.onvm_core.specs.declared.layout.Layout.{Layout}
use Rattle.onvm_core.specs.Blocks.RoleKind.{Receives, Sends, Handles, Ticks, Leads}
use Rattle.onvm_session.specs.Views.ArePhases.{NoPhase}
use Rattle.onvm_session.specs.Views.AreTurns.{NoTurn}
use Rattle.onvm_core.proofs.Marked.{no_bit}
use Rattle.onvm_core.specs.Blocks.{RoleKind, kind_of}
use Rattle.onvm_core.specs.Journals.{Handling}
use Rattle.onvm_core.specs.Layouts.{first_role}
use Rattle.onvm_core.specs.Logs.{Setting}
use Rattle.onvm_core.specs.Marks.{Ages}
use Rattle.onvm_promises.specs.Rests.{IsSettledFeeder}
use Rattle.onvm_session.specs.Sessions.{IsRoleSoFar, IsSession, IsSoFar, AreTicksTimed}
use Rattle.onvm_session.specs.Starts.{FirstMoment, first_view, no_keeps}

settled : (setting : Setting) (feeder : ℕ) (aged : Ages) → IsSettledFeeder setting feeder aged []
settled setting feeder aged = record { marked = tt; ended = tt; paid = inl no_bit; paced = tt }

-- a role below the first token's is of one of the four kinds
not_lead : (layout : Layout) (role : ℕ) → role < first_role layout → kind_of layout role ≡ Leads → ⊥
not_lead layout role known e =
    elim (cases_Bool (nat_lt role layout.ports)) [
      | inl a ↦ let off : Receives ≡ Leads = rw a at e in cc
      | inr a ↦ elim (cases_Bool (nat_lt role (layout.ports + layout.transmit))) [
        | inl b ↦ let off : Sends ≡ Leads = rw (a, b) at e in cc
        | inr b ↦ elim (cases_Bool (nat_lt role (layout.ports + layout.transmit + layout.cores))) [
          | inl c ↦ let off : Handles ≡ Leads = rw (a, b, c) at e in cc
          | inr c ↦
              let from = ltb-false role (layout.ports + layout.transmit + layout.cores) c in
              let is : (role == layout.ports + layout.transmit + layout.cores) ≡ true =
              eq-eqb role (layout.ports + layout.transmit + layout.cores) (omega (arith, from, known)) in
              let off : Ticks ≡ Leads = rw (a, b, c, is) at e in cc
        ]
      ]
    ]

role_starts : {S : Type 0} (acts : ℕ → S → Handling → S → Type 0) (start : ℕ → S)
    (cost_may_take : ℕ → ℕ → Type 0) (setting : Setting) (role : ℕ) (kind : RoleKind) (moment : ℕ → ℕ)
    → (kind ≡ Leads → ⊥)
    → IsRoleSoFar acts start start cost_may_take setting role kind moment [] no_keeps
role_starts acts start cost_may_take setting role Receives moment other = record {
  rests = record { blocks = tt; between = refl; feeder = settled setting role _ };
  kept = record { records = refl; sent = refl; posts = refl };
}
role_starts acts start cost_may_take setting role Sends moment other = record {
  rests = record { blocks = tt; free = refl; feeder = settled setting role _ };
  kept = record { records = refl; sent = refl; posts = refl };
}
role_starts acts start cost_may_take setting role Handles moment other = (
  record {
    rests = record { blocks = tt; hand = refl; tries = tt; looks = tt; samples = tt; sampled = λ f own. refl };
    timed = tt;
    journals = λ f own. refl;
    kept = record { yields = refl; lost = refl };
  },
  record { at_looks = λ f own. tt; now = λ f own. refl },
)
role_starts acts start cost_may_take setting role Ticks moment other = record { blocks = tt; kept = refl }
role_starts acts start cost_may_take setting role Leads moment other = absurd (other refl)

so_far_starts : (serial : Bool) (may_tell : ℕ → Type 0) (setting : Setting) (moments : ℕ → ℕ → ℕ)
    → IsSoFar serial may_tell setting moments first_view
so_far_starts true may_tell setting moments = record {
  turns = NoTurn;
  counts = refl;
  has = record {
    rising = tt;
    within = tt;
    kept = λ role. refl;
    whole = tt;
    timed = λ role number less. absurd (omega (arith, less));
  };
}
so_far_starts false may_tell setting moments = record {
  phases = NoPhase;
  kept = λ role. refl;
  timed = λ role number less. absurd (omega (arith, less));
}

ticks_start : (serial : Bool) (may_tell : ℕ → Type 0) (setting : Setting) (first : ℕ) → FirstMoment serial first
    → AreTicksTimed serial may_tell setting 0 first first no_keeps
ticks_start true may_tell setting first at = record {
  first_is = at;
  latest_is = at;
  ticks = record { moments = refl; none_before = λ e. refl; taken = λ few. tt };
}
ticks_start false may_tell setting first at = tt

pub session_starts : {S : Type 0} (serial : Bool) (may_tell : ℕ → Type 0) (acts : ℕ → S → Handling → S → Type 0)
    (start : ℕ → S) (cost_may_take : ℕ → ℕ → Type 0) (setting : Setting) (moments : ℕ → ℕ → ℕ) (first : ℕ)
    → FirstMoment serial first
    → IsSession serial may_tell acts start start cost_may_take setting moments first first first_view (λ role. no_keeps)
session_starts serial may_tell acts start cost_may_take setting moments first at = record {
  so_far = so_far_starts serial may_tell setting moments;
  roles = λ role known.
      role_starts acts start cost_may_take setting role (kind_of setting.layout role) (moments role)
      (not_lead setting.layout role known);
  ticks = record {
    so_far = record { are = tt; apart = tt; rise = tt; posted = λ f known. refl };
    never_fall = tt;
    up_to = tt;
    last = omega arith;
  };
  timed_ticks = ticks_start serial may_tell setting first at;
}
