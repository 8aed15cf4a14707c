-- The walk of one frame follows the pattern of each role's log.
use Rattle.std.proofs.Common.{◌≡◌, ℕ, ◌^◌, true, inl, inr, [], ◌∷◌, refl, subst, arith, None}
use Rattle.std.specs.Prelude.{◌==◌, IsBitSet}
use Rattle.std.specs.Int.Bits.{and_zero_l}
use Rattle.std.proofs.lemmas.Bool.{cases_Bool, eqb-true}
use Rattle.onvm_base.specs.declared.outcome.Verdict.TheVariants.{Next}
use Rattle.onvm_core.specs.declared.entry.Entry.{Entry}
use Rattle.onvm_core.specs.declared.layout.Word.TheVariants.{Weight}
use Rattle.onvm_core.specs.declared.step.Act.TheVariants.{Look}
use Rattle.onvm_core.specs.Logs.{Setting, log_of}
use Rattle.onvm_core.specs.Handling.SawRoom.{ByLook}
use Rattle.onvm_core.specs.Blocks.{AllOfBlocks, IsOfBlocks}
use Rattle.onvm_core.proofs.Plans.{smallest}
use Rattle.onvm_core.proofs.Steps.{◌◂◌}
use Rattle.onvm_core.proofs.Walk.{layout, entered, f, first_bit, walk}
use Rattle.onvm_core.specs.History.{History}

abbrev pub entry : Entry
entry =
    record {
      frame = entered.frame;
      stamp = entered.stamp;
      packet = entered.packet;
      chain = entered.chain;
      hash = entered.hash;
    }

abbrev pub setting : Setting
setting = record { layout = layout; plan = smallest; entries = entry ∷ [] }

pub no_bit : (k : ℕ) → ¬ IsBitSet 0 k
no_bit k h = h (and_zero_l (2 ^ k))

receive_is : IsOfBlocks setting 0 (log_of 0 walk)
receive_is =
    -- it enters by the lane to function f
    inr (entry, refl, (refl, refl, record { function = f; cursor = 0; move = refl; lane = refl }))
    -- the buffer of the lowest bit
    ◂ inr (
      entry,
      refl,
      record { known = omega arith; word = refl; shown = first_bit; lowest = λ k less. absurd (omega (arith, less)) },
    )
    ◂ inr (entry, refl, (refl, λ none. absurd (omega (arith, none))))
    -- no feeder's post has a bit
    ◂ inr (entry, refl, (refl, λ k raised. no_bit k raised.bit))
    ◂ inr (entry, refl, (refl, λ k raised. no_bit k raised.bit))
    ◂ tt

core_is : IsOfBlocks setting 2 (log_of 2 walk)
core_is =
    -- it pushes the parcel that it has in hand, handled
    record {
      own = record { known = omega arith; core = refl };
      hand = record { function = f; buf = 0; parcel = entered };
      held = refl;
      function = refl;
      same = refl;
      handled = record { verdict = Next; same = refl };
    }
    -- it saw room, and has a budget
    ◂ record {
      own = record { known = omega arith; core = refl };
      known = omega arith;
      free = refl;
      room = ByLook (Look (Weight f) 0 None ∷ []);
      left = omega arith;
    }
    ◂ ((record { known = omega arith; core = refl }, omega arith), refl)
    ◂ (record { known = omega arith; core = refl }, refl)
    ◂ tt

send_is : IsOfBlocks setting 1 (log_of 1 walk)
send_is =
    -- the verdict Next of the last crumb leads out of the port
    (refl, record { crumb = record { function = f; place = 0; verdict = Next }; last = refl; moved = refl }, refl)
    ◂ record { known = omega arith; consumes = refl }
    ◂ tt

lead_is : IsOfBlocks setting 4 (log_of 4 walk)
lead_is = tt ◂ tt ◂ tt ◂ tt ◂ tt ◂ tt ◂ tt

-- what holds of one role's log holds of a role of the same number
pub at_role : (setting : Setting) (past : History) (n role : ℕ)
    → IsOfBlocks setting n (log_of n past) → (n == role) ≡ true
    → IsOfBlocks setting role (log_of role past)
at_role setting past n role is met = subst (λ r. IsOfBlocks setting r (log_of r past)) (eqb-true n role met) is

pub walk_follows : AllOfBlocks setting walk
walk_follows role =
    elim (cases_Bool (0 == role)) [
      | inl met ↦ at_role setting walk 0 role receive_is met
      | inr not_receive ↦ elim (cases_Bool (1 == role)) [
        | inl met ↦ at_role setting walk 1 role send_is met
        | inr not_send ↦ elim (cases_Bool (2 == role)) [
          | inl met ↦ at_role setting walk 2 role core_is met
          | inr not_core ↦ elim (cases_Bool (4 == role)) [
            | inl met ↦ at_role setting walk 4 role lead_is met
            | inr not_lead ↦ rw (not_receive, not_send, not_core, not_lead) tt
          ]
        ]
      ]
    ]
