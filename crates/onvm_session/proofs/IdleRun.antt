-- The run without a frame is accounted for: its history is lawful, and all that is asked of a run is met.
use Rattle.std.proofs.Common.{◌≡◌, ℕ, zero, suc, ◌<◌, [], ◌∷◌, refl, arith, None}
use Rattle.onvm_base.specs.declared.ids.RingId.TheVariants.{Lane, Output, Mail}
use Rattle.onvm_core.specs.declared.layout.Word.TheVariants.{Pool as PoolWord, Cell, Weight}
use Rattle.onvm_core.specs.declared.place.Place.TheVariants.{Pool, Role}
use Rattle.onvm_core.specs.declared.step.Act.{Act}
use Rattle.onvm_core.specs.declared.step.Act.TheVariants.{Split, Join, Empty, Look}
use Rattle.onvm_core.specs.declared.step.Step.{Step}
use Rattle.onvm_core.proofs.Walk.{layout, f}
use Rattle.onvm_core.specs.History.{History}
use Rattle.onvm_core.specs.Lawful.{Allows, IsLawful}
use Rattle.onvm_core.specs.Logs.{log_of}
use Rattle.onvm_core.specs.Words.{pool_bits}
use Rattle.onvm_session.proofs.IdleRound.{logs, final}
use Rattle.onvm_session.specs.Views.{IsHistoryOf}

abbrev by : ℕ → Act → Step
by role act = record { role = role; act = act }

abbrev look : Step
look = by 4 (Look (PoolWord (record { 0 = 0 }) 0) 18446744073709551615 None)

abbrev h1 : History
h1 = by 4 (Split 0) ∷ []

abbrev h2 : History
h2 = by 4 (Join 0) ∷ h1

abbrev h3 : History
h3 = look ∷ h2

abbrev h4 : History
h4 = by 4 (Split 2) ∷ h3

abbrev h5 : History
h5 = by 2 (Look (Weight f) 0 None) ∷ h4

abbrev h6 : History
h6 = by 2 (Look (Cell (Output f) 0) 0 None) ∷ h5

abbrev h7 : History
h7 = by 2 (Empty (Lane f 0)) ∷ h6

abbrev h8 : History
h8 = by 2 (Empty (Lane f 1)) ∷ h7

abbrev h9 : History
h9 = by 4 (Join 2) ∷ h8

abbrev h10 : History
h10 = look ∷ h9

abbrev h11 : History
h11 = by 4 (Split 1) ∷ h10

abbrev h12 : History
h12 = by 1 (Empty (Output f)) ∷ h11

abbrev h13 : History
h13 = by 4 (Join 1) ∷ h12

abbrev h14 : History
h14 = look ∷ h13

abbrev h15 : History
h15 = by 4 (Split 3) ∷ h14

abbrev h16 : History
h16 = by 3 (Empty (Mail f)) ∷ h15

abbrev h17 : History
h17 = by 4 (Join 3) ∷ h16

abbrev h18 : History
h18 = look ∷ h17

abbrev h19 : History
h19 = by 4 (Split 3) ∷ h18

abbrev h20 : History
h20 = by 3 (Empty (Mail f)) ∷ h19

abbrev h21 : History
h21 = by 4 (Join 3) ∷ h20

abbrev pub past : History
past = look ∷ h21

-- no buffer ever left the pool
never : (role : ℕ) → Pool ≡ Role role → ⊥
never role e = cc

pool_2 : 18446744073709551615 ≡ pool_bits layout h2 0 0
unfolding pool_bits
pool_2 = refl

pool_9 : 18446744073709551615 ≡ pool_bits layout h9 0 0
unfolding pool_bits
pool_9 = refl

pool_13 : 18446744073709551615 ≡ pool_bits layout h13 0 0
unfolding pool_bits
pool_13 = refl

pool_17 : 18446744073709551615 ≡ pool_bits layout h17 0 0
unfolding pool_bits
pool_17 = refl

pool_21 : 18446744073709551615 ≡ pool_bits layout h21 0 0
unfolding pool_bits
pool_21 = refl

looks : (before : History) → 18446744073709551615 ≡ pool_bits layout before 0 0 → Allows layout before look
looks before shows = record {
  live = refl;
  allowed = record { known = (omega arith, omega arith); true_value = shows; names = tt };
}

l4 : IsLawful layout h4
l4 = (
  record { live = refl; allowed = record { first = refl; below = omega arith; not_live = refl } },
  (
    looks h2 pool_2,
    (
      record {
        live = refl;
        allowed = record {
          first = refl;
          another = λ e. absurd (omega (arith, e));
          live = refl;
          empty_handed = λ buf known e. never 0 e;
        };
      },
      (record { live = refl; allowed = record { first = refl; below = omega arith; not_live = refl } }, tt),
    ),
  ),
)

l8 : IsLawful layout h8
l8 = (
  record { live = refl; allowed = record { known = (omega arith, omega arith); own_end = refl; empty = refl } },
  (
    record { live = refl; allowed = record { known = (omega arith, omega arith); own_end = refl; empty = refl } },
    (
      record { live = refl; allowed = record { known = (omega arith, omega arith); true_value = refl; names = tt } },
      (record { live = refl; allowed = record { known = omega arith; true_value = refl; names = tt } }, l4),
    ),
  ),
)

l12 : IsLawful layout h12
l12 = (
  record { live = refl; allowed = record { known = omega arith; own_end = refl; empty = refl } },
  (
    record { live = refl; allowed = record { first = refl; below = omega arith; not_live = refl } },
    (
      looks h9 pool_9,
      (
        record {
          live = refl;
          allowed = record {
            first = refl;
            another = λ e. absurd (omega (arith, e));
            live = refl;
            empty_handed = λ buf known e. never 2 e;
          };
        },
        l8,
      ),
    ),
  ),
)

l16 : IsLawful layout h16
l16 = (
  record { live = refl; allowed = record { known = omega arith; own_end = refl; empty = refl } },
  (
    record { live = refl; allowed = record { first = refl; below = omega arith; not_live = refl } },
    (
      looks h13 pool_13,
      (
        record {
          live = refl;
          allowed = record {
            first = refl;
            another = λ e. absurd (omega (arith, e));
            live = refl;
            empty_handed = λ buf known e. never 1 e;
          };
        },
        l12,
      ),
    ),
  ),
)

l20 : IsLawful layout h20
l20 = (
  record { live = refl; allowed = record { known = omega arith; own_end = refl; empty = refl } },
  (
    record { live = refl; allowed = record { first = refl; below = omega arith; not_live = refl } },
    (
      looks h17 pool_17,
      (
        record {
          live = refl;
          allowed = record {
            first = refl;
            another = λ e. absurd (omega (arith, e));
            live = refl;
            empty_handed = λ buf known e. never 3 e;
          };
        },
        l16,
      ),
    ),
  ),
)

pub lawful : IsLawful layout past
lawful = (
  looks h21 pool_21,
  (
    record {
      live = refl;
      allowed = record {
        first = refl;
        another = λ e. absurd (omega (arith, e));
        live = refl;
        empty_handed = λ buf known e. never 3 e;
      };
    },
    l20,
  ),
)

logs_are : (role : ℕ) → role < 4 → logs role ≡ log_of role past
logs_are zero less = refl
logs_are (suc zero) less = refl
logs_are (suc (suc zero)) less = refl
logs_are (suc (suc (suc zero))) less = refl
logs_are (suc (suc (suc (suc n)))) less = absurd (omega (arith, less))

pub history_is : IsHistoryOf layout final past
history_is = record { lawful = lawful; lead = refl; logs = logs_are; counts = refl }
