-- What a step leaves standing, and that it happened.
use Rattle.std.proofs.Common.{◌≡◌, ℕ, ◌<◌, true, ◌∷◌, set, refl, arith}
use Rattle.std.specs.Prelude.{Option}
use mathlib.Core.Option.{some}
use lib.ListN.{get_elem?}
use Rattle.atomic_table.specs.Table.{State}
use Rattle.onvm_base.specs.declared.ids.RingId.{RingId}
use Rattle.onvm_base.specs.declared.ids.RingId.TheVariants.{Lane, Output, Mail}
use Rattle.onvm_core.specs.declared.layout.Layout.{Layout}
use Rattle.onvm_core.specs.declared.parcel.Parcel.{Parcel}
use Rattle.onvm_core.specs.declared.step.Act.{Act}
use Rattle.onvm_core.specs.declared.step.Act.TheVariants.{Full, Empty}
use Rattle.onvm_core.specs.Layouts.{IsLayout, ring_size}
use Rattle.onvm_core.specs.History.{History}
use Rattle.onvm_core.specs.Lawful.{AllowsAct}
use Rattle.onvm_board.specs.declared.view.View.{View}
use Rattle.onvm_board.specs.Homes.{Home, home_of, home_after}
use Rattle.onvm_board.specs.Rule.{step_of, StandsFor, IsSeatOf, HasNonzeroMail, view_after, IsLastStep}
use Rattle.onvm_board.proofs.Values.{quiet_value, IsQuiet}
use Rattle.onvm_board.proofs.Seats.{IsPlain, words_kept, homes_kept, stays}

-- a ring has room for something
pub ring_some : (layout : Layout) → IsLayout layout → (ring : RingId) → 0 < ring_size layout ring
ring_some layout is (Lane f feeder) = omega (arith, is.ring.0)
ring_some layout is (Output f) = omega (arith, is.output.0)
ring_some layout is (Mail f) = omega arith

-- it has happened
pub happened : (layout : Layout) (act : Act) (state : State (Option Parcel) View) (past : History) (seat_of : ℕ → ℕ)
    (id : ℕ) (view : View) → StandsFor layout state past seat_of → get_elem? state.views id ≡ some view
    → view.live ≡ true → HasNonzeroMail act → AllowsAct layout past view.role act → IsLastStep layout view.role act view.log
happened layout act state past seat_of id view st here on mark allowed =
    let mine : IsSeatOf layout past seat_of id view = st.seats id view here on in record {
      before = past;
      known = mine.log;
      lawful = (record { live = mine.live; allowed = allowed }, st.lawful);
      marked = (mark, st.marked);
    }

abbrev pub QuietPlain : Act → Type 0
QuietPlain act = IsQuiet act × IsPlain act × HasNonzeroMail act × ((b : ℕ) (was : Home) → home_after b act was ≡ was)

-- an act that changes nothing keeps the rule, with the words as they were
pub quiet_stays : (layout : Layout) (act : Act) (state : State (Option Parcel) View) (past : History)
    (seat_of : ℕ → ℕ) (id : ℕ) (view : View) → QuietPlain act
    → StandsFor layout state past seat_of → get_elem? state.views id ≡ some view
    → view.live ≡ true → AllowsAct layout past view.role act
    → StandsFor layout (record {
      words = state.words;
      homes = state.homes;
      views = set state.views id
          (view_after act view);
    })
    (step_of view.role act ∷ past) seat_of
quiet_stays layout act state past seat_of id view quiet st here on allowed =
    stays layout past seat_of act state state.words state.homes id view quiet.1 quiet.2 st here on allowed refl refl
    (words_kept layout state.words past (step_of view.role act ∷ past)
    (quiet_value layout past view.role act quiet.0
    (record { live = (st.seats id view here on).live; allowed = allowed }, st.lawful)) st.words)
    (homes_kept layout state.homes past (step_of view.role act ∷ past) (λ b. quiet.3 b (home_of b past)) st.homes)

pub full_quiet : (ring : RingId) → QuietPlain (Full ring)
full_quiet ring = (tt, tt, tt, λ b was. refl)

pub empty_quiet : (ring : RingId) → QuietPlain (Empty ring)
empty_quiet ring = (tt, tt, tt, λ b was. refl)
