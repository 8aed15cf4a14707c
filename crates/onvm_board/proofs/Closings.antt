-- The opening of a board, and its close.
use Rattle.std.proofs.Common.{◌≡◌, ℕ, zero, suc, ◌<◌, true, List, [], ◌∷◌, map, length, get_or, set, replicate, sym, refl, ap, ◌∙◌, subst, ⊎_elim, arith}
use Rattle.std.specs.Prelude.{Option, None}
use Rattle.std.proofs.lemmas.List.{length-replicate}
use mathlib.Core.Option.{some, some-injective, some-ne-none}
use lib.ListN.{get_elem?}
use Rattle.atomic_table.specs.Table.{Splits, opening, Final, Seen}
use Rattle.atomic_table.proofs.Lists.{set_again}
use Rattle.onvm_core.specs.declared.layout.Layout.{Layout}
use Rattle.onvm_core.specs.declared.parcel.Parcel.{Parcel}
use Rattle.onvm_core.specs.Layouts.{IsLayout, first_role}
use Rattle.onvm_core.specs.History.{History}
use Rattle.onvm_board.specs.declared.view.View.{View}
use Rattle.onvm_board.specs.Addresses.{word_count, slot_count}
use Rattle.onvm_board.specs.Rule.{HasHistory, IsSeatOf, ShowsWords, first_view, archived_view, same_view, AllJoined}
use Rattle.onvm_board.specs.Homes.{Home}
use Rattle.onvm_board.specs.Closing.{ShowsSlots}
use Rattle.onvm_board.specs.Tokens.{AreLogsOf}
use Rattle.onvm_board.proofs.Logs.{first_live}
use Rattle.onvm_board.proofs.Looks.{all_of}
use Rattle.onvm_board.proofs.RoleFacts.{off_on, at_longer_end}

default_there : {A : Type 0} (n i : ℕ) (a : A) → get_or (replicate n a) i a ≡ a
default_there zero i a = refl
default_there (suc n) zero a = refl
default_there (suc n) (suc i) a = default_there n i a

opened_sits : (layout : Layout) → IsSeatOf layout [] (λ _. 0) 0 (first_view layout)
opened_sits layout = record {
  place = refl;
  live = first_live layout [];
  log = refl;
  first = λ e. record {
    roles = length-replicate (first_role layout) [];
    logs = λ role below out. default_there (first_role layout) role [];
    counts = refl;
  };
}

opened_seats : (layout : Layout) (seat : ℕ) (view : View) → get_elem? (first_view layout ∷ []) seat ≡ some view
    → view.live ≡ true → IsSeatOf layout [] (λ _. 0) seat view
opened_seats layout zero view e live =
    subst (IsSeatOf layout [] (λ _. 0) 0) (some-injective (first_view layout) view e) (opened_sits layout)
opened_seats layout (suc seat) view e live = absurd (some-ne-none view (sym e))

vacant_home : (n b : ℕ) → b < n
    → get_elem? (map (λ (x : Option Parcel). some x) (replicate n None)) b ≡ some (some None)
vacant_home zero b less = absurd (omega (arith, less))
vacant_home (suc n) zero less = refl
vacant_home (suc n) (suc b) less = vacant_home n b (omega (arith, less))

length-map_some : (xs : List (Option Parcel)) → length (map (λ (x : Option Parcel). some x) xs) ≡ length xs
length-map_some [] = refl
length-map_some (x ∷ xs) = ap suc (length-map_some xs)

-- words that show the values of no step, and vacant slots, stand for no step
pub opens : (layout : Layout) (words : List ℕ) → IsLayout layout → length words ≡ word_count layout
    → ShowsWords layout words [] → HasHistory layout (opening words (replicate (slot_count layout) None) (first_view layout))
opens layout words ranges count shows = (
  [],
  (λ _. 0),
  record {
    ranges = ranges;
    lawful = tt;
    marked = tt;
    word_count = count;
    slot_count = length-map_some (replicate (slot_count layout) None) ∙ length-replicate (slot_count layout) None;
    words = shows;
    homes = λ b within. vacant_home (slot_count layout) b within;
    seats = opened_seats layout;
  },
)

-- a view may be kept to be read
pub archive_allowed : (layout : Layout) (id : ℕ) (view : View)
    → Splits (HasHistory layout) id view (same_view view) (archived_view view)
archive_allowed layout id view state (past, seat_of, st) here = (
  past,
  seat_of,
  record {
    ranges = st.ranges;
    lawful = st.lawful;
    marked = st.marked;
    word_count = st.word_count;
    slot_count = st.slot_count;
    words = st.words;
    homes = st.homes;
    seats = λ seat other there live.
        ⊎_elim
        (λ (old : get_elem? (set state.views id view) seat ≡ some other).
        st.seats seat other
        (ap (λ (views : List View). get_elem? views seat) (sym (set_again state.views id view here)) ∙ old) live)
        (λ (new : (seat ≡ length (set state.views id view)) × (archived_view view ≡ other)).
        absurd (off_on (sym live ∙ ap (λ (v : View). v.live) (sym new.1))))
        (at_longer_end (set state.views id view) (archived_view view) other seat there);
  },
)

-- what a close tells: the first token's logs and numbers are those of one lawful history, and words and slots are as it
-- leaves them
pub record Closes (layout : Layout) (view : View) (words : List ℕ) (slots : List (Option Parcel)) (past : History) :
    Type 0 where
  pub is : AreLogsOf layout view.log view.logs view.counts past
  pub shows_words : ShowsWords layout words past
  pub shows_slots : ShowsSlots layout slots past

pub close_tells : (layout : Layout) (id : ℕ) (view : View) (words : List ℕ) (slots : List (Option Parcel))
    → view.live ≡ true → view.role ≡ first_role layout → AllJoined layout view.log
    → Final (Seen (HasHistory layout) id view) words slots → (past : History) × Closes layout view words slots past
close_tells layout id view words slots on is_first joined (state, ((past, seat_of, st), here), same, long, values) =
    let mine : IsSeatOf layout past seat_of id view = st.seats id view here on in (
      past,
      record {
        is = all_of layout state past seat_of id view st mine is_first joined;
        shows_words = subst (λ ws. ShowsWords layout ws past) same st.words;
        shows_slots = λ buf content known home.
            values buf content (st.homes buf known ∙ ap (λ (h : Home). some h) home);
      },
    )
