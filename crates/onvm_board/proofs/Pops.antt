-- A pop keeps the rule.
use Rattle.std.proofs.Common.{◌≡◌, ◌≢◌, ℕ, ◌%◌, ◌<◌, true, false, List, [], ◌∷◌, length, set, get_or, sym, refl, ap, ◌∙◌, subst, inl, inr, length-set, mod-lt}
use Rattle.std.specs.Prelude.{Option, slice_get}
use Rattle.std.proofs.lemmas.Bool.{cases_eq}
use Rattle.std.proofs.lemmas.List.{set-get_or}
use Rattle.atomic_table.specs.Table.{State, Allows as TableAllows, Valid, homes_after, carried_after, keeps}
use Rattle.atomic_table.specs.Table.{Act as TableAct}
use Rattle.onvm_base.specs.declared.ids.RingId.{RingId}
use Rattle.onvm_core.specs.declared.layout.Layout.{Layout}
use Rattle.onvm_core.specs.declared.layout.Word.TheVariants.{Cell}
use Rattle.onvm_core.specs.declared.parcel.Parcel.{Parcel}
use Rattle.onvm_core.specs.declared.step.Item.{Item}
use Rattle.onvm_core.specs.declared.step.Act.{Act}
use Rattle.onvm_core.specs.declared.step.Act.TheVariants.{Pop, Empty}
use Rattle.onvm_core.specs.Layouts.{IsRing, ring_size, consumer, same_word}
use Rattle.onvm_core.specs.History.{History, popped_from, content_of}
use Rattle.onvm_core.specs.Lawful.{AllowsAct, IsLawful}
use Rattle.onvm_core.specs.Words.{number_of}
use Rattle.onvm_core.specs.Potential.{popped_in}
use Rattle.onvm_board.specs.declared.view.View.{View}
use Rattle.onvm_board.specs.Addresses.{cell_address}
use Rattle.onvm_board.specs.Rule.{step_of, HasHistory, StandsFor, IsSeatOf, ShowsWords, ShowsHomes, view_after, Hand, SeatState, MakesAct, IsLastStep}
use Rattle.onvm_board.proofs.Cells.{cell_of, front, front_zero, front_some, front_first, popped_here}
use Rattle.onvm_board.proofs.Logs.{popped_is}
use Rattle.onvm_board.proofs.Values.{pop_else}
use Rattle.onvm_board.proofs.Seats.{words_set, stays}
use Rattle.onvm_board.proofs.Steps.{ring_some, happened, quiet_stays, empty_quiet}

-- what a pop does to the slots, and what it tells
pub record Lifts (layout : Layout) (view : View) (hand : Hand) (ring : RingId) (tells : ℕ → SeatState → Type 0)
    (item : Item) (state : State (Option Parcel) View) (past : History) : Type 0 where
  pub move : TableAct (Option Parcel)
  pub valid : Valid state.homes hand move
  pub long : length (homes_after state.homes hand move) ≡ length state.homes
  pub shows : ShowsHomes layout (homes_after state.homes hand move) (step_of view.role (Pop ring item) ∷ past)
  pub told : IsLastStep layout view.role (Pop ring item) view.log
      → tells (number_of item) (view_after (Pop ring item) view, carried_after hand move)

module _ (layout : Layout) (ring : RingId) (known : IsRing layout ring) (slots id k : ℕ) (view : View) (hand : Hand)
    (on : view.live ≡ true) where
  -- a swap with 0 at the consumer's cell
  pub pop_allowed : (tells : ℕ → SeatState → Type 0) → view.role ≡ consumer layout ring
      → k ≡ length (popped_in ring view.log) % ring_size layout ring
      → ((state : State (Option Parcel) View) (past : History) (seat_of : ℕ → ℕ) (item : Item) (rest : List Item)
      → StandsFor layout state past seat_of → IsSeatOf layout past seat_of id view → content_of ring past ≡ item ∷ rest
      → Lifts layout view hand ring tells item state past)
      → TableAllows (HasHistory layout) slots id (view, hand) (cell_address layout ring k) (λ _. 0)
      (λ found after. (found ≡ 0 → MakesAct layout (Empty ring) (view, hand) after) × (found ≢ 0 → tells found after))
  pop_allowed tells mine spot lifts state (past, seat_of, st) wide here small =
      let words : List ℕ = state.words in
      let at : ℕ = cell_address layout ring k in
      let seat : IsSeatOf layout past seat_of id view = st.seats id view here on in
      let size : ℕ = ring_size layout ring in
      let some_size : 0 < size = ring_some layout st.ranges ring in
      let lawful : IsLawful layout past = st.lawful in
      let logged_pops : popped_from ring past ≡ popped_in ring view.log =
      popped_is layout ring view.role (sym mine) past lawful ∙ ap (popped_in ring) (sym seat.log) in
      let is_front : k ≡ front layout ring past lawful st.marked =
      spot ∙ ap (λ (items : List Item). length items % size) (sym logged_pops) in
      let within : k < size = subst (λ n. n < size) (sym spot) (mod-lt (length (popped_in ring view.log)) some_size) in
      let found : get_or words at 0 ≡ cell_of layout past ring k = st.words (Cell ring k) (known, within) in
      let front_is : cell_of layout past ring k ≡ cell_of layout past ring (front layout ring past lawful st.marked) =
      ap (cell_of layout past ring) is_front in
      elim (cases_eq (get_or words at 0) 0) [
        | inl zero_there ↦
            let empty : content_of ring past ≡ [] =
            front_zero layout ring past lawful st.marked (sym front_is ∙ sym found ∙ zero_there) in
            let act : Act = Empty ring in
            let allowed : AllowsAct layout past view.role act =
            record { known = known; own_end = mine; empty = empty } in
            let stands : StandsFor layout (record {
              words = words;
              homes = state.homes;
              views = set state.views id (view_after act view);
            }) (step_of view.role act ∷ past) seat_of =
            quiet_stays layout act state past seat_of id view (empty_quiet ring) st here on allowed in (
              view_after act view,
              keeps,
              tt,
              (
                step_of view.role act ∷ past,
                seat_of,
                subst (λ ws. StandsFor layout (record {
                  words = ws;
                  homes = state.homes;
                  views = set state.views id (view_after act view);
                }) (step_of view.role act ∷ past) seat_of)
                    (sym (ap (set words at) (sym zero_there) ∙ set-get_or words at 0))
                    stands,
              ),
              (
                λ _. (refl, happened layout act state past seat_of id view st here on tt allowed),
                λ more. absurd (more zero_there),
              ),
            )
        | inr more ↦
            let first = front_some layout ring past lawful st.marked (λ zero. more (found ∙ front_is ∙ zero)) in
            let item : Item = first.0 in
            let rest : List Item = first.1 in
            let is : content_of ring past ≡ item ∷ rest = first.2 in
            let value : number_of item ≡ get_or words at 0 =
            sym (found ∙ front_is ∙ front_first layout ring past lawful st.marked item rest is) in
            let lifted : Lifts layout view hand ring tells item state past =
            lifts state past seat_of item rest st seat is in
            let act : Act = Pop ring item in
            let allowed : AllowsAct layout past view.role act =
            record {
              known = known;
              own_end = mine;
              first = ap (λ (items : List Item). slice_get items 0) is;
            } in
            let goes : IsLawful layout (step_of view.role act ∷ past) =
            (record { live = seat.live; allowed = allowed }, lawful) in
            let shows : ShowsWords layout (set words at 0) (step_of view.role act ∷ past) =
            words_set layout words past (step_of view.role act ∷ past) (Cell ring k) 0 (known, within)
            st.word_count st.words
            (ap (cell_of layout (step_of view.role act ∷ past) ring) is_front
            ∙ popped_here layout ring past lawful st.marked view.role item rest is)
            (λ u apart. pop_else layout past lawful st.marked view.role ring item rest is goes u
            (subst (λ j. same_word (Cell ring j) u ≡ false) is_front apart)) in
            let stands : StandsFor layout (record {
              words = set words at 0;
              homes = homes_after state.homes hand lifted.move;
              views = set state.views id (view_after act view);
            }) (step_of view.role act ∷ past) seat_of =
            stays layout past seat_of act state (set words at 0) (homes_after state.homes hand lifted.move) id view
            tt tt st here on allowed (length-set words at 0) lifted.long shows lifted.shows in (
              view_after act view,
              lifted.move,
              lifted.valid,
              (step_of view.role act ∷ past, seat_of, stands),
              (
                λ none_there. absurd (more none_there),
                λ _. subst (λ n. tells n (view_after act view, carried_after hand lifted.move)) value
                    (lifted.told (happened layout act state past seat_of id view st here on tt allowed)),
              ),
            )
      ]
