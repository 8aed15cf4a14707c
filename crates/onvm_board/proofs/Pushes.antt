-- A push keeps the rule.
use Rattle.std.proofs.Common.{◌≡◌, ℕ, ◌%◌, ◌<◌, ◌≤◌, eqb, true, false, List, ◌∷◌, length, set, get_or, sym, refl, ap, ◌∙◌, subst, inl, inr, arith, length-set, mod-lt}
use Rattle.std.specs.Prelude.{Option}
use Rattle.std.proofs.lemmas.Bool.{cases_eq, cases_order, eq-eqb, ne_eqb}
use Rattle.std.proofs.lemmas.List.{set-get_or}
use prog.Atomic.{either}
use Rattle.atomic_table.specs.Table.{State, Allows as TableAllows, Valid, homes_after, carried_after, keeps}
use Rattle.atomic_table.specs.Table.{Act as TableAct}
use Rattle.onvm_base.specs.declared.ids.RingId.{RingId}
use Rattle.onvm_core.specs.declared.layout.Layout.{Layout}
use Rattle.onvm_core.specs.declared.layout.Word.TheVariants.{Cell}
use Rattle.onvm_core.specs.declared.parcel.Parcel.{Parcel}
use Rattle.onvm_core.specs.declared.step.Item.{Item}
use Rattle.onvm_core.specs.declared.step.Act.{Act}
use Rattle.onvm_core.specs.declared.step.Act.TheVariants.{Push, Full}
use Rattle.onvm_core.specs.Layouts.{IsRing, ring_size, producer, same_word}
use Rattle.onvm_core.specs.History.{History, pushed_on, content_of}
use Rattle.onvm_core.specs.Lawful.{AllowsAct, IsLawful, Suits}
use Rattle.onvm_core.specs.Words.{number_of}
use Rattle.onvm_core.specs.Potential.{pushed_in}
use Rattle.onvm_core.proofs.Contents.{content_bounded}
use Rattle.onvm_board.specs.declared.view.View.{View}
use Rattle.onvm_board.specs.Addresses.{cell_address}
use Rattle.onvm_board.specs.Rule.{step_of, HasHistory, StandsFor, IsSeatOf, ShowsWords, ShowsHomes, HasNonzeroMail, view_after, Hand, hand_after, TellsPush}
use Rattle.onvm_board.proofs.Cells.{cell_of, back, back_free, back_taken, pushed_here}
use Rattle.onvm_board.proofs.Logs.{pushed_is}
use Rattle.onvm_board.proofs.Values.{push_else}
use Rattle.onvm_board.proofs.Seats.{words_set, stays}
use Rattle.onvm_board.proofs.Steps.{ring_some, happened, quiet_stays, full_quiet}

-- what a push does to the slots
pub record Lays (layout : Layout) (view : View) (hand : Hand) (ring : RingId) (item : Item)
    (move : TableAct (Option Parcel)) (state : State (Option Parcel) View) (past : History) : Type 0 where
  pub suits : Suits layout past view.role ring item
  pub valid : Valid state.homes hand move
  pub long : length (homes_after state.homes hand move) ≡ length state.homes
  pub shows : ShowsHomes layout (homes_after state.homes hand move) (step_of view.role (Push ring item) ∷ past)

module _ (layout : Layout) (ring : RingId) (known : IsRing layout ring) (slots id k : ℕ) (view : View) (hand : Hand)
    (on : view.live ≡ true) where
  -- a compare-exchange from 0 at the producer's cell
  pub push_allowed : (item : Item) (move : TableAct (Option Parcel)) → view.role ≡ producer layout ring
      → k ≡ length (pushed_in ring view.log) % ring_size layout ring
      → HasNonzeroMail (Push ring item) → carried_after hand move ≡ hand_after (Push ring item) hand
      → ((state : State (Option Parcel) View) (past : History) (seat_of : ℕ → ℕ) → StandsFor layout state past seat_of
      → IsSeatOf layout past seat_of id view → Lays layout view hand ring item move state past)
      → TableAllows (HasHistory layout) slots id (view, hand) (cell_address layout ring k)
      (λ n. either (eqb n 0) (number_of item) n) (TellsPush layout ring item (view, hand))
  push_allowed item move mine spot marked carried lays state (past, seat_of, st) wide here small =
      let words : List ℕ = state.words in
      let at : ℕ = cell_address layout ring k in
      let seat : IsSeatOf layout past seat_of id view = st.seats id view here on in
      let size : ℕ = ring_size layout ring in
      let some_size : 0 < size = ring_some layout st.ranges ring in
      let lawful : IsLawful layout past = st.lawful in
      let logged_pushes : pushed_on ring past ≡ pushed_in ring view.log =
      pushed_is layout ring view.role (sym mine) past lawful ∙ ap (pushed_in ring) (sym seat.log) in
      let is_back : k ≡ back layout ring past lawful st.marked =
      spot ∙ ap (λ (items : List Item). length items % size) (sym logged_pushes) in
      let within : k < size = subst (λ n. n < size) (sym spot) (mod-lt (length (pushed_in ring view.log)) some_size) in
      let found : get_or words at 0 ≡ cell_of layout past ring k = st.words (Cell ring k) (known, within) in
      let back_is : cell_of layout past ring k ≡ cell_of layout past ring (back layout ring past lawful st.marked) =
      ap (cell_of layout past ring) is_back in
      let short : length (content_of ring past) ≤ size = content_bounded layout past lawful ring in
      elim (cases_eq (get_or words at 0) 0) [
        | inl zero_there ↦
            let room : length (content_of ring past) < size =
            elim (cases_order (length (content_of ring past)) size) [
              | inl full ↦
                  absurd (back_taken layout ring past lawful st.marked some_size full
                  (sym back_is ∙ sym found ∙ zero_there))
              | inr (inl less) ↦ less
              | inr (inr more) ↦ absurd (omega (arith, more, short))
            ] in
            let laid : Lays layout view hand ring item move state past = lays state past seat_of st seat in
            let act : Act = Push ring item in
            let allowed : AllowsAct layout past view.role act =
            record { known = known; own_end = mine; room = room; suits = laid.suits } in
            let goes : IsLawful layout (step_of view.role act ∷ past) =
            (record { live = seat.live; allowed = allowed }, lawful) in
            let shows : ShowsWords layout (set words at (number_of item)) (step_of view.role act ∷ past) =
            words_set layout words past (step_of view.role act ∷ past) (Cell ring k) (number_of item) (known, within)
            st.word_count st.words
            (ap (cell_of layout (step_of view.role act ∷ past) ring) is_back
            ∙ pushed_here layout ring past lawful st.marked view.role item room)
            (λ u apart. push_else layout past lawful st.marked view.role ring item goes u
            (subst (λ j. same_word (Cell ring j) u ≡ false) is_back apart)) in
            let stands : StandsFor layout (record {
              words = set words at (number_of item);
              homes = homes_after state.homes hand move;
              views = set state.views id (view_after act view);
            }) (step_of view.role act ∷ past) seat_of =
            stays layout past seat_of act state (set words at (number_of item))
            (homes_after state.homes hand move) id view
            tt marked st here on allowed (length-set words at (number_of item)) laid.long shows laid.shows in (
              view_after act view,
              move,
              laid.valid,
              (
                step_of view.role act ∷ past,
                seat_of,
                subst (λ n. StandsFor layout (record {
                  words = set words at n;
                  homes = homes_after state.homes hand move;
                  views = set state.views id (view_after act view);
                }) (step_of view.role act ∷ past) seat_of)
                    (sym (ap (λ b. either b (number_of item) (get_or words at 0)) (eq-eqb
                    (get_or words at 0) 0 zero_there)))
                    stands,
              ),
              (
                λ _. (
                  ap (λ (h : Hand). (view_after act view, h)) carried,
                  happened layout act state past seat_of id view st here on marked allowed,
                ),
                λ more. absurd (more zero_there),
              ),
            )
        | inr more ↦
            let full : length (content_of ring past) ≡ size =
            elim (cases_order (length (content_of ring past)) size) [
              | inl is ↦ is
              | inr (inl less) ↦
                  absurd (more (found ∙ back_is ∙ back_free layout ring past lawful st.marked less))
              | inr (inr over) ↦ absurd (omega (arith, over, short))
            ] in
            let act : Act = Full ring in
            let allowed : AllowsAct layout past view.role act = record { known = known; own_end = mine; full = full } in
            let stands : StandsFor layout (record {
              words = words;
              homes = state.homes;
              views = set state.views id (view_after act view);
            }) (step_of view.role act ∷ past) seat_of =
            quiet_stays layout act state past seat_of id view (full_quiet ring) st here on allowed in (
              view_after act view,
              keeps,
              tt,
              (
                step_of view.role act ∷ past,
                seat_of,
                subst (λ ws. StandsFor layout (record {
                  words = ws;
                  homes = state.homes;
                  views = set state.views id (view_after act view);
                }) (step_of view.role act ∷ past) seat_of)
                    (sym (ap (λ b. set words at (either b (number_of item) (get_or words at 0)))
                    (ne_eqb (get_or words at 0) 0 more) ∙ set-get_or words at 0))
                    stands,
              ),
              (
                λ none_there. absurd (more none_there),
                λ _. (refl, happened layout act state past seat_of id view st here on tt allowed),
              ),
            )
      ]
