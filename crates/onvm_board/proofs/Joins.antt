-- A join keeps the rule.
use Rattle.std.proofs.Common.{◌≡◌, ◌≢◌, ℕ, ◌<◌, Bool, true, false, List, [], ◌∷◌, length, get_or, set, sym, refl, ap, ◌∙◌, subst, inl, inr, ⊎_elim, length-set, get_or-set_same, get_or-set_other}
use Rattle.std.specs.Prelude.{◌==◌, ◌||◌, if◌then◌else◌}
use Rattle.std.proofs.lemmas.Bool.{cases_Bool, ne_eqb, eqb-true, eqb-false}
use mathlib.Core.Option.{some}
use lib.ListN.{get_elem?}
use Rattle.atomic_table.specs.Table.{Joins}
use Rattle.atomic_table.proofs.Lists.{at_set}
use Rattle.onvm_core.specs.declared.layout.Layout.{Layout}
use Rattle.onvm_core.specs.declared.step.Act.TheVariants.{Join}
use Rattle.onvm_core.specs.Layouts.{first_role}
use Rattle.onvm_core.specs.History.{History, is_live, is_split}
use Rattle.onvm_core.specs.Lawful.{AllowsAct, IsLawful}
use Rattle.onvm_core.specs.Logs.{Log, log_of}
use Rattle.onvm_board.specs.declared.view.View.{View}
use Rattle.onvm_board.specs.Known.{held_buffers_in}
use Rattle.onvm_board.specs.Rule.{step_of, HasHistory, IsSeatOf, KeepsLogs, spent_view, view_after_join}
use Rattle.onvm_board.proofs.Hands.{holds_none}
use Rattle.onvm_board.proofs.Logs.{log_same, log_else}
use Rattle.onvm_board.proofs.Seats.{words_kept, homes_kept}
use Rattle.onvm_board.proofs.Values.{quiet_value}
use Rattle.onvm_board.proofs.RoleFacts.{off_on, below_apart}

module _ (layout : Layout) (past : History) (seat_of : ℕ → ℕ) (actor role : ℕ)
    (is_first : actor ≡ first_role layout) (below : role < first_role layout) where
  abbrev after_join : History
  after_join = step_of actor (Join role) ∷ past

  join_same : (other : ℕ) → role ≢ other → is_live layout other after_join ≡ is_live layout other past
  join_same other apart =
      ap (λ (b : Bool). (other == first_role layout) || (if b then false else is_split other past))
      (ne_eqb role other apart)

  join_else : (seat : ℕ) (view : View) → role ≢ view.role → actor ≢ view.role → view.role ≢ first_role layout
      → IsSeatOf layout past seat_of seat view → IsSeatOf layout after_join seat_of seat view
  join_else seat view apart foreign low sits = record {
    place = sits.place;
    live = join_same view.role apart ∙ sits.live;
    log = sits.log ∙ sym (log_else actor view.role (Join role) past foreign);
    first = λ e. absurd (low e);
  }

  join_here : (seat : ℕ) (view other : View) → view.role ≡ actor → other.role ≡ role → other.log ≡ log_of role past
      → IsSeatOf layout past seat_of seat view → IsSeatOf layout after_join seat_of seat (view_after_join view other)
  join_here seat view other same is_role log sits = record {
    place = sits.place;
    live =
        join_same view.role (λ e. below_apart role (first_role layout) below (e ∙ same ∙ is_first)) ∙ sits.live;
    log =
        ap (λ k. Join k ∷ view.log) is_role ∙ ap (λ (xs : Log). Join role ∷ xs) sits.log
        ∙ sym (log_same view.role (Join role) past)
        ∙ ap (λ k. log_of view.role (step_of k (Join role) ∷ past)) same;
    first = λ e.
        let keeps : KeepsLogs layout past view = sits.first e in
        let wide : role < length view.logs = subst (λ n. role < n) (sym keeps.roles) below in record {
          roles = length-set view.logs other.role other.log ∙ keeps.roles;
          logs = λ k less dead.
              let skip : log_of k after_join ≡ log_of k past =
              log_else actor k (Join role) past
              (λ x. below_apart k (first_role layout) less (sym x ∙ is_first)) in
              elim (cases_Bool (k == role)) [
                | inl met ↦
                    let it : k ≡ role = eqb-true k role met in
                    ap (λ (z : ℕ × ℕ). get_or (set view.logs z.0 other.log) z.1 []) (λ i. (is_role i, it i))
                    ∙ get_or-set_same view.logs role other.log [] wide
                    ∙ log ∙ ap (λ r. log_of r past) (sym it) ∙ sym skip
                | inr unmet ↦
                    let apart : k ≢ role = eqb-false k role unmet in
                    get_or-set_other view.logs other.role k other.log [] (λ x. apart (x ∙ is_role))
                    ∙ keeps.logs k less (sym (join_same k (λ x. apart (sym x))) ∙ dead) ∙ sym skip
              ];
          counts =
              ap (λ n. n ∷ view.counts) (ap length log)
              ∙ ap (λ (ns : List ℕ). length (log_of role past) ∷ ns) keeps.counts;
        };
  }

-- the first token takes back a role that holds nothing
pub join_allowed : (layout : Layout) (id other : ℕ) (view joining : View) → view.live ≡ true
    → view.role ≡ first_role layout → joining.live ≡ true → joining.role < first_role layout
    → held_buffers_in joining.log ≡ []
    → Joins (HasHistory layout) id view other joining (view_after_join view joining) spent_view
join_allowed layout id other view joining on is_first live_too below empty state (past, seat_of, st) here apart there =
    let mine : IsSeatOf layout past seat_of id view = st.seats id view here on in
    let views : List View = set state.views id (view_after_join view joining) in
    let before : get_elem? state.views other ≡ some joining =
    ⊎_elim (λ t. absurd (apart t.0)) (λ t. t.1) (at_set state.views id other (view_after_join view joining) joining there) in
    let its : IsSeatOf layout past seat_of other joining = st.seats other joining before live_too in
    let actor : ℕ = view.role in
    let role : ℕ = joining.role in
    let allowed : AllowsAct layout past actor (Join role) =
    record {
      first = is_first;
      another = below_apart role (first_role layout) below;
      live = its.live;
      empty_handed = holds_none layout past st.lawful role (ap held_buffers_in (sym its.log) ∙ empty);
    } in
    let goes : IsLawful layout (step_of actor (Join role) ∷ past) =
    (record { live = mine.live; allowed = allowed }, st.lawful) in (
      step_of actor (Join role) ∷ past,
      seat_of,
      record {
        ranges = st.ranges;
        lawful = goes;
        marked = (tt, st.marked);
        word_count = st.word_count;
        slot_count = st.slot_count;
        words =
            words_kept layout state.words past (step_of actor (Join role) ∷ past)
            (quiet_value layout past actor (Join role) tt goes) st.words;
        homes = homes_kept layout state.homes past (step_of actor (Join role) ∷ past) (λ b. refl) st.homes;
        seats = λ seat found_view found live.
            ⊎_elim
            (λ (gone : (seat ≡ other) × (spent_view ≡ found_view)).
            absurd (off_on (sym live ∙ ap (λ (v : View). v.live) (sym gone.1))))
            (λ (kept : (seat ≢ other) × (get_elem? views seat ≡ some found_view)).
            ⊎_elim
            (λ (t : (seat ≡ id) × (view_after_join view joining ≡ found_view)).
            subst (λ (z : ℕ × View). IsSeatOf layout (step_of actor (Join role) ∷ past) seat_of z.0 z.1)
            (λ i. (sym t.0 i, t.1 i))
            (join_here layout past seat_of actor role is_first below id view joining refl refl its.log mine))
            (λ (t : (seat ≢ id) × (get_elem? state.views seat ≡ some found_view)).
            let sits : IsSeatOf layout past seat_of seat found_view = st.seats seat found_view t.1 live in
            let foreign : actor ≢ found_view.role = λ e. t.0 (sits.place ∙ ap seat_of (sym e) ∙ sym mine.place) in
            join_else layout past seat_of actor role is_first below seat found_view
            (λ e. kept.0 (sits.place ∙ ap seat_of (sym e) ∙ sym its.place)) foreign
            (λ e. foreign (is_first ∙ sym e)) sits)
            (at_set state.views id seat (view_after_join view joining) found_view kept.1))
            (at_set views other seat spent_view found_view found);
      },
    )
