-- A split keeps the rule.
use Rattle.std.proofs.Common.{◌≡◌, ◌≢◌, ℕ, ◌<◌, Bool, true, false, List, ◌∷◌, length, set, sym, refl, ap, ◌∙◌, subst, inl, inr, ⊎_elim}
use Rattle.std.specs.Prelude.{◌==◌, ◌||◌, if◌then◌else◌}
use Rattle.std.proofs.lemmas.Bool.{cases_Bool, eq-eqb, ne_eqb}
use mathlib.Core.Option.{some}
use lib.ListN.{get_elem?}
use Rattle.atomic_table.specs.Table.{Splits}
use Rattle.atomic_table.proofs.Lists.{at_set}
use Rattle.onvm_core.specs.declared.layout.Layout.{Layout}
use Rattle.onvm_core.specs.declared.step.Act.TheVariants.{Split}
use Rattle.onvm_core.specs.Layouts.{first_role}
use Rattle.onvm_core.specs.History.{History, is_live, is_split}
use Rattle.onvm_core.specs.Lawful.{AllowsAct, IsLawful}
use Rattle.onvm_core.specs.Logs.{Log, log_of}
use Rattle.onvm_board.specs.declared.view.View.{View}
use Rattle.onvm_board.specs.Known.{is_split_in}
use Rattle.onvm_board.specs.Rule.{step_of, HasHistory, IsSeatOf, KeepsLogs, view_after, split_view}
use Rattle.onvm_board.proofs.Logs.{log_same, log_else, split_is, live_below}
use Rattle.onvm_board.proofs.Seats.{words_kept, homes_kept}
use Rattle.onvm_board.proofs.Values.{quiet_value}
use Rattle.onvm_board.proofs.RoleFacts.{off_on, below_apart, at_longer_end}

module _ (layout : Layout) (past : History) (seat_of : ℕ → ℕ) (actor role : ℕ)
    (is_first : actor ≡ first_role layout) (below : role < first_role layout) where
  abbrev after_split : History
  after_split = step_of actor (Split role) ∷ past

  -- the seats' numbers, where the new seat has the role
  abbrev seated_with : ℕ → ℕ → ℕ
  seated_with n other = if role == other then n else seat_of other

  split_live : (other : ℕ) → is_live layout other past ≡ true → is_live layout other after_split ≡ true
  split_live other on =
      elim (cases_Bool (role == other)) [
        | inl met ↦ rw met (or_true (other == first_role layout))
        | inr unmet ↦ rw unmet on
      ]
    where
      or_true : (b : Bool) → (b || true) ≡ true
      or_true true = refl
      or_true false = refl

  split_dead : (other : ℕ) → is_live layout other after_split ≡ false → is_live layout other past ≡ false
  split_dead other off =
      elim (cases_Bool (role == other)) [
        | inl met ↦
            let bad : ((other == first_role layout) || true) ≡ false = rw met at off in
            absurd (or_true (other == first_role layout) bad)
        | inr unmet ↦ rw unmet at off
      ]
    where
      or_true : (b : Bool) → (b || true) ≡ false → ⊥
      or_true true e = off_on e
      or_true false e = off_on e

  split_else : (n seat : ℕ) (view : View) → is_live layout role past ≡ false → actor ≢ view.role
      → view.role ≢ first_role layout → IsSeatOf layout past seat_of seat view
      → IsSeatOf layout after_split (seated_with n) seat view
  split_else n seat view out apart low sits = record {
    place =
        sits.place
        ∙ sym (ap (λ (b : Bool). if b then n else seat_of view.role)
        (ne_eqb role view.role (λ e. off_on (sym sits.live ∙ ap (λ k. is_live layout k past) (sym e) ∙ out))));
    live = split_live view.role sits.live;
    log = sits.log ∙ sym (log_else actor view.role (Split role) past apart);
    first = λ e. absurd (low e);
  }

  split_here : (n seat : ℕ) (view : View) → view.role ≡ actor → IsSeatOf layout past seat_of seat view
      → IsSeatOf layout after_split (seated_with n) seat (view_after (Split role) view)
  split_here n seat view same sits = record {
    place =
        sits.place
        ∙ sym (ap (λ (b : Bool). if b then n else seat_of view.role)
        (ne_eqb role view.role (λ e. below_apart role (first_role layout) below (e ∙ same ∙ is_first))));
    live = split_live view.role sits.live;
    log =
        ap (λ (xs : Log). Split role ∷ xs) sits.log ∙ sym (log_same view.role (Split role) past)
        ∙ ap (λ k. log_of view.role (step_of k (Split role) ∷ past)) same;
    first = λ e. let keeps : KeepsLogs layout past view = sits.first e in record {
      roles = keeps.roles;
      logs = λ other less dead.
          keeps.logs other less (split_dead other dead)
          ∙ sym (log_else actor other (Split role) past
          (λ x. below_apart other (first_role layout) less (sym x ∙ is_first)));
      counts = keeps.counts;
    };
  }

  split_new : (n : ℕ) (view : View) → is_live layout role past ≡ false → KeepsLogs layout past view
      → IsSeatOf layout after_split (seated_with n) n (split_view role view)
  split_new n view out keeps = record {
    place = sym (ap (λ (b : Bool). if b then n else seat_of role) (eq-eqb role role refl));
    live =
        ap (λ (b : Bool). b || (if role == role then true else is_split role past))
        (ne_eqb role (first_role layout) (below_apart role (first_role layout) below))
        ∙ ap (λ (b : Bool). if b then true else is_split role past) (eq-eqb role role refl);
    log =
        keeps.logs role below out
        ∙ sym (log_else actor role (Split role) past
        (λ x. below_apart role (first_role layout) below (sym x ∙ is_first)));
    first = λ e. absurd (below_apart role (first_role layout) below e);
  }

-- the first token gives out a role that isn't split
pub split_allowed : (layout : Layout) (id role : ℕ) (view : View) → view.live ≡ true → view.role ≡ first_role layout
    → role < first_role layout → is_split_in role view.log ≡ false
    → Splits (HasHistory layout) id view (view_after (Split role) view) (split_view role view)
split_allowed layout id role view on is_first below out state (past, seat_of, st) here =
    let mine : IsSeatOf layout past seat_of id view = st.seats id view here on in
    let own : view.log ≡ log_of (first_role layout) past = mine.log ∙ ap (λ r. log_of r past) is_first in
    let dead : is_live layout role past ≡ false =
    live_below layout role past below ∙ split_is layout role past st.lawful
    ∙ ap (is_split_in role) (sym own) ∙ out in
    let actor : ℕ = view.role in
    let views : List View = set state.views id (view_after (Split role) view) in
    let n : ℕ = length views in
    let allowed : AllowsAct layout past actor (Split role) =
    record { first = is_first; below = below; not_live = dead } in
    let goes : IsLawful layout (step_of actor (Split role) ∷ past) =
    (record { live = mine.live; allowed = allowed }, st.lawful) in
    let after : ℕ → ℕ = seated_with layout past seat_of actor role is_first below n in (
      step_of actor (Split role) ∷ past,
      after,
      record {
        ranges = st.ranges;
        lawful = goes;
        marked = (tt, st.marked);
        word_count = st.word_count;
        slot_count = st.slot_count;
        words =
            words_kept layout state.words past (step_of actor (Split role) ∷ past)
            (quiet_value layout past actor (Split role) tt goes) st.words;
        homes = homes_kept layout state.homes past (step_of actor (Split role) ∷ past) (λ b. refl) st.homes;
        seats = λ seat other there live.
            ⊎_elim
            (λ (old : get_elem? views seat ≡ some other).
            ⊎_elim
            (λ (t : (seat ≡ id) × (view_after (Split role) view ≡ other)).
            subst (λ (z : ℕ × View). IsSeatOf layout (step_of actor (Split role) ∷ past) after z.0 z.1)
            (λ i. (sym t.0 i, t.1 i))
            (split_here layout past seat_of actor role is_first below n id view refl mine))
            (λ (t : (seat ≢ id) × (get_elem? state.views seat ≡ some other)).
            let sits : IsSeatOf layout past seat_of seat other = st.seats seat other t.1 live in
            let apart : actor ≢ other.role = λ e. t.0 (sits.place ∙ ap seat_of (sym e) ∙ sym mine.place) in
            split_else layout past seat_of actor role is_first below n seat other dead apart
            (λ e. apart (is_first ∙ sym e)) sits)
            (at_set state.views id seat (view_after (Split role) view) other old))
            (λ (new : (seat ≡ n) × (split_view role view ≡ other)).
            subst (λ (z : ℕ × View). IsSeatOf layout (step_of actor (Split role) ∷ past) after z.0 z.1)
            (λ i. (sym new.0 i, new.1 i))
            (split_new layout past seat_of actor role is_first below n view dead (mine.first is_first)))
            (at_longer_end views (split_view role view) other seat there);
      },
    )
