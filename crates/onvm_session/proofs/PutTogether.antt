-- A run that is put together of what roles leave behind the closing turn has the lists of what they kept before it.
use Rattle.std.proofs.Common.{◌≡◌, ◌≢◌, ℕ, zero, suc, ◌+◌, ◌-◌, ◌<◌, true, inl, inr, List, [], ◌∷◌, ◌++◌, length, refl, sym, ◌∙◌, ap, subst, arith, append_assoc, Some}
use Rattle.std.specs.Prelude.{◌==◌, ◌^◌, min, option_to_list, slice_get, slice_set}
use Rattle.std.proofs.lemmas.Bool.{cases_Bool, eqb-true, eqb-false}
use Rattle.std.proofs.lemmas.List.{append-nil}
use Rattle.onvm_base.specs.declared.frame.SentFrame.{SentFrame}
use Rattle.onvm_base.specs.declared.outcome.Record.{Record}
use Rattle.onvm_board.specs.Closing.{ClosedView}
use Rattle.onvm_core.proofs.Sums.{sum_same}
use Rattle.onvm_core.specs.declared.layout.Layout.{Layout}
use Rattle.onvm_core.specs.Blocks.{kind_of}
use Rattle.onvm_core.specs.Layouts.{first_role, tick_role}
use Rattle.onvm_promises.specs.Kept.{CoreKeeps, FeederKeeps}
use Rattle.rx_feed.specs.declared.feed.Feed.{Feed}
use Rattle.tick_pass.specs.declared.role.TickRole.{TickRole}
use Rattle.onvm_session.specs.declared.leaving.Leavings.{Leavings}
use Rattle.onvm_session.specs.declared.role.Role.{Role}
use Rattle.onvm_session.specs.declared.role.Role.TheVariants.{Tick}
use Rattle.onvm_session.specs.declared.run.Run.{Run}
use Rattle.onvm_session.proofs.Growing.{some_inj}
use Rattle.onvm_session.proofs.LeftLists.{AreOfKinds, counts_left, feeders_left, lists_left}
use Rattle.onvm_session.specs.Closings.{AreLeftOf, IsRunOfKept}
use Rattle.onvm_session.specs.Gathering.{AreRunLists, IsByFrame, cores_counted, feeders_kept}
use Rattle.onvm_session.specs.Leaving.{HasLeft, HaveLeft, feeds_of, kept_of}
use Rattle.onvm_session.specs.Managers.{keeps_at, keeps_in}
use Rattle.onvm_session.specs.RoleStates.{feed_of, keeps_of, kind_in}
use Rattle.onvm_session.specs.Runs.{view_of_run}
use Rattle.onvm_session.specs.Sessions.{Keeps}
use Rattle.onvm_session.specs.Starts.{no_keeps}

-- Another role at one number

get_set : {A : Type 0} (xs : List A) (at : ℕ) (was x y : A) → slice_get xs at ≡ Some was
    → slice_get (slice_set xs at x) at ≡ Some y → x ≡ y
get_set [] at was x y found then_y = absurd (cc found)
get_set (z ∷ zs) zero was x y found then_y = some_inj x y then_y
get_set (z ∷ zs) (suc at) was x y found then_y = get_set zs at was x y found then_y

pub set_there : {A : Type 0} (xs : List A) (at : ℕ) (was x : A) → slice_get xs at ≡ Some was
    → slice_get (slice_set xs at x) at ≡ Some x
set_there [] at was x found = absurd (cc found)
set_there (z ∷ zs) zero was x found = refl
set_there (z ∷ zs) (suc at) was x found = set_there zs at was x found

get_other : {A : Type 0} (xs : List A) (at r : ℕ) (x : A) → r ≢ at → slice_get (slice_set xs at x) r ≡ slice_get xs r
get_other [] at r x apart = refl
get_other (y ∷ ys) zero zero x apart = absurd (apart refl)
get_other (y ∷ ys) zero (suc r) x apart = refl
get_other (y ∷ ys) (suc at) zero x apart = refl
get_other (y ∷ ys) (suc at) (suc r) x apart = get_other ys at r x (λ e. apart (ap suc e))

pub keeps_other : {I N : Type 0} (roles : List (Role I N)) (at r : ℕ) (role : Role I N) → r ≢ at
    → keeps_in (slice_set roles at role) r ≡ keeps_in roles r
keeps_other roles at r role apart = ap keeps_at (get_other roles at r role apart)

pub kinds_then : {I N : Type 0} (layout : Layout) (roles : List (Role I N)) (at : ℕ) (before after : TickRole)
    → slice_get roles at ≡ Some (Tick before) → AreOfKinds layout roles
    → AreOfKinds layout (slice_set roles at (Tick after))
kinds_then {I} {N} layout roles at before after was kinds r role found =
    elim (cases_Bool (r == at)) [
      | inl met ↦
          let same : r ≡ at = eqb-true r at met in
          let is : Tick after ≡ role = get_set roles at (Tick before) (Tick after) role was
          (ap (λ (k : ℕ). slice_get (slice_set roles at (Tick after)) k) (sym same) ∙ found) in
          ap (λ (one : Role I N). kind_in one) (sym is) ∙ kinds at (Tick before) was
          ∙ ap (kind_of layout) (sym same)
      | inr unmet ↦
          kinds r role (sym (get_other roles at r (Tick after) (eqb-false r at unmet)) ∙ found)
    ]

-- Feeds

pub feeds_left : {I N : Type 0} (roles : List (Role I N)) (old new : Leavings I) → HaveLeft roles old new
    → new.feeds.items ≡ old.feeds.items ++ feeds_of roles
feeds_left {I} [] old new left =
    ap (λ (l : Leavings I). l.feeds.items) left ∙ sym (append-nil old.feeds.items)
feeds_left {I} (role ∷ roles) old new left =
    feeds_left roles left.0 new left.2 ∙ ap (λ (feeds : List (Feed I)). feeds ++ feeds_of roles) left.1.feeds
    ∙ append_assoc old.feeds.items (option_to_list (feed_of role)) (feeds_of roles)

-- The run

feeders_same : {A : Type 0} (part : FeederKeeps → List A) (was now : ℕ → Keeps) (n : ℕ)
    → ((r : ℕ) → r < n → was r ≡ now r) → feeders_kept part was n ≡ feeders_kept part now n
feeders_same part was now zero same = refl
feeders_same {A} part was now (suc n) same =
    ap (λ (xs : List A). xs ++ part (was n).feeder)
    (feeders_same part was now n (λ r less. same r (omega (arith, less))))
    ∙ ap (λ (keeps : Keeps). feeders_kept part now n ++ part keeps.feeder) (same n (omega arith))

module _ {I N : Type 0} (layout : Layout) (roles later : List (Role I N)) (none left : Leavings I)
    (kinds : AreOfKinds layout later) (many : length later ≡ first_role layout)
    (same : (r : ℕ) → r < tick_role layout → keeps_in later r ≡ keeps_in roles r)
    (left_are : HaveLeft later none left)
  where
    list_is : {A : Type 0} (part : FeederKeeps → List A) (list : Leavings I → List A) → left.complete ≡ true
        → ((role : Role I N) (old new : Leavings I) → HasLeft role old new → new.complete ≡ true
        → list new ≡ list old ++ part (keeps_of role).feeder)
        → part no_keeps.feeder ≡ [] → list none ≡ []
        → list left ≡ feeders_kept part (keeps_in roles) (layout.ports + layout.transmit)
    list_is {A} part list complete adds empty first =
        lists_left (λ keeps. part keeps.feeder) list adds later none left left_are complete
        ∙ ap (λ (xs : List A). xs ++ kept_of (λ keeps. part keeps.feeder) later) first
        ∙ feeders_left part layout later kinds empty
        ∙ feeders_same part (keeps_in later) (keeps_in roles) (layout.ports + layout.transmit)
        (λ r less. same r (omega (arith, less)))

    count_is : (part : CoreKeeps → ℕ) (count : Leavings I → ℕ)
        → ((role : Role I N) (old new : Leavings I) → HasLeft role old new
        → count new ≡ min (2 ^ 64 - 1) (count old + part (keeps_of role).core))
        → part no_keeps.core ≡ 0 → count none ≡ 0
        → count left ≡ min (2 ^ 64 - 1) (cores_counted part layout (keeps_in roles) layout.cores)
    count_is part count adds empty first =
        counts_left part count adds layout later none left kinds many empty first left_are
        ∙ ap (min (2 ^ 64 - 1))
        (sum_same (λ core. part (keeps_in later (layout.ports + layout.transmit + core)).core)
        (λ core. part (keeps_in roles (layout.ports + layout.transmit + core)).core) layout.cores
        (λ core less. ap (λ (keeps : Keeps). part keeps.core)
        (same (layout.ports + layout.transmit + core) (omega (arith, less)))))

-- roles that keep what these keep
pub run_lists : {I N : Type 0} (layout : Layout) (roles later : List (Role I N)) (none left : Leavings I)
    (closed : ClosedView) (run : Run)
    → AreOfKinds layout later → length later ≡ first_role layout
    → ((r : ℕ) → r < tick_role layout → keeps_in later r ≡ keeps_in roles r)
    → AreLeftOf later none left → left.complete ≡ true
    → IsRunOfKept left.gathered left.samples left.ticks closed run
    → AreRunLists layout (keeps_in roles) (view_of_run run)
run_lists {I} {N} layout roles later none left closed run kinds many same of complete run_is = record {
  records =
      subst (λ (given : List Record). IsByFrame (λ told. told.frame) given run.records)
      (list_is layout roles later none left kinds many same of.left_are (λ kept. kept.outcomes.records)
      (λ l. l.gathered.records.items) complete (λ role old new has. has.records) refl of.records)
      run_is.records;
  sent =
      subst (λ (given : List SentFrame). IsByFrame (λ frame. frame.frame) given run.sent)
      (list_is layout roles later none left kinds many same of.left_are (λ kept. kept.outcomes.sent)
      (λ l. l.gathered.sent.items) complete (λ role old new has. has.sent) refl of.sent)
      run_is.sent;
  posts =
      run_is.posts
      ∙ list_is layout roles later none left kinds many same of.left_are (λ kept. kept.posts)
      (λ l. l.gathered.posts.items) complete (λ role old new has. has.posts) refl of.posts;
  yields =
      run_is.yields
      ∙ count_is layout roles later none left kinds many same of.left_are (λ kept. kept.yields)
      (λ l. l.gathered.yields) (λ role old new has. has.yields) refl of.yields;
  lost =
      run_is.lost
      ∙ count_is layout roles later none left kinds many same of.left_are (λ kept. kept.lost)
      (λ l. l.gathered.lost) (λ role old new has. has.lost) refl of.lost;
}
