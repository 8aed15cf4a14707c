-- A phase: what is known of a manager behind it.
use Rattle.std.proofs.Common.{◌≡◌, ℕ, ◌<◌, ◌≤◌, true, false, List, [], All, length, refl, sym, ◌∙◌, ap, subst, arith, Some}
use Rattle.std.specs.Prelude.{◌-◌, IsSome, Option, slice_get, slice_index_or}
use Rattle.std.proofs.lemmas.Option.{get_or_from_slice_get, slice_get-get_or, slice_get_within}
use Rattle.onvm_base.specs.declared.plan.Plan.{Plan}
use Rattle.onvm_core.specs.declared.layout.Layout.{Layout}
use Rattle.onvm_core.specs.Layouts.{IsLayout, IsLayoutOf, first_role}
use Rattle.onvm_board.specs.Rule.{AllJoined}
use Rattle.onvm_board.specs.Tokens.{BoardView, IsFirstToken, TokenView, kept_log, split_token}
use Rattle.onvm_host.specs.Deeds.{Amounts}
use Rattle.nf_api.specs.Acts.{Acts}
use Rattle.nf_api.specs.Tree.{Tree}
use Rattle.onvm_promises.specs.declared.pass.Pass.TheVariants.{Stopped}
use Rattle.onvm_promises.specs.Answers.{is_complete}
use Rattle.onvm_session.proofs.Growing.{got_below, got_some, some_inj}
use Rattle.onvm_session.proofs.ManagerRounds.{upto_later}
use Rattle.onvm_session.proofs.ManagerTokens.{ready_with}
use Rattle.onvm_session.proofs.PhaseTokens.{IsTokenPhase, phase_again, phase_first, phase_joined, phase_kept, phase_places, seat_of_role}
use Rattle.onvm_session.specs.declared.manager.Manager.{Manager}
use Rattle.onvm_session.specs.declared.role.Role.{Role}
use Rattle.onvm_session.specs.declared.seat.Seat.{Seat}
use Rattle.onvm_session.specs.Boards.{view_of_token}
use Rattle.onvm_session.specs.Managers.{AllGrow, IsManager, OfEach}
use Rattle.onvm_session.specs.Moments.{place_of_turn}
use Rattle.onvm_session.specs.RoleStates.{Grows, IsFed, IsReady, IsUpTo, fault_of}
use Rattle.onvm_session.specs.Seats.{AreJoinable, AreRolesOf, AreSeated, HasPassed, IsSeatReady, IsSeated}
use Rattle.onvm_session.specs.Views.{place_in, turns_in}

-- Each of a list, by its place

pub all_at : {X : Type 0} (holds : X → Type 0) (xs : List X) → All holds xs → (at : ℕ) (x : X) → slice_get xs at ≡ Some x
    → holds x
all_at holds xs all at x found =
    subst holds (get_or_from_slice_get xs at x x found) (all at x (slice_get_within xs at x found))

pub all_of_places : {X : Type 0} (holds : X → Type 0) (xs : List X)
    → ((at : ℕ) (x : X) → slice_get xs at ≡ Some x → holds x) → All holds xs
all_of_places holds xs each = λ at x less. each at (slice_index_or xs at x) (slice_get-get_or xs at x less)

module _ {I N : Type 0} (acts : N → Acts) (state : N → Tree) (may_tell : ℕ → Type 0) (cost_may_take : ℕ → ℕ → Type 0)
    (name_of : I → List ℕ) (left_of : I → Option (List ℕ)) (takes_of : I → Amounts) (plan : Plan)
  where
    -- all roles took their seats, and made passes there
    pub record ArePassed (latest : ℕ) (was is : List (Seat I N)) (old : Manager I N) : Type 0 where
      pub seated : AreSeated old latest was
      pub many : length is ≡ length was
      pub each : (at : ℕ) (before behind : Seat I N) → slice_get was at ≡ Some before → slice_get is at ≡ Some behind
          → HasPassed acts state may_tell cost_may_take name_of left_of takes_of old.board plan before behind

    -- and left the seats
    pub record ArePasses (latest : ℕ) (was is : List (Seat I N)) (old new : Manager I N) : Type 0 where
      pub passed : ArePassed latest was is old
      pub roles : AreRolesOf is new.roles.items
      pub board : new.board ≡ old.board
      pub feeds : new.feeds ≡ old.feeds

    -- where no pass was cut short, the first token joined the roles' tokens, and looked
    pub record IsPhase (latest now seen : ℕ) (was is : List (Seat I N)) (joined : TokenView) (old new : Manager I N) : Type 0
      where
        pub passes : ArePasses latest was is old new
        pub complete : (at : ℕ) (seat : Seat I N) → slice_get is at ≡ Some seat → is_complete seat.answer ≡ true
        pub upto : (at : ℕ) (seat : Seat I N) → slice_get is at ≡ Some seat → seat.latest ≤ now
        pub registry : new.registry ≡ old.registry
        pub layout : new.layout ≡ old.layout
        pub token : IsTokenPhase old.board is seen old.first joined new.first

    -- Seats

    module _ (latest : ℕ) (was : List (Seat I N)) (old : Manager I N) (seated : AreSeated old latest was) where
      -- the number of a seat is that of a role
      seat_below : (at : ℕ) (seat : Seat I N) → slice_get was at ≡ Some seat
          → length was - 1 - at < length old.roles.items
      seat_below at seat found =
          let below = got_below was at seat found in
          let many = seated.many in
          omega (arith, below, many)

      -- roles that took their seats are ready for passes there
      pub seats_ready : IsManager acts state cost_may_take plan old → OfEach (λ r role. IsUpTo latest role) old.roles.items
          → may_tell latest → (at : ℕ) (seat : Seat I N) → slice_get was at ≡ Some seat
          → IsSeatReady acts state may_tell cost_may_take old.board plan seat
      seats_ready manager upto told at seat found =
          let r : ℕ = length was - 1 - at in
          let here = seated.each at seat found in
          record {
            own = ap (λ (t : TokenView). t.role) here.token ∙ sym here.number_is;
            ready =
                subst (λ (t : TokenView). IsReady acts state cost_may_take old.board plan t seat.role) (sym here.token)
                (manager.ready r seat.role here.role);
            upto = subst (λ (n : ℕ). IsUpTo n seat.role) (sym here.latest_is) (upto r seat.role here.role);
            told = subst may_tell (sym here.latest_is) told;
          }

      pub all_ready : (slice : List (Seat I N)) (site : BoardView) → slice ≡ was → site ≡ old.board
          → IsManager acts state cost_may_take plan old → OfEach (λ r role. IsUpTo latest role) old.roles.items
          → may_tell latest → All (IsSeatReady acts state may_tell cost_may_take site plan) slice
      all_ready slice site slice_is site_is manager upto told =
          all_of_places (IsSeatReady acts state may_tell cost_may_take site plan) slice (λ at seat found.
          subst (λ (b : BoardView). IsSeatReady acts state may_tell cost_may_take b plan seat) (sym site_is)
          (seats_ready manager upto told at seat
          (subst (λ (seats : List (Seat I N)). slice_get seats at ≡ Some seat) slice_is found)))

      pub all_complete : (slice : List (Seat I N)) → slice ≡ was → All (λ seat. is_complete seat.answer ≡ true) slice
      all_complete slice slice_is =
          all_of_places (λ seat. is_complete seat.answer ≡ true) slice (λ at seat found.
          (seated.each at seat (subst (λ (seats : List (Seat I N)). slice_get seats at ≡ Some seat) slice_is found)).complete)

      -- what passes of these seats made of them
      pub seats_passed : (slice is : List (Seat I N)) (site : BoardView) → slice ≡ was → site ≡ old.board
          → length is ≡ length slice
          → ((at : ℕ) (before behind : Seat I N) → slice_get slice at ≡ Some before → slice_get is at ≡ Some behind
          → HasPassed acts state may_tell cost_may_take name_of left_of takes_of site plan before behind)
          → ArePassed latest was is old
      seats_passed slice is site slice_is site_is many each = record {
        seated = seated;
        many = many ∙ ap length slice_is;
        each = λ at before behind found found_behind.
            subst (λ (b : BoardView).
            HasPassed acts state may_tell cost_may_take name_of left_of takes_of b plan before behind) site_is
            (each at before behind
            (subst (λ (seats : List (Seat I N)). slice_get seats at ≡ Some before) (sym slice_is) found) found_behind);
      }

    module _ (latest : ℕ) (was is : List (Seat I N)) (old : Manager I N) (passed : ArePassed latest was is old) where
      -- the seat as it was before the passes
      pub seat_before : (at : ℕ) (behind : Seat I N) → slice_get is at ≡ Some behind
          → (before : Seat I N)
          × IsSeated old latest (length is - 1 - at) before
          × HasPassed acts state may_tell cost_may_take name_of left_of takes_of old.board plan before behind
      seat_before at behind found =
          let below = got_below is at behind found in
          let many = passed.many in
          let here = got_some was at (omega (arith, below, many)) in (
            here.0,
            subst (λ (n : ℕ). IsSeated old latest (n - 1 - at) here.0) (sym many) (passed.seated.each at here.0 here.1),
            passed.each at here.0 behind here.1 found,
          )

      -- tokens of seats whose passes weren't cut short can be joined
      pub seats_joinable : IsManager acts state cost_may_take plan old
          → ((at : ℕ) (seat : Seat I N) → slice_get is at ≡ Some seat → is_complete seat.answer ≡ true)
          → AreJoinable old.board is
      seats_joinable manager complete = record {
        many = passed.many ∙ passed.seated.many ∙ manager.many;
        each = λ at seat found.
            let here = seat_before at seat found in (
              here.2.board ∙ ap (λ (t : TokenView). t.board) here.1.token ∙ manager.first.board,
              here.2.ready.own ∙ here.2.number ∙ here.1.number_is,
              here.2.empty_handed (ap (λ (t : TokenView). t.hand) here.1.token) (complete at seat found),
            );
      }

      -- the clock may tell the moment of each seat's last pass
      pub seats_told : (at : ℕ) (seat : Seat I N) → slice_get is at ≡ Some seat → may_tell seat.latest
      seats_told at seat found = (seat_before at seat found).2.ready.told

    -- Roles

    -- a role's passes in a phase
    pub record HasPasses (latest r : ℕ) (is : List (Seat I N)) (old new : Manager I N) : Type 0 where
      pub before : Seat I N
      pub behind : Seat I N
      pub place : ℕ
      pub at_place : slice_get is place ≡ Some behind
      pub number : length is - 1 - place ≡ r
      pub seated : IsSeated old latest r before
      pub passed : HasPassed acts state may_tell cost_may_take name_of left_of takes_of old.board plan before behind
      pub role : slice_get new.roles.items r ≡ Some behind.role

    module _ (latest : ℕ) (was is : List (Seat I N)) (old new : Manager I N)
        (passes : ArePasses latest was is old new)
      where
        pub as_many : length new.roles.items ≡ length old.roles.items
        as_many = passes.roles.many ∙ passes.passed.many ∙ passes.passed.seated.many

        pub role_passes : (r : ℕ) → r < length new.roles.items → HasPasses latest r is old new
        role_passes r less =
            let many = passes.roles.many in
            let there = seat_of_role is r (omega (arith, less, many)) in
            let here = seat_before latest was is old passes.passed there.0 there.1 there.2 in
            record {
              before = here.0;
              behind = there.1;
              place = there.0;
              at_place = there.2;
              number = there.3;
              seated = subst (λ (n : ℕ). IsSeated old latest n here.0) there.3 here.1;
              passed = here.2;
              role =
                  subst (λ (n : ℕ). slice_get new.roles.items n ≡ Some there.1.role) there.3
                  (passes.roles.each there.0 there.1 there.2);
            }

        -- nothing of the roles' feeds is lost
        pub passes_grow : AllGrow name_of left_of takes_of old new
        passes_grow = record {
          many = as_many;
          board = passes.board;
          feeds = passes.feeds;
          grow = λ r role later found found_later.
              let one = role_passes r (got_below new.roles.items r later found_later) in
              subst (λ (x : Role I N). Grows x later) (some_inj one.before.role role (sym one.seated.role ∙ found))
              (subst (Grows one.before.role) (some_inj one.behind.role later (sym one.role ∙ found_later))
              one.passed.grows);
          fed = λ feeds are r role found.
              let one = role_passes r (got_below new.roles.items r role found) in
              subst (IsFed name_of left_of takes_of (slice_get feeds r))
              (some_inj one.behind.role role (sym one.role ∙ found))
              (one.passed.fed (slice_get feeds r) (are r one.before.role one.seated.role));
        }

        -- a fault is some role's
        pub passes_fault : (at : ℕ) (seat : Seat I N) → slice_get is at ≡ Some seat → seat.answer ≡ Stopped
            → (r : ℕ) × (role : Role I N) × (slice_get new.roles.items r ≡ Some role) × IsSome (fault_of role)
        passes_fault at seat found stopped = (
          length is - 1 - at,
          seat.role,
          passes.roles.each at seat found,
          (seat_before latest was is old passes.passed at seat found).2.stopped stopped,
        )

    -- The manager

    module _ (latest now seen : ℕ) (was is : List (Seat I N)) (joined : TokenView) (old new : Manager I N)
        (manager : IsManager acts state cost_may_take plan old)
        (phase : IsPhase latest now seen was is joined old new)
      where
        pub board_layout : new.board.layout ≡ old.board.layout
        board_layout = ap (λ (b : BoardView). b.layout) phase.passes.board

        ready_again : (r : ℕ) (role : Role I N) → slice_get new.roles.items r ≡ Some role
            → IsReady acts state cost_may_take old.board plan (split_token r new.first) role
        ready_again r role found =
            let one = role_passes latest was is old new phase.passes r (got_below new.roles.items r role found) in
            let joinable = seats_joinable latest was is old phase.passes.passed manager phase.complete in
            subst (IsReady acts state cost_may_take old.board plan (split_token r new.first))
            (some_inj one.behind.role role (sym one.role ∙ found))
            (subst (λ (n : ℕ).
            IsReady acts state cost_may_take old.board plan (split_token n new.first) one.behind.role) one.number
            (ready_with acts state cost_may_take old.board plan one.behind.token
            (split_token (length is - 1 - one.place) new.first)
            (phase_again old.board is seen old.first joined new.first phase.token joinable one.place one.behind
            one.at_place) one.behind.role one.passed.ready.ready))

        -- between phases it is a manager again
        pub phase_manager : IsManager acts state cost_may_take plan new
        phase_manager = record {
          layout_is = phase.layout ∙ manager.layout_is ∙ sym board_layout;
          layout_of = subst (IsLayoutOf plan) (sym board_layout) manager.layout_of;
          ranges = subst IsLayout (sym board_layout) manager.ranges;
          registry = phase.registry ∙ manager.registry;
          first =
              subst (λ (b : BoardView). IsFirstToken b new.first) (sym phase.passes.board)
              (phase_first old.board is seen old.first joined new.first phase.token);
          joined =
              subst (λ (l : Layout). AllJoined l new.first.log) (sym board_layout)
              (phase_joined old.board is seen old.first joined new.first phase.token);
          kept =
              phase_kept old.board is seen old.first joined new.first phase.token
              ∙ ap first_role (sym board_layout);
          many =
              as_many latest was is old new phase.passes ∙ manager.many ∙ ap first_role (sym board_layout);
          places =
              subst (λ (l : Layout). place_of_turn l (turns_in (view_of_token new.first)) ≡ place_in l new.first.log)
              (sym board_layout)
              (phase_places old.board is seen old.first joined new.first phase.token manager.places);
          ready =
              subst (λ (b : BoardView).
              OfEach (λ r role. IsReady acts state cost_may_take b plan (split_token r new.first) role) new.roles.items)
              (sym phase.passes.board) ready_again;
        }

        -- the tick role's passes had moments up to the phase's last one
        pub phase_upto : OfEach (λ r role. IsUpTo now role) new.roles.items
        phase_upto r role found =
            let one = role_passes latest was is old new phase.passes r (got_below new.roles.items r role found) in
            subst (IsUpTo now) (some_inj one.behind.role role (sym one.role ∙ found))
            (upto_later one.behind.latest now one.behind.role (phase.upto one.place one.behind one.at_place)
            one.passed.ready.upto)
