-- A session of which no turn was made is a manager between turns, and its invariant holds.
use Rattle.std.proofs.Common.{◌≡◌, ℕ, zero, suc, ◌<◌, Bool, true, false, inl, inr, List, [], length, replicate, refl, sym, ◌∙◌, ap, subst, arith, Some, Option}
use Rattle.std.specs.Prelude.{nat_lt, slice_get, slice_index, slice_index_or}
use Rattle.std.proofs.lemmas.Bool.{cases_Bool, ltb-true, ltb-false}
use Rattle.std.proofs.lemmas.List.{length-replicate}
use Rattle.onvm_base.specs.declared.ids.FnId.{FnId}
use Rattle.onvm_base.specs.declared.plan.Plan.{Plan}
use Rattle.onvm_core.specs.declared.layout.Layout.{Layout}
use Rattle.onvm_core.specs.Blocks.{kind_of}
use Rattle.onvm_core.specs.Blocks.RoleKind.{Handles, Ticks}
use Rattle.onvm_core.specs.Layouts.{core_role, first_role}
use Rattle.onvm_core.specs.Logs.{Log, Setting}
use Rattle.onvm_board.specs.Known.{is_split_in}
use Rattle.onvm_core.specs.Places.{how_many}
use Rattle.onvm_promises.specs.Kept.{at_most_64_bits, is_lost, is_yield}
use Rattle.onvm_core.proofs.RoleKinds.{core_handles, kind_tick}
use Rattle.onvm_board.specs.Tokens.{BoardView, IsFirstToken, TokenView, first_token, kept_log, split_token}
use Rattle.onvm_host.specs.Deeds.{Amounts}
use Rattle.nf_api.specs.Acts.{Acts}
use Rattle.nf_api.specs.Tree.{Tree}
use Rattle.onvm_promises.specs.Sampling.{AreTimed, is_cost}
use Rattle.rx_feed.specs.declared.feed.Feed.{Feed}
use Rattle.onvm_session.specs.declared.manager.Manager.{Manager}
use Rattle.onvm_session.specs.declared.role.Role.{Role}
use Rattle.onvm_session.specs.declared.role.Role.TheVariants.{Receive, Send, Handle, Tick}
use Rattle.onvm_session.proofs.Growing.{got_none, got_some}
use Rattle.onvm_session.proofs.Passing.{so_far_as}
use Rattle.onvm_session.proofs.Starting.{session_starts}
use Rattle.onvm_session.specs.Boards.{view_of_token}
use Rattle.onvm_session.specs.Managers.{FitsAll, IsManager, IsUnderway, IsUnderwayAt, OfEach, keeps_at, keeps_in, state_at, states_in}
use Rattle.onvm_session.specs.Moments.{place_of_turn}
use Rattle.onvm_session.specs.RoleStates.{IsReady, IsRoleInOrder, acts_by, keeps_of, start_by}
use Rattle.onvm_session.specs.Rooms.{IsNewManager, IsNewRole}
use Rattle.onvm_session.specs.Runs.{any_moment}
use Rattle.onvm_session.specs.Sessions.{IsSession, Keeps}
use Rattle.onvm_session.specs.Starts.{FirstMoment, first_view, no_keeps}
use Rattle.onvm_session.specs.Views.{FinalView, place_in, turns_in}

-- The first token of a new board

none_kept : (n r : ℕ) → ◌≡◌ {A = Log} (slice_index_or (replicate n []) r []) []
none_kept zero r = refl
none_kept (suc n) zero = refl
none_kept (suc n) (suc r) = none_kept n r

first_view_is : (board : BoardView) → view_of_token (first_token board) ≡ first_view
first_view_is board = λ i. record {
  lead = [];
  logs = λ role. none_kept (first_role board.layout) role i;
  counts = [];
}

-- a role that made no act is ready whatever spans may be
ready_unacted : {I N : Type 0} (acts : N → Acts) (state : N → Tree) (cost_may_take : ℕ → ℕ → Type 0) (site : BoardView)
    (plan : Plan) (token : TokenView) (role : Role I N) → token.log ≡ []
    → IsReady acts state is_cost site plan token role → IsReady acts state cost_may_take site plan token role
ready_unacted acts state cost_may_take site plan token (Receive rx) none ready = ready
ready_unacted acts state cost_may_take site plan token (Send tx) none ready = ready
ready_unacted acts state cost_may_take site plan token (Handle core) none ready =
    (ready.0, subst (λ (log : Log). AreTimed cost_may_take plan log) (sym none) tt)
ready_unacted acts state cost_may_take site plan token (Tick tick) none ready = ready

module _ {I N : Type 0} (name_of : I → List ℕ) (left_of : I → Option (List ℕ)) (takes_of : I → Amounts)
    (acts : N → Acts) (state : N → Tree) (plan : Plan) (units : List N) (given : List (Feed I))
    (first : ℕ) (manager : Manager I N)
    (new : IsNewManager name_of left_of takes_of acts state plan units given first manager)
  where
    abbrev layout : Layout
    layout = manager.board.layout

    each : OfEach (IsNewRole name_of left_of takes_of acts state manager.board plan units given first)
        manager.roles.items
    each = new.roles.each

    ready_at : (token : TokenView) → token ≡ first_token manager.board → (r : ℕ) (role : Role I N)
        → slice_get manager.roles.items r ≡ Some role
        → IsReady acts state is_cost manager.board plan (split_token r token) role
    ready_at token is r role found =
        subst (λ (t : TokenView). IsReady acts state is_cost manager.board plan (split_token r t) role) (sym is)
        ((each r role found).ready (split_token r (first_token manager.board)) refl refl
        (none_kept (first_role layout) r) refl)

    -- whatever spans may be told
    pub new_manager : (cost_may_take : ℕ → ℕ → Type 0) → IsManager acts state cost_may_take plan manager
    new_manager cost_may_take = record {
      layout_is = new.layout_is;
      layout_of = new.layout_of;
      ranges = new.ranges;
      registry = new.registry;
      first = subst (IsFirstToken manager.board) (sym new.first) (record { board = refl; role = refl });
      joined = λ role below. subst (λ (t : TokenView). is_split_in role t.log ≡ false) (sym new.first) refl;
      kept = ap (λ (t : TokenView). length t.logs) new.first ∙ length-replicate (first_role layout) [];
      many = new.roles.many;
      places =
          subst (λ (t : TokenView).
          place_of_turn layout (turns_in (view_of_token t)) ≡ place_in layout t.log) (sym new.first) refl;
      ready = λ r role found.
          ready_unacted acts state cost_may_take manager.board plan (split_token r manager.first) role
          (ap (kept_log r) new.first ∙ none_kept (first_role layout) r) (ready_at manager.first new.first r role found);
    }

    log_at : (r : ℕ) → kept_log r manager.first ≡ []
    log_at r = ap (kept_log r) new.first ∙ none_kept (first_role layout) r

    -- What roles keep at first

    moments_at_first : ℕ → ℕ → ℕ
    moments_at_first role number = 0

    nothing_kept : (setting : Setting) (fits : FitsAll plan setting manager) (r : ℕ) (role : Role I N)
        → slice_get manager.roles.items r ≡ Some role → keeps_of role ≡ no_keeps
    nothing_kept setting fits r (Receive rx) found =
        let order = (each r (Receive rx) found).in_order setting (moments_at_first r) (fits.fits r (Receive rx) found) in
        let kept = order.so_far.kept in
        λ i. record no_keeps {
          feeder = record {
            outcomes = record { records = kept.records i; sent = kept.sent i };
            posts = kept.posts i;
          };
        }
    nothing_kept setting fits r (Send tx) found =
        let order = (each r (Send tx) found).in_order setting (moments_at_first r) (fits.fits r (Send tx) found) in
        let kept = order.so_far.kept in
        λ i. record no_keeps {
          feeder = record {
            outcomes = record { records = kept.records i; sent = kept.sent i };
            posts = kept.posts i;
          };
        }
    nothing_kept setting fits r (Handle core) found =
        let ready = (each r (Handle core) found).ready (split_token r (first_token manager.board)) refl refl
        (none_kept (first_role layout) r) refl in
        let no_log = none_kept (first_role layout) r in
        let yields = ready.0.work.yields ∙ ap (λ log. at_most_64_bits (how_many is_yield log)) no_log in
        let lost = ready.0.work.lost ∙ ap (λ log. at_most_64_bits (how_many is_lost log)) no_log in
        λ i. record no_keeps { core = record { yields = yields i; lost = lost i } }
    nothing_kept setting fits r (Tick tick) found =
        let order = (each r (Tick tick) found).in_order setting (moments_at_first r) (fits.fits r (Tick tick) found) in
        λ i. record no_keeps { samples = order.kept i; ticks = (each r (Tick tick) found).unticked i }

    none_at : (setting : Setting) (fits : FitsAll plan setting manager) (r : ℕ)
        → keeps_in manager.roles.items r ≡ no_keeps
    none_at setting fits r = elim (cases_Bool (nat_lt r (length manager.roles.items))) [
      | inl under ↦
          let at = got_some manager.roles.items r (ltb-true r (length manager.roles.items) under) in
          ap keeps_at at.1 ∙ nothing_kept setting fits r at.0 at.1
      | inr over ↦ ap keeps_at (got_none manager.roles.items r (ltb-false r (length manager.roles.items) over))
    ]

    -- Their functions are in the states of their units

    ready_first : (r : ℕ) (role : Role I N) → slice_get manager.roles.items r ≡ Some role
        → IsReady acts state is_cost manager.board plan (split_token r (first_token manager.board)) role
    ready_first = ready_at (first_token manager.board) refl

    -- the role of a function's core handles
    core_is : (f : FnId) → f.0 < layout.functions → (r : ℕ) → core_role layout f.0 ≡ r → kind_of layout r ≡ Handles
    core_is f known r own = ap (kind_of layout) (sym own) ∙ core_handles layout f.0 new.ranges known

    begins_as : (r : ℕ) (role : Role I N) → slice_get manager.roles.items r ≡ Some role
        → (f : FnId) → f.0 < layout.functions → core_role layout f.0 ≡ r
        → state_at acts state (Some role) f.0 ≡ start_by acts state units f.0
    begins_as r (Receive rx) found f known own =
        let port = (ready_first r (Receive rx) found).receives in absurd (omega (arith, port, own))
    begins_as r (Send tx) found f known own =
        let sends = (ready_first r (Send tx) found).transmit.below in absurd (omega (arith, sends, own))
    begins_as r (Handle core) found f known own = sym ((each r (Handle core) found).states f known own)
    begins_as r (Tick tick) found f known own =
        let off : Handles ≡ Ticks =
        sym (core_is f known r own) ∙ ap (kind_of layout) (ready_first r (Tick tick) found).mine ∙ kind_tick layout in
        absurd (cc off)

    core_known : (f : FnId) → f.0 < layout.functions → core_role layout f.0 < length manager.roles.items
    core_known f known =
        let core : slice_index layout.core_of f.0 < layout.cores =
        new.ranges.core_of f.0 0 (omega (arith, new.ranges.places, new.ranges.functions.1, known)) in
        omega (arith, new.roles.many, core)

    begins : (f : FnId) → f.0 < layout.functions
        → states_in acts state layout manager.roles.items f.0 ≡ start_by acts state units f.0
    begins f known =
        let below : core_role layout f.0 < length manager.roles.items = core_known f known in
        let at = got_some manager.roles.items (core_role layout f.0) below in
        ap (λ role. state_at acts state role f.0) at.1 ∙ begins_as (core_role layout f.0) at.0 at.1 f known refl

    -- The invariant

    view_is : view_of_token manager.first ≡ first_view
    view_is = ap view_of_token new.first ∙ first_view_is manager.board

    keeps_are : (setting : Setting) → FitsAll plan setting manager
        → keeps_in manager.roles.items ≡ (λ (role : ℕ). no_keeps)
    keeps_are setting fits = λ i r. none_at setting fits r i

    module _ (serial : Bool) (may_tell : ℕ → Type 0) (cost_may_take : ℕ → ℕ → Type 0) (at : FirstMoment serial first)
        (setting : Setting) (fits : FitsAll plan setting manager) where
      begun : IsSession serial may_tell (acts_by acts state units) (start_by acts state units)
          (start_by acts state units) cost_may_take setting moments_at_first first first first_view (λ role. no_keeps)
      begun =
          session_starts serial may_tell (acts_by acts state units) (start_by acts state units) cost_may_take setting
          moments_at_first first at

      -- in the roles' states, which are those of the units
      in_states : IsSession serial may_tell (acts_by acts state units) (start_by acts state units)
          (states_in acts state layout manager.roles.items) cost_may_take setting moments_at_first first first first_view
          (λ role. no_keeps)
      in_states = record {
        so_far = begun.so_far;
        roles = λ role known.
            so_far_as (acts_by acts state units) (start_by acts state units) (start_by acts state units)
            (states_in acts state layout manager.roles.items) cost_may_take setting role (kind_of setting.layout role)
            (moments_at_first role) (moments_at_first role) [] [] no_keeps no_keeps refl refl refl
            (λ f own. begins f (subst (λ (l : Layout). f.0 < l.functions) fits.layout_is own.known))
            (begun.roles role known);
        ticks = begun.ticks;
        timed_ticks = begun.timed_ticks;
      }

      of_roles : IsSession serial may_tell (acts_by acts state units) (start_by acts state units)
          (states_in acts state layout manager.roles.items) cost_may_take setting moments_at_first first first
          (view_of_token manager.first) (keeps_in manager.roles.items)
      of_roles =
          subst (λ (view : FinalView). IsSession serial may_tell (acts_by acts state units) (start_by acts state units)
          (states_in acts state layout manager.roles.items) cost_may_take setting moments_at_first first first view
          (keeps_in manager.roles.items)) (sym view_is)
          (subst (λ (keeps : ℕ → Keeps). IsSession serial may_tell (acts_by acts state units)
          (start_by acts state units) (states_in acts state layout manager.roles.items) cost_may_take setting
          moments_at_first first first first_view keeps) (sym (keeps_are setting fits))
          in_states)

    in_order_at_first : (setting : Setting) → FitsAll plan setting manager
        → OfEach (λ r role. IsRoleInOrder setting r (moments_at_first r) (kept_log r manager.first) role)
        manager.roles.items
    in_order_at_first setting fits r role found =
        subst (λ (log : Log). IsRoleInOrder setting r (moments_at_first r) log role) (sym (log_at r))
        ((each r role found).in_order setting (moments_at_first r) (fits.fits r role found))

    -- a serial session begins at 0
    pub new_underway : FirstMoment true first → (setting : Setting) → FitsAll plan setting manager
        → IsUnderway acts state true any_moment is_cost first units setting manager
    new_underway at setting fits = record {
      moments = moments_at_first;
      latest = first;
      session = of_roles true any_moment is_cost at setting fits;
      in_order = in_order_at_first setting fits;
      started = λ r role found. (each r role found).started;
      bound = λ r role found. (each r role found).bound;
    }

    pub new_underway_at : (may_tell : ℕ → Type 0) (cost_may_take : ℕ → ℕ → Type 0) (setting : Setting)
        → FitsAll plan setting manager
        → IsUnderwayAt acts state may_tell cost_may_take first first units setting manager
    new_underway_at may_tell cost_may_take setting fits = record {
      underway = record {
        moments = moments_at_first;
        latest = first;
        session = of_roles false may_tell cost_may_take tt setting fits;
        in_order = in_order_at_first setting fits;
        started = λ r role found. (each r role found).started;
        bound = λ r role found. (each r role found).bound;
      };
      reached = omega arith;
    }
