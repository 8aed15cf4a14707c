-- A turn of a role: what is known of a manager behind it.
use Rattle.std.proofs.Common.{◌≡◌, ◌≢◌, ℕ, ◌<◌, Bool, true, false, inl, inr, List, [], length, refl, sym, ◌∙◌, ap, subst, arith, get_or-set_same, get_or-set_other, Some, Option}
use Rattle.std.specs.Prelude.{◌==◌, if◌then◌else◌, slice_get, slice_index_or, slice_set}
use Rattle.std.proofs.lemmas.Bool.{cases_Bool, eqb-false, eqb-true}
use Rattle.std.proofs.lemmas.List.{length-set}
use Rattle.onvm_base.specs.declared.plan.Plan.{Plan}
use Rattle.onvm_core.specs.declared.layout.Layout.{Layout}
use Rattle.onvm_core.proofs.Lists.{if_met, if_unmet}
use Rattle.onvm_core.specs.Blocks.{kind_of}
use Rattle.onvm_core.specs.Layouts.{IsLayout, IsLayoutOf, first_role}
use Rattle.onvm_core.specs.Logs.{Setting}
use Rattle.onvm_board.specs.Known.{is_split_in}
use Rattle.onvm_board.specs.Rule.{AllJoined}
use Rattle.onvm_board.specs.Tokens.{BoardView, TokenView, kept_log, split_token}
use Rattle.nf_api.specs.Acts.{Acts}
use Rattle.nf_api.specs.Tree.{Tree}
use Rattle.onvm_promises.specs.declared.pass.Pass.{Pass}
use Rattle.onvm_promises.specs.Answers.{is_complete}
use Rattle.onvm_promises.specs.Kept.{moment_then}
use Rattle.onvm_session.proofs.Boarding.{turn_is}
use Rattle.onvm_session.proofs.Growing.{got_below}
use Rattle.onvm_session.proofs.ManagerRuns.{each_set, got_other, got_same}
use Rattle.onvm_session.proofs.ManagerTokens.{ready_with}
use Rattle.onvm_session.specs.declared.manager.Manager.{Manager}
use Rattle.onvm_session.specs.declared.role.Role.{Role}
use Rattle.onvm_session.specs.declared.role.Role.TheVariants.{Receive, Send, Handle, Tick}
use Rattle.onvm_session.specs.Boards.{token_after_turn, view_of_token}
use Rattle.onvm_session.specs.Managers.{IsManager, OfEach, keeps_at, keeps_in, place_now, state_at, states_in}
use Rattle.onvm_session.specs.Moments.{place_of_turn}
use Rattle.onvm_session.specs.RoleStates.{FitsOne, HasStates, IsBoundTo, IsReady, IsRoleInOrder, StartedAt, acts_by, keeps_of, start_by}
use Rattle.onvm_session.specs.Sessions.{IsRolePass, after_turn, with_keeps}
use Rattle.onvm_session.specs.Views.{next_place, place_in, turns_in}

-- no role is split behind a join of the only one that was
joined_again : (r role : ℕ) (was : Bool) → was ≡ false
    → (if role == r then false else if role == r then true else was) ≡ false
joined_again r role was none =
    elim (cases_Bool (role == r)) [
      | inl met ↦ if_met (role == r) false (if role == r then true else was) met
      | inr unmet ↦ if_unmet (role == r) false (if role == r then true else was) unmet
          ∙ if_unmet (role == r) true was unmet ∙ none
    ]

-- a core's functions have the states that the manager's roles tell
pub has_states : {I N : Type 0} (acts : N → Acts) (state : N → Tree) (layout : Layout) (at : ℕ) (role : Role I N)
    (roles : List (Role I N)) → slice_get roles at ≡ Some role
    → HasStates acts state layout at role (states_in acts state layout roles)
has_states acts state layout at (Receive rx) roles found = tt
has_states acts state layout at (Send tx) roles found = tt
has_states {I} {N} acts state layout at (Handle core) roles found = λ f known own.
    ap (λ (r : ℕ). state_at acts state (slice_get roles r) f.0) own
    ∙ ap (λ (role : Option (Role I N)). state_at acts state role f.0) found
has_states acts state layout at (Tick tick) roles found = tt

module _ {I N : Type 0} (acts : N → Acts) (state : N → Tree) (cost_may_take : ℕ → ℕ → Type 0) (plan : Plan) where
  -- what the pass of a turn says, as far as what goes on needs it
  pub record IsTurnPass (site : BoardView) (now : ℕ) (before after : TokenView) (answer : Pass) (old new : Role I N)
      : Type 0 where
    pub promise : (setting : Setting) (moment : ℕ → ℕ) (first : ℕ) (units : List N) (states : ℕ → Tree)
        → FitsOne site.layout plan before.role new setting
        → IsRoleInOrder setting before.role moment before.log old
        → StartedAt first old
        → IsBoundTo acts state site.layout before.role units old
        → HasStates acts state site.layout before.role new states
        → IsRolePass (acts_by acts state units) (start_by acts state units) states cost_may_take setting before.role
        (kind_of site.layout before.role) first now false moment before.log after.log (keeps_of old) (keeps_of new)
        answer
    pub in_order : (setting : Setting) (moment : ℕ → ℕ) → FitsOne site.layout plan before.role new setting
        → IsRoleInOrder setting before.role moment before.log old
        → IsRoleInOrder setting before.role (moment_then moment (length before.log) now) after.log new
    pub ready : IsReady acts state cost_may_take site plan after new
    pub board : after.board ≡ before.board
    pub role : after.role ≡ before.role
    pub empty_handed : after.hand ≡ []
    pub complete : is_complete answer ≡ true
    pub first : (first : ℕ) → StartedAt first old → StartedAt first new
    pub bound : (units : List N) → IsBoundTo acts state site.layout before.role units old
        → IsBoundTo acts state site.layout before.role units new

  -- a turn of the role with this number: its token was split, the role made a pass, and the token was joined
  pub record IsTurn (role now seen : ℕ) (token : TokenView) (answer : Pass) (was is : Role I N) (old new : Manager I N)
      : Type 0 where
    pub at : slice_get old.roles.items role ≡ Some was
    pub roles : new.roles.items ≡ slice_set old.roles.items role is
    pub board : new.board ≡ old.board
    pub registry : new.registry ≡ old.registry
    pub layout : new.layout ≡ old.layout
    pub first : new.first ≡ token_after_turn role seen token old.first
    pub pass : IsTurnPass old.board now (split_token role old.first) token answer was is

  module _ (role now seen : ℕ) (token : TokenView) (answer : Pass) (was is : Role I N) (old new : Manager I N)
      (manager : IsManager acts state cost_may_take plan old)
      (turn : IsTurn role now seen token answer was is old new)
    where
      pub below : role < length old.roles.items
      below = got_below old.roles.items role was turn.at

      below_logs : token.role < length old.first.logs
      below_logs = let own = turn.pass.role in omega (arith, below, manager.many, manager.kept, own)

      pub same_layout : new.board.layout ≡ old.board.layout
      same_layout = ap (λ (b : BoardView). b.layout) turn.board

      pub own_log : kept_log role new.first ≡ token.log
      own_log =
          ap (kept_log role) turn.first
          ∙ subst (λ (r : ℕ). slice_index_or (slice_set old.first.logs token.role token.log) r [] ≡ token.log)
          turn.pass.role (get_or-set_same old.first.logs token.role token.log [] below_logs)

      pub other_log : (r : ℕ) → r ≢ role → kept_log r new.first ≡ kept_log r old.first
      other_log r apart =
          ap (kept_log r) turn.first
          ∙ get_or-set_other old.first.logs token.role r token.log [] (λ e. apart (e ∙ turn.pass.role))

      first_joined : AllJoined old.board.layout new.first.log
      first_joined = λ r less.
          subst (λ (t : TokenView). is_split_in r t.log ≡ false) (sym turn.first)
          (subst (λ (own : ℕ). (if own == r then false else if role == r then true else is_split_in r old.first.log)
          ≡ false) (sym turn.pass.role)
          (joined_again r role (is_split_in r old.first.log) (manager.joined r less)))

      ready_own : IsReady acts state cost_may_take old.board plan (split_token role new.first) is
      ready_own =
          ready_with acts state cost_may_take old.board plan token (split_token role new.first)
          (record {
            board = ap (λ (t : TokenView). t.board) turn.first ∙ sym turn.pass.board;
            role = sym turn.pass.role;
            log = own_log;
            hand = sym turn.pass.empty_handed;
          }) is turn.pass.ready

      ready_other : (r : ℕ) (other : Role I N) → r ≢ role → slice_get old.roles.items r ≡ Some other
          → IsReady acts state cost_may_take old.board plan (split_token r new.first) other
      ready_other r other apart found =
          ready_with acts state cost_may_take old.board plan (split_token r old.first) (split_token r new.first)
          (record {
            board = ap (λ (t : TokenView). t.board) turn.first;
            role = refl;
            log = other_log r apart;
            hand = refl;
          }) other (manager.ready r other found)

      place_is : place_in old.board.layout new.first.log ≡ next_place old.board.layout (place_now old)
      place_is = ap (λ (t : TokenView). place_in old.board.layout t.log) turn.first

      turns_are : place_of_turn old.board.layout (turns_in (view_of_token new.first))
          ≡ next_place old.board.layout (place_now old)
      turns_are =
          ap (λ (t : TokenView). place_of_turn old.board.layout (turns_in (view_of_token t))) turn.first
          ∙ ap (next_place old.board.layout) manager.places

      -- between turns it is a manager again
      pub turn_manager : IsManager acts state cost_may_take plan new
      turn_manager = record {
        layout_is = turn.layout ∙ manager.layout_is ∙ sym same_layout;
        layout_of = subst (IsLayoutOf plan) (sym same_layout) manager.layout_of;
        ranges = subst IsLayout (sym same_layout) manager.ranges;
        registry = turn.registry ∙ manager.registry;
        first = record {
          board = ap (λ (t : TokenView). t.board) turn.first ∙ manager.first.board
              ∙ ap (λ (b : BoardView). b.id) (sym turn.board);
          role = ap (λ (t : TokenView). t.role) turn.first ∙ manager.first.role
              ∙ ap first_role (sym same_layout);
        };
        joined = subst (λ (l : Layout). AllJoined l new.first.log) (sym same_layout) first_joined;
        kept =
            ap (λ (t : TokenView). length t.logs) turn.first ∙ length-set old.first.logs token.role token.log
            ∙ manager.kept ∙ ap first_role (sym same_layout);
        many =
            ap length turn.roles ∙ length-set old.roles.items role is ∙ manager.many
            ∙ ap first_role (sym same_layout);
        places =
            subst (λ (l : Layout).
            place_of_turn l (turns_in (view_of_token new.first)) ≡ place_in l new.first.log) (sym same_layout)
            (turns_are ∙ sym place_is);
        ready =
            subst (λ (b : BoardView).
            OfEach (λ r role. IsReady acts state cost_may_take b plan (split_token r new.first) role) new.roles.items)
            (sym turn.board)
            (subst
            (OfEach (λ r role. IsReady acts state cost_may_take old.board plan (split_token r new.first) role))
            (sym turn.roles)
            (each_set (λ r role. IsReady acts state cost_may_take old.board plan (split_token r new.first) role)
            old.roles.items role is below ready_own ready_other));
      }

      pub view_is : view_of_token new.first ≡ after_turn role seen token.log (view_of_token old.first)
      view_is =
          ap view_of_token turn.first
          ∙ turn_is role seen token old.first turn.pass.role
          (subst (λ (r : ℕ). r < length old.first.logs) turn.pass.role below_logs)

      pub found_now : slice_get new.roles.items role ≡ Some is
      found_now =
          ap (λ (roles : List (Role I N)). slice_get roles role) turn.roles ∙ got_same old.roles.items role is below

      pub found_other : (r : ℕ) → r ≢ role → slice_get new.roles.items r ≡ slice_get old.roles.items r
      found_other r apart =
          ap (λ (roles : List (Role I N)). slice_get roles r) turn.roles ∙ got_other old.roles.items role r is apart

      keeps_at_each : (r : ℕ)
          → keeps_in new.roles.items r ≡ with_keeps role (keeps_of is) (keeps_in old.roles.items) r
      keeps_at_each r =
          elim (cases_Bool (r == role)) [
            | inl met ↦
                ap (keeps_in new.roles.items) (eqb-true r role met) ∙ ap keeps_at found_now
                ∙ sym (if_met (r == role) (keeps_of is) (keeps_in old.roles.items r) met)
            | inr unmet ↦
                ap keeps_at (found_other r (eqb-false r role unmet))
                ∙ sym (if_unmet (r == role) (keeps_of is) (keeps_in old.roles.items r) unmet)
          ]

      pub keeps_are : keeps_in new.roles.items ≡ with_keeps role (keeps_of is) (keeps_in old.roles.items)
      keeps_are = λ i r. keeps_at_each r i
