-- What stays of roles and feeds whatever passes answer, and what it says of a session that ended.
use Rattle.std.proofs.Common.{◌≡◌, ◌≢◌, ℕ, ◌+◌, ◌<◌, ◌≤◌, inl, inr, List, [], ◌++◌, length, refl, sym, ◌∙◌, ap, subst, arith, Some, None, Option}
use Rattle.std.specs.Prelude.{nat_lt, slice_get, vec_capacity, vec_len}
use Rattle.std.proofs.lemmas.Bool.{cases_Bool, ltb-true, ltb-false}
use Rattle.onvm_base.specs.declared.plan.Plan.{Plan}
use Rattle.onvm_core.specs.declared.layout.Layout.{Layout}
use Rattle.onvm_core.proofs.RoleKinds.{kind_port}
use Rattle.onvm_core.specs.Blocks.{RoleKind, kind_of}
use Rattle.onvm_core.specs.Blocks.RoleKind.{Receives, Sends, Handles, Ticks}
use Rattle.onvm_core.specs.Layouts.{IsLayout, IsLayoutOf, first_role}
use Rattle.onvm_board.specs.Tokens.{split_token}
use Rattle.onvm_host.specs.Deeds.{Amounts}
use Rattle.nf_api.specs.Acts.{Acts}
use Rattle.nf_api.specs.Tree.{Tree}
use Rattle.onvm_promises.specs.Sampling.{is_cost}
use Rattle.rx_feed.specs.declared.feed.Feed.{Feed}
use Rattle.rx_feed.specs.Feeds.{StaysFeed}
use Rattle.onvm_session.specs.declared.manager.Manager.{Manager}
use Rattle.onvm_session.specs.declared.role.Role.{Role}
use Rattle.onvm_session.specs.declared.role.Role.TheVariants.{Receive, Send, Handle, Tick}
use Rattle.onvm_session.proofs.Beginnings.{new_manager}
use Rattle.onvm_session.proofs.Growing.{got_below, got_none, got_some}
use Rattle.onvm_session.proofs.HandingBack.{HaveFeeds, feed_at, few_feeds, handed_back, kinds_are}
use Rattle.onvm_session.proofs.RolePasses.{ready_kind}
use Rattle.onvm_session.specs.Leaving.{feeds_of}
use Rattle.onvm_session.specs.Managers.{AllGrow, AreFed, OfEach}
use Rattle.onvm_session.specs.RoleStates.{IsFedBy, feed_of, kind_in, standing_of}
use Rattle.onvm_session.specs.Rooms.{IsNewManager}
use Rattle.onvm_session.specs.Runs.{AreHandedBack, StandsWith}

-- Layouts

-- a plan has one layout
pub one_layout : (plan : Plan) (a b : Layout) → IsLayoutOf plan a → IsLayoutOf plan b → a ≡ b
one_layout plan a b first other = λ i. record {
  ports = (first.ports ∙ sym other.ports) i;
  transmit = (first.transmit ∙ sym other.transmit) i;
  cores = (first.cores ∙ sym other.cores) i;
  functions = (first.functions ∙ sym other.functions) i;
  buffers = (first.buffers ∙ sym other.buffers) i;
  ring = (first.ring ∙ sym other.ring) i;
  output = (first.output ∙ sym other.output) i;
  core_of = (first.core_of ∙ sym other.core_of) i;
}

-- Roles and feeds

module _ {I N : Type 0} (name_of : I → List ℕ) (left_of : I → Option (List ℕ)) (takes_of : I → Amounts) (plan : Plan)
    (given : List (Feed I)) where
  -- the roles are of the kinds of their numbers, each port has the feed that was handed in, and there is room to hand the
  -- feeds back
  pub record IsTended (manager : Manager I N) : Type 0 where
    pub layout_of : IsLayoutOf plan manager.board.layout
    pub ranges : IsLayout manager.board.layout
    pub many : length manager.roles.items ≡ first_role manager.board.layout
    pub kinds : OfEach (λ r role. kind_in role ≡ kind_of manager.board.layout r) manager.roles.items
    pub fed : AreFed name_of left_of takes_of given manager.roles.items
    pub none : manager.feeds.items ≡ []
    pub room : plan.ports ≤ vec_capacity manager.feeds

  pub tended_first : (acts : N → Acts) (state : N → Tree) (units : List N) (first : ℕ) (manager : Manager I N)
      → IsNewManager name_of left_of takes_of acts state plan units given first manager → IsTended manager
  tended_first acts state units first manager new = record {
    layout_of = new.layout_of;
    ranges = new.ranges;
    many = new.roles.many;
    kinds = λ r role found.
        ready_kind acts state is_cost manager.board plan (split_token r manager.first) role
        ((new_manager name_of left_of takes_of acts state plan units given first manager new is_cost).ready r role found);
    fed = λ r role found. (new.roles.each r role found).fed;
    none = new.feeds;
    room = new.feed_room;
  }

  -- the same of roles that went on
  pub tended_then : (old new : Manager I N) → AllGrow name_of left_of takes_of old new → IsTended old → IsTended new
  tended_then old new grow tended = record {
    layout_of = subst (λ board. IsLayoutOf plan board.layout) (sym grow.board) tended.layout_of;
    ranges = subst (λ board. IsLayout board.layout) (sym grow.board) tended.ranges;
    many = grow.many ∙ tended.many ∙ ap (λ board. first_role board.layout) (sym grow.board);
    kinds = λ r role found.
        let below = got_below new.roles.items r role found in
        let was = got_some old.roles.items r (omega (arith, below, grow.many)) in
        (grow.grow r was.0 role was.1 found).kind ∙ tended.kinds r was.0 was.1
        ∙ ap (λ board. kind_of board.layout r) (sym grow.board);
    fed = grow.fed given tended.fed;
    none = ap (λ feeds. feeds.items) grow.feeds ∙ tended.none;
    room = subst (λ feeds. plan.ports ≤ vec_capacity feeds) (sym grow.feeds) tended.room;
  }

  module _ (manager : Manager I N) (tended : IsTended manager) (few : length given ≤ plan.ports) where
    -- a role behind the ports has no feed
    none_behind : (r : ℕ) (kind : RoleKind) → kind ≡ kind_of manager.board.layout r → kind ≢ Receives
        → slice_get given r ≡ None
    none_behind r kind is other = elim (cases_Bool (nat_lt r manager.board.layout.ports)) [
      | inl under ↦
          absurd (other (is ∙ kind_port manager.board.layout r (ltb-true r manager.board.layout.ports under)))
      | inr over ↦
          let past = ltb-false r manager.board.layout.ports over in
          let ports = tended.layout_of.ports in
          got_none given r (omega (arith, past, few, ports))
    ]

    have_as : (r : ℕ) (role : Role I N) → slice_get manager.roles.items r ≡ Some role
        → StaysFeed name_of (slice_get given r) (feed_of role)
    have_as r (Receive rx) found = (tended.fed r (Receive rx) found).stays
    have_as r (Send tx) found =
        subst (λ feed. StaysFeed name_of feed None)
        (sym (none_behind r Sends (tended.kinds r (Send tx) found) (λ e. cc e))) refl
    have_as r (Handle core) found =
        subst (λ feed. StaysFeed name_of feed None)
        (sym (none_behind r Handles (tended.kinds r (Handle core) found) (λ e. cc e))) refl
    have_as r (Tick tick) found =
        subst (λ feed. StaysFeed name_of feed None)
        (sym (none_behind r Ticks (tended.kinds r (Tick tick) found) (λ e. cc e))) refl

    have : HaveFeeds name_of given manager.roles.items
    have = have_as

    long : length given ≤ length manager.roles.items
    long = omega (arith, few, tended.many, tended.layout_of.ports)

    pub back_again : AreHandedBack name_of given (manager.feeds.items ++ feeds_of manager.roles.items)
    back_again =
        subst (λ earlier. AreHandedBack name_of given (earlier ++ feeds_of manager.roles.items)) (sym tended.none)
        (handed_back name_of given manager.roles.items have long)

    pub room_back : vec_len manager.feeds + length (feeds_of manager.roles.items) ≤ vec_capacity manager.feeds
    room_back =
        let feeds = few_feeds manager.board.layout 0 manager.roles.items
        (kinds_are manager.board.layout 0 manager.roles.items
        (λ r role found. tended.kinds r role found ∙ ap (kind_of manager.board.layout) (omega arith))) in
        omega (arith, feeds, tended.room, tended.layout_of.ports, ap (length {A = Feed I}) tended.none)

    other_kind : (port : ℕ) (kind : RoleKind) → port < plan.ports → kind ≡ kind_of manager.board.layout port
        → kind ≢ Receives → ⊥
    other_kind port kind known is other =
        other (is ∙ kind_port manager.board.layout port (omega (arith, known, tended.layout_of.ports)))

    -- where a port stands with its feed
    pub stands_at : (port : ℕ) (role : Role I N) → slice_get manager.roles.items port ≡ Some role
        → port < plan.ports
        → StandsWith name_of left_of takes_of given (manager.feeds.items ++ feeds_of manager.roles.items) port
        (standing_of role)
    stands_at port (Receive rx) found known =
        subst (λ earlier. IsFedBy name_of left_of takes_of (slice_get given port)
        (slice_get (earlier ++ feeds_of manager.roles.items) port) rx.intake.standing) (sym tended.none)
        (subst (λ feed. IsFedBy name_of left_of takes_of (slice_get given port) feed rx.intake.standing)
        (sym (feed_at name_of given manager.roles.items have port (Receive rx) found))
        (tended.fed port (Receive rx) found))
    stands_at port (Send tx) found known =
        absurd (other_kind port Sends known (tended.kinds port (Send tx) found) (λ e. cc e))
    stands_at port (Handle core) found known =
        absurd (other_kind port Handles known (tended.kinds port (Handle core) found) (λ e. cc e))
    stands_at port (Tick tick) found known =
        absurd (other_kind port Ticks known (tended.kinds port (Tick tick) found) (λ e. cc e))
