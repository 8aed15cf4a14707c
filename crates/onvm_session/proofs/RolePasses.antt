-- What the pass of each kind of role gives a session.
use Rattle.std.proofs.Common.{◌≡◌, ℕ, ◌-◌, ◌<◌, true, false, List, [], Option, sym, ◌∙◌, ap, subst, arith}
use Rattle.onvm_base.specs.declared.ids.FnId.{FnId}
use Rattle.onvm_base.specs.declared.plan.Plan.{Plan}
use Rattle.onvm_core.specs.declared.layout.Layout.{Layout}
use Rattle.onvm_core.proofs.RoleKinds.{kind_port, kind_sends, kind_tick}
use Rattle.onvm_core.specs.Blocks.{RoleKind, kind_of}
use Rattle.onvm_core.specs.Handling.{core_hand}
use Rattle.onvm_core.specs.Journals.{GoesThrough, journal}
use Rattle.onvm_core.specs.Layouts.{core_role}
use Rattle.onvm_core.specs.Logs.{Hand, Log, Setting}
use Rattle.onvm_board.specs.Tokens.{BoardView, TokenView}
use Rattle.nf_api.specs.Acts.{Acts}
use Rattle.nf_api.specs.Tree.{Tree}
use Rattle.nf_exec.specs.declared.role.CoreRole.{CoreRole}
use Rattle.nf_exec.specs.Handing.{acts_in, state_in}
use Rattle.nf_exec.specs.Roles.{IsCoreRole, acts_of, counted, start_of, state_of}
use Rattle.nf_exec.specs.Stations.{in_hand}
use Rattle.load_estimate.specs.declared.tick.Tick.{Tick as MadeTick}
use Rattle.onvm_promises.specs.Answers.{is_complete}
use Rattle.onvm_promises.specs.Kept.{CoreKeeps}
use Rattle.onvm_promises.specs.Roles.{IsCorePromise, IsSendPromise, IsTickPromise, IsTickerSoFar, setting_of}
use Rattle.onvm_promises.specs.declared.pass.Pass.{Pass}
use Rattle.tick_pass.specs.declared.role.TickRole.{TickRole}
use Rattle.tick_pass.specs.Roles.{first_of, logged, ticked}
use Rattle.tx_pass.specs.declared.role.TxRole.{TxRole}
use Rattle.tx_pass.specs.Roles.{IsInOrder as IsSenderInOrder, keeps_of as sender_keeps}
use Rattle.onvm_session.specs.declared.role.Role.{Role}
use Rattle.onvm_session.specs.declared.role.Role.TheVariants.{Receive, Send, Handle, Tick}
use Rattle.onvm_session.specs.RoleStates.{HasStates, IsBoundTo, IsCoreBoundTo, IsReady, IsRoleInOrder, StartedAt, acts_by, keeps_of, kind_in, start_by}
use Rattle.onvm_session.specs.Sessions.{IsRolePass}

-- A setting of this layout and plan is told by its entries
pub setting_is : (layout : Layout) (plan : Plan) (setting : Setting) → setting.layout ≡ layout → setting.plan ≡ plan
    → setting_of layout plan setting.entries ≡ setting
setting_is layout plan setting of by =
    λ i. record { layout = sym of i; plan = sym by i; entries = setting.entries }

-- Kinds

module _ {I N : Type 0} (acts : N → Acts) (state : N → Tree) (cost_may_take : ℕ → ℕ → Type 0) (site : BoardView)
    (plan : Plan) (token : TokenView)
  where
    -- a role that is ready with a token is of the kind of its number
    pub ready_kind : (role : Role I N) → IsReady acts state cost_may_take site plan token role
        → kind_in role ≡ kind_of site.layout token.role
    ready_kind (Receive rx) ready = sym (kind_port site.layout token.role ready.receives)
    ready_kind (Send tx) ready =
        sym (kind_sends site.layout token.role (token.role - site.layout.ports)
        (omega (arith, ready.transmit.from)) (omega (arith, ready.transmit.from, ready.transmit.below)))
    ready_kind (Handle core) ready = sym ready.0.work.kind
    ready_kind (Tick tick) ready = sym (ap (kind_of site.layout) ready.mine ∙ kind_tick site.layout)

    pub kind_as : (role same : Role I N) → role ≡ same → IsReady acts state cost_may_take site plan token role
        → kind_in same ≡ kind_of site.layout token.role
    kind_as role same is ready = sym (ap (λ (r : Role I N). kind_in r) is) ∙ ready_kind role ready

-- Cores

module _ {N : Type 0} (acts : N → Acts) (state : N → Tree) where
  -- a core's promise by its own functions is one by the session's, which agree on them
  pub core_promise : (cost_may_take : ℕ → ℕ → Type 0) (layout : Layout) (plan : Plan) (units : List N)
      (old new : CoreRole N) (states : ℕ → Tree) (setting : Setting) (role : ℕ) (hand : Option Hand) (before after : Log)
      (keeps : CoreKeeps) (answer : Pass)
      → setting_of layout plan setting.entries ≡ setting
      → IsCoreBoundTo acts state layout role units old
      → ((f : FnId) → f.0 < layout.functions → core_role layout f.0 ≡ role
      → states f.0 ≡ state_of acts state new f.0)
      → IsCorePromise (acts_of acts state old) (start_of acts state old) (state_of acts state new) cost_may_take
      (setting_of layout plan setting.entries) role hand before after keeps answer
      → IsCorePromise (acts_by acts state units) (start_by acts state units) states cost_may_take setting role hand
      before after keeps answer
  core_promise cost_may_take layout plan units old new states setting role hand before after keeps answer told bound has
      promise =
      let own : IsCorePromise (acts_by acts state units) (start_by acts state units) states cost_may_take
      (setting_of layout plan setting.entries) role hand before after keeps answer =
      record {
        added = promise.added;
        grown = promise.grown;
        first = promise.first;
        so_far = record {
          rests = promise.so_far.rests;
          timed = promise.so_far.timed;
          journals = λ f is.
              let unit = bound.each f is.known is.core in
              let now = has f is.known is.core in
              subst (λ (z : Option N × Tree).
              GoesThrough (acts_in acts state z.0) (state_in acts state z.0) (journal f after) z.1)
              (λ i. (unit i, sym now i)) (promise.so_far.journals f is);
          kept = promise.so_far.kept;
        };
        whole = promise.whole;
        tells = promise.tells;
      } in
      subst (λ (s : Setting).
      IsCorePromise (acts_by acts state units) (start_by acts state units) states cost_may_take s role hand before after
      keeps answer) told own

  -- a complete pass leaves nothing in hand
  pub core_empty : (cost_may_take : ℕ → ℕ → Type 0) (site : BoardView) (plan : Plan) (old new : CoreRole N)
      (before token : TokenView) (answer : Pass)
      → IsCoreRole acts state site plan token new
      → IsCorePromise (acts_of acts state old) (start_of acts state old) (state_of acts state new) cost_may_take
      (setting_of site.layout plan []) before.role (core_hand token.log) before.log token.log (counted new) answer
      → is_complete answer ≡ true → token.hand ≡ []
  core_empty cost_may_take site plan old new before token answer role promise complete =
      role.work.stands.hand ∙ ap in_hand (promise.whole complete).0

-- Order

-- the same role is in order
pub order_as : {I N : Type 0} (setting : Setting) (number : ℕ) (moment : ℕ → ℕ) (log : Log) (role same : Role I N)
    → role ≡ same → IsRoleInOrder setting number moment log role → IsRoleInOrder setting number moment log same
order_as {I} {N} setting number moment log role same is order =
    subst (λ (r : Role I N). IsRoleInOrder setting number moment log r) is order

module _ {I N : Type 0} (layout : Layout) (plan : Plan) (setting : Setting)
    (told : setting_of layout plan setting.entries ≡ setting) (number : ℕ) (moment moment_now : ℕ → ℕ)
    (before after : Log)
  where
    pub send_order : (role : Role I N) (tx later : TxRole) → role ≡ Send tx
        → (IsSenderInOrder (setting_of layout plan setting.entries) number moment before tx
        → IsSenderInOrder (setting_of layout plan setting.entries) number moment_now after later)
        → IsRoleInOrder setting number moment before role
        → IsSenderInOrder setting number moment_now after later
    send_order role tx later is goes order =
        let own : IsSenderInOrder setting number moment before tx =
        order_as setting number moment before role (Send tx) is order in
        subst (λ (s : Setting). IsSenderInOrder s number moment_now after later) told
        (goes (subst (λ (s : Setting). IsSenderInOrder s number moment before tx) (sym told) own))

    pub tick_order : (role : Role I N) (tick later : TickRole) → role ≡ Tick tick
        → (IsTickerSoFar (setting_of layout plan setting.entries) number moment before (logged tick)
        → IsTickerSoFar (setting_of layout plan setting.entries) number moment_now after (logged later))
        → IsRoleInOrder setting number moment before role
        → IsTickerSoFar setting number moment_now after (logged later)
    tick_order role tick later is goes order =
        let own : IsTickerSoFar setting number moment before (logged tick) =
        order_as setting number moment before role (Tick tick) is order in
        subst (λ (s : Setting). IsTickerSoFar s number moment_now after (logged later)) told
        (goes (subst (λ (s : Setting). IsTickerSoFar s number moment before (logged tick)) (sym told) own))

-- Passes

module _ {I N : Type 0} (acts : N → Acts) (state : N → Tree) (cost_may_take : ℕ → ℕ → Type 0) (site : BoardView)
    (plan : Plan) (before after : TokenView) (now : ℕ) (answer : Pass) (setting : Setting)
    (told : setting_of site.layout plan setting.entries ≡ setting) (first : ℕ) (units : List N) (states : ℕ → Tree)
    (moment : ℕ → ℕ) (role : Role I N) (ready : IsReady acts state cost_may_take site plan before role)
  where
    -- a pass of the session, of a role of this kind
    abbrev PassAs : (later : Role I N) → RoleKind → Type 0
    PassAs later kind =
        IsRolePass (acts_by acts state units) (start_by acts state units) states cost_may_take setting before.role kind
        first now false moment before.log after.log (keeps_of role) (keeps_of later) answer

    pub send_pass : (tx later : TxRole) → role ≡ Send tx
        → (IsSenderInOrder (setting_of site.layout plan setting.entries) before.role moment before.log tx
        → IsSendPromise (setting_of site.layout plan setting.entries) before.role now moment before.log after.log
        (sender_keeps later) answer)
        → IsRoleInOrder setting before.role moment before.log role
        → PassAs (Send later) (kind_of site.layout before.role)
    send_pass tx later is promise order =
        let own : IsSenderInOrder setting before.role moment before.log tx =
        order_as setting before.role moment before.log role (Send tx) is order in
        let done : IsSendPromise setting before.role now moment before.log after.log (sender_keeps later) answer =
        subst (λ (s : Setting).
        IsSendPromise s before.role now moment before.log after.log (sender_keeps later) answer) told
        (promise (subst (λ (s : Setting). IsSenderInOrder s before.role moment before.log tx) (sym told) own)) in
        subst (PassAs (Send later)) (kind_as acts state cost_may_take site plan before role (Send tx) is ready) done

    pub tick_pass : (tick later : TickRole) → role ≡ Tick tick
        → (IsTickerSoFar (setting_of site.layout plan setting.entries) before.role moment before.log (logged tick)
        → IsTickPromise (setting_of site.layout plan setting.entries) before.role (first_of tick) now false moment
        before.log after.log (logged later) (ticked tick) (ticked later) answer)
        → IsRoleInOrder setting before.role moment before.log role
        → StartedAt first role
        → PassAs (Tick later) (kind_of site.layout before.role)
    tick_pass tick later is promise order started =
        let own : IsTickerSoFar setting before.role moment before.log (logged tick) =
        order_as setting before.role moment before.log role (Tick tick) is order in
        let began : first_of tick ≡ first = subst (λ (r : Role I N). StartedAt first r) is started in
        let was : ticked tick ≡ (keeps_of role).ticks = sym (ap (λ (r : Role I N). (keeps_of r).ticks) is) in
        let done : IsTickPromise setting before.role first now false moment before.log after.log (logged later)
        (keeps_of role).ticks (ticked later) answer =
        subst (λ (z : Setting × ℕ × List MadeTick).
        IsTickPromise z.0 before.role z.1 now false moment before.log after.log (logged later) z.2 (ticked later)
        answer) (λ i. (told i, began i, was i))
        (promise (subst (λ (s : Setting). IsTickerSoFar s before.role moment before.log (logged tick)) (sym told) own))
        in
        subst (PassAs (Tick later)) (kind_as acts state cost_may_take site plan before role (Tick tick) is ready) done

    pub core_pass : (core later : CoreRole N) → role ≡ Handle core
        → IsCorePromise (acts_of acts state core) (start_of acts state core) (state_of acts state later) cost_may_take
        (setting_of site.layout plan setting.entries) before.role (core_hand after.log) before.log after.log
        (counted later) answer
        → IsBoundTo acts state site.layout before.role units role
        → HasStates acts state {I = I} site.layout before.role (Handle later) states
        → PassAs (Handle later) (kind_of site.layout before.role)
    core_pass core later is promise bound has =
        let own : IsCoreBoundTo acts state site.layout before.role units core =
        subst (λ (r : Role I N). IsBoundTo acts state site.layout before.role units r) is bound in
        subst (PassAs (Handle later)) (kind_as acts state cost_may_take site plan before role (Handle core) is ready) (
          core_hand after.log,
          core_promise acts state cost_may_take site.layout plan units core later states setting before.role
              (core_hand after.log) before.log after.log (counted later) answer told own has promise,
        )
