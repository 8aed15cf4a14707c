-- Roles that have done nothing, of each kind.
use Rattle.std.proofs.Common.{◌≡◌, ℕ, ◌+◌, ◌<◌, false, List, [], ◌∷◌, ◌++◌, length, refl, sym, ◌∙◌, ap, subst, arith, Some, None, Option}
use Rattle.std.specs.Prelude.{slice_get}
use Rattle.std.proofs.lemmas.List.{length_push}
use Rattle.onvm_base.specs.declared.ids.FnId.{FnId}
use Rattle.onvm_base.specs.declared.plan.Plan.{Plan}
use Rattle.onvm_core.specs.Layouts.{IsLayoutOf, core_role, tick_role}
use Rattle.onvm_core.specs.Logs.{Log, Setting}
use Rattle.onvm_board.specs.Tokens.{BoardView, TokenView}
use Rattle.onvm_host.specs.Deeds.{Amounts}
use Rattle.nf_api.specs.Acts.{Acts}
use Rattle.nf_api.specs.Tree.{Tree}
use Rattle.nf_exec.specs.declared.role.CoreRole.{CoreRole}
use Rattle.nf_exec.specs.Handing.{state_in, unit_of}
use Rattle.nf_exec.specs.Roles.{IsCoreRole}
use Rattle.nf_exec.specs.Rooms.{IsFresh}
use Rattle.nf_exec.specs.Stations.{functions_of}
use Rattle.nf_exec.proofs.Rooming.{core_is}
use Rattle.nf_registry.specs.Places.{residents}
use Rattle.onvm_promises.specs.Sampling.{AreTimed, is_cost}
use Rattle.rx_feed.specs.declared.feed.Feed.{Feed}
use Rattle.rx_feed.specs.declared.feed.Feed.TheVariants as feed
use Rattle.rx_feed.specs.Feeds.{IsFreshFeed, IsPulledOf, IsTakenFrom, StaysFeed, WasLeft}
use Rattle.rx_pass.specs.declared.role.RxRole.{RxRole}
use Rattle.rx_pass.specs.Rooms.{IsNewRole as IsNewReceiver}
use Rattle.tick_pass.specs.declared.role.TickRole.{TickRole}
use Rattle.tick_pass.specs.Roles.{IsTickRole, first_of, latest_of, logged, ticked}
use Rattle.tx_pass.specs.declared.role.TxRole.{TxRole}
use Rattle.tx_pass.specs.Roles.{IsInOrder as IsSenderInOrder, IsNewRole as IsNewSender}
use Rattle.onvm_session.proofs.RolePasses.{setting_is}
use Rattle.onvm_session.specs.declared.role.Role.TheVariants.{Receive, Send, Handle, Tick}
use Rattle.onvm_session.specs.declared.role.Role.{Role}
use Rattle.onvm_session.proofs.Draining.{each_more}
use Rattle.onvm_session.proofs.Growing.{got_some}
use Rattle.onvm_session.proofs.UnitLists.{unit_there}
use Rattle.onvm_session.specs.Rooms.{AreFresh, AreNewUpTo, IsNewRole, units_of}

stays_same : {I : Type 0} (name_of : I → List ℕ) (began now : Option (Feed I)) → now ≡ began → StaysFeed name_of began now
stays_same name_of None now same = same
stays_same name_of (Some (feed.Live source)) now same = (source, same, refl)
stays_same name_of (Some (feed.Made making)) now same = (making, same, refl, refl)

module _ {I N : Type 0} (name_of : I → List ℕ) (left_of : I → Option (List ℕ)) (takes_of : I → Amounts)
    (acts : N → Acts) (state : N → Tree) (site : BoardView) (plan : Plan) (units : List N) (feeds : List (Feed I))
    (first : ℕ)
  where
    pub receiver_new : (port : ℕ) (given : Option (Feed I)) (rx : RxRole I)
        → IsNewReceiver site plan (record { 0 = port }) rx → rx.intake.feed ≡ given
        → IsPulledOf rx.intake.feed rx.intake.standing
        → ((left : Option (List ℕ)) (takes : Amounts) → WasLeft left_of takes_of left takes given
        → IsTakenFrom left_of takes_of left takes rx.intake.feed rx.intake.standing)
        → slice_get feeds port ≡ given
        → IsNewRole name_of left_of takes_of acts state site plan units feeds first port (Receive rx)
    receiver_new port given rx new same pulled since at = record {
      ready = λ token board role log hand. new.ready token board role log hand;
      in_order = λ setting moment fits. new.in_order setting moment fits;
      started = tt;
      bound = tt;
      states = tt;
      unticked = refl;
      fed = record {
        pulled = pulled;
        stays = stays_same name_of (slice_get feeds port) rx.intake.feed (same ∙ sym at);
        since = λ left takes was.
            since left takes (subst (λ (o : Option (Feed I)). WasLeft left_of takes_of left takes o) at was);
      };
      upto = tt;
    }

    pub sender_new : (number : ℕ) (tx : TxRole) → IsNewSender site plan number tx
        → IsNewRole name_of left_of takes_of acts state site plan units feeds first number (Send tx)
    sender_new number tx new = record {
      ready = λ token board role log hand. new.ready token board role log hand;
      in_order = λ setting moment fits.
          subst (λ (s : Setting). IsSenderInOrder s number moment [] tx)
          (setting_is site.layout plan setting fits.0 fits.1)
          (new.in_order setting.entries moment);
      started = tt;
      bound = tt;
      states = tt;
      unticked = refl;
      fed = tt;
      upto = tt;
    }

    pub core_new : (core role : ℕ) (handler : CoreRole N) → IsLayoutOf plan site.layout
        → role ≡ plan.ports + plan.transmit + core
        → length units ≡ length plan.functions
        → functions_of handler.stations.items ≡ residents core plan.functions
        → handler.units.items ≡ units_of core plan.functions units
        → handler.began.value.items ≡ units_of core plan.functions units
        → ((token : TokenView) → IsFresh site core token → IsCoreRole acts state site plan token handler)
        → IsNewRole name_of left_of takes_of acts state site plan units feeds first role (Handle handler)
    core_new core role handler of role_is long functions own began ready = record {
      ready = λ token board number log hand. (
        ready token
            (record {
              board = board;
              role = omega (arith, number, role_is, of.ports, of.transmit);
              log = log;
              hand = hand;
            }),
        subst (λ (acts : Log). AreTimed is_cost plan acts) (sym log) tt,
      );
      in_order = λ setting moment fits. tt;
      started = tt;
      bound = record { each = λ f known here. unit_at handler.began.value.items began f known here };
      states = λ f known here. ap (state_in acts state) (sym (unit_at handler.units.items own f known here));
      unticked = refl;
      fed = tt;
      upto = tt;
    }
      where
        unit_at : (given : List N) → given ≡ units_of core plan.functions units → (f : FnId)
            → f.0 < site.layout.functions → core_role site.layout f.0 ≡ role
            → unit_of acts state (functions_of handler.stations.items) given f.0 ≡ slice_get units f.0
        unit_at given same f known here =
            let function = got_some plan.functions f.0 (omega (arith, known, of.functions)) in
            let at = core_is plan site.layout f.0 function.0 of function.1 in
            let there = unit_there acts state core 0 plan.functions units f.0 function.0 long function.1
            (omega (arith, at, here, role_is, of.ports, of.transmit)) in
            let place : 0 + f.0 ≡ f.0 = omega arith in
            ap (λ (fs : List FnId). unit_of acts state fs given f.0) functions
            ∙ ap (λ (us : List N). unit_of acts state (residents core plan.functions) us f.0) same
            ∙ subst (λ (k : ℕ).
            unit_of acts state (residents core plan.functions) (units_of core plan.functions units) k ≡ slice_get units f.0)
            place there

    pub ticker_new : (role : ℕ) (tick : TickRole) → IsLayoutOf plan site.layout
        → role ≡ plan.ports + plan.transmit + plan.cores
        → ((token : TokenView) → token.board ≡ site.id → token.role ≡ tick_role site.layout → token.log ≡ []
        → IsTickRole site plan false token tick)
        → first_of tick ≡ first → latest_of tick ≡ first → logged tick ≡ [] → ticked tick ≡ []
        → IsNewRole name_of left_of takes_of acts state site plan units feeds first role (Tick tick)
    ticker_new role tick of role_is ready began latest samples ticks = record {
      ready = λ token board number log hand.
          ready token board (omega (arith, number, role_is, of.ports, of.transmit, of.cores)) log;
      in_order = λ setting moment fits. record { blocks = tt; kept = samples };
      started = began;
      bound = tt;
      states = tt;
      unticked = ticks;
      fed = tt;
      upto = omega (arith, latest);
    }

    pub one_more_new : (n more : ℕ) (roles later : List (Role I N)) (role : Role I N) → later ≡ roles ++ role ∷ []
        → more ≡ n + 1 → AreNewUpTo name_of left_of takes_of acts state site plan units feeds first n roles
        → IsNewRole name_of left_of takes_of acts state site plan units feeds first n role
        → AreNewUpTo name_of left_of takes_of acts state site plan units feeds first more later
    one_more_new n more roles later role grown counted new last = record {
      many = (let long = ap length grown in
          let pushed = length_push roles role in
          omega (arith, long, pushed, counted, new.many));
      each = each_more (IsNewRole name_of left_of takes_of acts state site plan units feeds first) roles later role n grown
          new.many new.each last;
    }

-- a feed at a place of fresh ones, or none behind them
pub fresh_at : {I : Type 0} (feeds : List (Feed I)) (port : ℕ) (given : Option (Feed I)) → AreFresh feeds
    → slice_get feeds port ≡ given → IsFreshFeed given
fresh_at feeds port None fresh at = tt
fresh_at feeds port (Some feed) fresh at = fresh port feed at
