-- The tick role stands at its number, and its turn is the closing one.
use Rattle.std.proofs.Common.{◌≡◌, ◌∙◌, ◌+◌, ap, sym, subst, refl, true, Some, rules}
use Rattle.std.specs.Prelude.{slice_get}
use Rattle.onvm_board.specs.Tokens.{TokenView, split_token, token_after, token_after_join}
use Rattle.onvm_promises.specs.Answers.{is_complete}
use Rattle.tick_pass.specs.Roles.{IsTickRole}
use Rattle.onvm_session.specs.declared.role.Role.{Role}
use Rattle.onvm_session.specs.declared.role.Role.TheVariants.{Tick}
use Rattle.onvm_session.specs.Runs.{any_span}
use Rattle.onvm_session.specs.Views.{closing_look}
use Rattle.onvm_session.proofs.LastTurn.{closing_turn_is, feeds_stay, read_at, tick_ready}
use Rattle.onvm_session.proofs.manager.Manager.closing_turn.Goals as goal

pub unreachable-requires : goal.unreachable-requires
unreachable-requires g c =
    let read = read_at _ _ any_span c.args.plan.now c.args.self.now c.requires.manager c.from.result c.from-2.result
    c.from-3.result c.from.ensures c.from-2.ensures c.from-3.ensures c.index_mut.result.now c.index_mut.ensures.value in
    let tick = tick_ready _ _ any_span c.args.self.now.board c.args.plan.now
    (split_token (c.from.result + c.from-2.result + c.from-3.result) c.args.self.now.first) c.index_mut.result.now read.0
    (c.requires.manager.ready (c.from.result + c.from-2.result + c.from-3.result) c.index_mut.result.now read.1) in
    c.in_default.not-Tick tick.0 tick.1

pub pass-requires-clause-role : goal.pass-requires-clause-role
pass-requires-clause-role g c =
    let read = read_at _ _ any_span c.args.plan.now c.args.self.now c.requires.manager c.from.result c.from-2.result
    c.from-3.result c.from.ensures c.from-2.ensures c.from-3.ensures c.index_mut.result.now c.index_mut.ensures.value in
    let found : slice_get c.args.self.now.roles.items (c.from.result + c.from-2.result + c.from-3.result)
    ≡ Some (Tick c.in-Tick.role) = read.1 ∙ ap (λ (r : Role g.row.I.Denot g.row.N.Denot). Some r) c.in-Tick.is in
    subst (λ (t : TokenView). IsTickRole c.args.self.now.board c.args.plan.now _ t c.in-Tick.role)
    (sym c.split-token.ensures.role)
    (c.requires.manager.ready (c.from.result + c.from-2.result + c.from-3.result) (Tick c.in-Tick.role) found)

pub pass-requires-clause-later : goal.pass-requires-clause-later
pass-requires-clause-later g c =
    let read = read_at _ _ any_span c.args.plan.now c.args.self.now c.requires.manager c.from.result c.from-2.result
    c.from-3.result c.from.ensures c.from-2.ensures c.from-3.ensures c.index_mut.result.now c.index_mut.ensures.value in
    let found : slice_get c.args.self.now.roles.items (c.from.result + c.from-2.result + c.from-3.result)
    ≡ Some (Tick c.in-Tick.role) = read.1 ∙ ap (λ (r : Role g.row.I.Denot g.row.N.Denot). Some r) c.in-Tick.is in
    c.requires.upto (c.from.result + c.from-2.result + c.from-3.result) (Tick c.in-Tick.role) found

pub returns-in-Wanting-clause-feeds : goal.returns-in-Wanting-clause-feeds
returns-in-Wanting-clause-feeds g c =
    let read = read_at _ _ any_span c.args.plan.now c.args.self.now c.requires.manager c.from.result c.from-2.result
    c.from-3.result c.from.ensures c.from-2.ensures c.from-3.ensures c.index_mut.result.now c.index_mut.ensures.value in
    let found : slice_get c.args.self.now.roles.items (c.from.result + c.from-2.result + c.from-3.result)
    ≡ Some (Tick c.in-Tick.role) = read.1 ∙ ap (λ (r : Role g.row.I.Denot g.row.N.Denot). Some r) c.in-Tick.is in (
      feeds_stay c.args.self.now.roles.items (c.from.result + c.from-2.result + c.from-3.result) c.in-Tick.role
          c.pass.new.self found,
      refl,
    )

pub returns-clause-turn : goal.returns-clause-turn
returns-clause-turn g c =
    let read = read_at _ _ any_span c.args.plan.now c.args.self.now c.requires.manager c.from.result c.from-2.result
    c.from-3.result c.from.ensures c.from-2.ensures c.from-3.ensures c.index_mut.result.now c.index_mut.ensures.value in
    let found : slice_get c.args.self.now.roles.items (c.from.result + c.from-2.result + c.from-3.result)
    ≡ Some (Tick c.in-Tick.role) = read.1 ∙ ap (λ (r : Role g.row.I.Denot g.row.N.Denot). Some r) c.in-Tick.is in
    let complete : is_complete c.pass.result ≡ true = search rules in
    closing_turn_is _ _ any_span c.args.plan.now c.args.self.now _ c.requires.manager c.args.now c.look.result
    (c.from.result + c.from-2.result + c.from-3.result) c.in-Tick.role c.pass.new.self c.pass.result
    c.split-token.result c.pass.new.token read.0 found refl refl complete
    c.split-token.ensures.role (ap (λ (t : TokenView). t.role) c.pass.ensures.token.1)
    (c.look.ensures.looked.grew
    ∙ ap (token_after (closing_look c.look.result))
    (c.join.ensures.joined ∙ ap (λ (t : TokenView). token_after_join t c.pass.new.token) c.split-token.ensures.first))
    c.pass.ensures.promise

pub returns-clause-feeds : goal.returns-clause-feeds
returns-clause-feeds g c =
    let read = read_at _ _ any_span c.args.plan.now c.args.self.now c.requires.manager c.from.result c.from-2.result
    c.from-3.result c.from.ensures c.from-2.ensures c.from-3.ensures c.index_mut.result.now c.index_mut.ensures.value in
    let found : slice_get c.args.self.now.roles.items (c.from.result + c.from-2.result + c.from-3.result)
    ≡ Some (Tick c.in-Tick.role) = read.1 ∙ ap (λ (r : Role g.row.I.Denot g.row.N.Denot). Some r) c.in-Tick.is in (
      feeds_stay c.args.self.now.roles.items (c.from.result + c.from-2.result + c.from-3.result) c.in-Tick.role
          c.pass.new.self found,
      refl,
    )
