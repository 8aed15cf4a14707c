use Rattle.std.proofs.Common.{◌≡◌, ◌≤◌, Some, List, length, refl, sym, ◌∙◌, subst, rules}
use Rattle.std.specs.Prelude.{slice_get}
use Rattle.std.proofs.lemmas.Option.{slice_get_read}
use Rattle.onvm_session.specs.declared.role.Role.{Role}
use Rattle.onvm_session.proofs.ManagerOver.{done_all, done_next}
use Rattle.onvm_session.proofs.manager.Manager.are_done.Goals as goal

pub loop-role-preserved : goal.loop-role-preserved
loop-role-preserved g c =
    let items : c.deref-role-items.result.now ≡ c.args.self.now.roles.items = search rules in
    record {
      done =
          done_next c.loop-role.role-index c.args.self.now.roles.items c.role-item.result c.loop-role.invariant.done
          (subst (λ (roles : List (Role g.row.I.Denot g.row.N.Denot)).
          slice_get roles c.loop-role.role-index ≡ Some c.role-item.result) items
          (slice_get_read c.deref-role-items.result.now _ c.loop-role.role-index _ refl c.loop-role-test.true
          c.role-item.is))
          (sym c.is_done.ensures ∙ c.if-not-is_done.false);
    }

pub returns : goal.returns
returns g c =
    let items : c.deref-role-items.result.now ≡ c.args.self.now.roles.items = search rules in (
      λ yes.
          done_all c.loop-role.role-index c.args.self.now.roles.items c.loop-role.invariant.done
          (subst (λ (roles : List (Role g.row.I.Denot g.row.N.Denot)). length roles ≤ c.loop-role.role-index) items
          c.loop-role-test.false),
      λ all. refl,
    )
