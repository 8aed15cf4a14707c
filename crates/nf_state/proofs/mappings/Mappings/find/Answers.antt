use Rattle.std.proofs.Common.{◌∙◌, sym, subst, MatchOption}
use Rattle.std.specs.BTreeMap.{get}
use Rattle.nf_state.specs.Kept.{PortTable, endpoint_cmp}
use Rattle.nf_state.specs.Mappings.{IsUnmapped, Maps}
use Rattle.nf_state.proofs.Places.{found}
use Rattle.nf_state.proofs.mappings.Mappings.find.Goals as goal

pub returns : goal.returns
returns c =
    subst
    (λ (table : PortTable). MatchOption c.copied.result (IsUnmapped table.mappings c.args.inside)
    (λ outside. Maps table.mappings c.args.inside outside))
    c.self.view_is
    (found c.self.inside.first c.self.inside.last c.self.inside.insides.items (get endpoint_cmp c.self.inside.outsides)
    c.self.invariant c.args.inside c.copied.result (sym (c.copied.ensures ∙ c.get.ensures.value)))
