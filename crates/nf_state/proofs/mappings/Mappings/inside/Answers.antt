use Rattle.std.proofs.Common.{◌∙◌, sym, ap, subst, MatchOption, ◌-◌}
use Rattle.std.specs.List.{slice_get}
use Rattle.std.specs.BTreeMap.{get}
use Rattle.nf_state.specs.Kept.{PortTable, endpoint_cmp}
use Rattle.nf_state.specs.Mappings.{IsFree, Maps}
use Rattle.nf_state.proofs.Places.{free_below, stands}
use Rattle.nf_state.proofs.mappings.Mappings.inside.Goals as goal

pub returns-then-outside-self : goal.returns-then-outside-self
returns-then-outside-self c =
    subst (λ (table : PortTable). IsFree table.mappings c.args.outside) c.self.view_is
    (free_below c.self.inside.first c.self.inside.last c.self.inside.insides.items
    (get endpoint_cmp c.self.inside.outsides) c.self.invariant c.args.outside c.if-outside-self.true)

pub returns : goal.returns
returns c =
    let at = c.inside_at.ensures
    ∙ ap (λ n. slice_get c.deref.result.now n) c.from.ensures
    ∙ ap (λ xs. slice_get xs (c.args.outside - c.self.inside.first)) c.deref.ensures.value in
    subst
    (λ (table : PortTable). MatchOption c.inside_at.result (IsFree table.mappings c.args.outside)
    (λ inside. Maps table.mappings inside c.args.outside))
    c.self.view_is
    (stands c.self.inside.first c.self.inside.last c.self.inside.insides.items (get endpoint_cmp c.self.inside.outsides)
    c.self.invariant c.args.outside c.inside_at.result c.if-outside-self.false (sym at))
