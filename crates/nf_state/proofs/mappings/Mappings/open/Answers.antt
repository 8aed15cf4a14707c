use Rattle.std.proofs.Common.{ap, subst, refl, ◌+◌, arith}
use Rattle.std.specs.BTreeMap.{get}
use Rattle.nf_state.specs.Kept.{IsNext, PortTable, endpoint_cmp}
use Rattle.nf_state.specs.Mappings.{NoneIsFree, IsLowestFree}
use Rattle.nf_state.proofs.Places.{none_left, next_lowest, length-mappings}
use Rattle.nf_state.proofs.mappings.Mappings.open.Goals as goal

pub returns-then-next-from-clause-opened : goal.returns-then-next-from-clause-opened
returns-then-next-from-clause-opened c =
    record {
      new = c.requires;
      none =
          subst (λ (table : PortTable). NoneIsFree table.ports table.mappings) c.self.view_is
          (none_left c.self.inside.first c.self.inside.last c.self.inside.insides.items
          (get endpoint_cmp c.self.inside.outsides) c.self.invariant
          (omega (arith, c.from.ensures, c.from-2.ensures, c.len.ensures, c.if-next-from.true)));
      same = refl;
    }

pub add-requires-clause-next : goal.add-requires-clause-next
add-requires-clause-next c =
    subst (λ (table : PortTable). IsNext table (c.from.result + c.len.result)) c.self.view_is
    (record {
      at = omega (arith, length-mappings c.self.inside.first c.self.inside.insides.items, c.from.ensures, c.len.ensures);
      upto = omega (arith, c.from-2.ensures, c.if-next-from.false);
    })

pub returns-clause-opened : goal.returns-clause-opened
returns-clause-opened c =
    record {
      new = c.requires;
      lowest =
          subst (λ (table : PortTable). IsLowestFree table.ports table.mappings (c.from.result + c.len.result)) c.self.view_is
          (next_lowest c.self.inside.first c.self.inside.last c.self.inside.insides.items
          (get endpoint_cmp c.self.inside.outsides) c.self.invariant (c.from.result + c.len.result)
          (omega (arith, c.from.ensures, c.len.ensures))
          (omega (arith, c.from-2.ensures, c.if-next-from.false)));
      more = ap (λ (table : PortTable). table.mappings) c.in_ok-add.ensures.ok;
    }
