use Rattle.std.proofs.Common.{sym}
use Rattle.flow_table.specs.Flows.{Remembers}
use Rattle.flow_table.proofs.Remembering.{Remembers-promoted, Remembers-put, first_chain-lookup, key_eq}
use Rattle.flow_table.proofs.table.FlowTable.picked.Goals as goal

pub invariant_of-self : goal.invariant_of-self
invariant_of-self c =
    rw c.get.follows.holds-at-none
    (Remembers-promoted c.self.inside.port c.self.inside.rules (key_eq c.of-key.result) c.self.inside.flows.entries
    c.self.invariant)

pub returns-in-Some-clause-picked : goal.returns-in-Some-clause-picked
returns-in-Some-clause-picked c =
    let right = first_chain-lookup c.self.inside.port c.self.inside.rules c.args.heads.now c.in-Some.known.now
    c.self.inside.flows.entries c.self.invariant (sym (rw c.of-key.ensures at c.in-Some.ensures.value)) in
    rw (← c.self.view_is) right

pub invariant_of-self-2 : goal.invariant_of-self-2
invariant_of-self-2 c =
    let before : Remembers c.self.inside.port c.self.inside.rules c.get.follows.lender-at-none.entries =
    rw c.get.follows.holds-at-none
    (Remembers-promoted c.self.inside.port c.self.inside.rules (key_eq c.of-key.result)
    c.self.inside.flows.entries c.self.invariant) in
    Remembers-put c.self.inside.port c.self.inside.rules c.args.heads.now c.get.follows.lender-at-none c.put.new.self
    c.put.result before (rw (c.of-key.ensures, c.first-picked.ensures) at c.put.ensures.entries) c.put.ensures.err
