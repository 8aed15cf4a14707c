use Rattle.rule_match.proofs.Sifted.{first_chain-of_others, first_chain-of_type}
use Rattle.rule_match.proofs.typed.TypedRules.first.Goals as goal

pub returns-in-Some : goal.returns-in-Some
returns-in-Some c =
    rw (c.first.ensures, ← c.self.view_is)
    (first_chain-of_type _ _ _ _ c.self.invariant c.args.port c.args.heads.now _ _
    (rw c.deref.ensures.value at c.in-Some.ensures) c.index.ensures)

pub returns-in-None : goal.returns-in-None
returns-in-None c =
    rw (c.first-in-None.ensures, ← c.self.view_is)
    (first_chain-of_others _ _ _ _ c.self.invariant c.args.port c.args.heads.now
    (rw c.deref.ensures.value at c.in-None.ensures))
