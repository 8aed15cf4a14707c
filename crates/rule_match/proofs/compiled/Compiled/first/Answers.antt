use Rattle.std.proofs.Common.{refl}
use Rattle.std.proofs.lemmas.Option.{slice_get_read}
use Rattle.rule_match.proofs.Sifted.{first_chain-of_port}
use Rattle.rule_match.proofs.compiled.Compiled.first.Goals as goal

pub returns-in-Some : goal.returns-in-Some
returns-in-Some c =
    let seen = rw (c.deref.ensures.value, c.from.ensures) at c.in-Some.ensures.lookup.3 in
    rw (c.first.ensures, ← c.self.view_is)
    (first_chain-of_port _ _ c.args.port c.args.heads.now _ c.self.invariant
    (slice_get_read _ _ _ _ refl seen.0 (seen.1 _)))
