use Rattle.std.proofs.Common.{rules}
use Rattle.std.proofs.lemmas.Result.{IfErr-weaker}
use Rattle.serde_json.specs.View.{view}
use Rattle.chain_file.specs.Guests.{names_of}
use Rattle.chain_file.specs.File.{IsFaultOf, IsRefused, by_tree}
use Rattle.chain_file.proofs.file.read.Goals as goal

pub returns-clause-fault : goal.returns-clause-fault
returns-clause-fault g c =
    IfErr-weaker c.plan.result (IsFaultOf c.args.captures (names_of c.args.guests.now) (view c.in-Ok.tree)) (IsRefused c.args.bytes.now c.args.captures (names_of c.args.guests.now))
    (λ fault told. by_tree (view c.in-Ok.tree) (search rules) c.in-Ok.ensures.ok told)
    c.plan.ensures.fault
