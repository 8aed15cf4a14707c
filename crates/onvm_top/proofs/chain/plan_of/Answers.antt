use Rattle.std.proofs.Common.{rules, ◌≡◌, sym, subst, ℕ, length}
use Rattle.chain_file.specs.File.{IsRefused}
use Rattle.chain_file.specs.Guests.{names_of}
use Rattle.onvm_top.specs.Chains.{IsRefusedFor}
use Rattle.onvm_top.proofs.ChainTexts.{refused_for}
use Rattle.onvm_top.proofs.chain.plan_of.Goals as goal

pub returns-in-Err-clause-fault : goal.returns-in-Err-clause-fault
returns-in-Err-clause-fault g c =
    let captures : ℕ = length c.args.command.now.captures.items in
    let counted : c.len.result ≡ captures = search rules in
    let refused =
    subst (λ n. IsRefused c.args.text.now n (names_of c.args.guests.now) c.in-Err.fault) counted c.in-Err.ensures.fault in
    subst (IsRefusedFor c.args.text.now captures (names_of c.args.guests.now)) (sym c.of_file.ensures)
    (refused_for c.args.text.now captures (names_of c.args.guests.now) c.in-Err.fault refused)
