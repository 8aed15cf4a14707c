use Rattle.std.proofs.Common.{◌∙◌, subst, length}
use Rattle.std.proofs.lemmas.Result.{IfErr-weaker, IfOk-weaker}
use Rattle.chain_file.specs.Guests.{names_of}
use Rattle.onvm_top.specs.Chains.{IsRefusedFor}
use Rattle.chain_file.proofs.HandedIn.{captures_have_ports, guests_are_handed_in}
use Rattle.onvm_top.proofs.ChainTexts.{reads_chain, stops_at_chain}
use Rattle.onvm_top.proofs.chain.read_plan.Goals as goal

pub returns-in-Ok-text-clause-guests : goal.returns-in-Ok-text-clause-guests
returns-in-Ok-text-clause-guests g c =
    IfOk-weaker c.plan_of.result _ _
    (λ plan read. guests_are_handed_in c.as_slice.result.now (length c.args.command.now.captures.items)
    (names_of c.args.guests.now) plan read)
    c.plan_of.ensures.plan

pub returns-in-Ok-text-clause-ports : goal.returns-in-Ok-text-clause-ports
returns-in-Ok-text-clause-ports g c =
    IfOk-weaker c.plan_of.result _ _
    (λ plan read. captures_have_ports c.as_slice.result.now (length c.args.command.now.captures.items)
    (names_of c.args.guests.now) plan read)
    c.plan_of.ensures.plan

pub returns-in-Ok-text-clause-err : goal.returns-in-Ok-text-clause-err
returns-in-Ok-text-clause-err g c =
    let reads =
    reads_chain _ _ _ c.args.command.now.chain.now _ _ _ c.in-Ok.ensures.fresh c.in-Ok-text.ensures.ok
    c.in-Ok.ensures.told c.shut.ensures.told (c.in-Ok-text.ensures.named ∙ c.in-Ok.ensures.named) in
    IfErr-weaker c.plan_of.result _ _
    (λ fault refused. (
      reads.0,
      reads.1,
      stops_at_chain c.args.command.now (names_of c.args.guests.now) _ _ _ c.in-Ok-text.text.items reads.0 fault
          c.in-Ok.ensures.left c.in-Ok-text.ensures.taken c.in-Ok-text.ensures.whole reads.2
          (subst (λ text. IsRefusedFor text (length c.args.command.now.captures.items) (names_of c.args.guests.now) fault)
          c.as_slice.ensures.value refused),
    ))
    c.plan_of.ensures.fault
