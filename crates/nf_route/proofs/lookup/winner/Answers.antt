use Rattle.std.proofs.Common.{◌∙◌, sym, arith}
use Rattle.std.proofs.lemmas.Bool.{true≢false}
use Rattle.std.proofs.lemmas.Option.{slice_get-get_or}
use Rattle.nf_route.proofs.Leading.{best_kept, best_taken, best_wins}
use Rattle.nf_route.proofs.lookup.winner.Goals as goal
use Rattle.nf_route.proofs.lookup.winner.Goals.{then-takes_lead, else-takes_lead}

pub loop-entry-preserved : goal.loop-entry-preserved
loop-entry-preserved c =
    let there = slice_get-get_or c.args.entries.now c.loop-entry.entry-index _ c.loop-entry-test.true in
    elim c.if-takes_lead.branch [
      | then-takes_lead w ↦
          let leads = c.takes_lead.ensures.0 w.if-takes_lead.true in
          rw w.best-is (best_taken _ _ _ _ there _ leads.0 leads.1 c.loop-entry.invariant)
      | else-takes_lead w ↦
          rw w.best-is
          (best_kept _ _ _ _ there _
          (λ has longer. true≢false (sym (c.takes_lead.ensures.1 (has, longer)) ∙ w.if-takes_lead.false))
          c.loop-entry.invariant)
    ]

pub returns : goal.returns
returns c = best_wins _ _ _ _ (omega arith) c.loop-entry.invariant
