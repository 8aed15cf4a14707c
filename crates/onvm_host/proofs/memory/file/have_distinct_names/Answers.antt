use Rattle.std.proofs.Common.{rules}
use Rattle.onvm_host.proofs.Names.{names_clash, names_stay}
use Rattle.onvm_host.proofs.memory.file.have_distinct_names.Goals as goal

pub returns-then-is_some : goal.returns-then-is_some
returns-then-is_some c =
    let clash = names_clash _ _ _ _ _ c.loop-at-test.true c.as_slice.ensures c.find_file.ensures (search rules) in
    (λ no. cc, λ distinct. absurd (clash (search rules)))

pub loop-at-preserved : goal.loop-at-preserved
loop-at-preserved c =
    names_stay _ _ _ _ _ c.loop-at-test.true c.as_slice.ensures c.find_file.ensures (search rules) c.loop-at.invariant
