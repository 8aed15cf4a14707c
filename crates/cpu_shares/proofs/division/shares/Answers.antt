use Rattle.std.proofs.Common.{◌∙◌, sym, ap, [], ◌∷◌, ◌++◌, get_or, take, arith}
use Rattle.std.proofs.lemmas.List.{take_all}
use Rattle.cpu_shares.specs.Shares.{share_of, shares_of, load_of, total_of}
use Rattle.cpu_shares.proofs.Listed.{length-shares_in, no_load, take-shares_in}
use Rattle.cpu_shares.proofs.division.shares.Goals as goal

pub loop-at-preserved : goal.loop-at-preserved
loop-at-preserved c =
    let loads = c.args.loads.now in
    let priorities = c.args.priorities.now in
    let share = c.share_in.ensures.share
    ∙ ap (λ load. share_of (get_or priorities c.loop-at.at 0) load c.total-total.result) c.value.ensures.is
    ∙ ap (λ total. share_of (get_or priorities c.loop-at.at 0) (load_of (get_or loads c.loop-at.at no_load)) total)
    c.total-total.ensures.is in
    c.in_ok-push.ensures.ok
    ∙ ap (λ shares. shares ++ c.share_in.result ∷ []) c.loop-at.invariant
    ∙ ap (λ share. take c.loop-at.at (shares_of loads priorities) ++ share ∷ []) share
    ∙ sym (take-shares_in (total_of loads) loads priorities c.loop-at.at c.loop-at-test.true
    c.requires.priorities.as_many)

pub returns : goal.returns
returns c =
    let loads = c.args.loads.now in
    let priorities = c.args.priorities.now in
    c.loop-at.invariant
    ∙ take_all _ _
    (omega (
      arith,
      length-shares_in (total_of loads) loads priorities c.requires.priorities.as_many,
      c.loop-at-test.false,
    ))
