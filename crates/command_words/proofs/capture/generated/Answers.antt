use Rattle.std.proofs.Common.{arith}
use Rattle.command_words.proofs.Texts.{cut, same_number}
use Rattle.std.proofs.Common.{◌≡◌, ◌∙◌, sym}
use Rattle.command_words.proofs.capture.generated.Goals as goal

pub returns-in_default-clause-none : goal.returns-in_default-clause-none
returns-in_default-clause-none c seed count less few is =
    let h = cut c.args.made.now c.split_once.result seed count c.split_once.ensures.cases less is in
    rw c.in_default.is at h

pub returns-in_default-number-clause-none : goal.returns-in_default-number-clause-none
returns-in_default-number-clause-none c seed count less few is =
    let h = cut c.args.made.now c.split_once.result seed count c.split_once.ensures.cases less is in
    let parts = rw c.in-Some.is at h in
    c.in_default-number.ensures.none seed less parts.0

pub returns-in_default-number-2-clause-none : goal.returns-in_default-number-2-clause-none
returns-in_default-number-2-clause-none c seed count less few is =
    let h = cut c.args.made.now c.split_once.result seed count c.split_once.ensures.cases less is in
    let parts = rw c.in-Some.is at h in
    c.in_default-number-2.ensures.none count (omega (arith, few)) parts.1

pub returns-then-count-clause-none : goal.returns-then-count-clause-none
returns-then-count-clause-none c seed count less few is =
    let h = cut c.args.made.now c.split_once.result seed count c.split_once.ensures.cases less is in
    let parts = rw c.in-Some.is at h in
    let found = c.in-Some-number-2.ensures.some in
    let same : c.in-Some-number-2.count ≡ count = same_number c.in-Some-number-2.count count found.1 (omega (arith, few)) (sym found.0 ∙ parts.1) in
    omega (arith, few, same, c.if-count.true)
