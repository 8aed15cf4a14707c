use Rattle.std.proofs.Common.{◌≡◌, ◌∙◌, sym, ap, decimal, true≢false}
use Rattle.std.proofs.lemmas.Fmt.{parse-decimal}
use Rattle.std.proofs.lemmas.Slice.Eq.{bytes_eq-Decides}
use Rattle.command_words.proofs.Texts.{err_is_no_ok, same_ok}
use Rattle.command_words.proofs.capture.number.Goals as goal

pub returns-in_default-clause-none : goal.returns-in_default-clause-none
returns-in_default-clause-none c n less is =
    err_is_no_ok c.parse.result c.in_default.field-0 n c.in_default.is (parse-decimal 64 n c.args.text.now c.parse.result less less is c.parse.ensures.value.0)

pub returns-else-eq-clause-none : goal.returns-else-eq-clause-none
returns-else-eq-clause-none c n less is =
    let number : c.in-Ok.number ≡ n = same_ok c.parse.result c.in-Ok.number n c.in-Ok.is (parse-decimal 64 n c.args.text.now c.parse.result less less is c.parse.ensures.value.0) in
    let same : c.format.result.now ≡ c.args.text.now = c.format.ensures.text ∙ ap decimal number ∙ sym is in
    absurd (true≢false (sym ((bytes_eq-Decides c.format.result.now c.args.text.now).1 same) ∙ sym c.eq.ensures ∙ c.if-eq.false))
