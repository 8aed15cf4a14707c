use Rattle.std.proofs.Common.{ap₂, ◌∙◌}
use Rattle.std.proofs.lemmas.Result.{IfOk-weaker}
use Rattle.clap.specs.Simple.{with_rule}
use Rattle.command_words.proofs.parser.asked.Goals as goal

-- each `.arg` adds its rule
pub returns : goal.returns
returns c =
    IfOk-weaker c.arg-5.result _ _ (λ made h. h.shape c.others.ensures.local
    ∙ ap₂ with_rule (c.in_ok-arg-4.ensures.shape c.flag-4.ensures.local
    ∙ ap₂ with_rule (c.in_ok-arg-3.ensures.shape c.flag-3.ensures.local
    ∙ ap₂ with_rule (c.in_ok-arg-2.ensures.shape c.flag-2.ensures.local
    ∙ ap₂ with_rule (c.in_ok-arg.ensures.shape c.flag.ensures.local
    ∙ ap₂ with_rule c.bare.ensures c.flag.ensures.rule) c.flag-2.ensures.rule) c.flag-3.ensures.rule) c.flag-4.ensures.rule) c.others.ensures.rule) c.arg-5.ensures
