use Rattle.std.proofs.Common.{refl}
use Rattle.chain_file.specs.Functions.{function_in}
use Rattle.chain_file.proofs.functions.function.Goals as goal

pub returns : goal.returns
unfolding function_in
returns g c =
    rw (
      c.first_of.ensures,
      c.keys_of-keys.ensures,
      c.in_ok-name.ensures,
      c.number-service.ensures.judged,
      c.number-core.ensures.judged,
      c.in_ok-kind.ensures,
      c.number_or-priority.ensures.judged,
      c.number_or-weight.ensures.judged,
      c.number_or-cost.ensures.judged,
      c.word_in-word.ensures,
    ) refl
