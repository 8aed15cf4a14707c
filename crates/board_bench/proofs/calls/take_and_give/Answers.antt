use Rattle.std.proofs.Common.{◌∷◌, sym, ap, ◌∙◌, subst}
use Rattle.std.specs.Prelude.{None, IsBitSet}
use Rattle.onvm_core.specs.declared.layout.Word.{Word}
use Rattle.onvm_core.specs.declared.step.Act.TheVariants.{Look}
use Rattle.onvm_board.specs.Tokens.{TokenView}
use Rattle.board_bench.proofs.calls.take_and_give.Goals as goal

pub take-requires-clause-saw : goal.take-requires-clause-saw
take-requires-clause-saw c =
    record {
      seen = c.look-seen.result;
      told = None;
      earlier = c.args.token.now.log;
      last =
          ap (λ (t : TokenView). t.log) c.look-seen.ensures.looked.grew
          ∙ ap (λ (w : Word). Look w c.look-seen.result None ∷ c.args.token.now.log) c.requires.word.0;
      shown = subst (IsBitSet c.look-seen.result) (sym c.requires.word.1) c.if-seen-eq0.false;
    }
