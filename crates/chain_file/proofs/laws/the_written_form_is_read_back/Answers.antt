use Rattle.std.proofs.Common.{arith}
use Rattle.chain_file.specs.Written.{form, written}
use Rattle.chain_file.proofs.Compact.{sorted, text_is_tree}
use Rattle.chain_file.proofs.WrittenBrackets.{form_brackets, within}
use Rattle.chain_file.proofs.WrittenSize.{form_fits}
use Rattle.chain_file.proofs.WrittenTop.{form_plain, plan_back}
use Rattle.chain_file.proofs.laws.the_written_form_is_read_back.Goals as goal

pub returns : goal.returns
returns c = λ plan captures guests fits enough known. record {
  within = within (written plan) (form_fits plan fits) (form_brackets plan fits);
  tree = sorted (form plan);
  is = text_is_tree 6 (form plan) (omega arith) (form_plain plan fits);
  plan_is = plan_back captures guests plan enough fits known;
}
