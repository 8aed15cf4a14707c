-- What the getter of texts gives.
use Rattle.std.proofs.Common.{◌≡◌, [], option_map, sym, ap}
use Rattle.std.specs.Prelude.{unwrap_or}
use Rattle.clap.specs.Matches.{matched_of, raw_values}
use Rattle.clap.specs.Walk.{rows_of}
use Rattle.clap.specs.declared.parser.matches.Found.{Found}
use Rattle.clap.proofs.WalkLemmas.{raw_values-rows}
use Rattle.command_words.specs.Asked.{others_in}
use Rattle.std.proofs.Common.{codes}

-- the texts of the words, as the getter has them
pub others_in-rows : (f : Found) → others_in (rows_of f) ≡ unwrap_or (option_map raw_values (matched_of f (codes "word"))) []
others_in-rows f = ap (λ r. unwrap_or r []) (sym (raw_values-rows f (codes "word")))
