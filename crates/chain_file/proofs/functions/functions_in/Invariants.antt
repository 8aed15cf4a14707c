use Rattle.std.proofs.Common.{◌≡◌, ℕ, ◌<◌, None, map, take}
use Rattle.serde_json.specs.View.{view}
use Rattle.chain_file.specs.Guests.{names_of}
use Rattle.chain_file.specs.File.{functions_of, function_cause_at}
use Rattle.chain_file.proofs.functions.functions_in.Given as goal

abbrev pub invariant-loop-at : goal.invariant-loop-at
invariant-loop-at g l = record {
  so_far : l.list ≡ functions_of l.cores (names_of l.guests) (take l.at (map view l.items));
  right : (k : ℕ) → k < l.at → function_cause_at l.cores (names_of l.guests) (map view l.items) k ≡ None;
}
