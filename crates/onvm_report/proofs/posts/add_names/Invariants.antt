use Rattle.std.proofs.Common.{◌≡◌, ◌++◌, ◌/◌, ◌^◌, List, ℕ, take, codes}
use Rattle.std.specs.List.{join_by}
use Rattle.onvm_report.specs.Report.{names_among}
use Rattle.onvm_report.proofs.Names.{is_empty}
use Rattle.onvm_report.proofs.posts.add_names.Given as goal

-- the names so far, a comma between each
abbrev pub invariant-loop-function : goal.invariant-loop-function
invariant-loop-function l =
    let names : List (List ℕ) = names_among (take l.function-index l.functions) l.bits in
    record {
      rest : l.rest ≡ l.bits / 2 ^ l.function-index;
      first : l.is_first ≡ is_empty names;
      lines : l.lines ≡ l.initial.lines ++ join_by (λ name. name) (codes ",") names;
    }
