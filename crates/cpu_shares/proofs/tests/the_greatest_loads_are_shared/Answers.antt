use Rattle.std.proofs.Common.{◌≤◌, Some, arith, refl}
use Rattle.std.proofs.lemmas.List.Elements.{All-replicate}
use Rattle.std.proofs.lemmas.Option.{same_Some}
use Rattle.cpu_shares.specs.declared.load.Load.{Load}
use Rattle.cpu_shares.specs.Shares.{IsLoad}
use Rattle.cpu_shares.proofs.tests.the_greatest_loads_are_shared.Goals as goal

abbrev greatest : Load
greatest = record { arrivals = 17179869183; median = Some 1099511627775 }

IsLoad-greatest : IsLoad greatest
IsLoad-greatest =
    record {
      arrivals = omega arith;
      median = λ time is. let same = same_Some 1099511627775 time is in omega arith;
    }

pub share-requires-2-clause-loads : goal.share-requires-2-clause-loads
share-requires-2-clause-loads g c =
    record { few = omega arith; each = All-replicate IsLoad 32 greatest IsLoad-greatest }

pub share-requires-2-clause-priorities : goal.share-requires-2-clause-priorities
share-requires-2-clause-priorities g c =
    record {
      as_many = refl;
      each = All-replicate (λ priority. (1 ≤ priority) × (priority ≤ 1024)) 32 1024 (omega arith, omega arith);
    }
