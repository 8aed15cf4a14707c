-- What `{}` prints of a place and of a fault.
use Rattle.std.specs.Prelude.{ℕ, List, ◌++◌, codes, decimal}
use Rattle.chain_file.specs.declared.fault.Part.{Part}
use Rattle.chain_file.specs.declared.fault.Part.TheVariants as part
use Rattle.chain_file.specs.declared.fault.Place.{Place}
use Rattle.chain_file.specs.declared.fault.FileFault.{FileFault}
use Rattle.chain_file.specs.declared.fault.FileFault.TheVariants as fault

abbrev pub part_text : Part → (item inner : ℕ) → List ℕ
part_text part.File item inner = codes "file"
part_text part.Top item inner = codes "top"
part_text part.Function item inner = codes "function " ++ decimal item
part_text part.Chain item inner = codes "chain " ++ decimal item
part_text part.Step item inner = codes "step " ++ decimal item ++ codes " " ++ decimal inner
part_text part.Rule item inner = codes "rule " ++ decimal item
part_text part.Default item inner = codes "default"

abbrev pub place_text : Place → List ℕ
place_text place = part_text place.part place.item place.inner

abbrev pub fault_text : FileFault → List ℕ
fault_text fault.Json = codes "json file"
fault_text (fault.Shape place) = codes "shape " ++ place_text place
fault_text (fault.Unknown place) = codes "unknown " ++ place_text place
fault_text (fault.Limit place) = codes "limit " ++ place_text place
fault_text (fault.Twice place) = codes "twice " ++ place_text place
fault_text (fault.Marks place) = codes "marks " ++ place_text place
fault_text fault.Memory = codes "memory"
