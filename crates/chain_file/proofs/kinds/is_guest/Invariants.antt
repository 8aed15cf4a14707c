use Rattle.std.proofs.Common.{◌≡◌, drop, bytes_eq}
use Rattle.std.specs.List.{list_any}
use Rattle.chain_file.specs.Guests.{names_of}
use Rattle.chain_file.proofs.kinds.is_guest.Given as goal

abbrev pub invariant-loop-guest : goal.invariant-loop-guest
invariant-loop-guest g l = list_any (bytes_eq l.name) (names_of (drop l.guest-index l.guests)) ≡ list_any (bytes_eq l.name) (names_of l.guests)
