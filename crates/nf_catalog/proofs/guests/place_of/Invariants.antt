use Rattle.std.proofs.Common.{◌≡◌, drop}
use Rattle.nf_catalog.specs.Units.{guest_named}
use Rattle.nf_catalog.proofs.guests.place_of.Given as goal

-- the first guest of the name is among those that are left
abbrev pub invariant-loop-place : goal.invariant-loop-place
invariant-loop-place g l = guest_named l.name (drop l.place l.guests) ≡ guest_named l.name l.guests
