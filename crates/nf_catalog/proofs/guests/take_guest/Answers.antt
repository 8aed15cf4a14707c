use Rattle.std.proofs.Common.{◌∙◌, ap, sym}
use Rattle.std.specs.List.{slice_get}
use Rattle.nf_catalog.specs.Units.{guest_named}
use Rattle.nf_catalog.proofs.Naming.{left_removed}
use Rattle.nf_catalog.proofs.guests.take_guest.Goals as goal

pub returns-clause-others : goal.returns-clause-others
returns-clause-others g c other differ =
    left_removed other c.args.guests.now.items c.remove.new.self.items c.place_of-place.result c.args.name.now
    c.remove.ensures.by_index.2
    (ap (λ xs. slice_get xs c.place_of-place.result) (sym c.deref.ensures.value) ∙ c.place_of-place.ensures.first
    ∙ ap (guest_named c.args.name.now) c.deref.ensures.value)
    differ
