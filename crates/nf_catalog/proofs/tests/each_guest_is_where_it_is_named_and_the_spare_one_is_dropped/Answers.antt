use Rattle.std.proofs.Common.{subst, sym}
use Rattle.nf_catalog.specs.Units.{AreHandedIn}
use Rattle.nf_catalog.proofs.tests.each_guest_is_where_it_is_named_and_the_spare_one_is_dropped.Goals as goal

pub units-requires : goal.units-requires
units-requires g c =
    subst (λ functions. AreHandedIn functions c.in_ok-guests.guests.items) (sym c.in_ok-plan.ensures) c.in_ok-guests.ensures
