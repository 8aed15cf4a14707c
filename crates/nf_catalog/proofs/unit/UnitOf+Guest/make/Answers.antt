use Rattle.std.proofs.Common.{◌∙◌, ap, sym}
use Rattle.onvm_base.specs.declared.function.Kind.TheVariants.{Guest as GuestKind}
use Rattle.nf_catalog.specs.Units.{guest_named}
use Rattle.nf_catalog.proofs.Naming.{has_name}
use Rattle.nf_catalog.proofs.unit.UnitOf+Guest.make.Goals as goal

pub take_guest-requires : goal.take_guest-requires
take_guest-requires g c = c.requires.handed_in c.in-Guest.guest c.in-Guest.is

pub returns-in-Guest-clause-made : goal.returns-in-Guest-clause-made
returns-in-Guest-clause-made g c =
    let named = has_name c.in-Guest.guest c.args.guests.now.items c.take_guest.result c.take_guest.ensures.taken in
    record {
      kind_is = ap GuestKind named ∙ sym c.in-Guest.is;
      begins = ap (λ name. guest_named name c.args.guests.now.items) named ∙ c.take_guest.ensures.taken;
    }

pub returns-in-Guest-clause-others : goal.returns-in-Guest-clause-others
returns-in-Guest-clause-others g c name other =
    c.take_guest.ensures.others name (λ same. other (c.in-Guest.is ∙ ap GuestKind (sym same)))
