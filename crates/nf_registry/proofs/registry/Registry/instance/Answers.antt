use Rattle.std.proofs.Common.{◌<◌, length, rules, refl, arith}
use Rattle.std.proofs.lemmas.Option.{slice_get_within}
use Rattle.onvm_base.specs.Services.{instances}
use Rattle.nf_registry.proofs.Appending.{item_is}
use Rattle.nf_registry.proofs.registry.Registry.instance.Goals as goal

pub index-requires : goal.index-requires
index-requires c =
    let within : c.args.service < length c.self.inside.services.items =
    slice_get_within c.self.inside.services.items c.args.service
    (instances c.args.service c.self.inside.made_of.value.functions)
    (c.self.invariant.services c.args.service (omega arith)) in
    search (rules, within)

pub returns : goal.returns
returns c =
    let found = c.self.invariant.services c.args.service (omega arith) in
    let is = item_is c.self.inside.services.items c.args.service c.index.result.now
    (instances c.args.service c.self.inside.made_of.value.functions) c.index.ensures found in
    rw (c.pick.ensures, c.as_slice.ensures, is, ← c.self.view_is) refl
