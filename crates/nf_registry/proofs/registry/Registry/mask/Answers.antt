use Rattle.std.proofs.Common.{◌≡◌, Some, length, slice_get, refl, ap, subst, arith}
use Rattle.std.proofs.lemmas.Option.{slice_get_read}
use Rattle.onvm_base.specs.declared.plan.Plan.{Plan}
use Rattle.nf_registry.specs.Masks.{IsMask}
use Rattle.nf_registry.proofs.Naming.{mask_found, mask_missing}
use Rattle.nf_registry.proofs.registry.Registry.mask.Goals as goal

pub returns-in-Some : goal.returns-in-Some
returns-in-Some c =
    let e = c.in-Some.ensures.lookup in
    let masks = c.deref.result.now in
    let mask = c.in-Some.mask.now in
    let found : slice_get masks c.args.chain.0 ≡ Some mask =
    slice_get_read masks (length masks) c.args.chain.0 mask refl e.3.0 e.1 in
    subst (λ (p : Plan). IsMask p c.args.chain mask) c.self.view_is
    (mask_found c.self.inside.made_of.value c.args.chain c.self.inside.masks.items mask c.self.invariant.masks
    (subst (λ ms. slice_get ms c.args.chain.0 ≡ Some mask) c.deref.ensures.value found))

pub returns-in-None : goal.returns-in-None
returns-in-None c =
    let e = c.in-None.ensures.lookup in
    subst (λ (p : Plan). IsMask p c.args.chain 0) c.self.view_is
    (mask_missing c.self.inside.made_of.value c.args.chain c.self.inside.masks.items c.self.invariant.masks
    (omega (arith, e.3, ap length c.deref.ensures.value)))
