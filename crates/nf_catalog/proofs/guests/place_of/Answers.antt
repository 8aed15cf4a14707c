use Rattle.std.proofs.Common.{◌∙◌, sym, ap, subst, refl, ◌+◌, drop, IsSome, Some, ◌∷◌, arith}
use Rattle.std.proofs.lemmas.Bool.{true≢false}
use Rattle.std.proofs.lemmas.List.{at_drop_all, drop_more}
use Rattle.std.proofs.lemmas.Option.{slice_get-get_or}
use Rattle.nf_catalog.specs.Units.{guest_named}
use Rattle.nf_catalog.proofs.Naming.{named_first, named_later}
use Rattle.nf_catalog.proofs.guests.place_of.Goals as goal

pub loop-place-init : goal.loop-place-init
loop-place-init g c = refl

pub returns-then-is_named-clause-first : goal.returns-then-is_named-clause-first
returns-then-is_named-clause-first g c =
    let guest = c.index-guests-place.result in
    let lt = c.loop-place-test.true in
    slice_get-get_or c.args.guests.now c.loop-place.place guest lt ∙ ap Some (sym c.index-guests-place.is)
    ∙ sym (named_first c.args.name.now guest (drop (c.loop-place.place + 1) c.args.guests.now) (c.is_named.ensures.0 c.if-is_named.true))
    ∙ ap (λ x. guest_named c.args.name.now (x ∷ drop (c.loop-place.place + 1) c.args.guests.now)) c.index-guests-place.is
    ∙ ap (guest_named c.args.name.now) (sym (drop_more c.args.guests.now c.loop-place.place guest lt))
    ∙ c.loop-place.invariant

pub loop-place-preserved : goal.loop-place-preserved
loop-place-preserved g c =
    let guest = c.index-guests-place.result in
    let lt = c.loop-place-test.true in
    sym (named_later c.args.name.now guest (drop (c.loop-place.place + 1) c.args.guests.now)
    (λ is. true≢false (sym (c.is_named.ensures.1 is) ∙ c.if-is_named.false)))
    ∙ ap (λ x. guest_named c.args.name.now (x ∷ drop (c.loop-place.place + 1) c.args.guests.now)) c.index-guests-place.is
    ∙ ap (guest_named c.args.name.now) (sym (drop_more c.args.guests.now c.loop-place.place guest lt))
    ∙ c.loop-place.invariant

pub unreachable-requires : goal.unreachable-requires
unreachable-requires g c =
    true≢false
    (sym
    (subst IsSome
    (sym c.loop-place.invariant
    ∙ at_drop_all (guest_named c.args.name.now) c.args.guests.now c.loop-place.place (omega (arith, c.loop-place-test.false)))
    c.requires))
