use Rattle.std.proofs.Common.{◌≡◌, ◌∙◌, sym, ap, subst, ◌+◌, ℕ, cond, Result, Ok, Err, IsOk, is_ok, List, [], ◌∷◌, ◌++◌, length, arith}
use Rattle.std.proofs.lemmas.Bool.{false≢true}
use Rattle.std.specs.BTreeMap.{get}
use Rattle.nf_state.specs.Kept.{PortTable, endpoint_cmp, mappings_from, with_mapping}
use Rattle.nf_state.specs.Mappings.{IsUnmapped, Mapping}
use Rattle.nf_state.proofs.Places.{kept_more, length-mappings, push-mappings}
use Rattle.nf_state.proofs.mappings.Mappings.add.Goals as goal

-- what a push that had room left
told : {A E X : Type 0} (result : Result A E) (xs ys zs : List X) → IsOk result → zs ≡ cond (is_ok result) xs ys → zs ≡ xs
told (Ok a) xs ys zs ok is = is
told (Err e) xs ys zs ok is = absurd (false≢true ok)

pushed : (c : goal.After-push) → c.push.new.self.items ≡ c.self.inside.insides.items ++ c.args.inside ∷ []
pushed c =
    told c.push.result _ _ _ (c.push.ensures.succeeds (omega (arith, c.in_ok-reserve.ensures.ok))) c.push.ensures.items
    ∙ ap (λ xs. xs ++ c.args.inside ∷ []) c.in_ok-reserve.ensures.items

next : (c : goal.After-push) → c.args.outside ≡ c.self.inside.first + length c.self.inside.insides.items
next c =
    c.requires.next.at ∙ sym (ap (λ (table : PortTable). table.ports.0 + length table.mappings) c.self.view_is)
    ∙ ap (λ n. c.self.inside.first + n) (length-mappings c.self.inside.first c.self.inside.insides.items)

pub invariant_of-self-2 : goal.invariant_of-self-2
invariant_of-self-2 c =
    let ports = ap (λ (table : PortTable). table.ports.1) c.self.view_is in
    rw (pushed c)
    (kept_more c.self.inside.first c.self.inside.last c.self.inside.insides.items (get endpoint_cmp c.self.inside.outsides)
    c.self.invariant c.args.inside c.args.outside (get endpoint_cmp c.insert.new.self)
    (subst (λ (table : PortTable). IsUnmapped table.mappings c.args.inside) (sym c.self.view_is) c.requires.new)
    (next c) (omega (arith, c.requires.next.upto, ports)) c.in_ok-insert.ensures.updates.0)

abbrev table_of : ℕ × ℕ → List Mapping → PortTable
table_of ports mappings = record { ports = ports; mappings = mappings }

pub returns-clause-ok : goal.returns-clause-ok
returns-clause-ok c =
    let ports : ℕ × ℕ = (c.self.inside.first, c.self.inside.last) in
    ap (λ xs. table_of ports (mappings_from c.self.inside.first xs)) (pushed c)
    ∙ ap (table_of ports)
    (push-mappings c.self.inside.first c.self.inside.insides.items c.args.inside c.args.outside (next c))
    ∙ ap (with_mapping c.args.inside c.args.outside) c.self.view_is
