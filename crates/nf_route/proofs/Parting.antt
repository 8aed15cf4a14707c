-- The ends of prefixes part the addresses that they have from the others.
use Rattle.std.proofs.Common.{◌≡◌, ◌∙◌, sym, ap, subst, ℕ, ◌+◌, ◌^◌, ◌<◌, ◌≤◌, ◌↔◌, true, List, Some, length, get_or, inl, inr, arith}
use Rattle.std.specs.List.{Contains, slice_get}
use Rattle.std.proofs.lemmas.Bool.{cases_Bool, cases_lt, true≢false}
use Rattle.std.proofs.lemmas.Option.{get_or_from_slice_get, slice_get_within}
use Rattle.onvm_base.specs.declared.function.RouteEntry.{RouteEntry}
use Rattle.onvm_base.specs.declared.rules.Prefix.{Prefix}
use Rattle.onvm_packet.specs.Holding.{covers_ipv4}
use Rattle.nf_route.specs.Ranges.{AreBounds, Parts}

-- a prefix that has the addresses from one up to another is parted by the two
pub parted : (bounds : List ℕ) (prefix : Prefix) (first end : ℕ)
    → ((target : ℕ) → (covers_ipv4 prefix target ≡ true) ↔ ((first ≤ target) × (target < end)))
    → (first < 2 ^ 32 → Contains bounds first) → (end < 2 ^ 32 → Contains bounds end) → Parts bounds prefix
parted bounds prefix first end has begins ends = λ low high below address differ.
    elim (cases_Bool (covers_ipv4 prefix low)) [
      | inl here ↦
          let row = (has low).0 here in
          elim (cases_lt high end) [
            | inl within ↦ absurd (differ (here ∙ sym ((has high).1 (omega arith, within))))
            | inr past ↦ (end, ends (omega arith), row.1, past)
          ]
      | inr away ↦
          elim (cases_Bool (covers_ipv4 prefix high)) [
            | inl here ↦
                let row = (has high).0 here in
                elim (cases_lt low first) [
                  | inl before ↦ (first, begins (omega arith), before, row.0)
                  | inr within ↦ absurd (true≢false (sym ((has low).1 (within, omega arith)) ∙ away))
                ]
            | inr also ↦ absurd (differ (away ∙ sym also))
          ]
    ]

-- more bounds part as well
pub Parts-more : (bounds more : List ℕ) (prefix : Prefix) → ((bound : ℕ) → Contains bounds bound → Contains more bound)
    → Parts bounds prefix → Parts more prefix
Parts-more bounds more prefix kept parts = λ low high below address differ.
    let bound = parts low high below address differ in
    (bound.0, kept bound.0 bound.1, bound.2, bound.3)

pub AreBounds-more : (table : List RouteEntry) (bounds more : List ℕ)
    → ((bound : ℕ) → Contains bounds bound → Contains more bound) → AreBounds table bounds → AreBounds table more
AreBounds-more table bounds more kept are =
    record {
      zero = kept 0 are.zero;
      part = λ i entry there. Parts-more bounds more entry.prefix kept (are.part i entry there);
    }

-- bounds that part the first prefixes of a table
pub record PartFirst (table : List RouteEntry) (upto : ℕ) (bounds : List ℕ) : Type 0 where
  pub zero : Contains bounds 0
  pub part : (i : ℕ) (entry : RouteEntry) → i < upto → slice_get table i ≡ Some entry → Parts bounds entry.prefix

pub PartFirst-more : (table : List RouteEntry) (index : ℕ) (d : RouteEntry) (bounds more : List ℕ)
    → ((bound : ℕ) → Contains bounds bound → Contains more bound) → Parts more (get_or table index d).prefix
    → PartFirst table index bounds → PartFirst table (index + 1) more
PartFirst-more table index d bounds more kept parts first =
    record {
      zero = kept 0 first.zero;
      part = λ i entry lt there. elim (cases_lt i index) [
        | inl before ↦ Parts-more bounds more entry.prefix kept (first.part i entry before there)
        | inr last ↦
            let same : index ≡ i = omega arith in
            subst (λ (e : RouteEntry). Parts more e.prefix)
            (ap (λ k. get_or table k d) same ∙ get_or_from_slice_get table i entry d there)
            parts
      ];
    }

pub PartFirst-all : (table : List RouteEntry) (upto : ℕ) (bounds : List ℕ) → length table ≤ upto
    → PartFirst table upto bounds → AreBounds table bounds
PartFirst-all table upto bounds all first =
    record {
      zero = first.zero;
      part = λ i entry there.
          let lt = slice_get_within table i entry there in
          first.part i entry (omega arith) there;
    }
