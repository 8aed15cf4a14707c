-- From one bound up to the next, a table has one verdict.
use Rattle.std.proofs.Common.{◌≡◌, ◌≢◌, ◌∙◌, ◌⊎◌, sym, ap, subst, ℕ, ◌+◌, ◌-◌, ◌^◌, ◌<◌, ◌≤◌, Bool, List, [], ◌∷◌, ◌++◌, Some, length, map, take, get_or, All, inl, inr, arith}
use Rattle.std.specs.List.{Contains, slice_get}
use Rattle.std.specs.List.Sorted.{IsPartitionPoint, IsStrictlyIncreasing}
use Rattle.std.proofs.lemmas.Bool.{cases_Bool, cases_lt, true≢false}
use Rattle.std.proofs.lemmas.List.{get_or-map, get_or_default, length-map, map-append, take_more}
use Rattle.std.proofs.lemmas.List.Elements.{All-push}
use Rattle.std.proofs.lemmas.List.Kept.{AllPairs-from_increasing}
use Rattle.std.proofs.lemmas.Option.{get_or_from_slice_get, slice_get-get_or, slice_get_within}
use Rattle.onvm_base.specs.declared.function.RouteEntry.{RouteEntry}
use Rattle.onvm_base.specs.declared.outcome.Verdict.{Verdict}
use Rattle.onvm_base.specs.declared.outcome.Verdict.TheVariants.{Drop}
use Rattle.nf_api.specs.Routing.{IsFound}
use Rattle.onvm_packet.specs.Holding.{covers_ipv4}
use Rattle.nf_route.specs.Ranges.{AreBounds, AreOrdered, AreRanges, IsIn}
use Rattle.nf_route.specs.declared.ranges.Range.{Range}

same_or_not : (a b : Bool) → (a ≡ b) ⊎ (a ≢ b)
same_or_not a b = elim (cases_Bool a) [
  | inl on ↦ elim (cases_Bool b) [
    | inl on_too ↦ inl (on ∙ sym on_too)
    | inr off ↦ inr (λ same. true≢false (sym on ∙ same ∙ off))
  ]
  | inr off ↦ elim (cases_Bool b) [
    | inl on ↦ inr (λ same. true≢false (sym on ∙ sym same ∙ off))
    | inr off_too ↦ inl (off ∙ sym off_too)
  ]
]

-- two addresses that each prefix has or hasn't alike have the same verdict
same_found : (table : List RouteEntry) (low high : ℕ) (verdict : Verdict)
    → ((i : ℕ) (entry : RouteEntry) → slice_get table i ≡ Some entry → covers_ipv4 entry.prefix low ≡ covers_ipv4 entry.prefix high)
    → IsFound table low verdict → IsFound table high verdict
same_found table low high verdict same found = elim found [
  | inl won ↦
      let wins = won.1 in
      inl (
        won.0,
        record {
          at = wins.at;
          matches = (wins.matches.0, sym (same wins.at won.0 wins.matches.0) ∙ wins.matches.1);
          longest = λ i other m. wins.longest i other (m.0, same i other m.0 ∙ m.1);
          first = λ i other m. wins.first i other (m.0, same i other m.0 ∙ m.1);
        },
        won.2,
      )
  | inr none ↦
      inr (λ i d lt. sym (same i (get_or table i d) (slice_get-get_or table i d lt)) ∙ none.0 i d lt, none.1)
]

abbrev first_of : Range → ℕ
first_of range = range.first

-- ranges that begin at these bounds, each with the verdict for its first address
pub record BeginAt (table : List RouteEntry) (bounds : List ℕ) (ranges : List Range) : Type 0 where
  pub firsts : map (λ range. range.first) ranges ≡ bounds
  pub found : All (λ range. IsFound table range.first range.verdict) ranges

-- one range more
pub BeginAt-more : (table : List RouteEntry) (bounds : List ℕ) (index d : ℕ) (ranges : List Range) (range : Range)
    → index < length bounds → get_or bounds index d ≡ range.first → IsFound table range.first range.verdict
    → BeginAt table (take index bounds) ranges → BeginAt table (take (index + 1) bounds) (ranges ++ range ∷ [])
BeginAt-more table bounds index d ranges range lt is found begin =
    record {
      firsts =
          map-append first_of ranges (range ∷ [])
          ∙ ap (λ (l : List ℕ). l ++ range.first ∷ []) begin.firsts
          ∙ ap (λ (n : ℕ). take index bounds ++ n ∷ []) (sym is)
          ∙ sym (take_more bounds index d lt);
      found = All-push (λ (r : Range). IsFound table r.first r.verdict) ranges range begin.found found;
    }

module _ (table : List RouteEntry) (bounds : List ℕ) (ranges : List Range) (begin : BeginAt table bounds ranges)
    (rise : IsStrictlyIncreasing bounds) (are : AreBounds table bounds) where
  as_many : length ranges ≡ length bounds
  as_many = sym (length-map ranges first_of) ∙ ap length begin.firsts

  first_at : (i : ℕ) (d : Range) → i < length ranges → get_or bounds i 0 ≡ (get_or ranges i d).first
  first_at i d lt = ap (λ (l : List ℕ). get_or l i 0) (sym begin.firsts) ∙ get_or-map first_of ranges i d 0 lt

  first_there : (i : ℕ) (range : Range) → slice_get ranges i ≡ Some range → get_or bounds i 0 ≡ range.first
  first_there i range there =
      first_at i range (slice_get_within ranges i range there)
      ∙ ap first_of (get_or_from_slice_get ranges i range range there)

  below : (i j : ℕ) → i < j → j < length bounds → get_or bounds i 0 < get_or bounds j 0
  below i j lt within = AllPairs-from_increasing bounds rise i j 0 lt within

  -- a bound is where a range begins
  place : (bound : ℕ) → Contains bounds bound → (k : ℕ) × (k < length ranges) × (get_or bounds k 0 ≡ bound)
  place bound has = (has.0, omega (arith, as_many, has.1), get_or_default bounds has.0 0 bound has.1 ∙ has.2)

  ordered : AreOrdered ranges
  ordered =
      let zero = place 0 are.zero in
      record {
        some = omega (arith, zero.1);
        begin = λ range there. elim (cases_lt 0 zero.0) [
          | inl later ↦ absurd (omega (arith, below 0 zero.0 later (omega (arith, as_many, zero.1)), zero.2))
          | inr none ↦
              let same : zero.0 ≡ 0 = omega arith in
              sym (first_there 0 range there) ∙ ap (λ k. get_or bounds k 0) (sym same) ∙ zero.2
        ];
        rise = λ i j d le lt. elim (cases_lt i j) [
          | inl before ↦
              omega (arith, first_at i d (omega arith), first_at j d lt, below i j before (omega (arith, as_many, lt)))
          | inr after ↦
              let same : i ≡ j = omega arith in
              omega (arith, ap (λ k. (get_or ranges k d).first) same)
        ];
      }

  -- no bound lies above a range's first address and not above another of its addresses
  unparted : (target at : ℕ) (range : Range) → IsIn ranges target at range → (bound : ℕ) → Contains bounds bound
      → range.first < bound → bound ≤ target → ⊥
  unparted target at range here bound has above upto =
      let spot = place bound has in
      let begins : bound ≡ (get_or ranges spot.0 range).first = sym spot.2 ∙ first_at spot.0 range spot.1 in
      elim (cases_lt at spot.0) [
        | inl later ↦
            omega (arith, here.upto spot.0 _ later (slice_get-get_or ranges spot.0 range spot.1), begins)
        | inr earlier ↦
            let lt = slice_get_within ranges at range here.there in
            let is = get_or_from_slice_get ranges at range range here.there in
            omega (arith, ordered.rise spot.0 at range earlier lt, ap first_of is, begins)
      ]

  found_in : (target at : ℕ) (range : Range) → target < 2 ^ 32 → IsIn ranges target at range
      → IsFound table target range.verdict
  found_in target at range address here =
      let lt = slice_get_within ranges at range here.there in
      let is = get_or_from_slice_get ranges at range range here.there in
      let first : IsFound table range.first range.verdict =
      subst (λ (r : Range). IsFound table r.first r.verdict) is (begin.found at range lt) in
      elim (cases_lt range.first target) [
        | inl above ↦
            same_found table range.first target range.verdict
            (λ i entry there. elim (same_or_not (covers_ipv4 entry.prefix range.first) (covers_ipv4 entry.prefix target)) [
              | inl same ↦ same
              | inr differ ↦
                  let bound = are.part i entry there range.first target above address differ in
                  absurd (unparted target at range here bound.0 bound.1 bound.2 bound.3)
            ])
            first
        | inr upto ↦
            let same : range.first ≡ target = omega (arith, here.from) in
            subst (λ (t : ℕ). IsFound table t range.verdict) same first
      ]

  pub ranged : AreRanges table ranges
  ranged = record { ordered = ordered; found = found_in }

-- of the ranges that begin at an address or below it, it is in the last
pub point_in : (ranges : List Range) (target point : ℕ) → AreOrdered ranges → point ≤ length ranges
    → IsPartitionPoint (λ range. range.first ≤ target) (λ range. target < range.first) ranges point
    → (1 ≤ point) × ((d : Range) → IsIn ranges target (point - 1) (get_or ranges (point - 1) d))
point_in ranges target point ordered within parts =
    let some : 1 ≤ point = elim (cases_lt 0 point) [
      | inl some ↦ omega arith
      | inr none ↦
          let d : Range = record { first = 0; verdict = Drop } in
          let zero = ordered.begin _ (slice_get-get_or ranges 0 d ordered.some) in
          absurd (omega (arith, parts.1 0 d none ordered.some, zero))
    ] in (
      some,
      λ d. record {
        there = slice_get-get_or ranges (point - 1) d (omega arith);
        from = parts.0 (point - 1) d (omega arith) (omega arith);
        upto = λ later other after there.
            let lt = slice_get_within ranges later other there in
            let is = get_or_from_slice_get ranges later other other there in
            omega (arith, parts.1 later other (omega arith) lt, ap first_of is);
      },
    )
