-- Calls in a row, and the bytes that they moved.
use Rattle.std.proofs.Common.{◌≡◌, ◌∙◌, sym, ap, subst, refl, ℕ, ◌+◌, ◌<◌, ◌≤◌, List, [], ◌∷◌, ◌++◌, Option, Some, None, append_assoc, arith}
use Rattle.std.proofs.lemmas.List.{append-nil}
use Rattle.onvm_host.specs.Deeds.{Amounts}
use Rattle.onvm_host.specs.Moved.{Moved, MovedSince, Reads}

-- what was moved first, and what was moved then
pub Moved-append : (a b : ℕ) (xs ys : Amounts) → Moved a xs → Moved b ys → Moved (a + b) (xs ++ ys)
Moved-append a b [] ys p q =
    let P : ℕ → Type 0 = λ n. Moved n ys in
    let none : a ≡ 0 = p in
    let same : b ≡ a + b = omega (arith, none) in
    subst P same q
Moved-append a b (None ∷ xs) ys p q = absurd p
Moved-append a b (Some n ∷ xs) ys (rest, some, is, p) q =
    (rest + b, some, omega (arith, is), Moved-append rest b xs ys p q)

pub Moved-one : (n : ℕ) → 0 < n → Moved n (Some n ∷ [])
Moved-one n some = (0, some, omega arith, refl)

-- calls that moved bytes have a last one
pub Moved-last : (n : ℕ) (xs : Amounts) → Moved n xs → 0 < n
    → (earlier : Amounts) × (last m : ℕ) × (xs ≡ earlier ++ Some last ∷ []) × Moved m earlier × (m < n)
Moved-last n [] p some = let none : n ≡ 0 = p in absurd (omega (arith, none))
Moved-last n (None ∷ xs) p some = absurd p
Moved-last n (Some k ∷ []) p some = ([], k, 0, refl, refl, some)
Moved-last n (Some k ∷ None ∷ xs) (rest, some_k, is, p) some = absurd p
Moved-last n (Some k ∷ Some j ∷ xs) (rest, some_k, is, p) some =
    let behind = Moved-last rest (Some j ∷ xs) p (omega (arith, p.1, p.2)) in (
      Some k ∷ behind.0,
      behind.1,
      k + behind.2,
      ap (λ t. Some k ∷ t) behind.3,
      (behind.2, some_k, refl, behind.4),
      omega (arith, is, behind.5),
    )

-- no call yet
pub MovedSince-start : (before : Amounts) → MovedSince 0 before before
MovedSince-start before = ([], sym (append-nil before), refl)

-- one call more, behind the others
pub one_more : {X : Type 0} (before now next given : List X) (x : X) → now ≡ before ++ given → next ≡ now ++ x ∷ []
    → next ≡ before ++ (given ++ x ∷ [])
one_more before now next given x is then = then ∙ ap (λ t. t ++ x ∷ []) is ∙ append_assoc before given (x ∷ [])

-- one call more, which moved bytes
pub MovedSince-next : (bytes n : ℕ) (before now next : Amounts)
    → MovedSince bytes before now → next ≡ now ++ Some n ∷ [] → 0 < n
    → MovedSince (bytes + n) before next
MovedSince-next bytes n before now next since then some = (
  since.0 ++ Some n ∷ [],
  one_more before now next since.0 (Some n) since.1 then,
  Moved-append bytes n since.0 (Some n ∷ []) since.2 (Moved-one n some),
)

-- one take more, which is the last
pub Reads-next : (limit bytes : ℕ) (last : Option ℕ) (before now next : Amounts)
    → MovedSince bytes before now → next ≡ now ++ last ∷ [] → bytes < limit
    → Reads limit last before next
Reads-next limit bytes last before now next since then fewer = (
  since.0 ++ last ∷ [],
  one_more before now next since.0 last since.1 then,
  record { earlier = since.0; bytes = bytes; in_order = refl; moved = since.2; fewer = fewer },
)

-- takes that gave all that there was room for
pub Reads-full : (limit bytes : ℕ) (before now : Amounts) → MovedSince bytes before now → 0 < bytes → bytes ≤ limit
    → (last : ℕ) × Reads limit (Some last) before now
Reads-full limit bytes before now since some within =
    let split = Moved-last bytes since.0 since.2 some in (
      split.1,
      (
        since.0,
        since.1,
        record {
          earlier = split.0;
          bytes = split.2;
          in_order = split.3;
          moved = split.4;
          fewer = omega (arith, split.5);
        },
      ),
    )
