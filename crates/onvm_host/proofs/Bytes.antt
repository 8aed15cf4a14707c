-- Bytes that came or went.
use Rattle.std.proofs.Common.{◌≡◌, ◌∙◌, ap, List, [], ◌++◌, Option, Some, None, append_assoc, subst, sym, refl, ℕ, ◌+◌, ◌≤◌, length, take, ◌<◌, ◌⊎◌, inl, inr, arith}
use Rattle.std.proofs.lemmas.List.{append-nil, length-append, take-append-le, length-take-le}
use Rattle.std.proofs.lemmas.Bool.{cases_lt}
use Rattle.std.proofs.Math.Seq.{take-append-add}
use Rattle.std.specs.Io.KnownBytes.{Appends, Consumes, IsAtEnd, Keeps}

-- where nothing was appended, all stays
pub nothing_appended : (old new : Option (List ℕ)) → Appends old new [] → Keeps old new
nothing_appended None new same = tt
nothing_appended (Some xs) None same = absurd same
nothing_appended (Some xs) (Some ys) same = same ∙ append-nil xs

-- one piece after another is both together
pub Appends-append : (a b c : Option (List ℕ)) (x y : List ℕ) → Appends a b x → Appends b c y → Appends a c (x ++ y)
Appends-append None b c x y p q = tt
Appends-append (Some u) None c x y p q = absurd p
Appends-append (Some u) (Some v) None x y p q = absurd q
Appends-append (Some u) (Some v) (Some w) x y p q = q ∙ ap (λ t. t ++ y) p ∙ append_assoc u x y

-- nothing is appended where nothing changes
pub Appends-nothing : (known : Option (List ℕ)) → Appends known known []
Appends-nothing None = tt
Appends-nothing (Some u) = sym (append-nil u)

-- what was appended stays
pub Appends-keeps : (a b c : Option (List ℕ)) (x : List ℕ) → Appends a b x → Keeps b c → Appends a c x
Appends-keeps None b c x p q = tt
Appends-keeps (Some u) None c x p q = absurd p
Appends-keeps (Some u) (Some v) None x p q = absurd q
Appends-keeps (Some u) (Some v) (Some w) x p q = q ∙ p

-- what was empty at first holds what was appended
pub Appends-to_empty : (a b : Option (List ℕ)) (x : List ℕ) → a ≡ Some [] → Appends a b x → b ≡ Some x
Appends-to_empty a b x e p = lemma b (subst (λ t. Appends t b x) e p)
  where
    lemma : (d : Option (List ℕ)) → Appends (Some []) d x → d ≡ Some x
    lemma None q = absurd q
    lemma (Some w) q = ap (λ t. Some t) q

-- what was consumed first stands before what was consumed then
pub Consumes-append : (a b c : Option (List ℕ)) (x y : List ℕ) → Consumes a b x → Consumes b c y → Consumes a c (x ++ y)
Consumes-append None b c x y p q = tt
Consumes-append (Some u) None c x y p q = absurd p
Consumes-append (Some u) (Some v) None x y p q = absurd q
Consumes-append (Some u) (Some v) (Some w) x y p q = p ∙ ap (λ t. x ++ t) q ∙ sym (append_assoc x y w)

-- what was consumed stays consumed
pub Consumes-keeps : (a b c : Option (List ℕ)) (x : List ℕ) → Consumes a b x → Keeps b c → Consumes a c x
Consumes-keeps None b c x p q = tt
Consumes-keeps (Some u) None c x p q = absurd p
Consumes-keeps (Some u) (Some v) None x p q = absurd q
Consumes-keeps (Some u) (Some v) (Some w) x p q = p ∙ ap (λ t. x ++ t) (sym q)

-- at the end all was consumed
pub Consumes-to_end : (a b : Option (List ℕ)) (text x : List ℕ) → a ≡ Some text → Consumes a b x → IsAtEnd b → text ≡ x
Consumes-to_end a b text x e p q =
    let P : Option (List ℕ) → Type 0 = λ t. Consumes t b x in
    lemma b (subst P e p) q
  where
    lemma : (d : Option (List ℕ)) → Consumes (Some text) d x → IsAtEnd d → text ≡ x
    lemma None p q = absurd p
    lemma (Some w) p q = p ∙ ap (λ t. x ++ t) q ∙ append-nil x

-- no more was consumed than there was
pub Consumes-length : (a b : Option (List ℕ)) (text x : List ℕ) → a ≡ Some text → Consumes a b x
    → length x ≤ length text
Consumes-length a b text x e p =
    let P : Option (List ℕ) → Type 0 = λ t. Consumes t b x in
    lemma b (subst P e p)
  where
    lemma : (d : Option (List ℕ)) → Consumes (Some text) d x → length x ≤ length text
    lemma None p = absurd p
    lemma (Some w) p = omega (arith, ap length p, length-append x w)

-- a part of a room was written from its front on
pub take-written : (a n : ℕ) (room written rest : List ℕ) → a ≤ length room → n ≤ length written
    → take (a + n) (take a room ++ (written ++ rest)) ≡ take a room ++ take n written
take-written a n room written rest within few =
    let front : length (take a room) ≡ a = length-take-le a room within in
    ap (λ m. take (m + n) (take a room ++ (written ++ rest))) (sym front)
    ∙ take-append-add (take a room) (written ++ rest) n
    ∙ ap (λ t. take a room ++ t) (take-append-le n written rest few)

-- what was written of a room lies within it
pub length-written : (a n : ℕ) (room written rest : List ℕ) → a ≤ length room → n ≤ length written
    → a + n ≤ length (take a room ++ (written ++ rest))
length-written a n room written rest within few =
    omega (
      arith,
      length-take-le a room within,
      length-append (take a room) (written ++ rest),
      length-append written rest,
    )

same_front : (a b : Option (List ℕ)) (bytes front text : List ℕ) (count limit : ℕ) → a ≡ Some bytes → Consumes a b front
    → length front ≡ count → (count < limit → IsAtEnd b) → length text < limit → (count < limit) ⊎ (limit ≤ count)
    → (front ≡ text → bytes ≡ text) × (bytes ≡ text → front ≡ text)
same_front a b bytes front text count limit told taken size short small (inl less) =
    let whole : bytes ≡ front = Consumes-to_end a b bytes front told taken (short less) in
    (λ same. whole ∙ same, λ same. sym whole ∙ same)
same_front a b bytes front text count limit told taken size short small (inr full) =
    let most : length front ≤ length bytes = Consumes-length a b bytes front told taken in
    (λ same. absurd (omega (arith, ap length same)), λ same. absurd (omega (arith, ap length same)))

-- a text that is shorter than a room is told by what fills the room
pub same_as_front : (a b : Option (List ℕ)) (bytes room text : List ℕ) (count : ℕ)
    → a ≡ Some bytes → Consumes a b (take count room) → count ≤ length room → (count < length room → IsAtEnd b)
    → length text < length room
    → (take count room ≡ text → bytes ≡ text) × (bytes ≡ text → take count room ≡ text)
same_as_front a b bytes room text count told taken within short small =
    same_front a b bytes (take count room) text count (length room) told taken
    (length-take-le count room within) short small
    (cases_lt count (length room))

-- what was left behind what was consumed
pub Consumes-rest : (a b : Option (List ℕ)) (text x : List ℕ) → a ≡ Some text → Consumes a b x
    → (more : List ℕ) × (b ≡ Some more) × (text ≡ x ++ more)
Consumes-rest a b text x e p =
    let P : Option (List ℕ) → Type 0 = λ t. Consumes t b x in
    lemma b (subst P e p)
  where
    lemma : (d : Option (List ℕ)) → Consumes (Some text) d x → (more : List ℕ) × (d ≡ Some more) × (text ≡ x ++ more)
    lemma None p = absurd p
    lemma (Some w) p = (w, refl, p)

-- nothing is left at the end
pub IsAtEnd-left : (b : Option (List ℕ)) (more : List ℕ) → b ≡ Some more → IsAtEnd b → more ≡ []
IsAtEnd-left b more e p =
    let P : Option (List ℕ) → Type 0 = IsAtEnd in
    subst P e p
