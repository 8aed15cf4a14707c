-- Puts and says in a row, and the bytes that they appended.
use Rattle.std.proofs.Common.{◌≡◌, ◌∙◌, sym, ap, subst, refl, ℕ, ◌<◌, ◌≤◌, List, [], ◌∷◌, ◌++◌, length, take, map, Option, Some, None, Result, Ok, Err, append_assoc, arith}
use Rattle.std.specs.Prelude.{OnErr, OnOk}
use Rattle.std.proofs.lemmas.List.{append-nil, length-append, length-take-le, map-append}
use Rattle.std.specs.Io.KnownBytes.{Appends, Keeps}
use Rattle.onvm_host.specs.Deeds.{Amounts, Deed, Said}
use Rattle.onvm_host.specs.Moved.{Moved}
use Rattle.onvm_host.proofs.Bytes.{Appends-append, Appends-keeps, Appends-nothing}
use Rattle.onvm_host.proofs.Moved.{Moved-append, Moved-one, one_more}
use Rattle.onvm_top.specs.Put.{AppendsAll, AppendsPart, PutsAll, PutsPart, SaysAll, SaysPart}

pub AppendsAll-append : (a b c : Option (List ℕ)) (p q : Amounts) (x y : List ℕ)
    → AppendsAll a b p x → AppendsAll b c q y
    → AppendsAll a c (p ++ q) (x ++ y)
AppendsAll-append a b c p q x y one two =
    let P : ℕ → Type 0 = λ n. Moved n (p ++ q) in
    record {
      appended = Appends-append a b c x y one.appended two.appended;
      moved = subst P (sym (length-append x y)) (Moved-append (length x) (length y) p q one.moved two.moved);
    }

-- a part of the first is a part of both
pub AppendsPart-first : (a b : Option (List ℕ)) (p : Amounts) (x y : List ℕ) → AppendsPart a b p x
    → AppendsPart a b p (x ++ y)
AppendsPart-first a b p x y part = record {
  front = part.front;
  rest = part.rest ++ y;
  split = ap (λ t. t ++ y) part.split ∙ append_assoc part.front part.rest y;
  some = omega (arith, length-append part.rest y, part.some);
  appended = part.appended;
  earlier = part.earlier;
  in_order = part.in_order;
  moved = part.moved;
}

-- the first and a part of the second are a part of both
pub AppendsPart-second : (a b c : Option (List ℕ)) (p q : Amounts) (x y : List ℕ)
    → AppendsAll a b p x → AppendsPart b c q y
    → AppendsPart a c (p ++ q) (x ++ y)
AppendsPart-second a b c p q x y all part =
    let P : ℕ → Type 0 = λ n. Moved n (p ++ part.earlier) in
    record {
      front = x ++ part.front;
      rest = part.rest;
      split = ap (λ t. x ++ t) part.split ∙ sym (append_assoc x part.front part.rest);
      some = part.some;
      appended = Appends-append a b c x part.front all.appended part.appended;
      earlier = p ++ part.earlier;
      in_order = ap (λ t. p ++ t) part.in_order ∙ sym (append_assoc p part.earlier (None ∷ []));
      moved =
          subst P (sym (length-append x part.front))
          (Moved-append (length x) (length part.front) p part.earlier all.moved part.moved);
    }

appends_none : (known : Option (List ℕ)) → AppendsAll known known [] []
appends_none known = record { appended = Appends-nothing known; moved = refl }

appends_one : (old new : Option (List ℕ)) (piece : List ℕ) (n : ℕ)
    → Appends old new (take n piece) → n ≤ length piece → 0 < n
    → AppendsAll old new (Some n ∷ []) (take n piece)
appends_one old new piece n appended within some =
    let P : ℕ → Type 0 = λ m. Moved m (Some n ∷ []) in
    record { appended = appended; moved = subst P (sym (length-take-le n piece within)) (Moved-one n some) }

appends_cut : (old at new : Option (List ℕ)) (amounts : Amounts) (whole front rest : List ℕ)
    → whole ≡ front ++ rest → 0 < length rest → AppendsAll old at amounts front → Keeps at new
    → AppendsPart old new (amounts ++ None ∷ []) whole
appends_cut old at new amounts whole front rest split some all keeps = record {
  front = front;
  rest = rest;
  split = split;
  some = some;
  appended = Appends-keeps old at new front all.appended keeps;
  earlier = amounts;
  in_order = refl;
  moved = all.moved;
}

-- nothing was put yet
pub PutsAll-start : (known : Option (List ℕ)) (before : Amounts) → PutsAll known known before before []
PutsAll-start known before = ([], sym (append-nil before), appends_none known)

-- puts and more puts
pub PutsAll-append : (a b c : Option (List ℕ)) (p q r : Amounts) (x y : List ℕ) → PutsAll a b p q x → PutsAll b c q r y
    → PutsAll a c p r (x ++ y)
PutsAll-append a b c p q r x y one two = (
  one.0 ++ two.0,
  two.1 ∙ ap (λ t. t ++ two.0) one.1 ∙ append_assoc p one.0 two.0,
  AppendsAll-append a b c one.0 two.0 x y one.2 two.2,
)

-- one put more
pub PutsAll-next : (a b c : Option (List ℕ)) (p q r : Amounts) (x piece : List ℕ) (n : ℕ)
    → PutsAll a b p q x → Appends b c (take n piece) → n ≤ length piece → 0 < n → r ≡ q ++ Some n ∷ []
    → PutsAll a c p r (x ++ take n piece)
PutsAll-next a b c p q r x piece n all appended within some then =
    PutsAll-append a b c p q r x (take n piece) all (Some n ∷ [], then, appends_one b c piece n appended within some)

-- one put more, which failed
pub PutsPart-next : (a b c : Option (List ℕ)) (p q r : Amounts) (whole front rest : List ℕ)
    → whole ≡ front ++ rest → 0 < length rest → PutsAll a b p q front → Keeps b c → r ≡ q ++ None ∷ []
    → PutsPart a c p r whole
PutsPart-next a b c p q r whole front rest split some all keeps then = (
  all.0 ++ None ∷ [],
  one_more p q r all.0 None all.1 then,
  appends_cut a b c all.0 whole front rest split some all.2 keeps,
)

pub PutsPart-first : (a b : Option (List ℕ)) (p q : Amounts) (x y : List ℕ) → PutsPart a b p q x
    → PutsPart a b p q (x ++ y)
PutsPart-first a b p q x y part = (part.0, part.1, AppendsPart-first a b part.0 x y part.2)

pub PutsPart-second : (a b c : Option (List ℕ)) (p q r : Amounts) (x y : List ℕ)
    → PutsAll a b p q x → PutsPart b c q r y
    → PutsPart a c p r (x ++ y)
PutsPart-second a b c p q r x y all part = (
  all.0 ++ part.0,
  part.1 ∙ ap (λ t. t ++ part.0) all.1 ∙ append_assoc p all.0 part.0,
  AppendsPart-second a b c all.0 part.0 x y all.2 part.2,
)

-- nothing was said yet
pub SaysAll-start : (known : Option (List ℕ)) (before : List Deed) → SaysAll known known before before []
SaysAll-start known before = ([], sym (append-nil before), appends_none known)

said_more : (before now next : List Deed) (says : Amounts) (amount : Option ℕ) → now ≡ before ++ map Said says
    → next ≡ now ++ Said amount ∷ [] → next ≡ before ++ map Said (says ++ amount ∷ [])
said_more before now next says amount is then =
    one_more before now next (map Said says) (Said amount) is then
    ∙ ap (λ t. before ++ t) (sym (map-append Said says (amount ∷ [])))

-- one say more
pub SaysAll-next : (a b c : Option (List ℕ)) (p q r : List Deed) (x piece : List ℕ) (n : ℕ)
    → SaysAll a b p q x → Appends b c (take n piece) → n ≤ length piece → 0 < n → r ≡ q ++ Said (Some n) ∷ []
    → SaysAll a c p r (x ++ take n piece)
SaysAll-next a b c p q r x piece n all appended within some then = (
  all.0 ++ Some n ∷ [],
  said_more p q r all.0 (Some n) all.1 then,
  AppendsAll-append a b c all.0 (Some n ∷ []) x (take n piece) all.2 (appends_one b c piece n appended within some),
)

-- one say more, which failed
pub SaysPart-next : (a b c : Option (List ℕ)) (p q r : List Deed) (whole front rest : List ℕ)
    → whole ≡ front ++ rest → 0 < length rest → SaysAll a b p q front → Keeps b c → r ≡ q ++ Said None ∷ []
    → SaysPart a c p r whole
SaysPart-next a b c p q r whole front rest split some all keeps then = (
  all.0 ++ None ∷ [],
  said_more p q r all.0 None all.1 then,
  appends_cut a b c all.0 whole front rest split some all.2 keeps,
)

-- what holds anyway holds after Err
pub OnErr-always : {A E : Type 0} (result : Result A E) (P : Type 0) → P → OnErr result P
OnErr-always (Ok done) P p = tt
OnErr-always (Err fault) P p = p

-- what holds after Ok holds where the result is Ok
pub OnOk-is : {A E : Type 0} (result : Result A E) (done : A) (P : Type 0) → result ≡ Ok done → OnOk result P → P
OnOk-is {A} {E} result done P is p =
    let Q : Result A E → Type 0 = λ r. OnOk r P in
    subst Q is p

pub OnErr-is : {A E : Type 0} (result : Result A E) (fault : E) (P : Type 0) → result ≡ Err fault → OnErr result P → P
OnErr-is {A} {E} result fault P is p =
    let Q : Result A E → Type 0 = λ r. OnErr r P in
    subst Q is p
