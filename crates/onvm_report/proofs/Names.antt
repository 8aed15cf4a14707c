-- Names with commas, and lines in the place of items.
use Rattle.std.proofs.Common.{◌≡◌, ◌∙◌, refl, sym, ap, arith, ℕ, zero, suc, ◌+◌, ◌/◌, ◌%◌, ◌^◌, ◌==◌, ◌<◌, ◌≤◌, Bool, true, false, if◌then◌else◌, Option, Some, None, List, [], ◌∷◌, ◌++◌, append-nil, length, take, get_or, codes}
use Rattle.std.specs.List.{cons_option, enumerate_from, filter_map, flat_map, join_by, zip}
use Rattle.std.proofs.lemmas.List.{flat_map_more, take_more, take_all, length-take-le}
use Rattle.std.proofs.lemmas.List.Elements.{filter_map-append}
use Rattle.std.proofs.Math.Nat.{div-div-eq-div-mul, pow-suc}
use Rattle.onvm_base.specs.declared.function.FunctionPlan.{FunctionPlan}
use Rattle.load_estimate.specs.declared.tick.TickLine.{TickLine}
use Rattle.onvm_report.specs.Report.{names_among, share_line}

abbrev pub is_empty : {X : Type 0} → List X → Bool
is_empty [] = true
is_empty (x ∷ xs) = false

-- names so far, a comma between each
abbrev pub joined : List (List ℕ) → List ℕ
joined names = join_by (λ name. name) (codes ",") names

abbrev name_at : ℕ → ℕ × FunctionPlan → Option (List ℕ)
name_at bits = λ item. if bits / 2 ^ item.0 % 2 == 1 then Some item.1.name else None

enumerate_more : {X : Type 0} (n : ℕ) (xs : List X) (x : X)
    → enumerate_from n (xs ++ x ∷ []) ≡ enumerate_from n xs ++ (n + length xs, x) ∷ []
enumerate_more n [] x = ap (λ m. (m, x) ∷ []) (omega arith)
enumerate_more n (y ∷ xs) x =
    ap (λ rest. (n, y) ∷ rest)
    (enumerate_more (n + 1) xs x ∙ ap (λ m. enumerate_from (n + 1) xs ++ (m, x) ∷ []) (omega arith))

abbrev pub name_if : Bool → FunctionPlan → List (List ℕ)
name_if true function = function.name ∷ []
name_if false function = []

last_name : (bits n : ℕ) (function : FunctionPlan) (b : Bool) → (bits / 2 ^ n % 2 == 1) ≡ b
    → filter_map (name_at bits) ((n, function) ∷ []) ≡ name_if b function
last_name bits n function true is =
    ap (λ b. cons_option (if b then Some function.name else None) []) is
last_name bits n function false is =
    ap (λ b. cons_option (if b then Some function.name else None) []) is

from_zero : (n : ℕ) → 0 + n ≡ n
from_zero n = omega arith

-- the names of some functions and of one more
names_with : (bits : ℕ) (functions : List FunctionPlan) (function : FunctionPlan)
    → names_among (functions ++ function ∷ []) bits
    ≡ names_among functions bits ++ name_if (bits / 2 ^ length functions % 2 == 1) function
names_with bits functions function =
    ap (filter_map (name_at bits))
    (enumerate_more 0 functions function
    ∙ ap (λ n. enumerate_from 0 functions ++ (n, function) ∷ []) (from_zero (length functions)))
    ∙ filter_map-append (name_at bits) (enumerate_from 0 functions) ((length functions, function) ∷ [])
    ∙ ap (λ rest. names_among functions bits ++ rest)
    (last_name bits (length functions) function (bits / 2 ^ length functions % 2 == 1) refl)

pub names_more : (bits : ℕ) (functions : List FunctionPlan) (i : ℕ) (function : FunctionPlan)
    → i < length functions → function ≡ get_or functions i function
    → names_among (take (i + 1) functions) bits
    ≡ names_among (take i functions) bits ++ name_if (bits / 2 ^ i % 2 == 1) function
names_more bits functions i function within is =
    ap (λ (some : List FunctionPlan). names_among some bits)
    (take_more functions i function within ∙ ap (λ (last : FunctionPlan). take i functions ++ last ∷ []) (sym is))
    ∙ names_with bits (take i functions) function
    ∙ ap (λ n. names_among (take i functions) bits ++ name_if (bits / 2 ^ n % 2 == 1) function)
    (length-take-le i functions (omega arith))

pub not_listed : (bits : ℕ) (functions : List FunctionPlan) (i : ℕ) (function : FunctionPlan)
    → i < length functions → function ≡ get_or functions i function → (bits / 2 ^ i % 2 == 1) ≡ false
    → names_among (take (i + 1) functions) bits ≡ names_among (take i functions) bits
not_listed bits functions i function within is unset =
    names_more bits functions i function within is
    ∙ ap (λ b. names_among (take i functions) bits ++ name_if b function) unset
    ∙ append-nil (names_among (take i functions) bits)

pub listed : (bits : ℕ) (functions : List FunctionPlan) (i : ℕ) (function : FunctionPlan)
    → i < length functions → function ≡ get_or functions i function → (bits / 2 ^ i % 2 == 1) ≡ true
    → names_among (take (i + 1) functions) bits ≡ names_among (take i functions) bits ++ function.name ∷ []
listed bits functions i function within is set =
    names_more bits functions i function within is
    ∙ ap (λ b. names_among (take i functions) bits ++ name_if b function) set

pub is_empty_more : {X : Type 0} (xs : List X) (x : X) → is_empty (xs ++ x ∷ []) ≡ false
is_empty_more [] x = refl
is_empty_more (y ∷ xs) x = refl

pub joined_more : (names : List (List ℕ)) (name : List ℕ)
    → joined names ++ (if is_empty names then name else codes "," ++ name) ≡ joined (names ++ name ∷ [])
joined_more [] name = sym (append-nil name)
joined_more (first ∷ names) name = flat_map_more (λ other. codes "," ++ other) first names name

-- Pairs

pub zip_more : {X Y : Type 0} (xs : List X) (ys : List Y) (i : ℕ) (x : X) (y : Y) → i < length xs → i < length ys
    → take (i + 1) (zip xs ys) ≡ take i (zip xs ys) ++ (get_or xs i x, get_or ys i y) ∷ []
zip_more [] ys i x y within same = absurd (omega arith)
zip_more (a ∷ xs) [] i x y within same = absurd (omega arith)
zip_more (a ∷ xs) (b ∷ ys) zero x y within same = refl
zip_more (a ∷ xs) (b ∷ ys) (suc i) x y within same =
    let more : suc i + 1 ≡ suc (i + 1) = omega arith in
    ap (λ n. take n ((a, b) ∷ zip xs ys)) more
    ∙ ap (λ rest. (a, b) ∷ rest) (zip_more xs ys i x y (omega arith) (omega arith))

pub zip_all : {X Y : Type 0} (xs : List X) (ys : List Y) (i : ℕ) → ((i < length xs) → length ys ≤ i)
    → take i (zip xs ys) ≡ zip xs ys
zip_all [] ys i past = take_all i [] (omega arith)
zip_all (a ∷ xs) [] i past = take_all i [] (omega arith)
zip_all (a ∷ xs) (b ∷ ys) zero past = absurd (omega (arith, past (omega arith)))
zip_all (a ∷ xs) (b ∷ ys) (suc i) past =
    ap (λ rest. (a, b) ∷ rest) (zip_all xs ys i (λ less. omega (arith, past (omega arith))))

pub halved : (n i : ℕ) → n / 2 ^ i / 2 ≡ n / 2 ^ (i + 1)
halved n i = div-div-eq-div-mul n (2 ^ i) 2 ∙ ap (λ m. n / m) (sym (pow-suc 2 i) ∙ ap (λ m. 2 ^ m) (omega arith))

-- the lines of some pairs and of one more
pub lines_more : (first before after : List ℕ) (functions : List FunctionPlan) (shares : List TickLine) (i : ℕ)
    (function : FunctionPlan) (share : TickLine) → i < length functions → i < length shares
    → function ≡ get_or functions i function → before ≡ first ++ flat_map share_line (take i (zip functions shares))
    → after ≡ before ++ share_line (function, get_or shares i share)
    → after ≡ first ++ flat_map share_line (take (i + 1) (zip functions shares))
lines_more first before after functions shares i function share within same is so_far more =
    let item : FunctionPlan × TickLine = (function, get_or shares i share) in
    more ∙ ap (λ text. text ++ share_line item) so_far
    ∙ flat_map_more share_line first (take i (zip functions shares)) item
    ∙ ap (λ (items : List (FunctionPlan × TickLine)). first ++ flat_map share_line items)
    (ap (λ (f : FunctionPlan). take i (zip functions shares) ++ (f, get_or shares i share) ∷ []) is
    ∙ sym (zip_more functions shares i function share within same))
