-- The texts of strings, and of generated captures.
use Rattle.std.proofs.Common.{◌≡◌, ◌∙◌, ◌<◌, ◌≤◌, ◌^◌, ℕ, zero, suc, sym, ap, arith, List, [], ◌∷◌, ◌++◌, length, map, decimal, get_or, drop, true≢false, Global, Option, Result, Ok, Err, Bor, codes, append_assoc}
use Rattle.std.specs.Prelude.{IsUtf8, ◌≢◌, string_bytes, String, MatchOption}
use Rattle.std.specs.List.{All, slice_index_or}
use Rattle.std.specs.Result.{is_ok, result_unwrap_or}
use Rattle.std.specs.Str.Parse.{digits_value}
use Rattle.std.proofs.lemmas.Str.{IsUtf8-string_bytes}
use Rattle.std.proofs.lemmas.Str.Parse.{digit_at}
use Rattle.std.proofs.lemmas.Str.Pattern.{IsSplitOnceResult, split_after}
use Rattle.std.proofs.lemmas.Fmt.{decimal_is_IsNumeral}
use Rattle.command_words.specs.Commands.{IsCapture, word_of}
use Rattle.command_words.specs.declared.capture.CaptureWord.{CaptureWord}

pub utf8_texts : (words : List (String Global)) → All IsUtf8 (map string_bytes words)
utf8_texts [] k d less = absurd (omega arith)
utf8_texts (word ∷ words) zero d less = IsUtf8-string_bytes word
utf8_texts (word ∷ words) (suc k) d less = utf8_texts words k d (omega arith)

pub err_is_no_ok : {T E : Type 0} (r : Result T E) (e : E) (x : T) → r ≡ Err e → r ≡ Ok x → ⊥
err_is_no_ok r e x f o = true≢false (ap is_ok (sym o ∙ f))

pub same_ok : {T E : Type 0} (r : Result T E) (x y : T) → r ≡ Ok x → r ≡ Ok y → x ≡ y
same_ok r x y f o = ap (λ s. result_unwrap_or s x) (sym f ∙ o)

-- a number has no colon
no_colon : (n : ℕ) → n < 2 ^ 64 → (i : ℕ) → i < length (decimal n) → get_or (decimal n) i 0 ≢ 58
no_colon n less i inside e =
    let digit = digit_at (decimal n) i (decimal_is_IsNumeral n less).0.1 inside in
    let high : get_or (decimal n) i 0 ≤ 57 = digit.1 in
    omega (arith, e, high)

pub same_number : (m n : ℕ) → m < 2 ^ 64 → n < 2 ^ 64 → decimal m ≡ decimal n → m ≡ n
same_number m n small less e = sym (decimal_is_IsNumeral m small).1 ∙ ap (digits_value 10) e ∙ (decimal_is_IsNumeral n less).1

-- what stands before and behind the colon of SEED:COUNT
pub cut : (made : List ℕ) (r : Option (Bor (List ℕ) × Bor (List ℕ))) (seed count : ℕ) → IsSplitOnceResult 58 made r → seed < 2 ^ 64
    → made ≡ decimal seed ++ codes ":" ++ decimal count → MatchOption r ⊥ (λ x. (x.0.now ≡ decimal seed) × (x.1.now ≡ decimal count))
cut made r seed count h less is =
    split_after 58 made (decimal seed) (decimal count) r h (omega arith) (is ∙ append_assoc (decimal seed) (58 ∷ []) (decimal count)) (no_colon seed less)

-- a word that names no capture is none of a list of captures
pub none_at : (captures : List CaptureWord) (words : List (Bor (List ℕ))) (i : ℕ) (d : Bor (List ℕ)) → i < length words
    → ((capture : CaptureWord) → IsCapture capture → word_of capture ≡ (slice_index_or words i d).now → ⊥) → All IsCapture captures
    → map word_of captures ≡ map (λ (text : Bor (List ℕ)). text.now) words → ⊥
none_at captures [] i d inside none all same = absurd (omega arith)
none_at [] (w ∷ ws) i d inside none all same =
    let short : 0 ≡ suc (length (map (λ (text : Bor (List ℕ)). text.now) ws)) = ap length same in
    omega arith
none_at (c ∷ cs) (w ∷ ws) zero d inside none all same =
    none c (all 0 c (omega arith)) (ap (λ texts. slice_index_or texts 0 []) same)
none_at (c ∷ cs) (w ∷ ws) (suc i) d inside none all same =
    none_at cs ws i d (omega arith) none (λ k e less. all (suc k) e (omega arith)) (ap (drop 1) same)
