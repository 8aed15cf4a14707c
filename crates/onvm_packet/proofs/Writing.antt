-- Two parts of a list that are written over.
use Rattle.std.proofs.Common.{◌≡◌, ◌∙◌, sym, ap, ℕ, ◌+◌, List, ◌++◌, length, take, drop, refl, arith}
use Rattle.std.proofs.lemmas.List.{take_at, drop_at, drop-drop}
use Rattle.onvm_packet.specs.Edits.{with_bytes_at}

-- two parts, one behind the other, from the begin on
pub with_bytes_at-with_bytes_at : (a b bytes : List ℕ) (n m : ℕ) → length a ≡ n → length b ≡ n → m ≡ n + n
    → with_bytes_at n b (with_bytes_at 0 a bytes) ≡ a ++ (b ++ drop m bytes)
with_bytes_at-with_bytes_at a b bytes n m la lb em =
    let front : take n (a ++ drop (0 + length a) bytes) ≡ a = take_at a _ n la in
    let back : drop (n + length b) (a ++ drop (0 + length a) bytes) ≡ drop m bytes =
    sym (drop-drop (length b) n _) ∙ ap (drop (length b)) (drop_at a _ n la) ∙ drop-drop (length b) (0 + length a) bytes
    ∙ ap (λ k. drop k bytes) (omega arith) in
    rw (front, back) refl
