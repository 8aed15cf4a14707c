-- A right checksum stays right where TTL and checksum are written over.
use Rattle.std.proofs.Common.{◌≡◌, ◌∙◌, sym, ap, ℕ, suc, ◌+◌, ◌*◌, ◌/◌, ◌%◌, ◌<◌, ◌≤◌, List, [], ◌∷◌, length, arith}
use Rattle.byteorder.specs.Endian.{big_bytes}
use Rattle.onvm_packet.specs.Bytes.{AreBytes, byte, number}
use Rattle.onvm_packet.specs.Checksum.{AreWords, IsRight, updated_checksum, words}
use Rattle.onvm_packet.specs.Edits.{with_bytes_at}
use Rattle.onvm_packet.proofs.Ones.{all_ones, folded-multiple, ones_sum-folded, updated_checksum-fits, updated_checksum-keeps, total}

pub words-fit : (bytes : List ℕ) → AreBytes bytes → AreWords (words bytes)
words-fit [] are = tt
words-fit (high ∷ []) are = let h = are 0 in (omega (arith, h), tt)
words-fit (high ∷ low ∷ bytes) are =
    let h = are 0 in
    let l = are 1 in
    (omega (arith, h, l), words-fit bytes (λ at. are (suc (suc at))))

-- the bytes of TTL, protocol and checksum
abbrev pub ttl_bytes : ℕ → ℕ → List ℕ → List ℕ
ttl_bytes ttl protocol header =
    ttl ∷ protocol ∷ big_bytes 2 (updated_checksum (number 2 10 header) (number 2 8 header) (ttl * 256 + protocol))

pub right_stays : (header : List ℕ) (ttl protocol : ℕ) → 12 ≤ length header → AreBytes header → ttl < 256 → protocol < 256
    → 0 < byte 0 header → IsRight header → IsRight (with_bytes_at 8 (ttl_bytes ttl protocol header) header)
right_stays [] ttl protocol long are ft fp above right = absurd (omega arith)
right_stays (a ∷ []) ttl protocol long are ft fp above right = absurd (omega arith)
right_stays (a ∷ b ∷ []) ttl protocol long are ft fp above right = absurd (omega arith)
right_stays (a ∷ b ∷ c ∷ []) ttl protocol long are ft fp above right = absurd (omega arith)
right_stays (a ∷ b ∷ c ∷ d ∷ []) ttl protocol long are ft fp above right = absurd (omega arith)
right_stays (a ∷ b ∷ c ∷ d ∷ e ∷ []) ttl protocol long are ft fp above right = absurd (omega arith)
right_stays (a ∷ b ∷ c ∷ d ∷ e ∷ f ∷ []) ttl protocol long are ft fp above right = absurd (omega arith)
right_stays (a ∷ b ∷ c ∷ d ∷ e ∷ f ∷ g ∷ []) ttl protocol long are ft fp above right = absurd (omega arith)
right_stays (a ∷ b ∷ c ∷ d ∷ e ∷ f ∷ g ∷ h ∷ []) ttl protocol long are ft fp above right = absurd (omega arith)
right_stays (a ∷ b ∷ c ∷ d ∷ e ∷ f ∷ g ∷ h ∷ i ∷ []) ttl protocol long are ft fp above right = absurd (omega arith)
right_stays (a ∷ b ∷ c ∷ d ∷ e ∷ f ∷ g ∷ h ∷ i ∷ j ∷ []) ttl protocol long are ft fp above right = absurd (omega arith)
right_stays (a ∷ b ∷ c ∷ d ∷ e ∷ f ∷ g ∷ h ∷ i ∷ j ∷ k ∷ []) ttl protocol long are ft fp above right = absurd (omega arith)
right_stays (a ∷ b ∷ c ∷ d ∷ e ∷ f ∷ g ∷ h ∷ i ∷ j ∷ k ∷ l ∷ rest) ttl protocol long are ft fp above right =
    let header : List ℕ = a ∷ b ∷ c ∷ d ∷ e ∷ f ∷ g ∷ h ∷ i ∷ j ∷ k ∷ l ∷ rest in
    let fit = words-fit header are in
    let ones = all_ones (total (words header)) (sym (ones_sum-folded (words header) fit) ∙ right) in
    let others : ℕ = (a * 256 + b) + ((c * 256 + d) + ((e * 256 + f) + ((g * 256 + h) + total (words rest)))) in
    let sum : ℕ = number 2 10 header in
    let old : ℕ = number 2 8 header in
    let new : ℕ = ttl * 256 + protocol in
    let made : ℕ = updated_checksum sum old new in
    let fs : sum < 65536 = omega (arith, are 10, are 11) in
    let fo : old < 65536 = omega (arith, are 8, are 9) in
    let fn : new < 65536 = omega arith in
    let fm : made < 65536 = updated_checksum-fits sum old new in
    let before : others + (old + sum) ≡ total (words header) = omega arith in
    let kept : (others + (new + made)) % 65535 ≡ 0 =
    updated_checksum-keeps others sum old new fs fo fn (ap (λ (n : ℕ). n % 65535) before ∙ ones.1) in
    let word : made / 256 % 256 * 256 + made % 256 ≡ made = omega (arith, fm) in
    let after : total (words (with_bytes_at 8 (ttl_bytes ttl protocol header) header)) ≡ others + (new + made) = omega (arith, word) in
    ones_sum-folded (words (with_bytes_at 8 (ttl_bytes ttl protocol header) header))
    (fit.0, (fit.1.0, (fit.1.1.0, (fit.1.1.1.0, (fn, (omega (arith, word, fm), fit.1.1.1.1.1.1))))))
    ∙ folded-multiple _ (omega (arith, after)) (ap (λ (n : ℕ). n % 65535) after ∙ kept)
