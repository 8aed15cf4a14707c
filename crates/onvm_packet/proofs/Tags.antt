-- A tag that is pushed is there, and taking it out again gives the frame back.
use Rattle.std.proofs.Common.{◌≡◌, ◌∙◌, sym, ap, ℕ, ◌+◌, ◌-◌, ◌*◌, ◌/◌, ◌%◌, ◌<◌, ◌≤◌, true, ◌==◌, nat_le, List, ◌∷◌, ◌++◌, length, take, drop, Some, append_assoc, arith}
use Rattle.std.proofs.lemmas.Bool.{and_from, cond-true, le-leb}
use Rattle.std.proofs.lemmas.List.{take_at, drop_at, drop-drop, length-append, length-drop, length-take-le, take-append-drop}
use Rattle.byteorder.specs.Endian.{big_bytes, big_from}
use Rattle.onvm_packet.specs.Bytes.{number}
use Rattle.onvm_packet.specs.Edits.{with_tag, without_tag}
use Rattle.onvm_packet.specs.Heads.{is_tagged, type_at, type_of, vlan_of}

abbrev tag_bytes : ℕ → List ℕ
tag_bytes tag = 0x81 ∷ 0x00 ∷ big_bytes 2 tag

-- twelve bytes, the tag and the rest
module _ (bytes : List ℕ) (tag : ℕ) (long : 14 ≤ length bytes) where
  front : length (take 12 bytes) ≡ 12
  front = length-take-le 12 bytes (omega arith)

  behind_addresses : drop 12 (with_tag tag bytes) ≡ tag_bytes tag ++ drop 12 bytes
  behind_addresses =
      ap (drop 12) (append_assoc (take 12 bytes) (tag_bytes tag) (drop 12 bytes))
      ∙ drop_at (take 12 bytes) (tag_bytes tag ++ drop 12 bytes) 12 front

  behind_type : drop 14 (with_tag tag bytes) ≡ big_bytes 2 tag ++ drop 12 bytes
  behind_type = sym (drop-drop 2 12 (with_tag tag bytes)) ∙ ap (drop 2) behind_addresses

  behind_tag : drop 16 (with_tag tag bytes) ≡ drop 12 bytes
  behind_tag = sym (drop-drop 4 12 (with_tag tag bytes)) ∙ ap (drop 4) behind_addresses

  pub without_tag-with_tag : without_tag (with_tag tag bytes) ≡ bytes
  without_tag-with_tag =
      let addresses : take 12 (with_tag tag bytes) ≡ take 12 bytes =
      ap (take 12) (append_assoc (take 12 bytes) (tag_bytes tag) (drop 12 bytes))
      ∙ take_at (take 12 bytes) (tag_bytes tag ++ drop 12 bytes) 12 front in
      ap (λ (t : List ℕ). t ++ drop 16 (with_tag tag bytes)) addresses
      ∙ ap (λ (t : List ℕ). take 12 bytes ++ t) behind_tag ∙ take-append-drop 12 bytes

  pub length-with_tag : length (with_tag tag bytes) ≡ length bytes + 4
  length-with_tag =
      let rest : length (drop 12 bytes) ≡ length bytes - 12 = length-drop 12 bytes in
      let whole : length ((take 12 bytes ++ tag_bytes tag) ++ drop 12 bytes) ≡ length (take 12 bytes ++ tag_bytes tag) + length (drop 12 bytes) =
      length-append (take 12 bytes ++ tag_bytes tag) (drop 12 bytes) in
      let first : length (take 12 bytes ++ tag_bytes tag) ≡ length (take 12 bytes) + 4 = length-append (take 12 bytes) (tag_bytes tag) in
      omega (arith, rest, whole, first, front)

  pub is_tagged-with_tag : is_tagged (with_tag tag bytes) ≡ true
  is_tagged-with_tag =
      let said : (number 2 12 (with_tag tag bytes) == 0x8100) ≡ true =
      ap (λ (t : List ℕ). big_from 0 2 t == 0x8100) behind_addresses in
      and_from _ _ said (le-leb 18 (length (with_tag tag bytes)) (omega (arith, length-with_tag)))

  pub vlan_of-with_tag : tag < 65536 → vlan_of (with_tag tag bytes) ≡ Some (tag % 4096)
  vlan_of-with_tag fits =
      let word : tag / 256 % 256 * 256 + (tag % 256 * 1 + 0) ≡ tag = omega (arith, fits) in
      cond-true (is_tagged (with_tag tag bytes)) _ _ is_tagged-with_tag
      ∙ ap (λ (t : List ℕ). Some (big_from 0 2 t % 4096)) behind_type ∙ ap (λ (n : ℕ). Some (n % 4096)) word

  pub type_of-with_tag : type_of (with_tag tag bytes) ≡ Some (number 2 12 bytes)
  type_of-with_tag =
      let place : type_at (with_tag tag bytes) ≡ 16 = cond-true (is_tagged (with_tag tag bytes)) _ _ is_tagged-with_tag in
      cond-true (nat_le 14 (length (with_tag tag bytes))) _ _ (le-leb 14 (length (with_tag tag bytes)) (omega (arith, length-with_tag)))
      ∙ ap (λ (n : ℕ). Some (number 2 n (with_tag tag bytes))) place
      ∙ ap (λ (t : List ℕ). Some (big_from 0 2 t)) behind_tag
