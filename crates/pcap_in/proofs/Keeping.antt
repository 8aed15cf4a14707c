-- How little a reader keeps where it wants more.
use Rattle.std.proofs.Common.{◌≡◌, ◌∙◌, sym, ap, subst, inl, inr, ◌⊎◌, ℕ, ◌+◌, ◌-◌, ◌<◌, ◌≤◌, None, Some, List, length, take, drop, arith}
use Rattle.std.proofs.lemmas.List.{length-append, length-drop, take-append-drop}
use Rattle.onvm_base.specs.declared.limits.TheConstants.{MAX_FRAME_BYTES}
use Rattle.pcap_in.specs.Classic.{IsHeader}
use Rattle.pcap_in.specs.Faulty.{BreaksHeader, EndsInRecord}
use Rattle.pcap_in.specs.Reading.{AtRecord, EndsInHeader, IsKept, Pulls, Reading}
use Rattle.pcap_in.specs.declared.judge.TheConstants.{HEAD_LEN, HEADER_LEN}
use Rattle.pcap_in.specs.declared.pull.PcapFault.{PcapFault}
use Rattle.pcap_in.specs.declared.pull.Pull.TheVariants as pull
use Rattle.pcap_in.specs.declared.spelling.Spelling.{Spelling}
use Rattle.pcap_in.proofs.Items.{header_keeps}
use Rattle.pcap_in.proofs.OneAnswer.{both_at}

-- the bytes end inside a record
short_record : (s : Spelling) (rest : List ℕ) → EndsInRecord s rest → length rest < HEAD_LEN + MAX_FRAME_BYTES
short_record s rest (inl few) = omega arith
short_record s rest (inr (limit, fraction, short)) = omega (arith, limit, short)

in_broken_header : (old : Reading) (fault : PcapFault) → old.spelling ≡ None → HEADER_LEN ≤ length old.rest
    → BreaksHeader old.rest fault → EndsInHeader old ⊎ AtRecord old (λ s at rest. EndsInRecord s rest) → ⊥
in_broken_header old fault none whole broken (inl ends) = omega (arith, whole, ends.1)
in_broken_header old fault none whole broken (inr (inl (start, s, header, rest, text, is, ends))) =
    let P : List ℕ → Type 0 = λ t. BreaksHeader t fault in
    header_keeps s header rest fault is (subst P text broken)
in_broken_header old fault none whole broken (inr (inr (s, known, ends))) =
    let clash : None ≡ Some s = sym none ∙ known in cc

behind_header : (old : Reading) (count : ℕ) → EndsInHeader old → AtRecord old (λ s at rest. count ≡ length rest)
    → count < HEAD_LEN + MAX_FRAME_BYTES
behind_header old count short (inl (start, s, header, rest, text, is, all)) =
    omega (arith, all, ap (length {A = ℕ}) text, length-append header rest, short.1)
behind_header old count short (inr (s, known, all)) = omega (arith, all, short.1)

kept_then : (old : Reading) (count : ℕ) → EndsInHeader old ⊎ AtRecord old (λ s at rest. EndsInRecord s rest)
    → IsKept old count → count < HEAD_LEN + MAX_FRAME_BYTES
kept_then old count wants (inl (none, inl short, all)) = omega (arith, all, short.1)
kept_then old count wants (inl (none, inr (whole, fault, broken), all)) =
    absurd (in_broken_header old fault none whole broken wants)
kept_then old count (inl short) (inr at) = behind_header old count short at
kept_then old count (inr ends) (inr at) =
    both_at old (λ s at rest. EndsInRecord s rest) (λ s at rest. count ≡ length rest) (count < HEAD_LEN + MAX_FRAME_BYTES)
    ends at (λ s at rest ends all. omega (arith, all, short_record s rest ends))

pub kept_little : (old new : Reading) (count : ℕ) → Pulls old pull.More new → IsKept new count
    → count < HEAD_LEN + MAX_FRAME_BYTES
kept_little old new count pulls kept =
    let P : Reading → Type 0 = λ r. IsKept r count in
    kept_then old count pulls.2 (subst P pulls.0 kept)

-- where the bytes begin with a header, those behind it are kept
pub kept_behind_header : (old : Reading) (s : Spelling) (count : ℕ) → old.spelling ≡ None → HEADER_LEN ≤ length old.rest
    → IsHeader s (take HEADER_LEN old.rest) → count ≡ length old.rest - HEADER_LEN → IsKept old count
kept_behind_header old s count none whole is all =
    inr (inl (
      none,
      s,
      take HEADER_LEN old.rest,
      drop HEADER_LEN old.rest,
      sym (take-append-drop HEADER_LEN old.rest),
      is,
      all ∙ sym (length-drop HEADER_LEN old.rest),
    ))
