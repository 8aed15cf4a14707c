-- What is pulled behind an accepted header is what is pulled of the capture.
use Rattle.std.proofs.Common.{◌≡◌, ◌∙◌, sym, ap, subst, inl, inr, ℕ, Bool, ◌+◌, ◌-◌, ◌≤◌, Option, Some, None, List, [], ◌++◌, length, take, drop, arith, refl}
use Rattle.std.proofs.lemmas.List.{length-take-le, take-append-drop, drop-drop}
use Rattle.onvm_base.specs.declared.frame.Stamp.{Stamp}
use Rattle.pcap_in.specs.Classic.{IsHeader, IsRecord}
use Rattle.pcap_in.specs.Faulty.{EndsInRecord, IsTornRecord}
use Rattle.pcap_in.specs.Reading.{Reading, Pulls, AtRecord}
use Rattle.pcap_in.specs.Judged.{PullsRecord}
use Rattle.pcap_in.specs.declared.pull.Pull.{Pull}
use Rattle.pcap_in.specs.declared.pull.Pull.TheVariants as pull
use Rattle.pcap_in.specs.declared.spelling.Spelling.{Spelling}
use Rattle.pcap_in.proofs.OneAnswer.{Broken, GivesFrame}

-- a whole record is cut off the bytes that no frame has used
pub cut_off : (old : Reading) (items packet : List ℕ) (used skipped len place : ℕ) (known : Option Spelling) (finished : Bool)
    (spelling : Spelling) (stamp : Stamp)
    → record { spelling = known; place = place; rest = drop used items; finished = finished } ≡ old
    → 16 + len ≤ length (drop skipped old.rest)
    → IsRecord spelling (take (16 + len) (drop skipped old.rest))
    (record { stamp = stamp; packet = take len (drop 16 (drop skipped old.rest)) })
    → packet ≡ take (16 + len - 16) (drop 16 (drop skipped old.rest))
    → (finished ≡ old.finished) × (Some spelling ≡ Some spelling) × (bytes : List ℕ)
    × (drop skipped old.rest ≡ bytes ++ drop (used + (skipped + 16 + len)) items)
    × IsRecord spelling bytes (record { stamp = stamp; packet = packet })
    × (place + skipped + (16 + len) ≡ old.place + skipped + length bytes)
cut_off old items packet used skipped len place known finished spelling stamp view whole is frame =
    let rest : List ℕ = drop skipped old.rest in
    let there : old.rest ≡ drop used items = sym (ap (λ (r : Reading). r.rest) view) in
    let behind : drop (16 + len) rest ≡ drop (used + (skipped + 16 + len)) items =
    drop-drop (16 + len) skipped old.rest ∙ ap (drop (skipped + (16 + len))) there
    ∙ drop-drop (skipped + (16 + len)) used items ∙ ap (λ n. drop n items) (omega arith) in
    let same : take len (drop 16 rest) ≡ packet = sym (frame ∙ ap (λ n. take n (drop 16 rest)) (omega arith)) in
    let size : length (take (16 + len) rest) ≡ 16 + len = length-take-le (16 + len) rest whole in
    let from : place ≡ old.place = ap (λ (r : Reading). r.place) view in
    let P : List ℕ → Type 0 = λ t. IsRecord spelling (take (16 + len) rest) (record { stamp = stamp; packet = t }) in (
      ap (λ (r : Reading). r.finished) view,
      refl,
      take (16 + len) rest,
      sym (take-append-drop (16 + len) rest) ∙ ap (λ t. take (16 + len) rest ++ t) behind,
      subst P same is,
      omega (arith, size, from),
    )

-- a fact of the record behind the header is one of the record at the reader's place
pub first_record : (old : Reading) (spelling : Spelling) (P : Spelling → ℕ → List ℕ → Type 0) → old.spelling ≡ None
    → IsHeader spelling (take 24 old.rest) → P spelling (old.place + 24) (drop 24 old.rest) → AtRecord old P
first_record old spelling P start is fact =
    inl (start, spelling, take 24 old.rest, drop 24 old.rest, sym (take-append-drop 24 old.rest), is, fact)

-- whatever holds of the record is pulled
pub pulls_of : (old new : Reading) (answer : Pull) (spelling : Spelling) (at : ℕ) (rest : List ℕ)
    → ((P : Spelling → ℕ → List ℕ → Type 0) → P spelling at rest → AtRecord old P)
    → PullsRecord spelling at rest old answer new → Pulls old answer new
pulls_of old new (pull.Frame frame) spelling at rest there (kept, known, bytes, text, is, place) =
    (kept, there (GivesFrame frame new) (known, bytes, text, is, place))
pulls_of old new pull.More spelling at rest there (same, more, ends) =
    (same, more, inr (there (λ s at rest. EndsInRecord s rest) ends))
pulls_of old new pull.End spelling at rest there (same, finished, none) =
    (same, finished, there (λ s at rest. rest ≡ []) none)
pulls_of old new (pull.Bad fault) spelling at rest there (same, inl broken) = (same, inr (inl (there (Broken fault) broken)))
pulls_of old new (pull.Bad fault) spelling at rest there (same, inr torn) =
    (same, inr (inr (inr (there (λ s at rest. IsTornRecord s at rest old.finished fault) torn))))
