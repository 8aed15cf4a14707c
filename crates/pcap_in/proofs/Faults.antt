-- A text that has a fault is no capture, has no other fault, and what it begins with has its first frames.
use Rattle.std.proofs.Common.{◌≡◌, ◌∙◌, sym, ap, subst, inl, inr, ◌⊎◌, ℕ, true, ◌+◌, ◌<◌, ◌≤◌, List, [], ◌∷◌, ◌++◌, length, append_assoc, arith, refl}
use Rattle.std.proofs.lemmas.List.{length-append}
use Rattle.onvm_base.specs.declared.frame.Frame.{Frame}
use Rattle.pcap_in.specs.Classic.{IsRecord, AreRecords, IsCapture}
use Rattle.pcap_in.specs.Faulty.{AreRecordsUpTo, BreaksHeader, BreaksRecord, EndsInRecord, IsCaptureUpTo, IsTornRecord}
use Rattle.pcap_in.specs.declared.pull.PcapFault.{PcapFault}
use Rattle.pcap_in.specs.declared.spelling.Spelling.{Spelling}
use Rattle.pcap_in.proofs.Grammar.{not_nothing, one_header, one_record}
use Rattle.pcap_in.proofs.Items.{ends_unbroken, head_once, header_keeps, header_once, record_keeps, record_whole, torn_is}

-- a record that breaks a rule or is torn
abbrev pub IsFaultyRecord : Spelling → ℕ → List ℕ → PcapFault → Type 0
IsFaultyRecord s at text fault = ((16 ≤ length text) × BreaksRecord s at text fault) ⊎ IsTornRecord s at text true fault

-- it isn't nothing
faulty_some : (s : Spelling) (at : ℕ) (text : List ℕ) (fault : PcapFault) → IsFaultyRecord s at text fault → 0 < length text
faulty_some s at text fault (inl broken) = omega (arith, broken.0)
faulty_some s at text fault (inr torn) = (torn_is s at text true fault torn).2

-- and begins with no record, whatever follows where it is torn
faulty_unbegun : (s : Spelling) (at : ℕ) (text bytes rest : List ℕ) (frame : Frame) (fault : PcapFault) → text ≡ bytes ++ rest
    → IsRecord s bytes frame → IsFaultyRecord s at text fault → ⊥
faulty_unbegun s at text bytes rest frame fault same is (inl broken) =
    let P : List ℕ → Type 0 = λ t. BreaksRecord s at t fault in
    record_keeps s at bytes rest frame fault is (subst P same broken.1)
faulty_unbegun s at text bytes rest frame fault same is (inr torn) =
    let P : List ℕ → Type 0 = EndsInRecord s in
    record_whole s bytes rest frame is (subst P same (torn_is s at text true fault torn).3)

-- it has one fault
faulty_once : (s : Spelling) (at : ℕ) (text : List ℕ) (f g : PcapFault) → IsFaultyRecord s at text f → IsFaultyRecord s at text g → f ≡ g
faulty_once s at text f g (inl broken) (inl broken') = head_once s at text f g broken.1 broken'.1
faulty_once s at text f g (inl broken) (inr torn) =
    absurd (ends_unbroken s at text f (torn_is s at text true g torn).3 broken.0 broken.1)
faulty_once s at text f g (inr torn) (inl broken) =
    absurd (ends_unbroken s at text g (torn_is s at text true f torn).3 broken.0 broken.1)
faulty_once s at text f g (inr torn) (inr torn') = (torn_is s at text true f torn).1 ∙ sym (torn_is s at text true g torn').1

-- what is read of records that begin a text with a fault are its first frames
records_first_up_to : (s : Spelling) (at : ℕ) (text used rest : List ℕ) (xs ys : List Frame) (fault : PcapFault)
    → AreRecordsUpTo s at text xs fault → text ≡ used ++ rest → AreRecords s used ys → (zs : List Frame) × (xs ≡ ys ++ zs)
records_first_up_to s at text used rest xs [] fault up_to text-is first = (xs, refl)
records_first_up_to s at text used rest [] (y ∷ ys) fault up_to text-is (b, d, used-is, other, first) =
    absurd (faulty_unbegun s at text b (d ++ rest) y fault (text-is ∙ ap (λ t. t ++ rest) used-is ∙ append_assoc b d rest) other up_to)
records_first_up_to s at text used rest (x ∷ xs) (y ∷ ys) fault (a, c, whole-is, is, up_to) text-is (b, d, used-is, other, first) =
    let same = one_record s a b c (d ++ rest) x y is other
    (sym whole-is ∙ text-is ∙ ap (λ t. t ++ rest) used-is ∙ append_assoc b d rest) in
    let others = records_first_up_to s (at + length a) c d rest xs ys fault up_to same.2 first in
    let heads : x ≡ y = same.1 in
    let tails : xs ≡ ys ++ others.0 = others.1 in
    (others.0, cc)

-- a capture that a text with a fault begins with has its first frames
pub up_to_first : (text used rest : List ℕ) (xs ys : List Frame) (fault : PcapFault) → IsCaptureUpTo text xs fault → text ≡ used ++ rest
    → IsCapture used ys → (zs : List Frame) × (xs ≡ ys ++ zs)
up_to_first text used rest xs ys fault (inl short) text-is (t, (b, d, used-is, other, first)) =
    absurd (omega (arith, short.1, ap (length {A = ℕ}) text-is, length-append used rest, ap (length {A = ℕ}) used-is, length-append b d, other.size))
up_to_first text used rest xs ys fault (inr (inl broken)) text-is (t, (b, d, used-is, other, first)) =
    let P : List ℕ → Type 0 = λ u. BreaksHeader u fault in
    let whole : text ≡ b ++ (d ++ rest) = text-is ∙ ap (λ u. u ++ rest) used-is ∙ append_assoc b d rest in
    absurd (header_keeps t b (d ++ rest) fault other (subst P whole broken.2))
up_to_first text used rest xs ys fault (inr (inr (s, a, c, whole-is, is, up_to))) text-is (t, (b, d, used-is, other, first)) =
    let both : a ++ c ≡ b ++ (d ++ rest) = sym whole-is ∙ text-is ∙ ap (λ u. u ++ rest) used-is ∙ append_assoc b d rest in
    let same = one_header s t a b c (d ++ rest) is other both in
    let P : Spelling → Type 0 = λ u. AreRecords u d ys in
    records_first_up_to s 24 c d rest xs ys fault up_to same.1 (subst P (sym same.0) first)

-- records to the end have no fault among them
records_keep : (s : Spelling) (at : ℕ) (text : List ℕ) (xs ys : List Frame) (fault : PcapFault) → AreRecords s text xs
    → AreRecordsUpTo s at text ys fault → ⊥
records_keep s at text [] [] fault are up_to =
    omega (arith, faulty_some s at text fault up_to, ap (length {A = ℕ}) are)
records_keep s at text [] (y ∷ ys) fault are (a, c, text-is, is, up_to) = not_nothing s text a c y are text-is is
records_keep s at text (x ∷ xs) [] fault (a, c, text-is, is, are) up_to = faulty_unbegun s at text a c x fault text-is is up_to
records_keep s at text (x ∷ xs) (y ∷ ys) fault (a, c, text-is, is, are) (b, d, other-is, other, up_to) =
    let same = one_record s a b c d x y is other (sym text-is ∙ other-is) in
    let P : List ℕ → Type 0 = λ t. AreRecordsUpTo s (at + length b) t ys fault in
    records_keep s (at + length b) c xs ys fault are (subst P (sym same.2) up_to)

-- a text that is a capture has no fault
pub no_fault : (text : List ℕ) (xs ys : List Frame) (fault : PcapFault) → IsCapture text xs → IsCaptureUpTo text ys fault → ⊥
no_fault text xs ys fault (s, (header, rest, text-is, is, are)) (inl short) =
    omega (arith, ap (length {A = ℕ}) text-is, length-append header rest, is.size, short.1)
no_fault text xs ys fault (s, (header, rest, text-is, is, are)) (inr (inl broken)) =
    let P : List ℕ → Type 0 = λ t. BreaksHeader t fault in
    header_keeps s header rest fault is (subst P text-is broken.2)
no_fault text xs ys fault (s, (a, c, text-is, is, are)) (inr (inr (t, b, d, other-is, other, up_to))) =
    let same = one_header s t a b c d is other (sym text-is ∙ other-is) in
    let P : List ℕ → Type 0 = λ u. AreRecordsUpTo t 24 u ys fault in
    let Q : Spelling → Type 0 = λ u. AreRecordsUpTo u 24 c ys fault in
    records_keep s 24 c xs ys fault are (subst Q (sym same.0) (subst P (sym same.1) up_to))

-- records have one first fault, behind the same frames
records_fault_once : (s : Spelling) (at : ℕ) (text : List ℕ) (xs ys : List Frame) (f g : PcapFault) → AreRecordsUpTo s at text xs f
    → AreRecordsUpTo s at text ys g → (xs ≡ ys) × (f ≡ g)
records_fault_once s at text [] [] f g up_to other = (refl, faulty_once s at text f g up_to other)
records_fault_once s at text [] (y ∷ ys) f g up_to (b, d, other-is, other, others) =
    absurd (faulty_unbegun s at text b d y f other-is other up_to)
records_fault_once s at text (x ∷ xs) [] f g (a, c, text-is, is, up_to) other =
    absurd (faulty_unbegun s at text a c x g text-is is other)
records_fault_once s at text (x ∷ xs) (y ∷ ys) f g (a, c, text-is, is, up_to) (b, d, other-is, other, others) =
    let same = one_record s a b c d x y is other (sym text-is ∙ other-is) in
    let P : List ℕ → Type 0 = λ t. AreRecordsUpTo s (at + length b) t ys g in
    let Q : List ℕ → Type 0 = λ t. AreRecordsUpTo s (at + length t) c ys g in
    let there : AreRecordsUpTo s (at + length a) c ys g = subst Q (sym same.0) (subst P (sym same.2) others) in
    let behind = records_fault_once s (at + length a) c xs ys f g up_to there in
    let heads : x ≡ y = same.1 in
    let tails : xs ≡ ys = behind.0 in
    (cc, behind.1)

-- a text has one first fault, behind the same frames
pub fault_once : (text : List ℕ) (xs ys : List Frame) (f g : PcapFault) → IsCaptureUpTo text xs f → IsCaptureUpTo text ys g
    → (xs ≡ ys) × (f ≡ g)
fault_once text xs ys f g (inl short) (inl short') = (short.0 ∙ sym short'.0, short.2 ∙ sym short'.2)
fault_once text xs ys f g (inl short) (inr (inl broken)) = absurd (omega (arith, short.1, broken.1))
fault_once text xs ys f g (inl short) (inr (inr (t, b, d, other-is, other, others))) =
    absurd (omega (arith, ap (length {A = ℕ}) other-is, length-append b d, other.size, short.1))
fault_once text xs ys f g (inr (inl broken)) (inl short) = absurd (omega (arith, short.1, broken.1))
fault_once text xs ys f g (inr (inl broken)) (inr (inl broken')) =
    (broken.0 ∙ sym broken'.0, header_once text f g broken.2 broken'.2)
fault_once text xs ys f g (inr (inl broken)) (inr (inr (t, b, d, other-is, other, others))) =
    let P : List ℕ → Type 0 = λ u. BreaksHeader u f in
    absurd (header_keeps t b d f other (subst P other-is broken.2))
fault_once text xs ys f g (inr (inr (s, a, c, text-is, is, up_to))) (inl short) =
    absurd (omega (arith, ap (length {A = ℕ}) text-is, length-append a c, is.size, short.1))
fault_once text xs ys f g (inr (inr (s, a, c, text-is, is, up_to))) (inr (inl broken)) =
    let P : List ℕ → Type 0 = λ u. BreaksHeader u g in
    absurd (header_keeps s a c g is (subst P text-is broken.2))
fault_once text xs ys f g (inr (inr (s, a, c, text-is, is, up_to))) (inr (inr (t, b, d, other-is, other, others))) =
    let same = one_header s t a b c d is other (sym text-is ∙ other-is) in
    let P : List ℕ → Type 0 = λ u. AreRecordsUpTo t 24 u ys g in
    let Q : Spelling → Type 0 = λ u. AreRecordsUpTo u 24 c ys g in
    records_fault_once s 24 c xs ys f g up_to (subst Q (sym same.0) (subst P (sym same.1) others))

-- a fault behind records is a fault behind their frames
pub AreRecordsUpTo-behind : (s : Spelling) (at : ℕ) (before text : List ℕ) (frames : List Frame) (fault : PcapFault)
    → AreRecords s before frames → AreRecordsUpTo s (at + length before) text [] fault
    → AreRecordsUpTo s at (before ++ text) frames fault
AreRecordsUpTo-behind s at before text [] fault are up_to =
    let P : List ℕ → Type 0 = λ b. AreRecordsUpTo s (at + length b) text [] fault → AreRecordsUpTo s at (b ++ text) [] fault in
    subst P (sym are) (λ (u : AreRecordsUpTo s (at + 0) text [] fault). subst (λ (n : ℕ). AreRecordsUpTo s n text [] fault) (omega arith) u) up_to
AreRecordsUpTo-behind s at before text (frame ∷ frames) fault (a, c, before-is, is, are) up_to =
    let size : length before ≡ length a + length c = ap length before-is ∙ length-append a c in
    let place : at + length before ≡ at + length a + length c = omega (arith, size) in
    let next : AreRecordsUpTo s (at + length a) (c ++ text) frames fault =
    AreRecordsUpTo-behind s (at + length a) c text frames fault are (subst (λ (n : ℕ). AreRecordsUpTo s n text [] fault) place up_to) in
    (a, c ++ text, ap (λ t. t ++ text) before-is ∙ append_assoc a c text, is, next)

-- what is read first of a capture's records are its first frames, and the others are left
pub records_first : (s : Spelling) (text used rest : List ℕ) (xs ys : List Frame) → AreRecords s text xs → text ≡ used ++ rest
    → AreRecords s used ys → (zs : List Frame) × (xs ≡ ys ++ zs) × AreRecords s rest zs
records_first s text used rest xs [] are text-is first =
    let P : List ℕ → Type 0 = λ t. AreRecords s t xs in
    (xs, refl, subst P (text-is ∙ ap (λ t. t ++ rest) first) are)
records_first s text used rest [] (y ∷ ys) are text-is (b, d, used-is, other, first) =
    absurd (not_nothing s text b (d ++ rest) y are (text-is ∙ ap (λ t. t ++ rest) used-is ∙ append_assoc b d rest) other)
records_first s text used rest (x ∷ xs) (y ∷ ys) (a, c, whole-is, is, are) text-is (b, d, used-is, other, first) =
    let same = one_record s a b c (d ++ rest) x y is other
    (sym whole-is ∙ text-is ∙ ap (λ t. t ++ rest) used-is ∙ append_assoc b d rest) in
    let others = records_first s c d rest xs ys are same.2 first in
    let heads : x ≡ y = same.1 in
    let tails : xs ≡ ys ++ others.0 = others.1 in
    (others.0, cc, others.2)

-- a capture that a capture begins with has its first frames
pub capture_first : (text used rest : List ℕ) (xs ys : List Frame) → IsCapture text xs → text ≡ used ++ rest → IsCapture used ys
    → (zs : List Frame) × (xs ≡ ys ++ zs)
capture_first text used rest xs ys (s, (a, c, whole-is, is, are)) text-is (t, (b, d, used-is, other, first)) =
    let both : a ++ c ≡ b ++ (d ++ rest) = sym whole-is ∙ text-is ∙ ap (λ u. u ++ rest) used-is ∙ append_assoc b d rest in
    let same = one_header s t a b c (d ++ rest) is other both in
    let P : Spelling → Type 0 = λ u. AreRecords u d ys in
    let split = records_first s c d rest xs ys are same.1 (subst P (sym same.0) first) in
    (split.0, split.1)
