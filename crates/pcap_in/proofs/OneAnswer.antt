-- A reader has one answer.
use Rattle.std.proofs.Common.{◌≡◌, ◌∙◌, sym, ap, subst, inl, inr, ◌⊎◌, ℕ, Bool, true, false, ◌+◌, ◌<◌, ◌≤◌, Option, Some, None, List, [], ◌∷◌, ◌++◌, length, arith, refl, cond}
use Rattle.std.proofs.lemmas.List.{length-append}
use Rattle.onvm_base.specs.declared.frame.Frame.{Frame}
use Rattle.pcap_in.specs.Classic.{IsRecord}
use Rattle.pcap_in.specs.Faulty.{BreaksHeader, BreaksRecord, EndsInRecord, IsTornRecord}
use Rattle.pcap_in.specs.Reading.{Reading, Pulls, AtRecord, IsTornHeader}
use Rattle.pcap_in.specs.declared.pull.PcapFault.{PcapFault}
use Rattle.pcap_in.specs.declared.pull.PcapFault.TheVariants.{Magic, Version, Link, Torn, TooLong, Fraction}
use Rattle.pcap_in.specs.declared.pull.Pull.{Pull}
use Rattle.pcap_in.specs.declared.pull.Pull.TheVariants as pull
use Rattle.pcap_in.specs.declared.spelling.Spelling.{Spelling}
use Rattle.pcap_in.proofs.Grammar.{one_header, one_record}
use Rattle.pcap_in.proofs.Items.{ends_unbroken, head_once, header_keeps, header_once, record_keeps, record_whole, torn_is}

-- what is answered where the bytes end, by whether more may come and whether any is there
abbrev pub stop_of : ℕ → List ℕ → Bool → Pull
stop_of at rest false = pull.More
stop_of at [] true = pull.End
stop_of at (byte ∷ bytes) true = pull.Bad (Torn at)

-- the answers that the header's bytes have
abbrev pub InHeader : Reading → Pull → Type 0
InHeader old answer =
    (old.spelling ≡ None) × ((length old.rest < 24) × (answer ≡ cond old.finished (pull.Bad (Torn old.place)) pull.More)
    ⊎ (24 ≤ length old.rest) × (fault : PcapFault) × (answer ≡ pull.Bad fault) × BreaksHeader old.rest fault)

-- what stands at the reader's place where it answers with a frame, leaving new
abbrev pub GivesFrame : Frame → Reading → Spelling → ℕ → List ℕ → Type 0
GivesFrame frame new spelling at rest =
    (new.spelling ≡ Some spelling)
    × (bytes : List ℕ) × (rest ≡ bytes ++ new.rest) × IsRecord spelling bytes frame × (new.place ≡ at + length bytes)

-- what stands there where it answers with the fault of a whole head
abbrev pub Broken : PcapFault → Spelling → ℕ → List ℕ → Type 0
Broken fault spelling at rest = (16 ≤ length rest) × BreaksRecord spelling at rest fault

-- the answers that a record's bytes have
abbrev pub InRecord : Reading → Pull → Reading → Spelling → ℕ → List ℕ → Type 0
InRecord old answer new spelling at rest =
    ((new ≡ old) × EndsInRecord spelling rest × (answer ≡ stop_of at rest old.finished))
    ⊎ ((new ≡ old) × (fault : PcapFault) × (answer ≡ pull.Bad fault) × Broken fault spelling at rest)
    ⊎ ((frame : Frame) × (answer ≡ pull.Frame frame) × (new.finished ≡ old.finished) × GivesFrame frame new spelling at rest)

-- a fact that follows at the reader's place holds there
pub at_weaker : (old : Reading) (P Q : Spelling → ℕ → List ℕ → Type 0)
    → ((s : Spelling) (at : ℕ) (rest : List ℕ) → P s at rest → Q s at rest) → AtRecord old P → AtRecord old Q
at_weaker old P Q follows (inl (start, s, header, rest, text, is, fact)) =
    inl (start, s, header, rest, text, is, follows s (old.place + 24) rest fact)
at_weaker old P Q follows (inr (s, known, fact)) = inr (s, known, follows s old.place old.rest fact)

-- two facts at the reader's place hold of one spelling, one offset and its bytes
pub both_at : (old : Reading) (P Q : Spelling → ℕ → List ℕ → Type 0) (G : Type 0) → AtRecord old P → AtRecord old Q
    → ((s : Spelling) (at : ℕ) (rest : List ℕ) → P s at rest → Q s at rest → G) → G
both_at old P Q G (inl (start, s, a, c, text, is, fact)) (inl (start', t, b, d, text', is', fact')) follows =
    let same = one_header s t a b c d is is' (sym text ∙ text') in
    let R : List ℕ → Type 0 = λ u. Q t (old.place + 24) u in
    let S : Spelling → Type 0 = λ u. Q u (old.place + 24) c in
    follows s (old.place + 24) c fact (subst S (sym same.0) (subst R (sym same.1) fact'))
both_at old P Q G (inl (start, s, a, c, text, is, fact)) (inr (t, known, fact')) follows = absurd (cc)
both_at old P Q G (inr (s, known, fact)) (inl (start, t, a, c, text, is, fact')) follows = absurd (cc)
both_at old P Q G (inr (s, known, fact)) (inr (t, known', fact')) follows =
    let some : Some s ≡ Some t = sym known ∙ known' in
    let same : s ≡ t = cc in
    let S : Spelling → Type 0 = λ u. Q u old.place old.rest in
    follows s old.place old.rest fact (subst S (sym same) fact')

-- more is wanted while more may come
pub stop_more : (at : ℕ) (rest : List ℕ) (finished : Bool) → finished ≡ false → pull.More ≡ stop_of at rest finished
stop_more at rest false e = refl
stop_more at rest true e = absurd (cc)

-- the end is where nothing is left
pub stop_end : (at : ℕ) (rest : List ℕ) (finished : Bool) → finished ≡ true → rest ≡ [] → pull.End ≡ stop_of at rest finished
stop_end at [] true e none = refl
stop_end at (byte ∷ bytes) true e none = absurd (cc)
stop_end at rest false e none = absurd (cc)

-- a record is torn where something is left of it
pub stop_torn : (at : ℕ) (rest : List ℕ) (finished : Bool) → finished ≡ true → 0 < length rest
    → pull.Bad (Torn at) ≡ stop_of at rest finished
stop_torn at [] true e some = absurd (omega arith)
stop_torn at (byte ∷ bytes) true e some = refl
stop_torn at rest false e some = absurd (cc)

-- a frame is an answer of a record's bytes
pub from_frame : (old new : Reading) (frame : Frame) (s : Spelling) (at : ℕ) (rest : List ℕ) → new.finished ≡ old.finished
    → GivesFrame frame new s at rest → InRecord old (pull.Frame frame) new s at rest
from_frame old new frame s at rest kept gives = inr (inr (frame, refl, kept, gives))

-- so is the end
pub from_end : (old new : Reading) (s : Spelling) (at : ℕ) (rest : List ℕ) → new ≡ old → old.finished ≡ true → rest ≡ []
    → InRecord old pull.End new s at rest
from_end old new s at rest same finished none =
    let short : length rest < 16 = omega (arith, ap (length {A = ℕ}) none) in
    inl (same, inl short, stop_end at rest old.finished finished none)

-- so is the fault of a whole head
pub from_broken : (old new : Reading) (fault : PcapFault) (s : Spelling) (at : ℕ) (rest : List ℕ) → new ≡ old → Broken fault s at rest
    → InRecord old (pull.Bad fault) new s at rest
from_broken old new fault s at rest same broken = inr (inl (same, fault, refl, broken))

-- so is a torn record
pub from_torn : (old new : Reading) (fault : PcapFault) (s : Spelling) (at : ℕ) (rest : List ℕ) → new ≡ old
    → IsTornRecord s at rest old.finished fault → InRecord old (pull.Bad fault) new s at rest
from_torn old new fault s at rest same torn =
    let is = torn_is s at rest old.finished fault torn in
    inl (same, is.3, ap (λ (f : PcapFault). pull.Bad f) is.1 ∙ stop_torn at rest old.finished is.0 is.2)

-- a torn header: no more bytes come, and they end inside it
pub torn_header_is : (reading : Reading) (fault : PcapFault) → IsTornHeader reading fault
    → (reading.finished ≡ true) × (fault ≡ Torn reading.place) × (reading.spelling ≡ None) × (length reading.rest < 24)
torn_header_is reading (Torn place) (finished, place-is, (none, short)) = (finished, ap (λ (n : ℕ). Torn n) place-is, none, short)
torn_header_is reading Magic wrong = absurd wrong
torn_header_is reading Version wrong = absurd wrong
torn_header_is reading Link wrong = absurd wrong
torn_header_is reading (TooLong place len) wrong = absurd wrong
torn_header_is reading (Fraction place) wrong = absurd wrong

-- it is an answer of the header's bytes
pub from_torn_header : (old : Reading) (fault : PcapFault) → IsTornHeader old fault → InHeader old (pull.Bad fault)
from_torn_header old fault torn =
    let is = torn_header_is old fault torn in
    let answer : pull.Bad (Torn old.place) ≡ cond old.finished (pull.Bad (Torn old.place)) pull.More = rw is.0 refl in
    (is.2, inl (is.3, ap (λ (f : PcapFault). pull.Bad f) is.1 ∙ answer))

-- an answer is of the header or of a record
pub kinds : (old new : Reading) (answer : Pull) → Pulls old answer new
    → ((new ≡ old) × InHeader old answer) ⊎ AtRecord old (InRecord old answer new)
kinds old new (pull.Frame frame) (kept, there) =
    inr (at_weaker old (GivesFrame frame new) (InRecord old (pull.Frame frame) new)
    (λ s at rest fact. from_frame old new frame s at rest kept fact) there)
kinds old new pull.More (same, more, inl (start, short)) = inl (same, (start, inl (short, rw more refl)))
kinds old new pull.More (same, more, inr there) =
    inr (at_weaker old (λ s at rest. EndsInRecord s rest) (InRecord old pull.More new)
    (λ s at rest ends. inl (same, ends, stop_more at rest old.finished more)) there)
kinds old new pull.End (same, finished, there) =
    inr (at_weaker old (λ s at rest. rest ≡ []) (InRecord old pull.End new)
    (λ s at rest none. from_end old new s at rest same finished none) there)
kinds old new (pull.Bad fault) (same, inl (start, whole, broken)) = inl (same, (start, inr (whole, fault, refl, broken)))
kinds old new (pull.Bad fault) (same, inr (inl there)) =
    inr (at_weaker old (Broken fault) (InRecord old (pull.Bad fault) new)
    (λ s at rest fact. from_broken old new fault s at rest same fact) there)
kinds old new (pull.Bad fault) (same, inr (inr (inl torn))) = inl (same, from_torn_header old fault torn)
kinds old new (pull.Bad fault) (same, inr (inr (inr there))) =
    inr (at_weaker old (λ s at rest. IsTornRecord s at rest old.finished fault) (InRecord old (pull.Bad fault) new)
    (λ s at rest fact. from_torn old new fault s at rest same fact) there)

-- the header's bytes have one answer
pub header_answer : (old : Reading) (p q : Pull) → InHeader old p → InHeader old q → p ≡ q
header_answer old p q (start, inl (short, e)) (start', inl (short', e')) = e ∙ sym e'
header_answer old p q (start, inl (short, e)) (start', inr (whole, fault, e', broken)) = absurd (omega arith)
header_answer old p q (start, inr (whole, fault, e, broken)) (start', inl (short, e')) = absurd (omega arith)
header_answer old p q (start, inr (whole, fault, e, broken)) (start', inr (whole', fault', e', broken')) =
    e ∙ ap (λ (f : PcapFault). pull.Bad f) (header_once old.rest fault fault' broken broken') ∙ sym e'

-- where a record or nothing is looked for, the header is whole and accepted
pub header_passed : (old : Reading) (p : Pull) (P : Spelling → ℕ → List ℕ → Type 0) → InHeader old p → AtRecord old P → ⊥
header_passed old p P (start, inl (short, e)) (inl (start', s, a, c, text, is, fact)) =
    omega (arith, is.size, length-append a c, ap (length {A = ℕ}) text)
header_passed old p P (start, inr (whole, fault, e, broken)) (inl (start', s, a, c, text, is, fact)) =
    let R : List ℕ → Type 0 = λ t. BreaksHeader t fault in
    header_keeps s a c fault is (subst R text broken)
header_passed old p P (start, either) (inr (s, known, fact)) = absurd (cc)

-- readings of the same values are the same
pub reading_same : (r s : Reading) → r.spelling ≡ s.spelling → r.place ≡ s.place → r.rest ≡ s.rest → r.finished ≡ s.finished → r ≡ s
reading_same r s spelling place rest finished =
    let reading : Option Spelling → ℕ → List ℕ → Bool → Reading =
    λ w p t f. record { spelling = w; place = p; rest = t; finished = f } in
    let same : reading r.spelling r.place r.rest r.finished ≡ reading s.spelling s.place s.rest s.finished =
    rw (spelling, place, rest, finished) refl in
    same

-- a whole record has no other answer than its frame
frame_alone : (old : Reading) (new other : Reading) (q : Pull) (s : Spelling) (at : ℕ) (rest : List ℕ) (frame : Frame)
    → GivesFrame frame new s at rest → InRecord old q other s at rest
    → (g : Frame) × (q ≡ pull.Frame g) × (other.finished ≡ old.finished) × GivesFrame g other s at rest
frame_alone old new other q s at rest frame (known, bytes, text, is, place) (inl (same, ends, e)) =
    let P : List ℕ → Type 0 = EndsInRecord s in
    absurd (record_whole s bytes new.rest frame is (subst P text ends))
frame_alone old new other q s at rest frame (known, bytes, text, is, place) (inr (inl (same, fault, e, broken))) =
    let P : List ℕ → Type 0 = λ t. BreaksRecord s at t fault in
    absurd (record_keeps s at bytes new.rest frame fault is (subst P text broken.1))
frame_alone old new other q s at rest frame gives (inr (inr frames)) = frames

-- two frames of a record's bytes are one
frames_once : (new other : Reading) (f g : Frame) (s : Spelling) (at : ℕ) (rest : List ℕ) → new.finished ≡ other.finished
    → GivesFrame f new s at rest → GivesFrame g other s at rest → (f ≡ g) × (new ≡ other)
frames_once new other f g s at rest kept (known, bytes, text, is, place) (known', bytes', text', is', place') =
    let one = one_record s bytes bytes' new.rest other.rest f g is is' (sym text ∙ text') in (
      one.1,
      reading_same new other (known ∙ sym known') (place ∙ ap (λ (t : List ℕ). at + length t) one.0 ∙ sym place') one.2 kept,
    )

-- a record's bytes have one answer, which leaves one reading
pub record_answer : (old new other : Reading) (p q : Pull) (s : Spelling) (at : ℕ) (rest : List ℕ) → InRecord old p new s at rest
    → InRecord old q other s at rest → (p ≡ q) × (new ≡ other)
record_answer old new other p q s at rest (inr (inr (frame, e, kept, gives))) answer =
    let there = frame_alone old new other q s at rest frame gives answer in
    let one = frames_once new other frame there.0 s at rest (kept ∙ sym there.2) gives there.3 in
    (e ∙ ap (λ (f : Frame). pull.Frame f) one.0 ∙ sym there.1, one.1)
record_answer old new other p q s at rest (inl stop) (inr (inr (frame, e, kept, gives))) =
    let there = frame_alone old other new p s at rest frame gives (inl stop) in
    let one = frames_once new other there.0 frame s at rest (there.2 ∙ sym kept) there.3 gives in
    (there.1 ∙ ap (λ (f : Frame). pull.Frame f) one.0 ∙ sym e, one.1)
record_answer old new other p q s at rest (inr (inl bad)) (inr (inr (frame, e, kept, gives))) =
    let there = frame_alone old other new p s at rest frame gives (inr (inl bad)) in
    let one = frames_once new other there.0 frame s at rest (there.2 ∙ sym kept) there.3 gives in
    (there.1 ∙ ap (λ (f : Frame). pull.Frame f) one.0 ∙ sym e, one.1)
record_answer old new other p q s at rest (inl (same, ends, e)) (inl (same', ends', e')) = (e ∙ sym e', same ∙ sym same')
record_answer old new other p q s at rest (inl (same, ends, e)) (inr (inl (same', fault, e', (whole, broken)))) =
    absurd (ends_unbroken s at rest fault ends whole broken)
record_answer old new other p q s at rest (inr (inl (same, fault, e, (whole, broken)))) (inl (same', ends, e')) =
    absurd (ends_unbroken s at rest fault ends whole broken)
record_answer old new other p q s at rest (inr (inl (same, fault, e, (whole, broken)))) (inr (inl (same', fault', e', (whole', broken')))) =
    let one = head_once s at rest fault fault' broken broken' in
    (e ∙ ap (λ (f : PcapFault). pull.Bad f) one ∙ sym e', same ∙ sym same')

-- answers of the same kind are one, and of two kinds there are none
of_kinds : (old new new' : Reading) (p q : Pull)
    → ((new ≡ old) × InHeader old p) ⊎ AtRecord old (InRecord old p new)
    → ((new' ≡ old) × InHeader old q) ⊎ AtRecord old (InRecord old q new')
    → (p ≡ q) × (new ≡ new')
of_kinds old new new' p q (inl (same, header)) (inl (same', header')) = (header_answer old p q header header', same ∙ sym same')
of_kinds old new new' p q (inl (same, header)) (inr there) = absurd (header_passed old p (InRecord old q new') header there)
of_kinds old new new' p q (inr there) (inl (same, header)) = absurd (header_passed old q (InRecord old p new) header there)
of_kinds old new new' p q (inr there) (inr there') =
    both_at old (InRecord old p new) (InRecord old q new') ((p ≡ q) × (new ≡ new')) there there'
    (λ s at rest fact fact'. record_answer old new new' p q s at rest fact fact')

-- a reader has one answer, which leaves one reading
pub pulls_once : (old new new' : Reading) (p q : Pull) → Pulls old p new → Pulls old q new' → (p ≡ q) × (new ≡ new')
pulls_once old new new' p q answer other = of_kinds old new new' p q (kinds old new p answer) (kinds old new' q other)
