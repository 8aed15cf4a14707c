-- No text is two captures.
use Rattle.std.proofs.Common.{◌≡◌, ◌∙◌, sym, ap, subst, ℕ, ◌+◌, ◌-◌, ◌≤◌, List, [], ◌∷◌, ◌++◌, length, take, drop, get_or, arith, refl}
use Rattle.std.proofs.lemmas.List.{get_or_append_left, length-append, take_at, drop_at, take-append-le}
use Rattle.onvm_base.specs.declared.frame.Frame.{Frame}
use Rattle.pcap_in.specs.Classic.{HasMagic, IsHeader, IsRecord, AreRecords, IsCapture}
use Rattle.pcap_in.specs.Spelling.{in_nanos, magic_of, number}
use Rattle.pcap_in.specs.declared.spelling.Endian.{Endian}
use Rattle.pcap_in.specs.declared.spelling.Endian.TheVariants.{Little, Big}
use Rattle.pcap_in.specs.declared.spelling.Spelling.{Spelling}
use Rattle.pcap_in.specs.declared.spelling.Unit.{Unit}
use Rattle.pcap_in.specs.declared.spelling.Unit.TheVariants.{Micros, Nanos}
use Rattle.pcap_in.proofs.Judging.{number-same}

-- a number doesn't change by what comes behind it
pub number-append : (endian : Endian) (count at : ℕ) (xs ys : List ℕ) → at + count ≤ length xs
    → number endian count at (xs ++ ys) ≡ number endian count at xs
number-append endian count at xs ys within =
    number-same endian count at (xs ++ ys) xs (λ k l. get_or_append_left xs ys 0 k (omega arith))

-- spellings of the same values are the same
pub spelling_same : (s t : Spelling) → s.endian ≡ t.endian → s.unit ≡ t.unit → s ≡ t
spelling_same s t endian unit =
    let spelling : Endian → Unit → Spelling = λ e u. record { endian = e; unit = u } in
    let same : spelling s.endian s.unit ≡ spelling t.endian t.unit = rw (endian, unit) refl in
    same

-- no two spellings have one magic
magic_once : (e f : Endian) (u v : Unit) → magic_of e u ≡ magic_of f v → (e ≡ f) × (u ≡ v)
magic_once Little Little Micros Micros same = (refl, refl)
magic_once Little Little Nanos Nanos same = (refl, refl)
magic_once Big Big Micros Micros same = (refl, refl)
magic_once Big Big Nanos Nanos same = (refl, refl)
magic_once Little Little Micros Nanos same = absurd (omega (arith, ap (λ (bytes : List ℕ). get_or bytes 0 0) same))
magic_once Little Little Nanos Micros same = absurd (omega (arith, ap (λ (bytes : List ℕ). get_or bytes 0 0) same))
magic_once Big Big Micros Nanos same = absurd (omega (arith, ap (λ (bytes : List ℕ). get_or bytes 2 0) same))
magic_once Big Big Nanos Micros same = absurd (omega (arith, ap (λ (bytes : List ℕ). get_or bytes 2 0) same))
magic_once Little Big Micros Micros same = absurd (omega (arith, ap (λ (bytes : List ℕ). get_or bytes 0 0) same))
magic_once Little Big Micros Nanos same = absurd (omega (arith, ap (λ (bytes : List ℕ). get_or bytes 0 0) same))
magic_once Little Big Nanos Micros same = absurd (omega (arith, ap (λ (bytes : List ℕ). get_or bytes 0 0) same))
magic_once Little Big Nanos Nanos same = absurd (omega (arith, ap (λ (bytes : List ℕ). get_or bytes 0 0) same))
magic_once Big Little Micros Micros same = absurd (omega (arith, ap (λ (bytes : List ℕ). get_or bytes 0 0) same))
magic_once Big Little Micros Nanos same = absurd (omega (arith, ap (λ (bytes : List ℕ). get_or bytes 0 0) same))
magic_once Big Little Nanos Micros same = absurd (omega (arith, ap (λ (bytes : List ℕ). get_or bytes 0 0) same))
magic_once Big Little Nanos Nanos same = absurd (omega (arith, ap (λ (bytes : List ℕ). get_or bytes 0 0) same))

-- no text begins in two spellings
pub HasMagic-once : (bytes : List ℕ) (s t : Spelling) → HasMagic s bytes → HasMagic t bytes → s ≡ t
HasMagic-once bytes s t magic other =
    let same = magic_once s.endian t.endian s.unit t.unit (sym magic ∙ other) in
    spelling_same s t same.0 same.1

-- what stands behind an accepted header begins in the header's spelling
pub HasMagic-header : (spelling : Spelling) (header rest : List ℕ) → IsHeader spelling header → HasMagic spelling (header ++ rest)
HasMagic-header spelling header rest is = take-append-le 4 header rest (omega (arith, is.size)) ∙ is.magic

-- no two headers begin one text
pub one_header : (s t : Spelling) (a b c d : List ℕ) → IsHeader s a → IsHeader t b → a ++ c ≡ b ++ d → (s ≡ t) × (c ≡ d)
one_header s t a b c d is other text =
    let there : HasMagic t (a ++ c) = ap (take 4) text ∙ HasMagic-header t b d other in (
      HasMagic-once (a ++ c) s t (HasMagic-header s a c is) there,
      sym (drop_at a c 24 is.size) ∙ ap (drop 24) text ∙ drop_at b d 24 other.size,
    )

-- frames of the same values are the same
pub frame_same : (f g : Frame) → f.stamp.seconds ≡ g.stamp.seconds → f.stamp.nanos ≡ g.stamp.nanos → f.stamp.tail ≡ g.stamp.tail
    → f.packet ≡ g.packet → f ≡ g
frame_same f g seconds nanos tail packet =
    let frame : ℕ → ℕ → ℕ → List ℕ → Frame = λ s n t bytes. record { stamp = record { seconds = s; nanos = n; tail = t }; packet = bytes } in
    let same : frame f.stamp.seconds f.stamp.nanos f.stamp.tail f.packet ≡ frame g.stamp.seconds g.stamp.nanos g.stamp.tail g.packet =
    rw (seconds, nanos, tail, packet) refl in
    same

-- no two records of a spelling begin one text
pub one_record : (s : Spelling) (a b c d : List ℕ) (f g : Frame) → IsRecord s a f → IsRecord s b g → a ++ c ≡ b ++ d
    → (a ≡ b) × (f ≡ g) × (c ≡ d)
one_record s a b c d f g is other text =
    let left = number-append s.endian 4 8 a c (omega (arith, is.size)) in
    let right = number-append s.endian 4 8 b d (omega (arith, other.size)) in
    let count : length f.packet ≡ length g.packet =
    sym is.included ∙ sym left ∙ ap (number s.endian 4 8) text ∙ right ∙ other.included in
    let size : length b ≡ length a = omega (arith, is.size, other.size, count) in
    let same : a ≡ b = sym (take_at a c (length a) refl) ∙ ap (take (length a)) text ∙ take_at b d (length a) size in
    let seconds : f.stamp.seconds ≡ g.stamp.seconds = is.seconds ∙ ap (number s.endian 4 0) same ∙ sym other.seconds in
    let nanos : f.stamp.nanos ≡ g.stamp.nanos =
    is.nanos ∙ ap (λ t. in_nanos s.unit (number s.endian 4 4 t)) same ∙ sym other.nanos in
    let tail : f.stamp.tail ≡ g.stamp.tail =
    is.tail ∙ ap (λ t. number s.endian 4 12 t - number s.endian 4 8 t) same ∙ sym other.tail in
    let packet : f.packet ≡ g.packet = is.packet ∙ ap (drop 16) same ∙ sym other.packet in (
      same,
      frame_same f g seconds nanos tail packet,
      sym (drop_at a c (length a) refl) ∙ ap (drop (length a)) text ∙ drop_at b d (length a) size,
    )

-- a record isn't nothing
pub not_nothing : (s : Spelling) (text a c : List ℕ) (f : Frame) → text ≡ [] → text ≡ a ++ c → IsRecord s a f → ⊥
not_nothing s text a c f none text-is is =
    omega (arith, is.size, length-append a c, ap (length {A = ℕ}) (sym none ∙ text-is))

-- no text is the records of two lists of frames
pub records_once : (s : Spelling) (text : List ℕ) (xs ys : List Frame) → AreRecords s text xs → AreRecords s text ys → xs ≡ ys
records_once s text [] [] none nothing = refl
records_once s text [] (y ∷ ys) none (a, c, text-is, is, more) = absurd (not_nothing s text a c y none text-is is)
records_once s text (x ∷ xs) [] (a, c, text-is, is, more) none = absurd (not_nothing s text a c x none text-is is)
records_once s text (x ∷ xs) (y ∷ ys) (a, c, text-is, is, more) (b, d, other-is, other, others) =
    let same = one_record s a b c d x y is other (sym text-is ∙ other-is) in
    let there : AreRecords s c ys = subst (λ (t : List ℕ). AreRecords s t ys) (sym same.2) others in
    let tails : xs ≡ ys = records_once s c xs ys more there in
    let heads : x ≡ y = same.1 in
    cc

-- no text is the capture of two lists of frames
pub capture_once : (text : List ℕ) (xs ys : List Frame) → IsCapture text xs → IsCapture text ys → xs ≡ ys
capture_once text xs ys (s, (a, c, text-is, is, more)) (t, (b, d, other-is, other, others)) =
    let same = one_header s t a b c d is other (sym text-is ∙ other-is) in
    let P : List ℕ → Type 0 = λ u. AreRecords t u ys in
    let Q : Spelling → Type 0 = λ u. AreRecords u c ys in
    records_once s c xs ys more (subst Q (sym same.0) (subst P (sym same.1) others))
