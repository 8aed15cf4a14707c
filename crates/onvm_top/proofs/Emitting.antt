-- Capture texts that grow by a frame.
use Rattle.std.proofs.Common.{◌≡◌, ◌∙◌, sym, ap, subst, refl, ℕ, ◌+◌, ◌<◌, ◌≤◌, List, [], ◌∷◌, ◌++◌, append_assoc, length, take, drop, get_or, map, Option}
use Rattle.std.specs.List.{flat_map}
use Rattle.std.proofs.lemmas.Grind.{flat_map-append}
use Rattle.std.proofs.lemmas.List.{flat_map_more, take_more, take_all, drop_more, take-append-drop}
use Rattle.onvm_base.specs.declared.frame.SentFrame.{SentFrame}
use Rattle.onvm_host.specs.Deeds.{Amounts}
use Rattle.pcap_in.specs.Emitted.{emitted_frame, emitted_header}
use Rattle.onvm_top.specs.Accounts.{capture_text, frame_in}
use Rattle.onvm_top.specs.Put.{PutsAll, PutsPart}
use Rattle.onvm_top.proofs.Put.{PutsAll-append, PutsPart-first, PutsPart-second}

-- after a head and the pieces of some items, the next item's piece
pub PutsAll-flat_map_more : {X : Type 0} (a b c : Option (List ℕ)) (p q r : Amounts) (head : List ℕ)
    (piece : X → List ℕ) (items : List X) (i : ℕ) (x : X)
    → i < length items → x ≡ get_or items i x → PutsAll a b p q (head ++ flat_map piece (take i items))
    → PutsAll b c q r (piece x)
    → PutsAll a c p r (head ++ flat_map piece (take (i + 1) items))
PutsAll-flat_map_more {X} a b c p q r head piece items i x within is before next =
    let P : List ℕ → Type 0 = PutsAll a c p r in
    let more : take (i + 1) items ≡ take i items ++ x ∷ [] =
    take_more items i x within ∙ ap (λ (y : X). take i items ++ y ∷ []) (sym is) in
    subst P
    (flat_map_more piece head (take i items) x ∙ ap (λ t. head ++ flat_map piece t) (sym more))
    (PutsAll-append a b c p q r (head ++ flat_map piece (take i items)) (piece x) before next)

-- at the end, the pieces of all items
pub PutsAll-flat_map_all : {X : Type 0} (a b : Option (List ℕ)) (p q : Amounts) (head : List ℕ) (piece : X → List ℕ)
    (items all : List X) (i : ℕ)
    → length items ≤ i → items ≡ all → PutsAll a b p q (head ++ flat_map piece (take i items))
    → PutsAll a b p q (head ++ flat_map piece all)
PutsAll-flat_map_all {X} a b p q head piece items all i past is before =
    let P : List X → Type 0 = λ t. PutsAll a b p q (head ++ flat_map piece t) in
    subst P (take_all i items past ∙ is) before

-- pieces of some items and then a part of the next one's are a part of all
pub PutsPart-flat_map : {X : Type 0} (a b c : Option (List ℕ)) (p q r : Amounts) (head : List ℕ)
    (piece : X → List ℕ) (items all : List X) (i : ℕ) (x : X)
    → i < length items → x ≡ get_or items i x → items ≡ all → PutsAll a b p q (head ++ flat_map piece (take i items))
    → PutsPart b c q r (piece x)
    → PutsPart a c p r (head ++ flat_map piece all)
PutsPart-flat_map {X} a b c p q r head piece items all i x within is same before next =
    let P : List ℕ → Type 0 = PutsPart a c p r in
    let behind : List X = drop (i + 1) items in
    let rest : drop i items ≡ x ∷ behind = drop_more items i x within ∙ ap (λ (y : X). y ∷ behind) (sym is) in
    let parts : flat_map piece items ≡ flat_map piece (take i items) ++ (piece x ++ flat_map piece behind) =
    ap (flat_map piece) (sym (take-append-drop i items)) ∙ flat_map-append piece (take i items) (drop i items)
    ∙ ap (λ t. flat_map piece (take i items) ++ flat_map piece t) rest in
    let whole : (head ++ flat_map piece (take i items)) ++ (piece x ++ flat_map piece behind)
    ≡ head ++ flat_map piece all =
    append_assoc head (flat_map piece (take i items)) (piece x ++ flat_map piece behind)
    ∙ ap (λ t. head ++ t) (sym parts) ∙ ap (λ (t : List X). head ++ flat_map piece t) same in
    subst P whole
    (PutsPart-second a b c p q r (head ++ flat_map piece (take i items)) (piece x ++ flat_map piece behind) before
    (PutsPart-first b c q r (piece x) (flat_map piece behind) next))

-- a sent frame as its capture spells it
abbrev pub emitted_sent : SentFrame → List ℕ
emitted_sent sent = emitted_frame (frame_in sent)

emitted_map : (sent : List SentFrame) → flat_map emitted_frame (map frame_in sent) ≡ flat_map emitted_sent sent
emitted_map [] = refl
emitted_map (frame ∷ sent) = ap (λ t. emitted_sent frame ++ t) (emitted_map sent)

-- the capture text of sent frames, frame by frame
pub capture_text-each : (sent : List SentFrame) → emitted_header ++ flat_map emitted_sent sent ≡ capture_text sent
capture_text-each sent = ap (λ t. emitted_header ++ t) (sym (emitted_map sent))
