-- What stands in a ring is of the ring's kind.
use Rattle.std.proofs.Common.{◌≡◌, ℕ, ◌<◌, true, inl, inr, [], ◌∷◌, sym, refl, subst, arith}
use Rattle.std.proofs.lemmas.Bool.{cases_Bool, eq-eqb}
use Rattle.onvm_base.specs.declared.ids.RingId.{RingId}
use Rattle.onvm_base.specs.declared.ids.RingId.TheVariants.{Lane, Output, Mail}
use Rattle.onvm_core.specs.declared.layout.Layout.{Layout}
use Rattle.onvm_core.specs.declared.step.Item.{Item}
use Rattle.onvm_core.specs.declared.step.Item.TheVariants.{Buffer, Number}
use Rattle.onvm_core.specs.declared.step.Act.{Act}
use Rattle.onvm_core.specs.declared.step.Act.TheVariants.{Split, Join, Take, Give, Push, Full, Pop, Empty, Look, Post}
use Rattle.onvm_core.specs.Layouts.{same_ring, IsBuffer}
use Rattle.onvm_core.specs.History.{History, pushes, pops, content_of}
use Rattle.onvm_core.specs.Lawful.{AllowsAct, IsLawful, Suits}
use Rattle.onvm_core.proofs.Contents.{same_ring_is, content_moves}
use Rattle.onvm_core.proofs.Loads.{Each, Each-append, Each_right}
use Rattle.onvm_core.specs.Words.{number_of}
use Rattle.onvm_board.specs.Rule.{HasNonzeroMail, HaveNonzeroMail, FitsRing}

-- an item that this ring may hold
abbrev pub IsSound : Layout → RingId → Item → Type 0
IsSound layout (Lane f feeder) (Buffer b parcel) = IsBuffer layout b.0 × FitsRing (Lane f feeder) parcel
IsSound layout (Output f) (Buffer b parcel) = IsBuffer layout b.0 × FitsRing (Output f) parcel
IsSound layout (Mail f) (Buffer b parcel) = ⊥
IsSound layout (Lane f feeder) (Number n) = ⊥
IsSound layout (Output f) (Number n) = ⊥
IsSound layout (Mail f) (Number n) = 0 < n

suits_sound : (layout : Layout) (past : History) (role : ℕ) (ring : RingId) (item : Item)
    → Suits layout past role ring item → HasNonzeroMail (Push ring item) → IsSound layout ring item
suits_sound layout past role (Lane f feeder) (Buffer b parcel) suits marked = (suits.0.known, suits.1)
suits_sound layout past role (Output f) (Buffer b parcel) suits marked = (suits.0.known, (suits.1, suits.2))
suits_sound layout past role (Mail f) (Buffer b parcel) suits marked = absurd suits
suits_sound layout past role (Lane f feeder) (Number n) suits marked = absurd suits
suits_sound layout past role (Output f) (Number n) suits marked = absurd suits
suits_sound layout past role (Mail f) (Number n) suits marked = marked

pushes_sound : (layout : Layout) (before : History) (role : ℕ) (act : Act) (ring : RingId)
    → AllowsAct layout before role act → HasNonzeroMail act → Each (IsSound layout ring) (pushes ring act)
pushes_sound layout before role (Push r item) ring allowed marked =
    elim (cases_Bool (same_ring r ring)) [
      | inl met ↦ let same : r ≡ ring = same_ring_is r ring met in
          rw met (
            subst (λ s. IsSound layout s item) same
                (suits_sound layout before role r item allowed.suits marked),
            tt,
          )
      | inr unmet ↦ rw unmet tt
    ]
pushes_sound layout before role (Split a) ring allowed marked = tt
pushes_sound layout before role (Join a) ring allowed marked = tt
pushes_sound layout before role (Take a) ring allowed marked = tt
pushes_sound layout before role (Give a b c) ring allowed marked = tt
pushes_sound layout before role (Pop a b) ring allowed marked = tt
pushes_sound layout before role (Full a) ring allowed marked = tt
pushes_sound layout before role (Empty a) ring allowed marked = tt
pushes_sound layout before role (Look a b c) ring allowed marked = tt
pushes_sound layout before role (Post a b) ring allowed marked = tt

pub content_sound : (layout : Layout) (past : History) → IsLawful layout past → HaveNonzeroMail past → (ring : RingId)
    → Each (IsSound layout ring) (content_of ring past)
content_sound layout [] lawful marked ring = tt
content_sound layout (step ∷ before) lawful marked ring =
    let earlier : Each (IsSound layout ring) (content_of ring before) =
    content_sound layout before lawful.1 marked.1 ring in
    let more : Each (IsSound layout ring) (pushes ring step.act) =
    pushes_sound layout before step.role step.act ring lawful.0.allowed marked.0 in
    Each_right (IsSound layout ring) (pops ring step.act) (content_of ring (step ∷ before))
    (subst (Each (IsSound layout ring)) (sym (content_moves layout ring step before lawful))
    (Each-append (IsSound layout ring) (content_of ring before) (pushes ring step.act) earlier more))

-- no item shows 0
pub sound_number : (layout : Layout) (ring : RingId) (item : Item) → IsSound layout ring item → 0 < number_of item
sound_number layout (Lane f feeder) (Buffer b parcel) sound = omega arith
sound_number layout (Output f) (Buffer b parcel) sound = omega arith
sound_number layout (Mail f) (Buffer b parcel) sound = absurd sound
sound_number layout (Lane f feeder) (Number n) sound = absurd sound
sound_number layout (Output f) (Number n) sound = absurd sound
sound_number layout (Mail f) (Number n) sound = sound

pub same_ring_one : (ring : RingId) → same_ring ring ring ≡ true
same_ring_one (Lane f feeder) = rw (eq-eqb f.0 f.0 refl, eq-eqb feeder feeder refl) refl
same_ring_one (Output f) = eq-eqb f.0 f.0 refl
same_ring_one (Mail f) = eq-eqb f.0 f.0 refl
