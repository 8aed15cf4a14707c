-- What a ring has by the logs of its two ends, and what its content weighs.
use Rattle.std.proofs.Common.{◌≡◌, ℕ, ◌+◌, ◌*◌, ◌<◌, Bool, true, false, inl, inr, List, [], ◌∷◌, ◌++◌, length, drop, refl, sym, ◌∙◌, ap, subst, arith}
use Rattle.std.specs.Prelude.{◌==◌, unwrap_or}
use Rattle.std.proofs.lemmas.Bool.{cases_Bool, eqb-true, eqb-false}
use Rattle.std.proofs.lemmas.List.{append-nil}
use Rattle.onvm_base.specs.declared.ids.RingId.{RingId}
use Rattle.onvm_base.specs.declared.ids.RingId.TheVariants.{Lane, Output, Mail}
use Rattle.onvm_base.specs.declared.ids.BufId.{BufId}
use Rattle.onvm_core.specs.declared.layout.Layout.{Layout}
use Rattle.onvm_core.specs.declared.parcel.Parcel.{Parcel}
use Rattle.onvm_core.specs.declared.step.Item.{Item}
use Rattle.onvm_core.specs.declared.step.Item.TheVariants.{Buffer, Number}
use Rattle.onvm_core.specs.declared.step.Act.{Act}
use Rattle.onvm_core.specs.declared.step.Act.TheVariants.{Take, Give, Push, Pop}
use Rattle.onvm_core.specs.declared.place.Place.{Place}
use Rattle.onvm_core.specs.declared.place.Place.TheVariants.{Pool, Ring, Role}
use Rattle.onvm_core.specs.Layouts.{same_ring, producer, consumer, IsBuffer, IsRing}
use Rattle.onvm_core.specs.History.{History, pushes, pops, pushed_on, popped_from, content_of, place_of, place_by}
use Rattle.onvm_core.specs.Lawful.{AllowsAct, IsLawful, Suits}
use Rattle.onvm_core.specs.Places.{is_of_buffer, how_many, one_if, same_place}
use Rattle.onvm_core.specs.Logs.{Setting, log_of}
use Rattle.onvm_core.specs.Frames.{load}
use Rattle.onvm_core.specs.Potential.{sum_below, hops_left, load_potential, place_potential, pushed_in, popped_in, content_in, items_potential, ring_potential}
use Rattle.onvm_core.proofs.Contents.{same_ring_is}
use Rattle.onvm_core.proofs.Once.{in_ring_once}
use Rattle.onvm_core.proofs.Loads.{Each, Each_map, Each_both, IsAt, IsLoaded, content_at, content_loaded, first_of}
use Rattle.onvm_core.proofs.Sums.{pick, sum_same, sum_none, sum_plus, sum_pick}

-- The ends of a ring

-- only its producer pushes on a ring
pub no_push : (layout : Layout) (before : History) (role finish : ℕ) (act : Act) (ring : RingId)
    → AllowsAct layout before role act → producer layout ring ≡ finish → (role == finish) ≡ false
    → pushes ring act ≡ []
no_push layout before role finish (Push r item) ring allowed at apart =
    elim (cases_Bool (same_ring r ring)) [
      | inl met ↦ let same : r ≡ ring = same_ring_is r ring met in
          absurd (eqb-false role finish apart (allowed.own_end ∙ ap (producer layout) same ∙ at))
      | inr unmet ↦ rw unmet refl
    ]
no_push layout before role finish act ring allowed at apart = refl

-- only its consumer pops from a ring
no_pop_from : (layout : Layout) (before : History) (role finish : ℕ) (act : Act) (ring : RingId)
    → AllowsAct layout before role act → consumer layout ring ≡ finish → (role == finish) ≡ false
    → pops ring act ≡ []
no_pop_from layout before role finish (Pop r item) ring allowed at apart =
    elim (cases_Bool (same_ring r ring)) [
      | inl met ↦ let same : r ≡ ring = same_ring_is r ring met in
          absurd (eqb-false role finish apart (allowed.own_end ∙ ap (consumer layout) same ∙ at))
      | inr unmet ↦ rw unmet refl
    ]
no_pop_from layout before role finish act ring allowed at apart = refl

pushed_logged : (layout : Layout) (past : History) (ring : RingId) (finish : ℕ)
    → IsLawful layout past → producer layout ring ≡ finish
    → pushed_on ring past ≡ pushed_in ring (log_of finish past)
pushed_logged layout [] ring finish lawful at = refl
pushed_logged layout (step ∷ before) ring finish lawful at =
    let earlier : pushed_on ring before ≡ pushed_in ring (log_of finish before) =
    pushed_logged layout before ring finish lawful.1 at in
    elim (cases_Bool (step.role == finish)) [
      | inl mine ↦ rw mine (ap (λ (items : List Item). items ++ pushes ring step.act) earlier)
      | inr foreign ↦
          rw (foreign, no_push layout before step.role finish step.act ring lawful.0.allowed at foreign, append-nil)
          earlier
    ]

popped_logged : (layout : Layout) (past : History) (ring : RingId) (finish : ℕ)
    → IsLawful layout past → consumer layout ring ≡ finish
    → popped_from ring past ≡ popped_in ring (log_of finish past)
popped_logged layout [] ring finish lawful at = refl
popped_logged layout (step ∷ before) ring finish lawful at =
    let earlier : popped_from ring before ≡ popped_in ring (log_of finish before) =
    popped_logged layout before ring finish lawful.1 at in
    elim (cases_Bool (step.role == finish)) [
      | inl mine ↦ rw mine (ap (λ (items : List Item). items ++ pops ring step.act) earlier)
      | inr foreign ↦
          rw (foreign, no_pop_from layout before step.role finish step.act ring lawful.0.allowed at foreign, append-nil)
          earlier
    ]

-- the content of a ring is what the logs of its two ends say
pub content_logged : (layout : Layout) (past : History) → IsLawful layout past → (ring : RingId)
    → content_of ring past ≡ content_in layout (λ role. log_of role past) ring
content_logged layout past lawful ring =
    ap (λ (items : List Item). drop (length (popped_from ring past)) items)
    (pushed_logged layout past ring (producer layout ring) lawful refl)
    ∙ ap (λ (items : List Item). drop (length items) (pushed_in ring (log_of (producer layout ring) past)))
    (popped_logged layout past ring (consumer layout ring) lawful refl)

-- What is outside the pool is a buffer of the layout, and no buffer is in a mail ring

abbrev pub Known : Layout → ℕ → Place → Type 0
Known layout buf Pool = Unit {0}
Known layout buf (Ring (Lane f feeder)) = IsBuffer layout buf × IsRing layout (Lane f feeder)
Known layout buf (Ring (Output f)) = IsBuffer layout buf × IsRing layout (Output f)
Known layout buf (Ring (Mail f)) = ⊥
Known layout buf (Role role) = IsBuffer layout buf

pub ring_known : (layout : Layout) (buf : ℕ) (ring : RingId) → Known layout buf (Ring ring) → IsBuffer layout buf
ring_known layout buf (Lane f feeder) known = known.0
ring_known layout buf (Output f) known = known.0
ring_known layout buf (Mail f) known = absurd known

suits_known : (layout : Layout) (before : History) (role : ℕ) (ring : RingId) (b : BufId) (parcel : Parcel)
    → IsRing layout ring → Suits layout before role ring (Buffer b parcel)
    → Known layout b.0 (Ring ring)
suits_known layout before role (Lane f feeder) b parcel ring suits = (suits.0.known, ring)
suits_known layout before role (Output f) b parcel ring suits = (suits.0.known, ring)
suits_known layout before role (Mail f) b parcel ring suits = absurd suits

known_step : (layout : Layout) (before : History) (buf role : ℕ) (act : Act) (was : Place)
    → AllowsAct layout before role act
    → ((r : RingId) (b : BufId) (parcel : Parcel) → act ≡ Pop r (Buffer b parcel) → IsBuffer layout b.0)
    → Known layout buf was
    → Known layout buf (unwrap_or (place_by buf role act) was)
known_step layout before buf role (Take b) was allowed popped earlier =
    elim (cases_Bool (b.0 == buf)) [
      | inl hit ↦ rw hit (subst (IsBuffer layout) (eqb-true b.0 buf hit) allowed.known)
      | inr miss ↦ rw miss earlier
    ]
known_step layout before buf role (Give b outcome parcel) was allowed popped earlier =
    elim (cases_Bool (b.0 == buf)) [ inl hit ↦ rw hit tt | inr miss ↦ rw miss earlier ]
known_step layout before buf role (Push r (Buffer b parcel)) was allowed popped earlier =
    elim (cases_Bool (b.0 == buf)) [
      | inl hit ↦
          rw hit (subst (λ k. Known layout k (Ring r)) (eqb-true b.0 buf hit)
          (suits_known layout before role r b parcel allowed.known allowed.suits))
      | inr miss ↦ rw miss earlier
    ]
known_step layout before buf role (Pop r (Buffer b parcel)) was allowed popped earlier =
    elim (cases_Bool (b.0 == buf)) [
      | inl hit ↦ rw hit (subst (IsBuffer layout) (eqb-true b.0 buf hit) (popped r b parcel refl))
      | inr miss ↦ rw miss earlier
    ]
known_step layout before buf role act was allowed popped earlier = earlier

popped_known : (layout : Layout) (before : History) (role : ℕ) (act : Act)
    → IsLawful layout before → AllowsAct layout before role act → ((buf : ℕ) → Known layout buf (place_of buf before))
    → (r : RingId) (b : BufId) (parcel : Parcel) → act ≡ Pop r (Buffer b parcel)
    → IsBuffer layout b.0
popped_known layout before role act lawful allowed earlier r b parcel e =
    let pop : AllowsAct layout before role (Pop r (Buffer b parcel)) = subst (AllowsAct layout before role) e allowed in
    let at : IsAt r before (Buffer b parcel) =
    first_of (IsAt r before) (content_of r before) (Buffer b parcel) pop.first (content_at layout before lawful r) in
    ring_known layout b.0 r (subst (Known layout b.0) at (earlier b.0))

pub place_known : (layout : Layout) (past : History) → IsLawful layout past → (buf : ℕ)
    → Known layout buf (place_of buf past)
place_known layout [] lawful buf = tt
place_known layout (step ∷ before) lawful buf =
    known_step layout before buf step.role step.act (place_of buf before) lawful.0.allowed
    (popped_known layout before step.role step.act lawful.1 lawful.0.allowed (place_known layout before lawful.1))
    (place_known layout before lawful.1 buf)

-- The weight of a content

-- a buffer's number for each time that it is among the items
abbrev items_at : (ℕ → ℕ) → List Item → ℕ → ℕ
items_at g [] buf = 0
items_at g (item ∷ items) buf = pick (is_of_buffer buf item) (g buf) + items_at g items buf

items_none : (g : ℕ → ℕ) (items : List Item) (buf : ℕ) → how_many (is_of_buffer buf) items ≡ 0
    → items_at g items buf ≡ 0
items_none g [] buf none = refl
items_none g (item ∷ items) buf none =
    elim (cases_Bool (is_of_buffer buf item)) [
      | inl met ↦ let off : 1 + how_many (is_of_buffer buf) items ≡ 0 = rw met at none in absurd (omega (arith, off))
      | inr unmet ↦
          let later : 0 + how_many (is_of_buffer buf) items ≡ 0 = rw unmet at none in
          rw unmet (omega (arith, items_none g items buf (omega (arith, later))))
    ]

items_once : (g : ℕ → ℕ) (items : List Item) (buf : ℕ) (b : Bool) → how_many (is_of_buffer buf) items ≡ one_if b
    → items_at g items buf ≡ pick b (g buf)
items_once g items buf false once = items_none g items buf once
items_once g [] buf true once = absurd (omega (arith, once))
items_once g (item ∷ items) buf true once =
    elim (cases_Bool (is_of_buffer buf item)) [
      | inl met ↦
          let one : 1 + how_many (is_of_buffer buf) items ≡ 1 = rw met at once in
          rw met (omega (arith, items_none g items buf (omega (arith, one))))
      | inr unmet ↦
          let later : 0 + how_many (is_of_buffer buf) items ≡ 1 = rw unmet at once in
          rw unmet (omega (arith, items_once g items buf true (omega (arith, later))))
    ]

-- what the sum over buffers has for an item
abbrev Weighs : (ℕ → ℕ) → Layout → RingId → ℕ → Item → Type 0
Weighs g layout ring n (Buffer b parcel) = (b.0 < n) × (g b.0 ≡ place_potential layout (Ring ring) (hops_left parcel))
Weighs g layout ring n (Number m) = Unit {0}

items_weigh : (g : ℕ → ℕ) (layout : Layout) (ring : RingId) (n : ℕ) (items : List Item)
    → Each (Weighs g layout ring n) items
    → sum_below (items_at g items) n ≡ items_potential layout ring items
items_weigh g layout ring n [] each = sum_none (items_at g []) n (λ k less. refl)
items_weigh g layout ring n (Buffer b parcel ∷ items) each =
    let apart : sum_below (items_at g (Buffer b parcel ∷ items)) n
    ≡ sum_below (λ k. pick (b.0 == k) (g k) + items_at g items k) n
    = sum_same (items_at g (Buffer b parcel ∷ items)) (λ k. pick (b.0 == k) (g k) + items_at g items k) n
    (λ k less. refl) in
    omega (
      arith,
      apart,
      sum_plus (λ k. pick (b.0 == k) (g k)) (items_at g items) n,
      sum_pick g b.0 n each.0.0,
      each.0.1,
      items_weigh g layout ring n items each.1,
    )
items_weigh g layout ring n (Number m ∷ items) each =
    let same : sum_below (items_at g (Number m ∷ items)) n ≡ sum_below (items_at g items) n =
    sum_same (items_at g (Number m ∷ items)) (items_at g items) n (λ k less. omega arith) in
    omega (arith, same, items_weigh g layout ring n items each.1)

-- what a buffer weighs where it is
abbrev pub heft : Setting → History → ℕ → ℕ
heft setting past buf = load_potential setting.layout (place_of buf past) (load setting buf past)

-- what the buffers at a place weigh together
abbrev pub weight_there : Setting → History → Place → ℕ
weight_there setting past there =
    sum_below (λ buf. pick (same_place (place_of buf past) there) (heft setting past buf))
    (setting.layout.ports * setting.layout.buffers)

item_weighs : (setting : Setting) (past : History) (ring : RingId)
    → IsLawful setting.layout past → (item : Item) → IsAt ring past item × IsLoaded setting past item
    → Weighs (heft setting past) setting.layout ring (setting.layout.ports * setting.layout.buffers) item
item_weighs setting past ring lawful (Buffer b parcel) h = (
  ring_known setting.layout b.0 ring
      (subst (Known setting.layout b.0) h.0 (place_known setting.layout past lawful b.0)),
  rw (h.0, h.1) refl,
)
item_weighs setting past ring lawful (Number m) h = tt

-- the buffers whose place is a ring weigh as its content by the logs
pub ring_weighs : (setting : Setting) (past : History) → IsLawful setting.layout past → (ring : RingId)
    → weight_there setting past (Ring ring) ≡ ring_potential setting (λ role. log_of role past) ring
ring_weighs setting past lawful ring =
    let each : Each (Weighs (heft setting past) setting.layout ring (setting.layout.ports * setting.layout.buffers))
    (content_of ring past)
    = Each_map (λ item. IsAt ring past item × IsLoaded setting past item)
    (Weighs (heft setting past) setting.layout ring (setting.layout.ports * setting.layout.buffers))
    (content_of ring past)
    (item_weighs setting past ring lawful)
    (Each_both (IsAt ring past) (IsLoaded setting past) (content_of ring past)
    (content_at setting.layout past lawful ring) (content_loaded setting past lawful ring)) in
    sum_same (λ buf. pick (same_place (place_of buf past) (Ring ring)) (heft setting past buf))
    (items_at (heft setting past) (content_of ring past)) (setting.layout.ports * setting.layout.buffers)
    (λ buf less.
    sym (items_once (heft setting past) (content_of ring past) buf (same_place (place_of buf past) (Ring ring))
    (in_ring_once setting.layout past lawful buf ring)))
    ∙ items_weigh (heft setting past) setting.layout ring (setting.layout.ports * setting.layout.buffers)
    (content_of ring past) each
    ∙ ap (items_potential setting.layout ring) (content_logged setting.layout past lawful ring)
