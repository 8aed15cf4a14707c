-- Each buffer is in one place.
use Rattle.std.proofs.Common.{◌≡◌, ℕ, ◌+◌, ◌*◌, ◌<◌, ◌≤◌, zero, suc, zero-add, Bool, true, false, inl, inr, List, [], ◌∷◌, ◌++◌, refl, sym, ◌∙◌, ap, subst, arith, Some, None}
use Rattle.std.specs.Prelude.{slice_get, if◌then◌else◌, ◌==◌, unwrap_or}
use Rattle.std.proofs.lemmas.Bool.{cases_Bool, eqb-true, eqb-false, eq-eqb, ne_eqb, cases_order}
use Rattle.onvm_base.specs.declared.ids.RingId.{RingId}
use Rattle.onvm_base.specs.declared.ids.RingId.TheVariants.{Lane, Output, Mail}
use Rattle.onvm_core.specs.declared.layout.Layout.{Layout}
use Rattle.onvm_core.specs.declared.step.Item.{Item}
use Rattle.onvm_core.specs.declared.step.Item.TheVariants.{Buffer, Number}
use Rattle.onvm_core.specs.declared.step.Act.{Act}
use Rattle.onvm_core.specs.declared.step.Act.TheVariants.{Take, Give, Push, Pop}
use Rattle.onvm_core.specs.declared.step.Step.{Step}
use Rattle.onvm_core.specs.declared.place.Place.{Place}
use Rattle.onvm_core.specs.declared.place.Place.TheVariants.{Pool, Ring, Role}
use Rattle.onvm_core.specs.Layouts.{same_ring, IsBuffer}
use Rattle.onvm_core.specs.History.{History, pushes, pops, content_of, place_of, place_by}
use Rattle.onvm_core.specs.Places.{numbers_below, without, one_if, how_many, times, pool_of, pool_after, held_buffers, held_buffers_after, is_of_buffer, same_place, one_if_at, StandsOnce}
use Rattle.onvm_base.specs.declared.ids.BufId.{BufId}
use Rattle.onvm_core.specs.declared.parcel.Parcel.{Parcel}
use Rattle.onvm_core.specs.Lawful.{AllowsAct, IsLawful, Suits}
use Rattle.onvm_core.proofs.Contents.{same_ring_is, content_moves}

-- a number is among the numbers below n just once where it is below n
none_below : (n buf : ℕ) → n ≤ buf → times buf (numbers_below n) ≡ 0
none_below zero buf le = refl
none_below (suc n) buf le =
    let apart : (n == buf) ≡ false = ne_eqb n buf (λ e. omega arith) in
    rw (apart, none_below n buf (omega arith)) refl

absurd_or : (n buf : ℕ) → (n ≡ buf → ⊥) → buf < suc n → buf < n
absurd_or n buf apart lt =
    elim (cases_order buf n) [
      | inl e ↦ absurd (apart (sym e))
      | inr (inl less) ↦ less
      | inr (inr more) ↦ absurd (omega arith)
    ]

once_below : (n buf : ℕ) → buf < n → times buf (numbers_below n) ≡ 1
once_below zero buf lt = absurd (omega arith)
once_below (suc n) buf lt =
    elim (cases_Bool (n == buf)) [
      | inl met ↦ let same : n ≡ buf = eqb-true n buf met in rw (met, none_below n buf (omega arith)) refl
      | inr unmet ↦ let apart : n ≡ buf → ⊥ = eqb-false n buf unmet in
          let less : buf < n = absurd_or n buf apart lt in
          rw (unmet, once_below n buf less) refl
    ]

times-without : (b buf : ℕ) (bufs : List ℕ) → times buf (without b bufs) ≡ (if b == buf then 0 else times buf bufs)
times-without b buf [] = elim (cases_Bool (b == buf)) [ inl met ↦ rw met refl | inr unmet ↦ rw unmet refl ]
times-without b buf (x ∷ xs) =
    let later : times buf (without b xs) ≡ (if b == buf then 0 else times buf xs) = times-without b buf xs in
    elim (cases_Bool (x == b)) [
      | inl met ↦ let same : x ≡ b = eqb-true x b met in
          elim (cases_Bool (b == buf)) [
            | inl hit ↦ rw (met, hit) (rw hit at later)
            | inr miss ↦ rw (met, miss, same, miss) (rw miss at later ∙ sym (zero-add (times buf xs)))
          ]
      | inr unmet ↦ elim (cases_Bool (b == buf)) [
        | inl hit ↦ let same : b ≡ buf = eqb-true b buf hit in
            let apart : (x == buf) ≡ false = subst (λ k. (x == k) ≡ false) same unmet in
            rw (unmet, hit, apart) (ap (λ n. 0 + n) (rw hit at later))
        | inr miss ↦ rw (unmet, miss) (ap (λ n. one_if (x == buf) + n) (rw miss at later))
      ]
    ]

pub how_many-append : {A : Type 0} (p : A → Bool) (xs ys : List A)
    → how_many p (xs ++ ys) ≡ how_many p xs + how_many p ys
how_many-append p [] ys = sym (zero-add (how_many p ys))
how_many-append p (x ∷ xs) ys = omega (arith, how_many-append p xs ys)

pub same_place_is : (p q : Place) → same_place p q ≡ true → p ≡ q
same_place_is Pool Pool e = refl
same_place_is (Ring q) (Ring r) e = ap Ring (same_ring_is q r e)
same_place_is there Pool e = cc
same_place_is there (Ring r) e = cc
same_place_is (Role m) (Role n) e = ap Role (eqb-true m n e)
same_place_is there (Role n) e = cc

pub some_once : (b : Bool) → 1 ≤ one_if b → b ≡ true
some_once true h = refl
some_once false h = absurd (omega arith)

-- where a buffer that an act names stood before
abbrev pub source : ℕ → Act → Place
source role (Take b) = Pool
source role (Pop ring item) = Ring ring
source role _ = Role role

pub suits_holder : (layout : Layout) (past : History) (role : ℕ) (ring : RingId) (b : BufId) (parcel : Parcel)
    → Suits layout past role ring (Buffer b parcel)
    → place_of b.0 past ≡ Role role
suits_holder layout past role (Lane f feeder) b parcel suits = suits.0.holder
suits_holder layout past role (Output f) b parcel suits = suits.0.holder
suits_holder layout past role (Mail f) b parcel suits = absurd suits

-- the first of a content is counted there
first_counts : (buf : ℕ) (items : List Item) (b : BufId) (parcel : Parcel)
    → slice_get items 0 ≡ Some (Buffer b parcel) → (b.0 == buf) ≡ true
    → 1 ≤ how_many (is_of_buffer buf) items
first_counts buf [] b parcel e hit = absurd (cc)
first_counts buf (x ∷ xs) b parcel e hit =
    let same : x ≡ Buffer b parcel = cc in
    rw (same, hit) (omega arith)

abbrev pub Moves : ℕ → ℕ → Act → Place → Type 0
Moves buf role act was = (there : Place) → place_by buf role act ≡ Some there → was ≡ source role act

origin : (layout : Layout) (before : History) (buf role : ℕ) (act : Act)
    → ((ring : RingId) → how_many (is_of_buffer buf) (content_of ring before) ≡ one_if_at (Ring ring) before buf)
    → AllowsAct layout before role act
    → Moves buf role act (place_of buf before)
origin layout before buf role (Take b) rings allowed there e =
    elim (cases_Bool (b.0 == buf)) [
      | inl hit ↦ subst (λ k. place_of k before ≡ Pool) (eqb-true b.0 buf hit) allowed.in_pool
      | inr miss ↦ absurd (let gone : None ≡ Some there = rw miss at e in cc)
    ]
origin layout before buf role (Give b outcome parcel) rings allowed there e =
    elim (cases_Bool (b.0 == buf)) [
      | inl hit ↦ subst (λ k. place_of k before ≡ Role role) (eqb-true b.0 buf hit) allowed.holds.holder
      | inr miss ↦ absurd (let gone : None ≡ Some there = rw miss at e in cc)
    ]
origin layout before buf role (Push ring (Buffer b parcel)) rings allowed there e =
    elim (cases_Bool (b.0 == buf)) [
      | inl hit ↦
          subst (λ k. place_of k before ≡ Role role) (eqb-true b.0 buf hit)
          (suits_holder layout before role ring b parcel allowed.suits)
      | inr miss ↦ absurd (let gone : None ≡ Some there = rw miss at e in cc)
    ]
origin layout before buf role (Pop ring (Buffer b parcel)) rings allowed there e =
    elim (cases_Bool (b.0 == buf)) [
      | inl hit ↦
          let some : 1 ≤ how_many (is_of_buffer buf) (content_of ring before) =
          first_counts buf (content_of ring before) b parcel allowed.first hit in
          same_place_is (place_of buf before) (Ring ring)
          (some_once (same_place (place_of buf before) (Ring ring)) (omega (arith, some, rings ring)))
      | inr miss ↦ absurd (let gone : None ≡ Some there = rw miss at e in cc)
    ]
origin layout before buf role act rings allowed there e = absurd (cc)

pool_step : (buf role : ℕ) (act : Act) (bufs : List ℕ) (was : Place)
    → Moves buf role act was → times buf bufs ≡ one_if (same_place was Pool)
    → times buf (pool_after act bufs) ≡ one_if (same_place (unwrap_or (place_by buf role act) was) Pool)
pool_step buf role (Take b) bufs was moves e =
    elim (cases_Bool (b.0 == buf)) [
      | inl hit ↦ rw (times-without b.0 buf bufs, hit) refl
      | inr miss ↦ rw (times-without b.0 buf bufs, miss) e
    ]
pool_step buf role (Give b outcome parcel) bufs was moves e =
    elim (cases_Bool (b.0 == buf)) [
      | inl hit ↦ let held_buffers : was ≡ Role role = moves Pool (rw hit refl) in
          let none : times buf bufs ≡ 0 = rw held_buffers at e in rw (hit, none) refl
      | inr miss ↦ rw (miss, zero-add) e
    ]
pool_step buf role (Push ring (Buffer b parcel)) bufs was moves e =
    elim (cases_Bool (b.0 == buf)) [
      | inl hit ↦ let held_buffers : was ≡ Role role = moves (Ring ring) (rw hit refl) in
          let none : times buf bufs ≡ 0 = rw held_buffers at e in rw (hit, none) refl
      | inr miss ↦ rw miss e
    ]
pool_step buf role (Pop ring (Buffer b parcel)) bufs was moves e =
    elim (cases_Bool (b.0 == buf)) [
      | inl hit ↦ let stood : was ≡ Ring ring = moves (Role role) (rw hit refl) in
          let none : times buf bufs ≡ 0 = rw stood at e in rw (hit, none) refl
      | inr miss ↦ rw miss e
    ]
pool_step buf role act bufs was moves e = e

-- a ring gains the buffer where it is pushed, and loses it where it is popped
ring_balance : (buf role : ℕ) (ring : RingId) (act : Act) (was : Place) → Moves buf role act was
    → one_if (same_place (unwrap_or (place_by buf role act) was) (Ring ring))
    + how_many (is_of_buffer buf) (pops ring act)
    ≡ one_if (same_place was (Ring ring)) + how_many (is_of_buffer buf) (pushes ring act)
ring_balance buf role ring (Take b) was moves =
    elim (cases_Bool (b.0 == buf)) [
      | inl hit ↦ let stood : was ≡ Pool = moves (Role role) (rw hit refl) in rw (hit, stood) refl
      | inr miss ↦ rw miss refl
    ]
ring_balance buf role ring (Give b outcome parcel) was moves =
    elim (cases_Bool (b.0 == buf)) [
      | inl hit ↦ let stood : was ≡ Role role = moves Pool (rw hit refl) in rw (hit, stood) refl
      | inr miss ↦ rw miss refl
    ]
ring_balance buf role ring (Push r (Buffer b parcel)) was moves =
    elim (cases_Bool (b.0 == buf)) [
      | inl hit ↦ let stood : was ≡ Role role = moves (Ring r) (rw hit refl) in
          elim (cases_Bool (same_ring r ring)) [
            | inl met ↦ rw (hit, stood, met, hit) refl
            | inr unmet ↦ rw (hit, stood, unmet) refl
          ]
      | inr miss ↦
          elim (cases_Bool (same_ring r ring)) [
            | inl met ↦ rw (miss, met, miss) refl
            | inr unmet ↦ rw (miss, unmet) refl
          ]
    ]
ring_balance buf role ring (Push r (Number n)) was moves =
    elim (cases_Bool (same_ring r ring)) [ inl met ↦ rw met refl | inr unmet ↦ rw unmet refl ]
ring_balance buf role ring (Pop r (Buffer b parcel)) was moves =
    elim (cases_Bool (b.0 == buf)) [
      | inl hit ↦ let stood : was ≡ Ring r = moves (Role role) (rw hit refl) in
          elim (cases_Bool (same_ring r ring)) [
            | inl met ↦ rw (hit, stood, met, hit) refl
            | inr unmet ↦ rw (hit, stood, unmet) refl
          ]
      | inr miss ↦
          elim (cases_Bool (same_ring r ring)) [
            | inl met ↦ rw (miss, met, miss) refl
            | inr unmet ↦ rw (miss, unmet) refl
          ]
    ]
ring_balance buf role ring (Pop r (Number n)) was moves =
    elim (cases_Bool (same_ring r ring)) [ inl met ↦ rw met refl | inr unmet ↦ rw unmet refl ]
ring_balance buf role ring act was moves = refl

content_counts : (layout : Layout) (buf : ℕ) (ring : RingId) (step : Step) (before : History)
    → IsLawful layout (step ∷ before)
    → how_many (is_of_buffer buf) (content_of ring (step ∷ before)) + how_many (is_of_buffer buf) (pops ring step.act)
    ≡ how_many (is_of_buffer buf) (content_of ring before) + how_many (is_of_buffer buf) (pushes ring step.act)
content_counts layout buf ring step before lawful =
    let split : pops ring step.act ++ content_of ring (step ∷ before) ≡ content_of ring before ++ pushes ring step.act
    = content_moves layout ring step before lawful in
    let test : Item → Bool = is_of_buffer buf in
    let one : how_many test (pops ring step.act ++ content_of ring (step ∷ before))
    ≡ how_many test (pops ring step.act) + how_many test (content_of ring (step ∷ before))
    = how_many-append test (pops ring step.act) (content_of ring (step ∷ before)) in
    let two : how_many test (content_of ring before ++ pushes ring step.act)
    ≡ how_many test (content_of ring before) + how_many test (pushes ring step.act)
    = how_many-append test (content_of ring before) (pushes ring step.act) in
    omega (arith, one, two, ap (how_many test) split)

-- what the acting role holds
own_hands : (buf role : ℕ) (act : Act) (bufs : List ℕ) (was : Place)
    → Moves buf role act was → times buf bufs ≡ one_if (same_place was (Role role))
    → times buf (held_buffers_after act bufs) ≡ one_if (same_place (unwrap_or (place_by buf role act) was) (Role role))
own_hands buf role (Take b) bufs was moves e =
    elim (cases_Bool (b.0 == buf)) [
      | inl hit ↦ let stood : was ≡ Pool = moves (Role role) (rw hit refl) in
          let none : times buf bufs ≡ 0 = rw stood at e in rw (hit, none, eq-eqb role role refl) refl
      | inr miss ↦ rw (miss, zero-add) e
    ]
own_hands buf role (Give b outcome parcel) bufs was moves e =
    elim (cases_Bool (b.0 == buf)) [
      | inl hit ↦ rw (times-without b.0 buf bufs, hit) refl
      | inr miss ↦ rw (times-without b.0 buf bufs, miss) e
    ]
own_hands buf role (Push r (Buffer b parcel)) bufs was moves e =
    elim (cases_Bool (b.0 == buf)) [
      | inl hit ↦ rw (times-without b.0 buf bufs, hit) refl
      | inr miss ↦ rw (times-without b.0 buf bufs, miss) e
    ]
own_hands buf role (Pop r (Buffer b parcel)) bufs was moves e =
    elim (cases_Bool (b.0 == buf)) [
      | inl hit ↦ let stood : was ≡ Ring r = moves (Role role) (rw hit refl) in
          let none : times buf bufs ≡ 0 = rw stood at e in rw (hit, none, eq-eqb role role refl) refl
      | inr miss ↦ rw (miss, zero-add) e
    ]
own_hands buf role act bufs was moves e = e

-- an act changes nothing of what another role holds
other_hands : (buf role other : ℕ) (act : Act) (was : Place) → (role == other) ≡ false → Moves buf role act was
    → one_if (same_place was (Role other)) ≡ one_if (same_place (unwrap_or (place_by buf role act) was) (Role other))
other_hands buf role other (Take b) was apart moves =
    elim (cases_Bool (b.0 == buf)) [
      | inl hit ↦ let stood : was ≡ Pool = moves (Role role) (rw hit refl) in rw (hit, stood, apart) refl
      | inr miss ↦ rw miss refl
    ]
other_hands buf role other (Give b outcome parcel) was apart moves =
    elim (cases_Bool (b.0 == buf)) [
      | inl hit ↦ let stood : was ≡ Role role = moves Pool (rw hit refl) in rw (hit, stood, apart) refl
      | inr miss ↦ rw miss refl
    ]
other_hands buf role other (Push r (Buffer b parcel)) was apart moves =
    elim (cases_Bool (b.0 == buf)) [
      | inl hit ↦ let stood : was ≡ Role role = moves (Ring r) (rw hit refl) in rw (hit, stood, apart) refl
      | inr miss ↦ rw miss refl
    ]
other_hands buf role other (Pop r (Buffer b parcel)) was apart moves =
    elim (cases_Bool (b.0 == buf)) [
      | inl hit ↦ let stood : was ≡ Ring r = moves (Role role) (rw hit refl) in rw (hit, stood, apart) refl
      | inr miss ↦ rw miss refl
    ]
other_hands buf role other act was apart moves = refl

hands_step : (buf : ℕ) (step : Step) (before : History) (other : ℕ)
    → Moves buf step.role step.act (place_of buf before)
    → times buf (held_buffers other before) ≡ one_if_at (Role other) before buf
    → times buf (held_buffers other (step ∷ before)) ≡ one_if_at (Role other) (step ∷ before) buf
hands_step buf step before other moves e =
    elim (cases_Bool (step.role == other)) [
      | inl mine ↦ let same : step.role ≡ other = eqb-true step.role other mine in
          let e_mine : times buf (held_buffers other before)
          ≡ one_if (same_place (place_of buf before) (Role step.role))
          = e ∙ ap (λ k. one_if (same_place (place_of buf before) (Role k))) (sym same) in
          rw mine (own_hands buf step.role step.act (held_buffers other before) (place_of buf before) moves e_mine
          ∙ ap (λ k. one_if (same_place (unwrap_or (place_by buf step.role step.act) (place_of buf before))
          (Role k))) same)
      | inr foreign ↦ rw foreign (e ∙ other_hands buf step.role other step.act (place_of buf before) foreign moves)
    ]

-- the same of rings, also for numbers that no buffer has
pub in_ring_once : (layout : Layout) (past : History) → IsLawful layout past → (buf : ℕ) (ring : RingId)
    → how_many (is_of_buffer buf) (content_of ring past) ≡ one_if_at (Ring ring) past buf
in_ring_once layout [] lawful buf ring = refl
in_ring_once layout (step ∷ before) lawful buf ring =
    let earlier : (r : RingId) → how_many (is_of_buffer buf) (content_of r before) ≡ one_if_at (Ring r) before buf =
    λ r. in_ring_once layout before lawful.1 buf r in
    let moves : Moves buf step.role step.act (place_of buf before) =
    origin layout before buf step.role step.act earlier lawful.0.allowed in
    let rest : how_many (is_of_buffer buf) (content_of ring (step ∷ before))
    + how_many (is_of_buffer buf) (pops ring step.act)
    ≡ how_many (is_of_buffer buf) (content_of ring before) + how_many (is_of_buffer buf) (pushes ring step.act)
    = content_counts layout buf ring step before lawful in
    omega (arith, rest, earlier ring, ring_balance buf step.role ring step.act (place_of buf before) moves)

-- where a buffer that a step names stood before
pub named_from : (layout : Layout) (step : Step) (before : History) → IsLawful layout (step ∷ before) → (buf : ℕ)
    → Moves buf step.role step.act (place_of buf before)
named_from layout step before lawful buf =
    origin layout before buf step.role step.act (in_ring_once layout before lawful.1 buf) lawful.0.allowed

pub stands_once : (layout : Layout) (past : History) → IsLawful layout past → (buf : ℕ) → IsBuffer layout buf
    → StandsOnce layout past buf
stands_once layout [] lawful buf known = record {
  in_pool = once_below (layout.ports * layout.buffers) buf known;
  in_ring = λ ring. refl;
  in_hands = λ role. refl;
}
stands_once layout (step ∷ before) lawful buf known =
    let earlier : StandsOnce layout before buf = stands_once layout before lawful.1 buf known in
    let moves : Moves buf step.role step.act (place_of buf before) =
    origin layout before buf step.role step.act earlier.in_ring lawful.0.allowed in
    record {
      in_pool = pool_step buf step.role step.act (pool_of layout before) (place_of buf before) moves earlier.in_pool;
      in_ring =
          λ ring.
          let rest : how_many (is_of_buffer buf) (content_of ring (step ∷ before))
          + how_many (is_of_buffer buf) (pops ring step.act)
          ≡ how_many (is_of_buffer buf) (content_of ring before) + how_many (is_of_buffer buf) (pushes ring step.act)
          = content_counts layout buf ring step before lawful in
          omega (
            arith,
            rest,
            earlier.in_ring ring,
            ring_balance buf step.role ring step.act (place_of buf before) moves,
          );
      in_hands = λ role. hands_step buf step before role moves (earlier.in_hands role);
    }
