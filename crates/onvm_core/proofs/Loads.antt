-- What is in a buffer is what its holder's log, or its ring, says.
use Rattle.std.proofs.Common.{◌≡◌, ℕ, ◌≤◌, true, false, ◌⊎◌, inl, inr, List, [], ◌∷◌, ◌++◌, refl, sym, ◌∙◌, ap, subst, arith, Option, Some, None}
use Rattle.std.specs.Prelude.{slice_get, ◌==◌, unwrap_or}
use Rattle.std.proofs.lemmas.Bool.{cases_Bool, eqb-true, eqb-false, eq-eqb}
use Rattle.onvm_base.specs.declared.ids.RingId.{RingId}
use Rattle.onvm_base.specs.declared.ids.BufId.{BufId}
use Rattle.onvm_base.specs.declared.ids.FrameId.{FrameId}
use Rattle.onvm_core.specs.declared.layout.Layout.{Layout}
use Rattle.onvm_core.specs.declared.parcel.Parcel.{Parcel}
use Rattle.onvm_core.specs.declared.step.Item.{Item}
use Rattle.onvm_core.specs.declared.step.Item.TheVariants.{Buffer, Number}
use Rattle.onvm_core.specs.declared.step.Act.{Act}
use Rattle.onvm_core.specs.declared.step.Act.TheVariants.{Take, Give, Push, Pop}
use Rattle.onvm_core.specs.declared.step.Step.{Step}
use Rattle.onvm_core.specs.declared.place.Place.{Place}
use Rattle.onvm_core.specs.declared.place.Place.TheVariants.{Pool, Ring, Role}
use Rattle.onvm_core.specs.Layouts.{same_ring}
use Rattle.onvm_core.specs.History.{History, pushes, pops, popped_from, content_of, place_of, place_by}
use Rattle.onvm_core.specs.Lawful.{AllowsAct, IsLawful}
use Rattle.onvm_core.specs.Places.{is_of_buffer, how_many, one_if, same_place}
use Rattle.onvm_core.specs.Logs.{Setting, Log, log_of}
use Rattle.onvm_core.specs.Frames.{Load, load, load_after, block_frame}
use Rattle.onvm_core.specs.Frames.Load.{Fresh, Loaded}
use Rattle.onvm_core.proofs.Contents.{content_moves}
use Rattle.onvm_core.proofs.Once.{source, Moves, named_from, in_ring_once, same_place_is, some_once}

-- an act that names no buffer b leaves what is in b
pub load_untouched : (buf role : ℕ) (fresh : FrameId) (act : Act) (was : Option Load) → place_by buf role act ≡ None
    → load_after buf fresh act was ≡ was
load_untouched buf role fresh (Take b) was e =
    elim (cases_Bool (b.0 == buf)) [
      | inl hit ↦ let off : Some (Role role) ≡ None = rw hit at e in absurd (cc)
      | inr miss ↦ rw miss refl
    ]
load_untouched buf role fresh (Give b outcome parcel) was e =
    elim (cases_Bool (b.0 == buf)) [
      | inl hit ↦ let off : Some Pool ≡ None = rw hit at e in absurd (cc)
      | inr miss ↦ rw miss refl
    ]
load_untouched buf role fresh (Push r (Buffer b parcel)) was e =
    elim (cases_Bool (b.0 == buf)) [
      | inl hit ↦ let off : Some (Ring r) ≡ None = rw hit at e in absurd (cc)
      | inr miss ↦ rw miss refl
    ]
load_untouched buf role fresh (Pop r (Buffer b parcel)) was e =
    elim (cases_Bool (b.0 == buf)) [
      | inl hit ↦ let off : Some (Role role) ≡ None = rw hit at e in absurd (cc)
      | inr miss ↦ rw miss refl
    ]
load_untouched buf role fresh act was e = refl

-- only its holder names a buffer that a role holds
source_role : (role other : ℕ) (act : Act) → source role act ≡ Role other → role ≡ other
source_role role other (Take b) e = absurd (cc)
source_role role other (Pop r i) e = absurd (cc)
source_role role other act e = cc

some_or_none : (o : Option Place) → ((there : Place) × (o ≡ Some there)) ⊎ (o ≡ None)
some_or_none None = inr refl
some_or_none (Some there) = inl (there, refl)

-- another role's step doesn't name a buffer that this role holds
pub foreign_untouched : (layout : Layout) (step : Step) (before : History) (buf role : ℕ)
    → IsLawful layout (step ∷ before) → place_of buf before ≡ Role role → (step.role == role) ≡ false
    → place_by buf step.role step.act ≡ None
foreign_untouched layout step before buf role lawful held_buffers foreign =
    elim (some_or_none (place_by buf step.role step.act)) [
      | inl named ↦
          let stood : place_of buf before ≡ source step.role step.act =
          named_from layout step before lawful buf named.0 named.1 in
          let same : step.role ≡ role = source_role step.role role step.act (sym stood ∙ held_buffers) in
          absurd (eqb-false step.role role foreign same)
      | inr none ↦ none
    ]

-- what a role's own log says of the buffer that it has: which, and what is in it
abbrev pub own_load_of : Item → Option (ℕ × Load)
own_load_of (Buffer b parcel) = Some (b.0, Loaded parcel)
own_load_of (Number n) = None

abbrev pub own_load_after : FrameId → Act → Option (ℕ × Load) → Option (ℕ × Load)
own_load_after fresh (Take b) was = Some (b.0, Fresh fresh)
own_load_after fresh (Give b outcome parcel) was = None
own_load_after fresh (Push ring (Buffer b parcel)) was = None
own_load_after fresh (Pop ring (Buffer b parcel)) was = Some (b.0, Loaded parcel)
own_load_after fresh _ was = was

abbrev pub own_load : Setting → ℕ → Log → Option (ℕ × Load)
own_load setting role [] = None
own_load setting role (act ∷ before) =
    own_load_after (block_frame setting role before) act (own_load setting role before)

-- the buffer is the role's, and has this
pub record HasLoad (setting : Setting) (past : History) (role : ℕ) (buf : ℕ) (what : Load) : Type 0 where
  pub holder : place_of buf past ≡ Role role
  pub has : load setting buf past ≡ Some what

pub some_pair : (a b : ℕ) (x y : Load) → ◌≡◌ {A = Option (ℕ × Load)} (Some (a, x)) (Some (b, y)) → (a ≡ b) × (x ≡ y)
some_pair a b x y e =
    let left : ℕ × Load = (a, x) in
    let right : ℕ × Load = (b, y) in
    let both : left ≡ right = cc in (ap (λ (p : ℕ × Load). p.0) both, ap (λ (p : ℕ × Load). p.1) both)

-- what the own log says after an own act
own_step : (role buf : ℕ) (fresh : FrameId) (act : Act) (own : Option (ℕ × Load)) (what : Load) (was : Place)
    (had : Option Load)
    → own_load_after fresh act own ≡ Some (buf, what) → (own ≡ Some (buf, what) → (was ≡ Role role) × (had ≡ Some what))
    → (unwrap_or (place_by buf role act) was ≡ Role role) × (load_after buf fresh act had ≡ Some what)
own_step role buf fresh (Take b) own what was had e earlier =
    let parts : (b.0 ≡ buf) × (Fresh fresh ≡ what) = some_pair b.0 buf (Fresh fresh) what e in
    let one : b.0 ≡ buf = parts.0 in
    let two : Fresh fresh ≡ what = parts.1 in rw (eq-eqb b.0 buf one) (refl, ap Some two)
own_step role buf fresh (Give b outcome parcel) own what was had e earlier =
    absurd (let off : None ≡ Some (buf, what) = e in cc)
own_step role buf fresh (Push r (Buffer b parcel)) own what was had e earlier =
    absurd (let off : None ≡ Some (buf, what) = e in cc)
own_step role buf fresh (Pop r (Buffer b parcel)) own what was had e earlier =
    let parts : (b.0 ≡ buf) × (Loaded parcel ≡ what) = some_pair b.0 buf (Loaded parcel) what e in
    let one : b.0 ≡ buf = parts.0 in
    let two : Loaded parcel ≡ what = parts.1 in rw (eq-eqb b.0 buf one) (refl, ap Some two)
own_step role buf fresh act own what was had e earlier = earlier e

-- what a role's own log says of its buffer is so
pub own_load_is : (setting : Setting) (past : History)
    → IsLawful setting.layout past → (role buf : ℕ) (what : Load)
    → own_load setting role (log_of role past) ≡ Some (buf, what)
    → HasLoad setting past role buf what
own_load_is setting [] lawful role buf what e = absurd (let off : None ≡ Some (buf, what) = e in cc)
own_load_is setting (step ∷ before) lawful role buf what e =
    elim (cases_Bool (step.role == role)) [
      | inl mine ↦ let same : step.role ≡ role = eqb-true step.role role mine in
          let own_e : own_load_after (block_frame setting role (log_of role before)) step.act
          (own_load setting role (log_of role before))
          ≡ Some (buf, what)
          = rw mine at e in
          let both : (unwrap_or (place_by buf role step.act) (place_of buf before) ≡ Role role)
          × (load_after buf (block_frame setting role (log_of role before)) step.act (load setting buf before)
          ≡ Some what)
          = own_step role buf (block_frame setting role (log_of role before)) step.act
          (own_load setting role (log_of role before)) what (place_of buf before) (load setting buf before) own_e
          (λ h.
          let had : HasLoad setting before role buf what = own_load_is setting before lawful.1 role buf what h in
          (had.holder, had.has)) in
          record { holder = rw same both.0; has = rw same both.1 }
      | inr foreign ↦ let own_e : own_load setting role (log_of role before) ≡ Some (buf, what) = rw foreign at e in
          let had : HasLoad setting before role buf what = own_load_is setting before lawful.1 role buf what own_e in
          let none : place_by buf step.role step.act ≡ None =
          foreign_untouched setting.layout step before buf role lawful had.holder foreign in
          record {
            holder = rw none had.holder;
            has =
                load_untouched buf step.role (block_frame setting step.role (log_of step.role before)) step.act
                (load setting buf before) none
                ∙ had.has;
          }
    ]

-- nothing is in a buffer of the pool
pool_step_load : (buf role : ℕ) (fresh : FrameId) (act : Act) (was : Place) (had : Option Load)
    → unwrap_or (place_by buf role act) was ≡ Pool → (was ≡ Pool → had ≡ None)
    → load_after buf fresh act had ≡ None
pool_step_load buf role fresh (Take b) was had e earlier =
    elim (cases_Bool (b.0 == buf)) [
      | inl hit ↦ absurd (let off : Role role ≡ Pool = rw hit at e in cc)
      | inr miss ↦ rw miss (earlier (rw miss at e))
    ]
pool_step_load buf role fresh (Give b outcome parcel) was had e earlier =
    elim (cases_Bool (b.0 == buf)) [ inl hit ↦ rw hit refl | inr miss ↦ rw miss (earlier (rw miss at e)) ]
pool_step_load buf role fresh (Push r (Buffer b parcel)) was had e earlier =
    elim (cases_Bool (b.0 == buf)) [
      | inl hit ↦ absurd (let off : Ring r ≡ Pool = rw hit at e in cc)
      | inr miss ↦ rw miss (earlier (rw miss at e))
    ]
pool_step_load buf role fresh (Pop r (Buffer b parcel)) was had e earlier =
    elim (cases_Bool (b.0 == buf)) [
      | inl hit ↦ absurd (let off : Role role ≡ Pool = rw hit at e in cc)
      | inr miss ↦ rw miss (earlier (rw miss at e))
    ]
pool_step_load buf role fresh act was had e earlier = earlier e

pub pool_load : (setting : Setting) (past : History) (buf : ℕ) → place_of buf past ≡ Pool → load setting buf past ≡ None
pool_load setting [] buf e = refl
pool_load setting (step ∷ before) buf e =
    pool_step_load buf step.role (block_frame setting step.role (log_of step.role before)) step.act
    (place_of buf before) (load setting buf before) e (pool_load setting before buf)

-- Rings

abbrev pub IsLoaded : Setting → History → Item → Type 0
IsLoaded setting past (Buffer b parcel) = load setting b.0 past ≡ Some (Loaded parcel)
IsLoaded setting past (Number n) = Unit {0}

abbrev pub Each : {A : Type 0} → (A → Type 0) → List A → Type 0
Each P [] = Unit {0}
Each P (x ∷ xs) = P x × Each P xs

pub Each-append : {A : Type 0} (P : A → Type 0) (xs ys : List A) → Each P xs → Each P ys → Each P (xs ++ ys)
Each-append P [] ys h k = k
Each-append P (x ∷ xs) ys h k = (h.0, Each-append P xs ys h.1 k)

pub Each_right : {A : Type 0} (P : A → Type 0) (xs ys : List A) → Each P (xs ++ ys) → Each P ys
Each_right P [] ys h = h
Each_right P (x ∷ xs) ys h = Each_right P xs ys h.1

pub Each_map : {A : Type 0} (P Q : A → Type 0) (xs : List A) → ((x : A) → P x → Q x) → Each P xs → Each Q xs
Each_map P Q [] f h = h
Each_map P Q (x ∷ xs) f h = (f x h.0, Each_map P Q xs f h.1)

pub Each_both : {A : Type 0} (P Q : A → Type 0) (xs : List A) → Each P xs → Each Q xs → Each (λ x. P x × Q x) xs
Each_both P Q [] h k = h
Each_both P Q (x ∷ xs) h k = ((h.0, k.0), Each_both P Q xs h.1 k.1)

-- what stands in a ring has the ring as its place
abbrev pub IsAt : RingId → History → Item → Type 0
IsAt ring past (Buffer b parcel) = place_of b.0 past ≡ Ring ring
IsAt ring past (Number n) = Unit {0}

counted_at : (ring : RingId) (past : History) (items : List Item)
    → ((buf : ℕ) → 1 ≤ how_many (is_of_buffer buf) items → place_of buf past ≡ Ring ring)
    → Each (IsAt ring past) items
counted_at ring past [] all = tt
counted_at ring past (Buffer b parcel ∷ items) all = (
  all b.0 (rw (eq-eqb b.0 b.0 refl) (omega arith)),
  counted_at ring past items (λ buf h. all buf (omega arith)),
)
counted_at ring past (Number n ∷ items) all = (tt, counted_at ring past items (λ buf h. all buf (omega arith)))

pub content_at : (layout : Layout) (past : History) → IsLawful layout past → (ring : RingId)
    → Each (IsAt ring past) (content_of ring past)
content_at layout past lawful ring =
    counted_at ring past (content_of ring past) (λ buf h.
    let once : how_many (is_of_buffer buf) (content_of ring past)
    ≡ one_if (same_place (place_of buf past) (Ring ring)) =
    in_ring_once layout past lawful buf ring in
    same_place_is (place_of buf past) (Ring ring)
    (some_once (same_place (place_of buf past) (Ring ring)) (omega arith)))

pub first_of : {A : Type 0} (P : A → Type 0) (items : List A) (item : A) → slice_get items 0 ≡ Some item → Each P items
    → P item
first_of P [] item e h = absurd (cc)
first_of P (x ∷ xs) item e h = let same : x ≡ item = cc in subst P same h.0

-- a buffer in a ring keeps its parcel through a step
ring_load_step : (role buf : ℕ) (ring : RingId) (fresh : FrameId) (act : Act) (parcel : Parcel) (was : Place)
    (had : Option Load)
    → Moves buf role act was → was ≡ Ring ring → had ≡ Some (Loaded parcel)
    → ((r : RingId) (b : BufId) (p : Parcel) → act ≡ Pop r (Buffer b p) → (b.0 == buf) ≡ true → had ≡ Some (Loaded p))
    → load_after buf fresh act had ≡ Some (Loaded parcel)
ring_load_step role buf ring fresh (Take b) parcel was had moves stood has popped_from =
    elim (cases_Bool (b.0 == buf)) [
      | inl hit ↦ let from : was ≡ Pool = moves (Role role) (rw hit refl) in absurd (cc)
      | inr miss ↦ rw miss has
    ]
ring_load_step role buf ring fresh (Give b outcome p) parcel was had moves stood has popped_from =
    elim (cases_Bool (b.0 == buf)) [
      | inl hit ↦ let from : was ≡ Role role = moves (Pool) (rw hit refl) in absurd (cc)
      | inr miss ↦ rw miss has
    ]
ring_load_step role buf ring fresh (Push r (Buffer b p)) parcel was had moves stood has popped_from =
    elim (cases_Bool (b.0 == buf)) [
      | inl hit ↦ let from : was ≡ Role role = moves (Ring r) (rw hit refl) in absurd (cc)
      | inr miss ↦ rw miss has
    ]
ring_load_step role buf ring fresh (Pop r (Buffer b p)) parcel was had moves stood has popped_from =
    elim (cases_Bool (b.0 == buf)) [
      | inl hit ↦ rw hit (sym (popped_from r b p refl hit) ∙ has)
      | inr miss ↦ rw miss has
    ]
ring_load_step role buf ring fresh act parcel was had moves stood has popped_from = has

-- what a step pushes has the parcel that it was pushed with
pushed_loaded : (setting : Setting) (ring : RingId) (step : Step) (before : History) (act : Act) → step.act ≡ act
    → Each (IsLoaded setting (step ∷ before)) (pushes ring act)
pushed_loaded setting ring step before (Push r (Buffer b parcel)) e =
    let fact : load setting b.0 (step ∷ before) ≡ Some (Loaded parcel) = rw (e, eq-eqb b.0 b.0 refl) refl in
    elim (cases_Bool (same_ring r ring)) [ inl met ↦ rw met (fact, tt) | inr unmet ↦ rw unmet tt ]
pushed_loaded setting ring step before (Push r (Number n)) e =
    elim (cases_Bool (same_ring r ring)) [ inl met ↦ rw met (tt, tt) | inr unmet ↦ rw unmet tt ]
pushed_loaded setting ring step before act e = tt

-- what is popped has the parcel with which it is popped
pub popped_load : (setting : Setting) (step : Step) (before : History)
    → IsLawful setting.layout (step ∷ before) → ((r : RingId) → Each (IsLoaded setting before) (content_of r before))
    → (r : RingId) (b : BufId) (p : Parcel) → step.act ≡ Pop r (Buffer b p)
    → load setting b.0 before ≡ Some (Loaded p)
popped_load setting step before lawful each r b p e =
    let allowed : AllowsAct setting.layout before step.role (Pop r (Buffer b p)) =
    subst (AllowsAct setting.layout before step.role) e lawful.0.allowed in
    first_of (IsLoaded setting before) (content_of r before) (Buffer b p) allowed.first (each r)

kept_item : (setting : Setting) (ring : RingId) (step : Step) (before : History)
    → IsLawful setting.layout (step ∷ before)
    → ((r : RingId) (b : BufId) (p : Parcel) → step.act ≡ Pop r (Buffer b p)
    → load setting b.0 before ≡ Some (Loaded p))
    → (item : Item) → (IsAt ring before item × IsLoaded setting before item)
    → IsLoaded setting (step ∷ before) item
kept_item setting ring step before lawful popped_has (Buffer b parcel) h =
    ring_load_step step.role b.0 ring (block_frame setting step.role (log_of step.role before)) step.act parcel
    (place_of b.0 before) (load setting b.0 before) (named_from setting.layout step before lawful b.0) h.0 h.1
    (λ r c p e hit. subst (λ n. load setting n before ≡ Some (Loaded p)) (eqb-true c.0 b.0 hit) (popped_has r c p e))
kept_item setting ring step before lawful popped_has (Number n) h = tt

-- each buffer in a ring has the parcel with which it stands there
pub content_loaded : (setting : Setting) (past : History) → IsLawful setting.layout past → (ring : RingId)
    → Each (IsLoaded setting past) (content_of ring past)
content_loaded setting [] lawful ring = tt
content_loaded setting (step ∷ before) lawful ring =
    let fresh : FrameId = block_frame setting step.role (log_of step.role before) in
    let popped_has : (r : RingId) (b : BufId) (p : Parcel) → step.act ≡ Pop r (Buffer b p)
    → load setting b.0 before ≡ Some (Loaded p)
    = popped_load setting step before lawful (λ r. content_loaded setting before lawful.1 r) in
    let kept : Each (IsLoaded setting (step ∷ before)) (content_of ring before) =
    Each_map (λ item. IsAt ring before item × IsLoaded setting before item) (IsLoaded setting (step ∷ before))
    (content_of ring before)
    (kept_item setting ring step before lawful popped_has)
    (Each_both (IsAt ring before) (IsLoaded setting before) (content_of ring before)
    (content_at setting.layout before lawful.1 ring) (content_loaded setting before lawful.1 ring)) in
    let all : Each (IsLoaded setting (step ∷ before)) (content_of ring before ++ pushes ring step.act) =
    Each-append (IsLoaded setting (step ∷ before)) (content_of ring before) (pushes ring step.act) kept
    (pushed_loaded setting ring step before step.act refl) in
    Each_right (IsLoaded setting (step ∷ before)) (pops ring step.act) (content_of ring (step ∷ before))
    (subst (Each (IsLoaded setting (step ∷ before))) (sym (content_moves setting.layout ring step before lawful)) all)
