-- Which buffers are free after a step.
use Rattle.std.proofs.Common.{◌≡◌, ◌≢◌, ℕ, ◌+◌, ◌*◌, ◌/◌, ◌%◌, ◌<◌, false, inl, inr, ◌∷◌, sym, refl, ap, ◌∙◌, arith, mod-lt, Option, None}
use Rattle.std.specs.Prelude.{◌==◌, ◌&&◌, nat_lt, unwrap_or}
use Rattle.std.proofs.lemmas.Bool.{cases_Bool, ltb-true}
use Rattle.std.proofs.Math.Nat.{div-add-mod'}
use Rattle.onvm_core.specs.declared.layout.Layout.{Layout}
use Rattle.onvm_core.specs.declared.step.Item.TheVariants.{Buffer, Number}
use Rattle.onvm_core.specs.declared.step.Act.{Act}
use Rattle.onvm_core.specs.declared.step.Act.TheVariants.{Split, Join, Take, Give, Push, Full, Pop, Empty, Look, Post}
use Rattle.onvm_core.specs.declared.place.Place.{Place}
use Rattle.onvm_core.specs.declared.place.Place.TheVariants.{Ring, Role}
use Rattle.onvm_core.specs.Layouts.{bit_of, port_of, buffer_of_bit}
use Rattle.onvm_core.specs.History.{History, place_of, place_by}
use Rattle.onvm_core.specs.Lawful.{IsLawful}
use Rattle.onvm_core.specs.Words.{is_free, is_pool, pool_bits}
use Rattle.onvm_core.proofs.Once.{Moves, named_from}
use Rattle.onvm_board.specs.Rule.{step_of}
use Rattle.onvm_board.proofs.Pools.{bits_same}
use Rattle.onvm_board.proofs.Separation.{grid_same}

-- an act that isn't a take or a give
abbrev pub IsApart : Act → Type 0
IsApart (Take b) = ⊥
IsApart (Give b outcome parcel) = ⊥
IsApart _ = Unit {0}

-- such an act leaves who is in the pool
apart_pool : (buf role : ℕ) (act : Act) (was : Place) → IsApart act → Moves buf role act was
    → is_pool (unwrap_or (place_by buf role act) was) ≡ is_pool was
apart_pool buf role (Take b) was apart moves = absurd apart
apart_pool buf role (Give b outcome parcel) was apart moves = absurd apart
apart_pool buf role (Push r (Buffer b parcel)) was apart moves =
    elim (cases_Bool (b.0 == buf)) [
      | inl hit ↦ rw hit (ap is_pool (sym (moves (Ring r) (rw hit refl))))
      | inr miss ↦ rw miss refl
    ]
apart_pool buf role (Push r (Number n)) was apart moves = refl
apart_pool buf role (Pop r (Buffer b parcel)) was apart moves =
    elim (cases_Bool (b.0 == buf)) [
      | inl hit ↦ rw hit (ap is_pool (sym (moves (Role role) (rw hit refl))))
      | inr miss ↦ rw miss refl
    ]
apart_pool buf role (Pop r (Number n)) was apart moves = refl
apart_pool buf role (Split a) was apart moves = refl
apart_pool buf role (Join a) was apart moves = refl
apart_pool buf role (Full a) was apart moves = refl
apart_pool buf role (Empty a) was apart moves = refl
apart_pool buf role (Look a b c) was apart moves = refl
apart_pool buf role (Post a b) was apart moves = refl

-- such an act leaves the pool's words
pub pool_kept : (layout : Layout) (past : History) (role : ℕ) (act : Act) (port index : ℕ) → IsApart act
    → IsLawful layout (step_of role act ∷ past)
    → pool_bits layout (step_of role act ∷ past) port index ≡ pool_bits layout past port index
unfolding pool_bits
pool_kept layout past role act port index apart lawful =
    bits_same (is_free layout (step_of role act ∷ past) port index) (is_free layout past port index) 64
    (λ k below.
    let buf : ℕ = buffer_of_bit layout port index k in
    ap (λ b. nat_lt (64 * index + k) layout.buffers && b)
    (apart_pool buf role act (place_of buf past) apart (named_from layout (step_of role act) past lawful buf)))

-- a buffer's bit is at one place
pub bit_place : (layout : Layout) (buf port index bit : ℕ) → bit < 64 → 64 * index + bit < layout.buffers
    → buffer_of_bit layout port index bit ≡ buf
    → (port ≡ port_of layout buf) × (index ≡ buf % layout.buffers / 64) × (bit ≡ bit_of layout buf)
bit_place layout buf port index bit below within e =
    let n : ℕ = layout.buffers in
    let whole : buf / n * n + buf % n ≡ buf = div-add-mod' buf n in
    let inside : buf % n < n = mod-lt buf (omega (arith, within)) in
    let x : ℕ = port * n in
    let left : ℕ = 64 * index + bit in
    let sum : x + 64 * index + bit ≡ buf = e in
    let flat : x + left ≡ buf = omega arith in
    let both : (port ≡ buf / n) × (left ≡ buf % n) =
    grid_same port (buf / n) n left (buf % n) within inside (flat ∙ sym whole) in
    let r : ℕ = buf % n in
    let rest : left ≡ r = both.1 in
    let goal : (port ≡ buf / n) × (index ≡ r / 64) × (bit ≡ r % 64) = (both.0, omega arith, omega arith) in goal

-- the bit of a buffer is the buffer's
pub bit_back : (layout : Layout) (buf : ℕ)
    → buffer_of_bit layout (port_of layout buf) (buf % layout.buffers / 64) (bit_of layout buf) ≡ buf
bit_back layout buf =
    let n : ℕ = layout.buffers in
    let whole : buf / n * n + buf % n ≡ buf = div-add-mod' buf n in
    let r : ℕ = buf % n in
    let x : ℕ = buf / n * n in
    let sum : x + r ≡ buf = whole in
    let goal : x + 64 * (r / 64) + r % 64 ≡ buf = omega arith in goal

-- a test of a bit that says which buffer it is of
free_else : (layout : Layout) (past : History) (port index bit : ℕ) (act : Act) (role buf : ℕ)
    → place_by (buffer_of_bit layout port index bit) role act ≡ None
    → is_free layout (step_of role act ∷ past) port index bit ≡ is_free layout past port index bit
free_else layout past port index bit act role buf none =
    let b : ℕ = buffer_of_bit layout port index bit in
    ap (λ (o : Option Place). nat_lt (64 * index + bit) layout.buffers && is_pool (unwrap_or o (place_of b past))) none

-- where a part has no buffer for the bit, it isn't free
free_outside : (layout : Layout) (past : History) (port index bit : ℕ)
    → nat_lt (64 * index + bit) layout.buffers ≡ false
    → is_free layout past port index bit ≡ false
free_outside layout past port index bit out = rw out refl

-- a step that names one buffer leaves the other bits
pub free_other : (layout : Layout) (past : History) (port index bit : ℕ) (act : Act) (role buf : ℕ) → bit < 64
    → ((other : ℕ) → other ≢ buf → place_by other role act ≡ None)
    → ((port ≡ port_of layout buf) × (index ≡ buf % layout.buffers / 64) × (bit ≡ bit_of layout buf) → ⊥)
    → is_free layout (step_of role act ∷ past) port index bit ≡ is_free layout past port index bit
free_other layout past port index bit act role buf below names apart =
    elim (cases_Bool (nat_lt (64 * index + bit) layout.buffers)) [
      | inl within ↦
          free_else layout past port index bit act role buf
          (names (buffer_of_bit layout port index bit)
          (λ e. apart (bit_place layout buf port index bit below (ltb-true
          (64 * index + bit) layout.buffers within) e)))
      | inr out ↦
          free_outside layout (step_of role act ∷ past) port index bit out
          ∙ sym (free_outside layout past port index bit out)
    ]

-- a word of the pool that hasn't the buffer's bit keeps its value
pub pool_else : (layout : Layout) (past : History) (port index : ℕ) (act : Act) (role buf : ℕ)
    → ((other : ℕ) → other ≢ buf → place_by other role act ≡ None)
    → ((port ≡ port_of layout buf) × (index ≡ buf % layout.buffers / 64) → ⊥)
    → pool_bits layout (step_of role act ∷ past) port index ≡ pool_bits layout past port index
unfolding pool_bits
pool_else layout past port index act role buf names apart =
    bits_same (is_free layout (step_of role act ∷ past) port index) (is_free layout past port index) 64
    (λ k below. free_other layout past port index k act role buf below names (λ h. apart (h.0, h.1)))
