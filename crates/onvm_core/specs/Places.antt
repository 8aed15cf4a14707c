-- The pool, the rings and the roles' hands, and that each buffer is in one of them.
use Rattle.std.specs.Prelude.{ℕ, zero, suc, ◌≡◌, ◌+◌, ◌*◌, Bool, true, false, ◌==◌, if◌then◌else◌, List, [], ◌∷◌, ◌++◌}
use Rattle.onvm_base.specs.declared.ids.RingId.{RingId}
use Rattle.onvm_core.specs.declared.layout.Layout.{Layout}
use Rattle.onvm_core.specs.declared.step.Item.{Item}
use Rattle.onvm_core.specs.declared.step.Item.TheVariants.{Buffer, Number}
use Rattle.onvm_core.specs.declared.step.Act.{Act}
use Rattle.onvm_core.specs.declared.step.Act.TheVariants.{Take, Give, Push, Pop}
use Rattle.onvm_core.specs.declared.place.Place.{Place}
use Rattle.onvm_core.specs.declared.place.Place.TheVariants.{Pool, Ring, Role}
use Rattle.onvm_core.specs.Layouts.{same_ring}
use Rattle.onvm_core.specs.History.{History, content_of, place_of}

-- the numbers below n
abbrev pub numbers_below : ℕ → List ℕ
numbers_below zero = []
numbers_below (suc n) = n ∷ numbers_below n

abbrev pub without : ℕ → List ℕ → List ℕ
without buf [] = []
without buf (b ∷ bufs) = if b == buf then without buf bufs else b ∷ without buf bufs

-- The pool: all buffers at first, without those taken, with those given

abbrev pub pool_after : Act → List ℕ → List ℕ
pool_after (Take b) bufs = without b.0 bufs
pool_after (Give b outcome parcel) bufs = b.0 ∷ bufs
pool_after _ bufs = bufs

abbrev pub pool_of : Layout → History → List ℕ
pool_of layout [] = numbers_below (layout.ports * layout.buffers)
pool_of layout (step ∷ before) = pool_after step.act (pool_of layout before)

-- A role's hands: the buffers that it took or popped, without those given or pushed

abbrev pub held_after_push : Item → List ℕ → List ℕ
held_after_push (Buffer b parcel) bufs = without b.0 bufs
held_after_push (Number n) bufs = bufs

abbrev pub held_after_pop : Item → List ℕ → List ℕ
held_after_pop (Buffer b parcel) bufs = b.0 ∷ bufs
held_after_pop (Number n) bufs = bufs

abbrev pub held_buffers_after : Act → List ℕ → List ℕ
held_buffers_after (Take b) bufs = b.0 ∷ bufs
held_buffers_after (Give b outcome parcel) bufs = without b.0 bufs
held_buffers_after (Push ring item) bufs = held_after_push item bufs
held_buffers_after (Pop ring item) bufs = held_after_pop item bufs
held_buffers_after _ bufs = bufs

abbrev pub held_buffers : ℕ → History → List ℕ
held_buffers role [] = []
held_buffers role (step ∷ before) =
    if step.role == role then held_buffers_after step.act (held_buffers role before) else held_buffers role before

-- Each buffer stands once

abbrev pub one_if : Bool → ℕ
one_if true = 1
one_if false = 0

-- how many elements pass the test
abbrev pub how_many : {A : Type 0} → (A → Bool) → List A → ℕ
how_many test [] = 0
how_many test (x ∷ xs) = one_if (test x) + how_many test xs

abbrev pub times : ℕ → List ℕ → ℕ
times buf bufs = how_many (λ b. b == buf) bufs

abbrev pub is_of_buffer : ℕ → Item → Bool
is_of_buffer buf (Buffer b parcel) = b.0 == buf
is_of_buffer buf (Number n) = false

abbrev pub same_place : Place → Place → Bool
same_place Pool Pool = true
same_place Pool (Ring r) = false
same_place Pool (Role n) = false
same_place (Ring q) Pool = false
same_place (Ring q) (Ring r) = same_ring q r
same_place (Ring q) (Role n) = false
same_place (Role m) Pool = false
same_place (Role m) (Ring r) = false
same_place (Role m) (Role n) = m == n

-- once where the buffer's place is this one, and elsewhere not at all
abbrev pub one_if_at : Place → History → ℕ → ℕ
one_if_at there past buf = one_if (same_place (place_of buf past) there)

-- a buffer is in exactly one of the pool, one ring's content, once, or one role's hands, and that is its place
pub record StandsOnce (layout : Layout) (past : History) (buf : ℕ) : Type 0 where
  pub in_pool : times buf (pool_of layout past) ≡ one_if_at Pool past buf
  pub in_ring : (ring : RingId) → how_many (is_of_buffer buf) (content_of ring past) ≡ one_if_at (Ring ring) past buf
  pub in_hands : (role : ℕ) → times buf (held_buffers role past) ≡ one_if_at (Role role) past buf

-- the first list is the front of the second
abbrev pub IsPrefixOf : {A : Type 0} → List A → List A → Type 0
IsPrefixOf {A} xs ys = (rest : List A) × (xs ++ rest ≡ ys)
