-- Which lists of steps are lawful.
use Rattle.std.specs.Prelude.{ℕ, ◌≡◌, ◌≢◌, ◌+◌, ◌/◌, ◌^◌, ◌<◌, ◌≤◌, true, false, if◌then◌else◌, IsBitSet, [], ◌∷◌, length, Option, Some, None, slice_get}
use Rattle.onvm_base.specs.declared.limits.TheConstants.{MAX_HOPS}
use Rattle.onvm_base.specs.declared.ids.RingId.{RingId}
use Rattle.onvm_base.specs.declared.ids.RingId.TheVariants.{Lane, Output, Mail}
use Rattle.onvm_base.specs.declared.outcome.Outcome.{Outcome}
use Rattle.onvm_base.specs.declared.outcome.Outcome.TheVariants.{Sent, Dropped, Throttled, RingFull, PoolEmpty}
use Rattle.onvm_base.specs.declared.outcome.Record.{Record}
use Rattle.onvm_core.specs.declared.layout.Layout.{Layout}
use Rattle.onvm_core.specs.declared.layout.Word.{Word}
use Rattle.onvm_core.specs.declared.layout.Word.TheVariants.{Pool as PoolWord, Cell, Post as PostWord, Weight}
use Rattle.onvm_core.specs.declared.step.Item.{Item}
use Rattle.onvm_core.specs.declared.step.Item.TheVariants.{Buffer, Number}
use Rattle.onvm_core.specs.declared.step.Act.{Act}
use Rattle.onvm_core.specs.declared.step.Act.TheVariants.{Split, Join, Take, Give, Push, Full, Pop, Empty, Look, Post}
use Rattle.onvm_core.specs.declared.step.Step.{Step}
use Rattle.onvm_core.specs.declared.place.Place.TheVariants.{Pool, Role}
use Rattle.onvm_core.specs.Layouts.{first_role, tick_role, producer, consumer, ring_size, port_of, word_of, bit_of, IsRing, IsBuffer, IsWord, IsFeeder}
use Rattle.onvm_core.specs.History.{History, content_of, place_of, is_live, latest_look, post_count}
use Rattle.onvm_core.specs.Words.{value_of}

-- Part 1: roles

-- the role is the place of no buffer
abbrev pub HoldsNothing : Layout → History → ℕ → Type 0
HoldsNothing layout past role = (buf : ℕ) → IsBuffer layout buf → place_of buf past ≢ Role role

pub record AllowsSplit (layout : Layout) (before : History) (role other : ℕ) : Type 0 where
  pub first : role ≡ first_role layout
  pub below : other < first_role layout
  pub not_live : is_live layout other before ≡ false

pub record AllowsJoin (layout : Layout) (before : History) (role other : ℕ) : Type 0 where
  pub first : role ≡ first_role layout
  pub another : other ≢ first_role layout
  pub live : is_live layout other before ≡ true
  pub empty_handed : HoldsNothing layout before other

-- Part 2: take

-- the look was at the buffer's word, and showed its bit
abbrev pub Showed : Layout → ℕ → Option (Word × ℕ) → Type 0
Showed layout buf None = ⊥
Showed layout buf (Some look) = (look.0 ≡ word_of layout buf) × IsBitSet look.1 (bit_of layout buf)

pub record AllowsTake (layout : Layout) (before : History) (role buf : ℕ) : Type 0 where
  pub known : IsBuffer layout buf
  pub in_pool : place_of buf before ≡ Pool
  pub own_port : role ≡ port_of layout buf
  pub shown : Showed layout buf (latest_look role before)

-- Part 3: give

-- the role holds the buffer
pub record Holds (layout : Layout) (past : History) (role buf : ℕ) : Type 0 where
  pub known : IsBuffer layout buf
  pub holder : place_of buf past ≡ Role role

-- a ring that an outcome names is the layout's
abbrev pub NamesRing : Layout → Outcome → Type 0
NamesRing layout (RingFull ring) = IsRing layout ring
NamesRing layout (Sent port) = Unit {0}
NamesRing layout (Dropped function why) = Unit {0}
NamesRing layout (Throttled feeder post function) = Unit {0}
NamesRing layout PoolEmpty = Unit {0}

pub record AllowsGive (layout : Layout) (before : History) (role buf : ℕ) (outcome : Outcome) : Type 0 where
  pub holds : Holds layout before role buf
  pub names : NamesRing layout outcome

-- Part 4: push

-- the item is of the ring's kind and the role's to push: a buffer that it holds, with a parcel that may be handled once
-- more on a lane, and was handled on an output ring; or on a mail ring a number
abbrev pub Suits : Layout → History → ℕ → RingId → Item → Type 0
Suits layout past role (Lane f feeder) (Buffer buf parcel) =
    Holds layout past role buf.0 × (length parcel.trail < MAX_HOPS)
Suits layout past role (Output f) (Buffer buf parcel) =
    Holds layout past role buf.0 × (1 ≤ length parcel.trail) × (length parcel.trail ≤ MAX_HOPS)
Suits layout past role (Mail f) (Number n) = Unit {0}
Suits layout past role (Lane f feeder) (Number n) = ⊥
Suits layout past role (Output f) (Number n) = ⊥
Suits layout past role (Mail f) (Buffer buf parcel) = ⊥

pub record AllowsPush (layout : Layout) (before : History) (role : ℕ) (ring : RingId) (item : Item) : Type 0 where
  pub known : IsRing layout ring
  pub own_end : role ≡ producer layout ring
  pub room : length (content_of ring before) < ring_size layout ring
  pub suits : Suits layout before role ring item

pub record AllowsFull (layout : Layout) (before : History) (role : ℕ) (ring : RingId) : Type 0 where
  pub known : IsRing layout ring
  pub own_end : role ≡ producer layout ring
  pub full : length (content_of ring before) ≡ ring_size layout ring

-- Part 5: pop

pub record AllowsPop (layout : Layout) (before : History) (role : ℕ) (ring : RingId) (item : Item) : Type 0 where
  pub known : IsRing layout ring
  pub own_end : role ≡ consumer layout ring
  pub first : slice_get (content_of ring before) 0 ≡ Some item

pub record AllowsEmpty (layout : Layout) (before : History) (role : ℕ) (ring : RingId) : Type 0 where
  pub known : IsRing layout ring
  pub own_end : role ≡ consumer layout ring
  pub empty : content_of ring before ≡ []

-- Part 6: look

abbrev pub NamesRingIn : Layout → Option Record → Type 0
NamesRingIn layout None = Unit {0}
NamesRingIn layout (Some told) = NamesRing layout told.outcome

pub record AllowsLook (layout : Layout) (before : History) (word : Word) (seen : ℕ)
    (told : Option Record) : Type 0 where
  pub known : IsWord layout word
  pub true_value : seen ≡ value_of layout before word
  pub names : NamesRingIn layout told

-- Part 7: post

-- the role is the word's one writer, and a feeder's posts are numbered from 1 in the upper 32 bits
abbrev pub AllowsPost : Layout → History → ℕ → Word → ℕ → Type 0
AllowsPost layout before role (PostWord feeder) new =
    IsFeeder layout feeder × (role ≡ feeder) × (new / 2 ^ 32 ≡ post_count (PostWord feeder) before + 1)
AllowsPost layout before role (Weight f) new = (f.0 < layout.functions) × (role ≡ tick_role layout)
AllowsPost layout before role (PoolWord port index) new = ⊥
AllowsPost layout before role (Cell ring at) new = ⊥

-- these steps allow the role this act
abbrev pub AllowsAct : Layout → History → ℕ → Act → Type 0
AllowsAct layout before role (Split other) = AllowsSplit layout before role other
AllowsAct layout before role (Join other) = AllowsJoin layout before role other
AllowsAct layout before role (Take buf) = AllowsTake layout before role buf.0
AllowsAct layout before role (Give buf outcome parcel) = AllowsGive layout before role buf.0 outcome
AllowsAct layout before role (Push ring item) = AllowsPush layout before role ring item
AllowsAct layout before role (Full ring) = AllowsFull layout before role ring
AllowsAct layout before role (Pop ring item) = AllowsPop layout before role ring item
AllowsAct layout before role (Empty ring) = AllowsEmpty layout before role ring
AllowsAct layout before role (Look word seen told) = AllowsLook layout before word seen told
AllowsAct layout before role (Post word new) = AllowsPost layout before role word new

-- the acting role is live, and these steps allow it the act
pub record Allows (layout : Layout) (before : History) (step : Step) : Type 0 where
  pub live : is_live layout step.role before ≡ true
  pub allowed : AllowsAct layout before step.role step.act

-- each step is allowed by the steps before it
abbrev pub IsLawful : Layout → History → Type 0
IsLawful layout [] = Unit {0}
IsLawful layout (step ∷ before) = Allows layout before step × IsLawful layout before

-- Refusals

-- the part that an act falls under
abbrev pub part_of : Act → ℕ
part_of (Split other) = 1
part_of (Join other) = 1
part_of (Take buf) = 2
part_of (Give buf outcome parcel) = 3
part_of (Push ring item) = 4
part_of (Full ring) = 4
part_of (Pop ring item) = 5
part_of (Empty ring) = 5
part_of (Look word seen told) = 6
part_of (Post word new) = 7

-- the part that refuses a step which isn't allowed: the first where the role isn't live, else the act's own
abbrev pub refusing_part : Layout → History → Step → ℕ
refusing_part layout before step = if is_live layout step.role before then part_of step.act else 1
