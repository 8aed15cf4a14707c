-- The roles, rings, buffers and words of a layout.
use Rattle.std.specs.Prelude.{ℕ, ◌≡◌, ◌+◌, ◌-◌, ◌*◌, ◌/◌, ◌%◌, ◌<◌, Bool, false, ◌==◌, ◌&&◌, slice_index, length, ◌++◌, map, replicate, All}
use Rattle.onvm_base.specs.declared.limits.TheConstants.{MAIL_RING, MAX_BUFFERS, MAX_CORES, MAX_FUNCTIONS, MAX_PORTS, MAX_RING, MAX_TRANSMIT_ROLES, MIN_RING, WORD_BITS}
use Rattle.onvm_base.specs.declared.ids.RingId.{RingId}
use Rattle.onvm_base.specs.declared.ids.RingId.TheVariants.{Lane, Output, Mail}
use Rattle.onvm_base.specs.declared.plan.Plan.{Plan}
use Rattle.onvm_base.specs.Plan.{IsFrom}
use Rattle.onvm_core.specs.declared.layout.Layout.{Layout}
use Rattle.onvm_core.specs.declared.layout.Word.{Word}
use Rattle.onvm_core.specs.declared.layout.Word.TheVariants.{Pool, Cell, Post, Weight}

-- the numbers of a layout are in their ranges
pub record IsLayout (layout : Layout) : Type 0 where
  pub ports : IsFrom 1 MAX_PORTS layout.ports
  pub transmit : IsFrom 1 MAX_TRANSMIT_ROLES layout.transmit
  pub cores : IsFrom 1 MAX_CORES layout.cores
  pub functions : IsFrom 1 MAX_FUNCTIONS layout.functions
  pub buffers : IsFrom 1 MAX_BUFFERS layout.buffers
  pub ring : IsFrom MIN_RING MAX_RING layout.ring
  pub output : IsFrom MIN_RING MAX_RING layout.output
  pub places : length layout.core_of ≡ MAX_FUNCTIONS
  pub core_of : All (λ core. core < layout.cores) layout.core_of

-- the layout of a plan: its numbers, and the core of each function, with 0 at the places past the functions
pub record IsLayoutOf (plan : Plan) (layout : Layout) : Type 0 where
  pub ports : layout.ports ≡ plan.ports
  pub transmit : layout.transmit ≡ plan.transmit
  pub cores : layout.cores ≡ plan.cores
  pub functions : layout.functions ≡ length plan.functions
  pub buffers : layout.buffers ≡ plan.buffers
  pub ring : layout.ring ≡ plan.ring
  pub output : layout.output ≡ plan.output
  pub core_of : layout.core_of ≡ map (λ f. f.core) plan.functions ++ replicate (MAX_FUNCTIONS - length plan.functions) 0

-- Roles: the receive roles by port, the transmit roles, the cores, the tick role, and that of the first token

abbrev pub core_role : Layout → ℕ → ℕ
core_role layout f = layout.ports + layout.transmit + slice_index layout.core_of f

abbrev pub tick_role : Layout → ℕ
tick_role layout = layout.ports + layout.transmit + layout.cores

abbrev pub first_role : Layout → ℕ
first_role layout = layout.ports + layout.transmit + layout.cores + 1

-- how many roles push on lanes
abbrev pub feeder_count : Layout → ℕ
feeder_count layout = layout.ports + layout.transmit

-- a feeder is a receive or a transmit role
abbrev pub IsFeeder : Layout → ℕ → Type 0
IsFeeder layout role = role < layout.ports + layout.transmit

-- Rings

-- the layout has this ring
abbrev pub IsRing : Layout → RingId → Type 0
IsRing layout (Lane f feeder) = (f.0 < layout.functions) × IsFeeder layout feeder
IsRing layout (Output f) = f.0 < layout.functions
IsRing layout (Mail f) = f.0 < layout.functions

-- the role that pushes on a ring
abbrev pub producer : Layout → RingId → ℕ
producer layout (Lane f feeder) = feeder
producer layout (Output f) = core_role layout f.0
producer layout (Mail f) = core_role layout f.0

-- the role that pops from a ring
abbrev pub consumer : Layout → RingId → ℕ
consumer layout (Lane f feeder) = core_role layout f.0
consumer layout (Output f) = layout.ports + f.0 % layout.transmit
consumer layout (Mail f) = tick_role layout

-- how many items a ring takes
abbrev pub ring_size : Layout → RingId → ℕ
ring_size layout (Lane f feeder) = layout.ring
ring_size layout (Output f) = layout.output
ring_size layout (Mail f) = MAIL_RING

abbrev pub same_ring : RingId → RingId → Bool
same_ring (Lane f p) (Lane g q) = (f.0 == g.0) && (p == q)
same_ring (Lane f p) (Output g) = false
same_ring (Lane f p) (Mail g) = false
same_ring (Output f) (Lane g q) = false
same_ring (Output f) (Output g) = f.0 == g.0
same_ring (Output f) (Mail g) = false
same_ring (Mail f) (Lane g q) = false
same_ring (Mail f) (Output g) = false
same_ring (Mail f) (Mail g) = f.0 == g.0

-- Buffers

-- the layout has this buffer
abbrev pub IsBuffer : Layout → ℕ → Type 0
IsBuffer layout buf = buf < layout.ports * layout.buffers

-- the port whose part of the pool has a buffer
abbrev pub port_of : Layout → ℕ → ℕ
port_of layout buf = buf / layout.buffers

-- Words

-- the layout has this word
abbrev pub IsWord : Layout → Word → Type 0
IsWord layout (Pool port index) = (port.0 < layout.ports) × (WORD_BITS * index < layout.buffers)
IsWord layout (Cell ring at) = IsRing layout ring × (at < ring_size layout ring)
IsWord layout (Post feeder) = IsFeeder layout feeder
IsWord layout (Weight f) = f.0 < layout.functions

-- the word that has a buffer's bit, and which bit it is
abbrev pub word_of : Layout → ℕ → Word
word_of layout buf = Pool (record { 0 = port_of layout buf }) (buf % layout.buffers / WORD_BITS)

abbrev pub bit_of : Layout → ℕ → ℕ
bit_of layout buf = buf % layout.buffers % WORD_BITS

-- the buffer of a bit of a word of a part
abbrev pub buffer_of_bit : Layout → (port index bit : ℕ) → ℕ
buffer_of_bit layout port index bit = port * layout.buffers + WORD_BITS * index + bit

abbrev pub same_word : Word → Word → Bool
same_word (Pool p i) (Pool q j) = (p.0 == q.0) && (i == j)
same_word (Pool p i) (Cell s b) = false
same_word (Pool p i) (Post n) = false
same_word (Pool p i) (Weight g) = false
same_word (Cell r a) (Pool q j) = false
same_word (Cell r a) (Cell s b) = same_ring r s && (a == b)
same_word (Cell r a) (Post n) = false
same_word (Cell r a) (Weight g) = false
same_word (Post m) (Pool q j) = false
same_word (Post m) (Cell s b) = false
same_word (Post m) (Post n) = m == n
same_word (Post m) (Weight g) = false
same_word (Weight f) (Pool q j) = false
same_word (Weight f) (Cell s b) = false
same_word (Weight f) (Post n) = false
same_word (Weight f) (Weight g) = f.0 == g.0
