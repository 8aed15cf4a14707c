-- The values of the board's words.
use Rattle.std.specs.Prelude.{ℕ, zero, suc, ◌+◌, ◌*◌, ◌^◌, ◌%◌, Bool, true, false, ◌==◌, ◌&&◌, nat_lt, if◌then◌else◌, List, [], ◌∷◌, length}
use Rattle.onvm_base.specs.declared.limits.TheConstants.{WORD_BITS}
use Rattle.onvm_core.specs.declared.layout.Layout.{Layout}
use Rattle.onvm_core.specs.declared.layout.Word.{Word}
use Rattle.onvm_core.specs.declared.layout.Word.TheVariants.{Pool as PoolWord, Cell, Post, Weight}
use Rattle.onvm_core.specs.declared.step.Item.{Item}
use Rattle.onvm_core.specs.declared.step.Item.TheVariants.{Buffer, Number}
use Rattle.onvm_core.specs.declared.place.Place.{Place}
use Rattle.onvm_core.specs.declared.place.Place.TheVariants.{Pool, Ring, Role}
use Rattle.onvm_core.specs.Layouts.{buffer_of_bit, ring_size}
use Rattle.onvm_core.specs.History.{History, content_of, popped_from, place_of, posted_on}

abbrev pub is_pool : Place → Bool
is_pool Pool = true
is_pool (Ring ring) = false
is_pool (Role role) = false

-- the number whose bit i is set exactly where the test holds of i, for i below n
abbrev pub bits : (ℕ → Bool) → ℕ → ℕ
bits test zero = 0
bits test (suc n) = (if test n then 2 ^ n else 0) + bits test n

-- the part has a buffer for this bit of this word, and its place is the pool
abbrev pub is_free : Layout → History → (port index bit : ℕ) → Bool
is_free layout past port index bit =
    nat_lt (WORD_BITS * index + bit) layout.buffers && is_pool (place_of (buffer_of_bit layout port index bit) past)

-- a pool word has the bits of its buffers whose place is the pool
unfoldable pub pool_bits : Layout → History → (port index : ℕ) → ℕ
pool_bits layout past port index = bits (is_free layout past port index) WORD_BITS

-- what a cell shows of an item: the buffer's number plus 1, or the number
abbrev pub number_of : Item → ℕ
number_of (Buffer buf parcel) = buf.0 + 1
number_of (Number n) = n

-- what stands in a cell of a ring of this size, where these items were pushed one after another, the first of them
-- after so many others: the number of the item whose turn the cell is, else 0
abbrev pub number_in_cell : (size at others : ℕ) → List Item → ℕ
number_in_cell size at others [] = 0
number_in_cell size at others (item ∷ items) =
    if others % size == at then number_of item else number_in_cell size at (others + 1) items

-- the value of a word
abbrev pub value_of : Layout → History → Word → ℕ
value_of layout past (PoolWord port index) = pool_bits layout past port.0 index
value_of layout past (Cell ring at) =
    number_in_cell (ring_size layout ring) at (length (popped_from ring past)) (content_of ring past)
value_of layout past (Post feeder) = posted_on (Post feeder) past
value_of layout past (Weight f) = posted_on (Weight f) past
