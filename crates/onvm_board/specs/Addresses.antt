-- Where the words and slots of a board lie in its table: word 0 for split and join, and then a region for each kind.
use Rattle.std.specs.Prelude.{ℕ, ◌+◌, ◌-◌, ◌*◌, ◌/◌}
use Rattle.onvm_base.specs.declared.ids.RingId.{RingId}
use Rattle.onvm_base.specs.declared.ids.RingId.TheVariants.{Lane, Output, Mail}
use Rattle.onvm_core.specs.declared.layout.Layout.{Layout}
use Rattle.onvm_core.specs.declared.layout.Word.{Word}
use Rattle.onvm_core.specs.declared.layout.Word.TheVariants.{Pool, Cell, Post, Weight}
use Rattle.onvm_core.specs.Layouts.{feeder_count}
use Rattle.onvm_base.specs.declared.limits.TheConstants.{MAIL_RING, WORD_BITS}

-- how many words a port's part of the pool has
abbrev pub part_words : Layout → ℕ
part_words layout = (layout.buffers + (WORD_BITS - 1)) / WORD_BITS

-- the first word of the lanes
unfoldable pub lanes_at : Layout → ℕ
lanes_at layout = 1 + layout.ports * part_words layout

-- the first word of the output rings
unfoldable pub outputs_at : Layout → ℕ
outputs_at layout = lanes_at layout + layout.functions * feeder_count layout * layout.ring

-- the first word of the mail rings
unfoldable pub mails_at : Layout → ℕ
mails_at layout = outputs_at layout + layout.functions * layout.output

-- the first word of the posts
unfoldable pub posts_at : Layout → ℕ
posts_at layout = mails_at layout + layout.functions * MAIL_RING

-- the first word of the weights
unfoldable pub weights_at : Layout → ℕ
weights_at layout = posts_at layout + feeder_count layout

-- how many words a board has
unfoldable pub word_count : Layout → ℕ
word_count layout = weights_at layout + layout.functions

-- the word of a cell
abbrev pub cell_address : Layout → RingId → ℕ → ℕ
cell_address layout (Lane f feeder) at = lanes_at layout + ((f.0 * feeder_count layout + feeder) * layout.ring + at)
cell_address layout (Output f) at = outputs_at layout + (f.0 * layout.output + at)
cell_address layout (Mail f) at = mails_at layout + (f.0 * MAIL_RING + at)

-- the word of the table that stands for a word of the board
abbrev pub address : Layout → Word → ℕ
address layout (Pool port index) = 1 + (port.0 * part_words layout + index)
address layout (Cell ring at) = cell_address layout ring at
address layout (Post feeder) = posts_at layout + feeder
address layout (Weight f) = weights_at layout + f.0

-- how many buffers a board has. The slot of a buffer has the buffer's number
abbrev pub slot_count : Layout → ℕ
slot_count layout = layout.ports * layout.buffers
