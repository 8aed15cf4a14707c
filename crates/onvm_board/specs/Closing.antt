-- A closed board.
use Rattle.std.specs.Prelude.{ℕ, ◌≡◌, ◌+◌, ◌-◌, zero, suc, Bool, not, List, Option, slice_index}
use Rattle.std.specs.Int.{bit_at}
use mathlib.Core.Option.{some}
use lib.ListN.{get_elem?}
use Rattle.onvm_core.specs.declared.layout.Layout.{Layout}
use Rattle.onvm_core.specs.declared.parcel.Parcel.{Parcel}
use Rattle.onvm_core.specs.Layouts.{IsBuffer, word_of, bit_of}
use Rattle.onvm_core.specs.History.{History, place_of}
use Rattle.onvm_core.specs.Places.{numbers_below, how_many}
use Rattle.onvm_core.specs.Words.{is_pool}
use Rattle.onvm_core.specs.Logs.{Log}
use Rattle.onvm_board.specs.Addresses.{address, slot_count}
use Rattle.onvm_board.specs.Homes.{home_of}
use Rattle.onvm_board.specs.Rule.{ShowsWords}
use Rattle.onvm_board.specs.Tokens.{AreLogsOf}

-- a closed board: what the first token knew at last, how many buffers weren't in the pool, and what words and slots were
pub record ClosedView : Type 0 where
  pub layout : Layout
  pub log : Log
  pub logs : List Log
  pub counts : List ℕ
  pub left : ℕ
  pub words : List ℕ
  pub slots : List (Option Parcel)

-- a buffer isn't in the pool
abbrev pub is_away : History → ℕ → Bool
is_away past buf = not (is_pool (place_of buf past))

-- how many buffers of a board aren't in the pool
abbrev pub away_count : Layout → History → ℕ
away_count layout past = how_many (is_away past) (numbers_below (slot_count layout))

-- the bit of a buffer in these words
abbrev pub bit_in : Layout → List ℕ → ℕ → ℕ
bit_in layout words buf = bit_at (slice_index words (address layout (word_of layout buf))) (bit_of layout buf)

-- of the first n buffers, how many have no bit in these words
abbrev pub missing_count : Layout → List ℕ → ℕ → ℕ
missing_count layout words zero = 0
missing_count layout words (suc n) = (1 - bit_in layout words n) + missing_count layout words n

-- the slot of each buffer that no role holds has what the history leaves there
abbrev pub ShowsSlots : Layout → List (Option Parcel) → History → Type 0
ShowsSlots layout slots past =
    (buf : ℕ) (content : Option Parcel) → IsBuffer layout buf → home_of buf past ≡ some content
    → get_elem? slots buf ≡ some content

-- what is kept is of this lawful history: logs and numbers are the history's, words and slots stand for it, and so many
-- buffers are away after it
pub record IsEndOf (closed : ClosedView) (past : History) : Type 0 where
  pub is : AreLogsOf closed.layout closed.log closed.logs closed.counts past
  pub shows_words : ShowsWords closed.layout closed.words past
  pub shows_slots : ShowsSlots closed.layout closed.slots past
  pub away : closed.left ≡ away_count closed.layout past
