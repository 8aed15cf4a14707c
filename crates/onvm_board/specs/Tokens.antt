-- Boards and tokens as contracts see them.
use Rattle.std.specs.Prelude.{◌≡◌, ℕ, ◌+◌, ◌/◌, ◌%◌, ◌^◌, ◌<◌, ◌≤◌, IsBitSet, false, List, [], ◌∷◌, ◌++◌, length, map, min, ◌==◌, if◌then◌else◌, replicate, slice_index_or, slice_set, Option, Some, None, unwrap_or}
use Rattle.atomic_table.specs.Seated.{TableId}
use Rattle.atomic_table.specs.Table.{rest}
use Rattle.onvm_base.specs.declared.ids.RingId.{RingId}
use Rattle.onvm_base.specs.declared.ids.RingId.TheVariants.{Lane, Output, Mail}
use Rattle.onvm_base.specs.declared.outcome.Outcome.{Outcome}
use Rattle.onvm_base.specs.declared.outcome.Outcome.TheVariants.{Sent, Dropped, Throttled, RingFull, PoolEmpty}
use Rattle.onvm_base.specs.declared.outcome.Record.{Record}
use Rattle.onvm_core.specs.declared.layout.Layout.{Layout}
use Rattle.onvm_core.specs.declared.parcel.Parcel.{Parcel}
use Rattle.onvm_core.specs.declared.step.Act.{Act}
use Rattle.onvm_core.specs.declared.step.Act.TheVariants.{Join, Look}
use Rattle.onvm_core.specs.declared.layout.Word.{Word}
use Rattle.onvm_core.specs.declared.layout.Word.TheVariants.{Pool as PoolWord, Cell, Post as PostWord, Weight}
use Rattle.onvm_core.specs.Layouts.{IsRing, IsFeeder, producer, consumer, ring_size, first_role, tick_role, word_of, bit_of}
use Rattle.onvm_core.specs.History.{History}
use Rattle.onvm_core.specs.Lawful.{IsLawful}
use Rattle.onvm_core.specs.Logs.{Log, log_of}
use Rattle.onvm_core.specs.Potential.{pushed_in, popped_in}
use Rattle.onvm_board.specs.declared.spot.Spot.{Spot}
use Rattle.onvm_board.specs.Addresses.{cell_address}
use Rattle.onvm_board.specs.Known.{held_buffers_in, is_split_in, post_count_in}
use Rattle.onvm_board.specs.Rule.{Hand, SeatState, hand_after, step_of, join_counts, AllJoined, MakesAct, IsLastStep, Telling}

-- a board: which one it is, and its layout
pub record BoardView : Type 0 where
  pub id : TableId
  pub layout : Layout

-- a token: its board, its role, the role's acts with the newest first, the buffer in hand with the content of its slot,
-- and what the first token keeps of the other roles: their logs as they were at their last joins, and for each Join in
-- its log how many acts the joined role had made
pub record TokenView : Type 0 where
  pub board : TableId
  pub role : ℕ
  pub log : Log
  pub hand : Hand
  pub logs : List Log
  pub counts : List ℕ

abbrev pub token_of : TableId → SeatState → TokenView
token_of id me =
    record { board = id; role = me.0.role; log = me.0.log; hand = me.1; logs = me.0.logs; counts = me.0.counts }

-- the buffers in a hand
abbrev pub buffers_of : Hand → List ℕ
buffers_of hand = map (λ x. x.0) hand

-- the hand has just the buffers that the log says, and the roles whose logs are kept held nothing when they were joined
pub record IsTied (log : Log) (hand : Hand) (logs : List Log) : Type 0 where
  pub holds : held_buffers_in log ≡ buffers_of hand
  pub empty : (role : ℕ) → held_buffers_in (slice_index_or logs role []) ≡ []

-- the token after an act: the log has the act, and the hand is the act's
abbrev pub token_after : Act → TokenView → TokenView
token_after act token = record token { log = act ∷ token.log; hand = hand_after act token.hand }

-- the token has made this act: it has one act more, and this is the last step of some lawful history in which the role's
-- earlier acts are the token's
pub record MakesStep (site : BoardView) (act : Act) (before after : TokenView) : Type 0 where
  pub grew : after ≡ token_after act before
  pub happened : IsLastStep site.layout before.role act before.log

-- the token with these acts more, the newest first, and this hand: what a stretch of steps changes of it
abbrev pub grown : Log → Hand → TokenView → TokenView
grown added hand token = record token { log = added ++ token.log; hand = hand }

-- the first token of a new board
abbrev pub first_token : BoardView → TokenView
first_token board =
    record {
      board = board.id;
      role = first_role board.layout;
      log = [];
      hand = [];
      logs = replicate (first_role board.layout) [];
      counts = [];
    }

-- a role's log as the first token keeps it
abbrev pub kept_log : ℕ → TokenView → Log
kept_log role token = slice_index_or token.logs role []

-- the token of a role that is split: it goes on with the log that it had at its last join
abbrev pub split_token : ℕ → TokenView → TokenView
split_token role token =
    record { board = token.board; role = role; log = kept_log role token; hand = []; logs = []; counts = [] }

-- the first token after it joined another
abbrev pub token_after_join : TokenView → TokenView → TokenView
token_after_join token other =
    record token {
      log = Join other.role ∷ token.log;
      logs = slice_set token.logs other.role other.log;
      counts = length other.log ∷ token.counts;
    }

-- the token is the first one of this board
pub record IsFirstToken (site : BoardView) (token : TokenView) : Type 0 where
  pub board : token.board ≡ site.id
  pub role : token.role ≡ first_role site.layout

-- a role of the board that isn't split now, by the first token's log
pub record IsUnsplit (site : BoardView) (role : ℕ) (token : TokenView) : Type 0 where
  pub below : role < first_role site.layout
  pub joined : is_split_in role token.log ≡ false

-- the token is this board's, of a role below the first token's
pub record IsRoleOf (site : BoardView) (token : TokenView) : Type 0 where
  pub board : token.board ≡ site.id
  pub below : token.role < first_role site.layout

-- a spot after so many pushes or pops of a ring
pub record StandsAt (size moved : ℕ) (spot : Spot) : Type 0 where
  pub inside : spot.cell < size
  pub cell : spot.cell ≡ moved % size
  pub filled : spot.filled ≡ min moved size

-- the token is the ring's producer, and its next push is at the spot
pub record IsTail (site : BoardView) (spot : Spot) (token : TokenView) : Type 0 where
  pub board : token.board ≡ site.id
  pub known : IsRing site.layout spot.ring
  pub mine : token.role ≡ producer site.layout spot.ring
  pub stands : StandsAt (ring_size site.layout spot.ring) (length (pushed_in spot.ring token.log)) spot
  pub based : spot.base ≡ cell_address site.layout spot.ring 0

-- the token is the ring's consumer, and its next pop is at the spot
pub record IsHead (site : BoardView) (spot : Spot) (token : TokenView) : Type 0 where
  pub board : token.board ≡ site.id
  pub known : IsRing site.layout spot.ring
  pub mine : token.role ≡ consumer site.layout spot.ring
  pub stands : StandsAt (ring_size site.layout spot.ring) (length (popped_in spot.ring token.log)) spot
  pub based : spot.base ≡ cell_address site.layout spot.ring 0

-- Kinds of rings

abbrev pub IsMailRing : RingId → Type 0
IsMailRing (Mail f) = Unit {0}
IsMailRing (Lane f feeder) = ⊥
IsMailRing (Output f) = ⊥

abbrev pub IsBufferRing : RingId → Type 0
IsBufferRing (Mail f) = ⊥
IsBufferRing (Lane f feeder) = Unit {0}
IsBufferRing (Output f) = Unit {0}

-- What calls ask of a token

-- the token holds the buffer
abbrev pub Holds : ℕ → TokenView → Type 0
Holds buf token = (content : Option Parcel) × (token.hand ≡ (buf, content) ∷ [])

-- the token with this in the slot of the buffer in hand
abbrev pub token_with : TokenView → ℕ → Option Parcel → TokenView
token_with token buf content = record token { hand = (buf, content) ∷ rest token.hand }

-- a parcel of nothing, for what can't be
abbrev pub blank_parcel : Parcel
blank_parcel =
    record {
      frame = record { port = record { 0 = 0 }; number = 0 };
      stamp = record { seconds = 0; nanos = 0; tail = 0 };
      packet = [];
      chain = record { 0 = 0 };
      cursor = 0;
      hash = 0;
      trail = [];
    }

abbrev pub first_parcel : Hand → Parcel
first_parcel [] = blank_parcel
first_parcel (x ∷ xs) = unwrap_or x.1 blank_parcel

-- the parcel in the slot of the buffer in hand
abbrev pub parcel_in : TokenView → Parcel
parcel_in token = first_parcel token.hand

-- the token holds the buffer with a parcel in its slot
abbrev pub Carries : ℕ → TokenView → Type 0
Carries buf token = token.hand ≡ (buf, Some (parcel_in token)) ∷ []

-- the token's last act is a look that showed the buffer's bit
pub record SawBit (layout : Layout) (buf : ℕ) (token : TokenView) : Type 0 where
  pub seen : ℕ
  pub told : Option Record
  pub earlier : Log
  pub last : token.log ≡ Look (word_of layout buf) seen told ∷ earlier
  pub shown : IsBitSet seen (bit_of layout buf)

-- the role is the word's writer, and a feeder's posts are numbered 1, 2, .. in the upper 32 bits
abbrev pub MayPost : Layout → ℕ → Log → Word → ℕ → Type 0
MayPost layout role log (PostWord feeder) value =
    IsFeeder layout feeder × (role ≡ feeder) × (value / 2 ^ 32 ≡ post_count_in (PostWord feeder) log + 1)
MayPost layout role log (Weight f) value = (f.0 < layout.functions) × (role ≡ tick_role layout)
MayPost layout role log (PoolWord port index) value = ⊥
MayPost layout role log (Cell ring at) value = ⊥

-- an outcome of a give
abbrev pub IsGiveOutcome : Outcome → Type 0
IsGiveOutcome (Sent port) = Unit {0}
IsGiveOutcome (Dropped function why) = Unit {0}
IsGiveOutcome (RingFull ring) = Unit {0}
IsGiveOutcome (Throttled feeder post function) = ⊥
IsGiveOutcome PoolEmpty = ⊥

-- What the first token knows where no role is split

-- the log of each role, as the first token has it
abbrev pub logs_of : Layout → Log → List Log → ℕ → Log
logs_of layout log logs role = if role == first_role layout then log else slice_index_or logs role []

-- the first token's log, the logs that it keeps and its kept numbers are those of this lawful history
pub record AreLogsOf (layout : Layout) (log : Log) (logs : List Log) (counts : List ℕ) (past : History) : Type 0 where
  pub lawful : IsLawful layout past
  pub logs_are : (role : ℕ) → role ≤ first_role layout → logs_of layout log logs role ≡ log_of role past
  pub counts_are : counts ≡ join_counts past

-- a look of the first token where no role is split is the last step of a lawful history whose logs the token has
abbrev pub TellsHistory : Layout → Act → SeatState → SeatState → Type 0
TellsHistory layout act me after =
    me.0.role ≡ first_role layout → AllJoined layout me.0.log
    → (past : History) × AreLogsOf layout after.0.log after.0.logs after.0.counts (step_of me.0.role act ∷ past)

-- a look, with what it tells the first token
abbrev pub TellsLook : Layout → Word → (ℕ → Option Record) → Telling
TellsLook layout word told me found after =
    MakesAct layout (Look word found (told found)) me after × TellsHistory layout (Look word found (told found)) me after

-- no record
abbrev pub no_record : ℕ → Option Record
no_record found = None

-- the first token has the logs and the numbers of one lawful history, which ends with this act of its own
abbrev pub EndsHistory : BoardView → Act → TokenView → Type 0
EndsHistory site act token =
    (past : History) × AreLogsOf site.layout token.log token.logs token.counts (step_of token.role act ∷ past)
