-- The pattern of a receive role's log: one block for each frame of its port, in order, and marks passes between.
use Rattle.std.specs.Prelude.{ℕ, ◌≡◌, ◌+◌, ◌*◌, ◌/◌, ◌%◌, ◌^◌, ◌<◌, ◌≤◌, ◌⊎◌, ◌==◌, if◌then◌else◌, IsBitSet, [], ◌∷◌, Option, Some, None}
use Rattle.onvm_base.specs.declared.limits.TheConstants.{WORD_BITS}
use Rattle.onvm_base.specs.declared.ids.FnId.{FnId}
use Rattle.onvm_base.specs.declared.ids.RingId.{RingId}
use Rattle.onvm_base.specs.declared.ids.RingId.TheVariants.{Lane}
use Rattle.onvm_base.specs.declared.outcome.Outcome.TheVariants.{Sent, Throttled, RingFull, PoolEmpty}
use Rattle.onvm_base.specs.declared.outcome.Record.{Record}
use Rattle.onvm_base.specs.declared.moves.Move.TheVariants.{To, Leave}
use Rattle.onvm_base.specs.Moves.{IsOfChain, enter}
use Rattle.onvm_core.specs.declared.entry.Entry.{Entry}
use Rattle.onvm_core.specs.declared.layout.Layout.{Layout}
use Rattle.onvm_core.specs.declared.layout.Word.{Word}
use Rattle.onvm_core.specs.declared.layout.Word.TheVariants.{Pool as PoolWord, Cell, Post as PostWord}
use Rattle.onvm_core.specs.declared.step.Item.TheVariants.{Buffer}
use Rattle.onvm_core.specs.declared.step.Act.{Act}
use Rattle.onvm_core.specs.declared.step.Act.TheVariants.{Take, Give, Push, Full, Look, Post}
use Rattle.onvm_core.specs.Layouts.{IsBuffer, bit_of, word_of, feeder_count}
use Rattle.onvm_core.specs.Logs.{Log, Setting, entry_parcel, entry_after}

-- where a receive role stands: so many blocks have ended, and in the next one ..
pub data ReceivePhase : Type 0 where
  Between : (done : ℕ) → ReceivePhase
  -- .. so many post words were looked at, and none had a bit of the chain
  Asks : (done asked : ℕ) → ReceivePhase
  -- .. every post word was looked at, and so many words of the part, each 0
  Seeks : (done sought : ℕ) → ReceivePhase
  -- .. this word of the part had this value
  Sees : (done index seen : ℕ) → ReceivePhase
  -- .. this buffer was taken
  Took : (done buf : ℕ) → ReceivePhase
  -- .. and this ring was found full
  Barred : (done buf : ℕ) (ring : RingId) → ReceivePhase

-- a look at a post word, and at a word of the part: with a record the block ends
abbrev pub phase_after_ask : Setting → (done k : ℕ) → Option Record → ReceivePhase
phase_after_ask setting done k None = if k + 1 == feeder_count setting.layout then Seeks done 0 else Asks done (k + 1)
phase_after_ask setting done k (Some told) = Between (done + 1)

abbrev pub phase_after_seek : (done k seen : ℕ) → Option Record → ReceivePhase
phase_after_seek done k seen None = if seen == 0 then Seeks done (k + 1) else Sees done k seen
phase_after_seek done k seen (Some told) = Between (done + 1)

-- where an act leads
abbrev pub receive_after : Setting → ReceivePhase → Act → ReceivePhase
receive_after setting (Between done) (Look (PostWord feeder) seen told) = phase_after_ask setting done 0 told
receive_after setting (Asks done k) (Look word seen told) = phase_after_ask setting done k told
receive_after setting (Seeks done k) (Look word seen told) = phase_after_seek done k seen told
receive_after setting (Sees done index seen) (Take buf) = Took done buf.0
receive_after setting (Took done buf) (Push ring item) = Between (done + 1)
receive_after setting (Took done buf) (Give b outcome parcel) = Between (done + 1)
receive_after setting (Took done buf) (Full ring) = Barred done buf ring
receive_after setting (Barred done buf ring) (Give b outcome parcel) = Between (done + 1)
receive_after setting phase _ = phase

abbrev pub receive_phase : Setting → Log → ReceivePhase
receive_phase setting [] = Between 0
receive_phase setting (act ∷ before) = receive_after setting (receive_phase setting before) act

-- how many blocks have ended
abbrev pub done_count : ReceivePhase → ℕ
done_count (Between done) = done
done_count (Asks done k) = done
done_count (Seeks done k) = done
done_count (Sees done index seen) = done
done_count (Took done buf) = done
done_count (Barred done buf ring) = done

-- Part 1, admit: looks at the post words of the feeders in order

-- the value has the bit of a function of the frame's chain
pub record Raises (setting : Setting) (e : Entry) (seen f : ℕ) : Type 0 where
  pub of_chain : IsOfChain setting.plan e.chain f
  pub bit : IsBitSet (seen % 2 ^ 32) f

-- the first value with such a bit records the frame as throttled, by this post and the lowest such function
pub record IsThrottleRecord (setting : Setting) (e : Entry) (k seen : ℕ) (told : Record) : Type 0 where
  pub function : ℕ
  pub raised : Raises setting e seen function
  pub lowest : (g : ℕ) → g < function → ¬ Raises setting e seen g
  pub told_is : told ≡ record { frame = e.frame; outcome = Throttled k (seen / 2 ^ 32) (record { 0 = function }) }

abbrev pub MayAsk : Setting → Entry → ℕ → Word → ℕ → Option Record → Type 0
MayAsk setting e k word seen None = (word ≡ PostWord k) × ((f : ℕ) → ¬ Raises setting e seen f)
MayAsk setting e k word seen (Some told) = (word ≡ PostWord k) × IsThrottleRecord setting e k seen told

-- Part 2, seek: looks at the words of the part in order. Where the last one is 0 too, the pool is empty

pub record IsPoolEmptyRecord (setting : Setting) (e : Entry) (k seen : ℕ) (told : Record) : Type 0 where
  pub none : seen ≡ 0
  pub last : setting.layout.buffers ≤ WORD_BITS * (k + 1)
  pub told_is : told ≡ record { frame = e.frame; outcome = PoolEmpty }

abbrev pub MaySeek : Setting → ℕ → Entry → ℕ → Word → ℕ → Option Record → Type 0
MaySeek setting port e k word seen None =
    (word ≡ PoolWord (record { 0 = port }) k) × (seen ≡ 0 → WORD_BITS * (k + 1) < setting.layout.buffers)
MaySeek setting port e k word seen (Some told) =
    (word ≡ PoolWord (record { 0 = port }) k) × IsPoolEmptyRecord setting e k seen told

-- Part 3, take: the buffer of the lowest bit shown
pub record IsLowest (layout : Layout) (port index seen buf : ℕ) : Type 0 where
  pub known : IsBuffer layout buf
  pub word : word_of layout buf ≡ PoolWord (record { 0 = port }) index
  pub shown : IsBitSet seen (bit_of layout buf)
  pub lowest : (k : ℕ) → k < bit_of layout buf → ¬ IsBitSet seen k

-- Part 4, enter: the move decides

-- the frame enters to a function, by this role's lane to it
pub record EntersBy (setting : Setting) (port : ℕ) (e : Entry) (ring : RingId) : Type 0 where
  pub function : FnId
  pub cursor : ℕ
  pub move : enter setting.plan e.chain e.hash ≡ To function cursor
  pub lane : ring ≡ Lane function port

abbrev pub MayEnter : Setting → ℕ → Entry → ℕ → Act → Type 0
MayEnter setting port e buf (Push ring (Buffer b parcel)) =
    (b.0 ≡ buf) × (parcel ≡ entry_parcel e) × EntersBy setting port e ring
MayEnter setting port e buf (Full ring) = EntersBy setting port e ring
MayEnter setting port e buf (Give b (Sent q) parcel) =
    (b.0 ≡ buf) × (parcel ≡ entry_parcel e) × (enter setting.plan e.chain e.hash ≡ Leave q)
MayEnter setting port e buf _ = ⊥

-- the act may follow in this phase of the block of this frame
abbrev pub MayReceiveFor : Setting → ℕ → Entry → ReceivePhase → Act → Type 0
MayReceiveFor setting port e (Between done) (Look word seen told) = MayAsk setting e 0 word seen told
MayReceiveFor setting port e (Asks done k) (Look word seen told) = MayAsk setting e k word seen told
MayReceiveFor setting port e (Seeks done k) (Look word seen told) = MaySeek setting port e k word seen told
MayReceiveFor setting port e (Sees done index seen) (Take buf) = IsLowest setting.layout port index seen buf.0
MayReceiveFor setting port e (Took done buf) act = MayEnter setting port e buf act
MayReceiveFor setting port e (Barred done buf ring) (Give b outcome parcel) =
    (b.0 ≡ buf) × (outcome ≡ RingFull ring) × (parcel ≡ entry_parcel e)
MayReceiveFor setting port e phase act = ⊥

-- Marks passes stand between blocks

-- a step of a marks pass: a look at a cell of an own lane, or a post on the own word
abbrev pub IsMarkAct : Setting → ℕ → Act → Type 0
IsMarkAct setting feeder (Look (Cell (Lane f p) at) seen told) =
    (f.0 < setting.layout.functions) × (p ≡ feeder) × (at < setting.layout.ring) × (told ≡ None)
IsMarkAct setting feeder (Post word new) = word ≡ PostWord feeder
IsMarkAct setting feeder _ = ⊥

abbrev pub IsBetween : ReceivePhase → Type 0
IsBetween (Between done) = Unit {0}
IsBetween _ = ⊥

-- the act may follow in the log of the receive role of a port
abbrev pub MayReceive : Setting → ℕ → Log → Act → Type 0
MayReceive setting port before act =
    (IsBetween (receive_phase setting before) × IsMarkAct setting port act)
    ⊎ ((e : Entry) × (entry_after setting port (done_count (receive_phase setting before)) ≡ Some e)
    × MayReceiveFor setting port e (receive_phase setting before) act)
