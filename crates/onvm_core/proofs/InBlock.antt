-- What a receive role does in the block of a frame, by cases: these acts in these phases, and no others.
use Rattle.std.proofs.Common.{◌≡◌, ℕ, Option, Some, None}
use Rattle.onvm_base.specs.declared.ids.RingId.{RingId}
use Rattle.onvm_base.specs.declared.ids.BufId.{BufId}
use Rattle.onvm_base.specs.declared.outcome.Record.{Record}
use Rattle.onvm_base.specs.declared.outcome.Outcome.{Outcome}
use Rattle.onvm_base.specs.declared.outcome.Outcome.TheVariants.{Sent}
use Rattle.onvm_core.specs.declared.entry.Entry.{Entry}
use Rattle.onvm_core.specs.declared.layout.Word.{Word}
use Rattle.onvm_core.specs.declared.layout.Word.TheVariants.{Post as PostWord}
use Rattle.onvm_core.specs.declared.parcel.Parcel.{Parcel}
use Rattle.onvm_core.specs.declared.step.Act.{Act}
use Rattle.onvm_core.specs.declared.step.Act.TheVariants.{Take, Give, Push, Full, Look}
use Rattle.onvm_core.specs.declared.step.Item.TheVariants.{Buffer}
use Rattle.onvm_core.specs.Logs.{Setting}
use Rattle.onvm_core.specs.Receiving.{ReceivePhase, MayAsk, MaySeek, IsLowest, MayEnter, EntersBy, MayReceiveFor}
use Rattle.onvm_core.specs.Receiving.ReceivePhase.{Between, Asks, Seeks, Sees, Took, Barred}

pub data InBlock (setting : Setting) (port : ℕ) (e : Entry) : ReceivePhase → Act → Type 0 where
  AsksFirst : (done feeder seen : ℕ) (told : Option Record) → MayAsk setting e 0 (PostWord feeder) seen told
      → InBlock setting port e (Between done) (Look (PostWord feeder) seen told)
  AsksOn : (done k : ℕ) (word : Word) (seen : ℕ) (told : Option Record) → MayAsk setting e k word seen told
      → InBlock setting port e (Asks done k) (Look word seen told)
  SeeksOn : (done k : ℕ) (word : Word) (seen : ℕ) (told : Option Record) → MaySeek setting port e k word seen told
      → InBlock setting port e (Seeks done k) (Look word seen told)
  Takes : (done index seen : ℕ) (buf : BufId) → IsLowest setting.layout port index seen buf.0
      → InBlock setting port e (Sees done index seen) (Take buf)
  Enters : (done buf : ℕ) (ring : RingId) (b : BufId) (parcel : Parcel)
      → MayEnter setting port e buf (Push ring (Buffer b parcel))
      → InBlock setting port e (Took done buf) (Push ring (Buffer b parcel))
  FindsFull : (done buf : ℕ) (ring : RingId) → EntersBy setting port e ring
      → InBlock setting port e (Took done buf) (Full ring)
  Leaves : (done buf : ℕ) (b : BufId) (q : ℕ) (parcel : Parcel) → MayEnter setting port e buf (Give b (Sent q) parcel)
      → InBlock setting port e (Took done buf) (Give b (Sent q) parcel)
  GivesBack : (done buf : ℕ) (ring : RingId) (b : BufId) (outcome : Outcome) (parcel : Parcel)
      → MayReceiveFor setting port e (Barred done buf ring) (Give b outcome parcel)
      → InBlock setting port e (Barred done buf ring) (Give b outcome parcel)

asked_word : (setting : Setting) (e : Entry) (k : ℕ) (word : Word) (seen : ℕ) (told : Option Record)
    → MayAsk setting e k word seen told
    → word ≡ PostWord k
asked_word setting e k word seen None may = may.0
asked_word setting e k word seen (Some told) may = may.0

pub in_block : (setting : Setting) (port : ℕ) (e : Entry) (phase : ReceivePhase) (act : Act)
    → MayReceiveFor setting port e phase act → InBlock setting port e phase act
in_block setting port e (Between done) (Look (PostWord f) seen told) may = AsksFirst done f seen told may
in_block setting port e (Between done) (Look word seen told) may =
    absurd (let off : word ≡ PostWord 0 = asked_word setting e 0 word seen told may in cc)
in_block setting port e (Asks done k) (Look a b c) may = AsksOn done k a b c may
in_block setting port e (Seeks done k) (Look a b c) may = SeeksOn done k a b c may
in_block setting port e (Sees done index seen) (Take a) may = Takes done index seen a may
in_block setting port e (Took done buf) (Give a (Sent q) c) may = Leaves done buf a q c may
in_block setting port e (Took done buf) (Push a (Buffer b c)) may = Enters done buf a b c may
in_block setting port e (Took done buf) (Full a) may = FindsFull done buf a may
in_block setting port e (Barred done buf ring) (Give a b c) may = GivesBack done buf ring a b c may
in_block setting port e phase act may = absurd may
