-- A block is of a frame that is there, so each frame that has begun is one of the setting's.
use Rattle.std.proofs.Common.{◌≡◌, ℕ, zero, suc, ◌+◌, ◌-◌, ◌<◌, ◌≤◌, true, inl, inr, List, [], ◌∷◌, length, refl, ◌∙◌, ap, arith, Option, Some, None}
use Rattle.std.specs.Prelude.{◌==◌, ◌&&◌, nat_lt, nat_le, slice_get}
use Rattle.std.proofs.lemmas.Bool.{cases_Bool, and_parts, ltb-true, lt-ltb, leb-true}
use Rattle.std.proofs.lemmas.Option.{slice_get_within}
use Rattle.onvm_base.specs.declared.ids.FrameId.{FrameId}
use Rattle.onvm_base.specs.declared.outcome.Record.{Record}
use Rattle.onvm_core.specs.declared.entry.Entry.{Entry}
use Rattle.onvm_core.specs.declared.layout.Word.TheVariants.{Post as PostWord}
use Rattle.onvm_core.specs.declared.step.Act.{Act}
use Rattle.onvm_core.specs.declared.step.Act.TheVariants.{Look}
use Rattle.onvm_core.specs.Layouts.{feeder_count}
use Rattle.onvm_core.specs.History.{History}
use Rattle.onvm_core.specs.Lawful.{IsLawful}
use Rattle.onvm_core.specs.Places.{one_if}
use Rattle.onvm_core.specs.Logs.{Setting, IsNumbered, Log, entries_of_port, log_of}
use Rattle.onvm_core.specs.Receiving.{IsBetween, IsMarkAct, ReceivePhase, done_count, phase_after_ask, phase_after_seek, receive_after, receive_phase}
use Rattle.onvm_core.specs.Receiving.ReceivePhase.{Asks, Barred, Between, Seeks, Sees, Took}
use Rattle.onvm_core.specs.Blocks.{AllOfBlocks}
use Rattle.onvm_core.specs.Blocks.RoleKind.{Receives}
use Rattle.onvm_core.specs.Frames.{IsNoFrame, begun_count, buffer_count, has_begun, record_count}
use Rattle.onvm_core.proofs.Balance.{one_record_or_buffer}
use Rattle.onvm_core.proofs.RoleKinds.{kind_receives}
use Rattle.onvm_core.proofs.Hands.{IsKind, is_kind}
use Rattle.onvm_core.proofs.InBlock.{InBlock, in_block}
use Rattle.onvm_core.proofs.InBlock.InBlock.{AsksFirst, AsksOn, Enters, FindsFull, GivesBack, Leaves, SeeksOn, Takes}
use Rattle.onvm_core.proofs.PerFrame.{InRange}

-- A block is of a frame that is there

abbrev pub HasRoom : ℕ → ReceivePhase → Type 0
HasRoom frames (Between done) = done ≤ frames
HasRoom frames (Asks done k) = done < frames
HasRoom frames (Seeks done k) = done < frames
HasRoom frames (Sees done index seen) = done < frames
HasRoom frames (Took done buf) = done < frames
HasRoom frames (Barred done buf ring) = done < frames

asked_room : (frames : ℕ) (setting : Setting) (done k : ℕ) (told : Option Record) → done < frames
    → HasRoom frames (phase_after_ask setting done k told)
asked_room frames setting done k None less =
    elim (cases_Bool (k + 1 == feeder_count setting.layout)) [ inl met ↦ rw met less | inr unmet ↦ rw unmet less ]
asked_room frames setting done k (Some told) less = omega (arith, less)

sought_room : (frames done k seen : ℕ) (told : Option Record) → done < frames
    → HasRoom frames (phase_after_seek done k seen told)
sought_room frames done k seen None less =
    elim (cases_Bool (seen == 0)) [ inl met ↦ rw met less | inr unmet ↦ rw unmet less ]
sought_room frames done k seen (Some told) less = omega (arith, less)

block_room : (frames : ℕ) (setting : Setting) (port : ℕ) (e : Entry) (phase : ReceivePhase) (act : Act)
    → done_count phase < frames → InBlock setting port e phase act
    → HasRoom frames (receive_after setting phase act)
block_room frames setting port e phase act less (AsksFirst done f v t may) = asked_room frames setting done 0 t less
block_room frames setting port e phase act less (AsksOn done k w v t may) = asked_room frames setting done k t less
block_room frames setting port e phase act less (SeeksOn done k w v t may) = sought_room frames done k v t less
block_room frames setting port e phase act less (Takes done index seen b may) = less
block_room frames setting port e phase act less (Enters done buf ring b parcel may) = omega (arith, less)
block_room frames setting port e phase act less (FindsFull done buf ring may) = less
block_room frames setting port e phase act less (Leaves done buf b q parcel may) = omega (arith, less)
block_room frames setting port e phase act less (GivesBack done buf ring b outcome parcel may) = omega (arith, less)

mark_room : (frames : ℕ) (setting : Setting) (port : ℕ) (phase : ReceivePhase) (act : Act)
    → IsBetween phase → IsMarkAct setting port act → HasRoom frames phase
    → HasRoom frames (receive_after setting phase act)
mark_room frames setting port (Between done) (Look (PostWord f) v told) between may room = absurd may
mark_room frames setting port (Between done) act between may room = room
mark_room frames setting port phase act between may room = absurd between

pub has_room : (setting : Setting) (port : ℕ) (log : Log) → IsKind setting port Receives log
    → HasRoom (length (entries_of_port port setting.entries)) (receive_phase setting log)
has_room setting port [] kind = omega arith
has_room setting port (act ∷ before) kind =
    elim kind.0 [
      | inl mark ↦
          mark_room (length (entries_of_port port setting.entries)) setting port (receive_phase setting before) act
          mark.0 mark.1 (has_room setting port before kind.1)
      | inr block ↦
          block_room (length (entries_of_port port setting.entries)) setting port block.0
          (receive_phase setting before) act
          (slice_get_within (entries_of_port port setting.entries) (done_count (receive_phase setting before)) block.0
          block.1)
          (in_block setting port block.0 (receive_phase setting before) act block.2)
    ]

begun_within : (frames : ℕ) (phase : ReceivePhase) → HasRoom frames phase → begun_count phase ≤ frames
begun_within frames (Between done) room = room
begun_within frames (Asks done k) room = omega (arith, room)
begun_within frames (Seeks done k) room = omega (arith, room)
begun_within frames (Sees done index seen) room = omega (arith, room)
begun_within frames (Took done buf) room = omega (arith, room)
begun_within frames (Barred done buf ring) room = omega (arith, room)

pub receive_kind : (setting : Setting) (past : History) (port : ℕ)
    → AllOfBlocks setting past → port < setting.layout.ports
    → IsKind setting port Receives (log_of port past)
receive_kind setting past port blocks known =
    is_kind setting port (log_of port past) Receives
    (kind_receives setting.layout port (lt-ltb port setting.layout.ports known)) (blocks port)

-- what has begun, said in parts
pub begun_parts : (setting : Setting) (past : History) (frame : FrameId) → has_begun setting frame past ≡ true
    → (frame.port.0 < setting.layout.ports) × (0 < frame.number)
    × (frame.number ≤ begun_count (receive_phase setting (log_of frame.port.0 past)))
begun_parts setting past frame begun =
    let both : (nat_lt frame.port.0 setting.layout.ports ≡ true)
    × ((nat_lt 0 frame.number && nat_le frame.number
    (begun_count (receive_phase setting (log_of frame.port.0 past)))) ≡ true)
    = and_parts (nat_lt frame.port.0 setting.layout.ports)
    (nat_lt 0 frame.number && nat_le frame.number
    (begun_count (receive_phase setting (log_of frame.port.0 past)))) begun in
    let rest : (nat_lt 0 frame.number ≡ true)
    × (nat_le frame.number (begun_count (receive_phase setting (log_of frame.port.0 past))) ≡ true)
    = and_parts (nat_lt 0 frame.number)
    (nat_le frame.number (begun_count (receive_phase setting (log_of frame.port.0 past)))) both.1 in (
      ltb-true frame.port.0 setting.layout.ports both.0,
      ltb-true 0 frame.number rest.0,
      leb-true frame.number (begun_count (receive_phase setting (log_of frame.port.0 past))) rest.1,
    )

-- what has begun is one of the frames
pub begun_in_range : (setting : Setting) (past : History) (frame : FrameId) → AllOfBlocks setting past
    → has_begun setting frame past ≡ true
    → InRange (λ port. length (entries_of_port port setting.entries)) setting.layout.ports frame
begun_in_range setting past frame blocks begun =
    let parts : (frame.port.0 < setting.layout.ports) × (0 < frame.number)
    × (frame.number ≤ begun_count (receive_phase setting (log_of frame.port.0 past)))
    = begun_parts setting past frame begun in
    let all : begun_count (receive_phase setting (log_of frame.port.0 past))
    ≤ length (entries_of_port frame.port.0 setting.entries)
    = begun_within (length (entries_of_port frame.port.0 setting.entries))
    (receive_phase setting (log_of frame.port.0 past))
    (has_room setting frame.port.0 (log_of frame.port.0 past)
    (receive_kind setting past frame.port.0 blocks parts.0)) in
    (parts.0, parts.1, omega (arith, parts.2, all))

get_within : (entries : List Entry) (k : ℕ) → k < length entries → (e : Entry) × (slice_get entries k ≡ Some e)
get_within [] k less = absurd (omega (arith, less))
get_within (e ∷ es) zero less = (e, refl)
get_within (e ∷ es) (suc k) less = get_within es k (omega (arith, less))

-- no other frame has a record or is in a buffer
pub no_other_frame : (setting : Setting) (past : History)
    → IsNumbered setting → IsLawful setting.layout past → AllOfBlocks setting past → (frame : FrameId)
    → IsNoFrame setting frame
    → (record_count frame past ≡ 0) × (buffer_count setting frame past ≡ 0)
no_other_frame setting past numbered lawful blocks frame other =
    let total : record_count frame past + buffer_count setting frame past ≡ one_if (has_begun setting frame past) =
    one_record_or_buffer setting frame past numbered lawful blocks in
    elim (cases_Bool (has_begun setting frame past)) [
      | inl begun ↦
          let within : InRange (λ p. length (entries_of_port p setting.entries)) setting.layout.ports frame =
          begun_in_range setting past frame blocks begun in
          let found : (e : Entry)
          × (slice_get (entries_of_port frame.port.0 setting.entries) (frame.number - 1) ≡ Some e)
          = get_within (entries_of_port frame.port.0 setting.entries) (frame.number - 1)
          (omega (arith, within.1, within.2)) in
          let number : frame.number - 1 + 1 ≡ frame.number = omega (arith, within.1) in
          let same : found.0.frame ≡ frame =
          numbered frame.port.0 (frame.number - 1) found.0 found.1
          ∙ ap (λ (n : ℕ). record { port = frame.port; number = n }) number in
          absurd (other frame.port.0 (frame.number - 1) found.0 within.0 found.1 same)
      | inr none ↦
          let nothing : one_if (has_begun setting frame past) ≡ 0 = ap one_if none in
          (omega (arith, total, nothing), omega (arith, total, nothing))
    ]
