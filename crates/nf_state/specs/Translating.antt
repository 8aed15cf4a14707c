-- What NAT does with a packet.
use Rattle.std.specs.Prelude.{◌≡◌, ◌⊎◌, ℕ, ◌==◌, if◌then◌else◌, true, Option, Some, None, List, []}
use Rattle.std.specs.Bool.{MatchBool}
use Rattle.onvm_base.specs.declared.rules.Prefix.{Prefix}
use Rattle.onvm_base.specs.declared.outcome.Verdict.{Verdict}
use Rattle.onvm_base.specs.declared.outcome.Verdict.TheVariants.{Drop, Next}
use Rattle.onvm_packet.specs.Holding.{covers_ipv4}
use Rattle.nf_state.specs.Mappings.{AreFair, IsFree, IsUnmapped, Assigns, Mapping, Maps}
use Rattle.nf_state.specs.Rewriting.{with_source, with_target}
use Rattle.nf_state.specs.Segments.{is_whole, segment_of}
use Rattle.nf_state.specs.declared.mappings.Endpoint.{Endpoint}
use Rattle.nf_state.specs.declared.segment.Segment.{Segment}

-- who is inside, and the outside address with its ports
pub record Parameters : Type 0 where
  pub inside : Prefix
  pub outside : ℕ
  pub ports : ℕ × ℕ

-- the mappings of each protocol, in the order in which they were made
pub record Held : Type 0 where
  pub tcp : List Mapping
  pub udp : List Mapping

abbrev pub no_mappings : Held
no_mappings = record { tcp = []; udp = [] }

abbrev pub of_protocol : ℕ → Held → List Mapping
of_protocol protocol held = if protocol == 6 then held.tcp else held.udp

abbrev pub with_protocol : ℕ → List Mapping → Held → Held
with_protocol protocol mappings held =
    if protocol == 6 then record { tcp = mappings; udp = held.udp } else record { tcp = held.tcp; udp = mappings }

-- every mapping that there was is there
abbrev pub Stay : Held → Held → Type 0
Stay before after =
    (protocol : ℕ) (inside : Endpoint) (outside : ℕ) → Maps (of_protocol protocol before) inside outside
    → Maps (of_protocol protocol after) inside outside

-- of each protocol, an outside port stands for one sender, and a sender has one port
abbrev pub IsFair : Held → Type 0
IsFair held = AreFair held.tcp × AreFair held.udp

abbrev pub sender : Segment → Endpoint
sender segment = record { address = segment.source; port = segment.source_port }

-- this verdict, and nothing changes
pub record Stays (given : Verdict) (bytes : List ℕ) (before : Held) (verdict : Verdict) (left : List ℕ) (after : Held)
    : Type 0 where
  pub verdict_is : verdict ≡ given
  pub bytes_are : left ≡ bytes
  pub same : after ≡ before

-- on from the outside address and the port, where there is one
abbrev pub GoesOut : ℕ → Segment → Option ℕ → List ℕ → Verdict → List ℕ → Type 0
GoesOut address segment None bytes verdict left = (verdict ≡ Drop) × (left ≡ bytes)
GoesOut address segment (Some port) bytes verdict left =
    (verdict ≡ Next) × (left ≡ with_source segment address port bytes)

-- a packet from inside goes on from the outside address, by the port that is assigned to its sender
pub record Leaves (parameters : Parameters) (segment : Segment) (bytes : List ℕ) (before : Held) (verdict : Verdict)
    (left : List ℕ) (after : Held) : Type 0 where
  pub port : Option ℕ
  pub mappings : List Mapping
  pub assigned : Assigns parameters.ports (of_protocol segment.protocol before) (sender segment) port mappings
  pub out : GoesOut parameters.outside segment port bytes verdict left
  pub kept : after ≡ with_protocol segment.protocol mappings before

-- on to the sender inside that has the port
pub record ComesIn (segment : Segment) (bytes : List ℕ) (before : Held) (verdict : Verdict) (left : List ℕ)
    (after : Held) : Type 0 where
  pub to : Endpoint
  pub there : Maps (of_protocol segment.protocol before) to segment.target_port
  pub verdict_is : verdict ≡ Next
  pub bytes_are : left ≡ with_target segment to.address to.port bytes
  pub same : after ≡ before

-- a packet to the outside address goes on to the sender that has its port, if there is one
abbrev pub Enters : Segment → List ℕ → Held → Verdict → List ℕ → Held → Type 0
Enters segment bytes before verdict left after =
    ComesIn segment bytes before verdict left after
    ⊎ (IsFree (of_protocol segment.protocol before) segment.target_port × Stays Next bytes before verdict left after)

abbrev pub TranslatesWhole : Parameters → Segment → List ℕ → Held → Verdict → List ℕ → Held → Type 0
TranslatesWhole parameters segment bytes before verdict left after =
    MatchBool (covers_ipv4 parameters.inside segment.source)
    (Leaves parameters segment bytes before verdict left after)
    (MatchBool (segment.target == parameters.outside)
    (Enters segment bytes before verdict left after)
    (Stays Next bytes before verdict left after))

abbrev pub TranslatesSegment : Parameters → Option Segment → List ℕ → Held → Verdict → List ℕ → Held → Type 0
TranslatesSegment parameters None bytes before verdict left after = Stays Next bytes before verdict left after
TranslatesSegment parameters (Some segment) bytes before verdict left after =
    MatchBool (is_whole segment bytes)
    (TranslatesWhole parameters segment bytes before verdict left after)
    (Stays Drop bytes before verdict left after)

-- a packet without ports goes on, and one that is cut is dropped
abbrev pub Translates : Parameters → Held → List ℕ → Verdict → List ℕ → Held → Type 0
Translates parameters before bytes verdict left after =
    TranslatesSegment parameters (segment_of bytes) bytes before verdict left after

-- a packet from a sender inside that has no port yet
abbrev pub WantsFor : Parameters → Held → Option Segment → Type 0
WantsFor parameters held None = ⊥
WantsFor parameters held (Some segment) =
    (covers_ipv4 parameters.inside segment.source ≡ true)
    × IsUnmapped (of_protocol segment.protocol held) (sender segment)

-- a parameters and the mappings made by it
pub record Translation : Type 0 where
  pub parameters : Parameters
  pub held : Held
