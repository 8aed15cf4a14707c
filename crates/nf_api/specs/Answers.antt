-- What each kind of function that keeps nothing answers for a frame: a verdict, and the bytes that it leaves.
use Rattle.std.specs.Prelude.{◌≡◌, ℕ, ◌+◌, ◌-◌, ◌*◌, ◌%◌, Bool, true, false, nat_le, if◌then◌else◌, Option, Some, None, List, [], ◌∷◌, length, slice_index}
use Rattle.onvm_base.specs.declared.function.Kind.{Kind}
use Rattle.onvm_base.specs.declared.function.Kind.TheVariants as kind
use Rattle.onvm_base.specs.declared.ids.PortId.{PortId}
use Rattle.onvm_base.specs.declared.limits.TheConstants.{MAX_FRAME_BYTES}
use Rattle.onvm_base.specs.declared.outcome.Verdict.{Verdict}
use Rattle.onvm_base.specs.declared.outcome.Verdict.TheVariants.{Drop, Next, ToService, Out}
use Rattle.onvm_base.specs.declared.rules.Tests.{Tests}
use Rattle.onvm_packet.specs.Edits.{with_ttl, with_macs, with_tag, without_tag}
use Rattle.onvm_packet.specs.Flow.{flow_hash_of}
use Rattle.onvm_packet.specs.Heads.{heads_of, is_tagged, net_of, ttl_of}
use Rattle.onvm_packet.specs.Holding.{do_hold}
use Rattle.onvm_packet.specs.declared.heads.Heads.{Heads}
use Rattle.onvm_packet.specs.declared.heads.TheConstants.{ETHERNET_LEN, TAG_LEN}
use Rattle.nf_api.specs.Routing.{IsRouted}
use Rattle.nf_api.specs.Acts.{Acts}

abbrev pub Answer : Type 0
Answer = Verdict × List ℕ

-- the tests of one object hold
abbrev pub does_match : List Tests → PortId → Heads → Bool
does_match [] port heads = false
does_match (tests ∷ rest) port heads = if do_hold tests port heads then true else does_match rest port heads

abbrev pub filter_answer : List Tests → PortId → List ℕ → Answer
filter_answer tests port bytes = (if does_match tests port (heads_of bytes) then Drop else Next, bytes)

-- RFC 1812, 5.3.1, and RFC 8200, 3: a forwarded frame has one less, and none is forwarded with 0
abbrev pub ttl_answer : Option ℕ → List ℕ → Answer
ttl_answer None bytes = (Next, bytes)
ttl_answer (Some ttl) bytes = if nat_le ttl 1 then (Drop, bytes) else (Next, with_ttl (ttl - 1) bytes)

-- IEEE 802.1Q: in the tag control information the priority is the high three bits, the VLAN the low twelve
abbrev pub tci_of : ℕ → ℕ → ℕ
tci_of vlan priority = priority * 8192 + vlan

-- a frame without a type has no place for a tag
abbrev pub has_type : List ℕ → Bool
has_type bytes = nat_le ETHERNET_LEN (length bytes)

-- the frame isn't too long with a tag
abbrev pub has_room : List ℕ → Bool
has_room bytes = nat_le (length bytes + TAG_LEN) MAX_FRAME_BYTES

abbrev pub tag_answer : ℕ → List ℕ → Answer
tag_answer tci bytes =
    if has_type bytes then (if has_room bytes then (Next, with_tag tci bytes) else (Drop, bytes)) else (Next, bytes)

abbrev pub without_tag_if_any : List ℕ → List ℕ
without_tag_if_any bytes = if is_tagged bytes then without_tag bytes else bytes

abbrev pub with_macs_if_typed : List ℕ → List ℕ → List ℕ → List ℕ
with_macs_if_typed target source bytes = if has_type bytes then with_macs target source bytes else bytes

-- the frames of a flow go to one service. A list of services is never empty (`IsKind`)
abbrev pub balance_verdict : List ℕ → Heads → Verdict
balance_verdict services heads = ToService (slice_index services (flow_hash_of heads % length services))

abbrev pub GivesAndLeaves : Answer → Verdict → List ℕ → Type 0
GivesAndLeaves answer verdict left = (verdict ≡ answer.0) × (left ≡ answer.1)

-- a function of this kind answers so for the bytes of a frame that this port received, and leaves these bytes.
-- Kinds that keep something have no answer by the frame alone
abbrev pub IsAnswer : Kind → PortId → List ℕ → Verdict → List ℕ → Type 0
IsAnswer kind.Forward port bytes = GivesAndLeaves (Next, bytes)
IsAnswer kind.Drop port bytes = GivesAndLeaves (Drop, bytes)
IsAnswer (kind.Out to) port bytes = GivesAndLeaves (Out to, bytes)
IsAnswer (kind.To service) port bytes = GivesAndLeaves (ToService service, bytes)
IsAnswer (kind.Filter tests) port bytes = GivesAndLeaves (filter_answer tests port bytes)
IsAnswer kind.Ttl port bytes = GivesAndLeaves (ttl_answer (ttl_of (net_of bytes)) bytes)
IsAnswer (kind.Tag vlan priority) port bytes = GivesAndLeaves (tag_answer (tci_of vlan priority) bytes)
IsAnswer kind.Untag port bytes = GivesAndLeaves (Next, without_tag_if_any bytes)
IsAnswer (kind.Macs target source) port bytes = GivesAndLeaves (Next, with_macs_if_typed target source bytes)
IsAnswer (kind.Route table) port bytes =
    λ verdict left. IsRouted table (net_of bytes) verdict × (left ≡ bytes)
IsAnswer (kind.Balance services) port bytes = GivesAndLeaves (balance_verdict services (heads_of bytes), bytes)
IsAnswer _ port bytes = λ verdict left. ⊥

-- what a function of a kind that keeps nothing does: it answers by the frame alone, and its state stays as it is
abbrev pub ActsStatelessly : Kind → Acts
ActsStatelessly kind before bytes meta verdict left after =
    IsAnswer kind meta.frame.port bytes verdict left × (after ≡ before)

-- the stateless kinds that pick where a frame goes by its heads
abbrev pub is_routing : Kind → Bool
is_routing (kind.Route table) = true
is_routing (kind.Balance services) = true
is_routing _ = false

-- the other stateless kinds
abbrev pub is_steady : Kind → Bool
is_steady kind.Forward = true
is_steady kind.Drop = true
is_steady (kind.Out port) = true
is_steady (kind.To service) = true
is_steady (kind.Filter tests) = true
is_steady kind.Ttl = true
is_steady (kind.Tag vlan priority) = true
is_steady kind.Untag = true
is_steady (kind.Macs target source) = true
is_steady _ = false
