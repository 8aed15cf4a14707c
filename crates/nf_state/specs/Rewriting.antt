-- New addresses and ports of a packet, with the checksums that cover them, word by word.
use Rattle.std.specs.Prelude.{ℕ, ◌+◌, ◌/◌, ◌%◌, ◌≤◌, ◌==◌, if◌then◌else◌, List, length}
use Rattle.byteorder.specs.Endian.{big_bytes}
use Rattle.onvm_packet.specs.Bytes.{number}
use Rattle.onvm_packet.specs.Checksum.{updated_checksum}
use Rattle.onvm_packet.specs.Edits.{with_bytes_at}
use Rattle.nf_state.specs.Segments.{needed}
use Rattle.nf_state.specs.declared.segment.Segment.{Segment}

abbrev pub with_word : ℕ → ℕ → List ℕ → List ℕ
with_word at word bytes = with_bytes_at at (big_bytes 2 word) bytes

-- RFC 791, 3.1: the checksum of an IPv4 header is bytes 10 and 11
abbrev pub with_head_sum : (at old new : ℕ) → List ℕ → List ℕ
with_head_sum at old new bytes = with_word (at + 10) (updated_checksum (number 2 (at + 10) bytes) old new) bytes

-- RFC 768: a checksum of UDP that is 0 says that there is none, and one that comes out as 0 is sent as all ones
abbrev pub all_ones_for_zero : ℕ → ℕ
all_ones_for_zero sum = if sum == 0 then 0xffff else sum

abbrev pub updated_udp_checksum : (sum old new : ℕ) → ℕ
updated_udp_checksum sum old new = if sum == 0 then 0 else all_ones_for_zero (updated_checksum sum old new)

abbrev pub updated_segment_checksum : (protocol sum old new : ℕ) → ℕ
updated_segment_checksum protocol sum old new = if protocol == 17 then updated_udp_checksum sum old new else updated_checksum sum old new

-- RFC 9293, 3.1: TCP's checksum is at byte 16 of its head. RFC 768: UDP's at byte 6
abbrev pub sum_at : Segment → ℕ
sum_at segment = segment.behind + (if segment.protocol == 6 then 16 else 6)

abbrev pub with_segment_sum : Segment → (old new : ℕ) → List ℕ → List ℕ
with_segment_sum segment old new bytes =
    with_word (sum_at segment) (updated_segment_checksum segment.protocol (number 2 (sum_at segment) bytes) old new) bytes

-- a word that both checksums cover
unfoldable pub address_word : Segment → (at new : ℕ) → List ℕ → List ℕ
address_word segment at new bytes =
    if number 2 at bytes == new then bytes
    else with_segment_sum segment (number 2 at bytes) new
    (with_head_sum segment.at (number 2 at bytes) new (with_word at new bytes))

-- a word that the checksum of TCP or UDP alone covers
unfoldable pub port_word : Segment → (at new : ℕ) → List ℕ → List ℕ
port_word segment at new bytes =
    if number 2 at bytes == new then bytes
    else with_segment_sum segment (number 2 at bytes) new (with_word at new bytes)

-- an address, high word first, and a port. A word that stays is left
abbrev pub rewritten : Segment → (address_at port_at address port : ℕ) → List ℕ → List ℕ
rewritten segment address_at port_at address port bytes =
    port_word segment port_at port
    (address_word segment (address_at + 2) (address % 65536) (address_word segment address_at (address / 65536) bytes))

-- RFC 791, 3.1: the source's address is bytes 12 to 15 of an IPv4 header, the target's 16 to 19. The ports of TCP and
-- UDP are bytes 0 and 1, and 2 and 3
abbrev pub with_source : Segment → (address port : ℕ) → List ℕ → List ℕ
with_source segment address port bytes = rewritten segment (segment.at + 12) segment.behind address port bytes

abbrev pub with_target : Segment → (address port : ℕ) → List ℕ → List ℕ
with_target segment address port bytes = rewritten segment (segment.at + 16) (segment.behind + 2) address port bytes

-- the heads are whole in the packet
pub record IsIn (segment : Segment) (bytes : List ℕ) : Type 0 where
  pub head : segment.at + 20 ≤ segment.behind
  pub whole : segment.behind + needed segment.protocol ≤ length bytes
