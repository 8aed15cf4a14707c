-- When the checksums that NAT updates are right.
use Rattle.std.specs.Prelude.{◌≡◌, ◌≢◌, ℕ, ◌+◌, ◌-◌, List, ◌∷◌, ◌++◌, take, drop}
use Rattle.onvm_packet.specs.Bytes.{number}
use Rattle.onvm_packet.specs.Checksum.{ones_sum, words}
use Rattle.nf_state.specs.Rewriting.{sum_at}
use Rattle.nf_state.specs.declared.segment.Segment.{Segment}

-- the IPv4 header in front of TCP or UDP, its options included
abbrev pub head_of : Segment → List ℕ → List ℕ
head_of segment bytes = take (segment.behind - segment.at) (drop segment.at bytes)

-- RFC 9293, 3.1, and RFC 768: the checksum of TCP and UDP covers the addresses, the protocol, the length and the
-- bytes of so many from the head of TCP or UDP on
abbrev pub covered_of : Segment → ℕ → List ℕ → List ℕ
covered_of segment len bytes =
    words (take 8 (drop (segment.at + 12) bytes))
    ++ (segment.protocol ∷ len ∷ words (take len (drop segment.behind bytes)))

abbrev pub IsRightSegment : Segment → ℕ → List ℕ → Type 0
IsRightSegment segment len bytes = ones_sum (covered_of segment len bytes) ≡ 0xffff

-- RFC 768: a checksum of UDP that is 0 says that there is none
abbrev pub HasSum : Segment → List ℕ → Type 0
HasSum segment bytes = segment.protocol ≡ 17 → number 2 (sum_at segment) bytes ≢ 0
