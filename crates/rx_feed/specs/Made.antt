-- The frames that are made of a seed: UDP datagrams over IPv4 of sixteen flows.
use Rattle.std.specs.Prelude.{ℕ, zero, suc, ◌≡◌, ◌≤◌, ◌+◌, ◌-◌, ◌*◌, ◌/◌, ◌%◌, ◌^◌, List, [], ◌∷◌, ◌++◌, replicate}
use Rattle.byteorder.specs.Endian.{big_bytes}
use Rattle.onvm_base.specs.declared.frame.Frame.{Frame}
use Rattle.onvm_base.specs.declared.frame.Stamp.{Stamp}
use Rattle.onvm_packet.specs.Checksum.{complement, ones_sum, words}

-- Knuth's MMIX linear congruential generator, from a seed
abbrev pub next_number : ℕ → ℕ
next_number x = (x * 6364136223846793005 + 1442695040888963407) % 2 ^ 64

abbrev pub number_after : (seed steps : ℕ) → ℕ
number_after seed zero = seed
number_after seed (suc steps) = next_number (number_after seed steps)

-- the upper half of a number picks the flow, one of 16, and the length of the payload
abbrev pub flow_of : ℕ → ℕ
flow_of x = x / 2 ^ 32 % 16

abbrev pub payload_len : ℕ → ℕ
payload_len x = 18 + 16 * (x / 2 ^ 32 / 16 % 64)

-- one microsecond lies between a frame and the next
abbrev pub made_stamp : (number : ℕ) → Stamp
made_stamp number =
    record { seconds = (number - 1) / 1000000; nanos = 1000 * ((number - 1) % 1000000); tail = 0 }

-- Ethernet II: target, source and type
abbrev pub made_ethernet : List ℕ
made_ethernet =
    0x02 ∷ 0 ∷ 0 ∷ 0 ∷ 0 ∷ 0x01 ∷ 0x02 ∷ 0 ∷ 0 ∷ 0 ∷ 0 ∷ 0x02 ∷ 0x08 ∷ 0x00 ∷ []

-- RFC 791: version 4 with five words, total length, identification, no fragment, TTL 64 and protocol 17; this checksum;
-- from 10.0.0.flow to 10.1.0.1
abbrev pub made_ipv4 : (number x sum : ℕ) → List ℕ
made_ipv4 number x sum =
    0x45 ∷ 0 ∷ big_bytes 2 (28 + payload_len x) ++ big_bytes 2 (number % 65536) ++ 0 ∷ 0 ∷ 0x40 ∷ 0x11
    ∷ big_bytes 2 sum ++ 10 ∷ 0 ∷ 0 ∷ flow_of x ∷ 10 ∷ 1 ∷ 0 ∷ 1 ∷ []

-- RFC 1071: the checksum of the header in which it is 0
abbrev pub made_sum : (number x : ℕ) → ℕ
made_sum number x = complement (ones_sum (words (made_ipv4 number x 0)))

-- RFC 768: a port per flow, the discard port, the length and no checksum
abbrev pub made_udp : ℕ → List ℕ
made_udp x = big_bytes 2 (10000 + flow_of x) ++ big_bytes 2 9 ++ big_bytes 2 (8 + payload_len x) ++ big_bytes 2 0

abbrev pub made_heads : (number x : ℕ) → List ℕ
made_heads number x = made_ethernet ++ made_ipv4 number x (made_sum number x) ++ made_udp x

-- each byte of the payload is the frame's number, modulo 256
abbrev pub made_packet : (number x : ℕ) → List ℕ
made_packet number x = made_heads number x ++ replicate (payload_len x) (number % 256)

-- the frame with this number, of this number of the generator
abbrev pub frame_made_of : (number x : ℕ) → Frame
frame_made_of number x = record { stamp = made_stamp number; packet = made_packet number x }

abbrev pub made_frame : (seed number : ℕ) → Frame
made_frame seed number = frame_made_of number (number_after seed number)

-- frames 1 to so many
abbrev pub made_frames : (seed count : ℕ) → List Frame
made_frames seed zero = []
made_frames seed (suc count) = made_frames seed count ++ made_frame seed (suc count) ∷ []

-- a generator: its seed, how many frames it gives, and how many it has given
pub record Making : Type 0 where
  pub seed : ℕ
  pub count : ℕ
  pub given : ℕ
