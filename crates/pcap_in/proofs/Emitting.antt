-- What is emitted is a capture of the frames that were emitted.
use Rattle.std.proofs.Common.{refl, sym, ℕ, ◌+◌, min, List, [], ◌∷◌, ◌++◌, map, length, arith}
use Rattle.std.specs.List.{All, flat_map}
use Rattle.std.proofs.lemmas.List.Elements.{All-head, All-tail}
use Rattle.byteorder.specs.Endian.{little_bytes}
use Rattle.byteorder.specs.Numbers.{little_number-reads_back}
use Rattle.onvm_base.specs.declared.frame.Frame.{Frame}
use Rattle.pcap_in.specs.Classic.{AreRecords, IsCapture, IsHeader, IsRecord}
use Rattle.pcap_in.specs.Emitted.{emit, emitted_frame, emitted_header, IsEmittable, with_cut_tail}
use Rattle.pcap_in.specs.declared.spelling.Endian.TheVariants.{Little}
use Rattle.pcap_in.specs.declared.spelling.Spelling.{Spelling}
use Rattle.pcap_in.specs.declared.spelling.Unit.TheVariants.{Nanos}

-- the spelling in which is emitted
abbrev pub emitted : Spelling
emitted = record { endian = Little; unit = Nanos }

header_emitted : IsHeader emitted emitted_header
header_emitted = record { size = refl; magic = refl; major = refl; minor = refl; link = refl }

record_emitted : (frame : Frame) → IsEmittable frame → IsRecord emitted (emitted_frame frame) (with_cut_tail frame)
record_emitted frame is =
    let len : ℕ = length frame.packet in
    let original : ℕ = min (len + frame.stamp.tail) 4294967295 in
    let behind12 : List ℕ = little_bytes 4 original ++ frame.packet in
    let behind8 : List ℕ = little_bytes 4 len ++ behind12 in
    let behind4 : List ℕ = little_bytes 4 frame.stamp.nanos ++ behind8 in
    let at0 = little_number-reads_back 4 frame.stamp.seconds behind4 (omega (arith, is.seconds)) in
    let at4 = little_number-reads_back 4 frame.stamp.nanos behind8 (omega (arith, is.nanos)) in
    let at8 = little_number-reads_back 4 len behind12 (omega (arith, is.limit)) in
    let at12 = little_number-reads_back 4 original frame.packet (omega arith) in
    record {
      seconds = sym at0;
      fraction = omega (arith, at4, is.nanos);
      nanos = sym at4;
      included = at8;
      limit = is.limit;
      tail = omega (arith, at12, at8);
      size = omega arith;
      packet = refl;
    }

records_emitted : (frames : List Frame) → All IsEmittable frames → AreRecords emitted (flat_map emitted_frame frames) (map with_cut_tail frames)
records_emitted [] all = refl
records_emitted (frame ∷ frames) all = (
  emitted_frame frame,
  flat_map emitted_frame frames,
  refl,
  record_emitted frame (All-head IsEmittable frame frames all),
  records_emitted frames (All-tail IsEmittable frame frames all),
)

-- what is emitted is read again, each tail cut
pub IsCapture-emit : (frames : List Frame) → All IsEmittable frames → IsCapture (emit frames) (map with_cut_tail frames)
IsCapture-emit frames all =
    (emitted, (emitted_header, flat_map emitted_frame frames, refl, header_emitted, records_emitted frames all))
