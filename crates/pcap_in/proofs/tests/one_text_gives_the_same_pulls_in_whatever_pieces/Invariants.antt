use Rattle.std.proofs.Common.{◌≡◌, ◌+◌, ◌≤◌, length, false}
use Rattle.pcap_in.proofs.tests.one_text_gives_the_same_pulls_in_whatever_pieces.Given as goal

abbrev pub invariant-loop-at : goal.invariant-loop-at
invariant-loop-at g l =
    (l.begin ≤ l.at-counter) × (l.reader.place + length l.reader.rest ≤ l.begin) × (l.reader.finished ≡ false)
