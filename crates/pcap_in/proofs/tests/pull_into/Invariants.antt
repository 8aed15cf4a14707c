use Rattle.std.proofs.Common.{◌≡◌, ◌+◌, length}
use Rattle.pcap_in.proofs.tests.pull_into.Given as goal

abbrev pub invariant-loop : goal.invariant-loop
invariant-loop l =
    (l.reader.place + length l.reader.rest ≡ l.initial.reader.place + length l.initial.reader.rest)
    × (l.reader.finished ≡ l.initial.reader.finished)
