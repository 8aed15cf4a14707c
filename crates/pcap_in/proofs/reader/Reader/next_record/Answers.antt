use Rattle.pcap_in.proofs.Pulling.{cut_off}
use Rattle.pcap_in.proofs.reader.Reader.next_record.Goals as goal

pub returns-in_ok-packet-in-Whole-clause-pull : goal.returns-in_ok-packet-in-Whole-clause-pull
returns-in_ok-packet-in-Whole-clause-pull c =
    let there = c.rest_behind-rest.ensures in
    cut_off c.args.self.now c.self.inside.buffer.items _ c.self.inside.used c.args.skipped c.in-Whole.len c.self.inside.place _ _
    c.args.spelling c.in-Whole.stamp c.self.view_is (rw there at c.in-Whole.ensures.0) (rw there at c.in-Whole.ensures.1)
    (rw there at c.in_ok-packet-in-Whole.ensures)
