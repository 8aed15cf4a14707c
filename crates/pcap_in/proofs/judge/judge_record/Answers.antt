use Rattle.std.proofs.Common.{arith}
use Rattle.pcap_in.proofs.Judging.{record_of}
use Rattle.pcap_in.proofs.judge.judge_record.Goals as goal

pub returns : goal.returns
returns c =
    record_of c.args.spelling c.args.rest.now c.head_at-head.result c.in_nanos.result c.saturating_sub.result c.head_at-head.ensures
    c.if-rest-len.false c.if-len-gt-MAX_FRAME_BYTES.false (omega (arith, c.if-head-per_second.false, c.per_second.ensures)) c.in_nanos.ensures
    c.saturating_sub.ensures
