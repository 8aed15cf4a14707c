use Rattle.std.proofs.Common.{◌∙◌, sym}
use Rattle.pcap_in.proofs.Judging.{header_of}
use Rattle.pcap_in.proofs.judge.judge_header.Goals as goal

pub returns-else-link-ne1 : goal.returns-else-link-ne1
returns-else-link-ne1 c =
    header_of c.in-Some.spelling c.args.rest.now c.if-rest-lt-HEADER_LEN.false c.in-Some.ensures.some
    (sym c.u16_at-major.ensures ∙ c.if-minor-ne4.false.0) (sym c.u16_at-minor.ensures ∙ c.if-minor-ne4.false.1)
    (sym c.u32_at-link.ensures ∙ c.if-link-ne1.false)
