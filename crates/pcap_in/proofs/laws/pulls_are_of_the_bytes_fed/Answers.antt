use Rattle.pcap_in.proofs.Calls.{HasRead-begun, short_read}
use Rattle.pcap_in.proofs.HasRead.{IsBehind-pulled, IsCapture-ended, IsCaptureUpTo-met}
use Rattle.pcap_in.specs.Calls.{bytes_fed_by, frames_given_by}
use Rattle.pcap_in.proofs.laws.pulls_are_of_the_bytes_fed.Goals as goal

pub returns-clause-frame : goal.returns-clause-frame
returns-clause-frame c = λ calls reading next frame lead pulls.
    let behind = IsBehind-pulled (bytes_fed_by calls) (frames_given_by calls) frame reading next (HasRead-begun calls reading lead) pulls in
    (behind.used, behind.fed_is, (behind.spelling, behind.is_capture))

pub returns-clause-more : goal.returns-clause-more
returns-clause-more c = λ calls reading next lead pulls.
    short_read (bytes_fed_by calls) (frames_given_by calls) reading next (HasRead-begun calls reading lead) pulls

pub returns-clause-end : goal.returns-clause-end
returns-clause-end c = λ calls reading next lead pulls.
    IsCapture-ended (bytes_fed_by calls) (frames_given_by calls) reading next (HasRead-begun calls reading lead) pulls

pub returns-clause-bad : goal.returns-clause-bad
returns-clause-bad c = λ calls reading next fault more lead pulls last.
    IsCaptureUpTo-met (bytes_fed_by calls) more (frames_given_by calls) reading fault (HasRead-begun calls reading lead) last pulls.1
