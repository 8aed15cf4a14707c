use Rattle.pcap_in.proofs.Calls.{AreLeft-read, HasRead-begun}
use Rattle.pcap_in.specs.Calls.{bytes_fed_by, frames_given_by}
use Rattle.pcap_in.proofs.laws.frames_not_given_are_left.Goals as goal

pub returns : goal.returns
returns c = λ calls reading frames lead is.
    AreLeft-read (bytes_fed_by calls) (frames_given_by calls) frames reading (HasRead-begun calls reading lead) is
