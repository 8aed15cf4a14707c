use Rattle.pcap_in.proofs.Faults.{up_to_first}
use Rattle.pcap_in.proofs.laws.a_faulty_texts_begin_has_its_first_frames.Goals as goal

pub returns : goal.returns
returns c = up_to_first
