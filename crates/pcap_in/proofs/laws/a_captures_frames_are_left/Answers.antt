use Rattle.pcap_in.proofs.Read.{capture_of_left, left_of_capture}
use Rattle.pcap_in.proofs.laws.a_captures_frames_are_left.Goals as goal

pub returns : goal.returns
returns c = λ text finished frames. (capture_of_left text finished frames, left_of_capture text finished frames)
