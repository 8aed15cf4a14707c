use Rattle.nf_api.proofs.OneAnswer.{one_answer}
use Rattle.nf_api.proofs.laws.a_frame_has_one_answer.Goals as goal

pub returns : goal.returns
returns c = one_answer
