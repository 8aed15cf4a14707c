use Rattle.nf_api.proofs.SomeAnswer.{some_answer}
use Rattle.nf_api.proofs.laws.every_frame_has_an_answer.Goals as goal

pub returns : goal.returns
returns c = some_answer
