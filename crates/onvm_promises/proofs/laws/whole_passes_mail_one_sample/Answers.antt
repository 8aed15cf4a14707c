use Rattle.onvm_promises.proofs.Evening.{even_pass}
use Rattle.onvm_promises.proofs.laws.whole_passes_mail_one_sample.Goals as goal

pub returns : goal.returns
returns c = even_pass
