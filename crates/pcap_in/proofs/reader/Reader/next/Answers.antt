use Rattle.std.proofs.Common.{◌≡◌, ◌∙◌, ap, sym, None}
use Rattle.std.proofs.lemmas.Result.{IfOk-weaker}
use Rattle.pcap_in.specs.Reading.{Reading}
use Rattle.pcap_in.proofs.Pulling.{first_record, pulls_of}
use Rattle.pcap_in.proofs.reader.Reader.next.Goals as goal

pub returns-in-Whole-clause-pull : goal.returns-in-Whole-clause-pull
returns-in-Whole-clause-pull c =
    let start : c.args.self.now.spelling ≡ None = sym (ap (λ (r : Reading). r.spelling) c.self.view_is) ∙ c.in_default.is in
    let header = rw c.rest_behind.ensures at c.in-Whole.ensures.1 in
    IfOk-weaker c.next_record-in-Whole.result _ _
    (λ answer is. pulls_of c.args.self.now _ answer c.in-Whole.spelling _ _
    (λ P fact. first_record c.args.self.now c.in-Whole.spelling P start header fact) is)
    c.next_record-in-Whole.ensures.pull
