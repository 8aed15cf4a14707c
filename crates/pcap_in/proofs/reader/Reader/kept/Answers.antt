use Rattle.std.proofs.Common.{◌≡◌, ap, subst, ◌≤◌, length, take, List, ℕ, None, arith, rules}
use Rattle.pcap_in.specs.Classic.{IsHeader}
use Rattle.pcap_in.specs.declared.judge.TheConstants.{HEADER_LEN}
use Rattle.pcap_in.proofs.Keeping.{kept_behind_header}
use Rattle.pcap_in.proofs.reader.Reader.kept.Goals as goal

pub returns-in-Whole : goal.returns-in-Whole
returns-in-Whole c =
    let none : c.args.self.now.spelling ≡ None = search rules in
    let P : List ℕ → Type 0 = λ t. (HEADER_LEN ≤ length t) × IsHeader c.in-Whole.field-0 (take HEADER_LEN t) in
    let whole : P c.args.self.now.rest = subst P c.rest_behind-rest.ensures c.in-Whole.ensures in
    kept_behind_header c.args.self.now c.in-Whole.field-0 _ none whole.0 whole.1
    (omega (arith, ap (length {A = ℕ}) c.rest_behind-rest.ensures))
