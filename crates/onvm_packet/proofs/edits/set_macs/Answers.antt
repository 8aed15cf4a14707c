use Rattle.std.proofs.Common.{◌∙◌, ap, refl, rules}
use Rattle.onvm_packet.specs.Edits.{with_bytes_at}
use Rattle.onvm_packet.proofs.Writing.{with_bytes_at-with_bytes_at}
use Rattle.onvm_packet.proofs.edits.set_macs.Goals as goal

pub returns : goal.returns
returns c =
    c.overwrite-2.ensures ∙ ap (with_bytes_at 6 c.args.source) c.overwrite.ensures
    ∙ with_bytes_at-with_bytes_at c.args.target c.args.source c.args.packet.now 6 12 (search rules) (search rules) refl
