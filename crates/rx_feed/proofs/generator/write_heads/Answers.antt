use Rattle.std.proofs.Common.{◌∙◌, sym, ap, length, ℕ}
use Rattle.std.proofs.lemmas.List.{length-take-le}
use Rattle.rx_feed.proofs.Making.{length-made_heads}
use Rattle.rx_feed.proofs.generator.write_heads.Goals as goal

pub copy_from_slice-requires : goal.copy_from_slice-requires
copy_from_slice-requires c =
    length-take-le 42 c.args.bytes.now c.requires ∙ sym (length-made_heads c.args.number c.args.x)
    ∙ sym (ap (length {A = ℕ}) c.heads_of-heads.ensures)
