use Rattle.std.proofs.Common.{◌∙◌, ap, ◌+◌, ℕ}
use Rattle.std.proofs.lemmas.Result.{IfOk-weaker}
use Rattle.rx_feed.proofs.Making.{made_bytes}
use Rattle.rx_feed.proofs.generator.make_packet.Goals as goal

pub returns : goal.returns
returns c =
    IfOk-weaker c.from_slice.result _ _
    (λ packet is. is ∙ made_bytes c.args.number c.args.x _ _ c.write_heads.ensures
    (ap (λ (n : ℕ). 42 + n) (c.from-len.ensures ∙ c.payload_len.ensures)))
    c.from_slice.ensures
