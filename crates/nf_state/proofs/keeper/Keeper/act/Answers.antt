use Rattle.std.proofs.Common.{subst, sym}
use Rattle.nf_state.specs.Kinds.{Wants}
use Rattle.nf_state.specs.Segments.{segment_of}
use Rattle.nf_state.specs.declared.keeper.Keeper.{Keeper}
use Rattle.nf_state.proofs.Staying.{translation_wants_no_more}
use Rattle.nf_state.proofs.keeper.Keeper.act.Goals as goal

pub returns-in-Nat-clause-no_more : goal.returns-in-Nat-clause-no_more
returns-in-Nat-clause-no_more c bytes wants =
    subst (λ (keeper : Keeper). Wants keeper bytes) (sym c.in-Nat.is)
    (translation_wants_no_more c.translate.result c.in-Nat.nat c.translate.new.self c.args.packet.now
    c.translate.new.packet c.translate.ensures.translated
    c.translate.ensures.parameters c.translate.ensures.unchanged (segment_of bytes) wants)
