use Rattle.std.proofs.Common.{◌∙◌, sym, ap, refl}
use Rattle.onvm_packet.specs.Holding.{covers_ipv4}
use Rattle.nf_state.specs.Segments.{is_whole, segment_of}
use Rattle.nf_state.specs.Translating.{Translation}
use Rattle.nf_state.proofs.Translated.{entered, heads_in, passed}
use Rattle.nf_state.proofs.nat.Nat.translate.Goals as goal

pub leave-requires : goal.leave-requires
leave-requires c =
    heads_in c.args.packet.now c.in-Some.segment
    (sym (c.segment_of.ensures ∙ ap segment_of c.bytes.ensures.same) ∙ c.in-Some.is)
    (sym (c.if-not-is_whole.ensures ∙ ap (is_whole c.in-Some.segment) c.bytes-2.ensures.same))

pub enter-requires : goal.enter-requires
enter-requires c =
    heads_in c.args.packet.now c.in-Some.segment
    (sym (c.segment_of.ensures ∙ ap segment_of c.bytes.ensures.same) ∙ c.in-Some.is)
    (sym (c.if-not-is_whole.ensures ∙ ap (is_whole c.in-Some.segment) c.bytes-2.ensures.same))

pub returns-then-segment-self-clause-translated : goal.returns-then-segment-self-clause-translated
returns-then-segment-self-clause-translated c =
    entered c.args.self.now.parameters c.in-Some.segment c.args.packet.now c.args.self.now.held c.enter.result
    c.enter.new.packet c.args.self.now.held
    (sym (c.segment_of.ensures ∙ ap segment_of c.bytes.ensures.same) ∙ c.in-Some.is)
    (sym (c.if-not-is_whole.ensures ∙ ap (is_whole c.in-Some.segment) c.bytes-2.ensures.same))
    (sym (c.if-covers.ensures ∙ ap (λ (t : Translation). covers_ipv4 t.parameters.inside c.in-Some.segment.source) c.self.view_is))
    (c.if-segment-self.true ∙ ap (λ (t : Translation). t.parameters.outside) c.self.view_is)
    c.enter.ensures

pub returns-else-segment-self-clause-translated : goal.returns-else-segment-self-clause-translated
returns-else-segment-self-clause-translated c =
    passed c.args.self.now.parameters c.in-Some.segment c.args.packet.now c.args.self.now.held _ c.args.packet.now
    c.args.self.now.held
    (sym (c.segment_of.ensures ∙ ap segment_of c.bytes.ensures.same) ∙ c.in-Some.is)
    (sym (c.if-not-is_whole.ensures ∙ ap (is_whole c.in-Some.segment) c.bytes-2.ensures.same))
    (sym (c.if-covers.ensures ∙ ap (λ (t : Translation). covers_ipv4 t.parameters.inside c.in-Some.segment.source) c.self.view_is))
    (λ is. c.if-segment-self.false (is ∙ sym (ap (λ (t : Translation). t.parameters.outside) c.self.view_is)))
    (record { verdict_is = refl; bytes_are = refl; same = refl })
