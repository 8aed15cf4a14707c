use Rattle.std.proofs.Common.{◌∙◌, ap, subst, OnErr, List}
use Rattle.nf_state.specs.Mappings.{IsUnmapped, Mapping}
use Rattle.nf_state.specs.Translating.{Translation}
use Rattle.nf_state.proofs.Translated.{of_tcp, of_udp}
use Rattle.nf_state.proofs.nat.Nat.assign.Goals as goal

pub returns-then-protocol-eq-TCP-clause-unmapped : goal.returns-then-protocol-eq-TCP-clause-unmapped
returns-then-protocol-eq-TCP-clause-unmapped c =
    subst (λ (ms : List Mapping). OnErr c.assign.result (IsUnmapped ms c.args.inside))
    (ap (λ (t : Translation). t.held.tcp) c.self.view_is
    ∙ of_tcp c.args.protocol c.args.self.now.held c.if-protocol-eq-TCP.true)
    c.assign.ensures.unmapped

pub returns-else-protocol-eq-TCP-clause-unmapped : goal.returns-else-protocol-eq-TCP-clause-unmapped
returns-else-protocol-eq-TCP-clause-unmapped c =
    subst (λ (ms : List Mapping). OnErr c.assign-else-protocol-eq-TCP.result (IsUnmapped ms c.args.inside))
    (ap (λ (t : Translation). t.held.udp) c.self.view_is
    ∙ of_udp c.args.protocol c.args.self.now.held c.if-protocol-eq-TCP.false)
    c.assign-else-protocol-eq-TCP.ensures.unmapped
