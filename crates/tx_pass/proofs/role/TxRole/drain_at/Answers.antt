use Rattle.std.proofs.Common.{◌≡◌, ℕ, [], ◌∙◌, sym}
use Rattle.desc_ring.specs.Arrays.{output_of}
use Rattle.desc_ring.proofs.InArrays.{heads_moved}
use Rattle.tx_pass.proofs.Outlets.{popped_none}
use Rattle.tx_pass.proofs.role.TxRole.drain_at.Goals as goal

pub drain-requires-clause-head : goal.drain-requires-clause-head
drain-requires-clause-head c =
    (c.requires.heads.each c.args.f c.index_mut-head.result.now c.requires.known c.index_mut-head.ensures.value).own
    (sym c.requires.own)

pub drain-requires-clause-ring : goal.drain-requires-clause-ring
drain-requires-clause-ring c =
    (c.requires.heads.each c.args.f c.index_mut-head.result.now c.requires.known c.index_mut-head.ensures.value).ring_is

pub returns-clause-heads : goal.returns-clause-heads
returns-clause-heads c =
    let site = c.args.board.now in
    let is = c.drain.ensures.moved in
    let f : ℕ = c.args.f in
    heads_moved site output_of site.layout.functions is.added [] c.args.token.now c.drain.new.token is.stretch.grew
    c.args.self.now.heads.items f c.drain.new.head c.requires.known
    (λ g less other. popped_none (λ h. h.0 ≡ f) (record { 0 = g }) (λ h same e. other (sym e ∙ same)) is.added is.steps)
    (record { ring_is = c.drain.ensures.ring; own = λ mine. c.drain.ensures.head })
    c.requires.heads
