use Rattle.std.proofs.Common.{◌≡◌, []}
use Rattle.onvm_board.specs.Tokens.{grown}
use Rattle.mbuf_pool.specs.Parts.{zero_looks}
use Rattle.mbuf_pool.proofs.part.Part.take.Given as goal

abbrev pub invariant-loop-index : goal.invariant-loop-index
invariant-loop-index l = record {
  grew : l.token ≡ grown (zero_looks l.self.port.0 l.index) [] l.fn.token;
  board : l.token.board ≡ l.fn.token.board;
  role : l.token.role ≡ l.fn.token.role;
  hand : l.token.hand ≡ [];
}
