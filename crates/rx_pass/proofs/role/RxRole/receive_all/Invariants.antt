use Rattle.std.proofs.Common.{◌≡◌, ℕ, [], length}
use Rattle.onvm_core.specs.Logs.{Setting}
use Rattle.onvm_core.specs.Receiving.ReceivePhase.{Between}
use Rattle.rx_pass.specs.Keeping.{HasRoom}
use Rattle.rx_pass.specs.Roles.{FitsRole, IsQueue, done_of, waiting_of}
use Rattle.rx_pass.specs.Turns.{IsInletOf, IsTurn}
use Rattle.rx_pass.proofs.role.RxRole.receive_all.Given as goal

abbrev pub invariant-frames : goal.invariant-frames
invariant-frames g l = record {
  turn : (setting : Setting) → FitsRole l.board.layout l.plan l.fn.token.role l.fn.self setting
      → IsTurn setting l.fn.token.role l.now (Between (done_of l.fn.self)) (Between (done_of l.self)) l.fn.token l.token
      l.fn.self.inlet l.self.inlet;
  queue : IsQueue l.self;
  hand : l.token.hand ≡ [];
  role : l.token.role ≡ l.fn.token.role;
  board : l.token.board ≡ l.fn.token.board;
  inlet : IsInletOf l.board l.self.inlet l.token;
  intake : l.self.intake ≡ l.fn.self.intake;
  flows : l.self.flows ≡ l.fn.self.flows;
  port : l.self.inlet.part ≡ l.fn.self.inlet.part;
  room : HasRoom (length (waiting_of l.self)) l.self.inlet.kept;
}

abbrev pub decreases-frames : goal.decreases-frames
decreases-frames g l = length (waiting_of l.self)
