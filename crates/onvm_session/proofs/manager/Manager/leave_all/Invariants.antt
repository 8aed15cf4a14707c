use Rattle.std.proofs.Common.{◌≡◌, ◌+◌, ◌≤◌, length, vec_capacity}
use Rattle.onvm_session.proofs.PhaseSeats.{AreLeaving}
use Rattle.onvm_session.proofs.manager.Manager.leave_all.Given as goal

abbrev pub invariant-loop : goal.invariant-loop
invariant-loop g l = record {
  leaving : AreLeaving l.fn.seats.items l.seats.items l.self.roles.items;
  counted : length l.seats.items + l.counter ≡ l.end;
  room : length l.self.roles.items + length l.seats.items ≤ vec_capacity l.self.roles;
  board : l.self.board ≡ l.fn.self.board;
  feeds : l.self.feeds ≡ l.fn.self.feeds;
}
