use Rattle.std.proofs.Common.{◌≡◌, ◌+◌, ◌≤◌, length, vec_capacity}
use Rattle.onvm_session.proofs.PhaseSeats.{AreJoining}
use Rattle.onvm_session.proofs.manager.Manager.join_all.Given as goal

abbrev pub invariant-loop : goal.invariant-loop
invariant-loop g l = record {
  joining : AreJoining l.fn.seats.items l.seats.items l.self.roles.items l.fn.self.first l.self.first;
  counted : length l.seats.items + l.counter ≡ l.end;
  room : length l.self.roles.items + length l.seats.items ≤ vec_capacity l.self.roles;
  seats : vec_capacity l.seats ≡ vec_capacity l.fn.seats;
  board : l.self.board ≡ l.fn.self.board;
  registry : l.self.registry ≡ l.fn.self.registry;
  layout : l.self.layout ≡ l.fn.self.layout;
  feeds : l.self.feeds ≡ l.fn.self.feeds;
}
