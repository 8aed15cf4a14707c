use Rattle.std.proofs.Common.{◌≡◌, ◌+◌, length, vec_capacity}
use Rattle.onvm_session.proofs.PhaseSeats.{AreSeating}
use Rattle.onvm_session.proofs.manager.Manager.seat_all.Given as goal

abbrev pub invariant-loop : goal.invariant-loop
invariant-loop g l = record {
  seating : AreSeating l.fn.self l.self l.latest l.seats.items;
  counted : length l.self.roles.items + l.counter ≡ l.end;
  room : vec_capacity l.seats ≡ vec_capacity l.fn.seats;
  roles : vec_capacity l.self.roles ≡ vec_capacity l.fn.self.roles;
  board : l.self.board ≡ l.fn.self.board;
  registry : l.self.registry ≡ l.fn.self.registry;
  layout : l.self.layout ≡ l.fn.self.layout;
  feeds : l.self.feeds ≡ l.fn.self.feeds;
}
