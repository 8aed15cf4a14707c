use Rattle.std.proofs.Common.{◌≡◌, ℕ, ◌+◌, ◌*◌, ◌<◌, ◌≤◌, length, None}
use Rattle.std.specs.Prelude.{slice_index_or}
use Rattle.onvm_core.specs.Handling.{core_hand}
use Rattle.onvm_board.specs.Tokens.{TokenView}
use Rattle.nf_exec.specs.declared.station.Station.{Station}
use Rattle.nf_exec.specs.Roles.{IsAtWork, IsPassing, counts_upto, times_are}
use Rattle.nf_exec.specs.Stations.{functions_of}
use Rattle.nf_exec.proofs.role.CoreRole.serve_all.Given as goal

abbrev pub invariant-loop-at : goal.invariant-loop-at
invariant-loop-at g l = record {
  passing : (start : TokenView) (n : ℕ)
      → IsPassing l.board l.plan (functions_of l.initial.self.stations.items) 0 n start l.initial.token
      → IsPassing l.board l.plan (functions_of l.initial.self.stations.items) l.at (n + l.handled) start l.token;
  free : core_hand l.token.log ≡ None;
  few : l.handled ≤ 1024 * l.at;
  counts : counts_upto 1025 l.self.stations.items;
  ahead : (i : ℕ) (station : Station) → l.at ≤ i → i < length l.self.stations.items
      → station ≡ slice_index_or l.self.stations.items i station → station.count ≤ 1;
  times : times_are (g.C.Clock.may_span l.clock) l.plan l.self.stations.items;
  functions : functions_of l.self.stations.items ≡ functions_of l.initial.self.stations.items;
  work : IsAtWork g.N.NetFunction.acts g.N.NetFunction.state l.board l.token l.self;
  began : l.self.began ≡ l.initial.self.began;
}
