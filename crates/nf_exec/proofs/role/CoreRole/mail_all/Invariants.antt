use Rattle.std.proofs.Common.{◌≡◌, ℕ, ◌<◌, ◌≤◌, length}
use Rattle.std.specs.Prelude.{slice_index_or}
use Rattle.nf_exec.specs.declared.station.Station.{Station}
use Rattle.nf_exec.specs.Roles.{HasMailed, IsAtWork}
use Rattle.nf_exec.specs.Stations.{functions_of}
use Rattle.nf_exec.proofs.role.CoreRole.mail_all.Given as goal

abbrev pub invariant-loop-at : goal.invariant-loop-at
invariant-loop-at g l = record {
  mailed : HasMailed l.board l.initial.self.stations.items l.at l.initial.token l.token;
  done : (i : ℕ) (station : Station) → i < l.at → i < length l.self.stations.items
      → station ≡ slice_index_or l.self.stations.items i station → station.count ≡ 0;
  ahead : (i : ℕ) (station : Station) → l.at ≤ i → i < length l.self.stations.items
      → station ≡ slice_index_or l.self.stations.items i station
      → station ≡ slice_index_or l.initial.self.stations.items i station;
  functions : functions_of l.self.stations.items ≡ functions_of l.initial.self.stations.items;
  work : IsAtWork g.N.NetFunction.acts g.N.NetFunction.state l.board l.token l.self;
  units : (l.self.units ≡ l.initial.self.units) × (l.self.began ≡ l.initial.self.began);
  kept : l.self.kept ≡ l.initial.self.kept;
}
