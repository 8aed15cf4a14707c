-- A core that has done nothing.
use Rattle.std.specs.Prelude.{ℕ, ◌≡◌, ◌+◌, ◌<◌, List, [], length, slice_index_or}
use Rattle.onvm_base.specs.declared.ids.FnId.{FnId}
use Rattle.onvm_base.specs.declared.ids.RingId.TheVariants.{Output, Mail}
use Rattle.onvm_base.specs.declared.plan.Plan.{Plan}
use Rattle.onvm_core.specs.declared.layout.Layout.{Layout}
use Rattle.onvm_core.specs.Layouts.{IsLayout, IsLayoutOf, feeder_count}
use Rattle.onvm_board.specs.Tokens.{BoardView, TokenView}
use Rattle.desc_ring.specs.Arrays.{AreNew, lane_to, new_head, new_mail, new_tail}
use Rattle.nf_registry.specs.Places.{residents}
use Rattle.nf_exec.specs.declared.room.CoreRoom.{CoreRoom}
use Rattle.nf_exec.specs.declared.station.Station.{Station}
use Rattle.nf_exec.specs.Stations.{functions_of}

-- the station of a function that has handled nothing
pub record IsNewStation (layout : Layout) (f : FnId) (station : Station) : Type 0 where
  pub function : station.function ≡ f
  pub lanes : AreNew (new_head layout) (lane_to f.0) (feeder_count layout) station.lanes.items
  pub next : station.next ≡ 0
  pub output : station.output ≡ new_tail layout (Output f)
  pub mail : station.mail ≡ new_mail layout (Mail f)
  pub place : station.place ≡ 0
  pub count : station.count ≡ 0

-- new stations, each of the function at its place
pub record AreNewStations (layout : Layout) (functions : List FnId) (stations : List Station) : Type 0 where
  pub functions_are : functions_of stations ≡ functions
  pub each : (i : ℕ) (station : Station) → i < length stations → station ≡ slice_index_or stations i station
      → IsNewStation layout station.function station

-- the room of a plan's core on a board
pub record IsNewRoom (site : BoardView) (plan : Plan) (core : ℕ) (room : CoreRoom) : Type 0 where
  pub ranges : IsLayout site.layout
  pub layout_of : IsLayoutOf plan site.layout
  pub known : core < plan.cores
  pub stations : AreNewStations site.layout (residents core plan.functions) room.stations.items

-- the token of a core that has made no step
pub record IsFresh (site : BoardView) (core : ℕ) (token : TokenView) : Type 0 where
  pub board : token.board ≡ site.id
  pub role : token.role ≡ site.layout.ports + site.layout.transmit + core
  pub log : token.log ≡ []
  pub hand : token.hand ≡ []
