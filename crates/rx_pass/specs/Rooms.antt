-- A role that has done nothing.
use Rattle.std.specs.Prelude.{ℕ, ◌≡◌, [], length}
use Rattle.onvm_base.specs.declared.ids.PortId.{PortId}
use Rattle.onvm_base.specs.declared.plan.Plan.{Plan}
use Rattle.onvm_core.specs.Logs.{Setting}
use Rattle.onvm_board.specs.Tokens.{BoardView, TokenView}
use Rattle.desc_ring.specs.Arrays.{AreNew, lane_from, new_tail}
use Rattle.entry_throttle.specs.Feeders.{IsNewFeeder}
use Rattle.flow_table.specs.Flows.{table_of}
use Rattle.mbuf_pool.specs.Parts.{IsPartOf}
use Rattle.rx_feed.specs.Rooms.{IsRoom}
use Rattle.rx_pass.specs.declared.role.RxRole.{RxRole}
use Rattle.rx_pass.specs.declared.room.RxRoom.{RxRoom}
use Rattle.rx_pass.specs.Roles.{FitsRole, IsInOrder, IsRxRole}

-- all that the room of a port's role has is new
pub record IsNewRoom (site : BoardView) (plan : Plan) (port : PortId) (room : RxRoom) : Type 0 where
  pub intake : IsRoom room.intake
  pub flows : room.flows ≡ table_of plan port
  pub part : IsPartOf site.layout room.inlet.part
  pub port_is : room.inlet.part.port ≡ port
  pub lanes : AreNew (new_tail site.layout) (lane_from port.0) site.layout.functions room.inlet.lanes.items
  pub feeder : IsNewFeeder plan port.0 room.inlet.feeder
  pub records : room.inlet.kept.records.items ≡ []
  pub sent : room.inlet.kept.sent.items ≡ []

-- a role that has done nothing: with the token of this number that has made no act it is ready for a pass
pub record IsNewRole {I : Type 0} (site : BoardView) (plan : Plan) (port : PortId) (rx : RxRole I) : Type 0 where
  pub ready : (token : TokenView) → token.board ≡ site.id → token.role ≡ port.0 → token.log ≡ [] → token.hand ≡ []
      → IsRxRole site plan token rx
  pub in_order : (setting : Setting) (moment : ℕ → ℕ) → FitsRole site.layout plan port.0 rx setting
      → IsInOrder setting port.0 moment [] rx
