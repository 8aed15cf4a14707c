-- A role may go to another thread with its token, as its source and its functions may.
use denote.RattleType.{RattleType}
use denote.Struct.Field.{row_field}
use denote.Param.Send.{IsSend, sendable, view_send}
use denote.Param.SendFields.{as_row_send, declared_send, variants_send}
use Rattle.std.proofs.Crossing.{crosses, Deque-send, Vec-send}
use Rattle.flow_table.proofs.Crossing.{table_send}
use Rattle.nf_exec.proofs.role.Kept.TheSendSync as kept
use Rattle.nf_exec.proofs.station.Station.TheSendSync as station
use Rattle.nf_exec.specs.contracts.role.CoreRole as Core
use Rattle.nf_exec.specs.contracts.role.Kept as Kept
use Rattle.nf_exec.specs.contracts.station.Station as Station
use Rattle.onvm_base.proofs.frame.Frame.TheSendSync as frame
use Rattle.onvm_base.specs.contracts.frame.Frame as Frame
use Rattle.onvm_board.proofs.token.Token.TheSendSync as token
use Rattle.onvm_promises.proofs.pass.Pass.TheSendSync as pass
use Rattle.pcap_in.proofs.reader.Reader.TheSendSync as reader
use Rattle.rx_feed.proofs.fault.FeedFault.TheSendSync as fault
use Rattle.rx_feed.proofs.generator.Generator.TheSendSync as generator
use Rattle.rx_feed.specs.contracts.fault.FeedFault as Fault
use Rattle.rx_feed.specs.contracts.feed.Kind as Kind
use Rattle.rx_feed.specs.contracts.history.PulledFrames as Pulled
use Rattle.rx_feed.specs.contracts.history.TakenBytes as Taken
use Rattle.rx_feed.specs.contracts.intake.Intake as Intake
use Rattle.rx_feed.specs.contracts.intake.Intake.TheInside as inside
use Rattle.rx_feed.specs.contracts.stream.Stream as Stream
use Rattle.rx_pass.proofs.inlet.Inlet.TheSendSync as inlet
use Rattle.rx_pass.specs.contracts.role.RxRole as Rx
use Rattle.std.proofs.option.Option.TheSendSync as option
use Rattle.tick_pass.proofs.room.TickRoom.TheSendSync as room
use Rattle.tick_pass.specs.contracts.role.TickRole as Tick
use Rattle.tx_pass.proofs.role.TxRole.TheSendSync as tx
use Rattle.onvm_session.specs.contracts.role.Role as Role
use Rattle.onvm_session.specs.contracts.seat.Seat as Seat

-- A receive role. What it remembers of its feed has no bytes

taken_send : IsSend Taken.the_row
taken_send = search (crosses, sendable) depth 24

pulled_send : IsSend Pulled.the_row
pulled_send = search (crosses, sendable) depth 24

stream_send : IsSend Stream.the_row
stream_send =
    declared_send Stream.the_type (
      reader.the_send,
      (
        search (crosses, sendable),
        (
          search sendable,
          (
            search sendable,
            (
              search sendable,
              (
                search sendable,
                (option.the_send Fault.the_row fault.the_send, (taken_send, (pulled_send, tt))),
              ),
            ),
          ),
        ),
      ),
    )

module _ (I : RattleType) (source : IsSend I) where
  kind_send : IsSend (Kind.the_row I)
  kind_send =
      variants_send (Kind.enum I)
      (tt, ((as_row_send (row_field I) source, (stream_send, tt)), ((generator.the_send, (search sendable, tt)), tt)))

  intake_send : IsSend (Intake.the_row I)
  intake_send = view_send (inside.the_row I) _ _ _ _ (declared_send (inside.the_type I) (kind_send, tt))

  receive_send : IsSend (Rx.the_row I)
  receive_send =
      declared_send (Rx.the_type I)
      (intake_send, (Deque-send Frame.the_row frame.the_send, (table_send, (inlet.the_send, tt))))

-- A core

module _ (N : RattleType) (function : IsSend N) where
  core_send : IsSend (Core.the_row N)
  core_send =
      declared_send (Core.the_type N) (
        Vec-send Station.the_row station.the_send,
        (
          Vec-send N function,
          (
            option.the_send Kept.the_row kept.the_send,
            (search sendable, (search sendable, (search (crosses, sendable), tt))),
          ),
        ),
      )

-- The tick role

tick_send : IsSend Tick.the_row
tick_send =
    declared_send Tick.the_type
    (search sendable, (search (crosses, sendable), (room.the_send, tt)))

-- A seat

module _ (I N : RattleType) (source : IsSend I) (function : IsSend N) where
  role_send : IsSend (Role.the_row I N)
  role_send =
      variants_send (Role.enum I N)
      ((receive_send I source, tt), ((tx.the_send, tt), ((core_send N function, tt), ((tick_send, tt), tt))))

  pub seat_send : IsSend (Seat.the_row I N)
  seat_send =
      declared_send (Seat.the_type I N)
      (search sendable, (role_send, (token.the_send, (search sendable, (pass.the_send, tt)))))
