use Rattle.std.proofs.Common.{arith}
use Rattle.onvm_session.proofs.rooms.Rooms.make.Goals as goal

pub returns : goal.returns
returns g c =
    let receivers = c.in_ok-receivers.ensures in
    let senders = c.in_ok-senders.ensures in
    let cores = c.in_ok-cores.ensures in
    let ports = receivers.many in
    let many_receivers = c.in_ok-receivers.receivers.ok.0 in
    let transmit = senders.many in
    let many_senders = c.in_ok-senders.senders.ok.0 in
    let many = cores.many in
    let many_cores = c.in_ok-cores.cores.ok.0 in
    let len = c.len.ensures in
    let len_of_senders = c.len-2.ensures in
    let len_of_cores = c.len-3.ensures in
    let len_again = c.len-4.ensures in
    let role_room = c.in_ok-roles.ensures.capacity in
    let feed_room = c.in_ok-feeds.ensures.capacity in
    record {
      receivers = receivers;
      senders = senders;
      cores = cores;
      units = c.in_ok-units.ensures;
      ticker = c.in_ok-ticker.ensures;
      roles = c.in_ok-roles.ensures.items;
      role_room = omega (
        arith,
        ports,
        many_receivers,
        transmit,
        many_senders,
        many,
        many_cores,
        len,
        len_of_senders,
        len_of_cores,
        role_room,
      );
      feeds = c.in_ok-feeds.ensures.items;
      feed_room = omega (arith, ports, many_receivers, len_again, feed_room);
    }
