use Rattle.std.proofs.Common.{◌≡◌, arith, ap, vec_len, vec_capacity}
use Rattle.rx_pass.proofs.kept.Kept.send.Goals as goal

pub returns-clause-room : goal.returns-clause-room
returns-clause-room c n room =
    let long : vec_len c.record.new.self.sent ≡ vec_len c.args.self.now.sent = ap vec_len c.record.ensures.sent in
    let wide : vec_capacity c.record.new.self.sent ≡ vec_capacity c.args.self.now.sent =
    ap vec_capacity c.record.ensures.sent in record {
      records = (c.record.ensures.room n room).records;
      sent = omega (arith, room.sent, long, wide, c.push_reserved.ensures.len, c.push_reserved.ensures.capacity);
    }
