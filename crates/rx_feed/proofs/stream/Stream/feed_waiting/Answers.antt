use Rattle.std.proofs.Common.{◌≡◌, refl, ◌++◌, ◌≤◌, arith, rules}
use Rattle.pcap_in.specs.Reading.{Reading}
use Rattle.rx_feed.specs.History.{bytes_in, frames_in}
use Rattle.rx_feed.specs.Streams.{waiting_of}
use Rattle.rx_feed.proofs.Flowing.{fed_flow}
use Rattle.rx_feed.proofs.stream.Stream.feed_waiting.Goals as goal

pub returns-clause-flowing : goal.returns-clause-flowing
returns-clause-flowing c =
    let old = c.requires.flowing in
    let is : c.feed.new.self
    ≡ record c.args.self.now.reader { rest = c.args.self.now.reader.rest ++ waiting_of c.args.self.now } = search rules in
    record {
      piece = record { long = old.piece.long; fits = omega arith; last = λ _. refl };
      flow = fed_flow (bytes_in c.args.self.now.taken) (waiting_of c.args.self.now) (frames_in c.args.self.now.pulled)
          c.args.self.now.reader c.feed.new.self old.flow is;
      counted = record { count = old.counted.count; bytes = old.counted.bytes; within = old.counted.within };
      going = old.going;
      sound = old.sound;
    }
