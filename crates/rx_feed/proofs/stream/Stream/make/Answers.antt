use Rattle.std.proofs.Common.{◌≡◌, ◌∙◌, sym, ap, subst, refl, inl, ℕ, ◌≤◌, List, [], length, arith, rules}
use Rattle.pcap_in.specs.Reading.{Reading}
use Rattle.rx_feed.specs.Streams.{IsFlow}
use Rattle.rx_feed.specs.declared.stream.TheConstants.{PIECE_LEN}
use Rattle.rx_feed.proofs.Flowing.{new_flow}
use Rattle.rx_feed.proofs.Streaming.{going_stream}
use Rattle.rx_feed.proofs.stream.Stream.make.Goals as goal

pub returns-clause-stream : goal.returns-clause-stream
returns-clause-stream c =
    let long : length c.in_ok-vec.field-0.items ≡ PIECE_LEN = search rules in
    going_stream _ (record {
      piece = record { long = long; fits = omega arith; last = λ _. refl };
      flow = new_flow c.make.result c.make.ensures;
      counted = record { count = refl; bytes = refl; within = record { few = omega arith; small = omega arith } };
      going = refl;
      sound = refl;
    })
