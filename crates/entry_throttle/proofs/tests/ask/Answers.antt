use Rattle.std.proofs.Common.{◌∙◌}
use Rattle.entry_throttle.proofs.Blocks.{feeder_admitted}
use Rattle.entry_throttle.proofs.tests.ask.Goals as goal

pub returns : goal.returns
returns c = record {
  feeds = record {
    feeder =
        feeder_admitted c.args.board.now c.args.feeder.now _ c.args.mask 2 c.args.token.now c.admit.new.token
        c.admit.result c.admit.ensures.answer c.requires.feeds.feeder;
    tail = record {
      sized = c.requires.feeds.tail.sized;
      end = c.admit.ensures.ends.tails c.args.tail.now.spot c.requires.feeds.tail.end;
    };
    ring = c.requires.feeds.ring;
    role = c.admit.ensures.role ∙ c.requires.feeds.role;
    empty_handed = c.admit.ensures.hand ∙ c.requires.feeds.empty_handed;
  };
}
