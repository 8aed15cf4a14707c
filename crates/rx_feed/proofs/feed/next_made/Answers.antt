use Rattle.rx_feed.proofs.Making.{made_grows}
use Rattle.rx_feed.proofs.feed.next_made.Goals as goal

pub returns-clause-frame : goal.returns-clause-frame
returns-clause-frame c =
    made_grows c.args.generator.now c.next.new.self c.in_ok-frame.frame c.in_ok-frame.ensures.frame c.in_ok-frame.ensures.ok
