use Rattle.std.proofs.Common.{◌≡◌, ◌++◌, ℕ, List, Option}
use Rattle.onvm_base.specs.declared.frame.Frame.{Frame}
use Rattle.onvm_host.specs.Deeds.{Amounts}
use Rattle.rx_feed.specs.Feeds.{IsTakenFrom, StaysFeed, most_left}
use Rattle.rx_feed.specs.Standing.{HasStopped}
use Rattle.rx_feed.proofs.intake.Intake.drain.Given as goal

abbrev pub invariant-frames : goal.invariant-frames
invariant-frames g l = record {
  more : (frames : List Frame) × (l.self.standing.pulled ≡ l.fn.self.standing.pulled ++ frames);
  stopped : HasStopped l.fn.self.standing → l.self ≡ l.fn.self;
  since : (left : Option (List ℕ)) (takes : Amounts)
      → IsTakenFrom g.I.Source.left g.I.Source.takes left takes l.fn.self.feed l.fn.self.standing
      → IsTakenFrom g.I.Source.left g.I.Source.takes left takes l.self.feed l.self.standing;
  same : StaysFeed g.I.Source.name l.fn.self.feed l.self.feed;
}

abbrev pub decreases-frames : goal.decreases-frames
decreases-frames g l = most_left l.self.feed l.self.standing
