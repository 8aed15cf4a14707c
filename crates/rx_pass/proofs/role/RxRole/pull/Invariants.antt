use Rattle.std.proofs.Common.{◌≡◌, ◌-◌, ◌≤◌, ◌++◌, ℕ, List, Option, length}
use Rattle.onvm_base.specs.declared.frame.Frame.{Frame}
use Rattle.onvm_host.specs.Deeds.{Amounts}
use Rattle.rx_feed.specs.Feeds.{IsPulledOf, IsTakenFrom, StaysFeed}
use Rattle.rx_feed.specs.Standing.{HasStopped}
use Rattle.rx_pass.specs.Roles.{IsQueue, done_of, waiting_of}
use Rattle.rx_pass.proofs.role.RxRole.pull.Given as goal

abbrev pub invariant-frames : goal.invariant-frames
invariant-frames g l = record {
  queue : IsQueue l.fn.self → IsQueue l.self;
  done : done_of l.self ≡ done_of l.fn.self;
  few : length (waiting_of l.self) ≤ l.burst;
  frames : IsPulledOf l.self.intake.feed l.self.intake.standing;
  since : (left : Option (List ℕ)) (takes : Amounts)
      → IsTakenFrom g.I.Source.left g.I.Source.takes left takes l.fn.self.intake.feed l.fn.self.intake.standing
      → IsTakenFrom g.I.Source.left g.I.Source.takes left takes l.self.intake.feed l.self.intake.standing;
  feed : StaysFeed g.I.Source.name l.fn.self.intake.feed l.self.intake.feed;
  more : (frames : List Frame)
      × (l.self.intake.standing.pulled ≡ l.fn.self.intake.standing.pulled ++ frames);
  ended : HasStopped l.fn.self.intake.standing → l.self.intake.standing ≡ l.fn.self.intake.standing;
  flows : l.self.flows ≡ l.fn.self.flows;
  inlet : l.self.inlet ≡ l.fn.self.inlet;
}

abbrev pub decreases-frames : goal.decreases-frames
decreases-frames g l = l.burst - length (waiting_of l.self)
