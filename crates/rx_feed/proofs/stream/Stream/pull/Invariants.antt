use Rattle.std.proofs.Common.{◌≡◌, ◌+◌, ◌-◌, ℕ, List, Option, length, if◌then◌else◌}
use Rattle.onvm_host.specs.Deeds.{Amounts}
use Rattle.rx_feed.specs.History.{frames_in}
use Rattle.rx_feed.specs.Standing.{IsTakenSince}
use Rattle.rx_feed.specs.Streams.{IsFlowing, SameFrames, standing_of}
use Rattle.rx_feed.proofs.Flowing.{most_taken}
use Rattle.rx_feed.proofs.stream.Stream.pull.Given as goal

-- all that was taken was fed, and no frame was pulled of it
abbrev pub invariant-pulls : goal.invariant-pulls
invariant-pulls g l = record {
  flowing : IsFlowing (frames_in l.fn.self.pulled) l.self;
  fed : l.self.waiting ≡ 0;
  same : SameFrames l.fn.self l.self;
  since : (left : Option (List ℕ)) (takes : Amounts)
      → IsTakenSince left (g.S.Source.left l.fn.source) takes (g.S.Source.takes l.fn.source) (standing_of l.fn.self)
      → IsTakenSince left (g.S.Source.left l.source) takes (g.S.Source.takes l.source) (standing_of l.self);
  named : g.S.Source.name l.source ≡ g.S.Source.name l.fn.source;
}

abbrev pub decreases-pulls : goal.decreases-pulls
decreases-pulls g l =
    most_taken - length l.self.reader.rest + (if l.self.reader.finished then 0 else 1)
