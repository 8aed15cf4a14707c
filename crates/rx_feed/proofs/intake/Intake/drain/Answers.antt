use Rattle.std.proofs.Common.{◌≡◌, ◌++◌, ◌∷◌, [], rules}
use Rattle.rx_feed.proofs.Feeding.{fewer_left}
use Rattle.rx_feed.proofs.intake.Intake.drain.Goals as goal

pub frames-smaller : goal.frames-smaller
frames-smaller g c =
    let grew : c.next.new.self.standing.pulled ≡ c.frames.self.standing.pulled ++ c.in-Some.frame ∷ [] = search rules in
    fewer_left g.I.Source.name c.frames.self.feed c.next.new.self.feed c.frames.self.standing c.next.new.self.standing
    c.in-Some.frame c.next.ensures.same c.next.ensures.frames grew
