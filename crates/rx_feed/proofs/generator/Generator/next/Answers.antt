use Rattle.std.proofs.Common.{◌≡◌, subst, ◌+◌, ◌<◌, Some, None, if◌then◌else◌, nat_lt, ℕ, arith, rules}
use Rattle.rx_feed.specs.Made.{Making, made_frame}
use Rattle.rx_feed.proofs.Making.{made_next}
use Rattle.rx_feed.proofs.generator.Generator.next.Goals as goal

pub returns-clause-frame : goal.returns-clause-frame
returns-clause-frame c =
    let P : Making → Type 0 = λ m.
    Some c.in_ok-frame.frame ≡ (if nat_lt m.given m.count then Some (made_frame m.seed (m.given + 1)) else None) in
    let before : c.self.inside.given < c.self.inside.count = search rules in
    subst P c.self.view_is
    (made_next c.self.inside.seed c.self.inside.given c.self.inside.count c.self.inside.number _ c.in_ok-frame.frame
    c.self.invariant.0 c.next_number-number.ensures c.in_ok-frame.ensures before)
