use Rattle.std.proofs.Common.{◌≡◌, ◌∙◌, sym, ap, length}
use Rattle.onvm_base.specs.declared.frame.Frame.{Frame}
use Rattle.rx_feed.specs.Feeds.{made_standing, standing_in}
use Rattle.rx_feed.specs.Standing.{Standing}
use Rattle.rx_feed.proofs.Making.{length-made_frames}
use Rattle.rx_feed.proofs.intake.Intake.pulled.Goals as goal

pub returns-in-Made : goal.returns-in-Made
returns-in-Made g c =
    let made = c.in-Made.generator in
    let standing : made_standing made c.in-Made.ended ≡ c.args.self.now.standing =
    sym (ap standing_in c.in-Made.is) ∙ ap (λ v. v.standing) c.self.view_is in
    c.given.ensures ∙ sym (length-made_frames made.seed made.given) ∙ ap (λ (s : Standing). length s.pulled) standing
