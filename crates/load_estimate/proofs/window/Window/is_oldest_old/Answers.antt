use Rattle.std.proofs.Common.{◌∙◌, ap, subst, ◌-◌, leb, arith}
use Rattle.std.proofs.lemmas.Bool.{OnFalse_from, leb-false}
use Rattle.std.proofs.lemmas.Option.{none-some, same_Some}
use Rattle.load_estimate.specs.declared.sample.Sample.{Sample}
use Rattle.load_estimate.specs.Windows.{WindowState}
use Rattle.load_estimate.specs.Fields.{AreYoung}
use Rattle.load_estimate.proofs.Windows.{young_of-all}
use Rattle.load_estimate.proofs.window.Window.is_oldest_old.Goals as goal

pub returns-in-Some-clause-young : goal.returns-in-Some-clause-young
returns-in-Some-clause-young c =
    OnFalse_from (leb c.self.inside.span c.saturating_sub.result) _
    (λ not.
    let young = leb-false c.self.inside.span c.saturating_sub.result not in
    subst (λ (window : WindowState). AreYoung window c.args.now) c.self.view_is
    (young_of-all c.self.inside.span c.args.now c.self.inside.samples.items c.self.invariant.rise
    (λ first is.
    let same = same_Some _ _ (c.in-Some.ensures ∙ is) in
    omega (arith, c.saturating_sub.ensures, ap (λ (s : Sample). c.args.now - s.moment) same))))

pub returns-in-None-clause-young : goal.returns-in-None-clause-young
returns-in-None-clause-young c =
    subst (λ (window : WindowState). AreYoung window c.args.now) c.self.view_is
    (young_of-all c.self.inside.span c.args.now c.self.inside.samples.items c.self.invariant.rise
    (λ first is. absurd (none-some first (c.in-None.ensures ∙ is))))
