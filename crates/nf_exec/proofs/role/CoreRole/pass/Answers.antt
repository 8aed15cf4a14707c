use Rattle.std.proofs.Common.{ℕ, ◌+◌, ◌∙◌, not, sym, ap, subst, arith, List, is_some}
use Rattle.onvm_base.specs.declared.ids.FnId.{FnId}
use Rattle.nf_exec.specs.Roles.{IsPassing}
use Rattle.nf_exec.proofs.Promising.{promise, role_kept}
use Rattle.nf_exec.proofs.Unbegun.{wanting_promise, wanting_role}
use Rattle.onvm_core.specs.Handling.{core_hand}
use Rattle.onvm_board.specs.Tokens.{TokenView}
use Rattle.onvm_promises.specs.Answers.{is_complete}
use Rattle.nf_exec.proofs.Working.{kept_some, was_not}
use Rattle.nf_exec.proofs.StationLists.{as_long}
use Rattle.nf_exec.proofs.role.CoreRole.pass.Goals as goal

pub returns-in_default-clause-promise : goal.returns-in_default-clause-promise
returns-in_default-clause-promise g c entries =
    wanting_promise g.N.NetFunction.acts g.N.NetFunction.state (g.C.Clock.may_span c.args.clock.now) c.args.board.now
    c.args.plan.now c.args.token.now c.handle_kept.new.token c.args.self.now c.handle_kept.new.self
    c.in_default.ensures.unchanged c.requires.role c.requires.timed c.handle_kept.ensures.work
    c.handle_kept.ensures.functions c.handle_kept.ensures.began entries

pub returns-in_default-clause-role : goal.returns-in_default-clause-role
returns-in_default-clause-role g c =
    wanting_role g.N.NetFunction.acts g.N.NetFunction.state c.args.board.now c.args.plan.now c.args.token.now
    c.handle_kept.new.token c.args.self.now c.handle_kept.new.self c.in_default.ensures.unchanged c.requires.role
    c.handle_kept.ensures.work

pub mail_all-requires-clause-times : goal.mail_all-requires-clause-times
mail_all-requires-clause-times g c i s less s_is some =
    let is = c.serve_all.ensures.times i s less s_is some in
    omega (arith, is.2)

pub returns-clause-promise : goal.returns-clause-promise
returns-clause-promise g c entries =
    let site = c.args.board.now in
    let plan = c.args.plan.now in
    let kept = c.handle_kept.ensures in
    let served = c.serve_all.ensures in
    let n : ℕ = c.in-Ok.first + c.serve_all.result in
    let long = as_long c.args.self.now.stations.items c.handle_kept.new.self.stations.items kept.functions in
    promise g.N.NetFunction.acts g.N.NetFunction.state (g.C.Clock.may_span c.args.clock.now) site plan c.args.token.now
    c.serve_all.new.token c.mail_all.new.token c.args.self.now c.serve_all.new.self c.mail_all.new.self n
    c.answer_of.result c.requires.role c.requires.timed
    (subst (λ (z : List FnId × ℕ). IsPassing site plan z.0 z.1 n c.args.token.now c.serve_all.new.token)
    (λ i. (kept.functions i, long i))
    (served.passing c.args.token.now c.in-Ok.first
    (subst (λ (fs : List FnId). IsPassing site plan fs 0 c.in-Ok.first c.args.token.now c.handle_kept.new.token)
    (sym kept.functions) c.in-Ok.ensures.passing)))
    served.work served.times (served.functions ∙ kept.functions) c.mail_all.ensures.mailed c.mail_all.ensures.counts
    c.mail_all.ensures.work c.mail_all.ensures.functions (c.mail_all.ensures.units.1 ∙ served.began ∙ kept.began)
    (c.answer_of.ensures.whole ∙ ap not c.is_some.ensures) c.answer_of.ensures.tells entries

pub returns-clause-role : goal.returns-clause-role
returns-clause-role g c =
    let site = c.args.board.now in
    let plan = c.args.plan.now in
    let kept = c.handle_kept.ensures in
    let served = c.serve_all.ensures in
    let n : ℕ = c.in-Ok.first + c.serve_all.result in
    let long = as_long c.args.self.now.stations.items c.handle_kept.new.self.stations.items kept.functions in
    role_kept g.N.NetFunction.acts g.N.NetFunction.state (g.C.Clock.may_span c.args.clock.now) site plan c.args.token.now
    c.serve_all.new.token c.mail_all.new.token c.args.self.now c.serve_all.new.self c.mail_all.new.self n
    c.answer_of.result c.requires.role c.requires.timed
    (subst (λ (z : List FnId × ℕ). IsPassing site plan z.0 z.1 n c.args.token.now c.serve_all.new.token)
    (λ i. (kept.functions i, long i))
    (served.passing c.args.token.now c.in-Ok.first
    (subst (λ (fs : List FnId). IsPassing site plan fs 0 c.in-Ok.first c.args.token.now c.handle_kept.new.token)
    (sym kept.functions) c.in-Ok.ensures.passing)))
    served.work served.times (served.functions ∙ kept.functions) c.mail_all.ensures.mailed c.mail_all.ensures.counts
    c.mail_all.ensures.work c.mail_all.ensures.functions (c.mail_all.ensures.units.1 ∙ served.began ∙ kept.began)
    (c.answer_of.ensures.whole ∙ ap not c.is_some.ensures) c.answer_of.ensures.tells

pub returns-in_default-clause-wanting : goal.returns-in_default-clause-wanting
returns-in_default-clause-wanting g c e none_kept =
    c.in_default.ensures.wanting
    (sym (ap (λ (token : TokenView). core_hand token.log) c.in_default.ensures.unchanged) ∙ none_kept)

pub returns-clause-wanting : goal.returns-clause-wanting
returns-clause-wanting g c e =
    kept_some _ _ _ c.mail_all.ensures.work.kept
    (was_not (is_some c.mail_all.new.self.kept)
    (ap is_complete (sym e) ∙ c.answer_of.ensures.whole ∙ ap not c.is_some.ensures))

pub returns-clause-functions : goal.returns-clause-functions
returns-clause-functions g c =
    c.mail_all.ensures.functions ∙ c.serve_all.ensures.functions ∙ c.handle_kept.ensures.functions

pub returns-in_default-clause-same : goal.returns-in_default-clause-same
returns-in_default-clause-same g c =
    let same = c.in_default.ensures.unchanged in (
      ap (λ (token : TokenView). token.board) same,
      ap (λ (token : TokenView). token.role) same,
    )

pub returns-clause-same : goal.returns-clause-same
returns-clause-same g c =
    let mailed = c.mail_all.ensures.mailed.grew in
    let passed =
    (c.serve_all.ensures.passing c.args.token.now c.in-Ok.first
    (subst (λ (fs : List FnId). IsPassing c.args.board.now c.args.plan.now fs 0 c.in-Ok.first c.args.token.now
    c.handle_kept.new.token)
    (sym c.handle_kept.ensures.functions) c.in-Ok.ensures.passing)).grew in (
      ap (λ (token : TokenView). token.board) mailed ∙ ap (λ (token : TokenView). token.board) passed,
      ap (λ (token : TokenView). token.role) mailed ∙ ap (λ (token : TokenView). token.role) passed,
    )
