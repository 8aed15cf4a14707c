use Rattle.std.proofs.Common.{◌≡◌, ℕ, ◌+◌, ◌-◌, ◌^◌, refl, ap, ◌∙◌, sym}
use Rattle.std.specs.Prelude.{min}
use Rattle.onvm_core.specs.Places.{one_if}
use Rattle.nf_exec.proofs.SampleActs.{work_mailed}
use Rattle.nf_exec.proofs.Working.{no_more}
use Rattle.nf_exec.proofs.StationLists.{keeps_set}
use Rattle.nf_exec.proofs.role.CoreRole.mail_at.Goals as goal

pub returns-then-mail_sample-clause-others : goal.returns-then-mail_sample-clause-others
returns-then-mail_sample-clause-others g c =
    keeps_set c.args.self.now.stations.items c.args.at c.index_mut.result.now c.mail_sample.new.self c.requires.known
    c.index_mut.ensures.value c.mail_sample.ensures.function

pub returns-else-mail_sample-clause-others : goal.returns-else-mail_sample-clause-others
returns-else-mail_sample-clause-others g c =
    keeps_set c.args.self.now.stations.items c.args.at c.index_mut.result.now c.mail_sample.new.self c.requires.known
    c.index_mut.ensures.value c.mail_sample.ensures.function

pub returns-then-mail_sample-clause-work : goal.returns-then-mail_sample-clause-work
returns-then-mail_sample-clause-work g c =
    let is = c.mail_sample.ensures in
    let b : one_if c.mail_sample.result ≡ 1 = ap one_if c.if-mail_sample.true in
    work_mailed g.N.NetFunction.acts g.N.NetFunction.state c.args.board.now c.args.at c.mail_sample.result
    c.args.token.now c.mail_sample.new.token c.args.self.now _ c.index_mut.result.now c.mail_sample.new.self
    c.requires.known c.requires.work c.index_mut.ensures.value refl
    (returns-then-mail_sample-clause-others g c).functions refl refl is.station is.function is.grew is.lost refl refl
    (c.saturating_add-self.ensures ∙ ap (λ (n : ℕ). min (c.args.self.now.lost + n) (2 ^ 64 - 1)) (sym b))

pub returns-else-mail_sample-clause-work : goal.returns-else-mail_sample-clause-work
returns-else-mail_sample-clause-work g c =
    let is = c.mail_sample.ensures in
    let b : one_if c.mail_sample.result ≡ 0 = ap one_if c.if-mail_sample.false in
    work_mailed g.N.NetFunction.acts g.N.NetFunction.state c.args.board.now c.args.at c.mail_sample.result
    c.args.token.now c.mail_sample.new.token c.args.self.now _ c.index_mut.result.now c.mail_sample.new.self
    c.requires.known c.requires.work c.index_mut.ensures.value refl
    (returns-else-mail_sample-clause-others g c).functions refl refl is.station is.function is.grew is.lost refl refl
    (no_more c.args.self.now.lost (one_if c.mail_sample.result) _ b c.requires.work.lost)
