use Rattle.std.proofs.Common.{◌∙◌, ◌<◌, ℕ, ap, sym, subst, arith}
use Rattle.onvm_base.specs.declared.ids.RingId.{RingId}
use Rattle.onvm_core.specs.Layouts.{producer}
use Rattle.desc_ring.specs.Ends.{LeavesOthers}
use Rattle.tick_pass.proofs.Mailing.{mails_mailed}
use Rattle.pass_bench.proofs.ticks.Desk.mail_all.Goals as goal

pub loop-f-preserved : goal.loop-f-preserved
loop-f-preserved c =
    let was = c.loop-f.invariant in
    let site = c.loop-f.self.board in
    let f : ℕ = c.loop-f.f in
    let known : f < site.layout.functions =
    omega (arith, c.loop-f-test.true, c.len-f-end.ensures, was.long, was.mailed.ends.long, c.loop-f.self.mails.ok) in
    let is = c.post_sample.ensures in
    let at = was.mailed.ends.each f c.index_mut-mail.result.now known c.index_mut-mail.ensures.value in
    let ring = is.ring ∙ at.ring_is in
    let mine = was.mailed.mine f known in
    record {
      mailed = record {
        mine = λ g less.
            is.mail.end.mine ∙ ap (producer site.layout) ring ∙ sym mine ∙ was.mailed.mine g less;
        ends =
            mails_mailed site c.loop-f.self.mails.items f c.post_sample.new.self c.loop-f.self.core
            c.post_sample.new.token known mine ring is.mail
            (subst (λ (r : RingId). LeavesOthers site r c.loop-f.self.core c.post_sample.new.token) at.ring_is is.others)
            was.mailed.ends;
      };
      role = was.role;
      latest = was.latest;
      long = was.long;
    }
