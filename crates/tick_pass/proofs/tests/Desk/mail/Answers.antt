use Rattle.std.proofs.Common.{◌<◌, ◌∙◌, ℕ, ap, sym, subst, arith}
use Rattle.onvm_base.specs.declared.ids.RingId.{RingId}
use Rattle.onvm_core.specs.Layouts.{producer}
use Rattle.desc_ring.specs.Ends.{LeavesOthers}
use Rattle.tick_pass.proofs.Mailing.{mails_mailed}
use Rattle.tick_pass.proofs.tests.Desk.mail.Goals as goal

pub returns-clause-desk : goal.returns-clause-desk
returns-clause-desk c =
    let was = c.requires.desk in
    let site = c.args.self.now.board in
    let f : ℕ = c.args.f in
    let known : f < site.layout.functions = omega (arith, c.requires.known, was.two) in
    let is = c.post_sample.ensures in
    let at = was.ends.each f c.index_mut-mail.result.now known c.index_mut-mail.ensures.value in
    let ring = is.ring ∙ at.ring_is in
    record {
      two = was.two;
      first_board = was.first_board;
      mine = λ g less.
          is.mail.end.mine ∙ ap (producer site.layout) ring ∙ sym (was.mine f c.requires.known) ∙ was.mine g less;
      ends =
          mails_mailed site c.args.self.now.mails.items f c.post_sample.new.self c.args.self.now.core
          c.post_sample.new.token known (was.mine f c.requires.known) ring is.mail
          (subst (λ (ring : RingId). LeavesOthers site ring c.args.self.now.core c.post_sample.new.token) at.ring_is
          is.others)
          was.ends;
      role_is = was.role_is;
    }
