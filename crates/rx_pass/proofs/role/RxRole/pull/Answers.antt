use Rattle.std.proofs.Common.{rules, arith, ◌≡◌, ◌∙◌, sym, ap, subst, ◌++◌, ◌∷◌, [], List, length, length-append}
use Rattle.onvm_base.specs.declared.frame.Frame.{Frame}
use Rattle.rx_feed.specs.Standing.{HasStopped}
use Rattle.rx_feed.proofs.Feeding.{stays_then}
use Rattle.rx_pass.proofs.Queues.{done_same, frames_then, queue_more}
use Rattle.rx_pass.proofs.role.RxRole.pull.Goals as goal

pub frames-preserved : goal.frames-preserved
frames-preserved g c =
    let was = c.frames.invariant in
    let frame : Frame = c.in-Some.frame in
    let before : List Frame = c.frames.self.intake.standing.pulled in
    let waited : List Frame = c.frames.self.waiting.items in
    let grew : c.next.new.self.standing.pulled ≡ before ++ frame ∷ [] = search rules in
    let waits : c.push_back.new.self.items ≡ waited ++ frame ∷ [] = search rules in
    record {
      queue = λ is.
          let split = was.queue is in
          (split.0, grew ∙ queue_more before split.0 waited frame split.1 ∙ ap (λ (t : List Frame). split.0 ++ t) (sym waits));
      done =
          done_same before waited c.next.new.self.standing.pulled c.push_back.new.self.items frame grew waits ∙ was.done;
      few =
          omega (
            arith,
            was.few,
            c.if-len-burst.false,
            c.len.ensures,
            ap (length {A = Frame}) waits,
            length-append waited (frame ∷ []),
          );
      frames = c.next.ensures.frames;
      since = λ left takes is. c.next.ensures.since left takes (was.since left takes is);
      feed =
          stays_then g.I.Source.name c.args.self.now.intake.feed c.frames.self.intake.feed c.next.new.self.feed
          was.feed c.next.ensures.same;
      more = (was.more.0 ++ frame ∷ [], frames_then c.args.self.now.intake.standing.pulled before _ was.more.0 frame was.more.1 grew);
      ended = λ stopped.
          let none = (c.next.ensures.stopped (subst HasStopped (sym (was.ended stopped)) stopped)).0 in
          absurd (search rules);
      flows = was.flows;
      inlet = was.inlet;
    }
