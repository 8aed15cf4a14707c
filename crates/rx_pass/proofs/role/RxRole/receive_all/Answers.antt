use Rattle.std.proofs.Common.{◌≡◌, ◌∙◌, sym, ap, subst, refl, ℕ, suc, ◌+◌, ◌-◌, List, [], ◌∷◌, ◌++◌, length, Some, arith, rules}
use Rattle.onvm_base.specs.declared.frame.Frame.{Frame}
use Rattle.onvm_base.specs.declared.ids.PortId.{PortId}
use Rattle.onvm_core.specs.declared.entry.Entry.{Entry}
use Rattle.onvm_core.specs.Logs.{Setting, entry_after}
use Rattle.onvm_core.specs.Receiving.ReceivePhase.{Between}
use Rattle.onvm_promises.specs.Entries.{entry_of}
use Rattle.rx_pass.specs.declared.inlet.Inlet.{Inlet}
use Rattle.rx_pass.specs.Keeping.{HasRoom}
use Rattle.rx_pass.specs.Roles.{done_of, pulled_of, waiting_of}
use Rattle.rx_pass.specs.Turns.{IsTurn, Knows}
use Rattle.rx_pass.proofs.Queues.{longer, next_known, queue_less}
use Rattle.rx_pass.proofs.Turning.{turn_then}
use Rattle.rx_pass.proofs.role.RxRole.receive_all.Goals as goal

pub frames-preserved : goal.frames-preserved
frames-preserved g c =
    let was = c.frames.self in
    let kept = c.frames.invariant in
    let mid = c.entry_of-entry.new.self in
    let frame : Frame = c.in-Some.frame in
    let rest : List Frame = c.pop_front.new.self.items in
    let earlier : List Frame = kept.queue.0 in
    let role : ℕ = c.args.token.now.role in
    let waits : mid.waiting.items ≡ rest = ap (λ r. r.waiting.items) c.entry_of-entry.ensures.same in
    let intake : mid.intake ≡ was.intake = ap (λ r. r.intake) c.entry_of-entry.ensures.same in
    let flows : mid.flows ≡ was.flows = ap (λ r. r.flows) c.entry_of-entry.ensures.same in
    let inlet : mid.inlet ≡ was.inlet = ap (λ r. r.inlet) c.entry_of-entry.ensures.same in
    let items : was.waiting.items ≡ frame ∷ rest = c.in-Some.ensures.items in
    let split : pulled_of was ≡ earlier ++ frame ∷ rest = kept.queue.1 ∙ ap (λ t. earlier ++ t) items in
    let all : length (pulled_of was) ≡ length earlier + length (waiting_of was) =
    longer earlier [] (pulled_of was) (waiting_of was) kept.queue.1 in
    let one : length (waiting_of was) ≡ suc (length rest) = ap (length {A = Frame}) items in
    let done : ℕ = done_of was in
    let long : length earlier ≡ done = omega (arith, all) in
    let pulled : mid.intake.standing.pulled ≡ pulled_of was = ap (λ i. i.standing.pulled) intake in
    let after : done + 1 ≡ length mid.intake.standing.pulled - length mid.waiting.items =
    omega (arith, all, one, ap (length {A = Frame}) pulled, ap (length {A = Frame}) waits) in
    record {
      turn = λ setting fits.
          let own : PortId = record { 0 = role } in
          let port : own ≡ was.inlet.part.port =
          ap (λ (n : ℕ). let p : PortId = record { 0 = n } in p) (sym kept.role ∙ kept.inlet.port) in
          let size : c.len.result ≡ length rest = search rules in
          let number : done + 1 ≡ c.pulled-pulled.result - c.len.result =
          omega (arith, all, one, size, c.pulled-pulled.ensures, ap (λ i. length i.standing.pulled) kept.intake) in
          let next : entry_after setting role done ≡ Some (entry_of c.args.plan.now own (done + 1) frame) =
          next_known c.args.board.now.layout c.args.plan.now role (pulled_of c.args.self.now) earlier frame rest
          c.args.self.now.intake.standing.ended setting done fits
          (ap (λ i. i.standing.pulled) (sym kept.intake) ∙ split) long in
          let same : entry_of c.args.plan.now own (done + 1) frame ≡ c.entry_of-entry.result =
          ap (λ (p : PortId). entry_of c.args.plan.now p (done + 1) frame) port
          ∙ ap (λ (n : ℕ). entry_of c.args.plan.now was.inlet.part.port n frame) number ∙ sym c.entry_of-entry.ensures.entry in
          let knows : Knows c.args.board.now.layout c.args.plan.now role done c.entry_of-entry.result setting =
          record { layout_is = fits.layout_is; plan_is = fits.plan_is; next = next ∙ ap (λ (e : Entry). Some e) same } in
          let Know : ℕ → Type 0 = λ r. Knows c.args.board.now.layout c.args.plan.now r done c.entry_of-entry.result setting in
          let Turn : ℕ → Type 0 = λ r. IsTurn setting r c.args.now (Between done) (Between (done + 1)) c.frames.token
          c.receive.new.token mid.inlet c.receive.new.self in
          let From : Inlet → Type 0 = λ i. IsTurn setting role c.args.now (Between done) (Between (done + 1)) c.frames.token
          c.receive.new.token i c.receive.new.self in
          let Upto : ℕ → Type 0 = λ n. IsTurn setting role c.args.now (Between done) (Between n) c.frames.token
          c.receive.new.token was.inlet c.receive.new.self in
          let second : Upto (length mid.intake.standing.pulled - length mid.waiting.items) =
          subst Upto after (subst From inlet
          (subst Turn kept.role (c.receive.ensures.turn setting done (subst Know (sym kept.role) knows)))) in
          turn_then setting role c.args.now (Between (done_of c.args.self.now)) (Between done)
          (Between (length mid.intake.standing.pulled - length mid.waiting.items)) c.args.token.now c.frames.token
          c.receive.new.token c.args.self.now.inlet was.inlet c.receive.new.self (kept.turn setting fits) second;
      queue = (
        earlier ++ frame ∷ [],
        pulled ∙ queue_less (pulled_of was) earlier rest frame split ∙ ap (λ t. (earlier ++ frame ∷ []) ++ t) (sym waits),
      );
      hand = c.receive.ensures.hand;
      role = c.receive.ensures.same.0 ∙ kept.role;
      board = c.receive.ensures.same.1 ∙ kept.board;
      inlet = c.receive.ensures.inlet;
      intake = intake ∙ kept.intake;
      flows = flows ∙ kept.flows;
      port = c.receive.ensures.part ∙ ap (λ (i : Inlet). i.part) inlet ∙ kept.port;
      room =
          let Room : ℕ → Type 0 = λ n. HasRoom n was.inlet.kept in
          let From : Inlet → Type 0 = λ i. HasRoom (suc (length mid.waiting.items)) i.kept in
          let count : length (waiting_of was) ≡ suc (length mid.waiting.items) =
          one ∙ ap suc (sym (ap (length {A = Frame}) waits)) in
          c.receive.ensures.room (length mid.waiting.items) (subst From (sym inlet) (subst Room count kept.room));
    }
