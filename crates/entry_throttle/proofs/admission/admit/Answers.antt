use Rattle.std.proofs.Common.{◌≢◌, refl, ap, sym, subst, ◌∙◌, ℕ, ◌/◌, ◌^◌}
use Rattle.std.specs.Prelude.{bit_and}
use Rattle.std.specs.Int.{trailing_zeros, w32}
use Rattle.onvm_board.specs.Asking.{masked_bits}
use Rattle.entry_throttle.specs.Admissions.{IsHeldBack}
use Rattle.entry_throttle.proofs.Asks.{held_back, one_asked}
use Rattle.entry_throttle.proofs.LookBack.{leaves_twice, step_leaves}
use Rattle.entry_throttle.proofs.admission.admit.Goals as goal

pub returns-then-held-ne0-clause-answer : goal.returns-then-held-ne0-clause-answer
returns-then-held-ne0-clause-answer c =
    let mask : ℕ = c.args.mask in
    let seen : ℕ = c.judge-seen.result in
    let some_held : masked_bits mask seen ≢ 0 =
    λ none_held. c.if-held-ne0.true (ap (λ (n : ℕ). bit_and n mask) c.bits_of.ensures ∙ none_held) in
    let held =
    held_back c.args.board.now mask c.loop-feeder.feeder seen c.args.frame c.args.token.now c.loop-feeder.token
    c.judge-seen.new.token c.loop-feeder.invariant.none_found some_held c.judge-seen.ensures.looked in (
      c.loop-feeder-test.true,
      subst (λ (post : ℕ). IsHeldBack c.args.frame mask c.loop-feeder.feeder post
          (trailing_zeros w32 (bit_and c.bits_of.result mask)) c.args.token.now c.judge-seen.new.token)
          (sym c.number_of.ensures)
          (subst (λ (bits : ℕ). IsHeldBack c.args.frame mask c.loop-feeder.feeder (seen / 2 ^ 32)
          (trailing_zeros w32 (bit_and bits mask)) c.args.token.now c.judge-seen.new.token)
          (sym c.bits_of.ensures) held),
    )

pub loop-feeder-preserved : goal.loop-feeder-preserved
loop-feeder-preserved c =
    let grew = c.judge-seen.ensures.looked.grew in
    let invariant = c.loop-feeder.invariant in
    record {
      none_found =
          one_asked c.args.board.now c.args.mask c.loop-feeder.feeder c.judge-seen.result c.args.frame
          c.args.token.now c.loop-feeder.token c.judge-seen.new.token invariant.none_found
          (ap (λ (n : ℕ). bit_and n c.args.mask) (sym c.bits_of.ensures) ∙ c.if-held-ne0.false)
          c.judge-seen.ensures.looked;
      board = ap (λ t. t.board) grew ∙ invariant.board;
      role = ap (λ t. t.role) grew ∙ invariant.role;
      ends =
          leaves_twice c.args.board.now c.args.token.now c.loop-feeder.token c.judge-seen.new.token invariant.ends
          (step_leaves c.args.board.now _ c.loop-feeder.token c.judge-seen.new.token c.judge-seen.ensures.looked
          (λ ring. refl) (λ ring. refl));
      hand = ap (λ t. t.hand) grew ∙ invariant.hand;
    }

pub returns-then-held-ne0-clause-ends : goal.returns-then-held-ne0-clause-ends
returns-then-held-ne0-clause-ends c =
    leaves_twice c.args.board.now c.args.token.now c.loop-feeder.token c.judge-seen.new.token
    c.loop-feeder.invariant.ends
    (step_leaves c.args.board.now _ c.loop-feeder.token c.judge-seen.new.token c.judge-seen.ensures.looked
    (λ ring. refl) (λ ring. refl))
