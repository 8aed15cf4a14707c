use Rattle.std.proofs.Common.{◌≡◌, ℕ, ◌/◌, ◌%◌, ◌∷◌, sym, ap, ◌∙◌, subst, arith}
use Rattle.std.specs.Prelude.{None, IsBitSet}
use Rattle.onvm_core.specs.declared.layout.Word.TheVariants.{Pool}
use Rattle.onvm_core.specs.declared.step.Act.TheVariants.{Look}
use Rattle.onvm_core.specs.Layouts.{bit_of}
use Rattle.onvm_board.specs.Tokens.{TokenView}
use Rattle.onvm_board.proofs.Judgements.{set_of_shift}
use Rattle.entry_throttle.proofs.tests.frames.take.Goals as goal

pub take-requires-clause-saw : goal.take-requires-clause-saw
take-requires-clause-saw c =
    let layout = c.args.board.now.layout in
    let buf : ℕ = c.args.buf.0 in
    let eight : layout.buffers ≡ 8 = c.requires.layout.buffers in
    let port : buf / layout.buffers ≡ 0 = ap (λ n. buf / n) eight ∙ omega (arith, c.requires.known) in
    let index : buf % layout.buffers / 64 ≡ 0 = ap (λ n. buf % n / 64) eight ∙ omega (arith, c.requires.known) in
    let bit : bit_of layout buf ≡ buf = ap (λ n. buf % n % 64) eight ∙ omega (arith, c.requires.known) in
    record {
      seen = c.look-seen.result;
      told = None;
      earlier = c.args.token.now.log;
      last =
          ap (λ (t : TokenView). t.log) c.look-seen.ensures.looked.grew
          ∙ ap (λ (z : ℕ × ℕ). Look (Pool (record { 0 = z.0 }) z.1) c.look-seen.result None ∷ c.args.token.now.log)
          (λ i. (sym port i, sym index i));
      shown =
          subst (IsBitSet c.look-seen.result) (sym bit) (set_of_shift c.look-seen.result buf c.if-seen-buf-eq0.false);
    }
