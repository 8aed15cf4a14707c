use Rattle.std.proofs.Common.{◌≡◌, ℕ, ◌+◌, ◌*◌, ◌-◌, ◌/◌, ◌%◌, ◌<◌, sym, ◌∙◌, arith, mod-lt}
use Rattle.std.proofs.Math.Nat.{div-add-mod'}
use Rattle.onvm_board.proofs.Separation.{grid_same}
use Rattle.onvm_board.proofs.memory.parted.Goals as goal

pub returns-then-fourth-buffers-clause-left : goal.returns-then-fourth-buffers-clause-left
returns-then-fourth-buffers-clause-left c =
    let n : ℕ = c.args.buffers in
    let buf : ℕ = c.args.buf in
    let r : ℕ = buf - n - n - n in
    let whole : buf / n * n + buf % n ≡ buf = div-add-mod' buf n in
    let flat : buf ≡ 3 * n + r =
    omega (arith, c.if-buf-buffers.false, c.if-second-buffers.false, c.if-third-buffers.false) in
    let inside : buf % n < n = mod-lt buf c.requires.some in
    let both = grid_same (buf / n) 3 n (buf % n) r inside c.if-fourth-buffers.true (whole ∙ flat) in
    sym both.1
