use Rattle.std.proofs.Common.{◌≡◌, ◌∙◌, ap, arith, sym, ℕ, add-one, get_or}
use Rattle.std.specs.Prelude.{slice_set}
use Rattle.load_estimate.specs.Windows.{WindowState, without_old}
use Rattle.tick_pass.proofs.Windowing.{changed_all, changed_front, changed_next, unchanged_there}
use Rattle.tick_pass.proofs.windows.age_out.Goals as goal

pub age_out-requires : goal.age_out-requires
age_out-requires c =
    let i : ℕ = c.loop-window.window-index in
    let item : WindowState = c.window-item.result in
    let same : get_or c.loop-window.windows i item ≡ get_or c.args.windows.now i item =
    ap (λ ws. get_or ws i item) c.loop-window.invariant
    ∙ unchanged_there (without_old c.args.now) i c.args.windows.now item in
    omega (arith, ap (λ (w : WindowState). w.latest) same, c.requires i item c.loop-window-test.true)

pub loop-window-preserved : goal.loop-window-preserved
loop-window-preserved c =
    let i : ℕ = c.loop-window.window-index in
    let item : WindowState = c.window-item.result in
    let was = c.loop-window.invariant in
    let aged = c.age_out.ensures.young ∙ ap (without_old c.args.now) (sym c.window-item.is) in
    (λ j. slice_set (was j) i (aged j))
    ∙ changed_next (without_old c.args.now) i c.args.windows.now item c.loop-window-test.true
    (c.window-item.is ∙ ap (λ ws. get_or ws i item) was)
    ∙ ap (λ n. changed_front (without_old c.args.now) n c.args.windows.now) (sym (add-one i))

pub returns : goal.returns
returns c =
    c.loop-window.invariant
    ∙ changed_all (without_old c.args.now) c.loop-window.window-index c.args.windows.now c.loop-window-test.false
