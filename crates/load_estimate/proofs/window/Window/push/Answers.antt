use Rattle.std.proofs.Common.{◌∙◌, ap, ◌<◌, ◌^◌, length, arith}
use Rattle.load_estimate.specs.Windows.{WindowState}
use Rattle.std.proofs.lemmas.List.Sums.{sum_by-le}
use Rattle.load_estimate.specs.declared.sample.Sample.{Sample}
use Rattle.load_estimate.proofs.Windows.{AreOfSamples-with_newest, length-in_order}
use Rattle.load_estimate.proofs.window.Window.push.Goals as goal

pub add-requires : goal.add-requires
add-requires c =
    let many = ap length c.self.invariant.times_are ∙ length-in_order c.self.inside.samples.items in
    let window = ap (λ (window : WindowState). length window.samples) c.self.view_is in
    omega (arith, c.requires.room)

pub overflow_add-self : goal.overflow_add-self
overflow_add-self c =
    let window = ap (λ (window : WindowState). length window.samples) c.self.view_is in
    let few = sum_by-le (λ (s : Sample). s.count) (2 ^ 32) c.self.inside.samples.items
    (λ k d lt. omega (arith, c.self.invariant.counts k d lt)) in
    let small : c.args.sample.count < 2 ^ 32 = omega arith in
    omega (arith, c.requires.room, c.from.ensures, c.self.invariant.frames_are)

pub invariant_of-self : goal.invariant_of-self
invariant_of-self c =
    let window = ap (λ (window : WindowState). length window.samples) c.self.view_is in
    let latest = ap (λ (window : WindowState). window.latest) c.self.view_is in
    let small : c.args.sample.count < 2 ^ 32 = omega arith in
    rw (c.push_back.ensures.items, c.add.ensures, c.from.ensures)
    (AreOfSamples-with_newest _ _ _ _ _ (omega (arith, c.requires.later)) small (omega (arith, c.requires.room))
    c.self.invariant)
