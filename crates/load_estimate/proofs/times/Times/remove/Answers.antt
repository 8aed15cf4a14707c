use Rattle.std.proofs.Common.{◌≡◌, ◌∙◌, ap, ◌-◌, ◌<◌, length, arith}
use Rattle.std.specs.List.{remove}
use Rattle.load_estimate.specs.Order.{upper_bound}
use Rattle.load_estimate.proofs.Order.{upper_bound-le, upper_bound-insertion, remove-insertion, IsNonDecreasing-remove}
use Rattle.load_estimate.proofs.times.Times.remove.Goals as goal

pub remove-requires : goal.remove-requires
remove-requires c =
    omega (arith, c.upper_bound-behind.ensures, upper_bound-le c.args.time c.deref.result.now, c.deref.ensures.len)

pub invariant_of-self : goal.invariant_of-self
invariant_of-self c =
    let times = c.self.inside.items.items in
    let within : c.upper_bound-behind.result - 1 < length times =
    omega (
      arith,
      c.upper_bound-behind.ensures,
      upper_bound-le c.args.time c.deref.result.now,
      ap length c.deref.ensures.value,
    ) in
    record {
      rise = rw c.remove.ensures.items (IsNonDecreasing-remove times _ within c.self.invariant.rise);
      room_for = omega (arith, c.self.invariant.room_for, c.remove.ensures.capacity);
    }

pub returns-then-behind-gt0 : goal.returns-then-behind-gt0
returns-then-behind-gt0 c rest was =
    let window = c.self.view_is ∙ was in
    let behind = c.upper_bound-behind.ensures ∙ ap (λ xs. upper_bound c.args.time xs) (c.deref.ensures.value ∙ window)
    ∙ upper_bound-insertion c.args.time rest in
    let at : c.upper_bound-behind.result - 1 ≡ upper_bound c.args.time rest = omega arith in
    c.remove.ensures.items ∙ ap (λ n. remove c.self.inside.items.items n) at
    ∙ ap (λ xs. remove xs (upper_bound c.args.time rest)) window
    ∙ remove-insertion c.args.time rest

pub returns-else-behind-gt0 : goal.returns-else-behind-gt0
returns-else-behind-gt0 c rest was =
    let behind = c.upper_bound-behind.ensures
    ∙ ap (λ xs. upper_bound c.args.time xs) (c.deref.ensures.value ∙ c.self.view_is ∙ was)
    ∙ upper_bound-insertion c.args.time rest in
    absurd (omega arith)
