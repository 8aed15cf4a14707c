use Rattle.std.proofs.Common.{◌∙◌, ap, ◌<◌, length, arith}
use Rattle.load_estimate.specs.Order.{insertion, upper_bound}
use Rattle.load_estimate.proofs.Order.{insert-told, upper_bound-le, IsNonDecreasing-insertion}
use Rattle.load_estimate.proofs.times.Times.add.Goals as goal

pub insert-requires : goal.insert-requires
insert-requires c =
    omega (arith, c.upper_bound-at.ensures, upper_bound-le c.args.time c.deref.result.now, c.deref.ensures.len)

pub invariant_of-self : goal.invariant_of-self
invariant_of-self c =
    let times = c.self.inside.items.items in
    let few : length times < 1024 = rw c.self.view_is c.requires in
    let done = c.insert.ensures.succeeds
    (omega (arith, c.self.invariant.room_for, c.deref.ensures.len, ap length c.deref.ensures.value)) in
    let at = c.upper_bound-at.ensures ∙ ap (upper_bound c.args.time) c.deref.ensures.value in
    record {
      rise =
          rw (insert-told c.insert.result c.args.time times _ _ done c.insert.ensures.items at)
          (IsNonDecreasing-insertion _ _ c.self.invariant.rise);
      room_for = omega (arith, c.self.invariant.room_for, c.insert.ensures.capacity);
    }

pub returns : goal.returns
returns c =
    let times = c.self.inside.items.items in
    let few : length times < 1024 = rw c.self.view_is c.requires in
    let done = c.insert.ensures.succeeds
    (omega (arith, c.self.invariant.room_for, c.deref.ensures.len, ap length c.deref.ensures.value)) in
    let at = c.upper_bound-at.ensures ∙ ap (upper_bound c.args.time) c.deref.ensures.value in
    insert-told c.insert.result c.args.time times _ _ done c.insert.ensures.items at
    ∙ ap (insertion c.args.time) c.self.view_is
