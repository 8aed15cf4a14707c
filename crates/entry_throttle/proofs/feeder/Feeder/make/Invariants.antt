use Rattle.std.proofs.Common.{◌≡◌, ◌≤◌, length, None}
use Rattle.std.specs.Prelude.{vec_capacity}
use Rattle.watermark.specs.declared.mark.Mark.TheVariants.{Calm}
use Rattle.watermark.specs.Moments.{no_moments}
use Rattle.entry_throttle.specs.Feeders.{AreEach}
use Rattle.entry_throttle.proofs.feeder.Feeder.make.Given as goal

abbrev pub invariant-loop : goal.invariant-loop
invariant-loop l = record {
  ends_room : l.functions ≤ vec_capacity l.ends;
  ages_room : l.functions ≤ vec_capacity l.ages;
  marks_room : l.functions ≤ vec_capacity l.marks;
  ends_long : length l.ends.items ≡ l.counter;
  ages_long : length l.ages.items ≡ l.counter;
  marks_long : length l.marks.items ≡ l.counter;
  ends_are : AreEach (λ f end. end ≡ None) l.ends.items;
  ages_are : AreEach (λ f kept. kept ≡ no_moments l.plan.high) l.ages.items;
  marks_are : AreEach (λ f mark. mark ≡ Calm) l.marks.items;
}
