use Rattle.std.proofs.Common.{◌≡◌, ◌+◌, ℕ, sym, ap, ◌∙◌, subst, arith}
use Rattle.std.specs.Prelude.{nat_le, slice_index_or, slice_set}
use Rattle.std.proofs.lemmas.List.{length-set, get_or_default}
use Rattle.onvm_core.specs.declared.layout.Layout.{Layout}
use Rattle.onvm_core.specs.Logs.{push_count}
use Rattle.watermark.specs.declared.mark.Mark.{Mark}
use Rattle.watermark.specs.Moments.{PushMoments, age_of, no_moments}
use Rattle.onvm_board.specs.Tokens.{TokenView}
use Rattle.entry_throttle.specs.Lanes.{HasReadLanes, IsOwnEnd, OnlyLooked}
use Rattle.entry_throttle.specs.Looks.{lane}
use Rattle.entry_throttle.proofs.Lanes.{changed_on, enough_kept, lane_read, look_like}
use Rattle.entry_throttle.proofs.LookBack.{LookAdds, end_looked, leaves_twice, look_adds, only_looked, only_looked_twice}
use Rattle.entry_throttle.proofs.reading.read_lanes.Goals as goal

pub loop-f-preserved : goal.loop-f-preserved
loop-f-preserved c =
    let was = c.loop-f.invariant in
    let f : ℕ = c.loop-f.f in
    let one : TokenView = c.loop-f.token in
    let two : TokenView = c.holds-high.new.token in
    let three : TokenView = c.holds-low.new.token in
    let feeder : ℕ = c.args.token.now.role in
    let looked_high : OnlyLooked one two =
    only_looked c.args.board.now (lane f one.role) _ one two c.holds-high.result c.holds-high.ensures.finds in
    let looked_low : OnlyLooked two three =
    only_looked c.args.board.now (lane f two.role) _ two three c.holds-low.result c.holds-low.ensures.finds in
    let looked : OnlyLooked one three = only_looked_twice one two three looked_high looked_low in
    record {
      read = λ setting marks.
          let functions : setting.layout.functions ≡ c.args.board.now.layout.functions =
          ap (λ (l : Layout). l.functions) marks.same in
          let ring : setting.layout.ring ≡ c.args.board.now.layout.ring = ap (λ (l : Layout). l.ring) marks.same in
          let high =
          look_like (lane f feeder) _ setting.layout.ring c.args.limits.high setting.plan.high one.log two.log
          c.holds-high.result (sym ring) (sym marks.high_is)
          (subst (λ (role : ℕ). LookAdds (lane f role) c.args.board.now.layout.ring c.args.limits.high
          (push_count (lane f role) one.log) one.log two.log c.holds-high.result) was.looked.role
          (look_adds c.args.board.now (lane f one.role) c.args.limits.high one two c.holds-high.result
          c.holds-high.ensures.finds)) in
          let low =
          look_like (lane f feeder) _ setting.layout.ring c.args.limits.low setting.plan.low two.log three.log
          c.holds-low.result (sym ring) (sym marks.low_is)
          (subst (λ (role : ℕ). LookAdds (lane f role) c.args.board.now.layout.ring c.args.limits.low
          (push_count (lane f role) two.log) two.log three.log c.holds-low.result) (looked_high.role ∙ was.looked.role)
          (look_adds c.args.board.now (lane f two.role) c.args.limits.low two three c.holds-low.result
          c.holds-low.ensures.finds)) in
          let read = was.read setting marks in
          subst
          (λ (m : Mark). HasReadLanes setting feeder c.args.ages.now c.args.now (f + 1) c.args.marks.now
          (slice_set c.loop-f.marks f m) c.args.token.now.log three.log)
          (sym c.next-mark.ensures)
          (lane_read setting feeder c.args.ages.now c.args.now f c.args.marks.now c.loop-f.marks c.args.token.now.log
          one.log two.log three.log c.holds-high.result c.holds-low.result
          (nat_le c.args.limits.age c.age_if-age.result)
          (omega (arith, c.loop-f-test.true, functions, c.requires.long.0))
          (omega (arith, ring, c.requires.ring, c.requires.limits.0, c.requires.limits.1, c.requires.limits.2))
          (omega (arith, c.loop-f-test.true, c.requires.long.0, c.requires.long.2, was.long))
          read high low
          (λ e.
          (λ i. nat_le (sym marks.age_is i) (c.age_if-age.ensures e i))
          ∙ ap (λ (kept : PushMoments). nat_le setting.plan.age (age_of c.args.now kept))
          (c.index-ages-f.is
          ∙ get_or_default c.args.ages.now f c.index-ages-f.result (no_moments 0)
          (omega (arith, c.loop-f-test.true, c.requires.long.0, c.requires.long.1)))));
      changed =
          changed_on c.args.marks.now c.loop-f.marks f c.next-mark.result
          (omega (arith, c.loop-f-test.true, c.requires.long.0, c.requires.long.2, was.long)) c.loop-f.changed
          c.differs_or-changed.result was.changed c.differs_or-changed.ensures.other c.differs_or-changed.ensures.same;
      ends = λ g d under.
          subst (λ (role : ℕ). IsOwnEnd c.args.board.now (lane g role) (slice_index_or c.args.ends.now g d) three)
          (sym looked.role)
          (end_looked c.args.board.now (lane g one.role) (slice_index_or c.args.ends.now g d) two three looked_low
          c.holds-low.ensures.ends
          (end_looked c.args.board.now (lane g one.role) (slice_index_or c.args.ends.now g d) one two looked_high
          c.holds-high.ensures.ends
          (was.ends g d under)));
      enough = λ g d under. enough_kept one three g c.args.limits.high (slice_index_or c.args.ages.now g d) looked
          (was.enough g d under);
      leaves =
          leaves_twice c.args.board.now c.args.token.now one three was.leaves
          (leaves_twice c.args.board.now one two three c.holds-high.ensures.ends c.holds-low.ensures.ends);
      looked = only_looked_twice c.args.token.now one three was.looked looked;
      long = length-set c.loop-f.marks f c.next-mark.result ∙ was.long;
    }
