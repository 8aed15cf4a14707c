-- One look back at a lane.
use Rattle.std.proofs.Common.{◌≡◌, ◌∙◌, ap, refl, ℕ, ◌-◌, ◌%◌, ◌≤◌, Bool, false, [], ◌∷◌, inl, inr, arith}
use Rattle.std.specs.Prelude.{Option, None, Some, not, ◌==◌, ◌&&◌, nat_le, if◌then◌else◌}
use Rattle.std.proofs.lemmas.Bool.{cases_Bool, leb-true, leb-false}
use Rattle.onvm_base.specs.declared.ids.RingId.{RingId}
use Rattle.onvm_core.specs.declared.layout.Word.TheVariants.{Cell}
use Rattle.onvm_core.specs.declared.step.Act.{Act}
use Rattle.onvm_core.specs.declared.step.Act.TheVariants.{Look}
use Rattle.onvm_core.specs.History.{pops, pushes}
use Rattle.onvm_core.specs.Layouts.{ring_size}
use Rattle.onvm_core.specs.Logs.{Log, push_count}
use Rattle.onvm_board.specs.declared.spot.Spot.{Spot}
use Rattle.onvm_board.specs.Known.{post_count_in}
use Rattle.onvm_board.specs.Tokens.{BoardView, MakesStep, TokenView}
use Rattle.onvm_board.proofs.Stretches.{head_kept, tail_kept}
use Rattle.desc_ring.specs.Ends.{Finds, LeavesEnds}
use Rattle.entry_throttle.specs.Lanes.{IsOwnEnd, OnlyLooked}

-- before the first push there is no look
pub finds_none : (board : BoardView) (ring : RingId) (k : ℕ) (token : TokenView) → 1 ≤ k → push_count ring token.log ≡ 0
    → Finds board ring k token token false
finds_none board ring k token some none = record {
  fewer = λ less. (refl, refl);
  looked = λ many. absurd (omega (arith, some, none, many));
}

-- what a look adds to a log

pub record LookAdds (ring : RingId) (size k n : ℕ) (log after : Log) (found : Bool) : Type 0 where
  pub seen : ℕ
  pub found_is : found ≡ (nat_le k n && not (seen == 0))
  pub grew : after ≡ (if nat_le k n then Look (Cell ring ((n - k) % size)) seen None ∷ log else log)

pub look_adds : (board : BoardView) (ring : RingId) (k : ℕ) (before after : TokenView) (found : Bool)
    → Finds board ring k before after found
    → LookAdds ring (ring_size board.layout ring) k (push_count ring before.log) before.log after.log found
look_adds board ring k before after found finds =
    let n : ℕ = push_count ring before.log in
    elim (cases_Bool (nat_le k n)) [
      | inl many ↦
          let at = finds.looked (leb-true k n many) in record {
            seen = at.seen;
            found_is = rw many at.shown;
            grew = rw many (ap (λ (t : TokenView). t.log) at.made.grew);
          }
      | inr few ↦
          let fewer = finds.fewer (leb-false k n few) in record {
            seen = 0;
            found_is = rw few fewer.0;
            grew = rw few (ap (λ (t : TokenView). t.log) fewer.1);
          }
    ]

-- What looks leave as it was

pub only_looked : (board : BoardView) (ring : RingId) (k : ℕ) (before after : TokenView) (found : Bool)
    → Finds board ring k before after found → OnlyLooked before after
only_looked board ring k before after found finds =
    let n : ℕ = push_count ring before.log in
    elim (cases_Bool (nat_le k n)) [
      | inl many ↦ let grew = (finds.looked (leb-true k n many)).made.grew in record {
        board = ap (λ (t : TokenView). t.board) grew;
        role = ap (λ (t : TokenView). t.role) grew;
        hand = ap (λ (t : TokenView). t.hand) grew;
        pushes = λ r. ap (λ (t : TokenView). push_count r t.log) grew;
        posts = λ w. ap (λ (t : TokenView). post_count_in w t.log) grew;
      }
      | inr few ↦ let same = (finds.fewer (leb-false k n few)).1 in record {
        board = ap (λ (t : TokenView). t.board) same;
        role = ap (λ (t : TokenView). t.role) same;
        hand = ap (λ (t : TokenView). t.hand) same;
        pushes = λ r. ap (λ (t : TokenView). push_count r t.log) same;
        posts = λ w. ap (λ (t : TokenView). post_count_in w t.log) same;
      }
    ]

pub only_looked_twice : (one two three : TokenView) → OnlyLooked one two → OnlyLooked two three → OnlyLooked one three
only_looked_twice one two three x y = record {
  board = y.board ∙ x.board;
  role = y.role ∙ x.role;
  hand = y.hand ∙ x.hand;
  pushes = λ r. y.pushes r ∙ x.pushes r;
  posts = λ w. y.posts w ∙ x.posts w;
}

pub end_looked : (board : BoardView) (ring : RingId) (end : Option Spot) (before after : TokenView)
    → OnlyLooked before after → LeavesEnds board before after → IsOwnEnd board ring end before
    → IsOwnEnd board ring end after
end_looked board ring None before after only leaves is = only.pushes ring ∙ is
end_looked board ring (Some spot) before after only leaves is = (is.0, leaves.tails spot is.1)

-- Ends that stay

pub leaves_all : (board : BoardView) (token : TokenView) → LeavesEnds board token token
leaves_all board token = record { tails = λ spot is. is; heads = λ spot is. is }

pub leaves_twice : (board : BoardView) (one two three : TokenView) → LeavesEnds board one two
    → LeavesEnds board two three
    → LeavesEnds board one three
leaves_twice board one two three x y = record {
  tails = λ spot is. y.tails spot (x.tails spot is);
  heads = λ spot is. y.heads spot (x.heads spot is);
}

pub step_leaves : (board : BoardView) (act : Act) (before after : TokenView) → MakesStep board act before after
    → ((ring : RingId) → pushes ring act ≡ []) → ((ring : RingId) → pops ring act ≡ [])
    → LeavesEnds board before after
step_leaves board act before after made no_push no_pop = record {
  tails = λ spot is. tail_kept board spot act before after (no_push spot.ring) is made;
  heads = λ spot is. head_kept board spot act before after (no_pop spot.ring) is made;
}
