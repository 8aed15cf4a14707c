-- For callers: a new feeder of a role that has done nothing.
use Rattle.std.proofs.Common.{◌≡◌, ◌∙◌, sym, ap, subst, ℕ, ◌≤◌, [], length, inl, inr, arith, Option}
use Rattle.std.proofs.lemmas.Bool.{cases_lt}
use Rattle.std.proofs.lemmas.List.{get_or_past}
use Rattle.onvm_base.specs.declared.plan.Plan.{Plan}
use Rattle.onvm_core.specs.declared.layout.Word.TheVariants.{Post as PostWord}
use Rattle.onvm_core.specs.Layouts.{IsFeeder, IsLayoutOf}
use Rattle.onvm_core.specs.Logs.{Setting, push_count}
use Rattle.onvm_core.specs.Marks.{Ages}
use Rattle.onvm_core.proofs.Marked.{no_bit}
use Rattle.onvm_board.specs.declared.spot.Spot.{Spot}
use Rattle.onvm_board.specs.Known.{post_count_in}
use Rattle.onvm_board.specs.Tokens.{BoardView, TokenView}
use Rattle.onvm_promises.specs.Rests.{IsSettledFeeder}
use Rattle.watermark.specs.declared.mark.Mark.TheVariants.{Calm}
use Rattle.watermark.specs.Marks.{is_throttle}
use Rattle.watermark.proofs.Moments.{last_of-nil}
use Rattle.entry_throttle.specs.Feeders.{FeederView, IsFeederOf, IsNewFeeder}
use Rattle.entry_throttle.specs.Lanes.{IsOwnEnd, KeepsEnough}
use Rattle.entry_throttle.specs.Looks.{lane}
use Rattle.entry_throttle.specs.Moments.{KeepsMoments}
use Rattle.entry_throttle.specs.Throttles.{AreMarksOf, mark_at}

pub feeder_at_start : (board : BoardView) (plan : Plan) (number : ℕ) (feeder : FeederView) (token : TokenView)
    → IsNewFeeder plan number feeder → IsLayoutOf plan board.layout → IsFeeder board.layout number
    → token.board ≡ board.id → token.role ≡ number → token.log ≡ [] → IsFeederOf board feeder token
feeder_at_start board plan number feeder token new layout known on_board role empty =
    let some : 1 ≤ feeder.high = omega (arith, new.high_is, plan.kept.sizes_are.low, plan.kept.sizes_are.marks) in
    let unpushed : (f : ℕ) → push_count (lane f token.role) token.log ≡ 0 =
    λ f. ap (push_count (lane f token.role)) empty in record {
      on_board = on_board;
      role = role ∙ sym new.number_is;
      known = subst (IsFeeder board.layout) (sym new.number_is) known;
      functions = new.spots_long ∙ sym layout.functions;
      ring = new.ring_is ∙ sym layout.ring;
      ends = λ f d inside.
          subst (λ (end : Option Spot). IsOwnEnd board (lane f token.role) end token) (sym (new.spots_are f d inside))
          (unpushed f);
      enough = λ f d inside.
          subst (KeepsEnough token f feeder.high) (sym (new.ages_are f d inside)) (record {
            high_is = sym new.high_is;
            counted = omega (arith, unpushed f);
            many = λ le. absurd (omega (arith, unpushed f, le, some));
          });
      numbered = ap (post_count_in (PostWord feeder.number)) empty ∙ sym (ap length new.posts_are);
    }

all_calm : (plan : Plan) (number : ℕ) (feeder : FeederView) → IsNewFeeder plan number feeder
    → (f : ℕ) → mark_at feeder.marks f ≡ Calm
all_calm plan number feeder new f = elim (cases_lt f (length feeder.marks)) [
  | inl inside ↦ new.marks_are f Calm inside
  | inr past ↦ get_or_past feeder.marks f Calm past
]

pub marks_at_start : (setting : Setting) (aged : Ages) (plan : Plan) (number : ℕ) (feeder : FeederView)
    → IsNewFeeder plan number feeder → length plan.functions ≡ setting.layout.functions
    → AreMarksOf setting feeder.number aged feeder.marks (length feeder.posts) []
marks_at_start setting aged plan number feeder new functions =
    let none_posted = ap length new.posts_are in record {
      long = new.marks_long ∙ functions;
      states = λ f. ap is_throttle (all_calm plan number feeder new f);
      idle = λ f few. all_calm plan number feeder new f;
      counted = sym none_posted;
      numbered = sym none_posted;
    }

pub moments_at_start : (moment : ℕ → ℕ) (plan : Plan) (number : ℕ) (feeder : FeederView)
    → IsNewFeeder plan number feeder → KeepsMoments moment feeder []
moments_at_start moment plan number feeder new f d inside =
    new.ages_are f d inside
    ∙ (λ i. record { high = sym new.high_is i; moments = sym (last_of-nil feeder.high) i })

pub settled_at_start : (setting : Setting) (feeder : ℕ) (aged : Ages) → IsSettledFeeder setting feeder aged []
settled_at_start setting feeder aged = record { marked = tt; ended = tt; paid = inl no_bit; paced = tt }
