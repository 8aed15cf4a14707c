-- Which functions a feeder throttles, as marks, as bits of a number, and by its log.
use Rattle.std.specs.Prelude.{ℕ, ◌≡◌, ◌≢◌, ◌+◌, ◌*◌, ◌<◌, ◌==◌, if◌then◌else◌, List, [], ◌∷◌, length, slice_index_or}
use Rattle.onvm_base.specs.declared.limits.TheConstants.{LAST_POST}
use Rattle.onvm_core.specs.declared.layout.Word.TheVariants.{Post as PostWord}
use Rattle.onvm_core.specs.Logs.{Log, Setting, push_count}
use Rattle.onvm_core.specs.Marks.{Ages, is_throttled, mark_events, posts_so_far}
use Rattle.onvm_board.specs.Known.{post_count_in}
use Rattle.watermark.specs.declared.mark.Mark.{Mark}
use Rattle.watermark.specs.declared.mark.Mark.TheVariants.{Calm}
use Rattle.watermark.specs.Marks.{is_throttle}
use Rattle.entry_throttle.specs.Looks.{lane}

-- the mark of a function's lane. Past the functions all is calm
abbrev pub mark_at : List Mark → ℕ → Mark
mark_at marks f = slice_index_or marks f Calm

-- a bit per throttled function
abbrev pub set_of : List Mark → ℕ
set_of [] = 0
set_of (mark ∷ marks) = (if is_throttle mark then 1 else 0) + 2 * set_of marks

-- the bits of a post with this number: the last one has none
abbrev pub posted_bits : (number set : ℕ) → ℕ
posted_bits number set = if number == LAST_POST then 0 else set

-- the same functions are throttled
abbrev pub ThrottleTheSame : (old new : List Mark) → Type 0
ThrottleTheSame old new = (f : ℕ) → is_throttle (mark_at new f) ≡ is_throttle (mark_at old f)

-- some function is throttled in one of them alone
abbrev pub ThrottleOthers : (old new : List Mark) → Type 0
ThrottleOthers old new = (f : ℕ) × (is_throttle (mark_at new f) ≢ is_throttle (mark_at old f))

-- the marks are those of the passes in the feeder's log, and so many posts were made
pub record AreMarksOf (setting : Setting) (feeder : ℕ) (aged : Ages) (marks : List Mark) (posts : ℕ) (log : Log)
    : Type 0 where
  pub long : length marks ≡ setting.layout.functions
  pub states : (f : ℕ) → is_throttle (mark_at marks f) ≡ is_throttled aged f (mark_events setting feeder log)
  -- a lane with fewer pushes than its low mark wasn't looked at yet
  pub idle : (f : ℕ) → push_count (lane f feeder) log < setting.plan.low → mark_at marks f ≡ Calm
  pub counted : posts_so_far (mark_events setting feeder log) ≡ posts
  pub numbered : post_count_in (PostWord feeder) log ≡ posts
