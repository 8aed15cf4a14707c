-- A feeder of lanes as contracts see it.
use Rattle.std.specs.Prelude.{ℕ, ◌≡◌, ◌<◌, ◌≤◌, List, [], ◌++◌, length, Option, Some, None, slice_index_or, slice_set}
use Rattle.onvm_base.specs.declared.limits.TheConstants.{LAST_POST, MAX_FUNCTIONS}
use Rattle.onvm_base.specs.declared.plan.Plan.{Plan}
use Rattle.onvm_base.specs.declared.post.Post.{Post}
use Rattle.onvm_core.specs.declared.layout.Word.TheVariants.{Post as PostWord}
use Rattle.onvm_core.specs.Layouts.{IsFeeder}
use Rattle.onvm_core.specs.Logs.{Log, Setting}
use Rattle.onvm_core.specs.Marks.{Ages}
use Rattle.onvm_board.specs.declared.spot.Spot.{Spot}
use Rattle.onvm_board.specs.Known.{post_count_in}
use Rattle.onvm_board.specs.Tokens.{BoardView, TokenView}
use Rattle.onvm_promises.specs.Kept.{kept_now, posts_by}
use Rattle.onvm_promises.specs.Passes.{IsMarksPass}
use Rattle.onvm_promises.specs.Rests.{IsSettledFeeder}
use Rattle.watermark.specs.declared.mark.Mark.{Mark}
use Rattle.watermark.specs.declared.mark.Mark.TheVariants.{Calm}
use Rattle.watermark.specs.Moments.{PushMoments, no_moments, pushed_at}
use Rattle.entry_throttle.specs.Lanes.{AreOwnEnds, AreTimely, HasMarks, KeepsEnough}
use Rattle.entry_throttle.specs.Throttles.{AreMarksOf}

-- a feeder: its number, the marks, the age and the lanes' size of its plan; its own ends of the lanes, the moments of
-- their last pushes and their marks, in order of functions; its posts, the oldest first, and for how many more there is
-- room
pub record FeederView : Type 0 where
  pub number : ℕ
  pub high : ℕ
  pub low : ℕ
  pub age : ℕ
  pub ring : ℕ
  pub spots : List (Option Spot)
  pub ages : List PushMoments
  pub marks : List Mark
  pub posts : List Post
  pub room : ℕ

-- of each item of a list with its place
abbrev pub AreEach : {X : Type 0} → (ℕ → X → Type 0) → List X → Type 0
AreEach {X} holds xs = (f : ℕ) (d : X) → f < length xs → holds f (slice_index_or xs f d)

-- a feeder of a plan that has done nothing
pub record IsNewFeeder (plan : Plan) (number : ℕ) (feeder : FeederView) : Type 0 where
  pub number_is : feeder.number ≡ number
  pub high_is : feeder.high ≡ plan.high
  pub low_is : feeder.low ≡ plan.low
  pub age_is : feeder.age ≡ plan.age
  pub ring_is : feeder.ring ≡ plan.ring
  pub spots_long : length feeder.spots ≡ length plan.functions
  pub ages_long : length feeder.ages ≡ length plan.functions
  pub marks_long : length feeder.marks ≡ length plan.functions
  pub spots_are : AreEach (λ f spot. spot ≡ None) feeder.spots
  pub ages_are : AreEach (λ f kept. kept ≡ no_moments plan.high) feeder.ages
  pub marks_are : AreEach (λ f mark. mark ≡ Calm) feeder.marks
  pub posts_are : feeder.posts ≡ []

-- the feeder after a push on a function's lane
abbrev pub pushed_on_lane : (f : ℕ) → Spot → (now : ℕ) → FeederView → FeederView
pushed_on_lane f spot now feeder =
    record feeder {
      spots = slice_set feeder.spots f (Some spot);
      ages = slice_set feeder.ages f (pushed_at now (slice_index_or feeder.ages f (no_moments 0)));
    }

-- what holds of a feeder's parts
pub record AreFeederParts (high low ring : ℕ) (spots : List (Option Spot)) (ages : List PushMoments)
    (marks : List Mark) (posts : List Post) : Type 0 where
  pub some_low : 1 ≤ low
  pub low_high : low < high
  pub high_fits : high ≤ ring
  pub few : length spots ≤ MAX_FUNCTIONS
  pub ages_long : length ages ≡ length spots
  pub marks_long : length marks ≡ length spots
  pub posts_few : length posts ≤ LAST_POST

-- the token is the feeder's, and the feeder knows each push on a lane and each post of it
pub record IsFeederOf (board : BoardView) (feeder : FeederView) (token : TokenView) : Type 0 where
  pub on_board : token.board ≡ board.id
  pub role : token.role ≡ feeder.number
  pub known : IsFeeder board.layout feeder.number
  pub functions : length feeder.spots ≡ board.layout.functions
  pub ring : feeder.ring ≡ board.layout.ring
  pub ends : AreOwnEnds board feeder.spots token
  pub enough : AreEach (λ f kept. KeepsEnough token f feeder.high kept) feeder.ages
  pub numbered : post_count_in (PostWord feeder.number) token.log ≡ length feeder.posts

-- the setting has the feeder's marks; the feeder's marks passes were right until now for these answers on the age, its
-- marks are those of its log, and at this moment the answers are those of the moments that it keeps
pub record IsReady (setting : Setting) (aged : Ages) (board : BoardView) (now : ℕ) (feeder : FeederView)
    (token : TokenView) : Type 0 where
  pub plan : HasMarks setting board.layout feeder.high feeder.low feeder.age
  pub settled : IsSettledFeeder setting feeder.number aged token.log
  pub marks : AreMarksOf setting feeder.number aged feeder.marks (length feeder.posts) token.log
  pub timely : AreTimely setting feeder.number aged feeder.ages now token.log

-- these acts were made: a marks pass. Its post is kept, with this moment, and the marks are those of the longer log
pub record MadeMarksPass (setting : Setting) (aged : Ages) (now : ℕ) (old new : FeederView) (before after : TokenView)
    : Type 0 where
  pub made : Log
  pub grew : after.log ≡ made ++ before.log
  pub posts : new.posts ≡ old.posts ++ kept_now posts_by now made
  pub pass : IsMarksPass setting old.number aged before.log made
  pub marks : AreMarksOf setting old.number aged new.marks (length new.posts) after.log
