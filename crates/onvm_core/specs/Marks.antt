-- The marks passes of a feeder: what it finds in its lanes, what it posts, and when.
use Rattle.std.specs.Prelude.{ℕ, zero, suc, ◌≡◌, ◌+◌, ◌-◌, ◌/◌, ◌%◌, ◌^◌, ◌<◌, ◌≤◌, ◌⊎◌, Bool, true, false, not, ◌==◌, ◌&&◌, ◌||◌, nat_le, if◌then◌else◌, List, [], ◌∷◌, ◌++◌}
use Rattle.onvm_base.specs.declared.limits.TheConstants.{LAST_POST}
use Rattle.onvm_base.specs.declared.ids.RingId.TheVariants.{Lane}
use Rattle.onvm_core.specs.declared.layout.Word.TheVariants.{Cell}
use Rattle.onvm_core.specs.declared.step.Act.{Act}
use Rattle.onvm_core.specs.declared.step.Act.TheVariants.{Look, Post}
use Rattle.onvm_core.specs.Layouts.{IsFeeder}
use Rattle.onvm_core.specs.History.{History}
use Rattle.onvm_core.specs.Logs.{Setting, Log, log_of, push_count}

-- The looks of a pass: of each lane in order of functions one for the high mark, then one for the low

pub record MarkLook : Type 0 where
  pub function : ℕ
  pub is_high : Bool
  pub cell : ℕ

-- a lane that had n pushes is looked at so many places back, if it had so many
abbrev pub look_back : Setting → (function : ℕ) → Bool → (back pushes : ℕ) → List MarkLook
look_back setting f is_high back n =
    if nat_le back n
    then record { function = f; is_high = is_high; cell = (n - back) % setting.layout.ring } ∷ []
    else []

abbrev pub looks_of_lane : Setting → ℕ → Log → ℕ → List MarkLook
looks_of_lane setting feeder log f =
    let n = push_count (Lane (record { 0 = f }) feeder) log in
    look_back setting f true setting.plan.high n ++ look_back setting f false setting.plan.low n

abbrev pub looks_from : Setting → ℕ → Log → (function more : ℕ) → List MarkLook
looks_from setting feeder log f zero = []
looks_from setting feeder log f (suc more) =
    looks_of_lane setting feeder log f ++ looks_from setting feeder log (f + 1) more

-- the looks of a pass that begins now. A pass without a look leaves no trace
abbrev pub looks_of_pass : Setting → ℕ → Log → List MarkLook
looks_of_pass setting feeder log = looks_from setting feeder log 0 setting.layout.functions

-- What a pass finds

-- a look and the value that it saw
pub record Finding : Type 0 where
  pub look : MarkLook
  pub seen : ℕ

-- what the looks of a pass found, the newest first
abbrev pub Pass : Type 0
Pass = List Finding

abbrev pub is_for : Bool → ℕ → MarkLook → Bool
is_for true f look = look.is_high && (look.function == f)
is_for false f look = not look.is_high && (look.function == f)

-- the pass found the high mark (true), or the low one, in the function's lane: it looked there, and saw no 0
abbrev pub finds : Bool → ℕ → Pass → Bool
finds is_high f [] = false
finds is_high f (found ∷ pass) = (is_for is_high f found.look && not (found.seen == 0)) || finds is_high f pass

-- Passes and posts

pub data MarkEvent : Type 0 where
  Passed : (pass : Pass) → MarkEvent
  Posted : (value : ℕ) → MarkEvent

-- the newest first
abbrev pub MarkEvents : Type 0
MarkEvents = List MarkEvent

abbrev pub pass_count : MarkEvents → ℕ
pass_count [] = 0
pass_count (Passed pass ∷ before) = pass_count before + 1
pass_count (Posted value ∷ before) = pass_count before

-- how many posts there were, which is the number of the last one
abbrev pub posts_so_far : MarkEvents → ℕ
posts_so_far [] = 0
posts_so_far (Passed pass ∷ before) = posts_so_far before
posts_so_far (Posted value ∷ before) = posts_so_far before + 1

-- the value of the last post, 0 at first
abbrev pub last_post : MarkEvents → ℕ
last_post [] = 0
last_post (Passed pass ∷ before) = last_post before
last_post (Posted value ∷ before) = value

-- whether the reading of a function's lane in a pass, numbered from 0, had a time of at least the age
abbrev pub Ages : Type 0
Ages = (pass function : ℕ) → Bool

-- throttled: some pass found high and low in time, and each pass from that one on found low
abbrev pub is_throttled : Ages → ℕ → MarkEvents → Bool
is_throttled aged f [] = false
is_throttled aged f (Passed pass ∷ before) =
    finds false f pass && ((finds true f pass && aged (pass_count before) f) || is_throttled aged f before)
is_throttled aged f (Posted value ∷ before) = is_throttled aged f before

-- the number has the function's bit in its lower half
abbrev pub has_bit : ℕ → ℕ → Bool
has_bit value f = value % 2 ^ 32 / 2 ^ f % 2 == 1

-- the last post has just the throttled functions' bits
abbrev pub IsSettled : Ages → MarkEvents → Type 0
IsSettled aged events = (f : ℕ) → has_bit (last_post events) f ≡ is_throttled aged f events

-- no post is owed
abbrev pub IsPaid : Ages → MarkEvents → Type 0
IsPaid aged events = IsSettled aged events ⊎ (LAST_POST ≤ posts_so_far events)

-- this post is owed: its number is the next, and it has the throttled functions' bits, where the last one has none
pub record IsOwed (aged : Ages) (events : MarkEvents) (value : ℕ) : Type 0 where
  pub more : posts_so_far events < LAST_POST
  pub unsettled : ¬ IsSettled aged events
  pub number : value / 2 ^ 32 ≡ posts_so_far events + 1
  pub bits : (f : ℕ)
      → has_bit value f ≡ (if posts_so_far events + 1 == LAST_POST then false else is_throttled aged f events)

-- Where a feeder stands in its log

-- after these passes and posts it rests, or it is in a pass: the next look, those later, and what was found so far
pub data MarkPhase : Type 0 where
  AtRest : (events : MarkEvents) → MarkPhase
  InPass : (next : MarkLook) (later : List MarkLook) (found : Pass) (events : MarkEvents) → MarkPhase

-- the passes and posts so far, without the pass that the feeder is in
abbrev pub events_in : MarkPhase → MarkEvents
events_in (AtRest events) = events
events_in (InPass next later found events) = events

-- no pass is unfinished
abbrev pub IsResting : MarkPhase → Type 0
IsResting (AtRest events) = Unit {0}
IsResting (InPass next later found events) = ⊥

-- the looks that are left of the pass that the feeder is in, or all of a new one
abbrev pub looks_left : Setting → ℕ → Log → MarkPhase → List MarkLook
looks_left setting feeder before (AtRest events) = looks_of_pass setting feeder before
looks_left setting feeder before (InPass next later found events) = next ∷ later

-- these looks were left, and the first of them was made. With the last one the pass ends
abbrev pub mark_after_look : List MarkLook → (seen : ℕ) → Pass → MarkEvents → MarkPhase
mark_after_look [] seen found events = AtRest events
mark_after_look (look ∷ []) seen found events =
    AtRest (Passed (record { look = look; seen = seen } ∷ found) ∷ events)
mark_after_look (look ∷ next ∷ later) seen found events =
    InPass next later (record { look = look; seen = seen } ∷ found) events

-- where an act leads
abbrev pub mark_after : Setting → ℕ → Log → MarkPhase → Act → MarkPhase
mark_after setting feeder before (AtRest events) (Look (Cell (Lane f p) at) seen told) =
    mark_after_look (looks_of_pass setting feeder before) seen [] events
mark_after setting feeder before (InPass next later found events) (Look (Cell (Lane f p) at) seen told) =
    mark_after_look (next ∷ later) seen found events
mark_after setting feeder before (AtRest events) (Post word value) = AtRest (Posted value ∷ events)
mark_after setting feeder before (InPass next later found events) (Post word value) =
    InPass next later found (Posted value ∷ events)
mark_after setting feeder before phase _ = phase

abbrev pub mark_phase : Setting → ℕ → Log → MarkPhase
mark_phase setting feeder [] = AtRest []
mark_phase setting feeder (act ∷ before) = mark_after setting feeder before (mark_phase setting feeder before) act

-- a feeder's passes and posts
abbrev pub mark_events : Setting → ℕ → Log → MarkEvents
mark_events setting feeder log = events_in (mark_phase setting feeder log)

-- the look is the first of those left
abbrev pub IsNextLook : List MarkLook → (function cell : ℕ) → Type 0
IsNextLook [] f at = ⊥
IsNextLook (look ∷ looks) f at = (look.function ≡ f) × (look.cell ≡ at)

-- the act may follow in this phase: the next look of a pass, directly after a pass the post that is owed, and nothing
-- else while a pass is unfinished or a post is owed
abbrev pub MayMark : Setting → ℕ → Ages → Log → MarkPhase → Act → Type 0
MayMark setting feeder aged before (AtRest events) (Look (Cell (Lane f p) at) seen told) =
    IsNextLook (looks_of_pass setting feeder before) f.0 at × IsPaid aged events
MayMark setting feeder aged before (AtRest events) (Post word value) = IsOwed aged events value
MayMark setting feeder aged before (AtRest events) act = IsPaid aged events
MayMark setting feeder aged before (InPass next later found events) (Look (Cell (Lane f p) at) seen told) =
    IsNextLook (next ∷ later) f.0 at × IsPaid aged events
MayMark setting feeder aged before (InPass next later found events) act = ⊥

-- all marks passes of the feeder are right, for these answers on the age
abbrev pub AreMarked : Setting → ℕ → Ages → Log → Type 0
AreMarked setting feeder aged [] = Unit {0}
AreMarked setting feeder aged (act ∷ before) =
    MayMark setting feeder aged before (mark_phase setting feeder before) act × AreMarked setting feeder aged before

-- each feeder's are, for some answers on the age
abbrev pub AllMarked : Setting → (ℕ → Ages) → History → Type 0
AllMarked setting aged past = (feeder : ℕ) → IsFeeder setting.layout feeder
    → AreMarked setting feeder (aged feeder) (log_of feeder past)
