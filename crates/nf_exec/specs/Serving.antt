-- What a service of a function adds to its core's log.
use Rattle.std.specs.Prelude.{ℕ, ◌≡◌, ◌≢◌, ◌+◌, ◌-◌, zero, suc, ◌*◌, ◌%◌, ◌++◌, ◌≤◌, ◌⊎◌, ◌^◌, ◌<◌, length, min, Bool, true, false, List, [], ◌∷◌, Option, Some, None}
use Rattle.onvm_base.specs.declared.ids.BufId.{BufId}
use Rattle.onvm_base.specs.declared.ids.FnId.{FnId}
use Rattle.onvm_base.specs.declared.ids.RingId.TheVariants.{Lane, Output, Mail}
use Rattle.onvm_base.specs.declared.outcome.Verdict.{Verdict}
use Rattle.onvm_base.specs.declared.plan.Plan.{Plan}
use Rattle.onvm_base.specs.declared.limits.TheConstants.{MAX_BUDGET}
use Rattle.onvm_core.specs.declared.entry.Entry.{Entry}
use Rattle.onvm_core.specs.declared.layout.Layout.{Layout}
use Rattle.onvm_core.specs.declared.layout.Word.TheVariants.{Cell, Weight}
use Rattle.onvm_core.specs.declared.parcel.Parcel.{Parcel}
use Rattle.onvm_core.specs.declared.step.Act.{Act}
use Rattle.onvm_core.specs.declared.step.Act.TheVariants.{Push, Full, Pop, Empty, Look}
use Rattle.onvm_core.specs.declared.step.Item.TheVariants.{Buffer, Number}
use Rattle.onvm_core.specs.Handling.{budget_left, crumb_place, is_push_on}
use Rattle.onvm_core.specs.Layouts.{IsBuffer, feeder_count}
use Rattle.onvm_core.specs.Logs.{Hand, Log, push_count}
use Rattle.onvm_core.specs.Places.{how_many, one_if}
use Rattle.onvm_board.specs.Tokens.{BoardView, Carries, TokenView, grown, parcel_in}
use Rattle.nf_api.specs.Acts.{Acts, Narrows}
use Rattle.nf_api.specs.Tree.{Tree}
use Rattle.onvm_promises.specs.Answers.{is_handled}
use Rattle.onvm_promises.specs.Kept.{is_yield}
use Rattle.onvm_promises.specs.Passes.{EndsBarred, EndsWithEmpties, is_weight_look, ran_dry, saw_full}
use Rattle.onvm_promises.specs.Rests.{is_try}
use Rattle.onvm_promises.specs.Roles.{setting_of}
use Rattle.nf_exec.specs.declared.turn.Turn.{Turn}
use Rattle.nf_exec.specs.declared.turn.Turn.TheVariants.{Handled, Barred, Dry, Wanting}
use Rattle.nf_exec.specs.Handing.{handled_parcel, meta_of}
use Rattle.nf_exec.specs.Stations.{Stands}
use Rattle.nf_exec.specs.Steps.{AreServiceSteps, DoesFrom}

-- How a turn ended

abbrev pub is_barred : Turn → Bool
is_barred Handled = false
is_barred Barred = true
is_barred Dry = false
is_barred (Wanting buf) = false

abbrev pub is_wanting : Turn → Bool
is_wanting Handled = false
is_wanting Barred = false
is_wanting Dry = false
is_wanting (Wanting buf) = true

-- what a turn leaves in hand: the parcel for which the function wanted memory
abbrev pub kept_by : FnId → Turn → TokenView → Option Hand
kept_by f Handled token = None
kept_by f Barred token = None
kept_by f Dry token = None
kept_by f (Wanting buf) token = Some (record { function = f; buf = buf.0; parcel = parcel_in token })

-- how the log shows it, where a function has so many lanes
abbrev pub EndsBy : (lanes : ℕ) → FnId → Turn → Log → Type 0
EndsBy lanes f Handled added = Unit {0}
EndsBy lanes f Barred added = EndsBarred f added
EndsBy lanes f Dry added =
    EndsWithEmpties f lanes added × ((feeder : ℕ) → feeder < lanes → ran_dry (Lane f feeder) added ≡ true)
EndsBy lanes f (Wanting buf) added = Unit {0}

-- the function handled n frames, and its last turn ended so
pub record IsServing (site : BoardView) (plan : Plan) (f : FnId) (n : ℕ) (last : Turn)
    (before after : TokenView) : Type 0 where
  pub added : Log
  pub grew : after ≡ grown added after.hand before
  pub does : (entries : List Entry) → DoesFrom (setting_of site.layout plan entries) before.role before.log added
  pub steps : AreServiceSteps f added
  pub unlooked : how_many (is_weight_look f) added ≡ 0
  pub pushes : how_many (is_push_on (Output f)) added ≡ n
  pub handles : how_many is_handled added ≡ n
  pub barred : how_many (saw_full f) added ≡ one_if (is_barred last)
  pub yields : how_many is_yield added ≡ one_if (is_barred last)
  pub left : budget_left plan f after.log + n + one_if (is_wanting last) ≡ budget_left plan f before.log
  pub ends : EndsBy (feeder_count site.layout) f last added
  pub stands : Stands site.layout (kept_by f last after) after

-- the function handled the parcel in hand, and it went on to the output ring
pub record HasPassedOn {N : Type 0} (acts : N → Acts) (state : N → Tree) (f : FnId) (buf : BufId) (was now : N)
    (before after : TokenView) : Type 0 where
  pub verdict : Verdict
  pub bytes : List ℕ
  pub acted : acts was (state was) (parcel_in before).packet (meta_of (parcel_in before)) verdict bytes (state now)
  pub narrows : Narrows (acts now) (acts was)
  pub grew : after
      ≡ grown
      (Push (Output f)
      (Buffer buf (handled_parcel f (crumb_place f before.log) verdict bytes (parcel_in before)))
      ∷ []) [] before

-- Samples

-- the time of a sample that counts something is a span of the function's cost, as far as a sample has room for it
abbrev pub IsTimedBy : (may_span : ℕ → ℕ → Type 0) → (cost count time : ℕ) → Type 0
IsTimedBy may_span cost count time =
    0 < count → (span : ℕ) × may_span cost span × (time ≡ min (2 ^ 40 - 1) span)

-- a sample is mailed, or lost; where nothing is counted there is none
abbrev pub sample_acts : FnId → (count time : ℕ) → (lost : Bool) → Log
sample_acts f zero time lost = []
sample_acts f (suc n) time false = Push (Mail f) (Number (suc n * 2 ^ 40 + time)) ∷ []
sample_acts f (suc n) time true = Full (Mail f) ∷ []

-- Turns and services

abbrev pub is_handled_turn : Turn → Bool
is_handled_turn Handled = true
is_handled_turn Barred = false
is_handled_turn Dry = false
is_handled_turn (Wanting buf) = false

-- the core looked at the function's weight word, and then the function handled n frames. Where its last turn handled
-- one, its budget is spent
pub record IsService (site : BoardView) (plan : Plan) (f : FnId) (n : ℕ) (last : Turn)
    (before after : TokenView) : Type 0 where
  pub seen : ℕ
  pub looked : TokenView
  pub look : looked ≡ grown (Look (Weight f) seen None ∷ []) before.hand before
  pub serving : IsServing site plan f n last looked after
  pub spent : last ≡ Handled → budget_left plan f after.log ≡ 0
  pub some : last ≡ Handled → 0 < n
  pub few : n ≤ MAX_BUDGET

-- the core looked whether the function's output ring has room, at the cell of the next push
pub record HasGlanced (site : BoardView) (f : FnId) (roomy : Bool) (before after : TokenView) : Type 0 where
  pub seen : ℕ
  pub some : roomy ≡ false → seen ≢ 0
  pub none : roomy ≡ true → seen ≡ 0
  pub grew : after
      ≡ grown (Look (Cell (Output f) (push_count (Output f) before.log % site.layout.output)) seen None ∷ [])
      before.hand before

-- Tries

-- of so many lanes the next one, round
abbrev pub IsNextLane : (lanes lane next : ℕ) → Type 0
IsNextLane lanes lane next =
    ((lane + 1 < lanes) × (next ≡ lane + 1)) ⊎ ((lane + 1 ≡ lanes) × (next ≡ 0))

-- a lane of the function is found empty, the one whose turn it is
pub data IsDueEmpty (layout : Layout) (f : FnId) (before : Log) : Act → Type 0 where
  ADueEmpty : (feeder : ℕ) → feeder < feeder_count layout
      → feeder ≡ how_many (is_try f) before % feeder_count layout
      → IsDueEmpty layout f before (Empty (Lane f feeder))

abbrev pub AreDueEmpties : Layout → FnId → (before added : Log) → Type 0
AreDueEmpties layout f before [] = Unit {0}
AreDueEmpties layout f before (act ∷ added) =
    IsDueEmpty layout f (added ++ before) act × AreDueEmpties layout f before added

-- k of the function's lanes, round from this first one on, were found empty
pub record HasTried (site : BoardView) (f : FnId) (first next k : ℕ) (before after : TokenView) : Type 0 where
  pub empties : Log
  pub are : AreDueEmpties site.layout f before.log empties
  pub many : length empties ≡ k
  pub grew : after ≡ grown empties after.hand before
  pub round : (next ≡ first + k) ⊎ (next + feeder_count site.layout ≡ first + k)
  pub dry : (p : ℕ) → p < feeder_count site.layout
      → ((first ≤ p) × (p < first + k)) ⊎ (p + feeder_count site.layout < first + k)
      → ran_dry (Lane f p) empties ≡ true

-- behind a lane found empty comes the frame that was found, if one was
abbrev pub found_in : FnId → (feeder : ℕ) → Option BufId → Parcel → Log
found_in f feeder None parcel = []
found_in f feeder (Some buf) parcel = Pop (Lane f feeder) (Buffer buf parcel) ∷ []

-- the function's lanes were tried in turn from this first one on, until one had a frame, or each was found empty
pub record HasSearched (site : BoardView) (f : FnId) (first lanes : ℕ) (found : Option BufId)
    (before after : TokenView) : Type 0 where
  pub empties : Log
  pub are : AreDueEmpties site.layout f before.log empties
  pub feeder : ℕ
  pub known : feeder < feeder_count site.layout
  pub due : feeder ≡ how_many (is_try f) (empties ++ before.log) % feeder_count site.layout
  pub grew : after ≡ grown (found_in f feeder found (parcel_in after) ++ empties) after.hand before
  pub all : found ≡ None → (length empties ≡ lanes)
      × ((p : ℕ) → p < feeder_count site.layout → ran_dry (Lane f p) empties ≡ true)
  pub none : found ≡ None → after.hand ≡ []
  pub carries : (buf : BufId) → found ≡ Some buf
      → Carries buf.0 after × IsBuffer site.layout buf.0 × (length (parcel_in after).trail ≤ 31)
