-- What an admission adds to its token.
use Rattle.std.specs.Prelude.{ℕ, zero, suc, ◌≡◌, ◌/◌, ◌^◌, ◌<◌, ◌==◌, if◌then◌else◌, IsBitSet, List, [], ◌∷◌, length, None, Some}
use Rattle.onvm_base.specs.declared.ids.FrameId.{FrameId}
use Rattle.onvm_base.specs.declared.outcome.Outcome.TheVariants.{Throttled}
use Rattle.onvm_base.specs.declared.outcome.Record.{Record}
use Rattle.onvm_base.specs.Moves.{IsOfChain}
use Rattle.onvm_core.specs.declared.entry.Entry.{Entry}
use Rattle.onvm_core.specs.declared.layout.Word.TheVariants.{Post}
use Rattle.onvm_core.specs.declared.step.Act.TheVariants.{Look}
use Rattle.onvm_core.specs.Layouts.{feeder_count}
use Rattle.onvm_core.specs.Logs.{Log, Setting}
use Rattle.onvm_core.specs.Receiving.{ReceivePhase}
use Rattle.onvm_core.specs.Receiving.ReceivePhase.{Between, Asks, Seeks}
use Rattle.onvm_board.specs.Asking.{IsLowestHeld, masked_bits}
use Rattle.onvm_board.specs.Tokens.{TokenView, token_after}
use Rattle.entry_throttle.specs.declared.answer.Admit.{Admit}
use Rattle.entry_throttle.specs.declared.answer.Admit.TheVariants.{Go, Hold}

-- the token after looks at the posts of feeders 0, 1, .. that found these values, the last one first
abbrev pub token_after_asks : List ℕ → TokenView → TokenView
token_after_asks [] token = token
token_after_asks (seen ∷ before) token =
    token_after (Look (Post (length before)) seen None) (token_after_asks before token)

-- none of the values has a bit of the mask
abbrev pub AreWithout : ℕ → List ℕ → Type 0
AreWithout mask [] = Unit {0}
AreWithout mask (seen ∷ before) = (masked_bits mask seen ≡ 0) × AreWithout mask before

-- the posts of so many first feeders were looked at, in order, and none had a bit of the mask
pub record FoundNone (feeders mask : ℕ) (before after : TokenView) : Type 0 where
  pub values : List ℕ
  pub all : length values ≡ feeders
  pub free : AreWithout mask values
  pub grew : after ≡ token_after_asks values before

-- the record of a frame that a feeder's post holds back for a function
abbrev pub held_record : FrameId → (feeder post function : ℕ) → Record
held_record frame feeder post function =
    record { frame = frame; outcome = Throttled feeder post (record { 0 = function }) }

-- the posts before this feeder's had no bit of the mask, and its look recorded the frame as throttled, by the post's
-- number and the lowest function of the mask that it has
pub record IsHeldBack (frame : FrameId) (mask feeder post function : ℕ) (before after : TokenView) : Type 0 where
  pub values : List ℕ
  pub seen : ℕ
  pub earlier : length values ≡ feeder
  pub free : AreWithout mask values
  pub number : post ≡ seen / 2 ^ 32
  pub lowest : IsLowestHeld mask seen function
  pub grew : after
      ≡ token_after (Look (Post feeder) seen (Some (held_record frame feeder post function)))
      (token_after_asks values before)

abbrev pub IsAnswer : FrameId → (mask feeders : ℕ) → (before after : TokenView) → Admit → Type 0
IsAnswer frame mask feeders before after Go = FoundNone feeders mask before after
IsAnswer frame mask feeders before after (Hold feeder post function) =
    (feeder < feeders) × IsHeldBack frame mask feeder post function.0 before after

-- In the words of the pattern of a receive role

-- the mask has the functions of the frame's chain, and no other
pub record IsMaskOf (setting : Setting) (e : Entry) (mask : ℕ) : Type 0 where
  pub has : (f : ℕ) → IsOfChain setting.plan e.chain f → IsBitSet mask f
  pub only : (f : ℕ) → IsBitSet mask f → IsOfChain setting.plan e.chain f

-- where a block stands after so many looks at posts
abbrev pub ask_phase : Setting → (done asked : ℕ) → ReceivePhase
ask_phase setting done zero = Between done
ask_phase setting done (suc k) = if suc k == feeder_count setting.layout then Seeks done 0 else Asks done (suc k)

-- the looks of an admission in a log
abbrev pub log_after_asks : List ℕ → Log → Log
log_after_asks [] log = log
log_after_asks (seen ∷ before) log = Look (Post (length before)) seen None ∷ log_after_asks before log
