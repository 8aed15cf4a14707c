-- What a role keeps of its acts: records, sent frames, posts, samples and two counts.
use Rattle.std.specs.Prelude.{ℕ, ◌≡◌, ◌-◌, ◌/◌, ◌%◌, ◌^◌, min, Bool, true, false, not, ◌==◌, nat_lt, if◌then◌else◌, List, [], ◌∷◌, ◌++◌, length}
use Rattle.onvm_base.specs.declared.frame.SentFrame.{SentFrame}
use Rattle.onvm_base.specs.declared.ids.RingId.TheVariants.{Output, Mail}
use Rattle.onvm_base.specs.declared.outcome.Record.{Record}
use Rattle.onvm_base.specs.declared.post.Post.{Post}
use Rattle.onvm_core.specs.declared.layout.Word.TheVariants.{Cell, Post as PostWord}
use Rattle.onvm_core.specs.declared.step.Act.{Act}
use Rattle.onvm_core.specs.declared.step.Act.TheVariants.{Full, Pop, Look, Post as PostAct}
use Rattle.onvm_core.specs.declared.step.Item.TheVariants.{Number}
use Rattle.onvm_core.specs.Logs.{Log}
use Rattle.onvm_core.specs.Places.{how_many}
use Rattle.onvm_core.specs.Records.{records_of_act, sent_frames_of_act}
use Rattle.onvm_core.specs.Samples.{count_in}
use Rattle.load_estimate.specs.declared.sample.Sample.{Sample}

-- Moments: each act of a log has one, by its number, counted from 0

-- what acts tell, the oldest first: each by its moment and itself
abbrev pub kept_at : {A : Type 0} → (ℕ → Act → List A) → (ℕ → ℕ) → Log → List A
kept_at tells moment [] = []
kept_at tells moment (act ∷ before) = kept_at tells moment before ++ tells (moment (length before)) act

-- of acts that were all made at one moment
abbrev pub kept_now : {A : Type 0} → (ℕ → Act → List A) → ℕ → Log → List A
kept_now tells now log = kept_at tells (λ number. now) log

-- the moments of a log of this size that grew by acts of one moment
abbrev pub moment_then : (ℕ → ℕ) → (size now : ℕ) → ℕ → ℕ
moment_then moment size now number = if nat_lt number size then moment number else now

-- What an act tells

abbrev pub records_by : ℕ → Act → List Record
records_by moment act = records_of_act act

abbrev pub sent_by : ℕ → Act → List SentFrame
sent_by moment act = sent_frames_of_act act

-- a feeder's post: its number in the upper 32 bits of the word, the functions in the lower
abbrev pub posts_by : ℕ → Act → List Post
posts_by moment (PostAct (PostWord f) value) =
    record { feeder = f; number = value / 2 ^ 32; moment = moment; bits = value % 2 ^ 32 } ∷ []
posts_by moment _ = []

-- a sample that was taken from a mail ring: count times 2^40 plus time
abbrev pub samples_by : ℕ → Act → List Sample
samples_by moment (Pop (Mail f) (Number n)) =
    record { function = f; moment = moment; count = count_in n; time = n % 2 ^ 40 } ∷ []
samples_by moment _ = []

-- a core's look at an output cell that is taken
abbrev pub is_yield : Act → Bool
is_yield (Look (Cell (Output f) at) seen told) = not (seen == 0)
is_yield _ = false

-- a core's sample that met a full mail ring
abbrev pub is_lost : Act → Bool
is_lost (Full (Mail f)) = true
is_lost _ = false

-- a count as far as it goes
abbrev pub at_most_64_bits : ℕ → ℕ
at_most_64_bits n = min (2 ^ 64 - 1) n

-- What roles keep

-- records and sent frames
pub record Outcomes : Type 0 where
  pub records : List Record
  pub sent : List SentFrame

-- what these acts tell came to them
pub record Told (added : Log) (before after : Outcomes) : Type 0 where
  pub records : after.records ≡ before.records ++ kept_now records_by 0 added
  pub sent : after.sent ≡ before.sent ++ kept_now sent_by 0 added

pub record FeederKeeps : Type 0 where
  pub outcomes : Outcomes
  pub posts : List Post

-- they are what the feeder's log tells
pub record AreFeederKeeps (moment : ℕ → ℕ) (log : Log) (keeps : FeederKeeps) : Type 0 where
  pub records : keeps.outcomes.records ≡ kept_at records_by moment log
  pub sent : keeps.outcomes.sent ≡ kept_at sent_by moment log
  pub posts : keeps.posts ≡ kept_at posts_by moment log

pub record CoreKeeps : Type 0 where
  pub yields : ℕ
  pub lost : ℕ

-- they are what the core's log tells
pub record AreCoreKeeps (log : Log) (keeps : CoreKeeps) : Type 0 where
  pub yields : keeps.yields ≡ at_most_64_bits (how_many is_yield log)
  pub lost : keeps.lost ≡ at_most_64_bits (how_many is_lost log)
