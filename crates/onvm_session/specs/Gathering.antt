-- The lists of a run, put together of what its roles kept.
use Rattle.std.specs.Prelude.{ℕ, zero, suc, ◌≡◌, ◌+◌, ◌*◌, ◌^◌, List, [], ◌++◌, length, IsPermutation}
use Rattle.std.specs.List.Sorted.{IsNonDecreasingBy, IsStableByKey}
use Rattle.std.specs.Ordering.{nat_cmp}
use Rattle.onvm_base.specs.declared.ids.FrameId.{FrameId}
use Rattle.onvm_core.specs.declared.layout.Layout.{Layout}
use Rattle.onvm_core.specs.Potential.{sum_below}
use Rattle.onvm_promises.specs.Kept.{CoreKeeps, FeederKeeps, at_most_64_bits}
use Rattle.onvm_session.specs.Accounts.{RunView}
use Rattle.onvm_session.specs.Sessions.{Keeps}

-- what the feeders below n kept, feeder by feeder
abbrev pub feeders_kept : {A : Type 0} → (FeederKeeps → List A) → (ℕ → Keeps) → ℕ → List A
feeders_kept part keeps zero = []
feeders_kept part keeps (suc n) = feeders_kept part keeps n ++ part (keeps n).feeder

-- what the first n cores counted
abbrev pub cores_counted : (CoreKeeps → ℕ) → Layout → (ℕ → Keeps) → ℕ → ℕ
cores_counted part layout keeps n = sum_below (λ core. part (keeps (layout.ports + layout.transmit + core)).core) n

-- how many records the feeders kept
abbrev pub recorded_count : Layout → (ℕ → Keeps) → ℕ
recorded_count layout keeps =
    sum_below (λ feeder. length (keeps feeder).feeder.outcomes.records) (layout.ports + layout.transmit)

-- by port, then by number
abbrev pub frame_key : FrameId → ℕ
frame_key frame = frame.port.0 * 2 ^ 32 + frame.number

-- the same elements, in the order of their frames; those of one frame keep their order
pub record IsByFrame {A : Type 0} (frame : A → FrameId) (given ordered : List A) : Type 0 where
  pub same : IsPermutation given ordered
  pub rising : IsNonDecreasingBy (λ x. frame_key (frame x)) ordered
  pub stable : IsStableByKey (λ x. frame_key (frame x)) nat_cmp given ordered

-- of what all feeders and cores kept
pub record AreRunLists (layout : Layout) (keeps : ℕ → Keeps) (run : RunView) : Type 0 where
  pub records : IsByFrame (λ told. told.frame)
      (feeders_kept (λ kept. kept.outcomes.records) keeps (layout.ports + layout.transmit)) run.records
  pub sent : IsByFrame (λ frame. frame.frame)
      (feeders_kept (λ kept. kept.outcomes.sent) keeps (layout.ports + layout.transmit)) run.sent
  pub posts : run.posts ≡ feeders_kept (λ kept. kept.posts) keeps (layout.ports + layout.transmit)
  pub yields : run.yields ≡ at_most_64_bits (cores_counted (λ kept. kept.yields) layout keeps layout.cores)
  pub lost : run.lost ≡ at_most_64_bits (cores_counted (λ kept. kept.lost) layout keeps layout.cores)
