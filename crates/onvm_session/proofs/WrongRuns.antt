-- Runs that have no account, whatever their history: a frame has no record or two, a buffer is kept, no tick closes the
-- run, or the last tick counts fewer samples than were taken.
use Rattle.std.proofs.Common.{◌≡◌, ℕ, ◌<◌, Bool, true, List, [], ◌∷◌, ◌++◌, length, refl, sym, ◌∙◌, ap, arith, length-append, Some}
use Rattle.std.specs.Prelude.{◌≢◌}
use Rattle.onvm_base.specs.declared.outcome.Record.{Record}
use Rattle.onvm_core.specs.declared.entry.Entry.{Entry}
use Rattle.onvm_core.specs.Frames.{same_frame}
use Rattle.onvm_core.specs.Journals.{Handling}
use Rattle.onvm_core.specs.Logs.{Setting, entry_after}
use Rattle.onvm_core.specs.Places.{how_many}
use Rattle.onvm_core.proofs.WalkLogs as one_frame
use Rattle.load_estimate.specs.declared.tick.Tick.{Tick}
use Rattle.onvm_promises.proofs.ExamplePromises.{counts}
use Rattle.onvm_session.specs.Accounts.{IsAccounted, RunView}
use Rattle.onvm_session.proofs.ExampleAccount as example

module _ {S : Type 0} (serial : Bool) (may_tell : ℕ → Type 0) (cost_may_take : ℕ → ℕ → Type 0)
    (acts : ℕ → S → Handling → S → Type 0) (start : ℕ → S) (setting : Setting) (run : RunView) where
  -- A frame of the run has one record in its list

  pub no_other_count : (port done : ℕ) (e : Entry) → port < setting.layout.ports
      → entry_after setting port done ≡ Some e
      → how_many (λ told. same_frame told.frame e.frame) run.records ≢ 1
      → ¬ IsAccounted serial may_tell cost_may_take acts start setting run
  no_other_count port done e known found other is =
      other (is.lists.records.just (λ (told : Record). same_frame told.frame e.frame)
      ∙ is.one_record.each port done e known found)

  -- A run keeps a buffer

  pub no_buffer_kept : run.left ≢ 0 → ¬ IsAccounted serial may_tell cost_may_take acts start setting run
  no_buffer_kept some is = some is.all_return.1

  -- No tick closes a run

  pub no_tick_left_out : run.ticks ≡ [] → ¬ IsAccounted serial may_tell cost_may_take acts start setting run
  no_tick_left_out none is =
      omega (
        arith,
        ap (λ (ticks : List Tick). length ticks) (sym none ∙ is.shares.ticks.parts),
        length-append is.shares.ticks.made (is.shares.ticks.closing ∷ []),
      )

-- Of the example's run

-- no record is lost
not_without_its_record : (may_tell : ℕ → Type 0) (cost_may_take : ℕ → ℕ → Type 0)
    → ¬ IsAccounted true may_tell cost_may_take counts (λ g. 0) one_frame.setting (record example.run { records = [] })
not_without_its_record may_tell cost_may_take =
    no_other_count true may_tell cost_may_take counts (λ g. 0) one_frame.setting
    (record example.run { records = [] }) 0 0 one_frame.entry (omega arith) refl (λ e. omega (arith, e))

-- nor told twice
not_told_twice : (may_tell : ℕ → Type 0) (cost_may_take : ℕ → ℕ → Type 0)
    → ¬ IsAccounted true may_tell cost_may_take counts (λ g. 0) one_frame.setting
    (record example.run { records = example.run.records ++ example.run.records })
not_told_twice may_tell cost_may_take =
    no_other_count true may_tell cost_may_take counts (λ g. 0) one_frame.setting
    (record example.run { records = example.run.records ++ example.run.records }) 0 0 one_frame.entry (omega arith) refl
    (λ e. omega (arith, e))

-- and the last tick counts its sample
not_uncounted : (may_tell : ℕ → Type 0) (cost_may_take : ℕ → ℕ → Type 0)
    → ¬ IsAccounted true may_tell cost_may_take counts (λ g. 0) one_frame.setting
    (record example.run { ticks = record example.tick { taken = 0 } ∷ [] })
not_uncounted may_tell cost_may_take is =
    last_is is.shares.ticks.made is.shares.ticks.closing is.shares.ticks.parts is.shares.ticks.all
  where
    last_is : (made : List Tick) (closing : Tick)
        → record example.tick { taken = 0 } ∷ [] ≡ made ++ closing ∷ []
        → closing.taken ≡ 1
        → ⊥
    last_is [] closing parts all =
        let same : ◌≡◌ {A = Tick} (record example.tick { taken = 0 }) closing = cc in
        omega (arith, ap (λ (t : Tick). t.taken) same, all)
    last_is (t ∷ made) closing parts all =
        omega (
          arith,
          ap (λ (ticks : List Tick). length ticks) parts,
          length-append made (closing ∷ []),
        )
