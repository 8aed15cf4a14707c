-- A whole pass: room and frames, a marks pass, and the blocks of the frames that wait.
use Rattle.std.proofs.Common.{◌≡◌, ◌∙◌, sym, ap, subst, refl, ◌⊎◌, inl, inr, ℕ, ◌+◌, ◌-◌, ◌<◌, ◌≤◌, Bool, true, false, List, [], ◌∷◌, ◌++◌, length, Option, Some, None, arith, length-append}
use Rattle.std.specs.Prelude.{min}
use Rattle.onvm_base.specs.declared.frame.Frame.{Frame}
use Rattle.onvm_base.specs.declared.plan.Plan.{Plan}
use Rattle.onvm_core.specs.declared.layout.Layout.{Layout}
use Rattle.onvm_core.specs.Logs.{Setting, entries_of_port}
use Rattle.onvm_core.specs.Marks.{Ages}
use Rattle.onvm_core.specs.Receiving.ReceivePhase.{Between}
use Rattle.onvm_board.specs.Tokens.{BoardView, TokenView}
use Rattle.onvm_promises.specs.declared.pass.Pass.{Pass}
use Rattle.onvm_promises.specs.declared.pass.Pass.TheVariants.{Did, Idle, Stopped, Wanting}
use Rattle.onvm_promises.specs.Answers.{Tells, is_complete}
use Rattle.onvm_promises.specs.Entries.{entries_from}
use Rattle.onvm_promises.specs.Kept.{FeederKeeps, Outcomes, moment_then}
use Rattle.onvm_promises.specs.Roles.{Fits, IsReceivePromise}
use Rattle.entry_throttle.specs.Feeders.{FeederView, IsReady, MadeMarksPass}
use Rattle.rx_feed.specs.declared.intake.Intake.{Intake}
use Rattle.rx_feed.specs.Standing.{HasStopped, Standing}
use Rattle.rx_pass.specs.declared.inlet.Inlet.{Inlet}
use Rattle.rx_pass.specs.declared.role.RxRole.{RxRole}
use Rattle.rx_pass.specs.Keeping.{outcomes_of}
use Rattle.rx_pass.specs.Roles.{FitsRole, IsInOrder, IsQueue, IsRxRole, done_of, keeps_of, waiting_of}
use Rattle.rx_pass.specs.Turns.{IsTurn}
use Rattle.rx_pass.proofs.Afterwards.{all_known, count_is, ends_by, of_order, own_run, own_run_fits, to_order}
use Rattle.rx_pass.proofs.Passed.{knowing, promised}
use Rattle.rx_pass.proofs.Promising.{Knowing}
use Rattle.rx_pass.proofs.Queues.{longer}

-- a run fits the frames pulled, for whatever role number
abbrev pub FitsFrames : Layout → Plan → ℕ → Standing → Setting → Type 0
FitsFrames layout plan port s setting =
    Fits layout plan port (entries_from plan (record { 0 = port }) 0 s.pulled) s.ended setting

module _ {I : Type 0} (site : BoardView) (plan : Plan) (now : ℕ) (old ready new : RxRole I) (start : Inlet)
    (marked : FeederView) (a t b : TokenView)
    (is : IsRxRole site plan a old)
    (room : ready.inlet.feeder ≡ record old.inlet.feeder { room = ready.inlet.feeder.room })
    (keeps : keeps_of ready ≡ keeps_of old) (done : done_of ready ≡ done_of old)
    (queue : IsQueue old → IsQueue ready) (few : length (waiting_of ready) ≤ plan.burst)
    (full : (length (waiting_of ready) ≡ plan.burst) ⊎ HasStopped ready.intake.standing)
    (passes : (setting : Setting) (aged : Ages) → IsReady setting aged site now ready.inlet.feeder a
    → MadeMarksPass setting aged now ready.inlet.feeder marked a t)
    (mine : t.role ≡ marked.number)
    (same : marked ≡ record ready.inlet.feeder { marks = marked.marks; posts = marked.posts; room = marked.room })
    (kept : outcomes_of start.kept ≡ outcomes_of ready.inlet.kept) (fed : start.feeder ≡ marked)
    (turns : (setting : Setting) → FitsFrames site.layout plan t.role ready.intake.standing setting
    → IsTurn setting t.role now (Between (done_of ready)) (Between (done_of new)) t b start new.inlet)
    (intake : new.intake ≡ ready.intake) (empty : waiting_of new ≡ [])
  where
    there : t.role ≡ a.role
    there =
        mine ∙ ap (λ (f : FeederView). f.number) same ∙ ap (λ (f : FeederView). f.number) room ∙ sym is.inlet.feeder.role

    -- what the feeder keeps of its marks
    pub noted : new.inlet.feeder ≡ record marked { spots = new.inlet.feeder.spots; ages = new.inlet.feeder.ages }
    noted =
        (turns (own_run site.layout plan t.role ready.intake.standing.pulled)
        (own_run_fits site.layout plan t.role ready.intake.standing.pulled ready.intake.standing.ended)).noted.same
        ∙ ap (λ (x : FeederView). record x { spots = new.inlet.feeder.spots; ages = new.inlet.feeder.ages }) fed

    pub role_same : b.role ≡ t.role
    role_same =
        ap (λ (x : TokenView). x.role)
        (turns (own_run site.layout plan t.role ready.intake.standing.pulled)
        (own_run_fits site.layout plan t.role ready.intake.standing.pulled ready.intake.standing.ended)).grew

    abbrev waits : ℕ
    waits = length (waiting_of ready)

    abbrev all : ℕ
    all = length ready.intake.standing.pulled

    some : waits ≤ all
    some =
        let q = queue is.queue in
        omega (arith, longer q.0 [] ready.intake.standing.pulled (waiting_of ready) q.1)

    ended_at : done_of new ≡ all
    ended_at = omega (arith, ap (λ i. length i.standing.pulled) intake, ap (length {A = Frame}) empty)

    module _ (setting : Setting) (moment : ℕ → ℕ) (fits : FitsRole site.layout plan a.role new setting)
        (known : IsInOrder setting a.role moment a.log old) where
      fits_ready : FitsFrames site.layout plan a.role ready.intake.standing setting
      fits_ready = subst (λ (i : Intake I). FitsFrames site.layout plan a.role i.standing setting) intake fits

      turn : IsTurn setting t.role now (Between (done_of ready)) (Between (done_of new)) t b start new.inlet
      turn =
          turns setting (subst (λ (r : ℕ). FitsFrames site.layout plan r ready.intake.standing setting) (sym there) fits_ready)

      knows : Knowing setting a.role moment a.log (keeps_of old) old.inlet.feeder (done_of ready)
      knows =
          subst (λ (n : ℕ). Knowing setting a.role moment a.log (keeps_of old) old.inlet.feeder n) (sym done)
          (of_order setting a.role moment a.log old known)

      begun : outcomes_of start.kept ≡ outcomes_of old.inlet.kept
      begun = kept ∙ ap (λ (k : FeederKeeps). k.outcomes) keeps

      within : done_of new ≤ done_of ready + setting.plan.burst
      within =
          let burst : setting.plan.burst ≡ plan.burst = ap (λ (p : Plan). p.burst) fits.plan_is in
          omega (arith, ended_at, some, few, burst)

      tell : (answer : Pass)
          → (is_complete answer ≡ true
          → done_of new ≡ min (done_of ready + setting.plan.burst) (length (entries_of_port a.role setting.entries)))
          → Tells answer (done_of new - done_of ready) (done_of new ≡ length (entries_of_port a.role setting.entries)) (Unit {0})
          → IsReceivePromise setting a.role now moment a.log b.log (keeps_of new) answer
      tell answer count tells =
          promised site plan setting now (done_of ready) (done_of new) moment old.inlet start new.inlet ready.inlet.feeder
          marked a t b fits.layout_is fits.plan_is is.receives is.inlet.feeder is.inlet.ages is.marks room passes mine same
          begun fed turn knows answer within count tells

      counted : ready.intake.standing.fault ≡ None
          → done_of new ≡ min (done_of ready + setting.plan.burst) (length (entries_of_port a.role setting.entries))
      counted sound =
          let burst : setting.plan.burst ≡ plan.burst = ap (λ (p : Plan). p.burst) fits.plan_is in
          let either : (waits ≡ plan.burst) ⊎ (ready.intake.standing.ended ≡ true) =
          elim full [ inl most ↦ inl most | inr stopped ↦ inr (ends_by ready.intake.standing stopped sound) ] in
          ended_at
          ∙ count_is site.layout plan a.role waits plan.burst ready.intake.standing.pulled ready.intake.standing.ended setting
          fits_ready some few either
          ∙ ap (λ (n : ℕ). min (all - waits + n) (length (entries_of_port a.role setting.entries))) (sym burst)

      sound_of : new.intake.standing.fault ≡ None → ready.intake.standing.fault ≡ None
      sound_of sound = ap (λ (i : Intake I). i.standing.fault) (sym intake) ∙ sound

      work : done_of new - done_of ready ≡ waits
      work = omega (arith, ended_at, some)

      pub stopped_promise : IsReceivePromise setting a.role now moment a.log b.log (keeps_of new) Stopped
      stopped_promise = tell Stopped (λ complete. let off : false ≡ true = complete in absurd (cc)) tt

      pub idle_promise : waits ≡ 0 → new.intake.standing.fault ≡ None
          → IsReceivePromise setting a.role now moment a.log b.log (keeps_of new) Idle
      idle_promise nothing sound =
          let end : ready.intake.standing.ended ≡ true =
          elim full [
            | inl most ↦ absurd (omega (arith, most, nothing, plan.kept.sizes_are.burst.0))
            | inr stopped ↦ ends_by ready.intake.standing stopped (sound_of sound)
          ] in
          tell Idle (λ _. counted (sound_of sound)) (
            work ∙ nothing,
            ended_at
                ∙ all_known site.layout plan a.role waits plan.burst ready.intake.standing.pulled
                ready.intake.standing.ended setting fits_ready some few end,
          )

      pub did_promise : (n : ℕ) → n ≡ waits → 0 < n → new.intake.standing.fault ≡ None
          → IsReceivePromise setting a.role now moment a.log b.log (keeps_of new) (Did n)
      did_promise n count positive sound =
          tell (Did n) (λ _. counted (sound_of sound)) (positive, count ∙ sym work)

      pub order_after : IsInOrder setting a.role (moment_then moment (length a.log) now) b.log new
      order_after =
          to_order setting a.role (moment_then moment (length a.log) now) b.log new
          (knowing site plan setting now (done_of ready) (done_of new) moment old.inlet start new.inlet ready.inlet.feeder
          marked a t b fits.layout_is fits.plan_is is.receives is.inlet.feeder is.inlet.ages is.marks room passes mine same
          begun fed turn knows within)
