-- A marks pass and then moves are what a transmit role promises.
use Rattle.std.proofs.Common.{◌≡◌, ℕ, ◌<◌, ◌≤◌, ◌++◌, length, refl, sym, ◌∙◌, ap, subst, arith, append_assoc, append-nil, [], ◌∷◌}
use Rattle.onvm_base.specs.declared.ids.FnId.{FnId}
use Rattle.onvm_base.specs.declared.ids.RingId.TheVariants.{Output}
use Rattle.onvm_core.specs.Blocks.{IsOfBlocks, kind_of}
use Rattle.onvm_core.specs.Blocks.RoleKind.{Sends}
use Rattle.onvm_core.specs.declared.step.Act.{Act}
use Rattle.onvm_core.specs.Logs.{Log, Setting}
use Rattle.onvm_core.specs.Marks.{Ages}
use Rattle.onvm_core.specs.Places.{how_many}
use Rattle.onvm_core.specs.Sending.{MaySend, Reads, SendPhase, send_after, send_phase}
use Rattle.onvm_core.specs.Sending.SendPhase.{Free}
use Rattle.onvm_core.proofs.Once.{how_many-append}
use Rattle.onvm_promises.specs.declared.pass.Pass.{Pass}
use Rattle.onvm_promises.specs.declared.pass.Pass.TheVariants.{Did, Idle, Wanting, Stopped}
use Rattle.onvm_promises.specs.Acts.{AreMarkSteps, AreMoveSteps, IsMarkStep}
use Rattle.onvm_promises.specs.Acts.IsMarkStep.{ALook, APost}
use Rattle.onvm_promises.specs.Answers.{IsIdleSender, Tells, is_moved}
use Rattle.onvm_promises.specs.Follows.{SendsFrom, send_phase_from}
use Rattle.onvm_promises.specs.Kept.{FeederKeeps, kept_at, kept_now, moment_then, posts_by, records_by, sent_by}
use Rattle.onvm_promises.specs.Passes.{IsDrained, IsMarksPass, IsSendPass, is_pop_of}
use Rattle.onvm_promises.specs.Rests.{RestsSending}
use Rattle.onvm_promises.specs.Roles.{IsSendPromise, IsSenderSoFar}
use Rattle.onvm_promises.specs.Times.{aged_by}
use Rattle.onvm_promises.proofs.Following.{send_phase_is, sends_follow}
use Rattle.onvm_promises.proofs.Keeping.{kept_append, kept_then, records_any, sent_any}
use Rattle.onvm_promises.proofs.Moving.{dry_more, mark_is, marks_quiet, moves_quiet}
use Rattle.onvm_promises.proofs.Pacing.{fresh_start, settled_moves}
use Rattle.onvm_promises.proofs.Settling.{aged_moves}
use Rattle.onvm_promises.proofs.Unmarked.{moves_unmarked}

-- A marks pass keeps a transmit role's phase and pattern

mark_free : (setting : Setting) (role : ℕ) (made : Log) → AreMarkSteps setting role made
    → SendsFrom setting role Free made × (send_phase_from Free made ≡ Free)
mark_free setting role [] are = (tt, refl)
mark_free setting role (act ∷ made) are = by_act act are.0 (mark_free setting role made are.1)
  where
    by_act : (act : Act) → IsMarkStep setting role act
        → SendsFrom setting role Free made × (send_phase_from Free made ≡ Free)
        → SendsFrom setting role Free (act ∷ made) × (send_phase_from Free (act ∷ made) ≡ Free)
    by_act act (ALook f at seen known within) rest = (
      (
        subst (λ (p : SendPhase). MaySend setting role p act) (sym rest.1)
            (mark_is setting role act (ALook f at seen known within)),
        rest.0,
      ),
      ap (λ (p : SendPhase). send_after p act) rest.1,
    )
    by_act act (APost value) rest = (
      (
        subst (λ (p : SendPhase). MaySend setting role p act) (sym rest.1) (mark_is setting role act (APost value)),
        rest.0,
      ),
      ap (λ (p : SendPhase). send_after p act) rest.1,
    )

tells_more : (setting : Setting) (role : ℕ) (made moves : Log) (answer : Pass) → how_many is_moved made ≡ 0
    → Tells answer (how_many is_moved moves) (IsIdleSender setting role moves) ⊥
    → Tells answer (how_many is_moved (moves ++ made)) (IsIdleSender setting role (moves ++ made)) ⊥
tells_more setting role made moves (Did n) none tells =
    let sum = how_many-append is_moved moves made in
    let was = tells.1 in
    (tells.0, omega (arith, sum, none, was))
tells_more setting role made moves Idle none tells =
    let sum = how_many-append is_moved moves made in
    let was = tells.0 in
    (omega (arith, sum, none, was), λ f reads. dry_more (Output f) moves made (tells.1 f reads))
tells_more setting role made moves Wanting none tells = tt
tells_more setting role made moves Stopped none tells = tells

-- what a pass of marks and moves tells comes to what is kept
abbrev pub keeps_more : (now : ℕ) (made moves : Log) → FeederKeeps → FeederKeeps
keeps_more now made moves keeps =
    record {
      outcomes = record {
        records = keeps.outcomes.records ++ kept_now records_by 0 moves;
        sent = keeps.outcomes.sent ++ kept_now sent_by 0 moves;
      };
      posts = keeps.posts ++ kept_now posts_by now made;
    }

module _ (setting : Setting) (role now : ℕ) (moment : ℕ → ℕ) (before made moves : Log) (keeps : FeederKeeps)
    (answer : Pass)
    (kind : kind_of setting.layout role ≡ Sends) (sends : setting.layout.ports ≤ role)
    (so_far : IsSenderSoFar setting role moment before keeps)
    (marks : IsMarksPass setting role (aged_by setting role (moment_then moment (length before) now) (made ++ before))
    before made)
    (steps : AreMoveSteps (λ f. f.0 < setting.layout.functions) moves)
    (follows : SendsFrom setting role Free moves) (free : send_phase_from Free moves ≡ Free)
    (few : (f : FnId) → how_many (is_pop_of (Output f)) moves ≤ setting.plan.burst)
    (drained : (f : FnId) → Reads setting role f → IsDrained (Output f) setting.plan.burst moves)
    (tells : Tells answer (how_many is_moved moves) (IsIdleSender setting role moves) ⊥)
  where
    abbrev then_ : ℕ → ℕ
    then_ = moment_then moment (length before) now

    abbrev log : Log
    log = made ++ before

    abbrev all : Log
    all = (moves ++ made) ++ before

    whole : all ≡ moves ++ log
    whole = append_assoc moves made before

    marked : SendsFrom setting role Free made × (send_phase_from Free made ≡ Free)
    marked = mark_free setting role made marks.marks

    free_there : send_phase log ≡ Free
    free_there = send_phase_is made before ∙ ap (λ p. send_phase_from p made) so_far.rests.free ∙ marked.1

    blocks_there : IsOfBlocks setting role log
    blocks_there =
        sends_follow setting role made before kind so_far.rests.blocks
        (subst (λ p. SendsFrom setting role p made) (sym so_far.rests.free) marked.0)

    same_ages : aged_by setting role then_ log ≡ aged_by setting role then_ all
    same_ages =
        sym (aged_moves setting role then_ moves log
        (moves_unmarked (λ f. f.0 < setting.layout.functions) moves steps))
        ∙ ap (λ l. aged_by setting role then_ l) (sym whole)

    rests : RestsSending setting role (aged_by setting role then_ log) all
    rests =
        subst (RestsSending setting role (aged_by setting role then_ log)) (sym whole)
        (record {
          blocks = sends_follow setting role moves log kind blocks_there
              (subst (λ p. SendsFrom setting role p moves) (sym free_there) follows);
          free = send_phase_is moves log ∙ ap (λ p. send_phase_from p moves) free_there ∙ free;
          feeder = settled_moves setting role (aged_by setting role then_ log) (λ f. f.0 < setting.layout.functions) moves
              log (λ receives. omega (arith, receives, sends)) steps follows few
              (fresh_start setting role (aged_by setting role then_ log) before made marks) marks.settled;
        })

    pass : IsSendPass setting role (aged_by setting role then_ all) before (moves ++ made)
    pass =
        subst (λ (ages : Ages). IsSendPass setting role ages before (moves ++ made)) same_ages
        (record {
          marks = made;
          moves = moves;
          parts = refl;
          pass = marks;
          steps = steps;
          few = few;
          drained = drained;
          rests = rests;
        })

    quiet : (kept_now records_by now made ≡ []) × (kept_now sent_by now made ≡ []) × (how_many is_moved made ≡ 0)
    quiet = marks_quiet setting role now made marks.marks

    pub send_promise : IsSendPromise setting role now moment before ((moves ++ made) ++ before)
        (keeps_more now made moves keeps) answer
    send_promise = record {
      added = moves ++ made;
      grown = refl;
      so_far = record {
        rests = pass.rests;
        kept = record {
          records = ap (λ xs. xs ++ kept_now records_by 0 moves) so_far.kept.records
              ∙ ap (λ xs. kept_at records_by moment before ++ xs)
              (sym (records_any (λ number. now) moves) ∙ ap (λ xs. xs ++ kept_now records_by now moves) (sym quiet.0)
              ∙ sym (kept_append records_by now made moves))
              ∙ sym (kept_then records_by moment now (moves ++ made) before);
          sent = ap (λ xs. xs ++ kept_now sent_by 0 moves) so_far.kept.sent
              ∙ ap (λ xs. kept_at sent_by moment before ++ xs)
              (sym (sent_any (λ number. now) moves) ∙ ap (λ xs. xs ++ kept_now sent_by now moves) (sym quiet.1)
              ∙ sym (kept_append sent_by now made moves))
              ∙ sym (kept_then sent_by moment now (moves ++ made) before);
          posts = ap (λ xs. xs ++ kept_now posts_by now made) so_far.kept.posts
              ∙ ap (λ xs. kept_at posts_by moment before ++ xs)
              (sym (append-nil (kept_now posts_by now made))
              ∙ ap (λ xs. kept_now posts_by now made ++ xs)
              (sym (moves_quiet (λ f. f.0 < setting.layout.functions) now moves steps))
              ∙ sym (kept_append posts_by now made moves))
              ∙ sym (kept_then posts_by moment now (moves ++ made) before);
        };
      };
      whole = λ complete. pass;
      tells = tells_more setting role made moves answer quiet.2 tells;
    }
