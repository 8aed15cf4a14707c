-- A marks pass and then blocks are what a receive role promises.
use Rattle.std.proofs.Common.{◌≡◌, ℕ, ◌+◌, ◌-◌, ◌<◌, ◌≤◌, Bool, true, false, inl, List, [], ◌∷◌, ◌++◌, length, sym, ap, ◌∙◌, subst, refl, arith, append_assoc, append-nil}
use Rattle.std.specs.Prelude.{min}
use Rattle.onvm_base.specs.declared.post.Post.{Post}
use Rattle.onvm_core.specs.declared.step.Act.{Act}
use Rattle.onvm_core.specs.Blocks.{IsOfBlocks, kind_of}
use Rattle.onvm_core.specs.Blocks.RoleKind.{Receives}
use Rattle.onvm_core.specs.Logs.{Log, Setting, entries_of_port}
use Rattle.onvm_core.specs.Marks.{Ages}
use Rattle.onvm_core.specs.Receiving.{IsBetween, ReceivePhase, done_count, receive_after, receive_phase}
use Rattle.onvm_core.specs.Receiving.ReceivePhase.{Between}
use Rattle.onvm_promises.specs.declared.pass.Pass.{Pass}
use Rattle.onvm_promises.specs.Acts.{AreBlockSteps, AreMarkSteps, IsBlockStep, IsMarkStep}
use Rattle.onvm_promises.specs.Acts.IsBlockStep.{AnAsk, ASeek, ATake, APush, AFull, AGive}
use Rattle.onvm_promises.specs.Acts.IsMarkStep.{ALook, APost}
use Rattle.onvm_promises.specs.Answers.{IsIdleReceiver, Tells, is_complete}
use Rattle.onvm_promises.specs.Follows.{MayReceiveIn, ReceivesFrom, receive_phase_from}
use Rattle.onvm_promises.specs.Kept.{FeederKeeps, kept_at, kept_now, moment_then, posts_by, records_by, sent_by}
use Rattle.onvm_promises.specs.Passes.{IsMarksPass, IsReceivePass}
use Rattle.onvm_promises.specs.Rests.{IsSettledFeeder, RestsReceiving}
use Rattle.onvm_promises.specs.Roles.{IsReceivePromise, IsReceiverSoFar}
use Rattle.onvm_promises.specs.Times.{aged_by}
use Rattle.onvm_promises.proofs.BlockPacing.{begun_from, begun_is, fresh_blocks, open_block, settled_blocks}
use Rattle.onvm_promises.proofs.Following.{receive_phase_is, receives_follow}
use Rattle.onvm_promises.proofs.Keeping.{kept_append, kept_then, records_any, sent_any}
use Rattle.onvm_promises.proofs.Moving.{mark_is, marks_quiet}
use Rattle.onvm_promises.proofs.SendPromise.{keeps_more}
use Rattle.onvm_promises.proofs.Settling.{aged_moves}
use Rattle.onvm_promises.proofs.Unmarked.{blocks_unmarked}

-- A marks pass keeps a receive role between its blocks

pub mark_between : (setting : Setting) (port done : ℕ) (made : Log) → AreMarkSteps setting port made
    → ReceivesFrom setting port (Between done) made × (receive_phase_from setting (Between done) made ≡ Between done)
mark_between setting port done [] are = (tt, refl)
mark_between setting port done (act ∷ made) are = by_act act are.0 (mark_between setting port done made are.1)
  where
    by_act : (act : Act) → IsMarkStep setting port act
        → ReceivesFrom setting port (Between done) made × (receive_phase_from setting (Between done) made ≡ Between done)
        → ReceivesFrom setting port (Between done) (act ∷ made)
        × (receive_phase_from setting (Between done) (act ∷ made) ≡ Between done)
    by_act act (ALook f at seen known within) rest = (
      (
        subst (λ (p : ReceivePhase). MayReceiveIn setting port p act) (sym rest.1)
            (inl (tt, mark_is setting port act (ALook f at seen known within))),
        rest.0,
      ),
      ap (λ (p : ReceivePhase). receive_after setting p act) rest.1,
    )
    by_act act (APost value) rest = (
      (
        subst (λ (p : ReceivePhase). MayReceiveIn setting port p act) (sym rest.1)
            (inl (tt, mark_is setting port act (APost value))),
        rest.0,
      ),
      ap (λ (p : ReceivePhase). receive_after setting p act) rest.1,
    )

-- Blocks post nothing

block_quiet : (now : ℕ) (act : Act) → IsBlockStep act → posts_by now act ≡ []
block_quiet now act (AnAsk feeder seen told) = refl
block_quiet now act (ASeek port index seen told) = refl
block_quiet now act (ATake buf) = refl
block_quiet now act (APush f feeder item) = refl
block_quiet now act (AFull f feeder) = refl
block_quiet now act (AGive buf outcome parcel) = refl

pub blocks_quiet : (now : ℕ) (blocks : Log) → AreBlockSteps blocks → kept_now posts_by now blocks ≡ []
blocks_quiet now [] are = refl
blocks_quiet now (act ∷ blocks) are =
    ap (λ xs. xs ++ posts_by now act) (blocks_quiet now blocks are.1) ∙ block_quiet now act are.0

tells_as : (answer : Pass) (work other : ℕ) (idle : Type 0) → work ≡ other → Tells answer work idle (Unit {0})
    → Tells answer other idle (Unit {0})
tells_as answer work other idle same tells = subst (λ n. Tells answer n idle (Unit {0})) same tells

module _ (setting : Setting) (port now d e : ℕ) (moment : ℕ → ℕ) (before made blocks : Log) (keeps : FeederKeeps)
    (answer : Pass)
    (kind : kind_of setting.layout port ≡ Receives) (known : port < setting.layout.ports)
    (so_far : IsReceiverSoFar setting port moment before keeps)
    (at : receive_phase setting before ≡ Between d)
    (marks : IsMarksPass setting port (aged_by setting port (moment_then moment (length before) now) (made ++ before))
    before made)
    (steps : AreBlockSteps blocks)
    (follows : ReceivesFrom setting port (Between d) blocks)
    (stands : receive_phase_from setting (Between d) blocks ≡ Between e)
    (few : e ≤ d + setting.plan.burst)
    (count : is_complete answer ≡ true → e ≡ min (d + setting.plan.burst) (length (entries_of_port port setting.entries)))
    (tells : Tells answer (e - d) (e ≡ length (entries_of_port port setting.entries)) (Unit {0}))
  where
    abbrev then_ : ℕ → ℕ
    then_ = moment_then moment (length before) now

    abbrev log : Log
    log = made ++ before

    abbrev all : Log
    all = (blocks ++ made) ++ before

    whole : all ≡ blocks ++ log
    whole = append_assoc blocks made before

    marked : ReceivesFrom setting port (Between d) made × (receive_phase_from setting (Between d) made ≡ Between d)
    marked = mark_between setting port d made marks.marks

    at_there : receive_phase setting log ≡ Between d
    at_there = receive_phase_is setting made before ∙ ap (λ p. receive_phase_from setting p made) at ∙ marked.1

    blocks_there : IsOfBlocks setting port log
    blocks_there =
        receives_follow setting port made before kind so_far.rests.blocks
        (subst (λ p. ReceivesFrom setting port p made) (sym at) marked.0)

    at_end : receive_phase setting all ≡ Between e
    at_end =
        ap (receive_phase setting) whole ∙ receive_phase_is setting blocks log
        ∙ ap (λ p. receive_phase_from setting p blocks) at_there ∙ stands

    same_ages : aged_by setting port then_ log ≡ aged_by setting port then_ all
    same_ages =
        sym (aged_moves setting port then_ blocks log (blocks_unmarked blocks steps))
        ∙ ap (λ l. aged_by setting port then_ l) (sym whole)

    begun : begun_from setting (receive_phase setting log) blocks ≤ setting.plan.burst
    begun =
        let counted = begun_is setting (Between d) blocks steps in
        let closed : open_block (receive_phase_from setting (Between d) blocks) ≡ 0 = ap open_block stands in
        let ended : done_count (receive_phase_from setting (Between d) blocks) ≡ e = ap done_count stands in
        subst (λ (p : ReceivePhase). begun_from setting p blocks ≤ setting.plan.burst) (sym at_there)
        (omega (arith, counted, closed, ended, few))

    rests : RestsReceiving setting port (aged_by setting port then_ log) all
    rests = record {
      blocks =
          subst (IsOfBlocks setting port) (sym whole)
          (receives_follow setting port blocks log kind blocks_there
          (subst (λ p. ReceivesFrom setting port p blocks) (sym at_there) follows));
      between = at_end ∙ ap (λ (p : ReceivePhase). Between (done_count p)) (sym at_end);
      feeder =
          subst (IsSettledFeeder setting port (aged_by setting port then_ log)) (sym whole)
          (settled_blocks setting port (aged_by setting port then_ log) blocks log steps
          (subst (λ p. ReceivesFrom setting port p blocks) (sym at_there) follows) begun
          (fresh_blocks setting port (aged_by setting port then_ log) before made known marks
          (at_there ∙ ap (λ (p : ReceivePhase). Between (done_count p)) (sym at_there)))
          marks.settled);
    }

    pass : is_complete answer ≡ true → IsReceivePass setting port (aged_by setting port then_ all) before (blocks ++ made)
    pass complete =
        subst (λ (ages : Ages). IsReceivePass setting port ages before (blocks ++ made)) same_ages
        (record {
          marks = made;
          blocks = blocks;
          parts = refl;
          pass = marks;
          steps = steps;
          count =
              ap done_count at_end ∙ count complete
              ∙ ap (λ (p : ReceivePhase).
              min (done_count p + setting.plan.burst) (length (entries_of_port port setting.entries))) (sym at);
          rests = rests;
        })

    quiet : (kept_now records_by now made ≡ []) × (kept_now sent_by now made ≡ [])
    quiet =
        let both = marks_quiet setting port now made marks.marks in
        (both.0, both.1)

    work : e - d ≡ done_count (receive_phase setting all) - done_count (receive_phase setting before)
    work = ap (λ (n : ℕ). n - d) (sym (ap done_count at_end))
        ∙ ap (λ (n : ℕ). done_count (receive_phase setting all) - n) (sym (ap done_count at))

    idle : (e ≡ length (entries_of_port port setting.entries)) ≡ IsIdleReceiver setting port all
    idle = ap (λ (n : ℕ). n ≡ length (entries_of_port port setting.entries)) (sym (ap done_count at_end))

    pub receive_promise : IsReceivePromise setting port now moment before ((blocks ++ made) ++ before)
        (keeps_more now made blocks keeps) answer
    receive_promise = record {
      added = blocks ++ made;
      grown = refl;
      so_far = record {
        rests = subst (λ (ages : Ages). RestsReceiving setting port ages all) same_ages rests;
        kept = record {
          records = ap (λ xs. xs ++ kept_now records_by 0 blocks) so_far.kept.records
              ∙ ap (λ xs. kept_at records_by moment before ++ xs)
              (sym (records_any (λ number. now) blocks) ∙ ap (λ xs. xs ++ kept_now records_by now blocks) (sym quiet.0)
              ∙ sym (kept_append records_by now made blocks))
              ∙ sym (kept_then records_by moment now (blocks ++ made) before);
          sent = ap (λ xs. xs ++ kept_now sent_by 0 blocks) so_far.kept.sent
              ∙ ap (λ xs. kept_at sent_by moment before ++ xs)
              (sym (sent_any (λ number. now) blocks) ∙ ap (λ xs. xs ++ kept_now sent_by now blocks) (sym quiet.1)
              ∙ sym (kept_append sent_by now made blocks))
              ∙ sym (kept_then sent_by moment now (blocks ++ made) before);
          posts = ap (λ xs. xs ++ kept_now posts_by now made) so_far.kept.posts
              ∙ ap (λ xs. kept_at posts_by moment before ++ xs)
              (sym (append-nil (kept_now posts_by now made))
              ∙ ap (λ xs. kept_now posts_by now made ++ xs) (sym (blocks_quiet now blocks steps))
              ∙ sym (kept_append posts_by now made blocks))
              ∙ sym (kept_then posts_by moment now (blocks ++ made) before);
        };
      };
      whole = pass;
      tells = subst (λ (i : Type 0). Tells answer
          (done_count (receive_phase setting all) - done_count (receive_phase setting before)) i (Unit {0})) idle
          (tells_as answer (e - d) (done_count (receive_phase setting all) - done_count (receive_phase setting before))
          (e ≡ length (entries_of_port port setting.entries)) work tells);
    }
