-- The lists of a run, put together of what its roles kept, are those that the roles' logs tell.
use Rattle.std.proofs.Common.{◌≡◌, ℕ, ◌+◌, ◌<◌, ◌≤◌, Bool, true, false, List, [], ◌∷◌, refl, ◌∙◌, arith}
use Rattle.onvm_base.specs.declared.frame.SentFrame.{SentFrame}
use Rattle.onvm_base.specs.declared.ids.FrameId.{FrameId}
use Rattle.onvm_base.specs.declared.outcome.Record.{Record}
use Rattle.onvm_core.specs.declared.step.Act.{Act}
use Rattle.onvm_core.proofs.Balance.{one_record_or_buffer}
use Rattle.onvm_core.proofs.Once.{how_many-append}
use Rattle.onvm_core.proofs.Rooms.{begun_in_range}
use Rattle.onvm_core.specs.Blocks.{AllOfBlocks, IsOfBlocks, kind_of}
use Rattle.onvm_core.specs.Frames.{has_begun, record_count, same_frame}
use Rattle.onvm_core.specs.History.{History}
use Rattle.onvm_core.specs.Journals.{Handling}
use Rattle.onvm_core.specs.Layouts.{first_role, tick_role}
use Rattle.onvm_core.specs.Logs.{Setting}
use Rattle.onvm_core.specs.Places.{how_many, one_if}
use Rattle.onvm_core.specs.Records.{records_in, records_of_act, sent_frames_in, sent_frames_of_act}
use Rattle.onvm_core.specs.Settings.{IsSetting}
use Rattle.onvm_core.specs.declared.step.Act.TheVariants.{Give}
use Rattle.onvm_base.specs.declared.outcome.Outcome.TheVariants.{Sent}
use Rattle.onvm_promises.specs.Kept.{records_by, sent_by}
use Rattle.onvm_session.proofs.Accounted.{blocks_of, many_of, sent_of}
use Rattle.onvm_session.proofs.Ascending.{IsFew, ascending, many_permuted}
use Rattle.onvm_session.proofs.RoleLists.{lost_told, posts_told, records_told, sent_told, yields_told}
use Rattle.onvm_session.specs.Accounts.{RunView}
use Rattle.onvm_session.specs.Endings.{HasLists, IsClosed}
use Rattle.onvm_session.specs.Gathering.{AreRunLists, feeders_kept}
use Rattle.onvm_session.specs.Lists.{Ascends, all_told}
use Rattle.onvm_session.specs.Sessions.{IsRoleSoFar, Keeps}
use Rattle.onvm_session.specs.Views.{IsLead}

-- Each sent frame has its record

abbrev sent_fit : FrameId → List SentFrame → List Record → Type 0
sent_fit at sent records =
    how_many (λ frame. same_frame frame.frame at) sent ≤ how_many (λ told. same_frame told.frame at) records

act_sends : (at : FrameId) (act : Act) → sent_fit at (sent_frames_of_act act) (records_of_act act)
act_sends at (Give b (Sent port) parcel) = omega arith
act_sends at act = omega arith

sent_recorded : (at : FrameId) (past : History) → sent_fit at (sent_frames_in past) (records_in past)
sent_recorded at [] = omega arith
sent_recorded at (step ∷ before) =
    omega (
      arith,
      how_many-append (λ (frame : SentFrame). same_frame frame.frame at) (sent_frames_in before)
          (sent_frames_of_act step.act),
      how_many-append (λ (told : Record). same_frame told.frame at) (records_in before) (records_of_act step.act),
      act_sends at step.act,
      sent_recorded at before,
    )

one_bound : (b : Bool) → one_if b ≤ 1
one_bound true = omega arith
one_bound false = omega arith

some_one : (b : Bool) → 1 ≤ one_if b → b ≡ true
some_one true h = refl
some_one false h = absurd (omega (arith, h))

module _ {S : Type 0} (acts : ℕ → S → Handling → S → Type 0) (start state : ℕ → S)
    (cost_may_take : ℕ → ℕ → Type 0) (serial : Bool) (setting : Setting) (moments : ℕ → ℕ → ℕ) (keeps : ℕ → Keeps)
    (run : RunView)
    (is_setting : IsSetting setting)
    (lead : IsLead serial setting.layout run.final.lead)
    (blocks : (role : ℕ) → role < first_role setting.layout → IsOfBlocks setting role (run.final.logs role))
    (roles : (role : ℕ) → role < tick_role setting.layout
    → IsRoleSoFar acts start state cost_may_take setting role (kind_of setting.layout role) (moments role)
    (run.final.logs role) (keeps role))
    (closed : IsClosed setting run)
    (lists : AreRunLists setting.layout keeps run)
  where
    abbrev feeders : ℕ
    feeders = setting.layout.ports + setting.layout.transmit

    in_records : (test : Record → Bool)
        → how_many test run.records
        ≡ all_told test records_by moments run.final.logs (first_role setting.layout)
    in_records test =
        many_permuted test (feeders_kept (λ kept. kept.outcomes.records) keeps feeders) run.records lists.records.same
        ∙ records_told acts start state cost_may_take setting moments run.final.logs keeps blocks roles test

    in_sent : (test : SentFrame → Bool)
        → how_many test run.sent ≡ all_told test sent_by moments run.final.logs (first_role setting.layout)
    in_sent test =
        many_permuted test (feeders_kept (λ kept. kept.outcomes.sent) keeps feeders) run.sent lists.sent.same
        ∙ sent_told acts start state cost_may_take setting moments run.final.logs keeps blocks roles test

    -- Each frame once

    record_few : (at : FrameId) (many : ℕ) → 1 ≤ many → many ≤ record_count at closed.past → IsFew many at
    record_few at many some within =
        let all : AllOfBlocks setting closed.past =
        blocks_of serial setting run.final closed.past closed.history lead blocks in
        let total = one_record_or_buffer setting at closed.past is_setting.numbered closed.history.lawful all in
        let begun : has_begun setting at closed.past ≡ true =
        some_one (has_begun setting at closed.past) (omega (arith, some, within, total)) in
        let range = begun_in_range setting closed.past at all begun in
        record {
          once = omega (arith, within, total, one_bound (has_begun setting at closed.past));
          room = omega (arith, range.2, is_setting.few at.port.0);
        }

    records_ascend : Ascends (λ told. told.frame) run.records
    records_ascend =
        ascending (λ (told : Record). told.frame) run.records lists.records.rising
        (λ at some. record_few at (how_many (λ told. same_frame told.frame at) run.records) some
        (omega (
          arith,
          in_records (λ told. same_frame told.frame at),
          many_of serial setting moments run.final closed.past closed.history lead (λ told. same_frame told.frame at),
        )))

    sent_ascend : Ascends (λ frame. frame.frame) run.sent
    sent_ascend =
        ascending (λ (frame : SentFrame). frame.frame) run.sent lists.sent.rising
        (λ at some. record_few at (how_many (λ frame. same_frame frame.frame at) run.sent) some
        (omega (
          arith,
          in_sent (λ frame. same_frame frame.frame at),
          sent_of serial setting moments run.final closed.past closed.history lead (λ frame. same_frame frame.frame at),
          sent_recorded at closed.past,
        )))

    pub listed : HasLists setting moments run
    listed = record {
      records = in_records;
      records_ascend = records_ascend;
      sent = in_sent;
      sent_ascend = sent_ascend;
      posts =
          lists.posts
          ∙ posts_told acts start state cost_may_take setting moments run.final.logs keeps blocks roles;
      yields =
          lists.yields
          ∙ yields_told acts start state cost_may_take setting moments run.final.logs keeps blocks roles;
      lost =
          lists.lost
          ∙ lost_told acts start state cost_may_take setting moments run.final.logs keeps blocks roles;
    }
