-- Parts of a block, one after another.
use Rattle.std.proofs.Common.{◌≡◌, ◌≢◌, ℕ, zero, suc, ◌+◌, ◌*◌, ◌/◌, ◌%◌, ◌<◌, ◌≤◌, Bool, true, false, inr, List, [], ◌∷◌, ◌++◌, length, sym, ap, ◌∙◌, subst, refl, arith, append_assoc, append-nil, Option, Some, None, mod-lt}
use Rattle.std.specs.Prelude.{IsBitSet}
use Rattle.std.proofs.lemmas.List.{append_cancel_right}
use Rattle.std.proofs.lemmas.Nat.Bits.{bit_at-zero}
use Rattle.onvm_base.specs.declared.frame.SentFrame.{SentFrame}
use Rattle.onvm_base.specs.declared.ids.BufId.{BufId}
use Rattle.onvm_base.specs.declared.ids.FnId.{FnId}
use Rattle.onvm_base.specs.declared.ids.FrameId.{FrameId}
use Rattle.onvm_base.specs.declared.outcome.Outcome.TheVariants.{PoolEmpty}
use Rattle.onvm_base.specs.declared.ids.PortId.{PortId}
use Rattle.onvm_base.specs.declared.ids.RingId.{RingId}
use Rattle.onvm_base.specs.declared.outcome.Record.{Record}
use Rattle.onvm_core.specs.declared.entry.Entry.{Entry}
use Rattle.onvm_core.specs.declared.layout.Layout.{Layout}
use Rattle.onvm_core.specs.declared.layout.Word.{Word}
use Rattle.onvm_core.specs.declared.layout.Word.TheVariants.{Pool, Post}
use Rattle.onvm_core.specs.declared.step.Act.{Act}
use Rattle.onvm_core.specs.declared.step.Act.TheVariants.{Look, Take}
use Rattle.onvm_core.specs.Layouts.{bit_of}
use Rattle.onvm_core.specs.Logs.{Log, Setting, entry_after}
use Rattle.onvm_core.specs.Potential.{pushed_in}
use Rattle.onvm_core.specs.Receiving.{IsLowest, MayReceiveFor, ReceivePhase, done_count, receive_after}
use Rattle.onvm_core.specs.Receiving.ReceivePhase.{Between, Seeks, Sees, Took}
use Rattle.onvm_board.specs.Known.{post_count_in}
use Rattle.onvm_board.specs.Rule.{Hand}
use Rattle.onvm_board.specs.Tokens.{BoardView, TokenView, grown}
use Rattle.onvm_board.proofs.Judgements.{bit_of_set}
use Rattle.onvm_board.proofs.Stretches.{grown_twice}
use Rattle.onvm_promises.specs.Acts.{AreBlockSteps}
use Rattle.onvm_promises.specs.Acts.IsBlockStep.{AnAsk, ASeek, ATake}
use Rattle.onvm_promises.specs.Follows.{MayReceiveIn, ReceivesFrom, receive_phase_from}
use Rattle.onvm_promises.specs.Kept.{Outcomes, Told, kept_now, records_by, sent_by}
use Rattle.onvm_promises.proofs.Following.{receive_phase_append, receives_append}
use Rattle.onvm_promises.proofs.Keeping.{told_then}
use Rattle.entry_throttle.specs.Admissions.{log_after_asks}
use Rattle.entry_throttle.specs.Feeders.{FeederView}
use Rattle.entry_throttle.specs.Looks.{lane}
use Rattle.mbuf_pool.specs.Parts.{last_index, last_look, looks_to, part_word, zero_looks}
use Rattle.mbuf_pool.proofs.Blocks.{none_may, seen_after, seen_may, zero_after, zero_may}
use Rattle.mbuf_pool.proofs.NoMoves.{zeros_push}
use Rattle.rx_pass.specs.declared.inlet.Inlet.{Inlet}
use Rattle.rx_pass.specs.Keeping.{outcomes_of}
use Rattle.rx_pass.specs.Noting.{HasNoted}
use Rattle.rx_pass.specs.Turns.{IsTurn}
use Rattle.rx_pass.proofs.Noted.{noted_then}

steps_append : (more added : Log) → AreBlockSteps more → AreBlockSteps added → AreBlockSteps (more ++ added)
steps_append [] added second first = first
steps_append (act ∷ more) added second first = (second.0, steps_append more added second.1 first)

-- one part after another
pub turn_then : (setting : Setting) (port now : ℕ) (from mid upto : ReceivePhase) (a b c : TokenView) (old between new : Inlet)
    → IsTurn setting port now from mid a b old between → IsTurn setting port now mid upto b c between new
    → IsTurn setting port now from upto a c old new
turn_then setting port now from mid upto a b c old between new first second =
    record {
      added = second.added ++ first.added;
      grew = grown_twice first.added second.added b.hand c.hand a b c first.grew second.grew;
      told = told_then first.added second.added (outcomes_of old.kept) (outcomes_of between.kept) (outcomes_of new.kept)
          first.told second.told;
      noted = noted_then now first.added second.added a.log old.feeder between.feeder new.feeder first.noted
          (subst (λ (log : Log). HasNoted now second.added log between.feeder new.feeder)
          (ap (λ (t : TokenView). t.log) first.grew) second.noted);
      steps = steps_append second.added first.added second.steps first.steps;
      follows = receives_append setting port from first.added second.added first.follows
          (subst (λ (p : ReceivePhase). ReceivesFrom setting port p second.added) (sym first.stands) second.follows);
      stands = receive_phase_append setting from first.added second.added
          ∙ ap (λ (p : ReceivePhase). receive_phase_from setting p second.added) first.stands ∙ second.stands;
    }

-- a token that grew by two logs grew by one
pub same_added : (added more : Log) (hand other : Hand) (before after : TokenView) → after ≡ grown added hand before
    → after ≡ grown more other before → added ≡ more
same_added added more hand other before after first second =
    append_cancel_right added more before.log
    (sym (ap (λ (t : TokenView). t.log) first) ∙ ap (λ (t : TokenView). t.log) second)

pub with_hand : (added : Log) (hand : Hand) (before after : TokenView) → after ≡ grown added hand before
    → after ≡ grown added after.hand before
with_hand added hand before after grew =
    let same : after.hand ≡ hand = ap (λ (t : TokenView). t.hand) grew in
    subst (λ (h : Hand). after ≡ grown added h before) (sym same) grew

-- Looks at posts

pub asks_are_steps : (values : List ℕ) → AreBlockSteps (log_after_asks values [])
asks_are_steps [] = tt
asks_are_steps (seen ∷ before) = (AnAsk (length before) seen None, asks_are_steps before)

pub asks_send_none : (values : List ℕ) → kept_now sent_by 0 (log_after_asks values []) ≡ []
asks_send_none [] = refl
asks_send_none (seen ∷ before) = rw (asks_send_none before) refl

pub asks_push_none : (ring : RingId) (values : List ℕ) → pushed_in ring (log_after_asks values []) ≡ []
asks_push_none ring [] = refl
asks_push_none ring (seen ∷ before) = append-nil (pushed_in ring (log_after_asks before [])) ∙ asks_push_none ring before

-- what acts tell of no frame sent, and of these records
pub told_records : (added : Log) (records : List Record) (old new : Outcomes) → kept_now records_by 0 added ≡ records
    → kept_now sent_by 0 added ≡ [] → new.records ≡ old.records ++ records → new.sent ≡ old.sent → Told added old new
told_records added records old new tells none kept same =
    record {
      records = kept ∙ ap (λ xs. old.records ++ xs) (sym tells);
      sent = same ∙ sym (append-nil old.sent) ∙ ap (λ xs. old.sent ++ xs) (sym none);
    }

-- Looks at words of the part

zeros_are_steps : (port n : ℕ) → AreBlockSteps (zero_looks port n)
zeros_are_steps port zero = tt
zeros_are_steps port (suc n) = (ASeek (record { 0 = port }) n 0 None, zeros_are_steps port n)

zeros_record_none : (port n : ℕ) → kept_now records_by 0 (zero_looks port n) ≡ []
zeros_record_none port zero = refl
zeros_record_none port (suc n) = rw (zeros_record_none port n) refl

zeros_send_none : (port n : ℕ) → kept_now sent_by 0 (zero_looks port n) ≡ []
zeros_send_none port zero = refl
zeros_send_none port (suc n) = rw (zeros_send_none port n) refl

module _ (setting : Setting) (port done : ℕ) (e : Entry) (next : entry_after setting port done ≡ Some e) where
  in_block : (phase : ReceivePhase) (act : Act) → done_count phase ≡ done → MayReceiveFor setting port e phase act
      → MayReceiveIn setting port phase act
  in_block phase act at may =
      inr (e, subst (λ (n : ℕ). entry_after setting port n ≡ Some e) (sym at) next, may)

  zeros_stand : (n : ℕ) → receive_phase_from setting (Seeks done 0) (zero_looks port n) ≡ Seeks done n
  zeros_stand zero = refl
  zeros_stand (suc n) =
      ap (λ (p : ReceivePhase). receive_after setting p (Look (part_word port n) 0 None)) (zeros_stand n)
      ∙ zero_after setting port done e n

  zeros_follow : (n : ℕ) → ((k : ℕ) → k < n → 64 * (k + 1) < setting.layout.buffers)
      → ReceivesFrom setting port (Seeks done 0) (zero_looks port n)
  zeros_follow zero more = tt
  zeros_follow (suc n) more = (
    subst (λ (p : ReceivePhase). MayReceiveIn setting port p (Look (part_word port n) 0 None)) (sym (zeros_stand n))
        (in_block (Seeks done n) (Look (part_word port n) 0 None) refl
        (zero_may setting port done e n (more n (omega arith)))),
    zeros_follow n (λ k less. more k (omega (arith, less))),
  )

abbrev index_of : Word → ℕ
index_of (Pool port index) = index
index_of word = 0

index_within : (layout : Layout) (port index seen buf : ℕ) → 0 < layout.buffers
    → IsLowest layout port index seen buf → 64 * index < layout.buffers
index_within layout port index seen buf some lowest =
    let at : buf % layout.buffers / 64 ≡ index = ap index_of lowest.word in
    let inside : buf % layout.buffers < layout.buffers = mod-lt buf some in omega (arith, at, inside)

some_seen : (layout : Layout) (port index seen buf : ℕ) → IsLowest layout port index seen buf → seen ≢ 0
some_seen layout port index seen buf lowest zero_seen =
    let set : IsBitSet 0 (bit_of layout buf) =
    subst (λ n. IsBitSet n (bit_of layout buf)) zero_seen lowest.shown in
    absurd (omega (arith, bit_of_set 0 (bit_of layout buf) set, bit_at-zero (bit_of layout buf)))

before_last : (layout : Layout) (k : ℕ) → k < last_index layout → 64 * (k + 1) < layout.buffers
before_last layout k less = omega (arith, less)

-- a buffer was taken
module _ (setting : Setting) (port done : ℕ) (e : Entry) (next : entry_after setting port done ≡ Some e)
    (index seen : ℕ) (buf : BufId) (some : 0 < setting.layout.buffers)
    (lowest : IsLowest setting.layout port index seen buf.0) where
  shown : seen ≢ 0
  shown = some_seen setting.layout port index seen buf.0 lowest

  sees : receive_phase_from setting (Seeks done 0) (looks_to port index seen) ≡ Sees done index seen
  sees =
      ap (λ (p : ReceivePhase). receive_after setting p (Look (part_word port index) seen None))
      (zeros_stand setting port done e next index)
      ∙ seen_after setting port done e index seen shown

  pub taken_stands : receive_phase_from setting (Seeks done 0) (Take buf ∷ looks_to port index seen) ≡ Took done buf.0
  taken_stands = ap (λ (p : ReceivePhase). receive_after setting p (Take buf)) sees

  pub taken_follows : ReceivesFrom setting port (Seeks done 0) (Take buf ∷ looks_to port index seen)
  taken_follows =
      let within = index_within setting.layout port index seen buf.0 some lowest in (
        subst (λ (p : ReceivePhase). MayReceiveIn setting port p (Take buf)) (sym sees)
            (in_block setting port done e next (Sees done index seen) (Take buf) refl lowest),
        (
          subst (λ (p : ReceivePhase). MayReceiveIn setting port p (Look (part_word port index) seen None))
              (sym (zeros_stand setting port done e next index))
              (in_block setting port done e next (Seeks done index) (Look (part_word port index) seen None) refl
              (seen_may setting port done e index seen shown)),
          zeros_follow setting port done e next index (λ k less. omega (arith, within, less)),
        ),
      )

pub taken_steps : (port index seen : ℕ) (buf : BufId) → AreBlockSteps (Take buf ∷ looks_to port index seen)
taken_steps port index seen buf = (ATake buf, (ASeek (record { 0 = port }) index seen None, zeros_are_steps port index))

pub taken_records_none : (port index seen : ℕ) (buf : BufId) → kept_now records_by 0 (Take buf ∷ looks_to port index seen) ≡ []
taken_records_none port index seen buf = rw (zeros_record_none port index) refl

pub taken_sends_none : (port index seen : ℕ) (buf : BufId) → kept_now sent_by 0 (Take buf ∷ looks_to port index seen) ≡ []
taken_sends_none port index seen buf = rw (zeros_send_none port index) refl

pub taken_pushes_none : (ring : RingId) (port index seen : ℕ) (buf : BufId)
    → pushed_in ring (Take buf ∷ looks_to port index seen) ≡ []
taken_pushes_none ring port index seen buf = rw (zeros_push ring port index) refl

-- none was found
module _ (setting : Setting) (port done : ℕ) (e : Entry) (next : entry_after setting port done ≡ Some e)
    (some : 0 < setting.layout.buffers) where
  abbrev last_act : Act
  last_act = last_look setting.layout port e.frame

  abbrev none_added : Log
  none_added = last_act ∷ zero_looks port (last_index setting.layout)

  pub none_stands : receive_phase_from setting (Seeks done 0) none_added ≡ Between (done + 1)
  none_stands =
      ap (λ (p : ReceivePhase). receive_after setting p last_act)
      (zeros_stand setting port done e next (last_index setting.layout))

  pub none_follows : ReceivesFrom setting port (Seeks done 0) none_added
  none_follows = (
    subst (λ (p : ReceivePhase). MayReceiveIn setting port p last_act)
        (sym (zeros_stand setting port done e next (last_index setting.layout)))
        (in_block setting port done e next (Seeks done (last_index setting.layout)) last_act refl
        (none_may setting port done e setting.layout refl some)),
    zeros_follow setting port done e next (last_index setting.layout)
        (λ k less. before_last setting.layout k less),
  )

pub none_steps : (port : ℕ) (layout : Layout) (frame : FrameId)
    → AreBlockSteps (last_look layout port frame ∷ zero_looks port (last_index layout))
none_steps port layout frame = (
  ASeek (record { 0 = port }) (last_index layout) 0 (Some (record { frame = frame; outcome = PoolEmpty })),
  zeros_are_steps port (last_index layout),
)

pub none_records : (port : ℕ) (layout : Layout) (frame : FrameId)
    → kept_now records_by 0 (last_look layout port frame ∷ zero_looks port (last_index layout))
    ≡ record { frame = frame; outcome = PoolEmpty } ∷ []
none_records port layout frame = rw (zeros_record_none port (last_index layout)) refl

pub none_sends_none : (port : ℕ) (layout : Layout) (frame : FrameId)
    → kept_now sent_by 0 (last_look layout port frame ∷ zero_looks port (last_index layout)) ≡ []
none_sends_none port layout frame = rw (zeros_send_none port (last_index layout)) refl

pub none_pushes_none : (ring : RingId) (port : ℕ) (layout : Layout) (frame : FrameId)
    → pushed_in ring (last_look layout port frame ∷ zero_looks port (last_index layout)) ≡ []
none_pushes_none ring port layout frame = rw (zeros_push ring port (last_index layout)) refl
