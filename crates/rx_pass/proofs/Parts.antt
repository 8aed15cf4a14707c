-- The parts of a block: the posts are asked, a buffer is sought, and the frame enters.
use Rattle.std.proofs.Common.{◌≡◌, ℕ, suc, ◌+◌, ◌<◌, ◌≤◌, Bool, true, false, inr, List, [], ◌∷◌, ◌++◌, length, sym, ap, ◌∙◌, subst, refl, arith, append-nil, Option, Some, None}
use Rattle.onvm_base.specs.declared.frame.SentFrame.{SentFrame}
use Rattle.onvm_base.specs.declared.ids.BufId.{BufId}
use Rattle.onvm_base.specs.declared.ids.FnId.{FnId}
use Rattle.onvm_base.specs.declared.ids.RingId.{RingId}
use Rattle.onvm_base.specs.declared.ids.RingId.TheVariants.{Lane}
use Rattle.onvm_base.specs.declared.moves.Move.TheVariants.{To, Leave}
use Rattle.onvm_base.specs.declared.outcome.Outcome.TheVariants.{PoolEmpty, RingFull, Sent}
use Rattle.onvm_base.specs.declared.outcome.Record.{Record}
use Rattle.onvm_base.specs.declared.plan.Plan.{Plan}
use Rattle.onvm_base.specs.Moves.{IsOfChain, enter}
use Rattle.onvm_core.specs.declared.entry.Entry.{Entry}
use Rattle.onvm_core.specs.declared.layout.Layout.{Layout}
use Rattle.onvm_core.specs.declared.layout.Word.TheVariants.{Post}
use Rattle.onvm_core.specs.declared.parcel.Parcel.{Parcel}
use Rattle.onvm_core.specs.declared.step.Act.TheVariants.{Full, Give, Look, Push, Take}
use Rattle.onvm_core.specs.declared.step.Item.TheVariants.{Buffer}
use Rattle.onvm_core.specs.Layouts.{feeder_count}
use Rattle.onvm_core.specs.Logs.{Log, Setting, entry_after, entry_parcel}
use Rattle.onvm_core.specs.Potential.{pushed_in}
use Rattle.onvm_core.specs.Receiving.{EntersBy, IsLowest, ReceivePhase}
use Rattle.onvm_core.specs.Receiving.ReceivePhase.{Between, Seeks, Took}
use Rattle.onvm_board.specs.Tokens.{BoardView, TokenView, grown}
use Rattle.onvm_promises.specs.Acts.{AreBlockSteps}
use Rattle.onvm_promises.specs.Acts.IsBlockStep.{AnAsk, ASeek, APush, AFull, AGive}
use Rattle.onvm_promises.specs.Follows.{ReceivesFrom, receive_phase_from}
use Rattle.onvm_promises.specs.Kept.{Outcomes, Told, kept_now, records_by, sent_by}
use Rattle.nf_registry.specs.Masks.{IsMask}
use Rattle.entry_throttle.specs.Admissions.{FoundNone, IsHeldBack, IsMaskOf, held_record, log_after_asks}
use Rattle.entry_throttle.specs.Feeders.{FeederView}
use Rattle.entry_throttle.specs.Looks.{lane}
use Rattle.entry_throttle.proofs.Blocks.{admitted, grown_by_asks, held}
use Rattle.mbuf_pool.specs.Parts.{FindsNone, TakesLowest, last_index, last_look, looks_to, zero_looks}
use Rattle.rx_pass.specs.declared.inlet.Inlet.{Inlet}
use Rattle.rx_pass.specs.Keeping.{outcomes_of}
use Rattle.rx_pass.specs.Noting.{HasNoted}
use Rattle.rx_pass.specs.Turns.{IsTurn, went_on}
use Rattle.rx_pass.proofs.Noted.{noted_none}
use Rattle.rx_pass.proofs.Turning.{asks_are_steps, asks_push_none, asks_send_none, none_follows, none_pushes_none, none_records, none_sends_none, none_stands, none_steps, same_added, taken_follows, taken_pushes_none, taken_records_none, taken_sends_none, taken_stands, taken_steps, told_records, with_hand}

-- a feeder that took note of nothing
noted_same : (now : ℕ) (added before : Log) (old new : FeederView) → ((f : ℕ) → pushed_in (lane f old.number) added ≡ [])
    → new ≡ old → HasNoted now added before old new
noted_same now added before old new none same =
    subst (λ (f : FeederView). HasNoted now added before old f) (sym same) (noted_none now added before old none)

pub mask_of : (setting : Setting) (plan : Plan) (e : Entry) (mask : ℕ) → setting.plan ≡ plan → IsMask plan e.chain mask
    → IsMaskOf setting e mask
mask_of setting plan e mask same is =
    record {
      has = λ f of. is.all f (subst (λ (p : Plan). IsOfChain p e.chain f) same of);
      only = λ f bit. subst (λ (p : Plan). IsOfChain p e.chain f) (sym same) (is.only f bit);
    }

-- Posts

pub go_turn : (setting : Setting) (port now done mask : ℕ) (e : Entry) (before after : TokenView) (inlet : Inlet)
    → entry_after setting port done ≡ Some e → IsMaskOf setting e mask → 0 < feeder_count setting.layout
    → FoundNone (feeder_count setting.layout) mask before after
    → IsTurn setting port now (Between done) (Seeks done 0) before after inlet inlet
go_turn setting port now done mask e before after inlet next of some found =
    let is = admitted setting port done e mask before after next of some found in
    let asks : Log = log_after_asks found.values [] in
    let grew : after ≡ grown asks before.hand before = found.grew ∙ grown_by_asks found.values before in
    let same : is.added ≡ asks = same_added is.added asks before.hand before.hand before after is.grew grew in
    let Told_ : Log → Type 0 = λ l. kept_now records_by 0 l ≡ [] in
    let Follow : Log → Type 0 = λ l. ReceivesFrom setting port (Between done) l in
    let Stand : Log → Type 0 = λ l. receive_phase_from setting (Between done) l ≡ Seeks done 0 in
    record {
      added = asks;
      grew = with_hand asks before.hand before after grew;
      told = told_records asks [] (outcomes_of inlet.kept) (outcomes_of inlet.kept) (subst Told_ same is.recorded)
          (asks_send_none found.values) (sym (append-nil inlet.kept.records.items)) refl;
      noted = noted_none now asks before.log inlet.feeder (λ f. asks_push_none (lane f inlet.feeder.number) found.values);
      steps = asks_are_steps found.values;
      follows = subst Follow same is.follows;
      stands = subst Stand same is.stands;
    }

pub held_turn : (setting : Setting) (port now done mask feeder post f : ℕ) (e : Entry) (before after : TokenView)
    (old new : Inlet) → entry_after setting port done ≡ Some e → IsMaskOf setting e mask
    → feeder < feeder_count setting.layout → IsHeldBack e.frame mask feeder post f before after
    → new.kept.records.items ≡ old.kept.records.items ++ held_record e.frame feeder post f ∷ []
    → new.kept.sent.items ≡ old.kept.sent.items → new.feeder ≡ old.feeder
    → IsTurn setting port now (Between done) (Between (done + 1)) before after old new
held_turn setting port now done mask feeder post f e before after old new next of below back kept sent fed =
    let is = held setting port done e mask feeder post f before after next of below back in
    let told : Record = held_record e.frame feeder post f in
    let asks : Log = Look (Post feeder) back.seen (Some told) ∷ log_after_asks back.values [] in
    let grew : after ≡ grown asks before.hand before =
    back.grew
    ∙ ap (λ (t : TokenView). record t { log = Look (Post feeder) back.seen (Some told) ∷ t.log })
    (grown_by_asks back.values before) in
    let same : is.added ≡ asks = same_added is.added asks before.hand before.hand before after is.grew grew in
    let Told_ : Log → Type 0 = λ l. kept_now records_by 0 l ≡ told ∷ [] in
    let Follow : Log → Type 0 = λ l. ReceivesFrom setting port (Between done) l in
    let Stand : Log → Type 0 = λ l. receive_phase_from setting (Between done) l ≡ Between (done + 1) in
    record {
      added = asks;
      grew = with_hand asks before.hand before after grew;
      told = told_records asks (told ∷ []) (outcomes_of old.kept) (outcomes_of new.kept) (subst Told_ same is.recorded)
          (ap (λ (xs : List SentFrame). xs ++ []) (asks_send_none back.values)) kept sent;
      noted = noted_same now asks before.log old.feeder new.feeder
          (λ g. append-nil (pushed_in (lane g old.feeder.number) (log_after_asks back.values []))
          ∙ asks_push_none (lane g old.feeder.number) back.values) fed;
      steps = (AnAsk feeder back.seen (Some told), asks_are_steps back.values);
      follows = subst Follow same is.follows;
      stands = subst Stand same is.stands;
    }

-- Buffers

pub taken_turn : (setting : Setting) (site : BoardView) (port now done : ℕ) (e : Entry) (buf : BufId)
    (before after : TokenView) (inlet : Inlet) → setting.layout ≡ site.layout → 0 < site.layout.buffers
    → entry_after setting port done ≡ Some e → TakesLowest site port buf before after
    → IsTurn setting port now (Seeks done 0) (Took done buf.0) before after inlet inlet
taken_turn setting site port now done e buf before after inlet same some next takes =
    let index : ℕ = takes.index in
    let seen : ℕ = takes.seen in
    let added : Log = Take buf ∷ looks_to port index seen in
    let lowest : IsLowest setting.layout port index seen buf.0 =
    subst (λ (l : Layout). IsLowest l port index seen buf.0) (sym same) takes.lowest in
    let some_ : 0 < setting.layout.buffers = subst (λ (l : Layout). 0 < l.buffers) (sym same) some in
    record {
      added = added;
      grew = with_hand added ((buf.0, None) ∷ []) before after takes.grew;
      told = told_records added [] (outcomes_of inlet.kept) (outcomes_of inlet.kept)
          (taken_records_none port index seen buf) (taken_sends_none port index seen buf)
          (sym (append-nil inlet.kept.records.items)) refl;
      noted = noted_none now added before.log inlet.feeder
          (λ f. taken_pushes_none (lane f inlet.feeder.number) port index seen buf);
      steps = taken_steps port index seen buf;
      follows = taken_follows setting port done e next index seen buf some_ lowest;
      stands = taken_stands setting port done e next index seen buf some_ lowest;
    }

pub none_turn : (setting : Setting) (site : BoardView) (port now done : ℕ) (e : Entry) (before after : TokenView)
    (old new : Inlet) → setting.layout ≡ site.layout → 0 < site.layout.buffers
    → entry_after setting port done ≡ Some e → FindsNone site port e.frame before after
    → new.kept.records.items ≡ old.kept.records.items ++ record { frame = e.frame; outcome = PoolEmpty } ∷ []
    → new.kept.sent.items ≡ old.kept.sent.items → new.feeder ≡ old.feeder
    → IsTurn setting port now (Seeks done 0) (Between (done + 1)) before after old new
none_turn setting site port now done e before after old new same some next finds kept sent fed =
    let layout : Layout = setting.layout in
    let added : Log = last_look layout port e.frame ∷ zero_looks port (last_index layout) in
    let some_ : 0 < setting.layout.buffers = subst (λ (l : Layout). 0 < l.buffers) (sym same) some in
    let grew : after ≡ grown added [] before =
    subst (λ (l : Layout). after ≡ grown (last_look l port e.frame ∷ zero_looks port (last_index l)) [] before)
    (sym same) finds.grew in
    record {
      added = added;
      grew = with_hand added [] before after grew;
      told = told_records added (record { frame = e.frame; outcome = PoolEmpty } ∷ []) (outcomes_of old.kept)
          (outcomes_of new.kept) (none_records port layout e.frame) (none_sends_none port layout e.frame) kept sent;
      noted = noted_same now added before.log old.feeder new.feeder
          (λ f. none_pushes_none (lane f old.feeder.number) port layout e.frame) fed;
      steps = none_steps port layout e.frame;
      follows = none_follows setting port done e next some_;
      stands = none_stands setting port done e next some_;
    }

-- Entering

enters_by : (setting : Setting) (plan : Plan) (port : ℕ) (e : Entry) (f : FnId) (cursor : ℕ) → setting.plan ≡ plan
    → enter plan e.chain e.hash ≡ To f cursor → EntersBy setting port e (Lane f port)
enters_by setting plan port e f cursor same is =
    record {
      function = f;
      cursor = cursor;
      move = subst (λ (p : Plan). enter p e.chain e.hash ≡ To f cursor) (sym same) is;
      lane = refl;
    }

went_follows : (setting : Setting) (port done : ℕ) (e : Entry) (buf : BufId) (f : FnId) (went : Bool)
    → entry_after setting port done ≡ Some e → EntersBy setting port e (Lane f port)
    → ReceivesFrom setting port (Took done buf.0) (went_on (Lane f port) buf (entry_parcel e) went)
went_follows setting port done e buf f true next by = (inr (e, next, (refl, refl, by)), tt)
went_follows setting port done e buf f false next by =
    (inr (e, next, (refl, refl, refl)), (inr (e, next, by), tt))

went_stands : (setting : Setting) (port done : ℕ) (parcel : Parcel) (buf : BufId) (f : FnId) (went : Bool)
    → receive_phase_from setting (Took done buf.0) (went_on (Lane f port) buf parcel went) ≡ Between (done + 1)
went_stands setting port done parcel buf f true = refl
went_stands setting port done parcel buf f false = refl

went_steps : (f : FnId) (port : ℕ) (buf : BufId) (parcel : Parcel) (went : Bool)
    → AreBlockSteps (went_on (Lane f port) buf parcel went)
went_steps f port buf parcel true = (APush f port (Buffer buf parcel), tt)
went_steps f port buf parcel false = (AGive buf (RingFull (Lane f port)) parcel, (AFull f port, tt))

pub went_turn : (setting : Setting) (plan : Plan) (port now done : ℕ) (e : Entry) (buf : BufId) (f : FnId) (cursor : ℕ)
    (went : Bool) (before after : TokenView) (old new : Inlet) → setting.plan ≡ plan
    → entry_after setting port done ≡ Some e → enter plan e.chain e.hash ≡ To f cursor
    → after ≡ grown (went_on (Lane f port) buf (entry_parcel e) went) [] before
    → Told (went_on (Lane f port) buf (entry_parcel e) went) (outcomes_of old.kept) (outcomes_of new.kept)
    → HasNoted now (went_on (Lane f port) buf (entry_parcel e) went) before.log old.feeder new.feeder
    → IsTurn setting port now (Took done buf.0) (Between (done + 1)) before after old new
went_turn setting plan port now done e buf f cursor went before after old new same next move grew told noted =
    record {
      added = went_on (Lane f port) buf (entry_parcel e) went;
      grew = with_hand (went_on (Lane f port) buf (entry_parcel e) went) [] before after grew;
      told = told;
      noted = noted;
      steps = went_steps f port buf (entry_parcel e) went;
      follows = went_follows setting port done e buf f went next (enters_by setting plan port e f cursor same move);
      stands = went_stands setting port done (entry_parcel e) buf f went;
    }

pub left_turn : (setting : Setting) (plan : Plan) (port now done : ℕ) (e : Entry) (buf : BufId) (q : ℕ)
    (before after : TokenView) (old new : Inlet) → setting.plan ≡ plan
    → entry_after setting port done ≡ Some e → enter plan e.chain e.hash ≡ Leave q
    → after ≡ grown (Give buf (Sent q) (entry_parcel e) ∷ []) [] before
    → Told (Give buf (Sent q) (entry_parcel e) ∷ []) (outcomes_of old.kept) (outcomes_of new.kept)
    → new.feeder ≡ old.feeder
    → IsTurn setting port now (Took done buf.0) (Between (done + 1)) before after old new
left_turn setting plan port now done e buf q before after old new same next move grew told fed =
    record {
      added = Give buf (Sent q) (entry_parcel e) ∷ [];
      grew = with_hand (Give buf (Sent q) (entry_parcel e) ∷ []) [] before after grew;
      told = told;
      noted = noted_same now (Give buf (Sent q) (entry_parcel e) ∷ []) before.log old.feeder new.feeder (λ f. refl) fed;
      steps = (AGive buf (Sent q) (entry_parcel e), tt);
      follows = (
        inr (
          e,
          next,
          (refl, refl, subst (λ (p : Plan). enter p e.chain e.hash ≡ Leave q) (sym same) move),
        ),
        tt,
      );
      stands = refl;
    }
