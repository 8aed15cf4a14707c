-- What a pass leaves of its role, and how many frames it has received.
use Rattle.std.proofs.Common.{◌≡◌, ◌≢◌, ◌∙◌, sym, ap, subst, refl, ◌⊎◌, inl, inr, ℕ, ◌+◌, ◌-◌, ◌<◌, ◌≤◌, Bool, true, false, List, [], ◌∷◌, ◌++◌, length, Option, Some, None, arith, append-nil, length-append}
use Rattle.std.specs.Prelude.{min, ◌==◌, if◌then◌else◌}
use Rattle.std.proofs.lemmas.Bool.{eq-eqb}
use Rattle.onvm_base.specs.declared.frame.Frame.{Frame}
use Rattle.onvm_base.specs.declared.ids.PortId.{PortId}
use Rattle.onvm_base.specs.declared.plan.Plan.{Plan}
use Rattle.onvm_core.specs.declared.entry.Entry.{Entry}
use Rattle.onvm_core.specs.declared.layout.Layout.{Layout}
use Rattle.onvm_core.specs.Logs.{Log, Setting, entries_of_port}
use Rattle.onvm_core.specs.Receiving.{receive_phase}
use Rattle.onvm_core.specs.Receiving.ReceivePhase.{Between}
use Rattle.onvm_core.proofs.Lists.{if_met}
use Rattle.onvm_board.specs.Tokens.{BoardView, TokenView}
use Rattle.onvm_promises.specs.Entries.{entries_from, entry_of}
use Rattle.onvm_promises.specs.Kept.{FeederKeeps}
use Rattle.onvm_promises.specs.Roles.{Fits, IsReceiverSoFar}
use Rattle.onvm_promises.specs.Times.{aged_by}
use Rattle.entry_throttle.specs.Feeders.{FeederView}
use Rattle.entry_throttle.specs.Moments.{KeepsMoments}
use Rattle.entry_throttle.specs.Throttles.{AreMarksOf}
use Rattle.flow_table.specs.Flows.{table_of}
use Rattle.rx_feed.specs.Feeds.{IsPulledOf}
use Rattle.rx_feed.specs.Standing.{HasStopped, Standing}
use Rattle.rx_pass.specs.declared.role.RxRole.{RxRole}
use Rattle.rx_pass.specs.Roles.{IsFeederBy, IsInOrder, IsRxRole, done_of, keeps_of, waiting_of}
use Rattle.rx_pass.specs.Turns.{IsInletOf}
use Rattle.rx_pass.proofs.Promising.{Knowing}
use Rattle.rx_pass.proofs.Queues.{entries_long}

-- What a role knows

pub of_order : {I : Type 0} (setting : Setting) (port : ℕ) (moment : ℕ → ℕ) (log : Log) (rx : RxRole I)
    → IsInOrder setting port moment log rx → Knowing setting port moment log (keeps_of rx) rx.inlet.feeder (done_of rx)
of_order setting port moment log rx is =
    record { so_far = is.so_far; phase = is.done; marks = is.marks; moments = is.moments }

pub to_order : {I : Type 0} (setting : Setting) (port : ℕ) (moment : ℕ → ℕ) (log : Log) (rx : RxRole I)
    → Knowing setting port moment log (keeps_of rx) rx.inlet.feeder (done_of rx) → IsInOrder setting port moment log rx
to_order setting port moment log rx is =
    record { so_far = is.so_far; done = is.phase; marks = is.marks; moments = is.moments }

pub knows_same : (setting : Setting) (port : ℕ) (moment : ℕ → ℕ) (log : Log) (keeps keeps' : FeederKeeps)
    (feeder feeder' : FeederView) (done done' : ℕ) → keeps' ≡ keeps → feeder' ≡ record feeder { room = feeder'.room }
    → done' ≡ done → Knowing setting port moment log keeps feeder done → Knowing setting port moment log keeps' feeder' done'
knows_same setting port moment log keeps keeps' feeder feeder' done done' same room count is =
    let Far : FeederKeeps → Type 0 = λ k. IsReceiverSoFar setting port moment log k in
    let Phase : ℕ → Type 0 = λ n. receive_phase setting log ≡ Between n in
    let Marks : FeederView → Type 0 = λ f.
    AreMarksOf setting port (aged_by setting port moment log) f.marks (length f.posts) log in
    let Moments : FeederView → Type 0 = λ f. KeepsMoments moment f log in
    record {
      so_far = subst Far (sym same) is.so_far;
      phase = subst Phase (sym count) is.phase;
      marks = subst Marks (sym room) is.marks;
      moments = subst Moments (sym room) is.moments;
    }

-- Runs that fit

own_entries : (plan : Plan) (port done : ℕ) (frames : List Frame)
    → entries_of_port port (entries_from plan (record { 0 = port }) done frames)
    ≡ entries_from plan (record { 0 = port }) done frames
own_entries plan port done [] = refl
own_entries plan port done (f ∷ fs) =
    let e : Entry = entry_of plan (record { 0 = port }) (done + 1) f in
    let es : List Entry = entries_from plan (record { 0 = port }) (done + 1) fs in
    if_met (port == port) (e ∷ entries_of_port port es) (entries_of_port port es) (eq-eqb port port refl)
    ∙ ap (λ (xs : List Entry). e ∷ xs) (own_entries plan port (done + 1) fs)

-- a run of just the frames pulled
abbrev pub own_run : Layout → Plan → (port : ℕ) → List Frame → Setting
own_run layout plan port pulled =
    record { layout = layout; plan = plan; entries = entries_from plan (record { 0 = port }) 0 pulled }

pub own_run_fits : (layout : Layout) (plan : Plan) (port : ℕ) (pulled : List Frame) (ended : Bool)
    → Fits layout plan port (entries_from plan (record { 0 = port }) 0 pulled) ended (own_run layout plan port pulled)
own_run_fits layout plan port pulled ended =
    let es : List Entry = entries_from plan (record { 0 = port }) 0 pulled in
    record {
      layout_is = refl;
      plan_is = refl;
      front = ([], append-nil es ∙ sym (own_entries plan port 0 pulled));
      all = λ _. own_entries plan port 0 pulled;
    }

-- Counts

pub ends_by : (s : Standing) → HasStopped s → s.fault ≡ None → s.ended ≡ true
ends_by s (inl ended) sound = ended
ends_by s (inr some) sound = absurd (some sound)

module _ (layout : Layout) (plan : Plan) (port waits burst : ℕ) (pulled : List Frame) (ended : Bool) (setting : Setting)
    (fits : Fits layout plan port (entries_from plan (record { 0 = port }) 0 pulled) ended setting)
    (some : waits ≤ length pulled) (few : waits ≤ burst) where
  pub all_known : ended ≡ true → length pulled ≡ length (entries_of_port port setting.entries)
  all_known end = sym (ap (length {A = Entry}) (fits.all end) ∙ entries_long plan (record { 0 = port }) pulled)

  pub count_is : (waits ≡ burst) ⊎ (ended ≡ true)
      → length pulled ≡ min (length pulled - waits + burst) (length (entries_of_port port setting.entries))
  count_is (inl full) =
      omega (
        arith,
        some,
        full,
        ap (length {A = Entry}) fits.front.1,
        length-append (entries_from plan (record { 0 = port }) 0 pulled) fits.front.0,
        entries_long plan (record { 0 = port }) pulled,
      )
  count_is (inr end) = omega (arith, few, all_known end)

-- The role

pub role_after : {I : Type 0} (site : BoardView) (plan : Plan) (a b : TokenView) (old ready new : RxRole I)
    (marked : FeederView) → IsRxRole site plan a old
    → ready.inlet.feeder ≡ record old.inlet.feeder { room = ready.inlet.feeder.room } → ready.flows ≡ old.flows
    → IsPulledOf ready.intake.feed ready.intake.standing
    → marked ≡ record ready.inlet.feeder { marks = marked.marks; posts = marked.posts; room = marked.room }
    → new.inlet.feeder ≡ record marked { spots = new.inlet.feeder.spots; ages = new.inlet.feeder.ages }
    → new.intake ≡ ready.intake → new.flows ≡ ready.flows → waiting_of new ≡ [] → IsInletOf site new.inlet b → b.hand ≡ []
    → b.role ≡ a.role → IsRxRole site plan b new
role_after {I} site plan a b old ready new marked is room flows frames same noted intake flows' empty inlet hand role =
    let By : FeederView → Type 0 = λ f. IsFeederBy plan f in
    let Below : ℕ → Type 0 = λ r. r < site.layout.ports in
    let Table : ℕ → Type 0 = λ r. new.flows ≡ table_of plan (record { 0 = r }) in
    let ready_by : IsFeederBy plan ready.inlet.feeder =
    subst By (sym room) (record { high = is.marks.high; low = is.marks.low; age = is.marks.age }) in
    let marked_by : IsFeederBy plan marked =
    subst By (sym same) (record { high = ready_by.high; low = ready_by.low; age = ready_by.age }) in
    record {
      layout_of = is.layout_of;
      receives = subst Below (sym role) is.receives;
      inlet = inlet;
      marks = subst By (sym noted) (record { high = marked_by.high; low = marked_by.low; age = marked_by.age });
      empty_handed = hand;
      flows = subst Table (sym role) (flows' ∙ flows ∙ is.flows);
      queue = (
        new.intake.standing.pulled,
        sym (append-nil new.intake.standing.pulled) ∙ ap (λ t. new.intake.standing.pulled ++ t) (sym empty),
      );
      few = omega (arith, ap (length {A = Frame}) empty);
      frames = subst (λ i. IsPulledOf i.feed i.standing) (sym intake) frames;
    }
