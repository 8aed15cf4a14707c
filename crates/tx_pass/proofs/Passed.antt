-- A marks pass, and then drained rings.
use Rattle.std.proofs.Common.{◌≡◌, ℕ, ◌<◌, ◌≤◌, List, ◌++◌, length, sym, ap, ◌∙◌, subst, refl, arith, append_assoc, length-append}
use Rattle.onvm_base.specs.declared.ids.FnId.{FnId}
use Rattle.onvm_base.specs.declared.ids.RingId.TheVariants.{Output}
use Rattle.onvm_base.specs.declared.plan.Plan.{Plan}
use Rattle.onvm_core.specs.declared.entry.Entry.{Entry}
use Rattle.onvm_core.specs.Blocks.{kind_of}
use Rattle.onvm_core.specs.Blocks.RoleKind.{Sends}
use Rattle.onvm_core.specs.Logs.{Log, Setting}
use Rattle.onvm_core.specs.Marks.{Ages}
use Rattle.onvm_core.specs.Places.{how_many}
use Rattle.onvm_core.specs.Sending.{Reads}
use Rattle.onvm_core.specs.Sending.SendPhase.{Free}
use Rattle.onvm_board.specs.Tokens.{BoardView, TokenView}
use Rattle.onvm_promises.specs.declared.pass.Pass.{Pass}
use Rattle.onvm_promises.specs.declared.pass.Pass.TheVariants.{Did, Idle, Wanting}
use Rattle.onvm_promises.specs.Answers.{IsIdleSender, Tells, is_moved}
use Rattle.onvm_promises.specs.Follows.{SendsFrom}
use Rattle.onvm_promises.specs.Kept.{FeederKeeps, Outcomes, kept_now, moment_then, posts_by, records_by, sent_by}
use Rattle.onvm_promises.specs.Passes.{IsDrained, IsMarksPass}
use Rattle.onvm_promises.specs.Roles.{IsSendPromise, setting_of}
use Rattle.onvm_promises.specs.Times.{aged_by}
use Rattle.onvm_promises.proofs.Keeping.{earlier_moment, later_moment}
use Rattle.onvm_promises.proofs.SendPromise.{keeps_more, send_promise}
use Rattle.onvm_promises.proofs.Settling.{aged_moves}
use Rattle.onvm_promises.proofs.Unmarked.{AreUnmarked, moves_unmarked}
use Rattle.entry_throttle.specs.Feeders.{FeederView, IsReady, MadeMarksPass}
use Rattle.entry_throttle.specs.Moments.{KeepsMoments}
use Rattle.entry_throttle.specs.Throttles.{AreMarksOf}
use Rattle.entry_throttle.proofs.MarksPasses.{moments_after_pass, pass_by_moments}
use Rattle.entry_throttle.proofs.OtherActs.{marks_grown}
use Rattle.tx_pass.specs.declared.outlet.Outlet.{Outlet}
use Rattle.tx_pass.specs.declared.role.TxRole.{TxRole}
use Rattle.tx_pass.specs.Keeping.{outcomes_of}
use Rattle.tx_pass.specs.Passing.{AreDrained}
use Rattle.tx_pass.specs.Roles.{IsFeederBy, IsInOrder, IsTxRole, keeps_of}
use Rattle.tx_pass.proofs.Draining.{dry_where_idle}
use Rattle.tx_pass.proofs.Promising.{in_order_later, is_sending, moves_post_none}

-- the role had room for its feeder (`ready`), made a marks pass (`marked`), and drained its rings from there (`start`)
module _ (site : BoardView) (plan : Plan) (entries : List Entry) (now : ℕ) (moment : ℕ → ℕ) (old new : TxRole)
    (ready marked : FeederView) (start : Outlet) (a t b : TokenView) (count : ℕ)
    (is : IsTxRole site plan a old)
    (room : ready ≡ record old.outlet.feeder { room = ready.room })
    (passes : (setting : Setting) (aged : Ages) → IsReady setting aged site now ready a
    → MadeMarksPass setting aged now ready marked a t)
    (mine : t.role ≡ marked.number)
    (same : marked ≡ record ready { marks = marked.marks; posts = marked.posts; room = marked.room })
    (kept : outcomes_of start.kept ≡ outcomes_of old.outlet.kept)
    (fed : start.feeder ≡ marked)
    (drained : AreDrained site plan now site.layout.functions count t b start new.outlet)
    (known : IsInOrder (setting_of site.layout plan entries) a.role moment a.log old)
  where
    abbrev setting : Setting
    setting = setting_of site.layout plan entries

    abbrev n : ℕ
    n = ready.number

    abbrev then_ : ℕ → ℕ
    then_ = moment_then moment (length a.log) now

    abbrev moves : Log
    moves = drained.added

    number : a.role ≡ n
    number = is.outlet.feeder.role ∙ sym (ap (λ (f : FeederView). f.number) room)

    order : IsInOrder setting n moment a.log old
    order = subst (λ (r : ℕ). IsInOrder setting r moment a.log old) number known

    by : IsFeederBy plan ready
    by =
        subst (IsFeederBy plan) (sym room)
        (record { high = is.marks.high; low = is.marks.low; age = is.marks.age })

    old_later : IsInOrder setting n then_ a.log old
    old_later =
        in_order_later setting n moment then_ a.log
        (λ number less. earlier_moment moment (length a.log) now number less) old order

    keeps_before : KeepsMoments then_ ready a.log
    keeps_before = subst (λ (f : FeederView). KeepsMoments then_ f a.log) (sym room) old_later.moments

    passed : MadeMarksPass setting (aged_by setting n then_ t.log) now ready marked a t
    passed =
        pass_by_moments setting site now then_ ready marked a t
        (record { same = refl; high_is = sym by.high; low_is = sym by.low; age_is = sym by.age })
        (omega (arith, by.high, plan.kept.sizes_are.low, plan.kept.sizes_are.marks))
        (ap (λ (f : FeederView). length f.ages) room ∙ is.outlet.ages) old_later.so_far.rests.feeder
        (subst (λ (f : FeederView). AreMarksOf setting n (aged_by setting n then_ a.log) f.marks (length f.posts) a.log)
        (sym room) old_later.marks)
        keeps_before (λ number from less. later_moment moment (length a.log) now number from) (passes setting)

    -- What was added

    grown_by : b.log ≡ (moves ++ passed.made) ++ a.log
    grown_by =
        ap (λ (x : TokenView). x.log) drained.stretch.grew ∙ ap (λ l. moves ++ l) passed.grew
        ∙ sym (append_assoc moves passed.made a.log)

    there : t.role ≡ n
    there = mine ∙ ap (λ (f : FeederView). f.number) same

    drains : (f : FnId) → Reads setting n f → IsDrained (Output f) plan.burst moves
    drains f reads = drained.drained f reads.known (reads.consumes ∙ sym there)

    keeps : keeps_of new ≡ keeps_more now passed.made moves (keeps_of old)
    keeps =
        let told = drained.stretch.told in
        let records = told.records ∙ ap (λ (o : Outcomes). o.records ++ kept_now records_by 0 moves) kept in
        let sent = told.sent ∙ ap (λ (o : Outcomes). o.sent ++ kept_now sent_by 0 moves) kept in
        let posts : new.outlet.feeder.posts ≡ old.outlet.feeder.posts ++ kept_now posts_by now passed.made =
        ap (λ (f : FeederView). f.posts) drained.stretch.noted.same
        ∙ ap (λ (f : FeederView). f.posts) fed ∙ passed.posts
        ∙ ap (λ (f : FeederView). f.posts ++ kept_now posts_by now passed.made) room in
        λ i. record { outcomes = record { records = records i; sent = sent i }; posts = posts i }

    promised : (answer : Pass) → Tells answer (how_many is_moved moves) (IsIdleSender setting n moves) ⊥
        → IsSendPromise setting n now moment a.log b.log (keeps_of new) answer
    promised answer tells =
        subst (λ (l : Log). IsSendPromise setting n now moment a.log l (keeps_of new) answer) (sym grown_by)
        (subst (λ (k : FeederKeeps).
        IsSendPromise setting n now moment a.log ((moves ++ passed.made) ++ a.log) k answer) (sym keeps)
        (send_promise setting n now moment a.log passed.made moves (keeps_of old) answer
        (subst (λ (r : ℕ). kind_of site.layout r ≡ Sends) number (is_sending site.layout a.role is.transmit))
        (subst (λ (r : ℕ). site.layout.ports ≤ r) number is.transmit.from) order.so_far
        (subst (λ (l : Log). IsMarksPass setting n (aged_by setting n then_ l) a.log passed.made) passed.grew passed.pass)
        drained.steps
        (subst (λ (r : ℕ). SendsFrom setting r Free moves) there (drained.stretch.goes.follows entries))
        drained.stretch.goes.free drained.few drains tells))

    -- What it knows

    fed_by : new.outlet.feeder
        ≡ record marked { spots = new.outlet.feeder.spots; ages = new.outlet.feeder.ages }
    fed_by =
        drained.stretch.noted.same
        ∙ ap (λ (x : FeederView). record x { spots = new.outlet.feeder.spots; ages = new.outlet.feeder.ages }) fed

    marks_now : AreMarksOf setting n (aged_by setting n then_ b.log) new.outlet.feeder.marks
        (length new.outlet.feeder.posts) b.log
    marks_now =
        let un : AreUnmarked moves = moves_unmarked (λ f. f.0 < site.layout.functions) moves drained.steps in
        let none = moves_post_none (λ f. f.0 < site.layout.functions) n moves drained.steps in
        let grew = ap (λ (x : TokenView). x.log) drained.stretch.grew in
        subst (λ (f : FeederView). AreMarksOf setting n (aged_by setting n then_ b.log) f.marks (length f.posts) b.log)
        (sym fed_by)
        (subst (λ (l : Log). AreMarksOf setting n (aged_by setting n then_ l) marked.marks (length marked.posts) l)
        (sym grew)
        (subst (λ (ages : Ages). AreMarksOf setting n ages marked.marks (length marked.posts) (moves ++ t.log))
        (sym (aged_moves setting n then_ moves t.log un))
        (marks_grown setting n (aged_by setting n then_ t.log) marked.marks (length marked.posts) moves t.log un none
        passed.marks)))

    keeps_marked : KeepsMoments then_ marked t.log
    keeps_marked =
        subst (λ (f : FeederView). KeepsMoments then_ f t.log) (sym same)
        (subst (λ (l : Log). KeepsMoments then_ ready l) (sym passed.grew)
        (moments_after_pass setting n then_ ready passed.made a.log passed.pass.marks keeps_before))

    moments_now : KeepsMoments then_ new.outlet.feeder b.log
    moments_now =
        subst (λ (l : Log). KeepsMoments then_ new.outlet.feeder l)
        (sym (ap (λ (x : TokenView). x.log) drained.stretch.grew))
        (drained.stretch.noted.moments then_
        (λ number from less.
        later_moment moment (length a.log) now number
        (omega (arith, from, ap length passed.grew, length-append passed.made a.log)))
        (subst (λ (f : FeederView). KeepsMoments then_ f t.log) (sym fed) keeps_marked))

    pub in_order : IsInOrder setting a.role then_ b.log new
    in_order =
        subst (λ (r : ℕ). IsInOrder setting r then_ b.log new) (sym number)
        (record { so_far = (promised Wanting tt).so_far; marks = marks_now; moments = moments_now })

    -- Answers

    idle_tells : count ≡ 0 → Tells Idle (how_many is_moved moves) (IsIdleSender setting n moves) ⊥
    idle_tells none = (
      drained.moves ∙ none,
      λ f reads.
          dry_where_idle plan.burst f moves (omega (arith, plan.kept.sizes_are.burst.0)) (drained.moves ∙ none)
          (drains f reads),
    )

    pub idle_promise : count ≡ 0 → IsSendPromise setting a.role now moment a.log b.log (keeps_of new) Idle
    idle_promise none =
        subst (λ (r : ℕ). IsSendPromise setting r now moment a.log b.log (keeps_of new) Idle) (sym number)
        (promised Idle (idle_tells none))

    pub did_promise : 0 < count → IsSendPromise setting a.role now moment a.log b.log (keeps_of new) (Did count)
    did_promise some =
        subst (λ (r : ℕ). IsSendPromise setting r now moment a.log b.log (keeps_of new) (Did count)) (sym number)
        (promised (Did count) (some, sym drained.moves))
