-- A marks pass, and then blocks.
use Rattle.std.proofs.Common.{◌≡◌, ℕ, ◌+◌, ◌-◌, ◌<◌, ◌≤◌, true, false, List, [], ◌∷◌, ◌++◌, length, sym, ap, ◌∙◌, subst, refl, arith, append_assoc, length-append}
use Rattle.std.specs.Prelude.{min}
use Rattle.onvm_base.specs.declared.plan.Plan.{Plan}
use Rattle.onvm_base.specs.declared.post.Post.{Post}
use Rattle.onvm_core.specs.declared.layout.Layout.{Layout}
use Rattle.onvm_core.specs.Blocks.{kind_of}
use Rattle.onvm_core.specs.Blocks.RoleKind.{Receives}
use Rattle.onvm_core.specs.Logs.{Log, Setting, entries_of_port}
use Rattle.onvm_core.specs.Marks.{Ages}
use Rattle.onvm_core.specs.Receiving.{ReceivePhase, receive_phase}
use Rattle.onvm_core.specs.Receiving.ReceivePhase.{Between}
use Rattle.onvm_core.proofs.RoleKinds.{kind_port}
use Rattle.onvm_board.specs.Tokens.{BoardView, TokenView}
use Rattle.onvm_promises.specs.declared.pass.Pass.{Pass}
use Rattle.onvm_promises.specs.declared.pass.Pass.TheVariants.{Wanting}
use Rattle.onvm_promises.specs.Answers.{Tells, is_complete}
use Rattle.onvm_promises.specs.Kept.{FeederKeeps, Outcomes, kept_now, moment_then, posts_by, records_by, sent_by}
use Rattle.onvm_promises.specs.Passes.{IsMarksPass}
use Rattle.onvm_promises.specs.Roles.{IsReceivePromise}
use Rattle.onvm_promises.specs.Times.{aged_by}
use Rattle.onvm_promises.specs.Follows.{ReceivesFrom, receive_phase_from}
use Rattle.onvm_promises.proofs.Following.{receive_phase_is}
use Rattle.onvm_promises.proofs.Keeping.{earlier_moment, later_moment}
use Rattle.onvm_promises.proofs.SendPromise.{keeps_more}
use Rattle.onvm_promises.proofs.Settling.{aged_moves}
use Rattle.onvm_promises.proofs.Unmarked.{AreUnmarked, blocks_unmarked}
use Rattle.entry_throttle.specs.Feeders.{FeederView, IsFeederOf, IsReady, MadeMarksPass}
use Rattle.entry_throttle.specs.Moments.{KeepsMoments}
use Rattle.entry_throttle.specs.Throttles.{AreMarksOf}
use Rattle.entry_throttle.proofs.MarksPasses.{moments_after_pass, pass_by_moments}
use Rattle.entry_throttle.proofs.OtherActs.{marks_grown}
use Rattle.rx_pass.specs.declared.inlet.Inlet.{Inlet}
use Rattle.rx_pass.specs.Keeping.{outcomes_of}
use Rattle.rx_pass.specs.Roles.{IsFeederBy}
use Rattle.rx_pass.specs.Turns.{IsTurn}
use Rattle.rx_pass.proofs.Promise.{mark_between, receive_promise}
use Rattle.rx_pass.proofs.Promising.{Knowing, blocks_post_none, knowing_later}

abbrev pub keeps_in : Inlet → FeederKeeps
keeps_in inlet = record { outcomes = outcomes_of inlet.kept; posts = inlet.feeder.posts }

-- the role had room for its feeder (`ready`), made a marks pass (`marked`), and then its blocks (`start` to `new`)
module _ (site : BoardView) (plan : Plan) (setting : Setting) (now d e : ℕ) (moment : ℕ → ℕ) (old start new : Inlet)
    (ready marked : FeederView) (a t b : TokenView)
    (layout_is : setting.layout ≡ site.layout) (plan_is : setting.plan ≡ plan)
    (receives : a.role < site.layout.ports)
    (own : IsFeederOf site old.feeder a) (long : length old.feeder.ages ≡ site.layout.functions)
    (marks_are : IsFeederBy plan old.feeder)
    (room : ready ≡ record old.feeder { room = ready.room })
    (passes : (setting : Setting) (aged : Ages) → IsReady setting aged site now ready a
    → MadeMarksPass setting aged now ready marked a t)
    (mine : t.role ≡ marked.number)
    (same : marked ≡ record ready { marks = marked.marks; posts = marked.posts; room = marked.room })
    (kept : outcomes_of start.kept ≡ outcomes_of old.kept)
    (fed : start.feeder ≡ marked)
    (turn : IsTurn setting t.role now (Between d) (Between e) t b start new)
    (known : Knowing setting a.role moment a.log (keeps_in old) old.feeder d)
  where
    abbrev n : ℕ
    n = ready.number

    abbrev then_ : ℕ → ℕ
    then_ = moment_then moment (length a.log) now

    abbrev blocks : Log
    blocks = turn.added

    number : a.role ≡ n
    number = own.role ∙ sym (ap (λ (f : FeederView). f.number) room)

    order : Knowing setting n moment a.log (keeps_in old) old.feeder d
    order = subst (λ (r : ℕ). Knowing setting r moment a.log (keeps_in old) old.feeder d) number known

    by : IsFeederBy plan ready
    by = subst (IsFeederBy plan) (sym room) (record { high = marks_are.high; low = marks_are.low; age = marks_are.age })

    old_later : Knowing setting n then_ a.log (keeps_in old) old.feeder d
    old_later =
        knowing_later setting n moment then_ a.log
        (λ number less. earlier_moment moment (length a.log) now number less) (keeps_in old) old.feeder d order

    keeps_before : KeepsMoments then_ ready a.log
    keeps_before = subst (λ (f : FeederView). KeepsMoments then_ f a.log) (sym room) old_later.moments

    passed : MadeMarksPass setting (aged_by setting n then_ t.log) now ready marked a t
    passed =
        pass_by_moments setting site now then_ ready marked a t
        (record {
          same = layout_is;
          high_is = ap (λ (p : Plan). p.high) plan_is ∙ sym by.high;
          low_is = ap (λ (p : Plan). p.low) plan_is ∙ sym by.low;
          age_is = ap (λ (p : Plan). p.age) plan_is ∙ sym by.age;
        })
        (omega (arith, by.high, plan.kept.sizes_are.low, plan.kept.sizes_are.marks))
        (ap (λ (f : FeederView). length f.ages) room ∙ long ∙ sym (ap (λ (l : Layout). l.functions) layout_is)) old_later.so_far.rests.feeder
        (subst (λ (f : FeederView). AreMarksOf setting n (aged_by setting n then_ a.log) f.marks (length f.posts) a.log)
        (sym room) old_later.marks)
        keeps_before (λ number from less. later_moment moment (length a.log) now number from) (passes setting)

    -- What was added

    grew : b.log ≡ blocks ++ t.log
    grew = ap (λ (x : TokenView). x.log) turn.grew

    grown_by : b.log ≡ (blocks ++ passed.made) ++ a.log
    grown_by = grew ∙ ap (λ l. blocks ++ l) passed.grew ∙ sym (append_assoc blocks passed.made a.log)

    there : t.role ≡ n
    there = mine ∙ ap (λ (f : FeederView). f.number) same

    follows : ReceivesFrom setting n (Between d) blocks
    follows = subst (λ (r : ℕ). ReceivesFrom setting r (Between d) blocks) there turn.follows

    keeps : keeps_in new ≡ keeps_more now passed.made blocks (keeps_in old)
    keeps =
        let told = turn.told in
        let records = told.records ∙ ap (λ (o : Outcomes). o.records ++ kept_now records_by 0 blocks) kept in
        let sent = told.sent ∙ ap (λ (o : Outcomes). o.sent ++ kept_now sent_by 0 blocks) kept in
        let posts : new.feeder.posts ≡ old.feeder.posts ++ kept_now posts_by now passed.made =
        ap (λ (f : FeederView). f.posts) turn.noted.same
        ∙ ap (λ (f : FeederView). f.posts) fed ∙ passed.posts
        ∙ ap (λ (f : FeederView). f.posts ++ kept_now posts_by now passed.made) room in
        λ i. record { outcomes = record { records = records i; sent = sent i }; posts = posts i }

    is_receiving : kind_of setting.layout n ≡ Receives
    is_receiving =
        subst (λ (l : Layout). kind_of l n ≡ Receives) (sym layout_is)
        (subst (λ (r : ℕ). kind_of site.layout r ≡ Receives) number (kind_port site.layout a.role receives))

    below : n < setting.layout.ports
    below =
        subst (λ (l : Layout). n < l.ports) (sym layout_is) (subst (λ (r : ℕ). r < site.layout.ports) number receives)

    promised_in : (answer : Pass) → e ≤ d + setting.plan.burst
        → (is_complete answer ≡ true → e ≡ min (d + setting.plan.burst) (length (entries_of_port n setting.entries)))
        → Tells answer (e - d) (e ≡ length (entries_of_port n setting.entries)) (Unit {0})
        → IsReceivePromise setting n now moment a.log b.log (keeps_in new) answer
    promised_in answer few count tells =
        subst (λ (l : Log). IsReceivePromise setting n now moment a.log l (keeps_in new) answer) (sym grown_by)
        (subst (λ (k : FeederKeeps).
        IsReceivePromise setting n now moment a.log ((blocks ++ passed.made) ++ a.log) k answer) (sym keeps)
        (receive_promise setting n now d e moment a.log passed.made blocks (keeps_in old) answer
        is_receiving below order.so_far order.phase
        (subst (λ (l : Log). IsMarksPass setting n (aged_by setting n then_ l) a.log passed.made) passed.grew passed.pass)
        turn.steps follows turn.stands few count tells))

    pub promised : (answer : Pass) → e ≤ d + setting.plan.burst
        → (is_complete answer ≡ true → e ≡ min (d + setting.plan.burst) (length (entries_of_port a.role setting.entries)))
        → Tells answer (e - d) (e ≡ length (entries_of_port a.role setting.entries)) (Unit {0})
        → IsReceivePromise setting a.role now moment a.log b.log (keeps_in new) answer
    promised answer few =
        subst (λ (r : ℕ).
        (is_complete answer ≡ true → e ≡ min (d + setting.plan.burst) (length (entries_of_port r setting.entries)))
        → Tells answer (e - d) (e ≡ length (entries_of_port r setting.entries)) (Unit {0})
        → IsReceivePromise setting r now moment a.log b.log (keeps_in new) answer) (sym number)
        (λ count tells. promised_in answer few count tells)

    -- What it knows

    at_marks : receive_phase setting t.log ≡ Between d
    at_marks =
        ap (receive_phase setting) passed.grew ∙ receive_phase_is setting passed.made a.log
        ∙ ap (λ (p : ReceivePhase). receive_phase_from setting p passed.made) order.phase
        ∙ (mark_between setting n d passed.made passed.pass.marks).1

    at_end : receive_phase setting b.log ≡ Between e
    at_end =
        ap (receive_phase setting) grew ∙ receive_phase_is setting blocks t.log
        ∙ ap (λ (p : ReceivePhase). receive_phase_from setting p blocks) at_marks ∙ turn.stands

    fed_by : new.feeder ≡ record marked { spots = new.feeder.spots; ages = new.feeder.ages }
    fed_by =
        turn.noted.same
        ∙ ap (λ (x : FeederView). record x { spots = new.feeder.spots; ages = new.feeder.ages }) fed

    marks_now : AreMarksOf setting n (aged_by setting n then_ b.log) new.feeder.marks (length new.feeder.posts) b.log
    marks_now =
        let un : AreUnmarked blocks = blocks_unmarked blocks turn.steps in
        let none = blocks_post_none n blocks turn.steps in
        subst (λ (f : FeederView). AreMarksOf setting n (aged_by setting n then_ b.log) f.marks (length f.posts) b.log)
        (sym fed_by)
        (subst (λ (l : Log). AreMarksOf setting n (aged_by setting n then_ l) marked.marks (length marked.posts) l)
        (sym grew)
        (subst (λ (ages : Ages). AreMarksOf setting n ages marked.marks (length marked.posts) (blocks ++ t.log))
        (sym (aged_moves setting n then_ blocks t.log un))
        (marks_grown setting n (aged_by setting n then_ t.log) marked.marks (length marked.posts) blocks t.log un none
        passed.marks)))

    keeps_marked : KeepsMoments then_ marked t.log
    keeps_marked =
        subst (λ (f : FeederView). KeepsMoments then_ f t.log) (sym same)
        (subst (λ (l : Log). KeepsMoments then_ ready l) (sym passed.grew)
        (moments_after_pass setting n then_ ready passed.made a.log passed.pass.marks keeps_before))

    moments_now : KeepsMoments then_ new.feeder b.log
    moments_now =
        subst (λ (l : Log). KeepsMoments then_ new.feeder l) (sym grew)
        (turn.noted.moments then_
        (λ number from less.
        later_moment moment (length a.log) now number
        (omega (arith, from, ap length passed.grew, length-append passed.made a.log)))
        (subst (λ (f : FeederView). KeepsMoments then_ f t.log) (sym fed) keeps_marked))

    pub knowing : e ≤ d + setting.plan.burst → Knowing setting a.role then_ b.log (keeps_in new) new.feeder e
    knowing few =
        subst (λ (r : ℕ). Knowing setting r then_ b.log (keeps_in new) new.feeder e) (sym number)
        (record {
          so_far = (promised_in Wanting few (λ complete. let off : false ≡ true = complete in absurd (cc)) tt).so_far;
          phase = at_end;
          marks = marks_now;
          moments = moments_now;
        })
