-- The promise of a pass, from its services and its samples.
use Rattle.std.proofs.Common.{◌≡◌, ℕ, ◌<◌, Bool, true, false, not, inl, inr, List, [], ◌∷◌, ◌++◌, length, Some, None, Option, refl, sym, ap, ◌∙◌, subst, arith, append_assoc}
use Rattle.std.specs.Prelude.{is_some, ◌⊎◌, nat_lt, slice_index_or}
use Rattle.std.proofs.lemmas.Bool.{true≢false}
use Rattle.onvm_base.specs.declared.ids.FnId.{FnId}
use Rattle.onvm_base.specs.declared.ids.RingId.TheVariants.{Lane, Output}
use Rattle.onvm_base.specs.declared.plan.Plan.{Plan}
use Rattle.onvm_core.specs.declared.entry.Entry.{Entry}
use Rattle.onvm_core.specs.declared.layout.Word.TheVariants.{Weight}
use Rattle.onvm_core.specs.declared.step.Act.TheVariants.{Push, Look}
use Rattle.onvm_core.specs.declared.step.Item.{Item}
use Rattle.onvm_core.specs.Handling.{IsOwn, core_hand, is_push_on}
use Rattle.onvm_core.specs.Journals.{GoesThrough, journal}
use Rattle.onvm_core.specs.Layouts.{feeder_count}
use Rattle.onvm_core.specs.Logs.{Hand, Log, Setting}
use Rattle.onvm_core.specs.Places.{how_many, one_if}
use Rattle.onvm_core.specs.Samples.{is_sampled, unsampled_count}
use Rattle.onvm_core.proofs.Once.{how_many-append}
use Rattle.onvm_board.specs.Tokens.{BoardView, TokenView}
use Rattle.nf_api.specs.Acts.{Acts}
use Rattle.nf_api.specs.Tree.{Tree}
use Rattle.onvm_promises.specs.declared.pass.Pass.{Pass}
use Rattle.onvm_promises.specs.declared.pass.Pass.TheVariants.{Did, Idle, Wanting, Stopped}
use Rattle.onvm_promises.specs.Answers.{IsIdleCore, Tells, is_complete, is_handled}
use Rattle.onvm_promises.specs.Passes.{HasOneSample, IsServed, is_mailed, is_service_act, ran_dry, saw_full}
use Rattle.onvm_promises.specs.Rests.{RestsHandling}
use Rattle.onvm_promises.specs.Roles.{HandsFirst, IsCorePromise, oldest, setting_of}
use Rattle.onvm_promises.specs.Sampling.{AreTimed}
use Rattle.onvm_promises.proofs.Following.{handles_follow}
use Rattle.nf_exec.specs.declared.role.CoreRole.{CoreRole}
use Rattle.nf_exec.specs.Roles.{HasMailed, IsAtWork, IsCoreRole, IsPassing, WasServed, acts_of, counted, counts_upto, start_of, state_of, times_are}
use Rattle.nf_exec.specs.Stations.{functions_of}
use Rattle.nf_exec.specs.Steps.{DoesFrom}
use Rattle.nf_exec.proofs.Doing.{does_append, does_handle, does_look, does_sample, does_try}
use Rattle.nf_exec.proofs.Elsewhere.{AreQuiet, quiet_dry, quiet_full, quiet_pushes, quiet_services}
use Rattle.nf_exec.proofs.Keeping.{all_sampled, none_waits}
use Rattle.nf_exec.proofs.Passing.{oldest_over, same_at}
use Rattle.nf_exec.proofs.Working.{kept_free}
use Rattle.nf_exec.proofs.StationLists.{function_at, functions_long, item_there}
use Rattle.nf_exec.proofs.Samples.{mails_hand, mails_quiet, mails_timed, mails_unhandled, unmailed_timed, unsampled_over}
use Rattle.nf_exec.proofs.UnitJournals.{journals_of}

-- What is handled first

hands_first : (hand : Option Hand) (added : Log)
    → ((h : Hand) → hand ≡ Some h → (item : Item) × (oldest added ≡ Some (Push (Output h.function) item)))
    → HandsFirst hand added
hands_first None added first = tt
hands_first (Some h) [] first = tt
hands_first (Some h) (act ∷ added) first = first h refl

-- The whole pass

module _ {N : Type 0} (acts : N → Acts) (state : N → Tree) (may_span : ℕ → ℕ → Type 0) (site : BoardView) (plan : Plan)
    (before mid after : TokenView) (role role_mid now : CoreRole N) (n : ℕ) (answer : Pass)
    (is : IsCoreRole acts state site plan before role) (timed : AreTimed may_span plan before.log)
    (passing : IsPassing site plan (functions_of role.stations.items) (length role.stations.items) n before mid)
    (work_mid : IsAtWork acts state site mid role_mid) (times : times_are may_span plan role_mid.stations.items)
    (functions_mid : functions_of role_mid.stations.items ≡ functions_of role.stations.items)
    (mailed : HasMailed site role_mid.stations.items (length role_mid.stations.items) mid after)
    (counts : counts_upto 0 now.stations.items) (work : IsAtWork acts state site after now)
    (functions_now : functions_of now.stations.items ≡ functions_of role_mid.stations.items)
    (began : now.began ≡ role.began)
    (complete : is_complete answer ≡ not (is_some now.kept)) (tells : Tells answer n (n ≡ 0) ⊥) where
  abbrev added : Log
  added = mailed.added ++ passing.added

  abbrev functions : List FnId
  functions = functions_of role.stations.items

  all_functions : functions_of now.stations.items ≡ functions_of role.stations.items
  all_functions = functions_now ∙ functions_mid

  mid_log : mid.log ≡ passing.added ++ before.log
  mid_log = ap (λ (t : TokenView). t.log) passing.grew

  mid_role : mid.role ≡ before.role
  mid_role = ap (λ (t : TokenView). t.role) passing.grew

  after_log : after.log ≡ (mailed.added ++ passing.added) ++ before.log
  after_log =
      ap (λ (t : TokenView). t.log) mailed.grew ∙ ap (λ (log : Log). mailed.added ++ log) mid_log
      ∙ sym (append_assoc mailed.added passing.added before.log)

  after_role : after.role ≡ before.role
  after_role = ap (λ (t : TokenView). t.role) mailed.grew ∙ mid_role

  all_does : (entries : List Entry)
      → DoesFrom (setting_of site.layout plan entries) before.role before.log (mailed.added ++ passing.added)
  all_does entries =
      does_append (setting_of site.layout plan entries) before.role before.log passing.added mailed.added
      (passing.does entries)
      (subst (λ (z : ℕ × Log). DoesFrom (setting_of site.layout plan entries) z.0 z.1 mailed.added)
      (λ i. (mid_role i, mid_log i)) (mailed.does plan entries))

  quiet : (g : FnId) → AreQuiet g mailed.added
  quiet g = mails_quiet role_mid.stations.items g mailed.added mailed.mails

  hand_is : core_hand after.log ≡ core_hand mid.log
  hand_is =
      ap (λ (t : TokenView). core_hand t.log) mailed.grew
      ∙ mails_hand role_mid.stations.items mailed.added mid.log mailed.mails

  -- the station of an own function, now
  place : (entries : List Entry) (f : FnId) → IsOwn (setting_of site.layout plan entries) before.role f
      → (i : ℕ) × (i < length functions) × (f ≡ slice_index_or functions i f)
  place entries f own = is.work.functions.all f own.known own.core

  sampled : (entries : List Entry) (f : FnId) → IsOwn (setting_of site.layout plan entries) before.role f
      → is_sampled f after.log ≡ true
  sampled entries f own =
      let at = place entries f own in
      let long = functions_long now.stations.items in
      let same_long = ap (λ (fs : List FnId). length fs) all_functions in
      let less : at.0 < length now.stations.items = omega (arith, at.1, long, same_long) in
      let s = item_there now.stations.items at.0 less in
      let f_is : s.0.function ≡ f =
      same_at functions at.0 s.0.function f at.1
      (function_at now.stations.items at.0 s.0 less s.1 ∙ ap (λ fs. slice_index_or fs at.0 s.0.function) all_functions)
      at.2 in
      let zero_is = counts at.0 s.0 less s.1 in
      let unsampled = (work.stations.each at.0 s.0 less s.1).count in
      subst (λ (g : FnId). is_sampled g after.log ≡ true) f_is
      (all_sampled s.0.function after.log (omega (arith, zero_is, unsampled)))

  pub all_rests : (entries : List Entry)
      → RestsHandling (setting_of site.layout plan entries) before.role (core_hand after.log) after.log
  all_rests entries =
      let setting : Setting = setting_of site.layout plan entries in
      let rests = is.rests entries in
      subst (λ (log : Log). RestsHandling setting before.role (core_hand after.log) log) (sym after_log)
      (record {
        blocks = handles_follow setting before.role (mailed.added ++ passing.added) before.log is.work.kind rests.blocks
            (does_handle setting before.role before.log (mailed.added ++ passing.added) (all_does entries));
        hand = ap core_hand (sym after_log);
        tries = does_try setting before.role before.log (mailed.added ++ passing.added) (all_does entries) rests.tries;
        looks = does_look setting before.role before.log (mailed.added ++ passing.added) (all_does entries) rests.looks;
        samples =
            does_sample setting before.role before.log (mailed.added ++ passing.added) (all_does entries) rests.samples;
        sampled = λ f own. ap (is_sampled f) (sym after_log) ∙ sampled entries f own;
      })

  pub all_timed : AreTimed may_span plan after.log
  all_timed =
      subst (AreTimed may_span plan) (sym (ap (λ (t : TokenView). t.log) mailed.grew))
      (mails_timed may_span plan role_mid.stations.items mailed.added mid.log times mailed.mails
      (subst (AreTimed may_span plan) (sym mid_log)
      (unmailed_timed may_span plan passing.added before.log passing.unmailed timed)))

  journals : (entries : List Entry) (f : FnId) → IsOwn (setting_of site.layout plan entries) before.role f
      → GoesThrough (acts_of acts state role f.0) (start_of acts state role f.0) (journal f after.log)
      (state_of acts state now f.0)
  journals entries = journals_of acts state site plan entries before after role now is work all_functions began

  -- behind the samples each function was served still
  served_over : (entries : List Entry) (f : FnId) → WasServed site plan f n before.log passing.added
      → IsServed (setting_of site.layout plan entries) f before.log (mailed.added ++ passing.added)
  served_over entries f had =
      let has = had.served entries in
      record {
        earlier = has.earlier;
        service = has.service;
        later = mailed.added ++ has.later;
        seen = has.seen;
        parts =
            ap (λ (log : Log). mailed.added ++ log) has.parts
            ∙ sym (append_assoc mailed.added (has.later ++ has.service) (Look (Weight f) has.seen None ∷ has.earlier))
            ∙ ap (λ (log : Log). log ++ Look (Weight f) has.seen None ∷ has.earlier)
            (sym (append_assoc mailed.added has.later has.service));
        ends = has.ends;
        once = has.once;
        alone = omega (
          arith,
          how_many-append (is_service_act f) mailed.added has.later,
          quiet_services f mailed.added (quiet f),
          has.alone,
        );
        barred_once = omega (
          arith,
          how_many-append (saw_full f) mailed.added passing.added,
          quiet_full f mailed.added (quiet f),
          has.barred_once,
        );
        behind = has.behind;
      }

  was_served : core_hand after.log ≡ None → (entries : List Entry) (f : FnId)
      → IsOwn (setting_of site.layout plan entries) before.role f → WasServed site plan f n before.log passing.added
  was_served none entries f own =
      let at = place entries f own in
      let long = functions_long role.stations.items in
      (passing.served (sym hand_is ∙ none)).done at.0 f (omega (arith, at.1, long)) at.1 at.2

  one_sample : (entries : List Entry) (f : FnId) → IsOwn (setting_of site.layout plan entries) before.role f
      → HasOneSample f (mailed.added ++ passing.added)
  one_sample entries f own =
      let at = place entries f own in
      let long = functions_long role_mid.stations.items in
      let same_long = ap (λ (fs : List FnId). length fs) functions_mid in
      let less : at.0 < length role_mid.stations.items = omega (arith, at.1, long, same_long) in
      let s = item_there role_mid.stations.items at.0 less in
      let f_is : s.0.function ≡ f =
      same_at functions at.0 s.0.function f at.1
      (function_at role_mid.stations.items at.0 s.0 less s.1
      ∙ ap (λ fs. slice_index_or fs at.0 s.0.function) functions_mid)
      at.2 in
      let sent = mailed.mailed at.0 s.0 less less s.1 in
      let count = (work_mid.stations.each at.0 s.0 less s.1).count in
      let none = none_waits f before.log ((is.rests entries).sampled f own) in
      let over = unsampled_over f passing.added before.log (passing.unmailed f) in
      let pushes : how_many (is_push_on (Output f)) (mailed.added ++ passing.added) ≡ s.0.count =
      omega (
        arith,
        how_many-append (is_push_on (Output f)) mailed.added passing.added,
        quiet_pushes f mailed.added (quiet f),
        over,
        none,
        count,
        ap (λ (g : FnId). unsampled_count g mid.log) f_is,
        ap (unsampled_count f) mid_log,
      ) in
      omega (
        arith,
        how_many-append (is_mailed f) mailed.added passing.added,
        passing.unmailed f,
        sent,
        ap (λ (g : FnId). how_many (is_mailed g) mailed.added) f_is,
        ap (λ (k : ℕ). one_if (nat_lt 0 k)) pushes,
      )

  idle_over : (entries : List Entry) (f : FnId) → WasServed site plan f n before.log passing.added → n ≡ 0
      → (0 < how_many (saw_full f) (mailed.added ++ passing.added))
      ⊎ ((feeder : ℕ) → feeder < feeder_count site.layout
      → ran_dry (Lane f feeder) (mailed.added ++ passing.added) ≡ true)
  idle_over entries f had zero_is = by_end (had.idle zero_is)
    where
      by_end : (0 < how_many (saw_full f) passing.added)
          ⊎ ((feeder : ℕ) → feeder < feeder_count site.layout → ran_dry (Lane f feeder) passing.added ≡ true)
          → (0 < how_many (saw_full f) (mailed.added ++ passing.added))
          ⊎ ((feeder : ℕ) → feeder < feeder_count site.layout
          → ran_dry (Lane f feeder) (mailed.added ++ passing.added) ≡ true)
      by_end (inl full) = inl (omega (arith, how_many-append (saw_full f) mailed.added passing.added, full))
      by_end (inr dry) = inr (λ p known. quiet_dry f p mailed.added passing.added (quiet f) ∙ dry p known)

  free_then : is_complete answer ≡ true → core_hand after.log ≡ None
  free_then e = kept_free now.stations.items now.kept (core_hand after.log) work.kept (not_true (is_some now.kept) (sym complete ∙ e))
    where
      not_true : (b : Bool) → not b ≡ true → b ≡ false
      not_true true e = absurd (true≢false (sym e))
      not_true false e = refl

  handles : how_many is_handled (mailed.added ++ passing.added) ≡ n
  handles = omega (
    arith,
    how_many-append is_handled mailed.added passing.added,
    mails_unhandled role_mid.stations.items mailed.added mailed.mails,
    passing.handles,
  )

  all_tells : (entries : List Entry)
      → Tells answer (how_many is_handled (mailed.added ++ passing.added))
      (IsIdleCore (setting_of site.layout plan entries) before.role (mailed.added ++ passing.added)) ⊥
  all_tells entries = by_answer answer tells free_then
    where
      by_answer : (answer : Pass) → Tells answer n (n ≡ 0) ⊥ → (is_complete answer ≡ true → core_hand after.log ≡ None)
          → Tells answer (how_many is_handled (mailed.added ++ passing.added))
          (IsIdleCore (setting_of site.layout plan entries) before.role (mailed.added ++ passing.added)) ⊥
      by_answer (Did m) tells free = (tells.0, tells.1 ∙ sym handles)
      by_answer Idle tells free = (
        handles ∙ tells.0,
        λ f own. idle_over entries f (was_served (free refl) entries f own) tells.0,
      )
      by_answer Wanting tells free = tt
      by_answer Stopped tells free = tells

  pub promise : (entries : List Entry)
      → IsCorePromise (acts_of acts state role) (start_of acts state role) (state_of acts state now) may_span
      (setting_of site.layout plan entries) before.role (core_hand after.log) before.log after.log (counted now) answer
  promise entries = record {
    added = mailed.added ++ passing.added;
    grown = after_log;
    first = hands_first (core_hand before.log) (mailed.added ++ passing.added)
        (λ hand some.
        let at = passing.first hand some in
        (at.0, oldest_over mailed.added passing.added (Push (Output hand.function) at.0) at.1));
    so_far = record {
      rests = all_rests entries;
      timed = all_timed;
      journals = journals entries;
      kept = record { yields = work.yields; lost = work.lost };
    };
    whole = λ e. (
      free_then e,
      record {
        served = λ f own. served_over entries f (was_served (free_then e) entries f own);
        samples = one_sample entries;
        rests = subst (λ (hand : Option Hand). RestsHandling (setting_of site.layout plan entries) before.role hand
            ((mailed.added ++ passing.added) ++ before.log)) (free_then e)
            (subst (λ (log : Log). RestsHandling (setting_of site.layout plan entries) before.role (core_hand after.log) log)
            after_log (all_rests entries));
      },
    );
    tells = all_tells entries;
  }

  pub role_kept : IsCoreRole acts state site plan after now
  role_kept = record {
    layout_of = is.layout_of;
    work = work;
    rests = λ entries.
        subst (λ r. RestsHandling (setting_of site.layout plan entries) r (core_hand after.log) after.log) (sym after_role)
        (all_rests entries);
  }
