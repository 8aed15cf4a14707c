use Rattle.std.proofs.Common.{◌∙◌, ℕ, ap, arith, sym, subst, refl, List, length, Bool, Vec, Global, vec_capacity}
use Rattle.std.specs.Prelude.{◌<◌, ◌++◌, ◌||◌, ◌≤◌}
use Rattle.onvm_board.specs.Tokens.{TokenView, grown}
use Rattle.desc_ring.specs.declared.mail.Mail.{Mail}
use Rattle.load_estimate.specs.declared.sample.Sample.{Sample}
use Rattle.load_estimate.specs.declared.tick.Tick.{Tick}
use Rattle.load_estimate.specs.Windows.{WindowState}
use Rattle.onvm_promises.specs.Answers.{is_complete}
use Rattle.onvm_promises.specs.Kept.{kept_now, samples_by}
use Rattle.onvm_promises.specs.Lines.{lines_of}
use Rattle.onvm_promises.specs.Roles.{IsTickPromise, setting_of}
use Rattle.onvm_promises.specs.Ticks.{NeverFall, is_due, last_moment, last_number, tick_at}
use Rattle.tick_pass.specs.Roles.{AreMailsOf, AreWindows, LastInForce, first_of, last_sample_moment, logged, ticked}
use Rattle.tick_pass.specs.Taking.{HasTakenAll}
use Rattle.tick_pass.specs.Telling.{IsTurn, posts_where, ticks_where}
use Rattle.tick_pass.proofs.Promising.{promise, turn_is, wanting_promise}
use Rattle.tick_pass.proofs.Windowing.{windows_later}
use Rattle.tick_pass.proofs.Working.{and_open, few_next, in_force_where, last_next, last_tick_next, mails_posted, mails_there, rise_next, role_kept}
use Rattle.tick_pass.proofs.role.TickRole.pass.Goals as goal

pub returns-in_default-clause-promise : goal.returns-in_default-clause-promise
returns-in_default-clause-promise c entries moment so_far =
    wanting_promise c.args.board.now.layout c.args.plan.now entries moment c.args.token.now.role
    (first_of c.args.self.now) c.args.now c.args.closing c.args.token.now.log (logged c.args.self.now)
    (logged c.reserve.new.self) (ticked c.args.self.now) (ticked c.reserve.new.self) c.reserve.ensures.samples
    c.reserve.ensures.ticks so_far

pub returns-in_default-clause-role : goal.returns-in_default-clause-role
returns-in_default-clause-role c =
    role_kept c.args.board.now c.args.plan.now _ c.args.token.now c.args.self.now c.reserve.new.self
    c.reserve.ensures.rest c.reserve.ensures.samples c.reserve.ensures.ticks c.requires.role

pub take_samples-taken-requires-clause-role : goal.take_samples-taken-requires-clause-role
take_samples-taken-requires-clause-role c =
    let was = c.requires.role in
    let rest = c.reserve.ensures.rest in
    let samples = c.reserve.ensures.samples in
    record {
      layout_of = was.layout_of;
      board = was.board;
      mine = was.mine;
      mails =
          c.set_up.ensures.mails c.args.token.now
          (subst (λ (mails : List Mail). AreMailsOf c.args.board.now mails c.args.token.now)
          (sym (ap (λ (v : Vec Mail Global). v.items) rest.mails)) was.mails) was.board;
      windows =
          subst (λ (z : List Sample × List WindowState). AreWindows c.args.plan.now c.args.now z.0 z.1)
          (λ i. (sym samples i, (sym rest.windows i).items))
          (windows_later c.args.plan.now c.args.self.now.latest.value c.args.now (logged c.args.self.now)
          c.args.self.now.room.windows.items c.requires.later was.windows);
    }

pub tick_if_due-requires-clause-in_force : goal.tick_if_due-requires-clause-in_force
tick_if_due-requires-clause-in_force c =
    let ticks = ap (λ (v : Vec Tick Global). v.items) c.take_samples-taken.ensures.ticks.ticks ∙ c.reserve.ensures.ticks in
    subst (LastInForce c.args.plan.now) (sym ticks) c.requires.role.in_force

pub returns-clause-promise : goal.returns-clause-promise
returns-clause-promise c entries moment so_far =
    let site = c.args.board.now in
    let plan = c.args.plan.now in
    let now : ℕ = c.args.now in
    let before = c.args.token.now in
    let mid = c.take_samples-taken.new.token in
    let after = c.tick_if_due.new.token in
    let all = logged c.take_samples-taken.new.self in
    let was = ticked c.args.self.now in
    let due : Bool = c.makes_tick-due.result in
    let taken =
    subst (λ ss. HasTakenAll site.layout.functions now c.take_samples-taken.result before mid ss all)
    c.reserve.ensures.samples c.take_samples-taken.ensures.taken in
    let same = ap (λ (v : Vec Tick Global). v.items) c.take_samples-taken.ensures.ticks.ticks ∙ c.reserve.ensures.ticks in
    let posted =
    c.tick_if_due.ensures.posted
    ∙ ap (λ (ts : List Tick). grown (posts_where due (lines_of plan ts all now)) mid.hand mid) same in
    let made =
    c.tick_if_due.ensures.tick
    ∙ ap (λ (ts : List Tick). ts ++ ticks_where due (tick_at plan ts all now)) same in
    subst (λ (ss : List Sample).
    IsTickPromise (setting_of site.layout plan entries) before.role (first_of c.args.self.now) now c.args.closing moment
    before.log after.log ss was (ticked c.tick_if_due.new.self) c.answer_of.result)
    (sym (ap (λ (v : Vec Sample Global). v.items) c.tick_if_due.ensures.samples))
    (promise site.layout plan entries moment (first_of c.args.self.now) now c.args.closing before mid after
    (logged c.args.self.now) all was (ticked c.tick_if_due.new.self) c.take_samples-taken.result due c.answer_of.result
    c.requires.role.layout_of c.requires.role.mine taken c.makes_tick-due.ensures posted made
    c.answer_of.ensures.complete (c.answer_of.ensures.tells (tick_at plan was all now)) so_far)

pub returns-clause-role : goal.returns-clause-role
returns-clause-role c =
    let site = c.args.board.now in
    let plan = c.args.plan.now in
    let now : ℕ = c.args.now in
    let after = c.tick_if_due.new.token in
    let is = c.requires.role in
    let mid = c.take_samples-taken.ensures.role in
    let all = logged c.take_samples-taken.new.self in
    let was = ticked c.args.self.now in
    let first : ℕ = first_of c.args.self.now in
    let due : Bool = c.makes_tick-due.result in
    let log = c.take_samples-taken.ensures.taken.added in
    let posted = c.tick_if_due.ensures.posted in
    let rest = c.reserve.ensures.rest in
    let kept = c.take_samples-taken.ensures.ticks in
    let same = ap (λ (v : Vec Tick Global). v.items) kept.ticks ∙ c.reserve.ensures.ticks in
    let made =
    c.tick_if_due.ensures.tick
    ∙ ap (λ (ts : List Tick). ts ++ ticks_where due (tick_at plan ts all now)) same in
    let samples = ap (λ (v : Vec Sample Global). v.items) c.tick_if_due.ensures.samples in
    let told =
    samples ∙ c.take_samples-taken.ensures.taken.taking.told
    ∙ ap (λ (ss : List Sample). ss ++ kept_now samples_by now log) c.reserve.ensures.samples in
    let first_is = c.tick_if_due.ensures.first.0 ∙ kept.first ∙ rest.first in
    let later : last_sample_moment first (logged c.args.self.now) ≤ now = omega (arith, is.last_sample, c.requires.later) in
    record {
      layout_of = is.layout_of;
      board = ap (λ (t : TokenView). t.board) posted ∙ mid.board;
      mine = ap (λ (t : TokenView). t.role) posted ∙ mid.mine;
      mails =
          subst (λ (mails : List Mail). AreMailsOf site mails after)
          (sym (ap (λ (v : Vec Mail Global). v.items) c.tick_if_due.ensures.mails))
          (mails_there site plan c.take_samples-taken.new.self.room.mails.items after is.layout_of
          (mails_posted site plan now due all (ticked c.take_samples-taken.new.self)
          c.take_samples-taken.new.self.room.mails.items c.take_samples-taken.new.token after is.layout_of posted
          mid.mails));
      mail_room =
          subst (λ (v : Vec Mail Global). length plan.functions ≤ vec_capacity v) (sym c.tick_if_due.ensures.mails)
          (omega (arith, kept.mail_room, c.set_up.ensures.room));
      windows =
          subst (λ (z : ℕ × List Sample). AreWindows plan z.0 z.1 c.tick_if_due.new.self.room.windows.items)
          (λ i. (sym c.of.ensures i, sym samples i)) c.tick_if_due.ensures.windows;
      core = c.tick_if_due.ensures.core;
      in_force = subst (LastInForce plan) (sym made) (in_force_where plan now due all was is.in_force);
      rise =
          subst (λ (z : ℕ × List Sample). NeverFall z.0 z.1) (λ i. (sym first_is i, sym told i))
          (rise_next first now (logged c.args.self.now) log is.rise later);
      last_sample =
          subst (λ (z : ℕ × List Sample × ℕ). last_sample_moment z.0 z.1 ≤ z.2)
          (λ i. (sym first_is i, sym told i, sym c.of.ensures i))
          (last_next first now (logged c.args.self.now) log later);
      last_tick =
          subst (λ (z : ℕ × List Tick × ℕ). last_moment z.0 z.1 ≤ z.2)
          (λ i. (sym first_is i, sym made i, sym c.of.ensures i))
          (last_tick_next plan first now due all was (omega (arith, is.last_tick, c.requires.later)));
      few = λ open_now.
          subst (λ (ts : List Tick). length ts < last_number) (sym made)
          (few_next plan first now c.args.closing due all was c.makes_tick-due.ensures (is.few refl)
          (and_open c.args.closing (is_complete c.answer_of.result) c.answer_of.ensures.complete open_now));
    }

-- the turn, over the lists as they were before the pass
turn_of : goal.returns-clause-turn
turn_of c complete =
    let site = c.args.board.now in
    let plan = c.args.plan.now in
    let now : ℕ = c.args.now in
    let before = c.args.token.now in
    let after = c.tick_if_due.new.token in
    let old = logged c.args.self.now in
    let all = logged c.take_samples-taken.new.self in
    let was = ticked c.args.self.now in
    let taken =
    subst (λ ss. HasTakenAll site.layout.functions now c.take_samples-taken.result before c.take_samples-taken.new.token
    ss all) c.reserve.ensures.samples c.take_samples-taken.ensures.taken in
    let same = ap (λ (v : Vec Tick Global). v.items) c.take_samples-taken.ensures.ticks.ticks ∙ c.reserve.ensures.ticks in
    let posted =
    c.tick_if_due.ensures.posted
    ∙ ap (λ (ts : List Tick). grown (posts_where c.makes_tick-due.result (lines_of plan ts all now))
    c.take_samples-taken.new.token.hand c.take_samples-taken.new.token) same in
    subst (λ (z : Bool × List Sample).
    IsTurn site.layout.functions now z.0 (lines_of plan was z.1 now) before after old z.1)
    (λ i. (c.makes_tick-due.ensures i, sym (ap (λ (v : Vec Sample Global). v.items) c.tick_if_due.ensures.samples) i))
    (turn_is site.layout.functions now c.take_samples-taken.result c.makes_tick-due.result (lines_of plan was all now)
    before c.take_samples-taken.new.token after old all taken posted)

pub returns-clause-turn : goal.returns-clause-turn
returns-clause-turn = turn_of

pub returns-clause-token : goal.returns-clause-token
returns-clause-token c =
    let plan = c.args.plan.now in
    let was = ticked c.args.self.now in
    let due : Bool = c.args.closing || is_due plan (first_of c.args.self.now) c.args.now was in
    let turn = turn_of c c.answer_of.ensures.complete in (
      posts_where due (lines_of plan was (logged c.tick_if_due.new.self) c.args.now) ++ turn.taken,
      turn.grew,
    )
