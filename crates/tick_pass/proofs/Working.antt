-- The tick role in a pass and behind it.
use Rattle.std.proofs.Common.{◌≡◌, ℕ, zero, suc, ◌+◌, ◌-◌, ◌<◌, ◌≤◌, Bool, true, false, List, [], ◌∷◌, ◌++◌, length, Some, refl, sym, ◌∙◌, ap, subst, arith, append-nil, length-append, Global, Vec, vec_capacity}
use Rattle.std.specs.Prelude.{◌≢◌, ◌&&◌, ◌||◌, ◌%◌, min, nat_le, nat_lt, slice_get, slice_set}
use Rattle.std.proofs.lemmas.Bool.{and_parts, ltb-true, true≢false}
use Rattle.std.proofs.lemmas.Option.{none-some, same_Some}
use Rattle.onvm_base.specs.declared.function.FunctionPlan.{FunctionPlan}
use Rattle.onvm_base.specs.declared.ids.FnId.{FnId}
use Rattle.onvm_base.specs.declared.ids.RingId.TheVariants.{Mail as MailRing}
use Rattle.onvm_base.specs.declared.plan.Plan.{Plan}
use Rattle.onvm_core.specs.Layouts.{IsLayoutOf}
use Rattle.onvm_core.specs.Logs.{Log}
use Rattle.onvm_core.specs.Potential.{popped_in}
use Rattle.onvm_board.specs.Tokens.{BoardView, TokenView, grown}
use Rattle.desc_ring.specs.declared.mail.Mail.{Mail}
use Rattle.desc_ring.specs.Arrays.{AreMailHeads, AreNew, IsMailHeadAt, mail_of, new_mail}
use Rattle.desc_ring.specs.Ends.{IsMailHead}
use Rattle.desc_ring.proofs.Beginning.{ends_begin}
use Rattle.desc_ring.proofs.InArrays.{mail_heads_grown, mail_heads_moved}
use Rattle.load_estimate.specs.declared.sample.Sample.{Sample}
use Rattle.load_estimate.specs.declared.tick.Tick.{Tick}
use Rattle.load_estimate.specs.declared.tick.TickLine.{TickLine}
use Rattle.load_estimate.specs.Windows.{WindowState}
use Rattle.onvm_promises.specs.Kept.{kept_now, samples_by}
use Rattle.onvm_promises.specs.Lines.{line_of, lines_from, lines_of, samples_of, share_at, share_in, weight_after, weight_or}
use Rattle.onvm_promises.specs.Ticks.{NeverFall, is_due, last_moment, last_number, tick_at}
use Rattle.onvm_promises.proofs.Ticking.{AllAt, taken_now}
use Rattle.tick_pass.specs.declared.role.TickRole.{TickRole}
use Rattle.tick_pass.specs.Roles.{AreInForce, AreMailsOf, AreWindows, HasCoreRoom, HasWindow, IsTickRole, KeepsRest, LastInForce, last_sample_moment, logged, ticked}
use Rattle.tick_pass.specs.Taking.{HasTaken}
use Rattle.tick_pass.specs.Telling.{posts_where, ticks_where}
use Rattle.tick_pass.proofs.Promising.{length_lines, posts_popped, posts_where_are}
use Rattle.tick_pass.proofs.Residing.{number}
use Rattle.tick_pass.proofs.Takes.{none_popped, none_told}
use Rattle.tick_pass.proofs.Tells.{last_of_more}
use Rattle.tick_pass.proofs.Windowing.{samples_append, windows_moved}

-- One ring was drained

module _ (site : BoardView) (plan : Plan) (now f n : ℕ) (dry : Bool) (before after : TokenView)
    (samples all : List Sample) (is : HasTaken (number f) now n dry before after samples all) where
  apart : (g : ℕ) → g ≢ f → (h : FnId) → h ≡ number f → h.0 ≢ g
  apart g other h same e = other (sym e ∙ ap (λ (k : FnId). k.0) same)

  pub others_stay : (g : ℕ) → g ≢ f → samples_of g all ≡ samples_of g samples
  others_stay g other =
      ap (samples_of g) is.taking.told
      ∙ samples_append g samples (kept_now samples_by now is.added)
      ∙ ap (λ ss. samples_of g samples ++ ss)
      (none_told (λ h. h ≡ number f) (number g) (apart g other) now is.added is.taking.takes)
      ∙ append-nil (samples_of g samples)

  pub mails_next : (mails : List Mail) (mail : Mail) → f < site.layout.functions → IsMailHead site mail after
      → mail.spot.ring ≡ MailRing (number f) → AreMailHeads site mails before
      → AreMailHeads site (slice_set mails f mail) after
  mails_next mails mail known own ring =
      mail_heads_moved site mail_of site.layout.functions is.added before.hand before after is.taking.grew mails f mail
      known
      (λ g less other. none_popped (λ h. h ≡ number f) (number g) (apart g other) is.added is.taking.takes)
      (record { ring_is = ring; own = λ mine. own })

  pub windows_next : (windows : List WindowState) (window : WindowState) → f < length plan.functions
      → window.span ≡ plan.window → HasWindow now (samples_of f all) window → AreWindows plan now samples windows
      → AreWindows plan now all (slice_set windows f window)
  windows_next windows window known span has =
      windows_moved plan now f samples all windows window known others_stay (record { span_is = span; has = has })

-- Moments

last_fall : (first now : ℕ) (samples more : List Sample)
    → NeverFall first samples → last_sample_moment first samples ≤ now → NeverFall now more
    → NeverFall first (samples ++ more)
last_fall first now [] [] rise last more = tt
last_fall first now [] (s ∷ ss) rise last more = (omega (arith, last, more.0), more.1)
last_fall first now (s ∷ ss) more rise last rest = (rise.0, last_fall s.moment now ss more rise.1 last rest)

last_upto : (first now : ℕ) (samples more : List Sample) → last_sample_moment first samples ≤ now
    → last_sample_moment now more ≤ now → last_sample_moment first (samples ++ more) ≤ now
last_upto first now [] [] last more = last
last_upto first now [] (s ∷ ss) last more = more
last_upto first now (s ∷ ss) more last rest = last_upto s.moment now ss more last rest

fall_at : (from now : ℕ) (more : List Sample) → from ≤ now → AllAt now more → NeverFall from more
fall_at from now [] upto at = tt
fall_at from now (s ∷ ss) upto at =
    (omega (arith, upto, at.0), fall_at s.moment now ss (omega (arith, at.0)) at.1)

last_at : (from now : ℕ) (more : List Sample) → from ≤ now → AllAt now more → last_sample_moment from more ≤ now
last_at from now [] upto at = upto
last_at from now (s ∷ ss) upto at = last_at s.moment now ss (omega (arith, at.0)) at.1

pub rise_next : (first now : ℕ) (samples : List Sample) (log : Log) → NeverFall first samples
    → last_sample_moment first samples ≤ now → NeverFall first (samples ++ kept_now samples_by now log)
rise_next first now samples log rise last =
    last_fall first now samples (kept_now samples_by now log) rise last
    (fall_at now now (kept_now samples_by now log) (omega arith) (taken_now now log))

pub last_next : (first now : ℕ) (samples : List Sample) (log : Log) → last_sample_moment first samples ≤ now
    → last_sample_moment first (samples ++ kept_now samples_by now log) ≤ now
last_next first now samples log last =
    last_upto first now samples (kept_now samples_by now log) last
    (last_at now now (kept_now samples_by now log) (omega arith) (taken_now now log))

-- The weights in force

line_there : (plan : Plan) (ticks : List Tick) (samples : List Sample) (now n k : ℕ) (functions : List FunctionPlan)
    (function : FunctionPlan) → slice_get functions k ≡ Some function
    → slice_get (lines_from plan ticks samples now n functions) k
    ≡ Some (line_of plan ticks samples now (n + k) function)
line_there plan ticks samples now n k [] function found = absurd (none-some function found)
line_there plan ticks samples now n zero (g ∷ gs) function found =
    let place : n ≡ n + 0 = omega arith in
    ap (λ (h : FunctionPlan). Some (line_of plan ticks samples now n h)) (same_Some g function found)
    ∙ ap (λ f. Some (line_of plan ticks samples now f function)) place
line_there plan ticks samples now n (suc k) (g ∷ gs) function found =
    let place : n + 1 + k ≡ n + suc k = omega arith in
    line_there plan ticks samples now (n + 1) k gs function found
    ∙ ap (λ f. Some (line_of plan ticks samples now f function)) place

weight_more : (f was : ℕ) (ticks : List Tick) (tick : Tick)
    → weight_after f was (ticks ++ tick ∷ []) ≡ weight_or (share_at tick f) (weight_after f was ticks)
weight_more f was [] tick = refl
weight_more f was (t ∷ ts) tick = weight_more f (weight_or (share_at t f) was) ts tick

pub in_force_next : (plan : Plan) (ticks : List Tick) (samples : List Sample) (now : ℕ)
    → LastInForce plan (ticks ++ tick_at plan ticks samples now ∷ [])
in_force_next plan ticks samples now tick found =
    let new : Tick = tick_at plan ticks samples now in
    let same : new ≡ tick = same_Some new tick (sym (last_of_more ticks new) ∙ found) in
    subst (λ (t : Tick). AreInForce plan (ticks ++ new ∷ []) t.lines) same
    (record {
      long = length_lines plan ticks samples now 0 plan.functions;
      each = λ f function line there at.
          let is : slice_get new.lines f ≡ Some (line_of plan ticks samples now f function) =
          line_there plan ticks samples now 0 f plan.functions function there
          ∙ ap (λ n. Some (line_of plan ticks samples now n function)) (omega arith) in
          let line_is : line_of plan ticks samples now f function ≡ line =
          same_Some (line_of plan ticks samples now f function) line (sym is ∙ at) in
          ap (λ (l : TickLine). l.weight) (sym line_is)
          ∙ sym (weight_more f function.weight ticks new
          ∙ ap (λ found. weight_or (share_in found) (weight_after f function.weight ticks)) is);
    })

-- New ends

pub mails_begin : (site : BoardView) (mails : List Mail) (token : TokenView) → token.board ≡ site.id
    → token.log ≡ [] → AreNew (new_mail site.layout) mail_of site.layout.functions mails
    → AreMailHeads site mails token
mails_begin site mails token board fresh =
    ends_begin IsMailHeadAt (new_mail site.layout) site mail_of site.layout.functions mails token
    (λ f less. record {
      ring_is = refl;
      own = λ mine. record {
        numbers = tt;
        end = record {
          board = board;
          known = less;
          mine = mine;
          stands = record {
            inside = omega arith;
            cell = ap (λ (log : Log). length (popped_in (mail_of f) log) % 64) (sym fresh);
            filled = ap (λ (log : Log). min (length (popped_in (mail_of f) log)) 64) (sym fresh);
          };
          based = refl;
        };
      };
    })

-- Before and behind a pass

-- where nothing but room was made
pub role_kept : (site : BoardView) (plan : Plan) (closed : Bool) (token : TokenView) (old new : TickRole)
    → KeepsRest old new → logged new ≡ logged old → ticked new ≡ ticked old
    → IsTickRole site plan false token old → IsTickRole site plan closed token new
role_kept site plan closed token old new rest samples ticks is = record {
  layout_of = is.layout_of;
  board = is.board;
  mine = is.mine;
  mails = subst (λ mails. AreMailsOf site mails token) (sym (ap (λ (v : Vec Mail Global). v.items) rest.mails)) is.mails;
  mail_room = subst (λ (v : Vec Mail Global). length plan.functions ≤ vec_capacity v) (sym rest.mails) is.mail_room;
  windows =
      subst (λ (z : ℕ × List Sample × List WindowState). AreWindows plan z.0 z.1 z.2)
      (λ i. ((sym rest.latest i).value, sym samples i, (sym rest.windows i).items)) is.windows;
  core = subst HasCoreRoom (sym rest.core) is.core;
  in_force = subst (LastInForce plan) (sym ticks) is.in_force;
  rise = subst (λ (z : ℕ × List Sample). NeverFall z.0 z.1) (λ i. (sym rest.first i, sym samples i)) is.rise;
  last_sample =
      subst (λ (z : ℕ × List Sample × ℕ). last_sample_moment z.0 z.1 ≤ z.2)
      (λ i. (sym rest.first i, sym samples i, (sym rest.latest i).value)) is.last_sample;
  last_tick =
      subst (λ (z : ℕ × List Tick × ℕ). last_moment z.0 z.1 ≤ z.2)
      (λ i. (sym rest.first i, sym ticks i, (sym rest.latest i).value)) is.last_tick;
  few = λ open_now. subst (λ ts. length ts < last_number) (sym ticks) (is.few refl);
}

-- the last tick's moment
last_tick_more : (first now : ℕ) (ticks : List Tick) (tick : Tick) → tick.moment ≤ now
    → last_moment first (ticks ++ tick ∷ []) ≤ now
last_tick_more first now [] tick upto = upto
last_tick_more first now (t ∷ ts) tick upto = last_tick_more t.moment now ts tick upto

pub last_tick_next : (plan : Plan) (first now : ℕ) (due : Bool) (samples : List Sample) (ticks : List Tick)
    → last_moment first ticks ≤ now
    → last_moment first (ticks ++ ticks_where due (tick_at plan ticks samples now)) ≤ now
last_tick_next plan first now true samples ticks upto =
    last_tick_more first now ticks (tick_at plan ticks samples now) (omega arith)
last_tick_next plan first now false samples ticks upto =
    subst (λ ts. last_moment first ts ≤ now) (sym (append-nil ticks)) upto

pub in_force_where : (plan : Plan) (now : ℕ) (due : Bool) (samples : List Sample) (ticks : List Tick)
    → LastInForce plan ticks → LastInForce plan (ticks ++ ticks_where due (tick_at plan ticks samples now))
in_force_where plan now true samples ticks last = in_force_next plan ticks samples now
in_force_where plan now false samples ticks last = subst (LastInForce plan) (sym (append-nil ticks)) last

-- a role that isn't closing makes none but ticks that are due
pub few_next : (plan : Plan) (first now : ℕ) (closing due : Bool) (samples : List Sample) (ticks : List Tick)
    → due ≡ (closing || is_due plan first now ticks) → length ticks < last_number → closing ≡ false
    → length (ticks ++ ticks_where due (tick_at plan ticks samples now)) < last_number
few_next plan first now closing false samples ticks due_is few open_now =
    omega (arith, length-append ticks (ticks_where false (tick_at plan ticks samples now)), few)
few_next plan first now closing true samples ticks due_is few open_now =
    let due : is_due plan first now ticks ≡ true =
    sym (due_is ∙ ap (λ b. b || is_due plan first now ticks) open_now) in
    let parts = and_parts (nat_le plan.tick (now - last_moment first ticks)) (nat_lt (length ticks + 1) last_number) due in
    omega (
      arith,
      length-append ticks (ticks_where true (tick_at plan ticks samples now)),
      ltb-true (length ticks + 1) last_number parts.1,
    )

pub mails_posted : (site : BoardView) (plan : Plan) (now : ℕ) (due : Bool) (samples : List Sample) (ticks : List Tick)
    (mails : List Mail) (before after : TokenView) → IsLayoutOf plan site.layout
    → after ≡ grown (posts_where due (lines_of plan ticks samples now)) before.hand before
    → AreMailHeads site mails before → AreMailHeads site mails after
mails_posted site plan now due samples ticks mails before after layout_of posted are =
    mail_heads_grown site mail_of site.layout.functions (posts_where due (lines_of plan ticks samples now)) before.hand
    before after posted mails
    (λ f less.
    posts_popped site.layout.functions (number f) (posts_where due (lines_of plan ticks samples now))
    (posts_where_are site.layout.functions due (lines_of plan ticks samples now)
    (omega (arith, length_lines plan ticks samples now 0 plan.functions, layout_of.functions))))
    are

-- the ends are there
pub mails_there : (site : BoardView) (plan : Plan) (mails : List Mail) (token : TokenView) → IsLayoutOf plan site.layout
    → AreMailHeads site mails token → AreMailsOf site mails token
mails_there site plan mails token layout_of are = record {
  begun = λ some. are;
  fresh = λ none.
      let some : 1 ≤ length plan.functions = plan.kept.function_count.0 in
      absurd (omega (arith, some, layout_of.functions, are.long, ap length none));
}

pub and_open : (closing complete : Bool) → complete ≡ true → (closing && complete) ≡ false → closing ≡ false
and_open false complete is open_now = refl
and_open true complete is open_now = absurd (true≢false (sym is ∙ open_now))
