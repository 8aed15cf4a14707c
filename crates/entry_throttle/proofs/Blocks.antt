-- For callers: an admission is the first part of a block of a receive role.
use Rattle.std.proofs.Common.{◌≡◌, ◌∙◌, sym, ap, refl, subst, ℕ, zero, suc, ◌+◌, ◌/◌, ◌^◌, ◌<◌, ◌≤◌, List, [], ◌∷◌, ◌++◌, length, inr, arith, Option, Some, None}
use Rattle.std.specs.Prelude.{◌==◌, if◌then◌else◌}
use Rattle.std.proofs.lemmas.Bool.{eq-eqb, ne_eqb}
use Rattle.std.proofs.lemmas.List.{append-nil}
use Rattle.onvm_base.specs.declared.ids.FrameId.{FrameId}
use Rattle.onvm_base.specs.declared.outcome.Record.{Record}
use Rattle.onvm_core.specs.declared.entry.Entry.{Entry}
use Rattle.onvm_core.specs.declared.layout.Word.TheVariants.{Post}
use Rattle.onvm_core.specs.declared.step.Act.TheVariants.{Look}
use Rattle.onvm_core.specs.Layouts.{feeder_count}
use Rattle.onvm_core.specs.Logs.{Setting, Log, entry_after}
use Rattle.onvm_core.specs.Receiving.{MayAsk, MayReceiveFor, ReceivePhase, done_count, receive_after}
use Rattle.onvm_core.specs.Receiving.ReceivePhase.{Between, Asks, Seeks}
use Rattle.onvm_core.proofs.Lists.{if_met, if_unmet}
use Rattle.onvm_board.specs.Asking.{IsLowestHeld, masked_bits}
use Rattle.onvm_core.specs.Potential.{pushed_in}
use Rattle.onvm_board.specs.Tokens.{BoardView, TokenView, grown}
use Rattle.onvm_board.proofs.Judgements.{none_held}
use Rattle.onvm_promises.specs.Follows.{MayReceiveIn, ReceivesFrom, receive_phase_from}
use Rattle.onvm_promises.specs.Kept.{kept_now, records_by}
use Rattle.entry_throttle.specs.declared.answer.Admit.{Admit}
use Rattle.entry_throttle.specs.declared.answer.Admit.TheVariants.{Go, Hold}
use Rattle.entry_throttle.specs.Feeders.{FeederView, IsFeederOf}
use Rattle.entry_throttle.specs.Looks.{lane}
use Rattle.entry_throttle.proofs.OtherActs.{LeaveFeeder, feeder_grown}
use Rattle.entry_throttle.specs.Admissions.{AreWithout, FoundNone, IsAnswer, IsHeldBack, IsMaskOf, ask_phase, held_record, log_after_asks, token_after_asks}

-- a look that found no bit of the mask, and one that did

may_ask : (setting : Setting) (e : Entry) (k mask seen : ℕ) → IsMaskOf setting e mask → masked_bits mask seen ≡ 0
    → MayAsk setting e k (Post k) seen None
may_ask setting e k mask seen of nothing =
    (refl, λ f raised. none_held mask seen f nothing raised.bit (of.has f raised.of_chain))

may_hold : (setting : Setting) (e : Entry) (k mask seen post function : ℕ) → IsMaskOf setting e mask
    → post ≡ seen / 2 ^ 32 → IsLowestHeld mask seen function
    → MayAsk setting e k (Post k) seen (Some (held_record e.frame k post function))
may_hold setting e k mask seen post function of number low = (
  refl,
  record {
    function = function;
    raised = record { of_chain = of.only function low.asked; bit = low.raised };
    lowest = λ g less raised. low.lowest g less raised.bit (of.has g raised.of_chain);
    told_is = ap (λ (n : ℕ). held_record e.frame k n function) number;
  },
)

-- the token after looks at posts has grown by them
pub grown_by_asks : (values : List ℕ) (token : TokenView)
    → token_after_asks values token ≡ grown (log_after_asks values []) token.hand token
grown_by_asks [] token = refl
grown_by_asks (seen ∷ before) token =
    ap (λ (t : TokenView). record t { log = Look (Post (length before)) seen None ∷ t.log })
    (grown_by_asks before token)

-- they record nothing
asks_record_none : (values : List ℕ) → kept_now records_by 0 (log_after_asks values []) ≡ []
asks_record_none [] = refl
asks_record_none (seen ∷ before) = rw (asks_record_none before) refl

-- the acts of an admission: what they make of the token, that the pattern allows them, and where the role stands then
pub record IsAdmission (setting : Setting) (port done : ℕ) (records : List Record) (phase : ReceivePhase)
    (before after : TokenView) : Type 0 where
  pub added : Log
  pub grew : after ≡ grown added before.hand before
  pub follows : ReceivesFrom setting port (Between done) added
  pub stands : receive_phase_from setting (Between done) added ≡ phase
  pub recorded : kept_now records_by 0 added ≡ records

module _ (setting : Setting) (port done : ℕ) where
  asks_left : (k : ℕ) → suc k < feeder_count setting.layout → ask_phase setting done (suc k) ≡ Asks done (suc k)
  asks_left k less =
      if_unmet (suc k == feeder_count setting.layout) (Seeks done 0) (Asks done (suc k))
      (ne_eqb (suc k) (feeder_count setting.layout) (λ e. omega (arith, e, less)))

  ask_on : (k seen : ℕ) → k < feeder_count setting.layout
      → receive_after setting (ask_phase setting done k) (Look (Post k) seen None) ≡ ask_phase setting done (suc k)
  ask_on zero seen less = refl
  ask_on (suc k) seen less =
      ap (λ (p : ReceivePhase). receive_after setting p (Look (Post (suc k)) seen None)) (asks_left k less)
      ∙ ap (λ (n : ℕ). if n == feeder_count setting.layout then Seeks done 0 else Asks done n)
      (let e : suc k + 1 ≡ suc (suc k) = omega arith in e)

  held_on : (k seen : ℕ) (told : Record) → k < feeder_count setting.layout
      → receive_after setting (ask_phase setting done k) (Look (Post k) seen (Some told)) ≡ Between (done + 1)
  held_on zero seen told less = refl
  held_on (suc k) seen told less =
      ap (λ (p : ReceivePhase). receive_after setting p (Look (Post (suc k)) seen (Some told))) (asks_left k less)

  done_asks : (k : ℕ) → k < feeder_count setting.layout → done_count (ask_phase setting done k) ≡ done
  done_asks zero less = refl
  done_asks (suc k) less = ap done_count (asks_left k less)

  may_for : (e : Entry) (k seen : ℕ) (told : Option Record) → k < feeder_count setting.layout
      → MayAsk setting e k (Post k) seen told
      → MayReceiveFor setting port e (ask_phase setting done k) (Look (Post k) seen told)
  may_for e zero seen told less may = may
  may_for e (suc k) seen told less may =
      subst (λ (p : ReceivePhase). MayReceiveFor setting port e p (Look (Post (suc k)) seen told))
      (sym (asks_left k less)) may

  may_in : (e : Entry) (k seen : ℕ) (told : Option Record) → k < feeder_count setting.layout
      → entry_after setting port done ≡ Some e → MayAsk setting e k (Post k) seen told
      → MayReceiveIn setting port (ask_phase setting done k) (Look (Post k) seen told)
  may_in e k seen told less entry may =
      inr (
        e,
        subst (λ (n : ℕ). entry_after setting port n ≡ Some e) (sym (done_asks k less)) entry,
        may_for e k seen told less may,
      )

  asks_stand : (values : List ℕ) → length values ≤ feeder_count setting.layout
      → receive_phase_from setting (Between done) (log_after_asks values []) ≡ ask_phase setting done (length values)
  asks_stand [] fits = refl
  asks_stand (seen ∷ before) fits =
      ap (λ (p : ReceivePhase). receive_after setting p (Look (Post (length before)) seen None))
      (asks_stand before (omega (arith, fits)))
      ∙ ask_on (length before) seen (omega (arith, fits))

  asks_follow : (e : Entry) (mask : ℕ) (values : List ℕ) → entry_after setting port done ≡ Some e
      → IsMaskOf setting e mask → length values ≤ feeder_count setting.layout → AreWithout mask values
      → ReceivesFrom setting port (Between done) (log_after_asks values [])
  asks_follow e mask [] entry of fits free = tt
  asks_follow e mask (seen ∷ before) entry of fits free = (
    subst (λ (p : ReceivePhase). MayReceiveIn setting port p (Look (Post (length before)) seen None))
        (sym (asks_stand before (omega (arith, fits))))
        (may_in e (length before) seen None (omega (arith, fits)) entry
        (may_ask setting e (length before) mask seen of free.0)),
    asks_follow e mask before entry of (omega (arith, fits)) free.1,
  )

  -- every post was looked at, and a buffer is sought next
  pub admitted : (e : Entry) (mask : ℕ) (before after : TokenView) → entry_after setting port done ≡ Some e
      → IsMaskOf setting e mask → 0 < feeder_count setting.layout
      → FoundNone (feeder_count setting.layout) mask before after
      → IsAdmission setting port done [] (Seeks done 0) before after
  admitted e mask before after entry of some found =
      let all : length found.values ≡ feeder_count setting.layout = found.all in record {
        added = log_after_asks found.values [];
        grew = found.grew ∙ grown_by_asks found.values before;
        follows = asks_follow e mask found.values entry of (omega (arith, all)) found.free;
        stands = asks_stand found.values (omega (arith, all)) ∙ ap (ask_phase setting done) all
            ∙ last (feeder_count setting.layout) refl some;
        recorded = asks_record_none found.values;
      }
    where
      last : (n : ℕ) → n ≡ feeder_count setting.layout → 0 < n → ask_phase setting done n ≡ Seeks done 0
      last zero e some = absurd (omega (arith, some))
      last (suc n) e some =
          if_met (suc n == feeder_count setting.layout) (Seeks done 0) (Asks done (suc n)) (eq-eqb (suc n)
          (feeder_count setting.layout) e)

  -- the frame was held back: it is recorded, and its block has ended
  pub held : (e : Entry) (mask feeder post function : ℕ) (before after : TokenView)
      → entry_after setting port done ≡ Some e
      → IsMaskOf setting e mask → feeder < feeder_count setting.layout
      → IsHeldBack e.frame mask feeder post function before after
      → IsAdmission setting port done (held_record e.frame feeder post function ∷ []) (Between (done + 1)) before after
  held e mask feeder post function before after entry of below is =
      let long : length is.values ≡ feeder = is.earlier in
      let told : Record = held_record e.frame feeder post function in
      let asked = asks_stand is.values (omega (arith, long, below)) ∙ ap (ask_phase setting done) long in record {
        added = Look (Post feeder) is.seen (Some told) ∷ log_after_asks is.values [];
        grew =
            is.grew
            ∙ ap (λ (t : TokenView). record t { log = Look (Post feeder) is.seen (Some told) ∷ t.log })
            (grown_by_asks is.values before);
        follows = (
          subst (λ (p : ReceivePhase). MayReceiveIn setting port p (Look (Post feeder) is.seen (Some told))) (sym asked)
              (may_in e feeder is.seen (Some told) below entry
              (may_hold setting e feeder mask is.seen post function of is.number is.lowest)),
          asks_follow e mask is.values entry of (omega (arith, long, below)) is.free,
        );
        stands =
            ap (λ (p : ReceivePhase). receive_after setting p (Look (Post feeder) is.seen (Some told))) asked
            ∙ held_on feeder is.seen told below;
        recorded =
            ap (λ (records : List Record). records ++ told ∷ []) (asks_record_none is.values);
      }

-- What a feeder knows stays true over an admission

asks_leave : (feeder : ℕ) (values : List ℕ) → LeaveFeeder feeder (log_after_asks values [])
asks_leave feeder [] = record { pushes = λ f. refl; posts = refl }
asks_leave feeder (seen ∷ before) =
    let was = asks_leave feeder before in record {
      pushes = λ f. append-nil (pushed_in (lane f feeder) (log_after_asks before [])) ∙ was.pushes f;
      posts = was.posts;
    }

pub feeder_admitted : (board : BoardView) (feeder : FeederView) (frame : FrameId) (mask feeders : ℕ)
    (before after : TokenView) (answer : Admit) → IsAnswer frame mask feeders before after answer
    → IsFeederOf board feeder before → IsFeederOf board feeder after
feeder_admitted board feeder frame mask feeders before after Go found was =
    feeder_grown board feeder (log_after_asks found.values []) before.hand before after
    (found.grew ∙ grown_by_asks found.values before) (asks_leave feeder.number found.values) was
feeder_admitted board feeder frame mask feeders before after (Hold p post f) is was =
    let held = is.1 in
    let told : Record = held_record frame p post f.0 in
    let leave = asks_leave feeder.number held.values in
    feeder_grown board feeder (Look (Post p) held.seen (Some told) ∷ log_after_asks held.values []) before.hand
    before after
    (held.grew
    ∙ ap (λ (t : TokenView). record t { log = Look (Post p) held.seen (Some told) ∷ t.log })
    (grown_by_asks held.values before))
    (record {
      pushes = λ f. append-nil (pushed_in (lane f feeder.number) (log_after_asks held.values [])) ∙ leave.pushes f;
      posts = leave.posts;
    }) was
