-- The serial run under overload has its account: three frames were sent, one was lost to a full lane, and one was
-- throttled by a mark that a reading of the age had raised. Its tick role makes the closing turn, and the headline's
-- law gives the account.
use Rattle.std.proofs.Common.{◌≡◌, ℕ, zero, suc, ◌<◌, true, inr, List, [], ◌∷◌, refl, sym, subst, arith, Some, None}
use Rattle.std.specs.Prelude.{slice_get}
use Rattle.onvm_base.specs.declared.frame.SentFrame.{SentFrame}
use Rattle.onvm_base.specs.declared.ids.FnId.{FnId}
use Rattle.onvm_base.specs.declared.ids.FrameId.{FrameId}
use Rattle.onvm_base.specs.declared.ids.RingId.TheVariants.{Lane}
use Rattle.onvm_base.specs.declared.outcome.Outcome.TheVariants.{RingFull, Sent, Throttled}
use Rattle.onvm_base.specs.declared.outcome.Record.{Record}
use Rattle.onvm_core.specs.Logs.{log_of}
use Rattle.onvm_core.proofs.Crowd.{f}
use Rattle.onvm_core.proofs.Steps.{◌◂◌}
use Rattle.load_estimate.specs.declared.tick.Share.{Share}
use Rattle.load_estimate.specs.declared.tick.Tick.{Tick}
use Rattle.onvm_promises.specs.Lines.{weights_posted}
use Rattle.onvm_promises.specs.Roles.{IsTickPromise}
use Rattle.onvm_promises.specs.Sampling.{is_cost}
use Rattle.onvm_promises.specs.Ticks.{weights_in}
use Rattle.onvm_promises.specs.declared.pass.Pass.TheVariants.{Did}
use Rattle.onvm_promises.proofs.ExamplePromises.{counts}
use Rattle.onvm_session.specs.Accounts.{IsAccounted, RunView}
use Rattle.onvm_session.specs.Endings.{HasLists, IsClosed, Closes, closing_moments}
use Rattle.onvm_session.specs.Lists.{Ascends, ComesBefore}
use Rattle.onvm_session.specs.Sessions.{Keeps, after_turn}
use Rattle.onvm_session.proofs.Accounted.{none_left}
use Rattle.onvm_session.proofs.Done.{done}
use Rattle.onvm_session.proofs.OverloadCore.{only}
use Rattle.onvm_session.proofs.OverloadPlan.{e1, e2, e3, e4, e5, ranges, setting, setting_is}
use Rattle.onvm_session.proofs.OverloadPromises.{three_samples, three_sent}
use Rattle.onvm_session.proofs.OverloadSession.{third_tick, third_tick_holds, tick_keeps}
use Rattle.onvm_session.proofs.OverloadSteps.{all_back, past, past_is_lawful}
use Rattle.onvm_session.proofs.OverloadTick.{closing_is, tick_log, closing_pass, three_taken}

-- What the run hands back

abbrev whole_share : Share
whole_share = record { num = 300; den = 300; weight = 1024 }

abbrev tick : Tick
tick = record {
  number = 1;
  moment = 2000;
  taken = 3;
  lines =
      record { arrivals = 3; median = Some 100; share = Some whole_share; weight = 1024 }
      ∷ [];
}

abbrev pub run : RunView
run = record {
  records = record { frame = e1.frame; outcome = Sent 0 }
      ∷ record { frame = e2.frame; outcome = Sent 0 }
      ∷ record { frame = e3.frame; outcome = Sent 0 }
      ∷ record { frame = e4.frame; outcome = RingFull (Lane f 0) }
      ∷ record { frame = e5.frame; outcome = Throttled 0 1 f }
      ∷ [];
  sent = three_sent.outcomes.sent;
  posts = record { feeder = 0; number = 1; moment = 1000; bits = 1 } ∷ [];
  samples = three_samples;
  ticks = tick ∷ [];
  yields = 0;
  lost = 0;
  left = 0;
  final = after_turn 3 15 tick_log third_tick.view;
}

-- The closing turn, at the last round's moment

abbrev closing_keeps : Keeps
closing_keeps = tick_keeps three_samples (tick ∷ [])

closing_turn : IsTickPromise setting 3 0 2000 true (third_tick.moments 3) three_taken tick_log closing_keeps.samples []
    closing_keeps.ticks (Did 1)
closing_turn = record {
  added = closing_pass;
  grown = refl;
  so_far = record { blocks = closing_is.blocks; kept = refl };
  ticked = refl;
  posts = λ g known.
      subst (λ (h : FnId). weights_in h closing_pass ≡ weights_posted h.0 (tick ∷ [])) (only g known) refl;
  whole = λ e. closing_is;
  tells = (omega arith, refl);
}

closes : Closes true (λ n. ⊥) setting third_tick.moments 0 third_tick_holds.0 third_tick.view third_tick.keeps 15 2000
    tick_log closing_keeps run
closes = record {
  answer = Did 1;
  pass = closing_turn;
  complete = refl;
  at = (refl, omega arith, refl);
  view = refl;
  samples = refl;
  ticks = refl;
}

-- The board and the lists

logs_are : (role : ℕ) → role < 4 → run.final.logs role ≡ log_of role past
logs_are zero less = refl
logs_are (suc zero) less = refl
logs_are (suc (suc zero)) less = refl
logs_are (suc (suc (suc zero))) less = refl
logs_are (suc (suc (suc (suc n)))) less = absurd (omega (arith, less))

closed : IsClosed setting run
closed = record {
  past = past;
  history = record { lawful = past_is_lawful; lead = refl; logs = logs_are; counts = refl };
  left = sym (none_left setting past all_back);
}

-- each of these comes behind the frame
abbrev AllBehind : {A : Type 0} → (A → FrameId) → A → List A → Type 0
AllBehind frame x [] = Unit {0}
AllBehind frame x (y ∷ ys) = ComesBefore (frame x) (frame y) × AllBehind frame x ys

behind : {A : Type 0} (frame : A → FrameId) (x : A) (ys : List A) (j : ℕ) (y : A)
    → AllBehind frame x ys → slice_get ys j ≡ Some y
    → ComesBefore (frame x) (frame y)
behind frame x [] j y all found = absurd (let off : None ≡ Some y = found in cc)
behind {A} frame x (z ∷ zs) zero y all found =
    let same : z ≡ y = cc in subst (λ (a : A). ComesBefore (frame x) (frame a)) same all.0
behind frame x (z ∷ zs) (suc j) y all found = behind frame x zs j y all.1 found

-- each frame comes before all later ones
abbrev IsRising : {A : Type 0} → (A → FrameId) → List A → Type 0
IsRising frame [] = Unit {0}
IsRising frame (x ∷ xs) = AllBehind frame x xs × IsRising frame xs

ascends : {A : Type 0} (frame : A → FrameId) (xs : List A) → IsRising frame xs → Ascends frame xs
ascends frame [] all i j a b less at_i at_j = absurd (let off : None ≡ Some a = at_i in cc)
ascends frame (x ∷ xs) all i zero a b less at_i at_j = absurd (omega (arith, less))
ascends {A} frame (x ∷ xs) all zero (suc j) a b less at_i at_j =
    let same : x ≡ a = cc in
    subst (λ (y : A). ComesBefore (frame y) (frame b)) same (behind frame x xs j b all.0 at_j)
ascends frame (x ∷ xs) all (suc i) (suc j) a b less at_i at_j =
    ascends frame xs all.1 i j a b (omega (arith, less)) at_i at_j

records_ascend : Ascends (λ (told : Record). told.frame) run.records
records_ascend =
    ascends (λ (told : Record). told.frame) run.records
    ((inr (refl, omega arith) ◂ inr (refl, omega arith) ◂ inr (refl, omega arith) ◂ inr (refl, omega arith) ◂ tt)
    ◂ (inr (refl, omega arith) ◂ inr (refl, omega arith) ◂ inr (refl, omega arith) ◂ tt)
    ◂ (inr (refl, omega arith) ◂ inr (refl, omega arith) ◂ tt)
    ◂ (inr (refl, omega arith) ◂ tt)
    ◂ tt
    ◂ tt)

sent_ascend : Ascends (λ (sent : SentFrame). sent.frame) run.sent
sent_ascend =
    ascends (λ (sent : SentFrame). sent.frame) run.sent
    ((inr (refl, omega arith) ◂ inr (refl, omega arith) ◂ tt) ◂ (inr (refl, omega arith) ◂ tt) ◂ tt ◂ tt)

lists : HasLists setting (closing_moments setting third_tick.moments third_tick.view 2000) run
lists = record {
  records = λ test. omega arith;
  records_ascend = records_ascend;
  sent = λ test. omega arith;
  sent_ascend = sent_ascend;
  posts = refl;
  yields = refl;
  lost = refl;
}

pub overload_accounted : IsAccounted true (λ n. ⊥) is_cost counts (λ g. 0) setting run
overload_accounted =
    done true (λ n. ⊥) counts (λ g. 0) (λ g. 3) is_cost setting third_tick.moments 0 third_tick_holds.0
    third_tick.view third_tick.keeps 15 2000 tick_log closing_keeps run ranges setting_is third_tick_holds.1
    closes closed lists refl
