-- The run without a frame meets what `accounted` asks, so it has its account.
use Rattle.std.proofs.Common.{◌≡◌, ℕ, zero, suc, ◌<◌, true, List, [], ◌∷◌, refl, sym, ap, subst, arith, Some, None}
use Rattle.std.specs.Prelude.{slice_get}
use Rattle.std.proofs.lemmas.Bool.{both_ways}
use Rattle.std.proofs.lemmas.List.Elements.{All-nil, All-replicate}
use Rattle.onvm_base.specs.declared.ids.FnId.{FnId}
use Rattle.load_estimate.specs.declared.tick.Tick.{Tick}
use Rattle.onvm_core.proofs.Walk.{layout, f}
use Rattle.onvm_core.proofs.WalkEnds.{walk_is_setting}
use Rattle.onvm_core.specs.Blocks.{IsOfBlocks}
use Rattle.onvm_core.specs.Journals.{Handling, GoesThrough, journal}
use Rattle.onvm_core.specs.Layouts.{IsLayout, core_role}
use Rattle.onvm_core.specs.Settings.{IsSetting}
use Rattle.onvm_promises.specs.Lines.{weights_posted}
use Rattle.onvm_promises.specs.Passes.{IsTickPass}
use Rattle.onvm_promises.specs.Rests.{IsSettledFeeder}
use Rattle.onvm_promises.specs.Sampling.{IsSampled, is_cost}
use Rattle.onvm_promises.specs.Stretches.{log_until, stretch}
use Rattle.onvm_promises.specs.Ticks.{tick_at, weights_in}
use Rattle.onvm_session.proofs.Accounted.{accounted, none_left}
use Rattle.onvm_session.proofs.IdleRound.{setting, logs, final, core_log, tick_log, lead_is, whole, settled, send_settled, core_is, send_is, tick_is, only}
use Rattle.onvm_session.proofs.IdleRun.{past, history_is}
use Rattle.onvm_session.specs.Accounts.{RunView, AreShares, IsAccounted, aged_of}
use Rattle.onvm_session.specs.Endings.{IsClosed, HasEnded, HasLists}
use Rattle.onvm_session.specs.Moments.{moment_in}
use Rattle.onvm_session.specs.SerialTicks.{AreSerialTicks}
use Rattle.onvm_session.specs.Turns.{Turn, joined_count, turn_steps}
use Rattle.onvm_session.specs.Views.{turns_in}

abbrev ticks : List Tick
ticks = tick_at setting.plan [] [] 0 ∷ []

abbrev run : RunView
run = record {
  records = [];
  sent = [];
  posts = [];
  samples = [];
  ticks = ticks;
  yields = 0;
  lost = 0;
  left = 0;
  final = final;
}

abbrev moments : ℕ → ℕ → ℕ
moments role number = moment_in layout (turn_steps logs (turns_in final)) role number

abbrev acts : ℕ → Unit {0} → Handling → Unit {0} → Type 0
acts g s h t = ⊥

ranges : IsLayout layout
ranges = record {
  ports = (omega arith, omega arith);
  transmit = (omega arith, omega arith);
  cores = (omega arith, omega arith);
  functions = (omega arith, omega arith);
  buffers = (omega arith, omega arith);
  ring = (omega arith, omega arith);
  output = (omega arith, omega arith);
  places = refl;
  core_of = All-replicate (λ core. core < 1) 32 0 (omega arith);
}

idle_is_setting : IsSetting setting
idle_is_setting = record {
  layout = walk_is_setting.layout;
  numbered = λ port done e found. absurd (let off : None ≡ Some e = found in cc);
  ports = All-nil _;
  chains = All-nil _;
  few = λ port. omega arith;
}

closed : IsClosed setting run
closed = record { past = past; history = history_is; left = sym (none_left setting past (λ buf known. refl)) }

blocks_are : (role : ℕ) → role < 4 → IsOfBlocks setting role (logs role)
blocks_are zero less = tt
blocks_are (suc zero) less = (send_is (λ pass g. true)).rests.blocks
blocks_are (suc (suc zero)) less = core_is.rests.blocks
blocks_are (suc (suc (suc zero))) less = tick_is.0.blocks
blocks_are (suc (suc (suc (suc n)))) less = absurd (omega (arith, less))

feeders_are : (feeder : ℕ) → feeder < 2
    → IsSettledFeeder setting feeder (aged_of setting moments logs feeder) (logs feeder)
feeders_are zero less = settled 0 (aged_of setting moments logs 0)
feeders_are (suc zero) less = send_settled (aged_of setting moments logs 1)
feeders_are (suc (suc n)) less = absurd (omega (arith, less))

closes : (t : Turn) (ts : List Turn) → turns_in final ≡ t ∷ ts
    → IsTickPass setting t.role (log_until (joined_count t.role ts) (logs t.role))
    (stretch (joined_count t.role ts) t.count (logs t.role))
closes t ts e =
    let head : ◌≡◌ {A = Turn} (record { role = 3; count = 2 }) t = cc in
    let rest : ◌≡◌ {A = List Turn} (record { role = 3; count = 1 } ∷ record { role = 1; count = 1 }
    ∷ record { role = 2; count = 4 } ∷ record { role = 0; count = 0 } ∷ []) ts = cc in
    subst (λ (u : Turn).
    IsTickPass setting u.role (log_until (joined_count u.role ts) (logs u.role))
    (stretch (joined_count u.role ts) u.count (logs u.role))) head
    (subst (λ (us : List Turn).
    IsTickPass setting 3 (log_until (joined_count 3 us) (logs 3)) (stretch (joined_count 3 us) 2
    (logs 3))) rest tick_is.0)

mails : IsSampled is_cost setting.plan f core_log
mails = record {
  counted = (tt, (tt, (tt, (tt, tt))));
  timed = (tt, (tt, (tt, (tt, tt))));
  even = ((λ e. refl), ((λ e. refl), ((λ e. refl), ((λ e. refl), tt))));
  even_now = refl;
  none_left = refl;
}

serial_is : AreSerialTicks setting.plan 1 [] ticks
serial_is = record { moments = refl; taken = λ less at t found. taken_is at t found }
  where
    taken_is : (at : ℕ) (t : Tick) → slice_get ticks at ≡ Some t → t.taken ≡ 0
    taken_is zero t found = let same : ◌≡◌ {A = Tick} (tick_at setting.plan [] [] 0) t = cc in
        ap (λ (u : Tick). u.taken) (sym same)
    taken_is (suc n) t found = absurd (let off : None ≡ Some t = found in cc)

ended : HasEnded true (λ n. ⊥) acts (λ g. tt) setting moments run
ended = record {
  lead = lead_is;
  blocks = blocks_are;
  feeders = feeders_are;
  whole = λ e. whole (aged_of setting moments logs);
  timed = λ role number less. refl;
  recorded = refl;
  closing = closes;
  journals = λ g known. (
    tt,
    subst (λ (h : FnId). GoesThrough (acts h.0) tt (journal h (logs (core_role layout h.0))) tt)
        (only g known) refl,
  );
}

lists : HasLists setting moments run
lists = record {
  records = λ test. refl;
  records_ascend = λ i j x y less one two. absurd (let off : None ≡ Some x = one in cc);
  sent = λ test. refl;
  sent_ascend = λ i j x y less one two. absurd (let off : None ≡ Some x = one in cc);
  posts = refl;
  yields = refl;
  lost = refl;
}

shares : AreShares true (λ n. ⊥) is_cost setting moments run
shares = record {
  mailed = λ g known.
      subst (λ (h : FnId). IsSampled is_cost setting.plan h (logs (core_role layout h.0))) (only g known) mails;
  samples = refl;
  never_fall = tt;
  first = 0;
  ticks = record {
    made = [];
    closing = tick_at setting.plan [] [] 0;
    parts = refl;
    are = (refl, omega arith, refl, tt);
    apart = tt;
    later = omega arith;
    rise = (omega arith, tt);
    all = refl;
    posted = λ g known.
        subst (λ (h : FnId). weights_in h tick_log ≡ weights_posted h.0 ticks) (only g known) refl;
  };
  serial_ticks = λ e. (refl, (1, serial_is));
  told_ticks = λ e. absurd (both_ways true e refl);
}

idle_accounted : IsAccounted true (λ n. ⊥) is_cost acts (λ g. tt) setting run
idle_accounted =
    accounted true (λ n. ⊥) is_cost acts (λ g. tt) setting moments run ranges idle_is_setting closed ended lists shares
