-- The serial run of one frame meets what is asked of a run that has ended, so it has its account: the frame was sent,
-- its sample was taken, and a tick counts it.
use Rattle.std.proofs.Common.{◌≡◌, ℕ, zero, suc, ◌<◌, ◌≤◌, true, false, List, [], ◌∷◌, refl, sym, ap, subst, arith, Some, None}
use Rattle.std.specs.Prelude.{◌==◌, length, slice_get}
use Rattle.std.proofs.lemmas.Bool.{both_ways, ne_eqb}
use Rattle.std.proofs.lemmas.List.Elements.{All-replicate}
use Rattle.std.proofs.lemmas.Option.{slice_get_within}
use Rattle.onvm_base.specs.declared.frame.SentFrame.{SentFrame}
use Rattle.onvm_base.specs.declared.ids.FnId.{FnId}
use Rattle.onvm_base.specs.declared.ids.FrameId.{FrameId}
use Rattle.onvm_base.specs.declared.limits.TheConstants.{MAX_PORT_FRAMES}
use Rattle.onvm_base.specs.declared.outcome.Outcome.TheVariants.{Sent}
use Rattle.onvm_base.specs.declared.outcome.Record.{Record}
use Rattle.onvm_core.specs.declared.entry.Entry.{Entry}
use Rattle.onvm_core.specs.Blocks.{IsOfBlocks}
use Rattle.onvm_core.specs.Journals.{GoesThrough, journal}
use Rattle.onvm_core.specs.Layouts.{IsLayout, core_role}
use Rattle.onvm_core.specs.Logs.{IsNumbered, entries_of_port}
use Rattle.onvm_core.specs.Settings.{IsSetting}
use Rattle.onvm_core.proofs.Plans.{one}
use Rattle.onvm_core.proofs.Steps.{◌◂◌}
use Rattle.onvm_core.proofs.Walk.{entered, f, layout}
use Rattle.onvm_core.proofs.WalkLogs.{entry, setting}
use Rattle.load_estimate.specs.declared.sample.Sample.{Sample}
use Rattle.load_estimate.specs.declared.tick.Share.{Share}
use Rattle.load_estimate.specs.declared.tick.Tick.{Tick}
use Rattle.onvm_promises.specs.Lines.{weights_posted}
use Rattle.onvm_promises.specs.Passes.{IsTickPass}
use Rattle.onvm_promises.specs.Rests.{IsSettledFeeder}
use Rattle.onvm_promises.specs.Sampling.{IsSampled, is_cost}
use Rattle.onvm_promises.specs.Stretches.{log_until, stretch}
use Rattle.onvm_promises.specs.Ticks.{weights_in}
use Rattle.onvm_promises.proofs.ExamplePasses.{moved_is, moved_settled, only, received_is, received_settled, served, served_is}
use Rattle.onvm_promises.proofs.ExamplePromises.{counts}
use Rattle.onvm_session.specs.Accounts.{AreShares, IsAccounted, RunView, aged_of}
use Rattle.onvm_session.specs.Endings.{HasEnded, HasLists, IsClosed}
use Rattle.onvm_session.specs.Lists.{Ascends}
use Rattle.onvm_session.specs.Moments.{moment_in}
use Rattle.onvm_session.specs.SerialTicks.{AreSerialTicks, logged_by}
use Rattle.onvm_session.specs.Turns.{Turn, joined_count, turn_steps}
use Rattle.onvm_session.specs.Views.{turns_in}
use Rattle.onvm_session.proofs.Accounted.{accounted, none_left}
use Rattle.onvm_session.proofs.ExampleSteps.{all_back, history_is, past}
use Rattle.onvm_session.proofs.ExampleTurns.{closing_is, final, lead_is, logs, tick_log, whole}

-- What the run hands back

abbrev pub sample : Sample
sample = record { function = f; moment = 0; count = 1; time = 100 }

abbrev pub whole_share : Share
whole_share = record { num = 100; den = 100; weight = 1024 }

abbrev pub tick : Tick
tick = record {
  number = 1;
  moment = 0;
  taken = 1;
  lines =
      record { arrivals = 1; median = Some 100; share = Some whole_share; weight = 1024 }
      ∷ [];
}

abbrev pub run : RunView
run = record {
  records = record { frame = entered.frame; outcome = Sent 0 } ∷ [];
  sent = record { frame = entered.frame; stamp = entered.stamp; packet = entered.packet } ∷ [];
  posts = [];
  samples = sample ∷ [];
  ticks = tick ∷ [];
  yields = 0;
  lost = 0;
  left = 0;
  final = final;
}

abbrev moments : ℕ → ℕ → ℕ
moments role number = moment_in layout (turn_steps logs (turns_in final)) role number

-- The setting is one of a run

ranges : IsLayout layout
ranges = record {
  ports = (omega arith, omega arith);
  transmit = (omega arith, omega arith);
  cores = (omega arith, omega arith);
  functions = (omega arith, omega arith);
  buffers = (omega arith, omega arith);
  ring = (omega arith, omega arith);
  output = (omega arith, omega arith);
  places = refl;
  core_of = All-replicate (λ core. core < 1) 32 0 (omega arith);
}

apart : (k : ℕ) → (0 == suc k) ≡ false
apart k = ne_eqb 0 (suc k) (λ e. omega (arith, e))

numbered : IsNumbered setting
numbered zero zero e found = ap (λ (x : Entry). x.frame) (sym same)
  where
    same : entry ≡ e
    same = cc
numbered zero (suc n) e found = absurd (let off : None ≡ Some e = found in cc)
numbered (suc p) done e found = absurd (let off : None ≡ Some e = (rw (apart p) at found) in cc)

few : (port : ℕ) → length (entries_of_port port setting.entries) ≤ MAX_PORT_FRAMES
few zero = omega arith
few (suc p) = rw (apart p) (omega arith)

setting_is : IsSetting setting
setting_is = record {
  layout = record {
    ports = refl;
    transmit = refl;
    cores = refl;
    functions = refl;
    buffers = refl;
    ring = refl;
    output = refl;
    core_of = refl;
  };
  numbered = numbered;
  ports = one (λ (e : Entry). e.frame.port.0 < 1) entry (omega arith);
  chains = one (λ (e : Entry). e.chain.0 < 1) entry (omega arith);
  few = few;
}

-- The board, the logs and the lists

closed : IsClosed setting run
closed = record { past = past; history = history_is; left = sym (none_left setting past (λ b known. all_back b)) }

blocks_are : (role : ℕ) → role < 4 → IsOfBlocks setting role (logs role)
blocks_are zero less = (received_is (λ pass g. true)).rests.blocks
blocks_are (suc zero) less = (moved_is (λ pass g. true)).rests.blocks
blocks_are (suc (suc zero)) less = served_is.rests.blocks
blocks_are (suc (suc (suc zero))) less = closing_is.blocks
blocks_are (suc (suc (suc (suc n)))) less = absurd (omega (arith, less))

feeders_are : (feeder : ℕ) → feeder < 2
    → IsSettledFeeder setting feeder (aged_of setting moments logs feeder) (logs feeder)
feeders_are zero less = received_settled (aged_of setting moments logs 0)
feeders_are (suc zero) less = moved_settled (aged_of setting moments logs 1)
feeders_are (suc (suc n)) less = absurd (omega (arith, less))

abbrev earlier_turns : List Turn
earlier_turns =
    record { role = 3; count = 2 } ∷ record { role = 1; count = 3 } ∷ record { role = 2; count = 8 }
    ∷ record { role = 0; count = 5 } ∷ []

closes : (t : Turn) (ts : List Turn) → turns_in final ≡ t ∷ ts
    → IsTickPass setting t.role (log_until (joined_count t.role ts) (logs t.role))
    (stretch (joined_count t.role ts) t.count (logs t.role))
closes t ts e =
    let head : ◌≡◌ {A = Turn} (record { role = 3; count = 4 }) t = cc in
    let rest : earlier_turns ≡ ts = cc in
    subst (λ (u : Turn).
    IsTickPass setting u.role (log_until (joined_count u.role ts) (logs u.role))
    (stretch (joined_count u.role ts) u.count (logs u.role))) head
    (subst (λ (us : List Turn).
    IsTickPass setting 3 (log_until (joined_count 3 us) (logs 3)) (stretch (joined_count 3 us) 4 (logs 3))) rest
    closing_is)

ended : HasEnded true (λ n. ⊥) counts (λ g. 0) setting moments run
ended = record {
  lead = lead_is;
  blocks = blocks_are;
  feeders = feeders_are;
  whole = λ e. whole (aged_of setting moments logs);
  timed = λ role number less. refl;
  recorded = refl;
  closing = closes;
  journals = λ g known. (
    1,
    subst (λ (h : FnId). GoesThrough (counts h.0) 0 (journal h (logs (core_role layout h.0))) 1) (only g known)
        (1, (refl, refl, refl), refl),
  );
}

-- a list of one ascends
one_ascends : {A : Type 0} (frame : A → FrameId) (x : A) → Ascends frame (x ∷ [])
one_ascends frame x i j a b less at_i at_j = absurd (omega (arith, less, slice_get_within (x ∷ []) j b at_j))

lists : HasLists setting moments run
lists = record {
  records = λ test. omega arith;
  records_ascend = one_ascends (λ (told : Record). told.frame) (record { frame = entered.frame; outcome = Sent 0 });
  sent = λ test. omega arith;
  sent_ascend = one_ascends (λ (sent : SentFrame). sent.frame)
      (record { frame = entered.frame; stamp = entered.stamp; packet = entered.packet });
  posts = refl;
  yields = refl;
  lost = refl;
}

-- The sample and the tick

never : {P : Type 0} → false ≡ true → P
never e = absurd (let off : false ≡ true = e in cc)

-- the one look at the weight word is the first act
mails : IsSampled is_cost setting.plan f served
mails = record {
  counted = served_is.rests.samples;
  timed = (100, refl, refl) ◂ tt ◂ tt ◂ tt ◂ tt ◂ tt ◂ tt ◂ tt ◂ tt;
  even = never ◂ never ◂ never ◂ never ◂ never ◂ never ◂ never ◂ (λ e. refl) ◂ tt;
  even_now = refl;
  none_left = refl;
}

taken_is : (at : ℕ) (t : Tick) → slice_get (tick ∷ []) at ≡ Some t → t.taken ≡ logged_by (sample ∷ []) t.moment
taken_is zero t found =
    let same : ◌≡◌ {A = Tick} tick t = cc in
    subst (λ (u : Tick). u.taken ≡ logged_by (sample ∷ []) u.moment) same refl
taken_is (suc n) t found = absurd (let off : None ≡ Some t = found in cc)

serial_is : AreSerialTicks setting.plan 1 (sample ∷ []) (tick ∷ [])
serial_is = record { moments = refl; taken = λ less. taken_is }

shares : AreShares true (λ n. ⊥) is_cost setting moments run
shares = record {
  mailed = λ g known.
      subst (λ (h : FnId). IsSampled is_cost setting.plan h (logs (core_role layout h.0))) (only g known) mails;
  samples = refl;
  never_fall = omega arith ◂ tt;
  first = 0;
  ticks = record {
    made = [];
    closing = tick;
    parts = refl;
    are = (refl, omega arith, refl, tt);
    apart = tt;
    later = omega arith;
    rise = omega arith ◂ tt;
    all = refl;
    posted = λ g known.
        subst (λ (h : FnId). weights_in h tick_log ≡ weights_posted h.0 (tick ∷ [])) (only g known) refl;
  };
  serial_ticks = λ e. (refl, (1, serial_is));
  told_ticks = λ e. absurd (both_ways true e refl);
}

pub one_frame_accounted : IsAccounted true (λ n. ⊥) is_cost counts (λ g. 0) setting run
one_frame_accounted =
    accounted true (λ n. ⊥) is_cost counts (λ g. 0) setting moments run ranges setting_is closed ended lists shares
