-- A session of captures, from their opening to their shutting: done, or stopped.
use Rattle.std.proofs.Common.{◌≡◌, ℕ, ◌<◌, ◌≤◌, arith, Bool, true, List, ◌++◌, length, refl, sym, subst, Some, Option, Result, Ok, Err, inl, inr}
use Rattle.std.specs.Prelude.{IfErr, IfOk}
use Rattle.std.proofs.lemmas.Bool.{cases_lt}
use Rattle.onvm_base.specs.declared.ids.PortId.{PortId}
use Rattle.onvm_base.specs.declared.plan.Plan.{Plan}
use Rattle.onvm_core.specs.Journals.{Handling}
use Rattle.onvm_host.specs.Deeds.{Amounts, Deed}
use Rattle.onvm_host.specs.Files.{Entries}
use Rattle.rx_feed.specs.Standing.{Standing}
use Rattle.rx_feed.specs.declared.fault.FeedFault.{FeedFault}
use Rattle.rx_feed.specs.declared.fault.FeedFault.TheVariants as feed
use Rattle.rx_feed.specs.declared.feed.Feed.{Feed}
use Rattle.onvm_session.specs.Runs.{AllStand, AreHandedBack, HasStopped, IsDone, IsStop, StandsWith}
use Rattle.onvm_session.specs.declared.run.Run.{Run}
use Rattle.onvm_session.specs.declared.run.Stop.{Stop}
use Rattle.onvm_session.specs.declared.run.Stop.TheVariants as stop
use Rattle.onvm_session.proofs.Growing.{got_none}
use Rattle.command_words.specs.declared.capture.CaptureWord.{CaptureWord}
use Rattle.onvm_top.specs.Accounts.{IsReplayOf}
use Rattle.onvm_top.specs.Calls.{Adds, Opens}
use Rattle.onvm_top.specs.Captures.{AreFramesOf}
use Rattle.onvm_top.specs.Fault.{fault_of_feed, fault_of_stop}
use Rattle.onvm_top.specs.Inputs.{AreFeedsOf, shuts_of}
use Rattle.onvm_top.specs.Stops.{StopsAtCaptures}
use Rattle.onvm_top.proofs.Replaying.{file_at, frames_at, no_frames, reads_to, stand_all, three_ways}

-- what holds where a result is Ok holds of what it is
pub ok_is : {A E : Type 0} (P : A → Type 0) (result : Result A E) (done : A) → result ≡ Ok done → IfOk result P → P done
ok_is {A} {E} P result done is p = subst (λ (r : Result A E). IfOk r P) is p

pub err_is : {A E : Type 0} (P : E → Type 0) (result : Result A E) (fault : E) → result ≡ Err fault → IfErr result P → P fault
err_is {A} {E} P result fault is p = subst (λ (r : Result A E). IfErr r P) is p

module _ {I : Type 0} (name_of : I → List ℕ) (left_of : I → Option (List ℕ)) (takes_of : I → Amounts)
    (told : Option Entries) (plan : Plan) (captures : List CaptureWord) (feeds back : List (Feed I))
    (are : AreFeedsOf name_of left_of takes_of told captures feeds) (handed : AreHandedBack name_of feeds back)
    (few : length captures ≤ plan.ports) (before mid now : List Deed)
    (opened : Adds before mid (Opens captures)) (shut : now ≡ mid ++ shuts_of name_of left_of takes_of back) where
  -- each capture is good, and the run is of their frames
  pub replay_done : {S : Type 0} (serial : Bool) (may_tell : ℕ → Type 0) (cost_may_take : ℕ → ℕ → Type 0)
      (acts : ℕ → S → Handling → S → Type 0) (start : ℕ → S) (run : Run)
      → IsDone name_of left_of takes_of serial may_tell cost_may_take acts start plan feeds back run
      → Adds before now (λ deeds. IsReplayOf serial may_tell cost_may_take acts start told plan captures deeds run)
  replay_done serial may_tell cost_may_take acts start run done =
      let reads = reads_to name_of left_of takes_of told done.standings before mid now captures feeds back are handed
      (λ port below. done.stand port (omega (arith, below, few))) opened shut in (
        reads.0,
        reads.1,
        record {
          frames = λ port. (done.standings port).pulled;
          good = λ port. elim (cases_lt port plan.ports) [
            | inl known ↦
                frames_at name_of left_of takes_of told captures feeds back are port (done.standings port)
                (done.stand port known) (done.ended port known)
            | inr past ↦
                subst (λ (c : Option CaptureWord). AreFramesOf told c (done.standings port).pulled)
                (sym (got_none captures port (omega (arith, past, few))))
                (no_frames plan (λ p. (done.standings p).pulled) done.run_is.0 port done.run_is.1 past)
          ];
          account = record { run_is = done.run_is; accounted = done.accounted };
          counted = done.counted;
          standings = done.standings;
          ended = λ port below. done.ended port (omega (arith, below, few));
          pulled = λ port below. refl;
          calls = reads.2;
        },
      )

  -- without memory nothing is told of a port
  stopped_unready : AllStand name_of left_of takes_of plan feeds back
      → Adds before now (λ deeds. StopsAtCaptures captures told deeds (fault_of_stop stop.Memory))
  stopped_unready all =
      let pick = stand_all plan.ports (StandsWith name_of left_of takes_of feeds back) all.stand in
      let standings : ℕ → Standing = λ port. (pick port).0 in
      let reads = reads_to name_of left_of takes_of told standings before mid now captures feeds back are handed
      (λ port below. (pick port).1 (omega (arith, below, few))) opened shut in
      (reads.0, reads.1, inr (inr (standings, reads.2, inl refl)))

  -- the captures of ports below one that has a fault are good
  stopped_at : AllStand name_of left_of takes_of plan feeds back → (port : PortId) (cause : FeedFault)
      → HasStopped name_of left_of takes_of plan feeds back port.0 cause
      → Adds before now (λ deeds. StopsAtCaptures captures told deeds (fault_of_feed port cause))
  stopped_at all port cause stops =
      let P : ℕ → Standing → Type 0 = StandsWith name_of left_of takes_of feeds back in
      let Q : Standing → Type 0 = λ s. s.fault ≡ Some cause in
      let R : Standing → Type 0 = λ s. s.ended ≡ true in
      let pick = stand_all plan.ports (λ p s. P p s × (p ≡ port.0 → Q s) × (p < port.0 → R s))
      (three_ways plan.ports port.0 P Q R (stops.standing, stops.stands, stops.fault_is) stops.lower all.stand) in
      let standings : ℕ → Standing = λ p. (pick p).0 in
      let known = stops.known in
      let reads = reads_to name_of left_of takes_of told standings before mid now captures feeds back are handed
      (λ p below. ((pick p).1 (omega (arith, below, few))).0) opened shut in
      let here = (pick port.0).1 known in
      let fault = here.1 refl in
      let file = file_at name_of left_of takes_of told captures feeds back are port.0 (standings port.0) cause here.0
      fault in (
        reads.0,
        reads.1,
        inr (inr (
          standings,
          reads.2,
          inr (record {
            port = port;
            name = file.0.now;
            file = (file.0, file.1, refl);
            cause = cause;
            fault_is = refl;
            stands = fault;
            lower = λ p less.
                let at = (pick p).1 (omega (arith, less, known)) in
                let over = at.2 less in (
                  over,
                  frames_at name_of left_of takes_of told captures feeds back are p (standings p) at.0 over,
                );
          }),
        )),
      )

  pub replay_stopped : (why : Stop) → AllStand name_of left_of takes_of plan feeds back
      → IsStop name_of left_of takes_of plan feeds back why
      → Adds before now (λ deeds. StopsAtCaptures captures told deeds (fault_of_stop why))
  replay_stopped (stop.Read port) all is = stopped_at all port feed.Read (is port.0 feed.Read refl)
  replay_stopped (stop.Capture port fault) all is =
      stopped_at all port (feed.Capture fault) (is port.0 (feed.Capture fault) refl)
  replay_stopped (stop.TooMany port) all is = stopped_at all port feed.TooMany (is port.0 feed.TooMany refl)
  replay_stopped stop.Memory all is = stopped_unready all
