use Rattle.std.proofs.Common.{◌≡◌, ◌∙◌, sym, ap, subst, refl, List, [], ◌∷◌, ◌++◌, Ok, false, rules}
use Rattle.onvm_base.specs.declared.frame.Frame.{Frame}
use Rattle.pcap_in.specs.Reading.{Pulls, Reading}
use Rattle.pcap_in.specs.declared.pull.Pull.TheVariants as pull
use Rattle.rx_feed.specs.Streams.{WantsMore}
use Rattle.rx_feed.specs.History.{bytes_in, frames_in}
use Rattle.rx_feed.specs.Standing.{StandsSoFar}
use Rattle.rx_feed.specs.Streams.{IsFlow, waiting_of}
use Rattle.rx_feed.proofs.Flowing.{broken_flow, none_waits, pulled_flow, sound_flow, waits_none, wants_more}
use Rattle.rx_feed.proofs.Streaming.{so_far_of}
use Rattle.rx_feed.proofs.stream.Stream.pull.Goals as goal

pub returns-in_err-feed_waiting-clause-so_far : goal.returns-in_err-feed_waiting-clause-so_far
returns-in_err-feed_waiting-clause-so_far g c =
    so_far_of c.args.self.now c.feed_waiting.new.self c.feed_waiting.ensures.same c.feed_waiting.ensures.flowing

pub returns-in_err-frame-clause-so_far : goal.returns-in_err-frame-clause-so_far
returns-in_err-frame-clause-so_far g c =
    so_far_of c.args.self.now c.pulls.self c.pulls.invariant.same c.pulls.invariant.flowing

pub returns-in-Frame-clause-so_far : goal.returns-in-Frame-clause-so_far
returns-in-Frame-clause-so_far g c =
    so_far_of c.args.self.now c.pulls.self c.pulls.invariant.same c.pulls.invariant.flowing

pub returns-in-Bad-clause-so_far : goal.returns-in-Bad-clause-so_far
returns-in-Bad-clause-so_far g c =
    so_far_of c.args.self.now c.pulls.self c.pulls.invariant.same c.pulls.invariant.flowing

pub returns-in_err-feed_more-clause-so_far : goal.returns-in_err-feed_more-clause-so_far
returns-in_err-feed_more-clause-so_far g c =
    so_far_of _ c.feed_more.new.self c.feed_more.ensures.same c.feed_more.ensures.flowing

pub returns-then-not-branch-clause-so_far : goal.returns-then-not-branch-clause-so_far
returns-then-not-branch-clause-so_far g c =
    so_far_of _ c.feed_more.new.self c.feed_more.ensures.same c.feed_more.ensures.flowing

pub returns-in-Frame-clause-answer : goal.returns-in-Frame-clause-answer
returns-in-Frame-clause-answer g c =
    let kept = c.pulls.invariant in
    let self = c.pulls.self in
    let same : frames_in self.pulled ≡ frames_in c.args.self.now.pulled = ap frames_in kept.same.pulled in
    let Flow : List Frame → Type 0 = λ fs. IsFlow (bytes_in self.taken) fs self.reader (waiting_of self) in
    let flow : IsFlow (bytes_in self.taken) (frames_in self.pulled) self.reader [] =
    none_waits (bytes_in self.taken) self.piece.items (frames_in self.pulled) self.reader self.waiting kept.fed
    (subst Flow (sym same) kept.flowing.flow) in
    let pulls : Pulls self.reader (pull.Frame c.in-Frame.frame) c.next.new.self = search rules in
    record {
      piece = record { long = kept.flowing.piece.long; fits = kept.flowing.piece.fits; last = λ _. kept.fed };
      flow = waits_none (bytes_in self.taken) self.piece.items (frames_in self.pulled ++ c.in-Frame.frame ∷ []) c.next.new.self
          self.waiting kept.fed
          (pulled_flow (bytes_in self.taken) (frames_in self.pulled) c.in-Frame.frame self.reader c.next.new.self flow pulls);
      counted = record {
        count = kept.flowing.counted.count;
        bytes = kept.flowing.counted.bytes;
        within = kept.flowing.counted.within;
      };
      going = kept.flowing.going;
      sound = kept.flowing.sound;
    }

pub returns-in-Bad-clause-answer : goal.returns-in-Bad-clause-answer
returns-in-Bad-clause-answer g c = λ more last.
    let kept = c.pulls.invariant in
    let self = c.pulls.self in
    let same : frames_in self.pulled ≡ frames_in c.args.self.now.pulled = ap frames_in kept.same.pulled in
    let Flow : List Frame → Type 0 = λ fs. IsFlow (bytes_in self.taken) fs self.reader (waiting_of self) in
    let flow : IsFlow (bytes_in self.taken) (frames_in self.pulled) self.reader [] =
    none_waits (bytes_in self.taken) self.piece.items (frames_in self.pulled) self.reader self.waiting kept.fed
    (subst Flow (sym same) kept.flowing.flow) in
    let pulls : Pulls self.reader (pull.Bad c.in-Bad.fault) c.next.new.self = search rules in
    broken_flow (bytes_in self.taken) (frames_in self.pulled) self.reader c.next.new.self c.in-Bad.fault flow pulls more last

pub feed_more-requires-clause-wants : goal.feed_more-requires-clause-wants
feed_more-requires-clause-wants g c =
    let pulls : Pulls c.pulls.self.reader pull.More c.next.new.self = search rules in
    wants_more c.pulls.self.reader c.next.new.self pulls

pub returns-then-not-branch-clause-answer : goal.returns-then-not-branch-clause-answer
returns-then-not-branch-clause-answer g c =
    let new = c.feed_more.new.self in
    let told : c.feed_more.result ≡ Ok false = c.in_ok-feed_more.was ∙ ap Ok c.if-not-branch.true in
    let stays = c.feed_more.ensures.failed told in
    let pulls : Pulls c.pulls.self.reader pull.More c.next.new.self = search rules in
    let Wants : Reading → Type 0 = λ r. WantsMore r in
    let wants : WantsMore new.reader = subst Wants (sym stays.0) (wants_more c.pulls.self.reader c.next.new.self pulls) in (
      sound_flow (bytes_in new.taken) (frames_in c.pulls.self.pulled) new.reader
          (none_waits (bytes_in new.taken) new.piece.items (frames_in c.pulls.self.pulled) new.reader new.waiting stays.2
          c.feed_more.ensures.flowing.flow)
          c.pulls.invariant.flowing.counted.within wants,
      wants.1,
    )
