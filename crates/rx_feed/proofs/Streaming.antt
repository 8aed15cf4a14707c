-- Streams that nothing has stopped.
use Rattle.std.proofs.Common.{◌≡◌, ◌∙◌, sym, ap, subst, refl, inl, inr, ℕ, ◌+◌, ◌≤◌, ◌<◌, true, false, List, [], ◌∷◌, ◌++◌, length, take, Option, Some, None, IsSome, arith}
use Rattle.onvm_base.specs.declared.frame.Frame.{Frame}
use Rattle.onvm_host.specs.Deeds.{Amounts}
use Rattle.pcap_in.specs.Reading.{Reading}
use Rattle.rx_feed.specs.Limits.{IsWithinLimits, bytes_of}
use Rattle.rx_feed.specs.History.{bytes_in, frames_in}
use Rattle.rx_feed.specs.Standing.{IsStanding, IsTakenSince, Standing, StandsSoFar}
use Rattle.rx_feed.specs.Streams.{IsCounted, IsFlow, IsFlowing, IsStream, SameFrames, standing_of, waiting_of}
use Rattle.rx_feed.specs.declared.fault.FeedFault.TheVariants.{TooMany}
use Rattle.rx_feed.specs.declared.stream.Stream.{Stream}
use Rattle.rx_feed.proofs.Flowing.{stands_so_far}
use Rattle.rx_feed.proofs.Taking.{taken_same, taken_stop}

-- nothing has stopped it
pub going_stands : (s : Standing) → StandsSoFar s.taken s.pulled → IsWithinLimits s.pulled → s.ended ≡ false → s.fault ≡ None
    → IsStanding s
going_stands s so_far within going sound =
    record {
      within = within;
      so_far = so_far;
      ended = λ end. let clash : false ≡ true = sym going ∙ end in absurd (cc);
      broken = λ fault told more last. absurd (cc);
      too_many = λ told. absurd (cc);
      read = λ told. absurd (cc);
    }

pub going_stream : (s : Stream) → IsFlowing (frames_in s.pulled) s → IsStream s
going_stream s flowing =
    record {
      standing = going_stands (standing_of s) (stands_so_far (bytes_in s.taken) (waiting_of s) (frames_in s.pulled) s.reader flowing.flow)
          flowing.counted.within flowing.going flowing.sound;
      counted = flowing.counted;
      flowing = λ _ _. flowing;
    }

pub counted_same : (old new : Stream) → SameFrames old new → IsCounted old → IsCounted new
counted_same old new same counted =
    let frames : frames_in new.pulled ≡ frames_in old.pulled = ap frames_in same.pulled in
    let P : List Frame → Type 0 = λ fs. IsWithinLimits fs in
    record {
      count = same.count ∙ counted.count ∙ sym (ap (length {A = Frame}) frames);
      bytes = same.bytes ∙ counted.bytes ∙ sym (ap bytes_of frames);
      within = subst P (sym frames) counted.within;
    }

-- the same of other frames, equal ones
pub flowing_frames : (frames others : List Frame) (s : Stream) → frames ≡ others → IsFlowing frames s → IsFlowing others s
flowing_frames frames others s same flowing =
    let P : List Frame → Type 0 = λ fs. IsFlowing fs s in
    subst P same flowing

pub so_far_of : (old new : Stream) → SameFrames old new → IsFlowing (frames_in old.pulled) new
    → StandsSoFar (bytes_in new.taken) (frames_in new.pulled)
so_far_of old new same flowing =
    let P : List Frame → Type 0 = λ fs. StandsSoFar (bytes_in new.taken) fs in
    subst P (sym (ap frames_in same.pulled))
    (stands_so_far (bytes_in new.taken) (waiting_of new) (frames_in old.pulled) new.reader flowing.flow)

-- a frame was admitted or refused
pub admitted_since : (left l : Option (List ℕ)) (takes t : Amounts) (old new : Stream) (answer : Option Frame)
    → (IsSome answer → new.fault ≡ None) → (answer ≡ None → new.fault ≡ Some TooMany) → old.fault ≡ None
    → new.taken ≡ old.taken → new.reader ≡ old.reader
    → IsTakenSince left l takes t (standing_of old) → IsTakenSince left l takes t (standing_of new)
admitted_since left l takes t old new (Some frame) some none sound taken reader since =
    taken_same left l takes t (standing_of old) (standing_of new) (ap bytes_in taken)
    (ap (λ (r : Reading). r.finished) reader) (some refl ∙ sym sound) since
admitted_since left l takes t old new None some none sound taken reader since =
    taken_stop left l takes t (standing_of old) (standing_of new) TooMany (λ same. absurd (cc)) sound (ap bytes_in taken)
    (ap (λ (r : Reading). r.finished) reader) (none refl) since
