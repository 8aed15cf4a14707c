use Rattle.std.proofs.Common.{◌≡◌, ◌≢◌, ◌∙◌, sym, ap, subst, refl, ◌⊎◌, ℕ, ◌+◌, ◌<◌, ◌≤◌, true, false, List, [], ◌∷◌, ◌++◌, length, arith, rules}
use Rattle.std.proofs.lemmas.List.{length-append}
use Rattle.std.proofs.lemmas.List.Sums.{sum_by-append, sum_by-cons}
use Rattle.onvm_base.specs.declared.frame.Frame.{Frame}
use Rattle.onvm_base.specs.declared.limits.TheConstants.{MAX_PORT_BYTES, MAX_PORT_FRAMES}
use Rattle.rx_feed.specs.Limits.{IsWithinLimits, bytes_of}
use Rattle.rx_feed.specs.History.{bytes_in, frames_in}
use Rattle.rx_feed.specs.Streams.{IsFlow, waiting_of}
use Rattle.rx_feed.proofs.Flowing.{passed_flow, too_large, within_more}
use Rattle.rx_feed.proofs.Streaming.{going_stream}
use Rattle.rx_feed.proofs.stream.Stream.admit.Goals as goal

pub returns-then-not-are_within-clause-stream : goal.returns-then-not-are_within-clause-stream
returns-then-not-are_within-clause-stream c =
    let old = c.requires.flowing in
    let frames : List Frame = frames_in c.args.self.now.pulled in
    let packet : length c.bytes.result.now ≡ length c.args.frame.packet = ap (length {A = ℕ}) c.bytes.ensures.same in
    let large : (MAX_PORT_FRAMES < c.args.self.now.count + 1)
    ⊎ (MAX_PORT_BYTES < c.args.self.now.bytes + length c.args.frame.packet) = search rules in
    record {
      standing = record {
        within = old.counted.within;
        so_far = c.requires.so_far;
        ended = λ end. let clash : false ≡ true = sym old.going ∙ end in absurd (cc);
        broken = λ fault told more last. absurd (cc);
        too_many = λ _. passed_flow (bytes_in c.args.self.now.taken) (waiting_of c.args.self.now)
            (frames ++ c.args.frame ∷ []) c.args.self.now.reader old.flow
            (λ none. omega (arith, ap (length {A = Frame}) none, length-append frames (c.args.frame ∷ [])))
            (too_large frames c.args.frame c.args.self.now.count c.args.self.now.bytes old.counted.count
            old.counted.bytes large);
        read = λ told. absurd (cc);
      };
      counted = record { count = old.counted.count; bytes = old.counted.bytes; within = old.counted.within };
      flowing = λ _ told. absurd (cc);
    }

pub returns-clause-stream : goal.returns-clause-stream
returns-clause-stream c =
    let old = c.requires.flowing in
    let frames : List Frame = frames_in c.args.self.now.pulled in
    let packet : length c.bytes.result.now ≡ length c.args.frame.packet = ap (length {A = ℕ}) c.bytes.ensures.same in
    let added : frames_in c.add.new.self ≡ frames ++ c.args.frame ∷ [] = c.add.ensures in
    let few : c.args.self.now.count + 1 ≤ MAX_PORT_FRAMES = search rules in
    let small : c.args.self.now.bytes + length c.args.frame.packet ≤ MAX_PORT_BYTES = search rules in
    let Flow : List Frame → Type 0 = λ fs.
    IsFlow (bytes_in c.args.self.now.taken) fs c.args.self.now.reader (waiting_of c.args.self.now) in
    let Within : List Frame → Type 0 = λ fs. IsWithinLimits fs in
    let within : IsWithinLimits (frames ++ c.args.frame ∷ []) =
    within_more frames c.args.frame c.args.self.now.count c.args.self.now.bytes old.counted.count old.counted.bytes few small in
    going_stream _ (record {
      piece = record { long = old.piece.long; fits = old.piece.fits; last = old.piece.last };
      flow = subst Flow (sym added) old.flow;
      counted = record {
        count = omega (arith, ap (length {A = Frame}) added, length-append frames (c.args.frame ∷ []), old.counted.count);
        bytes = omega (
          arith,
          ap bytes_of added,
          packet,
          old.counted.bytes,
          sum_by-append (λ (f : Frame). length f.packet) frames (c.args.frame ∷ []),
          sum_by-cons (λ (f : Frame). length f.packet) c.args.frame [],
        );
        within = subst Within (sym added) within;
      };
      going = old.going;
      sound = old.sound;
    })
