use Rattle.std.proofs.Common.{◌≡◌, ◌∙◌, sym, ap, subst, refl, ℕ, ◌<◌, ◌≤◌, true, false, List, [], ◌∷◌, ◌++◌, length, take, Some, arith, rules}
use Rattle.std.proofs.lemmas.List.{length-take-le}
use Rattle.pcap_in.specs.Reading.{Reading}
use Rattle.rx_feed.specs.History.{bytes_in, frames_in}
use Rattle.rx_feed.specs.Streams.{IsFlow, standing_of}
use Rattle.rx_feed.specs.declared.stream.Stream.{Stream}
use Rattle.rx_feed.specs.declared.stream.TheConstants.{PIECE_LEN}
use Rattle.rx_feed.proofs.Flowing.{none_waits, taken_flow}
use Rattle.rx_feed.proofs.Taking.{taken_more}
use Rattle.rx_feed.proofs.stream.Stream.feed_more.Goals as goal

pub feed_waiting-requires : goal.feed_waiting-requires
feed_waiting-requires g c =
    let old = c.requires.flowing in
    let self = c.args.self.now in
    let piece : List ℕ = c.take_piece.new.piece.items in
    let long : length piece ≡ PIECE_LEN = c.in-Ok.ensures.long in
    let fits : c.in-Ok.count ≤ PIECE_LEN = c.in-Ok.ensures.bound in
    let size : length (take c.in-Ok.count piece) ≡ c.in-Ok.count = length-take-le c.in-Ok.count piece (omega (arith, long, fits)) in
    let flow = none_waits (bytes_in self.taken) self.piece.items (frames_in self.pulled) self.reader self.waiting
    c.requires.none_waits old.flow in
    let Flow : List ℕ → Type 0 = λ t. IsFlow t (frames_in self.pulled) self.reader (take c.in-Ok.count piece) in
    record {
      flowing = record {
        piece = record {
          long = long;
          fits = fits;
          last = λ end. let clash : false ≡ true = sym c.requires.wants.1 ∙ end in absurd (cc);
        };
        flow = subst Flow (sym c.add.ensures)
            (taken_flow (bytes_in self.taken) (take c.in-Ok.count piece) (frames_in self.pulled) self.reader flow
            c.requires.wants (omega (arith, size, fits)));
        counted = record { count = old.counted.count; bytes = old.counted.bytes; within = old.counted.within };
        going = old.going;
        sound = old.sound;
      };
    }

pub returns-in_err-feed_waiting-clause-since : goal.returns-in_err-feed_waiting-clause-since
returns-in_err-feed_waiting-clause-since g c = λ _ left takes since.
    let old = c.requires.flowing in
    let self = c.args.self.now in
    let new = c.feed_waiting.new.self in
    let bytes : List ℕ = take c.in-Ok.count c.take_piece.new.piece.items in
    let size : length bytes ≡ c.in-Ok.count =
    length-take-le c.in-Ok.count c.take_piece.new.piece.items (omega (arith, c.in-Ok.ensures.long, c.in-Ok.ensures.bound)) in
    let going : new.reader.finished ≡ false = ap (λ (s : Stream). s.reader.finished) c.in_err-feed_waiting.ensures.err ∙ c.requires.wants.1 in
    let some : 0 < length bytes = search rules in
    let call : g.S.Source.takes c.take_piece.new.source ≡ g.S.Source.takes c.args.source.now ++ Some (length bytes) ∷ [] =
    c.in-Ok.ensures.told ∙ ap (λ (n : ℕ). g.S.Source.takes c.args.source.now ++ Some n ∷ []) (sym size) in
    taken_more left _ _ takes _ _ (standing_of self) (standing_of new) bytes c.requires.wants.1 old.sound going
    (c.feed_waiting.ensures.same.fault ∙ old.sound) (ap bytes_in c.feed_waiting.ensures.taken ∙ c.add.ensures)
    c.in-Ok.ensures.bytes.0 some call since

pub returns-clause-since : goal.returns-clause-since
returns-clause-since g c = λ _ left takes since.
    let old = c.requires.flowing in
    let self = c.args.self.now in
    let new = c.feed_waiting.new.self in
    let bytes : List ℕ = take c.in-Ok.count c.take_piece.new.piece.items in
    let size : length bytes ≡ c.in-Ok.count =
    length-take-le c.in-Ok.count c.take_piece.new.piece.items (omega (arith, c.in-Ok.ensures.long, c.in-Ok.ensures.bound)) in
    let going : new.reader.finished ≡ false = ap (λ (r : Reading). r.finished) c.in_ok-feed_waiting.ensures.fed.1 ∙ c.requires.wants.1 in
    let some : 0 < length bytes = search rules in
    let call : g.S.Source.takes c.take_piece.new.source ≡ g.S.Source.takes c.args.source.now ++ Some (length bytes) ∷ [] =
    c.in-Ok.ensures.told ∙ ap (λ (n : ℕ). g.S.Source.takes c.args.source.now ++ Some n ∷ []) (sym size) in
    taken_more left _ _ takes _ _ (standing_of self) (standing_of new) bytes c.requires.wants.1 old.sound going
    (c.feed_waiting.ensures.same.fault ∙ old.sound) (ap bytes_in c.feed_waiting.ensures.taken ∙ c.add.ensures)
    c.in-Ok.ensures.bytes.0 some call since
