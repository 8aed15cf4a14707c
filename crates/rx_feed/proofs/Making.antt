-- The bytes of a made frame, and the frame after so many others.
use Rattle.std.proofs.Common.{◌≡◌, ◌∙◌, sym, ap, subst, refl, ℕ, zero, suc, ◌+◌, ◌%◌, ◌<◌, ◌≤◌, List, [], ◌∷◌, ◌++◌, length, take, drop, replicate, Option, Bool, true, false, Some, None, if◌then◌else◌, nat_lt, arith}
use Rattle.std.proofs.lemmas.List.{append-nil, drop-replicate, length-append, take-replicate}
use Rattle.std.specs.Prelude.{option_to_list}
use Rattle.std.proofs.lemmas.Bool.{lt-ltb}
use Rattle.std.proofs.Math.Seq.{take-append-add}
use Rattle.onvm_base.specs.declared.frame.Frame.{Frame}
use Rattle.rx_feed.specs.Made.{Making, flow_of, made_frames, frame_made_of, made_frame, made_heads, made_packet, next_number, number_after, payload_len}

pub length-made_heads : (number x : ℕ) → length (made_heads number x) ≡ 42
length-made_heads number x = refl

-- the heads over the front of an array of the payload's byte
pub made_bytes : (number x len : ℕ) (bytes : List ℕ)
    → bytes ≡ made_heads number x ++ drop 42 (replicate 1068 (number % 256)) → len ≡ 42 + payload_len x
    → take len bytes ≡ made_packet number x
made_bytes number x len bytes is size =
    let heads : List ℕ = made_heads number x in
    let byte : ℕ = number % 256 in
    let rest : drop 42 (replicate 1068 byte) ≡ replicate 1026 byte = drop-replicate 42 1068 byte in
    let front : take (42 + payload_len x) (heads ++ replicate 1026 byte) ≡ heads ++ take (payload_len x) (replicate 1026 byte) =
    take-append-add heads (replicate 1026 byte) (payload_len x) in
    let payload : take (payload_len x) (replicate 1026 byte) ≡ replicate (payload_len x) byte =
    take-replicate (payload_len x) 1026 byte (omega arith) in
    ap (λ (n : ℕ). take n bytes) size ∙ ap (λ t. take (42 + payload_len x) t) is
    ∙ ap (λ t. take (42 + payload_len x) (heads ++ t)) rest ∙ front ∙ ap (λ t. heads ++ t) payload

-- one number more
pub number_next : (seed given : ℕ) → number_after seed (given + 1) ≡ next_number (number_after seed given)
number_next seed given = let e : given + 1 ≡ suc given = omega arith in ap (number_after seed) e

-- the next frame
pub made_next : (seed given count x next : ℕ) (frame : Frame) → x ≡ number_after seed given → next ≡ next_number x
    → frame ≡ frame_made_of (given + 1) next → given < count
    → Some frame ≡ (if nat_lt given count then Some (made_frame seed (given + 1)) else None)
made_next seed given count x next frame x-is next-is frame-is before =
    let number : next ≡ number_after seed (given + 1) =
    next-is ∙ ap next_number x-is ∙ sym (number_next seed given) in
    let made : frame ≡ made_frame seed (given + 1) = frame-is ∙ ap (λ (n : ℕ). frame_made_of (given + 1) n) number in
    let one : true ≡ nat_lt given count = sym (lt-ltb given count before) in
    ap (λ (f : Frame). Some f) made ∙ ap (λ (b : Bool). if b then Some (made_frame seed (given + 1)) else None) one

made_step : (seed given : ℕ) → made_frames seed (given + 1) ≡ made_frames seed given ++ made_frame seed (given + 1) ∷ []
made_step seed given =
    let e : suc given ≡ given + 1 = omega arith in
    let P : ℕ → Type 0 = λ n. made_frames seed n ≡ made_frames seed given ++ made_frame seed n ∷ [] in
    subst P e refl

by_test : (b : Bool) (old new : Making) (frame : Option Frame)
    → frame ≡ (if b then Some (made_frame old.seed (old.given + 1)) else None)
    → new ≡ (if b then record old { given = old.given + 1 } else old)
    → made_frames new.seed new.given ≡ made_frames old.seed old.given ++ option_to_list frame
by_test true old new frame frame-is new-is =
    ap (λ (m : Making). made_frames m.seed m.given) new-is ∙ made_step old.seed old.given
    ∙ ap (λ (f : Option Frame). made_frames old.seed old.given ++ option_to_list f) (sym frame-is)
by_test false old new frame frame-is new-is =
    ap (λ (m : Making). made_frames m.seed m.given) new-is ∙ sym (append-nil (made_frames old.seed old.given))
    ∙ ap (λ (f : Option Frame). made_frames old.seed old.given ++ option_to_list f) (sym frame-is)

-- the frames made so far grow by the one that is given
pub made_grows : (old new : Making) (frame : Option Frame)
    → frame ≡ (if nat_lt old.given old.count then Some (made_frame old.seed (old.given + 1)) else None)
    → new ≡ (if nat_lt old.given old.count then record old { given = old.given + 1 } else old)
    → made_frames new.seed new.given ≡ made_frames old.seed old.given ++ option_to_list frame
made_grows old new frame frame-is new-is = by_test (nat_lt old.given old.count) old new frame frame-is new-is

pub length-made_frames : (seed count : ℕ) → length (made_frames seed count) ≡ count
length-made_frames seed zero = refl
length-made_frames seed (suc count) =
    omega (
      arith,
      length-append (made_frames seed count) (made_frame seed (suc count) ∷ []),
      length-made_frames seed count,
    )
