-- What is left where the items behind a part move, and others are written in the part's place.
use Rattle.std.proofs.Common.{◌≡◌, ◌∙◌, sym, ap, ℕ, ◌+◌, ◌-◌, ◌≤◌, List, ◌++◌, length, take, drop, append_assoc, arith}
use Rattle.std.proofs.Math.Seq.{paste}
use Rattle.std.proofs.lemmas.List.{take_at, drop_at, length-append, length-take-le, length-drop, take-append-le, drop-append-le, take-take}

module _ {X : Type 0} (s w room : List X) (from upto : ℕ) (le : from ≤ upto) (within : upto ≤ length s)
    (enough : length w ≤ length room + (upto - from)) where
  -- the list with room at its end
  abbrev pub grown : List X
  grown = s ++ room

  -- where what stood behind the part begins afterwards
  abbrev pub next : ℕ
  next = from + length w

  -- the list where what stood behind the part has moved
  abbrev pub moved : List X
  moved = paste grown next (drop upto grown) (length s - upto)

  abbrev front : List X
  front = take next grown

  front-length : length front ≡ next
  front-length = length-take-le next grown (omega (arith, length-append s room))

  abbrev rest : List X
  rest = drop (next + (length s - upto)) grown

  behind : take (length s - upto) (drop upto grown) ≡ drop upto s
  behind =
      ap (take (length s - upto)) (drop-append-le upto s room within)
      ∙ take_at (drop upto s) room (length s - upto) (length-drop upto s)

  parts : moved ≡ front ++ (drop upto s ++ rest)
  parts = append_assoc front (take (length s - upto) (drop upto grown)) rest ∙ ap (λ (t : List X). front ++ (t ++ rest)) behind

  moved-front : take from moved ≡ take from s
  moved-front =
      ap (take from) parts ∙ take-append-le from front (drop upto s ++ rest) (omega (arith, front-length))
      ∙ take-take from next grown (omega arith) ∙ take-append-le from s room (omega arith)

  moved-behind : drop next moved ≡ drop upto s ++ rest
  moved-behind = ap (drop next) parts ∙ drop_at front (drop upto s ++ rest) next front-length

  pub replaced : take (length s - (upto - from) + length w) (take from moved ++ (w ++ drop next moved))
      ≡ take from s ++ (w ++ drop upto s)
  replaced =
      let kept : List X = take from s ++ (w ++ drop upto s) in
      let whole : take from moved ++ (w ++ drop next moved) ≡ kept ++ rest =
      rw (moved-front, moved-behind)
      (ap (λ (t : List X). take from s ++ t) (sym (append_assoc w (drop upto s) rest))
      ∙ sym (append_assoc (take from s) (w ++ drop upto s) rest))
      in
      let size : length kept ≡ length s - (upto - from) + length w =
      omega (
        arith,
        length-append (take from s) (w ++ drop upto s),
        length-append w (drop upto s),
        length-take-le from s (omega arith),
        length-drop upto s,
      )
      in
      ap (take (length s - (upto - from) + length w)) whole ∙ take_at kept rest _ size
