-- Whose end a tail, a head or a mail is, and what a look at a ring tells its producer.
use Rattle.std.specs.Prelude.{ℕ, ◌≡◌, ◌≢◌, ◌↔◌, ◌-◌, ◌%◌, ◌<◌, ◌≤◌, ◌==◌, not, Bool, false, IsTrue, length, None}
use Rattle.onvm_base.specs.declared.ids.RingId.{RingId}
use Rattle.onvm_core.specs.declared.layout.Layout.{Layout}
use Rattle.onvm_core.specs.declared.layout.Word.TheVariants.{Cell}
use Rattle.onvm_core.specs.declared.step.Act.TheVariants.{Look}
use Rattle.onvm_core.specs.Layouts.{ring_size, same_ring}
use Rattle.onvm_core.specs.History.{content_of}
use Rattle.onvm_core.specs.Logs.{Log, push_count}
use Rattle.onvm_board.specs.declared.spot.Spot.{Spot}
use Rattle.onvm_board.specs.Tokens.{BoardView, TokenView, MakesStep, IsTail, IsHead, IsBufferRing, IsMailRing}
use Rattle.desc_ring.specs.declared.tail.Tail.{Tail}
use Rattle.desc_ring.specs.declared.head.Head.{Head}
use Rattle.desc_ring.specs.declared.mail.Mail.{Mail}

-- Whose end it is

-- the tail is the token's own end of a ring, and knows the ring's size
pub record IsTailOf (site : BoardView) (tail : Tail) (token : TokenView) : Type 0 where
  pub sized : tail.size ≡ ring_size site.layout tail.spot.ring
  pub end : IsTail site tail.spot token

-- the head is the token's own end of a ring of buffers, and knows the ring's size
pub record IsHeadOf (site : BoardView) (head : Head) (token : TokenView) : Type 0 where
  pub sized : head.size ≡ ring_size site.layout head.spot.ring
  pub buffers : IsBufferRing head.spot.ring
  pub end : IsHead site head.spot token

-- the mail is the token's own end of a mail ring, for pushes
pub record IsMailTail (site : BoardView) (mail : Mail) (token : TokenView) : Type 0 where
  pub numbers : IsMailRing mail.spot.ring
  pub end : IsTail site mail.spot token

-- and for pops
pub record IsMailHead (site : BoardView) (mail : Mail) (token : TokenView) : Type 0 where
  pub numbers : IsMailRing mail.spot.ring
  pub end : IsHead site mail.spot token

-- each end of the token on another ring stays its own
pub record LeavesOthers (site : BoardView) (ring : RingId) (before after : TokenView) : Type 0 where
  pub tails : (spot : Spot) → same_ring ring spot.ring ≡ false → IsTail site spot before → IsTail site spot after
  pub heads : (spot : Spot) → same_ring ring spot.ring ≡ false → IsHead site spot before → IsHead site spot after

-- each end of the token stays its own
pub record LeavesEnds (site : BoardView) (before after : TokenView) : Type 0 where
  pub tails : (spot : Spot) → IsTail site spot before → IsTail site spot after
  pub heads : (spot : Spot) → IsHead site spot before → IsHead site spot after

-- What a look tells

-- the cell of a producer's next push
abbrev pub next_cell : Layout → RingId → Log → ℕ
next_cell layout ring log = push_count ring log % ring_size layout ring

-- the cell of the push that is k pushes before the next
abbrev pub cell_back : Layout → RingId → (k : ℕ) → Log → ℕ
cell_back layout ring k log = (push_count ring log - k) % ring_size layout ring

-- the token saw no item at the cell of its next push, and the ring had room at this step
pub record SeesRoom (site : BoardView) (ring : RingId) (before after : TokenView) : Type 0 where
  pub made : MakesStep site (Look (Cell ring (next_cell site.layout ring before.log)) 0 None) before after
  pub room : length (content_of ring made.happened.before) < ring_size site.layout ring

-- the token saw an item there, and the ring held its size at this step
pub record SeesFull (site : BoardView) (ring : RingId) (before after : TokenView) : Type 0 where
  pub seen : ℕ
  pub some : seen ≢ 0
  pub made : MakesStep site (Look (Cell ring (next_cell site.layout ring before.log)) seen None) before after
  pub full : length (content_of ring made.happened.before) ≡ ring_size site.layout ring

-- the token looked k pushes back, and found an item exactly where the ring held at least k at this step
pub record LooksBack (site : BoardView) (ring : RingId) (k : ℕ) (before after : TokenView)
    (found : Bool) : Type 0 where
  pub seen : ℕ
  pub made : MakesStep site (Look (Cell ring (cell_back site.layout ring k before.log)) seen None) before after
  pub shown : found ≡ not (seen == 0)
  pub held : IsTrue found ↔ k ≤ length (content_of ring made.happened.before)

-- whether a ring holds at least k: without a step no, where its producer has pushed fewer, else by a look
pub record Finds (site : BoardView) (ring : RingId) (k : ℕ) (before after : TokenView) (found : Bool) : Type 0 where
  pub fewer : push_count ring before.log < k → (found ≡ false) × (after ≡ before)
  pub looked : k ≤ push_count ring before.log → LooksBack site ring k before after found
