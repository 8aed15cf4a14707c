-- The ends of a transmit role that moves frames to one lane, and of one that sends them.
use Rattle.std.specs.Prelude.{◌≡◌, []}
use Rattle.onvm_board.specs.Tokens.{BoardView, TokenView}
use Rattle.desc_ring.specs.declared.head.Head.{Head}
use Rattle.desc_ring.specs.declared.tail.Tail.{Tail}
use Rattle.desc_ring.specs.Arrays.{lane_from, output_of}
use Rattle.desc_ring.specs.Ends.{IsHeadOf, IsTailOf}

-- from function 0's output ring to function 1's lane
pub record Moves (site : BoardView) (token : TokenView) (output : Head) (lane : Tail) : Type 0 where
  pub head : IsHeadOf site output token
  pub output_is : output.spot.ring ≡ output_of 0
  pub tail : IsTailOf site lane token
  pub lane_is : lane.spot.ring ≡ lane_from 1 1
  pub empty_handed : token.hand ≡ []

-- from function 1's output ring
pub record Sends (site : BoardView) (token : TokenView) (output : Head) : Type 0 where
  pub head : IsHeadOf site output token
  pub output_is : output.spot.ring ≡ output_of 1
  pub empty_handed : token.hand ≡ []
