-- The numbers of a file keep the rules of a plan.
use Rattle.std.proofs.Common.{◌≡◌, ℕ, ◌/◌, ◌&&◌, nat_le, nat_lt, max, [], ◌∷◌, Option, None, codes, arith}
use Rattle.serde_json.specs.Data.{Data}
use Rattle.onvm_base.specs.declared.limits.TheConstants.{MAX_AGE, MAX_BUFFERS, MAX_BURST, MAX_CORES, MAX_PORTS, MAX_RING, MAX_TICK, MAX_TRANSMIT_ROLES, MAX_WINDOW, MIN_RING, MIN_TICK}
use Rattle.onvm_base.specs.Plan.{IsFrom, AreSizes}
use Rattle.chain_file.specs.declared.fault.Cause.{Cause}
use Rattle.chain_file.specs.declared.fault.Cause.TheVariants.{Marks}
use Rattle.chain_file.specs.Causes.{unless, first_of}
use Rattle.chain_file.specs.Values.{number_or, only}
use Rattle.chain_file.specs.File.{plan_sizes}
use Rattle.chain_file.specs.Top.{top_in, top_keys, roles_in, rings_in, times_in, lists_cause, ring_in, high_in, low_in}
use Rattle.chain_file.proofs.Ranges.{number-IsFrom, number_or-IsFrom, marks_hold}
use Rattle.chain_file.proofs.Untold.{first_of_none}

third_of_five : (a b c d e : Option Cause) → first_of (a ∷ b ∷ c ∷ d ∷ e ∷ []) ≡ None → c ≡ None
third_of_five a b c d e h = (first_of_none c (d ∷ e ∷ []) (first_of_none b (c ∷ d ∷ e ∷ []) (first_of_none a (b ∷ c ∷ d ∷ e ∷ []) h).1).1).0

last_of_seven : (a b c d e f g : Option Cause) → first_of (a ∷ b ∷ c ∷ d ∷ e ∷ f ∷ g ∷ []) ≡ None → g ≡ None
last_of_seven a b c d e f g h =
    let h1 = (first_of_none a (b ∷ c ∷ d ∷ e ∷ f ∷ g ∷ []) h).1 in
    let h2 = (first_of_none b (c ∷ d ∷ e ∷ f ∷ g ∷ []) h1).1 in
    let h3 = (first_of_none c (d ∷ e ∷ f ∷ g ∷ []) h2).1 in
    let h4 = (first_of_none d (e ∷ f ∷ g ∷ []) h3).1 in
    let h5 = (first_of_none e (f ∷ g ∷ []) h4).1 in
    let h6 = (first_of_none f (g ∷ []) h5).1 in
    (first_of_none g [] h6).0

rings_right : (captures : ℕ) (d : Data) → (top_in captures d).cause ≡ None → (rings_in d).cause ≡ None
unfolding top_in
rings_right captures d e =
    third_of_five (only top_keys [] d) (roles_in captures d).cause (rings_in d).cause (times_in d).cause (lists_cause d) e

marks_right : (d : Data) → (rings_in d).cause ≡ None
    → unless (nat_lt (low_in d).value (high_in d).value && nat_le (high_in d).value (ring_in d).value) Marks ≡ None
marks_right d e =
    last_of_seven (number_or (codes "buffers") 1 MAX_BUFFERS 1024 d).cause (ring_in d).cause (number_or (codes "output") MIN_RING MAX_RING (ring_in d).value d).cause
    (number_or (codes "burst") 1 MAX_BURST 32 d).cause (high_in d).cause (low_in d).cause
    (unless (nat_lt (low_in d).value (high_in d).value && nat_le (high_in d).value (ring_in d).value) Marks) e

from_one : (n : ℕ) → IsFrom 1 1 n → n ≡ 1
from_one n h = omega (arith, h.0, h.1)

ring_from : (d : Data) → IsFrom MIN_RING MAX_RING (ring_in d).value
ring_from d = number_or-IsFrom (codes "ring") MIN_RING MAX_RING 128 d (omega arith) (omega arith, omega arith)

-- where the top object has no cause
pub are_sizes : (captures : ℕ) (d : Data) → (top_in captures d).cause ≡ None → AreSizes (plan_sizes (top_in captures d).value)
unfolding top_in
are_sizes captures d e =
    let marks = marks_hold (low_in d).value (high_in d).value (ring_in d).value (marks_right d (rings_right captures d e)) in
    let ring = ring_from d in
    let low = number_or-IsFrom (codes "low") 1 MAX_RING (max ((ring_in d).value / 4) 1) d (omega arith) (omega (arith, ring.0, ring.1), omega (arith, ring.0, ring.1)) in
    record {
      version = from_one _ (number-IsFrom (codes "version") 1 1 d (omega arith));
      ports = number-IsFrom (codes "ports") 1 MAX_PORTS d (omega arith);
      transmit = number_or-IsFrom (codes "transmit") 1 MAX_TRANSMIT_ROLES 1 d (omega arith) (omega arith, omega arith);
      cores = number_or-IsFrom (codes "cores") 1 MAX_CORES 1 d (omega arith) (omega arith, omega arith);
      buffers = number_or-IsFrom (codes "buffers") 1 MAX_BUFFERS 1024 d (omega arith) (omega arith, omega arith);
      ring = ring;
      output = number_or-IsFrom (codes "output") MIN_RING MAX_RING (ring_in d).value d (omega arith) ring;
      burst = number_or-IsFrom (codes "burst") 1 MAX_BURST 32 d (omega arith) (omega arith, omega arith);
      low = low.0;
      marks = marks.0;
      high = marks.1;
      age = (number_or-IsFrom (codes "age") 0 MAX_AGE 100000 d (omega arith) (omega arith, omega arith)).1;
      window = number_or-IsFrom (codes "window") 1 MAX_WINDOW 100000000 d (omega arith) (omega arith, omega arith);
      tick = number_or-IsFrom (codes "tick") MIN_TICK MAX_TICK 10000000 d (omega arith) (omega arith, omega arith);
    }
