-- A ring's end after its push or pop.
use Rattle.std.proofs.Common.{◌≡◌, ℕ, ◌+◌, ◌%◌, Bool, [], ◌∷◌, length, sym, ap, ◌∙◌, subst, arith, length-append, mod-lt}
use Rattle.std.specs.Prelude.{min, if◌then◌else◌}
use Rattle.std.proofs.Math.Nat.{mod-add-mod}
use Rattle.onvm_base.specs.declared.ids.RingId.{RingId}
use Rattle.onvm_core.specs.declared.step.Item.{Item}
use Rattle.onvm_core.specs.declared.step.Act.TheVariants.{Push, Pop}
use Rattle.onvm_core.specs.Layouts.{ring_size}
use Rattle.onvm_core.specs.History.{pushes, pops}
use Rattle.onvm_core.specs.Logs.{Log}
use Rattle.onvm_core.specs.Potential.{pushed_in, popped_in}
use Rattle.onvm_board.specs.declared.spot.Spot.{Spot}
use Rattle.onvm_board.specs.Spots.{next_spot}
use Rattle.onvm_board.specs.Tokens.{BoardView, TokenView, MakesStep, StandsAt, IsTail, IsHead}
use Rattle.onvm_board.proofs.Soundness.{same_ring_one}

-- one more
stands_next : (size moved : ℕ) (spot : Spot) → StandsAt size moved spot
    → StandsAt size (moved + 1) (next_spot size spot)
stands_next size moved spot is = record {
  inside = mod-lt (spot.cell + 1) (omega (arith, is.inside));
  cell = ap (λ n. (n + 1) % size) is.cell ∙ mod-add-mod moved size 1;
  filled = ap (λ n. min (n + 1) size) is.filled ∙ omega arith;
}

pushed_more : (ring : RingId) (item : Item) (log : Log)
    → length (pushed_in ring (Push ring item ∷ log)) ≡ length (pushed_in ring log) + 1
pushed_more ring item log =
    length-append (pushed_in ring log) (pushes ring (Push ring item))
    ∙ ap (λ (b : Bool). length (pushed_in ring log) + length (if b then item ∷ [] else [])) (same_ring_one ring)

popped_more : (ring : RingId) (item : Item) (log : Log)
    → length (popped_in ring (Pop ring item ∷ log)) ≡ length (popped_in ring log) + 1
popped_more ring item log =
    length-append (popped_in ring log) (pops ring (Pop ring item))
    ∙ ap (λ (b : Bool). length (popped_in ring log) + length (if b then item ∷ [] else [])) (same_ring_one ring)

-- the producer's end after its push
pub tail_pushed : (site : BoardView) (spot : Spot) (item : Item) (before after : TokenView) → IsTail site spot before
    → MakesStep site (Push spot.ring item) before after
    → IsTail site (next_spot (ring_size site.layout spot.ring) spot) after
tail_pushed site spot item before after is made =
    subst (IsTail site (next_spot (ring_size site.layout spot.ring) spot)) (sym made.grew)
    (record {
      board = is.board;
      known = is.known;
      mine = is.mine;
      based = is.based;
      stands =
          subst (λ n. StandsAt (ring_size site.layout spot.ring) n (next_spot (ring_size site.layout spot.ring) spot))
          (sym (pushed_more spot.ring item before.log))
          (stands_next (ring_size site.layout spot.ring) (length (pushed_in spot.ring before.log)) spot is.stands);
    })

-- the consumer's end after its pop
pub head_popped : (site : BoardView) (spot : Spot) (item : Item) (before after : TokenView) → IsHead site spot before
    → MakesStep site (Pop spot.ring item) before after
    → IsHead site (next_spot (ring_size site.layout spot.ring) spot) after
head_popped site spot item before after is made =
    subst (IsHead site (next_spot (ring_size site.layout spot.ring) spot)) (sym made.grew)
    (record {
      board = is.board;
      known = is.known;
      mine = is.mine;
      based = is.based;
      stands =
          subst (λ n. StandsAt (ring_size site.layout spot.ring) n (next_spot (ring_size site.layout spot.ring) spot))
          (sym (popped_more spot.ring item before.log))
          (stands_next (ring_size site.layout spot.ring) (length (popped_in spot.ring before.log)) spot is.stands);
    })

-- the same of a spot that is the next one for the ring's size
pub tail_next : (site : BoardView) (spot next : Spot) (size : ℕ) (item : Item) (before after : TokenView)
    → IsTail site spot before → size ≡ ring_size site.layout spot.ring → next ≡ next_spot size spot
    → MakesStep site (Push spot.ring item) before after → IsTail site next after
tail_next site spot next size item before after is sized moved made =
    subst (λ (s : Spot). IsTail site s after) (sym (moved ∙ ap (λ n. next_spot n spot) sized))
    (tail_pushed site spot item before after is made)

pub head_next : (site : BoardView) (spot next : Spot) (size : ℕ) (item : Item) (before after : TokenView)
    → IsHead site spot before → size ≡ ring_size site.layout spot.ring → next ≡ next_spot size spot
    → MakesStep site (Pop spot.ring item) before after → IsHead site next after
head_next site spot next size item before after is sized moved made =
    subst (λ (s : Spot). IsHead site s after) (sym (moved ∙ ap (λ n. next_spot n spot) sized))
    (head_popped site spot item before after is made)
