-- What a stretch of steps leaves of a token's ends.
use Rattle.std.proofs.Common.{◌≡◌, List, [], ◌∷◌, ◌++◌, length, sym, ap, ◌∙◌, subst, append_assoc}
use Rattle.std.proofs.lemmas.List.{append-nil}
use Rattle.onvm_base.specs.declared.ids.RingId.{RingId}
use Rattle.onvm_core.specs.declared.step.Item.{Item}
use Rattle.onvm_core.specs.declared.step.Act.{Act}
use Rattle.onvm_core.specs.Layouts.{ring_size}
use Rattle.onvm_core.specs.History.{pushes, pops}
use Rattle.onvm_core.specs.Logs.{Log}
use Rattle.onvm_core.specs.Potential.{pushed_in, popped_in}
use Rattle.onvm_board.specs.declared.spot.Spot.{Spot}
use Rattle.onvm_board.specs.Rule.{Hand, hand_after}
use Rattle.onvm_board.specs.Tokens.{BoardView, TokenView, MakesStep, StandsAt, IsTail, IsHead, grown}

-- a step is a stretch of one act
pub grown_once : (site : BoardView) (act : Act) (before after : TokenView) → MakesStep site act before after
    → after ≡ grown (act ∷ []) (hand_after act before.hand) before
grown_once site act before after made = made.grew

-- two stretches make one
pub grown_twice : (added more : Log) (hand last : Hand) (a b c : TokenView) → b ≡ grown added hand a
    → c ≡ grown more last b → c ≡ grown (more ++ added) last a
grown_twice added more hand last a b c first second =
    second ∙ ap (grown more last) first
    ∙ ap (λ (log : Log). record a { log = log; hand = last }) (sym (append_assoc more added a.log))

-- what a longer log pushed, and popped
pub pushed_over : (ring : RingId) (added log : Log)
    → pushed_in ring (added ++ log) ≡ pushed_in ring log ++ pushed_in ring added
pushed_over ring [] log = sym (append-nil (pushed_in ring log))
pushed_over ring (act ∷ added) log =
    ap (λ (items : List Item). items ++ pushes ring act) (pushed_over ring added log)
    ∙ append_assoc (pushed_in ring log) (pushed_in ring added) (pushes ring act)

pub popped_over : (ring : RingId) (added log : Log)
    → popped_in ring (added ++ log) ≡ popped_in ring log ++ popped_in ring added
popped_over ring [] log = sym (append-nil (popped_in ring log))
popped_over ring (act ∷ added) log =
    ap (λ (items : List Item). items ++ pops ring act) (popped_over ring added log)
    ∙ append_assoc (popped_in ring log) (popped_in ring added) (pops ring act)

-- an end stays where the token's board, role and moves by it do
pub tail_stays : (site : BoardView) (spot : Spot) (before after : TokenView) → after.board ≡ before.board
    → after.role ≡ before.role → pushed_in spot.ring after.log ≡ pushed_in spot.ring before.log
    → IsTail site spot before → IsTail site spot after
tail_stays site spot before after board role same is = record {
  board = board ∙ is.board;
  known = is.known;
  mine = role ∙ is.mine;
  stands =
      subst (λ (items : List Item). StandsAt (ring_size site.layout spot.ring) (length items) spot) (sym same) is.stands;
  based = is.based;
}

pub head_stays : (site : BoardView) (spot : Spot) (before after : TokenView) → after.board ≡ before.board
    → after.role ≡ before.role → popped_in spot.ring after.log ≡ popped_in spot.ring before.log
    → IsHead site spot before → IsHead site spot after
head_stays site spot before after board role same is = record {
  board = board ∙ is.board;
  known = is.known;
  mine = role ∙ is.mine;
  stands =
      subst (λ (items : List Item). StandsAt (ring_size site.layout spot.ring) (length items) spot) (sym same) is.stands;
  based = is.based;
}

-- an end stays over any acts that move nothing by it
pub tail_grown : (site : BoardView) (spot : Spot) (added : Log) (hand : Hand) (before after : TokenView)
    → after ≡ grown added hand before → pushed_in spot.ring added ≡ [] → IsTail site spot before
    → IsTail site spot after
tail_grown site spot added hand before after grew none =
    tail_stays site spot before after (ap (λ (t : TokenView). t.board) grew) (ap (λ (t : TokenView). t.role) grew)
    (ap (λ (t : TokenView). pushed_in spot.ring t.log) grew
    ∙ pushed_over spot.ring added before.log
    ∙ ap (λ (items : List Item). pushed_in spot.ring before.log ++ items) none
    ∙ append-nil (pushed_in spot.ring before.log))

pub head_grown : (site : BoardView) (spot : Spot) (added : Log) (hand : Hand) (before after : TokenView)
    → after ≡ grown added hand before → popped_in spot.ring added ≡ [] → IsHead site spot before
    → IsHead site spot after
head_grown site spot added hand before after grew none =
    head_stays site spot before after (ap (λ (t : TokenView). t.board) grew) (ap (λ (t : TokenView). t.role) grew)
    (ap (λ (t : TokenView). popped_in spot.ring t.log) grew
    ∙ popped_over spot.ring added before.log
    ∙ ap (λ (items : List Item). popped_in spot.ring before.log ++ items) none
    ∙ append-nil (popped_in spot.ring before.log))

-- and so over a step that moves nothing by it
pub tail_kept : (site : BoardView) (spot : Spot) (act : Act) (before after : TokenView) → pushes spot.ring act ≡ []
    → IsTail site spot before → MakesStep site act before after → IsTail site spot after
tail_kept site spot act before after none is made =
    tail_grown site spot (act ∷ []) (hand_after act before.hand) before after made.grew none is

pub head_kept : (site : BoardView) (spot : Spot) (act : Act) (before after : TokenView) → pops spot.ring act ≡ []
    → IsHead site spot before → MakesStep site act before after → IsHead site spot after
head_kept site spot act before after none is made =
    head_grown site spot (act ∷ []) (hand_after act before.hand) before after made.grew none is
