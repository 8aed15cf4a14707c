-- What a step does to the content of a ring.
use Rattle.std.proofs.Common.{◌≡◌, ℕ, ◌+◌, ◌<◌, ◌≤◌, Bool, true, inl, inr, List, [], ◌∷◌, ◌++◌, length, drop, refl, sym, ◌∙◌, ap, subst, arith, append_assoc, length-append, length-drop, Some}
use Rattle.std.specs.Prelude.{slice_get, ◌==◌}
use Rattle.std.proofs.lemmas.Bool.{cases_Bool, and_parts, eqb-true}
use Rattle.std.proofs.lemmas.List.{drop-drop, drop-append-le, append-nil}
use Rattle.onvm_base.specs.declared.ids.RingId.{RingId}
use Rattle.onvm_base.specs.declared.ids.RingId.TheVariants.{Lane, Output, Mail}
use Rattle.onvm_core.specs.declared.layout.Layout.{Layout}
use Rattle.onvm_core.specs.declared.step.Item.{Item}
use Rattle.onvm_core.specs.declared.step.Act.{Act}
use Rattle.onvm_core.specs.declared.step.Act.TheVariants.{Push, Pop}
use Rattle.onvm_core.specs.declared.step.Step.{Step}
use Rattle.onvm_core.specs.Layouts.{same_ring, ring_size}
use Rattle.onvm_core.specs.History.{History, pushes, pops, pushed_on, popped_from, content_of}
use Rattle.onvm_core.specs.Lawful.{AllowsAct, IsLawful}

abbrev nat_test : ℕ → ℕ → Bool
nat_test a b = a == b

-- rings that test equal are one
pub same_ring_is : (r s : RingId) → same_ring r s ≡ true → r ≡ s
same_ring_is (Lane f p) (Lane g q) e =
    let both : (nat_test f.0 g.0 ≡ true) × (nat_test p q ≡ true) = and_parts (f.0 == g.0) (p == q) e in
    let one : f.0 ≡ g.0 = eqb-true f.0 g.0 both.0 in
    let two : p ≡ q = eqb-true p q both.1 in
    ap (λ n. Lane (record { 0 = n }) p) one ∙ ap (λ n. Lane g n) two
same_ring_is (Output f) (Output g) e = ap (λ n. Output (record { 0 = n })) (eqb-true f.0 g.0 e)
same_ring_is ring (Lane g q) e = cc
same_ring_is ring (Output g) e = cc
same_ring_is (Mail f) (Mail g) e = ap (λ n. Mail (record { 0 = n })) (eqb-true f.0 g.0 e)
same_ring_is ring (Mail g) e = cc

-- the content loses what is popped, and gains what is pushed
pub content_step : (ring : RingId) (step : Step) (before : History)
    → length (popped_from ring before) ≤ length (pushed_on ring before)
    → content_of ring (step ∷ before)
    ≡ drop (length (pops ring step.act)) (content_of ring before ++ pushes ring step.act)
content_step ring step before within =
    rw (length-append (popped_from ring before) (pops ring step.act))
    (sym (drop-drop (length (pops ring step.act)) (length (popped_from ring before))
    (pushed_on ring before ++ pushes ring step.act))
    ∙ ap (drop (length (pops ring step.act)))
    (drop-append-le (length (popped_from ring before)) (pushed_on ring before) (pushes ring step.act) within))

-- a list with a first element is that and the rest
pub front : (items : List Item) (item : Item) → slice_get items 0 ≡ Some item → item ∷ drop 1 items ≡ items
front [] item e = cc
front (x ∷ xs) item e = cc

-- what is popped is the front of the content
pub pops_front : (layout : Layout) (ring : RingId) (before : History) (role : ℕ) (act : Act)
    → AllowsAct layout before role act
    → pops ring act ++ drop (length (pops ring act)) (content_of ring before ++ pushes ring act)
    ≡ content_of ring before ++ pushes ring act
pops_front layout ring before role (Pop r item) allowed =
    elim (cases_Bool (same_ring r ring)) [
      | inl met ↦
          let same : r ≡ ring = same_ring_is r ring met in
          rw (met, append-nil) (front (content_of ring before) item
          (subst (λ s. slice_get (content_of s before) 0 ≡ Some item) same allowed.first))
      | inr unmet ↦ rw unmet refl
    ]
pops_front layout ring before role act allowed = refl

-- what was pushed is what was popped and then the content
pub popped-append-content : (layout : Layout) (ring : RingId) (past : History) → IsLawful layout past
    → popped_from ring past ++ content_of ring past ≡ pushed_on ring past
popped-append-content layout ring [] lawful = refl
popped-append-content layout ring (step ∷ before) lawful =
    let known : popped_from ring before ++ content_of ring before ≡ pushed_on ring before =
    popped-append-content layout ring before lawful.1 in
    let within : length (popped_from ring before) ≤ length (pushed_on ring before) =
    omega (arith, length-append (popped_from ring before) (content_of ring before), ap length known) in
    let stepped : content_of ring (step ∷ before)
    ≡ drop (length (pops ring step.act)) (content_of ring before ++ pushes ring step.act)
    = content_step ring step before within in
    let fronted : pops ring step.act ++ drop (length (pops ring step.act))
    (content_of ring before ++ pushes ring step.act)
    ≡ content_of ring before ++ pushes ring step.act
    = pops_front layout ring before step.role step.act lawful.0.allowed in
    rw stepped
    (append_assoc (popped_from ring before) (pops ring step.act)
    (drop (length (pops ring step.act)) (content_of ring before ++ pushes ring step.act))
    ∙ ap (λ xs. popped_from ring before ++ xs) fronted
    ∙ sym (append_assoc (popped_from ring before) (content_of ring before) (pushes ring step.act))
    ∙ ap (λ xs. xs ++ pushes ring step.act) known)

-- what is popped and what then stands is what stood and what is pushed
pub content_moves : (layout : Layout) (ring : RingId) (step : Step) (before : History) → IsLawful layout (step ∷ before)
    → pops ring step.act ++ content_of ring (step ∷ before) ≡ content_of ring before ++ pushes ring step.act
content_moves layout ring step before lawful =
    let known : popped_from ring before ++ content_of ring before ≡ pushed_on ring before =
    popped-append-content layout ring before lawful.1 in
    let within : length (popped_from ring before) ≤ length (pushed_on ring before) =
    omega (arith, length-append (popped_from ring before) (content_of ring before), ap length known) in
    ap (λ xs. pops ring step.act ++ xs) (content_step ring step before within)
    ∙ pops_front layout ring before step.role step.act lawful.0.allowed

-- what is pushed has room
pushes_room : (layout : Layout) (ring : RingId) (before : History) (role : ℕ) (act : Act)
    → AllowsAct layout before role act → length (content_of ring before) ≤ ring_size layout ring
    → length (content_of ring before) + length (pushes ring act) ≤ ring_size layout ring
pushes_room layout ring before role (Push r item) allowed bounded =
    elim (cases_Bool (same_ring r ring)) [
      | inl met ↦ let same : r ≡ ring = same_ring_is r ring met in
          let room : length (content_of ring before) < ring_size layout ring =
          subst (λ s. length (content_of s before) < ring_size layout s) same allowed.room in
          rw met (omega arith)
      | inr unmet ↦ rw unmet (omega arith)
    ]
pushes_room layout ring before role act allowed bounded = omega arith

-- no content is longer than its ring
pub content_bounded : (layout : Layout) (past : History) → IsLawful layout past → (ring : RingId)
    → length (content_of ring past) ≤ ring_size layout ring
content_bounded layout [] lawful ring = omega arith
content_bounded layout (step ∷ before) lawful ring =
    let known : popped_from ring before ++ content_of ring before ≡ pushed_on ring before =
    popped-append-content layout ring before lawful.1 in
    let within : length (popped_from ring before) ≤ length (pushed_on ring before) =
    omega (arith, length-append (popped_from ring before) (content_of ring before), ap length known) in
    let room : length (content_of ring before) + length (pushes ring step.act) ≤ ring_size layout ring =
    pushes_room layout ring before step.role step.act lawful.0.allowed (content_bounded layout before lawful.1 ring) in
    rw (content_step ring step before within)
    (omega (
      arith,
      room,
      length-drop (length (pops ring step.act)) (content_of ring before ++ pushes ring step.act),
      length-append (content_of ring before) (pushes ring step.act),
    ))
