-- A producer that saw room, and has pushed nothing since, doesn't meet a full ring.
use Rattle.std.proofs.Common.{◌≡◌, ℕ, ◌%◌, ◌<◌, ◌≤◌, Bool, true, false, inl, inr, List, [], ◌∷◌, ◌++◌, length, refl, sym, ◌∙◌, ap, subst, arith, length-append}
use Rattle.std.specs.Prelude.{◌==◌, ◌&&◌, ◌||◌, not}
use Rattle.std.proofs.Common.{◌⊎◌}
use Rattle.std.proofs.lemmas.Bool.{cases_Bool, cases_order, eqb-true, and_parts}
use Rattle.onvm_base.specs.declared.ids.RingId.{RingId}
use Rattle.onvm_core.specs.declared.layout.Layout.{Layout}
use Rattle.onvm_core.specs.declared.layout.Word.TheVariants.{Pool as PoolWord, Cell, Post as PostWord, Weight}
use Rattle.onvm_core.specs.declared.step.Item.{Item}
use Rattle.onvm_core.specs.declared.step.Act.{Act}
use Rattle.onvm_core.specs.declared.step.Act.TheVariants.{Split, Join, Take, Give, Push, Full, Pop, Empty, Look, Post}
use Rattle.onvm_core.specs.declared.step.Step.{Step}
use Rattle.onvm_core.specs.Layouts.{same_ring, producer, ring_size}
use Rattle.onvm_core.specs.History.{History, pushes, pops, content_of}
use Rattle.onvm_core.specs.Lawful.{AllowsAct, IsLawful}
use Rattle.onvm_core.specs.Logs.{log_of}
use Rattle.onvm_core.specs.Potential.{pushed_in}
use Rattle.onvm_core.proofs.Contents.{same_ring_is, content_moves, content_bounded}
use Rattle.onvm_board.specs.Known.{has_room, room_after}
use Rattle.onvm_board.specs.Rule.{HaveNonzeroMail}
use Rattle.onvm_board.specs.Tokens.{BoardView, TokenView, MakesStep}
use Rattle.onvm_board.proofs.Cells.{cell_of, back, back_taken}
use Rattle.onvm_board.proofs.Logs.{pushed_is, push_skips}

-- a step that pushes nothing on a ring leaves no more in it
no_more : (layout : Layout) (ring : RingId) (step : Step) (before : History) → IsLawful layout (step ∷ before)
    → pushes ring step.act ≡ [] → length (content_of ring (step ∷ before)) ≤ length (content_of ring before)
no_more layout ring step before lawful none_pushed =
    let moved : pops ring step.act ++ content_of ring (step ∷ before) ≡ content_of ring before ++ pushes ring step.act =
    content_moves layout ring step before lawful in
    omega (
      arith,
      ap length moved,
      length-append (pops ring step.act) (content_of ring (step ∷ before)),
      length-append (content_of ring before) (pushes ring step.act),
      ap length none_pushed,
    )

or_cases : (a b : Bool) → (a || b) ≡ true → (a ≡ true) ⊎ (b ≡ true)
or_cases true b e = inl refl
or_cases false b e = inr e

-- what the act says of the room, where it says it
seen_room : (layout : Layout) (before : History) (ring : RingId) (role : ℕ) (act : Act) → 0 < ring_size layout ring
    → IsLawful layout before → HaveNonzeroMail before → AllowsAct layout before role act → producer layout ring ≡ role
    → room_after layout ring act (log_of role before) (has_room layout ring (log_of role before)) ≡ true
    → (has_room layout ring (log_of role before) ≡ true → length (content_of ring before) < ring_size layout ring)
    → (length (content_of ring before) < ring_size layout ring) × (pushes ring act ≡ [])
seen_room layout before ring role (Look (Cell r at) seen told) some lawful marked allowed own e earlier =
    elim (or_cases (same_ring r ring
    && ((at == length (pushed_in ring (log_of role before)) % ring_size layout ring) && (seen == 0)))
    (has_room layout ring (log_of role before)) e) [
      | inl now ↦
          let size : ℕ = ring_size layout ring in
          let one = and_parts (same_ring r ring)
          ((at == length (pushed_in ring (log_of role before)) % size) && (seen == 0)) now in
          let two = and_parts (at == length (pushed_in ring (log_of role before)) % size) (seen == 0) one.1 in
          let same : r ≡ ring = same_ring_is r ring one.0 in
          let place : at ≡ length (pushed_in ring (log_of role before)) % size =
          eqb-true at (length (pushed_in ring (log_of role before)) % size) two.0 in
          let zero_seen : seen ≡ 0 = eqb-true seen 0 two.1 in
          let is_back : at ≡ back layout ring before lawful marked =
          place ∙ ap (λ (items : List Item). length items % size) (sym
          (pushed_is layout ring role own before lawful)) in
          let shown : cell_of layout before ring (back layout ring before lawful marked) ≡ 0 =
          sym (ap (cell_of layout before ring) is_back)
          ∙ sym (ap (λ s. cell_of layout before s at) same)
          ∙ sym allowed.true_value ∙ zero_seen in
          let bounded : length (content_of ring before) ≤ size = content_bounded layout before lawful ring in (
            elim (cases_order (length (content_of ring before)) size) [
              | inl full ↦ absurd (back_taken layout ring before lawful marked some full shown)
              | inr (inl less) ↦ less
              | inr (inr more) ↦ absurd (omega (arith, more, bounded))
            ],
            refl,
          )
      | inr was ↦ (earlier was, refl)
    ]
seen_room layout before ring role (Look (PoolWord a b) seen told) some lawful marked allowed own e earlier =
    (earlier e, refl)
seen_room layout before ring role (Look (PostWord a) seen told) some lawful marked allowed own e earlier =
    (earlier e, refl)
seen_room layout before ring role (Look (Weight a) seen told) some lawful marked allowed own e earlier =
    (earlier e, refl)
seen_room layout before ring role (Push r item) some lawful marked allowed own e earlier =
    let both = and_parts (not (same_ring r ring)) (has_room layout ring (log_of role before)) e in
    elim (cases_Bool (same_ring r ring)) [
      | inl met ↦ absurd (let off : false ≡ true = rw met at both.0 in cc)
      | inr unmet ↦ (earlier both.1, rw unmet refl)
    ]
seen_room layout before ring role (Split a) some lawful marked allowed own e earlier = (earlier e, refl)
seen_room layout before ring role (Join a) some lawful marked allowed own e earlier = (earlier e, refl)
seen_room layout before ring role (Take a) some lawful marked allowed own e earlier = (earlier e, refl)
seen_room layout before ring role (Give a b c) some lawful marked allowed own e earlier = (earlier e, refl)
seen_room layout before ring role (Full a) some lawful marked allowed own e earlier = (earlier e, refl)
seen_room layout before ring role (Pop a b) some lawful marked allowed own e earlier = (earlier e, refl)
seen_room layout before ring role (Empty a) some lawful marked allowed own e earlier = (earlier e, refl)
seen_room layout before ring role (Post a b) some lawful marked allowed own e earlier = (earlier e, refl)

-- where the producer's log says that there is room, the ring has it
pub roomy : (layout : Layout) (ring : RingId) (role : ℕ) → producer layout ring ≡ role → 0 < ring_size layout ring
    → (past : History) → IsLawful layout past → HaveNonzeroMail past → has_room layout ring (log_of role past) ≡ true
    → length (content_of ring past) < ring_size layout ring
roomy layout ring role own some [] lawful marked e = absurd (let off : false ≡ true = e in cc)
roomy layout ring role own some (step ∷ before) lawful marked e =
    elim (cases_Bool (step.role == role)) [
      | inl mine ↦
          let same : step.role ≡ role = eqb-true step.role role mine in
          let after : room_after layout ring step.act (log_of role before) (has_room layout ring (log_of role before))
          ≡ true
          = rw mine at e in
          let room : (length (content_of ring before) < ring_size layout ring) × (pushes ring step.act ≡ []) =
          seen_room layout before ring role step.act some lawful.1 marked.1
          (subst (λ r. AllowsAct layout before r step.act) same lawful.0.allowed) own after
          (roomy layout ring role own some before lawful.1 marked.1) in
          omega (arith, room.0, no_more layout ring step before lawful room.1)
      | inr foreign ↦
          let none_pushed : pushes ring step.act ≡ [] =
          push_skips layout ring role own before step.role step.act [] foreign lawful.0.allowed in
          omega (
            arith,
            no_more layout ring step before lawful none_pushed,
            roomy layout ring role own some before lawful.1 marked.1 (rw foreign at e),
          )
    ]

-- so its push isn't refused
pub never_full : (site : BoardView) (ring : RingId) (before after : TokenView) → producer site.layout ring ≡ before.role
    → 0 < ring_size site.layout ring → has_room site.layout ring before.log ≡ true
    → MakesStep site (Full ring) before after → ⊥
never_full site ring before after own some room made =
    let past : History = made.happened.before in
    let less : length (content_of ring past) < ring_size site.layout ring =
    roomy site.layout ring before.role own some past made.happened.lawful.1 made.happened.marked.1
    (ap (has_room site.layout ring) (sym made.happened.known) ∙ room) in
    absurd (omega (arith, less, made.happened.lawful.0.allowed.full))
