-- Records counted frame by frame.
use Rattle.std.proofs.Common.{◌≡◌, ℕ, ◌+◌, ◌-◌, ◌<◌, ◌≤◌, Bool, true, false, inl, inr, List, [], ◌∷◌, ◌++◌, length, refl, sym, ◌∙◌, ap, subst, append_assoc, arith}
use Rattle.std.specs.Prelude.{◌==◌, ◌&&◌}
use Rattle.std.proofs.lemmas.Bool.{cases_Bool, and_left, eqb-true, eqb-false, eq-eqb, ne_eqb}
use Rattle.onvm_base.specs.declared.ids.FrameId.{FrameId}
use Rattle.onvm_base.specs.declared.outcome.Record.{Record}
use Rattle.onvm_core.specs.Places.{how_many, one_if}
use Rattle.onvm_core.specs.Frames.{same_frame}
use Rattle.onvm_core.specs.Potential.{sum_below}
use Rattle.onvm_core.proofs.Loads.{Each}
use Rattle.onvm_core.proofs.Once.{how_many-append}
use Rattle.onvm_core.proofs.Sums.{pick, sum_none, sum_pick, sum_pick_under, sum_plus, sum_same}

-- Frames by port and number

abbrev pub frame_at : (port done : ℕ) → FrameId
frame_at port done = record { port = record { 0 = port }; number = done + 1 }

-- a frame of these many of each port
abbrev pub InRange : (ℕ → ℕ) → ℕ → FrameId → Type 0
InRange frames ports frame = (frame.port.0 < ports) × (0 < frame.number) × (frame.number ≤ frames frame.port.0)

-- a number above 0 is the one after its predecessor
same_number : (number done : ℕ) → 0 < number → (number == done + 1) ≡ (number - 1 == done)
same_number number done some =
    elim (cases_Bool (number - 1 == done)) [
      | inl met ↦ rw met (eq-eqb number (done + 1) (omega (arith, some, eqb-true (number - 1) done met)))
      | inr unmet ↦
          rw unmet (ne_eqb number (done + 1) (λ e. eqb-false (number - 1) done unmet (omega (arith, e))))
    ]

one_is_pick : (b : Bool) → one_if b ≡ pick b 1
one_is_pick true = refl
one_is_pick false = refl

pick_same : (b c : Bool) → b ≡ c → one_if b ≡ pick c 1
pick_same b c e = one_is_pick b ∙ ap (λ (d : Bool). pick d 1) e

under_same : (a b c : Bool) → b ≡ c → (a && b) ≡ (a && c)
under_same a b c e = ap (λ (d : Bool). a && d) e

-- of all frames in range one is this one
one_frame : (frames : ℕ → ℕ) (ports : ℕ) (frame : FrameId) → InRange frames ports frame
    → sum_below (λ port. sum_below (λ done. one_if (same_frame frame (frame_at port done))) (frames port)) ports ≡ 1
one_frame frames ports frame within =
    sum_same (λ port. sum_below (λ done. one_if (same_frame frame (frame_at port done))) (frames port))
    (λ port. pick (frame.port.0 == port) 1) ports
    (λ port less. elim (cases_Bool (frame.port.0 == port)) [
      | inl met ↦
          sum_same (λ done. one_if (same_frame frame (frame_at port done)))
          (λ done. pick ((frame.port.0 == port) && (frame.number - 1 == done)) 1) (frames port)
          (λ done below.
          pick_same (same_frame frame (frame_at port done)) ((frame.port.0 == port) && (frame.number - 1 == done))
          (under_same (frame.port.0 == port) (frame.number == done + 1) (frame.number - 1 == done)
          (same_number frame.number done within.1)))
          ∙ sum_pick_under (frame.port.0 == port) (frame.number - 1) 1 (frames port)
          (subst (λ (p : ℕ). frame.number - 1 < frames p) (eqb-true frame.port.0 port met)
          (omega (arith, within.1, within.2)))
      | inr unmet ↦
          sum_none (λ done. one_if (same_frame frame (frame_at port done))) (frames port)
          (λ done below.
          ap one_if (and_left (frame.port.0 == port) (frame.number == done + 1) unmet))
          ∙ sym (ap (λ (b : Bool). pick b 1) unmet)
    ])
    ∙ sum_pick (λ port. 1) frame.port.0 ports within.0

-- The records, frame by frame

pub counted_all : (frames : ℕ → ℕ) (ports : ℕ) (told : List Record) → Each (λ r. InRange frames ports r.frame) told
    → sum_below (λ port.
    sum_below (λ done. how_many (λ r. same_frame r.frame (frame_at port done)) told) (frames port)) ports
    ≡ length told
counted_all frames ports [] within =
    sum_none (λ port. sum_below (λ done. 0) (frames port)) ports
    (λ port less. sum_none (λ done. 0) (frames port) (λ done below. refl))
counted_all frames ports (r ∷ rs) within =
    sum_same (λ port.
    sum_below (λ done.
    one_if (same_frame r.frame (frame_at port done)) + how_many (λ q. same_frame q.frame (frame_at port done)) rs)
    (frames port))
    (λ port.
    sum_below (λ done. one_if (same_frame r.frame (frame_at port done))) (frames port)
    + sum_below (λ done. how_many (λ q. same_frame q.frame (frame_at port done)) rs) (frames port))
    ports
    (λ port less.
    sum_plus (λ done. one_if (same_frame r.frame (frame_at port done)))
    (λ done. how_many (λ q. same_frame q.frame (frame_at port done)) rs) (frames port))
    ∙ sum_plus (λ port. sum_below (λ done. one_if (same_frame r.frame (frame_at port done))) (frames port))
    (λ port. sum_below (λ done. how_many (λ q. same_frame q.frame (frame_at port done)) rs) (frames port)) ports
    ∙ omega (arith, one_frame frames ports r.frame within.0, counted_all frames ports rs within.1)

pub same_frame_self : (frame : FrameId) → same_frame frame frame ≡ true
same_frame_self frame =
    rw (eq-eqb frame.port.0 frame.port.0 refl, eq-eqb frame.number frame.number refl) refl

-- each record's frame has a record
pub each_counted : (front told : List Record)
    → Each (λ r. 1 ≤ how_many (λ q. same_frame q.frame r.frame) (front ++ told)) told
each_counted front [] = tt
each_counted front (r ∷ rs) =
    let mine : one_if (same_frame r.frame r.frame) ≡ 1 = ap one_if (same_frame_self r.frame) in
    let here : how_many (λ q. same_frame q.frame r.frame) (front ++ r ∷ rs)
    ≡ how_many (λ q. same_frame q.frame r.frame) front
    + (one_if (same_frame r.frame r.frame) + how_many (λ q. same_frame q.frame r.frame) rs)
    = how_many-append (λ q. same_frame q.frame r.frame) front (r ∷ rs) in (
      omega (arith, here, mine),
      subst (λ (all : List Record). Each (λ x. 1 ≤ how_many (λ q. same_frame q.frame x.frame) all) rs)
          (append_assoc front (r ∷ []) rs)
          (each_counted (front ++ r ∷ []) rs),
    )
