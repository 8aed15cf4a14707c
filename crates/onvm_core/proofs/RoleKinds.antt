-- Of which kind each role is.
use Rattle.std.proofs.Common.{◌≡◌, ℕ, ◌+◌, ◌<◌, true, false, inl, inr, refl, arith}
use Rattle.std.specs.Prelude.{◌==◌, nat_lt, slice_index}
use Rattle.std.proofs.lemmas.Bool.{cases_Bool, eq-eqb, le-ltb, lt-ltb, ne_eqb}
use Rattle.onvm_core.specs.declared.layout.Layout.{Layout}
use Rattle.onvm_core.specs.Layouts.{IsLayout, core_role, first_role, tick_role}
use Rattle.onvm_core.specs.Blocks.{kind_of}
use Rattle.onvm_core.specs.Blocks.RoleKind.{Receives, Sends, Handles, Ticks, Leads}

-- by tests

pub kind_receives : (layout : Layout) (role : ℕ) → nat_lt role layout.ports ≡ true → kind_of layout role ≡ Receives
kind_receives layout role e = rw e refl

pub kind_other : (layout : Layout) (role : ℕ) → nat_lt role layout.ports ≡ false → kind_of layout role ≡ Receives → ⊥
kind_other layout role e =
    elim (cases_Bool (nat_lt role (layout.ports + layout.transmit))) [
      | inl met ↦ rw (e, met) (λ off. let two : Sends ≡ Receives = off in cc)
      | inr unmet ↦ elim (cases_Bool (nat_lt role (layout.ports + layout.transmit + layout.cores))) [
        | inl met ↦ rw (e, unmet, met) (λ off. let two : Handles ≡ Receives = off in cc)
        | inr again ↦ elim (cases_Bool (role == layout.ports + layout.transmit + layout.cores)) [
          | inl met ↦ rw (e, unmet, again, met) (λ off. let two : Ticks ≡ Receives = off in cc)
          | inr last ↦ rw (e, unmet, again, last) (λ off. let two : Leads ≡ Receives = off in cc)
        ]
      ]
    ]

-- by numbers

pub kind_port : (layout : Layout) (port : ℕ) → port < layout.ports → kind_of layout port ≡ Receives
kind_port layout port known = kind_receives layout port (lt-ltb port layout.ports known)

pub kind_sends : (layout : Layout) (role t : ℕ) → role ≡ layout.ports + t → t < layout.transmit
    → kind_of layout role ≡ Sends
kind_sends layout role t e less =
    let one : nat_lt role layout.ports ≡ false = le-ltb role layout.ports (omega (arith, e)) in
    let two : nat_lt role (layout.ports + layout.transmit) ≡ true =
    lt-ltb role (layout.ports + layout.transmit) (omega (arith, e, less)) in
    rw (one, two) refl

pub kind_handles : (layout : Layout) (role core : ℕ) → role ≡ layout.ports + layout.transmit + core
    → core < layout.cores
    → kind_of layout role ≡ Handles
kind_handles layout role core e less =
    let one : nat_lt role layout.ports ≡ false = le-ltb role layout.ports (omega (arith, e)) in
    let two : nat_lt role (layout.ports + layout.transmit) ≡ false =
    le-ltb role (layout.ports + layout.transmit) (omega (arith, e)) in
    let three : nat_lt role (layout.ports + layout.transmit + layout.cores) ≡ true =
    lt-ltb role (layout.ports + layout.transmit + layout.cores) (omega (arith, e, less)) in
    rw (one, two, three) refl

-- the role of a function's core is a core's
pub core_handles : (layout : Layout) (f : ℕ) → IsLayout layout → f < layout.functions
    → kind_of layout (core_role layout f) ≡ Handles
core_handles layout f is known =
    kind_handles layout (core_role layout f) (slice_index layout.core_of f) refl
    (is.core_of f 0 (omega (arith, is.places, is.functions.1, known)))

pub kind_tick : (layout : Layout) → kind_of layout (tick_role layout) ≡ Ticks
kind_tick layout =
    rw (
      le-ltb (tick_role layout) layout.ports (omega arith),
      le-ltb (tick_role layout) (layout.ports + layout.transmit) (omega arith),
      le-ltb (tick_role layout) (layout.ports + layout.transmit + layout.cores) (omega arith),
      eq-eqb (tick_role layout) (tick_role layout) refl,
    ) refl

pub kind_first : (layout : Layout) → kind_of layout (first_role layout) ≡ Leads
kind_first layout =
    rw (
      le-ltb (first_role layout) layout.ports (omega arith),
      le-ltb (first_role layout) (layout.ports + layout.transmit) (omega arith),
      le-ltb (first_role layout) (layout.ports + layout.transmit + layout.cores) (omega arith),
      ne_eqb (first_role layout) (tick_role layout) (λ e. omega (arith, e)),
    ) refl
