-- Journals are short: together they have an entry for each hop of each frame at most.
use Rattle.std.proofs.Common.{◌≡◌, ℕ, ◌+◌, ◌*◌, ◌≤◌, zero, suc, inl, inr, [], ◌∷◌, length, refl, arith, length-append, Option, Some, None}
use Rattle.std.specs.Prelude.{◌==◌}
use Rattle.std.proofs.lemmas.Bool.{cases_Bool}
use Rattle.onvm_base.specs.declared.limits.TheConstants.{MAX_HOPS, MAX_PORT_FRAMES}
use Rattle.onvm_base.specs.declared.ids.FnId.{FnId}
use Rattle.onvm_base.specs.declared.ids.FrameId.{FrameId}
use Rattle.onvm_base.specs.declared.ids.RingId.{RingId}
use Rattle.onvm_base.specs.declared.ids.RingId.TheVariants.{Lane, Output, Mail}
use Rattle.onvm_core.specs.declared.parcel.Parcel.{Parcel}
use Rattle.onvm_core.specs.declared.place.Place.{Place}
use Rattle.onvm_core.specs.declared.place.Place.TheVariants.{Role}
use Rattle.onvm_core.specs.declared.step.Act.{Act}
use Rattle.onvm_core.specs.declared.step.Act.TheVariants.{Take, Push, Pop}
use Rattle.onvm_core.specs.declared.step.Item.TheVariants.{Buffer, Number}
use Rattle.onvm_core.specs.declared.step.Step.{Step}
use Rattle.onvm_core.specs.Layouts.{IsLayout, core_role}
use Rattle.onvm_core.specs.History.{History, content_of, place_of}
use Rattle.onvm_core.specs.Lawful.{AllowsAct, IsLawful}
use Rattle.onvm_core.specs.Logs.{Setting, Log, IsNumbered, entries_of_port, log_of}
use Rattle.onvm_core.specs.Blocks.{RoleKind, kind_of, IsOfBlocks, AllOfBlocks}
use Rattle.onvm_core.specs.Frames.{Load, block_frame, load}
use Rattle.onvm_core.specs.Frames.Load.{Fresh}
use Rattle.onvm_core.specs.Journals.{HasShortJournals, IsTraced, Names, handling, handlings, journal_of, last_popped_parcel}
use Rattle.onvm_core.specs.Potential.{sum_below, fresh_potential, outputs_by, outputs_on, potential, waiting_count}
use Rattle.onvm_core.specs.Settings.{HasFewFrames, IsSetting, frame_count}
use Rattle.onvm_core.proofs.Balance.{blocks_before, own_blocks}
use Rattle.onvm_core.proofs.Falls.{Lightens, buffers_step, pushed_known, waiting_step}
use Rattle.onvm_core.proofs.Hands.{is_kind}
use Rattle.onvm_core.proofs.Lighter.{Lighter, hops_of, lighter_by_kind, short_of}
use Rattle.onvm_core.proofs.Loads.{HasLoad, IsLoaded, content_loaded, first_of, own_load, own_load_is}
use Rattle.onvm_core.proofs.Sums.{pick, sum_le, sum_none, sum_pick_one, sum_plus, sum_same, term_below}
use Rattle.onvm_core.proofs.Traces.{each_traced}

-- The potential at first

none_begun : (setting : Setting) → sum_below (waiting_count setting []) setting.layout.ports ≡ frame_count setting
none_begun setting =
    sum_same (waiting_count setting []) (λ port. length (entries_of_port port setting.entries)) setting.layout.ports
    (λ port less. omega arith)

pub potential_at_first : (setting : Setting) → potential setting [] ≡ fresh_potential * frame_count setting
potential_at_first setting =
    let none : sum_below (λ (buf : ℕ). 0) (setting.layout.ports * setting.layout.buffers) ≡ 0 =
    sum_none (λ buf. 0) (setting.layout.ports * setting.layout.buffers) (λ buf less. refl) in
    omega (arith, none_begun setting, none)

-- Hops: how often frames may still be handled, all together. Each push on an output ring takes one

abbrev weigh_hops : Place → Option Load → ℕ
weigh_hops there what = hops_of what

no_load_hops : (there : Place) → weigh_hops there None ≡ 0
no_load_hops there = refl

taken_hops : (role : ℕ) (frame : FrameId) → weigh_hops (Role role) (Some (Fresh frame)) ≡ MAX_HOPS
taken_hops role frame = refl

abbrev hops : Setting → History → ℕ
hops setting past =
    MAX_HOPS * sum_below (waiting_count setting past) setting.layout.ports
    + sum_below (λ buf. hops_of (load setting buf past)) (setting.layout.ports * setting.layout.buffers)

hops_lighten : (setting : Setting) (before : History) (role : ℕ) (act : Act)
    → IsLawful setting.layout before → AllowsAct setting.layout before role act
    → IsOfBlocks setting role (act ∷ log_of role before)
    → Lightens weigh_hops MAX_HOPS no_load_hops taken_hops role (λ buf. place_of buf before)
    (λ buf. load setting buf before) (setting.layout.ports * setting.layout.buffers) act
hops_lighten setting before role (Take b) lawful allowed blocks = allowed.known
hops_lighten setting before role (Push r (Buffer b parcel)) lawful allowed blocks =
    let kind : RoleKind = kind_of setting.layout role in
    let light : Lighter setting.layout role (own_load setting role (log_of role before)) r b parcel =
    lighter_by_kind setting role kind (log_of role before) r b parcel
    (short_of setting.layout before role r b parcel allowed.suits)
    (is_kind setting role (Push r (Buffer b parcel) ∷ log_of role before) kind refl blocks) in
    let had : HasLoad setting before role b.0 light.0 = own_load_is setting before lawful role b.0 light.0 light.1 in
    (pushed_known setting.layout before role r b parcel allowed.suits, rw had.has light.3)
hops_lighten setting before role (Pop r (Buffer b parcel)) lawful allowed blocks =
    let has : IsLoaded setting before (Buffer b parcel) =
    first_of (IsLoaded setting before) (content_of r before) (Buffer b parcel) allowed.first
    (content_loaded setting before lawful r) in
    rw has (omega arith)
hops_lighten setting before role act lawful allowed blocks = tt

hops_step : (setting : Setting) (step : Step) (before : History)
    → IsNumbered setting → IsLawful setting.layout (step ∷ before) → AllOfBlocks setting (step ∷ before)
    → hops setting (step ∷ before) + outputs_by step.act ≤ hops setting before
hops_step setting step before numbered lawful blocks =
    let own : IsOfBlocks setting step.role (step.act ∷ log_of step.role before) =
    own_blocks setting step before blocks in
    let facts : Lightens weigh_hops MAX_HOPS no_load_hops taken_hops step.role (λ buf. place_of buf before)
    (λ buf. load setting buf before) (setting.layout.ports * setting.layout.buffers) step.act
    = hops_lighten setting before step.role step.act lawful.1 lawful.0.allowed own in
    omega (
      arith,
      waiting_step setting step before numbered blocks,
      buffers_step weigh_hops MAX_HOPS no_load_hops taken_hops step.role
          (block_frame setting step.role (log_of step.role before)) step.act (λ buf. place_of buf before)
          (λ buf. load setting buf before) (setting.layout.ports * setting.layout.buffers) facts,
    )

hops_at_first : (setting : Setting) → hops setting [] ≡ MAX_HOPS * frame_count setting
hops_at_first setting =
    let none : sum_below (λ (buf : ℕ). 0) (setting.layout.ports * setting.layout.buffers) ≡ 0 =
    sum_none (λ buf. 0) (setting.layout.ports * setting.layout.buffers) (λ buf less. refl) in
    omega (arith, none_begun setting, none)

-- how many pushes on output rings there were
abbrev pub outputs_in : History → ℕ
outputs_in [] = 0
outputs_in (step ∷ before) = outputs_in before + outputs_by step.act

hops_spent : (setting : Setting) (past : History)
    → IsNumbered setting → IsLawful setting.layout past → AllOfBlocks setting past
    → outputs_in past + hops setting past ≤ MAX_HOPS * frame_count setting
hops_spent setting [] numbered lawful blocks = omega (arith, hops_at_first setting)
hops_spent setting (step ∷ before) numbered lawful blocks =
    omega (
      arith,
      hops_spent setting before numbered lawful.1 (blocks_before setting step before blocks),
      hops_step setting step before numbered lawful blocks,
    )

-- frames are handled MAX_HOPS times each at most
pub outputs_few : (setting : Setting) (past : History)
    → IsNumbered setting → IsLawful setting.layout past → AllOfBlocks setting past
    → outputs_in past ≤ MAX_HOPS * frame_count setting
outputs_few setting past numbered lawful blocks = omega (arith, hops_spent setting past numbered lawful blocks)

-- Journals: a push adds an entry to one of them at most

abbrev adds_on : RingId → ℕ → ℕ
adds_on (Output g) f = pick (g.0 == f) 1
adds_on (Lane g p) f = 0
adds_on (Mail g) f = 0

abbrev adds : Act → ℕ → ℕ
adds (Push ring (Buffer b parcel)) f = adds_on ring f
adds _ f = 0

one_handling : (was : Option Parcel) (after : Parcel) → length (handling was after) ≤ 1
one_handling None after = omega arith
one_handling (Some before) after = omega arith

few_handlings : (f : FnId) (act : Act) (before : Log) → length (handlings f act before) ≤ adds act f.0
few_handlings f (Push (Output g) (Buffer b after)) before =
    elim (cases_Bool (g.0 == f.0)) [
      | inl met ↦ rw met (one_handling (last_popped_parcel b.0 before) after)
      | inr unmet ↦ rw unmet (omega arith)
    ]
few_handlings f (Push (Output g) (Number n)) before = omega arith
few_handlings f (Push (Lane g p) (Buffer b after)) before = omega arith
few_handlings f (Push (Lane g p) (Number n)) before = omega arith
few_handlings f (Push (Mail g) (Buffer b after)) before = omega arith
few_handlings f (Push (Mail g) (Number n)) before = omega arith
few_handlings f act before = omega arith

journal_step : (setting : Setting) (step : Step) (before : History) (f : FnId)
    → length (journal_of setting (step ∷ before) f) ≤ length (journal_of setting before f) + adds step.act f.0
journal_step setting step before f =
    elim (cases_Bool (step.role == core_role setting.layout f.0)) [
      | inl met ↦
          rw met (omega (
            arith,
            few_handlings f step.act (log_of (core_role setting.layout f.0) before),
            length-append (journal_of setting before f)
                (handlings f step.act (log_of (core_role setting.layout f.0) before)),
          ))
      | inr unmet ↦ rw unmet (omega arith)
    ]

adds_few_on : (ring : RingId) (n : ℕ) → sum_below (adds_on ring) n ≤ outputs_on ring
adds_few_on (Output g) n = sum_pick_one g.0 n
adds_few_on (Lane g p) n = omega (arith, sum_none (adds_on (Lane g p)) n (λ k less. refl))
adds_few_on (Mail g) n = omega (arith, sum_none (adds_on (Mail g)) n (λ k less. refl))

no_adds : (n : ℕ) → sum_below (λ (k : ℕ). 0) n ≤ 0
no_adds n = omega (arith, sum_none (λ k. 0) n (λ k less. refl))

adds_few : (act : Act) (n : ℕ) → sum_below (adds act) n ≤ outputs_by act
adds_few (Push ring (Buffer b parcel)) n = adds_few_on ring n
adds_few act n = no_adds n

-- so many functions' journals together
abbrev together : Setting → History → ℕ → ℕ
together setting past n = sum_below (λ f. length (journal_of setting past (record { 0 = f }))) n

journals_within : (setting : Setting) (past : History) (n : ℕ) → together setting past n ≤ outputs_in past
journals_within setting [] n = omega (arith, sum_none (λ (f : ℕ). 0) n (λ f less. refl))
journals_within setting (step ∷ before) n =
    omega (
      arith,
      journals_within setting before n,
      sum_le (λ f. length (journal_of setting (step ∷ before) (record { 0 = f })))
          (λ f. length (journal_of setting before (record { 0 = f })) + adds step.act f) n
          (λ f less. journal_step setting step before (record { 0 = f })),
      sum_plus (λ f. length (journal_of setting before (record { 0 = f }))) (adds step.act) n,
      adds_few step.act n,
    )

pub journals_together : (setting : Setting) (past : History)
    → IsNumbered setting → IsLawful setting.layout past → AllOfBlocks setting past
    → sum_below (λ f. length (journal_of setting past (record { 0 = f }))) setting.layout.functions
    ≤ MAX_HOPS * frame_count setting
journals_together setting past numbered lawful blocks =
    omega (
      arith,
      journals_within setting past setting.layout.functions,
      outputs_few setting past numbered lawful blocks,
    )

pub journals_short : (setting : Setting) (past : History)
    → IsNumbered setting → IsLawful setting.layout past → AllOfBlocks setting past → HasFewFrames setting
    → HasShortJournals setting past
journals_short setting past numbered lawful blocks few f =
    omega (
      arith,
      term_below (λ g. length (journal_of setting past (record { 0 = g }))) f.0 (f.0 + 1) (omega arith),
      journals_within setting past (f.0 + 1),
      outputs_few setting past numbered lawful blocks,
      few,
    )

-- the crumbs of each parcel tell the journals
pub traced_by_few : (setting : Setting) (step : Step) (before : History) (parcel : Parcel)
    → IsNumbered setting → IsLawful setting.layout (step ∷ before) → AllOfBlocks setting (step ∷ before)
    → HasFewFrames setting → Names step.act parcel
    → IsTraced setting (step ∷ before) parcel
traced_by_few setting step before parcel numbered lawful blocks few names =
    each_traced setting step before parcel lawful blocks
    (journals_short setting (step ∷ before) numbered lawful blocks few) names

-- The limits

ports_within : (f : ℕ → ℕ) (n : ℕ) → ((k : ℕ) → f k ≤ MAX_PORT_FRAMES) → sum_below f n ≤ MAX_PORT_FRAMES * n
ports_within f zero h = omega arith
ports_within f (suc n) h = omega (arith, h n, ports_within f n h)

-- the frames of 4 ports, 262,144 each, are few
pub few_frames : (setting : Setting) → IsLayout setting.layout → IsSetting setting → HasFewFrames setting
few_frames setting is fits =
    omega (
      arith,
      ports_within (λ port. length (entries_of_port port setting.entries)) setting.layout.ports fits.few,
      is.ports.1,
    )
