-- The potential of a history is that of its roles' logs.
use Rattle.std.proofs.Common.{◌≡◌, ℕ, ◌+◌, ◌-◌, ◌*◌, ◌<◌, ◌≤◌, inl, inr, [], ◌∷◌, length, refl, sym, ◌∙◌, ap, subst, arith, Option, Some, None}
use Rattle.std.specs.Prelude.{◌==◌, ◌&&◌}
use Rattle.std.proofs.lemmas.Bool.{cases_Bool, lt-ltb, le-ltb}
use Rattle.onvm_base.specs.declared.ids.RingId.TheVariants.{Lane, Output, Mail}
use Rattle.onvm_base.specs.declared.outcome.Record.{Record}
use Rattle.onvm_core.specs.declared.layout.Word.TheVariants.{Post as PostWord}
use Rattle.onvm_core.specs.declared.step.Act.{Act}
use Rattle.onvm_core.specs.declared.step.Act.TheVariants.{Take, Look}
use Rattle.onvm_core.specs.declared.place.Place.{Place}
use Rattle.onvm_core.specs.declared.place.Place.TheVariants.{Pool, Ring, Role}
use Rattle.onvm_core.specs.History.{History, place_of}
use Rattle.onvm_core.specs.Lawful.{IsLawful}
use Rattle.onvm_core.specs.Places.{same_place}
use Rattle.onvm_core.specs.Layouts.{feeder_count}
use Rattle.onvm_core.specs.Logs.{Setting, Log, log_of, entries_of_port}
use Rattle.onvm_core.specs.Receiving.{ReceivePhase, phase_after_ask, phase_after_seek, receive_after, receive_phase, done_count}
use Rattle.onvm_core.specs.Receiving.ReceivePhase.{Between, Asks, Seeks, Sees, Took, Barred}
use Rattle.onvm_core.specs.Blocks.{RoleKind, kind_of, AllOfBlocks}
use Rattle.onvm_core.specs.Blocks.RoleKind.{Receives}
use Rattle.onvm_core.specs.Frames.{begun_count}
use Rattle.onvm_core.specs.Potential.{sum_below, waiting_count, potential, outside_count, ring_potential, function_potential, hand_potential, potential_of_logs}
use Rattle.onvm_core.proofs.Loads.{pool_load}
use Rattle.onvm_core.proofs.Hands.{IsKind, is_kind}
use Rattle.onvm_core.proofs.Begun.{mark_begins}
use Rattle.onvm_core.proofs.RoleKinds.{kind_receives, kind_other}
use Rattle.onvm_core.proofs.Sums.{pick, sum_same, sum_zero, sum_none, sum_plus, sum_pick, sum_pick_under, sum_extend, sum_more, sum_regroup}
use Rattle.onvm_core.proofs.Logged.{Known, place_known, heft, weight_there, ring_weighs}
use Rattle.onvm_core.proofs.Holders.{taken_weight, taken_by, role_weighs, holder_below}
use Rattle.std.proofs.lemmas.Option.{slice_get_within}

-- What is in a ring or in a role's hands is in just one of them: its weight, summed over all of them, is its weight

abbrev in_rings : (functions lanes : ℕ) → Place → ℕ → ℕ
in_rings functions lanes there w =
    sum_below (λ f.
    sum_below (λ feeder. pick (same_place there (Ring (Lane (record { 0 = f }) feeder))) w) lanes
    + pick (same_place there (Ring (Output (record { 0 = f })))) w) functions

abbrev in_roles : (roles : ℕ) → Place → ℕ → ℕ
in_roles roles there w = sum_below (λ role. pick (same_place there (Role role)) w) roles

abbrev Stands : (functions lanes roles : ℕ) → Place → ℕ → Type 0
Stands functions lanes roles Pool w = w ≡ 0
Stands functions lanes roles (Ring (Lane f feeder)) w = (f.0 < functions) × (feeder < lanes)
Stands functions lanes roles (Ring (Output f)) w = f.0 < functions
Stands functions lanes roles (Ring (Mail f)) w = ⊥
Stands functions lanes roles (Role role) w = role < roles

no_rings : (functions lanes : ℕ) → sum_below (λ f. sum_below (λ feeder. 0) lanes + 0) functions ≡ 0
no_rings functions lanes =
    sum_none (λ f. sum_below (λ feeder. 0) lanes + 0) functions (λ f less. omega (arith, sum_zero lanes))

in_lane : (functions lanes g feeder w : ℕ) → g < functions → feeder < lanes
    → sum_below (λ f. sum_below (λ p. pick ((g == f) && (feeder == p)) w) lanes + 0) functions ≡ w
in_lane functions lanes g feeder w known less =
    sum_same (λ f. sum_below (λ p. pick ((g == f) && (feeder == p)) w) lanes + 0) (λ f. pick (g == f) w) functions
    (λ f below. omega (arith, sum_pick_under (g == f) feeder w lanes less))
    ∙ sum_pick (λ f. w) g functions known

in_output : (functions lanes g w : ℕ) → g < functions
    → sum_below (λ f. sum_below (λ feeder. 0) lanes + pick (g == f) w) functions ≡ w
in_output functions lanes g w known =
    sum_same (λ f. sum_below (λ feeder. 0) lanes + pick (g == f) w) (λ f. pick (g == f) w) functions
    (λ f below. omega (arith, sum_zero lanes))
    ∙ sum_pick (λ f. w) g functions known

in_one_place : (functions lanes roles : ℕ) (there : Place) (w : ℕ) → Stands functions lanes roles there w
    → w ≡ in_rings functions lanes there w + in_roles roles there w
in_one_place functions lanes roles Pool w stands = omega (arith, stands, no_rings functions lanes, sum_zero roles)
in_one_place functions lanes roles (Ring (Lane f feeder)) w stands =
    omega (arith, in_lane functions lanes f.0 feeder w stands.0 stands.1, sum_zero roles)
in_one_place functions lanes roles (Ring (Output f)) w stands =
    omega (arith, in_output functions lanes f.0 w stands, sum_zero roles)
in_one_place functions lanes roles (Ring (Mail f)) w stands = absurd stands
in_one_place functions lanes roles (Role role) w stands =
    omega (arith, no_rings functions lanes, sum_pick (λ k. w) role roles stands)

stands_of : (setting : Setting) (past : History) (buf : ℕ) (there : Place)
    → IsLawful setting.layout past → AllOfBlocks setting past → place_of buf past ≡ there
    → Stands setting.layout.functions (feeder_count setting.layout)
    (setting.layout.ports + setting.layout.transmit + setting.layout.cores) there (heft setting past buf)
stands_of setting past buf Pool lawful blocks at = rw (pool_load setting past buf at) refl
stands_of setting past buf (Ring (Lane f feeder)) lawful blocks at =
    let known : Known setting.layout buf (Ring (Lane f feeder)) =
    subst (Known setting.layout buf) at (place_known setting.layout past lawful buf) in
    known.1
stands_of setting past buf (Ring (Output f)) lawful blocks at =
    let known : Known setting.layout buf (Ring (Output f)) =
    subst (Known setting.layout buf) at (place_known setting.layout past lawful buf) in
    known.1
stands_of setting past buf (Ring (Mail f)) lawful blocks at =
    subst (Known setting.layout buf) at (place_known setting.layout past lawful buf)
stands_of setting past buf (Role role) lawful blocks at = holder_below setting past lawful blocks role buf at

-- The buffers, by their places

by_place : (setting : Setting) (past : History) → IsLawful setting.layout past → AllOfBlocks setting past
    → sum_below (heft setting past) (setting.layout.ports * setting.layout.buffers)
    ≡ sum_below (λ f.
    sum_below (λ feeder. weight_there setting past (Ring (Lane (record { 0 = f }) feeder))) (feeder_count setting.layout)
    + weight_there setting past (Ring (Output (record { 0 = f })))) setting.layout.functions
    + sum_below (λ role. weight_there setting past (Role role))
    (setting.layout.ports + setting.layout.transmit + setting.layout.cores)
by_place setting past lawful blocks =
    sum_same (heft setting past) (λ buf.
    in_rings setting.layout.functions (feeder_count setting.layout) (place_of buf past) (heft setting past buf)
    + in_roles (setting.layout.ports + setting.layout.transmit + setting.layout.cores) (place_of buf past)
    (heft setting past buf))
    (setting.layout.ports * setting.layout.buffers)
    (λ buf less.
    in_one_place setting.layout.functions (feeder_count setting.layout)
    (setting.layout.ports + setting.layout.transmit + setting.layout.cores) (place_of buf past) (heft setting past buf)
    (stands_of setting past buf (place_of buf past) lawful blocks refl))
    ∙ sum_regroup (λ f feeder buf.
    pick (same_place (place_of buf past) (Ring (Lane (record { 0 = f }) feeder))) (heft setting past buf))
    (λ f buf. pick (same_place (place_of buf past) (Ring (Output (record { 0 = f })))) (heft setting past buf))
    (λ role buf. pick (same_place (place_of buf past) (Role role)) (heft setting past buf))
    setting.layout.functions (feeder_count setting.layout)
    (setting.layout.ports + setting.layout.transmit + setting.layout.cores)
    (setting.layout.ports * setting.layout.buffers)

function_weighs : (setting : Setting) (past : History) → IsLawful setting.layout past → (f : ℕ)
    → sum_below (λ feeder. weight_there setting past (Ring (Lane (record { 0 = f }) feeder))) (feeder_count setting.layout)
    + weight_there setting past (Ring (Output (record { 0 = f })))
    ≡ function_potential setting (λ role. log_of role past) f
function_weighs setting past lawful f =
    ap (λ (s : ℕ). s + weight_there setting past (Ring (Output (record { 0 = f }))))
    (sum_same (λ feeder. weight_there setting past (Ring (Lane (record { 0 = f }) feeder)))
    (λ feeder. ring_potential setting (λ role. log_of role past) (Lane (record { 0 = f }) feeder))
    (feeder_count setting.layout)
    (λ feeder less. ring_weighs setting past lawful (Lane (record { 0 = f }) feeder)))
    ∙ ap (λ (s : ℕ).
    sum_below (λ feeder. ring_potential setting (λ role. log_of role past) (Lane (record { 0 = f }) feeder))
    (feeder_count setting.layout)
    + s)
    (ring_weighs setting past lawful (Output (record { 0 = f })))

abbrev taken_of : Setting → History → ℕ → ℕ
taken_of setting past role = taken_by setting (kind_of setting.layout role) (log_of role past)

abbrev hand_of : Setting → History → ℕ → ℕ
hand_of setting past role = hand_potential (kind_of setting.layout role) (log_of role past)

buffers_weigh : (setting : Setting) (past : History) → IsLawful setting.layout past → AllOfBlocks setting past
    → sum_below (heft setting past) (setting.layout.ports * setting.layout.buffers)
    ≡ sum_below (function_potential setting (λ role. log_of role past)) setting.layout.functions
    + sum_below (λ role. taken_of setting past role + hand_of setting past role)
    (setting.layout.ports + setting.layout.transmit + setting.layout.cores)
buffers_weigh setting past lawful blocks =
    by_place setting past lawful blocks
    ∙ ap (λ (s : ℕ).
    s
    + sum_below (λ role. weight_there setting past (Role role))
    (setting.layout.ports + setting.layout.transmit + setting.layout.cores))
    (sum_same (λ f. sum_below (λ feeder. weight_there setting past (Ring (Lane (record { 0 = f }) feeder)))
    (feeder_count setting.layout)
    + weight_there setting past (Ring (Output (record { 0 = f }))))
    (function_potential setting (λ role. log_of role past)) setting.layout.functions
    (λ f less. function_weighs setting past lawful f))
    ∙ ap (λ (s : ℕ). sum_below (function_potential setting (λ role. log_of role past)) setting.layout.functions + s)
    (sum_same (λ role. weight_there setting past (Role role))
    (λ role. taken_of setting past role + hand_of setting past role)
    (setting.layout.ports + setting.layout.transmit + setting.layout.cores)
    (λ role less. role_weighs setting past lawful blocks role))

-- Frames outside

asked_more : (setting : Setting) (done k : ℕ) (told : Option Record)
    → begun_count (phase_after_ask setting done k told) ≤ done + 1
asked_more setting done k None =
    elim (cases_Bool (k + 1 == feeder_count setting.layout)) [
      | inl met ↦ rw met (omega arith)
      | inr unmet ↦ rw unmet (omega arith)
    ]
asked_more setting done k (Some told) = omega arith

sought_more : (done k seen : ℕ) (told : Option Record) → begun_count (phase_after_seek done k seen told) ≤ done + 1
sought_more done k seen None =
    elim (cases_Bool (seen == 0)) [ inl met ↦ rw met (omega arith) | inr unmet ↦ rw unmet (omega arith) ]
sought_more done k seen (Some told) = omega arith

-- an act begins at most the next block
begun_more : (setting : Setting) (phase : ReceivePhase) (act : Act)
    → begun_count (receive_after setting phase act) ≤ done_count phase + 1
begun_more setting (Between done) (Look (PostWord f) v t) = asked_more setting done 0 t
begun_more setting (Asks done k) (Look w v t) = asked_more setting done k t
begun_more setting (Seeks done k) (Look w v t) = sought_more done k v t
begun_more setting (Sees done index seen) (Take b) = omega arith
begun_more setting (Took done buf) (Take b) = omega arith
begun_more setting (Barred done buf ring) (Take b) = omega arith
begun_more setting phase act = omega arith

-- no block begins without a frame
begun_within : (setting : Setting) (port : ℕ) (log : Log) → IsKind setting port Receives log
    → begun_count (receive_phase setting log) ≤ length (entries_of_port port setting.entries)
begun_within setting port [] h = omega arith
begun_within setting port (act ∷ before) h =
    elim h.0 [
      | inl mark ↦
          omega (
            arith,
            begun_within setting port before h.1,
            mark_begins setting port (receive_phase setting before) act mark.0 mark.1,
          )
      | inr block ↦
          omega (
            arith,
            begun_more setting (receive_phase setting before) act,
            slice_get_within (entries_of_port port setting.entries)
                (done_count (receive_phase setting before)) block.0 block.1,
          )
    ]

one_more_outside : (size : ℕ) (phase : ReceivePhase) → begun_count phase ≤ size
    → 66 * (size - done_count phase) ≡ 66 * (size - begun_count phase) + taken_weight phase
one_more_outside size (Between done) le = omega arith
one_more_outside size phase le = omega arith

port_outside : (setting : Setting) (past : History) (port : ℕ) → AllOfBlocks setting past → port < setting.layout.ports
    → 66 * outside_count setting (λ role. log_of role past) port
    ≡ 66 * waiting_count setting past port + taken_of setting past port
port_outside setting past port blocks less =
    let receives : kind_of setting.layout port ≡ Receives =
    kind_receives setting.layout port (lt-ltb port setting.layout.ports less) in
    one_more_outside (length (entries_of_port port setting.entries)) (receive_phase setting (log_of port past))
    (begun_within setting port (log_of port past)
    (is_kind setting port (log_of port past) Receives receives (blocks port)))
    ∙ ap (λ (kind : RoleKind). 66 * waiting_count setting past port + taken_by setting kind (log_of port past))
    (sym receives)

none_taken : (setting : Setting) (kind : RoleKind) (log : Log) → (kind ≡ Receives → ⊥) → taken_by setting kind log ≡ 0
none_taken setting Receives log other = absurd (other refl)
none_taken setting kind log other = refl

taken_in_all : (setting : Setting) (past : History)
    → sum_below (taken_of setting past) (setting.layout.ports + setting.layout.transmit + setting.layout.cores)
    ≡ sum_below (taken_of setting past) setting.layout.ports
taken_in_all setting past =
    sum_extend (taken_of setting past) setting.layout.ports
    (setting.layout.ports + setting.layout.transmit + setting.layout.cores) (omega arith)
    (λ role le.
    none_taken setting (kind_of setting.layout role) (log_of role past)
    (kind_other setting.layout role (le-ltb role setting.layout.ports le)))

assemble : (waits hefts outs rings both taken hands begun : ℕ)
    → hefts ≡ rings + both → both ≡ taken + hands → taken ≡ begun → 66 * outs ≡ 66 * waits + begun
    → 66 * waits + hefts ≡ 66 * outs + rings + hands
assemble waits hefts outs rings both taken hands begun one two three four = omega (arith, one, two, three, four)

-- the potential of a history is that of its roles' logs
pub potential_logged : (setting : Setting) (past : History) → IsLawful setting.layout past → AllOfBlocks setting past
    → potential setting past ≡ potential_of_logs setting (λ role. log_of role past)
potential_logged setting past lawful blocks =
    assemble (sum_below (waiting_count setting past) setting.layout.ports)
    (sum_below (heft setting past) (setting.layout.ports * setting.layout.buffers))
    (sum_below (outside_count setting (λ role. log_of role past)) setting.layout.ports)
    (sum_below (function_potential setting (λ role. log_of role past)) setting.layout.functions)
    (sum_below (λ role. taken_of setting past role + hand_of setting past role)
    (setting.layout.ports + setting.layout.transmit + setting.layout.cores))
    (sum_below (taken_of setting past) (setting.layout.ports + setting.layout.transmit + setting.layout.cores))
    (sum_below (hand_of setting past) (setting.layout.ports + setting.layout.transmit + setting.layout.cores))
    (sum_below (taken_of setting past) setting.layout.ports)
    (buffers_weigh setting past lawful blocks)
    (sum_plus (taken_of setting past) (hand_of setting past)
    (setting.layout.ports + setting.layout.transmit + setting.layout.cores))
    (taken_in_all setting past)
    (sum_more (outside_count setting (λ role. log_of role past)) (waiting_count setting past)
    (taken_of setting past) setting.layout.ports (λ port less. port_outside setting past port blocks less))
