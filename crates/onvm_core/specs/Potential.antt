-- A number that no step raises: of histories, and of the roles' logs alone.
use Rattle.std.specs.Prelude.{ℕ, zero, suc, ◌+◌, ◌-◌, ◌*◌, ◌&&◌, not, Bool, nat_lt, if◌then◌else◌, List, [], ◌∷◌, ◌++◌, length, drop, Option, Some, None}
use Rattle.onvm_base.specs.declared.limits.TheConstants.{MAX_HOPS}
use Rattle.onvm_base.specs.declared.ids.RingId.{RingId}
use Rattle.onvm_base.specs.declared.ids.RingId.TheVariants.{Lane, Output, Mail}
use Rattle.onvm_core.specs.declared.layout.Layout.{Layout}
use Rattle.onvm_core.specs.declared.parcel.Parcel.{Parcel}
use Rattle.onvm_core.specs.declared.place.Place.{Place}
use Rattle.onvm_core.specs.declared.place.Place.TheVariants.{Pool, Ring, Role}
use Rattle.onvm_core.specs.declared.step.Act.{Act}
use Rattle.onvm_core.specs.declared.step.Act.TheVariants.{Push}
use Rattle.onvm_core.specs.declared.step.Item.{Item}
use Rattle.onvm_core.specs.declared.step.Item.TheVariants.{Buffer, Number}
use Rattle.onvm_core.specs.Layouts.{producer, consumer, feeder_count}
use Rattle.onvm_core.specs.History.{History, place_of, pushes, pops}
use Rattle.onvm_core.specs.Logs.{Setting, Log, Hand, log_of, entries_of_port}
use Rattle.onvm_core.specs.Receiving.{receive_phase, done_count}
use Rattle.onvm_core.specs.Handling.{core_hand}
use Rattle.onvm_core.specs.Sending.{SendPhase, send_phase}
use Rattle.onvm_core.specs.Sending.SendPhase.{Free, Moves, TurnsBack}
use Rattle.onvm_core.specs.Blocks.{RoleKind, kind_of}
use Rattle.onvm_core.specs.Blocks.RoleKind.{Receives, Sends, Handles, Ticks, Leads}
use Rattle.onvm_core.specs.Frames.{Load, load, begun_count}
use Rattle.onvm_core.specs.Frames.Load.{Fresh, Loaded}

abbrev pub sum_below : (ℕ → ℕ) → ℕ → ℕ
sum_below f zero = 0
sum_below f (suc n) = f n + sum_below f n

-- how many functions may still handle the parcel
abbrev pub hops_left : Parcel → ℕ
hops_left parcel = MAX_HOPS - length parcel.trail

-- the potential of a frame that has neither entered nor a record: more than that of any parcel
abbrev pub fresh_potential : ℕ
fresh_potential = 2 * MAX_HOPS + 2

-- Of a history: for each parcel a number that falls from hop to hop, and from the output ring to the next lane

abbrev pub is_sender : Layout → ℕ → Bool
is_sender layout role = nat_lt role (layout.ports + layout.transmit) && not (nat_lt role layout.ports)

abbrev pub place_potential : Layout → Place → ℕ → ℕ
place_potential layout Pool left = 0
place_potential layout (Ring (Lane f p)) left = 2 * left + 1
place_potential layout (Ring (Output f)) left = 2 * left + 2
place_potential layout (Ring (Mail f)) left = 0
place_potential layout (Role role) left = if is_sender layout role then 2 * left + 2 else 2 * left + 1

-- a frame that was taken and hasn't entered counts as one that wasn't taken
abbrev pub load_potential : Layout → Place → Option Load → ℕ
load_potential layout there None = 0
load_potential layout there (Some (Fresh frame)) = fresh_potential
load_potential layout there (Some (Loaded parcel)) = place_potential layout there (hops_left parcel)

-- how many items an act pushes on output rings: each lowers the potential by 1 at least
abbrev pub outputs_on : RingId → ℕ
outputs_on (Lane f p) = 0
outputs_on (Output f) = 1
outputs_on (Mail f) = 0

abbrev pub outputs_by : Act → ℕ
outputs_by (Push ring (Buffer b parcel)) = outputs_on ring
outputs_by _ = 0

-- how many frames of a port have neither a take nor a record
abbrev pub waiting_count : Setting → History → ℕ → ℕ
waiting_count setting past port =
    length (entries_of_port port setting.entries) - begun_count (receive_phase setting (log_of port past))

abbrev pub potential : Setting → History → ℕ
potential setting past =
    fresh_potential * sum_below (waiting_count setting past) setting.layout.ports
    + sum_below (λ buf. load_potential setting.layout (place_of buf past) (load setting buf past))
    (setting.layout.ports * setting.layout.buffers)

-- Of logs, one for each role

-- how many frames of a port have neither entered nor a record
abbrev pub outside_count : Setting → (ℕ → Log) → ℕ → ℕ
outside_count setting logs port =
    length (entries_of_port port setting.entries) - done_count (receive_phase setting (logs port))

abbrev pub pushed_in : RingId → Log → List Item
pushed_in ring [] = []
pushed_in ring (act ∷ before) = pushed_in ring before ++ pushes ring act

abbrev pub popped_in : RingId → Log → List Item
popped_in ring [] = []
popped_in ring (act ∷ before) = popped_in ring before ++ pops ring act

-- the content of a ring: what its producer pushed, without as many first ones as its consumer popped
abbrev pub content_in : Layout → (ℕ → Log) → RingId → List Item
content_in layout logs ring =
    drop (length (popped_in ring (logs (consumer layout ring)))) (pushed_in ring (logs (producer layout ring)))

abbrev pub item_potential : Layout → RingId → Item → ℕ
item_potential layout ring (Buffer buf parcel) = place_potential layout (Ring ring) (hops_left parcel)
item_potential layout ring (Number n) = 0

abbrev pub items_potential : Layout → RingId → List Item → ℕ
items_potential layout ring [] = 0
items_potential layout ring (item ∷ items) = item_potential layout ring item + items_potential layout ring items

abbrev pub ring_potential : Setting → (ℕ → Log) → RingId → ℕ
ring_potential setting logs ring = items_potential setting.layout ring (content_in setting.layout logs ring)

-- what stands in the rings of a function
abbrev pub function_potential : Setting → (ℕ → Log) → ℕ → ℕ
function_potential setting logs f =
    sum_below (λ feeder. ring_potential setting logs (Lane (record { 0 = f }) feeder)) (feeder_count setting.layout)
    + ring_potential setting logs (Output (record { 0 = f }))

abbrev pub core_potential : Option Hand → ℕ
core_potential None = 0
core_potential (Some hand) = 2 * hops_left hand.parcel + 1

abbrev pub send_potential : SendPhase → ℕ
send_potential Free = 0
send_potential (Moves hand) = 2 * hops_left hand.parcel + 2
send_potential (TurnsBack hand ring) = 2 * hops_left hand.parcel + 2

-- the parcel that a role of this kind has in hand. A receive role's frame hasn't entered
abbrev pub hand_potential : RoleKind → Log → ℕ
hand_potential Receives log = 0
hand_potential Sends log = send_potential (send_phase log)
hand_potential Handles log = core_potential (core_hand log)
hand_potential Ticks log = 0
hand_potential Leads log = 0

abbrev pub potential_of_logs : Setting → (ℕ → Log) → ℕ
potential_of_logs setting logs =
    fresh_potential * sum_below (outside_count setting logs) setting.layout.ports
    + sum_below (function_potential setting logs) setting.layout.functions
    + sum_below (λ role. hand_potential (kind_of setting.layout role) (logs role))
    (setting.layout.ports + setting.layout.transmit + setting.layout.cores)
