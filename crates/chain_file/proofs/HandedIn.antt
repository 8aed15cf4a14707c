-- What is handed in is enough for a plan: its functions name no other guests, and each capture has a port.
use Rattle.std.proofs.Common.{◌≡◌, ℕ, ◌≤◌, nat_le, true, not, List, [], ◌∷◌, Option, Some, None, codes, bytes_eq, sym, ap, subst}
use Rattle.std.specs.List.{list_any}
use Rattle.serde_json.specs.Data.{Data}
use Rattle.serde_json.specs.Find.{get}
use Rattle.onvm_base.specs.declared.limits.TheConstants.{MAX_CORES, MAX_PORTS, MAX_TRANSMIT_ROLES}
use Rattle.onvm_base.specs.declared.function.Kind.{Kind}
use Rattle.onvm_base.specs.declared.function.Kind.TheVariants.{Guest}
use Rattle.onvm_base.specs.declared.plan.Plan.{Plan}
use Rattle.chain_file.specs.declared.fault.Cause.TheVariants.{Limit, Twice, Unknown}
use Rattle.chain_file.specs.declared.kinds.Word.{Word}
use Rattle.chain_file.specs.declared.kinds.Word.TheVariants as word
use Rattle.chain_file.specs.Causes.{unless}
use Rattle.chain_file.specs.File.{IsRead, TopIsRight, function_cause_at, function_cause_in, functions_of, sizes_of}
use Rattle.chain_file.specs.Functions.{function_in, is_twice, word_in}
use Rattle.chain_file.specs.Guests.{HasGuest, HaveGuests}
use Rattle.chain_file.specs.Kinds.{kind_in}
use Rattle.chain_file.specs.Top.{lists_cause, rings_in, roles_in, times_in, top_in, top_keys}
use Rattle.chain_file.specs.Values.{name_at, number, number_or, only, under}
use Rattle.chain_file.proofs.KeptFunctions.{function_causes}
use Rattle.chain_file.proofs.KeptLists.{all_judged, no_cause, unless_none}
use Rattle.chain_file.proofs.KeptNames.{at_most}
use Rattle.chain_file.proofs.Untold.{earlier_none}

-- ---- guests

-- what `HasGuest` asks, kind by kind
abbrev Known : (guests : List (List ℕ)) → Kind → Type 0
Known guests (Guest name) = list_any (bytes_eq name) guests ≡ true
Known guests kind = Unit

by_known : (guests : List (List ℕ)) (kind : Kind) → Known guests kind → HasGuest guests kind
by_known guests kind h = λ name is. subst (Known guests) is h

known_kind : (guests : List (List ℕ)) (w : Option Word) (d : Data) → (kind_in guests w d).cause ≡ None
    → Known guests (kind_in guests w d).value
known_kind guests None d e = tt
known_kind guests (Some word.Forward) d e = tt
known_kind guests (Some word.Drop) d e = tt
known_kind guests (Some word.Out) d e = tt
known_kind guests (Some word.To) d e = tt
known_kind guests (Some word.Filter) d e = tt
known_kind guests (Some word.Ttl) d e = tt
known_kind guests (Some word.Tag) d e = tt
known_kind guests (Some word.Untag) d e = tt
known_kind guests (Some word.Macs) d e = tt
known_kind guests (Some word.Route) d e = tt
known_kind guests (Some word.Balance) d e = tt
known_kind guests (Some word.Count) d e = tt
known_kind guests (Some word.Police) d e = tt
known_kind guests (Some word.Nat) d e = tt
known_kind guests (Some word.Guest) d e =
    let name = name_at (get (codes "guest") d) in
    let known = list_any (bytes_eq name.value) guests in
    unless_none known Unknown (earlier_none name.cause (unless known Unknown) e).1

function_has_guest : (cores : ℕ) (guests : List (List ℕ)) (d : Data) → (function_in cores guests d).cause ≡ None
    → HasGuest guests (function_in cores guests d).value.kind
unfolding function_in
function_has_guest cores guests d e =
    by_known guests (kind_in guests (word_in d) d).value
    (known_kind guests (word_in d) d (no_cause (function_causes cores guests d) e 4))

functions_have_guests : (cores : ℕ) (guests : List (List ℕ)) (ds : List Data)
    → ((k : ℕ) → function_cause_at cores guests ds k ≡ None) → HaveGuests guests (functions_of cores guests ds)
functions_have_guests cores guests ds none =
    all_judged (λ f. HasGuest guests f.kind) (λ d. (function_in cores guests d).value) (function_cause_in cores guests)
    (λ before d e. function_has_guest cores guests d
    (earlier_none (function_in cores guests d).cause
    (unless (not (is_twice (functions_of cores guests before) (function_in cores guests d).value)) Twice) e).0)
    ds none

pub guests_are_handed_in : (bytes : List ℕ) (captures : ℕ) (guests : List (List ℕ)) (plan : Plan)
    → IsRead bytes captures guests plan → HaveGuests guests plan.functions
guests_are_handed_in bytes captures guests plan r =
    subst (HaveGuests guests) (sym r.plan_is.functions_are)
    (functions_have_guests (sizes_of captures r.tree).cores guests (under (codes "functions") r.tree) r.plan_is.functions)

-- ---- captures

top_has_ports : (captures : ℕ) (d : Data) → TopIsRight captures d → captures ≤ (sizes_of captures d).ports
unfolding top_in
top_has_ports captures d e =
    let ports = number (codes "ports") 1 MAX_PORTS d in
    let enough = nat_le captures ports.value in
    let causes = only top_keys [] d ∷ (roles_in captures d).cause ∷ (rings_in d).cause ∷ (times_in d).cause ∷ lists_cause d ∷ [] in
    let roles = (number (codes "version") 1 1 d).cause ∷ ports.cause ∷ unless enough Limit
    ∷ (number_or (codes "transmit") 1 MAX_TRANSMIT_ROLES 1 d).cause ∷ (number_or (codes "cores") 1 MAX_CORES 1 d).cause ∷ [] in
    at_most captures ports.value (unless_none enough Limit (no_cause roles (no_cause causes e 1) 2))

pub captures_have_ports : (bytes : List ℕ) (captures : ℕ) (guests : List (List ℕ)) (plan : Plan)
    → IsRead bytes captures guests plan → captures ≤ plan.ports
captures_have_ports bytes captures guests plan r =
    subst (λ ports. captures ≤ ports) (sym (ap (λ sizes. sizes.ports) r.plan_is.sizes_are))
    (top_has_ports captures r.tree r.plan_is.top)
