-- Units that are handed out to cores.
use Rattle.std.proofs.Common.{◌≡◌, ℕ, zero, suc, ◌+◌, ◌<◌, ◌≤◌, Bool, true, false, inl, inr, if◌then◌else◌, List, [], ◌∷◌, ◌++◌, length, refl, sym, ◌∙◌, ap, subst, arith, append_assoc, append-nil, Some, Option, Global, vec_capacity}
use Rattle.std.specs.Prelude.{◌==◌, ◌≢◌, ◌⊎◌, All, Vec, slice_get}
use Rattle.std.proofs.lemmas.Bool.{eq-eqb, ne_eqb}
use Rattle.std.proofs.lemmas.Bool.Decides.{eqb_tells}
use Rattle.std.proofs.lemmas.List.{length_push}
use Rattle.onvm_base.specs.declared.function.FunctionPlan.{FunctionPlan}
use Rattle.onvm_base.specs.declared.ids.FnId.{FnId}
use Rattle.onvm_base.specs.declared.plan.Plan.{Plan}
use Rattle.onvm_base.specs.Plan.{IsFunction}
use Rattle.onvm_board.specs.Tokens.{BoardView}
use Rattle.onvm_core.proofs.Lists.{if_met, if_unmet}
use Rattle.nf_api.specs.Acts.{Acts}
use Rattle.nf_api.specs.Tree.{Tree}
use Rattle.nf_exec.specs.declared.room.CoreRoom.{CoreRoom}
use Rattle.nf_exec.specs.Handing.{unit_of}
use Rattle.nf_exec.proofs.StationLists.{functions_long}
use Rattle.nf_registry.specs.Places.{residents_from}
use Rattle.onvm_session.proofs.Growing.{got_below, got_some, some_inj}
use Rattle.onvm_session.specs.Rooms.{AreCores, AreUnitsOf, FitStations, HaveRoom, IsHandedTo, units_of}

abbrev number : ℕ → FnId
number n = record { 0 = n }

-- Which unit a core has for a function

module _ {N : Type 0} (acts : N → Acts) (state : N → Tree) where
  first_unit : (n : ℕ) (functions : List FnId) (units : List N) (unit : N) (own : Bool) → own ≡ true
      → unit_of acts state (if own then number n ∷ functions else functions) (if own then unit ∷ units else units)
      (n + 0) ≡ Some unit
  first_unit n functions units unit true is =
      let same : n ≡ n + 0 = omega arith in
      if_met (n == n + 0) (Some unit) (unit_of acts state functions units (n + 0)) (eq-eqb n (n + 0) same)
  first_unit n functions units unit false is = absurd (cc is)

  later_unit : (n k : ℕ) (functions : List FnId) (units : List N) (unit : N) (own : Bool) (found : Option N)
      → unit_of acts state functions units (n + 1 + k) ≡ found
      → unit_of acts state (if own then number n ∷ functions else functions) (if own then unit ∷ units else units)
      (n + suc k) ≡ found
  later_unit n k functions units unit true found is =
      let place : n + 1 + k ≡ n + suc k = omega arith in
      if_unmet (n == n + suc k) (Some unit) (unit_of acts state functions units (n + suc k))
      (ne_eqb n (n + suc k) (λ same. omega (arith, same)))
      ∙ subst (λ (m : ℕ). unit_of acts state functions units m ≡ found) place is
  later_unit n k functions units unit false found is =
      let place : n + 1 + k ≡ n + suc k = omega arith in
      subst (λ (m : ℕ). unit_of acts state functions units m ≡ found) place is

  -- that of its number, where functions are numbered from n
  pub unit_there : (core n : ℕ) (functions : List FunctionPlan) (units : List N) (k : ℕ) (function : FunctionPlan)
      → length units ≡ length functions → slice_get functions k ≡ Some function → function.core ≡ core
      → unit_of acts state (residents_from n core functions) (units_of core functions units) (n + k) ≡ slice_get units k
  unit_there core n [] units k function long found own = absurd (cc found)
  unit_there core n (f ∷ fs) [] k function long found own = absurd (omega (arith, long))
  unit_there core n (f ∷ fs) (unit ∷ units) zero function long found own =
      first_unit n (residents_from (n + 1) core fs) (units_of core fs units) unit (f.core == core)
      (eq-eqb f.core core (ap (λ (h : FunctionPlan). h.core) (some_inj f function found) ∙ own))
  unit_there core n (f ∷ fs) (unit ∷ units) (suc k) function long found own =
      later_unit n k (residents_from (n + 1) core fs) (units_of core fs units) unit (f.core == core) (slice_get units k)
      (unit_there core (n + 1) fs units k function (omega (arith, long)) found own)

-- How many units a core has

long_as : {N : Type 0} (n : ℕ) (functions : List FnId) (units : List N) (unit : N) (own : Bool)
    → length units ≡ length functions
    → length (if own then unit ∷ units else units) ≡ length (if own then number n ∷ functions else functions)
long_as n functions units unit true same = omega (arith, same)
long_as n functions units unit false same = same

-- as many as functions
pub units_long : {N : Type 0} (core n : ℕ) (functions : List FunctionPlan) (units : List N) → length units ≡ length functions
    → length (units_of core functions units) ≡ length (residents_from n core functions)
units_long core n [] [] long = refl
units_long core n [] (unit ∷ units) long = absurd (omega (arith, long))
units_long core n (f ∷ fs) [] long = absurd (omega (arith, long))
units_long core n (f ∷ fs) (unit ∷ units) long =
    long_as n (residents_from (n + 1) core fs) (units_of core fs units) unit (f.core == core)
    (units_long core (n + 1) fs units (omega (arith, long)))

-- Handing out, one function after another

-- the next unit is the core's own
pub own_next : {N : Type 0} (core : ℕ) (f : FunctionPlan) (fs : List FunctionPlan) (unit : N) (units : List N)
    → f.core ≡ core → units_of core (f ∷ fs) (unit ∷ units) ≡ unit ∷ units_of core fs units
own_next core f fs unit units own =
    if_met (f.core == core) (unit ∷ units_of core fs units) (units_of core fs units) (eq-eqb f.core core own)

pub other_next : {N : Type 0} (core : ℕ) (f : FunctionPlan) (fs : List FunctionPlan) (unit : N) (units : List N)
    → f.core ≢ core → units_of core (f ∷ fs) (unit ∷ units) ≡ units_of core fs units
other_next core f fs unit units other =
    if_unmet (f.core == core) (unit ∷ units_of core fs units) (units_of core fs units) (ne_eqb f.core core other)

-- none is left once units or functions are at their end
pub none_left : {N : Type 0} (core : ℕ) (functions : List FunctionPlan) (units : List N)
    → (length functions ≡ 0) ⊎ (length units ≡ 0) → units_of core functions units ≡ []
none_left core [] units end = refl
none_left core (f ∷ fs) [] end = refl
none_left core (f ∷ fs) (unit ∷ units) (inl none) = absurd (omega (arith, none))
none_left core (f ∷ fs) (unit ∷ units) (inr none) = absurd (omega (arith, none))

-- these functions and units are left: each core has the units of its functions that came before, and room for the rest
pub record AreHandingOut {N : Type 0} (plan : Plan) (all : List N) (functions : List FunctionPlan) (units : List N)
    (lists : List (Vec N Global)) : Type 0 where
  pub many : length lists ≡ plan.cores
  pub known : All (IsFunction plan.cores) functions
  pub each : (core : ℕ) (list : Vec N Global) → slice_get lists core ≡ Some list
      → list.items ++ units_of core functions units ≡ units_of core plan.functions all
  pub room : (core : ℕ) (list : Vec N Global) → slice_get lists core ≡ Some list
      → length list.items + length (units_of core functions units) ≤ vec_capacity list

pub none_handed : {N : Type 0} (plan : Plan) (units : List N) (functions : List FunctionPlan) (left : List N)
    (lists : List (Vec N Global)) → functions ≡ plan.functions → left ≡ units → length units ≡ length plan.functions
    → HaveRoom plan lists → AreHandingOut plan units functions left lists
none_handed plan units functions left lists same given long room = record {
  many = room.many;
  known = subst (λ fs. All (IsFunction plan.cores) fs) (sym same) plan.kept.functions_are;
  each = λ core list found. begins core list (room.none core list found);
  room = λ core list found.
      let none = ap length (room.none core list found) in
      let here = room.room core list found in
      let many = ap length (rest core) in
      let few = units_long core 0 plan.functions units long in
      omega (arith, none, here, many, few);
}
  where
    rest : (core : ℕ) → units_of core functions left ≡ units_of core plan.functions units
    rest core = ap (λ fs. units_of core fs left) same ∙ ap (λ us. units_of core plan.functions us) given

    begins : (core : ℕ) (list : Vec _ Global) → list.items ≡ []
        → list.items ++ units_of core functions left ≡ units_of core plan.functions units
    begins core list none = ap (λ xs. xs ++ units_of core functions left) none ∙ rest core

pub all_handed : {N : Type 0} (plan : Plan) (units : List N) (functions : List FunctionPlan) (left : List N)
    (lists : List (Vec N Global)) → AreHandingOut plan units functions left lists
    → ((core : ℕ) → units_of core functions left ≡ []) → AreUnitsOf plan units lists
all_handed plan units functions left lists out none = record {
  many = out.many;
  each = λ core list found.
      sym (append-nil list.items) ∙ ap (λ xs. list.items ++ xs) (sym (none core)) ∙ out.each core list found;
}

-- The next function's core has room for its unit, and is handed it

pub has_room : {N : Type 0} (plan : Plan) (all : List N) (f : FunctionPlan) (fs : List FunctionPlan) (unit : N)
    (units : List N) (lists : List (Vec N Global)) (list : Vec N Global)
    → AreHandingOut plan all (f ∷ fs) (unit ∷ units) lists → slice_get lists f.core ≡ Some list
    → length list.items < vec_capacity list
has_room plan all f fs unit units lists list out found =
    let room = out.room f.core list found in
    let more = ap length (own_next f.core f fs unit units refl) in
    omega (arith, room, more)

pub one_handed : {N : Type 0} (plan : Plan) (all : List N) (f : FunctionPlan) (fs : List FunctionPlan) (unit : N)
    (units : List N) (lists later : List (Vec N Global))
    → AreHandingOut plan all (f ∷ fs) (unit ∷ units) lists → length later ≡ length lists
    → ((was now : Vec N Global) → slice_get lists f.core ≡ Some was → slice_get later f.core ≡ Some now
    → IsHandedTo unit was now)
    → ((other : ℕ) → other ≢ f.core → slice_get later other ≡ slice_get lists other)
    → AreHandingOut plan all fs units later
one_handed {N} plan all f fs unit units lists later out long own others = record {
  many = long ∙ out.many;
  known = λ k d less. out.known (suc k) d (omega (arith, less));
  each = λ core list found. each_by core list found (eqb_tells f.core core);
  room = λ core list found. room_by core list found (eqb_tells f.core core);
}
  where
    was_there : (core : ℕ) (list : Vec N Global) → slice_get later core ≡ Some list
        → (was : Vec N Global) × (slice_get lists core ≡ Some was)
    was_there core list found =
        let below = got_below later core list found in
        got_some lists core (omega (arith, below, long))

    handed : (core : ℕ) (list : Vec N Global) → slice_get later core ≡ Some list → f.core ≡ core
        → (was : Vec N Global) × (slice_get lists core ≡ Some was) × IsHandedTo unit was list
    handed core list found same =
        let was = was_there core list found in (
          was.0,
          was.1,
          own was.0 list (ap (slice_get lists) same ∙ was.1) (ap (slice_get later) same ∙ found),
        )

    kept : (core : ℕ) (list : Vec N Global) → slice_get later core ≡ Some list → f.core ≢ core
        → slice_get lists core ≡ Some list
    kept core list found other = sym (others core (λ same. other (sym same))) ∙ found

    each_by : (core : ℕ) (list : Vec N Global) → slice_get later core ≡ Some list
        → (((f.core == core) ≡ true) × (f.core ≡ core)) ⊎ (((f.core == core) ≡ false) × (f.core ≢ core))
        → list.items ++ units_of core fs units ≡ units_of core plan.functions all
    each_by core list found (inl same) =
        let was = handed core list found same.1 in
        ap (λ xs. xs ++ units_of core fs units) was.2.items
        ∙ append_assoc was.0.items (unit ∷ []) (units_of core fs units)
        ∙ ap (λ xs. was.0.items ++ xs) (sym (own_next core f fs unit units same.1))
        ∙ out.each core was.0 was.1
    each_by core list found (inr off) =
        ap (λ xs. list.items ++ xs) (sym (other_next core f fs unit units off.1))
        ∙ out.each core list (kept core list found off.1)

    room_by : (core : ℕ) (list : Vec N Global) → slice_get later core ≡ Some list
        → (((f.core == core) ≡ true) × (f.core ≡ core)) ⊎ (((f.core == core) ≡ false) × (f.core ≢ core))
        → length list.items + length (units_of core fs units) ≤ vec_capacity list
    room_by core list found (inl same) =
        let was = handed core list found same.1 in
        let room = out.room core was.0 was.1 in
        let more = ap length (own_next core f fs unit units same.1) in
        let long = ap length was.2.items in
        let pushed = length_push was.0.items unit in
        let capacity = was.2.room in
        omega (arith, room, more, long, pushed, capacity)
    room_by core list found (inr off) =
        let room = out.room core list (kept core list found off.1) in
        let less = ap length (other_next core f fs unit units off.1) in
        omega (arith, room, less)

-- The cores' stations

pub stations_fit : {N : Type 0} (site : BoardView) (plan : Plan) (units : List N) (rooms : List CoreRoom)
    (lists : List (Vec N Global)) → length units ≡ length plan.functions → AreCores site plan plan.cores rooms
    → AreUnitsOf plan units lists → FitStations rooms lists
stations_fit site plan units rooms lists long cores own = record {
  many = own.many ∙ sym cores.many;
  each = λ core room list at there.
      let has = ap length (own.each core list there) in
      let few = units_long core 0 plan.functions units long in
      let functions = ap length (cores.each core room at).stations.functions_are in
      let same = functions_long room.stations.items in
      omega (arith, has, few, functions, same);
}
