-- A core's role as it begins.
use Rattle.std.proofs.Common.{◌≡◌, ℕ, zero, suc, ◌+◌, ◌-◌, ◌%◌, ◌<◌, ◌≤◌, inl, inr, List, [], ◌∷◌, ◌++◌, length, Some, None, Option, refl, sym, ap, ◌∙◌, subst, arith}
use Rattle.std.specs.Prelude.{◌≢◌, ◌⊎◌, map, min, replicate, slice_get, slice_index, slice_index_or}
use Rattle.std.proofs.lemmas.Bool.{cases_lt, le-ltb, lt-ltb}
use Rattle.std.proofs.lemmas.Option.{none-some, same_Some, slice_get_within}
use Rattle.std.proofs.Math.Nat.{mod-eq_of_lt}
use Rattle.onvm_base.specs.declared.function.FunctionPlan.{FunctionPlan}
use Rattle.onvm_base.specs.declared.ids.FnId.{FnId}
use Rattle.onvm_base.specs.declared.ids.RingId.TheVariants.{Output, Mail}
use Rattle.onvm_base.specs.declared.limits.TheConstants.{MAX_FUNCTIONS}
use Rattle.onvm_base.specs.declared.plan.Plan.{Plan}
use Rattle.onvm_core.specs.declared.layout.Layout.{Layout}
use Rattle.onvm_core.specs.declared.parcel.TheConstants.{MAX_PLACE}
use Rattle.onvm_core.specs.Blocks.{kind_of}
use Rattle.onvm_core.specs.Blocks.RoleKind.{Handles}
use Rattle.onvm_core.specs.Handling.{core_hand, crumb_place}
use Rattle.onvm_core.specs.Journals.{journal}
use Rattle.onvm_core.specs.Layouts.{IsLayout, IsLayoutOf, core_role, feeder_count}
use Rattle.onvm_core.specs.Logs.{Hand, Log}
use Rattle.onvm_core.specs.Places.{how_many}
use Rattle.onvm_core.specs.Potential.{pushed_in}
use Rattle.onvm_core.specs.Samples.{unsampled_count}
use Rattle.onvm_board.specs.Tokens.{BoardView, TokenView}
use Rattle.desc_ring.specs.declared.mail.Mail.{Mail as MailEnd}
use Rattle.desc_ring.specs.declared.tail.Tail.{Tail}
use Rattle.desc_ring.specs.Ends.{IsMailTail, IsTailOf}
use Rattle.desc_ring.proofs.Beginning.{lane_heads_begin, mail_tail_begins, tail_begins}
use Rattle.nf_api.specs.Acts.{Acts}
use Rattle.nf_api.specs.Tree.{Tree}
use Rattle.nf_registry.specs.Places.{residents}
use Rattle.onvm_promises.specs.Kept.{at_most_64_bits, is_lost, is_yield}
use Rattle.onvm_promises.specs.Rests.{RestsHandling, is_try}
use Rattle.onvm_promises.specs.Roles.{setting_of}
use Rattle.nf_exec.specs.declared.role.CoreRole.{CoreRole}
use Rattle.nf_exec.specs.declared.role.Kept.{Kept}
use Rattle.nf_exec.specs.declared.room.CoreRoom.{CoreRoom}
use Rattle.nf_exec.specs.declared.station.Station.{Station}
use Rattle.nf_exec.specs.Handing.{HasGoneOn}
use Rattle.nf_exec.specs.Roles.{IsCoreRole, IsKept}
use Rattle.nf_exec.specs.Roles.IsKept.{NoneKept}
use Rattle.nf_exec.specs.Rooms.{IsFresh, IsNewRoom, IsNewStation}
use Rattle.nf_exec.specs.Stations.{AreFunctionsOf, IsStation, functions_of, in_hand}
use Rattle.nf_exec.proofs.Passing.{same_at}
use Rattle.nf_exec.proofs.Servings.{stood}
use Rattle.nf_exec.proofs.StationLists.{function_at, functions_long}
use Rattle.nf_exec.proofs.Residents.{number, resident_at, resident_there, residents_few, residents_rise}

-- Cores by the layout

core_at : (fs : List FunctionPlan) (rest : List ℕ) (k : ℕ) (function : FunctionPlan) → slice_get fs k ≡ Some function
    → slice_index (map (λ (f : FunctionPlan). f.core) fs ++ rest) k ≡ function.core
core_at [] rest k function found = absurd (none-some function found)
core_at (f ∷ fs) rest zero function found = ap (λ (h : FunctionPlan). h.core) (same_Some f function found)
core_at (f ∷ fs) rest (suc k) function found = core_at fs rest k function found

found_at : {A : Type 0} (xs : List A) (n : ℕ) → n < length xs → (x : A) × (slice_get xs n ≡ Some x)
found_at [] n within = absurd (omega arith)
found_at (x ∷ xs) zero within = (x, refl)
found_at (x ∷ xs) (suc n) within = found_at xs n (omega arith)

pub core_is : (plan : Plan) (layout : Layout) (k : ℕ) (function : FunctionPlan) → IsLayoutOf plan layout
    → slice_get plan.functions k ≡ Some function → slice_index layout.core_of k ≡ function.core
core_is plan layout k function of found =
    ap (λ (xs : List ℕ). slice_index xs k) of.core_of
    ∙ core_at plan.functions (replicate (MAX_FUNCTIONS - length plan.functions) 0) k function found

pub functions_begin : (plan : Plan) (layout : Layout) (core role : ℕ) → IsLayoutOf plan layout
    → role ≡ layout.ports + layout.transmit + core → AreFunctionsOf layout role (residents core plan.functions)
functions_begin plan layout core role of role_is = record {
  own = λ i f less f_is.
      let is = resident_at 0 core plan.functions i f less f_is in
      let within = slice_get_within plan.functions is.k is.function is.found in
      let at = core_is plan layout is.k is.function of is.found in
      let place : f.0 ≡ is.k = omega (arith, is.number_is) in
      let same = ap (λ (j : ℕ). slice_index layout.core_of j) place in (
        omega (arith, of.functions, is.number_is, within),
        omega (arith, at, same, is.own, role_is, is.number_is),
      );
  apart = λ i j f g less below other f_is g_is.
      by_order i j f g less below f_is g_is (cases_lt i j) (cases_lt j i) other;
  all = λ f known core_is_role.
      let function = found_at plan.functions f.0 (omega (arith, of.functions, known)) in
      let at = core_is plan layout f.0 function.0 of function.1 in
      let there = resident_there 0 core plan.functions f.0 function.0 function.1 (omega (arith, at, core_is_role, role_is)) in
      let same : 0 + f.0 ≡ f.0 = omega arith in (
        there.0,
        there.1,
        subst (λ (m : ℕ). number m ≡ slice_index_or (residents core plan.functions) there.0 (number m)) same there.2,
      );
}
  where
    by_order : (i j : ℕ) (f g : FnId) → i < length (residents core plan.functions)
        → j < length (residents core plan.functions) → f ≡ slice_index_or (residents core plan.functions) i f
        → g ≡ slice_index_or (residents core plan.functions) j g → (i < j) ⊎ (j ≤ i) → (j < i) ⊎ (i ≤ j) → i ≢ j
        → f.0 ≢ g.0
    by_order i j f g less below f_is g_is (inl under) over other e =
        let rise = residents_rise 0 core plan.functions i j f g under below f_is g_is in omega (arith, rise, e)
    by_order i j f g less below f_is g_is (inr above) (inl under) other e =
        let rise = residents_rise 0 core plan.functions j i g f under less g_is f_is in omega (arith, rise, e)
    by_order i j f g less below f_is g_is (inr above) (inr over) other e = other (omega (arith, above, over))

kind_begins : (layout : Layout) (core role : ℕ) → role ≡ layout.ports + layout.transmit + core → core < layout.cores
    → kind_of layout role ≡ Handles
kind_begins layout core role role_is known =
    rw (
      le-ltb role layout.ports (omega (arith, role_is)),
      le-ltb role (layout.ports + layout.transmit) (omega (arith, role_is)),
      lt-ltb role (layout.ports + layout.transmit + layout.cores) (omega (arith, role_is, known)),
    ) refl

-- Stations

pub station_begins : (site : BoardView) (station : Station) (token : TokenView) → IsLayout site.layout
    → token.board ≡ site.id → token.log ≡ []
    → (station.function.0 < site.layout.functions) × (core_role site.layout station.function.0 ≡ token.role)
    → IsNewStation site.layout station.function station → IsStation site station token
station_begins site station token ranges board fresh own new =
    let f : FnId = station.function in
    let output = tail_begins site (Output f) token ranges board own.0 (ap (pushed_in (Output f)) fresh) in
    let mail = mail_tail_begins site (Mail f) token ranges board own.0 tt (ap (pushed_in (Mail f)) fresh) in
    record {
      known = own.0;
      own = own.1;
      lanes = lane_heads_begin site token ranges board fresh f.0 station.lanes.items own.0 new.lanes;
      output_is = ap (λ (t : Tail). t.spot.ring) new.output;
      output = subst (λ (t : Tail). IsTailOf site t token) (sym new.output) (output.own (sym own.1));
      mail_is = ap (λ (m : MailEnd). m.spot.ring) new.mail;
      mail = subst (λ (m : MailEnd). IsMailTail site m token) (sym new.mail) (mail.own (sym own.1));
      few = omega (arith, ranges.ports.1, ranges.transmit.1);
      within = omega (arith, new.next, ranges.ports.0);
      next = new.next ∙ sym (mod-eq_of_lt (let some : 0 < feeder_count site.layout = omega (arith, ranges.ports.0) in some))
          ∙ ap (λ (log : Log). how_many (is_try f) log % feeder_count site.layout) (sym fresh);
      place = new.place ∙ (let none : 0 ≡ min 0 MAX_PLACE = omega arith in none)
          ∙ ap (λ (log : Log). crumb_place f log) (sym fresh);
      count = new.count ∙ ap (λ (log : Log). unsampled_count f log) (sym fresh);
    }

-- The role

pub role_begins : {N : Type 0} (acts : N → Acts) (state : N → Tree) (site : BoardView) (plan : Plan) (core : ℕ)
    (token : TokenView) (room : CoreRoom) (role : CoreRole N) → IsNewRoom site plan core room
    → IsFresh site core token → role.stations ≡ room.stations
    → length role.units.items ≡ length room.stations.items → role.began.value ≡ role.units → role.kept ≡ None
    → role.yields ≡ 0 → role.lost ≡ 0 → IsCoreRole acts state site plan token role
role_begins acts state site plan core token room role new fresh stations units began kept yields lost =
    let all = functions_begin plan site.layout core token.role new.layout_of fresh.role in
    let items = ap (λ v. v.items) stations in
    let functions : functions_of role.stations.items ≡ residents core plan.functions =
    ap functions_of items ∙ new.stations.functions_are in
    let own = subst (λ (fs : List FnId). AreFunctionsOf site.layout token.role fs) (sym functions) all in
    let long = functions_long role.stations.items in
    let same_long = ap (λ (fs : List FnId). length fs) functions in
    let few = residents_few 0 core plan.functions in
    let most = plan.kept.function_count.1 in
    let as_long = ap (λ (xs : List Station). length xs) items in
    record {
      layout_of = new.layout_of;
      work = record {
        board = fresh.board;
        kind = kind_begins site.layout core token.role fresh.role (omega (arith, new.known, new.layout_of.cores));
        functions = own;
        stations = record {
          each = λ i s less s_is.
              station_begins site s token new.ranges fresh.board fresh.log
              (own.own i s.function (omega (arith, less, long)) (function_at role.stations.items i s less s_is))
              (new.stations.each i s (omega (arith, less, as_long)) (s_is ∙ ap (λ xs. slice_index_or xs i s) items));
        };
        few = omega (arith, long, same_long, few, most);
        units = omega (arith, units, as_long);
        began = ap (λ v. length v.items) began ∙ units ∙ sym as_long;
        journals = λ i s was now less s_is was_is now_is.
            let same = same_at role.units.items i was now (omega (arith, less, units, as_long))
            (was_is ∙ ap (λ v. slice_index_or v.items i was) began) now_is in
            subst (λ u. HasGoneOn acts state s.function was u [] token.log) same
            (stood acts state s.function was [] token.log (ap (journal s.function) fresh.log));
        stands = record {
          hand = fresh.hand ∙ ap (λ log. in_hand (core_hand log)) (sym fresh.log);
          logged = refl;
          ready = λ hand e. no_hand hand (sym (ap core_hand fresh.log) ∙ e);
        };
        kept = subst (λ (z : Option Kept × Option Hand). IsKept role.stations.items z.0 z.1)
            (λ i. (sym kept i, ap core_hand (sym fresh.log) i)) NoneKept;
        yields = yields ∙ (let none : 0 ≡ at_most_64_bits 0 = omega arith in none)
            ∙ ap (λ log. at_most_64_bits (how_many is_yield log)) (sym fresh.log);
        lost = lost ∙ (let none : 0 ≡ at_most_64_bits 0 = omega arith in none)
            ∙ ap (λ log. at_most_64_bits (how_many is_lost log)) (sym fresh.log);
      };
      rests = λ entries.
          subst (λ (log : Log). RestsHandling (setting_of site.layout plan entries) token.role (core_hand log) log)
          (sym fresh.log)
          (record { blocks = tt; hand = refl; tries = tt; looks = tt; samples = tt; sampled = λ f own. refl });
    }
  where
    no_hand : {P : Type 0} (hand : Hand) → None ≡ Some hand → P
    no_hand hand e = cc
