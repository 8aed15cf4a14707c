-- A role at work: what a service, or a sample, leaves of it.
use Rattle.std.proofs.Common.{◌≡◌, ℕ, zero, suc, ◌+◌, ◌-◌, ◌<◌, ◌≤◌, Bool, true, false, not, inl, inr, List, [], ◌∷◌, ◌++◌, length, None, Option, refl, sym, ap, ◌∙◌, subst, arith}
use Rattle.std.specs.Prelude.{is_some, ◌≢◌, ◌⊎◌, ◌==◌, ◌^◌, min, slice_set, slice_index_or}
use Rattle.std.proofs.lemmas.Bool.{true≢false}
use Rattle.std.proofs.lemmas.Bool.Decides.{eqb_tells}
use Rattle.std.proofs.lemmas.List.{get_or-set_other, length-set}
use Rattle.onvm_base.specs.declared.ids.FnId.{FnId}
use Rattle.onvm_base.specs.declared.plan.Plan.{Plan}
use Rattle.onvm_core.specs.Blocks.{kind_of}
use Rattle.onvm_core.specs.Handling.{core_hand}
use Rattle.onvm_core.specs.Journals.{journal}
use Rattle.onvm_core.specs.Logs.{Hand, Log}
use Rattle.onvm_core.specs.Places.{how_many, one_if}
use Rattle.onvm_core.proofs.Once.{how_many-append}
use Rattle.onvm_board.specs.Tokens.{BoardView, TokenView, grown}
use Rattle.nf_api.specs.Acts.{Acts}
use Rattle.nf_api.specs.Tree.{Tree}
use Rattle.onvm_promises.specs.Kept.{at_most_64_bits, is_lost, is_yield}
use Rattle.nf_exec.specs.declared.role.CoreRole.{CoreRole}
use Rattle.nf_exec.specs.declared.role.Kept.{Kept}
use Rattle.nf_exec.specs.declared.station.Station.{Station}
use Rattle.nf_exec.specs.declared.turn.Turn.{Turn}
use Rattle.nf_exec.specs.declared.turn.Turn.TheVariants.{Handled, Barred, Dry, Wanting}
use Rattle.nf_exec.specs.Handing.{HasGoneOn}
use Rattle.nf_exec.specs.Roles.{IsAtWork, IsKept}
use Rattle.nf_exec.specs.Roles.IsKept.{NoneKept, OneKept}
use Rattle.nf_exec.specs.Serving.{IsService, is_barred, kept_by}
use Rattle.nf_exec.specs.Stations.{AreFunctionsOf, IsStation, Stands, functions_of}
use Rattle.nf_exec.proofs.Elsewhere.{AreSilent, quiet_journal, services_elsewhere, silent_quiet}
use Rattle.nf_exec.proofs.WholeServices.{service, service_grew, service_steps, service_yields, unlost_steps}
use Rattle.nf_exec.proofs.Servings.{stood, went_on_then}
use Rattle.nf_exec.proofs.Stationing.{station_over}
use Rattle.nf_exec.proofs.StationLists.{at_set, function_at, functions_long, functions_set}

-- What is kept

pub kept_none : (stations : List Station) (kept : Option Kept) (hand : Option Hand) → IsKept stations kept hand
    → hand ≡ None → kept ≡ None
kept_none stations kept hand NoneKept e = refl
kept_none stations kept hand (OneKept one s parcel less at) e = cc

-- One station's acts

module _ {N : Type 0} (acts : N → Acts) (state : N → Tree) (site : BoardView) (at : ℕ) (added : Log)
    (before after : TokenView) (role now : CoreRole N) (s s_now : Station) (u u_now : N)
    (grew : after ≡ grown added after.hand before) (less : at < length role.stations.items)
    (work : IsAtWork acts state site before role)
    (s_is : s ≡ slice_index_or role.stations.items at s) (u_is : u ≡ slice_index_or role.units.items at u)
    (stations_are : now.stations.items ≡ slice_set role.stations.items at s_now)
    (units_are : now.units.items ≡ slice_set role.units.items at u_now)
    (began_is : now.began.value.items ≡ role.began.value.items)
    (here : IsStation site s_now after) (same : s_now.function ≡ s.function)
    (went : HasGoneOn acts state s.function u u_now before.log after.log)
    (silent : (g : FnId) → s.function.0 ≢ g.0 → AreSilent g added)
    (stands : Stands site.layout (core_hand after.log) after)
    (kept : IsKept now.stations.items now.kept (core_hand after.log))
    (yields : now.yields ≡ at_most_64_bits (how_many is_yield after.log))
    (lost : now.lost ≡ at_most_64_bits (how_many is_lost after.log)) where
  role_is : after.role ≡ before.role
  role_is = ap (λ (t : TokenView). t.role) grew

  log_is : after.log ≡ added ++ before.log
  log_is = ap (λ (t : TokenView). t.log) grew

  kept_functions : functions_of now.stations.items ≡ functions_of role.stations.items
  kept_functions =
      ap functions_of stations_are ∙ functions_set role.stations.items at s s_now less s_is same

  long : length now.stations.items ≡ length role.stations.items
  long = ap (λ (xs : List Station). length xs) stations_are ∙ length-set role.stations.items at s_now

  -- another station's function is another
  others_silent : (i : ℕ) (t : Station) → i < length role.stations.items → i ≢ at
      → t ≡ slice_index_or role.stations.items i t → AreSilent t.function added
  others_silent i t below other t_is =
      let count = functions_long role.stations.items in
      silent t.function
      (work.functions.apart at i s.function t.function (omega (arith, less, count)) (omega (arith, below, count))
      (λ e. other (sym e)) (function_at role.stations.items at s less s_is)
      (function_at role.stations.items i t below t_is))

  each_station : (i : ℕ) (t : Station) → i < length now.stations.items → t ≡ slice_index_or now.stations.items i t
      → IsStation site t after
  each_station i t below t_is = at_place (eqb_tells i at)
    where
      t_set : t ≡ slice_index_or (slice_set role.stations.items at s_now) i t
      t_set = t_is ∙ ap (λ (xs : List Station). slice_index_or xs i t) stations_are

      at_place : (((i == at) ≡ true) × (i ≡ at)) ⊎ (((i == at) ≡ false) × (i ≢ at)) → IsStation site t after
      at_place (inl met) =
          subst (λ (z : Station). IsStation site z after)
          (sym (at_set role.stations.items at i s_now t less met.1 t_set)) here
      at_place (inr unmet) =
          let t_was = t_set ∙ get_or-set_other role.stations.items at i s_now t unmet.1 in
          let under : i < length role.stations.items = omega (arith, below, long) in
          station_over site t added after.hand before after grew (work.stations.each i t under t_was)
          (others_silent i t under unmet.1 t_was)

  each_journal : (i : ℕ) (t : Station) (v w : N) → i < length now.stations.items
      → t ≡ slice_index_or now.stations.items i t → v ≡ slice_index_or now.began.value.items i v
      → w ≡ slice_index_or now.units.items i w → HasGoneOn acts state t.function v w [] after.log
  each_journal i t v w below t_is v_is w_is = at_place (eqb_tells i at)
    where
      t_set : t ≡ slice_index_or (slice_set role.stations.items at s_now) i t
      t_set = t_is ∙ ap (λ (xs : List Station). slice_index_or xs i t) stations_are

      w_set : w ≡ slice_index_or (slice_set role.units.items at u_now) i w
      w_set = w_is ∙ ap (λ (xs : List N). slice_index_or xs i w) units_are

      v_was : v ≡ slice_index_or role.began.value.items i v
      v_was = v_is ∙ ap (λ (xs : List N). slice_index_or xs i v) began_is

      under : i < length role.stations.items
      under = omega (arith, below, long)

      at_place : (((i == at) ≡ true) × (i ≡ at)) ⊎ (((i == at) ≡ false) × (i ≢ at))
          → HasGoneOn acts state t.function v w [] after.log
      at_place (inl met) =
          let t_now : t ≡ s_now = at_set role.stations.items at i s_now t less met.1 t_set in
          let w_now : w ≡ u_now = at_set role.units.items at i u_now w (omega (arith, less, work.units)) met.1 w_set in
          let f_is : t.function ≡ s.function = ap (λ (z : Station). z.function) t_now ∙ same in
          let first = work.journals at s v u less s_is (v_was ∙ ap (λ j. slice_index_or role.began.value.items j v) met.1)
          u_is in
          subst (λ (z : FnId × N). HasGoneOn acts state z.0 v z.1 [] after.log) (λ i. (sym f_is i, sym w_now i))
          (went_on_then acts state s.function v u u_now [] before.log after.log first went)
      at_place (inr unmet) =
          let t_was = t_set ∙ get_or-set_other role.stations.items at i s_now t unmet.1 in
          let w_was = w_set ∙ get_or-set_other role.units.items at i u_now w unmet.1 in
          let quiet = silent_quiet t.function added (others_silent i t under unmet.1 t_was) in
          went_on_then acts state t.function v w w [] before.log after.log (work.journals i t v w under t_was v_was w_was)
          (stood acts state t.function w before.log after.log
          (ap (journal t.function) log_is ∙ quiet_journal t.function added before.log quiet))

  pub work_on : IsAtWork acts state site after now
  work_on = record {
    board = ap (λ (t : TokenView). t.board) grew ∙ work.board;
    kind = ap (λ r. kind_of site.layout r) role_is ∙ work.kind;
    functions =
        subst (λ (z : ℕ × List FnId). AreFunctionsOf site.layout z.0 z.1) (λ i. (sym role_is i, sym kept_functions i))
        work.functions;
    stations = record { each = each_station };
    few = omega (arith, work.few, long);
    units =
        ap (λ (xs : List N). length xs) units_are ∙ length-set role.units.items at u_now ∙ work.units ∙ sym long;
    began = ap (λ (xs : List N). length xs) began_is ∙ work.began ∙ sym long;
    journals = each_journal;
    stands = stands;
    kept = kept;
    yields = yields;
    lost = lost;
  }

-- A service

one_yield : (last : Turn) → one_if (is_barred last) ≤ 1
one_yield Handled = omega arith
one_yield Barred = omega arith
one_yield Dry = omega arith
one_yield (Wanting buf) = omega arith

pub work_served : {N : Type 0} (acts : N → Acts) (state : N → Tree) (site : BoardView) (plan : Plan) (at k : ℕ)
    (last : Turn) (before after : TokenView) (role now : CoreRole N) (s s_now : Station) (u u_now : N)
    → at < length role.stations.items → IsAtWork acts state site before role
    → s ≡ slice_index_or role.stations.items at s → u ≡ slice_index_or role.units.items at u
    → now.stations.items ≡ slice_set role.stations.items at s_now
    → now.units.items ≡ slice_set role.units.items at u_now → now.began.value.items ≡ role.began.value.items
    → IsStation site s_now after → s_now.function ≡ s.function
    → HasGoneOn acts state s.function u u_now before.log after.log
    → IsService site plan s.function k last before after
    → IsKept now.stations.items now.kept (kept_by s.function last after)
    → now.yields ≡ min (role.yields + one_if (is_barred last)) (2 ^ 64 - 1) → now.lost ≡ role.lost
    → IsAtWork acts state site after now
work_served acts state site plan at k last before after role now s s_now u u_now less work s_is u_is stations_are
    units_are began_is here same went is kept yields lost =
    let count = functions_long role.stations.items in
    let own = work.functions.own at s.function (omega (arith, less, count))
    (function_at role.stations.items at s less s_is) in
    let new : Log = service site plan s.function k last before after own is in
    let grew = service_grew site plan s.function k last before after own is in
    let steps = service_steps site plan s.function k last before after own is in
    let log_is : after.log ≡ new ++ before.log = ap (λ (t : TokenView). t.log) grew in
    work_on acts state site at new before after role now s s_now u u_now grew less work s_is u_is stations_are units_are
    began_is here same went (λ g apart. services_elsewhere s.function g new apart steps)
    (subst (λ (hand : Option Hand). Stands site.layout hand after) (sym is.serving.stands.logged) is.serving.stands)
    (subst (λ (hand : Option Hand). IsKept now.stations.items now.kept hand) (sym is.serving.stands.logged) kept)
    (omega (
      arith,
      yields,
      work.yields,
      ap (how_many is_yield) log_is,
      how_many-append is_yield new before.log,
      service_yields site plan s.function k last before after own is,
    ))
    (omega (
      arith,
      lost,
      work.lost,
      ap (how_many is_lost) log_is,
      how_many-append is_lost new before.log,
      unlost_steps s.function new steps,
    ))

-- nothing is kept where the turn wasn't cut short
pub kept_still : {N : Type 0} (acts : N → Acts) (state : N → Tree) (site : BoardView) (before : TokenView)
    (role : CoreRole N) (stations : List Station) → IsAtWork acts state site before role
    → core_hand before.log ≡ None → IsKept stations role.kept None
kept_still acts state site before role stations work free =
    subst (λ (kept : Option Kept). IsKept stations kept None)
    (sym (kept_none role.stations.items role.kept (core_hand before.log) work.kept free)) NoneKept

pub kept_quiet : {N : Type 0} (acts : N → Acts) (state : N → Tree) (site : BoardView) (f : FnId) (last : Turn)
    (before after : TokenView) (role : CoreRole N) (stations : List Station)
    → IsAtWork acts state site before role → core_hand before.log ≡ None
    → (last ≡ Handled) ⊎ (last ≡ Dry)
    → IsKept stations role.kept (kept_by f last after) × (one_if (is_barred last) ≡ 0)
kept_quiet acts state site f last before after role stations work free (inl e) =
    let is = kept_still acts state site before role stations work free in (
      subst (λ (t : Turn). IsKept stations role.kept (kept_by f t after)) (sym e) is,
      ap (λ (t : Turn). one_if (is_barred t)) e,
    )
kept_quiet acts state site f last before after role stations work free (inr e) =
    let is = kept_still acts state site before role stations work free in (
      subst (λ (t : Turn). IsKept stations role.kept (kept_by f t after)) (sym e) is,
      ap (λ (t : Turn). one_if (is_barred t)) e,
    )

-- a count that stays
pub no_more : (yields b n : ℕ) → b ≡ 0 → yields ≡ at_most_64_bits n → yields ≡ min (yields + b) (2 ^ 64 - 1)
no_more yields b n none is = omega (arith, none, is)

-- what was set stands there
pub set_there : {A : Type 0} (xs : List A) (at : ℕ) (now : A) → at < length xs
    → (at < length (slice_set xs at now)) × (now ≡ slice_index_or (slice_set xs at now) at now)
set_there xs at now less = (omega (arith, less, length-set xs at now), set_at xs at now less)
  where
    set_at : {A : Type 0} (xs : List A) (at : ℕ) (now : A) → at < length xs
        → now ≡ slice_index_or (slice_set xs at now) at now
    set_at [] at now less = absurd (omega arith)
    set_at (x ∷ xs) zero now less = refl
    set_at (x ∷ xs) (suc at) now less = set_at xs at now (omega arith)

-- Kept or not

pub kept_some : (stations : List Station) (kept : Option Kept) (hand : Option Hand) → IsKept stations kept hand
    → is_some kept ≡ true → hand ≡ None → ⊥
kept_some stations kept hand NoneKept some e = absurd (true≢false (sym some))
kept_some stations kept hand (OneKept one s parcel less at) some e = cc

pub was_not : (b : Bool) → false ≡ not b → b ≡ true
was_not true same = refl
was_not false same = absurd (true≢false (sym same))

pub kept_free : (stations : List Station) (kept : Option Kept) (hand : Option Hand) → IsKept stations kept hand
    → is_some kept ≡ false → hand ≡ None
kept_free stations kept hand NoneKept free = refl
kept_free stations kept hand (OneKept one s parcel less at) free = absurd (true≢false free)
