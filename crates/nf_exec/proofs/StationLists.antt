-- Lists of stations: their functions and counts, and one of them set anew.
use Rattle.std.proofs.Common.{◌≡◌, ℕ, zero, suc, ◌+◌, ◌<◌, ◌≤◌, true, false, inl, inr, List, [], ◌∷◌, length, refl, sym, ap, ◌∙◌, subst, arith}
use Rattle.std.specs.Prelude.{◌≢◌, ◌⊎◌, ◌==◌, slice_get, slice_set, slice_index_or}
use Rattle.std.proofs.lemmas.Bool.Decides.{eqb_tells}
use Rattle.std.proofs.lemmas.List.{get_or-set_other, length-set}
use Rattle.std.proofs.lemmas.Grind.{get_or-set_at}
use Rattle.onvm_base.specs.declared.ids.FnId.{FnId}
use Rattle.onvm_base.specs.declared.plan.Plan.{Plan}
use Rattle.onvm_promises.specs.Sampling.{cost_of}
use Rattle.nf_exec.specs.declared.station.Station.{Station}
use Rattle.nf_exec.specs.Roles.{KeepsOthers, counts_upto, times_are}
use Rattle.nf_exec.specs.Serving.{IsTimedBy}
use Rattle.nf_exec.specs.Stations.{functions_of}

-- Lists of stations

pub function_at : (stations : List Station) (i : ℕ) (s : Station) → i < length stations
    → s ≡ slice_index_or stations i s
    → s.function ≡ slice_index_or (functions_of stations) i s.function
function_at [] i s less at = absurd (omega arith)
function_at (x ∷ xs) zero s less at = ap (λ (t : Station). t.function) at
function_at (x ∷ xs) (suc i) s less at = function_at xs i s (omega arith) at

pub functions_long : (stations : List Station) → length (functions_of stations) ≡ length stations
functions_long [] = refl
functions_long (x ∷ xs) = let more = functions_long xs in omega (arith, more)

pub functions_set : (stations : List Station) (i : ℕ) (s now : Station) → i < length stations
    → s ≡ slice_index_or stations i s → now.function ≡ s.function
    → functions_of (slice_set stations i now) ≡ functions_of stations
functions_set [] i s now less at same = absurd (omega arith)
functions_set (x ∷ xs) zero s now less at same =
    ap (λ (f : FnId). f ∷ functions_of xs) (same ∙ ap (λ (t : Station). t.function) at)
functions_set (x ∷ xs) (suc i) s now less at same =
    ap (λ (fs : List FnId). x.function ∷ fs) (functions_set xs i s now (omega arith) at same)

pub keeps_set : (stations : List Station) (at : ℕ) (s now : Station) → at < length stations
    → s ≡ slice_index_or stations at s → now.function ≡ s.function → KeepsOthers at stations (slice_set stations at now)
keeps_set stations at s now less s_is same = record {
  functions = functions_set stations at s now less s_is same;
  others = λ i t below other t_is. t_is ∙ get_or-set_other stations at i now t other;
}

-- the item at the place that was set, and another one
pub at_set : {A : Type 0} (xs : List A) (at i : ℕ) (now x : A) → at < length xs → i ≡ at
    → x ≡ slice_index_or (slice_set xs at now) i x → x ≡ now
at_set xs at i now x less e x_is = x_is ∙ get_or-set_at xs at i now x e less

pub times_set : (may_span : ℕ → ℕ → Type 0) (plan : Plan) (stations : List Station) (at : ℕ) (now : Station)
    → at < length stations → times_are may_span plan stations
    → IsTimedBy may_span (cost_of (slice_get plan.functions now.function.0)) now.count now.time
    → times_are may_span plan (slice_set stations at now)
times_set may_span plan stations at now less were timed i s below s_is = at_place (eqb_tells i at)
  where
    at_place : (((i == at) ≡ true) × (i ≡ at)) ⊎ (((i == at) ≡ false) × (i ≢ at))
        → IsTimedBy may_span (cost_of (slice_get plan.functions s.function.0)) s.count s.time
    at_place (inl met) =
        subst (λ (t : Station). IsTimedBy may_span (cost_of (slice_get plan.functions t.function.0)) t.count t.time)
        (sym (at_set stations at i now s less met.1 s_is)) timed
    at_place (inr unmet) =
        were i s (omega (arith, below, length-set stations at now))
        (s_is ∙ get_or-set_other stations at i now s unmet.1)

-- Stations behind a service

pub item_there : {A : Type 0} (xs : List A) (i : ℕ) → i < length xs → (x : A) × (x ≡ slice_index_or xs i x)
item_there [] i less = absurd (omega arith)
item_there (x ∷ xs) zero less = (x, refl)
item_there (x ∷ xs) (suc i) less = item_there xs i (omega arith)

pub as_long : (stations now : List Station) → functions_of now ≡ functions_of stations
    → length now ≡ length stations
as_long stations now same =
    sym (functions_long now) ∙ ap (λ (fs : List FnId). length fs) same ∙ functions_long stations

pub counts_next : (stations now : List Station) (at k : ℕ) → at < length stations → KeepsOthers at stations now
    → counts_upto 1025 stations
    → ((s t : Station) → s ≡ slice_index_or stations at s → t ≡ slice_index_or now at t → t.count ≡ s.count + k)
    → ((s : Station) → s ≡ slice_index_or stations at s → s.count ≤ 1) → k ≤ 1024 → counts_upto 1025 now
counts_next stations now at k less keeps were count one few i t below t_is = at_place (eqb_tells i at)
  where
    at_place : (((i == at) ≡ true) × (i ≡ at)) ⊎ (((i == at) ≡ false) × (i ≢ at)) → t.count ≤ 1025
    at_place (inl met) =
        let s = item_there stations at less in
        let sum = count s.0 t s.1 (t_is ∙ ap (λ j. slice_index_or now j t) met.1) in
        let small = one s.0 s.1 in
        omega (arith, sum, small, few)
    at_place (inr unmet) =
        let under : i < length stations = omega (arith, below, as_long stations now keeps.functions) in
        were i t under (keeps.others i t under unmet.1 t_is)

pub ahead_next : (stations now : List Station) (at : ℕ) → KeepsOthers at stations now
    → ((i : ℕ) (s : Station) → at ≤ i → i < length stations → s ≡ slice_index_or stations i s → s.count ≤ 1)
    → (i : ℕ) (s : Station) → at + 1 ≤ i → i < length now → s ≡ slice_index_or now i s → s.count ≤ 1
ahead_next stations now at keeps were i s above below s_is =
    let under : i < length stations = omega (arith, below, as_long stations now keeps.functions) in
    were i s (omega (arith, above)) under (keeps.others i s under (λ e. absurd (omega (arith, above, e))) s_is)

pub more_counts : (few more : ℕ) (stations : List Station) → few ≤ more → counts_upto few stations
    → counts_upto more stations
more_counts few more stations less counts i s below s_is = omega (arith, less, counts i s below s_is)
