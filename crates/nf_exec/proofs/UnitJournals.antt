-- Each function's unit went through just its journal.
use Rattle.std.proofs.Common.{◌≡◌, ℕ, zero, suc, ◌<◌, List, [], ◌∷◌, length, Some, Option, refl, sym, ap, ◌∙◌, subst, arith}
use Rattle.std.specs.Prelude.{◌≢◌, slice_index_or}
use Rattle.std.proofs.lemmas.Bool.{eq-eqb, ne_eqb}
use Rattle.onvm_base.specs.declared.ids.FnId.{FnId}
use Rattle.onvm_base.specs.declared.plan.Plan.{Plan}
use Rattle.onvm_core.specs.declared.entry.Entry.{Entry}
use Rattle.onvm_core.specs.Handling.{IsOwn}
use Rattle.onvm_core.specs.Journals.{GoesThrough, journal}
use Rattle.onvm_board.specs.Tokens.{BoardView, TokenView}
use Rattle.nf_api.specs.Acts.{Acts}
use Rattle.nf_api.specs.Tree.{Tree}
use Rattle.onvm_promises.specs.Roles.{setting_of}
use Rattle.nf_exec.specs.declared.role.CoreRole.{CoreRole}
use Rattle.nf_exec.specs.Handing.{HasGoneOn, acts_in, by_handling, state_in, unit_of}
use Rattle.nf_exec.specs.Roles.{IsAtWork, IsCoreRole, acts_of, start_of, state_of}
use Rattle.nf_exec.specs.Stations.{functions_of}
use Rattle.nf_exec.proofs.Passing.{same_at}
use Rattle.nf_exec.proofs.StationLists.{function_at, functions_long, item_there}

-- Units by the numbers of their functions

unit_at : {N : Type 0} (acts : N → Acts) (state : N → Tree) (functions : List FnId) (units : List N) (i : ℕ) (f : FnId)
    (u : N) → i < length functions → length units ≡ length functions → f ≡ slice_index_or functions i f
    → ((j : ℕ) (g : FnId) → j < i → g ≡ slice_index_or functions j g → g.0 ≢ f.0) → u ≡ slice_index_or units i u
    → unit_of acts state functions units f.0 ≡ Some u
unit_at acts state [] units i f u less long f_is apart u_is = absurd (omega (arith, less))
unit_at acts state (g ∷ gs) [] i f u less long f_is apart u_is = absurd (omega (arith, long))
unit_at acts state (g ∷ gs) (v ∷ vs) zero f u less long f_is apart u_is =
    rw (eq-eqb g.0 f.0 (ap (λ (h : FnId). h.0) (sym f_is))) (ap Some (sym u_is))
unit_at acts state (g ∷ gs) (v ∷ vs) (suc i) f u less long f_is apart u_is =
    rw (ne_eqb g.0 f.0 (apart 0 g (omega arith) refl))
    (unit_at acts state gs vs i f u (omega arith) (omega (arith, long)) f_is
    (λ j h below h_is. apart (suc j) h (omega arith) h_is) u_is)

-- Journals

pub journals_of : {N : Type 0} (acts : N → Acts) (state : N → Tree) (site : BoardView) (plan : Plan)
    (entries : List Entry) (before after : TokenView) (role now : CoreRole N)
    → IsCoreRole acts state site plan before role → IsAtWork acts state site after now
    → functions_of now.stations.items ≡ functions_of role.stations.items → now.began ≡ role.began
    → (f : FnId) → IsOwn (setting_of site.layout plan entries) before.role f
    → GoesThrough (acts_of acts state role f.0) (start_of acts state role f.0) (journal f after.log)
    (state_of acts state now f.0)
journals_of {N} acts state site plan entries before after role now is work all_functions began f own =
    let functions : List FnId = functions_of role.stations.items in
    let at = is.work.functions.all f own.known own.core in
    let long = functions_long now.stations.items in
    let long_was = functions_long role.stations.items in
    let same_long = ap (λ (fs : List FnId). length fs) all_functions in
    let less : at.0 < length now.stations.items = omega (arith, at.1, long, same_long) in
    let s = item_there now.stations.items at.0 less in
    let f_is : s.0.function ≡ f =
    same_at functions at.0 s.0.function f at.1
    (function_at now.stations.items at.0 s.0 less s.1 ∙ ap (λ fs. slice_index_or fs at.0 s.0.function) all_functions)
    at.2 in
    let v = item_there now.began.value.items at.0 (omega (arith, less, work.began)) in
    let u = item_there now.units.items at.0 (omega (arith, less, work.units)) in
    let went = work.journals at.0 s.0 v.0 u.0 less s.1 v.1 u.1 in
    let apart : (j : ℕ) (g : FnId) → j < at.0 → g ≡ slice_index_or functions j g → g.0 ≢ f.0 =
    λ j g below g_is. is.work.functions.apart j at.0 g f (omega (arith, below, at.1)) at.1
    (λ e. absurd (omega (arith, below, e))) g_is at.2 in
    let began_is : unit_of acts state functions role.began.value.items f.0 ≡ Some v.0 =
    unit_at acts state functions role.began.value.items at.0 f v.0 at.1 (omega (arith, is.work.began, long_was)) at.2 apart
    (v.1 ∙ ap (λ b. slice_index_or b.value.items at.0 v.0) began) in
    let now_is : unit_of acts state (functions_of now.stations.items) now.units.items f.0 ≡ Some u.0 =
    ap (λ fs. unit_of acts state fs now.units.items f.0) all_functions
    ∙ unit_at acts state functions now.units.items at.0 f u.0 at.1 (omega (arith, work.units, long, same_long)) at.2 apart
    u.1 in
    by_units f (unit_of acts state functions role.began.value.items f.0)
    (unit_of acts state (functions_of now.stations.items) now.units.items f.0) v.0 u.0 began_is now_is
    (subst (λ (g : FnId). HasGoneOn acts state g v.0 u.0 [] after.log) f_is went)
  where
    by_units : (f : FnId) (o p : Option N) (v u : N) → o ≡ Some v → p ≡ Some u
        → HasGoneOn acts state f v u [] after.log
        → GoesThrough (acts_in acts state o) (state_in acts state o) (journal f after.log) (state_in acts state p)
    by_units f o p v u o_is p_is went =
        subst (λ (z : Option N × Option N). GoesThrough (acts_in acts state z.0) (state_in acts state z.0)
        (journal f after.log) (state_in acts state z.1)) (λ i. (sym o_is i, sym p_is i))
        (subst (λ hs. GoesThrough (by_handling (acts v)) (state v) hs (state u)) (sym went.grown) went.goes)
