-- The stations of a core are made one after the other.
use Rattle.std.proofs.Common.{◌≡◌, ℕ, zero, suc, ◌+◌, ◌<◌, ◌≤◌, inl, inr, List, [], ◌∷◌, ◌++◌, length, take, refl, sym, ap, ◌∙◌, subst, arith, length-append}
use Rattle.std.specs.Prelude.{◌⊎◌, slice_index_or}
use Rattle.std.proofs.lemmas.Bool.{cases_lt}
use Rattle.std.proofs.lemmas.List.{take_more}
use Rattle.onvm_base.specs.declared.ids.FnId.{FnId}
use Rattle.onvm_core.specs.declared.layout.Layout.{Layout}
use Rattle.nf_exec.specs.declared.station.Station.{Station}
use Rattle.nf_exec.specs.Rooms.{AreNewStations, IsNewStation}
use Rattle.nf_exec.specs.Stations.{functions_of}

pub stations_next : (layout : Layout) (functions : List FnId) (stations all : List Station) (at : ℕ) (one : Station)
    (f : FnId) → at < length functions → length stations ≡ at → f ≡ slice_index_or functions at f
    → IsNewStation layout f one → all ≡ stations ++ one ∷ [] → AreNewStations layout (take at functions) stations
    → AreNewStations layout (take (at + 1) functions) all
stations_next layout functions stations all at one f less long f_is new all_is were = record {
  functions_are = ap functions_of all_is ∙ functions_more stations one
      ∙ ap (λ (z : List FnId × FnId). z.0 ++ z.1 ∷ []) (λ i. (were.functions_are i, (new.function ∙ f_is) i))
      ∙ sym (take_more functions at f less);
  each = λ i s below s_is.
      by_place i s (omega (arith, below, ap (λ (xs : List Station). length xs) all_is, length-append stations (one ∷ [])))
      (s_is ∙ ap (λ xs. slice_index_or xs i s) all_is) (cases_lt i (length stations));
}
  where
    functions_more : (xs : List Station) (x : Station) → functions_of (xs ++ x ∷ []) ≡ functions_of xs ++ x.function ∷ []
    functions_more [] x = refl
    functions_more (y ∷ ys) x = ap (λ fs. y.function ∷ fs) (functions_more ys x)

    front : (xs : List Station) (x : Station) (i : ℕ) (d : Station) → i < length xs
        → slice_index_or (xs ++ x ∷ []) i d ≡ slice_index_or xs i d
    front [] x i d less = absurd (omega arith)
    front (y ∷ ys) x zero d less = refl
    front (y ∷ ys) x (suc i) d less = front ys x i d (omega arith)

    seam : (xs : List Station) (x : Station) (i : ℕ) (d : Station) → i ≡ length xs → slice_index_or (xs ++ x ∷ []) i d ≡ x
    seam [] x zero d e = refl
    seam [] x (suc i) d e = absurd (omega (arith, e))
    seam (y ∷ ys) x zero d e = absurd (omega (arith, e))
    seam (y ∷ ys) x (suc i) d e = seam ys x i d (omega (arith, e))

    by_place : (i : ℕ) (s : Station) → i < length stations + 1 → s ≡ slice_index_or (stations ++ one ∷ []) i s
        → (i < length stations) ⊎ (length stations ≤ i) → IsNewStation layout s.function s
    by_place i s below s_is (inl under) = were.each i s under (s_is ∙ front stations one i s under)
    by_place i s below s_is (inr over) =
        subst (λ (t : Station). IsNewStation layout t.function t)
        (sym (s_is ∙ seam stations one i s (omega (arith, below, over))))
        (subst (λ (g : FnId). IsNewStation layout g one) (sym new.function) new)

-- an item within a list is the same whatever stands in for it
pub at_any : {A : Type 0} (xs : List A) (i : ℕ) (d e : A) → i < length xs
    → slice_index_or xs i d ≡ slice_index_or xs i e
at_any [] i d e less = absurd (omega arith)
at_any (x ∷ xs) zero d e less = refl
at_any (x ∷ xs) (suc i) d e less = at_any xs i d e (omega arith)
