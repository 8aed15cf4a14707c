-- The cores of a plan's functions, and 0 at the places past them.
use Rattle.std.proofs.Common.{◌≡◌, ℕ, ◌+◌, ◌-◌, ◌<◌, ◌≤◌, suc, List, [], ◌∷◌, ◌++◌, length, take, sym, ◌∙◌, ap, subst, arith, append_assoc, length-append}
use Rattle.std.specs.Prelude.{map, replicate, slice_set, slice_index_or, All}
use Rattle.std.proofs.lemmas.List.{take_more, map-append, length-map, length-take-le, length-replicate}
use Rattle.std.proofs.lemmas.List.Elements.{All-append, All-map, All-replicate}
use Rattle.std.proofs.Math.Seq.{set-append_seam}
use Rattle.onvm_base.specs.declared.function.FunctionPlan.{FunctionPlan}
use Rattle.onvm_base.specs.Plan.{IsFunction}

pub length-filled : {A : Type 0} (g : A → ℕ) (fs : List A) (n : ℕ) → length fs ≤ n
    → length (map g fs ++ replicate (n - length fs) 0) ≡ n
length-filled g fs n within =
    omega (
      arith,
      length-append (map g fs) (replicate (n - length fs) 0),
      length-map fs g,
      length-replicate {A = ℕ} (n - length fs) 0,
    )

pub fill_next : {A : Type 0} (g : A → ℕ) (fs : List A) (i n : ℕ) (d : A) → i < length fs → length fs ≤ n
    → slice_set (map g (take i fs) ++ replicate (n - i) 0) i (g (slice_index_or fs i d))
    ≡ map g (take (i + 1) fs) ++ replicate (n - (i + 1)) 0
fill_next g fs i n d less within =
    let size : n - i ≡ suc (n - (i + 1)) = omega arith in
    let long : length (map g (take i fs)) ≡ i =
    omega (arith, length-map (take i fs) g, length-take-le i fs (omega arith)) in
    let grown : map g (take (i + 1) fs) ≡ map g (take i fs) ++ g (slice_index_or fs i d) ∷ [] =
    ap (map g) (take_more fs i d less) ∙ map-append g (take i fs) (slice_index_or fs i d ∷ []) in
    ap (λ k. slice_set (map g (take i fs) ++ replicate k 0) i (g (slice_index_or fs i d))) size
    ∙ subst (λ k.
    slice_set (map g (take i fs) ++ 0 ∷ replicate (n - (i + 1)) 0) k (g (slice_index_or fs i d))
    ≡ map g (take i fs) ++ g (slice_index_or fs i d) ∷ replicate (n - (i + 1)) 0) long
    (set-append_seam (map g (take i fs)) 0 (replicate (n - (i + 1)) 0) (g (slice_index_or fs i d)))
    ∙ sym (append_assoc (map g (take i fs)) (g (slice_index_or fs i d) ∷ []) (replicate (n - (i + 1)) 0))
    ∙ ap (λ (ys : List ℕ). ys ++ replicate (n - (i + 1)) 0) (sym grown)

pub cores_known : (cores : ℕ) (fs : List FunctionPlan) (n : ℕ) → 1 ≤ cores → All (IsFunction cores) fs
    → All (λ core. core < cores) (map (λ f. f.core) fs ++ replicate n 0)
cores_known cores fs n some known =
    All-append (λ core. core < cores) (map (λ f. f.core) fs) (replicate n 0)
    (All-map (λ core. core < cores) (λ f. f.core) fs (λ k d less. (known k d less).core))
    (All-replicate (λ core. core < cores) n 0 (omega arith))
