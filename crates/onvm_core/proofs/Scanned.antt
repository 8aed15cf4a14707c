-- One more step of a list, the oldest first, is the newest of the steps before.
use Rattle.std.proofs.Common.{◌≡◌, ℕ, zero, suc, ◌+◌, ◌<◌, ◌≤◌, Bool, true, false, add-one, List, [], ◌∷◌, ◌++◌, length, get_or, take, drop, reverse, refl, sym, subst, arith, append_assoc, Some, ◌∙◌, ap}
use Rattle.std.specs.Prelude.{slice_get, ◌%◌, ◌^◌, ◌==◌, if◌then◌else◌}
use Rattle.onvm_base.specs.declared.ids.RingId.{RingId}
use Rattle.onvm_core.specs.declared.step.Item.{Item}
use Rattle.onvm_core.specs.declared.step.Step.{Step}
use Rattle.onvm_core.specs.declared.step.Act.TheVariants.{Push}
use Rattle.onvm_core.specs.Layouts.{same_ring}
use Rattle.onvm_core.specs.History.{History, pushed_on, pushes}
use Rattle.onvm_core.specs.Words.{number_in_cell, number_of, bits}
use Rattle.std.proofs.lemmas.List.{take_more, reverse-append, take-append-drop, append-nil, drop_all, length-drop}
use Rattle.onvm_core.proofs.Lists.{get_front, get_last, if_met}

pub newest : {X : Type 0} (xs : List X) (i : ℕ) (d : X) → i < length xs
    → reverse (take (i + 1) xs) ≡ get_or xs i d ∷ reverse (take i xs)
newest xs i d h = ap reverse (take_more xs i d h) ∙ reverse-append (take i xs) (get_or xs i d ∷ [])

-- lists of one length that agree at each place are one
pub same_by_get : {X : Type 0} (xs ys : List X)
    → length xs ≡ length ys → ((k : ℕ) → k < length xs → slice_get xs k ≡ slice_get ys k)
    → xs ≡ ys
same_by_get [] [] e h = refl
same_by_get [] (y ∷ ys) e h = absurd (omega arith)
same_by_get (x ∷ xs) [] e h = absurd (omega arith)
same_by_get (x ∷ xs) (y ∷ ys) e h =
    let first : Some x ≡ Some y = h 0 (omega arith) in
    let rest : xs ≡ ys = same_by_get xs ys (omega arith) (λ k less. h (suc k) (omega arith)) in
    cc

pushed_on-append : (ring : RingId) (late early : History)
    → pushed_on ring (late ++ early) ≡ pushed_on ring early ++ pushed_on ring late
pushed_on-append ring [] early = sym (append-nil (pushed_on ring early))
pushed_on-append ring (step ∷ late) early =
    ap (λ (xs : List Item). xs ++ pushes ring step.act) (pushed_on-append ring late early)
    ∙ append_assoc (pushed_on ring early) (pushed_on ring late) (pushes ring step.act)

pushed_one : (ring r : RingId) (before : History) (step : Step) (item : Item)
    → step.act ≡ Push r item → same_ring r ring ≡ true
    → pushed_on ring (step ∷ before) ≡ pushed_on ring before ++ item ∷ []
pushed_one ring r before step item acts same = rw (acts, same) refl

-- the item of a push on the ring is the one that was pushed after those of the steps before
pub pushed_at : (ring r : RingId) (xs : List Step) (i : ℕ) (step : Step) (item : Item)
    → i < length xs → step ≡ get_or xs i step → step.act ≡ Push r item → same_ring r ring ≡ true
    → slice_get (pushed_on ring (reverse xs)) (length (pushed_on ring (reverse (take i xs)))) ≡ Some item
pushed_at ring r xs i step item within at acts same =
    let whole : reverse xs ≡ reverse (drop (i + 1) xs) ++ reverse (take (i + 1) xs) =
    ap reverse (sym (take-append-drop (i + 1) xs)) ∙ reverse-append (take (i + 1) xs) (drop (i + 1) xs) in
    let early : reverse (take (i + 1) xs) ≡ step ∷ reverse (take i xs) =
    newest xs i step within ∙ ap (λ (s : Step). s ∷ reverse (take i xs)) (sym at) in
    let items : pushed_on ring (reverse (take (i + 1) xs)) ≡ pushed_on ring (reverse (take i xs)) ++ item ∷ [] =
    ap (pushed_on ring) early ∙ pushed_one ring r (reverse (take i xs)) step item acts same in
    let all : pushed_on ring (reverse xs)
    ≡ (pushed_on ring (reverse (take i xs)) ++ item ∷ []) ++ pushed_on ring (reverse (drop (i + 1) xs))
    = ap (pushed_on ring) whole
    ∙ pushed_on-append ring (reverse (drop (i + 1) xs)) (reverse (take (i + 1) xs))
    ∙ ap (λ (ys : List Item). ys ++ pushed_on ring (reverse (drop (i + 1) xs))) items in
    subst (λ (ys : List Item). slice_get ys (length (pushed_on ring (reverse (take i xs)))) ≡ Some item) (sym all)
    (get_front (pushed_on ring (reverse (take i xs)) ++ item ∷ []) (pushed_on ring (reverse (drop (i + 1) xs)))
    (length (pushed_on ring (reverse (take i xs)))) item (get_last (pushed_on ring (reverse (take i xs))) item))

-- what stands in a cell, one item on
cell_from : (size at n k : ℕ) (items : List Item) (item : Item) → slice_get items k ≡ Some item
    → number_in_cell size at n (drop k items)
    ≡ (if n % size == at then number_of item else number_in_cell size at (n + 1) (drop (suc k) items))
cell_from size at n k [] item e = absurd (cc)
cell_from size at n zero (x ∷ items) item e =
    let same : x ≡ item = cc in
    ap (λ (i : Item). if n % size == at then number_of i else number_in_cell size at (n + 1) items) same
cell_from size at n (suc k) (x ∷ items) item e = cell_from size at n k items item e

cell_past : (size at n k : ℕ) (items : List Item) → k < length items → (n % size == at) ≡ false
    → number_in_cell size at n (drop k items) ≡ number_in_cell size at (n + 1) (drop (suc k) items)
cell_past size at n k [] less e = absurd (omega arith)
cell_past size at n zero (x ∷ items) less e = rw e refl
cell_past size at n (suc k) (x ∷ items) less e = cell_past size at n k items (omega arith) e

pub cell_here : (size at k : ℕ) (items : List Item) (item : Item)
    → slice_get items k ≡ Some item → (k % size == at) ≡ true
    → number_in_cell size at k (drop k items) ≡ number_of item
cell_here size at k items item e met =
    cell_from size at k k items item e
    ∙ if_met (k % size == at) (number_of item) (number_in_cell size at (k + 1) (drop (suc k) items)) met

pub cell_next : (size at k : ℕ) (items : List Item) → k < length items → (k % size == at) ≡ false
    → number_in_cell size at k (drop k items) ≡ number_in_cell size at (k + 1) (drop (k + 1) items)
cell_next size at k items less e =
    cell_past size at k k items less e ∙ ap (λ (m : ℕ). number_in_cell size at (k + 1) (drop m items)) (sym (add-one k))

pub cell_none : (size at k : ℕ) (items : List Item) → length items ≤ k → number_in_cell size at k (drop k items) ≡ 0
cell_none size at k items le = ap (number_in_cell size at k) (drop_all k items le)

pub bits_more : (test : ℕ → Bool) (n : ℕ) → bits test (n + 1) ≡ (if test n then 2 ^ n else 0) + bits test n
bits_more test n = rw add-one refl

pub nothing_left : {X : Type 0} (n : ℕ) (xs : List X)
    → (drop n xs ≡ drop n xs) × ((length xs ≤ n → drop n xs ≡ []) × (drop n xs ≡ [] → length xs ≤ n))
nothing_left n xs = (refl, ((λ le. drop_all n xs le), λ e. omega (arith, ap length e, length-drop n xs)))
