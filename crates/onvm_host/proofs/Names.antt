-- Files by name.
use Rattle.std.proofs.Common.{◌≡◌, ◌≢◌, ◌∙◌, ap, subst, sym, List, [], ◌∷◌, ◌++◌, find, Option, Some, None, option_map, Bool, true, false, cond, ◌<◌, ◌≤◌, ◌+◌, ◌-◌, length, drop, take, ℕ, zero, suc, inl, inr, option_copied, Bor, refl, arith}
use Rattle.std.specs.Prelude.{is_some, slice_index_or}
use Rattle.std.specs.Str.{bytes_eq}
use Rattle.std.proofs.lemmas.Bool.{cases_lt}
use Rattle.std.proofs.lemmas.List.{get_or_default, get_or-drop, length-drop, take_all}
use Rattle.std.proofs.lemmas.Slice.Eq.{bytes_eq-Decides}
use Rattle.onvm_host.specs.Files.{Entries, file_of}
use Rattle.onvm_host.specs.Given.{given_entries, HaveDistinctNames}
use Rattle.onvm_host.specs.declared.memory.file.MemFile.{MemFile}

-- the bytes of a name are those of the first file of it
pub given_file : (name : List ℕ) (files : List MemFile)
    → file_of name (given_entries files) ≡ option_map (λ (file : MemFile). file.bytes) (find (λ file. bytes_eq file.name name) files)
given_file name [] = refl
given_file name (file ∷ files) =
    elim (bytes_eq file.name name) as (λ b. cond b (Some file.bytes) (file_of name (given_entries files)) ≡ option_map (λ (f : MemFile). f.bytes) (cond b (Some file) (find (λ f. bytes_eq f.name name) files)))
    [ true ↦ refl | false ↦ given_file name files ]

-- what stands among the first counts
pub front_file : (name bytes : List ℕ) (files later : Entries) → file_of name files ≡ Some bytes
    → file_of name (files ++ later) ≡ Some bytes
front_file name bytes [] later found = cc
front_file name bytes (entry ∷ files) later found =
    grind (arith, front_file name bytes files later)

-- where the first have none, the others count
pub back_file : (name : List ℕ) (files later : Entries) → file_of name files ≡ None
    → file_of name (files ++ later) ≡ file_of name later
back_file name [] later none = refl
back_file name (entry ∷ files) later none =
    grind (arith, back_file name files later)

-- an item that is found stands in the list
pub find-some : {X : Type 0} (p : X → Bool) (xs : List X) (d : X) → is_some (find p xs) ≡ true
    → (k : ℕ) × (k < length xs) × (p (slice_index_or xs k d) ≡ true)
find-some p [] d h = cc
find-some {X} p (x ∷ xs) d h = cases (p x) refl (λ e. find-some p xs d e)
  where
    cases : (b : Bool) → p x ≡ b
        → (is_some (find p xs) ≡ true → (k : ℕ) × (k < length xs) × (p (slice_index_or xs k d) ≡ true))
        → (k : ℕ) × (k < length (x ∷ xs)) × (p (slice_index_or (x ∷ xs) k d) ≡ true)
    cases true e later = (0, omega arith, e)
    cases false e later =
        let rest = later (subst (λ b. is_some (cond b (Some x) (find p xs)) ≡ true) e h) in
        let within : rest.0 < length xs = rest.1 in
        (suc rest.0, omega arith, rest.2)

-- where none is found, none passes
pub find-none : {X : Type 0} (p : X → Bool) (xs : List X) (d : X) → is_some (find p xs) ≡ false
    → (k : ℕ) → k < length xs → p (slice_index_or xs k d) ≡ false
find-none p [] d h k within = absurd (omega arith)
find-none {X} p (x ∷ xs) d h k within = cases (p x) refl k within (λ e j l. find-none p xs d e j l)
  where
    cases : (b : Bool) → p x ≡ b → (j : ℕ) → j < length (x ∷ xs)
        → (is_some (find p xs) ≡ false → (i : ℕ) → i < length xs → p (slice_index_or xs i d) ≡ false)
        → p (slice_index_or (x ∷ xs) j d) ≡ false
    cases true e j l later = let clash : true ≡ false = subst (λ b. is_some (cond b (Some x) (find p xs)) ≡ false) e h in cc
    cases false e zero l later = e
    cases false e (suc j) l later = later (subst (λ b. is_some (cond b (Some x) (find p xs)) ≡ false) e h) j (omega arith)

-- a later file of the name
pub later_file : (files : List MemFile) (n : ℕ) (name : List ℕ) (d : MemFile)
    → is_some (find (λ file. bytes_eq file.name name) (drop n files)) ≡ true
    → (j : ℕ) × (n ≤ j) × (j < length files) × ((slice_index_or files j d).name ≡ name)
later_file files n name d h =
    let found = find-some (λ file. bytes_eq file.name name) (drop n files) d h in
    let within : found.0 < length files - n = subst (λ m. found.0 < m) (length-drop n files) found.1 in
    let same : (slice_index_or (drop n files) found.0 d).name ≡ name = (bytes_eq-Decides _ _).0 found.2 in
    (n + found.0, omega arith, omega arith, sym (ap (λ (file : MemFile). file.name) (get_or-drop n files found.0 d)) ∙ same)

-- no later file of the name
pub no_later_file : (files : List MemFile) (n : ℕ) (name : List ℕ) (d : MemFile)
    → is_some (find (λ file. bytes_eq file.name name) (drop n files)) ≡ false
    → (j : ℕ) → n ≤ j → j < length files → name ≢ (slice_index_or files j d).name
no_later_file files n name d h j low high same =
    let within : j - n < length (drop n files) = subst (λ m. j - n < m) (sym (length-drop n files)) (omega arith) in
    let apart = find-none (λ file. bytes_eq file.name name) (drop n files) d h (j - n) within in
    let at : slice_index_or (drop n files) (j - n) d ≡ slice_index_or files j d =
    get_or-drop n files (j - n) d ∙ ap (λ k. slice_index_or files k d) (omega arith) in
    let equal : bytes_eq (slice_index_or (drop n files) (j - n) d).name name ≡ true =
    (bytes_eq-Decides _ _).1 (ap (λ (file : MemFile). file.name) at ∙ sym same) in
    cc

-- all of the rest
rest : (files : List MemFile) (n : ℕ) → take (length files - n) (drop n files) ≡ drop n files
rest files n = take_all (length files - n) (drop n files) (omega (arith, length-drop n files))

-- a find of what a reference is to
pub is_some-copied : {X : Type 0} (r : Option (Bor X)) → is_some (option_copied r) ≡ is_some r
is_some-copied None = refl
is_some-copied (Some x) = refl

-- a file and a later one of its name
pub names_clash : (files : List MemFile) (at : ℕ) (file : MemFile) (name : List ℕ) (later : Option (Bor MemFile))
    → at < length files → name ≡ (slice_index_or files at file).name
    → option_copied later ≡ find (λ other. bytes_eq other.name name) (take (length files - (at + 1)) (drop (at + 1) files))
    → is_some later ≡ true → ¬ HaveDistinctNames files
names_clash files at file name later within is found some distinct =
    let other = later_file files (at + 1) name file (sym (ap is_some (found ∙ ap (λ xs. find (λ o. bytes_eq o.name name) xs) (rest files (at + 1)))) ∙ is_some-copied later ∙ some) in
    distinct at other.0 file (omega (arith, other.1)) other.2 (sym is ∙ sym other.3)

-- one file more has no later one's name
pub names_stay : (files : List MemFile) (at : ℕ) (file : MemFile) (name : List ℕ) (later : Option (Bor MemFile))
    → at < length files → name ≡ (slice_index_or files at file).name
    → option_copied later ≡ find (λ other. bytes_eq other.name name) (take (length files - (at + 1)) (drop (at + 1) files))
    → is_some later ≡ false
    → ((i j : ℕ) (d : MemFile) → i < at → i < j → j < length files → (slice_index_or files i d).name ≢ (slice_index_or files j d).name)
    → (i j : ℕ) (d : MemFile) → i < at + 1 → i < j → j < length files → (slice_index_or files i d).name ≢ (slice_index_or files j d).name
names_stay files at file name later within is found none before i j d low order high same =
    elim (cases_lt i at) [
      | inr last ↦
          let here : i ≡ at = omega arith in
          let named : name ≡ (slice_index_or files j d).name =
          is ∙ ap (λ (f : MemFile). f.name) (get_or_default files at file d within) ∙ ap (λ k. (slice_index_or files k d).name) (sym here) ∙ same in
          no_later_file files (at + 1) name d (sym (ap is_some (found ∙ ap (λ xs. find (λ o. bytes_eq o.name name) xs) (rest files (at + 1)))) ∙ is_some-copied later ∙ none) j (omega arith) high named
      | inl earlier ↦ before i j d earlier order high same
    ]
