-- What keeping an output leaves of it in the files, and in the calls.
use Rattle.std.proofs.Common.{◌≡◌, ◌≢◌, ◌∙◌, sym, ap, subst, refl, inl, inr, ℕ, Bool, true, false, List, [], ◌∷◌, ◌++◌, length, Option, Some, Result, Ok, Err, append_assoc, option_map, if◌then◌else◌, arith}
use Rattle.std.specs.Prelude.{IsSome}
use Rattle.std.specs.Io.KnownBytes.{Appends}
use Rattle.std.specs.Str.{bytes_eq}
use Rattle.std.proofs.lemmas.List.{length-append}
use Rattle.std.proofs.lemmas.Slice.Eq.{bytes_eq-Decides}
use Rattle.onvm_host.specs.Deeds.{Amounts, Created, Deed, Kept, KeepFailed, kept_or_failed}
use Rattle.onvm_host.specs.Files.{Entries, file_of, kept_files, put_file}
use Rattle.onvm_host.specs.Moved.{Moved}
use Rattle.onvm_top.specs.Put.{AppendsPart, PutsAll, PutsPart}
use Rattle.onvm_top.specs.Accounts.{OnlyChanges}
use Rattle.onvm_top.specs.Calls.{Adds, CannotFinish, IsCutShort}
use Rattle.onvm_host.proofs.Bytes.{Appends-to_empty}

file_of-same : (name bytes : List ℕ) (files : Entries) → file_of name ((name, bytes) ∷ files) ≡ Some bytes
file_of-same name bytes files =
    ap (λ b. if b then Some bytes else file_of name files) ((bytes_eq-Decides name name).1 refl)

file_of-other : (name other bytes : List ℕ) (files : Entries) → other ≢ name
    → file_of other ((name, bytes) ∷ files) ≡ file_of other files
file_of-other name other bytes files differs = cases (bytes_eq name other) refl
  where
    cases : (b : Bool) → bytes_eq name other ≡ b → file_of other ((name, bytes) ∷ files) ≡ file_of other files
    cases true e = absurd (differs (sym ((bytes_eq-Decides name other).0 e)))
    cases false e = ap (λ b. if b then Some bytes else file_of other files) e

-- a file that was made and then kept is the only one that changes
only_kept : (name bytes : List ℕ) (files : Entries) → OnlyChanges name bytes files ((name, bytes) ∷ (name, []) ∷ files)
only_kept name bytes files = record {
  changed = file_of-same name bytes ((name, []) ∷ files);
  others =
      λ other differs.
      file_of-other name other bytes ((name, []) ∷ files) differs ∙ file_of-other name other [] files differs;
}

-- what an output held is in the files when it was kept
pub kept_there : (name same bytes : List ℕ) (files : Entries) (told made kept : Option Entries)
    (held held' : Option (List ℕ))
    → told ≡ Some files → made ≡ option_map (put_file name []) told → (IsSome told → held ≡ Some [])
    → Appends held held' bytes → kept ≡ kept_files same held' made → same ≡ name
    → (now : Entries) × (kept ≡ Some now) × OnlyChanges name bytes files now
kept_there name same bytes files told made kept held held' is made_is empty appended kept_is named =
    let Told : Option Entries → Type 0 = λ t. IsSome t in
    let first : made ≡ Some ((name, []) ∷ files) = made_is ∙ ap (option_map (put_file name [])) is in
    let holds : held' ≡ Some bytes = Appends-to_empty held held' bytes (empty (subst Told (sym is) refl)) appended in
    let all : kept ≡ Some ((name, bytes) ∷ (name, []) ∷ files) =
    kept_is
    ∙ ap (λ n. kept_files n held' made) named
    ∙ ap (λ h. kept_files name h made) holds
    ∙ ap (kept_files name (Some bytes)) first in
    ((name, bytes) ∷ (name, []) ∷ files, all, only_kept name bytes files)

deeds_of_kept : (before made now : List Deed) (name : List ℕ) (deed : Deed)
    → made ≡ before ++ Created name ∷ [] → now ≡ made ++ deed ∷ []
    → now ≡ before ++ (Created name ∷ deed ∷ [])
deeds_of_kept before made now name deed first second =
    second ∙ ap (λ t. t ++ deed ∷ []) first ∙ append_assoc before (Created name ∷ []) (deed ∷ [])

all_puts : (fresh now puts : Amounts) → fresh ≡ [] → now ≡ fresh ++ puts → now ≡ puts
all_puts fresh now puts none is = is ∙ ap (λ t. t ++ puts) none

-- a part was put, and then a put failed
pub part_puts : (held held' : Option (List ℕ)) (puts : Amounts) (text : List ℕ) → AppendsPart held held' puts text
    → IsCutShort (length text) puts
part_puts held held' puts text part = (
  part.earlier,
  length part.front,
  part.in_order,
  part.moved,
  omega (arith, ap length part.split, length-append part.front part.rest, part.some),
)

-- a put failed, whatever keep answers
pub CannotFinish-put : {A E : Type 0} (before made now : List Deed) (name same text : List ℕ)
    (held held' : Option (List ℕ)) (fresh puts : Amounts) (kept : Result A E)
    → made ≡ before ++ Created name ∷ [] → now ≡ made ++ kept_or_failed same puts kept ∷ [] → same ≡ name → fresh ≡ []
    → PutsPart held held' fresh puts text
    → Adds before now (CannotFinish (length text) name)
CannotFinish-put before made now name same text held held' fresh puts (Ok done) first second named none part =
    let P : Amounts → Type 0 = IsCutShort (length text) in (
      Created name ∷ Kept name puts ∷ [],
      deeds_of_kept before made now name (Kept name puts) first (second ∙ ap (λ n. made ++ Kept n puts ∷ []) named),
      inl (
        puts,
        refl,
        subst P (sym (all_puts fresh puts part.0 none part.1)) (part_puts held held' part.0 text part.2),
      ),
    )
CannotFinish-put before made now name same text held held' fresh puts (Err failed) first second named none part =
    let P : Amounts → Type 0 = IsCutShort (length text) in (
      Created name ∷ KeepFailed name puts ∷ [],
      deeds_of_kept before made now name (KeepFailed name puts) first
          (second ∙ ap (λ n. made ++ KeepFailed n puts ∷ []) named),
      inr (
        puts,
        refl,
        inr (subst P (sym (all_puts fresh puts part.0 none part.1)) (part_puts held held' part.0 text part.2)),
      ),
    )

-- all was put, and keep failed
pub CannotFinish-keep : {A E : Type 0} (before made now : List Deed) (name same text : List ℕ)
    (held held' : Option (List ℕ)) (fresh puts : Amounts) (kept : Result A E) (failed : E)
    → kept ≡ Err failed → made ≡ before ++ Created name ∷ [] → now ≡ made ++ kept_or_failed same puts kept ∷ []
    → same ≡ name → fresh ≡ [] → PutsAll held held' fresh puts text
    → Adds before now (CannotFinish (length text) name)
CannotFinish-keep {A} {E} before made now name same text held held' fresh puts kept failed is first second
    named none all =
    let P : Amounts → Type 0 = Moved (length text) in
    let Q : Result A E → Type 0 = λ r. now ≡ made ++ kept_or_failed same puts r ∷ [] in
    let last : now ≡ made ++ KeepFailed same puts ∷ [] = subst Q is second in (
      Created name ∷ KeepFailed name puts ∷ [],
      deeds_of_kept before made now name (KeepFailed name puts) first
          (last ∙ ap (λ n. made ++ KeepFailed n puts ∷ []) named),
      inr (puts, refl, inl (subst P (sym (all_puts fresh puts all.0 none all.1)) all.2.moved)),
    )
