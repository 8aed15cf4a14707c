-- What stands at an id, in rows that grow.
use Rattle.std.proofs.Common.{◌≡◌, ◌∙◌, ◌||◌, Bool, cond, true, false, refl, ap, List, [], ◌∷◌, ◌++◌, Option, Some, None, true≢false}
use Rattle.std.specs.List.{find}
use Rattle.std.specs.Option.{option_map, is_some, unwrap_or}
use Rattle.std.specs.Prelude.{option_and_then, slice_get}
use Rattle.std.specs.Str.{bytes_eq}
use Rattle.std.proofs.lemmas.Slice.Eq.{bytes_eq-Decides}
use Rattle.clap.specs.Walk.{Row, Text, all_of, first_of, has_row, with_values, without}
use Rattle.clap.specs.declared.builder.value_parser.Reading.{Reading}
use Rattle.clap.specs.declared.parser.matches.ValueSource.{ValueSource}

pub bytes_eq-same : (text : Text) → bytes_eq text text ≡ true
bytes_eq-same text = (bytes_eq-Decides text text).1 refl

pub has_row-all_of : (id : Text) (rows : List Row) → has_row id rows ≡ is_some (all_of id rows)
has_row-all_of id [] = refl
has_row-all_of id (r ∷ rows) = go (bytes_eq r.id id) (has_row-all_of id rows)
  where
    go : (b : Bool) → has_row id rows ≡ is_some (all_of id rows)
        → (b || has_row id rows) ≡ is_some (option_map (λ (x : Row). x.values) (cond b (Some r) (find (λ x. bytes_eq x.id id) rows)))
    go true e = refl
    go false e = e

pub first_of-all_of : (id : Text) (rows : List Row) → first_of id rows ≡ option_and_then (λ (values : List Text). slice_get values 0) (all_of id rows)
first_of-all_of id rows = go (find (λ x. bytes_eq x.id id) rows)
  where
    go : (o : Option Row) → option_and_then (λ (x : Row). slice_get x.values 0) o ≡ option_and_then (λ (values : List Text). slice_get values 0) (option_map (λ (x : Row). x.values) o)
    go None = refl
    go (Some r) = refl

-- what is removed where nothing stands
pub without-missing : (id : Text) (rows : List Row) → has_row id rows ≡ false → without id rows ≡ rows
without-missing id [] e = refl
without-missing id (r ∷ rows) e = go (bytes_eq r.id id) e (without-missing id rows)
  where
    go : (b : Bool) → (b || has_row id rows) ≡ false → (has_row id rows ≡ false → without id rows ≡ rows)
        → cond b ([] ++ rows) (r ∷ without id rows) ≡ r ∷ rows
    go true e ih = absurd (true≢false e)
    go false e ih = ap (λ rs. r ∷ rs) (ih e)

-- values join those of their id
pub all_of-with_values : (id : Text) (how : Reading) (s : ValueSource) (vs : List Text) (rows : List Row)
    → all_of id (with_values id how s vs rows) ≡ Some (unwrap_or (all_of id rows) [] ++ vs)
all_of-with_values id how s vs [] = rw (bytes_eq-same id) refl
all_of-with_values id how s vs (r ∷ rows) = go (bytes_eq r.id id) refl (all_of-with_values id how s vs rows)
  where
    go : (b : Bool) → bytes_eq r.id id ≡ b → all_of id (with_values id how s vs rows) ≡ Some (unwrap_or (all_of id rows) [] ++ vs)
        → all_of id (with_values id how s vs (r ∷ rows)) ≡ Some (unwrap_or (all_of id (r ∷ rows)) [] ++ vs)
    go true e ih = rw e (rw e refl)
    go false e ih = rw e (rw e ih)

-- and leave the others as they are
pub all_of-other : (id other : Text) (how : Reading) (s : ValueSource) (vs : List Text) (rows : List Row)
    → bytes_eq id other ≡ false → all_of other (with_values id how s vs rows) ≡ all_of other rows
all_of-other id other how s vs [] differ = rw differ refl
all_of-other id other how s vs (r ∷ rows) differ = go (bytes_eq r.id id) refl (all_of-other id other how s vs rows differ)
  where
    past : (b : Bool) (xs ys : List Row) → all_of other xs ≡ all_of other ys
        → option_map (λ (x : Row). x.values) (cond b (Some r) (find (λ x. bytes_eq x.id other) xs))
        ≡ option_map (λ (x : Row). x.values) (cond b (Some r) (find (λ x. bytes_eq x.id other) ys))
    past true xs ys e = refl
    past false xs ys e = e

    go : (b : Bool) → bytes_eq r.id id ≡ b → all_of other (with_values id how s vs rows) ≡ all_of other rows
        → all_of other (with_values id how s vs (r ∷ rows)) ≡ all_of other (r ∷ rows)
    go true e ih =
        let is : r.id ≡ id = (bytes_eq-Decides r.id id).0 e in
        let miss : bytes_eq r.id other ≡ false = ap (λ x. bytes_eq x other) is ∙ differ in
        rw e (rw miss refl)
    go false e ih = rw e (past (bytes_eq r.id other) (with_values id how s vs rows) rows ih)
