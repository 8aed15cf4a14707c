-- The compact text of a tree is read as that tree, with its members in the order of their keys.
use Rattle.std.proofs.Common.{◌≡◌, ℕ, zero, suc, ◌^◌, ◌<◌, ◌≤◌, Bool, true, false, nat_lt, List, [], ◌∷◌, ◌++◌, Some, option_map, option_and_then, IsUtf8, decimal, refl, sym, ap, ◌∙◌, arith, append-nil}
use Rattle.std.specs.Prelude.{⊤}
use Rattle.std.specs.List.{list_all}
use Rattle.std.proofs.lemmas.Str.{IsUtf8-append, IsUtf8-nil, IsUtf8-from_ascii}
use Rattle.std.proofs.lemmas.Fmt.{IsAscii-decimal}
use Rattle.json.specs.Json as json
use Rattle.json.specs.Lex.{tokens}
use Rattle.json.specs.Print.{quoted}
use Rattle.json.specs.Tree as tree
use Rattle.json.proofs.Printed.Decimals.{IsNumber-decimal}
use Rattle.json.proofs.Printed.Tokens.{tokens-print}
use Rattle.json.proofs.Printed.Trees.{value-json_tokens, ArePrintable-json_tokens}
use Rattle.json.proofs.Printed.Utf8.{IsUtf8-are_ascii, are_ascii, IsUtf8-quoted}
use Rattle.serde_json.specs.Data.{Num, unsigned, negative, float, Data, null, boolean, number, string, array, object, Items, no_items, item, Members, no_members, member, put}
use Rattle.serde_json.specs.Read.{of_json, of_items, of_members, max_depth}
use Rattle.serde_json.specs.Written.{outline, items_outline, members_outline, compact_text, items_text, members_text, comma_if}
use Rattle.serde_json.proofs.Numbers.{number_of-decimal}
use Rattle.serde_json.proofs.Texts.{print-outline}
use Rattle.chain_file.specs.File.{IsTree}
use Rattle.chain_file.proofs.KeptNames.{both_true}
use Rattle.chain_file.proofs.Spelled.{is_letter}

-- the tree as it is read
abbrev mutual
  pub sorted : Data → Data
  sorted null = null
  sorted (boolean b) = boolean b
  sorted (number n) = number n
  sorted (string s) = string s
  sorted (array ds) = array (sorted_items ds)
  sorted (object ms) = object (sorted_members ms no_members)

  pub sorted_items : Items → Items
  sorted_items no_items = no_items
  sorted_items (item d ds) = item (sorted d) (sorted_items ds)

  -- these members, put among those before them
  pub sorted_members : Members → Members → Members
  sorted_members no_members found = found
  sorted_members (member k d ms) found = sorted_members ms (put k (sorted d) found)

-- ---- trees that are written: of whole numbers, texts of letters, lists and objects, to so many levels

abbrev pub IsText : List ℕ → Type 0
IsText s = list_all is_letter s ≡ true

abbrev pub IsWhole : Num → Type 0
IsWhole (unsigned n) = n < 2 ^ 64
IsWhole (negative z) = ⊥
IsWhole (float x) = ⊥

abbrev mutual
  pub IsPlain : ℕ → Data → Type 0
  IsPlain levels null = ⊥
  IsPlain levels (boolean b) = ⊥
  IsPlain levels (number n) = IsWhole n
  IsPlain levels (string s) = IsText s
  IsPlain zero (array ds) = ⊥
  IsPlain (suc levels) (array ds) = ItemsArePlain levels ds
  IsPlain zero (object ms) = ⊥
  IsPlain (suc levels) (object ms) = MembersArePlain levels ms

  pub ItemsArePlain : ℕ → Items → Type 0
  ItemsArePlain levels no_items = ⊤
  ItemsArePlain levels (item d ds) = IsPlain levels d × ItemsArePlain levels ds

  pub MembersArePlain : ℕ → Members → Type 0
  MembersArePlain levels no_members = ⊤
  MembersArePlain levels (member k d ms) = IsText k × IsPlain levels d × MembersArePlain levels ms

-- ---- the tree

mutual
  reads : (levels : ℕ) (d : Data) → IsPlain levels d → of_json (outline d) ≡ Some (sorted d)
  reads levels null h = absurd h
  reads levels (boolean b) h = absurd h
  reads levels (number (unsigned n)) h = ap (option_map number) (number_of-decimal n h)
  reads levels (number (negative z)) h = absurd h
  reads levels (number (float x)) h = absurd h
  reads levels (string s) h = refl
  reads zero (array ds) h = absurd h
  reads (suc levels) (array ds) h = ap (option_map array) (reads_items levels ds h)
  reads zero (object ms) h = absurd h
  reads (suc levels) (object ms) h = ap (option_map object) (reads_members levels ms no_members h)

  reads_items : (levels : ℕ) (ds : Items) → ItemsArePlain levels ds → of_items (items_outline ds) ≡ Some (sorted_items ds)
  reads_items levels no_items h = refl
  reads_items levels (item d ds) h =
      ap (option_and_then (λ e. option_map (item e) (of_items (items_outline ds)))) (reads levels d h.0)
      ∙ ap (option_map (item (sorted d))) (reads_items levels ds h.1)

  reads_members : (levels : ℕ) (ms found : Members) → MembersArePlain levels ms → of_members (members_outline ms) found ≡ Some (sorted_members ms found)
  reads_members levels no_members found h = refl
  reads_members levels (member k d ms) found h =
      ap (option_and_then (λ e. of_members (members_outline ms) (put k e found))) (reads levels d h.1)
      ∙ reads_members levels ms (put k (sorted d) found) h.2

mutual
  numbers : (levels : ℕ) (d : Data) → IsPlain levels d → tree.HasNumbers (outline d)
  numbers levels null h = absurd h
  numbers levels (boolean b) h = absurd h
  numbers levels (number (unsigned n)) h = IsNumber-decimal n h
  numbers levels (number (negative z)) h = absurd h
  numbers levels (number (float x)) h = absurd h
  numbers levels (string s) h = tt
  numbers zero (array ds) h = absurd h
  numbers (suc levels) (array ds) h = numbers_items levels ds h
  numbers zero (object ms) h = absurd h
  numbers (suc levels) (object ms) h = numbers_members levels ms h

  numbers_items : (levels : ℕ) (ds : Items) → ItemsArePlain levels ds → tree.ItemsHaveNumbers (items_outline ds)
  numbers_items levels no_items h = tt
  numbers_items levels (item d ds) h = (numbers levels d h.0, numbers_items levels ds h.1)

  numbers_members : (levels : ℕ) (ms : Members) → MembersArePlain levels ms → tree.MembersHaveNumbers (members_outline ms)
  numbers_members levels no_members h = tt
  numbers_members levels (member k d ms) h = (numbers levels d h.1, numbers_members levels ms h.2)

mutual
  shallow : (levels : ℕ) (d : Data) → IsPlain levels d → tree.depth (outline d) ≤ levels
  shallow levels null h = absurd h
  shallow levels (boolean b) h = absurd h
  shallow levels (number n) h = omega arith
  shallow levels (string s) h = omega arith
  shallow zero (array ds) h = absurd h
  shallow (suc levels) (array ds) h = omega (arith, shallow_items levels ds h)
  shallow zero (object ms) h = absurd h
  shallow (suc levels) (object ms) h = omega (arith, shallow_members levels ms h)

  shallow_items : (levels : ℕ) (ds : Items) → ItemsArePlain levels ds → tree.items_depth (items_outline ds) ≤ levels
  shallow_items levels no_items h = omega arith
  shallow_items levels (item d ds) h = omega (arith, shallow levels d h.0, shallow_items levels ds h.1)

  shallow_members : (levels : ℕ) (ms : Members) → MembersArePlain levels ms → tree.members_depth (members_outline ms) ≤ levels
  shallow_members levels no_members h = omega arith
  shallow_members levels (member k d ms) h = omega (arith, shallow levels d h.1, shallow_members levels ms h.2)

-- ---- the bytes

letter_small : (c : ℕ) → is_letter c ≡ true → nat_lt c 128 ≡ true
letter_small c e = grind arith

text_ascii : (s : List ℕ) → IsText s → are_ascii s ≡ true
text_ascii [] e = refl
text_ascii (c ∷ cs) e =
    let two = both_true (is_letter c) (list_all is_letter cs) e in
    rw (letter_small c two.0) (text_ascii cs two.1)

quoted_utf8 : (s : List ℕ) → IsText s → IsUtf8 (quoted s)
quoted_utf8 s e = IsUtf8-quoted s (IsUtf8-are_ascii s (text_ascii s e))

mark_then : (mark : ℕ) (rest : List ℕ) → are_ascii (mark ∷ []) ≡ true → IsUtf8 rest → IsUtf8 (mark ∷ rest)
mark_then mark rest e h = IsUtf8-append (mark ∷ []) rest (IsUtf8-are_ascii (mark ∷ []) e) h

comma_utf8 : (later : Bool) → IsUtf8 (comma_if later)
comma_utf8 true = IsUtf8-are_ascii (44 ∷ []) refl
comma_utf8 false = IsUtf8-nil

mutual
  utf8 : (levels : ℕ) (d : Data) → IsPlain levels d → IsUtf8 (compact_text d)
  utf8 levels null h = absurd h
  utf8 levels (boolean b) h = absurd h
  utf8 levels (number (unsigned n)) h = IsUtf8-from_ascii (decimal n) (IsAscii-decimal n h)
  utf8 levels (number (negative z)) h = absurd h
  utf8 levels (number (float x)) h = absurd h
  utf8 levels (string s) h = quoted_utf8 s h
  utf8 zero (array ds) h = absurd h
  utf8 (suc levels) (array ds) h = mark_then 91 (items_text false ds) refl (utf8_items levels false ds h)
  utf8 zero (object ms) h = absurd h
  utf8 (suc levels) (object ms) h = mark_then 123 (members_text false ms) refl (utf8_members levels false ms h)

  utf8_items : (levels : ℕ) (later : Bool) (ds : Items) → ItemsArePlain levels ds → IsUtf8 (items_text later ds)
  utf8_items levels later no_items h = IsUtf8-are_ascii (93 ∷ []) refl
  utf8_items levels later (item d ds) h =
      IsUtf8-append (comma_if later) (compact_text d ++ items_text true ds) (comma_utf8 later)
      (IsUtf8-append (compact_text d) (items_text true ds) (utf8 levels d h.0) (utf8_items levels true ds h.1))

  utf8_members : (levels : ℕ) (later : Bool) (ms : Members) → MembersArePlain levels ms → IsUtf8 (members_text later ms)
  utf8_members levels later no_members h = IsUtf8-are_ascii (125 ∷ []) refl
  utf8_members levels later (member k d ms) h =
      IsUtf8-append (comma_if later) (quoted k ++ 58 ∷ (compact_text d ++ members_text true ms)) (comma_utf8 later)
      (IsUtf8-append (quoted k) (58 ∷ (compact_text d ++ members_text true ms)) (quoted_utf8 k h.0)
      (mark_then 58 (compact_text d ++ members_text true ms) refl
      (IsUtf8-append (compact_text d) (members_text true ms) (utf8 levels d h.1) (utf8_members levels true ms h.2))))

-- ---- the text is read as the tree

pub text_is_tree : (levels : ℕ) (d : Data) → levels ≤ max_depth → IsPlain levels d → IsTree (compact_text d) (sorted d)
text_is_tree levels d low h =
    let ts = tree.json_tokens (outline d) in
    let same : tokens (compact_text d) ≡ ts =
    ap tokens (sym (print-outline d)) ∙ tokens-print ts (ArePrintable-json_tokens (outline d) (numbers levels d h)) in
    let whole : json.value max_depth ts ≡ Some (outline d, []) =
    ap (json.value max_depth) (sym (append-nil ts)) ∙ value-json_tokens (outline d) max_depth [] (omega (arith, shallow levels d h)) in (
      utf8 levels d h,
      ap (λ ts. option_and_then of_json (option_and_then (λ p. json.if_last p.0 p.1) (json.value max_depth ts))) same
          ∙ ap (λ v. option_and_then of_json (option_and_then (λ p. json.if_last p.0 p.1) v)) whole
          ∙ reads levels d h,
    )
