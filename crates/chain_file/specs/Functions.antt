-- Functions.
use Rattle.std.specs.Prelude.{ℕ, ◌-◌, ◌==◌, ◌||◌, not, Bool, false, Option, option_and_then, List, [], ◌∷◌, codes, bytes_eq}
use Rattle.std.specs.List.{list_any}
use Rattle.serde_json.specs.Data.{Data}
use Rattle.serde_json.specs.Find.{get, as_str}
use Rattle.onvm_base.specs.declared.limits.TheConstants.{MAX_COST, MAX_PRIORITY, MAX_WEIGHT}
use Rattle.onvm_base.specs.declared.function.Kind.{Kind}
use Rattle.onvm_base.specs.declared.function.Kind.TheVariants as kind
use Rattle.onvm_base.specs.declared.function.FunctionPlan.{FunctionPlan}
use Rattle.chain_file.specs.declared.fault.Cause.{Cause}
use Rattle.chain_file.specs.declared.fault.Cause.TheVariants.{Twice}
use Rattle.chain_file.specs.declared.judged.Judged.{Judged}
use Rattle.chain_file.specs.declared.kinds.Word.{Word}
use Rattle.chain_file.specs.Causes.{earlier, first_of, unless}
use Rattle.chain_file.specs.Kinds.{kind_in, keys_cause}
use Rattle.chain_file.specs.Values.{number, number_or, name_at}
use Rattle.chain_file.specs.Words.{word_of}

abbrev pub word_in : Data → Option Word
word_in d = option_and_then word_of (option_and_then as_str (get (codes "kind") d))

-- a function, by itself
unfoldable pub function_in : (cores : ℕ) (guests : List (List ℕ)) → Data → Judged FunctionPlan
function_in cores guests d = record {
  cause = first_of (
      keys_cause (word_in d) d
      ∷ (name_at (get (codes "name") d)).cause
      ∷ (number (codes "service") 1 255 d).cause
      ∷ (number (codes "core") 0 (cores - 1) d).cause
      ∷ (kind_in guests (word_in d) d).cause
      ∷ (number_or (codes "priority") 1 MAX_PRIORITY 1 d).cause
      ∷ (number_or (codes "weight") 1 MAX_WEIGHT 1024 d).cause
      ∷ (number_or (codes "cost") 0 MAX_COST 100 d).cause
      ∷ []
      );
  value = record {
    name = (name_at (get (codes "name") d)).value;
    service = (number (codes "service") 1 255 d).value;
    core = (number (codes "core") 0 (cores - 1) d).value;
    kind = (kind_in guests (word_in d) d).value;
    priority = (number_or (codes "priority") 1 MAX_PRIORITY 1 d).value;
    weight = (number_or (codes "weight") 1 MAX_WEIGHT 1024 d).value;
    cost = (number_or (codes "cost") 0 MAX_COST 100 d).value;
  };
}

abbrev pub is_guest : Kind → List ℕ → Bool
is_guest (kind.Guest guest) name = bytes_eq guest name
is_guest k name = false

abbrev pub has_guest_of : Kind → Kind → Bool
has_guest_of (kind.Guest guest) k = is_guest k guest
has_guest_of j k = false

-- one name, one service or one guest
abbrev pub is_like : (f g : FunctionPlan) → Bool
is_like f g = bytes_eq f.name g.name || (f.service == g.service) || has_guest_of f.kind g.kind

abbrev pub is_twice : (before : List FunctionPlan) → FunctionPlan → Bool
is_twice before function = list_any (λ earlier. is_like earlier function) before

-- what is wrong with a function behind these
abbrev pub function_cause : (before : List FunctionPlan) → Judged FunctionPlan → Option Cause
function_cause before function = earlier function.cause (unless (not (is_twice before function.value)) Twice)
