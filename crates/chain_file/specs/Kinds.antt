-- The kind of a function, with its own keys.
use Rattle.std.specs.Prelude.{ℕ, Option, Some, None, option_and_then, List, [], ◌∷◌, codes, bytes_eq}
use Rattle.std.specs.List.{list_any}
use Rattle.serde_json.specs.Data.{Data}
use Rattle.serde_json.specs.Find.{get, as_str}
use Rattle.onvm_base.specs.declared.limits.TheConstants.{MAX_DEPTH, MAX_RATE, MAX_ROUTES, MAX_SERVICES, MAX_TAG_PRIORITY, MAX_TESTS, MAX_VLAN}
use Rattle.onvm_base.specs.declared.rules.Prefix.{Prefix}
use Rattle.onvm_base.specs.declared.rules.Prefix.TheVariants.{V4}
use Rattle.onvm_base.specs.declared.chain.ChainStep.{ChainStep}
use Rattle.onvm_base.specs.declared.chain.ChainStep.TheVariants as step
use Rattle.onvm_base.specs.declared.function.RouteEntry.{RouteEntry}
use Rattle.onvm_base.specs.declared.function.Kind.{Kind}
use Rattle.onvm_base.specs.declared.function.Kind.TheVariants as kind
use Rattle.chain_file.specs.declared.fault.Cause.{Cause}
use Rattle.chain_file.specs.declared.fault.Cause.TheVariants.{Shape, Unknown}
use Rattle.chain_file.specs.declared.judged.Judged.{Judged}
use Rattle.chain_file.specs.declared.kinds.Word.{Word}
use Rattle.chain_file.specs.declared.kinds.Word.TheVariants as word
use Rattle.chain_file.specs.Causes.{earlier, first_of, unless}
use Rattle.chain_file.specs.Matches.{tests_in, range_in}
use Rattle.chain_file.specs.Spelling.{short_prefix_of, v4_of, mac_of}
use Rattle.chain_file.specs.Words.{function_keys, own_keys}
use Rattle.chain_file.specs.Values.{right, wrong, must, number, number_in, of_one, of_two, list_of, name_at, only}

-- a spelling that has to be right
abbrev pub spelled_or : {A : Type 0} → A → Option A → Judged A
spelled_or none None = wrong Shape none
spelled_or none (Some value) = right value

abbrev pub nowhere : Prefix
nowhere = V4 0 0

abbrev pub short_prefix_at : List ℕ → Data → Judged Prefix
short_prefix_at key d = spelled_or nowhere (option_and_then short_prefix_of (option_and_then as_str (get key d)))

abbrev pub address_at : List ℕ → Data → Judged ℕ
address_at key d = spelled_or 0 (option_and_then v4_of (option_and_then as_str (get key d)))

abbrev pub mac_at : List ℕ → Data → Judged (List ℕ)
mac_at key d = spelled_or (0 ∷ 0 ∷ 0 ∷ 0 ∷ 0 ∷ 0 ∷ []) (option_and_then mac_of (option_and_then as_str (get key d)))

-- either a number to go to, or one to leave by
abbrev pub either : (to out : Data → Judged ChainStep) → (t o : Option Data) → Judged ChainStep
either to out (Some d) None = to d
either to out None (Some d) = out d
either to out None None = wrong Shape (step.To 0)
either to out (Some d) (Some e) = wrong Shape (step.To 0)

abbrev pub entry_to : Data → Judged ChainStep
entry_to d = of_one (λ n. step.To n) (number_in 0 255 d)

abbrev pub entry_out : Data → Judged ChainStep
entry_out d = of_one (λ n. step.Out n) (number_in 0 255 d)

abbrev pub entry_target : Data → Judged ChainStep
entry_target d = either entry_to entry_out (get (codes "to") d) (get (codes "out") d)

-- an entry of a route
unfoldable pub entry_in : Data → Judged RouteEntry
entry_in d = record {
  cause = first_of (
      only (codes "prefix" ∷ codes "to" ∷ codes "out" ∷ []) [] d
      ∷ (short_prefix_at (codes "prefix") d).cause
      ∷ (entry_target d).cause
      ∷ []
      );
  value = record { prefix = (short_prefix_at (codes "prefix") d).value; target = (entry_target d).value };
}

abbrev pub out_in : Data → Judged Kind
out_in d = of_one (λ n. kind.Out n) (number (codes "port") 0 255 d)

abbrev pub to_in : Data → Judged Kind
to_in d = of_one (λ n. kind.To n) (number (codes "to_service") 0 255 d)

abbrev pub filter_in : Data → Judged Kind
filter_in d = of_one (λ tests. kind.Filter tests) (list_of tests_in 1 MAX_TESTS (codes "match") d)

abbrev pub tag_in : Data → Judged Kind
tag_in d = of_two (λ vlan priority. kind.Tag vlan priority) (number (codes "vlan") 0 MAX_VLAN d) (number (codes "tag_priority") 0 MAX_TAG_PRIORITY d)

abbrev pub macs_in : Data → Judged Kind
macs_in d = of_two (λ target source. kind.Macs target source) (mac_at (codes "target") d) (mac_at (codes "source") d)

abbrev pub route_in : Data → Judged Kind
route_in d = of_one (λ table. kind.Route table) (list_of entry_in 1 MAX_ROUTES (codes "table") d)

abbrev pub balance_in : Data → Judged Kind
balance_in d = of_one (λ services. kind.Balance services) (list_of (number_in 0 255) 1 MAX_SERVICES (codes "services") d)

abbrev pub police_in : Data → Judged Kind
police_in d = of_two (λ rate depth. kind.Police rate depth) (number (codes "rate") 1 MAX_RATE d) (number (codes "depth") 1 MAX_DEPTH d)

abbrev pub nat_in : Data → Judged Kind
nat_in d = record {
  cause = first_of (
      (short_prefix_at (codes "inside") d).cause
      ∷ (address_at (codes "outside") d).cause
      ∷ (must (range_in 1 65535) (1, 65535) (get (codes "ports") d)).cause
      ∷ []
      );
  value = kind.Nat (short_prefix_at (codes "inside") d).value (address_at (codes "outside") d).value
      (must (range_in 1 65535) (1, 65535) (get (codes "ports") d)).value;
}

abbrev pub guest_from : (guests : List (List ℕ)) → Judged (List ℕ) → Judged Kind
guest_from guests name = record {
  cause = earlier name.cause (unless (list_any (bytes_eq name.value) guests) Unknown);
  value = kind.Guest name.value;
}

-- no word of a kind
abbrev pub no_word : Option (List ℕ) → Cause
no_word None = Shape
no_word (Some text) = Unknown

abbrev pub guest_in : (guests : List (List ℕ)) → Data → Judged Kind
guest_in guests d = guest_from guests (name_at (get (codes "guest") d))

abbrev pub no_kind : Data → Judged Kind
no_kind d = wrong (no_word (option_and_then as_str (get (codes "kind") d))) kind.Forward

-- a function has no keys but those of every function and those of its kind
abbrev pub keys_cause : Option Word → Data → Option Cause
keys_cause word d = only function_keys (own_keys word) d

-- the kind of a word
abbrev pub kind_in : (guests : List (List ℕ)) → Option Word → Data → Judged Kind
kind_in guests None d = no_kind d
kind_in guests (Some word.Forward) d = right kind.Forward
kind_in guests (Some word.Drop) d = right kind.Drop
kind_in guests (Some word.Out) d = out_in d
kind_in guests (Some word.To) d = to_in d
kind_in guests (Some word.Filter) d = filter_in d
kind_in guests (Some word.Ttl) d = right kind.Ttl
kind_in guests (Some word.Tag) d = tag_in d
kind_in guests (Some word.Untag) d = right kind.Untag
kind_in guests (Some word.Macs) d = macs_in d
kind_in guests (Some word.Route) d = route_in d
kind_in guests (Some word.Balance) d = balance_in d
kind_in guests (Some word.Count) d = right kind.Count
kind_in guests (Some word.Police) d = police_in d
kind_in guests (Some word.Nat) d = nat_in d
kind_in guests (Some word.Guest) d = guest_in guests d
