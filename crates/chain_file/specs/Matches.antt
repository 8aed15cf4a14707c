-- Match objects.
use Rattle.std.specs.Prelude.{ℕ, ◌-◌, Bool, true, ℤ, pos, int_le, Option, Some, None, is_some, option_and_then, List, [], ◌∷◌, codes}
use Rattle.serde_json.specs.Data.{Data}
use Rattle.serde_json.specs.Find.{get, as_number, as_u64, as_i64, as_str}
use Rattle.onvm_base.specs.declared.limits.TheConstants.{MAX_PORTS, MAX_VLAN}
use Rattle.onvm_base.specs.declared.rules.Prefix.{Prefix}
use Rattle.onvm_base.specs.declared.rules.Tests.{Tests}
use Rattle.chain_file.specs.declared.fault.Cause.TheVariants.{Shape}
use Rattle.chain_file.specs.declared.judged.Judged.{Judged}
use Rattle.chain_file.specs.Causes.{first_of, unless}
use Rattle.chain_file.specs.Spelling.{prefix_of}
use Rattle.chain_file.specs.Values.{right, wrong, items, number_in, only}

abbrev pub some : {A : Type 0} → Judged A → Judged (Option A)
some judged = record { cause = judged.cause; value = Some judged.value }

-- under a key that needn't be there
abbrev pub can : {A : Type 0} → (Data → Judged A) → Option Data → Judged (Option A)
can judge None = right None
can judge (Some d) = some (judge d)

-- a spelling that has to be right
abbrev pub spelled : {A : Type 0} → Option A → Judged (Option A)
spelled value = record { cause = unless (is_some value) Shape; value = value }

abbrev pub prefix_at : Option Data → Judged (Option Prefix)
prefix_at None = right None
prefix_at (Some d) = spelled (option_and_then prefix_of (as_str d))

-- a whole number of any sign
abbrev pub integer_from : Option ℕ → Option ℤ → Option ℤ
integer_from (Some n) z = Some (pos n)
integer_from None z = z

abbrev pub integer_of : Data → Option ℤ
integer_of d = integer_from (option_and_then as_u64 (as_number d)) (option_and_then as_i64 (as_number d))

-- the first isn't above the second. Of what isn't whole this isn't asked
abbrev pub are_in_order : (low high : Option ℤ) → Bool
are_in_order None high = true
are_in_order (Some low) None = true
are_in_order (Some low) (Some high) = int_le low high

abbrev pub pair_in : (first last : ℕ) → (low high : Data) → Judged (ℕ × ℕ)
pair_in first last low high = record {
  cause = first_of (
      (number_in first last low).cause
      ∷ (number_in first last high).cause
      ∷ unless (are_in_order (integer_of low) (integer_of high)) Shape
      ∷ []
      );
  value = ((number_in first last low).value, (number_in first last high).value);
}

abbrev pub range_from : (first last : ℕ) → List Data → Judged (ℕ × ℕ)
range_from first last (low ∷ high ∷ []) = pair_in first last low high
range_from first last ds = wrong Shape (first, last)

-- a list of two numbers, the first not above the second
abbrev pub range_in : (first last : ℕ) → Data → Judged (ℕ × ℕ)
range_in first last d = range_from first last (items d)

abbrev pub test_keys : List (List ℕ)
test_keys =
    codes "port" ∷ codes "vlan" ∷ codes "type" ∷ codes "src" ∷ codes "dst" ∷ codes "protocol" ∷ codes "src_ports" ∷ codes "dst_ports" ∷ []

abbrev pub test : List ℕ → (last : ℕ) → Data → Judged (Option ℕ)
test key last d = can (number_in 0 last) (get key d)

abbrev pub port_test : List ℕ → Data → Judged (Option (ℕ × ℕ))
port_test key d = can (range_in 0 65535) (get key d)

-- a match object
unfoldable pub tests_in : Data → Judged Tests
tests_in d = record {
  cause = first_of (
      only test_keys [] d
      ∷ (test (codes "port") (MAX_PORTS - 1) d).cause
      ∷ (test (codes "vlan") MAX_VLAN d).cause
      ∷ (test (codes "type") 65535 d).cause
      ∷ (prefix_at (get (codes "src") d)).cause
      ∷ (prefix_at (get (codes "dst") d)).cause
      ∷ (test (codes "protocol") 255 d).cause
      ∷ (port_test (codes "src_ports") d).cause
      ∷ (port_test (codes "dst_ports") d).cause
      ∷ []
      );
  value = record {
    port = (test (codes "port") (MAX_PORTS - 1) d).value;
    vlan = (test (codes "vlan") MAX_VLAN d).value;
    ethertype = (test (codes "type") 65535 d).value;
    src = (prefix_at (get (codes "src") d)).value;
    dst = (prefix_at (get (codes "dst") d)).value;
    protocol = (test (codes "protocol") 255 d).value;
    src_ports = (port_test (codes "src_ports") d).value;
    dst_ports = (port_test (codes "dst_ports") d).value;
  };
}
