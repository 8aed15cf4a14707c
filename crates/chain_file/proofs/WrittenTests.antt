-- Written tests and steps are read back.
use Rattle.std.proofs.Common.{◌≡◌, ℕ, suc, ◌-◌, ◌^◌, ◌<◌, ◌≤◌, true, List, [], codes, Option, Some, None, option_map, IfSome, int_le, pos, refl, ap, ◌∙◌, arith}
use Rattle.serde_json.specs.Data.{Data, no_members}
use Rattle.serde_json.specs.Find.{get}
use Rattle.onvm_base.specs.declared.limits.TheConstants.{MAX_PORTS, MAX_VLAN}
use Rattle.onvm_base.specs.declared.rules.Prefix.{Prefix}
use Rattle.onvm_base.specs.declared.rules.Tests.{Tests}
use Rattle.onvm_base.specs.Plan.{AreTests, IsPrefix}
use Rattle.chain_file.specs.Matches.{tests_in, test, test_keys, port_test, prefix_at, range_in, can, some as there}
use Rattle.chain_file.specs.Values.{right, number_in, only}
use Rattle.chain_file.specs.Widths.{TestsFit, PrefixFits}
use Rattle.chain_file.specs.Written.{natural, range, prefix, tests, test_rows}
use Rattle.chain_file.proofs.Compact.{sorted, IsPlain}
use Rattle.chain_file.proofs.Rows.{get_of, only_right, number_in_right, row_plain}
use Rattle.chain_file.proofs.Spelled.{prefix_of-prefix_text, prefix_spelled}

-- ---- ranges

pub range_in_right : (first last : ℕ) (pair : ℕ × ℕ) → first ≤ pair.0 → pair.0 ≤ pair.1 → pair.1 ≤ last
    → range_in first last (range pair) ≡ right pair
range_in_right first last pair low order high =
    let one = number_in_right first last pair.0 (low, omega arith) in
    let two = number_in_right first last pair.1 (omega arith, high) in
    let in_order : int_le (pos pair.0) (pos pair.1) ≡ true = grind arith in
    rw (one, two, in_order) refl

-- ---- one test each

test_right : (key : List ℕ) (last : ℕ) (d : Data) (o : Option ℕ) → get key d ≡ option_map sorted (option_map natural o) → IfSome o (λ n. n ≤ last)
    → test key last d ≡ right o
test_right key last d None e h = ap (can (number_in 0 last)) e
test_right key last d (Some n) e h = ap (can (number_in 0 last)) e ∙ rw (number_in_right 0 last n (omega arith, h)) refl

prefix_right : (d : Option Data) (o : Option Prefix) → d ≡ option_map sorted (option_map prefix o) → IfSome o IsPrefix → IfSome o PrefixFits
    → prefix_at d ≡ right o
prefix_right d None e h fits = ap prefix_at e
prefix_right d (Some p) e h fits = ap prefix_at e ∙ rw (prefix_of-prefix_text p h fits) refl

IsRange : ℕ → ℕ × ℕ → Type 0
IsRange last pair = (pair.0 ≤ pair.1) × (pair.1 ≤ last)

ports_right : (key : List ℕ) (d : Data) (o : Option (ℕ × ℕ)) → get key d ≡ option_map sorted (option_map range o)
    → IfSome o (λ pair. pair.0 ≤ pair.1) → IfSome o (λ pair. pair.1 < 2 ^ 16) → port_test key d ≡ right o
ports_right key d None e h fits = ap (can (range_in 0 65535)) e
ports_right key d (Some pair) e h fits = ap (can (range_in 0 65535)) e ∙ ap there (range_in_right 0 65535 pair (omega arith) h (omega arith))

-- ---- all tests

tests_from : (d : Data) (t : Tests) → only test_keys [] d ≡ None → test (codes "port") (MAX_PORTS - 1) d ≡ right t.port
    → test (codes "vlan") MAX_VLAN d ≡ right t.vlan → test (codes "type") 65535 d ≡ right t.ethertype
    → prefix_at (get (codes "src") d) ≡ right t.src → prefix_at (get (codes "dst") d) ≡ right t.dst
    → test (codes "protocol") 255 d ≡ right t.protocol → port_test (codes "src_ports") d ≡ right t.src_ports
    → port_test (codes "dst_ports") d ≡ right t.dst_ports → tests_in d ≡ right t
unfolding tests_in
tests_from d t keys port vlan ethertype src dst protocol src_ports dst_ports =
    rw (keys, port, vlan, ethertype, src, dst, protocol, src_ports, dst_ports) refl

if_some : {A : Type 0} (P : A → Type 0) (o : Option A) → ((x : A) → o ≡ Some x → P x) → IfSome o P
if_some P None h = tt
if_some P (Some x) h = h x refl

pub tests_back : (t : Tests) → AreTests t → TestsFit t → tests_in (sorted (tests t)) ≡ right t
tests_back t h fits =
    let d = sorted (tests t) in
    let rows = test_rows t in
    tests_from d t
    (only_right test_keys [] rows refl)
    (test_right (codes "port") (MAX_PORTS - 1) d t.port (get_of (codes "port") rows refl) (if_some (λ n. n ≤ MAX_PORTS - 1) t.port (λ n is. omega (arith, h.port n is))))
    (test_right (codes "vlan") MAX_VLAN d t.vlan (get_of (codes "vlan") rows refl) (if_some (λ n. n ≤ MAX_VLAN) t.vlan h.vlan))
    (test_right (codes "type") 65535 d t.ethertype (get_of (codes "type") rows refl) (below t.ethertype 65535 (2 ^ 16) (omega arith) fits.ethertype))
    (prefix_right (get (codes "src") d) t.src (get_of (codes "src") rows refl) (if_some IsPrefix t.src h.source) fits.source)
    (prefix_right (get (codes "dst") d) t.dst (get_of (codes "dst") rows refl) (if_some IsPrefix t.dst h.target) fits.target)
    (test_right (codes "protocol") 255 d t.protocol (get_of (codes "protocol") rows refl) (below t.protocol 255 (2 ^ 8) (omega arith) fits.protocol))
    (ports_right (codes "src_ports") d t.src_ports (get_of (codes "src_ports") rows refl) (if_some (λ pair. pair.0 ≤ pair.1) t.src_ports h.source_ports) fits.source_ports)
    (ports_right (codes "dst_ports") d t.dst_ports (get_of (codes "dst_ports") rows refl) (if_some (λ pair. pair.0 ≤ pair.1) t.dst_ports h.target_ports) fits.target_ports)
  where
    below : (o : Option ℕ) (last bound : ℕ) → bound ≤ suc last → IfSome o (λ n. n < bound) → IfSome o (λ n. n ≤ last)
    below None last bound e h = tt
    below (Some n) last bound e h = omega arith

-- ---- what is written

pub natural_plain : (levels n : ℕ) → n < 2 ^ 64 → IsPlain levels (natural n)
natural_plain levels n h = h

pub prefix_plain : (levels : ℕ) (p : Prefix) → IsPrefix p → PrefixFits p → IsPlain levels (prefix p)
prefix_plain levels p h fits = (prefix_spelled p h fits).letters

pub range_plain : (levels : ℕ) (pair : ℕ × ℕ) → pair.0 < 2 ^ 64 → pair.1 < 2 ^ 64 → IsPlain (suc levels) (range pair)
range_plain levels pair a b = (a, (b, tt))

number_row : (levels : ℕ) (o : Option ℕ) → IfSome o (λ n. n < 2 ^ 64) → IfSome (option_map natural o) (IsPlain (suc levels))
number_row levels None h = tt
number_row levels (Some n) h = h

prefix_row : (levels : ℕ) (o : Option Prefix) → IfSome o IsPrefix → IfSome o PrefixFits → IfSome (option_map prefix o) (IsPlain (suc levels))
prefix_row levels None h fits = tt
prefix_row levels (Some p) h fits = prefix_plain (suc levels) p h fits

range_row : (levels : ℕ) (o : Option (ℕ × ℕ)) → IfSome o (λ pair. pair.0 ≤ pair.1) → IfSome o (λ pair. pair.1 < 2 ^ 16) → IfSome (option_map range o) (IsPlain (suc levels))
range_row levels None h fits = tt
range_row levels (Some pair) h fits = range_plain levels pair (omega arith) (omega arith)

wide : (o : Option ℕ) (bound : ℕ) → bound ≤ 2 ^ 64 → IfSome o (λ n. n < bound) → IfSome o (λ n. n < 2 ^ 64)
wide None bound e h = tt
wide (Some n) bound e h = omega arith

pub tests_plain : (levels : ℕ) (t : Tests) → AreTests t → TestsFit t → IsPlain (suc (suc levels)) (tests t)
tests_plain levels t h fits =
    row_plain (suc levels) (codes "port") (option_map natural t.port) _ refl (number_row levels t.port (if_some (λ n. n < 2 ^ 64) t.port (λ n is. omega (arith, h.port n is))))
    (row_plain (suc levels) (codes "vlan") (option_map natural t.vlan) _ refl (number_row levels t.vlan (if_some (λ n. n < 2 ^ 64) t.vlan (λ n is. omega (arith, h.vlan n is))))
    (row_plain (suc levels) (codes "type") (option_map natural t.ethertype) _ refl (number_row levels t.ethertype (wide t.ethertype (2 ^ 16) (omega arith) fits.ethertype))
    (row_plain (suc levels) (codes "src") (option_map prefix t.src) _ refl (prefix_row levels t.src (if_some IsPrefix t.src h.source) fits.source)
    (row_plain (suc levels) (codes "dst") (option_map prefix t.dst) _ refl (prefix_row levels t.dst (if_some IsPrefix t.dst h.target) fits.target)
    (row_plain (suc levels) (codes "protocol") (option_map natural t.protocol) _ refl (number_row levels t.protocol (wide t.protocol (2 ^ 8) (omega arith) fits.protocol))
    (row_plain (suc levels) (codes "src_ports") (option_map range t.src_ports) _ refl (range_row levels t.src_ports (if_some (λ pair. pair.0 ≤ pair.1) t.src_ports h.source_ports) fits.source_ports)
    (row_plain (suc levels) (codes "dst_ports") (option_map range t.dst_ports) no_members refl (range_row levels t.dst_ports (if_some (λ pair. pair.0 ≤ pair.1) t.dst_ports h.target_ports) fits.target_ports)
    tt)))))))
