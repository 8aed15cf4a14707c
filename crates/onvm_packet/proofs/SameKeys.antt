-- Keys that compare as equal are the same.
use Rattle.std.proofs.Common.{◌≡◌, sym, ap, ℕ, Bool, true, nat_eq, ◌&&◌, Option, Some, None, refl}
use Rattle.std.proofs.lemmas.Bool.{and_parts, eqb-true, true≢false}
use Rattle.std.specs.Option.{option_eq}
use Rattle.onvm_packet.specs.contracts.flow_key.FlowEndsPartialEq.TheImpl as ends_impl
use Rattle.onvm_packet.specs.contracts.flow_key.FlowKeyPartialEq.TheImpl as key_impl
use Rattle.onvm_packet.specs.declared.flow_key.FlowEnds.{FlowEnds}
use Rattle.onvm_packet.specs.declared.flow_key.FlowEnds.TheVariants as ends
use Rattle.onvm_packet.specs.declared.flow_key.FlowKey.{FlowKey}

same_option : {A : Type 0} (E : A → A → Bool) → ((x y : A) → E x y ≡ true → x ≡ y)
    → (a b : Option A) → option_eq E a b ≡ true → a ≡ b
same_option E same None None equal = refl
same_option E same None (Some y) equal = absurd (true≢false (sym equal))
same_option E same (Some x) None equal = absurd (true≢false (sym equal))
same_option {A} E same (Some x) (Some y) equal = ap (λ (z : A). Some z) (same x y equal)

abbrev pair_eq : ℕ × ℕ → ℕ × ℕ → Bool
pair_eq a b = nat_eq a.0 b.0 && nat_eq a.1 b.1

same_pair : (a b : ℕ × ℕ) → pair_eq a b ≡ true → a ≡ b
same_pair a b equal =
    let both = and_parts (nat_eq a.0 b.0) (nat_eq a.1 b.1) equal in
    rw (eqb-true a.0 b.0 both.0, eqb-true a.1 b.1 both.1) refl

-- two addresses and a protocol
same_three : {A : Type 0} (make : ℕ → ℕ → ℕ → A) (a b c x y z : ℕ)
    → (nat_eq a x && (nat_eq b y && nat_eq c z)) ≡ true → make a b c ≡ make x y z
same_three make a b c x y z equal =
    let first = and_parts (nat_eq a x) (nat_eq b y && nat_eq c z) equal in
    let others = and_parts (nat_eq b y) (nat_eq c z) first.1 in
    rw (eqb-true a x first.0, eqb-true b y others.0, eqb-true c z others.1) refl

same_ends : (a b : FlowEnds) → ends_impl.ghosts.eq a b ≡ true → a ≡ b
same_ends ends.None ends.None equal = refl
same_ends ends.None (ends.V4 source target protocol) equal = absurd (true≢false (sym equal))
same_ends ends.None (ends.V6 source target next) equal = absurd (true≢false (sym equal))
same_ends (ends.V4 source target protocol) ends.None equal = absurd (true≢false (sym equal))
same_ends (ends.V4 a b c) (ends.V4 x y z) equal = same_three ends.V4 a b c x y z equal
same_ends (ends.V4 a b c) (ends.V6 x y z) equal = absurd (true≢false (sym equal))
same_ends (ends.V6 source target next) ends.None equal = absurd (true≢false (sym equal))
same_ends (ends.V6 a b c) (ends.V4 x y z) equal = absurd (true≢false (sym equal))
same_ends (ends.V6 a b c) (ends.V6 x y z) equal = same_three ends.V6 a b c x y z equal

pub same_key : (key other : FlowKey) → key_impl.ghosts.eq key other ≡ true → key ≡ other
same_key key other equal =
    let port = and_parts (nat_eq key.port other.port) _ equal in
    let vlan = and_parts (option_eq nat_eq key.vlan other.vlan) _ port.1 in
    let ethertype = and_parts (option_eq nat_eq key.ethertype other.ethertype) _ vlan.1 in
    let ends = and_parts (ends_impl.ghosts.eq key.ends other.ends) (option_eq pair_eq key.ports other.ports) ethertype.1 in
    rw (
      eqb-true key.port other.port port.0,
      same_option nat_eq eqb-true key.vlan other.vlan vlan.0,
      same_option nat_eq eqb-true key.ethertype other.ethertype ethertype.0,
      same_ends key.ends other.ends ends.0,
      same_option pair_eq same_pair key.ports other.ports ends.1,
    ) refl
