-- Rules that can't hold for a frame may be left out.
use Rattle.std.proofs.Common.{◌≡◌, ◌∙◌, sym, ap, ℕ, ◌==◌, Bool, true, ◌&&◌, Option, Some, None, List, [], ◌∷◌, get_or, inl, inr, refl}
use Rattle.std.specs.List.{Contains, filter, slice_get}
use Rattle.std.proofs.lemmas.Bool.{and_parts, cases_Bool, cond-false, cond-true, eqb-true, true≢false}
use Rattle.std.proofs.lemmas.List.{get_or-map}
use Rattle.std.proofs.lemmas.List.Elements.{Contains-append_left, Contains-append_right, Contains-push}
use Rattle.std.proofs.lemmas.Option.{none-some}
use Rattle.onvm_base.specs.declared.ids.PortId.{PortId}
use Rattle.onvm_base.specs.declared.rules.RulePlan.{RulePlan}
use Rattle.onvm_packet.specs.Holding.{holds_if_asked, is_part}
use Rattle.onvm_packet.specs.declared.heads.Heads.{Heads}
use Rattle.rule_match.specs.Parts.{can_be_of_port, can_have_type, ArePartedByPort, ArePartedByType, IsOther, IsPlaceOf}
use Rattle.rule_match.specs.Rules.{first_chain, rule_holds}

pub Contains-first : {A : Type 0} (x : A) (xs : List A) → Contains (x ∷ xs) x
Contains-first x xs = Contains-append_left (x ∷ []) xs x (Contains-push [] x)

pub Contains-later : {A : Type 0} (x : A) (xs : List A) (y : A) → Contains xs y → Contains (x ∷ xs) y
Contains-later x xs y has = Contains-append_right (x ∷ []) xs y has

-- the tests of port and type, of all that hold
module _ (port : PortId) (heads : Heads) (rule : RulePlan) (holds : rule_holds port heads rule ≡ true) where
  through_type : (holds_if_asked rule.tests.port (λ wanted. port.0 == wanted)
      && holds_if_asked rule.tests.vlan (is_part heads.vlan) && can_have_type heads.ethertype rule) ≡ true
  through_type =
      (and_parts _ _ (and_parts _ _ (and_parts _ _ (and_parts _ _ (and_parts _ _ holds).0).0).0).0).0

  holds_of_type : can_have_type heads.ethertype rule ≡ true
  holds_of_type = (and_parts _ _ through_type).1

  holds_of_port : can_be_of_port port.0 rule ≡ true
  holds_of_port = (and_parts _ _ (and_parts _ _ through_type).0).0

module _ (keep : RulePlan → Bool) (port : PortId) (heads : Heads) where
  first_chain-filter : (rules : List RulePlan)
      → ((rule : RulePlan) → Contains rules rule → rule_holds port heads rule ≡ true → keep rule ≡ true)
      → first_chain (filter keep rules) port heads ≡ first_chain rules port heads
  first_chain-filter [] kept = refl
  first_chain-filter (rule ∷ rules) kept =
      let rest = first_chain-filter rules (λ other has. kept other (Contains-later rule rules other has)) in
      let picked = λ (list : List RulePlan). first_chain list port heads in
      elim (cases_Bool (rule_holds port heads rule)) [
        | inl holds ↦
            ap picked (cond-true _ _ _ (kept rule (Contains-first rule rules) holds))
            ∙ cond-true _ _ _ holds ∙ sym (cond-true _ _ _ holds)
        | inr fails ↦ elim (cases_Bool (keep rule)) [
          | inl is_kept ↦
              ap picked (cond-true _ _ _ is_kept) ∙ cond-false _ _ _ fails ∙ rest ∙ sym (cond-false _ _ _ fails)
          | inr is_left ↦ ap picked (cond-false _ _ _ is_left) ∙ rest ∙ sym (cond-false _ _ _ fails)
        ]
      ]

-- a frame that a port received
pub first_chain-of_port : (rules : List RulePlan) (lists : List (List RulePlan)) (port : PortId) (heads : Heads) (list : List RulePlan)
    → ArePartedByPort rules lists → slice_get lists port.0 ≡ Some list
    → first_chain list port heads ≡ first_chain rules port heads
first_chain-of_port rules lists port heads list parted there =
    ap (λ (l : List RulePlan). first_chain l port heads) (parted port.0 list there)
    ∙ first_chain-filter (can_be_of_port port.0) port heads rules
    (λ rule has holds. holds_of_port port heads rule holds)

-- what a rule asks for that can hold for this type, or none
asks_this : (ethertype asked : Option ℕ) (wanted : ℕ) → asked ≡ Some wanted
    → holds_if_asked asked (is_part ethertype) ≡ true → ethertype ≡ Some wanted
asks_this ethertype None wanted is holds = absurd (none-some wanted is)
asks_this None (Some asked) wanted is holds = absurd (true≢false (sym holds))
asks_this (Some own) (Some asked) wanted is holds =
    ap (λ (n : ℕ). Some n) (eqb-true own asked holds) ∙ is

module _ (rules : List RulePlan) (types : List ℕ) (lists : List (List RulePlan)) (others : List RulePlan)
    (parted : ArePartedByType rules types lists others) (port : PortId) (heads : Heads) where
  -- a frame of a type that a rule asks for
  pub first_chain-of_type : (at : ℕ) (list : List RulePlan) → IsPlaceOf types heads.ethertype at
      → list ≡ get_or lists at list → first_chain list port heads ≡ first_chain rules port heads
  first_chain-of_type at list place is =
      let same : list ≡ filter (can_have_type heads.ethertype) rules =
      is ∙ ap (λ (l : List (List RulePlan)). get_or l at list) parted.lists_are
      ∙ get_or-map (λ ethertype. filter (can_have_type (Some ethertype)) rules) types at 0 list place.within
      ∙ ap (λ (o : Option ℕ). filter (can_have_type o) rules) (sym place.same) in
      ap (λ (l : List RulePlan). first_chain l port heads) same
      ∙ first_chain-filter (can_have_type heads.ethertype) port heads rules
      (λ rule has holds. holds_of_type port heads rule holds)

  asks_for_none : IsOther types heads.ethertype → (rule : RulePlan) → Contains rules rule → (asked : Option ℕ)
      → rule.tests.ethertype ≡ asked → can_have_type heads.ethertype rule ≡ true → can_have_type None rule ≡ true
  asks_for_none other rule has None is holds =
      ap (λ (o : Option ℕ). holds_if_asked o (is_part None)) is
  asks_for_none other rule has (Some wanted) is holds =
      absurd (other wanted (parted.types_are.asked rule wanted has is)
      (asks_this heads.ethertype rule.tests.ethertype wanted is holds))

  -- a frame of another type, or of none
  pub first_chain-of_others : IsOther types heads.ethertype
      → first_chain others port heads ≡ first_chain rules port heads
  first_chain-of_others other =
      ap (λ (l : List RulePlan). first_chain l port heads) parted.others_are
      ∙ first_chain-filter (can_have_type None) port heads rules
      (λ rule has holds. asks_for_none other rule has rule.tests.ethertype refl (holds_of_type port heads rule holds))
