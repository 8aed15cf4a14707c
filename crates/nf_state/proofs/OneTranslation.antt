-- A packet is translated in one way.
use Rattle.std.proofs.Common.{◌≡◌, ◌∙◌, sym, ap, subst, refl, ℕ, ◌==◌, if◌then◌else◌, Bool, true, false, Option, Some, None, List, [], ◌∷◌, ◌++◌, inl, inr, arith}
use Rattle.std.specs.Bool.{MatchBool}
use Rattle.std.proofs.lemmas.Bool.{cases_lt}
use Rattle.onvm_base.specs.declared.outcome.Verdict.{Verdict}
use Rattle.onvm_packet.specs.Holding.{covers_ipv4}
use Rattle.nf_state.specs.Mappings.{AreFair, Assigns, IsLowestFree, Mapping, mapping}
use Rattle.nf_state.specs.Rewriting.{with_target}
use Rattle.nf_state.specs.Segments.{is_whole, segment_of}
use Rattle.nf_state.specs.Translating.{ComesIn, Enters, GoesOut, Held, IsFair, Leaves, Parameters, Stays, Translates, TranslatesSegment, TranslatesWhole, of_protocol, sender, with_protocol}
use Rattle.nf_state.specs.declared.mappings.Endpoint.{Endpoint}
use Rattle.nf_state.specs.declared.segment.Segment.{Segment}

lowest_once : (ports : ℕ × ℕ) (mappings : List Mapping) (m n : ℕ) → IsLowestFree ports mappings m
    → IsLowestFree ports mappings n → m ≡ n
lowest_once ports mappings m n first second =
    elim (cases_lt m n) [
      | inl below ↦
          let taken = second.lowest m first.from below in
          absurd (first.free taken.0 taken.1)
      | inr upto ↦ elim (cases_lt n m) [
        | inl below ↦
            let taken = first.lowest n second.from below in
            absurd (second.free taken.0 taken.1)
        | inr also ↦ omega arith
      ]
    ]

-- the port that a sender gets, and the mappings afterwards
assigned_once : (ports : ℕ × ℕ) (before after later : List Mapping) (to : Endpoint) (p q : Option ℕ) → AreFair before
    → Assigns ports before to p after → Assigns ports before to q later → (p ≡ q) × (after ≡ later)
assigned_once ports before after later to None None fair first second = (refl, first.same ∙ sym second.same)
assigned_once ports before after later to None (Some q) fair first (inl finds) = absurd (first.new q finds.there)
assigned_once ports before after later to None (Some q) fair first (inr opens) =
    let taken = first.none q opens.lowest.from opens.lowest.upto in
    absurd (opens.lowest.free taken.0 taken.1)
assigned_once ports before after later to (Some p) None fair (inl finds) second = absurd (second.new p finds.there)
assigned_once ports before after later to (Some p) None fair (inr opens) second =
    let taken = second.none p opens.lowest.from opens.lowest.upto in
    absurd (opens.lowest.free taken.0 taken.1)
assigned_once ports before after later to (Some p) (Some q) fair (inl first) (inl second) =
    (ap Some (fair.one_port to p q first.there second.there), first.same ∙ sym second.same)
assigned_once ports before after later to (Some p) (Some q) fair (inl finds) (inr opens) =
    absurd (opens.new p finds.there)
assigned_once ports before after later to (Some p) (Some q) fair (inr opens) (inl finds) =
    absurd (opens.new q finds.there)
assigned_once ports before after later to (Some p) (Some q) fair (inr first) (inr second) =
    let same : p ≡ q = lowest_once ports before p q first.lowest second.lowest in (
      ap Some same,
      first.more ∙ ap (λ n. before ++ mapping to n ∷ []) same ∙ sym second.more,
    )

of_both : {P X Y Z W : Type 0} (b : Bool) → MatchBool b X Y → MatchBool b Z W → (X → Z → P) → (Y → W → P) → P
of_both true one other first second = first one other
of_both false one other first second = second one other

module _ (parameters : Parameters) (bytes x y : List ℕ) (v w : Verdict) (before after later : Held)
    (fair : IsFair before) where
  -- two translations are one
  abbrev AreOne : Type 0
  AreOne = (v ≡ w) × (x ≡ y) × (after ≡ later)

  fair_of : (b : Bool) → AreFair (if b then before.tcp else before.udp)
  fair_of true = fair.0
  fair_of false = fair.1

  stayed_once : (given : Verdict) → Stays given bytes before v x after → Stays given bytes before w y later → AreOne
  stayed_once given first second = (
    first.verdict_is ∙ sym second.verdict_is,
    first.bytes_are ∙ sym second.bytes_are,
    first.same ∙ sym second.same,
  )

  went_once : (address : ℕ) (segment : Segment) (port : Option ℕ) → GoesOut address segment port bytes v x
      → GoesOut address segment port bytes w y → (v ≡ w) × (x ≡ y)
  went_once address segment None first second = (first.0 ∙ sym second.0, first.1 ∙ sym second.1)
  went_once address segment (Some port) first second = (first.0 ∙ sym second.0, first.1 ∙ sym second.1)

  left_once : (segment : Segment) → Leaves parameters segment bytes before v x after
      → Leaves parameters segment bytes before w y later → AreOne
  left_once segment first second =
      let ports = assigned_once parameters.ports (of_protocol segment.protocol before) first.mappings second.mappings
      (sender segment) first.port second.port (fair_of (segment.protocol == 6)) first.assigned second.assigned in
      let went = went_once parameters.outside segment first.port first.out
      (subst (λ o. GoesOut parameters.outside segment o bytes w y) (sym ports.0) second.out) in (
        went.0,
        went.1,
        first.kept ∙ ap (λ ms. with_protocol segment.protocol ms before) ports.1 ∙ sym second.kept,
      )

  came_once : (segment : Segment) → ComesIn segment bytes before v x after → ComesIn segment bytes before w y later
      → AreOne
  came_once segment first second =
      let to : first.to ≡ second.to = (fair_of (segment.protocol == 6)).one_sender first.to second.to
      segment.target_port first.there second.there in (
        first.verdict_is ∙ sym second.verdict_is,
        first.bytes_are
            ∙ ap (λ (e : Endpoint). with_target segment e.address e.port bytes) to
            ∙ sym second.bytes_are,
        first.same ∙ sym second.same,
      )

  entered_once : (segment : Segment) → Enters segment bytes before v x after → Enters segment bytes before w y later
      → AreOne
  entered_once segment (inl first) (inl second) = came_once segment first second
  entered_once segment (inl first) (inr second) = absurd (second.0 first.to first.there)
  entered_once segment (inr first) (inl second) = absurd (first.0 second.to second.there)
  entered_once segment (inr first) (inr second) = stayed_once _ first.1 second.1

  whole_once : (segment : Segment) → TranslatesWhole parameters segment bytes before v x after
      → TranslatesWhole parameters segment bytes before w y later → AreOne
  whole_once segment first second =
      of_both (covers_ipv4 parameters.inside segment.source) first second (left_once segment)
      (λ one other. of_both (segment.target == parameters.outside) one other (entered_once segment) (stayed_once _))

  segment_once : (o : Option Segment) → TranslatesSegment parameters o bytes before v x after
      → TranslatesSegment parameters o bytes before w y later → AreOne
  segment_once None first second = stayed_once _ first second
  segment_once (Some segment) first second =
      of_both (is_whole segment bytes) first second (whole_once segment) (stayed_once _)

  pub translated_once : Translates parameters before bytes v x after → Translates parameters before bytes w y later
      → AreOne
  translated_once first second = segment_once (segment_of bytes) first second
