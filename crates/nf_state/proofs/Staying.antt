-- What NAT leaves of the mappings that there are.
use Rattle.std.proofs.Common.{◌≡◌, sym, subst, ℕ, ◌==◌, if◌then◌else◌, Bool, true, false, Option, Some, None, List, Result, Ok, Err, IfOk, OnErr, inl, inr}
use Rattle.std.specs.Bool.{MatchBool}
use Rattle.onvm_base.specs.declared.outcome.Verdict.{Verdict}
use Rattle.onvm_packet.specs.Holding.{covers_ipv4}
use Rattle.nf_state.specs.Mappings.{AreFair, Mapping, Maps}
use Rattle.nf_state.specs.Segments.{is_whole, segment_of}
use Rattle.nf_state.specs.Translating.{Enters, Held, IsFair, Leaves, Parameters, Stay, Translates, TranslatesSegment, TranslatesWhole, Translation, WantsFor, of_protocol, sender}
use Rattle.nf_state.specs.declared.mappings.Endpoint.{Endpoint}
use Rattle.nf_state.specs.declared.segment.Segment.{Segment}
use Rattle.nf_state.proofs.Fair.{fair, stays}

-- one of two cases holds
pub of_cases : {P X Y : Type 0} (b : Bool) → MatchBool b X Y → (X → P) → (Y → P) → P
of_cases true holds first second = first holds
of_cases false holds first second = second holds

abbrev pick : Bool → Held → List Mapping
pick b held = if b then held.tcp else held.udp

abbrev put : Bool → List Mapping → Held → Held
put b mappings held =
    if b then record { tcp = mappings; udp = held.udp } else record { tcp = held.tcp; udp = mappings }

stay_put : (b c : Bool) (held : Held) (mappings : List Mapping) (inside : Endpoint) (outside : ℕ)
    → (Maps (pick b held) inside outside → Maps mappings inside outside) → Maps (pick c held) inside outside
    → Maps (pick c (put b mappings held)) inside outside
stay_put true true held mappings inside outside kept maps = kept maps
stay_put true false held mappings inside outside kept maps = maps
stay_put false true held mappings inside outside kept maps = maps
stay_put false false held mappings inside outside kept maps = kept maps

fair_put : (b : Bool) (held : Held) (mappings : List Mapping) → (AreFair (pick b held) → AreFair mappings)
    → IsFair held → IsFair (put b mappings held)
fair_put true held mappings kept fairs = (kept fairs.0, fairs.1)
fair_put false held mappings kept fairs = (fairs.0, kept fairs.1)

module _ (parameters : Parameters) (bytes left : List ℕ) (verdict : Verdict) (before after : Held) where
  stay_same : after ≡ before → Stay before after
  stay_same same protocol inside outside maps =
      subst (λ held. Maps (of_protocol protocol held) inside outside) (sym same) maps

  stay_leaving : (segment : Segment) → Leaves parameters segment bytes before verdict left after → Stay before after
  stay_leaving segment leaves protocol inside outside maps =
      subst (λ held. Maps (of_protocol protocol held) inside outside) (sym leaves.kept)
      (stay_put (segment.protocol == 6) (protocol == 6) before leaves.mappings inside outside
      (stays parameters.ports (of_protocol segment.protocol before) leaves.mappings (sender segment) leaves.port inside
      outside leaves.assigned)
      maps)

  fair_leaving : (segment : Segment) → Leaves parameters segment bytes before verdict left after → IsFair before
      → IsFair after
  fair_leaving segment leaves fairs =
      subst IsFair (sym leaves.kept)
      (fair_put (segment.protocol == 6) before leaves.mappings
      (fair parameters.ports (of_protocol segment.protocol before) leaves.mappings (sender segment) leaves.port
      leaves.assigned)
      fairs)

  same_entering : (segment : Segment) → Enters segment bytes before verdict left after → after ≡ before
  same_entering segment (inl comes) = comes.same
  same_entering segment (inr free) = free.1.same

  -- the mappings are the same, or a packet from inside left
  abbrev SameOrLeft : Type 1
  SameOrLeft =
      (P : Type 0) → (after ≡ before → P)
      → ((segment : Segment) → Leaves parameters segment bytes before verdict left after → P) → P

  same_or_left_whole : (segment : Segment) → TranslatesWhole parameters segment bytes before verdict left after
      → SameOrLeft
  same_or_left_whole segment translates = λ P same left_one.
      of_cases (covers_ipv4 parameters.inside segment.source) translates (left_one segment)
      (λ outer. of_cases (segment.target == parameters.outside) outer
      (λ enters. same (same_entering segment enters))
      (λ stays_so. same stays_so.same))

  same_or_left : (o : Option Segment) → TranslatesSegment parameters o bytes before verdict left after → SameOrLeft
  same_or_left None translates = λ P same left_one. same translates.same
  same_or_left (Some segment) translates = λ P same left_one.
      of_cases (is_whole segment bytes) translates
      (λ whole. same_or_left_whole segment whole P same left_one)
      (λ cut. same cut.same)

  pub all_stay : Translates parameters before bytes verdict left after → Stay before after
  all_stay translates = same_or_left (segment_of bytes) translates (Stay before after) stay_same stay_leaving

  pub stays_fair : Translates parameters before bytes verdict left after → IsFair before → IsFair after
  stays_fair translates fairs =
      same_or_left (segment_of bytes) translates (IsFair after) (λ same. subst IsFair (sym same) fairs)
      (λ segment leaves. fair_leaving segment leaves fairs)

-- a sender that has no port yet had none before
pub wants_no_more : (parameters : Parameters) (before after : Held) → Stay before after → (o : Option Segment)
    → WantsFor parameters after o → WantsFor parameters before o
wants_no_more parameters before after stay None wants = wants
wants_no_more parameters before after stay (Some segment) wants =
    (wants.0, λ outside maps. wants.1 outside (stay segment.protocol (sender segment) outside maps))

-- the same of a translation that may have been refused
pub translation_wants_no_more : {E : Type 0} (result : Result Verdict E) (before after : Translation)
    (bytes left : List ℕ)
    → IfOk result (λ verdict. Translates before.parameters before.held bytes verdict left after.held)
    → after.parameters ≡ before.parameters → OnErr result (after ≡ before) → (o : Option Segment)
    → WantsFor after.parameters after.held o → WantsFor before.parameters before.held o
translation_wants_no_more (Ok verdict) before after bytes left translated same unchanged o wants =
    wants_no_more before.parameters before.held after.held
    (all_stay before.parameters bytes left verdict before.held after.held translated) o
    (subst (λ p. WantsFor p after.held o) same wants)
translation_wants_no_more (Err e) before after bytes left translated same unchanged o wants =
    subst (λ (t : Translation). WantsFor t.parameters t.held o) unchanged wants
