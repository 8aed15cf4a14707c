-- Which packets NAT translates, and by which mappings.
use Rattle.std.proofs.Common.{◌≡◌, ◌≢◌, sym, ap, subst, refl, ℕ, ◌+◌, ◌==◌, true, false, Option, Some, None, List, length, arith}
use Rattle.std.specs.Bool.{MatchBool}
use Rattle.std.proofs.lemmas.Bool.{eq-eqb, ne_eqb, leb-true}
use Rattle.std.proofs.lemmas.Option.{none-some, same_Some}
use Rattle.onvm_base.specs.declared.outcome.Verdict.{Verdict}
use Rattle.onvm_base.specs.declared.outcome.Verdict.TheVariants.{Drop, Next}
use Rattle.onvm_packet.specs.Heads.{net_of, ports_of}
use Rattle.onvm_packet.specs.Holding.{covers_ipv4}
use Rattle.onvm_packet.specs.Within.{IsWithin}
use Rattle.onvm_packet.specs.declared.heads.Net.{Net}
use Rattle.onvm_packet.specs.declared.heads.Net.TheVariants as net
use Rattle.onvm_packet.proofs.Within.{net_within}
use Rattle.nf_state.specs.Rewriting.{IsIn}
use Rattle.nf_state.specs.Segments.{is_whole, needed, segment_by, segment_of}
use Rattle.nf_state.specs.Translating.{Enters, Held, Leaves, Parameters, Stays, Translates, TranslatesSegment, TranslatesWhole, of_protocol}
use Rattle.nf_state.specs.declared.segment.Segment.{Segment}

pub of_tcp : (protocol : ℕ) (held : Held) → protocol ≡ 6 → held.tcp ≡ of_protocol protocol held
of_tcp protocol held is = rw (eq-eqb protocol 6 is) refl

pub of_udp : (protocol : ℕ) (held : Held) → protocol ≢ 6 → held.udp ≡ of_protocol protocol held
of_udp protocol held other = rw (ne_eqb protocol 6 other) refl

-- the heads of a whole segment are in its packet
segment_in : (n : Net) (ports : Option (ℕ × ℕ)) (bytes : List ℕ) (segment : Segment) → IsWithin n bytes
    → segment_by n ports bytes ≡ Some segment → is_whole segment bytes ≡ true → IsIn segment bytes
segment_in net.None ports bytes segment within is whole = absurd (none-some segment is)
segment_in (net.V6 at source target next hops) ports bytes segment within is whole = absurd (none-some segment is)
segment_in (net.V4 at source target protocol ttl) None bytes segment within is whole = absurd (none-some segment is)
segment_in (net.V4 at source target protocol ttl) (Some ports) bytes segment within is whole =
    let same = same_Some _ segment is in
    let begins = ap (λ (s : Segment). s.at) same in
    let ends = ap (λ (s : Segment). s.behind) same in
    record {
      head = omega (arith, within.least);
      whole = leb-true (segment.behind + needed segment.protocol) (length bytes) whole;
    }

pub heads_in : (bytes : List ℕ) (segment : Segment) → segment_of bytes ≡ Some segment
    → is_whole segment bytes ≡ true → IsIn segment bytes
heads_in bytes segment is whole =
    segment_in (net_of bytes) (ports_of (net_of bytes) bytes) bytes segment (net_within bytes) is whole

module _ (parameters : Parameters) (segment : Segment) (bytes : List ℕ) (held : Held) (verdict : Verdict) (left : List ℕ)
    (after : Held) where
  whole_one : (o : Option Segment) → o ≡ Some segment → is_whole segment bytes ≡ true
      → TranslatesWhole parameters segment bytes held verdict left after
      → TranslatesSegment parameters o bytes held verdict left after
  whole_one o is whole translates =
      subst (λ (one : Option Segment). TranslatesSegment parameters one bytes held verdict left after) (sym is)
      (subst
      (λ b. MatchBool b (TranslatesWhole parameters segment bytes held verdict left after)
      (Stays Drop bytes held verdict left after))
      (sym whole) translates)

  outer_one : covers_ipv4 parameters.inside segment.source ≡ false
      → MatchBool (segment.target == parameters.outside) (Enters segment bytes held verdict left after)
      (Stays Next bytes held verdict left after)
      → TranslatesWhole parameters segment bytes held verdict left after
  outer_one outer rest =
      subst
      (λ b. MatchBool b (Leaves parameters segment bytes held verdict left after)
      (MatchBool (segment.target == parameters.outside) (Enters segment bytes held verdict left after)
      (Stays Next bytes held verdict left after)))
      (sym outer) rest

  pub entered : segment_of bytes ≡ Some segment → is_whole segment bytes ≡ true
      → covers_ipv4 parameters.inside segment.source ≡ false → segment.target ≡ parameters.outside
      → Enters segment bytes held verdict left after → Translates parameters held bytes verdict left after
  entered is whole outer target enters =
      whole_one (segment_of bytes) is whole
      (outer_one outer
      (subst
      (λ b. MatchBool b (Enters segment bytes held verdict left after) (Stays Next bytes held verdict left after))
      (sym (eq-eqb segment.target parameters.outside target)) enters))

  pub passed : segment_of bytes ≡ Some segment → is_whole segment bytes ≡ true
      → covers_ipv4 parameters.inside segment.source ≡ false → segment.target ≢ parameters.outside
      → Stays Next bytes held verdict left after → Translates parameters held bytes verdict left after
  passed is whole outer other stays =
      whole_one (segment_of bytes) is whole
      (outer_one outer
      (subst
      (λ b. MatchBool b (Enters segment bytes held verdict left after) (Stays Next bytes held verdict left after))
      (sym (ne_eqb segment.target parameters.outside other)) stays))
