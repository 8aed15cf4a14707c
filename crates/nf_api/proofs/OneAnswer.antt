-- A frame has one answer at most.
use Rattle.std.proofs.Common.{◌≡◌, ◌∙◌, sym, ap, ℕ, List, slice_get, inl, inr}
use Rattle.std.proofs.Math.Nat.{le_antisymm}
use Rattle.std.proofs.lemmas.Bool.{cases_order}
use Rattle.std.proofs.lemmas.Option.{same_Some}
use Rattle.onvm_base.specs.declared.function.Kind.{Kind}
use Rattle.onvm_base.specs.declared.function.Kind.TheVariants as kind
use Rattle.onvm_base.specs.declared.function.RouteEntry.{RouteEntry}
use Rattle.onvm_base.specs.declared.ids.PortId.{PortId}
use Rattle.onvm_base.specs.declared.outcome.Verdict.{Verdict}
use Rattle.onvm_packet.specs.Heads.{net_of}
use Rattle.onvm_packet.specs.declared.heads.Net.{Net}
use Rattle.onvm_packet.specs.declared.heads.Net.TheVariants as net
use Rattle.nf_api.specs.Answers.{Answer, GivesAndLeaves, IsAnswer}
use Rattle.nf_api.proofs.Matching.{none_matches}
use Rattle.nf_api.specs.Routing.{IsFound, IsRouted, Wins, NoneMatches, length_of, verdict_towards}

module _ (table : List RouteEntry) (target : ℕ) where
  -- two entries that win stand at one place
  one_place : (e f : RouteEntry) (a : Wins table target e) (b : Wins table target f) → a.at ≡ b.at
  one_place e f a b =
      let same : length_of e.prefix ≡ length_of f.prefix =
      le_antisymm (b.longest a.at e a.matches) (a.longest b.at f b.matches)
      in
      elim (cases_order a.at b.at) [
        | inl equal ↦ equal
        | inr (inl before) ↦ absurd (b.first a.at e a.matches before same)
        | inr (inr before) ↦ absurd (a.first b.at f b.matches before (sym same))
      ]

  one_wins : (e f : RouteEntry) → Wins table target e → Wins table target f → e ≡ f
  one_wins e f a b =
      same_Some e f (sym a.matches.0 ∙ ap (λ (i : ℕ). slice_get table i) (one_place e f a b) ∙ b.matches.0)

  none_wins : (e : RouteEntry) → Wins table target e → NoneMatches table target → ⊥
  none_wins e wins none = none_matches table target wins.at e none wins.matches

  one_found : (v w : Verdict) → IsFound table target v → IsFound table target w → v ≡ w
  one_found v w (inl a) (inl b) =
      a.2 ∙ ap (λ (e : RouteEntry). verdict_towards e.target) (one_wins a.0 b.0 a.1 b.1) ∙ sym b.2
  one_found v w (inl a) (inr b) = absurd (none_wins a.0 a.1 b.0)
  one_found v w (inr a) (inl b) = absurd (none_wins b.0 b.1 a.0)
  one_found v w (inr a) (inr b) = a.1 ∙ sym b.1

one_routed : (table : List RouteEntry) (head : Net) (v w : Verdict) → IsRouted table head v → IsRouted table head w → v ≡ w
one_routed table (net.V4 at source target protocol ttl) v w a b = one_found table target v w a b
one_routed table net.None v w a b = a ∙ sym b
one_routed table (net.V6 at source target next hops) v w a b = a ∙ sym b

one : (answer : Answer) (v w : Verdict) (x y : List ℕ) → GivesAndLeaves answer v x → GivesAndLeaves answer w y → (v ≡ w) × (x ≡ y)
one answer v w x y a b = (a.0 ∙ sym b.0, a.1 ∙ sym b.1)

pub one_answer : (kind : Kind) (port : PortId) (bytes : List ℕ) (v w : Verdict) (x y : List ℕ)
    → IsAnswer kind port bytes v x → IsAnswer kind port bytes w y → (v ≡ w) × (x ≡ y)
one_answer kind.Forward port bytes v w x y a b = one _ v w x y a b
one_answer kind.Drop port bytes v w x y a b = one _ v w x y a b
one_answer (kind.Out to) port bytes v w x y a b = one _ v w x y a b
one_answer (kind.To service) port bytes v w x y a b = one _ v w x y a b
one_answer (kind.Filter tests) port bytes v w x y a b = one _ v w x y a b
one_answer kind.Ttl port bytes v w x y a b = one _ v w x y a b
one_answer (kind.Tag vlan priority) port bytes v w x y a b = one _ v w x y a b
one_answer kind.Untag port bytes v w x y a b = one _ v w x y a b
one_answer (kind.Macs target source) port bytes v w x y a b = one _ v w x y a b
one_answer (kind.Route table) port bytes v w x y a b =
    (one_routed table (net_of bytes) v w a.0 b.0, a.1 ∙ sym b.1)
one_answer (kind.Balance services) port bytes v w x y a b = one _ v w x y a b
one_answer kind.Count port bytes v w x y a b = absurd a
one_answer (kind.Police rate depth) port bytes v w x y a b = absurd a
one_answer (kind.Nat inside outside ports) port bytes v w x y a b = absurd a
one_answer (kind.Guest guest) port bytes v w x y a b = absurd a
