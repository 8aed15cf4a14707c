-- A kind that keeps nothing answers every frame.
use Rattle.std.proofs.Common.{ℕ, ◌||◌, IsTrue, sym, List, inl, inr, refl}
use Rattle.std.proofs.lemmas.Bool.{true≢false}
use Rattle.onvm_base.specs.declared.function.Kind.{Kind}
use Rattle.onvm_base.specs.declared.function.Kind.TheVariants as kind
use Rattle.onvm_base.specs.declared.function.RouteEntry.{RouteEntry}
use Rattle.onvm_base.specs.declared.ids.PortId.{PortId}
use Rattle.onvm_base.specs.declared.outcome.Verdict.{Verdict}
use Rattle.onvm_base.specs.declared.outcome.Verdict.TheVariants.{Drop}
use Rattle.onvm_packet.specs.Heads.{net_of}
use Rattle.onvm_packet.specs.declared.heads.Net.{Net}
use Rattle.onvm_packet.specs.declared.heads.Net.TheVariants as net
use Rattle.nf_api.proofs.Matching.{some_wins_or_none}
use Rattle.nf_api.specs.Answers.{IsAnswer, is_steady, is_routing}
use Rattle.nf_api.specs.Routing.{IsFound, IsRouted, verdict_towards}

some_found : (table : List RouteEntry) (target : ℕ) → (v : Verdict) × IsFound table target v
some_found table target = elim (some_wins_or_none table target) [
  | inl won ↦ (verdict_towards won.0.target, inl (won.0, won.1, refl))
  | inr none ↦ (Drop, inr (none, refl))
]

some_routed : (table : List RouteEntry) (head : Net) → (v : Verdict) × IsRouted table head v
some_routed table (net.V4 at source target protocol ttl) = some_found table target
some_routed table net.None = (Drop, refl)
some_routed table (net.V6 at source target next hops) = (Drop, refl)

pub some_answer : (kind : Kind) (port : PortId) (bytes : List ℕ) → IsTrue (is_steady kind || is_routing kind)
    → (v : Verdict) × (left : List ℕ) × IsAnswer kind port bytes v left
some_answer kind.Forward port bytes steady = (_, _, (refl, refl))
some_answer kind.Drop port bytes steady = (_, _, (refl, refl))
some_answer (kind.Out to) port bytes steady = (_, _, (refl, refl))
some_answer (kind.To service) port bytes steady = (_, _, (refl, refl))
some_answer (kind.Filter tests) port bytes steady = (_, _, (refl, refl))
some_answer kind.Ttl port bytes steady = (_, _, (refl, refl))
some_answer (kind.Tag vlan priority) port bytes steady = (_, _, (refl, refl))
some_answer kind.Untag port bytes steady = (_, _, (refl, refl))
some_answer (kind.Macs target source) port bytes steady = (_, _, (refl, refl))
some_answer (kind.Route table) port bytes steady =
    let routed = some_routed table (net_of bytes) in
    (routed.0, bytes, (routed.1, refl))
some_answer (kind.Balance services) port bytes steady = (_, _, (refl, refl))
some_answer kind.Count port bytes steady = absurd (true≢false (sym steady))
some_answer (kind.Police rate depth) port bytes steady = absurd (true≢false (sym steady))
some_answer (kind.Nat inside outside ports) port bytes steady = absurd (true≢false (sym steady))
some_answer (kind.Guest guest) port bytes steady = absurd (true≢false (sym steady))
