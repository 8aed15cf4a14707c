-- What stays remembered is right, and what is put is right.
use Rattle.std.proofs.Common.{◌≡◌, ◌∙◌, sym, subst, List, Contains, Bool, inl, inr}
use Rattle.std.specs.Map.{lookup}
use Rattle.std.specs.Prelude.{Option, Some, Result, Ok, Err, OnOk, OnErr}
use Rattle.std.proofs.lemmas.List.Elements.{All-contains, All-contains_itself}
use Rattle.lru.specs.LruCache.{LruCache, lru_cache, promoted, put_entries}
use Rattle.lru.proofs.CallerLemmas.{Contains-lookup, Contains-promoted, Contains-put_entries}
use Rattle.onvm_base.specs.declared.ids.ChainId.{ChainId}
use Rattle.onvm_base.specs.declared.ids.PortId.{PortId}
use Rattle.onvm_base.specs.declared.rules.RulePlan.{RulePlan}
use Rattle.onvm_packet.specs.FlowKeys.{flow_key_of}
use Rattle.onvm_packet.specs.contracts.flow_key.FlowKeyPartialEq.TheImpl as key_impl
use Rattle.onvm_packet.specs.declared.flow_key.FlowKey.{FlowKey}
use Rattle.onvm_packet.specs.declared.heads.Heads.{Heads}
use Rattle.onvm_packet.proofs.SameKeys.{same_key}
use Rattle.rule_match.proofs.Picked.{first_chain-same}
use Rattle.rule_match.specs.Rules.{first_chain}
use Rattle.flow_table.specs.Flows.{Remembers}

abbrev pub key_eq : FlowKey → FlowKey → Bool
key_eq = key_impl.ghosts.eq

abbrev Flow : Type 0
Flow = FlowKey × Option ChainId

module _ (port : PortId) (rules : List RulePlan) where
  -- what is remembered of this flow is right
  abbrev IsRight : Flow → Type 0
  IsRight flow = (heads : Heads) → flow_key_of port heads ≡ flow.0 → flow.1 ≡ first_chain rules port heads

  -- each flow that is there after a look-up was there before
  pub Remembers-promoted : (test : FlowKey → Bool) (flows : List Flow) → Remembers port rules flows
      → Remembers port rules (promoted test flows)
  Remembers-promoted test flows right = λ at d lt.
      All-contains IsRight flows _ right
      (Contains-promoted test flows _ (All-contains_itself (promoted test flows) at d lt))

  -- what a look-up finds is what the rules pick
  pub first_chain-lookup : (heads : Heads) (found : Option ChainId) (flows : List Flow) → Remembers port rules flows
      → lookup (key_eq (flow_key_of port heads)) flows ≡ Some found → found ≡ first_chain rules port heads
  first_chain-lookup heads found flows right there =
      let at = Contains-lookup (key_eq (flow_key_of port heads)) flows found there in
      All-contains IsRight flows (at.0, found) right at.1 heads (same_key (flow_key_of port heads) at.0 at.2)

  -- what the rules pick for one frame of a flow they pick for each
  right_of_key : (heads : Heads) (key : FlowKey) → key ≡ flow_key_of port heads
      → IsRight (key, first_chain rules port heads)
  right_of_key heads key is others same =
      first_chain-same port port heads others (sym is ∙ sym same) rules

  right_when_put : (heads : Heads) (cache : LruCache FlowKey (Option ChainId)) (flow : Flow)
      → Remembers port rules cache.entries
      → Contains (put_entries key_eq cache (flow_key_of port heads) (first_chain rules port heads)) flow → IsRight flow
  right_when_put heads cache flow right has =
      let key = flow_key_of port heads in
      let pick = first_chain rules port heads in
      elim (Contains-put_entries key_eq cache key pick flow has) [
        | inl was ↦ All-contains IsRight cache.entries flow right was
        | inr put ↦ λ others same.
            put.0
            ∙ right_of_key heads flow.0
            (elim put.1 [ inl own ↦ own | inr equal ↦ sym (same_key key flow.0 equal.2) ])
            others same
      ]

  -- a put of what the rules pick, done or refused, leaves all right
  pub Remembers-put : {T E : Type 0} (heads : Heads) (old new : LruCache FlowKey (Option ChainId)) (result : Result T E)
      → Remembers port rules old.entries
      → OnOk result (new ≡ lru_cache (put_entries key_eq old (flow_key_of port heads) (first_chain rules port heads)) old.cap)
      → OnErr result (new ≡ old) → Remembers port rules new.entries
  Remembers-put heads old new (Ok value) right done refused =
      subst (λ (cache : LruCache FlowKey (Option ChainId)). Remembers port rules cache.entries) (sym done)
      (λ at d lt. right_when_put heads old _ right (All-contains_itself _ at d lt))
  Remembers-put heads old new (Err error) right done refused =
      subst (λ (cache : LruCache FlowKey (Option ChainId)). Remembers port rules cache.entries) (sym refused) right
