-- A table of flows may be handed to another thread.
use denote.RattleType.{RattleType}
use denote.Param.Send.{IsSend, IsSync, sendable, view_send}
use denote.Param.SendFields.{declared_send}
use Rattle.std.specs.contracts.alloc.Global as Heap
use Rattle.std.specs.contracts.collections.HashMap as HashMap
use Rattle.std.specs.contracts.hash.BuildHasherDefault as Default
use Rattle.std.specs.contracts.hash.FoldHasher as Fold
use Rattle.std.specs.contracts.impls.GlobalAllocator.TheImpl.{ghosts}
use Rattle.std.specs.contracts.option.Option as Option
use Rattle.std.specs.declared.cmp.Eq as full
use Rattle.std.specs.declared.cmp.PartialEq as eq
use Rattle.std.specs.declared.hash.BuildHasher as builder
use Rattle.std.specs.declared.hash.Hash as hash
use Rattle.std.specs.declared.hash.Hasher as hasher
use Rattle.std.proofs.Crossing.{crosses, frees, send, Vec-send}
use Rattle.std.proofs.MapsCrossing.{HashMap-send}
use Rattle.onvm_base.proofs.ids.PortId.TheSendSync as port
use Rattle.onvm_base.proofs.rules.RulePlan.TheSendSync as rule
use Rattle.lru.proofs.Crosses.{Deed-send, KeyRef-send, List-send}
use Rattle.lru.specs.contracts.cache.LruCache as Cache
use Rattle.lru.specs.contracts.entry.Slot as Slot
use Rattle.lru.specs.contracts.key_ref.KeyRef as KeyRef
use Rattle.lru.specs.contracts.nodes.Nodes as Nodes
use Rattle.onvm_base.specs.contracts.ids.ChainId as Chain
use Rattle.onvm_base.specs.contracts.list.ListOf as ListOf
use Rattle.onvm_base.specs.contracts.rules.RulePlan as Rule
use Rattle.onvm_packet.specs.contracts.flow_key.FlowKey as Key
use Rattle.rule_match.specs.contracts.compiled.Compiled as Compiled
use Rattle.rule_match.specs.contracts.typed.TypedRules as Typed
use Rattle.flow_table.specs.contracts.table.FlowTable as Table
use Rattle.flow_table.specs.contracts.table.FlowTable.TheInside as inside

-- ---- the cache, for any keys and values

module _ (K V : RattleType) where
  slot_send : IsSend (Slot.the_row K V Heap.the_row ghosts)
  slot_send = let deed = Deed-send K V Heap.the_row ghosts frees in search sendable depth 20

  slot_field : IsSend (Slot.the_field K V Heap.the_row ghosts).row
  slot_field = let deed = Deed-send K V Heap.the_row ghosts frees in search sendable depth 20

module _ (K V S T : RattleType) (q : full.Ghosts K.Denot) (e : eq.Ghosts K.Denot) (h : hash.Ghosts K.Denot)
    (b : builder.Ghosts S.Denot T.Denot) (w : hasher.Ghosts T.Denot) where
  nodes_send : IsSend K → IsSync K → IsSend V → IsSend S → IsSend (Nodes.the_field K V S Heap.the_row T q e h b w ghosts).row
  nodes_send sk yk sv ss =
      let slot = slot_send K V in
      let field = slot_field K V in
      let list = List-send K V sk yk sv in
      let k = KeyRef.the_row K in
      let v = Slot.the_row K V Heap.the_row ghosts in
      let map : (e' : eq.Ghosts k.Denot) (h' : hash.Ghosts k.Denot)
      → IsSend (HashMap.the_field k v S Heap.the_row T e' h' b w ghosts).row =
      λ e' h'. HashMap-send k v S T e' h' b w (KeyRef-send K yk) slot ss in
      let heap = send in
      search (map, sendable) depth 20

  cache_send : IsSend K → IsSync K → IsSend V → IsSend S → IsSend (Cache.the_row K V S Heap.the_row T q e h b w ghosts)
  cache_send sk yk sv ss = let nodes = nodes_send sk yk sv ss in search sendable depth 20

-- ---- the rules, compiled

rule_send : IsSend Rule.the_row
rule_send = rule.the_send

list_send : (T : RattleType) → IsSend T → IsSend (ListOf.the_row T)
list_send T s = let vec = Vec-send T s in search sendable depth 20

typed_send : IsSend Typed.the_row
typed_send =
    let rules = list_send Rule.the_row rule_send in
    search (crosses, sendable) depth 24

compiled_send : IsSend Compiled.the_row
compiled_send = let typed = typed_send in search (crosses, sendable) depth 24

-- ---- the table

key_send : IsSend Key.the_row
key_send = search sendable depth 20

key_sync : IsSync Key.the_row
key_sync = search sendable depth 20

pick_send : IsSend (Option.the_row Chain.the_row)
pick_send = search sendable depth 20

hasher_send : IsSend (Default.the_row Fold.the_row)
hasher_send = search sendable depth 20

inside_send : IsSend inside.the_row
inside_send =
    let flows_send =
    cache_send Key.the_row (Option.the_row Chain.the_row) (Default.the_row Fold.the_row) Fold.the_row _ _ _ _ _
    key_send key_sync pick_send hasher_send in
    declared_send inside.the_type
    (port.the_send, (compiled_send, (flows_send, tt)))

-- a table of flows may be handed to another thread
pub table_send : IsSend Table.the_row
table_send = view_send inside.the_row _ _ _ _ inside_send
