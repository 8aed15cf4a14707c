-- The kinds that keep something between packets, what they keep, and what they do.
use Rattle.std.specs.Prelude.{◌≡◌, ℕ, Bool, true, false, Option, Some, None, List, [], ◌∷◌, length}
use Rattle.onvm_base.specs.declared.function.Kind.{Kind}
use Rattle.onvm_base.specs.declared.function.Kind.TheVariants as kind
use Rattle.onvm_base.specs.declared.outcome.Verdict.TheVariants.{Next}
use Rattle.nf_api.specs.Acts.{Acts}
use Rattle.nf_api.specs.Tree.{Tree, leaf, fork, nothing}
use Rattle.nf_state.specs.Counting.{counted}
use Rattle.nf_state.specs.Mappings.{Mapping}
use Rattle.nf_state.specs.Policing.{bucket_after, moment_of, verdict_of}
use Rattle.nf_state.specs.Segments.{segment_of}
use Rattle.nf_state.specs.Translating.{Held, Parameters, Translates, WantsFor, no_mappings}
use Rattle.nf_state.specs.declared.counter.Counter.{Counter}
use Rattle.nf_state.specs.declared.keeper.Keeper.{Keeper}
use Rattle.nf_state.specs.declared.keeper.Keeper.TheVariants as keeper
use Rattle.nf_state.specs.declared.policer.Bucket.{Bucket}

abbrev pub is_keeping : Kind → Bool
is_keeping kind.Count = true
is_keeping (kind.Police rate depth) = true
is_keeping (kind.Nat inside outside ports) = true
is_keeping _ = false

-- the kind that a function was made of
abbrev pub kind_of : Keeper → Kind
kind_of (keeper.Count counter) = kind.Count
kind_of (keeper.Police policer) = kind.Police policer.rate policer.depth
kind_of (keeper.Nat nat) = kind.Nat nat.parameters.inside nat.parameters.outside nat.parameters.ports

-- States as trees

abbrev pub counter_tree : Counter → Tree
counter_tree counter = fork (leaf counter.frames) (leaf counter.bytes)

abbrev pub bucket_tree : Option Bucket → Tree
bucket_tree None = nothing
bucket_tree (Some bucket) = fork (leaf bucket.tokens) (leaf bucket.last)

abbrev pub mapping_tree : Mapping → Tree
mapping_tree m = fork (leaf m.inside.address) (fork (leaf m.inside.port) (leaf m.outside))

abbrev pub mappings_tree : List Mapping → Tree
mappings_tree [] = nothing
mappings_tree (m ∷ ms) = fork (mapping_tree m) (mappings_tree ms)

abbrev pub held_tree : Held → Tree
held_tree held = fork (mappings_tree held.tcp) (mappings_tree held.udp)

abbrev pub state_of : Keeper → Tree
state_of (keeper.Count counter) = counter_tree counter
state_of (keeper.Police policer) = bucket_tree policer.bucket
state_of (keeper.Nat nat) = held_tree nat.held

-- what a function of this kind begins with: counts of 0, no bucket yet, no mappings
abbrev pub first_state : Kind → Tree
first_state kind.Count = counter_tree (record { frames = 0; bytes = 0 })
first_state (kind.Nat inside outside ports) = held_tree no_mappings
first_state _ = bucket_tree None

-- Acts

abbrev pub ActsAsCount : Acts
ActsAsCount before bytes meta verdict left after =
    (counter : Counter) × (before ≡ counter_tree counter) × (after ≡ counter_tree (counted (length bytes) counter))
    × (verdict ≡ Next) × (left ≡ bytes)

abbrev pub ActsAsPolice : (rate depth : ℕ) → Acts
ActsAsPolice rate depth before bytes meta verdict left after =
    (bucket : Option Bucket) × (before ≡ bucket_tree bucket)
    × (after ≡ bucket_tree (bucket_after rate depth bucket (moment_of meta.stamp) (length bytes)))
    × (verdict ≡ verdict_of rate depth bucket (moment_of meta.stamp) (length bytes)) × (left ≡ bytes)

abbrev pub ActsAsNat : Parameters → Acts
ActsAsNat parameters before bytes meta verdict left after =
    (held : Held) × (later : Held) × (before ≡ held_tree held) × (after ≡ held_tree later)
    × Translates parameters held bytes verdict left later

-- what a function of a kind that keeps something does
abbrev pub ActsByState : Kind → Acts
ActsByState kind.Count = ActsAsCount
ActsByState (kind.Police rate depth) = ActsAsPolice rate depth
ActsByState (kind.Nat inside outside ports) =
    ActsAsNat (record { inside = inside; outside = outside; ports = ports })
ActsByState _ = λ before bytes meta verdict left after. ⊥

-- NAT alone may want memory, for a sender that has no port yet
abbrev pub Wants : Keeper → List ℕ → Type 0
Wants (keeper.Count counter) bytes = ⊥
Wants (keeper.Police policer) bytes = ⊥
Wants (keeper.Nat nat) bytes = WantsFor nat.parameters nat.held (segment_of bytes)
