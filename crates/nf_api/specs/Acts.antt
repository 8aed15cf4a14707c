-- What a function may do.
use Rattle.std.specs.Prelude.{ℕ, List}
use Rattle.onvm_base.specs.declared.outcome.Verdict.{Verdict}
use Rattle.nf_api.specs.Tree.{Tree}
use Rattle.nf_api.specs.declared.meta.Meta.{Meta}

-- in a state, for a packet of these bytes and for this meta, give this verdict, leave these bytes and go to this state
abbrev pub Acts : Type 1
Acts = (before : Tree) (bytes : List ℕ) (meta : Meta) (verdict : Verdict) (left : List ℕ) (after : Tree) → Type 0

-- whoever acts by the first might have acted by the second
abbrev pub Narrows : Acts → Acts → Type 0
Narrows acts wider =
    (before : Tree) (bytes : List ℕ) (meta : Meta) (verdict : Verdict) (left : List ℕ) (after : Tree)
    → acts before bytes meta verdict left after
    → wider before bytes meta verdict left after

-- whoever wants memory for a packet by the first wanted it by the second
abbrev pub WantsNoMore : (wants wider : List ℕ → Type 0) → Type 0
WantsNoMore wants wider = (bytes : List ℕ) → wants bytes → wider bytes
