use Rattle.std.proofs.Common.{◌≡◌, ℕ, ◌-◌, ◌<◌, Some, length}
use Rattle.std.specs.Io.KnownBytes.{Consumes}
use Rattle.onvm_host.specs.Moved.{MovedSince, Reads}
use Rattle.onvm_top.specs.Calls.{chain_limit}
use Rattle.onvm_top.proofs.chain.read_text.Given as goal

-- the text is what was taken, some at each take, and the last take came before the limit
abbrev pub invariant-loop-source : goal.invariant-loop-source
invariant-loop-source g l = record {
  room : 0 < length l.piece.items;
  named : g.S.Source.name l.source ≡ g.S.Source.name l.initial.source;
  taken : Consumes (g.S.Source.left l.initial.source) (g.S.Source.left l.source) l.text.items;
  moved : MovedSince (length l.text.items) (g.S.Source.takes l.initial.source) (g.S.Source.takes l.source);
  ends : 0 < length l.text.items
      → (last : ℕ) × Reads chain_limit (Some last) (g.S.Source.takes l.initial.source) (g.S.Source.takes l.source);
}

abbrev pub decreases-loop-source : goal.decreases-loop-source
decreases-loop-source g l = chain_limit - length l.text.items
