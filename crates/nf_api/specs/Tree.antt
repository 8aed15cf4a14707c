-- What a function keeps between packets, as a tree of numbers.
use Rattle.std.specs.Prelude.{ℕ}

pub data Tree : Type 0 where
  leaf : ℕ → Tree
  fork : Tree → Tree → Tree

-- nothing is kept
abbrev pub nothing : Tree
nothing = leaf 0
