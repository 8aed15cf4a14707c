-- What a list ends as, where a `&mut` to its items is returned.
use Rattle.std.specs.Prelude.{List, ◌++◌, length, take, drop}
use Rattle.std.specs.Borrow.{Lends, Fml, RattleType, MutBor, Array}
use Rattle.onvm_base.specs.contracts.list.ListOf.{the_row}

-- once the borrow ends, the items are those that it shows last: it shows as many as there are
abbrev pub lends_items : (T : RattleType) → MutBor (List T.Denot) → MutBor (List T.Denot) → Fml
lends_items T list items =
    Lends (the_row T) (Array T 0) list items (λ last. take (length list.now) (last ++ drop (length last) list.now))
