-- The first token of a new board has no log of a role.
use Rattle.std.proofs.Common.{◌≡◌, ◌∙◌, ap, refl, ℕ, zero, suc, []}
use Rattle.std.specs.Prelude.{replicate, slice_index_or}
use Rattle.onvm_core.specs.Layouts.{first_role}
use Rattle.onvm_core.specs.Logs.{Log}
use Rattle.onvm_board.specs.Tokens.{BoardView, TokenView, first_token, kept_log}

none_kept : (n i : ℕ) → ◌≡◌ {A = Log} (slice_index_or (replicate n []) i []) []
none_kept zero i = refl
none_kept (suc n) zero = refl
none_kept (suc n) (suc i) = none_kept n i

pub unused_at_start : (site : BoardView) (token : TokenView) (role : ℕ) → token ≡ first_token site
    → kept_log role token ≡ []
unused_at_start site token role is =
    ap (λ (t : TokenView). slice_index_or t.logs role []) is ∙ none_kept (first_role site.layout) role
