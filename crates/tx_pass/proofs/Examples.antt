-- The roles of the tests on a new board.
use Rattle.std.proofs.Common.{◌≡◌, ◌∙◌, ap, refl, ℕ, zero, suc, ◌+◌, ◌-◌, ◌<◌, List, [], ◌++◌, length, arith}
use Rattle.std.specs.Prelude.{map, replicate, slice_index, slice_index_or}
use Rattle.onvm_base.specs.declared.function.FunctionPlan.{FunctionPlan}
use Rattle.onvm_base.specs.declared.limits.TheConstants.{MAX_FUNCTIONS}
use Rattle.onvm_base.specs.declared.plan.Plan.{Plan}
use Rattle.onvm_core.specs.declared.layout.Layout.{Layout}
use Rattle.onvm_core.specs.Layouts.{IsLayout, IsLayoutOf, core_role, first_role}
use Rattle.onvm_core.specs.Logs.{Log}
use Rattle.onvm_board.specs.Known.{is_split_in}
use Rattle.onvm_board.specs.Tokens.{BoardView, TokenView, first_token}
use Rattle.nf_registry.specs.Examples.{three_functions}
use Rattle.tx_pass.specs.Examples.{IsOpen, IsTestLayout, IsTestPlan}

pub test_layout : (plan : Plan) (layout : Layout) → IsTestPlan plan → IsLayoutOf plan layout → IsLayout layout
    → IsTestLayout layout
test_layout plan layout is of ranges =
    let ports : layout.ports ≡ 1 = of.ports ∙ is.ports in
    let transmit : layout.transmit ≡ 2 = of.transmit ∙ is.transmit in record {
      ranges = ranges;
      ports = ports;
      transmit = transmit;
      cores = of.cores ∙ is.cores;
      functions = of.functions ∙ ap (λ (fs : List FunctionPlan). length fs) is.functions;
      core = by_number ports transmit;
    }
  where
    cores : (f : ℕ) → slice_index layout.core_of f
        ≡ slice_index (map (λ (g : FunctionPlan). g.core) three_functions ++ replicate (MAX_FUNCTIONS - 3) 0) f
    cores f =
        ap (λ (cs : List ℕ). slice_index cs f)
        (of.core_of
        ∙ ap (λ (fs : List FunctionPlan).
        map (λ (g : FunctionPlan). g.core) fs ++ replicate (MAX_FUNCTIONS - length fs) 0) is.functions)

    by_number : layout.ports ≡ 1 → layout.transmit ≡ 2 → (f : ℕ) → f < 2 → core_role layout f ≡ 3 + f
    by_number ports transmit zero less =
        let zeroth : slice_index layout.core_of 0 ≡ 0 = cores 0 in
        omega (arith, ports, transmit, zeroth)
    by_number ports transmit (suc zero) less =
        let first : slice_index layout.core_of 1 ≡ 1 = cores 1 in
        omega (arith, ports, transmit, first)
    by_number ports transmit (suc (suc f)) less = absurd (omega (arith, less))

none_kept : (n i : ℕ) → ◌≡◌ {A = Log} (slice_index_or (replicate n []) i []) []
none_kept zero i = refl
none_kept (suc n) zero = refl
none_kept (suc n) (suc i) = none_kept n i

pub open_at_start : (site : BoardView) (token : TokenView) → token ≡ first_token site → IsOpen site 0 token
open_at_start site token is = record {
  first = record { board = ap (λ (t : TokenView). t.board) is; role = ap (λ (t : TokenView). t.role) is };
  unsplit = λ r from. ap (λ (t : TokenView). is_split_in r t.log) is;
  unused = λ r. ap (λ (t : TokenView). slice_index_or t.logs r []) is ∙ none_kept (first_role site.layout) r;
}
