-- Where there is one core, it mails the samples of all functions.
use Rattle.std.proofs.Common.{◌≡◌, ℕ, zero, suc, ◌+◌, ◌<◌, [], refl, arith}
use Rattle.std.specs.Prelude.{replicate, slice_index, slice_index_or}
use Rattle.onvm_base.specs.declared.plan.Plan.{Plan}
use Rattle.onvm_core.specs.declared.layout.Layout.{Layout}
use Rattle.onvm_core.specs.Layouts.{IsLayout, IsLayoutOf, producer}
use Rattle.onvm_core.specs.Logs.{Log}
use Rattle.desc_ring.specs.Arrays.{mail_of}

pub core_is : (plan : Plan) (layout : Layout) → IsLayoutOf plan layout → IsLayout layout → plan.cores ≡ 1
    → (f : ℕ) → f < layout.functions → plan.ports + plan.transmit ≡ producer layout (mail_of f)
core_is plan layout of ranges one f known =
    let below : slice_index layout.core_of f < layout.cores =
    ranges.core_of f 0 (omega (arith, known, ranges.functions.1, ranges.places)) in
    omega (arith, below, of.cores, one, of.ports, of.transmit)

-- a new board's first token has kept no log
pub none_kept : (n i : ℕ) → ◌≡◌ {A = Log} (slice_index_or (replicate n []) i []) []
none_kept zero i = refl
none_kept (suc n) zero = refl
none_kept (suc n) (suc i) = none_kept n i
