-- How many frames and records ports and feeders have, together.
use Rattle.std.proofs.Common.{◌≡◌, ℕ, zero, suc, ◌+◌, ◌<◌, Bool, true, false, List, [], ◌∷◌, length, length-append, refl, arith}
use Rattle.std.specs.Prelude.{All, ◌==◌, if◌then◌else◌}
use Rattle.std.proofs.lemmas.List.Elements.{All-head, All-tail}
use Rattle.onvm_core.specs.declared.entry.Entry.{Entry}
use Rattle.onvm_core.proofs.Sums.{pick, sum_pick, sum_plus, sum_same, sum_zero}
use Rattle.onvm_core.specs.Logs.{Setting, entries_of_port}
use Rattle.onvm_core.specs.Potential.{sum_below}
use Rattle.onvm_core.specs.Settings.{IsSetting, frame_count}
use Rattle.onvm_promises.specs.Kept.{FeederKeeps}
use Rattle.onvm_session.specs.Gathering.{feeders_kept}
use Rattle.onvm_session.specs.Sessions.{Keeps}

one_more_if : (b : Bool) (e : Entry) (es : List Entry)
    → length (if b then e ∷ es else es) ≡ pick b 1 + length es
one_more_if true e es = omega arith
one_more_if false e es = omega arith

entries_counted : (ports : ℕ) (entries : List Entry) → All (λ e. e.frame.port.0 < ports) entries
    → sum_below (λ port. length (entries_of_port port entries)) ports ≡ length entries
entries_counted ports [] within = sum_zero ports
entries_counted ports (e ∷ es) within =
    let first = All-head (λ (x : Entry). x.frame.port.0 < ports) e es within in
    let others = All-tail (λ (x : Entry). x.frame.port.0 < ports) e es within in
    let parts = sum_same (λ port. length (entries_of_port port (e ∷ es)))
    (λ port. pick (e.frame.port.0 == port) 1 + length (entries_of_port port es)) ports
    (λ port less. one_more_if (e.frame.port.0 == port) e (entries_of_port port es)) in
    let both = sum_plus (λ port. pick (e.frame.port.0 == port) 1) (λ port. length (entries_of_port port es)) ports in
    let one = sum_pick (λ port. 1) e.frame.port.0 ports first in
    let rest = entries_counted ports es others in
    omega (arith, parts, both, one, rest)

pub frames_counted : (setting : Setting) → IsSetting setting → frame_count setting ≡ length setting.entries
frames_counted setting is = entries_counted setting.layout.ports setting.entries is.ports

-- what feeders kept is as much as each of them kept
pub feeders_long : {A : Type 0} (part : FeederKeeps → List A) (keeps : ℕ → Keeps) (n : ℕ)
    → length (feeders_kept part keeps n) ≡ sum_below (λ feeder. length (part (keeps feeder).feeder)) n
feeders_long part keeps zero = refl
feeders_long part keeps (suc n) =
    omega (
      arith,
      length-append (feeders_kept part keeps n) (part (keeps n).feeder),
      feeders_long part keeps n,
    )
