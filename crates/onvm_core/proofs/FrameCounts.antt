-- Where each frame's port is there, the ports have all frames.
use Rattle.std.proofs.Common.{◌≡◌, ℕ, ◌+◌, ◌<◌, inl, inr, List, [], ◌∷◌, length, refl, arith}
use Rattle.std.specs.Prelude.{◌==◌}
use Rattle.std.specs.List.{AllByRecursion}
use Rattle.std.proofs.lemmas.Bool.{cases_Bool}
use Rattle.std.proofs.lemmas.List.Elements.{recursion_from_All}
use Rattle.onvm_core.specs.declared.entry.Entry.{Entry}
use Rattle.onvm_core.specs.Logs.{Setting, entries_of_port}
use Rattle.onvm_core.specs.Potential.{sum_below}
use Rattle.onvm_core.specs.Settings.{IsSetting, frame_count}
use Rattle.onvm_core.proofs.Loads.{Each}
use Rattle.onvm_core.proofs.Sums.{pick, sum_none, sum_pick, sum_plus, sum_same}

abbrev of_port : List Entry → ℕ → ℕ
of_port entries port = length (entries_of_port port entries)

one_more : (port : ℕ) (e : Entry) (es : List Entry)
    → of_port (e ∷ es) port ≡ of_port es port + pick (e.frame.port.0 == port) 1
one_more port e es =
    elim (cases_Bool (e.frame.port.0 == port)) [ inl met ↦ rw met (omega arith) | inr unmet ↦ rw unmet (omega arith) ]

entries_counted : (ports : ℕ) (es : List Entry) → Each (λ (e : Entry). e.frame.port.0 < ports) es
    → sum_below (of_port es) ports ≡ length es
entries_counted ports [] known = sum_none (λ (port : ℕ). 0) ports (λ port less. refl)
entries_counted ports (e ∷ es) known =
    omega (
      arith,
      sum_same (of_port (e ∷ es)) (λ port. of_port es port + pick (e.frame.port.0 == port) 1) ports
          (λ port less. one_more port e es),
      sum_plus (of_port es) (λ port. pick (e.frame.port.0 == port) 1) ports,
      sum_pick (λ k. 1) e.frame.port.0 ports known.0,
      entries_counted ports es known.1,
    )

each_of : {A : Type 0} (P : A → Type 0) (xs : List A) → AllByRecursion P xs → Each P xs
each_of P [] all = tt
each_of P (x ∷ xs) all = (all.0, each_of P xs all.1)

pub frames_are_entries : (setting : Setting) → IsSetting setting → frame_count setting ≡ length setting.entries
frames_are_entries setting is =
    entries_counted setting.layout.ports setting.entries
    (each_of (λ (e : Entry). e.frame.port.0 < setting.layout.ports) setting.entries
    (recursion_from_All (λ (e : Entry). e.frame.port.0 < setting.layout.ports) setting.entries is.ports))
