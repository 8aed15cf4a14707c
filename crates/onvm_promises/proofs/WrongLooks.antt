-- Wrong cores that look for room where there is none to find: one looks at the cell that it filled itself, and takes the
-- output ring for full, and one looks again and again.
use Rattle.std.proofs.Common.{◌≢◌, ℕ, ◌%◌, ◌+◌, ◌^◌, [], ◌∷◌, ◌++◌, arith, Option, None}
use Rattle.onvm_base.specs.declared.ids.FnId.{FnId}
use Rattle.onvm_base.specs.declared.ids.RingId.TheVariants.{Output, Mail}
use Rattle.onvm_base.specs.declared.outcome.Record.{Record}
use Rattle.onvm_core.specs.declared.layout.Word.TheVariants.{Cell, Weight}
use Rattle.onvm_core.specs.declared.step.Act.TheVariants.{Look, Push}
use Rattle.onvm_core.specs.declared.step.Item.TheVariants.{Number}
use Rattle.onvm_core.specs.Logs.{Hand, Log, Setting, log_of, push_count}
use Rattle.onvm_core.proofs.Walk.{f, walk}
use Rattle.onvm_core.proofs.WalkLogs as one_frame
use Rattle.onvm_promises.specs.Passes.{IsCorePass, IsServed}
use Rattle.onvm_promises.specs.Rests.{AreLooks, RestsHandling}

looks_before : (setting : Setting) (newer log : Log) → AreLooks setting (newer ++ log) → AreLooks setting log
looks_before setting [] log are = are
looks_before setting (act ∷ newer) log are = looks_before setting newer log are.1

-- A core looks at another cell than that of its next push

pub looks_elsewhere : (setting : Setting) (role : ℕ) (kept : Option Hand) (f : FnId) (at seen : ℕ)
    (told : Option Record) (newer before : Log)
    → at ≢ push_count (Output f) before % setting.layout.output
    → ¬ RestsHandling setting role kept (newer ++ Look (Cell (Output f) at) seen told ∷ before)
looks_elsewhere setting role kept f at seen told newer before other rests =
    other (looks_before setting newer (Look (Cell (Output f) at) seen told ∷ before) rests.looks).0

-- it pushes on cell 0, sees it filled, and ends the service though 127 cells are free
not_by_its_own_cell : ¬ IsCorePass one_frame.setting 2 []
    (Push (Mail f) (Number (2 ^ 40 + 100)) ∷ Look (Cell (Output f) 0) 1 None ∷ log_of 2 walk)
not_by_its_own_cell pass =
    looks_elsewhere one_frame.setting 2 None f 0 1 None (Push (Mail f) (Number (2 ^ 40 + 100)) ∷ []) (log_of 2 walk)
    (λ e. omega (arith, e)) pass.rests

-- A core that found no room looks again in the same pass: each look would count as a yield

not_again : (before : Log)
    → ¬ IsServed one_frame.setting f before
    (Look (Cell (Output f) 1) 2 None ∷ Look (Cell (Output f) 1) 2 None ∷ Look (Weight f) 0 None ∷ [])
not_again before served = omega (arith, served.barred_once)
