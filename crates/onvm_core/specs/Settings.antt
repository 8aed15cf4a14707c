-- How many frames a run has, and what its plan, its layout and its frames have to do with one another.
use Rattle.std.specs.Prelude.{ℕ, ◌+◌, ◌*◌, ◌<◌, ◌≤◌, length, All}
use Rattle.onvm_base.specs.declared.limits.TheConstants.{MAX_HOPS, MAX_PORT_FRAMES}
use Rattle.onvm_core.specs.declared.parcel.TheConstants.{MAX_PLACE}
use Rattle.onvm_core.specs.Layouts.{IsLayoutOf}
use Rattle.onvm_core.specs.Logs.{Setting, IsNumbered, entries_of_port}
use Rattle.onvm_core.specs.Potential.{sum_below}

-- how many frames the ports have together
abbrev pub frame_count : Setting → ℕ
frame_count setting = sum_below (λ port. length (entries_of_port port setting.entries)) setting.layout.ports

-- so few that crumbs can tell all entries of a journal apart: a frame is handled MAX_HOPS times at most
abbrev pub HasFewFrames : Setting → Type 0
HasFewFrames setting = MAX_HOPS * frame_count setting ≤ MAX_PLACE + 1

-- what a run may be of. Which chain a frame has, and which hash, its rules and its bytes say
pub record IsSetting (setting : Setting) : Type 0 where
  pub layout : IsLayoutOf setting.plan setting.layout
  pub numbered : IsNumbered setting
  pub ports : All (λ e. e.frame.port.0 < setting.layout.ports) setting.entries
  pub chains : All (λ e. e.chain.0 < length setting.plan.chains) setting.entries
  pub few : (port : ℕ) → length (entries_of_port port setting.entries) ≤ MAX_PORT_FRAMES
