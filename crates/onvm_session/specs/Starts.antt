-- What a session begins with: nothing was done.
use Rattle.std.specs.Prelude.{ℕ, ◌≡◌, Bool, true, false, []}
use Rattle.onvm_session.specs.Sessions.{Keeps}
use Rattle.onvm_session.specs.Views.{FinalView}

abbrev pub first_view : FinalView
first_view = record { lead = []; logs = λ role. []; counts = [] }

abbrev pub no_keeps : Keeps
no_keeps = record {
  feeder = record { outcomes = record { records = []; sent = [] }; posts = [] };
  core = record { yields = 0; lost = 0 };
  samples = [];
  ticks = [];
}

-- the moment before which no tick was made: in a serial session 0
abbrev pub FirstMoment : Bool → ℕ → Type 0
FirstMoment true first = first ≡ 0
FirstMoment false first = Unit {0}
