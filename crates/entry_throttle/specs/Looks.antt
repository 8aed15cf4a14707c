-- The looks of a marks pass in its feeder's log.
use Rattle.std.specs.Prelude.{ℕ, List, [], ◌∷◌, None}
use Rattle.onvm_base.specs.declared.ids.RingId.{RingId}
use Rattle.onvm_base.specs.declared.ids.RingId.TheVariants.{Lane}
use Rattle.onvm_core.specs.declared.layout.Word.TheVariants.{Cell}
use Rattle.onvm_core.specs.declared.step.Act.{Act}
use Rattle.onvm_core.specs.declared.step.Act.TheVariants.{Look}
use Rattle.onvm_core.specs.Logs.{Log}
use Rattle.onvm_core.specs.Marks.{Finding, MarkEvents, MarkLook, MarkPhase, Pass}
use Rattle.onvm_core.specs.Marks.MarkEvent.{Passed}
use Rattle.onvm_core.specs.Marks.MarkPhase.{AtRest, InPass}

-- a feeder's lane of a function
abbrev pub lane : (function feeder : ℕ) → RingId
lane f feeder = Lane (record { 0 = f }) feeder

-- the act of a look that found this
abbrev pub act_of : (feeder : ℕ) → Finding → Act
act_of feeder found = Look (Cell (lane found.look.function feeder) found.look.cell) found.seen None

-- the acts of a pass that found this, both with the newest first
abbrev pub acts_of : (feeder : ℕ) → Pass → Log
acts_of feeder [] = []
acts_of feeder (found ∷ pass) = act_of feeder found ∷ acts_of feeder pass

-- what a pass looked for, the oldest first, and then these looks
abbrev pub looks_then : Pass → List MarkLook → List MarkLook
looks_then [] rest = rest
looks_then (found ∷ pass) rest = looks_then pass (found.look ∷ rest)

-- where a feeder stands that found this in a pass, and has these looks left
abbrev pub phase_in_pass : MarkEvents → Pass → List MarkLook → MarkPhase
phase_in_pass events [] rest = AtRest events
phase_in_pass events (found ∷ pass) [] = AtRest (Passed (found ∷ pass) ∷ events)
phase_in_pass events (found ∷ pass) (look ∷ later) = InPass look later (found ∷ pass) events
