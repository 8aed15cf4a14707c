-- The records of a list of steps, and the frames that were sent in it.
use Rattle.std.specs.Prelude.{List, [], ◌∷◌, ◌++◌, Some}
use Rattle.onvm_base.specs.declared.frame.SentFrame.{SentFrame}
use Rattle.onvm_base.specs.declared.outcome.Outcome.TheVariants.{Sent}
use Rattle.onvm_base.specs.declared.outcome.Record.{Record}
use Rattle.onvm_core.specs.declared.step.Act.{Act}
use Rattle.onvm_core.specs.declared.step.Act.TheVariants.{Give, Look}
use Rattle.onvm_core.specs.History.{History}
use Rattle.onvm_core.specs.Logs.{Log}

-- what an act records
abbrev pub records_of_act : Act → List Record
records_of_act (Give buf outcome parcel) = record { frame = parcel.frame; outcome = outcome } ∷ []
records_of_act (Look word seen (Some told)) = told ∷ []
records_of_act _ = []

-- the records of these steps, the oldest first
abbrev pub records_in : History → List Record
records_in [] = []
records_in (step ∷ before) = records_in before ++ records_of_act step.act

-- what acts tell, the oldest first: those of a history, and those of a role's log
abbrev pub gathered : {A : Type 0} → (Act → List A) → History → List A
gathered tell [] = []
gathered tell (step ∷ before) = gathered tell before ++ tell step.act

abbrev pub gathered_of_log : {A : Type 0} → (Act → List A) → Log → List A
gathered_of_log tell [] = []
gathered_of_log tell (act ∷ before) = gathered_of_log tell before ++ tell act

-- what an act sends
abbrev pub sent_frames_of_act : Act → List SentFrame
sent_frames_of_act (Give buf (Sent port) parcel) =
    record { frame = parcel.frame; stamp = parcel.stamp; packet = parcel.packet } ∷ []
sent_frames_of_act _ = []

-- the frames that these steps sent, the oldest first
abbrev pub sent_frames_in : History → List SentFrame
sent_frames_in [] = []
sent_frames_in (step ∷ before) = sent_frames_in before ++ sent_frames_of_act step.act
