-- What a status tells of a command, and where a failed take is told.
use Rattle.std.specs.Borrow.{Bor}
use Rattle.std.proofs.Common.{◌≡◌, ◌≢◌, ◌∙◌, ◌⊎◌, ◌+◌, refl, sym, ap, subst, inl, inr, ℕ, zero, suc, List, [], ◌∷◌, ◌++◌, length, Option, Some, None, slice_get, arith}
use Rattle.onvm_base.specs.declared.frame.Frame.{Frame}
use Rattle.onvm_base.specs.declared.ids.PortId.{PortId}
use Rattle.onvm_base.specs.declared.plan.Plan.{Plan}
use Rattle.onvm_base.specs.declared.status.Status.{Status}
use Rattle.onvm_base.specs.declared.status.Status.TheVariants as status
use Rattle.onvm_host.specs.Deeds.{Amounts, Deed}
use Rattle.onvm_host.specs.Files.{Entries, file_of}
use Rattle.ingress.specs.Limits.{IsSoundSoFar}
use Rattle.chain_file.specs.declared.fault.FileFault.{FileFault}
use Rattle.rx_feed.specs.Standing.{Standing}
use Rattle.rx_feed.specs.declared.fault.FeedFault.{FeedFault}
use Rattle.rx_feed.specs.declared.fault.FeedFault.TheVariants as feed
use Rattle.command_words.specs.Commands.{IsCommand}
use Rattle.command_words.specs.declared.capture.CaptureWord.{CaptureWord}
use Rattle.command_words.specs.declared.capture.CaptureWord.TheVariants.{File, Generated}
use Rattle.command_words.specs.declared.command.Command.{Command}
use Rattle.onvm_top.specs.Answers.{HasBadCapture, IsAccepted, IsNoPlan, IsTrueStatus, IsUnlessStopped, OnCommand}
use Rattle.onvm_top.specs.Calls.{BringsTo, CannotOpen, ReadsTo, Shuts}
use Rattle.onvm_top.specs.Captures.{AreGood, IsFileOf, IsLowestBad}
use Rattle.onvm_top.specs.Chains.{HasFaultyPlan, HasPlan}
use Rattle.onvm_top.specs.Fault.{fault_of_feed}
use Rattle.onvm_top.specs.Stops.{IsFaultOfPort, StopsAtCaptures}
use Rattle.onvm_top.specs.declared.fault.Fault.{Fault}
use Rattle.onvm_top.specs.declared.fault.Fault.TheVariants.{ReadCapture}
use Rattle.onvm_top.proofs.Causes.{good_or_lowest, plan_or_fault}
use Rattle.onvm_top.proofs.OneCommand.{AreGood-same, HasFaultyPlan-same, same_command}

-- What a status tells of a command

-- one reading of the words has a plan, and another a faulty one
plan_and_fault : (words guests : List (List ℕ)) (command other : Command) (files : Entries) (plan : Plan)
    (cause : FileFault)
    → IsCommand words command → IsCommand words other → HasPlan command guests files plan
    → HasFaultyPlan other guests files cause
    → ⊥
plan_and_fault words guests command other files plan cause is other_is read refused =
    plan_or_fault command.chain.now (length command.captures.items) guests files plan cause read
    (HasFaultyPlan-same other command guests files cause (same_command words other command other_is is) refused)

-- one reading has good captures, and another a bad one
good_and_bad : (words : List (List ℕ)) (command other : Command) (files : Entries) (frames : ℕ → List Frame) (port : ℕ)
    → IsCommand words command → IsCommand words other → AreGood (Some files) command.captures.items frames
    → IsLowestBad files other.captures.items port → ⊥
good_and_bad words command other files frames port is other_is good lowest =
    good_or_lowest files other.captures.items frames port
    (AreGood-same command other (Some files) frames (same_command words command other is other_is) good) lowest

-- an accepted run has no fault in its chain file
accepted_or_fault : (words guests : List (List ℕ)) (told : Option Entries) (command : Command) (files : Entries)
    (cause : FileFault)
    → IsAccepted words guests told → IsCommand words command → told ≡ Some files
    → HasFaultyPlan command guests files cause
    → ⊥
accepted_or_fault words guests told command files cause (other, other_is, plan, plan_is, more, rest) is known refused =
    plan_and_fault words guests other command files plan cause other_is is (plan_is files known) refused

-- and no bad capture
accepted_or_bad : (words guests : List (List ℕ)) (told : Option Entries) (command : Command) (files : Entries)
    (port : ℕ)
    → IsAccepted words guests told → IsCommand words command → told ≡ Some files
    → IsLowestBad files command.captures.items port
    → ⊥
accepted_or_bad words guests told command files port (other, other_is, plan, plan_is, frames, good) is known lowest =
    let P : Option Entries → Type 0 = λ t. AreGood t other.captures.items frames in
    good_and_bad words other command files frames port other_is is (subst P known good) lowest

-- a run without a plan has none
fault_or_plan : (words guests : List (List ℕ)) (told : Option Entries) (command : Command) (files : Entries)
    (plan : Plan)
    → IsNoPlan words guests told → IsCommand words command → told ≡ Some files → HasPlan command guests files plan → ⊥
fault_or_plan words guests told command files plan (other, other_is, cause, cause_is) is known read =
    plan_and_fault words guests command other files plan cause is other_is read (cause_is files known)

-- a run with a bad capture has a plan
bad_or_fault : (words guests : List (List ℕ)) (told : Option Entries) (command : Command) (files : Entries)
    (cause : FileFault)
    → HasBadCapture words guests told → IsCommand words command → told ≡ Some files
    → HasFaultyPlan command guests files cause
    → ⊥
bad_or_fault words guests told command files cause (other, other_is, plan, plan_is, more, rest) is known refused =
    plan_and_fault words guests other command files plan cause other_is is (plan_is files known) refused

-- and no good captures
bad_or_good : (words guests : List (List ℕ)) (told : Option Entries) (command : Command) (files : Entries)
    (frames : ℕ → List Frame)
    → HasBadCapture words guests told → IsCommand words command → told ≡ Some files
    → AreGood told command.captures.items frames
    → ⊥
bad_or_good words guests told command files frames (other, other_is, plan, plan_is, port, lowest) is known good =
    let P : Option Entries → Type 0 = λ t. AreGood t command.captures.items frames in
    good_and_bad words command other files frames port is other_is (subst P known good) (lowest files known)

pub no_plan : (words guests : List (List ℕ)) (told told_now : Option Entries) (answer : Status)
    → IsTrueStatus words guests told told_now answer
    → OnCommand words told (λ command files. (cause : FileFault)
    → HasFaultyPlan command guests files cause → IsUnlessStopped status.Plan answer)
no_plan words guests told told_now status.Done true_of command is files known cause refused =
    absurd (accepted_or_fault words guests told command files cause true_of is known refused)
no_plan words guests told told_now status.Words true_of command is files known cause refused =
    absurd (true_of.0 command is)
no_plan words guests told told_now status.Plan true_of command is files known cause refused = inl refl
no_plan words guests told told_now status.Capture true_of command is files known cause refused =
    absurd (bad_or_fault words guests told command files cause true_of.0 is known refused)
no_plan words guests told told_now status.Read true_of command is files known cause refused = inr (inl refl)
no_plan words guests told told_now status.Write true_of command is files known cause refused =
    absurd (accepted_or_fault words guests told command files cause true_of is known refused)
no_plan words guests told told_now status.Memory true_of command is files known cause refused = inr (inr refl)

pub bad_capture : (words guests : List (List ℕ)) (told told_now : Option Entries) (answer : Status)
    → IsTrueStatus words guests told told_now answer
    → OnCommand words told (λ command files. (plan : Plan) (port : ℕ)
    → HasPlan command guests files plan → IsLowestBad files command.captures.items port
    → IsUnlessStopped status.Capture answer)
bad_capture words guests told told_now status.Done true_of command is files known plan port read lowest =
    absurd (accepted_or_bad words guests told command files port true_of is known lowest)
bad_capture words guests told told_now status.Words true_of command is files known plan port read lowest =
    absurd (true_of.0 command is)
bad_capture words guests told told_now status.Plan true_of command is files known plan port read lowest =
    absurd (fault_or_plan words guests told command files plan true_of.0 is known read)
bad_capture words guests told told_now status.Capture true_of command is files known plan port read lowest = inl refl
bad_capture words guests told told_now status.Read true_of command is files known plan port read lowest =
    inr (inl refl)
bad_capture words guests told told_now status.Write true_of command is files known plan port read lowest =
    absurd (accepted_or_bad words guests told command files port true_of is known lowest)
bad_capture words guests told told_now status.Memory true_of command is files known plan port read lowest =
    inr (inr refl)

pub complete : (words guests : List (List ℕ)) (told told_now : Option Entries) (answer : Status)
    → IsTrueStatus words guests told told_now answer → answer ≢ status.Read → answer ≢ status.Write
    → OnCommand words told (λ command files. (plan : Plan) (frames : ℕ → List Frame)
    → HasPlan command guests files plan → AreGood told command.captures.items frames
    → (answer ≡ status.Done) ⊎ (answer ≡ status.Memory))
complete words guests told told_now status.Done true_of reads writes command is files known plan frames read good =
    inl refl
complete words guests told told_now status.Words true_of reads writes command is files known plan frames read good =
    absurd (true_of.0 command is)
complete words guests told told_now status.Plan true_of reads writes command is files known plan frames read good =
    absurd (fault_or_plan words guests told command files plan true_of.0 is known read)
complete words guests told told_now status.Capture true_of reads writes command is files known plan frames read good =
    absurd (bad_or_good words guests told command files frames true_of.0 is known good)
complete words guests told told_now status.Read true_of reads writes command is files known plan frames read good =
    absurd (reads refl)
complete words guests told told_now status.Write true_of reads writes command is files known plan frames read good =
    absurd (writes refl)
complete words guests told told_now status.Memory true_of reads writes command is files known plan frames read good =
    inr refl

-- Where a failed take is told

abbrev name_in : Option CaptureWord → List ℕ
name_in None = []
name_in (Some (File name)) = name.now
name_in (Some (Generated seed count)) = []

-- what holds of each port that is shut holds of this one
shut_at : (Has : ℕ → List ℕ → Amounts → Type 0) (start : ℕ) (captures : List CaptureWord) (deeds : List Deed) (port : ℕ)
    (name : Bor (List ℕ))
    → Shuts Has start captures deeds → slice_get captures port ≡ Some (File name)
    → (takes : Amounts) × Has (start + port) name.now takes
shut_at Has start [] deeds port name shuts is = cc
shut_at Has start (File word ∷ captures) deeds zero name shuts is =
    let P : ℕ → Type 0 = λ p. Has p name.now shuts.0 in
    let Q : List ℕ → Type 0 = λ n. Has start n shuts.0 in
    (shuts.0, subst P (omega arith) (subst Q (ap name_in is) shuts.3))
shut_at Has start (File word ∷ captures) deeds (suc port) name shuts is =
    let later = shut_at Has (start + 1) captures shuts.1 port name shuts.4 is in
    let P : ℕ → Type 0 = λ p. Has p name.now later.0 in
    (later.0, subst P (omega arith) later.1)
shut_at Has start (Generated seed count ∷ captures) deeds zero name shuts is = cc
shut_at Has start (Generated seed count ∷ captures) deeds (suc port) name shuts is =
    let later = shut_at Has (start + 1) captures deeds port name shuts is in
    let P : ℕ → Type 0 = λ p. Has p name.now later.0 in
    (later.0, subst P (omega arith) later.1)

-- the bytes before a failed take of this port are sound
abbrev IsSoundBefore : List CaptureWord → Entries → ℕ → Type 0
IsSoundBefore captures files port =
    (name front rest : List ℕ) × IsFileOf captures port name × (file_of name files ≡ Some (front ++ rest))
    × IsSoundSoFar front

sound_before : (captures : List CaptureWord) (files : Entries) (deeds : List Deed) (standings : ℕ → Standing) (port : ℕ)
    (name : List ℕ)
    → ReadsTo (Some files) standings captures deeds → IsFileOf captures port name
    → (standings port).fault ≡ Some feed.Read → IsSoundBefore captures files port
sound_before captures files deeds standings port name (first, rest, split, opens, shuts) (word, is, named) failed =
    let brought = shut_at (λ p. BringsTo (Some files) (standings p)) 0 captures rest port word shuts is in
    let P : ℕ → Type 0 = λ p. BringsTo (Some files) (standings p) word.now brought.0 in
    let here : BringsTo (Some files) (standings port) word.now brought.0 = subst P (omega arith) brought.1 in
    let file = here.file files refl in
    (word.now, (standings port).taken, file.0, (word, is, refl), file.1, (here.stands.read failed).0)

abbrev port_of : Fault → ℕ
port_of (ReadCapture port) = port.0
port_of fault = 0

-- the fault of a failed take, told of its port
read_fault : (port other : PortId) (cause : FeedFault) → ReadCapture port ≡ fault_of_feed other cause
    → (cause ≡ feed.Read) × (other.0 ≡ port.0)
read_fault port other feed.Read is = (refl, ap port_of (sym is))
read_fault port other (feed.Capture fault) is = cc
read_fault port other feed.TooMany is = cc

told_of_port : (captures : List CaptureWord) (files : Entries) (deeds : List Deed) (port : PortId)
    (standings : ℕ → Standing)
    → ReadsTo (Some files) standings captures deeds
    → IsFaultOfPort (Some files) captures standings (ReadCapture port)
    → IsSoundBefore captures files port.0
told_of_port captures files deeds port standings reads told =
    let same = read_fault port told.port told.cause told.fault_is in
    let P : ℕ → Type 0 = IsSoundBefore captures files in
    subst P same.1
    (sound_before captures files deeds standings told.port.0 told.name reads told.file
    (told.stands ∙ ap (λ (cause : FeedFault). Some cause) same.0))

pub unread : (captures : List CaptureWord) (files : Entries) (deeds : List Deed) (port : PortId)
    → StopsAtCaptures captures (Some files) deeds (ReadCapture port)
    → CannotOpen captures port.0 deeds
    ⊎ ((name front rest : List ℕ) × IsFileOf captures port.0 name × (file_of name files ≡ Some (front ++ rest))
    × IsSoundSoFar front)
unread captures files deeds port (inl (other, is, cannot)) =
    let P : ℕ → Type 0 = λ p. CannotOpen captures p deeds in
    inl (subst P (ap port_of (sym is)) cannot)
unread captures files deeds port (inr (inl (memory, stops))) = cc
unread captures files deeds port (inr (inr (standings, reads, inl memory))) = cc
unread captures files deeds port (inr (inr (standings, reads, inr told))) =
    inr (told_of_port captures files deeds port standings reads told)
