-- What the status of a run tells, by where it ended.
use Rattle.std.proofs.Common.{◌≡◌, ◌∙◌, sym, ap, subst, refl, inl, inr, ℕ, List, ◌++◌, Option, Some, None, append_assoc}
use Rattle.std.proofs.lemmas.Option.{none-some, same_Some}
use Rattle.onvm_base.specs.declared.plan.Plan.{Plan}
use Rattle.onvm_base.specs.declared.status.Status.TheVariants as status
use Rattle.onvm_host.specs.Deeds.{Amounts, Deed}
use Rattle.onvm_host.specs.Files.{Entries}
use Rattle.pcap_in.specs.declared.pull.PcapFault.{PcapFault}
use Rattle.rx_feed.specs.Limits.{PassesLimit}
use Rattle.rx_feed.specs.Standing.{Standing}
use Rattle.rx_feed.specs.declared.fault.FeedFault.{FeedFault}
use Rattle.rx_feed.specs.declared.fault.FeedFault.TheVariants as feed
use Rattle.chain_file.specs.Guests.{names_of}
use Rattle.nf_api.specs.Acts.{Acts}
use Rattle.nf_api.specs.Tree.{Tree}
use Rattle.nf_api.specs.declared.guest.Guest.{Guest}
use Rattle.onvm_session.specs.declared.run.Run.{Run}
use Rattle.command_words.specs.Commands.{IsCommand}
use Rattle.command_words.specs.declared.capture.CaptureWord.{CaptureWord}
use Rattle.command_words.specs.declared.command.Command.{Command}
use Rattle.onvm_top.specs.Accounts.{IsDone, IsReplayed}
use Rattle.onvm_top.specs.Answers.{IsAccepted, IsTrueStatus}
use Rattle.onvm_top.specs.Calls.{BringsTo, ReadsTo}
use Rattle.onvm_top.specs.Captures.{IsBadCapture, IsLowestBad}
use Rattle.onvm_top.specs.Chains.{HasPlan}
use Rattle.onvm_top.specs.Fault.{fault_of_feed, status_of}
use Rattle.onvm_top.specs.Known.{OnTold}
use Rattle.onvm_top.specs.Stops.{IsFaultOfPort, IsStopped, IsStoppedEarly, IsStoppedLate, StopsAtCaptures, StopsAtChain, StopsAtOutput, StopsAtWrite}
use Rattle.onvm_top.specs.declared.fault.Fault.{Fault}
use Rattle.onvm_top.proofs.Shutting.{shut_at}

-- Bad captures

-- what passes a limit passes it with more behind it
passes_more : (taken rest : List ℕ) → PassesLimit taken → PassesLimit (taken ++ rest)
passes_more taken rest passes = (
  passes.0,
  passes.1 ++ rest,
  passes.2,
  ap (λ t. t ++ rest) passes.3 ∙ append_assoc passes.0 passes.1 rest,
  passes.4,
  passes.5,
)

-- a port that a faulty capture stopped has that capture
broken_is_bad : (files : Entries) (s : Standing) (name : List ℕ) (takes : Amounts) (fault : PcapFault)
    → s.fault ≡ Some (feed.Capture fault) → BringsTo (Some files) s name takes → IsBadCapture name files
broken_is_bad files s name takes fault stopped brings =
    let file = brings.file files refl in
    inl (
      fault,
      record {
        text = s.taken ++ file.0;
        frames = s.pulled;
        file = file.1;
        up_to = brings.stands.broken fault stopped file.0 file.2;
        within = brings.stands.within;
      },
    )

-- and so has one that was stopped by a limit
large_is_bad : (files : Entries) (s : Standing) (name : List ℕ) (takes : Amounts)
    → s.fault ≡ Some feed.TooMany → BringsTo (Some files) s name takes → IsBadCapture name files
large_is_bad files s name takes stopped brings =
    let file = brings.file files refl in
    inr record {
      text = s.taken ++ file.0;
      file = file.1;
      passes = passes_more s.taken file.0 (brings.stands.too_many stopped);
    }

-- the told port is the lowest whose capture is bad
lowest_of : (files : Entries) (captures : List CaptureWord) (standings : ℕ → Standing) (deeds : List Deed) (fault : Fault)
    → (at : IsFaultOfPort (Some files) captures standings fault)
    → ((name : List ℕ) (takes : Amounts) → BringsTo (Some files) (standings at.port.0) name takes → IsBadCapture name files)
    → ReadsTo (Some files) standings captures deeds
    → IsLowestBad files captures at.port.0
lowest_of files captures standings deeds fault at is_bad reads =
    let Has : ℕ → List ℕ → Amounts → Type 0 = λ port. BringsTo (Some files) (standings port) in
    let shut = shut_at Has captures at.port.0 reads.1 at.file.0 at.file.1 reads.4 in
    let Bad : List ℕ → Type 0 = λ name. IsBadCapture name files in
    record {
      name = at.name;
      file = at.file;
      bad = subst Bad at.file.2 (is_bad at.file.0.now shut.0 shut.1);
      lower = λ p less. ((standings p).pulled, (at.lower p less).1);
    }

-- the same where files may not be told
lowest_told : (told : Option Entries) (captures : List CaptureWord) (standings : ℕ → Standing) (deeds : List Deed)
    (fault : Fault) → (at : IsFaultOfPort told captures standings fault)
    → ((files : Entries) (name : List ℕ) (takes : Amounts) → BringsTo (Some files) (standings at.port.0) name takes
    → IsBadCapture name files)
    → ReadsTo told standings captures deeds
    → OnTold told (λ files. IsLowestBad files captures at.port.0)
lowest_told None captures standings deeds fault at is_bad reads = λ files told_is. absurd (none-some files told_is)
lowest_told (Some known) captures standings deeds fault at is_bad reads = λ files told_is.
    let Lowest : Entries → Type 0 = λ fs. IsLowestBad fs captures at.port.0 in
    subst Lowest (same_Some known files told_is) (lowest_of known captures standings deeds fault at (is_bad known) reads)

-- Statuses

module _ (words guests : List (List ℕ)) (told : Option Entries) where
  -- where a run was stopped at the chain file
  answer_of_chain : (command : Command) (deeds : List Deed) (fault : Fault) → IsCommand words command
      → StopsAtChain command guests told deeds fault
      → IsTrueStatus words guests told told (status_of fault)
  answer_of_chain command deeds fault is (inl (cause, fault_is, reads, refused)) =
      let Tells : Fault → Type 0 = λ f. IsTrueStatus words guests told told (status_of f) in
      subst Tells (sym fault_is) ((command, is, cause, refused), refl)
  answer_of_chain command deeds fault is (inr (inl (fault_is, unread))) =
      let Tells : Fault → Type 0 = λ f. IsTrueStatus words guests told told (status_of f) in
      subst Tells (sym fault_is) ((command, is), refl)
  answer_of_chain command deeds fault is (inr (inr (fault_is, reads))) =
      let Tells : Fault → Type 0 = λ f. IsTrueStatus words guests told told (status_of f) in
      subst Tells (sym fault_is) refl

  -- where the fault of a port stopped it
  answer_of_port : (command : Command) (plan : Plan) (standings : ℕ → Standing) (deeds : List Deed) (fault : Fault)
      → IsCommand words command → OnTold told (λ files. HasPlan command guests files plan)
      → ReadsTo told standings command.captures.items deeds
      → (at : IsFaultOfPort told command.captures.items standings fault) → (cause : FeedFault)
      → (standings at.port.0).fault ≡ Some cause
      → IsTrueStatus words guests told told (status_of (fault_of_feed at.port cause))
  answer_of_port command plan standings deeds fault is has reads at feed.Read stopped = ((command, is), refl)
  answer_of_port command plan standings deeds fault is has reads at (feed.Capture broken) stopped = (
    (
      command,
      is,
      plan,
      has,
      at.port.0,
      lowest_told told command.captures.items standings deeds fault at
          (λ files name takes. broken_is_bad files (standings at.port.0) name takes broken stopped) reads,
    ),
    refl,
  )
  answer_of_port command plan standings deeds fault is has reads at feed.TooMany stopped = (
    (
      command,
      is,
      plan,
      has,
      at.port.0,
      lowest_told told command.captures.items standings deeds fault at
          (λ files name takes. large_is_bad files (standings at.port.0) name takes stopped) reads,
    ),
    refl,
  )

  -- where it was stopped at the captures
  answer_of_captures : (command : Command) (plan : Plan) (deeds : List Deed) (fault : Fault)
      → IsCommand words command → OnTold told (λ files. HasPlan command guests files plan)
      → StopsAtCaptures command.captures.items told deeds fault
      → IsTrueStatus words guests told told (status_of fault)
  answer_of_captures command plan deeds fault is has (inl (port, fault_is, unopened)) =
      let Tells : Fault → Type 0 = λ f. IsTrueStatus words guests told told (status_of f) in
      subst Tells (sym fault_is) ((command, is), refl)
  answer_of_captures command plan deeds fault is has (inr (inl (fault_is, stops))) =
      let Tells : Fault → Type 0 = λ f. IsTrueStatus words guests told told (status_of f) in
      subst Tells (sym fault_is) refl
  answer_of_captures command plan deeds fault is has (inr (inr (standings, reads, inl fault_is))) =
      let Tells : Fault → Type 0 = λ f. IsTrueStatus words guests told told (status_of f) in
      subst Tells (sym fault_is) refl
  answer_of_captures command plan deeds fault is has (inr (inr (standings, reads, inr at))) =
      let Tells : Fault → Type 0 = λ f. IsTrueStatus words guests told told (status_of f) in
      subst Tells (sym at.fault_is)
      (answer_of_port command plan standings deeds fault is has reads at at.cause at.stands)

  answer_of_early : (deeds : List Deed) (fault : Fault) → IsStoppedEarly words guests told deeds fault
      → IsTrueStatus words guests told told (status_of fault)
  answer_of_early deeds fault (inl (fault_is, no_command, no_deeds)) =
      let Tells : Fault → Type 0 = λ f. IsTrueStatus words guests told told (status_of f) in
      subst Tells (sym fault_is) (no_command, refl)
  answer_of_early deeds fault (inr (inl (fault_is, no_deeds))) =
      let Tells : Fault → Type 0 = λ f. IsTrueStatus words guests told told (status_of f) in
      subst Tells (sym fault_is) refl
  answer_of_early deeds fault (inr (inr (inl (command, is, stops)))) = answer_of_chain command deeds fault is stops
  answer_of_early deeds fault (inr (inr (inr (command, is, plan, (first, rest, split, read, stops))))) =
      answer_of_captures command plan.0 rest fault is plan.1 stops

  -- where it was stopped at the output, behind an accepted input
  answer_of_write : (told_now : Option Entries) (name text : List ℕ) (deeds : List Deed) (fault : Fault)
      → IsAccepted words guests told → StopsAtWrite name text told told_now deeds fault
      → IsTrueStatus words guests told told_now (status_of fault)
  answer_of_write told_now name text deeds fault accepted (inl (fault_is, uncreated, same)) =
      let Tells : Fault → Type 0 = λ f. IsTrueStatus words guests told told_now (status_of f) in
      subst Tells (sym fault_is) accepted
  answer_of_write told_now name text deeds fault accepted (inr (inl (fault_is, no_deeds, same))) =
      let Tells : Fault → Type 0 = λ f. IsTrueStatus words guests told told_now (status_of f) in
      subst Tells (sym fault_is) same
  answer_of_write told_now name text deeds fault accepted (inr (inr (fault_is, unfinished, left))) =
      let Tells : Fault → Type 0 = λ f. IsTrueStatus words guests told told_now (status_of f) in
      subst Tells (sym fault_is) accepted

  -- there, or at the report behind it
  answer_of_output : (told_now : Option Entries) (name text report said : List ℕ) (deeds : List Deed) (fault : Fault)
      → IsAccepted words guests told → StopsAtOutput name text report told told_now said deeds fault
      → IsTrueStatus words guests told told_now (status_of fault)
  answer_of_output told_now name text report said deeds fault accepted (inl (nothing_said, write)) =
      answer_of_write told_now name text deeds fault accepted write
  answer_of_output told_now name text report said deeds fault accepted (inr (fault_is, calls, left, front)) =
      let Tells : Fault → Type 0 = λ f. IsTrueStatus words guests told told_now (status_of f) in
      subst Tells (sym fault_is) accepted

module _ {V : Type 0} {F : V → Type 0} (may_tell : ℕ → Type 0) (cost_may_take : ℕ → ℕ → Type 0)
    (guest_acts : Guest V F → Acts) (guest_state : Guest V F → Tree)
    (words : List (List ℕ)) (guests : List (Guest V F)) where
  -- the command of a replayed run, its chain file and its captures were accepted
  accepted_of : (told : Option Entries) (command : Command) (plan : Plan) (deeds : List Deed) (run : Run)
      → IsReplayed may_tell cost_may_take guest_acts guest_state words guests told command plan deeds run
      → IsAccepted words (names_of guests) told
  accepted_of told command plan deeds run replayed =
      (command, replayed.is_command, plan, replayed.plan_is, replayed.calls.4.frames, replayed.calls.4.good)

  answer_of_late : (told told_now : Option Entries) (said : List ℕ) (deeds : List Deed) (fault : Fault)
      → IsStoppedLate may_tell cost_may_take guest_acts guest_state words guests told told_now said deeds fault
      → IsTrueStatus words (names_of guests) told told_now (status_of fault)
  answer_of_late told told_now said deeds fault late =
      let Tells : Fault → Type 0 = λ f. IsTrueStatus words (names_of guests) told told_now (status_of f) in
      let accepted = accepted_of told late.command late.plan late.read late.run late.replayed in
      elim late.stops [
        | inl memory ↦ subst Tells (sym memory.0) memory.2
        | inr reported ↦
            answer_of_output words (names_of guests) told told_now _ _ reported.0 said late.writes fault accepted reported.2
      ]

  -- a fault that stops a run tells what its status tells
  pub IsTrueStatus-stopped : (told told_now : Option Entries) (said : List ℕ) (deeds : List Deed) (fault : Fault)
      → IsStopped may_tell cost_may_take guest_acts guest_state words guests told told_now said deeds fault
      → IsTrueStatus words (names_of guests) told told_now (status_of fault)
  IsTrueStatus-stopped told told_now said deeds fault (inl (same, nothing_said, early)) =
      let Now : Option Entries → Type 0 = λ now. IsTrueStatus words (names_of guests) told now (status_of fault) in
      subst Now (sym same) (answer_of_early words (names_of guests) told deeds fault early)
  IsTrueStatus-stopped told told_now said deeds fault (inr late) = answer_of_late told told_now said deeds fault late

  -- of a run that is done its input was accepted
  pub IsTrueStatus-done : (told told_now : Option Entries) (said said_now : Option (List ℕ)) (deeds : List Deed) (run : Run)
      → IsDone may_tell cost_may_take guest_acts guest_state words guests told told_now said said_now deeds run
      → IsTrueStatus words (names_of guests) told told_now status.Done
  IsTrueStatus-done told told_now said said_now deeds run done =
      accepted_of told done.command done.plan done.read run done.replayed
