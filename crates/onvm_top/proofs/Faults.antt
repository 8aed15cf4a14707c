-- The faults among the calls of a run that was stopped.
use Rattle.std.proofs.Common.{◌≡◌, ◌∙◌, sym, ap, subst, refl, inl, inr, ℕ, ◌<◌, Bool, true, false, List, [], ◌∷◌, ◌++◌, map, Option, Some, None, is_none, ◌||◌, arith}
use Rattle.onvm_base.specs.declared.status.Status.{Status}
use Rattle.onvm_base.specs.declared.status.Status.TheVariants as status
use Rattle.onvm_host.specs.Deeds.{Amounts, Deed, Said, faults_of, has_failed}
use Rattle.onvm_host.specs.Files.{Entries}
use Rattle.onvm_host.proofs.Deeds.{faults_of-append}
use Rattle.rx_feed.specs.Standing.{Standing, last_takes}
use Rattle.rx_feed.specs.declared.fault.FeedFault.{FeedFault}
use Rattle.rx_feed.specs.declared.fault.FeedFault.TheVariants as feed
use Rattle.chain_file.specs.Guests.{names_of}
use Rattle.nf_api.specs.Acts.{Acts}
use Rattle.nf_api.specs.Tree.{Tree}
use Rattle.nf_api.specs.declared.guest.Guest.{Guest}
use Rattle.command_words.specs.declared.capture.CaptureWord.{CaptureWord}
use Rattle.command_words.specs.declared.command.Command.{Command}
use Rattle.onvm_top.specs.Answers.{HasFault}
use Rattle.onvm_top.specs.Calls.{BringsTo, CannotFinish, CannotOpen, CannotReadChain, CannotSay, IsCutShort, ReadsTo}
use Rattle.onvm_top.specs.Fault.{fault_of_feed, status_of}
use Rattle.onvm_top.specs.Put.{SaysOnce}
use Rattle.onvm_top.specs.Stops.{IsFaultOfPort, IsStopped, IsStoppedEarly, IsStoppedLate, IsStoppedRun, StopsAtCaptures, StopsAtChain, StopsAtOutput, StopsAtWrite}
use Rattle.onvm_top.specs.declared.fault.Fault.{Fault}
use Rattle.onvm_top.proofs.Shutting.{counted, shut_at}

-- a call that failed is found
has_failed-last : (earlier : Amounts) → has_failed (earlier ++ None ∷ []) ≡ true
has_failed-last [] = refl
has_failed-last (amount ∷ earlier) =
    or_true (is_none amount) (has_failed (earlier ++ None ∷ [])) (has_failed-last earlier)
  where
    or_true : (a b : Bool) → b ≡ true → (a || b) ≡ true
    or_true true b e = refl
    or_true false b e = e

failed_cut : (bytes : ℕ) (amounts : Amounts) → IsCutShort bytes amounts → has_failed amounts ≡ true
failed_cut bytes amounts cut = ap has_failed cut.2 ∙ has_failed-last cut.0

faults_said : (says : Amounts) → has_failed says ≡ true → 0 < faults_of (map Said says)
faults_said [] e = let clash : false ≡ true = e in cc
faults_said (None ∷ says) e = omega arith
faults_said (Some count ∷ says) e = omega (arith, faults_said says e)

-- Where a run was stopped

faults_unread : (name : List ℕ) (deeds : List Deed) → CannotReadChain name deeds → 0 < faults_of deeds
faults_unread name deeds (inl failed) = omega (arith, ap faults_of failed)
faults_unread name deeds (inr (takes, is, reading)) =
    omega (arith, ap faults_of is, counted takes (ap has_failed reading.in_order ∙ has_failed-last reading.earlier))

faults_unopened : (captures : List CaptureWord) (port : ℕ) (deeds : List Deed) → CannotOpen captures port deeds
    → 0 < faults_of deeds
faults_unopened captures port deeds cannot =
    omega (
      arith,
      ap faults_of cannot.calls.2,
      faults_of-append cannot.calls.0 cannot.calls.1,
      ap faults_of cannot.calls.4.1,
    )

-- of a port whose source failed the last take failed
failed_brings : (told : Option Entries) (s : Standing) (name : List ℕ) (takes : Amounts) → s.fault ≡ Some feed.Read
    → BringsTo told s name takes → has_failed takes ≡ true
failed_brings told s name takes stopped brings =
    let last : last_takes s.complete s.fault ≡ None ∷ [] =
    ap (λ c. last_takes c s.fault) (brings.stands.read stopped).1 ∙ ap (last_takes false) stopped in
    ap has_failed (brings.in_order ∙ ap (λ t. brings.earlier ++ t) last) ∙ has_failed-last brings.earlier

faults_port : (told : Option Entries) (captures : List CaptureWord) (standings : ℕ → Standing) (deeds : List Deed)
    (fault : Fault) → (at : IsFaultOfPort told captures standings fault) → (standings at.port.0).fault ≡ Some feed.Read
    → ReadsTo told standings captures deeds
    → 0 < faults_of deeds
faults_port told captures standings deeds fault at stopped reads =
    let Has : ℕ → List ℕ → Amounts → Type 0 = λ port. BringsTo told (standings port) in
    let shut = shut_at Has captures at.port.0 reads.1 at.file.0 at.file.1 reads.4 in
    let some = shut.2 (failed_brings told (standings at.port.0) at.file.0.now shut.0 stopped shut.1) in
    omega (arith, ap faults_of reads.2, faults_of-append reads.0 reads.1, some)

faults_unfinished : (bytes : ℕ) (name : List ℕ) (deeds : List Deed) → CannotFinish bytes name deeds → 0 < faults_of deeds
faults_unfinished bytes name deeds (inl (puts, is, cut)) =
    omega (arith, ap faults_of is, counted puts (failed_cut bytes puts cut))
faults_unfinished bytes name deeds (inr (puts, is, unkept)) = omega (arith, ap faults_of is)

faults_unsaid : (bytes : ℕ) (deeds : List Deed) → CannotSay bytes deeds → 0 < faults_of deeds
faults_unsaid bytes deeds (says, is, cut) =
    omega (arith, ap faults_of is, faults_said says (failed_cut bytes says cut))

-- a status that blames a call has a fault among these
abbrev Blames : Status → List Deed → Type 0
Blames status.Done deeds = Unit
Blames status.Words deeds = Unit
Blames status.Plan deeds = Unit
Blames status.Capture deeds = Unit
Blames status.Read deeds = 0 < faults_of deeds
Blames status.Write deeds = 0 < faults_of deeds
Blames status.Memory deeds = Unit

some_fault : (answer : Status) (deeds : List Deed) → Blames answer deeds → HasFault answer → 0 < faults_of deeds
some_fault answer deeds blames (inl read) =
    let Of : Status → Type 0 = λ s. Blames s deeds in
    subst Of read blames
some_fault answer deeds blames (inr write) =
    let Of : Status → Type 0 = λ s. Blames s deeds in
    subst Of write blames

-- more calls
blames_first : (answer : Status) (first rest deeds : List Deed) → deeds ≡ first ++ rest → Blames answer first
    → Blames answer deeds
blames_first status.Done first rest deeds split blames = tt
blames_first status.Words first rest deeds split blames = tt
blames_first status.Plan first rest deeds split blames = tt
blames_first status.Capture first rest deeds split blames = tt
blames_first status.Read first rest deeds split blames =
    omega (arith, ap faults_of split, faults_of-append first rest, blames)
blames_first status.Write first rest deeds split blames =
    omega (arith, ap faults_of split, faults_of-append first rest, blames)
blames_first status.Memory first rest deeds split blames = tt

blames_rest : (answer : Status) (first rest deeds : List Deed) → deeds ≡ first ++ rest → Blames answer rest
    → Blames answer deeds
blames_rest status.Done first rest deeds split blames = tt
blames_rest status.Words first rest deeds split blames = tt
blames_rest status.Plan first rest deeds split blames = tt
blames_rest status.Capture first rest deeds split blames = tt
blames_rest status.Read first rest deeds split blames =
    omega (arith, ap faults_of split, faults_of-append first rest, blames)
blames_rest status.Write first rest deeds split blames =
    omega (arith, ap faults_of split, faults_of-append first rest, blames)
blames_rest status.Memory first rest deeds split blames = tt

blames_chain : (command : Command) (guests : List (List ℕ)) (told : Option Entries) (deeds : List Deed) (fault : Fault)
    → StopsAtChain command guests told deeds fault
    → Blames (status_of fault) deeds
blames_chain command guests told deeds fault (inl (cause, fault_is, reads, refused)) =
    let Of : Fault → Type 0 = λ f. Blames (status_of f) deeds in
    subst Of (sym fault_is) tt
blames_chain command guests told deeds fault (inr (inl (fault_is, unread))) =
    let Of : Fault → Type 0 = λ f. Blames (status_of f) deeds in
    subst Of (sym fault_is) (faults_unread command.chain.now deeds unread)
blames_chain command guests told deeds fault (inr (inr (fault_is, reads))) =
    let Of : Fault → Type 0 = λ f. Blames (status_of f) deeds in
    subst Of (sym fault_is) tt

blames_port : (told : Option Entries) (captures : List CaptureWord) (standings : ℕ → Standing) (deeds : List Deed)
    (fault : Fault) → (at : IsFaultOfPort told captures standings fault) → ReadsTo told standings captures deeds
    → (cause : FeedFault) → (standings at.port.0).fault ≡ Some cause
    → Blames (status_of (fault_of_feed at.port cause)) deeds
blames_port told captures standings deeds fault at reads feed.Read stopped =
    faults_port told captures standings deeds fault at stopped reads
blames_port told captures standings deeds fault at reads (feed.Capture broken) stopped = tt
blames_port told captures standings deeds fault at reads feed.TooMany stopped = tt

blames_captures : (captures : List CaptureWord) (told : Option Entries) (deeds : List Deed) (fault : Fault)
    → StopsAtCaptures captures told deeds fault
    → Blames (status_of fault) deeds
blames_captures captures told deeds fault (inl (port, fault_is, unopened)) =
    let Of : Fault → Type 0 = λ f. Blames (status_of f) deeds in
    subst Of (sym fault_is) (faults_unopened captures port.0 deeds unopened)
blames_captures captures told deeds fault (inr (inl (fault_is, stops))) =
    let Of : Fault → Type 0 = λ f. Blames (status_of f) deeds in
    subst Of (sym fault_is) tt
blames_captures captures told deeds fault (inr (inr (standings, reads, inl fault_is))) =
    let Of : Fault → Type 0 = λ f. Blames (status_of f) deeds in
    subst Of (sym fault_is) tt
blames_captures captures told deeds fault (inr (inr (standings, reads, inr at))) =
    let Of : Fault → Type 0 = λ f. Blames (status_of f) deeds in
    subst Of (sym at.fault_is) (blames_port told captures standings deeds fault at reads at.cause at.stands)

blames_early : (words guests : List (List ℕ)) (told : Option Entries) (deeds : List Deed) (fault : Fault)
    → IsStoppedEarly words guests told deeds fault
    → Blames (status_of fault) deeds
blames_early words guests told deeds fault (inl (fault_is, no_command, no_deeds)) =
    let Of : Fault → Type 0 = λ f. Blames (status_of f) deeds in
    subst Of (sym fault_is) tt
blames_early words guests told deeds fault (inr (inl (fault_is, no_deeds))) =
    let Of : Fault → Type 0 = λ f. Blames (status_of f) deeds in
    subst Of (sym fault_is) tt
blames_early words guests told deeds fault (inr (inr (inl (command, is, stops)))) =
    blames_chain command guests told deeds fault stops
blames_early words guests told deeds fault (inr (inr (inr (command, is, plan, (first, rest, split, read, stops))))) =
    blames_rest (status_of fault) first rest deeds split
    (blames_captures command.captures.items told rest fault stops)

blames_write : (name text : List ℕ) (told told_now : Option Entries) (deeds : List Deed) (fault : Fault)
    → StopsAtWrite name text told told_now deeds fault
    → Blames (status_of fault) deeds
blames_write name text told told_now deeds fault (inl (fault_is, uncreated, same)) =
    let Of : Fault → Type 0 = λ f. Blames (status_of f) deeds in
    let some : 0 < faults_of deeds = omega (arith, ap faults_of uncreated) in
    subst Of (sym fault_is) some
blames_write name text told told_now deeds fault (inr (inl (fault_is, no_deeds, same))) =
    let Of : Fault → Type 0 = λ f. Blames (status_of f) deeds in
    subst Of (sym fault_is) tt
blames_write name text told told_now deeds fault (inr (inr (fault_is, unfinished, front))) =
    let Of : Fault → Type 0 = λ f. Blames (status_of f) deeds in
    subst Of (sym fault_is) (faults_unfinished _ name deeds unfinished)

blames_output : (name text report : List ℕ) (told told_now : Option Entries) (said : List ℕ) (deeds : List Deed)
    (fault : Fault) → StopsAtOutput name text report told told_now said deeds fault
    → Blames (status_of fault) deeds
blames_output name text report told told_now said deeds fault (inl (nothing_said, write)) =
    blames_write name text told told_now deeds fault write
blames_output name text report told told_now said deeds fault
    (inr (fault_is, (first, rest, split, writes, unsaid), left, front)) =
    let Of : Fault → Type 0 = λ f. Blames (status_of f) deeds in
    subst Of (sym fault_is) (blames_rest status.Write first rest deeds split (faults_unsaid _ rest unsaid))

module _ {V : Type 0} {F : V → Type 0} (may_tell : ℕ → Type 0) (cost_may_take : ℕ → ℕ → Type 0)
    (guest_acts : Guest V F → Acts) (guest_state : Guest V F → Tree)
    (words : List (List ℕ)) (guests : List (Guest V F)) where
  blames_late : (told told_now : Option Entries) (said : List ℕ) (deeds : List Deed) (fault : Fault)
      → IsStoppedLate may_tell cost_may_take guest_acts guest_state words guests told told_now said deeds fault
      → Blames (status_of fault) deeds
  blames_late told told_now said deeds fault late =
      let Of : Fault → Type 0 = λ f. Blames (status_of f) deeds in
      elim late.stops [
        | inl memory ↦ subst Of (sym memory.0) tt
        | inr reported ↦
            blames_rest (status_of fault) late.read late.writes deeds late.in_order
            (blames_output _ _ reported.0 told told_now said late.writes fault reported.2)
      ]

  blames_stopped : (told told_now : Option Entries) (said : List ℕ) (deeds : List Deed) (fault : Fault)
      → IsStopped may_tell cost_may_take guest_acts guest_state words guests told told_now said deeds fault
      → Blames (status_of fault) deeds
  blames_stopped told told_now said deeds fault (inl (same, nothing_said, early)) =
      blames_early words (names_of guests) told deeds fault early
  blames_stopped told told_now said deeds fault (inr late) = blames_late told told_now said deeds fault late

  -- the calls that a line adds
  line_added : (old new : Option (List ℕ)) (before now : List Deed) (line : List ℕ) → SaysOnce old new before now line
      → (says : List Deed) × (now ≡ before ++ says)
  line_added old new before now line (inl all) = (map Said all.0, all.1)
  line_added old new before now line (inr part) = (map Said part.0, part.1)

  -- a stopped run whose status blames a call has a fault more
  pub faults_of-stopped : (told told_now : Option Entries) (said said_now : Option (List ℕ)) (before now : List Deed)
      (answer : Status) → IsStoppedRun may_tell cost_may_take guest_acts guest_state words guests told told_now said said_now before now answer
      → HasFault answer
      → faults_of before < faults_of now
  faults_of-stopped told told_now said said_now before now answer run blamed =
      let Of : Status → Type 0 = λ s. Blames s run.deeds in
      let blames = subst Of run.status_is (blames_stopped told told_now run.front run.deeds run.fault run.stopped) in
      let line = line_added run.between said_now (before ++ run.deeds) now _ run.line in
      omega (
        arith,
        ap faults_of line.1,
        faults_of-append (before ++ run.deeds) line.0,
        faults_of-append before run.deeds,
        some_fault answer run.deeds blames blamed,
      )
