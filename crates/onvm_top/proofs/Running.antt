-- A run put together from its parts: up to where it was done, and up to where it was stopped.
use Rattle.std.proofs.Common.{◌≡◌, ◌≤◌, ◌∙◌, sym, ap, subst, refl, inl, inr, ℕ, Bool, List, [], ◌++◌, length, Option, None, Result, Ok, Err, append_assoc}
use Rattle.std.specs.Prelude.{IfNone, IfOk, OnErr, OnOk}
use Rattle.std.specs.Io.KnownBytes.{Appends}
use Rattle.std.proofs.lemmas.List.{append-nil}
use Rattle.onvm_base.specs.declared.plan.Plan.{Plan}
use Rattle.onvm_base.specs.declared.status.Status.{Status}
use Rattle.onvm_host.specs.Deeds.{Deed}
use Rattle.onvm_host.specs.Files.{Entries}
use Rattle.onvm_host.proofs.Bytes.{Appends-nothing}
use Rattle.chain_file.specs.Guests.{names_of}
use Rattle.nf_api.specs.Acts.{Acts}
use Rattle.nf_api.specs.Tree.{Tree}
use Rattle.nf_api.specs.declared.guest.Guest.{Guest}
use Rattle.nf_catalog.specs.Units.{AreUnits, acts_of, state_of}
use Rattle.nf_catalog.specs.declared.unit.UnitOf.{UnitOf}
use Rattle.onvm_session.specs.RoleStates.{acts_by, start_by}
use Rattle.onvm_session.specs.declared.run.Run.{Run}
use Rattle.command_words.specs.Commands.{IsCommand}
use Rattle.command_words.specs.declared.capture.CaptureWord.{CaptureWord}
use Rattle.command_words.specs.declared.command.Command.{Command}
use Rattle.onvm_top.specs.Accounts.{IsDone, IsLeft, IsReplayed, IsReplayOf, IsReportOf, capture_text}
use Rattle.onvm_top.specs.Calls.{Adds, ReadsChain, Then}
use Rattle.onvm_top.specs.Chains.{HasPlan}
use Rattle.onvm_top.specs.Fault.{line_of, status_of}
use Rattle.onvm_top.specs.Known.{OnTold}
use Rattle.onvm_top.specs.Put.{SaysAll, SaysOnce, SaysPart}
use Rattle.onvm_top.specs.Stops.{IsStopped, IsStoppedRun, StopsAtCaptures, StopsAtChain, StopsAtOutput}
use Rattle.onvm_top.specs.declared.fault.Fault.{Fault}
use Rattle.onvm_top.specs.declared.fault.Fault.TheVariants.{Memory}

-- some deeds were added, and then others
joined : (before between now first rest : List Deed) → between ≡ before ++ first → now ≡ between ++ rest
    → now ≡ before ++ (first ++ rest)
joined before between now first rest one two = two ∙ ap (λ t. t ++ rest) one ∙ append_assoc before first rest

pub Adds-Then : (before between now : List Deed) (P Q : List Deed → Type 0) → Adds before between P → Adds between now Q
    → Adds before now (Then P Q)
Adds-Then before between now P Q one two =
    (one.0 ++ two.0, joined before between now one.0 two.0 one.1 two.1, (one.0, two.0, refl, one.2, two.2))

-- no deed was added
pub Adds-none : (before now : List Deed) (P : List Deed → Type 0) → now ≡ before → P [] → Adds before now P
Adds-none before now P same p = ([], same ∙ sym (append-nil before), p)

-- nothing was said
says_nothing : (said said_now : Option (List ℕ)) → said_now ≡ said → Appends said said_now []
says_nothing said said_now same =
    let To : Option (List ℕ) → Type 0 = λ now. Appends said now [] in
    subst To (sym same) (Appends-nothing said)

-- a line was said at once, whatever came of it
pub says_once : {A E : Type 0} (result : Result A E) (old new : Option (List ℕ)) (before now : List Deed) (line : List ℕ)
    → OnOk result (SaysAll old new before now line) → OnErr result (SaysPart old new before now line)
    → SaysOnce old new before now line
says_once (Ok done) old new before now line all part = inl all
says_once (Err fault) old new before now line all part = inr part

-- what holds where there is none holds where an option is None
pub IfNone-is : {A : Type 0} (option : Option A) (P : Type 0) → option ≡ None → IfNone option P → P
IfNone-is {A} option P is holds =
    let Q : Option A → Type 0 = λ o. IfNone o P in
    subst Q is holds

module _ {V : Type 0} {F : V → Type 0} (may_tell : ℕ → Type 0) (cost_may_take : ℕ → ℕ → Type 0)
    (guest_acts : Guest V F → Acts) (guest_state : Guest V F → Tree)
    (guests : List (Guest V F)) where
  -- the replay of captures by these units
  abbrev pub Replays : Bool → (told : Option Entries) → Plan → List CaptureWord → List (UnitOf (Guest V F)) → Run → List Deed
      → Type 0
  Replays serial told plan captures units run deeds =
      IsReplayOf serial may_tell cost_may_take (acts_by (acts_of guest_acts) (state_of guest_state) units)
      (start_by (acts_of guest_acts) (state_of guest_state) units) told plan captures deeds run

  -- what holds of whichever words are the command
  abbrev pub Replayed : (told : Option Entries) → Command → Plan → Run → List Deed → Type 0
  Replayed told command plan run deeds = (words : List (List ℕ)) → IsCommand words command
      → IsReplayed may_tell cost_may_take guest_acts guest_state words guests told command plan deeds run

  abbrev pub Done : (told told_now : Option Entries) (said said_now : Option (List ℕ)) → Command → Run → List Deed → Type 0
  Done told told_now said said_now command run deeds = (words : List (List ℕ)) → IsCommand words command
      → IsDone may_tell cost_may_take guest_acts guest_state words guests told told_now said said_now deeds run

  abbrev pub Stopped : (told told_now : Option Entries) (said said_now : Option (List ℕ)) → Command → Fault → List Deed → Type 0
  Stopped told told_now said said_now command fault deeds = (front : List ℕ) × Appends said said_now front
      × ((words : List (List ℕ)) → IsCommand words command
      → IsStopped may_tell cost_may_take guest_acts guest_state words guests told told_now front deeds fault)

  -- the chain file was read, and then the captures were replayed
  pub Adds-Replayed : (told read : Option Entries) (before between now : List Deed) (command : Command) (plan : Plan)
      (units : List (UnitOf (Guest V F))) (run : Run) (names : List (List ℕ)) (captures : List CaptureWord)
      → read ≡ told → names ≡ names_of guests → captures ≡ command.captures.items
      → OnTold told (λ files. HasPlan command names files plan)
      → length command.captures.items ≤ plan.ports → AreUnits plan.functions guests units
      → Adds before between (ReadsChain command.chain.now)
      → Adds between now (Replays command.options.serial read plan captures units run)
      → Adds before now (Replayed told command plan run)
  Adds-Replayed told read before between now command plan units run names captures same named those has ports are chain
      replays =
      let Has : List (List ℕ) → Type 0 = λ ns. OnTold told (λ files. HasPlan command ns files plan) in
      let Of : Option Entries → Type 0 = λ files. Replays command.options.serial files plan captures units run replays.0 in
      let From : List CaptureWord → Type 0 = λ cs. Replays command.options.serial told plan cs units run replays.0 in
      let calls = Adds-Then before between now (ReadsChain command.chain.now)
      (Replays command.options.serial told plan command.captures.items units run) chain
      (replays.0, replays.1, subst From those (subst Of same replays.2)) in (
        calls.0,
        calls.1,
        λ words is.
            record {
              is_command = is;
              plan_is = subst Has named has;
              ports = ports;
              units = units;
              units_are = are;
              calls = calls.2;
            },
      )

  -- and then the output was written and the report said
  pub Adds-Done : (told read told_now : Option Entries) (said before_said said_now : Option (List ℕ))
      (before between now : List Deed) (command : Command) (plan : Plan) (run : Run) (text report : List ℕ)
      → read ≡ told → before_said ≡ said → report ≡ text
      → Adds before between (Replayed told command plan run)
      → IsReportOf plan run command.options text
      → Adds between now (IsLeft command.output.now (capture_text run.sent) report read told_now before_said said_now)
      → Adds before now (Done told told_now said said_now command run)
  Adds-Done told read told_now said before_said said_now before between now command plan run text report same
      unsaid is_text replayed reported left =
      let Reports : List ℕ → Type 0 = IsReportOf plan run command.options in
      let Of : Option Entries → Type 0 = λ files.
      IsLeft command.output.now (capture_text run.sent) report files told_now before_said said_now left.0 in
      let Says : Option (List ℕ) → Type 0 = λ old.
      IsLeft command.output.now (capture_text run.sent) report told told_now old said_now left.0 in (
        replayed.0 ++ left.0,
        joined before between now replayed.0 left.0 replayed.1 left.1,
        λ words is.
            record {
              command = command;
              plan = plan;
              read = replayed.0;
              written = left.0;
              in_order = refl;
              replayed = replayed.2 words is;
              report = report;
              report_is = subst Reports (sym is_text) reported;
              left = subst Says unsaid (subst Of same left.2);
            },
      )

  -- a run that is done for whichever words are its command is done for these
  pub Adds-words : (told told_now : Option Entries) (said said_now : Option (List ℕ)) (before now : List Deed)
      (command : Command) (words : List (List ℕ)) (result : Result Run Fault) → IsCommand words command
      → IfOk result (λ run. Adds before now (Done told told_now said said_now command run))
      → IfOk result (λ run. Adds before now (λ deeds.
      IsDone may_tell cost_may_take guest_acts guest_state words guests told told_now said said_now deeds run))
  Adds-words told told_now said said_now before now command words (Ok run) is done = (done.0, done.1, done.2 words is)
  Adds-words told told_now said said_now before now command words (Err fault) is done = tt

  -- Where it was stopped

  -- at the chain file
  pub Adds-chain : (told told_now : Option Entries) (said said_now : Option (List ℕ)) (before now : List Deed)
      (command : Command) (fault : Fault) (names : List (List ℕ))
      → told_now ≡ told → said_now ≡ said → names ≡ names_of guests
      → Adds before now (λ deeds. StopsAtChain command names told deeds fault)
      → Adds before now (Stopped told told_now said said_now command fault)
  Adds-chain told told_now said said_now before now command fault names same unsaid named stops =
      let Stops : List (List ℕ) → Type 0 = λ ns. StopsAtChain command ns told stops.0 fault in (
        stops.0,
        stops.1,
        (
          [],
          says_nothing said said_now unsaid,
          λ words is. inl (same, refl, inr (inr (inl (command, is, subst Stops named stops.2)))),
        ),
      )

  -- behind it, for want of memory
  pub Adds-memory : (told told_now : Option Entries) (said said_now : Option (List ℕ)) (before now : List Deed)
      (command : Command) → told_now ≡ told → said_now ≡ said
      → Adds before now (ReadsChain command.chain.now)
      → Adds before now (Stopped told told_now said said_now command Memory)
  Adds-memory told told_now said said_now before now command same unsaid reads =
      Adds-chain told told_now said said_now before now command Memory (names_of guests) same unsaid refl
      (reads.0, reads.1, inr (inr (refl, inr reads.2)))

  -- at the captures
  pub Adds-captures : (told read told_now : Option Entries) (said read_said said_now : Option (List ℕ))
      (before between now : List Deed) (command : Command) (plan : Plan) (fault : Fault)
      (names : List (List ℕ)) (captures : List CaptureWord)
      → read ≡ told → told_now ≡ read → read_said ≡ said → said_now ≡ read_said
      → names ≡ names_of guests → captures ≡ command.captures.items
      → OnTold told (λ files. HasPlan command names files plan)
      → Adds before between (ReadsChain command.chain.now)
      → Adds between now (λ deeds. StopsAtCaptures captures read deeds fault)
      → Adds before now (Stopped told told_now said said_now command fault)
  Adds-captures told read told_now said read_said said_now before between now command plan fault names captures
      same later unsaid silent named those has chain stops =
      let Has : List (List ℕ) → Type 0 = λ ns. OnTold told (λ files. HasPlan command ns files plan) in
      let Of : Option Entries → Type 0 = λ files. StopsAtCaptures captures files stops.0 fault in
      let From : List CaptureWord → Type 0 = λ cs. StopsAtCaptures cs told stops.0 fault in
      let calls = Adds-Then before between now (ReadsChain command.chain.now)
      (λ deeds. StopsAtCaptures command.captures.items told deeds fault) chain
      (stops.0, stops.1, subst From those (subst Of same stops.2)) in (
        calls.0,
        calls.1,
        (
          [],
          says_nothing said said_now (silent ∙ unsaid),
          λ words is. inl (later ∙ same, refl, inr (inr (inr (command, is, (plan, subst Has named has), calls.2)))),
        ),
      )

  -- behind the run, without memory for its report
  pub Adds-unreported : (told told_now : Option Entries) (said said_now : Option (List ℕ)) (before now : List Deed)
      (command : Command) (plan : Plan) (run : Run) → told_now ≡ told → said_now ≡ said
      → Adds before now (Replayed told command plan run)
      → Adds before now (Stopped told told_now said said_now command Memory)
  Adds-unreported told told_now said said_now before now command plan run same unsaid replayed = (
    replayed.0,
    replayed.1,
    (
      [],
      says_nothing said said_now unsaid,
      λ words is.
          inr record {
            command = command;
            plan = plan;
            run = run;
            read = replayed.0;
            writes = [];
            in_order = sym (append-nil replayed.0);
            replayed = replayed.2 words is;
            stops = inl (refl, refl, same, refl);
          },
    ),
  )

  -- at the output, or at the report behind it
  pub Adds-output : (told read told_now : Option Entries) (said read_said said_now : Option (List ℕ))
      (before between now : List Deed) (command : Command) (plan : Plan) (run : Run) (text report : List ℕ) (fault : Fault)
      → read ≡ told → read_said ≡ said → report ≡ text
      → Adds before between (Replayed told command plan run)
      → IsReportOf plan run command.options text
      → Adds between now (λ deeds. (front : List ℕ) × Appends read_said said_now front
      × StopsAtOutput command.output.now (capture_text run.sent) report read told_now front deeds fault)
      → Adds before now (Stopped told told_now said said_now command fault)
  Adds-output told read told_now said read_said said_now before between now command plan run text report fault
      same unsaid is_text replayed reported stops =
      let Reports : List ℕ → Type 0 = IsReportOf plan run command.options in
      let front = stops.2.0 in
      let Of : Option Entries → Type 0 = λ files.
      StopsAtOutput command.output.now (capture_text run.sent) report files told_now front stops.0 fault in
      let From : Option (List ℕ) → Type 0 = λ old. Appends old said_now front in (
        replayed.0 ++ stops.0,
        joined before between now replayed.0 stops.0 replayed.1 stops.1,
        (
          front,
          subst From unsaid stops.2.1,
          λ words is.
              inr record {
                command = command;
                plan = plan;
                run = run;
                read = replayed.0;
                writes = stops.0;
                in_order = refl;
                replayed = replayed.2 words is;
                stops = inr (report, subst Reports (sym is_text) reported, subst Of same stops.2.2);
              },
        ),
      )

  -- a run that was stopped, and its line
  pub IsStoppedRun-line : (words : List (List ℕ)) (told read told_now : Option Entries)
      (said between said_now : Option (List ℕ)) (before at now : List Deed) (fault : Fault) (answer : Status) (line : List ℕ)
      → told_now ≡ read → answer ≡ status_of fault → line ≡ line_of fault
      → Adds before at (λ deeds. (front : List ℕ) × Appends said between front
      × IsStopped may_tell cost_may_take guest_acts guest_state words guests told read front deeds fault)
      → SaysOnce between said_now at now line
      → IsStoppedRun may_tell cost_may_take guest_acts guest_state words guests told told_now said said_now before now answer
  IsStoppedRun-line words told read told_now said between said_now before at now fault answer line same answered lined
      stops says =
      let Now : Option Entries → Type 0 = λ files.
      IsStopped may_tell cost_may_take guest_acts guest_state words guests told files stops.2.0 stops.0 fault in
      let At : List Deed → Type 0 = λ deeds. SaysOnce between said_now deeds now line in
      let Line : List ℕ → Type 0 = λ t. SaysOnce between said_now (before ++ stops.0) now t in
      record {
        fault = fault;
        deeds = stops.0;
        front = stops.2.0;
        between = between;
        status_is = sym answered;
        stopped = subst Now (sym same) stops.2.2;
        appended = stops.2.1;
        line = subst Line lined (subst At stops.1 says);
      }
