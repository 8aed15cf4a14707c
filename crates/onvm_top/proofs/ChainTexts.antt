-- What is told of a chain file by the text that was taken of it: all of it, or more than a chain file may have.
use Rattle.std.proofs.Common.{◌≡◌, ◌≢◌, ◌∙◌, sym, ap, subst, refl, inl, inr, ℕ, ◌≤◌, nat_le, true, List, [], ◌∷◌, ◌++◌, length, Option, Some, append_assoc}
use Rattle.std.specs.Io.KnownBytes.{Consumes, IsAtEnd}
use Rattle.std.proofs.lemmas.Bool.{cases_lt}
use Rattle.onvm_base.specs.declared.limits.TheConstants.{MAX_CHAIN_FILE_BYTES}
use Rattle.onvm_base.specs.declared.plan.Plan.{Plan}
use Rattle.onvm_host.specs.Deeds.{Amounts, Deed, Opened, Shut}
use Rattle.onvm_host.specs.Files.{Entries, Opens}
use Rattle.onvm_host.specs.Moved.{IsReading, Reads}
use Rattle.onvm_host.proofs.Bytes.{Consumes-rest, Consumes-to_end}
use Rattle.chain_file.specs.declared.fault.FileFault.{FileFault}
use Rattle.chain_file.specs.declared.fault.FileFault.TheVariants as file
use Rattle.chain_file.specs.declared.file.TheConstants.{MAX_CHAIN_FILE_BRACKETS}
use Rattle.chain_file.specs.File.{IsRead, IsRefused, is_within, openings}
use Rattle.chain_file.proofs.KeptNames.{at_most, both_true}
use Rattle.chain_file.proofs.Longer.{refused_longer}
use Rattle.command_words.specs.declared.command.Command.{Command}
use Rattle.onvm_top.specs.Calls.{Adds, ReadsChain, chain_limit}
use Rattle.onvm_top.specs.Chains.{IsFaultyPlan, IsPlanFile, IsRefusedFor}
use Rattle.onvm_top.specs.Fault.{fault_of_file}
use Rattle.onvm_top.specs.Known.{OnTold}
use Rattle.onvm_top.specs.Stops.{StopsAtChain}
use Rattle.onvm_top.specs.declared.fault.Fault.{Fault}

-- ---- a file's text

-- a plan is no longer than a chain file may be
short_within : (text : List ℕ) → is_within text ≡ true → length text ≤ MAX_CHAIN_FILE_BYTES
short_within text within =
    at_most (length text) MAX_CHAIN_FILE_BYTES
    (both_true (nat_le (length text) MAX_CHAIN_FILE_BYTES) (nat_le (openings text) MAX_CHAIN_FILE_BRACKETS) within).0

-- of a file that was opened this text was taken, and if it is short, all of it
module _ (told : Option Entries) (name : List ℕ) (left left' : Option (List ℕ)) (text : List ℕ) (captures : ℕ) (guests : List (List ℕ))
    (opens : Opens told name left) (taken : Consumes left left' text)
    (whole : length text ≤ MAX_CHAIN_FILE_BYTES → IsAtEnd left') where
  -- so a plan of the text is the file's
  pub plan_of_file : (plan : Plan) → IsRead text captures guests plan
      → OnTold told (λ files. IsPlanFile name captures guests files plan)
  plan_of_file plan read = λ files is.
      let opened = opens files is in
      let same : opened.0 ≡ text =
      Consumes-to_end left left' opened.0 text opened.2 taken (whole (short_within text read.within)) in
      record { bytes = text; file_is = opened.1 ∙ ap Some same; read = read }

  refused_file : (bytes : List ℕ) (cause : FileFault) → left ≡ Some bytes → IsRefused text captures guests cause
      → IsRefused bytes captures guests cause
  refused_file bytes cause is refused = elim (cases_lt MAX_CHAIN_FILE_BYTES (length text)) [
    | inl long ↦
        let rest = Consumes-rest left left' bytes text is taken in
        subst (λ t. IsRefused t captures guests cause) (sym rest.2)
        (refused_longer text rest.0 captures guests cause long refused)
    | inr short ↦
        subst (λ t. IsRefused t captures guests cause)
        (sym (Consumes-to_end left left' bytes text is taken (whole short))) refused
  ]

  -- and its fault is the file's
  pub faulty_file : (cause : FileFault) → cause ≢ file.Memory → IsRefused text captures guests cause
      → OnTold told (λ files. IsFaultyPlan name captures guests files cause)
  faulty_file cause known refused = λ files is.
      let opened = opens files is in
      record {
        bytes = opened.0;
        file_is = opened.1;
        refused = refused_file opened.0 cause opened.2 refused;
        known = known;
      }

-- ---- what it is refused for

-- the fault that stops a run tells the cause
pub refused_for : (text : List ℕ) (captures : ℕ) (guests : List (List ℕ)) (cause : FileFault)
    → IsRefused text captures guests cause → IsRefusedFor text captures guests (fault_of_file cause)
refused_for text captures guests file.Json r = inr (file.Json, refl, λ e. cc, r)
refused_for text captures guests (file.Shape place) r = inr (file.Shape place, refl, λ e. cc, r)
refused_for text captures guests (file.Unknown place) r = inr (file.Unknown place, refl, λ e. cc, r)
refused_for text captures guests (file.Limit place) r = inr (file.Limit place, refl, λ e. cc, r)
refused_for text captures guests (file.Twice place) r = inr (file.Twice place, refl, λ e. cc, r)
refused_for text captures guests (file.Marks place) r = inr (file.Marks place, refl, λ e. cc, r)
refused_for text captures guests file.Memory r = inl refl

-- a text of a command's chain file stops the run where it is refused
pub stops_at_chain : (command : Command) (guests : List (List ℕ)) (told : Option Entries) (left left' : Option (List ℕ))
    (text : List ℕ) (deeds : List Deed) (fault : Fault)
    → Opens told command.chain.now left → Consumes left left' text
    → (length text ≤ MAX_CHAIN_FILE_BYTES → IsAtEnd left')
    → ReadsChain command.chain.now deeds
    → IsRefusedFor text (length command.captures.items) guests fault
    → StopsAtChain command guests told deeds fault
stops_at_chain command guests told left left' text deeds fault opens taken whole reads (inl memory) =
    inr (inr (memory, inr reads))
stops_at_chain command guests told left left' text deeds fault opens taken whole reads (inr (cause, is, known, refused)) =
    inl (
      cause,
      is,
      reads,
      faulty_file told command.chain.now left left' text (length command.captures.items) guests opens taken whole cause known refused,
    )

-- ---- the calls of its reading

-- a file was opened and shut
pub opened_and_shut : (before made now : List Deed) (name same : List ℕ) (takes : Amounts)
    → made ≡ before ++ Opened name ∷ [] → now ≡ made ++ Shut same takes ∷ [] → same ≡ name
    → now ≡ before ++ (Opened name ∷ Shut name takes ∷ [])
opened_and_shut before made now name same takes opens shuts named =
    shuts ∙ ap (λ t. t ++ Shut same takes ∷ []) opens ∙ append_assoc before (Opened name ∷ []) (Shut same takes ∷ [])
    ∙ ap (λ n. before ++ (Opened name ∷ Shut n takes ∷ [])) named

-- and read in between
pub reads_chain : (before made now : List Deed) (name same : List ℕ) (fresh all : Amounts)
    → fresh ≡ [] → (last : ℕ) × Reads chain_limit (Some last) fresh all
    → made ≡ before ++ Opened name ∷ [] → now ≡ made ++ Shut same all ∷ [] → same ≡ name
    → Adds before now (ReadsChain name)
reads_chain before made now name same fresh all none reads opens shuts named =
    let takes = reads.1.0 in
    let is : all ≡ takes = reads.1.1 ∙ ap (λ t. t ++ takes) none in (
      Opened name ∷ Shut name all ∷ [],
      opened_and_shut before made now name same all opens shuts named,
      (all, reads.0, refl, subst (IsReading chain_limit (Some reads.0)) (sym is) reads.1.2),
    )
