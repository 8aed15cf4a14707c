-- Which calls a run makes of its host: of the chain file, of the captures, of the output.
use Rattle.std.specs.Borrow.{Bor}
use Rattle.std.specs.Prelude.{◌≡◌, ◌⊎◌, ℕ, ◌+◌, ◌<◌, true, List, [], ◌∷◌, ◌++◌, length, map, Option, Some, None}
use Rattle.onvm_base.specs.declared.limits.TheConstants.{MAX_CHAIN_FILE_BYTES}
use Rattle.onvm_host.specs.Deeds.{Amounts, Deed, Opened, OpenFailed, Shut, Created, Kept, KeepFailed, Said}
use Rattle.onvm_host.specs.Files.{Entries, file_of}
use Rattle.onvm_host.specs.Moved.{IsReading, Moved}
use Rattle.rx_feed.specs.Standing.{IsStanding, Standing, last_takes}
use Rattle.command_words.specs.declared.capture.CaptureWord.{CaptureWord}
use Rattle.command_words.specs.declared.capture.CaptureWord.TheVariants.{File, Generated}
use Rattle.onvm_top.specs.Known.{OnTold}

-- deeds were added, of which this holds
abbrev pub Adds : List Deed → List Deed → (List Deed → Type 0) → Type 0
Adds before now P = (deeds : List Deed) × (now ≡ before ++ deeds) × P deeds

-- some deeds, and others right behind them
abbrev pub Then : (List Deed → Type 0) → (List Deed → Type 0) → List Deed → Type 0
Then P Q deeds = (first rest : List Deed) × (deeds ≡ first ++ rest) × P first × Q rest

-- nothing but says
abbrev pub AreSays : List Deed → Type 0
AreSays deeds = (says : Amounts) × (deeds ≡ map Said says)

-- The chain file

-- no take is made behind more bytes than a chain file may have
abbrev pub chain_limit : ℕ
chain_limit = MAX_CHAIN_FILE_BYTES + 1

-- the chain file of this name was opened, read by takes of which none failed, and shut
abbrev pub ReadsChain : List ℕ → List Deed → Type 0
ReadsChain name deeds =
    (takes : Amounts) × (last : ℕ) × (deeds ≡ Opened name ∷ Shut name takes ∷ [])
    × IsReading chain_limit (Some last) takes

-- it could not be opened, or it was shut after a failed take, behind which there was none
abbrev pub CannotReadChain : List ℕ → List Deed → Type 0
CannotReadChain name deeds =
    (deeds ≡ OpenFailed name ∷ [])
    ⊎ ((takes : Amounts) × (deeds ≡ Opened name ∷ Shut name takes ∷ []) × IsReading chain_limit None takes)

-- it was opened, read in part, and shut
abbrev pub ReadsPart : List ℕ → List Deed → Type 0
ReadsPart name deeds =
    (deeds ≡ []) ⊎ ((takes : Amounts) × (bytes : ℕ) × (deeds ≡ Opened name ∷ Shut name takes ∷ []) × Moved bytes takes)

-- The captures

-- the files among them, in the order of ports
abbrev pub names_in : List CaptureWord → List (List ℕ)
names_in [] = []
names_in (File name ∷ captures) = name.now ∷ names_in captures
names_in (Generated seed count ∷ captures) = names_in captures

-- the files are opened, port by port
abbrev pub Opens : List CaptureWord → List Deed → Type 0
Opens captures deeds = deeds ≡ map Opened (names_in captures)

-- they are shut, port by port from this one on, and this holds of each port's name and takes
abbrev pub Shuts : (ℕ → List ℕ → Amounts → Type 0) → (port : ℕ) → List CaptureWord → List Deed → Type 0
Shuts Has port [] deeds = deeds ≡ []
Shuts Has port (File name ∷ captures) deeds =
    (takes : Amounts) × (rest : List Deed) × (deeds ≡ Shut name.now takes ∷ rest) × Has port name.now takes
    × Shuts Has (port + 1) captures rest
Shuts Has port (Generated seed count ∷ captures) deeds = Shuts Has (port + 1) captures deeds

-- these takes brought the port where it stands: each but the last gave at least one byte, and what they gave is the first
-- bytes of the file, and all of them where the end was found
pub record BringsTo (told : Option Entries) (standing : Standing) (name : List ℕ) (takes : Amounts) : Type 0 where
  pub stands : IsStanding standing
  pub earlier : Amounts
  pub in_order : takes ≡ earlier ++ last_takes standing.complete standing.fault
  pub moved : Moved (length standing.taken) earlier
  pub file : OnTold told (λ files. (rest : List ℕ) × (file_of name files ≡ Some (standing.taken ++ rest))
      × (standing.complete ≡ true → rest ≡ []))

-- the captures were opened, read until their ports stood so, and shut
abbrev pub ReadsTo : Option Entries → (ℕ → Standing) → List CaptureWord → List Deed → Type 0
ReadsTo told standings captures deeds =
    Then (Opens captures) (Shuts (λ port. BringsTo told (standings port)) 0 captures) deeds

-- they were shut without a take
abbrev pub ShutsUnread : List CaptureWord → List Deed → Type 0
ShutsUnread captures deeds = deeds ≡ map (λ name. Shut name []) (names_in captures)

-- the capture of a port could not be opened; those before it were, and were shut again
pub record CannotOpen (captures : List CaptureWord) (port : ℕ) (deeds : List Deed) : Type 0 where
  pub before : List CaptureWord
  pub name : Bor (List ℕ)
  pub after : List CaptureWord
  pub split : captures ≡ before ++ File name ∷ after
  pub place : length before ≡ port
  pub calls : Then (Opens before) (λ rest. (shuts : List Deed) × (rest ≡ OpenFailed name.now ∷ shuts)
      × ShutsUnread before shuts) deeds

-- memory was wanting before one was opened; those before it were, and were shut again
pub record StopsOpening (captures : List CaptureWord) (deeds : List Deed) : Type 0 where
  pub before : List CaptureWord
  pub after : List CaptureWord
  pub split : captures ≡ before ++ after
  pub calls : Then (Opens before) (ShutsUnread before) deeds

-- The output

-- so many bytes were to be moved, but a call failed before, behind which there was none
abbrev pub IsCutShort : ℕ → Amounts → Type 0
IsCutShort bytes amounts =
    (earlier : Amounts) × (fewer : ℕ) × (amounts ≡ earlier ++ None ∷ []) × Moved fewer earlier × (fewer < bytes)

-- the file was created, so many bytes were put, and it was kept
abbrev pub Writes : ℕ → List ℕ → List Deed → Type 0
Writes bytes name deeds = (puts : Amounts) × (deeds ≡ Created name ∷ Kept name puts ∷ []) × Moved bytes puts

-- it was created, but kept after a failed put, or it could not be kept
abbrev pub CannotFinish : ℕ → List ℕ → List Deed → Type 0
CannotFinish bytes name deeds =
    ((puts : Amounts) × (deeds ≡ Created name ∷ Kept name puts ∷ []) × IsCutShort bytes puts)
    ⊎ ((puts : Amounts) × (deeds ≡ Created name ∷ KeepFailed name puts ∷ [])
    × (Moved bytes puts ⊎ IsCutShort bytes puts))

-- so many bytes were said
abbrev pub SaysWhole : ℕ → List Deed → Type 0
SaysWhole bytes deeds = (says : Amounts) × (deeds ≡ map Said says) × Moved bytes says

-- a say failed before
abbrev pub CannotSay : ℕ → List Deed → Type 0
CannotSay bytes deeds = (says : Amounts) × (deeds ≡ map Said says) × IsCutShort bytes says
