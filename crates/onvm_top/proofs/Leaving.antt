-- What is said behind an output that was written, and what is left then.
use Rattle.std.proofs.Common.{◌≡◌, ◌∙◌, sym, ap, subst, refl, inl, inr, ℕ, List, [], ◌++◌, length, map, Option, append_assoc}
use Rattle.std.specs.Io.KnownBytes.{Appends}
use Rattle.onvm_host.specs.Deeds.{Amounts, Deed, Said}
use Rattle.onvm_host.specs.Files.{Entries}
use Rattle.onvm_host.proofs.Bytes.{Appends-nothing}
use Rattle.onvm_top.specs.Accounts.{IsLeft, Leaves}
use Rattle.onvm_top.specs.Calls.{Adds, CannotSay, Writes}
use Rattle.onvm_top.specs.Put.{AppendsAll, AppendsPart, SaysAll, SaysPart}
use Rattle.onvm_top.specs.Stops.{StopsAtOutput, StopsAtWrite}
use Rattle.onvm_top.specs.declared.fault.Fault.{Fault}
use Rattle.onvm_top.specs.declared.fault.Fault.TheVariants.{Write}
use Rattle.onvm_top.proofs.Kept.{part_puts}

-- some deeds, and says behind them
behind : (before between now deeds : List Deed) (says : Amounts) → between ≡ before ++ deeds
    → now ≡ between ++ map Said says → now ≡ before ++ (deeds ++ map Said says)
behind before between now deeds says first second =
    second ∙ ap (λ t. t ++ map Said says) first ∙ append_assoc before deeds (map Said says)

-- the fault of a run that stopped while it left its output and its report
abbrev pub StopsLeaving : (name text report : List ℕ) → (told told_now : Option Entries)
    → (said said_now : Option (List ℕ)) → List Deed → Fault → Type 0
StopsLeaving name text report told told_now said said_now deeds fault =
    (front : List ℕ) × Appends said said_now front
    × StopsAtOutput name text report told told_now front deeds fault

-- the output could not be written, and nothing was said
pub leaves_none : (before now : List Deed) (name text report : List ℕ) (told told_now : Option Entries)
    (said said_now : Option (List ℕ)) (fault : Fault)
    → said_now ≡ said → Adds before now (λ deeds. StopsAtWrite name text told told_now deeds fault)
    → Adds before now (λ deeds. StopsLeaving name text report told told_now said said_now deeds fault)
leaves_none before now name text report told told_now said said_now fault silent stops =
    let P : Option (List ℕ) → Type 0 = λ s. Appends said s [] in
    (stops.0, stops.1, ([], subst P (sym silent) (Appends-nothing said), inl (refl, stops.2)))

-- the output was written, and the report said
pub leaves_all : (before between now : List Deed) (name text report : List ℕ) (told at told_now : Option Entries)
    (said said_at said_now : Option (List ℕ))
    → Adds before between (Writes (length text) name) → Leaves name text told at → said_at ≡ said → told_now ≡ at
    → SaysAll said_at said_now between now report
    → Adds before now (IsLeft name text report told told_now said said_now)
leaves_all before between now name text report told at told_now said said_at said_now written leaves silent still all =
    let P : Option (List ℕ) → Type 0 = λ s. AppendsAll s said_now all.0 report in
    let Q : Option Entries → Type 0 = Leaves name text told in (
      written.0 ++ map Said all.0,
      behind before between now written.0 all.0 written.1 all.1,
      record {
        says = all.0;
        calls = (written.0, map Said all.0, refl, written.2, refl);
        output = subst Q (sym still) leaves;
        appended = subst P silent all.2;
      },
    )

cannot_say : (old new : Option (List ℕ)) (says : Amounts) (report : List ℕ) → AppendsPart old new says report
    → CannotSay (length report) (map Said says)
cannot_say old new says report part = (says, refl, part_puts old new says report part)

-- the output was written, and a part of the report said
pub leaves_part : (before between now : List Deed) (name text report : List ℕ) (told at told_now : Option Entries)
    (said said_at said_now : Option (List ℕ))
    → Adds before between (Writes (length text) name) → Leaves name text told at → said_at ≡ said → told_now ≡ at
    → SaysPart said_at said_now between now report
    → Adds before now (λ deeds. StopsLeaving name text report told told_now said said_now deeds Write)
leaves_part before between now name text report told at told_now said said_at said_now written leaves silent still
    part =
    let P : Option (List ℕ) → Type 0 = λ s. Appends s said_now part.2.front in
    let Q : Option Entries → Type 0 = Leaves name text told in
    let says = map Said part.0 in (
      written.0 ++ says,
      behind before between now written.0 part.0 written.1 part.1,
      (
        part.2.front,
        subst P silent part.2.appended,
        inr (
          refl,
          (written.0, says, refl, written.2, cannot_say said_at said_now part.0 report part.2),
          subst Q (sym still) leaves,
          (part.2.rest, part.2.split),
        ),
      ),
    )
