-- A fault that was told is told from then on.
use Rattle.std.proofs.Common.{◌≡◌, ◌∙◌, sym, ap, subst, refl, inl, inr, ℕ, true, false, ◌+◌, List, [], ◌∷◌, ◌++◌, append_assoc, arith}
use Rattle.std.proofs.lemmas.List.{length-append}
use Rattle.pcap_in.specs.Calls.{Call, Feed, Finish, Next, Lead}
use Rattle.pcap_in.specs.Reading.{AtRecord, IsFaulty, Reading, Pulls}
use Rattle.pcap_in.specs.declared.pull.PcapFault.{PcapFault}
use Rattle.pcap_in.specs.declared.pull.Pull.{Pull}
use Rattle.pcap_in.specs.declared.pull.Pull.TheVariants as pull
use Rattle.pcap_in.proofs.Items.{BreaksHeader-append, BreaksRecord-append, torn_is}
use Rattle.pcap_in.proofs.OneAnswer.{Broken, pulls_once, reading_same, torn_header_is}

-- the reading with more bytes fed
abbrev pub fed : Reading → List ℕ → Reading
fed reading piece = record reading { rest = reading.rest ++ piece }

-- a rule that a record breaks is broken whatever follows
broken_fed : (reading : Reading) (piece : List ℕ) (fault : PcapFault) → AtRecord reading (Broken fault)
    → AtRecord (fed reading piece) (Broken fault)
broken_fed reading piece fault (inl (start, s, header, rest, text, is, (whole, broken))) =
    inl (
      start,
      s,
      header,
      rest ++ piece,
      ap (λ t. t ++ piece) text ∙ append_assoc header rest piece,
      is,
      (omega (arith, length-append rest piece, whole), BreaksRecord-append s (reading.place + 24) rest piece fault whole broken),
    )
broken_fed reading piece fault (inr (s, known, (whole, broken))) =
    inr (
      s,
      known,
      (omega (arith, length-append reading.rest piece, whole), BreaksRecord-append s reading.place reading.rest piece fault whole broken),
    )

-- while more bytes may come, nothing is torn, and what is faulty stays so
faulty_fed : (reading : Reading) (piece : List ℕ) (fault : PcapFault) → reading.finished ≡ false → IsFaulty reading fault
    → IsFaulty (fed reading piece) fault
faulty_fed reading piece fault more (inl (start, whole, broken)) =
    inl (start, omega (arith, length-append reading.rest piece, whole), BreaksHeader-append reading.rest piece fault whole broken)
faulty_fed reading piece fault more (inr (inl there)) = inr (inl (broken_fed reading piece fault there))
faulty_fed reading piece fault more (inr (inr (inl torn))) =
    let finished = (torn_header_is reading fault torn).0 in
    absurd (cc)
faulty_fed reading piece fault more (inr (inr (inr (inl (start, s, header, rest, text, is, torn))))) =
    let finished = (torn_is s (reading.place + 24) rest reading.finished fault torn).0 in
    absurd (cc)
faulty_fed reading piece fault more (inr (inr (inr (inr (s, known, torn))))) =
    let finished = (torn_is s reading.place reading.rest reading.finished fault torn).0 in
    absurd (cc)

-- the reading once no more bytes come
abbrev pub ended : Reading → Reading
ended reading = record reading { finished = true }

ended_same : (reading : Reading) → reading.finished ≡ true → reading ≡ ended reading
ended_same reading finished = reading_same reading (ended reading) refl refl refl finished

-- what is faulty stays so
faulty_ended : (reading : Reading) (fault : PcapFault) → IsFaulty reading fault → IsFaulty (ended reading) fault
faulty_ended reading fault (inl broken) = inl broken
faulty_ended reading fault (inr (inl there)) = inr (inl there)
faulty_ended reading fault (inr (inr (inl torn))) =
    let P : Reading → Type 0 = λ r. IsFaulty r fault in
    subst P (ended_same reading (torn_header_is reading fault torn).0) (inr (inr (inl torn)))
faulty_ended reading fault (inr (inr (inr (inl (start, s, header, rest, text, is, torn))))) =
    let P : Reading → Type 0 = λ r. IsFaulty r fault in
    let finished = (torn_is s (reading.place + 24) rest reading.finished fault torn).0 in
    subst P (ended_same reading finished) (inr (inr (inr (inl (start, s, header, rest, text, is, torn)))))
faulty_ended reading fault (inr (inr (inr (inr (s, known, torn))))) =
    let P : Reading → Type 0 = λ r. IsFaulty r fault in
    let finished = (torn_is s reading.place reading.rest reading.finished fault torn).0 in
    subst P (ended_same reading finished) (inr (inr (inr (inr (s, known, torn)))))

-- whatever is called, what is faulty stays so
faulty_led : (calls : List Call) (old new : Reading) (fault : PcapFault) → IsFaulty old fault → Lead calls old new → IsFaulty new fault
faulty_led [] old new fault faulty lead =
    let P : Reading → Type 0 = λ r. IsFaulty r fault in
    subst P (sym lead) faulty
faulty_led (Feed piece ∷ calls) old new fault faulty (unfinished, lead) =
    faulty_led calls (fed old piece) new fault (faulty_fed old piece fault unfinished faulty) lead
faulty_led (Finish ∷ calls) old new fault faulty lead =
    faulty_led calls (ended old) new fault (faulty_ended old fault faulty) lead
faulty_led (Next answer ∷ calls) old new fault faulty (between, pulls, lead) =
    let one = pulls_once old between old answer (pull.Bad fault) pulls (refl, faulty) in
    let P : Reading → Type 0 = λ r. IsFaulty r fault in
    faulty_led calls between new fault (subst P (sym one.1) faulty) lead

-- so the fault is told whenever it is asked for
pub told_again : (old between new next : Reading) (calls : List Call) (fault : PcapFault) (answer : Pull)
    → Pulls old (pull.Bad fault) between → Lead calls between new → Pulls new answer next → answer ≡ pull.Bad fault
told_again old between new next calls fault answer (same, faulty) lead pulls =
    let P : Reading → Type 0 = λ r. IsFaulty r fault in
    let there = faulty_led calls between new fault (subst P (sym same) faulty) lead in
    (pulls_once new next new answer (pull.Bad fault) pulls (refl, there)).0
