-- Words are one command at most, up to the values behind its texts.
use Rattle.std.specs.Prelude.{⊤}
use Rattle.std.specs.List.{All}
use Rattle.std.proofs.Common.{◌≡◌, ◌≢◌, ◌∙◌, ◌<◌, ◌≤◌, ◌^◌, refl, sym, ap, subst, ℕ, zero, suc, List, [], ◌∷◌, ◌++◌, length, map, drop, get_or, decimal, codes, append_assoc, Option, Some, None, slice_get, true, true≢false, arith}
use Rattle.std.proofs.lemmas.Fmt.{decimal_injective, decimal_is_IsNumeral}
use Rattle.std.proofs.lemmas.List.{length-map}
use Rattle.std.proofs.lemmas.Str.Parse.{digit_at}
use Rattle.onvm_base.specs.declared.frame.Frame.{Frame}
use Rattle.onvm_host.specs.Files.{Entries}
use Rattle.rx_feed.specs.Made.{made_frames}
use Rattle.chain_file.specs.declared.fault.FileFault.{FileFault}
use Rattle.command_words.specs.Commands.{IsCapture, IsCommand, is_generated, word_of}
use Rattle.command_words.specs.declared.capture.CaptureWord.{CaptureWord}
use Rattle.command_words.specs.declared.capture.CaptureWord.TheVariants.{File, Generated}
use Rattle.command_words.specs.declared.command.Command.{Command}
use Rattle.onvm_top.specs.Captures.{AreFramesOf, AreGood, IsGoodCapture}
use Rattle.onvm_top.specs.Chains.{HasFaultyPlan, IsFaultyPlan}
use Rattle.onvm_top.specs.Known.{OnTold}

-- captures of one word
abbrev pub IsSameCapture : CaptureWord → CaptureWord → Type 0
IsSameCapture (File name) (File other) = name.now ≡ other.now
IsSameCapture (File name) (Generated seed count) = ⊥
IsSameCapture (Generated seed count) (File name) = ⊥
IsSameCapture (Generated seed count) (Generated other_seed other_count) = (seed ≡ other_seed) × (count ≡ other_count)

abbrev pub IsSameAt : Option CaptureWord → Option CaptureWord → Type 0
IsSameAt None None = ⊤
IsSameAt None (Some other) = ⊥
IsSameAt (Some capture) None = ⊥
IsSameAt (Some capture) (Some other) = IsSameCapture capture other

-- commands of one content, options aside
pub record IsSameCommand (command other : Command) : Type 0 where
  pub chain : command.chain.now ≡ other.chain.now
  pub output : command.output.now ≡ other.output.now
  pub many : length command.captures.items ≡ length other.captures.items
  pub captures : (port : ℕ) → IsSameAt (slice_get command.captures.items port) (slice_get other.captures.items port)

-- A number has no colon
abbrev HasNoColon : List ℕ → Type 0
HasNoColon text = (i : ℕ) → i < length text → get_or text i 0 ≢ 58

no_colon : (n : ℕ) → n < 2 ^ 64 → HasNoColon (decimal n)
no_colon n less i inside e =
    let digit = digit_at (decimal n) i (decimal_is_IsNumeral n less).0.1 inside in
    let high : get_or (decimal n) i 0 ≤ 57 = digit.1 in
    omega (arith, e, high)

-- what stands before and behind the first colon
same_split : (front other rest more : List ℕ) → HasNoColon front → HasNoColon other
    → front ++ 58 ∷ rest ≡ other ++ 58 ∷ more
    → (front ≡ other) × (rest ≡ more)
same_split [] [] rest more none none' same = (refl, ap (drop 1) same)
same_split [] (y ∷ other) rest more none none' same =
    let first : 58 ≡ y = ap (λ (t : List ℕ). get_or t 0 0) same in
    absurd (none' 0 (omega arith) (sym first))
same_split (x ∷ front) [] rest more none none' same =
    let first : x ≡ 58 = ap (λ (t : List ℕ). get_or t 0 0) same in
    absurd (none 0 (omega arith) first)
same_split (x ∷ front) (y ∷ other) rest more none none' same =
    let first : x ≡ y = ap (λ (t : List ℕ). get_or t 0 0) same in
    let others =
    same_split front other rest more (λ i less. none (suc i) (omega arith)) (λ i less. none' (suc i) (omega arith))
    (ap (drop 1) same) in
    let tails : front ≡ other = others.0 in
    (cc, others.1)

same_made : (seed count other_seed other_count : ℕ) → IsCapture (Generated seed count)
    → IsCapture (Generated other_seed other_count)
    → word_of (Generated seed count) ≡ word_of (Generated other_seed other_count)
    → (seed ≡ other_seed) × (count ≡ other_count)
same_made seed count other_seed other_count is other same =
    let behind : (decimal seed ++ codes ":") ++ decimal count
    ≡ (decimal other_seed ++ codes ":") ++ decimal other_count =
    ap (drop 4) same in
    let cut : decimal seed ++ 58 ∷ decimal count ≡ decimal other_seed ++ 58 ∷ decimal other_count =
    sym (append_assoc (decimal seed) (58 ∷ []) (decimal count)) ∙ behind
    ∙ append_assoc (decimal other_seed) (58 ∷ []) (decimal other_count) in
    let parts =
    same_split (decimal seed) (decimal other_seed) (decimal count) (decimal other_count) (no_colon seed is.0)
    (no_colon other_seed other.0) cut in (
      decimal_injective seed other_seed is.0 other.0 parts.0,
      decimal_injective count other_count (omega (arith, is.1)) (omega (arith, other.1)) parts.1,
    )

same_capture : (capture other : CaptureWord) → IsCapture capture → IsCapture other → word_of capture ≡ word_of other
    → IsSameCapture capture other
same_capture (File name) (File other_name) is other same = same
same_capture (File name) (Generated seed count) is other same =
    let generated : is_generated name.now ≡ true = ap is_generated same in
    true≢false (sym generated ∙ is)
same_capture (Generated seed count) (File name) is other same =
    let generated : is_generated name.now ≡ true = ap is_generated (sym same) in
    true≢false (sym generated ∙ other)
same_capture (Generated seed count) (Generated other_seed other_count) is other same =
    same_made seed count other_seed other_count is other same

same_captures : (captures others : List CaptureWord) → All IsCapture captures → All IsCapture others
    → map word_of captures ≡ map word_of others → (port : ℕ)
    → IsSameAt (slice_get captures port) (slice_get others port)
same_captures [] [] are are' same port = tt
same_captures [] (y ∷ others) are are' same port =
    let short : 0 ≡ suc (length (map word_of others)) = ap (length {A = List ℕ}) same in
    absurd (omega arith)
same_captures (x ∷ captures) [] are are' same port =
    let long : suc (length (map word_of captures)) ≡ 0 = ap (length {A = List ℕ}) same in
    absurd (omega arith)
same_captures (x ∷ captures) (y ∷ others) are are' same zero =
    same_capture x y (are 0 x (omega arith)) (are' 0 y (omega arith)) (ap (λ (t : List (List ℕ)). get_or t 0 []) same)
same_captures (x ∷ captures) (y ∷ others) are are' same (suc port) =
    same_captures captures others (λ k e less. are (suc k) e (omega arith)) (λ k e less. are' (suc k) e (omega arith))
    (ap (drop 1) same) port

-- words are the words of one command
pub same_command : (words : List (List ℕ)) (command other : Command) → IsCommand words command → IsCommand words other
    → IsSameCommand command other
same_command words command other here there =
    let same : command.chain.now ∷ command.output.now ∷ map word_of command.captures.items
    ≡ other.chain.now ∷ other.output.now ∷ map word_of other.captures.items =
    sym here.others ∙ there.others in
    let captures : map word_of command.captures.items ≡ map word_of other.captures.items = ap (drop 2) same in
    record {
      chain = ap (λ (t : List (List ℕ)). get_or t 0 []) same;
      output = ap (λ (t : List (List ℕ)). get_or t 1 []) same;
      many =
          sym (length-map command.captures.items word_of) ∙ ap (length {A = List ℕ}) captures
          ∙ length-map other.captures.items word_of;
      captures = same_captures command.captures.items other.captures.items here.captures there.captures captures;
    }

-- so its chain file has the same faults
pub HasFaultyPlan-same : (command other : Command) (guests : List (List ℕ)) (files : Entries) (cause : FileFault)
    → IsSameCommand command other → HasFaultyPlan command guests files cause → HasFaultyPlan other guests files cause
HasFaultyPlan-same command other guests files cause same has =
    let P : List ℕ → Type 0 = λ n. IsFaultyPlan n (length command.captures.items) guests files cause in
    let Q : ℕ → Type 0 = λ c. IsFaultyPlan other.chain.now c guests files cause in
    subst Q same.many (subst P same.chain has)

AreFramesOf-same : (told : Option Entries) (capture other : Option CaptureWord) (frames : List Frame)
    → IsSameAt capture other → AreFramesOf told capture frames → AreFramesOf told other frames
AreFramesOf-same told None None frames same are = are
AreFramesOf-same told None (Some other) frames same are = absurd same
AreFramesOf-same told (Some capture) None frames same are = absurd same
AreFramesOf-same told (Some (File name)) (Some (File other)) frames same are =
    let P : List ℕ → Type 0 = λ n. OnTold told (λ files. IsGoodCapture n files frames) in
    (are.0, subst P same are.1)
AreFramesOf-same told (Some (File name)) (Some (Generated seed count)) frames same are = absurd same
AreFramesOf-same told (Some (Generated seed count)) (Some (File name)) frames same are = absurd same
AreFramesOf-same told (Some (Generated seed count)) (Some (Generated other_seed other_count)) frames same are =
    are ∙ ap (λ s. made_frames s count) same.0 ∙ ap (λ c. made_frames other_seed c) same.1

-- and its captures the same frames
pub AreGood-same : (command other : Command) (told : Option Entries) (frames : ℕ → List Frame)
    → IsSameCommand command other → AreGood told command.captures.items frames
    → AreGood told other.captures.items frames
AreGood-same command other told frames same good port =
    AreFramesOf-same told (slice_get command.captures.items port) (slice_get other.captures.items port) (frames port)
    (same.captures port) (good port)
