-- A chain file has one fault, a capture has one, and none that is good has any.
use Rattle.std.proofs.Common.{◌≡◌, ◌≢◌, ◌∙◌, ◌⊎◌, ◌<◌, ◌≤◌, refl, sym, subst, inl, inr, ℕ, List, Option, Some, None, slice_get, true≢false, arith}
use Rattle.std.proofs.lemmas.Bool.{cases_lt}
use Rattle.onvm_base.specs.declared.frame.Frame.{Frame}
use Rattle.onvm_base.specs.declared.plan.Plan.{Plan}
use Rattle.onvm_host.specs.Files.{Entries}
use Rattle.pcap_in.specs.Classic.{IsCapture}
use Rattle.pcap_in.specs.Faulty.{IsCaptureUpTo}
use Rattle.pcap_in.specs.declared.pull.PcapFault.{PcapFault}
use Rattle.pcap_in.proofs.Faults.{capture_first, fault_once, no_fault, up_to_first}
use Rattle.pcap_in.proofs.Grammar.{capture_once}
use Rattle.ingress.specs.Limits.{PassesLimit}
use Rattle.ingress.proofs.Captured.{within_first}
use Rattle.chain_file.specs.File.{IsFaultOf, IsRead, IsRefused, IsSamePlan, by_memory, by_size, by_text, by_tree}
use Rattle.chain_file.specs.declared.fault.FileFault.{FileFault}
use Rattle.chain_file.specs.declared.fault.FileFault.TheVariants as file
use Rattle.chain_file.proofs.Reading.{not_refused, same_plan}
use Rattle.chain_file.proofs.Told.{same_fault}
use Rattle.command_words.specs.declared.capture.CaptureWord.{CaptureWord}
use Rattle.command_words.specs.declared.capture.CaptureWord.TheVariants.{File, Generated}
use Rattle.onvm_top.specs.Captures.{AreFramesOf, AreGood, IsBadCapture, IsFaultyCapture, IsFileOf, IsGoodCapture, IsLargeCapture, IsLowestBad}
use Rattle.onvm_top.specs.Chains.{IsFaultyPlan, IsPlanFile}

-- The chain file

-- a file is refused for one fault
one_refusal : (bytes : List ℕ) (captures : ℕ) (guests : List (List ℕ)) (fault other : FileFault) → fault ≢ file.Memory
    → other ≢ file.Memory → IsRefused bytes captures guests fault → IsRefused bytes captures guests other
    → fault ≡ other
one_refusal bytes captures guests fault other known known' (by_memory is) there = absurd (known is)
one_refusal bytes captures guests fault other known known' here (by_memory is) = absurd (known' is)
one_refusal bytes captures guests fault other known known' (by_size is large) (by_size is' large') = is ∙ sym is'
one_refusal bytes captures guests fault other known known' (by_size is large) (by_text is' small none) =
    absurd (true≢false (sym small ∙ large))
one_refusal bytes captures guests fault other known known' (by_size is large) (by_tree tree small read faulty) =
    absurd (true≢false (sym small ∙ large))
one_refusal bytes captures guests fault other known known' (by_text is small none) (by_size is' large) =
    absurd (true≢false (sym small ∙ large))
one_refusal bytes captures guests fault other known known' (by_text is small none) (by_text is' small' none') =
    is ∙ sym is'
one_refusal bytes captures guests fault other known known' (by_text is small none) (by_tree tree small' read faulty) =
    let clash : Some tree ≡ None = sym read.1 ∙ none read.0 in cc
one_refusal bytes captures guests fault other known known' (by_tree tree small read faulty) (by_size is large) =
    absurd (true≢false (sym small ∙ large))
one_refusal bytes captures guests fault other known known' (by_tree tree small read faulty) (by_text is small' none) =
    let clash : Some tree ≡ None = sym read.1 ∙ none read.0 in cc
one_refusal bytes captures guests fault other known known' (by_tree tree small read faulty)
    (by_tree tree' small' read' faulty') =
    let found : Some tree' ≡ Some tree = sym read'.1 ∙ read.1 in
    let same : tree' ≡ tree = cc in
    same_fault captures guests tree fault other known known' faulty
    (subst (λ d. IsFaultOf captures guests d other) same faulty')

pub one_plan_fault : (name : List ℕ) (captures : ℕ) (guests : List (List ℕ)) (files : Entries) (cause other : FileFault)
    → IsFaultyPlan name captures guests files cause → IsFaultyPlan name captures guests files other → cause ≡ other
one_plan_fault name captures guests files cause other here there =
    let found : Some here.bytes ≡ Some there.bytes = sym here.file_is ∙ there.file_is in
    let same : there.bytes ≡ here.bytes = cc in
    one_refusal here.bytes captures guests cause other here.known there.known here.refused
    (subst (λ b. IsRefused b captures guests other) same there.refused)

-- a plan is not refused
pub plan_or_fault : (name : List ℕ) (captures : ℕ) (guests : List (List ℕ)) (files : Entries) (plan : Plan)
    (cause : FileFault)
    → IsPlanFile name captures guests files plan → IsFaultyPlan name captures guests files cause → ⊥
plan_or_fault name captures guests files plan cause here there =
    let found : Some here.bytes ≡ Some there.bytes = sym here.file_is ∙ there.file_is in
    let same : there.bytes ≡ here.bytes = cc in
    there.known (not_refused here.bytes captures guests plan cause here.read
    (subst (λ b. IsRefused b captures guests cause) same there.refused))

-- and it is one plan
pub one_plan : (name : List ℕ) (captures : ℕ) (guests : List (List ℕ)) (files : Entries) (plan other : Plan)
    → IsPlanFile name captures guests files plan → IsPlanFile name captures guests files other → IsSamePlan plan other
one_plan name captures guests files plan other here there =
    let found : Some here.bytes ≡ Some there.bytes = sym here.file_is ∙ there.file_is in
    let same : there.bytes ≡ here.bytes = cc in
    same_plan here.bytes captures guests plan other here.read
    (subst (λ b. IsRead b captures guests other) same there.read)

-- The captures

-- a file has one fault
pub one_fault : (name : List ℕ) (files : Entries) (fault other : PcapFault) → IsFaultyCapture name files fault
    → IsFaultyCapture name files other → fault ≡ other
one_fault name files fault other here there =
    let found = sym here.file ∙ there.file in
    let same : here.text ≡ there.text = cc in
    let P : List ℕ → Type 0 = λ t. IsCaptureUpTo t there.frames other in
    (fault_once here.text here.frames there.frames fault other here.up_to (subst P (sym same) there.up_to)).1

-- and passes no limit before it
pub faulty_or_large : (name : List ℕ) (files : Entries) (fault : PcapFault) → IsFaultyCapture name files fault
    → IsLargeCapture name files → ⊥
faulty_or_large name files fault faulty large =
    let found = sym faulty.file ∙ large.file in
    let same : faulty.text ≡ large.text = cc in
    let passes : PassesLimit faulty.text = subst PassesLimit (sym same) large.passes in
    let first = up_to_first faulty.text passes.0 passes.1 faulty.frames passes.2 fault faulty.up_to passes.3 passes.4 in
    passes.5 (within_first faulty.frames passes.2 first.0 first.1 faulty.within)

-- a good capture has no fault, and passes no limit
good_or_bad : (name : List ℕ) (files : Entries) (frames : List Frame) → IsGoodCapture name files frames
    → IsBadCapture name files → ⊥
good_or_bad name files frames good (inl (fault, faulty)) =
    let found = sym good.file ∙ faulty.file in
    let same : good.text ≡ faulty.text = cc in
    let P : List ℕ → Type 0 = λ t. IsCaptureUpTo t faulty.frames fault in
    no_fault good.text frames faulty.frames fault good.is_capture (subst P (sym same) faulty.up_to)
good_or_bad name files frames good (inr large) =
    let found = sym good.file ∙ large.file in
    let same : good.text ≡ large.text = cc in
    let passes : PassesLimit good.text = subst PassesLimit (sym same) large.passes in
    let first = capture_first good.text passes.0 passes.1 frames passes.2 good.is_capture passes.3 passes.4 in
    passes.5 (within_first frames passes.2 first.0 first.1 good.within)

-- where the frames of a port are told, its capture is not bad
pub frames_or_bad : (files : Entries) (captures : List CaptureWord) (port : ℕ) (name : List ℕ) (frames : List Frame)
    → AreFramesOf (Some files) (slice_get captures port) frames → IsFileOf captures port name → IsBadCapture name files
    → ⊥
frames_or_bad files captures port name frames are (word, is, same) bad =
    let P : Option CaptureWord → Type 0 = λ o. AreFramesOf (Some files) o frames in
    let Q : List ℕ → Type 0 = λ n. IsBadCapture n files in
    good_or_bad word.now files frames ((subst P is are).1 files refl) (subst Q (sym same) bad)

-- one port is the lowest that has a bad capture
not_lower : (files : Entries) (captures : List CaptureWord) (port other : ℕ) → IsLowestBad files captures port
    → IsLowestBad files captures other → port ≤ other
not_lower files captures port other here there = by_order (cases_lt other port)
  where
    by_order : (other < port) ⊎ (port ≤ other) → port ≤ other
    by_order (inl less) =
        let good = here.lower other less in
        absurd (frames_or_bad files captures other there.name good.0 good.1 there.file there.bad)
    by_order (inr past) = past

pub one_lowest : (files : Entries) (captures : List CaptureWord) (port other : ℕ) → IsLowestBad files captures port
    → IsLowestBad files captures other → port ≡ other
one_lowest files captures port other here there =
    let up = not_lower files captures port other here there in
    let down = not_lower files captures other port there here in
    omega (arith, up, down)

pub good_or_lowest : (files : Entries) (captures : List CaptureWord) (frames : ℕ → List Frame) (port : ℕ)
    → AreGood (Some files) captures frames → IsLowestBad files captures port → ⊥
good_or_lowest files captures frames port good lowest =
    frames_or_bad files captures port lowest.name (frames port) (good port) lowest.file lowest.bad

-- a port has one list of frames
pub one_frames : (files : Entries) (capture : Option CaptureWord) (frames others : List Frame)
    → AreFramesOf (Some files) capture frames → AreFramesOf (Some files) capture others → frames ≡ others
one_frames files None frames others here there = here ∙ sym there
one_frames files (Some (File name)) frames others here there =
    let one : IsGoodCapture name.now files frames = here.1 files refl in
    let two : IsGoodCapture name.now files others = there.1 files refl in
    let found = sym one.file ∙ two.file in
    let same : one.text ≡ two.text = cc in
    let P : List ℕ → Type 0 = λ t. IsCapture t others in
    capture_once one.text frames others one.is_capture (subst P (sym same) two.is_capture)
one_frames files (Some (Generated seed count)) frames others here there = here ∙ sym there
