-- The shut of a port's input among those of the captures.
use Rattle.std.proofs.Common.{◌≡◌, ap, subst, ℕ, zero, suc, ◌+◌, ◌<◌, Bool, true, List, [], ◌∷◌, Some, if◌then◌else◌, sym, Bor, arith}
use Rattle.std.specs.List.{slice_get}
use Rattle.std.proofs.lemmas.Option.{none-some}
use Rattle.onvm_host.specs.Deeds.{Amounts, Deed, faults_of, has_failed}
use Rattle.command_words.specs.declared.capture.CaptureWord.{CaptureWord}
use Rattle.command_words.specs.declared.capture.CaptureWord.TheVariants.{File, Generated}
use Rattle.onvm_top.specs.Calls.{Shuts}

-- calls of which one failed are counted at the end
pub counted : (amounts : Amounts) → has_failed amounts ≡ true → 0 < (if has_failed amounts then 1 else 0)
counted amounts e =
    let P : Bool → Type 0 = λ b. 0 < (if b then 1 else 0) in
    subst P (sym e) (omega arith)

-- what holds of the name and the takes of a port. A failed take is a fault
pub shut_of : (Has : ℕ → List ℕ → Amounts → Type 0) (captures : List CaptureWord) (port at : ℕ) (deeds : List Deed)
    (file : Bor (List ℕ)) → slice_get captures at ≡ Some (File file) → Shuts Has port captures deeds
    → (takes : Amounts) × Has (port + at) file.now takes × (has_failed takes ≡ true → 0 < faults_of deeds)
shut_of Has [] port at deeds file is shuts = absurd (none-some (File file) is)
shut_of Has (File name ∷ captures) port zero deeds file is (takes, rest, split, has, shuts) =
    let there : Some (File name) ≡ Some (File file) = is in
    let named : name ≡ file = cc in
    let here : port ≡ port + 0 = omega arith in
    let Of : Bor (List ℕ) → Type 0 = λ f. Has port f.now takes in
    let At : ℕ → Type 0 = λ p. Has p file.now takes in
    (takes, subst At here (subst Of named has), λ failed. omega (arith, ap faults_of split, counted takes failed))
shut_of Has (File name ∷ captures) port (suc at) deeds file is (takes, rest, split, has, shuts) =
    let later = shut_of Has captures (port + 1) at rest file is shuts in
    let here : port + 1 + at ≡ port + suc at = omega arith in
    let At : ℕ → Type 0 = λ p. Has p file.now later.0 in
    (later.0, subst At here later.1, λ failed. omega (arith, ap faults_of split, later.2 failed))
shut_of Has (Generated seed count ∷ captures) port zero deeds file is shuts =
    let clash : Some (Generated seed count) ≡ Some (File file) = is in
    absurd (cc)
shut_of Has (Generated seed count ∷ captures) port (suc at) deeds file is shuts =
    let later = shut_of Has captures (port + 1) at deeds file is shuts in
    let here : port + 1 + at ≡ port + suc at = omega arith in
    let At : ℕ → Type 0 = λ p. Has p file.now later.0 in
    (later.0, subst At here later.1, later.2)

-- the same where they are shut from the first port on
pub shut_at : (Has : ℕ → List ℕ → Amounts → Type 0) (captures : List CaptureWord) (at : ℕ) (deeds : List Deed)
    (file : Bor (List ℕ)) → slice_get captures at ≡ Some (File file) → Shuts Has 0 captures deeds
    → (takes : Amounts) × Has at file.now takes × (has_failed takes ≡ true → 0 < faults_of deeds)
shut_at Has captures at deeds file is shuts =
    let shut = shut_of Has captures 0 at deeds file is shuts in
    let here : 0 + at ≡ at = omega arith in
    let At : ℕ → Type 0 = λ p. Has p file.now shut.0 in
    (shut.0, subst At here shut.1, shut.2)
