-- What samples change of a log, and what stays while none is mailed.
use Rattle.std.proofs.Common.{◌≡◌, ℕ, ◌+◌, ◌*◌, Bool, true, false, List, [], ◌∷◌, ◌++◌, Option, refl, sym, ◌∙◌, arith}
use Rattle.std.specs.Prelude.{◌==◌, ◌^◌, if◌then◌else◌}
use Rattle.std.proofs.lemmas.Bool.{eq-eqb, true≢false}
use Rattle.std.proofs.lemmas.Nat.{mod_low}
use Rattle.onvm_base.specs.declared.ids.FnId.{FnId}
use Rattle.onvm_base.specs.declared.ids.RingId.TheVariants.{Lane, Output, Mail}
use Rattle.onvm_base.specs.declared.plan.Plan.{Plan}
use Rattle.onvm_core.specs.declared.step.Act.{Act}
use Rattle.onvm_core.specs.declared.step.Act.TheVariants.{Split, Join, Take, Give, Push, Full, Pop, Empty, Look, Post}
use Rattle.onvm_core.specs.declared.step.Item.TheVariants.{Buffer, Number}
use Rattle.onvm_core.specs.Handling.{core_hand, hand_after, is_push_on}
use Rattle.onvm_core.specs.Logs.{Hand, Log}
use Rattle.onvm_core.specs.Places.{how_many, one_if}
use Rattle.onvm_core.specs.Samples.{unsampled_count, unsampled_count_after}
use Rattle.onvm_promises.specs.Answers.{is_handled}
use Rattle.onvm_promises.specs.Passes.{is_mailed}
use Rattle.onvm_promises.specs.Sampling.{AreTimed, MayTime}
use Rattle.onvm_promises.proofs.Evening.{none_first}
use Rattle.nf_exec.specs.declared.station.Station.{Station}
use Rattle.nf_exec.specs.Roles.{AreMailsOf, IsMailOf, times_are}
use Rattle.nf_exec.specs.Roles.IsMailOf.{AMail as MailOf, ALoss as LossOf}
use Rattle.nf_exec.specs.Steps.IsSampleStep.{AMail, ALoss}
use Rattle.nf_exec.proofs.Elsewhere.{AreQuiet, IsQuiet, none_of, sample_quiet}

-- Samples

mail_quiet : (stations : List Station) (g : FnId) (act : Act) → IsMailOf stations act → IsQuiet g act
mail_quiet stations g act (MailOf i s less s_is some) =
    sample_quiet s.function g act (AMail (s.count * 2 ^ 40 + s.time))
mail_quiet stations g act (LossOf i s less s_is some) = sample_quiet s.function g act ALoss

pub mails_quiet : (stations : List Station) (g : FnId) (log : Log) → AreMailsOf stations log → AreQuiet g log
mails_quiet stations g [] are = tt
mails_quiet stations g (act ∷ log) are = (mail_quiet stations g act are.0, mails_quiet stations g log are.1)

mail_still : (stations : List Station) (act : Act) → IsMailOf stations act
    → (is_handled act ≡ false) × ((was : Option Hand) → hand_after act was ≡ was)
mail_still stations act (MailOf i s less s_is some) = (refl, λ was. refl)
mail_still stations act (LossOf i s less s_is some) = (refl, λ was. refl)

pub mails_unhandled : (stations : List Station) (log : Log) → AreMailsOf stations log → how_many is_handled log ≡ 0
mails_unhandled stations [] are = refl
mails_unhandled stations (act ∷ log) are =
    none_of is_handled act (how_many is_handled log) (mail_still stations act are.0).0 (mails_unhandled stations log are.1)

pub mails_hand : (stations : List Station) (log before : Log) → AreMailsOf stations log
    → core_hand (log ++ before) ≡ core_hand before
mails_hand stations [] before are = refl
mails_hand stations (act ∷ log) before are =
    (mail_still stations act are.0).1 (core_hand (log ++ before)) ∙ mails_hand stations log before are.1

mail_timed : (may_span : ℕ → ℕ → Type 0) (plan : Plan) (stations : List Station) (act : Act)
    → times_are may_span plan stations → IsMailOf stations act → MayTime may_span plan act
mail_timed may_span plan stations act times (MailOf i s less s_is some) =
    let is = times i s less s_is some in
    (is.0, is.1, mod_low s.count 40 s.time (omega (arith, is.2)) ∙ is.2)
mail_timed may_span plan stations act times (LossOf i s less s_is some) = tt

pub mails_timed : (may_span : ℕ → ℕ → Type 0) (plan : Plan) (stations : List Station) (log before : Log)
    → times_are may_span plan stations → AreMailsOf stations log → AreTimed may_span plan before
    → AreTimed may_span plan (log ++ before)
mails_timed may_span plan stations [] before times are timed = timed
mails_timed may_span plan stations (act ∷ log) before times are timed =
    (mail_timed may_span plan stations act times are.0, mails_timed may_span plan stations log before times are.1 timed)

-- Where no sample is mailed

untimed : (may_span : ℕ → ℕ → Type 0) (plan : Plan) (act : Act) → ((g : FnId) → is_mailed g act ≡ false)
    → MayTime may_span plan act
untimed may_span plan (Push (Mail g) (Number n)) none = absurd (true≢false (sym (eq-eqb g.0 g.0 refl) ∙ none g))
untimed may_span plan (Push (Mail g) (Buffer b parcel)) none = tt
untimed may_span plan (Push (Output g) item) none = tt
untimed may_span plan (Push (Lane g p) item) none = tt
untimed may_span plan (Full a) none = tt
untimed may_span plan (Split a) none = tt
untimed may_span plan (Join a) none = tt
untimed may_span plan (Take a) none = tt
untimed may_span plan (Give a b d) none = tt
untimed may_span plan (Pop a b) none = tt
untimed may_span plan (Empty a) none = tt
untimed may_span plan (Look a b d) none = tt
untimed may_span plan (Post a b) none = tt

pub unmailed_timed : (may_span : ℕ → ℕ → Type 0) (plan : Plan) (log before : Log)
    → ((g : FnId) → how_many (is_mailed g) log ≡ 0) → AreTimed may_span plan before
    → AreTimed may_span plan (log ++ before)
unmailed_timed may_span plan [] before none timed = timed
unmailed_timed may_span plan (act ∷ log) before none timed = (
  untimed may_span plan act (λ g. (none_first (is_mailed g) act log (none g)).0),
  unmailed_timed may_span plan log before (λ g. (none_first (is_mailed g) act log (none g)).1) timed,
)

one_more : (b : Bool) (n : ℕ) → (if b then n + 1 else n) ≡ one_if b + n
one_more true n = omega arith
one_more false n = omega arith

none_yet : (b : Bool) (n : ℕ) → b ≡ false → (if b then 0 else n) ≡ 0 + n
none_yet true n e = absurd (true≢false e)
none_yet false n e = omega arith

nothing : (n : ℕ) → n ≡ 0 + n
nothing n = omega arith

unsampled_one : (f : FnId) (act : Act) (n : ℕ) → is_mailed f act ≡ false
    → unsampled_count_after f act n ≡ one_if (is_push_on (Output f) act) + n
unsampled_one f (Push (Output g) item) n none = one_more (g.0 == f.0) n
unsampled_one f (Push (Mail g) item) n none = none_yet (g.0 == f.0) n none
unsampled_one f (Push (Lane g p) item) n none = nothing n
unsampled_one f (Full (Mail g)) n none = none_yet (g.0 == f.0) n none
unsampled_one f (Full (Output g)) n none = nothing n
unsampled_one f (Full (Lane g p)) n none = nothing n
unsampled_one f (Split a) n none = nothing n
unsampled_one f (Join a) n none = nothing n
unsampled_one f (Take a) n none = nothing n
unsampled_one f (Give a b d) n none = nothing n
unsampled_one f (Pop a b) n none = nothing n
unsampled_one f (Empty a) n none = nothing n
unsampled_one f (Look a b d) n none = nothing n
unsampled_one f (Post a b) n none = nothing n

pub unsampled_over : (f : FnId) (log before : Log) → how_many (is_mailed f) log ≡ 0
    → unsampled_count f (log ++ before) ≡ how_many (is_push_on (Output f)) log + unsampled_count f before
unsampled_over f [] before none = nothing (unsampled_count f before)
unsampled_over f (act ∷ log) before none =
    let parts = none_first (is_mailed f) act log none in
    let one = unsampled_one f act (unsampled_count f (log ++ before)) parts.0 in
    let rest = unsampled_over f log before parts.1 in
    omega (arith, one, rest)
