-- The acts of a sample.
use Rattle.std.proofs.Common.{◌≡◌, ℕ, zero, suc, ◌+◌, ◌-◌, ◌*◌, ◌<◌, Bool, true, false, List, [], ◌∷◌, ◌++◌, length, Some, Option, refl, sym, ap, ◌∙◌, subst, arith}
use Rattle.std.specs.Prelude.{◌≢◌, ◌^◌, min, nat_lt, slice_set, slice_index_or}
use Rattle.std.proofs.lemmas.Bool.{eq-eqb, lt-ltb}
use Rattle.onvm_base.specs.declared.ids.FnId.{FnId}
use Rattle.onvm_base.specs.declared.ids.RingId.TheVariants.{Output}
use Rattle.onvm_core.specs.declared.layout.Layout.{Layout}
use Rattle.onvm_core.specs.Handling.{core_hand}
use Rattle.onvm_core.specs.Journals.{journal, last_popped_parcel}
use Rattle.onvm_core.specs.Logs.{Hand, Log}
use Rattle.onvm_core.specs.Places.{how_many, one_if}
use Rattle.onvm_core.specs.Potential.{pushed_in}
use Rattle.onvm_core.proofs.Once.{how_many-append}
use Rattle.onvm_board.specs.Known.{has_room}
use Rattle.onvm_board.specs.Tokens.{BoardView, TokenView, grown}
use Rattle.desc_ring.proofs.Roominess.{room_grown}
use Rattle.nf_api.specs.Acts.{Acts}
use Rattle.nf_api.specs.Tree.{Tree}
use Rattle.onvm_promises.specs.Kept.{at_most_64_bits, is_lost, is_yield}
use Rattle.onvm_promises.specs.Passes.{is_mailed}
use Rattle.nf_exec.specs.declared.role.CoreRole.{CoreRole}
use Rattle.nf_exec.specs.declared.role.Kept.{Kept}
use Rattle.nf_exec.specs.declared.station.Station.{Station}
use Rattle.nf_exec.specs.Roles.{IsAtWork, IsKept}
use Rattle.nf_exec.specs.Roles.IsKept.{NoneKept, OneKept}
use Rattle.nf_exec.specs.Serving.{sample_acts}
use Rattle.nf_exec.specs.Stations.{IsStation, Stands, functions_of, in_hand}
use Rattle.nf_exec.specs.Steps.IsSampleStep.{AMail, ALoss}
use Rattle.nf_exec.proofs.Elsewhere.{AreQuiet, AreSilent, quiet_journal, sample_elsewhere, sample_quiet}
use Rattle.nf_exec.proofs.Passing.{same_at}
use Rattle.nf_exec.proofs.Servings.{stood}
use Rattle.nf_exec.proofs.Working.{work_on}
use Rattle.nf_exec.proofs.StationLists.{as_long, function_at, functions_long, item_there}

-- The acts of a sample

pub sample_silent : (f g : FnId) (count time : ℕ) (lost : Bool) → f.0 ≢ g.0
    → AreSilent g (sample_acts f count time lost)
sample_silent f g zero time lost apart = tt
sample_silent f g (suc n) time false apart = (sample_elsewhere f g _ apart (AMail (suc n * 2 ^ 40 + time)), tt)
sample_silent f g (suc n) time true apart = (sample_elsewhere f g _ apart ALoss, tt)

sample_still : (f g : FnId) (count time : ℕ) (lost : Bool) → AreQuiet g (sample_acts f count time lost)
sample_still f g zero time lost = tt
sample_still f g (suc n) time false = (sample_quiet f g _ (AMail (suc n * 2 ^ 40 + time)), tt)
sample_still f g (suc n) time true = (sample_quiet f g _ ALoss, tt)

sample_hand : (f : FnId) (count time : ℕ) (lost : Bool) (log : Log)
    → core_hand (sample_acts f count time lost ++ log) ≡ core_hand log
sample_hand f zero time lost log = refl
sample_hand f (suc n) time false log = refl
sample_hand f (suc n) time true log = refl

sample_popped : (f : FnId) (count time : ℕ) (lost : Bool) (buf : ℕ) (log : Log)
    → last_popped_parcel buf (sample_acts f count time lost ++ log) ≡ last_popped_parcel buf log
sample_popped f zero time lost buf log = refl
sample_popped f (suc n) time false buf log = refl
sample_popped f (suc n) time true buf log = refl

sample_pushed : (f g : FnId) (count time : ℕ) (lost : Bool)
    → pushed_in (Output g) (sample_acts f count time lost) ≡ []
sample_pushed f g zero time lost = refl
sample_pushed f g (suc n) time false = refl
sample_pushed f g (suc n) time true = refl

sample_yields : (f : FnId) (count time : ℕ) (lost : Bool) → how_many is_yield (sample_acts f count time lost) ≡ 0
sample_yields f zero time lost = refl
sample_yields f (suc n) time false = refl
sample_yields f (suc n) time true = refl

pub sample_lost : (f : FnId) (count time : ℕ) (lost : Bool) → (lost ≡ true → 0 < count)
    → how_many is_lost (sample_acts f count time lost) ≡ one_if lost
sample_lost f zero time false some = refl
sample_lost f zero time true some = absurd (omega (arith, some refl))
sample_lost f (suc n) time false some = refl
sample_lost f (suc n) time true some = refl

pub sample_mailed : (f : FnId) (count time : ℕ) (lost : Bool)
    → how_many (is_mailed f) (sample_acts f count time lost) ≡ one_if (nat_lt 0 count)
sample_mailed f zero time lost = refl
sample_mailed f (suc n) time false =
    rw (eq-eqb f.0 f.0 refl, lt-ltb 0 (suc n) (omega arith)) refl
sample_mailed f (suc n) time true =
    rw (eq-eqb f.0 f.0 refl, lt-ltb 0 (suc n) (omega arith)) refl

sample_stands : (layout : Layout) (f : FnId) (count time : ℕ) (lost : Bool) (before after : TokenView)
    → after ≡ grown (sample_acts f count time lost) before.hand before
    → Stands layout (core_hand before.log) before → Stands layout (core_hand after.log) after
sample_stands layout f count time lost before after grew is =
    let log_is : after.log ≡ sample_acts f count time lost ++ before.log = ap (λ (t : TokenView). t.log) grew in
    let same : core_hand after.log ≡ core_hand before.log =
    ap core_hand log_is ∙ sample_hand f count time lost before.log in
    record {
      hand = ap (λ (t : TokenView). t.hand) grew ∙ is.hand ∙ ap in_hand (sym same);
      logged = refl;
      ready = λ hand e.
          let had = is.ready hand (sym same ∙ e) in
          record {
            known = had.known;
            fits = had.fits;
            room = ap (has_room layout (Output hand.function)) log_is
                ∙ room_grown layout (Output hand.function) (sample_acts f count time lost) before.log
                (sample_pushed f hand.function count time lost) had.room;
            popped = ap (last_popped_parcel hand.buf) log_is ∙ sample_popped f count time lost hand.buf before.log
                ∙ had.popped;
          };
    }

pub set_same : {A : Type 0} (xs : List A) (at : ℕ) (x : A) → at < length xs → x ≡ slice_index_or xs at x
    → xs ≡ slice_set xs at x
set_same [] at x less is = absurd (omega arith)
set_same (y ∷ ys) zero x less is = ap (λ z. z ∷ ys) (sym is)
set_same (y ∷ ys) (suc at) x less is = ap (λ zs. y ∷ zs) (set_same ys at x (omega arith) is)

kept_set : (stations now : List Station) (at : ℕ) (s s_now : Station) (kept : Option Kept) (hand : Option Hand)
    → at < length stations → s ≡ slice_index_or stations at s → s_now.function ≡ s.function
    → now ≡ slice_set stations at s_now → functions_of now ≡ functions_of stations → IsKept stations kept hand
    → IsKept now kept hand
kept_set stations now at s s_now kept hand less s_is same now_is functions NoneKept = NoneKept
kept_set stations now at s s_now kept hand less s_is same now_is functions (OneKept one t parcel below t_is) =
    let under : one.at < length now = omega (arith, below, as_long stations now functions) in
    let r = item_there now one.at under in
    let counts = functions_long stations in
    let f_is : r.0.function ≡ t.function
    = same_at (functions_of stations) one.at r.0.function t.function (omega (arith, below, counts))
    (function_at now one.at r.0 under r.1 ∙ ap (λ fs. slice_index_or fs one.at r.0.function) functions)
    (function_at stations one.at t below t_is) in
    subst (λ (f : FnId). IsKept now (Some one) (Some (record { function = f; buf = one.buf.0; parcel = parcel })))
    f_is (OneKept one r.0 parcel under r.1)

pub work_mailed : {N : Type 0} (acts : N → Acts) (state : N → Tree) (site : BoardView) (at : ℕ) (lost : Bool)
    (before after : TokenView) (role now : CoreRole N) (s s_now : Station) → at < length role.stations.items
    → IsAtWork acts state site before role → s ≡ slice_index_or role.stations.items at s
    → now.stations.items ≡ slice_set role.stations.items at s_now
    → functions_of now.stations.items ≡ functions_of role.stations.items
    → now.units.items ≡ role.units.items → now.began.value.items ≡ role.began.value.items
    → IsStation site s_now after → s_now.function ≡ s.function
    → after ≡ grown (sample_acts s.function s.count s.time lost) before.hand before
    → (lost ≡ true → 0 < s.count) → now.kept ≡ role.kept → now.yields ≡ role.yields
    → now.lost ≡ min (role.lost + one_if lost) (2 ^ 64 - 1) → IsAtWork acts state site after now
work_mailed acts state site at lost before after role now s s_now less work s_is stations_are functions units_are
    began_is here same grew some kept yields lost_is =
    let f : FnId = s.function in
    let added : Log = sample_acts s.function s.count s.time lost in
    let log_is : after.log ≡ added ++ before.log = ap (λ (t : TokenView). t.log) grew in
    let hand_is : core_hand after.log ≡ core_hand before.log =
    ap core_hand log_is ∙ sample_hand f s.count s.time lost before.log in
    let within : at < length role.units.items = omega (arith, less, work.units) in
    let u = item_there role.units.items at within in
    work_on acts state site at added before after role now s s_now u.0 u.0
    (grew ∙ ap (λ h. grown added h before) (sym (ap (λ (t : TokenView). t.hand) grew))) less work s_is u.1 stations_are
    (units_are ∙ set_same role.units.items at u.0 within u.1) began_is here same
    (stood acts state f u.0 before.log after.log
    (ap (journal f) log_is ∙ quiet_journal f added before.log (sample_still f f s.count s.time lost)))
    (λ g apart. sample_silent f g s.count s.time lost apart)
    (sample_stands site.layout f s.count s.time lost before after grew work.stands)
    (subst (λ (z : Option Kept × Option Hand). IsKept now.stations.items z.0 z.1)
    (λ i. (sym kept i, sym hand_is i))
    (kept_set role.stations.items now.stations.items at s s_now role.kept (core_hand before.log) less s_is same
    stations_are functions work.kept))
    (yields ∙ work.yields
    ∙ ap at_most_64_bits
    (sym (ap (how_many is_yield) log_is
    ∙ how_many-append is_yield added before.log
    ∙ ap (λ n. n + how_many is_yield before.log) (sample_yields f s.count s.time lost) ∙ omega arith)))
    (omega (
      arith,
      lost_is,
      work.lost,
      ap (how_many is_lost) log_is,
      how_many-append is_lost added before.log,
      sample_lost f s.count s.time lost some,
    ))
