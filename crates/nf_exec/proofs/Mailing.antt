-- What the sample of one function leaves of its core's role.
use Rattle.std.proofs.Common.{◌≡◌, ℕ, zero, suc, ◌+◌, ◌*◌, ◌<◌, ◌≤◌, Bool, true, false, inl, inr, List, [], ◌∷◌, ◌++◌, length, refl, sym, ap, ◌∙◌, subst, arith}
use Rattle.std.specs.Prelude.{◌≢◌, ◌⊎◌, ◌==◌, ◌^◌, ◌/◌, nat_lt, slice_index_or}
use Rattle.std.proofs.lemmas.Bool.Decides.{eqb_tells}
use Rattle.onvm_base.specs.declared.ids.FnId.{FnId}
use Rattle.onvm_base.specs.declared.ids.RingId.TheVariants.{Mail}
use Rattle.onvm_base.specs.declared.plan.Plan.{Plan}
use Rattle.onvm_core.specs.declared.entry.Entry.{Entry}
use Rattle.onvm_core.specs.declared.step.Act.TheVariants.{Push}
use Rattle.onvm_core.specs.declared.step.Item.TheVariants.{Number}
use Rattle.onvm_core.specs.Layouts.{core_role}
use Rattle.onvm_core.specs.Logs.{Log}
use Rattle.onvm_core.specs.Places.{how_many, one_if}
use Rattle.onvm_core.specs.Samples.{unsampled_count}
use Rattle.onvm_core.proofs.Once.{how_many-append}
use Rattle.onvm_board.specs.Tokens.{BoardView, TokenView, grown}
use Rattle.onvm_board.proofs.Stretches.{grown_twice}
use Rattle.onvm_promises.specs.Passes.{is_mailed}
use Rattle.onvm_promises.specs.Roles.{setting_of}
use Rattle.nf_exec.specs.declared.station.Station.{Station}
use Rattle.nf_exec.specs.Roles.{AreMailsOf, HasMailed, IsMailOf, KeepsOthers}
use Rattle.nf_exec.specs.Roles.IsMailOf.{AMail as MailOf, ALoss as LossOf}
use Rattle.nf_exec.specs.Serving.{sample_acts}
use Rattle.nf_exec.specs.Stations.{AreFunctionsOf, functions_of}
use Rattle.nf_exec.specs.Steps.{DoesFrom}
use Rattle.nf_exec.proofs.Doing.{does_append}
use Rattle.nf_exec.proofs.Elsewhere.{AreSilent, silent_mailed}
use Rattle.nf_exec.proofs.Passing.{same_at}
use Rattle.nf_exec.proofs.StationLists.{as_long, function_at, functions_long}
use Rattle.nf_exec.proofs.SampleActs.{sample_mailed, sample_silent}

-- Samples one after the other

sample_does : (site : BoardView) (f : FnId) (count time role : ℕ) (lost : Bool) (log : Log)
    → (f.0 < site.layout.functions) × (core_role site.layout f.0 ≡ role) → count ≡ unsampled_count f log
    → (0 < count → time < 2 ^ 40) → (plan : Plan) (entries : List Entry)
    → DoesFrom (setting_of site.layout plan entries) role log (sample_acts f count time lost)
sample_does site f zero time role lost log own counts small plan entries = tt
sample_does site f (suc n) time role false log own counts small plan entries = (
  record {
    handles = record { known = own.0; core = own.1 };
    tries = tt;
    looks = tt;
    samples = (whole (suc n) time (small (omega arith)) ∙ counts, omega (arith, counts));
  },
  tt,
)
  where
    whole : (count time : ℕ) → time < 2 ^ 40 → (count * 2 ^ 40 + time) / 2 ^ 40 ≡ count
    whole count time small = omega (arith, small)
sample_does site f (suc n) time role true log own counts small plan entries =
    (record { handles = record { known = own.0; core = own.1 }; tries = tt; looks = tt; samples = tt }, tt)

sample_mails : (stations : List Station) (at : ℕ) (s : Station) (count : ℕ) (lost : Bool) → at < length stations
    → s ≡ slice_index_or stations at s → s.count ≡ count → AreMailsOf stations (sample_acts s.function s.count s.time lost)
sample_mails stations at s count lost less s_is e =
    subst (λ n. AreMailsOf stations (sample_acts s.function n s.time lost)) (sym e) (by_count count lost e)
  where
    by_count : (count : ℕ) (lost : Bool) → s.count ≡ count
        → AreMailsOf stations (sample_acts s.function count s.time lost)
    by_count zero lost e = tt
    by_count (suc n) false e = (
      subst (λ m. IsMailOf stations (Push (Mail s.function) (Number (m * 2 ^ 40 + s.time)))) e
          (MailOf at s less s_is (omega (arith, e))),
      tt,
    )
    by_count (suc n) true e = (LossOf at s less s_is (omega (arith, e)), tt)

mails_append : (stations : List Station) (xs ys : Log) → AreMailsOf stations xs → AreMailsOf stations ys
    → AreMailsOf stations (xs ++ ys)
mails_append stations [] ys first second = second
mails_append stations (act ∷ xs) ys first second = (first.0, mails_append stations xs ys first.1 second)

pub mailed_next : (site : BoardView) (stations : List Station) (at : ℕ) (s : Station) (lost : Bool) (a b c : TokenView)
    → at < length stations → s ≡ slice_index_or stations at s
    → AreFunctionsOf site.layout a.role (functions_of stations) → s.count ≡ unsampled_count s.function b.log
    → (0 < s.count → s.time < 2 ^ 40) → HasMailed site stations at a b
    → c ≡ grown (sample_acts s.function s.count s.time lost) b.hand b → HasMailed site stations (at + 1) a c
mailed_next site stations at s lost a b c less s_is functions counts small was grew =
    let xs : Log = sample_acts s.function s.count s.time lost in
    let hand_is : b.hand ≡ a.hand = ap (λ (t : TokenView). t.hand) was.grew in
    let log_is : b.log ≡ was.added ++ a.log = ap (λ (t : TokenView). t.log) was.grew in
    let long = functions_long stations in
    record {
      added = xs ++ was.added;
      grew = grown_twice was.added xs a.hand a.hand a b c was.grew (grew ∙ ap (λ h. grown xs h b) hand_is);
      does = λ plan entries.
          does_append (setting_of site.layout plan entries) a.role a.log was.added xs (was.does plan entries)
          (subst (λ (log : Log). DoesFrom (setting_of site.layout plan entries) a.role log xs) log_is
          (sample_does site s.function s.count s.time a.role lost b.log
          (functions.own at s.function (omega (arith, less, long)) (function_at stations at s less s_is)) counts small plan
          entries));
      mails = mails_append stations xs was.added (sample_mails stations at s s.count lost less s_is refl) was.mails;
      mailed = λ i t below under t_is. mailed_at i t below under t_is (eqb_tells i at);
      rest = λ i t above under t_is.
          omega (
            arith,
            how_many-append (is_mailed t.function) xs was.added,
            was.rest i t (omega (arith, above)) under t_is,
            silent_mailed t.function xs (others i t under (λ e. absurd (omega (arith, above, e))) t_is),
          );
    }
  where
    others : (i : ℕ) (t : Station) → i < length stations → i ≢ at → t ≡ slice_index_or stations i t
        → AreSilent t.function (sample_acts s.function s.count s.time lost)
    others i t under other t_is =
        let long = functions_long stations in
        sample_silent s.function t.function s.count s.time lost
        (functions.apart at i s.function t.function (omega (arith, less, long)) (omega (arith, under, long))
        (λ e. other (sym e)) (function_at stations at s less s_is) (function_at stations i t under t_is))

    mailed_at : (i : ℕ) (t : Station) → i < at + 1 → i < length stations → t ≡ slice_index_or stations i t
        → (((i == at) ≡ true) × (i ≡ at)) ⊎ (((i == at) ≡ false) × (i ≢ at))
        → how_many (is_mailed t.function) (sample_acts s.function s.count s.time lost ++ was.added)
        ≡ one_if (nat_lt 0 t.count)
    mailed_at i t below under t_is (inl met) =
        subst (λ (z : Station). how_many (is_mailed z.function)
        (sample_acts s.function s.count s.time lost ++ was.added) ≡ one_if (nat_lt 0 z.count))
        (same_at stations at s t less s_is (t_is ∙ ap (λ j. slice_index_or stations j t) met.1))
        (omega (
          arith,
          how_many-append (is_mailed s.function) (sample_acts s.function s.count s.time lost) was.added,
          sample_mailed s.function s.count s.time lost,
          was.rest at s (omega arith) less s_is,
        ))
    mailed_at i t below under t_is (inr unmet) =
        omega (
          arith,
          how_many-append (is_mailed t.function) (sample_acts s.function s.count s.time lost) was.added,
          was.mailed i t (omega (arith, below, unmet.1)) under t_is,
          silent_mailed t.function (sample_acts s.function s.count s.time lost) (others i t under unmet.1 t_is),
        )

pub mailed_none : (site : BoardView) (stations : List Station) (a : TokenView) → HasMailed site stations 0 a a
mailed_none site stations a = record {
  added = [];
  grew = refl;
  does = λ plan entries. tt;
  mails = tt;
  mailed = λ i s below under s_is. absurd (omega (arith, below));
  rest = λ i s above under s_is. refl;
}

pub done_next : (stations now : List Station) (at : ℕ) → KeepsOthers at stations now
    → ((t : Station) → t ≡ slice_index_or now at t → t.count ≡ 0)
    → ((i : ℕ) (s : Station) → i < at → i < length stations → s ≡ slice_index_or stations i s → s.count ≡ 0)
    → (i : ℕ) (s : Station) → i < at + 1 → i < length now → s ≡ slice_index_or now i s → s.count ≡ 0
done_next stations now at keeps zero_is were i s below under s_is = at_place (eqb_tells i at)
  where
    at_place : (((i == at) ≡ true) × (i ≡ at)) ⊎ (((i == at) ≡ false) × (i ≢ at)) → s.count ≡ 0
    at_place (inl met) = zero_is s (s_is ∙ ap (λ j. slice_index_or now j s) met.1)
    at_place (inr unmet) =
        let within : i < length stations = omega (arith, under, as_long stations now keeps.functions) in
        were i s (omega (arith, below, unmet.1)) within (keeps.others i s within unmet.1 s_is)

pub rest_next : (first stations now : List Station) (at : ℕ) → KeepsOthers at stations now
    → ((i : ℕ) (s : Station) → at ≤ i → i < length stations → s ≡ slice_index_or stations i s
    → s ≡ slice_index_or first i s)
    → (i : ℕ) (s : Station) → at + 1 ≤ i → i < length now → s ≡ slice_index_or now i s → s ≡ slice_index_or first i s
rest_next first stations now at keeps were i s above under s_is =
    let within : i < length stations = omega (arith, under, as_long stations now keeps.functions) in
    were i s (omega (arith, above)) within (keeps.others i s within (λ e. absurd (omega (arith, above, e))) s_is)
