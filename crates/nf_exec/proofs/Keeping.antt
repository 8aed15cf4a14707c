-- The kept parcel, at the begin of a pass.
use Rattle.std.proofs.Common.{◌≡◌, ℕ, ◌+◌, ◌<◌, ◌≤◌, Bool, true, false, inl, inr, List, [], ◌∷◌, length, Some, None, Option, Result, Ok, Err, refl, sym, ap, ◌∙◌, subst, arith}
use Rattle.std.specs.Prelude.{OnErr, ◌≢◌, ◌⊎◌, ◌==◌, if◌then◌else◌, slice_set, slice_index_or}
use Rattle.std.proofs.lemmas.Bool.{eq-eqb, ne_eqb, true≢false}
use Rattle.std.proofs.lemmas.Bool.Decides.{eqb_tells}
use Rattle.std.proofs.lemmas.List.{get_or-set_other, length-set}
use Rattle.onvm_base.specs.declared.ids.BufId.{BufId}
use Rattle.onvm_base.specs.declared.ids.FnId.{FnId}
use Rattle.onvm_base.specs.declared.ids.RingId.TheVariants.{Lane, Output, Mail}
use Rattle.onvm_base.specs.declared.plan.Plan.{Plan}
use Rattle.onvm_core.specs.declared.parcel.Parcel.{Parcel}
use Rattle.onvm_core.specs.declared.step.Act.TheVariants.{Split, Join, Take, Give, Push, Full, Pop, Empty, Look, Post}
use Rattle.onvm_core.specs.declared.step.Item.TheVariants.{Buffer}
use Rattle.onvm_core.specs.Handling.{core_hand}
use Rattle.onvm_core.specs.Layouts.{core_role}
use Rattle.onvm_core.specs.Logs.{Hand, Log}
use Rattle.onvm_core.specs.Places.{how_many}
use Rattle.onvm_core.specs.Samples.{is_sampled, unsampled_count}
use Rattle.onvm_board.specs.Tokens.{BoardView, TokenView, first_parcel, grown, parcel_in}
use Rattle.nf_api.specs.Acts.{Acts}
use Rattle.nf_api.specs.Tree.{Tree}
use Rattle.onvm_promises.specs.Kept.{at_most_64_bits, is_lost, is_yield}
use Rattle.nf_exec.specs.declared.role.CoreRole.{CoreRole}
use Rattle.nf_exec.specs.declared.role.Kept.{Kept}
use Rattle.nf_exec.specs.declared.station.Station.{Station}
use Rattle.nf_exec.specs.Handing.{IsUnmoved}
use Rattle.nf_exec.specs.Roles.{AreServed, IsAtWork, IsCoreRole, IsKept, IsPassing, counts_upto, times_are}
use Rattle.nf_exec.specs.Roles.IsKept.{NoneKept, OneKept}
use Rattle.nf_exec.specs.Serving.{HasPassedOn}
use Rattle.nf_exec.specs.Stations.{IsStation, Stands, in_hand}
use Rattle.nf_exec.specs.Steps.IsServiceStep.{APush}
use Rattle.nf_exec.proofs.Elsewhere.{services_elsewhere}
use Rattle.nf_exec.proofs.Servings.{stood_still}
use Rattle.nf_exec.proofs.HandingOn.{made, pass_act, pass_does, pass_journal, pass_stands}
use Rattle.nf_exec.proofs.Working.{work_on}
use Rattle.nf_exec.proofs.StationLists.{at_set, function_at, functions_long}

-- Nothing waits for a sample exactly where the last push has one behind it

by_push : (b s : Bool) (n : ℕ) → s ≡ (n == 0) → (if b then false else s) ≡ ((if b then n + 1 else n) == 0)
by_push true s n e = sym (ne_eqb (n + 1) 0 (λ z. absurd (omega (arith, z))))
by_push false s n e = e

by_sample : (b s : Bool) (n : ℕ) → s ≡ (n == 0) → (if b then true else s) ≡ ((if b then 0 else n) == 0)
by_sample true s n e = refl
by_sample false s n e = e

pub sampled_is : (f : FnId) (log : Log) → is_sampled f log ≡ (unsampled_count f log == 0)
sampled_is f [] = refl
sampled_is f (Push (Output g) item ∷ log) =
    by_push (g.0 == f.0) (is_sampled f log) (unsampled_count f log) (sampled_is f log)
sampled_is f (Push (Mail g) item ∷ log) =
    by_sample (g.0 == f.0) (is_sampled f log) (unsampled_count f log) (sampled_is f log)
sampled_is f (Push (Lane g p) item ∷ log) = sampled_is f log
sampled_is f (Full (Mail g) ∷ log) =
    by_sample (g.0 == f.0) (is_sampled f log) (unsampled_count f log) (sampled_is f log)
sampled_is f (Full (Output g) ∷ log) = sampled_is f log
sampled_is f (Full (Lane g p) ∷ log) = sampled_is f log
sampled_is f (Split a ∷ log) = sampled_is f log
sampled_is f (Join a ∷ log) = sampled_is f log
sampled_is f (Take a ∷ log) = sampled_is f log
sampled_is f (Give a b d ∷ log) = sampled_is f log
sampled_is f (Pop a b ∷ log) = sampled_is f log
sampled_is f (Empty a ∷ log) = sampled_is f log
sampled_is f (Look a b d ∷ log) = sampled_is f log
sampled_is f (Post a b ∷ log) = sampled_is f log

pub none_waits : (f : FnId) (log : Log) → is_sampled f log ≡ true → unsampled_count f log ≡ 0
none_waits f log e = by_test (eqb_tells (unsampled_count f log) 0)
  where
    by_test : (((unsampled_count f log == 0) ≡ true) × (unsampled_count f log ≡ 0))
        ⊎ (((unsampled_count f log == 0) ≡ false) × (unsampled_count f log ≢ 0)) → unsampled_count f log ≡ 0
    by_test (inl met) = met.1
    by_test (inr unmet) = absurd (true≢false (sym e ∙ sampled_is f log ∙ unmet.0))

pub all_sampled : (f : FnId) (log : Log) → unsampled_count f log ≡ 0 → is_sampled f log ≡ true
all_sampled f log e = sampled_is f log ∙ eq-eqb (unsampled_count f log) 0 e

module _ {N : Type 0} (acts : N → Acts) (state : N → Tree) (site : BoardView) (plan : Plan) (token : TokenView)
    (role : CoreRole N) (is : IsCoreRole acts state site plan token role) where
  pub rested : counts_upto 0 role.stations.items
  rested i s below s_is =
      let station = is.work.stations.each i s below s_is in
      let none = none_waits s.function token.log
      ((is.rests []).sampled s.function (record { known = station.known; core = station.own })) in
      omega (arith, station.count, none)

-- where nothing is counted no time is due
pub no_times : (may_span : ℕ → ℕ → Type 0) (plan : Plan) (stations : List Station) → counts_upto 0 stations
    → times_are may_span plan stations
no_times may_span plan stations none i s below s_is some =
    let zero_is = none i s below s_is in absurd (omega (arith, some, zero_is))

-- What is kept

pub record KeptAt (stations : List Station) (kept : Kept) (hand : Option Hand) : Type 0 where
  pub within : kept.at < length stations
  pub station : Station
  pub parcel : Parcel
  pub station_is : station ≡ slice_index_or stations kept.at station
  pub hand_is : hand ≡ Some (record { function = station.function; buf = kept.buf.0; parcel = parcel })

pub kept_at : (stations : List Station) (kept : Option Kept) (one : Kept) (hand : Option Hand)
    → IsKept stations kept hand → kept ≡ Some one → KeptAt stations one hand
kept_at stations kept one hand NoneKept e = cc
kept_at stations kept one hand (OneKept other s parcel less s_is) e =
    subst (λ (k : Kept). KeptAt stations k hand) (same_kept other one e)
    (record { within = less; station = s; parcel = parcel; station_is = s_is; hand_is = refl })
  where
    same_kept : (x y : Kept) → Some x ≡ Some y → x ≡ y
    same_kept x y e = cc

-- the token carries it
pub kept_carried : (site : BoardView) (token : TokenView) (f : FnId) (buf : BufId) (parcel : Parcel)
    → Stands site.layout (core_hand token.log) token
    → core_hand token.log ≡ Some (record { function = f; buf = buf.0; parcel = parcel })
    → Stands site.layout (Some (record { function = f; buf = buf.0; parcel = parcel_in token })) token
kept_carried site token f buf parcel stands e =
    let hand_is : token.hand ≡ (buf.0, Some parcel) ∷ [] = stands.hand ∙ ap in_hand e in
    let parcel_is : parcel_in token ≡ parcel = ap first_parcel hand_is in
    subst (λ (p : Parcel). Stands site.layout (Some (record { function = f; buf = buf.0; parcel = p })) token)
    (sym parcel_is) (subst (λ (h : Option Hand). Stands site.layout h token) e stands)

-- A pass that has handled nothing yet

pub unserved_none : (site : BoardView) (plan : Plan) (functions : List FnId) (n : ℕ) (before : Log)
    → AreServed site plan functions 0 n before []
unserved_none site plan functions n before = record {
  done = λ i f below within f_is. absurd (omega (arith, below));
  rest = λ i f above within f_is. record { acts = refl; full = refl; pushes = λ none. refl };
}

pub passing_none : (site : BoardView) (plan : Plan) (functions : List FnId) (token : TokenView)
    → core_hand token.log ≡ None → IsPassing site plan functions 0 0 token token
passing_none site plan functions token none = record {
  added = [];
  grew = refl;
  does = λ entries. tt;
  first = λ hand some. absurd (no_some hand (sym none ∙ some));
  handles = refl;
  unmailed = λ g. refl;
  served = λ free. unserved_none site plan functions 0 token.log;
}
  where
    no_some : (hand : Hand) → None ≡ Some hand → ⊥
    no_some hand e = cc

-- The kept parcel is handled

module _ {N : Type 0} (acts : N → Acts) (state : N → Tree) (site : BoardView) (plan : Plan) (at : ℕ) (buf : BufId)
    (before after : TokenView) (role : CoreRole N) (s : Station) (u u_now : N) (parcel : Parcel)
    (less : at < length role.stations.items) (work : IsAtWork acts state site before role)
    (s_is : s ≡ slice_index_or role.stations.items at s)
    (held : core_hand before.log ≡ Some (record { function = s.function; buf = buf.0; parcel = parcel }))
    (done : HasPassedOn acts state s.function buf u u_now before after) where
  own : (s.function.0 < site.layout.functions) × (core_role site.layout s.function.0 ≡ before.role)
  own =
      let long = functions_long role.stations.items in
      work.functions.own at s.function (omega (arith, less, long)) (function_at role.stations.items at s less s_is)

  carried : Stands site.layout (Some (record { function = s.function; buf = buf.0; parcel = parcel_in before })) before
  carried = kept_carried site before s.function buf parcel work.stands held

  pub passing_first : (functions : List FnId) → IsPassing site plan functions 0 1 before after
  passing_first functions =
      let act = pass_act acts state site plan s.function buf u u_now before after own carried done in
      record {
        added = act ∷ [];
        grew = done.grew ∙ ap (λ h. grown (act ∷ []) h before) (sym (ap (λ (t : TokenView). t.hand) done.grew));
        does = λ entries. (pass_does acts state site plan s.function buf u u_now before after own carried done entries, tt);
        first = λ hand some. (
          Buffer buf (made acts state site plan s.function buf u u_now before after own carried done),
          ap (λ (f : FnId). Some (Push (Output f)
              (Buffer buf (made acts state site plan s.function buf u u_now before after own carried done))))
              (same_function hand (sym held ∙ some)),
        );
        handles = refl;
        unmailed = λ g. refl;
        served = λ free. record {
          done = λ i f below within f_is. absurd (omega (arith, below));
          rest = λ i f above within f_is. record {
            acts = refl;
            full = refl;
            pushes = λ none. absurd (no_none (sym held ∙ none));
          };
        };
      }
    where
      same_function : (hand : Hand)
          → Some (record { function = s.function; buf = buf.0; parcel = parcel }) ≡ Some hand
          → s.function ≡ hand.function
      same_function hand e = cc

      no_none : {P : Type 0}
          → ◌≡◌ {A = Option Hand} (Some (record { function = s.function; buf = buf.0; parcel = parcel })) None → P
      no_none e = cc

  pub passed_free : core_hand after.log ≡ None
  passed_free = (pass_stands acts state site plan s.function buf u u_now before after own carried done).logged

  pub work_passed : (now : CoreRole N) (s_now : Station) → u ≡ slice_index_or role.units.items at u
      → now.stations.items ≡ slice_set role.stations.items at s_now
      → now.units.items ≡ slice_set role.units.items at u_now → now.began.value.items ≡ role.began.value.items
      → IsStation site s_now after → s_now.function ≡ s.function → now.kept ≡ None → now.yields ≡ role.yields
      → now.lost ≡ role.lost → IsAtWork acts state site after now
  work_passed now s_now u_is stations_are units_are began_is here same kept yields lost =
      let act = pass_act acts state site plan s.function buf u u_now before after own carried done in
      let log_is : after.log ≡ act ∷ before.log = ap (λ (t : TokenView). t.log) done.grew in
      let stands = pass_stands acts state site plan s.function buf u u_now before after own carried done in
      work_on acts state site at (act ∷ []) before after role now s s_now u u_now
      (done.grew ∙ ap (λ h. grown (act ∷ []) h before) (sym (ap (λ (t : TokenView). t.hand) done.grew))) less work s_is
      u_is stations_are units_are began_is here same
      (pass_journal acts state site plan s.function buf u u_now before after own carried done)
      (λ g apart. services_elsewhere s.function g (act ∷ []) apart
      (APush buf (made acts state site plan s.function buf u u_now before after own carried done), tt))
      (subst (λ (h : Option Hand). Stands site.layout h after) (sym stands.logged) stands)
      (subst (λ (z : Option Kept × Option Hand). IsKept now.stations.items z.0 z.1)
      (λ i. (sym kept i, sym stands.logged i)) NoneKept)
      (yields ∙ work.yields ∙ ap at_most_64_bits (none_more (how_many is_yield before.log))
      ∙ ap (λ (log : Log). at_most_64_bits (how_many is_yield log)) (sym log_is))
      (lost ∙ work.lost ∙ ap at_most_64_bits (none_more (how_many is_lost before.log))
      ∙ ap (λ (log : Log). at_most_64_bits (how_many is_lost log)) (sym log_is))
    where
      none_more : (n : ℕ) → n ≡ 0 + n
      none_more n = omega arith

-- Memory was wanting for it: nothing was done

pub work_unmoved : {N : Type 0} (acts : N → Acts) (state : N → Tree) (site : BoardView) (at : ℕ) (token after : TokenView)
    (role now : CoreRole N) (s : Station) (u u_now : N) → after ≡ token → at < length role.stations.items
    → IsAtWork acts state site token role → s ≡ slice_index_or role.stations.items at s
    → u ≡ slice_index_or role.units.items at u → now.stations.items ≡ slice_set role.stations.items at s
    → now.units.items ≡ slice_set role.units.items at u_now → now.began.value.items ≡ role.began.value.items
    → IsUnmoved acts state u u_now → IsKept now.stations.items now.kept (core_hand token.log)
    → now.yields ≡ role.yields → now.lost ≡ role.lost → IsAtWork acts state site after now
work_unmoved acts state site at token after role now s u u_now e less work s_is u_is stations_are units_are began_is unmoved kept
    yields lost =
    subst (λ (t : TokenView). IsAtWork acts state site t now) (sym e)
    (work_on acts state site at [] token token role now s s u u_now refl less work s_is u_is stations_are units_are began_is
    (work.stations.each at s less s_is) refl (stood_still acts state s.function u u_now token.log token.log unmoved refl)
    (λ g apart. tt) work.stands kept (yields ∙ work.yields) (lost ∙ work.lost))

-- an answer that an error may have is given whatever came
pub on_any_err : {A E P : Type 0} (r : Result A E) → P → OnErr r P
on_any_err (Ok x) p = tt
on_any_err (Err e) p = p

pub counts_one : (stations : List Station) (at : ℕ) (now : Station) → at < length stations → counts_upto 0 stations
    → now.count ≤ 1 → counts_upto 1 (slice_set stations at now)
counts_one stations at now less were one i s below s_is = at_place (eqb_tells i at)
  where
    at_place : (((i == at) ≡ true) × (i ≡ at)) ⊎ (((i == at) ≡ false) × (i ≢ at)) → s.count ≤ 1
    at_place (inl met) =
        let e = ap (λ (t : Station). t.count) (at_set stations at i now s less met.1 s_is) in omega (arith, e, one)
    at_place (inr unmet) =
        let zero_is = were i s (omega (arith, below, length-set stations at now))
        (s_is ∙ get_or-set_other stations at i now s unmet.1) in
        omega (arith, zero_is)

pub held_some : {P : Type 0} (hand : Hand) → Some hand ≡ None → P
held_some hand e = cc
