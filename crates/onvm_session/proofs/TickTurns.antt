-- A pass of the tick role keeps what is said of samples and ticks.
use Rattle.std.proofs.Common.{◌≡◌, ℕ, suc, ◌≤◌, Bool, true, false, inl, inr, List, [], ◌∷◌, ◌++◌, length, refl, sym, ◌∙◌, ap, subst, arith}
use Rattle.std.specs.Prelude.{◌||◌, ◌+◌, ◌-◌}
use Rattle.std.proofs.lemmas.List.{append-nil}
use Rattle.std.proofs.lemmas.Bool.{cases_Bool}
use Rattle.load_estimate.specs.declared.sample.Sample.{Sample}
use Rattle.load_estimate.specs.declared.tick.Tick.{Tick}
use Rattle.onvm_base.specs.declared.plan.Plan.{Plan}
use Rattle.onvm_promises.specs.declared.pass.Pass.{Pass}
use Rattle.onvm_core.proofs.Lists.{if_met, if_unmet}
use Rattle.onvm_core.specs.Logs.{Setting, Log}
use Rattle.onvm_promises.proofs.Keeping.{kept_then}
use Rattle.onvm_promises.proofs.Ticking.{AllAt, fall_never, taken_now, ticks_closed, ticks_next}
use Rattle.onvm_promises.specs.Answers.{is_complete}
use Rattle.onvm_promises.specs.Kept.{kept_at, kept_now, moment_then, samples_by}
use Rattle.onvm_promises.specs.Roles.{IsTickPromise, IsTickerSoFar, ticks_of_pass}
use Rattle.onvm_promises.specs.Ticks.{AllUpTo, AreAllTicks, AreTicksSoFar, NeverFall, PostsWeights, is_due, last_moment, new_ticks, tick_at}
use Rattle.onvm_session.proofs.SerialTicking.{at_up_to, serial_ticks_closed, serial_ticks_next, up_to_append, up_to_later}
use Rattle.onvm_session.specs.Moments.{moment_of_round}
use Rattle.onvm_session.specs.SerialTicks.{AreSerialTicks, AreSerialTicksSoFar}
use Rattle.onvm_session.specs.Sessions.{AllTold, AreTicksKept, AreTicksOfRounds, Keeps}

next_is : (n : ℕ) → suc n ≡ n + 1
next_is n = omega arith

last_append : (first : ℕ) (ticks more : List Tick)
    → last_moment first (ticks ++ more) ≡ last_moment (last_moment first ticks) more
last_append first [] more = refl
last_append first (t ∷ ts) more = last_append t.moment ts more

told_append : (may_tell : ℕ → Type 0) (ticks more : List Tick) → AllTold may_tell ticks → AllTold may_tell more
    → AllTold may_tell (ticks ++ more)
told_append may_tell [] more earlier later = later
told_append may_tell (t ∷ ts) more earlier later = (earlier.0, told_append may_tell ts more earlier.1 later)

-- what a pass makes is no tick, or one of its moment
new_kinds : (plan : Plan) (first at : ℕ) (closing : Bool) (samples : List Sample) (ticks : List Tick)
    (P : List Tick → Type 0) → P [] → P (tick_at plan ticks samples at ∷ []) → P
    (new_ticks plan first at closing samples ticks)
new_kinds plan first at closing samples ticks P none one =
    elim (cases_Bool (closing || is_due plan first at ticks)) [
      | inl met ↦
          subst P (sym (if_met (closing || is_due plan first at ticks) (tick_at plan ticks samples at ∷ []) [] met)) one
      | inr unmet ↦
          subst P (sym (if_unmet (closing || is_due plan first at ticks) (tick_at plan ticks samples at ∷ []) [] unmet))
          none
    ]

module _ (setting : Setting) (role first latest at : ℕ) (closing : Bool) (moment : ℕ → ℕ) (before after : Log)
    (was keeps : Keeps) (answer : Pass)
    (earlier : IsTickerSoFar setting role moment before was.samples)
    (pass : IsTickPromise setting role first at closing moment before after keeps.samples was.ticks keeps.ticks answer)
    (complete : is_complete answer ≡ true)
  where
    abbrev pub more : List Sample
    more = kept_now samples_by at pass.added

    pub samples_are : keeps.samples ≡ was.samples ++ more
    samples_are =
        pass.so_far.kept
        ∙ ap (λ (log : Log). kept_at samples_by (moment_then moment (length before) at) log) pass.grown
        ∙ kept_then samples_by moment at pass.added before
        ∙ ap (λ (ss : List Sample). ss ++ more) (sym earlier.kept)

    made_are : ticks_of_pass setting.plan first at closing keeps.samples was.ticks answer
        ≡ new_ticks setting.plan first at closing (was.samples ++ more) was.ticks
    made_are =
        if_met (is_complete answer) (new_ticks setting.plan first at closing keeps.samples was.ticks) [] complete
        ∙ ap (λ (ss : List Sample). new_ticks setting.plan first at closing ss was.ticks) samples_are

    pub ticks_are : keeps.ticks
        ≡ was.ticks ++ new_ticks setting.plan first at closing (was.samples ++ more) was.ticks
    ticks_are = pass.ticked ∙ ap (λ (ts : List Tick). was.ticks ++ ts) made_are

    pub posts_are : PostsWeights setting.layout.functions
        (new_ticks setting.plan first at closing (was.samples ++ more) was.ticks) pass.added
    posts_are = subst (λ (ts : List Tick). PostsWeights setting.layout.functions ts pass.added) made_are pass.posts

    module _ (kept : AreTicksKept setting first latest before was) (rises : latest ≤ at) where
      pub never_fall : NeverFall 0 keeps.samples
      never_fall =
          subst (NeverFall 0) (sym samples_are)
          (fall_never 0 at was.samples more kept.never_fall (up_to_later was.samples latest at rises kept.up_to)
          (omega arith) (taken_now at pass.added))

      pub up_to : AllUpTo at keeps.samples
      up_to =
          subst (AllUpTo at) (sym samples_are)
          (up_to_append was.samples more at (up_to_later was.samples latest at rises kept.up_to)
          (at_up_to more at (taken_now at pass.added)))

      last_now : last_moment first keeps.ticks ≤ at
      last_now =
          subst (λ (ts : List Tick). last_moment first ts ≤ at) (sym ticks_are)
          (subst (λ (n : ℕ). n ≤ at)
          (sym (last_append first was.ticks
          (new_ticks setting.plan first at closing (was.samples ++ more) was.ticks)))
          (new_kinds setting.plan first at closing (was.samples ++ more) was.ticks
          (λ ts. last_moment (last_moment first was.ticks) ts ≤ at) (omega (arith, kept.last, rises)) (omega arith)))

      -- each tick's moment may have been told, if this one's may
      pub told_now : (may_tell : ℕ → Type 0) → AllTold may_tell was.ticks → may_tell at → AllTold may_tell keeps.ticks
      told_now may_tell told answered =
          subst (AllTold may_tell) (sym ticks_are)
          (told_append may_tell was.ticks (new_ticks setting.plan first at closing (was.samples ++ more) was.ticks) told
          (new_kinds setting.plan first at closing (was.samples ++ more) was.ticks (AllTold may_tell) tt
          (answered, tt)))

      -- a pass that doesn't close the run
      pub kept_next : closing ≡ false → AreTicksKept setting first at after keeps
      kept_next open_still = record {
        so_far = subst (λ (log : Log).
            AreTicksSoFar setting.plan setting.layout.functions first keeps.samples keeps.ticks log) (sym pass.grown)
            (subst (λ (ts : List Tick).
            AreTicksSoFar setting.plan setting.layout.functions first keeps.samples ts (pass.added ++ before))
            (sym (ticks_are ∙ ap (λ (b : Bool).
            was.ticks ++ new_ticks setting.plan first at b (was.samples ++ more) was.ticks) open_still))
            (subst (λ (ss : List Sample).
            AreTicksSoFar setting.plan setting.layout.functions first ss
            (was.ticks ++ new_ticks setting.plan first at false (was.samples ++ more) was.ticks) (pass.added ++ before))
            (sym samples_are)
            (ticks_next setting.plan setting.layout.functions first at was.samples more was.ticks pass.added before
            (omega (arith, kept.last, rises)) kept.so_far
            (subst (λ (b : Bool). PostsWeights setting.layout.functions
            (new_ticks setting.plan first at b (was.samples ++ more) was.ticks) pass.added) open_still posts_are))));
        never_fall = never_fall;
        up_to = up_to;
        last = last_now;
      }

      -- the one that closes it
      pub all_closed : closing ≡ true
          → AreAllTicks setting.plan setting.layout.functions first keeps.samples keeps.ticks after
      all_closed over =
          subst (λ (log : Log).
          AreAllTicks setting.plan setting.layout.functions first keeps.samples keeps.ticks log) (sym pass.grown)
          (subst (λ (ts : List Tick).
          AreAllTicks setting.plan setting.layout.functions first keeps.samples ts (pass.added ++ before))
          (sym (ticks_are ∙ ap (λ (b : Bool).
          was.ticks ++ new_ticks setting.plan first at b (was.samples ++ more) was.ticks) over))
          (subst (λ (ss : List Sample).
          AreAllTicks setting.plan setting.layout.functions first ss
          (was.ticks ++ new_ticks setting.plan first at true (was.samples ++ more) was.ticks) (pass.added ++ before))
          (sym samples_are)
          (ticks_closed setting.plan setting.layout.functions first at was.samples more was.ticks pass.added before
          (omega (arith, kept.last, rises)) kept.so_far
          (subst (λ (b : Bool). PostsWeights setting.layout.functions
          (new_ticks setting.plan first at b (was.samples ++ more) was.ticks) pass.added) over posts_are))))

      -- in a round
      pub rounds_next : (rounds : ℕ) → closing ≡ false → at ≡ moment_of_round rounds
          → AreTicksOfRounds setting rounds first latest was
          → AreTicksOfRounds setting (rounds + 1) first at keeps
      rounds_next rounds open_still now of = record {
        first_is = of.first_is;
        latest_is = now ∙ ap moment_of_round (omega arith);
        ticks =
            subst (λ (ts : List Tick). AreSerialTicksSoFar setting.plan (rounds + 1) keeps.samples ts)
            (sym (ticks_are ∙ (λ i. was.ticks
            ++ new_ticks setting.plan (of.first_is i) (now i) (open_still i) (was.samples ++ more) was.ticks)))
            (subst (λ (ss : List Sample).
            AreSerialTicksSoFar setting.plan (rounds + 1) ss
            (was.ticks ++ new_ticks setting.plan 0 (moment_of_round rounds) false (was.samples ++ more) was.ticks))
            (sym samples_are)
            (subst (λ (n : ℕ). AreSerialTicksSoFar setting.plan n (was.samples ++ more)
            (was.ticks ++ new_ticks setting.plan 0 (moment_of_round rounds) false (was.samples ++ more) was.ticks))
            (next_is rounds)
            (serial_ticks_next setting.plan rounds was.samples more was.ticks of.ticks
            (subst (λ (n : ℕ). AllUpTo n was.samples) of.latest_is kept.up_to)
            (subst (λ (n : ℕ). AllAt n more) now (taken_now at pass.added)))));
      }

      -- at the end, where the pass took no sample
      pub rounds_closed : (rounds : ℕ) → closing ≡ true → at ≡ moment_of_round (rounds - 1) → more ≡ []
          → AreTicksOfRounds setting rounds first latest was
          → AreSerialTicks setting.plan rounds keeps.samples keeps.ticks
      rounds_closed rounds over now none of =
          let same : was.samples ++ more ≡ was.samples =
          ap (λ (ss : List Sample). was.samples ++ ss) none ∙ append-nil was.samples in
          subst (λ (ts : List Tick). AreSerialTicks setting.plan rounds keeps.samples ts)
          (sym (ticks_are ∙ (λ i. was.ticks
          ++ new_ticks setting.plan (of.first_is i) (now i) (over i) (same i) was.ticks)))
          (subst (λ (ss : List Sample).
          AreSerialTicks setting.plan rounds ss
          (was.ticks ++ new_ticks setting.plan 0 (moment_of_round (rounds - 1)) true was.samples was.ticks))
          (sym (samples_are ∙ same))
          (serial_ticks_closed setting.plan rounds was.samples was.ticks of.ticks
          (subst (λ (n : ℕ). AllUpTo n was.samples) of.latest_is kept.up_to)))
