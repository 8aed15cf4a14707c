-- What roles kept, put together, is what their logs tell.
use Rattle.std.proofs.Common.{◌≡◌, ℕ, zero, suc, ◌+◌, ◌-◌, ◌<◌, ◌≤◌, Bool, true, inl, inr, List, [], ◌∷◌, ◌++◌, length, refl, sym, ◌∙◌, ap, subst, arith}
use Rattle.std.specs.Prelude.{◌^◌, min, nat_lt}
use Rattle.std.proofs.lemmas.Bool.{cases_Bool, ltb-true, ltb-false}
use Rattle.onvm_base.specs.declared.frame.SentFrame.{SentFrame}
use Rattle.onvm_base.specs.declared.outcome.Record.{Record}
use Rattle.onvm_core.specs.declared.step.Act.{Act}
use Rattle.onvm_core.proofs.Hands.{IsKind, is_kind}
use Rattle.onvm_core.proofs.Once.{how_many-append}
use Rattle.onvm_core.proofs.RoleKinds.{kind_handles, kind_port, kind_sends, kind_tick}
use Rattle.onvm_core.specs.Blocks.{IsOfBlocks, RoleKind, kind_of}
use Rattle.onvm_core.specs.Blocks.RoleKind.{Receives, Sends, Handles, Ticks}
use Rattle.onvm_core.specs.Journals.{Handling}
use Rattle.onvm_core.specs.Layouts.{first_role, tick_role}
use Rattle.onvm_core.specs.Logs.{Setting, Log}
use Rattle.onvm_core.specs.Places.{how_many}
use Rattle.onvm_core.specs.Potential.{sum_below}
use Rattle.onvm_promises.specs.Kept.{AreCoreKeeps, AreFeederKeeps, CoreKeeps, FeederKeeps, at_most_64_bits, is_lost, is_yield, kept_at, posts_by, records_by, sent_by}
use Rattle.onvm_session.proofs.Quiet.{core_log_tells_none, receive_log_counts_none, send_log_counts_none, tick_log_counts_none, tick_log_tells_none}
use Rattle.onvm_session.proofs.Summing.{sum_behind, sum_cut, sum_front}
use Rattle.onvm_session.specs.Gathering.{cores_counted, feeders_kept, recorded_count}
use Rattle.onvm_session.specs.Lists.{all_acts, all_kept, all_told}
use Rattle.onvm_session.specs.Sessions.{IsRoleSoFar, Keeps}

-- Feeder by feeder

counted_below : {A : Type 0} (test : A → Bool) (part : FeederKeeps → List A) (tells : ℕ → Act → List A)
    (keeps : ℕ → Keeps) (moments : ℕ → ℕ → ℕ) (logs : ℕ → Log) (n : ℕ)
    → ((role : ℕ) → role < n → part (keeps role).feeder ≡ kept_at tells (moments role) (logs role))
    → how_many test (feeders_kept part keeps n) ≡ all_told test tells moments logs n
counted_below test part tells keeps moments logs zero are = refl
counted_below test part tells keeps moments logs (suc n) are =
    how_many-append test (feeders_kept part keeps n) (part (keeps n).feeder)
    ∙ omega (
      arith,
      ap (how_many test) (are n (omega arith)),
      counted_below test part tells keeps moments logs n (λ role less. are role (omega arith)),
    )

kept_below : {A : Type 0} (part : FeederKeeps → List A) (tells : ℕ → Act → List A)
    (keeps : ℕ → Keeps) (moments : ℕ → ℕ → ℕ) (logs : ℕ → Log) (n : ℕ)
    → ((role : ℕ) → role < n → part (keeps role).feeder ≡ kept_at tells (moments role) (logs role))
    → feeders_kept part keeps n ≡ all_kept tells moments logs n
kept_below part tells keeps moments logs zero are = refl
kept_below part tells keeps moments logs (suc n) are =
    ap (λ xs. xs ++ part (keeps n).feeder)
    (kept_below part tells keeps moments logs n (λ role less. are role (omega arith)))
    ∙ ap (λ xs. all_kept tells moments logs n ++ xs) (are n (omega arith))

all_pass : {A : Type 0} (xs : List A) → how_many (λ x. true) xs ≡ length xs
all_pass [] = refl
all_pass (x ∷ xs) = omega (arith, all_pass xs)

lengths_below : {A : Type 0} (part : FeederKeeps → List A) (keeps : ℕ → Keeps) (n : ℕ)
    → how_many (λ x. true) (feeders_kept part keeps n) ≡ sum_below (λ feeder. length (part (keeps feeder).feeder)) n
lengths_below part keeps zero = refl
lengths_below part keeps (suc n) =
    how_many-append (λ x. true) (feeders_kept part keeps n) (part (keeps n).feeder)
    ∙ omega (arith, lengths_below part keeps n, all_pass (part (keeps n).feeder))

module _ {S : Type 0} (acts : ℕ → S → Handling → S → Type 0) (start state : ℕ → S)
    (cost_may_take : ℕ → ℕ → Type 0) (setting : Setting) (moments : ℕ → ℕ → ℕ) (logs : ℕ → Log) (keeps : ℕ → Keeps)
    (blocks : (role : ℕ) → role < first_role setting.layout → IsOfBlocks setting role (logs role))
    (roles : (role : ℕ) → role < tick_role setting.layout
    → IsRoleSoFar acts start state cost_may_take setting role (kind_of setting.layout role) (moments role)
    (logs role) (keeps role))
  where
    abbrev feeders : ℕ
    feeders = setting.layout.ports + setting.layout.transmit

    -- What each role kept

    feeder_keeps : (feeder : ℕ) → feeder < feeders
        → AreFeederKeeps (moments feeder) (logs feeder) (keeps feeder).feeder
    feeder_keeps feeder known =
        elim (cases_Bool (nat_lt feeder setting.layout.ports)) [
          | inl met ↦
              (subst (λ (kind : RoleKind).
              IsRoleSoFar acts start state cost_may_take setting feeder kind (moments feeder) (logs feeder)
              (keeps feeder))
              (kind_port setting.layout feeder (ltb-true feeder setting.layout.ports met))
              (roles feeder (omega (arith, known)))).kept
          | inr unmet ↦
              let from : setting.layout.ports ≤ feeder = ltb-false feeder setting.layout.ports unmet in
              (subst (λ (kind : RoleKind).
              IsRoleSoFar acts start state cost_may_take setting feeder kind (moments feeder) (logs feeder)
              (keeps feeder))
              (kind_sends setting.layout feeder (feeder - setting.layout.ports) (omega (arith, from))
              (omega (arith, from, known)))
              (roles feeder (omega (arith, known)))).kept
        ]

    core_keeps : (core : ℕ) → core < setting.layout.cores
        → AreCoreKeeps (logs (feeders + core)) (keeps (feeders + core)).core
    core_keeps core known =
        (subst (λ (kind : RoleKind).
        IsRoleSoFar acts start state cost_may_take setting (feeders + core) kind (moments (feeders + core))
        (logs (feeders + core)) (keeps (feeders + core)))
        (kind_handles setting.layout (feeders + core) core refl known)
        (roles (feeders + core) (omega (arith, known)))).0.kept

    -- What each role is

    is_core : (role : ℕ) → feeders ≤ role → role < tick_role setting.layout
        → IsKind setting role Handles (logs role)
    is_core role from less =
        is_kind setting role (logs role) Handles
        (kind_handles setting.layout role (role - feeders) (omega (arith, from)) (omega (arith, from, less)))
        (blocks role (omega (arith, less)))

    is_tick : IsKind setting (tick_role setting.layout) Ticks (logs (tick_role setting.layout))
    is_tick =
        is_kind setting (tick_role setting.layout) (logs (tick_role setting.layout)) Ticks (kind_tick setting.layout)
        (blocks (tick_role setting.layout) (omega arith))

    tick_is : (role : ℕ) → role < first_role setting.layout → tick_role setting.layout ≤ role
        → tick_role setting.layout ≡ role
    tick_is role less from = omega (arith, less, from)

    tells_none : (role : ℕ) → feeders ≤ role → role < first_role setting.layout
        → (kept_at records_by (moments role) (logs role) ≡ []) × (kept_at sent_by (moments role) (logs role) ≡ [])
    tells_none role from less =
        elim (cases_Bool (nat_lt role (tick_role setting.layout))) [
          | inl met ↦
              core_log_tells_none setting role (moments role) (logs role)
              (is_core role from (ltb-true role (tick_role setting.layout) met))
          | inr unmet ↦
              subst (λ (r : ℕ).
              (kept_at records_by (moments r) (logs r) ≡ []) × (kept_at sent_by (moments r) (logs r) ≡ []))
              (tick_is role less (ltb-false role (tick_role setting.layout) unmet))
              (tick_log_tells_none setting (tick_role setting.layout) (moments (tick_role setting.layout))
              (logs (tick_role setting.layout)) is_tick)
        ]

    feeder_counts_none : (role : ℕ) → role < feeders
        → (how_many is_yield (logs role) ≡ 0) × (how_many is_lost (logs role) ≡ 0)
    feeder_counts_none role known =
        elim (cases_Bool (nat_lt role setting.layout.ports)) [
          | inl met ↦
              receive_log_counts_none setting role (logs role)
              (is_kind setting role (logs role) Receives
              (kind_port setting.layout role (ltb-true role setting.layout.ports met))
              (blocks role (omega (arith, known))))
          | inr unmet ↦
              let from : setting.layout.ports ≤ role = ltb-false role setting.layout.ports unmet in
              send_log_counts_none setting role (logs role)
              (is_kind setting role (logs role) Sends
              (kind_sends setting.layout role (role - setting.layout.ports) (omega (arith, from))
              (omega (arith, from, known)))
              (blocks role (omega (arith, known))))
        ]

    -- All roles together

    pub records_told : (test : Record → Bool)
        → how_many test (feeders_kept (λ kept. kept.outcomes.records) keeps
        (setting.layout.ports + setting.layout.transmit))
        ≡ all_told test records_by moments logs (first_role setting.layout)
    records_told test =
        counted_below test (λ kept. kept.outcomes.records) records_by keeps moments logs feeders
        (λ role less. (feeder_keeps role less).records)
        ∙ sym (sum_front (λ role. how_many test (kept_at records_by (moments role) (logs role))) feeders
        (first_role setting.layout) (omega arith)
        (λ role from less. ap (how_many test) (tells_none role from less).0))

    pub sent_told : (test : SentFrame → Bool)
        → how_many test (feeders_kept (λ kept. kept.outcomes.sent) keeps
        (setting.layout.ports + setting.layout.transmit))
        ≡ all_told test sent_by moments logs (first_role setting.layout)
    sent_told test =
        counted_below test (λ kept. kept.outcomes.sent) sent_by keeps moments logs feeders
        (λ role less. (feeder_keeps role less).sent)
        ∙ sym (sum_front (λ role. how_many test (kept_at sent_by (moments role) (logs role))) feeders
        (first_role setting.layout) (omega arith)
        (λ role from less. ap (how_many test) (tells_none role from less).1))

    pub posts_told : feeders_kept (λ kept. kept.posts) keeps (setting.layout.ports + setting.layout.transmit)
        ≡ all_kept posts_by moments logs (setting.layout.ports + setting.layout.transmit)
    posts_told =
        kept_below (λ kept. kept.posts) posts_by keeps moments logs feeders
        (λ role less. (feeder_keeps role less).posts)

    counted : (test : Act → Bool) (part : CoreKeeps → ℕ)
        → ((role : ℕ) → role < feeders → how_many test (logs role) ≡ 0)
        → (how_many test (logs (tick_role setting.layout)) ≡ 0)
        → ((core : ℕ) → core < setting.layout.cores
        → part (keeps (feeders + core)).core ≡ min (2 ^ 64 - 1) (how_many test (logs (feeders + core))))
        → min (2 ^ 64 - 1) (cores_counted part setting.layout keeps setting.layout.cores)
        ≡ min (2 ^ 64 - 1) (all_acts test logs (first_role setting.layout))
    counted test part before behind each =
        sum_cut (2 ^ 64 - 1) (λ core. part (keeps (feeders + core)).core)
        (λ core. how_many test (logs (feeders + core))) setting.layout.cores each
        ∙ ap (min (2 ^ 64 - 1)) (sym (sum_behind (λ role. how_many test (logs role)) feeders setting.layout.cores
        (tick_role setting.layout) refl before))
        ∙ ap (min (2 ^ 64 - 1)) (sym (sum_front (λ role. how_many test (logs role)) (tick_role setting.layout)
        (first_role setting.layout) (omega arith)
        (λ role from less.
        subst (λ (r : ℕ). how_many test (logs r) ≡ 0) (tick_is role less from) behind)))

    pub yields_told : at_most_64_bits (cores_counted (λ kept. kept.yields) setting.layout keeps setting.layout.cores)
        ≡ at_most_64_bits (all_acts is_yield logs (first_role setting.layout))
    yields_told =
        counted is_yield (λ kept. kept.yields) (λ role less. (feeder_counts_none role less).0)
        (tick_log_counts_none setting (tick_role setting.layout) (logs (tick_role setting.layout)) is_tick).0
        (λ core known. (core_keeps core known).yields)

    pub lost_told : at_most_64_bits (cores_counted (λ kept. kept.lost) setting.layout keeps setting.layout.cores)
        ≡ at_most_64_bits (all_acts is_lost logs (first_role setting.layout))
    lost_told =
        counted is_lost (λ kept. kept.lost) (λ role less. (feeder_counts_none role less).1)
        (tick_log_counts_none setting (tick_role setting.layout) (logs (tick_role setting.layout)) is_tick).1
        (λ core known. (core_keeps core known).lost)

    -- the feeders kept as many records as all logs tell
    pub records_counted : all_told (λ told. true) records_by moments logs (first_role setting.layout)
        ≡ recorded_count setting.layout keeps
    records_counted =
        sym (records_told (λ told. true)) ∙ lengths_below (λ kept. kept.outcomes.records) keeps feeders
