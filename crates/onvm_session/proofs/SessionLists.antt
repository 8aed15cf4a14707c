-- The lists of a session behind its closing turn.
use Rattle.std.proofs.Common.{◌≡◌, ℕ, ◌<◌, Bool, true, List, length, refl, ap, subst, arith}
use Rattle.std.specs.Prelude.{◌==◌}
use Rattle.std.proofs.lemmas.Bool.{ne_eqb}
use Rattle.onvm_core.proofs.Lists.{if_unmet}
use Rattle.onvm_core.proofs.Sums.{sum_same}
use Rattle.onvm_core.specs.declared.entry.Entry.{Entry}
use Rattle.onvm_core.specs.Blocks.{IsOfBlocks, kind_of}
use Rattle.onvm_core.specs.Potential.{sum_below}
use Rattle.onvm_promises.specs.Kept.{records_by}
use Rattle.onvm_promises.specs.Roles.{Fits}
use Rattle.onvm_session.proofs.RoleLists.{records_counted}
use Rattle.onvm_session.specs.Lists.{all_told}
use Rattle.onvm_core.specs.Journals.{Handling}
use Rattle.onvm_core.specs.Layouts.{IsLayout, first_role, tick_role}
use Rattle.onvm_core.specs.Logs.{Setting, Log, entries_of_port}
use Rattle.onvm_core.specs.Settings.{IsSetting, frame_count}
use Rattle.onvm_session.proofs.Done.{lead, roles}
use Rattle.onvm_session.proofs.Listing.{listed}
use Rattle.onvm_session.proofs.Passing.{so_far_blocks}
use Rattle.onvm_session.specs.Accounts.{RunView}
use Rattle.onvm_session.specs.Endings.{Closes, HasLists, IsClosed, closing_moments}
use Rattle.onvm_session.specs.Gathering.{AreRunLists, recorded_count}
use Rattle.onvm_session.specs.Sessions.{IsRoleSoFar, IsSession, Keeps, with_keeps}
use Rattle.onvm_session.specs.Views.{FinalView}

module _ {S : Type 0} (serial : Bool) (may_tell : ℕ → Type 0) (acts : ℕ → S → Handling → S → Type 0)
    (start state : ℕ → S) (cost_may_take : ℕ → ℕ → Type 0) (setting : Setting) (moments : ℕ → ℕ → ℕ)
    (first latest : ℕ) (final : FinalView) (keeps : ℕ → Keeps)
    (session : IsSession serial may_tell acts start state cost_may_take setting moments first latest final keeps)
  where
    -- between two turns or phases
    pub session_counted : all_told (λ told. true) records_by moments final.logs (first_role setting.layout)
        ≡ recorded_count setting.layout keeps
    session_counted =
        records_counted acts start state cost_may_take setting moments final.logs keeps
        (λ role known.
        so_far_blocks acts start state cost_may_take setting role (kind_of setting.layout role) (moments role)
        (final.logs role) (keeps role) (session.roles role known))
        (λ role less. session.roles role (omega (arith, less)))

    module _ (seen now : ℕ) (after : Log) (kept : Keeps) (run : RunView)
        (ranges : IsLayout setting.layout) (is_setting : IsSetting setting)
        (closes : Closes serial may_tell setting moments first latest final keeps seen now after kept run)
        (closed : IsClosed setting run)
      where
        last_roles : (r : ℕ) → r < first_role setting.layout
            → IsRoleSoFar acts start state cost_may_take setting r (kind_of setting.layout r)
            (closing_moments setting moments final now r) (run.final.logs r)
            (with_keeps (tick_role setting.layout) kept keeps r)
        last_roles =
            roles serial may_tell acts start state cost_may_take setting moments first latest final keeps seen now
            after kept run ranges is_setting session closes closed

        last_blocks : (r : ℕ) → r < first_role setting.layout → IsOfBlocks setting r (run.final.logs r)
        last_blocks role known =
            so_far_blocks acts start state cost_may_take setting role (kind_of setting.layout role)
            (closing_moments setting moments final now role) (run.final.logs role)
            (with_keeps (tick_role setting.layout) kept keeps role) (last_roles role known)

        -- what the other roles keep stayed
        other_roles : (r : ℕ) → r < tick_role setting.layout
            → IsRoleSoFar acts start state cost_may_take setting r (kind_of setting.layout r)
            (closing_moments setting moments final now r) (run.final.logs r) (keeps r)
        other_roles role less =
            subst (λ (k : Keeps).
            IsRoleSoFar acts start state cost_may_take setting role (kind_of setting.layout role)
            (closing_moments setting moments final now role) (run.final.logs role) k)
            (if_unmet (role == tick_role setting.layout) kept (keeps role)
            (ne_eqb role (tick_role setting.layout) (λ e. omega (arith, e, less))))
            (last_roles role (omega (arith, less)))

        -- behind the closing turn
        pub closing_counted : all_told (λ told. true) records_by (closing_moments setting moments final now)
            run.final.logs (first_role setting.layout)
            ≡ recorded_count setting.layout keeps
        closing_counted =
            records_counted acts start state cost_may_take setting (closing_moments setting moments final now)
            run.final.logs keeps last_blocks other_roles

        pub session_lists : AreRunLists setting.layout keeps run
            → HasLists setting (closing_moments setting moments final now) run
        session_lists lists =
            listed acts start state cost_may_take serial setting (closing_moments setting moments final now) keeps run
            is_setting
            (lead serial may_tell acts start state cost_may_take setting moments first latest final keeps seen now
            after kept run ranges is_setting session closes closed)
            last_blocks other_roles closed lists

pub frames_pulled : (setting : Setting) (pulled : ℕ → List Entry)
    → ((port : ℕ) → port < setting.layout.ports → Fits setting.layout setting.plan port (pulled port) true setting)
    → frame_count setting ≡ sum_below (λ port. length (pulled port)) setting.layout.ports
frames_pulled setting pulled fit =
    sum_same (λ port. length (entries_of_port port setting.entries)) (λ port. length (pulled port))
    setting.layout.ports (λ port less. ap length ((fit port less).all refl))
