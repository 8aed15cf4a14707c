-- A board's tokens and a closed board, in the terms of a session's view.
use Rattle.std.proofs.Common.{◌≡◌, ◌≢◌, ℕ, zero, suc, ◌<◌, inl, inr, List, [], ◌∷◌, length, refl, sym, ◌∙◌, ap, subst, arith}
use Rattle.std.specs.Prelude.{◌==◌, if◌then◌else◌, slice_index_or, slice_set}
use Rattle.std.proofs.lemmas.Bool.{cases_Bool, eq-eqb, eqb-false, eqb-true, ne_eqb}
use Rattle.onvm_core.specs.declared.layout.Layout.{Layout}
use Rattle.onvm_core.specs.declared.step.Act.{Act}
use Rattle.onvm_core.specs.declared.step.Act.TheVariants.{Join}
use Rattle.onvm_core.proofs.Lists.{if_met, if_unmet}
use Rattle.onvm_core.specs.History.{History}
use Rattle.onvm_core.specs.Layouts.{first_role}
use Rattle.onvm_core.specs.Logs.{Setting, Log}
use Rattle.onvm_board.specs.Closing.{ClosedView, IsEndOf, away_count}
use Rattle.onvm_board.specs.Rule.{count_after as board_count_after, join_counts as board_join_counts}
use Rattle.onvm_board.specs.Tokens.{AreLogsOf, TokenView}
use Rattle.onvm_session.specs.Accounts.{RunView}
use Rattle.onvm_session.specs.Boards.{token_after_turn, view_of_closed, view_of_token}
use Rattle.onvm_session.specs.Endings.{IsClosed}
use Rattle.onvm_session.specs.Sessions.{after_turn, with_log}
use Rattle.onvm_session.specs.Turns.{counts_after, join_counts}
use Rattle.onvm_session.specs.Views.{FinalView, IsHistoryOf}

same_count : (act : Act) (before : History) (counts : List ℕ)
    → board_count_after act before counts ≡ counts_after act before counts
same_count (Join r) before counts = refl
same_count act before counts = refl

-- both crates count joins alike
same_counts : (past : History) → board_join_counts past ≡ join_counts past
same_counts [] = refl
same_counts (step ∷ before) =
    same_count step.act before (board_join_counts before) ∙ ap (counts_after step.act before) (same_counts before)

pub history_of_logs : (layout : Layout) (log : Log) (logs : List Log) (counts : List ℕ) (past : History)
    → AreLogsOf layout log logs counts past
    → IsHistoryOf layout (record { lead = log; logs = λ role. slice_index_or logs role []; counts = counts }) past
history_of_logs layout log logs counts past are = record {
  lawful = are.lawful;
  lead =
      sym (if_met (first_role layout == first_role layout) log (slice_index_or logs (first_role layout) [])
      (eq-eqb (first_role layout) (first_role layout) refl))
      ∙ are.logs_are (first_role layout) (omega arith);
  logs = λ role less.
      sym (if_unmet (role == first_role layout) log (slice_index_or logs role [])
      (ne_eqb role (first_role layout) (λ e. omega (arith, e, less))))
      ∙ are.logs_are role (omega (arith, less));
  counts = are.counts_are ∙ same_counts past;
}

-- a closed board, seen as a run's
pub closed_is : (setting : Setting) (closed : ClosedView) (past : History) (run : RunView)
    → closed.layout ≡ setting.layout → IsEndOf closed past
    → run.final ≡ view_of_closed closed → run.left ≡ closed.left
    → IsClosed setting run
closed_is setting closed past run layout end final left = record {
  past = past;
  history =
      subst (λ (v : FinalView). IsHistoryOf setting.layout v past) (sym final)
      (subst (λ (l : Layout). IsHistoryOf l (view_of_closed closed) past) layout
      (history_of_logs closed.layout closed.log closed.logs closed.counts past end.is));
  left =
      left ∙ end.away ∙ ap (λ (l : Layout). away_count l past) layout;
}

-- A turn

set_same : (logs : List Log) (role : ℕ) (log : Log) → role < length logs
    → slice_index_or (slice_set logs role log) role [] ≡ log
set_same [] role log less = absurd (omega (arith, less))
set_same (l ∷ ls) zero log less = refl
set_same (l ∷ ls) (suc role) log less = set_same ls role log (omega (arith, less))

set_other : (logs : List Log) (role r : ℕ) (log : Log) → r ≢ role
    → slice_index_or (slice_set logs role log) r [] ≡ slice_index_or logs r []
set_other [] role r log apart = refl
set_other (l ∷ ls) zero zero log apart = absurd (apart refl)
set_other (l ∷ ls) zero (suc r) log apart = refl
set_other (l ∷ ls) (suc role) zero log apart = refl
set_other (l ∷ ls) (suc role) (suc r) log apart = set_other ls role r log (λ e. apart (ap suc e))

at_set : (logs : List Log) (role r : ℕ) (log : Log) → role < length logs
    → slice_index_or (slice_set logs role log) r [] ≡ (if r == role then log else slice_index_or logs r [])
at_set logs role r log less =
    elim (cases_Bool (r == role)) [
      | inl met ↦
          let same : role ≡ r = sym (eqb-true r role met) in
          subst (λ (k : ℕ). slice_index_or (slice_set logs role log) k [] ≡ log) same (set_same logs role log less)
          ∙ sym (if_met (r == role) log (slice_index_or logs r []) met)
      | inr unmet ↦
          set_other logs role r log (eqb-false r role unmet)
          ∙ sym (if_unmet (r == role) log (slice_index_or logs r []) unmet)
    ]

same_logs : (logs : List Log) (role : ℕ) (log : Log) → role < length logs
    → (λ r. slice_index_or (slice_set logs role log) r []) ≡ with_log role log (λ r. slice_index_or logs r [])
same_logs logs role log less = λ i r. at_set logs role r log less i

pub turn_is : (role seen : ℕ) (other token : TokenView) → other.role ≡ role → role < length token.logs
    → view_of_token (token_after_turn role seen other token) ≡ after_turn role seen other.log (view_of_token token)
turn_is role seen other token same less =
    subst (λ (r : ℕ).
    view_of_token (token_after_turn r seen other token) ≡ after_turn r seen other.log (view_of_token token)) same
    (λ i. record {
      lead = (view_of_token (token_after_turn other.role seen other token)).lead;
      logs = same_logs token.logs other.role other.log (subst (λ (r : ℕ). r < length token.logs) (sym same) less) i;
      counts = length other.log ∷ token.counts;
    })
