-- The first token behind a phase: it split all roles' tokens, joined those that seats had then, and looked.
use Rattle.std.proofs.Common.{◌≡◌, ℕ, zero, suc, ◌+◌, ◌<◌, ◌≤◌, inl, inr, List, [], ◌∷◌, ◌++◌, length, sym, ◌∙◌, ap, arith, append_assoc, Some, false}
use Rattle.std.specs.Prelude.{◌-◌, ◌==◌, slice_get, slice_index_or}
use Rattle.std.proofs.lemmas.Bool.{cases_Bool, eqb-false}
use Rattle.std.proofs.lemmas.List.{get_or_past}
use Rattle.onvm_core.specs.declared.layout.Layout.{Layout}
use Rattle.onvm_core.specs.declared.layout.Word.TheVariants.{Pool}
use Rattle.onvm_core.proofs.Lists.{if_met, if_unmet}
use Rattle.onvm_core.specs.Layouts.{IsLayout, IsWord, first_role}
use Rattle.onvm_core.specs.Logs.{Log}
use Rattle.onvm_board.specs.Known.{is_split_in}
use Rattle.onvm_board.specs.Rule.{AllJoined}
use Rattle.onvm_board.specs.Tokens.{BoardView, IsFirstToken, TokenView, kept_log, split_token, token_after}
use Rattle.onvm_session.proofs.Growing.{got_some}
use Rattle.onvm_session.proofs.ManagerTokens.{IsSameToken}
use Rattle.onvm_session.specs.declared.seat.Seat.{Seat}
use Rattle.onvm_session.specs.Boards.{token_after_splits, view_of_token}
use Rattle.onvm_session.specs.Moments.{place_of_turn}
use Rattle.onvm_session.specs.Seats.{AreJoinable, AreTokensJoined, OfEachSeat}
use Rattle.onvm_session.specs.Sessions.{after_phase, lengths_of}
use Rattle.onvm_session.specs.Turns.{turns}
use Rattle.onvm_session.specs.Views.{closing_look, joins, next_place, place_in, splits, turns_in}

-- what the first token was before a phase, when the seats' tokens were joined, and behind the look
pub record IsTokenPhase {I N : Type 0} (site : BoardView) (seats : List (Seat I N)) (seen : ℕ)
    (old token now : TokenView) : Type 0 where
  pub first : IsFirstToken site old
  pub kept : length old.logs ≡ first_role site.layout
  pub many : length seats ≡ first_role site.layout
  pub joined : AreTokensJoined seats (token_after_splits (first_role site.layout) old) token
  pub looked : now ≡ token_after (closing_look seen) token

-- Splits and joins leave the first token what it is

pub first_split : (site : BoardView) (n : ℕ) (old : TokenView) → IsFirstToken site old
    → IsFirstToken site (token_after_splits n old)
first_split site n old first = record { board = first.board; role = first.role }

pub first_joined : {I N : Type 0} (site : BoardView) (seats : List (Seat I N)) (old token : TokenView)
    → AreTokensJoined seats old token → IsFirstToken site old → IsFirstToken site token
first_joined site seats old token joined first =
    record { board = joined.board ∙ first.board; role = joined.role ∙ first.role }

-- the word at which the first token looks behind a phase is one of the board's
pub first_word_known : (layout : Layout) → IsLayout layout → IsWord layout (Pool (record { 0 = 0 }) 0)
first_word_known layout ranges = (omega (arith, ranges.ports.0), omega (arith, ranges.buffers.0))

-- each role of a board has a seat, by its number
pub seat_of_role : {I N : Type 0} (seats : List (Seat I N)) (r : ℕ) → r < length seats
    → (at : ℕ) × (seat : Seat I N) × (slice_get seats at ≡ Some seat) × (length seats - 1 - at ≡ r)
seat_of_role seats r less =
    let found = got_some seats (length seats - 1 - r) (omega (arith, less)) in
    (length seats - 1 - r, found.0, found.1, omega (arith, less))

-- What joins and splits make of the first token's log

joined_off : (n role : ℕ) (log : Log) → role < n → is_split_in role (joins n ++ log) ≡ false
joined_off zero role log less = absurd (omega (arith, less))
joined_off (suc n) role log less =
    elim (cases_Bool (n == role)) [
      | inl met ↦ if_met (n == role) false (is_split_in role (joins n ++ log)) met
      | inr unmet ↦
          if_unmet (n == role) false (is_split_in role (joins n ++ log)) unmet
          ∙ joined_off n role log (omega (arith, less, eqb-false n role unmet))
    ]

module _ (layout : Layout) where
  -- splits are no turns
  split_places : (n from : ℕ) (log : Log) (counts : List ℕ)
      → place_of_turn layout (turns log counts) ≡ place_in layout log
      → place_of_turn layout (turns (splits n from ++ log) counts) ≡ place_in layout (splits n from ++ log)
  split_places zero from log counts same = same
  split_places (suc n) from log counts same = split_places n (from + 1) log counts same

  -- each join is one
  join_places : (logs : ℕ → Log) (n : ℕ) (log : Log) (counts : List ℕ)
      → place_of_turn layout (turns log counts) ≡ place_in layout log
      → place_of_turn layout (turns (joins n ++ log) (lengths_of logs n ++ counts)) ≡ place_in layout (joins n ++ log)
  join_places logs zero log counts same = same
  join_places logs (suc n) log counts same = ap (next_place layout) (join_places logs n log counts same)

module _ {I N : Type 0} (site : BoardView) (seats : List (Seat I N)) (seen : ℕ) (old token now : TokenView)
    (phase : IsTokenPhase site seats seen old token now)
  where
    abbrev roles : ℕ
    roles = first_role site.layout

    -- it is the first one as before, and keeps as many logs
    pub phase_first : IsFirstToken site now
    phase_first =
        let joined = first_joined site seats (token_after_splits roles old) token phase.joined
        (first_split site roles old phase.first) in
        record {
          board = ap (λ (t : TokenView). t.board) phase.looked ∙ joined.board;
          role = ap (λ (t : TokenView). t.role) phase.looked ∙ joined.role;
        }

    logs_are : now.logs ≡ token.logs
    logs_are = ap (λ (t : TokenView). t.logs) phase.looked

    pub phase_kept : length now.logs ≡ first_role site.layout
    phase_kept = ap length logs_are ∙ phase.joined.many ∙ phase.kept

    -- it kept of each role the log of the seat's token, and no log behind them
    pub phase_own : OfEachSeat (λ r seat. kept_log r now ≡ seat.token.log) seats
    phase_own at seat found =
        ap (λ (logs : List Log). slice_index_or logs (length seats - 1 - at) []) logs_are
        ∙ phase.joined.own at seat found

    pub phase_behind : (r : ℕ) → first_role site.layout ≤ r → kept_log r now ≡ kept_log r old
    phase_behind r behind =
        ap (λ (logs : List Log). slice_index_or logs r []) logs_are
        ∙ phase.joined.others r (omega (arith, behind, phase.many))

    pub phase_none : (r : ℕ) → first_role site.layout ≤ r → kept_log r now ≡ []
    phase_none r behind = phase_behind r behind ∙ get_or_past old.logs r [] (omega (arith, behind, phase.kept))

    -- a role's next token is as the one that its seat had
    pub phase_again : AreJoinable site seats → OfEachSeat (λ r seat. IsSameToken seat.token (split_token r now)) seats
    phase_again joinable at seat found =
        let are = joinable.each at seat found in
        record {
          board = phase_first.board ∙ sym are.0;
          role = sym are.1;
          log = phase_own at seat found;
          hand = sym are.2;
        }

    abbrev split_log : Log
    split_log = splits roles 0 ++ old.log

    parted_log : now.log ≡ closing_look seen ∷ (joins roles ++ split_log)
    parted_log =
        ap (λ (t : TokenView). t.log) phase.looked
        ∙ ap (λ (log : Log). closing_look seen ∷ log)
        (phase.joined.log ∙ ap (λ (n : ℕ). joins n ++ split_log) phase.many)

    -- no role is split
    pub phase_joined : AllJoined site.layout now.log
    phase_joined r less = ap (is_split_in r) parted_log ∙ joined_off roles r split_log less

    log_is : now.log ≡ closing_look seen ∷ joins roles ++ splits roles 0 ++ old.log
    log_is =
        parted_log
        ∙ ap (λ (log : Log). closing_look seen ∷ log) (sym (append_assoc (joins roles) (splits roles 0) old.log))

    counts_are : now.counts ≡ lengths_of (λ r. kept_log r now) roles ++ old.counts
    counts_are =
        ap (λ (t : TokenView). t.counts) phase.looked
        ∙ phase.joined.counts
        ∙ ap (λ (n : ℕ). lengths_of (λ r. kept_log r token) n ++ old.counts) phase.many
        ∙ ap (λ (logs : List Log). lengths_of (λ r. slice_index_or logs r []) roles ++ old.counts) (sym logs_are)

    -- its view is the one behind a phase
    pub phase_view : view_of_token now
        ≡ after_phase (first_role site.layout) seen (λ r. kept_log r now) (view_of_token old)
    phase_view = λ i. record { lead = log_is i; logs = λ r. kept_log r now; counts = counts_are i }

    -- each join is the next place, by its log and by the turns in its view
    pub phase_places : place_of_turn site.layout (turns_in (view_of_token old)) ≡ place_in site.layout old.log
        → place_of_turn site.layout (turns_in (view_of_token now)) ≡ place_in site.layout now.log
    phase_places same =
        let logs : ℕ → Log = λ r. kept_log r now in
        (λ i. place_of_turn site.layout (turns (parted_log i) (counts_are i)))
        ∙ join_places site.layout logs roles split_log old.counts
        (split_places site.layout roles 0 old.log old.counts same)
        ∙ sym (ap (place_in site.layout) parted_log)
