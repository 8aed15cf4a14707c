-- The lines of a tick, one after the other, and what they post.
use Rattle.std.proofs.Common.{◌≡◌, ℕ, zero, suc, ◌+◌, ◌-◌, ◌<◌, List, [], ◌∷◌, ◌++◌, length, drop, get_or, Some, None, Option, refl, sym, ◌∙◌, ap, arith, append_assoc, append-nil, length-append, add-one}
use Rattle.std.specs.Prelude.{slice_get}
use Rattle.std.proofs.lemmas.Option.{get_or_from_slice_get, none-some, same_Some, slice_get_within, slice_get-get_or}
use Rattle.std.proofs.Math.Seq.{drop-cons}
use Rattle.onvm_base.specs.declared.function.FunctionPlan.{FunctionPlan}
use Rattle.onvm_base.specs.declared.plan.Plan.{Plan}
use Rattle.onvm_core.specs.Logs.{Log}
use Rattle.onvm_core.proofs.Lists.{get_last}
use Rattle.onvm_board.specs.Tokens.{TokenView, grown}
use Rattle.onvm_board.proofs.Stretches.{grown_twice}
use Rattle.load_estimate.specs.declared.sample.Sample.{Sample}
use Rattle.load_estimate.specs.declared.tick.Share.{Share}
use Rattle.load_estimate.specs.declared.tick.Tick.{Tick}
use Rattle.load_estimate.specs.declared.tick.TickLine.{TickLine}
use Rattle.load_estimate.specs.Windows.{WindowState}
use Rattle.cpu_shares.specs.declared.load.Load.{Load}
use Rattle.cpu_shares.specs.Shares.{load_in}
use Rattle.onvm_promises.specs.Lines.{function_share, function_window, line_of, lines_from, weight_after, weight_or}
use Rattle.onvm_promises.specs.Ticks.{last_moment}
use Rattle.tick_pass.specs.Telling.{AreCurrent, load_at, post_of, posts_from}
use Rattle.tick_pass.proofs.Residing.{number}

-- The last of a list

pub none_last : {A : Type 0} (xs : List A) → slice_get xs (length xs - 1) ≡ None → xs ≡ []
none_last [] none = refl
none_last (x ∷ xs) none =
    absurd (none-some (get_or (x ∷ xs) (length (x ∷ xs) - 1) x)
    (sym none ∙ slice_get-get_or (x ∷ xs) (length (x ∷ xs) - 1) x (omega arith)))

last_at : (first n : ℕ) (ticks : List Tick) (tick : Tick) → n + 1 ≡ length ticks → slice_get ticks n ≡ Some tick
    → last_moment first ticks ≡ tick.moment
last_at first n [] tick long found = absurd (omega (arith, long))
last_at first zero (t ∷ []) tick long found = ap (λ (u : Tick). u.moment) (same_Some t tick found)
last_at first (suc n) (t ∷ []) tick long found = absurd (omega (arith, long))
last_at first zero (t ∷ u ∷ us) tick long found = absurd (omega (arith, long))
last_at first (suc n) (t ∷ u ∷ us) tick long found = last_at t.moment n (u ∷ us) tick (omega (arith, long)) found

pub last_moment_is : (first : ℕ) (ticks : List Tick) (tick : Tick) → slice_get ticks (length ticks - 1) ≡ Some tick
    → last_moment first ticks ≡ tick.moment
last_moment_is first ticks tick found =
    let some = slice_get_within ticks (length ticks - 1) tick found in
    last_at first (length ticks - 1) ticks tick (omega (arith, some)) found

pub last_of_more : {A : Type 0} (xs : List A) (x : A)
    → slice_get (xs ++ x ∷ []) (length (xs ++ x ∷ []) - 1) ≡ Some x
last_of_more {A} xs x =
    let n : length (xs ++ x ∷ []) - 1 ≡ length xs = omega (arith, length-append xs (x ∷ [])) in
    ap (slice_get (xs ++ x ∷ [])) n ∙ get_last xs x

-- One line

pub line_is : (plan : Plan) (ticks : List Tick) (samples : List Sample) (now f : ℕ) (function : FunctionPlan)
    (windows : List WindowState) (load : Load) (share : Option Share) (weight : ℕ)
    → AreCurrent plan samples now windows → slice_get plan.functions f ≡ Some function
    → load ≡ load_at windows (number f) → share ≡ function_share plan samples now f function
    → weight ≡ weight_or share (weight_after f function.weight ticks)
    → record { arrivals = load.arrivals; median = load.median; share = share; weight = weight }
    ≡ line_of plan ticks samples now f function
line_is plan ticks samples now f function windows load share weight current found load_is share_is weight_is =
    let all : load ≡ load_in (function_window plan samples now f) =
    load_is ∙ current (number f) (slice_get_within plan.functions f function found) in
    let whole : weight ≡ weight_or (function_share plan samples now f function) (weight_after f function.weight ticks) =
    weight_is ∙ ap (λ s. weight_or s (weight_after f function.weight ticks)) share_is in
    λ i. record { arrivals = (all i).arrivals; median = (all i).median; share = share_is i; weight = whole i }

-- One line more

pub lines_next : (plan : Plan) (ticks : List Tick) (samples : List Sample) (now f : ℕ) (lines all : List TickLine)
    (line : TickLine) → f < length plan.functions
    → ((function : FunctionPlan) → slice_get plan.functions f ≡ Some function
    → line ≡ line_of plan ticks samples now f function)
    → lines ++ lines_from plan ticks samples now f (drop f plan.functions) ≡ all
    → (lines ++ line ∷ []) ++ lines_from plan ticks samples now (f + 1) (drop (f + 1) plan.functions) ≡ all
lines_next plan ticks samples now f lines all line known is so_far =
    let found = found_at plan.functions f known in
    let function : FunctionPlan = found.0 in
    let rest : List TickLine = lines_from plan ticks samples now (f + 1) (drop (f + 1) plan.functions) in
    let step : lines_from plan ticks samples now f (drop f plan.functions)
    ≡ line_of plan ticks samples now f function ∷ rest =
    ap (lines_from plan ticks samples now f)
    (drop-cons plan.functions f function known
    ∙ ap (λ (g : FunctionPlan). g ∷ drop (suc f) plan.functions)
    (get_or_from_slice_get plan.functions f function function found.1))
    ∙ ap (λ n. line_of plan ticks samples now f function ∷ lines_from plan ticks samples now (f + 1) (drop n plan.functions))
    (sym (add-one f)) in
    append_assoc lines (line ∷ []) rest
    ∙ ap (λ (l : TickLine). lines ++ (l ∷ rest)) (is function found.1)
    ∙ ap (λ ls. lines ++ ls) (sym step) ∙ so_far
  where
    found_at : {A : Type 0} (xs : List A) (n : ℕ) → n < length xs → (x : A) × (slice_get xs n ≡ Some x)
    found_at [] n within = absurd (omega arith)
    found_at (x ∷ xs) zero within = (x, refl)
    found_at (x ∷ xs) (suc n) within = found_at xs n (omega arith)

posts_more : (n : ℕ) (lines : List TickLine) (line : TickLine)
    → posts_from n (lines ++ line ∷ []) ≡ post_of (number (n + length lines)) line.share ++ posts_from n lines
posts_more n [] line =
    let place : n ≡ n + length {A = TickLine} [] = omega arith in
    sym (append-nil (post_of (number n) line.share)) ∙ ap (λ k. post_of (number k) line.share ++ []) place
posts_more n (first ∷ lines) line =
    let place : n + 1 + length lines ≡ n + length (first ∷ lines) = omega arith in
    ap (λ (log : Log). log ++ post_of (number n) first.share) (posts_more (n + 1) lines line)
    ∙ append_assoc (post_of (number (n + 1 + length lines)) line.share) (posts_from (n + 1) lines)
    (post_of (number n) first.share)
    ∙ ap (λ k. post_of (number k) line.share ++ (posts_from (n + 1) lines ++ post_of (number n) first.share)) place

pub posted_next : (a b c : TokenView) (lines all : List TickLine) (line : TickLine) (f : ℕ) → length lines ≡ f
    → all ≡ lines ++ line ∷ [] → b ≡ grown (posts_from 0 lines) a.hand a
    → c ≡ grown (post_of (number f) line.share) b.hand b → c ≡ grown (posts_from 0 all) a.hand a
posted_next a b c lines all line f long all_is first second =
    let more : post_of (number f) line.share ++ posts_from 0 lines ≡ posts_from 0 all =
    ap (λ k. post_of (number k) line.share ++ posts_from 0 lines) (sym (omega (arith, long)))
    ∙ sym (posts_more 0 lines line) ∙ ap (posts_from 0) (sym all_is) in
    grown_twice (posts_from 0 lines) (post_of (number f) line.share) a.hand a.hand a b c first
    (second ∙ ap (λ hand. grown (post_of (number f) line.share) hand b) (ap (λ (t : TokenView). t.hand) first))
    ∙ ap (λ log. grown log a.hand a) more
