-- What holds of each seat, place after place.
use Rattle.std.proofs.Common.{◌≡◌, ◌⊎◌, ℕ, ◌+◌, ◌<◌, ◌≤◌, inl, inr, true, List, length, take, ap, subst, arith, sym, ◌∙◌, Option, None, Some}
use Rattle.std.specs.Prelude.{All, IfNone, max, nat_lt, slice_get}
use Rattle.std.proofs.lemmas.Bool.{cases_Bool, ltb-true, ltb-false}
use Rattle.std.proofs.lemmas.List.{take_all}
use Rattle.std.proofs.lemmas.List.Elements.{All-more, All-same, All-weaker}
use Rattle.std.proofs.lemmas.Option.{get_or_from_slice_get}
use Rattle.onvm_promises.specs.declared.pass.Pass.{Pass}
use Rattle.onvm_promises.specs.declared.pass.Pass.TheVariants.{Did, Idle}
use Rattle.onvm_promises.specs.Answers.{is_complete}
use Rattle.onvm_session.specs.declared.seat.Seat.{Seat}

-- of all of a list, where it holds up to its end
pub all_through : {X : Type 0} (P : X → Type 0) (n : ℕ) (xs : List X) → length xs ≤ n → All P (take n xs) → All P xs
all_through P n xs past all = All-same P xs (take n xs) (sym (take_all n xs past)) all

-- at one place more
pub all_next : {X : Type 0} (P : X → Type 0) (n : ℕ) (xs : List X) (x : X) → n < length xs → slice_get xs n ≡ Some x
    → P x → All P (take n xs) → All P (take (n + 1) xs)
all_next P n xs x less found here all =
    All-more P xs n x less all (subst P (sym (get_or_from_slice_get xs n x x found)) here)

-- a pass that did something, or had nothing to do, wasn't cut short
pub moved : (answer : Pass) → ((n : ℕ) × (answer ≡ Did n)) ⊎ (answer ≡ Idle) → is_complete answer ≡ true
moved answer did = elim did [ inl is ↦ ap is_complete is.1 | inr is ↦ ap is_complete is ]

-- no seat was cut short, where none is told
pub none_through : {I N : Type 0} {H : Type 0} (halt : Option H) (n : ℕ) (seats : List (Seat I N)) → length seats ≤ n
    → IfNone halt (All (λ seat. is_complete seat.answer ≡ true) (take n seats))
    → IfNone halt (All (λ seat. is_complete seat.answer ≡ true) seats)
none_through None n seats past all = all_through (λ seat. is_complete seat.answer ≡ true) n seats past all
none_through (Some h) n seats past all = tt

pub none_next : {I N : Type 0} {H : Type 0} (halt : Option H) (n : ℕ) (seats : List (Seat I N)) (seat : Seat I N)
    → n < length seats → slice_get seats n ≡ Some seat → is_complete seat.answer ≡ true
    → IfNone halt (All (λ seat. is_complete seat.answer ≡ true) (take n seats))
    → IfNone halt (All (λ seat. is_complete seat.answer ≡ true) (take (n + 1) seats))
none_next None n seats seat less found complete all =
    all_next (λ seat. is_complete seat.answer ≡ true) n seats seat less found complete all
none_next (Some h) n seats seat less found complete all = tt

-- the last moment, with that of one seat more

pub latest_next : {I N : Type 0} (last next n : ℕ) (seats : List (Seat I N)) (seat : Seat I N) → next ≡ max last seat.latest
    → n < length seats → slice_get seats n ≡ Some seat
    → All (λ seat. seat.latest ≤ last) (take n seats) → All (λ seat. seat.latest ≤ next) (take (n + 1) seats)
latest_next last next n seats seat next_is less found all =
    all_next (λ other. other.latest ≤ next) n seats seat less found (omega (arith, next_is))
    (All-weaker (λ other. other.latest ≤ last) (λ other. other.latest ≤ next)
    (λ other below. omega (arith, below, next_is)) (take n seats) all)

pub latest_one : {I N : Type 0} (first last next n : ℕ) (seats : List (Seat I N)) (seat : Seat I N)
    → next ≡ max last seat.latest → slice_get seats n ≡ Some seat
    → (last ≡ first) ⊎ ((at : ℕ) × (seat : Seat I N) × (slice_get seats at ≡ Some seat) × (last ≡ seat.latest))
    → (next ≡ first) ⊎ ((at : ℕ) × (seat : Seat I N) × (slice_get seats at ≡ Some seat) × (next ≡ seat.latest))
latest_one first last next n seats seat next_is found one =
    elim (cases_Bool (nat_lt last seat.latest)) [
      | inl met ↦
          let less : last < seat.latest = ltb-true last seat.latest met in
          inr (n, seat, found, omega (arith, less, next_is))
      | inr unmet ↦
          let more : seat.latest ≤ last = ltb-false last seat.latest unmet in
          let stays : next ≡ last = omega (arith, more, next_is) in
          elim one [ inl is ↦ inl (stays ∙ is) | inr is ↦ inr (is.0, is.1, is.2, stays ∙ is.3) ]
    ]
