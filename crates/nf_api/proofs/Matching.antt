-- An address is in the prefix of some entry of a table, or of none.
use Rattle.std.proofs.Common.{◌≡◌, ◌≢◌, ◌∙◌, sym, ap, ℕ, zero, suc, ◌<◌, ◌≤◌, true, false, List, [], ◌∷◌, ◌⊎◌, inl, inr, refl}
use Rattle.std.proofs.Math.Nat.{le_refl, le_trans, le_of_lt, ne_of_lt, le_of_suc-le-suc, not-suc-le-zero}
use Rattle.std.proofs.lemmas.Bool.{cases_Bool, cases_lt, true≢false}
use Rattle.std.proofs.lemmas.List.Elements.{All-cons, All-get_or, All-nil}
use Rattle.std.proofs.lemmas.Option.{same_Some, slice_get_within, get_or_from_slice_get}
use Rattle.onvm_base.specs.declared.function.RouteEntry.{RouteEntry}
use Rattle.onvm_packet.specs.Holding.{covers_ipv4}
use Rattle.nf_api.specs.Routing.{Wins, NoneMatches, Matches, length_of}

pub none_matches : (table : List RouteEntry) (target i : ℕ) (e : RouteEntry)
    → NoneMatches table target → Matches table target i e → ⊥
none_matches table target i e none matches =
    let out : covers_ipv4 e.prefix target ≡ false =
    rw (sym (get_or_from_slice_get table i e e matches.0))
    (All-get_or (λ (f : RouteEntry). covers_ipv4 f.prefix target ≡ false) table i e
    (slice_get_within table i e matches.0) none)
    in
    true≢false (sym matches.1 ∙ out)

module _ (e : RouteEntry) (table : List RouteEntry) (target : ℕ) where
  first_longest : covers_ipv4 e.prefix target ≡ true
      → ((i : ℕ) (other : RouteEntry) → Matches table target i other → length_of other.prefix ≤ length_of e.prefix)
      → (i : ℕ) (other : RouteEntry) → Matches (e ∷ table) target i other → length_of other.prefix ≤ length_of e.prefix
  first_longest covered behind zero other matches = rw (same_Some e other matches.0) (le_refl (length_of other.prefix))
  first_longest covered behind (suc i) other matches = behind i other matches

  -- the first entry wins where no longer one is behind it
  first_wins : covers_ipv4 e.prefix target ≡ true
      → ((i : ℕ) (other : RouteEntry) → Matches table target i other → length_of other.prefix ≤ length_of e.prefix)
      → Wins (e ∷ table) target e
  first_wins covered behind =
      record {
        at = zero;
        matches = (refl, covered);
        longest = first_longest covered behind;
        first = λ i other matches before. absurd (not-suc-le-zero before);
      }

  behind_longest : (f : RouteEntry) → (covers_ipv4 e.prefix target ≡ true → length_of e.prefix < length_of f.prefix)
      → Wins table target f
      → (i : ℕ) (other : RouteEntry) → Matches (e ∷ table) target i other → length_of other.prefix ≤ length_of f.prefix
  behind_longest f shorter wins zero other matches =
      rw (sym (same_Some e other matches.0))
      (le_of_lt (shorter (rw (same_Some e other matches.0) matches.1)))
  behind_longest f shorter wins (suc i) other matches = wins.longest i other matches

  behind_first : (f : RouteEntry) → (covers_ipv4 e.prefix target ≡ true → length_of e.prefix < length_of f.prefix)
      → (wins : Wins table target f)
      → (i : ℕ) (other : RouteEntry) → Matches (e ∷ table) target i other → i < suc wins.at
      → length_of other.prefix ≢ length_of f.prefix
  behind_first f shorter wins zero other matches before =
      λ same.
      ne_of_lt (shorter (rw (same_Some e other matches.0) matches.1))
      (ap (λ (x : RouteEntry). length_of x.prefix) (same_Some e other matches.0) ∙ same)
  behind_first f shorter wins (suc i) other matches before = wins.first i other matches (le_of_suc-le-suc before)

  -- the one that wins behind the first entry wins, unless the first entry is in the way
  behind_wins : (f : RouteEntry) → (covers_ipv4 e.prefix target ≡ true → length_of e.prefix < length_of f.prefix)
      → Wins table target f → Wins (e ∷ table) target f
  behind_wins f shorter wins =
      record {
        at = suc wins.at;
        matches = wins.matches;
        longest = behind_longest f shorter wins;
        first = behind_first f shorter wins;
      }

pub some_wins_or_none : (table : List RouteEntry) (target : ℕ)
    → ((e : RouteEntry) × Wins table target e) ⊎ NoneMatches table target
some_wins_or_none [] target = inr (All-nil (λ (e : RouteEntry). covers_ipv4 e.prefix target ≡ false))
some_wins_or_none (e ∷ table) target =
    elim (cases_Bool (covers_ipv4 e.prefix target)) [
      | inl covered ↦ elim (some_wins_or_none table target) [
        | inl rest ↦ elim (cases_lt (length_of e.prefix) (length_of rest.0.prefix)) [
          | inl shorter ↦ inl (rest.0, behind_wins e table target rest.0 (λ covered. shorter) rest.1)
          | inr longest ↦
              inl (e, first_wins e table target covered (λ i other matches. le_trans (rest.1.longest i other matches) longest))
        ]
        | inr none ↦
            inl (e, first_wins e table target covered (λ i other matches. absurd (none_matches table target i other none matches)))
      ]
      | inr out ↦ elim (some_wins_or_none table target) [
        | inl rest ↦
            inl (rest.0, behind_wins e table target rest.0 (λ covered. absurd (true≢false (sym covered ∙ out))) rest.1)
        | inr none ↦ inr (All-cons (λ (f : RouteEntry). covers_ipv4 f.prefix target ≡ false) e table out none)
      ]
    ]
