-- The best of the first entries of a table.
use Rattle.std.proofs.Common.{◌≡◌, ◌≢◌, ◌∙◌, sym, ap, ℕ, ◌+◌, ◌<◌, ◌≤◌, true, false, Option, Some, None, MatchOption, List, length, get_or, inl, inr, refl, arith}
use Rattle.std.specs.List.{slice_get}
use Rattle.std.proofs.lemmas.Bool.{cases_Bool, cases_lt, true≢false}
use Rattle.std.proofs.lemmas.Option.{none-some, same_Some, slice_get_within, slice_get-get_or}
use Rattle.onvm_base.specs.declared.function.RouteEntry.{RouteEntry}
use Rattle.nf_api.specs.Routing.{Matches, NoneMatches, Wins, length_of}
use Rattle.onvm_packet.specs.Holding.{covers_ipv4}

-- among the first entries, none has the address
abbrev pub NoneBelow : List RouteEntry → ℕ → ℕ → Type 0
NoneBelow table target upto =
    (i : ℕ) (other : RouteEntry) → i < upto → slice_get table i ≡ Some other → covers_ipv4 other.prefix target ≡ false

-- among the first entries, this one wins
pub record Leads (table : List RouteEntry) (target upto : ℕ) (entry : RouteEntry) : Type 0 where
  pub at : ℕ
  pub below : at < upto
  pub matches : Matches table target at entry
  pub longest : (i : ℕ) (other : RouteEntry) → i < upto → Matches table target i other
      → length_of other.prefix ≤ length_of entry.prefix
  pub first : (i : ℕ) (other : RouteEntry) → i < at → Matches table target i other
      → length_of other.prefix ≢ length_of entry.prefix

abbrev pub IsBest : List RouteEntry → ℕ → ℕ → Option RouteEntry → Type 0
IsBest table target upto None = NoneBelow table target upto
IsBest table target upto (Some entry) = Leads table target upto entry

module _ (table : List RouteEntry) (target index : ℕ) (entry : RouteEntry) (there : slice_get table index ≡ Some entry) where
  -- what stands at this place is this entry
  only : (i : ℕ) (other : RouteEntry) → i < index + 1 → index ≤ i → slice_get table i ≡ Some other → entry ≡ other
  only i other lt last at =
      let same : index ≡ i = omega arith in
      same_Some entry other (sym there ∙ ap (slice_get table) same ∙ at)

  -- an entry with a longer prefix wins
  pub best_taken : (best : Option RouteEntry) → covers_ipv4 entry.prefix target ≡ true
      → ((other : RouteEntry) → best ≡ Some other → length_of other.prefix < length_of entry.prefix)
      → IsBest table target index best → IsBest table target (index + 1) (Some entry)
  best_taken None has longer none =
      record {
        at = index;
        below = omega arith;
        matches = (there, has);
        longest = λ i other lt m. elim (cases_lt i index) [
          | inl before ↦ absurd (true≢false (sym m.1 ∙ none i other before m.0))
          | inr last ↦ omega (arith, ap (λ (e : RouteEntry). length_of e.prefix) (only i other lt last m.0))
        ];
        first = λ i other before m same. true≢false (sym m.1 ∙ none i other before m.0);
      }
  best_taken (Some best) has longer leads =
      let more : length_of best.prefix < length_of entry.prefix = longer best refl in
      record {
        at = index;
        below = omega arith;
        matches = (there, has);
        longest = λ i other lt m. elim (cases_lt i index) [
          | inl before ↦ omega (arith, leads.longest i other before m, more)
          | inr last ↦ omega (arith, ap (λ (e : RouteEntry). length_of e.prefix) (only i other lt last m.0))
        ];
        first = λ i other before m same. omega (arith, leads.longest i other before m, more, same);
      }

  -- an entry that hasn't the address, or has it by no longer prefix, leaves the best as it is
  pub best_kept : (best : Option RouteEntry)
      → (covers_ipv4 entry.prefix target ≡ true
      → ((other : RouteEntry) → best ≡ Some other → length_of other.prefix < length_of entry.prefix) → ⊥)
      → IsBest table target index best → IsBest table target (index + 1) best
  best_kept None fails none = λ i other lt at. elim (cases_lt i index) [
    | inl before ↦ none i other before at
    | inr last ↦
        let is = ap (λ (e : RouteEntry). covers_ipv4 e.prefix target) (only i other lt last at) in
        elim (cases_Bool (covers_ipv4 other.prefix target)) [
          | inl has ↦ absurd (fails (is ∙ has) (λ best some. absurd (none-some best some)))
          | inr hasnt ↦ hasnt
        ]
  ]
  best_kept (Some best) fails leads =
      record {
        at = leads.at;
        below = omega (arith, leads.below);
        matches = leads.matches;
        longest = λ i other lt m. elim (cases_lt i index) [
          | inl before ↦ leads.longest i other before m
          | inr last ↦
              let is = only i other lt last m.0 in
              let bits = ap (λ (e : RouteEntry). length_of e.prefix) is in
              elim (cases_lt (length_of best.prefix) (length_of other.prefix)) [
                | inl longer ↦
                    absurd (fails (ap (λ (e : RouteEntry). covers_ipv4 e.prefix target) is ∙ m.1)
                    (λ one some. omega (arith, longer, bits, ap (λ (e : RouteEntry). length_of e.prefix) (same_Some best one some))))
                | inr upto ↦ upto
              ]
        ];
        first = leads.first;
      }

-- the best of all entries wins
pub best_wins : (table : List RouteEntry) (target upto : ℕ) (best : Option RouteEntry) → length table ≤ upto
    → IsBest table target upto best → MatchOption best (NoneMatches table target) (Wins table target)
best_wins table target upto None all none =
    λ i d lt. none i (get_or table i d) (omega arith) (slice_get-get_or table i d lt)
best_wins table target upto (Some entry) all leads =
    record {
      at = leads.at;
      matches = leads.matches;
      longest = λ i other m.
          let lt = slice_get_within table i other m.0 in
          leads.longest i other (omega arith) m;
      first = λ i other m before. leads.first i other before m;
    }
