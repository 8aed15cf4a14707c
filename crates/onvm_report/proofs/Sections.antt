-- Parts of the text that are there where they are asked for.
use Rattle.std.proofs.Common.{◌≡◌, ◌∙◌, refl, sym, ap, subst, Bool, true, false, List, ℕ, [], ◌++◌, append-nil}
use Rattle.onvm_report.specs.Report.{IsLongerBy, WhereAsked}

pub asked : (Is : List ℕ → Type 0) (b : Bool) (before after : List ℕ) → b ≡ true → IsLongerBy Is before after
    → IsLongerBy (WhereAsked b Is) before after
asked Is b before after it longer = record {
  part = longer.part;
  part_is = subst (λ c. WhereAsked c Is longer.part) (sym it) longer.part_is;
  is = longer.is;
}

pub unasked : (Is : List ℕ → Type 0) (b : Bool) (before after : List ℕ) → b ≡ false → after ≡ before
    → IsLongerBy (WhereAsked b Is) before after
unasked Is b before after not_it same = record {
  part = [];
  part_is = subst (λ c. WhereAsked c Is []) (sym not_it) refl;
  is = same ∙ sym (append-nil before);
}

-- a text that grew three times
pub three_parts : (first second third fourth a b c : List ℕ) → second ≡ first ++ a → third ≡ second ++ b
    → fourth ≡ third ++ c → fourth ≡ first ++ a ++ b ++ c
three_parts first second third fourth a b c one two three =
    three ∙ ap (λ t. t ++ c) (two ∙ ap (λ t. t ++ b) one)
