-- A file behind whose largest size there is more is judged by its size alone, so nothing behind that need be read.
use Rattle.std.proofs.Common.{◌≡◌, ℕ, ◌<◌, ◌⊎◌, true, false, nat_le, ◌&&◌, List, ◌++◌, length, inl, inr, sym, ap, ◌∙◌, arith}
use Rattle.std.proofs.lemmas.Bool.{true≢false}
use Rattle.std.proofs.lemmas.List.{length-append}
use Rattle.onvm_base.specs.declared.limits.TheConstants.{MAX_CHAIN_FILE_BYTES}
use Rattle.onvm_base.specs.declared.plan.Plan.{Plan}
use Rattle.chain_file.specs.declared.file.TheConstants.{MAX_CHAIN_FILE_BRACKETS}
use Rattle.chain_file.specs.declared.fault.FileFault.{FileFault}
use Rattle.chain_file.specs.declared.fault.FileFault.TheVariants.{Limit, Memory}
use Rattle.chain_file.specs.File.{IsRead, IsRefused, by_memory, by_size, by_text, by_tree, file_place, is_within, openings}

past : (m n : ℕ) → n < m → nat_le m n ≡ false
past m n more = grind arith

pub not_within : (bytes : List ℕ) → MAX_CHAIN_FILE_BYTES < length bytes → is_within bytes ≡ false
not_within bytes long =
    ap (λ short. short && nat_le (openings bytes) MAX_CHAIN_FILE_BRACKETS) (past (length bytes) MAX_CHAIN_FILE_BYTES long)

pub not_read_longer : (bytes : List ℕ) (captures : ℕ) (guests : List (List ℕ)) (plan : Plan)
    → MAX_CHAIN_FILE_BYTES < length bytes → ¬ (IsRead bytes captures guests plan)
not_read_longer bytes captures guests plan long r = true≢false (sym r.within ∙ not_within bytes long)

module _ (bytes : List ℕ) (captures : ℕ) (guests : List (List ℕ)) (fault : FileFault) (long : MAX_CHAIN_FILE_BYTES < length bytes) where
  off : is_within bytes ≡ true → ⊥
  off within = true≢false (sym within ∙ not_within bytes long)

  pub refused_for_size : IsRefused bytes captures guests fault → (fault ≡ Memory) ⊎ (fault ≡ Limit file_place)
  refused_for_size (by_memory is) = inl is
  refused_for_size (by_size is large) = inr is
  refused_for_size (by_text is within none) = absurd (off within)
  refused_for_size (by_tree tree within is faulty) = absurd (off within)

longer : (bytes more : List ℕ) → MAX_CHAIN_FILE_BYTES < length bytes → MAX_CHAIN_FILE_BYTES < length (bytes ++ more)
longer bytes more long = omega (arith, long, length-append bytes more)

pub refused_longer : (bytes more : List ℕ) (captures : ℕ) (guests : List (List ℕ)) (fault : FileFault) → MAX_CHAIN_FILE_BYTES < length bytes
    → IsRefused bytes captures guests fault → IsRefused (bytes ++ more) captures guests fault
refused_longer bytes more captures guests fault long refused = elim (refused_for_size bytes captures guests fault long refused) [
  | inl is ↦ by_memory is
  | inr is ↦ by_size is (not_within (bytes ++ more) (longer bytes more long))
]
