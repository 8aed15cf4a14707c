-- What a file is read as, it is alone.
use Rattle.std.proofs.Common.{◌≡◌, ℕ, List, sym, ◌∙◌, subst}
use Rattle.std.proofs.lemmas.Bool.{true≢false}
use Rattle.onvm_base.specs.declared.plan.Plan.{Plan}
use Rattle.chain_file.specs.declared.fault.FileFault.{FileFault}
use Rattle.chain_file.specs.declared.fault.FileFault.TheVariants.{Memory}
use Rattle.chain_file.specs.File.{IsFaultOf, IsPlanOf, IsRead, IsRefused, by_memory, by_size, by_text, by_tree, IsSamePlan}
use Rattle.chain_file.proofs.KeptLists.{no_some, same_some}
use Rattle.chain_file.proofs.Told.{only_memory}

pub not_refused : (bytes : List ℕ) (captures : ℕ) (guests : List (List ℕ)) (plan : Plan) (fault : FileFault)
    → IsRead bytes captures guests plan → IsRefused bytes captures guests fault → fault ≡ Memory
not_refused bytes captures guests plan fault r (by_memory is) = is
not_refused bytes captures guests plan fault r (by_size is large) = absurd (true≢false (sym r.within ∙ large))
not_refused bytes captures guests plan fault r (by_text is small none) = absurd (no_some r.tree (sym r.is.1 ∙ none r.is.0))
not_refused bytes captures guests plan fault r (by_tree tree small is faulty) =
    let same : tree ≡ r.tree = same_some tree r.tree (sym is.1 ∙ r.is.1) in
    only_memory captures guests r.tree plan fault r.plan_is (subst (λ d. IsFaultOf captures guests d fault) same faulty)

pub same_plan : (bytes : List ℕ) (captures : ℕ) (guests : List (List ℕ)) (plan other : Plan)
    → IsRead bytes captures guests plan → IsRead bytes captures guests other → IsSamePlan plan other
same_plan bytes captures guests plan other r s =
    let same : s.tree ≡ r.tree = same_some s.tree r.tree (sym s.is.1 ∙ r.is.1) in
    let a = r.plan_is in
    let b = subst (λ d. IsPlanOf captures guests d other) same s.plan_is in
    record {
      numbers = a.sizes_are ∙ sym b.sizes_are;
      functions = a.functions_are ∙ sym b.functions_are;
      chains = a.chains_are ∙ sym b.chains_are;
      rules = a.rules_are ∙ sym b.rules_are;
      default = a.default_is ∙ sym b.default_is;
    }
