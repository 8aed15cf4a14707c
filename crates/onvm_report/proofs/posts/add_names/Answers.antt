use Rattle.std.proofs.Common.{◌≡◌, ◌∙◌, sym, ap, rules, append_assoc, if◌then◌else◌, codes, List, [], ◌∷◌, ℕ, ◌++◌, ◌+◌, ◌/◌, ◌%◌, ◌^◌, ◌==◌, Bool, true, false, take}
use Rattle.onvm_base.specs.declared.function.FunctionPlan.{FunctionPlan}
use Rattle.onvm_report.specs.Report.{names_among}
use Rattle.onvm_report.proofs.Names.{halved, is_empty, is_empty_more, joined, joined_more, listed, not_listed}
use Rattle.onvm_report.proofs.posts.add_names.Goals.{then-rest-eq1+in_ok-add_listed, else-rest-eq1}
use Rattle.onvm_report.proofs.posts.add_names.Goals as goal

pub loop-function-preserved : goal.loop-function-preserved
loop-function-preserved c =
    let i : ℕ = c.loop-function.function-index in
    let function : FunctionPlan = c.function-item.result in
    let names : List (List ℕ) = names_among (take i c.args.functions.now) c.args.bits in
    let bit : (b : Bool) → (c.loop-function.rest % 2 == 1) ≡ b → (c.args.bits / 2 ^ i % 2 == 1) ≡ b =
    λ b is. ap (λ n. n % 2 == 1) (sym c.loop-function.invariant.rest) ∙ is in
    let set : (c.loop-function.rest % 2 == 1) ≡ true
    → names_among (take (i + 1) c.args.functions.now) c.args.bits ≡ names ++ function.name ∷ [] =
    λ is. listed c.args.bits c.args.functions.now i function c.loop-function-test.true c.function-item.is (bit true is) in
    let unset : (c.loop-function.rest % 2 == 1) ≡ false
    → names_among (take (i + 1) c.args.functions.now) c.args.bits ≡ names =
    λ is. not_listed c.args.bits c.args.functions.now i function c.loop-function-test.true c.function-item.is
    (bit false is) in
    record {
      rest = ap (λ n. n / 2) c.loop-function.invariant.rest ∙ halved c.args.bits i;
      first = elim c.if-rest-eq1.branch [
        | then-rest-eq1+in_ok-add_listed w ↦
            w.is_first-is
            ∙ sym (ap (λ (others : List (List ℕ)). is_empty others) (set (search rules))
            ∙ is_empty_more names function.name)
        | else-rest-eq1 w ↦
            w.is_first-is ∙ c.loop-function.invariant.first
            ∙ ap (λ (others : List (List ℕ)). is_empty others) (sym (unset (search rules)))
      ];
      lines = elim c.if-rest-eq1.branch [
        | then-rest-eq1+in_ok-add_listed w ↦
            w.lines-is ∙ w.in_ok-add_listed.ensures
            ∙ ap (λ text. text ++ (if c.loop-function.is_first then function.name else codes "," ++ function.name))
            c.loop-function.invariant.lines
            ∙ ap (λ b. (c.args.lines.now ++ joined names) ++ (if b then function.name else codes "," ++ function.name))
            c.loop-function.invariant.first
            ∙ append_assoc c.args.lines.now (joined names)
            (if is_empty names then function.name else codes "," ++ function.name)
            ∙ ap (λ text. c.args.lines.now ++ text)
            (joined_more names function.name ∙ ap (λ others. joined others) (sym (set (search rules))))
        | else-rest-eq1 w ↦
            w.lines-is ∙ c.loop-function.invariant.lines
            ∙ ap (λ others. c.args.lines.now ++ joined others) (sym (unset (search rules)))
      ];
    }
