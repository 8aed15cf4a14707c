use Rattle.std.proofs.Common.{◌≡◌, ◌∙◌, refl, sym, ap, subst, arith, rules, List, ◌++◌}
use Rattle.std.specs.List.{flat_map}
use Rattle.std.specs.List.Sorted.{IsStableByKey}
use Rattle.std.specs.Ordering.{nat_cmp}
use Rattle.std.proofs.lemmas.Fn.{always_returns_same}
use Rattle.std.proofs.lemmas.List.{take_all}
use Rattle.std.proofs.lemmas.List.Sorted.{IsNonDecreasingBy-from_sort_by_key}
use Rattle.onvm_base.specs.declared.post.Post.{Post}
use Rattle.onvm_report.specs.Report.{AreOrdered, post_key, post_line}
use Rattle.onvm_report.proofs.posts.add_posts.Goals as goal

-- the posts in their order, and a line for each
pub returns : goal.returns
returns c =
    let given : c.in_ok-ordered.ordered ≡ c.args.posts.now = search rules in
    let ordered : AreOrdered post_key c.args.posts.now c.sort_by_key.new.self = record {
      same = search rules;
      rising =
          IsNonDecreasingBy-from_sort_by_key post_key _ c.in_ok-sort_by_key.ensures.sorted (λ a r q k. search rules);
      stable =
          subst (λ (items : List Post). IsStableByKey post_key nat_cmp items c.sort_by_key.new.self) given
          (c.in_ok-sort_by_key.ensures.stable post_key
          (always_returns_same _ (λ a r. r ≡ post_key a.0.now) _ (λ a r q k. search rules)));
    } in
    record {
      part = flat_map (post_line c.args.functions.now) c.as_slice-post-items.result.now;
      part_is = record {
        ordered = c.as_slice-post-items.result.now;
        are_ordered =
            subst (λ (items : List Post). AreOrdered post_key c.args.posts.now items) (sym c.as_slice-post-items.ensures)
            ordered;
        is = refl;
      };
      is =
          c.loop-post.invariant
          ∙ ap (λ (items : List Post). c.args.lines.now ++ flat_map (post_line c.args.functions.now) items)
          (take_all c.loop-post.post-index c.as_slice-post-items.result.now (omega arith));
    }
