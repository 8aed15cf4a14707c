use Rattle.std.proofs.Common.{◌+◌, ◌≤◌, refl, ℕ, length, sym, ap, ◌∙◌, subst, arith, inl, inr}
use Rattle.std.specs.Prelude.{[], ◌∷◌, ◌++◌}
use Rattle.std.proofs.lemmas.List.{with_items_is}
use Rattle.onvm_base.specs.declared.limits.TheConstants.{LAST_POST}
use Rattle.onvm_core.specs.declared.layout.Layout.{Layout}
use Rattle.onvm_core.specs.declared.layout.Word.TheVariants.{Post as PostWord}
use Rattle.onvm_core.specs.declared.step.Act.TheVariants.{Post as PostAct}
use Rattle.onvm_board.specs.Tokens.{TokenView}
use Rattle.entry_throttle.specs.Feeders.{FeederView}
use Rattle.entry_throttle.specs.Throttles.{posted_bits, set_of}
use Rattle.entry_throttle.proofs.LookBack.{leaves_twice, step_leaves}
use Rattle.entry_throttle.proofs.PassMade.{alike_like, made_post, made_quiet, marks_like, others_like, read_like}
use Rattle.entry_throttle.proofs.feeder.marks_pass.Goals as goal

pub returns-then-not-is_owed-clause-passed : goal.returns-then-not-is_owed-clause-passed
returns-then-not-is_owed-clause-passed c setting aged ready =
    let feeder : FeederView = c.args.feeder.now in
    let view = c.feeder.view_is in
    let raw =
    c.read_lanes-changed.ensures.read setting
    (marks_like setting _ feeder.high _ feeder.low _ feeder.age _ (ap (λ (f : FeederView). f.high) (sym view))
    (ap (λ (f : FeederView). f.low) (sym view)) (ap (λ (f : FeederView). f.age) (sym view)) ready.plan) in
    let marks_are =
    with_items_is c.feeder.inside.marks c.read_lanes-changed.new.marks (raw.as_long ∙ c.deref_mut.ensures.len) in
    let old_marks = c.deref_mut.ensures.value ∙ ap (λ (f : FeederView). f.marks) view in
    let read =
    read_like setting _ feeder.number _ feeder.ages _ _ setting.layout.functions _ feeder.marks _ _ _ _
    c.requires.feeder.role (c.deref-2.ensures.value ∙ ap (λ (f : FeederView). f.ages) view)
    (ap (λ (l : Layout). l.functions) (sym ready.plan.same)) old_marks (sym marks_are) raw in
    let made = c.len-made.ensures ∙ c.feeder.inside.posts.ok.0 ∙ ap (λ (f : FeederView). length f.posts) view in
    made_quiet setting aged c.args.board.now c.args.now feeder _ c.args.token.now c.read_lanes-changed.new.token
    ready read
    (ap (λ (f : FeederView). f.posts) view)
    (elim c.if-not-is_owed.ensures.quiet [
      | inl same ↦
          inl (alike_like c.read_lanes-changed.result _ feeder.marks c.read_lanes-changed.new.marks _ same old_marks
          (sym marks_are) c.read_lanes-changed.ensures.alike)
      | inr late ↦ inr (subst (λ (n : ℕ). LAST_POST ≤ n) made late)
    ])

pub returns-clause-passed : goal.returns-clause-passed
returns-clause-passed c setting aged ready =
    let feeder : FeederView = c.args.feeder.now in
    let view = c.feeder.view_is in
    let raw =
    c.read_lanes-changed.ensures.read setting
    (marks_like setting _ feeder.high _ feeder.low _ feeder.age _ (ap (λ (f : FeederView). f.high) (sym view))
    (ap (λ (f : FeederView). f.low) (sym view)) (ap (λ (f : FeederView). f.age) (sym view)) ready.plan) in
    let marks_are =
    with_items_is c.feeder.inside.marks c.read_lanes-changed.new.marks (raw.as_long ∙ c.deref_mut.ensures.len) in
    let old_marks = c.deref_mut.ensures.value ∙ ap (λ (f : FeederView). f.marks) view in
    let read =
    read_like setting _ feeder.number _ feeder.ages _ _ setting.layout.functions _ feeder.marks _ _ _ _
    c.requires.feeder.role (c.deref-2.ensures.value ∙ ap (λ (f : FeederView). f.ages) view)
    (ap (λ (l : Layout). l.functions) (sym ready.plan.same)) old_marks (sym marks_are) raw in
    let made = c.len-made.ensures ∙ c.feeder.inside.posts.ok.0 ∙ ap (λ (f : FeederView). length f.posts) view in
    made_post setting aged c.args.board.now c.args.now feeder _ c.args.token.now c.read_lanes-changed.new.token
    c.post.new.token (c.len-made.result + 1) c.bits_of_post-bits.result c.value_of.result ready read
    (omega (
      arith,
      ap (λ (f : FeederView). length f.marks) (sym view),
      c.feeder.invariant.few,
      c.feeder.invariant.marks_long,
    ))
    (ap (λ (n : ℕ). n + 1) made)
    (c.bits_of_post-bits.ensures
    ∙ ap (posted_bits (c.len-made.result + 1)) (c.set_of.ensures ∙ ap set_of c.deref-3.ensures.value))
    c.value_of.ensures
    (ap (λ (t : TokenView). t.log) c.post.ensures.posted.grew
    ∙ ap (λ (n : ℕ). PostAct (PostWord n) c.value_of.result ∷ c.read_lanes-changed.new.token.log)
    (ap (λ (f : FeederView). f.number) view))
    (c.push_reserved.ensures.items
    ∙ (λ i. (view i).posts ++ record {
      feeder = (view i).number;
      number = c.len-made.result + 1;
      moment = c.args.now;
      bits = c.bits_of_post-bits.result;
    } ∷ []))
    (others_like c.read_lanes-changed.result _ feeder.marks c.read_lanes-changed.new.marks _
    c.if-not-is_owed.ensures.owed.0 old_marks (sym marks_are) c.read_lanes-changed.ensures.others)
    (omega (arith, c.if-not-is_owed.ensures.owed.1, made))

pub returns-clause-ends : goal.returns-clause-ends
returns-clause-ends c =
    leaves_twice c.args.board.now c.args.token.now c.read_lanes-changed.new.token c.post.new.token
    c.read_lanes-changed.ensures.leaves
    (step_leaves c.args.board.now _ c.read_lanes-changed.new.token c.post.new.token c.post.ensures.posted
    (λ ring. refl) (λ ring. refl))
