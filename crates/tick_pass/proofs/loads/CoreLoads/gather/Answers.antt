use Rattle.std.proofs.Common.{◌≡◌, ◌<◌, ◌∙◌, ℕ, ap, arith, get_or, length, refl, sym, subst}
use Rattle.std.specs.Prelude.{◌≢◌, ◌+◌, ◌++◌, drop, map}
use Rattle.nf_registry.specs.Places.{residents, residents_from}
use Rattle.std.proofs.lemmas.List.{length_push}
use Rattle.std.proofs.lemmas.Option.{slice_get_read}
use Rattle.onvm_base.specs.declared.function.FunctionPlan.{FunctionPlan}
use Rattle.load_estimate.specs.Windows.{WindowState, empty_window}
use Rattle.cpu_shares.specs.Shares.{load_in}
use Rattle.tick_pass.specs.Telling.{load_at, priority_at, priority_in}
use Rattle.tick_pass.specs.Roles.{HasCoreRoom}
use Rattle.tick_pass.specs.declared.loads.CoreLoads.{CoreLoads}
use Rattle.tick_pass.proofs.Residing.{gathered, number, passed_over}
use Rattle.tick_pass.proofs.Windowing.{get_or_any}
use Rattle.tick_pass.proofs.loads.CoreLoads.gather.Goals as goal
use Rattle.tick_pass.proofs.loads.CoreLoads.gather.Goals.{else-functions-f, then-functions-f}

pub loop-f-preserved : goal.loop-f-preserved
loop-f-preserved c =
    let f : ℕ = c.loop-f.f in
    let functions = c.args.plan.now.functions in
    let windows = c.args.windows.now in
    let was = c.loop-f.invariant in
    let same = c.as_slice-functions.ensures in
    let function : FunctionPlan = c.index-functions-f.result in
    let read : function ≡ get_or functions f function =
    c.index-functions-f.is ∙ ap (λ fs. get_or fs f function) same in
    let within : f < length functions = omega (arith, c.loop-f-test.true, ap length same) in
    elim c.if-functions-f.branch [
      | then-functions-f w ↦
          let own : function.core ≡ c.args.core =
          omega (arith, w.if-functions-f.true, ap (λ (g : FunctionPlan). g.core) c.index-functions-f.is) in
          let window = w.index-windows-f.result in
          let load : w.load_of.result ≡ load_at windows (number f) =
          w.load_of.ensures
          ∙ ap (λ (v : WindowState). load_in v.samples)
          (w.index-windows-f.is ∙ get_or_any windows f window (empty_window 0) (omega (arith, within, c.requires.windows.long)))
          in
          let other : FunctionPlan = w.index-functions-f-then-functions-f.result in
          let value : ℕ = (get_or c.as_slice-functions.result.now f other).priority in
          let priority : value ≡ priority_at functions (number f) =
          ap (λ (g : FunctionPlan). g.priority) (sym w.index-functions-f-then-functions-f.is)
          ∙ sym (ap priority_in
          (slice_get_read functions (length functions) f other refl within
          (w.index-functions-f-then-functions-f.is ∙ ap (λ fs. get_or fs f other) same)))
          in
          let is = w.add.ensures in
          let loads = ap (λ (s : CoreLoads). s.loads.items) w.self-is ∙ is.loads in
          let priorities = ap (λ (s : CoreLoads). s.priorities.items) w.self-is ∙ is.priorities in
          record {
            loads =
                ap (λ ls. ls ++ map (load_at windows) (residents_from (f + 1) c.args.core (drop (f + 1) functions))) loads
                ∙ gathered (load_at windows) c.loop-f.self.loads.items
                (map (load_at windows) (residents c.args.core functions)) f c.args.core functions function
                w.load_of.result within read own load was.loads;
            priorities =
                ap (λ ps. ps ++ map (priority_at functions) (residents_from (f + 1) c.args.core (drop (f + 1) functions)))
                priorities
                ∙ gathered (priority_at functions) c.loop-f.self.priorities.items
                (map (priority_at functions) (residents c.args.core functions)) f c.args.core functions function
                value within read own priority was.priorities;
            few = omega (arith, was.few, ap length loads, length_push c.loop-f.self.loads.items w.load_of.result);
            as_few =
                omega (arith, was.as_few, ap length priorities, length_push c.loop-f.self.priorities.items value);
            room = subst HasCoreRoom (sym w.self-is) is.room;
          }
      | else-functions-f w ↦
          let other : function.core ≢ c.args.core =
          λ e. w.if-functions-f.false (omega (arith, e, ap (λ (g : FunctionPlan). g.core) c.index-functions-f.is)) in
          let loads = ap (λ (s : CoreLoads). s.loads.items) w.self-is in
          let priorities = ap (λ (s : CoreLoads). s.priorities.items) w.self-is in
          record {
            loads =
                ap (λ ls. ls ++ map (load_at windows) (residents_from (f + 1) c.args.core (drop (f + 1) functions))) loads
                ∙ passed_over (load_at windows) c.loop-f.self.loads.items
                (map (load_at windows) (residents c.args.core functions)) f c.args.core functions function within read
                other was.loads;
            priorities =
                ap (λ ps. ps ++ map (priority_at functions) (residents_from (f + 1) c.args.core (drop (f + 1) functions)))
                priorities
                ∙ passed_over (priority_at functions) c.loop-f.self.priorities.items
                (map (priority_at functions) (residents c.args.core functions)) f c.args.core functions function within
                read other was.priorities;
            few = omega (arith, was.few, ap length loads);
            as_few = omega (arith, was.as_few, ap length priorities);
            room = subst HasCoreRoom (sym w.self-is) was.room;
          }
    ]
