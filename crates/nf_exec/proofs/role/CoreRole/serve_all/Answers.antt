use Rattle.std.proofs.Common.{ℕ, ◌+◌, ◌<◌, ◌∙◌, sym, ap, subst, arith, List, length}
use Rattle.std.specs.Prelude.{slice_index_or}
use Rattle.onvm_base.specs.declared.ids.FnId.{FnId}
use Rattle.nf_exec.specs.declared.station.Station.{Station}
use Rattle.nf_exec.specs.Roles.{IsPassing}
use Rattle.nf_exec.specs.Stations.{AreFunctionsOf, functions_of}
use Rattle.nf_exec.proofs.Passing.{passing_kept, passing_served}
use Rattle.nf_exec.proofs.Working.{kept_free, kept_some}
use Rattle.nf_exec.proofs.StationLists.{ahead_next, as_long, counts_next, function_at, functions_long, item_there, more_counts}
use Rattle.nf_exec.proofs.role.CoreRole.serve_all.Goals as goal

pub overflow_add-handled : goal.overflow_add-handled
overflow_add-handled g c =
    let was = c.loop-at.invariant in
    let less : c.loop-at.at < c.len-at-end.result = c.loop-at-test.true in
    omega (arith, was.few, less, c.len-at-end.ensures, c.requires.work.few, c.serve_at-handled.ensures.few)

pub returns-then-is_some-clause-few : goal.returns-then-is_some-clause-few
returns-then-is_some-clause-few g c =
    let was = c.loop-at.invariant in
    let less : c.loop-at.at < c.len-at-end.result = c.loop-at-test.true in
    omega (arith, was.few, less, c.len-at-end.ensures, c.requires.work.few, c.serve_at-handled.ensures.few)

pub returns-clause-few : goal.returns-clause-few
returns-clause-few g c =
    let was = c.loop-at.invariant in
    omega (arith, was.few, c.loop-at.auto.at-end, c.len-at-end.ensures, c.requires.work.few)

pub returns-then-is_some-clause-passing : goal.returns-then-is_some-clause-passing
returns-then-is_some-clause-passing g c start n first =
    let site = c.args.board.now in
    let plan = c.args.plan.now in
    let was = c.loop-at.invariant in
    let is = c.serve_at-handled.ensures in
    let functions : List FnId = functions_of c.args.self.now.stations.items in
    let stations : List Station = c.loop-at.self.stations.items in
    let k : ℕ = c.serve_at-handled.result.handled in
    let after = c.serve_at-handled.new.token in
    let long = as_long c.args.self.now.stations.items stations was.functions in
    let less : c.loop-at.at < c.len-at-end.result = c.loop-at-test.true in
    let known : c.loop-at.at < length stations = omega (arith, less, c.len-at-end.ensures, long) in
    let s = item_there stations c.loop-at.at known in
    let count = functions_long c.args.self.now.stations.items in
    passing_kept site plan functions (c.loop-at.at + 1) (length c.args.self.now.stations.items) (n + (c.loop-at.handled + k))
    start after (kept_some _ _ _ is.work.kept (sym c.is_some.ensures ∙ c.if-is_some.true))
    (subst (λ m. IsPassing site plan functions (c.loop-at.at + 1) m start after) (omega arith)
    (passing_served site plan functions c.loop-at.at (n + c.loop-at.handled) k s.0.function
    c.serve_at-handled.result.last start c.loop-at.token after
    (subst (λ fs. AreFunctionsOf site.layout c.loop-at.token.role fs) was.functions was.work.functions)
    (omega (arith, less, c.len-at-end.ensures, count))
    (function_at stations c.loop-at.at s.0 known s.1
    ∙ ap (λ fs. slice_index_or fs c.loop-at.at s.0.function) was.functions)
    (was.passing start n first) was.free (is.served s.0 s.1)))

pub returns-then-is_some-clause-counts : goal.returns-then-is_some-clause-counts
returns-then-is_some-clause-counts g c =
    let was = c.loop-at.invariant in
    let is = c.serve_at-handled.ensures in
    let stations : List Station = c.loop-at.self.stations.items in
    let long = as_long c.args.self.now.stations.items stations was.functions in
    let less : c.loop-at.at < c.len-at-end.result = c.loop-at-test.true in
    let known : c.loop-at.at < length stations = omega (arith, less, c.len-at-end.ensures, long) in
    more_counts 1025 2048 c.serve_at-handled.new.self.stations.items (omega arith)
    (counts_next stations c.serve_at-handled.new.self.stations.items c.loop-at.at c.serve_at-handled.result.handled known
    is.others was.counts is.count (λ s s_is. was.ahead c.loop-at.at s (omega arith) known s_is) is.few)

pub loop-at-preserved : goal.loop-at-preserved
loop-at-preserved g c =
    let site = c.args.board.now in
    let plan = c.args.plan.now in
    let was = c.loop-at.invariant in
    let is = c.serve_at-handled.ensures in
    let functions : List FnId = functions_of c.args.self.now.stations.items in
    let stations : List Station = c.loop-at.self.stations.items in
    let k : ℕ = c.serve_at-handled.result.handled in
    let after = c.serve_at-handled.new.token in
    let long = as_long c.args.self.now.stations.items stations was.functions in
    let less : c.loop-at.at < c.len-at-end.result = c.loop-at-test.true in
    let known : c.loop-at.at < length stations = omega (arith, less, c.len-at-end.ensures, long) in
    let s = item_there stations c.loop-at.at known in
    let count = functions_long c.args.self.now.stations.items in
    record {
      passing = λ start n first.
          subst (λ m. IsPassing site plan functions (c.loop-at.at + 1) m start after) (omega arith)
          (passing_served site plan functions c.loop-at.at (n + c.loop-at.handled) k s.0.function
          c.serve_at-handled.result.last start c.loop-at.token after
          (subst (λ fs. AreFunctionsOf site.layout c.loop-at.token.role fs) was.functions was.work.functions)
          (omega (arith, less, c.len-at-end.ensures, count))
          (function_at stations c.loop-at.at s.0 known s.1
          ∙ ap (λ fs. slice_index_or fs c.loop-at.at s.0.function) was.functions)
          (was.passing start n first) was.free (is.served s.0 s.1));
      free = kept_free _ _ _ is.work.kept (sym c.is_some.ensures ∙ c.if-is_some.false);
      few = omega (arith, was.few, is.few);
      counts = counts_next stations c.serve_at-handled.new.self.stations.items c.loop-at.at k known is.others was.counts
          is.count (λ t t_is. was.ahead c.loop-at.at t (omega arith) known t_is) is.few;
      ahead = ahead_next stations c.serve_at-handled.new.self.stations.items c.loop-at.at is.others was.ahead;
      times = is.times;
      functions = is.others.functions ∙ was.functions;
      work = is.work;
      began = is.began ∙ was.began;
    }
