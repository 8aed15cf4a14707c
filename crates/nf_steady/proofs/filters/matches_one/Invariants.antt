use Rattle.std.proofs.Common.{◌≡◌, drop}
use Rattle.nf_api.specs.Answers.{does_match}
use Rattle.nf_steady.proofs.filters.matches_one.Given as goal

-- whether one of the objects that are left matches is whether one of all does
abbrev pub invariant-loop-tests : goal.invariant-loop-tests
invariant-loop-tests l =
    does_match (drop l.tests-index l.tests-items) l.port l.heads ≡ does_match l.fn.objects l.port l.heads
