use Rattle.std.proofs.Common.{◌≡◌, ◌++◌, take}
use Rattle.std.specs.List.{flat_map}
use Rattle.onvm_report.specs.Report.{post_line}
use Rattle.onvm_report.proofs.posts.add_posts.Given as goal

-- the lines so far
abbrev pub invariant-loop-post : goal.invariant-loop-post
invariant-loop-post l =
    l.lines ≡ l.initial.lines ++ flat_map (post_line l.functions) (take l.post-index l.post-items)
