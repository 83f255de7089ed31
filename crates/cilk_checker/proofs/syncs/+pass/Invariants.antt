use Rattle.std.proofs.Common.{◌≡◌, drop, map}
use Rattle.cilk_checker.specs.Courses.{in_row, path_course}
use Rattle.cilk_checker.specs.Sets.{set_of}
use Rattle.cilk_checker.proofs.syncs.+pass.Given as goal

-- what is pending behind the paths that are left is what is pending behind all of them
abbrev pub invariant-pass_all-loop-path : goal.invariant-pass_all-loop-path
invariant-pass_all-loop-path l = (in_row (map path_course (drop l.path-index l.paths))).ends (set_of l.pending) ≡ (in_row (map path_course l.paths)).ends (set_of l.initial.pending)
