use Rattle.std.proofs.Common.{◌≡◌, drop, map, slice_get}
use Rattle.cilk_checker.specs.Courses.{in_row, path_course}
use Rattle.cilk_checker.specs.Sets.{set_of}
use Rattle.cilk_checker.proofs.syncs.+search.Given as goal

-- what the paths that are left give from here on is what all of them give
abbrev pub invariant-find_use-loop-path : goal.invariant-find_use-loop-path
invariant-find_use-loop-path l = record {
  found : slice_get ((in_row (map path_course l.paths)).uses (set_of l.initial.pending)) 0 ≡ slice_get ((in_row (map path_course (drop l.path-index l.paths))).uses (set_of l.pending)) 0;
  ends : (in_row (map path_course (drop l.path-index l.paths))).ends (set_of l.pending) ≡ (in_row (map path_course l.paths)).ends (set_of l.initial.pending);
}
