use Rattle.std.proofs.Common.{◌≡◌, drop, map}
use Rattle.cilk_tree.specs.Lawful.Flow.{after_all, in_order, part_of}
use Rattle.cilk_checker.specs.Courses.{followed, flow_course, in_row, path_course}
use Rattle.cilk_checker.specs.Judged.{first_refusal, judged_sites}
use Rattle.cilk_checker.proofs.walk.+statement.Given as goal

-- what the statements that are left do from here on is, behind what was done so far, what the whole list does
abbrev pub invariant-check_list-loop-statement : goal.invariant-check_list-loop-statement
invariant-check_list-loop-statement l = record {
  due : first_refusal (judged_sites l.around (in_order (map part_of l.list) l.initial.locals)) ≡ first_refusal (judged_sites l.around (in_order (map part_of (drop l.statement-index l.list)) l.locals));
  course : followed (in_row (map path_course l.paths)) (flow_course (in_order (map part_of (drop l.statement-index l.list)) l.locals)) ≡ flow_course (in_order (map part_of l.list) l.initial.locals);
  point : after_all (map part_of (drop l.statement-index l.list)) l.locals ≡ after_all (map part_of l.list) l.initial.locals;
}
