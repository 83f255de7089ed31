use Rattle.std.proofs.Common.{◌+◌, drop, map, slice_get, sym, ap, ◌∙◌}
use Rattle.cilk_checker.specs.Courses.{in_row, path_course, step_course}
use Rattle.cilk_checker.specs.Sets.{set_of}
use Rattle.cilk_checker.proofs.Exits.{course_either}
use Rattle.cilk_checker.proofs.Firsts.{is_none, first_some, first_none, found_in_met, found_in_unmet}
use Rattle.cilk_checker.proofs.Turns.{next_dropped}
use Rattle.cilk_checker.proofs.syncs.+search.Goals as goal

pub find_use-returns-then-is_some-clause-found : goal.find_use-returns-then-is_some-clause-found
find_use-returns-then-is_some-clause-found t c =
    let loop = c.loop-path in
    let paths = c.args.paths.now in
    let path = c.path-item.result in
    let now = set_of loop.pending in
    let rest = in_row (map path_course (drop (loop.path-index + 1) paths)) in
    let split = next_dropped paths loop.path-index path c.loop-path-test.true c.path-item.is in
    first_some ((path_course path).uses now) (rest.uses ((path_course path).ends now)) c.in_ok-found.found (sym c.is_some.ensures ∙ c.if-is_some.true) c.in_ok-found.ensures.found
    ∙ sym (ap (λ left. slice_get ((in_row (map path_course left)).uses now) 0) split) ∙ sym loop.invariant.found

pub find_use-loop-path-preserved : goal.find_use-loop-path-preserved
find_use-loop-path-preserved t c =
    let loop = c.loop-path in
    let paths = c.args.paths.now in
    let path = c.path-item.result in
    let now = set_of loop.pending in
    let rest = in_row (map path_course (drop (loop.path-index + 1) paths)) in
    let split = next_dropped paths loop.path-index path c.loop-path-test.true c.path-item.is in
    let none = is_none c.in_ok-found.found (sym c.is_some.ensures ∙ c.if-is_some.false) in
    let moved = c.in_ok-found.ensures.ends none in
    record {
      found = loop.invariant.found ∙ ap (λ left. slice_get ((in_row (map path_course left)).uses now) 0) split
          ∙ first_none ((path_course path).uses now) (rest.uses ((path_course path).ends now)) (sym c.in_ok-found.ensures.found ∙ none)
          ∙ ap (λ set. slice_get (rest.uses set) 0) (sym moved);
      ends = ap rest.ends moved ∙ ap (λ left. (in_row (map path_course left)).ends now) (sym split) ∙ loop.invariant.ends;
    }

pub find_use_in-returns-then-is_some-3-clause-found : goal.find_use_in-returns-then-is_some-3-clause-found
find_use_in-returns-then-is_some-3-clause-found t c =
    let step = c.in-Either.step in
    let met = in_row (map path_course c.in-Either.met) in
    let unmet = in_row (map path_course c.in-Either.unmet) in
    let before = set_of c.args.pending.now in
    let now = set_of c.take_step-in-Either.new.pending in
    let none = is_none c.in_ok-found-in-Either.found (sym c.is_some-in-Either.ensures ∙ c.if-is_some-2.false) in
    found_in_met (step_course step) met unmet before now c.in_ok-found-in-Either-2.found (sym c.in_ok-found-in-Either.ensures.found ∙ none) (c.in_ok-found-in-Either.ensures.ends none)
    (sym c.is_some-in-Either-2.ensures ∙ c.if-is_some-3.true)
    (c.in_ok-found-in-Either-2.ensures.found ∙ ap (λ list. slice_get ((in_row (map path_course list)).uses now) 0) c.as_slice-in-Either.ensures)
    ∙ ap (λ course. slice_get (course.uses before) 0) (sym (ap path_course c.in-Either.is ∙ course_either step c.in-Either.met c.in-Either.unmet))

pub find_use_in-returns-in_ok-insert_all-in-Either-clause-found : goal.find_use_in-returns-in_ok-insert_all-in-Either-clause-found
find_use_in-returns-in_ok-insert_all-in-Either-clause-found t c =
    let step = c.in-Either.step in
    let met = in_row (map path_course c.in-Either.met) in
    let unmet = in_row (map path_course c.in-Either.unmet) in
    let before = set_of c.args.pending.now in
    let now = set_of c.take_step-in-Either.new.pending in
    let none = is_none c.in_ok-found-in-Either.found (sym c.is_some-in-Either.ensures ∙ c.if-is_some-2.false) in
    let none_met = is_none c.in_ok-found-in-Either-2.found (sym c.is_some-in-Either-2.ensures ∙ c.if-is_some-3.false) in
    let found_met = c.in_ok-found-in-Either-2.ensures.found ∙ ap (λ list. slice_get ((in_row (map path_course list)).uses now) 0) c.as_slice-in-Either.ensures in
    found_in_unmet (step_course step) met unmet before now c.in_ok-found-in-Either-3.found (sym c.in_ok-found-in-Either.ensures.found ∙ none) (c.in_ok-found-in-Either.ensures.ends none)
    (sym found_met ∙ none_met)
    (c.in_ok-found-in-Either-3.ensures.found ∙ ap (λ list. slice_get ((in_row (map path_course list)).uses (set_of c.in_ok-other-in-Either.other)) 0) c.as_slice-in-Either-2.ensures ∙ ap (λ set. slice_get (unmet.uses set) 0) c.in_ok-other-in-Either.ensures)
    ∙ ap (λ course. slice_get (course.uses before) 0) (sym (ap path_course c.in-Either.is ∙ course_either step c.in-Either.met c.in-Either.unmet))
