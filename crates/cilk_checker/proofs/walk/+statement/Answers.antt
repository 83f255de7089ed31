use Rattle.std.proofs.Common.{◌≡◌, ◌+◌, ◌-◌, drop, length, map, refl, sym, ap, subst, ◌∙◌}
use Rattle.std.proofs.Math.ListN.{drop_of_length-le}
use Rattle.cilk_tree.specs.Lawful.Flow.{At, Either, after_all, after_list, in_order, with_scope}
use Rattle.cilk_tree.specs.Lawful.Pending.{none}
use Rattle.cilk_checker.specs.Courses.{followed, flow_course, in_row, path_course, step_course}
use Rattle.cilk_checker.specs.Judged.{first_refusal, judged_sites, Tells}
use Rattle.cilk_checker.proofs.Exits.{passed_on, passes_as, course_block, course_either, course_loop}
use Rattle.cilk_checker.proofs.Heads.{parts, site_of, stops_at_head, flow_if, after_if, flow_while, after_while, flow_block, after_block}
use Rattle.cilk_checker.proofs.Lists.{followed_by_nothing, list_stops, list_goes, course_goes, point_goes, declared_dropped, passes_same, tells_same}
use Rattle.cilk_checker.proofs.Passing.{passes_then, passes_either, passes_loop, stops_first, stops_second}
use Rattle.cilk_checker.proofs.Turns.{next_dropped}
use Rattle.cilk_checker.proofs.walk.+statement.Goals as goal

pub check_list-returns-in_err-path-clause-err : goal.check_list-returns-in_err-path-clause-err
check_list-returns-in_err-path-clause-err t c =
    let loop = c.loop-statement in
    let list = c.args.list.now in
    let refusal = c.in_err-path.field-0.0 in
    let split = next_dropped list loop.statement-index c.statement-item.result c.loop-statement-test.true c.statement-item.is in
    let here = list_stops c.args.around c.statement-item.result loop.locals loop.locals (drop loop.statement-index list) _ split refusal c.in_err-path.ensures.err in
    passed_on _ c.from_residual.result refusal c.from_residual.ensures.1 (subst (λ due. Tells due refusal) (sym loop.invariant.due) here)

pub check_list-loop-statement-preserved : goal.check_list-loop-statement-preserved
check_list-loop-statement-preserved t c =
    let loop = c.loop-statement in
    let list = c.args.list.now in
    let left = drop loop.statement-index list in
    let rest = drop (loop.statement-index + 1) list in
    let next = c.statement-item.result in
    let after = c.check_statement.new.locals in
    let passes = c.in_ok-path.ensures.ok in
    let moved = c.in_ok-path.ensures.point in
    let split = next_dropped list loop.statement-index next c.loop-statement-test.true c.statement-item.is in
    record {
      due = loop.invariant.due ∙ list_goes c.args.around next loop.locals after left rest split (path_course c.in_ok-path.path) passes moved;
      course = ap (λ paths. followed (in_row (map path_course paths)) (flow_course (in_order (parts rest) after))) c.in_ok-push.ensures.ok
          ∙ course_goes c.args.around next loop.locals after left rest split (path_course c.in_ok-path.path) passes moved loop.paths c.in_ok-path.path refl
          ∙ loop.invariant.course;
      point = point_goes c.args.around next loop.locals after left rest split moved ∙ loop.invariant.point;
    }

pub check_list-returns-clause-ok : goal.check_list-returns-clause-ok
check_list-returns-clause-ok t c =
    let loop = c.loop-statement in
    let none = drop_of_length-le c.args.list.now c.loop-statement-test.false in
    record {
      lawful = loop.invariant.due ∙ ap (λ list. first_refusal (judged_sites c.args.around (in_order (parts list) loop.locals))) none;
      followed = sym (followed_by_nothing (in_row (map path_course loop.paths))) ∙ ap (λ list. followed (in_row (map path_course loop.paths)) (flow_course (in_order (parts list) loop.locals))) (sym none) ∙ loop.invariant.course;
    }

pub check_list-returns-clause-point : goal.check_list-returns-clause-point
check_list-returns-clause-point t c =
    let loop = c.loop-statement in
    let begun = c.args.locals.now in
    let none = drop_of_length-le c.args.list.now c.loop-statement-test.false in
    let reached : loop.locals ≡ after_all (parts c.args.list.now) begun = ap (λ list. after_all (parts list) loop.locals) (sym none) ∙ loop.invariant.point in
    c.leave.ensures
    ∙ (λ i. with_scope (drop (length (reached i).scope - c.depth-depth.ensures i) (reached i).scope) (reached i))
    ∙ ap (λ scope. with_scope scope (after_all (parts c.args.list.now) begun)) (declared_dropped c.args.list.now begun)

pub check_statement-returns-in_err-step-clause-err : goal.check_statement-returns-in_err-step-clause-err
check_statement-returns-in_err-step-clause-err t c =
    passed_on _ c.from_residual.result c.in_err-step.field-0.0 c.from_residual.ensures.1 (stops_at_head c.args.locals.now c.args.around c.args.statement.now c.in_err-step.field-0.0 c.in_err-step.ensures.err)

pub check_statement-returns-in_err-met-in-If-clause-err : goal.check_statement-returns-in_err-met-in-If-clause-err
check_statement-returns-in_err-met-in-If-clause-err t c =
    let refusal = c.in_err-met-in-If.field-0.0 in
    let around = c.args.around in
    let here = c.advance.new.self in
    let between = after_list (parts c.in-If.met) here in
    let flow = flow_if c.args.locals.now here c.in_ok-advance.ensures c.args.statement.now c.in-If.field-0 c.in-If.met c.in-If.unmet c.in-If.is between refl in
    let told = tells_same around c.as_slice.result.now c.in-If.met here c.as_slice.ensures refusal c.in_err-met-in-If.ensures.err in
    passed_on _ c.from_residual-in_err-met-in-If.result refusal c.from_residual-in_err-met-in-If.ensures.1
    (subst (λ whole. Tells (first_refusal (judged_sites around whole)) refusal) (sym flow)
    (stops_second around (At (site_of c.args.locals.now c.args.statement.now)) (Either (in_order (parts c.in-If.met) here) (in_order (parts c.in-If.unmet) between)) refusal c.in_ok-step.ensures.ok.lawful (stops_first around (in_order (parts c.in-If.met) here) (in_order (parts c.in-If.unmet) between) refusal told)))

pub check_statement-returns-in_err-unmet-in-If-clause-err : goal.check_statement-returns-in_err-unmet-in-If-clause-err
check_statement-returns-in_err-unmet-in-If-clause-err t c =
    let refusal = c.in_err-unmet-in-If.field-0.0 in
    let around = c.args.around in
    let here = c.advance.new.self in
    let between = c.check_list.new.locals in
    let next = c.in_ok-met-in-If.ensures.point ∙ ap (λ list. after_list (parts list) here) c.as_slice.ensures in
    let flow = flow_if c.args.locals.now here c.in_ok-advance.ensures c.args.statement.now c.in-If.field-0 c.in-If.met c.in-If.unmet c.in-If.is between next in
    let met = passes_same around c.as_slice.result.now c.in-If.met here c.as_slice.ensures _ c.in_ok-met-in-If.ensures.ok in
    let told = tells_same around c.as_slice-in-If.result.now c.in-If.unmet between c.as_slice-in-If.ensures refusal c.in_err-unmet-in-If.ensures.err in
    passed_on _ c.from_residual-in_err-unmet-in-If.result refusal c.from_residual-in_err-unmet-in-If.ensures.1
    (subst (λ whole. Tells (first_refusal (judged_sites around whole)) refusal) (sym flow)
    (stops_second around (At (site_of c.args.locals.now c.args.statement.now)) (Either (in_order (parts c.in-If.met) here) (in_order (parts c.in-If.unmet) between)) refusal c.in_ok-step.ensures.ok.lawful (stops_second around (in_order (parts c.in-If.met) here) (in_order (parts c.in-If.unmet) between) refusal met.lawful told)))

pub check_statement-returns-in_err-body-in-While-clause-err : goal.check_statement-returns-in_err-body-in-While-clause-err
check_statement-returns-in_err-body-in-While-clause-err t c =
    let refusal = c.in_err-body-in-While.field-0.0 in
    let around = c.args.around in
    let here = c.advance.new.self in
    let flow = flow_while c.args.locals.now here c.in_ok-advance.ensures c.args.statement.now c.in-While.field-0 c.in-While.body c.in-While.is in
    let told = tells_same around c.as_slice-in-While.result.now c.in-While.body here c.as_slice-in-While.ensures refusal c.in_err-body-in-While.ensures.err in
    passed_on _ c.from_residual-in_err-body-in-While.result refusal c.from_residual-in_err-body-in-While.ensures.1
    (subst (λ whole. Tells (first_refusal (judged_sites around whole)) refusal) (sym flow) (stops_second around (At (site_of c.args.locals.now c.args.statement.now)) (in_order (parts c.in-While.body) here) refusal c.in_ok-step.ensures.ok.lawful told))

pub check_statement-returns-in_err-inside-in-Block-clause-err : goal.check_statement-returns-in_err-inside-in-Block-clause-err
check_statement-returns-in_err-inside-in-Block-clause-err t c =
    let refusal = c.in_err-inside-in-Block.field-0.0 in
    let around = c.args.around in
    let here = c.advance.new.self in
    let flow = flow_block c.args.locals.now here c.in_ok-advance.ensures c.args.statement.now c.in-Block.inside c.in-Block.is in
    let told = tells_same around c.as_slice-in-Block.result.now c.in-Block.inside here c.as_slice-in-Block.ensures refusal c.in_err-inside-in-Block.ensures.err in
    passed_on _ c.from_residual-in_err-inside-in-Block.result refusal c.from_residual-in_err-inside-in-Block.ensures.1
    (subst (λ whole. Tells (first_refusal (judged_sites around whole)) refusal) (sym flow) (stops_second around (At (site_of c.args.locals.now c.args.statement.now)) (in_order (parts c.in-Block.inside) here) refusal c.in_ok-step.ensures.ok.lawful told))

pub check_statement-returns-in_ok-unmet-in-If-clause-ok : goal.check_statement-returns-in_ok-unmet-in-If-clause-ok
check_statement-returns-in_ok-unmet-in-If-clause-ok t c =
    let around = c.args.around in
    let here = c.advance.new.self in
    let between = c.check_list.new.locals in
    let next = c.in_ok-met-in-If.ensures.point ∙ ap (λ list. after_list (parts list) here) c.as_slice.ensures in
    let met = passes_same around c.as_slice.result.now c.in-If.met here c.as_slice.ensures _ c.in_ok-met-in-If.ensures.ok in
    let unmet = passes_same around c.as_slice-in-If.result.now c.in-If.unmet between c.as_slice-in-If.ensures _ c.in_ok-unmet-in-If.ensures.ok in
    passes_as around _ _ _ _
    (flow_if c.args.locals.now here c.in_ok-advance.ensures c.args.statement.now c.in-If.field-0 c.in-If.met c.in-If.unmet c.in-If.is between next)
    (course_either c.in_ok-step.step c.in_ok-met-in-If.met c.in_ok-unmet-in-If.unmet)
    (passes_then around _ _ _ _ c.in_ok-step.ensures.ok (passes_either around _ _ _ _ met unmet))

pub check_statement-returns-in_ok-unmet-in-If-clause-point : goal.check_statement-returns-in_ok-unmet-in-If-clause-point
check_statement-returns-in_ok-unmet-in-If-clause-point t c =
    let here = c.advance.new.self in
    let between = c.check_list.new.locals in
    let next = c.in_ok-met-in-If.ensures.point ∙ ap (λ list. after_list (parts list) here) c.as_slice.ensures in
    c.in_ok-unmet-in-If.ensures.point ∙ ap (λ list. after_list (parts list) between) c.as_slice-in-If.ensures
    ∙ sym (after_if c.args.locals.now here c.in_ok-advance.ensures c.args.statement.now c.in-If.field-0 c.in-If.met c.in-If.unmet c.in-If.is between next)

pub check_statement-returns-in_ok-added-in-While-clause-ok : goal.check_statement-returns-in_ok-added-in-While-clause-ok
check_statement-returns-in_ok-added-in-While-clause-ok t c =
    let around = c.args.around in
    let here = c.advance.new.self in
    let body = passes_same around c.as_slice-in-While.result.now c.in-While.body here c.as_slice-in-While.ensures _ c.in_ok-body-in-While.ensures.ok in
    passes_as around _ _ _ _
    (flow_while c.args.locals.now here c.in_ok-advance.ensures c.args.statement.now c.in-While.field-0 c.in-While.body c.in-While.is)
    (course_loop c.in_ok-step.step c.in_ok-body-in-While.body c.in_ok-added-in-While.added)
    (passes_loop around _ _ _ (c.in_ok-added-in-While.ensures ∙ ap (λ list. (followed (step_course c.in_ok-step.step) (in_row (map path_course list))).ends none) c.as_slice-in-While-2.ensures) (passes_then around _ _ _ _ c.in_ok-step.ensures.ok body))

pub check_statement-returns-in_ok-added-in-While-clause-point : goal.check_statement-returns-in_ok-added-in-While-clause-point
check_statement-returns-in_ok-added-in-While-clause-point t c =
    let here = c.advance.new.self in
    c.in_ok-body-in-While.ensures.point ∙ ap (λ list. after_list (parts list) here) c.as_slice-in-While.ensures
    ∙ sym (after_while c.args.locals.now here c.in_ok-advance.ensures c.args.statement.now c.in-While.field-0 c.in-While.body c.in-While.is)

pub check_statement-returns-in_ok-inside-in-Block-clause-ok : goal.check_statement-returns-in_ok-inside-in-Block-clause-ok
check_statement-returns-in_ok-inside-in-Block-clause-ok t c =
    let around = c.args.around in
    let here = c.advance.new.self in
    let inner = passes_same around c.as_slice-in-Block.result.now c.in-Block.inside here c.as_slice-in-Block.ensures _ c.in_ok-inside-in-Block.ensures.ok in
    passes_as around _ _ _ _
    (flow_block c.args.locals.now here c.in_ok-advance.ensures c.args.statement.now c.in-Block.inside c.in-Block.is)
    (course_block c.in_ok-step.step c.in_ok-inside-in-Block.inside)
    (passes_then around _ _ _ _ c.in_ok-step.ensures.ok inner)

pub check_statement-returns-in_ok-inside-in-Block-clause-point : goal.check_statement-returns-in_ok-inside-in-Block-clause-point
check_statement-returns-in_ok-inside-in-Block-clause-point t c =
    let here = c.advance.new.self in
    c.in_ok-inside-in-Block.ensures.point ∙ ap (λ list. after_list (parts list) here) c.as_slice-in-Block.ensures
    ∙ sym (after_block c.args.locals.now here c.in_ok-advance.ensures c.args.statement.now c.in-Block.inside c.in-Block.is)
