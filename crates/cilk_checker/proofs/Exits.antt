-- The ends of the walk over statements.
use Rattle.std.specs.Prelude.{◌≡◌, List, map, Result, Err, IfErr}
use Rattle.std.proofs.Common.{sym, ap, subst, ◌∙◌}
use Rattle.std.specs.Result.{IsErrAnd}
use Rattle.std.proofs.lemmas.Result.{err_from_is_err_and}
use Rattle.cilk_tree.specs.Lawful.Flow.{Flow}
use Rattle.cilk_checker.specs.declared.around.Around.{Around}
use Rattle.cilk_checker.specs.declared.path.Path.{Path, map-Path, fold_out-Path}
use Rattle.cilk_checker.specs.declared.path.Path.TheVariants as path
use Rattle.cilk_checker.specs.declared.path.Path.TheVariants.{outs-Block, outs-Either, outs-Loop}
use Rattle.cilk_checker.specs.declared.path.Step.{Step}
use Rattle.cilk_checker.specs.declared.pending.Pending.{Pending}
use Rattle.cilk_checker.specs.declared.refusal.CheckRefusal.{CheckRefusal}
use Rattle.cilk_checker.specs.Sets.{set_of}
use Rattle.cilk_checker.specs.Courses.{Course, either, followed, in_row, loop, path_course, path_course_here, step_course, flow_course}
use Rattle.cilk_checker.specs.Judged.{first_refusal, judged_sites, Passes}

-- a refusal that is passed on
pub passed_to : {T : Type 0} (Goal : Result T CheckRefusal → Type 0) (result : Result T CheckRefusal) (refusal : CheckRefusal) → IsErrAnd result (λ other. other ≡ refusal) → Goal (Err refusal) → Goal result
passed_to Goal result refusal is told =
    let found = err_from_is_err_and result is in
    subst Goal (sym (found.1 ∙ ap Err found.2)) told

pub passed_on : {T : Type 0} (P : CheckRefusal → Type 0) (result : Result T CheckRefusal) (refusal : CheckRefusal) → IsErrAnd result (λ other. other ≡ refusal) → P refusal → IfErr result P
passed_on P result refusal is told = passed_to (λ r. IfErr r P) result refusal is told

-- what passes under one description passes under another
pub passes_as : (around : Around) (one other : Flow) (course same : Course) → one ≡ other → course ≡ same → Passes around other same → Passes around one course
passes_as around one other course same e f passes = record { lawful = ap (λ flow. first_refusal (judged_sites around flow)) e ∙ passes.lawful; followed = f ∙ passes.followed ∙ ap flow_course (sym e) }

pub course_block : (step : Step) (inside : List Path) → path_course (path.Block step inside) ≡ followed (step_course step) (in_row (map path_course inside))
course_block step inside = fold_out-Path Course path_course_here (path.Block step inside) ∙ ap (λ here. path_course_here (map-Path Path Course path_course here)) (outs-Block step inside)

pub course_either : (step : Step) (met unmet : List Path) → path_course (path.Either step met unmet) ≡ followed (step_course step) (either (in_row (map path_course met)) (in_row (map path_course unmet)))
course_either step met unmet = fold_out-Path Course path_course_here (path.Either step met unmet) ∙ ap (λ here. path_course_here (map-Path Path Course path_course here)) (outs-Either step met unmet)

pub course_loop : (step : Step) (body : List Path) (added : Pending) → path_course (path.Loop step body added) ≡ loop (set_of added) (followed (step_course step) (in_row (map path_course body)))
course_loop step body added = fold_out-Path Course path_course_here (path.Loop step body added) ∙ ap (λ here. path_course_here (map-Path Path Course path_course here)) (outs-Loop step body added)
