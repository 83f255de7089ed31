use Rattle.std.proofs.Common.{◌∙◌, ap}
use Rattle.std.proofs.lemmas.Result.{on_ok_weaker}
use Rattle.cilk_compiler.specs.Emitting.{at_point, behind_list, statements_in}
use Rattle.cilk_compiler.proofs.Forms.{chooses, repeats}
use Rattle.cilk_compiler.proofs.Lists.{list_left}
use Rattle.cilk_compiler.proofs.Steps.{choice_made, loop_made}
use Rattle.cilk_compiler.proofs.emitter.Emitter.+statement.Goals as goal

pub list-returns : goal.list-returns
list-returns t c = list_left c.args.self.now c.statements.new.self c.args.list.now c.depth-depth.result c.leave.new.self c.in_ok-statements.ensures c.depth-depth.ensures c.leave.ensures

pub statement-returns-in_ok-list-in-If-2 : goal.statement-returns-in_ok-list-in-If-2
statement-returns-in_ok-list-in-If-2 t c =
    let old = c.args.self.now in
    let point = c.advance.new.self in
    let after = c.fork.new.self in
    let parting = c.part.new.self in
    chooses old c.meet.new.self point c.in_ok-advance.ensures c.args.statement.now c.in-If.condition c.in-If.met c.in-If.unmet c.in-If.is
    (c.meet.ensures
    ∙ choice_made (at_point point old) c.in-If.condition c.in-If.met c.in-If.unmet after c.list.new.self parting c.list-in-If.new.self c.in_ok-fork-in-If.fork c.in_ok-met_end-in-If.met_end
    c.in_ok-fork-in-If.ensures.place c.in_ok-fork-in-If.ensures.code
    (c.in_ok-list-in-If.ensures ∙ ap (λ list. behind_list (statements_in after list) after) c.as_slice.ensures)
    c.in_ok-met_end-in-If.ensures.place c.in_ok-met_end-in-If.ensures.code
    (c.in_ok-list-in-If-2.ensures ∙ ap (λ list. behind_list (statements_in parting list) parting) c.as_slice-in-If.ensures))

pub statement-returns-in_ok-list-in-While : goal.statement-returns-in_ok-list-in-While
statement-returns-in_ok-list-in-While t c =
    let old = c.args.self.now in
    let point = c.advance.new.self in
    let after = c.fork-in-While.new.self in
    on_ok_weaker c.turn_back.result
    (λ made. repeats old c.turn_back.new.self point c.in_ok-advance.ensures c.args.statement.now c.in-While.condition c.in-While.body c.in-While.is
    (made
    ∙ loop_made (at_point point old) c.in-While.condition c.in-While.body c.push.new.self after c.list-in-While.new.self c.end-start.result c.in_ok-fork-in-While.fork
    c.end-start.ensures c.in_ok-push-in-While.ensures c.in_ok-fork-in-While.ensures.place c.in_ok-fork-in-While.ensures.code
    (c.in_ok-list-in-While.ensures ∙ ap (λ list. behind_list (statements_in after list) after) c.as_slice-in-While.ensures)))
    c.turn_back.ensures
