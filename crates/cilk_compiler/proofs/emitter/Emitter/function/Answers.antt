use Rattle.std.proofs.Common.{◌∙◌, ap}
use Rattle.cilk_compiler.specs.declared.emitter.Emitter.{Emitter}
use Rattle.cilk_compiler.specs.Emitting.{behind_all, statements_in}
use Rattle.cilk_compiler.proofs.Whole.{proc_made}
use Rattle.cilk_compiler.proofs.emitter.Emitter.function.Goals as goal

pub returns-clause-proc : goal.returns-clause-proc
returns-clause-proc c =
    let begun = c.begin.new.self in
    proc_made c.args.self.now begun c.statements.new.self c.push-2.new.self c.args.function.now c.end-start.result c.next-params.result c.next.result
    c.end-start.ensures c.in_ok-begin.ensures c.next-params.ensures
    (c.in_ok-statements.ensures ∙ ap (λ list. behind_all (statements_in begun list) begun) c.as_slice.ensures)
    (ap (λ (e : Emitter). e.locals) c.in_ok-push-2.ensures ∙ ap (λ (e : Emitter). e.locals) c.in_ok-push.ensures ∙ ap (λ (e : Emitter). e.locals) c.in_ok-sync.ensures)
    (ap (λ (e : Emitter). e.operands) c.in_ok-push-2.ensures ∙ ap (λ (e : Emitter). e.operands) c.in_ok-push.ensures ∙ ap (λ (e : Emitter). e.operands) c.in_ok-sync.ensures)
    c.next.ensures
