use Rattle.std.proofs.Common.{◌+◌, ap, arith, refl, ◌∙◌, length, [], ◌∷◌, ◌++◌}
use Rattle.cilk_meaning.specs.Wants.{Spawn}
use Rattle.machine_code.specs.Machine.{start_frame, starts}
use Rattle.plain_machine.specs.Shown.{Shown}
use Rattle.span_tree.specs.Recording.{spawned}
use Rattle.serial_run.proofs.Spawning.{fits_params, names_proc, spawn_serves}
use Rattle.serial_run.proofs.run.Run.spawn.Goals as goal

pub overflow_add-depth : goal.overflow_add-depth
overflow_add-depth c =
    let frame = c.args.self.now.frame in
    let can = c.children_can_start.ensures c.args.code.now frame.frame c.requires.standing.1.fine c.args.target c.args.proc frame.arguments c.requires.wants in
    let deep = can.depth in
    omega (arith, deep, c.depth-depth.ensures)

pub start-requires-clause-proc : goal.start-requires-clause-proc
start-requires-clause-proc c =
    let frame = c.args.self.now.frame in
    names_proc c.args.code.now frame.frame c.args.target c.args.proc frame.arguments
    (c.children_can_start.ensures c.args.code.now frame.frame c.requires.standing.1.fine c.args.target c.args.proc frame.arguments c.requires.wants)

pub start-requires-clause-args : goal.start-requires-clause-args
start-requires-clause-args c =
    let frame = c.args.self.now.frame in
    ap length c.args-2.ensures
    ∙ fits_params c.args.code.now frame.frame c.args.target c.args.proc frame.arguments
    (c.children_can_start.ensures c.args.code.now frame.frame c.requires.standing.1.fine c.args.target c.args.proc frame.arguments c.requires.wants)

pub start-requires-clause-depth : goal.start-requires-clause-depth
start-requires-clause-depth c =
    let frame = c.args.self.now.frame in
    let can = c.children_can_start.ensures c.args.code.now frame.frame c.requires.standing.1.fine c.args.target c.args.proc frame.arguments c.requires.wants in
    let deep = can.depth in
    omega (arith, deep, c.depth-depth.ensures)

pub answer-requires-clause-stands : goal.answer-requires-clause-stands
answer-requires-clause-stands c = c.requires.standing.1.fine

pub returns : goal.returns
returns c =
    let frame = c.args.self.now.frame in
    let can = c.children_can_start.ensures c.args.code.now frame.frame c.requires.standing.1.fine c.args.target c.args.proc frame.arguments c.requires.wants in
    let depth = c.depth-depth.result + 1 in
    let request = Spawn c.args.target c.args.proc frame.arguments in
    let begins = c.in_ok-child.ensures in
    let answered = c.in_ok-answer.ensures {u = tt} in
    spawn_serves c.args.code.now c.args.self.now _ c.args.target c.args.proc frame.arguments depth c.answer.new.self c.in_ok-child.child c.has_run_stands.ensures can
    (ap (λ n. n + 1) c.depth-depth.ensures)
    (λ proc is. begins.starts proc is ∙ ap (λ given. record { frame = start_frame proc given depth; arguments = [] }) c.args-2.ensures)
    (begins.wants ∙ ap (starts c.args.code.now depth c.args.proc) c.args-2.ensures) begins.stands
    (record { wants_so = answered.wants request c.requires.wants; resumed = answered.resumed request c.requires.wants; fine = c.answer.ensures.stands })
    c.replace-frame.ensures.after
    ((c.in_ok-push.ensures {u = tt}).items ∙ ap (λ (f : Shown). c.args.self.now.parents.items ++ record { frame = f; target = c.args.target } ∷ []) c.replace-frame.ensures.value)
    (c.in_ok-spawn.ensures.ok ∙ ap (λ given. spawned c.args.proc given c.args.self.now.recording) (c.in_ok-args.ensures ∙ c.args-3.ensures)) refl refl
