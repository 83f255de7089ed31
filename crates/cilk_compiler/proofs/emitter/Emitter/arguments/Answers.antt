use Rattle.std.proofs.Common.{◌≡◌, ◌+◌, max, drop, ◌∙◌, ap, arith, rules}
use Rattle.cilk_checker.proofs.Turns.{next_dropped}
use Rattle.cilk_compiler.specs.Emitting.{exprs_in}
use Rattle.cilk_compiler.proofs.Steps.{argument_added, operands_added}
use Rattle.cilk_compiler.proofs.emitter.Emitter.arguments.Goals as goal

pub loop-argument-preserved : goal.loop-argument-preserved
loop-argument-preserved c =
    let old = c.args.self.now in
    let loop = c.loop-argument in
    let all = c.args.arguments.now in
    let next = c.argument-item.result in
    let left = drop loop.argument-index all in
    let rest = drop (loop.argument-index + 1) all in
    let split = next_dropped all loop.argument-index next c.loop-argument-test.true c.argument-item.is in
    let sum : c.in_ok-ok_or.field-0 ≡ loop.before + c.in_ok-above.above = search rules in
    let most : c.max-operands.result ≡ max loop.operands c.in_ok-ok_or.field-0 = search rules in
    let more : c.in_ok-before.before ≡ loop.before + 1 = search rules in
    record {
      code = argument_added old loop.self c.expression.new.self next left rest (exprs_in old all) split loop.invariant.code c.in_ok-above.ensures.code;
      operands = operands_added old loop.self c.expression.new.self next left rest (exprs_in old all) split loop.invariant.code
          loop.operands loop.before c.in_ok-above.above c.max-operands.result c.in_ok-before.before _
          c.in_ok-above.ensures.operands (most ∙ ap (max loop.operands) sum) (omega (arith, more)) loop.invariant.operands;
    }
