use Rattle.std.proofs.Common.{◌+◌, ◌∙◌, refl, arith}
use Rattle.cilk_compiler.proofs.Laying.{array_laid, words_left}
use Rattle.cilk_compiler.proofs.program.lay_out.Goals as goal

pub overflow_cast-words : goal.overflow_cast-words
overflow_cast-words c =
    let left = words_left c.args.arrays.now c.loop-array.array-index c.loop-array.base c.array-item.result c.loop-array-test.true c.array-item.is in
    let all = c.loop-array.invariant.words in
    omega (arith, left, all)

pub overflow_add-base : goal.overflow_add-base
overflow_add-base c =
    let left = words_left c.args.arrays.now c.loop-array.array-index c.loop-array.base c.array-item.result c.loop-array-test.true c.array-item.is in
    let all = c.loop-array.invariant.words in
    omega (arith, left, all)

pub loop-array-preserved : goal.loop-array-preserved
loop-array-preserved c =
    let loop = c.loop-array in
    let next = c.array-item.result in
    let left = words_left c.args.arrays.now loop.array-index loop.base next c.loop-array-test.true c.array-item.is in
    let all = loop.invariant.words in
    record {
      laid = array_laid loop.shared.items c.push.new.self.items c.args.arrays.now loop.array-index loop.base next.words (loop.base + next.words) next
          c.loop-array-test.true c.array-item.is refl refl c.in_ok-push.ensures.items
          ∙ loop.invariant.laid;
      words = omega (arith, left, all);
    }
