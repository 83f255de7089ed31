use Rattle.std.proofs.Common.{◌<◌, ◌≡◌, length, ap, arith}
use Rattle.std.proofs.lemmas.Int.{ints}
use Rattle.machine_code.specs.Valid.{extents}
use Rattle.plain_machine.proofs.Words.{ends_within, extents_length}
use Rattle.plain_machine.proofs.word.word_at.Goals as goal

pub overflow_add-result : goal.overflow_add-result
overflow_add-result c =
    let same : length (extents c.code.inside.shared.items) ≡ length c.args.code.now.shared = ap (λ code. length code.shared) c.code.view_is in
    let long : length (extents c.code.inside.shared.items) ≡ length c.code.inside.shared.items = extents_length c.code.inside.shared.items in
    let inside : c.args.array < length c.code.inside.shared.items = omega (arith, same, long) in
    let h = ends_within 0 c.code.inside.shared.items c.args.array c.index-extent.result.now c.code.invariant.arrays inside c.index-extent.ensures in
    let few = c.code.invariant.few_words in
    omega (arith, ints, h, few)
