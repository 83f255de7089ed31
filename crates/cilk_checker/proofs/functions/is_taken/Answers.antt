use Rattle.std.proofs.Common.{◌||◌, is_some, sym, ap, ◌∙◌}
use Rattle.cilk_checker.specs.Meanings.{means_array}
use Rattle.cilk_checker.specs.Names.{value_at}
use Rattle.cilk_checker.proofs.Parameters.{array_has}
use Rattle.cilk_checker.proofs.functions.is_taken.Goals as goal

pub returns-then-is_array : goal.returns-then-is_array
returns-then-is_array c =
    let found = value_at c.args.earlier.now.values c.args.name.now in
    let has = c.is_array.ensures ∙ ap means_array c.meaning.ensures ∙ array_has c.args.globals.now.program.now c.args.name.now in
    c.if-is_array.true ∙ sym (ap (λ b. b || is_some found) (sym has ∙ c.if-is_array.true))

pub returns-else-is_array : goal.returns-else-is_array
returns-else-is_array c =
    let found = value_at c.args.earlier.now.values c.args.name.now in
    let has = c.is_array.ensures ∙ ap means_array c.meaning.ensures ∙ array_has c.args.globals.now.program.now c.args.name.now in
    c.is_some.ensures ∙ ap is_some (c.get.ensures ∙ ap (value_at c.args.earlier.now.values) c.items.ensures)
    ∙ sym (ap (λ b. b || is_some found) (sym has ∙ c.if-is_array.false))
