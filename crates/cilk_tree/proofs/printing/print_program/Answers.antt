use Rattle.std.proofs.Common.{◌≡◌, sym, subst, rules, arith}
use Rattle.std.proofs.lemmas.Grind.{common_steps}
use Rattle.cilk_tree.specs.Canonical.{canonical_text}
use Rattle.cilk_tree.specs.Spelling.{Spells}
use Rattle.cilk_tree.proofs.PrintedPrograms.{canonical_spells}
use Rattle.cilk_tree.proofs.printing.print_program.Goals as goal

pub returns-clause-spells : goal.returns-clause-spells
returns-clause-spells c = λ writable.
    let same : c.push_functions.new.text.items ≡ canonical_text c.args.program.now = first_of (search rules, grind (arith, common_steps)) in
    subst (λ text. Spells text c.args.program.now) (sym same) (canonical_spells c.args.program.now writable)
