-- A text spells one program at most.
use Rattle.std.proofs.Common.{◌≡◌, ℕ, List, sym, ap, ◌∙◌}
use Rattle.cilk_tree.specs.declared.ending.Ending.TheVariants.{Reached}
use Rattle.cilk_tree.specs.declared.tree.Program.{Program}
use Rattle.cilk_tree.specs.Lexeme.{tokens_of}
use Rattle.cilk_tree.specs.Spelling.{Spells}
use Rattle.cilk_tree.specs.Sugar.{source_tree}
use Rattle.cilk_parser.proofs.Begun.{same_source}
use Rattle.cilk_reader.proofs.Divisions.{divides_once}

-- it is divided in one way, and its tokens are those of one syntax
pub spelled_once : (text : List ℕ) (one other : Program) → Spells text one → Spells text other → one ≡ other
spelled_once text one other spelled again =
    let same = (divides_once 0 text spelled.0 again.0 Reached Reached spelled.1 again.1).0 in
    let p = spelled.2 in
    let q = again.2 in
    p.tree ∙ ap source_tree (same_source p.source q.source p.formed q.formed (sym p.same ∙ ap tokens_of same ∙ q.same)) ∙ sym q.tree
