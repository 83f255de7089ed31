-- What a text spells is writable, and at most twice as large as the text.
use Rattle.std.proofs.Common.{◌≡◌, ℕ, ◌+◌, ◌*◌, ◌^◌, ◌≤◌, ℤ, IsTrue, List, [], ◌∷◌, length, refl, sym, ap, ◌∙◌, subst, arith}
use Rattle.std.specs.List.{list_all}
use Rattle.std.proofs.lemmas.Bool.{and_from, lt-ltb}
use Rattle.std.proofs.lemmas.List.{length-map}
use Rattle.cilk_tree.specs.declared.ending.Ending.{Ending}
use Rattle.cilk_tree.specs.declared.ending.Ending.TheVariants.{Reached}
use Rattle.cilk_tree.specs.declared.token.Placed.{Placed}
use Rattle.cilk_tree.specs.declared.token.Token.{Token}
use Rattle.cilk_tree.specs.declared.token.Token.TheVariants.{Name, Number, Word, Mark}
use Rattle.cilk_tree.specs.declared.tree.Program.{Program}
use Rattle.cilk_tree.specs.Lexeme.{IsLexeme, Divides, tokens_of}
use Rattle.cilk_tree.specs.Levels.{source_tokens}
use Rattle.cilk_tree.specs.Size.{program_size}
use Rattle.cilk_tree.specs.Spelling.{Spells}
use Rattle.cilk_tree.specs.Writable.{is_token, IsWritable}
use Rattle.cilk_reader.proofs.Bounds.SmallTexts.{divided_is_small}
use Rattle.cilk_reader.proofs.Bounds.SmallTrees.{written_is_small}
use Rattle.cilk_reader.proofs.Bounds.WritableTrees.{written_is_writable}

lexeme_is_token : (bytes : List ℕ) (token : Token) → IsLexeme bytes token → IsTrue (is_token token)
lexeme_is_token bytes (Name name) is = is.1
lexeme_is_token bytes (Number value) is = subst (λ (v : ℤ). IsTrue (is_token (Number v))) (sym is.1) (lt-ltb is.0 (2 ^ 63) is.2.1)
lexeme_is_token bytes (Word keyword) is = refl
lexeme_is_token bytes (Mark sign) is = refl

-- the tokens of a text have names and numbers of the language
pub divided_tokens : (offset : ℕ) (text : List ℕ) (places : List Placed) (ending : Ending) → Divides offset text places ending → IsTrue (list_all is_token (tokens_of places))
divided_tokens offset text [] ending divides = refl
divided_tokens offset text (placed ∷ more) ending divides =
    let start = divides.1 in
    and_from (is_token placed.token) (list_all is_token (tokens_of more)) (lexeme_is_token start.lexeme placed.token start.spelled)
    (divided_tokens (placed.offset + length start.lexeme) divides.0 more ending divides.3)

-- A program that a text spells can be written.
pub spelled_is_writable : (text : List ℕ) (program : Program) → Spells text program → IsWritable program
spelled_is_writable text program spells =
    let is = spells.2 in
    let tokens = subst (λ ts. IsTrue (list_all is_token ts)) is.same (divided_tokens 0 text spells.0 Reached spells.1) in
    subst IsWritable (sym is.tree) (written_is_writable is.source is.formed is.limits tokens)

-- And it has at most twice as many arrays, functions, statements and expressions as the text has bytes.
pub spelled_is_small : (text : List ℕ) (program : Program) → Spells text program → program_size program ≤ 2 * length text
spelled_is_small text program spells =
    let is = spells.2 in
    let count : length (source_tokens is.source) ≡ length spells.0 = ap length (sym is.same) ∙ simp length-map in
    subst (λ p. program_size p ≤ 2 * length text) (sym is.tree)
    (omega (arith, written_is_small is.source, count, divided_is_small 0 text spells.0 Reached spells.1))
