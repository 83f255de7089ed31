-- How the parts of a program begin.
use Rattle.std.specs.Prelude.{List, [], ◌∷◌}
use Rattle.cilk_tree.specs.declared.token.Keyword.TheVariants as word
use Rattle.cilk_tree.specs.declared.token.Placed.{Placed}
use Rattle.cilk_tree.specs.declared.token.Sign.TheVariants as sign
use Rattle.cilk_tree.specs.declared.token.Token.{Token}
use Rattle.cilk_tree.specs.declared.token.Token.TheVariants.{Name, Number, Word, Mark}
use Rattle.cilk_tree.specs.declared.tree.BinaryOp.TheVariants as op
use Rattle.cilk_tree.specs.declared.tree.UnaryOp.TheVariants as unary
use Rattle.cilk_parser.specs.declared.starts.ItemStart.{ItemStart}
use Rattle.cilk_parser.specs.declared.starts.ItemStart.TheVariants as item
use Rattle.cilk_parser.specs.declared.starts.OperandStart.{OperandStart}
use Rattle.cilk_parser.specs.declared.starts.OperandStart.TheVariants as operand
use Rattle.cilk_parser.specs.declared.starts.SimpleStart.{SimpleStart}
use Rattle.cilk_parser.specs.declared.starts.SimpleStart.TheVariants as simple
use Rattle.cilk_parser.specs.declared.starts.StatementStart.{StatementStart}
use Rattle.cilk_parser.specs.declared.starts.StatementStart.TheVariants as statement

abbrev pub operand_start : Token → OperandStart
operand_start (Number value) = operand.Number value
operand_start (Name name) = operand.Name
operand_start (Mark sign.OpenParen) = operand.Group
operand_start (Mark sign.Minus) = operand.Prefix unary.Neg
operand_start (Mark sign.Bang) = operand.Prefix unary.Not
operand_start _ = operand.Other

abbrev pub statement_start : Token → StatementStart
statement_start (Name name) = statement.Name
statement_start (Mark sign.Semicolon) = statement.Empty
statement_start (Word word.Spawn) = statement.Spawn
statement_start (Word word.FetchAdd) = statement.Add
statement_start (Word word.Sync) = statement.Sync
statement_start (Word word.If) = statement.If
statement_start (Word word.While) = statement.While
statement_start (Word word.For) = statement.For
statement_start (Word word.Print) = statement.Print
statement_start (Word word.Return) = statement.Return
statement_start _ = statement.Other

abbrev pub simple_start : Token → SimpleStart
simple_start (Mark sign.Assign) = simple.Assign
simple_start (Mark sign.PlusAssign) = simple.Change op.Add
simple_start (Mark sign.MinusAssign) = simple.Change op.Sub
simple_start (Mark sign.PlusPlus) = simple.Step op.Add
simple_start (Mark sign.MinusMinus) = simple.Step op.Sub
simple_start (Mark sign.OpenBracket) = simple.Index
simple_start _ = simple.Other

abbrev pub item_start : Token → ItemStart
item_start (Word word.Cilk) = item.Cilk
item_start (Word word.Void) = item.Void
item_start (Word word.Int) = item.Int
item_start _ = item.Other

-- the same of what stands first
abbrev pub starts_operand : List Placed → OperandStart
starts_operand [] = operand.Other
starts_operand (placed ∷ places) = operand_start placed.token

abbrev pub starts_statement : List Placed → StatementStart
starts_statement [] = statement.Other
starts_statement (placed ∷ places) = statement_start placed.token

abbrev pub starts_simple : List Placed → SimpleStart
starts_simple [] = simple.Other
starts_simple (placed ∷ places) = simple_start placed.token

abbrev pub starts_item : List Placed → ItemStart
starts_item [] = item.Other
starts_item (placed ∷ places) = item_start placed.token
