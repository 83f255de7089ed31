-- The tokens of a concrete syntax, each with its level and with what it counts as.
use Rattle.std.specs.Prelude.{ℕ, ◌+◌, pos, Bool, true, false, Option, Some, None, List, [], ◌∷◌, ◌++◌, map}
use Rattle.cilk_tree.specs.declared.token.Keyword.{Keyword}
use Rattle.cilk_tree.specs.declared.token.Keyword.TheVariants as word
use Rattle.cilk_tree.specs.declared.tree.BinaryOp.{BinaryOp}
use Rattle.cilk_tree.specs.declared.tree.BinaryOp.TheVariants as op
use Rattle.cilk_tree.specs.declared.tree.UnaryOp.{UnaryOp}
use Rattle.cilk_tree.specs.declared.tree.UnaryOp.TheVariants as unary
use Rattle.cilk_tree.specs.declared.count.Counted.TheVariants.{Operators, Parameters, Arguments, Variables, Arrays, Functions}
use Rattle.cilk_tree.specs.declared.count.Count.{Count}
use Rattle.cilk_tree.specs.declared.count.Count.TheVariants.{Anew, OneMore}
use Rattle.cilk_tree.specs.Syntax as syntax
use Rattle.cilk_tree.specs.Syntax.{Commas, One, More, Row, Empty, Then, Expression, Numeral, Variable, Element, Group, Prefix, Infix, Call, Addition, Right, Value, Result, Fetched, Declarator, Bare, Valued, Direction, Up, Down, Simple, Assignment, Change, Step, Storing, Start, NoStart, SimpleStart, DeclaringStart, Statement, Nothing, Simply, Calling, Adding, Syncing, IfAlone, IfElse, WhileLoop, ForLoop, Printing, Returning, Inner, Declaration, Block, Stated, Inners, NoInners, ThenInner, Body, Braced, Single, NoParameters, VoidParameters, Named, Array, Function, Item, Defined, Source}
use Rattle.cilk_tree.specs.declared.token.Sign.{Sign}
use Rattle.cilk_tree.specs.declared.token.Sign.TheVariants.{Plus, Minus, Star, Slash, Percent, Assign, Equal, NotEqual, Less, LessEqual, Greater, GreaterEqual, AndAnd, OrOr, Bang, PlusPlus, MinusMinus, PlusAssign, MinusAssign, OpenParen, CloseParen, OpenBracket, CloseBracket, OpenBrace, CloseBrace, Comma, Semicolon}
use Rattle.cilk_tree.specs.declared.token.Token.{Token}
use Rattle.cilk_tree.specs.declared.token.Token.TheVariants.{Name, Number, Word, Mark}

-- a token of a source, its level, and what it means for the counts
pub record Spelled : Type 0 where
  pub level : ℕ
  pub counts : List Count
  pub token : Token

abbrev pub counting : ℕ → List Count → Token → Spelled
counting level counts token = record { level = level; counts = counts; token = token }

-- a token that counts as nothing
abbrev pub plain : ℕ → Token → Spelled
plain level token = counting level [] token

abbrev pub mark : ℕ → Sign → Spelled
mark level sign = plain level (Mark sign)

abbrev pub word_at : ℕ → Keyword → Spelled
word_at level keyword = plain level (Word keyword)

-- ---- the signs of operators

abbrev pub operator_sign : BinaryOp → Sign
operator_sign op.Or = OrOr
operator_sign op.And = AndAnd
operator_sign op.Eq = Equal
operator_sign op.Ne = NotEqual
operator_sign op.Lt = Less
operator_sign op.Le = LessEqual
operator_sign op.Gt = Greater
operator_sign op.Ge = GreaterEqual
operator_sign op.Add = Plus
operator_sign op.Sub = Minus
operator_sign op.Mul = Star
operator_sign op.Div = Slash
operator_sign op.Rem = Percent

abbrev pub unary_sign : UnaryOp → Sign
unary_sign unary.Neg = Minus
unary_sign unary.Not = Bang

abbrev pub change_sign : Direction → Sign
change_sign Up = PlusAssign
change_sign Down = MinusAssign

abbrev pub step_sign : Direction → Sign
step_sign Up = PlusPlus
step_sign Down = MinusMinus

-- ---- expressions

-- What stands inside parentheses or index brackets, and the operand of a unary operator, is one level deeper. Each operator
-- counts, those of an index with those of the expression that holds it. `first` is what the first token counts as besides.
abbrev pub spell_expression : ℕ → List Count → Expression → List Spelled
spell_expression level first (Numeral value) = counting level first (Number value) ∷ []
spell_expression level first (Variable name) = counting level first (Name name) ∷ []
spell_expression level first (Element name index) =
    counting level first (Name name) ∷ mark level OpenBracket ∷ spell_expression (level + 1) [] index ++ mark level CloseBracket ∷ []
spell_expression level first (Group inner) =
    counting level first (Mark OpenParen) ∷ spell_expression (level + 1) [] inner ++ mark level CloseParen ∷ []
spell_expression level first (Prefix operator operand) =
    counting level (first ++ OneMore Operators ∷ []) (Mark (unary_sign operator)) ∷ spell_expression (level + 1) [] operand
spell_expression level first (Infix left operator right) =
    spell_expression level first left ++ counting level (OneMore Operators ∷ []) (Mark (operator_sign operator)) ∷ spell_expression level [] right

-- an expression that is part of no other
abbrev pub spell_whole : ℕ → Expression → List Spelled
spell_whole level expression = spell_expression level (Anew Operators ∷ []) expression

-- an argument, which is a whole expression
abbrev pub spell_argument : ℕ → Expression → List Spelled
spell_argument level expression = spell_expression level (OneMore Arguments ∷ Anew Operators ∷ []) expression

-- ---- parts of statements

abbrev pub spell_commas : {T : Type 0} → ℕ → (T → List Spelled) → Commas T → List Spelled
spell_commas level spell (One only) = spell only
spell_commas level spell (More before last) = spell_commas level spell before ++ mark level Comma ∷ spell last

abbrev pub spell_any : {T : Type 0} → (T → List Spelled) → Option T → List Spelled
spell_any spell None = []
spell_any spell (Some value) = spell value

abbrev pub spawn_word : ℕ → Bool → List Spelled
spawn_word level true = word_at level word.Spawn ∷ []
spawn_word level false = []

abbrev pub spell_call : ℕ → Call → List Spelled
spell_call level call =
    spawn_word level call.spawned ++ plain level (Name call.name) ∷ counting level (Anew Arguments ∷ []) (Mark OpenParen)
    ∷ spell_any (spell_commas level (spell_argument level)) call.arguments ++ mark level CloseParen ∷ []

-- The index is in brackets and so one level deeper; the parentheses do not count. Index and addend are whole expressions.
abbrev pub spell_addition : ℕ → Addition → List Spelled
spell_addition level addition =
    word_at level word.FetchAdd ∷ mark level OpenParen ∷ plain level (Name addition.name) ∷ mark level OpenBracket
    ∷ spell_whole (level + 1) addition.index ++ mark level CloseBracket ∷ mark level Comma
    ∷ spell_whole level addition.addend ++ mark level CloseParen ∷ []

abbrev pub spell_right : ℕ → Right → List Spelled
spell_right level (Value value) = spell_whole level value
spell_right level (Result call) = spell_call level call
spell_right level (Fetched addition) = spell_addition level addition

abbrev pub spell_declarator : ℕ → Declarator → List Spelled
spell_declarator level (Bare name) = counting level (OneMore Variables ∷ []) (Name name) ∷ []
spell_declarator level (Valued name value) = counting level (OneMore Variables ∷ []) (Name name) ∷ mark level Assign ∷ spell_right level value

abbrev pub spell_declaration : ℕ → Commas Declarator → List Spelled
spell_declaration level declarators = word_at level word.Int ∷ spell_commas level (spell_declarator level) declarators

-- The value behind `+=` or `-=` begins one level deeper, and this sign is the first operator of it.
abbrev pub spell_simple : ℕ → Simple → List Spelled
spell_simple level (Assignment name value) = plain level (Name name) ∷ mark level Assign ∷ spell_right level value
spell_simple level (Change name direction value) =
    plain level (Name name) ∷ counting level (Anew Operators ∷ OneMore Operators ∷ []) (Mark (change_sign direction)) ∷ spell_expression (level + 1) [] value
spell_simple level (Step name direction) = plain level (Name name) ∷ mark level (step_sign direction) ∷ []
spell_simple level (Storing name index value) =
    plain level (Name name) ∷ mark level OpenBracket ∷ spell_whole (level + 1) index ++ mark level CloseBracket ∷ mark level Assign ∷ spell_whole level value

abbrev pub spell_start : ℕ → Start → List Spelled
spell_start level NoStart = []
spell_start level (SimpleStart simple) = spell_simple level simple
spell_start level (DeclaringStart declarators) = spell_declaration level declarators

-- ---- statements

-- A condition in its parentheses, which do not count.
abbrev pub spell_condition : ℕ → Expression → List Spelled
spell_condition level condition = mark level OpenParen ∷ spell_whole level condition ++ mark level CloseParen ∷ []

-- The statements of a block and of a body are one level deeper than the statement that holds them. In a `for` the first part,
-- the condition and the two `;` are one level deeper, the last part and the body two. The braces round a body have the level
-- of the statement that holds it, which a body is given before its own.
abbrev mutual
  pub spell_statement : ℕ → Statement → List Spelled
  spell_statement level Nothing = mark level Semicolon ∷ []
  spell_statement level (Simply simple) = spell_simple level simple ++ mark level Semicolon ∷ []
  spell_statement level (Calling call) = spell_call level call ++ mark level Semicolon ∷ []
  spell_statement level (Adding addition) = spell_addition level addition ++ mark level Semicolon ∷ []
  spell_statement level Syncing = word_at level word.Sync ∷ mark level Semicolon ∷ []
  spell_statement level (IfAlone condition taken) =
      word_at level word.If ∷ spell_condition level condition ++ spell_body level (level + 1) taken
  spell_statement level (IfElse condition taken otherwise) =
      word_at level word.If ∷ spell_condition level condition ++ spell_body level (level + 1) taken
      ++ word_at level word.Else ∷ spell_body level (level + 1) otherwise
  spell_statement level (WhileLoop condition body) =
      word_at level word.While ∷ spell_condition level condition ++ spell_body level (level + 1) body
  spell_statement level (ForLoop start condition last body) =
      word_at level word.For ∷ mark level OpenParen ∷ spell_start (level + 1) start ++ mark (level + 1) Semicolon
      ∷ spell_any (spell_whole (level + 1)) condition ++ mark (level + 1) Semicolon
      ∷ spell_any (spell_simple (level + 2)) last ++ mark level CloseParen ∷ spell_body level (level + 2) body
  spell_statement level (Printing value) = word_at level word.Print ∷ spell_condition level value ++ mark level Semicolon ∷ []
  spell_statement level (Returning value) = word_at level word.Return ∷ spell_any (spell_whole level) value ++ mark level Semicolon ∷ []

  pub spell_inner : ℕ → Inner → List Spelled
  spell_inner level (Declaration declarators) = spell_declaration level declarators ++ mark level Semicolon ∷ []
  spell_inner level (Block inside) = mark level OpenBrace ∷ spell_inners (level + 1) inside ++ mark level CloseBrace ∷ []
  spell_inner level (Stated statement) = spell_statement level statement

  pub spell_inners : ℕ → Inners → List Spelled
  spell_inners level NoInners = []
  spell_inners level (ThenInner before last) = spell_inners level before ++ spell_inner level last

  pub spell_body : ℕ → ℕ → Body → List Spelled
  spell_body outer level (Braced inside) = mark outer OpenBrace ∷ spell_inners level inside ++ mark outer CloseBrace ∷ []
  spell_body outer level (Single statement) = spell_statement level statement

-- ---- items

abbrev pub spell_parameter : List ℕ → List Spelled
spell_parameter name = counting 0 (OneMore Parameters ∷ []) (Word word.Int) ∷ counting 0 (OneMore Variables ∷ []) (Name name) ∷ []

abbrev pub spell_parameters : syntax.Parameters → List Spelled
spell_parameters NoParameters = []
spell_parameters VoidParameters = word_at 0 word.Void ∷ []
spell_parameters (Named names) = spell_commas 0 spell_parameter names

abbrev pub result_word : Bool → Keyword
result_word true = word.Int
result_word false = word.Void

-- the words before a function's name, of which the first begins the function
abbrev pub spell_head : List Count → Bool → Bool → List Spelled
spell_head first true gives = counting 0 first (Word word.Cilk) ∷ word_at 0 (result_word gives) ∷ []
spell_head first false gives = counting 0 first (Word (result_word gives)) ∷ []

-- The statements of a function's body have level 1.
abbrev pub spell_function : Function → List Spelled
spell_function function =
    spell_head (OneMore Functions ∷ Anew Parameters ∷ Anew Variables ∷ []) function.«cilk» function.gives
    ++ plain 0 (Name function.name) ∷ mark 0 OpenParen ∷ spell_parameters function.parameters ++ mark 0 CloseParen
    ∷ mark 0 OpenBrace ∷ spell_inners 1 function.body ++ mark 0 CloseBrace ∷ []

abbrev pub spell_array : Array → List Spelled
spell_array array =
    counting 0 (OneMore Arrays ∷ []) (Name array.name) ∷ mark 0 OpenBracket ∷ plain 0 (Number (pos array.words)) ∷ mark 0 CloseBracket ∷ []

abbrev pub spell_item : Item → List Spelled
spell_item (syntax.Arrays arrays) = word_at 0 word.Int ∷ spell_commas 0 spell_array arrays ++ mark 0 Semicolon ∷ []
spell_item (Defined function) = spell_function function

abbrev pub spell_source : Source → List Spelled
spell_source Empty = []
spell_source (Then before last) = spell_source before ++ spell_item last

-- the tokens alone
abbrev pub source_tokens : Source → List Token
source_tokens source = map (λ spelled. spelled.token) (spell_source source)
