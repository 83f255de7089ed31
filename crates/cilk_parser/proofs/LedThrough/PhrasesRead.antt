-- The machine reads each part of a statement.
use Rattle.std.proofs.Common.{◌≡◌, ℕ, ℤ, ◌+◌, Bool, true, false, IsTrue, Option, Some, None, option_map, List, [], ◌∷◌, ◌++◌, refl, ap, sym, ◌∙◌, arith}
use Rattle.std.proofs.lemmas.Bool.{and_parts}
use Rattle.cilk_tree.specs.declared.token.Keyword.TheVariants as word
use Rattle.cilk_tree.specs.declared.token.Sign.TheVariants as sign
use Rattle.cilk_tree.specs.declared.token.Token.{Token}
use Rattle.cilk_tree.specs.declared.token.Token.TheVariants.{Name, Number, Word, Mark}
use Rattle.cilk_tree.specs.declared.tree.BinaryOp.{BinaryOp}
use Rattle.cilk_tree.specs.declared.tree.BinaryOp.TheVariants as op
use Rattle.cilk_tree.specs.declared.tree.UnaryOp.TheVariants as unary
use Rattle.cilk_tree.specs.declared.count.Count.{Count}
use Rattle.cilk_tree.specs.declared.count.Count.TheVariants.{Anew, OneMore}
use Rattle.cilk_tree.specs.declared.count.Counted.TheVariants.{Operators}
use Rattle.cilk_tree.specs.Levels.{Spelled, counting, mark, operator_sign, spell_expression, spell_whole, spell_argument, spell_commas, spell_any, spell_call, spell_addition, spell_right, spell_declarator, spell_simple}
use Rattle.cilk_tree.specs.Syntax.{Commas, One, More, Expression, Numeral, Variable, Element, Group, Prefix, Infix, Call, Addition, Right, Value, Result, Fetched, Declarator, Bare, Valued, Up, Down, Simple, Assignment, Change, Step, Storing, is_grouped, each_of, is_call, is_addition, if_any, is_right, is_declarator, is_simple}
use Rattle.cilk_parser.specs.Contexts.{with_last, SimpleIn, DeclareIn, AsDeclaration, AsForDeclaration, RightIn, Assigned, Declared, right_level, CallIn, ResultOf, ExpressionIn, ValueOf, ArgumentOf, AddedAt, AddendOf, ChangedBy, StoredAt, StoredIn, least_strength}
use Rattle.cilk_parser.specs.Run.{reads, walk}
use Rattle.cilk_parser.specs.Steps.{State, AfterDeclarator, HasDeclarators, AtRight, AfterRightName, AtArguments, AfterName, Wants, Has, Awaits, AwaitsName, AddOpen, AddIndexOpen, AddComma, AddedName, SimpleEnd, StoreAssign, SpawnedName, DeclaratorName, Next, after_right, after_call, after_addition, call_of, behind, token_operator, step, step_argument, step_end, step_has, step_right, step_right_name}
use Rattle.cilk_parser.proofs.LedThrough.Ahead.{ahead, ahead_append}
use Rattle.cilk_parser.proofs.LedThrough.ExpressionsRead.{end_read, expression_read}
use Rattle.cilk_parser.proofs.LedThrough.Operands.{is_index}
use Rattle.cilk_parser.proofs.Walks.{on_reads, reads_step, reads_same, reads_after_walk}

-- ---- what may follow a part

-- the sign ends a part of a statement
abbrev pub is_end : Token → Bool
is_end (Mark sign.CloseParen) = true
is_end (Mark sign.CloseBracket) = true
is_end (Mark sign.Comma) = true
is_end (Mark sign.Semicolon) = true
is_end _ = false

-- arguments begin there
abbrev pub opens : Token → Bool
opens (Mark sign.OpenParen) = true
opens _ = false

record EndsPart (token : Token) : Type 0 where
  other : is_index token ≡ false
  ends : token_operator token ≡ None
  closed : opens token ≡ false

ends_part : (token : Token) → IsTrue (is_end token) → EndsPart token
ends_part (Mark sign.CloseParen) e = record { other = refl; ends = refl; closed = refl }
ends_part (Mark sign.CloseBracket) e = record { other = refl; ends = refl; closed = refl }
ends_part (Mark sign.Comma) e = record { other = refl; ends = refl; closed = refl }
ends_part (Mark sign.Semicolon) e = record { other = refl; ends = refl; closed = refl }
ends_part token e = absurd (cc)

-- ---- where an expression begins

-- The state does the same at the beginning of an expression as where one is wanted.
pub record StartsAs (state : State) (around : ExpressionIn) : Type 0 where
  pub number : (value : ℤ) → step state (Number value) ≡ step (Wants around) (Number value)
  pub name : (name : List ℕ) (token : Token) (rest : List Token) → opens token ≡ false → reads state (Name name ∷ token ∷ rest) ≡ reads (Wants around) (Name name ∷ token ∷ rest)
  pub group : step state (Mark sign.OpenParen) ≡ step (Wants around) (Mark sign.OpenParen)
  pub minus : step state (Mark sign.Minus) ≡ step (Wants around) (Mark sign.Minus)
  pub bang : step state (Mark sign.Bang) ≡ step (Wants around) (Mark sign.Bang)

closed_operator : (operator : BinaryOp) → opens (Mark (operator_sign operator)) ≡ false
closed_operator op.Or = refl
closed_operator op.And = refl
closed_operator op.Eq = refl
closed_operator op.Ne = refl
closed_operator op.Lt = refl
closed_operator op.Le = refl
closed_operator op.Gt = refl
closed_operator op.Ge = refl
closed_operator op.Add = refl
closed_operator op.Sub = refl
closed_operator op.Mul = refl
closed_operator op.Div = refl
closed_operator op.Rem = refl

start_read : (state : State) (around : ExpressionIn) → StartsAs state around → (e : Expression) (level : ℕ) (first : List Count) (token : Token) (rest : List Token) → opens token ≡ false →
    reads state (ahead (spell_expression level first e) (token ∷ rest)) ≡ reads (Wants around) (ahead (spell_expression level first e) (token ∷ rest))
start_read state around h (Numeral value) level first token rest closed = reads_same state (Wants around) (Number value) (token ∷ rest) (h.number value)
start_read state around h (Variable name) level first token rest closed = h.name name token rest closed
start_read state around h (Element name index) level first token rest closed = h.name name (Mark sign.OpenBracket) _ refl
start_read state around h (Group inner) level first token rest closed = reads_same state (Wants around) (Mark sign.OpenParen) _ h.group
start_read state around h (Prefix unary.Neg operand) level first token rest closed = reads_same state (Wants around) (Mark sign.Minus) _ h.minus
start_read state around h (Prefix unary.Not operand) level first token rest closed = reads_same state (Wants around) (Mark sign.Bang) _ h.bang
start_read state around h (Infix left operator right) level first token rest closed =
    let apart = ahead_append (spell_expression level first left) (counting level (OneMore Operators ∷ []) (Mark (operator_sign operator)) ∷ spell_expression level [] right) (token ∷ rest) in
    ap (reads state) apart ∙ start_read state around h left level first (Mark (operator_sign operator)) (ahead (spell_expression level [] right) (token ∷ rest)) (closed_operator operator) ∙
    sym (ap (reads (Wants around)) apart)

-- ---- whole expressions

-- An expression that is part of no other leads to where its end leads.
pub value_read : (around : ExpressionIn) → least_strength around ≡ 0 → (e : Expression) (level : ℕ) (first : List Count) (token : Token) (rest : List Token) →
    IsTrue (is_grouped e) → IsTrue (is_end token) → reads (Wants around) (ahead (spell_expression level first e) (token ∷ rest)) ≡ on_reads rest (step_end around e token)
value_read around least e level first token rest grouped end =
    let ends = ends_part token end in
    expression_read e level first around (token ∷ rest) grouped (omega arith) (ends.other, rw ends.ends tt) ∙ end_read around e token rest ends.other ends.ends

-- where the state does the same as where one is wanted
pub whole_read : (state : State) (around : ExpressionIn) → StartsAs state around → least_strength around ≡ 0 → (e : Expression) (level : ℕ) (first : List Count) (token : Token) (rest : List Token) →
    IsTrue (is_grouped e) → IsTrue (is_end token) → reads state (ahead (spell_expression level first e) (token ∷ rest)) ≡ on_reads rest (step_end around e token)
whole_read state around h least e level first token rest grouped end =
    start_read state around h e level first token rest (ends_part token end).closed ∙ value_read around least e level first token rest grouped end

-- ---- calls

arguments_start : (outer : CallIn) (spawned : Bool) (name : List ℕ) → StartsAs (AtArguments outer spawned name) (ArgumentOf outer spawned name None)
unfolding step
arguments_start outer spawned name = record { number = λ value. refl; name = λ n token rest closed. reads_same _ _ (Name n) (token ∷ rest) refl; group = refl; minus = refl; bang = refl }

arguments_read : (arguments : Commas Expression) (level : ℕ) (outer : CallIn) (spawned : Bool) (name : List ℕ) (token : Token) (rest : List Token) → IsTrue (each_of is_grouped arguments) →
    IsTrue (is_end token) →
    reads (AtArguments outer spawned name) (ahead (spell_commas level (spell_argument level) arguments) (token ∷ rest)) ≡ on_reads rest (step_argument outer spawned name arguments token)
arguments_read (One only) level outer spawned name token rest grouped end =
    whole_read (AtArguments outer spawned name) (ArgumentOf outer spawned name None) (arguments_start outer spawned name) refl only level _ token rest grouped end
arguments_read (More before last) level outer spawned name token rest grouped end =
    let parts = and_parts (each_of is_grouped before) (is_grouped last) grouped in
    ap (reads (AtArguments outer spawned name)) (ahead_append (spell_commas level (spell_argument level) before) _ (token ∷ rest)) ∙
    arguments_read before level outer spawned name (Mark sign.Comma) (ahead (spell_argument level last) (token ∷ rest)) parts.0 refl ∙
    value_read (ArgumentOf outer spawned name (Some before)) refl last level _ token rest parts.1 end

any_arguments_read : (arguments : Option (Commas Expression)) (level : ℕ) (outer : CallIn) (spawned : Bool) (name : List ℕ) (rest : List Token) → IsTrue (if_any (each_of is_grouped) arguments) →
    reads (AtArguments outer spawned name) (ahead (spell_any (spell_commas level (spell_argument level)) arguments) (Mark sign.CloseParen ∷ rest)) ≡ reads (after_call outer (call_of spawned name arguments)) rest
unfolding step
any_arguments_read None level outer spawned name rest grouped = reads_step (AtArguments outer spawned name) (Mark sign.CloseParen) rest
any_arguments_read (Some arguments) level outer spawned name rest grouped = arguments_read arguments level outer spawned name (Mark sign.CloseParen) rest grouped refl

-- A call may begin in the state.
pub record StartsCall (state : State) (outer : CallIn) : Type 0 where
  pub spawns : (rest : List Token) → reads state (Word word.Spawn ∷ rest) ≡ reads (AwaitsName (SpawnedName outer)) rest
  pub calls : (name : List ℕ) (rest : List Token) → reads state (Name name ∷ Mark sign.OpenParen ∷ rest) ≡ reads (AtArguments outer false name) rest

called_read : (state : State) (outer : CallIn) → StartsCall state outer → (spawned : Bool) (name : List ℕ) (arguments : Option (Commas Expression)) (level : ℕ) (rest : List Token) →
    IsTrue (if_any (each_of is_grouped) arguments) →
    reads state (ahead (spell_call level (call_of spawned name arguments)) rest) ≡ reads (after_call outer (call_of spawned name arguments)) rest
unfolding step walk
called_read state outer h true name arguments level rest grouped =
    h.spawns _ ∙ reads_after_walk (AwaitsName (SpawnedName outer)) (Name name ∷ Mark sign.OpenParen ∷ []) _ _ refl ∙
    ap (reads (AtArguments outer true name)) (ahead_append (spell_any (spell_commas level (spell_argument level)) arguments) _ rest) ∙ any_arguments_read arguments level outer true name rest grouped
called_read state outer h false name arguments level rest grouped =
    h.calls name _ ∙ ap (reads (AtArguments outer false name)) (ahead_append (spell_any (spell_commas level (spell_argument level)) arguments) _ rest) ∙
    any_arguments_read arguments level outer false name rest grouped

pub call_read : (state : State) (outer : CallIn) → StartsCall state outer → (call : Call) (level : ℕ) (rest : List Token) → IsTrue (is_call call) →
    reads state (ahead (spell_call level call) rest) ≡ reads (after_call outer call) rest
call_read state outer h call level rest grouped = called_read state outer h call.spawned call.name call.arguments level rest grouped

-- ---- additions

-- where an addition may begin in the state
pub addition_read : (state : State) (outer : CallIn) → ((rest : List Token) → reads state (Word word.FetchAdd ∷ rest) ≡ reads (Awaits (AddOpen outer)) rest) →
    (addition : Addition) (level : ℕ) (rest : List Token) → IsTrue (is_addition addition) → reads state (ahead (spell_addition level addition) rest) ≡ reads (after_addition outer addition) rest
unfolding step
addition_read state outer h addition level rest formed =
    let parts = and_parts (is_grouped addition.index) (is_grouped addition.addend) formed in
    let index = spell_whole (level + 1) addition.index in
    let behind_index = mark level sign.CloseBracket ∷ mark level sign.Comma ∷ spell_whole level addition.addend in
    h _ ∙ reads_step (Awaits (AddOpen outer)) (Mark sign.OpenParen) _ ∙ reads_step (AwaitsName (AddedName outer)) (Name addition.name) _ ∙
    reads_step (Awaits (AddIndexOpen outer addition.name)) (Mark sign.OpenBracket) _ ∙
    ap (reads (Wants (AddedAt outer addition.name))) (ahead_append (index ++ behind_index) (mark level sign.CloseParen ∷ []) rest ∙ ahead_append index behind_index (Mark sign.CloseParen ∷ rest)) ∙
    value_read (AddedAt outer addition.name) refl addition.index (level + 1) _ (Mark sign.CloseBracket) _ parts.0 refl ∙
    reads_step (Awaits (AddComma outer addition.name addition.index)) (Mark sign.Comma) _ ∙
    value_read (AddendOf outer addition.name addition.index) refl addition.addend level _ (Mark sign.CloseParen) rest parts.1 refl

-- ---- behind a `=`

-- A name there may begin a call, but not before such a token.
right_name_step : (outer : RightIn) (name : List ℕ) (token : Token) → opens token ≡ false →
    step_right_name outer name token ≡ option_map (behind (counting (right_level outer) (Anew Operators ∷ []) (Name name))) (step_has (ValueOf outer) (Variable name) token)
right_name_step outer name (Mark sign.OpenParen) closed = absurd (cc)
right_name_step outer name token closed = refl

reads_behind : (spelled : Spelled) (rest : List Token) (next : Option Next) → on_reads rest (option_map (behind spelled) next) ≡ on_reads rest next
reads_behind spelled rest None = refl
reads_behind spelled rest (Some next) = refl

right_name_read : (outer : RightIn) (name : List ℕ) (token : Token) (rest : List Token) → opens token ≡ false →
    reads (AfterRightName outer name) (token ∷ rest) ≡ reads (Has (ValueOf outer) (Variable name)) (token ∷ rest)
unfolding step
right_name_read outer name token rest closed =
    reads_step (AfterRightName outer name) token rest ∙ ap (on_reads rest) (right_name_step outer name token closed) ∙ reads_behind _ rest (step_has (ValueOf outer) (Variable name) token) ∙
    sym (reads_step (Has (ValueOf outer) (Variable name)) token rest)

right_start : (outer : RightIn) → StartsAs (AtRight outer) (ValueOf outer)
unfolding step
right_start outer = record {
  number = λ value. refl;
  name = λ name token rest closed.
      reads_step (AtRight outer) (Name name) (token ∷ rest) ∙ right_name_read outer name token rest closed ∙ sym (reads_step (Wants (ValueOf outer)) (Name name) (token ∷ rest));
  group = refl;
  minus = refl;
  bang = refl;
}

right_call : (outer : RightIn) → StartsCall (AtRight outer) (ResultOf outer)
unfolding step walk
right_call outer = record {
  spawns = λ rest. reads_step (AtRight outer) (Word word.Spawn) rest;
  calls = λ name rest. reads_after_walk (AtRight outer) (Name name ∷ Mark sign.OpenParen ∷ []) rest _ refl;
}

right_addition : (outer : RightIn) (rest : List Token) → reads (AtRight outer) (Word word.FetchAdd ∷ rest) ≡ reads (Awaits (AddOpen (ResultOf outer))) rest
unfolding step
right_addition outer rest = reads_step (AtRight outer) (Word word.FetchAdd) rest

right_step : (outer : RightIn) (right : Right) (token : Token) → step (after_right outer right) token ≡ step_right outer right token
unfolding step
right_step (Assigned outer name) right token = refl
right_step (Declared outer before name) right token = refl

right_read : (right : Right) (level : ℕ) (outer : RightIn) (token : Token) (rest : List Token) → IsTrue (is_right right) → IsTrue (is_end token) →
    reads (AtRight outer) (ahead (spell_right level right) (token ∷ rest)) ≡ reads (after_right outer right) (token ∷ rest)
right_read (Value value) level outer token rest formed end =
    whole_read (AtRight outer) (ValueOf outer) (right_start outer) refl value level _ token rest formed end ∙
    ap (on_reads rest) (sym (right_step outer (Value value) token)) ∙ sym (reads_step (after_right outer (Value value)) token rest)
right_read (Result call) level outer token rest formed end = call_read (AtRight outer) (ResultOf outer) (right_call outer) call level (token ∷ rest) formed
right_read (Fetched addition) level outer token rest formed end = addition_read (AtRight outer) (ResultOf outer) (right_addition outer) addition level (token ∷ rest) formed

-- ---- declarators

bare_step : (outer : DeclareIn) (before : Option (Commas Declarator)) (name : List ℕ) (token : Token) → IsTrue (is_end token) →
    step (AfterDeclarator outer before name) token ≡ step (HasDeclarators outer (with_last before (Bare name))) token
unfolding step
bare_step outer before name (Mark sign.CloseParen) end = refl
bare_step outer before name (Mark sign.CloseBracket) end = refl
bare_step outer before name (Mark sign.Comma) end = refl
bare_step outer before name (Mark sign.Semicolon) end = refl
bare_step outer before name token end = absurd (cc)

declarator_read : (declarator : Declarator) (level : ℕ) (outer : DeclareIn) (before : Option (Commas Declarator)) (token : Token) (rest : List Token) → IsTrue (is_declarator declarator) →
    IsTrue (is_end token) →
    reads (AwaitsName (DeclaratorName outer before)) (ahead (spell_declarator level declarator) (token ∷ rest)) ≡ reads (HasDeclarators outer (with_last before declarator)) (token ∷ rest)
unfolding step walk
declarator_read (Bare name) level outer before token rest formed end =
    reads_step (AwaitsName (DeclaratorName outer before)) (Name name) (token ∷ rest) ∙
    reads_same (AfterDeclarator outer before name) (HasDeclarators outer (with_last before (Bare name))) token rest (bare_step outer before name token end)
declarator_read (Valued name value) level outer before token rest formed end =
    reads_after_walk (AwaitsName (DeclaratorName outer before)) (Name name ∷ Mark sign.Assign ∷ []) _ _ refl ∙ right_read value level (Declared outer before name) token rest formed end

comma_read : (outer : DeclareIn) (declarators : Commas Declarator) (rest : List Token) →
    reads (HasDeclarators outer declarators) (Mark sign.Comma ∷ rest) ≡ reads (AwaitsName (DeclaratorName outer (Some declarators))) rest
unfolding step
comma_read (AsDeclaration outer before) declarators rest = reads_step (HasDeclarators (AsDeclaration outer before) declarators) (Mark sign.Comma) rest
comma_read (AsForDeclaration outer) declarators rest = reads_step (HasDeclarators (AsForDeclaration outer) declarators) (Mark sign.Comma) rest

pub declarators_read : (declarators : Commas Declarator) (level : ℕ) (outer : DeclareIn) (token : Token) (rest : List Token) → IsTrue (each_of is_declarator declarators) → IsTrue (is_end token) →
    reads (AwaitsName (DeclaratorName outer None)) (ahead (spell_commas level (spell_declarator level) declarators) (token ∷ rest)) ≡ reads (HasDeclarators outer declarators) (token ∷ rest)
declarators_read (One only) level outer token rest formed end = declarator_read only level outer None token rest formed end
declarators_read (More before last) level outer token rest formed end =
    let parts = and_parts (each_of is_declarator before) (is_declarator last) formed in
    ap (reads (AwaitsName (DeclaratorName outer None))) (ahead_append (spell_commas level (spell_declarator level) before) _ (token ∷ rest)) ∙
    declarators_read before level outer (Mark sign.Comma) (ahead (spell_declarator level last) (token ∷ rest)) parts.0 refl ∙
    comma_read outer before _ ∙ declarator_read last level outer (Some before) token rest parts.1 end

-- ---- assignments, steps and stores

pub simple_read : (simple : Simple) (level : ℕ) (state : State) (outer : SimpleIn) → ((name : List ℕ) (rest : List Token) →
    reads state (Name name ∷ rest) ≡ reads (AfterName outer name) rest) → (token : Token) (rest : List Token) →
    IsTrue (is_simple simple) → IsTrue (is_end token) → reads state (ahead (spell_simple level simple) (token ∷ rest)) ≡ reads (Awaits (SimpleEnd outer simple)) (token ∷ rest)
unfolding step
simple_read (Assignment name value) level state outer h token rest formed end =
    h name _ ∙ reads_step (AfterName outer name) (Mark sign.Assign) _ ∙ right_read value level (Assigned outer name) token rest formed end
simple_read (Change name Up value) level state outer h token rest formed end =
    h name _ ∙ reads_step (AfterName outer name) (Mark sign.PlusAssign) _ ∙ value_read (ChangedBy outer name Up) refl value (level + 1) [] token rest formed end ∙
    sym (reads_step (Awaits (SimpleEnd outer (Change name Up value))) token rest)
simple_read (Change name Down value) level state outer h token rest formed end =
    h name _ ∙ reads_step (AfterName outer name) (Mark sign.MinusAssign) _ ∙ value_read (ChangedBy outer name Down) refl value (level + 1) [] token rest formed end ∙
    sym (reads_step (Awaits (SimpleEnd outer (Change name Down value))) token rest)
simple_read (Step name Up) level state outer h token rest formed end = h name _ ∙ reads_step (AfterName outer name) (Mark sign.PlusPlus) _
simple_read (Step name Down) level state outer h token rest formed end = h name _ ∙ reads_step (AfterName outer name) (Mark sign.MinusMinus) _
simple_read (Storing name index value) level state outer h token rest formed end =
    let parts = and_parts (is_grouped index) (is_grouped value) formed in
    h name _ ∙ reads_step (AfterName outer name) (Mark sign.OpenBracket) _ ∙
    ap (reads (Wants (StoredAt outer name))) (ahead_append (spell_whole (level + 1) index) _ (token ∷ rest)) ∙
    value_read (StoredAt outer name) refl index (level + 1) _ (Mark sign.CloseBracket) _ parts.0 refl ∙
    reads_step (Awaits (StoreAssign outer name index)) (Mark sign.Assign) _ ∙
    value_read (StoredIn outer name index) refl value level _ token rest parts.1 end ∙
    sym (reads_step (Awaits (SimpleEnd outer (Storing name index value))) token rest)
