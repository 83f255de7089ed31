-- The machine reads each statement.
use Rattle.std.proofs.Common.{◌≡◌, ℕ, ◌+◌, Bool, true, false, not, ◌&&◌, IsTrue, Option, Some, None, List, [], ◌∷◌, ◌++◌, refl, ap, sym, ◌∙◌}
use Rattle.std.proofs.lemmas.Bool.{and_parts}
use Rattle.cilk_tree.specs.declared.token.Keyword.TheVariants as word
use Rattle.cilk_tree.specs.declared.token.Sign.TheVariants as sign
use Rattle.cilk_tree.specs.declared.token.Token.{Token}
use Rattle.cilk_tree.specs.declared.token.Token.TheVariants.{Name, Word, Mark}
use Rattle.cilk_tree.specs.Levels.{Spelled, mark, spell_whole, spell_any, spell_call, spell_addition, spell_commas, spell_declarator, spell_simple, spell_start, spell_statement, spell_inner, spell_inners, spell_body}
use Rattle.cilk_tree.specs.Syntax.{Commas, Expression, Simple, Assignment, Change, Step, Storing, Start, NoStart, SimpleStart, DeclaringStart, Statement, Nothing, Simply, Calling, Adding, Syncing, IfAlone, IfElse, WhileLoop, ForLoop, Printing, Returning, Inner, Declaration, Block, Stated, Inners, NoInners, ThenInner, Body, Braced, Single, is_grouped, if_any, is_simple, is_start, is_statement, is_inner, are_inners, is_body, dangles, statement_dangles}
use Rattle.cilk_parser.specs.Contexts.{InnersIn, InBlock, InBody, BodyIn, IfTaken, IfOtherwise, WhileBody, ForBody, StatementIn, InInners, AsBody, AsStatement, AsForStart, AsForLast, AsDeclaration, AsForDeclaration, Called, ExpressionIn, IfCondition, WhileCondition, ForCondition, Printed, Returned, least_strength}
use Rattle.cilk_parser.specs.Run.{reads}
use Rattle.cilk_parser.specs.Steps.{State, AtInner, AtBody, HasBody, HasDeclarators, AfterName, AtForStart, AtForCondition, AtForLast, AfterReturn, Wants, Awaits, AwaitsName, SimpleEnd, PrintEnd, DeclaratorName, IfOpen, WhileOpen, ForOpen, CalledEnd, AddedEnd, SyncEnd, PrintOpen, Place, Next, call_of, finish, step_statement, step_inner, step_else, step_end, after_statement, ended_body, ended_statement, otherwise_of_body, otherwise_of_statement, step}
use Rattle.cilk_parser.proofs.LedThrough.Ahead.{ahead, ahead_append, four_ahead}
use Rattle.cilk_parser.proofs.LedThrough.PhrasesRead.{StartsAs, StartsCall, value_read, whole_read, call_read, addition_read, declarators_read, simple_read}
use Rattle.cilk_parser.proofs.Walks.{on_reads, reads_step, reads_same}

-- ---- the parts of a `for`, and `return`

start_read : (start : Start) (level : ℕ) (outer : StatementIn) (rest : List Token) → IsTrue (is_start start) →
    reads (AtForStart outer) (ahead (spell_start level start) (Mark sign.Semicolon ∷ rest)) ≡ reads (AtForCondition outer start) rest
unfolding step
start_read NoStart level outer rest formed = reads_step (AtForStart outer) (Mark sign.Semicolon) rest
start_read (SimpleStart simple) level outer rest formed =
    simple_read simple level (AtForStart outer) (AsForStart outer) (λ name more. reads_step (AtForStart outer) (Name name) more) (Mark sign.Semicolon) rest formed refl ∙
    reads_step (Awaits (SimpleEnd (AsForStart outer) simple)) (Mark sign.Semicolon) rest
start_read (DeclaringStart declarators) level outer rest formed =
    reads_step (AtForStart outer) (Word word.Int) _ ∙ declarators_read declarators level (AsForDeclaration outer) (Mark sign.Semicolon) rest formed refl ∙
    reads_step (HasDeclarators (AsForDeclaration outer) declarators) (Mark sign.Semicolon) rest

condition_start : (outer : StatementIn) (start : Start) → StartsAs (AtForCondition outer start) (ForCondition outer start)
unfolding step
condition_start outer start = record { number = λ value. refl; name = λ name token rest closed. reads_same _ _ (Name name) (token ∷ rest) refl; group = refl; minus = refl; bang = refl }

condition_read : (condition : Option Expression) (level : ℕ) (outer : StatementIn) (start : Start) (rest : List Token) → IsTrue (if_any is_grouped condition) →
    reads (AtForCondition outer start) (ahead (spell_any (spell_whole level) condition) (Mark sign.Semicolon ∷ rest)) ≡ reads (AtForLast outer start condition) rest
unfolding step
condition_read None level outer start rest formed = reads_step (AtForCondition outer start) (Mark sign.Semicolon) rest
condition_read (Some condition) level outer start rest formed =
    whole_read (AtForCondition outer start) (ForCondition outer start) (condition_start outer start) refl condition level _ (Mark sign.Semicolon) rest formed refl

last_read : (last : Option Simple) (level : ℕ) (outer : StatementIn) (start : Start) (condition : Option Expression) (rest : List Token) → IsTrue (if_any is_simple last) →
    reads (AtForLast outer start condition) (ahead (spell_any (spell_simple level) last) (Mark sign.CloseParen ∷ rest)) ≡ reads (AtBody (ForBody outer start condition last)) rest
unfolding step
last_read None level outer start condition rest formed = reads_step (AtForLast outer start condition) (Mark sign.CloseParen) rest
last_read (Some last) level outer start condition rest formed =
    simple_read last level (AtForLast outer start condition) (AsForLast outer start condition) (λ name more. reads_step (AtForLast outer start condition) (Name name) more) (Mark sign.CloseParen) rest formed refl ∙
    reads_step (Awaits (SimpleEnd (AsForLast outer start condition) last)) (Mark sign.CloseParen) rest

returned_start : (outer : StatementIn) → StartsAs (AfterReturn outer) (Returned outer)
unfolding step
returned_start outer = record { number = λ value. refl; name = λ name token rest closed. reads_same _ _ (Name name) (token ∷ rest) refl; group = refl; minus = refl; bang = refl }

returned_read : (value : Option Expression) (level : ℕ) (outer : StatementIn) (rest : List Token) → IsTrue (if_any is_grouped value) →
    reads (AfterReturn outer) (ahead (spell_any (spell_whole level) value) (Mark sign.Semicolon ∷ rest)) ≡ reads (after_statement outer (Returning value)) rest
unfolding step
returned_read None level outer rest formed = reads_step (AfterReturn outer) (Mark sign.Semicolon) rest
returned_read (Some value) level outer rest formed = whole_read (AfterReturn outer) (Returned outer) (returned_start outer) refl value level _ (Mark sign.Semicolon) rest formed refl

-- ---- what is well formed

record IsIfElse (test : Expression) (first second : Body) : Type 0 where
  condition : IsTrue (is_grouped test)
  taken : IsTrue (is_body first)
  closed : IsTrue (not (dangles first))
  otherwise : IsTrue (is_body second)

if_else_parts : (condition : Expression) (taken otherwise : Body) → IsTrue (is_statement (IfElse condition taken otherwise)) → IsIfElse condition taken otherwise
if_else_parts condition taken otherwise h =
    let whole = and_parts (is_grouped condition && is_body taken && not (dangles taken)) (is_body otherwise) h in
    let three = and_parts (is_grouped condition && is_body taken) (not (dangles taken)) whole.0 in
    let two = and_parts (is_grouped condition) (is_body taken) three.0 in
    record { condition = two.0; taken = two.1; closed = three.1; otherwise = whole.1 }

record IsFor (first : Start) (second : Option Expression) (third : Option Simple) (inside : Body) : Type 0 where
  start : IsTrue (is_start first)
  condition : IsTrue (if_any is_grouped second)
  last : IsTrue (if_any is_simple third)
  body : IsTrue (is_body inside)

for_parts : (start : Start) (condition : Option Expression) (last : Option Simple) (body : Body) → IsTrue (is_statement (ForLoop start condition last body)) → IsFor start condition last body
for_parts start condition last body h =
    let whole = and_parts (is_start start && if_any is_grouped condition && if_any is_simple last) (is_body body) h in
    let three = and_parts (is_start start && if_any is_grouped condition) (if_any is_simple last) whole.0 in
    let two = and_parts (is_start start) (if_any is_grouped condition) three.0 in
    record { start = two.0; condition = two.1; last = three.1; body = whole.1 }

-- ---- where a statement begins

-- the state where a statement may begin there
abbrev at_statement : StatementIn → State
at_statement (InInners outer before) = AtInner outer before
at_statement (AsBody owner) = AtBody owner

-- the token begins no statement that is no block
abbrev is_apart : Token → Bool
is_apart (Mark sign.OpenBrace) = true
is_apart (Mark sign.CloseBrace) = true
is_apart (Word word.Int) = true
is_apart _ = false

first_step : (outer : StatementIn) (token : Token) → is_apart token ≡ false → step (at_statement outer) token ≡ step_statement outer token
unfolding step
first_step (InInners outer before) (Mark sign.OpenBrace) e = absurd (cc)
first_step (InInners outer before) (Mark sign.CloseBrace) e = absurd (cc)
first_step (InInners outer before) (Word word.Int) e = absurd (cc)
first_step (InInners outer before) token e = refl
first_step (AsBody owner) (Mark sign.OpenBrace) e = absurd (cc)
first_step (AsBody owner) token e = refl

first_read : (outer : StatementIn) (token : Token) (rest : List Token) → is_apart token ≡ false → reads (at_statement outer) (token ∷ rest) ≡ on_reads rest (step_statement outer token)
first_read outer token rest e = reads_step (at_statement outer) token rest ∙ ap (on_reads rest) (first_step outer token e)

statement_call : (outer : StatementIn) → StartsCall (at_statement outer) (Called outer)
unfolding step
statement_call outer = record {
  spawns = λ rest. first_read outer (Word word.Spawn) rest refl;
  calls = λ name rest. first_read outer (Name name) (Mark sign.OpenParen ∷ rest) refl ∙ reads_step (AfterName (AsStatement outer) name) (Mark sign.OpenParen) rest;
}

-- ---- behind a body

abbrev is_else : Token → Bool
is_else (Word word.Else) = true
is_else _ = false

abbrev pub begins_else : List Token → Bool
begins_else [] = false
begins_else (token ∷ rest) = is_else token

-- what the machine does where a statement ends in this list and an `else` would begin that body
abbrev step_ended : Place → Option BodyIn → Token → Option Next
step_ended place otherwise (Word word.Else) = step_else otherwise
step_ended place otherwise token = step_inner place.outer place.inners token

body_step : (owner : BodyIn) (body : Body) (token : Token) → step (HasBody owner body) token ≡ step_ended (ended_body owner body) (otherwise_of_body owner body) token
unfolding step
body_step owner body (Word word.Else) = refl
body_step owner body token = refl

statement_step : (outer : StatementIn) (statement : Statement) (token : Token) →
    step (after_statement outer statement) token ≡ step_ended (ended_statement outer statement) (otherwise_of_statement outer statement) token
unfolding step
statement_step (InInners outer before) statement (Word word.Else) = refl
statement_step (InInners outer before) statement token = refl
statement_step (AsBody owner) statement token = body_step owner (Single statement) token

without_else : (place : Place) (one other : Option BodyIn) (token : Token) → is_else token ≡ false → step_ended place one token ≡ step_ended place other token
without_else place one other (Word word.Else) e = absurd (cc)
without_else place one other token e = refl

unfinished : (outer : StatementIn) (statement : Statement) → None ≡ finish (after_statement outer statement)
unfinished (InInners outer before) statement = refl
unfinished (AsBody owner) statement = refl

-- The body ends the statement that it belongs to.
module _ (owner : BodyIn) (body : Body) (outer : StatementIn) (statement : Statement) (place : ended_body owner body ≡ ended_statement outer statement) where
  ended : reads (HasBody owner body) [] ≡ reads (after_statement outer statement) []
  unfolding reads
  ended = unfinished outer statement

  ends_statement : (rest : List Token) → otherwise_of_body owner body ≡ otherwise_of_statement outer statement → reads (HasBody owner body) rest ≡ reads (after_statement outer statement) rest
  ends_statement [] otherwise = ended
  ends_statement (token ∷ rest) otherwise =
      reads_same _ _ token rest
      (body_step owner body token ∙ ap (λ p. step_ended p (otherwise_of_body owner body) token) place ∙ ap (λ o. step_ended (ended_statement outer statement) o token) otherwise ∙ sym (statement_step outer statement token))

  ends_without_else : (rest : List Token) → begins_else rest ≡ false → reads (HasBody owner body) rest ≡ reads (after_statement outer statement) rest
  ends_without_else [] other = ended
  ends_without_else (token ∷ rest) other =
      reads_same _ _ token rest
      (body_step owner body token ∙ ap (λ p. step_ended p (otherwise_of_body owner body) token) place ∙ without_else _ _ (otherwise_of_statement outer statement) token other ∙ sym (statement_step outer statement token))

-- ---- tokens

no_else_call : (spawned : Bool) (name : List ℕ) (arguments : Option (Commas Expression)) (level : ℕ) (rest : List Token) →
    begins_else (ahead (spell_statement level (Calling (call_of spawned name arguments))) rest) ≡ false
no_else_call true name arguments level rest = refl
no_else_call false name arguments level rest = refl

no_else : (inner : Inner) (level : ℕ) (rest : List Token) → begins_else (ahead (spell_inner level inner) rest) ≡ false
no_else (Declaration declarators) level rest = refl
no_else (Block inside) level rest = refl
no_else (Stated Nothing) level rest = refl
no_else (Stated (Simply (Assignment name value))) level rest = refl
no_else (Stated (Simply (Change name direction value))) level rest = refl
no_else (Stated (Simply (Step name direction))) level rest = refl
no_else (Stated (Simply (Storing name index value))) level rest = refl
no_else (Stated (Calling call)) level rest = no_else_call call.spawned call.name call.arguments level rest
no_else (Stated (Adding addition)) level rest = refl
no_else (Stated Syncing) level rest = refl
no_else (Stated (IfAlone condition taken)) level rest = refl
no_else (Stated (IfElse condition taken otherwise)) level rest = refl
no_else (Stated (WhileLoop condition body)) level rest = refl
no_else (Stated (ForLoop start condition last body)) level rest = refl
no_else (Stated (Printing value)) level rest = refl
no_else (Stated (Returning value)) level rest = refl

-- a condition and what stands behind its parentheses
in_parentheses : (around : ExpressionIn) → least_strength around ≡ 0 → (condition : Expression) (level : ℕ) (more : List Spelled) (rest : List Token) → IsTrue (is_grouped condition) →
    reads (Wants around) (ahead (spell_whole level condition ++ mark level sign.CloseParen ∷ [] ++ more) rest) ≡ on_reads (ahead more rest) (step_end around condition (Mark sign.CloseParen))
in_parentheses around least condition level more rest grouped =
    ap (reads (Wants around)) (ahead_append (spell_whole level condition ++ mark level sign.CloseParen ∷ []) more rest ∙ ahead_append (spell_whole level condition) (mark level sign.CloseParen ∷ []) (ahead more rest)) ∙
    value_read around least condition level _ (Mark sign.CloseParen) (ahead more rest) grouped refl

-- ---- statements

mutual
  unfolding step

  statement_read : (statement : Statement) (level : ℕ) (outer : StatementIn) (rest : List Token) → IsTrue (is_statement statement) → (statement_dangles statement ≡ true → begins_else rest ≡ false) →
      reads (at_statement outer) (ahead (spell_statement level statement) rest) ≡ reads (after_statement outer statement) rest
  statement_read Nothing level outer rest formed closed = first_read outer (Mark sign.Semicolon) rest refl
  statement_read (Simply simple) level outer rest formed closed =
      ap (reads (at_statement outer)) (ahead_append (spell_simple level simple) _ rest) ∙
      simple_read simple level (at_statement outer) (AsStatement outer) (λ name more. first_read outer (Name name) more refl) (Mark sign.Semicolon) rest formed refl ∙
      reads_step (Awaits (SimpleEnd (AsStatement outer) simple)) (Mark sign.Semicolon) rest
  statement_read (Calling call) level outer rest formed closed =
      ap (reads (at_statement outer)) (ahead_append (spell_call level call) _ rest) ∙
      call_read (at_statement outer) (Called outer) (statement_call outer) call level (Mark sign.Semicolon ∷ rest) formed ∙
      reads_step (Awaits (CalledEnd outer call)) (Mark sign.Semicolon) rest
  statement_read (Adding addition) level outer rest formed closed =
      ap (reads (at_statement outer)) (ahead_append (spell_addition level addition) _ rest) ∙
      addition_read (at_statement outer) (Called outer) (λ more. first_read outer (Word word.FetchAdd) more refl) addition level (Mark sign.Semicolon ∷ rest) formed ∙
      reads_step (Awaits (AddedEnd outer addition)) (Mark sign.Semicolon) rest
  statement_read Syncing level outer rest formed closed = first_read outer (Word word.Sync) (Mark sign.Semicolon ∷ rest) refl ∙ reads_step (Awaits (SyncEnd outer)) (Mark sign.Semicolon) rest
  statement_read (IfAlone condition taken) level outer rest formed closed =
      let parts = and_parts (is_grouped condition) (is_body taken) formed in
      first_read outer (Word word.If) _ refl ∙ reads_step (Awaits (IfOpen outer)) (Mark sign.OpenParen) _ ∙
      in_parentheses (IfCondition outer) refl condition level (spell_body level (level + 1) taken) rest parts.0 ∙
      body_read taken level (level + 1) (IfTaken outer condition) rest parts.1 (λ d. closed refl) ∙
      ends_without_else (IfTaken outer condition) taken outer (IfAlone condition taken) refl rest (closed refl)
  statement_read (IfElse condition taken otherwise) level outer rest formed closed =
      let parts = if_else_parts condition taken otherwise formed in
      first_read outer (Word word.If) _ refl ∙ reads_step (Awaits (IfOpen outer)) (Mark sign.OpenParen) _ ∙
      ap (reads (Wants (IfCondition outer))) (ahead_append (spell_whole level condition ++ mark level sign.CloseParen ∷ [] ++ spell_body level (level + 1) taken) _ rest) ∙
      in_parentheses (IfCondition outer) refl condition level (spell_body level (level + 1) taken) _ parts.condition ∙
      body_read taken level (level + 1) (IfTaken outer condition) _ parts.taken (λ d. absurd (let c = parts.closed in cc)) ∙
      reads_step (HasBody (IfTaken outer condition) taken) (Word word.Else) _ ∙
      body_read otherwise level (level + 1) (IfOtherwise outer condition taken) rest parts.otherwise closed ∙
      ends_statement (IfOtherwise outer condition taken) otherwise outer (IfElse condition taken otherwise) refl rest refl
  statement_read (WhileLoop condition body) level outer rest formed closed =
      let parts = and_parts (is_grouped condition) (is_body body) formed in
      first_read outer (Word word.While) _ refl ∙ reads_step (Awaits (WhileOpen outer)) (Mark sign.OpenParen) _ ∙
      in_parentheses (WhileCondition outer) refl condition level (spell_body level (level + 1) body) rest parts.0 ∙
      body_read body level (level + 1) (WhileBody outer condition) rest parts.1 closed ∙
      ends_statement (WhileBody outer condition) body outer (WhileLoop condition body) refl rest refl
  statement_read (ForLoop start condition last body) level outer rest formed closed =
      let parts = for_parts start condition last body formed in
      first_read outer (Word word.For) _ refl ∙ reads_step (Awaits (ForOpen outer)) (Mark sign.OpenParen) _ ∙
      ap (reads (AtForStart outer)) (four_ahead (spell_start (level + 1) start) _ _ _ rest) ∙
      start_read start (level + 1) outer _ parts.start ∙ condition_read condition (level + 1) outer start _ parts.condition ∙ last_read last (level + 2) outer start condition _ parts.last ∙
      body_read body level (level + 2) (ForBody outer start condition last) rest parts.body closed ∙
      ends_statement (ForBody outer start condition last) body outer (ForLoop start condition last body) refl rest refl
  statement_read (Printing value) level outer rest formed closed =
      first_read outer (Word word.Print) _ refl ∙ reads_step (Awaits (PrintOpen outer)) (Mark sign.OpenParen) _ ∙
      in_parentheses (Printed outer) refl value level (mark level sign.Semicolon ∷ []) rest formed ∙ reads_step (Awaits (PrintEnd outer value)) (Mark sign.Semicolon) rest
  statement_read (Returning value) level outer rest formed closed =
      first_read outer (Word word.Return) _ refl ∙ ap (reads (AfterReturn outer)) (ahead_append (spell_any (spell_whole level) value) _ rest) ∙ returned_read value level outer rest formed

  inner_read : (inner : Inner) (level : ℕ) (outer : InnersIn) (before : Inners) (rest : List Token) → IsTrue (is_inner inner) → begins_else rest ≡ false →
      reads (AtInner outer before) (ahead (spell_inner level inner) rest) ≡ reads (AtInner outer (ThenInner before inner)) rest
  inner_read (Declaration declarators) level outer before rest formed closed =
      reads_step (AtInner outer before) (Word word.Int) _ ∙
      ap (reads (AwaitsName (DeclaratorName (AsDeclaration outer before) None))) (ahead_append (spell_commas level (spell_declarator level) declarators) _ rest) ∙
      declarators_read declarators level (AsDeclaration outer before) (Mark sign.Semicolon) rest formed refl ∙
      reads_step (HasDeclarators (AsDeclaration outer before) declarators) (Mark sign.Semicolon) rest
  inner_read (Block inside) level outer before rest formed closed =
      reads_step (AtInner outer before) (Mark sign.OpenBrace) _ ∙ ap (reads (AtInner (InBlock outer before) NoInners)) (ahead_append (spell_inners (level + 1) inside) _ rest) ∙
      inners_read inside (level + 1) (InBlock outer before) (Mark sign.CloseBrace ∷ rest) formed refl ∙ reads_step (AtInner (InBlock outer before) inside) (Mark sign.CloseBrace) rest
  inner_read (Stated statement) level outer before rest formed closed = statement_read statement level (InInners outer before) rest formed (λ d. closed)

  pub inners_read : (list : Inners) (level : ℕ) (outer : InnersIn) (rest : List Token) → IsTrue (are_inners list) → begins_else rest ≡ false →
      reads (AtInner outer NoInners) (ahead (spell_inners level list) rest) ≡ reads (AtInner outer list) rest
  inners_read NoInners level outer rest formed closed = refl
  inners_read (ThenInner before last) level outer rest formed closed =
      let parts = and_parts (are_inners before) (is_inner last) formed in
      ap (reads (AtInner outer NoInners)) (ahead_append (spell_inners level before) (spell_inner level last) rest) ∙
      inners_read before level outer (ahead (spell_inner level last) rest) parts.0 (no_else last level rest) ∙ inner_read last level outer before rest parts.1 closed

  body_read : (body : Body) (own level : ℕ) (owner : BodyIn) (rest : List Token) → IsTrue (is_body body) → (dangles body ≡ true → begins_else rest ≡ false) →
      reads (AtBody owner) (ahead (spell_body own level body) rest) ≡ reads (HasBody owner body) rest
  body_read (Braced inside) own level owner rest formed closed =
      reads_step (AtBody owner) (Mark sign.OpenBrace) _ ∙ ap (reads (AtInner (InBody owner) NoInners)) (ahead_append (spell_inners level inside) _ rest) ∙
      inners_read inside level (InBody owner) (Mark sign.CloseBrace ∷ rest) formed refl ∙ reads_step (AtInner (InBody owner) inside) (Mark sign.CloseBrace) rest
  body_read (Single statement) own level owner rest formed closed = statement_read statement level (AsBody owner) rest formed closed
