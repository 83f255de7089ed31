-- The lines of a statement are divided into the statement's tokens.
use Rattle.std.specs.Prelude.{◌≡◌, ℕ, zero, suc, ◌+◌, ◌*◌, true, false, IsTrue, Option, Some, None, option_map, List, [], ◌∷◌, ◌++◌, map, replicate, flat_map, codes}
use Rattle.std.specs.List.{list_all}
use Rattle.std.proofs.Common.{refl, sym, ap, subst, ◌∙◌, append_assoc, append-nil, arith}
use Rattle.std.proofs.lemmas.Grind.{common_steps}
use Rattle.cilk_tree.specs.declared.token.Keyword.{Keyword}
use Rattle.cilk_tree.specs.declared.token.Keyword.TheVariants as word
use Rattle.cilk_tree.specs.declared.token.Sign.TheVariants as sign
use Rattle.cilk_tree.specs.declared.token.Token.{Token}
use Rattle.cilk_tree.specs.declared.token.Token.TheVariants.{Name, Word, Mark}
use Rattle.cilk_tree.specs.declared.tree.Expr.{Expr}
use Rattle.cilk_tree.specs.declared.tree.Stmt.{Stmt, roll-Stmt, map-Stmt, fold-roll-Stmt, ind-Stmt}
use Rattle.cilk_tree.specs.declared.tree.Stmt.TheOpen as layer
use Rattle.cilk_tree.specs.declared.tree.Stmt.TheOpen.{Stmt-F}
use Rattle.cilk_tree.specs.Canonical.{plain_expression, expr_text, listed, line, target_text, call_text, addition_text, return_text, lines_at, else_lines, lines_here, statement_lines}
use Rattle.cilk_tree.specs.declared.count.Counted.TheVariants.{Operators, Arguments}
use Rattle.cilk_tree.specs.declared.count.Count.TheVariants.{Anew, OneMore}
use Rattle.cilk_tree.specs.Lexeme.{is_blank}
use Rattle.cilk_tree.specs.Levels.{Spelled, spell_whole, spell_argument, spell_commas, spell_any, spell_inner, spell_inners, mark, word_at, plain, counting}
use Rattle.cilk_tree.specs.Syntax.{Commas, One, More, Value, Bare, Assignment, Storing, Simply, Syncing, WhileLoop, Printing, Returning, Inner, Declaration, Block, Stated, Inners, NoInners, ThenInner}
use Rattle.cilk_tree.specs.Writable.{commas_after, commas_of, inners_after, braced, plain_call, plain_target, plain_addition, plain_added, plain_if, plain_inner_here, plain_statement}
use Rattle.cilk_tree.proofs.Division.{Reads, anything, no_word, Reads-then, Reads-on, Reads-same, Reads-nothing, Reads-before, Reads-blanks, Reads-token, Space, Lexed, Reads-fixed, atoms_text, atoms_tokens, is_chain, Atom}
use Rattle.cilk_tree.proofs.Lines.{listed_more}
use Rattle.cilk_tree.proofs.PlainExpressions.{plain_is_plain}
use Rattle.cilk_tree.proofs.PrintedExpressions.{bare, bare-append, Reads-expression}

-- ---- lines

blanks : (n : ℕ) → IsTrue (list_all is_blank (replicate {A = ℕ} n 32))
blanks zero = refl
blanks (suc n) = blanks n

pub Reads-line : {text : List ℕ} {tokens : List Token} (level : ℕ) → Reads anything text tokens → Reads anything (line level text) tokens
Reads-line {text} {tokens} level inside =
    Reads-same refl (append-nil tokens) (Reads-on (Reads-on (Reads-blanks (replicate (2 * level) 32) (blanks (2 * level))) inside) (Reads-blanks (10 ∷ []) refl))

-- a fixed piece, a piece that ends with a word, and another fixed one
pub Reads-between : {text : List ℕ} {tokens : List Token} (before after : List Atom) → ((rest : List ℕ) → IsTrue (is_chain before rest)) → ((rest : List ℕ) → IsTrue (is_chain after rest)) → ((rest : List ℕ) → IsTrue (no_word (atoms_text after ++ rest)))
    → Reads no_word text tokens → Reads anything (atoms_text before ++ text ++ atoms_text after) (atoms_tokens before ++ tokens ++ atoms_tokens after)
Reads-between before after free free_too apart inside =
    Reads-then (Reads-on (Reads-fixed before free) inside) (Reads-fixed after free_too) (λ valid rest h. apart rest)

-- an expression that is part of no other
Reads-whole_expression : (value : Expr) (level : ℕ) → Reads no_word (expr_text value) (bare (spell_whole level (plain_expression value)))
Reads-whole_expression value level = Reads-expression (plain_expression value) level (Anew Operators ∷ []) (plain_is_plain value).formed

pub bare-cons : (one : Spelled) (others : List Spelled) → bare (one ∷ others) ≡ one.token ∷ bare others
bare-cons one others = refl

-- ---- lists with commas

module _ {T U : Type 0} (text : T → List ℕ) (spell : U → List Spelled) (syntax_of : T → U) (each : (t : T) → Reads no_word (text t) (bare (spell (syntax_of t)))) (level : ℕ) where
  next_reads : (start : List ℕ) (before : Commas U) (next : T) → Reads no_word start (bare (spell_commas level spell before)) → Reads no_word (start ++ (codes ", " ++ text next)) (bare (spell_commas level spell (More before (syntax_of next))))
  next_reads start before next first =
      Reads-same refl (sym (bare-append (spell_commas level spell before) (mark level sign.Comma ∷ spell (syntax_of next))))
      (Reads-then first (Reads-on (Reads-fixed (Lexed (Mark sign.Comma) ∷ Space ∷ []) (λ rest. refl)) (each next)) (λ valid rest h. refl))

  after_reads : (start : List ℕ) (before : Commas U) (others : List T) → Reads no_word start (bare (spell_commas level spell before))
      → Reads no_word (start ++ flat_map (λ other. codes ", " ++ text other) others) (bare (spell_commas level spell (commas_after before (map syntax_of others))))
  after_reads start before [] first = Reads-same (sym (append-nil start)) refl first
  after_reads start before (next ∷ rest) first =
      Reads-same (append_assoc start (codes ", " ++ text next) (flat_map (λ other. codes ", " ++ text other) rest)) refl
      (after_reads (start ++ (codes ", " ++ text next)) (More before (syntax_of next)) rest (next_reads start before next first))

  pub Reads-listed : (values : List T) → Reads no_word (listed (map text values)) (bare (spell_any (spell_commas level spell) (commas_of (map syntax_of values))))
  Reads-listed [] = Reads-before Reads-nothing (λ rest h. refl)
  Reads-listed (first ∷ others) = Reads-same (sym (listed_more text first others)) refl (after_reads (text first) (One (syntax_of first)) others (each first))

-- ---- statements without statements inside

-- what a statement's line is without its indent and its end, and its tokens
abbrev Printed : List ℕ → Inner → Type 0
Printed text inner = (deep : ℕ) → Reads anything text (bare (spell_inner deep inner))

declaration_printed : (name : List ℕ) → Printed (codes "int " ++ name ++ codes ";") (Declaration (One (Bare name)))
declaration_printed name deep =
    Reads-between (Lexed (Word word.Int) ∷ Space ∷ []) (Lexed (Mark sign.Semicolon) ∷ []) (λ rest. refl) (λ rest. refl) (λ rest. refl) (Reads-token (Name name))

-- `x = `
assigned_reads : (name : List ℕ) → Reads anything (name ++ codes " = ") (Name name ∷ Mark sign.Assign ∷ [])
assigned_reads name = Reads-then (Reads-token (Name name)) (Reads-fixed (Space ∷ Lexed (Mark sign.Assign) ∷ Space ∷ []) (λ rest. refl)) (λ valid rest h. refl)

-- `;`
ended_reads : {text : List ℕ} {tokens : List Token} → Reads no_word text tokens → Reads anything (text ++ codes ";") (tokens ++ Mark sign.Semicolon ∷ [])
ended_reads inside = Reads-then inside (Reads-fixed (Lexed (Mark sign.Semicolon) ∷ []) (λ rest. refl)) (λ valid rest h. refl)

assignment_tokens : (level : ℕ) (name : List ℕ) (value : List Spelled) → Name name ∷ Mark sign.Assign ∷ bare value ++ Mark sign.Semicolon ∷ [] ≡ bare (plain level (Name name) ∷ mark level sign.Assign ∷ value ++ mark level sign.Semicolon ∷ [])
assignment_tokens level name value = grind (arith, common_steps, bare-append, bare-cons)

assignment_printed : (name : List ℕ) (value : Expr) → Printed (name ++ codes " = " ++ expr_text value ++ codes ";") (Stated (Simply (Assignment name (Value (plain_expression value)))))
assignment_printed name value deep =
    Reads-same refl (assignment_tokens deep name (spell_whole deep (plain_expression value))) (ended_reads (Reads-on (assigned_reads name) (Reads-whole_expression value deep)))

store_tokens : (level : ℕ) (name : List ℕ) (index value : List Spelled)
    → Name name ∷ Mark sign.OpenBracket ∷ bare index ++ Mark sign.CloseBracket ∷ Mark sign.Assign ∷ [] ++ bare value ++ Mark sign.Semicolon ∷ []
    ≡ bare (plain level (Name name) ∷ mark level sign.OpenBracket ∷ index ++ mark level sign.CloseBracket ∷ mark level sign.Assign ∷ value ++ mark level sign.Semicolon ∷ [])
store_tokens level name index value = grind (arith, common_steps, bare-append, bare-cons)

store_printed : (name : List ℕ) (index value : Expr) → Printed (name ++ codes "[" ++ expr_text index ++ codes "] = " ++ expr_text value ++ codes ";") (Stated (Simply (Storing name (plain_expression index) (plain_expression value))))
store_printed name index value deep =
    let begins = Reads-then (Reads-token (Name name)) (Reads-fixed (Lexed (Mark sign.OpenBracket) ∷ []) (λ rest. refl)) (λ valid rest h. refl) in
    let closing = Reads-fixed (Lexed (Mark sign.CloseBracket) ∷ Space ∷ Lexed (Mark sign.Assign) ∷ Space ∷ []) (λ rest. refl) in
    let opened = Reads-then (Reads-on begins (Reads-whole_expression index (deep + 1))) closing (λ valid rest h. refl) in
    Reads-same refl (store_tokens deep name (spell_whole (deep + 1) (plain_expression index)) (spell_whole deep (plain_expression value))) (ended_reads (Reads-on opened (Reads-whole_expression value deep)))

print_tokens : (level : ℕ) (value : List Spelled)
    → Word word.Print ∷ Mark sign.OpenParen ∷ bare value ++ Mark sign.CloseParen ∷ Mark sign.Semicolon ∷ []
    ≡ bare (word_at level word.Print ∷ (mark level sign.OpenParen ∷ value ++ mark level sign.CloseParen ∷ []) ++ mark level sign.Semicolon ∷ [])
print_tokens level value = grind (arith, common_steps, bare-append, bare-cons)

print_printed : (value : Expr) → Printed (codes "print(" ++ expr_text value ++ codes ");") (Stated (Printing (plain_expression value)))
print_printed value deep =
    Reads-same refl (print_tokens deep (spell_whole deep (plain_expression value)))
    (Reads-between (Lexed (Word word.Print) ∷ Lexed (Mark sign.OpenParen) ∷ []) (Lexed (Mark sign.CloseParen) ∷ Lexed (Mark sign.Semicolon) ∷ []) (λ rest. refl) (λ rest. refl) (λ rest. refl) (Reads-whole_expression value deep))

sync_printed : Printed (codes "sync;") (Stated Syncing)
sync_printed deep = Reads-fixed (Lexed (Word word.Sync) ∷ Lexed (Mark sign.Semicolon) ∷ []) (λ rest. refl)

return_printed : (value : Option Expr) → Printed (return_text value) (Stated (Returning (option_map plain_expression value)))
return_printed None deep = Reads-fixed (Lexed (Word word.Return) ∷ Lexed (Mark sign.Semicolon) ∷ []) (λ rest. refl)
return_printed (Some value) deep =
    Reads-same refl (ap (λ tokens. Word word.Return ∷ tokens) (sym (bare-append (spell_whole deep (plain_expression value)) (mark deep sign.Semicolon ∷ []))))
    (ended_reads (Reads-on (Reads-fixed (Lexed (Word word.Return) ∷ Space ∷ []) (λ rest. refl)) (Reads-whole_expression value deep)))

-- ---- calls

-- the tokens of the arguments
abbrev spell_arguments : ℕ → List Expr → List Spelled
spell_arguments level arguments = spell_any (spell_commas level (spell_argument level)) (commas_of (map plain_expression arguments))

call_reads : (name : List ℕ) (arguments : List Expr) (level : ℕ) → Reads anything (call_text name arguments) (Name name ∷ Mark sign.OpenParen ∷ bare (spell_arguments level arguments) ++ Mark sign.CloseParen ∷ Mark sign.Semicolon ∷ [])
call_reads name arguments level =
    let begins = Reads-then (Reads-token (Name name)) (Reads-fixed (Lexed (Mark sign.OpenParen) ∷ []) (λ rest. refl)) (λ valid rest h. refl) in
    let listed_reads = Reads-listed expr_text (spell_argument level) plain_expression (λ e. Reads-expression (plain_expression e) level (OneMore Arguments ∷ Anew Operators ∷ []) (plain_is_plain e).formed) level arguments in
    Reads-then (Reads-on begins listed_reads) (Reads-fixed (Lexed (Mark sign.CloseParen) ∷ Lexed (Mark sign.Semicolon) ∷ []) (λ rest. refl)) (λ valid rest h. refl)

abbrev target_tokens : Option (List ℕ) → List Token
target_tokens None = []
target_tokens (Some name) = Name name ∷ Mark sign.Assign ∷ []

target_reads : (target : Option (List ℕ)) → Reads anything (target_text target) (target_tokens target)
target_reads None = Reads-nothing
target_reads (Some name) = assigned_reads name

call_tokens : (level : ℕ) (name : List ℕ) (inside : List Spelled) → Name name ∷ Mark sign.OpenParen ∷ bare inside ++ Mark sign.CloseParen ∷ Mark sign.Semicolon ∷ []
    ≡ bare (plain level (Name name) ∷ counting level (Anew Arguments ∷ []) (Mark sign.OpenParen) ∷ inside ++ mark level sign.CloseParen ∷ [] ++ mark level sign.Semicolon ∷ [])
call_tokens level name inside = grind (arith, common_steps, bare-append, bare-cons)

call_printed : (target : Option (List ℕ)) (name : List ℕ) (arguments : List Expr) → Printed (target_text target ++ call_text name arguments) (plain_target target (plain_call false name arguments))
call_printed None name arguments deep = Reads-same refl (call_tokens deep name (spell_arguments deep arguments)) (call_reads name arguments deep)
call_printed (Some x) name arguments deep =
    Reads-same refl (ap (λ tokens. Name x ∷ Mark sign.Assign ∷ tokens) (call_tokens deep name (spell_arguments deep arguments))) (Reads-on (assigned_reads x) (call_reads name arguments deep))

spawn_reads : Reads anything (codes "spawn ") (Word word.Spawn ∷ [])
spawn_reads = Reads-fixed (Lexed (Word word.Spawn) ∷ Space ∷ []) (λ rest. refl)

spawn_printed : (target : Option (List ℕ)) (name : List ℕ) (arguments : List Expr) → Printed (target_text target ++ codes "spawn " ++ call_text name arguments) (plain_target target (plain_call true name arguments))
spawn_printed None name arguments deep =
    Reads-same refl (ap (λ tokens. Word word.Spawn ∷ tokens) (call_tokens deep name (spell_arguments deep arguments))) (Reads-on spawn_reads (call_reads name arguments deep))
spawn_printed (Some x) name arguments deep =
    Reads-same refl (ap (λ tokens. Name x ∷ Mark sign.Assign ∷ Word word.Spawn ∷ tokens) (call_tokens deep name (spell_arguments deep arguments)))
    (Reads-on (Reads-on (assigned_reads x) spawn_reads) (call_reads name arguments deep))

-- ---- additions

addition_reads : (name : List ℕ) (index addend : Expr) (level : ℕ)
    → Reads anything (addition_text name index addend) (Word word.FetchAdd ∷ Mark sign.OpenParen ∷ Name name ∷ Mark sign.OpenBracket ∷ bare (spell_whole (level + 1) (plain_expression index)) ++ Mark sign.CloseBracket ∷ Mark sign.Comma ∷ [] ++ bare (spell_whole level (plain_expression addend)) ++ Mark sign.CloseParen ∷ Mark sign.Semicolon ∷ [])
addition_reads name index addend level =
    let named = Reads-on (Reads-fixed (Lexed (Word word.FetchAdd) ∷ Lexed (Mark sign.OpenParen) ∷ []) (λ rest. refl)) (Reads-token (Name name)) in
    let begins = Reads-then named (Reads-fixed (Lexed (Mark sign.OpenBracket) ∷ []) (λ rest. refl)) (λ valid rest h. refl) in
    let between = Reads-fixed (Lexed (Mark sign.CloseBracket) ∷ Lexed (Mark sign.Comma) ∷ Space ∷ []) (λ rest. refl) in
    let indexed = Reads-then (Reads-on begins (Reads-whole_expression index (level + 1))) between (λ valid rest h. refl) in
    Reads-then (Reads-on indexed (Reads-whole_expression addend level)) (Reads-fixed (Lexed (Mark sign.CloseParen) ∷ Lexed (Mark sign.Semicolon) ∷ []) (λ rest. refl)) (λ valid rest h. refl)

addition_tokens : (level : ℕ) (name : List ℕ) (index addend : List Spelled)
    → Word word.FetchAdd ∷ Mark sign.OpenParen ∷ Name name ∷ Mark sign.OpenBracket ∷ bare index ++ Mark sign.CloseBracket ∷ Mark sign.Comma ∷ [] ++ bare addend ++ Mark sign.CloseParen ∷ Mark sign.Semicolon ∷ []
    ≡ bare (word_at level word.FetchAdd ∷ mark level sign.OpenParen ∷ plain level (Name name) ∷ mark level sign.OpenBracket ∷ index ++ mark level sign.CloseBracket ∷ mark level sign.Comma ∷ addend ++ mark level sign.CloseParen ∷ [] ++ mark level sign.Semicolon ∷ [])
addition_tokens level name index addend = grind (arith, common_steps, bare-append, bare-cons)

addition_printed : (target : Option (List ℕ)) (name : List ℕ) (index addend : Expr) → Printed (target_text target ++ addition_text name index addend) (plain_added target (plain_addition name index addend))
addition_printed None name index addend deep =
    Reads-same refl (addition_tokens deep name (spell_whole (deep + 1) (plain_expression index)) (spell_whole deep (plain_expression addend))) (addition_reads name index addend deep)
addition_printed (Some x) name index addend deep =
    Reads-same refl (ap (λ tokens. Name x ∷ Mark sign.Assign ∷ tokens) (addition_tokens deep name (spell_whole (deep + 1) (plain_expression index)) (spell_whole deep (plain_expression addend))))
    (Reads-on (assigned_reads x) (addition_reads name index addend deep))

-- ---- statements

-- a statement's lines are its tokens, at whatever levels
pub record IsPrinted (s : Stmt) : Type 0 where
  pub at : (level deep : ℕ) → Reads anything (statement_lines s level) (bare (spell_inner deep (plain_statement s)))

-- from what is so of one layer
printed_layer : (y : Stmt-F Stmt) → ((level deep : ℕ) → Reads anything (lines_here (map-Stmt Stmt (ℕ → List ℕ) statement_lines y) level) (bare (spell_inner deep (plain_inner_here (map-Stmt Stmt Inner plain_statement y))))) → IsPrinted (roll-Stmt y)
printed_layer y reads = record {
  at = λ level deep.
      Reads-same (ap (λ lines. lines level) (sym (fold-roll-Stmt (ℕ → List ℕ) lines_here y))) (ap (λ inner. bare (spell_inner deep inner)) (sym (fold-roll-Stmt Inner plain_inner_here y))) (reads level deep);
}

abbrev Proved : Type 0
Proved = (s : Stmt) × IsPrinted s

abbrev bodies : List Proved → List Stmt
bodies ys = map (λ s. s.0) ys

pub inners_tokens : (level : ℕ) (before : Inners) (more : List Inner) → spell_inners level (inners_after before more) ≡ spell_inners level before ++ flat_map (spell_inner level) more
inners_tokens level before [] = sym (append-nil (spell_inners level before))
inners_tokens level before (next ∷ rest) =
    inners_tokens level (ThenInner before next) rest ∙ append_assoc (spell_inners level before) (spell_inner level next) (flat_map (spell_inner level) rest)

each_printed : (level deep : ℕ) (ys : List Proved) → Reads anything (lines_at level (map statement_lines (bodies ys))) (bare (flat_map (spell_inner deep) (map plain_statement (bodies ys))))
each_printed level deep [] = Reads-nothing
each_printed level deep (y ∷ ys) =
    Reads-same refl (sym (bare-append (spell_inner deep (plain_statement y.0)) (flat_map (spell_inner deep) (map plain_statement (bodies ys))))) (Reads-on (y.1.at level deep) (each_printed level deep ys))

abbrev pub inside_tokens : ℕ → List Stmt → List Spelled
inside_tokens level statements = spell_inners level (inners_after NoInners (map plain_statement statements))

body_printed : (level deep : ℕ) (ys : List Proved) → Reads anything (lines_at level (map statement_lines (bodies ys))) (bare (inside_tokens deep (bodies ys)))
body_printed level deep ys = Reads-same refl (ap bare (sym (inners_tokens deep NoInners (map plain_statement (bodies ys))))) (each_printed level deep ys)

pub end_printed : (level : ℕ) → Reads anything (line level (codes "}")) (Mark sign.CloseBrace ∷ [])
end_printed level = Reads-line level (Reads-fixed (Lexed (Mark sign.CloseBrace) ∷ []) (λ rest. refl))

if_printed : (condition : Expr) (level deep : ℕ) → Reads anything (line level (codes "if (" ++ expr_text condition ++ codes ") {")) (Word word.If ∷ Mark sign.OpenParen ∷ bare (spell_whole deep (plain_expression condition)) ++ Mark sign.CloseParen ∷ Mark sign.OpenBrace ∷ [])
if_printed condition level deep =
    Reads-line level (Reads-between (Lexed (Word word.If) ∷ Space ∷ Lexed (Mark sign.OpenParen) ∷ []) (Lexed (Mark sign.CloseParen) ∷ Space ∷ Lexed (Mark sign.OpenBrace) ∷ []) (λ rest. refl) (λ rest. refl) (λ rest. refl) (Reads-whole_expression condition deep))

while_printed : (condition : Expr) (level deep : ℕ) → Reads anything (line level (codes "while (" ++ expr_text condition ++ codes ") {")) (Word word.While ∷ Mark sign.OpenParen ∷ bare (spell_whole deep (plain_expression condition)) ++ Mark sign.CloseParen ∷ Mark sign.OpenBrace ∷ [])
while_printed condition level deep =
    Reads-line level (Reads-between (Lexed (Word word.While) ∷ Space ∷ Lexed (Mark sign.OpenParen) ∷ []) (Lexed (Mark sign.CloseParen) ∷ Space ∷ Lexed (Mark sign.OpenBrace) ∷ []) (λ rest. refl) (λ rest. refl) (λ rest. refl) (Reads-whole_expression condition deep))

-- a word, a condition and a body
body_tokens : (level : ℕ) (keyword : Keyword) (condition inside : List Spelled)
    → Word keyword ∷ Mark sign.OpenParen ∷ bare condition ++ Mark sign.CloseParen ∷ Mark sign.OpenBrace ∷ [] ++ bare inside ++ Mark sign.CloseBrace ∷ []
    ≡ bare (word_at level keyword ∷ (mark level sign.OpenParen ∷ condition ++ mark level sign.CloseParen ∷ []) ++ (mark level sign.OpenBrace ∷ inside ++ mark level sign.CloseBrace ∷ []))
body_tokens level keyword condition inside = grind (arith, common_steps, bare-append, bare-cons)

-- and an `else`
else_tokens : (level : ℕ) (condition inside others : List Spelled)
    → Word word.If ∷ Mark sign.OpenParen ∷ bare condition ++ Mark sign.CloseParen ∷ Mark sign.OpenBrace ∷ [] ++ bare inside ++ (Mark sign.CloseBrace ∷ Word word.Else ∷ Mark sign.OpenBrace ∷ bare others ++ Mark sign.CloseBrace ∷ [])
    ≡ bare (word_at level word.If ∷ (mark level sign.OpenParen ∷ condition ++ mark level sign.CloseParen ∷ []) ++ (mark level sign.OpenBrace ∷ inside ++ mark level sign.CloseBrace ∷ []) ++ word_at level word.Else ∷ (mark level sign.OpenBrace ∷ others ++ mark level sign.CloseBrace ∷ []))
else_tokens level condition inside others = grind (arith, common_steps, bare-append, bare-cons)

if_else_printed : (condition : Expr) (taken otherwise : List Proved) (level deep : ℕ)
    → Reads anything (line level (codes "if (" ++ expr_text condition ++ codes ") {") ++ lines_at (level + 1) (map statement_lines (bodies taken)) ++ else_lines level (map statement_lines (bodies otherwise)))
    (bare (spell_inner deep (plain_if condition (map plain_statement (bodies taken)) (map plain_statement (bodies otherwise)))))
if_else_printed condition taken [] level deep =
    Reads-same refl (body_tokens deep word.If (spell_whole deep (plain_expression condition)) (inside_tokens (deep + 1) (bodies taken)))
    (Reads-on (Reads-on (if_printed condition level deep) (body_printed (level + 1) (deep + 1) taken)) (end_printed level))
if_else_printed condition taken (first ∷ rest) level deep =
    let turn = Reads-line level (Reads-fixed (Lexed (Mark sign.CloseBrace) ∷ Space ∷ Lexed (Word word.Else) ∷ Space ∷ Lexed (Mark sign.OpenBrace) ∷ []) (λ rest. refl)) in
    let others = Reads-on (Reads-on turn (body_printed (level + 1) (deep + 1) (first ∷ rest))) (end_printed level) in
    Reads-same refl (else_tokens deep (spell_whole deep (plain_expression condition)) (inside_tokens (deep + 1) (bodies taken)) (inside_tokens (deep + 1) (bodies (first ∷ rest))))
    (Reads-on (Reads-on (if_printed condition level deep) (body_printed (level + 1) (deep + 1) taken)) others)

while_body_printed : (condition : Expr) (body : List Proved) (level deep : ℕ)
    → Reads anything (line level (codes "while (" ++ expr_text condition ++ codes ") {") ++ lines_at (level + 1) (map statement_lines (bodies body)) ++ line level (codes "}"))
    (bare (spell_inner deep (Stated (WhileLoop (plain_expression condition) (braced (map plain_statement (bodies body)))))))
while_body_printed condition body level deep =
    Reads-same refl (body_tokens deep word.While (spell_whole deep (plain_expression condition)) (inside_tokens (deep + 1) (bodies body)))
    (Reads-on (Reads-on (while_printed condition level deep) (body_printed (level + 1) (deep + 1) body)) (end_printed level))

block_printed : (inside : List Proved) (level deep : ℕ)
    → Reads anything (line level (codes "{") ++ lines_at (level + 1) (map statement_lines (bodies inside)) ++ line level (codes "}")) (bare (spell_inner deep (Block (inners_after NoInners (map plain_statement (bodies inside))))))
block_printed inside level deep =
    Reads-same refl (ap (λ tokens. Mark sign.OpenBrace ∷ tokens) (sym (bare-append (inside_tokens (deep + 1) (bodies inside)) (mark deep sign.CloseBrace ∷ []))))
    (Reads-on (Reads-on (Reads-line level (Reads-fixed (Lexed (Mark sign.OpenBrace) ∷ []) (λ rest. refl))) (body_printed (level + 1) (deep + 1) inside)) (end_printed level))

layer_printed : (y : Stmt-F Proved) → IsPrinted (roll-Stmt (map-Stmt _ Stmt (λ s. s.0) y))
layer_printed (layer.Declare name) = printed_layer (layer.Declare name) (λ level deep. Reads-line level (declaration_printed name deep))
layer_printed (layer.Assign name value) = printed_layer (layer.Assign name value) (λ level deep. Reads-line level (assignment_printed name value deep))
layer_printed (layer.Put name index value) = printed_layer (layer.Put name index value) (λ level deep. Reads-line level (store_printed name index value deep))
layer_printed (layer.Print value) = printed_layer (layer.Print value) (λ level deep. Reads-line level (print_printed value deep))
layer_printed (layer.If condition taken otherwise) = printed_layer (layer.If condition (bodies taken) (bodies otherwise)) (if_else_printed condition taken otherwise)
layer_printed (layer.While condition body) = printed_layer (layer.While condition (bodies body)) (while_body_printed condition body)
layer_printed (layer.Block inside) = printed_layer (layer.Block (bodies inside)) (block_printed inside)
layer_printed (layer.Call target name arguments) = printed_layer (layer.Call target name arguments) (λ level deep. Reads-line level (call_printed target name arguments deep))
layer_printed (layer.Spawn target name arguments) = printed_layer (layer.Spawn target name arguments) (λ level deep. Reads-line level (spawn_printed target name arguments deep))
layer_printed (layer.Add target name index addend) = printed_layer (layer.Add target name index addend) (λ level deep. Reads-line level (addition_printed target name index addend deep))
layer_printed layer.Sync = printed_layer layer.Sync (λ level deep. Reads-line level (sync_printed deep))
layer_printed (layer.Return value) = printed_layer (layer.Return value) (λ level deep. Reads-line level (return_printed value deep))

pub statement_is_printed : (s : Stmt) → IsPrinted s
statement_is_printed = ind-Stmt IsPrinted (λ x y is. subst (λ z. IsPrinted (roll-Stmt z)) is (layer_printed y))
