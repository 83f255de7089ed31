-- A program that has a text is spelled by its canonical text.
use Rattle.std.specs.Prelude.{◌≡◌, ℕ, pos, Bool, true, false, List, [], ◌∷◌, ◌++◌, map, flat_map}
use Rattle.std.specs.List.{list_all}
use Rattle.std.proofs.Common.{refl, sym, ap, ◌∙◌, append_assoc, append-nil, arith}
use Rattle.std.proofs.lemmas.Bool.{and_parts}
use Rattle.std.proofs.lemmas.Grind.{common_steps}
use Rattle.std.proofs.lemmas.List.{map-id}
use Rattle.cilk_tree.specs.declared.token.Keyword.TheVariants as word
use Rattle.cilk_tree.specs.declared.token.Sign.TheVariants as sign
use Rattle.cilk_tree.specs.declared.token.Token.TheVariants.{Name, Number, Word, Mark}
use Rattle.cilk_tree.specs.declared.tree.Function.{Function}
use Rattle.cilk_tree.specs.declared.tree.Program.{Program}
use Rattle.cilk_tree.specs.declared.tree.Shared.{Shared}
use Rattle.cilk_tree.specs.declared.tree.Stmt.{Stmt}
use Rattle.cilk_tree.specs.Canonical.{listed, statement_lines, array_line, cilk_text, result_text, parameter_text, function_lines, canonical_text}
use Rattle.cilk_tree.specs.declared.count.Count.{Count}
use Rattle.cilk_tree.specs.declared.count.Count.TheVariants.{Anew, OneMore}
use Rattle.cilk_tree.specs.declared.count.Counted.TheVariants as counted
use Rattle.cilk_tree.specs.Levels.{Spelled, plain, mark, spell_any, spell_commas, spell_parameter, spell_parameters, spell_head, spell_inner, spell_inners, spell_item, spell_source, source_tokens}
use Rattle.cilk_tree.specs.Spelling.{Spells, is_within_limits}
use Rattle.cilk_tree.specs.Syntax.{NoInners, Item, Empty, Then, Source}
use Rattle.cilk_tree.specs.Writable.{commas_of, inners_after, plain_statement, plain_parameters, plain_function, plain_array, row_after, plain_source, is_token, IsWritable}
use Rattle.cilk_tree.proofs.Division.{Reads, anything, no_word, Reads-then, Reads-on, Reads-same, Reads-nothing, Reads-token, Space, Lexed, Reads-fixed, Reads-whole}
use Rattle.cilk_tree.proofs.PlainPrograms.{plain_formed, plain_tree}
use Rattle.cilk_tree.proofs.PrintedExpressions.{bare, bare-append}
use Rattle.cilk_tree.proofs.PrintedStatements.{bare-cons, Reads-line, Reads-listed, inners_tokens, end_printed, statement_is_printed}

-- one after another
Reads-each : {T U : Type 0} (lines : T → List ℕ) (spell : U → List Spelled) (syntax_of : T → U) → ((t : T) → Reads anything (lines t) (bare (spell (syntax_of t)))) → (all : List T) → Reads anything (flat_map lines all) (bare (flat_map spell (map syntax_of all)))
Reads-each lines spell syntax_of each [] = Reads-nothing
Reads-each lines spell syntax_of each (t ∷ rest) =
    Reads-same refl (sym (bare-append (spell (syntax_of t)) (flat_map spell (map syntax_of rest)))) (Reads-on (each t) (Reads-each lines spell syntax_of each rest))

-- ---- arrays

array_printed : (array : Shared) → Reads anything (array_line array) (bare (spell_item (plain_array array)))
array_printed array =
    let named = Reads-on (Reads-fixed (Lexed (Word word.Int) ∷ Space ∷ []) (λ rest. refl)) (Reads-token (Name array.name)) in
    let opened = Reads-then named (Reads-fixed (Lexed (Mark sign.OpenBracket) ∷ []) (λ rest. refl)) (λ valid rest h. refl) in
    let sized = Reads-on opened (Reads-token (Number (pos array.words))) in
    Reads-line 0 (Reads-then sized (Reads-fixed (Lexed (Mark sign.CloseBracket) ∷ Lexed (Mark sign.Semicolon) ∷ []) (λ rest. refl)) (λ valid rest h. refl))

-- ---- functions

abbrev spell_names : List (List ℕ) → List Spelled
spell_names names = spell_parameters (plain_parameters (commas_of names))

names_spelled : (names : List (List ℕ)) → spell_any (spell_commas 0 spell_parameter) (commas_of names) ≡ spell_names names
names_spelled [] = refl
names_spelled (first ∷ others) = refl

parameter_reads : (name : List ℕ) → Reads no_word (parameter_text name) (bare (spell_parameter name))
parameter_reads name = Reads-on (Reads-fixed (Lexed (Word word.Int) ∷ Space ∷ []) (λ rest. refl)) (Reads-token (Name name))

parameters_read : (names : List (List ℕ)) → Reads no_word (listed (map parameter_text names)) (bare (spell_names names))
parameters_read names =
    Reads-same refl (ap (λ list. bare (spell_any (spell_commas 0 spell_parameter) (commas_of list))) (map-id names) ∙ ap bare (names_spelled names))
    (Reads-listed parameter_text spell_parameter (λ name. name) parameter_reads 0 names)

head_reads : (first : List Count) (procedure gives : Bool) → Reads anything (cilk_text procedure ++ result_text gives) (bare (spell_head first procedure gives))
head_reads first true true = Reads-fixed (Lexed (Word word.Cilk) ∷ Space ∷ Lexed (Word word.Int) ∷ Space ∷ []) (λ rest. refl)
head_reads first true false = Reads-fixed (Lexed (Word word.Cilk) ∷ Space ∷ Lexed (Word word.Void) ∷ Space ∷ []) (λ rest. refl)
head_reads first false true = Reads-fixed (Lexed (Word word.Int) ∷ Space ∷ []) (λ rest. refl)
head_reads first false false = Reads-fixed (Lexed (Word word.Void) ∷ Space ∷ []) (λ rest. refl)

body_reads : (body : List Stmt) → Reads anything (flat_map (λ statement. statement_lines statement 1) body) (bare (spell_inners 1 (inners_after NoInners (map plain_statement body))))
body_reads body =
    Reads-same refl (ap bare (sym (inners_tokens 1 NoInners (map plain_statement body))))
    (Reads-each (λ statement. statement_lines statement 1) (spell_inner 1) plain_statement (λ s. (statement_is_printed s).at 1 1) body)

abbrev first_counts : List Count
first_counts = OneMore counted.Functions ∷ Anew counted.Parameters ∷ Anew counted.Variables ∷ []

function_tokens : (name : List ℕ) (heads names inside : List Spelled)
    → bare heads ++ Name name ∷ [] ++ Mark sign.OpenParen ∷ [] ++ bare names ++ Mark sign.CloseParen ∷ Mark sign.OpenBrace ∷ [] ++ bare inside ++ Mark sign.CloseBrace ∷ []
    ≡ bare (heads ++ plain 0 (Name name) ∷ mark 0 sign.OpenParen ∷ names ++ mark 0 sign.CloseParen ∷ mark 0 sign.OpenBrace ∷ inside ++ mark 0 sign.CloseBrace ∷ [])
function_tokens name heads names inside = grind (arith, common_steps, bare-append, bare-cons)

function_printed : (f : Function) → Reads anything (function_lines f) (bare (spell_item (plain_function f)))
function_printed f =
    let named = Reads-on (head_reads first_counts f.«cilk» f.gives) (Reads-token (Name f.name)) in
    let opened = Reads-then named (Reads-fixed (Lexed (Mark sign.OpenParen) ∷ []) (λ rest. refl)) (λ valid rest h. refl) in
    let braced = Reads-fixed (Lexed (Mark sign.CloseParen) ∷ Space ∷ Lexed (Mark sign.OpenBrace) ∷ []) (λ rest. refl) in
    let headed = Reads-line 0 (Reads-then (Reads-on opened (parameters_read f.params)) braced (λ valid rest h. refl)) in
    Reads-same refl (function_tokens f.name (spell_head first_counts f.«cilk» f.gives) (spell_names f.params) (spell_inners 1 (inners_after NoInners (map plain_statement f.body))))
    (Reads-on (Reads-on headed (body_reads f.body)) (end_printed 0))

-- ---- programs

row_tokens : (before : Source) (more : List Item) → spell_source (row_after before more) ≡ spell_source before ++ flat_map spell_item more
row_tokens before [] = sym (append-nil (spell_source before))
row_tokens before (next ∷ rest) = row_tokens (Then before next) rest ∙ append_assoc (spell_source before) (spell_item next) (flat_map spell_item rest)

source_printed : (program : Program) → Reads anything (canonical_text program) (source_tokens (plain_source program))
source_printed program =
    let arrays = map plain_array program.shared in
    let functions = map plain_function program.functions in
    let tokens : bare (flat_map spell_item arrays) ++ bare (flat_map spell_item functions) ≡ bare (spell_source (plain_source program)) =
    sym (bare-append (flat_map spell_item arrays) (flat_map spell_item functions))
    ∙ ap (λ list. bare (list ++ flat_map spell_item functions)) (sym (row_tokens Empty arrays))
    ∙ ap bare (sym (row_tokens (row_after Empty arrays) functions)) in
    Reads-same refl tokens (Reads-on (Reads-each array_line spell_item plain_array array_printed program.shared) (Reads-each function_lines spell_item plain_function function_printed program.functions))

pub canonical_spells : (program : Program) → IsWritable program → Spells (canonical_text program) program
canonical_spells program writable =
    let source = plain_source program in
    let valid = and_parts (list_all is_token (source_tokens source)) (is_within_limits source) writable in
    let found = Reads-whole (canonical_text program) (source_tokens source) (source_printed program) valid.0 in
    (found.0, found.2, record { source = source; formed = plain_formed program; same = found.1; limits = valid.1; tree = sym (plain_tree program) })
