-- The canonical syntax of statements is covered by their own.
use Rattle.std.proofs.Common.{◌≡◌, ℕ, ◌+◌, pos, false, ◌&&◌, not, IsTrue, IsFalse, Option, Some, None, option_map, List, [], ◌∷◌, ◌++◌, map, refl, sym, ap, ◌∙◌, subst, arith}
use Rattle.std.proofs.lemmas.Bool.{and_parts, false≢true}
use Rattle.std.proofs.lemmas.List.{append-nil, append_assoc}
use Rattle.cilk_tree.specs.declared.token.Keyword.{Keyword}
use Rattle.cilk_tree.specs.declared.token.Keyword.TheVariants as word
use Rattle.cilk_tree.specs.declared.token.Token.{Token}
use Rattle.cilk_tree.specs.declared.token.Token.TheVariants.{Word, Mark}
use Rattle.cilk_tree.specs.declared.token.Sign.TheVariants.{OpenParen, CloseParen, OpenBrace, CloseBrace, Semicolon}
use Rattle.cilk_tree.specs.declared.tree.Stmt.{Stmt}
use Rattle.cilk_tree.specs.declared.tree.Stmt.TheVariants as stmt
use Rattle.cilk_tree.specs.declared.count.Counted.{Counted}
use Rattle.cilk_tree.specs.declared.count.Counted.TheVariants.{Operators, Parameters, Arguments, Variables, Arrays, Functions}
use Rattle.cilk_tree.specs.declared.count.Count.TheVariants.{Anew}
use Rattle.cilk_tree.specs.Counts.{is_same}
use Rattle.cilk_tree.specs.Levels.{Spelled, plain, mark, word_at, spell_whole, spell_any, spell_call, spell_addition, spell_simple, spell_start, spell_condition, spell_statement, spell_inner, spell_inners, spell_body, spell_declaration}
use Rattle.cilk_tree.specs.Sugar.{expression_tree, commas_list, if_there, argument_trees, call_tree, addition_tree, one_simple, declarator_trees, start_trees, condition_tree, statement_trees, inner_trees, inners_trees, body_trees}
use Rattle.cilk_tree.specs.Syntax.{Expression, Numeral, Call, Addition, Statement, Nothing, Simply, Calling, Adding, Syncing, IfAlone, IfElse, WhileLoop, ForLoop, Printing, Returning, Inner, Declaration, Block, Stated, Inners, NoInners, ThenInner, Body, Braced, Single, is_grouped, is_call, is_addition, is_simple, is_start, if_any, dangles, is_statement, is_inner, are_inners, is_body}
use Rattle.cilk_tree.specs.Writable.{inners_after, plain_inner_here, plain_statement}
use Rattle.cilk_reader.proofs.Bounds.Closed.{in_statement, quiet_token, quiet_expression, closed_token, closed_whole, closed_addition, closed_call, covers_followed}
use Rattle.cilk_reader.proofs.Bounds.Covering.{fine_first, level_of_fine, at_level, Safe, Agrees, Covers, covers_none, covers_both, covers_swap, covers_around, covers_same, covers_without_front, covers_without_end}
use Rattle.cilk_reader.proofs.Bounds.Folds.{fold_if, fold_while, fold_block, fold_print, fold_return, fold_sync}
use Rattle.cilk_reader.proofs.Bounds.PlainCalls.{follows_itself, follows_expression, follows_addition, follows_call, printed_addition, printed_call, plain-addition_tree, plain-call_tree}
use Rattle.cilk_reader.proofs.Bounds.PlainExpressions.{regrouped, plain-regrouped}
use Rattle.cilk_reader.proofs.Bounds.Tallies.{begun_adds}
use Rattle.cilk_reader.proofs.Bounds.PlainSimples.{apart, lines, lines-append, one_line, one_simple_covers, declaration_covers, start_covers, last_covers}

-- ---- the tokens of the canonical syntax of statements that hold others

-- in braces
abbrev braces : ℕ → List Spelled → List Spelled
braces level xs = mark level OpenBrace ∷ xs ++ mark level CloseBrace ∷ []

-- a keyword and a condition in parentheses
abbrev headed : ℕ → Keyword → Expression → List Spelled
headed level keyword condition = word_at level keyword ∷ spell_condition level condition

pub inners_lines : (level : ℕ) (before : Inners) (statements : List Stmt) → spell_inners level (inners_after before (map plain_statement statements)) ≡ spell_inners level before ++ lines level statements
inners_lines level before [] = sym (append-nil (spell_inners level before))
inners_lines level before (statement ∷ more) =
    inners_lines level (ThenInner before (plain_statement statement)) more ∙ append_assoc (spell_inners level before) (spell_inner level (plain_statement statement)) (lines level more)

block_tokens : (level : ℕ) (inside : List Stmt) → spell_inner level (plain_statement (stmt.Block inside)) ≡ braces level (lines (level + 1) inside)
block_tokens level inside = ap (spell_inner level) (fold_block plain_inner_here inside) ∙ ap (braces level) (inners_lines (level + 1) NoInners inside)

while_tokens : (level : ℕ) (condition : Expression) (body : List Stmt) → spell_inner level (plain_statement (stmt.While (expression_tree condition) body)) ≡ headed level word.While (regrouped condition) ++ braces level (lines (level + 1) body)
while_tokens level condition body =
    ap (spell_inner level) (fold_while plain_inner_here (expression_tree condition) body)
    ∙ ap (λ e. headed level word.While e ++ braces level (spell_inners (level + 1) (inners_after NoInners (map plain_statement body)))) (plain-regrouped condition)
    ∙ ap (λ xs. headed level word.While (regrouped condition) ++ braces level xs) (inners_lines (level + 1) NoInners body)

-- what stands behind the braces of an `if`
abbrev else_tokens : ℕ → List Stmt → List Spelled
else_tokens level [] = []
else_tokens level (first ∷ rest) = word_at level word.Else ∷ braces level (lines (level + 1) (first ∷ rest))

if_tokens : (level : ℕ) (condition : Expression) (taken otherwise : List Stmt) → spell_inner level (plain_statement (stmt.If (expression_tree condition) taken otherwise)) ≡ (headed level word.If (regrouped condition) ++ braces level (lines (level + 1) taken)) ++ else_tokens level otherwise
if_tokens level condition taken [] =
    ap (spell_inner level) (fold_if plain_inner_here (expression_tree condition) taken [])
    ∙ ap (λ e. headed level word.If e ++ braces level (spell_inners (level + 1) (inners_after NoInners (map plain_statement taken)))) (plain-regrouped condition)
    ∙ ap (λ xs. headed level word.If (regrouped condition) ++ braces level xs) (inners_lines (level + 1) NoInners taken)
    ∙ sym (append-nil (headed level word.If (regrouped condition) ++ braces level (lines (level + 1) taken)))
if_tokens level condition taken (first ∷ rest) =
    let others = spell_inners (level + 1) (inners_after NoInners (map plain_statement (first ∷ rest))) in
    ap (spell_inner level) (fold_if plain_inner_here (expression_tree condition) taken (first ∷ rest))
    ∙ ap (λ e. (headed level word.If e ++ braces level (spell_inners (level + 1) (inners_after NoInners (map plain_statement taken)))) ++ (word_at level word.Else ∷ braces level others)) (plain-regrouped condition)
    ∙ ap (λ xs. (headed level word.If (regrouped condition) ++ braces level xs) ++ (word_at level word.Else ∷ braces level others)) (inners_lines (level + 1) NoInners taken)
    ∙ ap (λ xs. (headed level word.If (regrouped condition) ++ braces level (lines (level + 1) taken)) ++ (word_at level word.Else ∷ braces level xs)) (inners_lines (level + 1) NoInners (first ∷ rest))

-- ---- statements that hold others

whole_covers : (level : ℕ) (e : Expression) → IsTrue (is_grouped e) → Covers in_statement (spell_whole level e) (spell_whole level (regrouped e))
whole_covers level e is = covers_followed (spell_whole level e) (spell_whole level (regrouped e)) (closed_whole level e) (follows_expression level (Anew Operators ∷ []) e is)

-- signs that stay
pub same_token : (level : ℕ) (token : Token) → Covers in_statement (plain level token ∷ []) (plain level token ∷ [])
same_token level token = covers_followed (plain level token ∷ []) (plain level token ∷ []) (closed_token level token) (follows_itself (plain level token ∷ []))

opening_same : (level : ℕ) (keyword : Keyword) → Covers in_statement (at_level level (Word keyword ∷ Mark OpenParen ∷ [])) (at_level level (Word keyword ∷ Mark OpenParen ∷ []))
opening_same level keyword = covers_both in_statement (plain level (Word keyword) ∷ []) (plain level (Word keyword) ∷ []) (mark level OpenParen ∷ []) (mark level OpenParen ∷ []) (same_token level (Word keyword)) (same_token level (Mark OpenParen))

-- the keyword and the condition that stay
condition_same : (level : ℕ) (keyword : Keyword) (e : Expression) → IsTrue (is_grouped e) → Covers in_statement (headed level keyword e) (headed level keyword (regrouped e))
condition_same level keyword e is =
    let opening = at_level level (Word keyword ∷ Mark OpenParen ∷ []) in
    covers_both in_statement (opening ++ spell_whole level e) (opening ++ spell_whole level (regrouped e)) (mark level CloseParen ∷ []) (mark level CloseParen ∷ [])
    (covers_both in_statement opening opening (spell_whole level e) (spell_whole level (regrouped e)) (opening_same level keyword) (whole_covers level e is)) (same_token level (Mark CloseParen))

-- A keyword, a condition, and a body that is put into braces.
headed_covers : (level : ℕ) (keyword : Keyword) (condition : Expression) (xs ys : List Spelled) → IsTrue (is_grouped condition) → Covers in_statement xs ys → Covers in_statement (headed level keyword condition ++ xs) (headed level keyword (regrouped condition) ++ braces level ys)
headed_covers level keyword condition xs ys is covers =
    let opening = Word keyword ∷ Mark OpenParen ∷ [] in
    let closing = mark level CloseParen in
    covers_same in_statement ((at_level level opening ++ spell_whole level condition) ++ (closing ∷ xs)) (headed level keyword condition ++ xs)
    ((at_level level opening ++ spell_whole level (regrouped condition)) ++ ((closing ∷ mark level OpenBrace ∷ ys) ++ mark level CloseBrace ∷ [])) (headed level keyword (regrouped condition) ++ braces level ys)
    (simp append_assoc) (simp append_assoc)
    (covers_both in_statement (at_level level opening ++ spell_whole level condition) (at_level level opening ++ spell_whole level (regrouped condition)) (closing ∷ xs) ((closing ∷ mark level OpenBrace ∷ ys) ++ mark level CloseBrace ∷ [])
    (covers_both in_statement (at_level level opening) (at_level level opening) (spell_whole level condition) (spell_whole level (regrouped condition))
    (opening_same level keyword) (whole_covers level condition is))
    (covers_around in_statement level (Mark CloseParen ∷ Mark OpenBrace ∷ []) (Mark CloseBrace ∷ []) (closing ∷ xs) ys refl refl (λ h. level_of_fine closing (fine_first closing xs h))
    (covers_without_front in_statement level (Mark CloseParen ∷ []) xs ys covers)))

else_covers : (level : ℕ) (xs : List Spelled) (otherwise : List Stmt) → Covers in_statement xs (lines (level + 1) otherwise) → Covers in_statement (word_at level word.Else ∷ xs) (else_tokens level otherwise)
else_covers level xs [] covers = covers_without_front in_statement level (Word word.Else ∷ []) xs [] covers
else_covers level xs (first ∷ rest) covers =
    covers_around in_statement level (Word word.Else ∷ Mark OpenBrace ∷ []) (Mark CloseBrace ∷ []) (word_at level word.Else ∷ xs) (lines (level + 1) (first ∷ rest)) refl refl
    (λ h. level_of_fine (word_at level word.Else) (fine_first (word_at level word.Else) xs h))
    (covers_without_front in_statement level (Word word.Else ∷ []) xs (lines (level + 1) (first ∷ rest)) covers)

block_covers : (level : ℕ) (xs : List Spelled) (inside : List Stmt) → Covers in_statement xs (lines (level + 1) inside) → Covers in_statement (braces level xs) (lines level (stmt.Block inside ∷ []))
block_covers level xs inside covers =
    subst (Covers in_statement (braces level xs)) (sym (block_tokens level inside) ∙ one_line level (stmt.Block inside))
    (covers_around in_statement level (Mark OpenBrace ∷ []) (Mark CloseBrace ∷ []) (braces level xs) (lines (level + 1) inside) refl refl (λ h. level_of_fine (mark level OpenBrace) (fine_first (mark level OpenBrace) (xs ++ mark level CloseBrace ∷ []) h))
    (covers_without_front in_statement level (Mark OpenBrace ∷ []) (xs ++ mark level CloseBrace ∷ []) (lines (level + 1) inside) (covers_without_end in_statement level (Mark CloseBrace ∷ []) xs (lines (level + 1) inside) covers)))

-- ---- `for`

-- the condition of a `for`, which may be absent, and is 1 then
abbrev condition_of : Option Expression → Expression
condition_of None = Numeral (pos 1)
condition_of (Some condition) = condition

condition_is : (condition : Option Expression) → expression_tree (condition_of condition) ≡ condition_tree condition
condition_is None = refl
condition_is (Some condition) = refl

-- the number 1 in place of a sign
number_covers : (level : ℕ) → Covers in_statement (mark level Semicolon ∷ []) (spell_whole level (Numeral (pos 1)))
number_covers level = record { fine = λ h. h; safe = safe; agrees = λ c is. agrees c is }
  where
    sign : List Spelled
    sign = mark level Semicolon ∷ []

    safe : (c : Counted) → IsTrue (in_statement c) → Safe c sign (spell_whole level (Numeral (pos 1)))
    safe Operators is = record { begun = begun_adds Operators sign (quiet_token Operators level (Mark Semicolon)); keeps = λ s. (omega arith, omega arith) }
    safe Arguments is = record { begun = begun_adds Arguments sign (quiet_token Arguments level (Mark Semicolon)); keeps = λ s. (omega arith, omega arith) }
    safe Parameters is = absurd (false≢true is)
    safe Variables is = absurd (false≢true is)
    safe Arrays is = absurd (false≢true is)
    safe Functions is = absurd (false≢true is)

    both : (c : Counted) → is_same c Operators ≡ false → Agrees c sign (spell_whole level (Numeral (pos 1)))
    both c is =
        let other = apart c is in
        record { amount = 0; source = quiet_token c level (Mark Semicolon); other = quiet_expression c level (Anew Operators ∷ []) (Numeral (pos 1)) other.light other.same }

    agrees : (c : Counted) → IsFalse (in_statement c) → Agrees c sign (spell_whole level (Numeral (pos 1)))
    agrees Operators is = absurd (false≢true (sym is))
    agrees Arguments is = both Arguments refl
    agrees Parameters is = both Parameters refl
    agrees Variables is = both Variables refl
    agrees Arrays is = both Arrays refl
    agrees Functions is = both Functions refl

any_condition_covers : (level : ℕ) (condition : Option Expression) → IsTrue (if_any is_grouped condition) → Covers in_statement (mark level Semicolon ∷ spell_any (spell_whole level) condition) (spell_whole level (regrouped (condition_of condition)))
any_condition_covers level None is = number_covers level
any_condition_covers level (Some condition) is =
    covers_without_front in_statement level (Mark Semicolon ∷ []) (spell_whole level condition) (spell_whole level (regrouped condition)) (whole_covers level condition is)

condition_covers : (level : ℕ) (condition : Option Expression) → IsTrue (if_any is_grouped condition) → Covers in_statement (mark level Semicolon ∷ spell_any (spell_whole level) condition) (headed level word.While (regrouped (condition_of condition)) ++ mark level OpenBrace ∷ [])
condition_covers level condition is =
    let xs = spell_any (spell_whole level) condition in
    let ys = spell_whole level (regrouped (condition_of condition)) in
    let opening = at_level level (Word word.While ∷ Mark OpenParen ∷ []) in
    subst (Covers in_statement (mark level Semicolon ∷ xs)) (sym (append_assoc (opening ++ ys) (mark level CloseParen ∷ []) (mark level OpenBrace ∷ [])))
    (covers_around in_statement level (Word word.While ∷ Mark OpenParen ∷ []) (Mark CloseParen ∷ Mark OpenBrace ∷ []) (mark level Semicolon ∷ xs) ys refl refl (λ h. level_of_fine (mark level Semicolon) (fine_first (mark level Semicolon) xs h))
    (any_condition_covers level condition is))

-- the lines of the first part and of the `while` with the last part behind its body
for_lines : (level : ℕ) (condition : Expression) (start last body : List Stmt) → lines (level + 1) start ++ ((headed (level + 1) word.While (regrouped condition) ++ mark (level + 1) OpenBrace ∷ []) ++ ((lines (level + 2) body ++ lines (level + 2) last) ++ mark (level + 1) CloseBrace ∷ [])) ≡ lines (level + 1) (start ++ stmt.While (expression_tree condition) (body ++ last) ∷ [])
for_lines level condition start last body =
    let head = headed (level + 1) word.While (regrouped condition) in
    let close = mark (level + 1) CloseBrace ∷ [] in
    let deeper : level + 2 ≡ level + 1 + 1 = omega arith in
    let looped = stmt.While (expression_tree condition) (body ++ last) in
    ap (λ xs. lines (level + 1) start ++ xs) (append_assoc head (mark (level + 1) OpenBrace ∷ []) ((lines (level + 2) body ++ lines (level + 2) last) ++ close))
    ∙ ap (λ xs. lines (level + 1) start ++ (head ++ braces (level + 1) xs)) (sym (lines-append (level + 2) body last))
    ∙ ap (λ l. lines (level + 1) start ++ (head ++ braces (level + 1) (lines l (body ++ last)))) deeper
    ∙ ap (λ xs. lines (level + 1) start ++ xs) (sym (while_tokens (level + 1) condition (body ++ last)) ∙ one_line (level + 1) looped)
    ∙ sym (lines-append (level + 1) start (looped ∷ []))

-- the tokens of a `for`
abbrev looping : ℕ → List Spelled → List Spelled → List Spelled → List Spelled → List Spelled
looping level starts conditions lasts bodies =
    word_at level word.For ∷ mark level OpenParen ∷ starts ++ mark (level + 1) Semicolon ∷ conditions ++ mark (level + 1) Semicolon ∷ lasts ++ mark level CloseParen ∷ bodies

for_covers : (level : ℕ) (start : List Stmt) (condition : Option Expression) (last body : List Stmt) (starts lasts bodies : List Spelled) → IsTrue (if_any is_grouped condition) → Covers in_statement starts (lines (level + 1) start) → Covers in_statement lasts (lines (level + 2) last) → Covers in_statement bodies (lines (level + 2) body) → Covers in_statement (looping level starts (spell_any (spell_whole (level + 1)) condition) lasts bodies) (lines level (stmt.Block (start ++ stmt.While (condition_tree condition) (body ++ last) ∷ []) ∷ []))
for_covers level start condition last body starts lasts bodies is first behind inside =
    let opening = at_level level (Word word.For ∷ Mark OpenParen ∷ []) in
    let conditions = mark (level + 1) Semicolon ∷ spell_any (spell_whole (level + 1)) condition in
    let tail = (mark (level + 1) Semicolon ∷ lasts) ++ (mark level CloseParen ∷ bodies) in
    let xs = (opening ++ starts) ++ (conditions ++ tail) in
    let given = looping level starts (spell_any (spell_whole (level + 1)) condition) lasts bodies in
    let rest = mark level OpenParen ∷ starts ++ mark (level + 1) Semicolon ∷ spell_any (spell_whole (level + 1)) condition ++ mark (level + 1) Semicolon ∷ lasts ++ mark level CloseParen ∷ bodies in
    let whole = start ++ stmt.While (expression_tree (condition_of condition)) (body ++ last) ∷ [] in
    let head = headed (level + 1) word.While (regrouped (condition_of condition)) ++ mark (level + 1) OpenBrace ∷ [] in
    let ys = lines (level + 2) body ++ lines (level + 2) last in
    let closed = at_level (level + 1) [] ++ ys ++ at_level (level + 1) (Mark CloseBrace ∷ []) in
    let swapped = covers_swap in_statement (mark (level + 1) Semicolon ∷ lasts) (lines (level + 2) last) (mark level CloseParen ∷ bodies) (lines (level + 2) body)
    (covers_without_front in_statement (level + 1) (Mark Semicolon ∷ []) lasts (lines (level + 2) last) behind) (covers_without_front in_statement level (Mark CloseParen ∷ []) bodies (lines (level + 2) body) inside) in
    let ended = covers_around in_statement (level + 1) [] (Mark CloseBrace ∷ []) tail ys refl refl (λ h. level_of_fine (mark (level + 1) Semicolon) (fine_first (mark (level + 1) Semicolon) (lasts ++ mark level CloseParen ∷ bodies) h)) swapped in
    let joined = covers_both in_statement (opening ++ starts) (lines (level + 1) start) (conditions ++ tail) (head ++ closed)
    (covers_without_front in_statement level (Word word.For ∷ Mark OpenParen ∷ []) starts (lines (level + 1) start) first)
    (covers_both in_statement conditions head tail closed (condition_covers (level + 1) condition is) ended) in
    let ordered = covers_same in_statement xs given (lines (level + 1) start ++ (head ++ closed)) (lines (level + 1) whole) (simp append_assoc) (for_lines level (condition_of condition) start last body) joined in
    subst (λ e. Covers in_statement given (lines level (stmt.Block (start ++ stmt.While e (body ++ last) ∷ []) ∷ []))) (condition_is condition)
    (subst (Covers in_statement given) (sym (block_tokens level whole) ∙ one_line level (stmt.Block whole))
    (covers_around in_statement level (Mark OpenBrace ∷ []) (Mark CloseBrace ∷ []) given (lines (level + 1) whole) refl refl (λ h. level_of_fine (word_at level word.For) (fine_first (word_at level word.For) rest h)) ordered))

-- ---- statements that hold none

calling_covers : (level : ℕ) (call : Call) → IsTrue (is_call call) → Covers in_statement (spell_statement level (Calling call)) (lines level (statement_trees (Calling call)))
calling_covers level call is =
    let xs = spell_statement level (Calling call) in
    let tree = call_tree None call.spawned call.name (argument_trees call.arguments) in
    subst (Covers in_statement xs) (one_line level tree)
    (subst (λ i. Covers in_statement xs (spell_inner level i)) (sym (plain-call_tree None call.spawned call.name (argument_trees call.arguments)))
    (covers_both in_statement (spell_call level call) (spell_call level (printed_call call)) (mark level Semicolon ∷ []) (mark level Semicolon ∷ [])
    (covers_followed (spell_call level call) (spell_call level (printed_call call)) (closed_call level call) (follows_call level call is)) (same_token level (Mark Semicolon))))

adding_covers : (level : ℕ) (addition : Addition) → IsTrue (is_addition addition) → Covers in_statement (spell_statement level (Adding addition)) (lines level (statement_trees (Adding addition)))
adding_covers level addition is =
    let xs = spell_statement level (Adding addition) in
    let tree = addition_tree None addition in
    subst (Covers in_statement xs) (one_line level tree)
    (subst (λ i. Covers in_statement xs (spell_inner level i)) (sym (plain-addition_tree None addition))
    (covers_both in_statement (spell_addition level addition) (spell_addition level (printed_addition addition)) (mark level Semicolon ∷ []) (mark level Semicolon ∷ [])
    (covers_followed (spell_addition level addition) (spell_addition level (printed_addition addition)) (closed_addition level addition) (follows_addition level addition is)) (same_token level (Mark Semicolon))))

syncing_covers : (level : ℕ) → Covers in_statement (spell_statement level Syncing) (lines level (statement_trees Syncing))
syncing_covers level =
    subst (λ i. Covers in_statement (spell_statement level Syncing) (spell_inner level i ++ [])) (sym (fold_sync plain_inner_here))
    (covers_both in_statement (word_at level word.Sync ∷ []) (word_at level word.Sync ∷ []) (mark level Semicolon ∷ []) (mark level Semicolon ∷ []) (same_token level (Word word.Sync)) (same_token level (Mark Semicolon)))

printing_covers : (level : ℕ) (value : Expression) → IsTrue (is_grouped value) → Covers in_statement (spell_statement level (Printing value)) (lines level (statement_trees (Printing value)))
printing_covers level value is =
    let xs = spell_statement level (Printing value) in
    let tree = stmt.Print (expression_tree value) in
    subst (Covers in_statement xs) (one_line level tree)
    (subst (λ i. Covers in_statement xs (spell_inner level i)) (sym (fold_print plain_inner_here (expression_tree value) ∙ ap (λ e. Stated (Printing e)) (plain-regrouped value)))
    (covers_both in_statement (headed level word.Print value) (headed level word.Print (regrouped value)) (mark level Semicolon ∷ []) (mark level Semicolon ∷ []) (condition_same level word.Print value is) (same_token level (Mark Semicolon))))

returned_covers : (level : ℕ) (value : Option Expression) (printed : Option Expression) → Covers in_statement (spell_any (spell_whole level) value) (spell_any (spell_whole level) printed) → plain_statement (stmt.Return (option_map expression_tree value)) ≡ Stated (Returning printed) → Covers in_statement (spell_statement level (Returning value)) (lines level (statement_trees (Returning value)))
returned_covers level value printed covers is =
    let xs = spell_statement level (Returning value) in
    let tree = stmt.Return (option_map expression_tree value) in
    let front = word_at level word.Return ∷ [] in
    subst (Covers in_statement xs) (one_line level tree)
    (subst (λ i. Covers in_statement xs (spell_inner level i)) (sym is)
    (covers_both in_statement (front ++ spell_any (spell_whole level) value) (front ++ spell_any (spell_whole level) printed) (mark level Semicolon ∷ []) (mark level Semicolon ∷ [])
    (covers_both in_statement front front (spell_any (spell_whole level) value) (spell_any (spell_whole level) printed) (same_token level (Word word.Return)) covers) (same_token level (Mark Semicolon))))

returning_covers : (level : ℕ) (value : Option Expression) → IsTrue (if_any is_grouped value) → Covers in_statement (spell_statement level (Returning value)) (lines level (statement_trees (Returning value)))
returning_covers level None is = returned_covers level None None (covers_none in_statement level []) (fold_return plain_inner_here None)
returning_covers level (Some value) is =
    returned_covers level (Some value) (Some (regrouped value)) (whole_covers level value is) (fold_return plain_inner_here (Some (expression_tree value)) ∙ ap (λ e. Stated (Returning (Some e))) (plain-regrouped value))

mutual
  statement_covers : (level : ℕ) (statement : Statement) → IsTrue (is_statement statement) → Covers in_statement (spell_statement level statement) (lines level (statement_trees statement))
  statement_covers level Nothing is = covers_none in_statement level (Mark Semicolon ∷ [])
  statement_covers level (Simply simple) is =
      covers_without_end in_statement level (Mark Semicolon ∷ []) (spell_simple level simple) (lines level (one_simple simple)) (one_simple_covers level simple is)
  statement_covers level (Calling call) is = calling_covers level call is
  statement_covers level (Adding addition) is = adding_covers level addition is
  statement_covers level Syncing is = syncing_covers level
  statement_covers level (IfAlone condition taken) is =
      let parts = and_parts (is_grouped condition) (is_body taken) is in
      subst (Covers in_statement (spell_statement level (IfAlone condition taken)))
      (sym (append-nil (headed level word.If (regrouped condition) ++ braces level (lines (level + 1) (body_trees taken)))) ∙ sym (if_tokens level condition (body_trees taken) []) ∙ one_line level (stmt.If (expression_tree condition) (body_trees taken) []))
      (headed_covers level word.If condition (spell_body level (level + 1) taken) (lines (level + 1) (body_trees taken)) parts.0 (body_covers level (level + 1) taken parts.1))
  statement_covers level (IfElse condition taken otherwise) is =
      let three = and_parts (is_grouped condition && is_body taken && not (dangles taken)) (is_body otherwise) is in
      let two = and_parts (is_grouped condition && is_body taken) (not (dangles taken)) three.0 in
      let one = and_parts (is_grouped condition) (is_body taken) two.0 in
      subst (Covers in_statement (spell_statement level (IfElse condition taken otherwise)))
      (sym (if_tokens level condition (body_trees taken) (body_trees otherwise)) ∙ one_line level (stmt.If (expression_tree condition) (body_trees taken) (body_trees otherwise)))
      (covers_both in_statement (headed level word.If condition ++ spell_body level (level + 1) taken) (headed level word.If (regrouped condition) ++ braces level (lines (level + 1) (body_trees taken)))
      (word_at level word.Else ∷ spell_body level (level + 1) otherwise) (else_tokens level (body_trees otherwise))
      (headed_covers level word.If condition (spell_body level (level + 1) taken) (lines (level + 1) (body_trees taken)) one.0 (body_covers level (level + 1) taken one.1))
      (else_covers level (spell_body level (level + 1) otherwise) (body_trees otherwise) (body_covers level (level + 1) otherwise three.1)))
  statement_covers level (WhileLoop condition body) is =
      let parts = and_parts (is_grouped condition) (is_body body) is in
      subst (Covers in_statement (spell_statement level (WhileLoop condition body)))
      (sym (while_tokens level condition (body_trees body)) ∙ one_line level (stmt.While (expression_tree condition) (body_trees body)))
      (headed_covers level word.While condition (spell_body level (level + 1) body) (lines (level + 1) (body_trees body)) parts.0 (body_covers level (level + 1) body parts.1))
  statement_covers level (ForLoop start condition last body) is =
      let three = and_parts (is_start start && if_any is_grouped condition && if_any is_simple last) (is_body body) is in
      let two = and_parts (is_start start && if_any is_grouped condition) (if_any is_simple last) three.0 in
      let one = and_parts (is_start start) (if_any is_grouped condition) two.0 in
      for_covers level (start_trees start) condition (if_there one_simple last) (body_trees body) (spell_start (level + 1) start) (spell_any (spell_simple (level + 2)) last) (spell_body level (level + 2) body)
      one.1 (start_covers (level + 1) start one.0) (last_covers (level + 2) last two.1) (body_covers level (level + 2) body three.1)
  statement_covers level (Printing value) is = printing_covers level value is
  statement_covers level (Returning value) is = returning_covers level value is

  inner_covers : (level : ℕ) (inner : Inner) → IsTrue (is_inner inner) → Covers in_statement (spell_inner level inner) (lines level (inner_trees inner))
  inner_covers level (Declaration declarators) is =
      covers_without_end in_statement level (Mark Semicolon ∷ []) (spell_declaration level declarators) (lines level (commas_list declarator_trees declarators)) (declaration_covers level declarators is)
  inner_covers level (Block inside) is = block_covers level (spell_inners (level + 1) inside) (inners_trees inside) (inners_cover (level + 1) inside is)
  inner_covers level (Stated statement) is = statement_covers level statement is

  pub inners_cover : (level : ℕ) (inners : Inners) → IsTrue (are_inners inners) → Covers in_statement (spell_inners level inners) (lines level (inners_trees inners))
  inners_cover level NoInners is = covers_none in_statement level []
  inners_cover level (ThenInner before last) is =
      let parts = and_parts (are_inners before) (is_inner last) is in
      subst (Covers in_statement (spell_inners level (ThenInner before last))) (sym (lines-append level (inners_trees before) (inner_trees last)))
      (covers_both in_statement (spell_inners level before) (lines level (inners_trees before)) (spell_inner level last) (lines level (inner_trees last)) (inners_cover level before parts.0) (inner_covers level last parts.1))

  body_covers : (outer level : ℕ) (body : Body) → IsTrue (is_body body) → Covers in_statement (spell_body outer level body) (lines level (body_trees body))
  body_covers outer level (Braced inside) is =
      covers_without_front in_statement outer (Mark OpenBrace ∷ []) (spell_inners level inside ++ mark outer CloseBrace ∷ []) (lines level (inners_trees inside))
      (covers_without_end in_statement outer (Mark CloseBrace ∷ []) (spell_inners level inside) (lines level (inners_trees inside)) (inners_cover level inside is))
  body_covers outer level (Single statement) is = statement_covers level statement is
