-- The canonical syntax of assignments and declarations is covered by their own.
use Rattle.std.proofs.Common.{◌≡◌, ℕ, ◌+◌, ◌≤◌, pos, false, IsTrue, IsFalse, Option, Some, None, List, [], ◌∷◌, ◌++◌, refl, sym, ap, ◌∙◌, subst, arith}
use Rattle.std.proofs.lemmas.Bool.{and_parts, false≢true}
use Rattle.std.proofs.lemmas.List.{append-nil, append_assoc}
use Rattle.cilk_tree.specs.declared.token.Keyword.TheVariants as word
use Rattle.cilk_tree.specs.declared.token.Token.TheVariants.{Name, Word, Mark}
use Rattle.cilk_tree.specs.declared.token.Sign.TheVariants.{OpenBracket, CloseBracket, Comma, Semicolon, Assign}
use Rattle.cilk_tree.specs.declared.tree.Stmt.{Stmt}
use Rattle.cilk_tree.specs.declared.tree.Stmt.TheVariants as stmt
use Rattle.cilk_tree.specs.declared.count.Counted.{Counted}
use Rattle.cilk_tree.specs.declared.count.Counted.TheVariants.{Operators, Parameters, Arguments, Variables, Arrays, Functions}
use Rattle.cilk_tree.specs.declared.count.Count.TheVariants.{Anew, OneMore}
use Rattle.cilk_tree.specs.Counts.{is_same, tally}
use Rattle.cilk_tree.specs.Levels.{Spelled, counting, plain, mark, operator_sign, change_sign, step_sign, spell_expression, spell_whole, spell_any, spell_commas, spell_right, spell_declarator, spell_declaration, spell_simple, spell_start, spell_inner}
use Rattle.cilk_tree.specs.Sugar.{expression_tree, commas_list, if_there, right_tree, declarator_trees, direction_operator, simple_tree, one_simple, start_trees}
use Rattle.cilk_tree.specs.Syntax.{Commas, One, More, Expression, Numeral, Variable, Infix, Right, Value, Declarator, Bare, Valued, Direction, Up, Down, Simple, Assignment, Change, Step, Storing, Start, NoStart, SimpleStart, DeclaringStart, Stated, Simply, operator_strength, is_grouped, is_right, is_declarator, is_simple, is_start, each_of, if_any}
use Rattle.cilk_tree.specs.Canonical.{grouped, plain_expression}
use Rattle.cilk_tree.specs.Writable.{plain_inner_here, plain_statement}
use Rattle.cilk_reader.proofs.Bounds.Closed.{in_statement, closed_simple, closed_one, quiet_both, quiet_token, quiet_expression, quiet_change, covers_followed}
use Rattle.cilk_reader.proofs.Bounds.Covering.{Fine, fine_parts, fine_both, fine_first, level_of_fine, signs_fine, Safe, Agrees, Covers, covers_none, covers_both, covers_around, covers_without_front, covers_once}
use Rattle.cilk_reader.proofs.Bounds.Folds.{fold_declare, fold_put}
use Rattle.cilk_reader.proofs.Bounds.PlainCalls.{follows_itself, follows_both, follows_behind, follows_expression, follows_right, printed_right, plain-right_tree}
use Rattle.cilk_reader.proofs.Bounds.PlainExpressions.{regrouped, plain-regrouped, weight, operators, operators-regrouped, stays_expression, expression_bound}
use Rattle.cilk_reader.proofs.Bounds.PlainLevels.{kept, raised}
use Rattle.cilk_reader.proofs.Bounds.Tallies.{Stays, stays_end, stays_both, Adds, Begun, begun_adds}

-- the tokens of the canonical syntax of a list of statements
abbrev pub lines : ℕ → List Stmt → List Spelled
lines level [] = []
lines level (statement ∷ more) = spell_inner level (plain_statement statement) ++ lines level more

pub lines-append : (level : ℕ) (xs ys : List Stmt) → lines level (xs ++ ys) ≡ lines level xs ++ lines level ys
lines-append level [] ys = refl
lines-append level (x ∷ xs) ys = ap (λ zs. spell_inner level (plain_statement x) ++ zs) (lines-append level xs ys) ∙ sym (append_assoc (spell_inner level (plain_statement x)) (lines level xs) (lines level ys))

pub one_line : (level : ℕ) (statement : Stmt) → spell_inner level (plain_statement statement) ≡ lines level (statement ∷ [])
one_line level statement = sym (append-nil (spell_inner level (plain_statement statement)))

-- ---- assignments

-- a count that no operator changes
pub record Apart (counted : Counted) : Type 0 where
  pub light : weight counted ≡ 0
  pub same : (n : ℕ) → tally counted n (Anew Operators ∷ []) ≡ n
  pub change : (n : ℕ) → tally counted n (Anew Operators ∷ OneMore Operators ∷ []) ≡ n

pub apart : (c : Counted) → is_same c Operators ≡ false → Apart c
apart Operators is = absurd (false≢true (sym is))
apart Parameters is = record { light = refl; same = λ n. refl; change = λ n. refl }
apart Arguments is = record { light = refl; same = λ n. refl; change = λ n. refl }
apart Variables is = record { light = refl; same = λ n. refl; change = λ n. refl }
apart Arrays is = record { light = refl; same = λ n. refl; change = λ n. refl }
apart Functions is = record { light = refl; same = λ n. refl; change = λ n. refl }

-- the tokens of `x = e;`
abbrev assigned : ℕ → List ℕ → Expression → List Spelled
assigned level name e = plain level (Name name) ∷ mark level Assign ∷ spell_whole level e ++ mark level Semicolon ∷ []

quiet_assigned : (c : Counted) (level : ℕ) (name : List ℕ) (e : Expression) → Apart c → Adds c 0 (assigned level name e)
quiet_assigned c level name e other =
    quiet_both c (plain level (Name name) ∷ mark level Assign ∷ spell_whole level e) (mark level Semicolon ∷ [])
    (quiet_both c (plain level (Name name) ∷ mark level Assign ∷ []) (spell_whole level e)
    (quiet_both c (plain level (Name name) ∷ []) (mark level Assign ∷ []) (quiet_token c level (Name name)) (quiet_token c level (Mark Assign)))
    (quiet_expression c level (Anew Operators ∷ []) e other.light other.same))
    (quiet_token c level (Mark Semicolon))

assigned_covers : (level : ℕ) (name : List ℕ) (e : Expression) (xs : List Spelled) → Begun Operators xs → ((c : Counted) → Apart c → Adds c 0 xs) → (Fine xs → Fine (assigned level name e)) → (Stays Operators 256 xs → operators 1 e ≤ 256) → Covers in_statement xs (assigned level name e)
assigned_covers level name e xs begun quiet fine few = record { fine = fine; safe = safe; agrees = agrees }
  where
    safe : (c : Counted) → IsTrue (in_statement c) → Safe c xs (assigned level name e)
    safe Operators is = record {
      begun = begun;
      keeps = λ s.
          let whole = stays_expression Operators 256 level (Anew Operators ∷ []) e (omega arith) (omega (arith, few s)) in
          let ended = stays_end Operators 256 (spell_whole level e) whole in
          (omega arith, (omega arith, stays_both Operators 256 (spell_whole level e) (mark level Semicolon ∷ []) whole (ended, ended)));
    }
    safe Arguments is =
        let other = apart Arguments refl in
        record { begun = begun_adds Arguments xs (quiet Arguments other); keeps = λ s. (quiet_assigned Arguments level name e other).stays 16 (omega arith) }
    safe Parameters is = absurd (false≢true is)
    safe Variables is = absurd (false≢true is)
    safe Arrays is = absurd (false≢true is)
    safe Functions is = absurd (false≢true is)

    both : (c : Counted) → Apart c → Agrees c xs (assigned level name e)
    both c other = record { amount = 0; source = quiet c other; other = quiet_assigned c level name e other }

    agrees : (c : Counted) → IsFalse (in_statement c) → Agrees c xs (assigned level name e)
    agrees Operators is = absurd (false≢true (sym is))
    agrees Arguments is = absurd (false≢true (sym is))
    agrees Parameters is = both Parameters (apart Parameters refl)
    agrees Variables is = both Variables (apart Variables refl)
    agrees Arrays is = both Arrays (apart Arrays refl)
    agrees Functions is = both Functions (apart Functions refl)

-- the tokens before a `;` at a level that they have
ended : (level : ℕ) (x : Spelled) (xs ys : List Spelled) → x.level ≡ level → Covers in_statement (x ∷ xs) ys → Covers in_statement (x ∷ xs) (ys ++ mark level Semicolon ∷ [])
ended level x xs ys is covers = covers_around in_statement level [] (Mark Semicolon ∷ []) (x ∷ xs) ys refl refl (λ h. omega (arith, level_of_fine x (fine_first x xs h))) covers

assignment_covers : (level : ℕ) (name : List ℕ) (value : Right) → IsTrue (is_right value) → Covers in_statement (spell_simple level (Assignment name value)) (spell_inner level (plain_statement (right_tree name value)))
assignment_covers level name value is =
    let front = plain level (Name name) ∷ mark level Assign ∷ [] in
    let ys = spell_simple level (Assignment name (printed_right value)) in
    subst (λ i. Covers in_statement (spell_simple level (Assignment name value)) (spell_inner level i)) (sym (plain-right_tree name value))
    (ended level (plain level (Name name)) (mark level Assign ∷ spell_right level value) ys refl
    (covers_followed (spell_simple level (Assignment name value)) ys (closed_simple level (Assignment name value)) (follows_behind front (spell_right level value) (spell_right level (printed_right value)) (follows_right level value is))))

assigned_fine : (level : ℕ) (name : List ℕ) (e : Expression) → Fine (plain level (Name name) ∷ []) → Fine (spell_whole level e) → Fine (assigned level name e)
assigned_fine level name e named fine =
    let less = level_of_fine (plain level (Name name)) (fine_first (plain level (Name name)) [] named) in
    fine_both (plain level (Name name) ∷ mark level Assign ∷ spell_whole level e) (mark level Semicolon ∷ [])
    (fine_both (plain level (Name name) ∷ mark level Assign ∷ []) (spell_whole level e)
    (fine_both (plain level (Name name) ∷ []) (mark level Assign ∷ []) named (signs_fine level (Mark Assign ∷ []) refl less)) fine)
    (signs_fine level (Mark Semicolon ∷ []) refl less)

-- `x + e` or `x - e` as it is written
changed_fine : (level : ℕ) (name : List ℕ) (direction : Direction) (e : Expression) → Fine (plain level (Name name) ∷ []) → Fine (spell_expression level [] (grouped (operator_strength (direction_operator direction) + 1) (regrouped e))) → Fine (spell_whole level (regrouped (Infix (Variable name) (direction_operator direction) e)))
changed_fine level name direction e named fine =
    let operator = direction_operator direction in
    let right = grouped (operator_strength operator + 1) (regrouped e) in
    let token = counting level (OneMore Operators ∷ []) (Mark (operator_sign operator)) in
    fine_both (spell_whole level (grouped (operator_strength operator) (Variable name))) (token ∷ spell_expression level [] right) (left direction)
    (fine_both (token ∷ []) (spell_expression level [] right) (signs_fine level (Mark (operator_sign operator) ∷ []) refl (level_of_fine (plain level (Name name)) (fine_first (plain level (Name name)) [] named))) fine)
  where
    left : (direction : Direction) → Fine (spell_whole level (grouped (operator_strength (direction_operator direction)) (Variable name)))
    left Up = named
    left Down = named

change_fine : (level : ℕ) (name : List ℕ) (direction : Direction) (value : Expression) → IsTrue (is_grouped value) → Fine (spell_simple level (Change name direction value)) → Fine (assigned level name (regrouped (Infix (Variable name) (direction_operator direction) value)))
change_fine level name direction value is h =
    let sign = counting level (Anew Operators ∷ OneMore Operators ∷ []) (Mark (change_sign direction)) in
    let parts = fine_parts (plain level (Name name) ∷ []) (sign ∷ spell_expression (level + 1) [] value) h in
    let inner = (fine_parts (sign ∷ []) (spell_expression (level + 1) [] value) parts.1).1 in
    let less = level_of_fine (plain level (Name name)) (fine_first (plain level (Name name)) [] parts.0) in
    assigned_fine level name (regrouped (Infix (Variable name) (direction_operator direction) value)) parts.0
    (changed_fine level name direction value parts.0
    (raised (operator_strength (direction_operator direction) + 1) level [] (regrouped value) less ((kept value is).bare (level + 1) [] inner)))

step_fine : (level : ℕ) (name : List ℕ) (direction : Direction) → Fine (spell_simple level (Step name direction)) → Fine (assigned level name (regrouped (Infix (Variable name) (direction_operator direction) (Numeral (pos 1)))))
step_fine level name direction h =
    let parts = fine_parts (plain level (Name name) ∷ []) (mark level (step_sign direction) ∷ []) h in
    let less = level_of_fine (plain level (Name name)) (fine_first (plain level (Name name)) [] parts.0) in
    assigned_fine level name (regrouped (Infix (Variable name) (direction_operator direction) (Numeral (pos 1)))) parts.0
    (changed_fine level name direction (Numeral (pos 1)) parts.0 (one direction (signs_fine level (Mark Assign ∷ []) refl less)))
  where
    one : (direction : Direction) → Fine (mark level Assign ∷ []) → Fine (spell_expression level [] (grouped (operator_strength (direction_operator direction) + 1) (Numeral (pos 1))))
    one Up fine = fine
    one Down fine = fine

change_few : (level : ℕ) (name : List ℕ) (direction : Direction) (value : Expression) → Stays Operators 256 (spell_simple level (Change name direction value)) → operators 1 (regrouped (Infix (Variable name) (direction_operator direction) value)) ≤ 256
change_few level name direction value s = omega (arith, operators-regrouped 1 (Infix (Variable name) (direction_operator direction) value), expression_bound Operators 1 (level + 1) [] value s.1.1)

change_covers : (level : ℕ) (name : List ℕ) (direction : Direction) (value : Expression) → IsTrue (is_grouped value) → Covers in_statement (spell_simple level (Change name direction value)) (spell_inner level (plain_statement (simple_tree (Change name direction value))))
change_covers level name direction value is =
    let e = Infix (Variable name) (direction_operator direction) value in
    let xs = spell_simple level (Change name direction value) in
    subst (λ i. Covers in_statement xs (spell_inner level i)) (sym (plain-right_tree name (Value e)))
    (assigned_covers level name (regrouped e) xs ((closed_simple level (Change name direction value)).begun Operators refl)
    (λ c other.
    quiet_both c (plain level (Name name) ∷ []) (counting level (Anew Operators ∷ OneMore Operators ∷ []) (Mark (change_sign direction)) ∷ spell_expression (level + 1) [] value)
    (quiet_token c level (Name name)) (quiet_change c level (Mark (change_sign direction)) value other.light other.change))
    (change_fine level name direction value is) (change_few level name direction value))

step_covers : (level : ℕ) (name : List ℕ) (direction : Direction) → Covers in_statement (spell_simple level (Step name direction)) (spell_inner level (plain_statement (simple_tree (Step name direction))))
step_covers level name direction =
    let e = Infix (Variable name) (direction_operator direction) (Numeral (pos 1)) in
    let xs = spell_simple level (Step name direction) in
    subst (λ i. Covers in_statement xs (spell_inner level i)) (sym (plain-right_tree name (Value e)))
    (assigned_covers level name (regrouped e) xs ((closed_simple level (Step name direction)).begun Operators refl)
    (λ c other. quiet_both c (plain level (Name name) ∷ []) (mark level (step_sign direction) ∷ []) (quiet_token c level (Name name)) (quiet_token c level (Mark (step_sign direction))))
    (step_fine level name direction) (λ s. omega (arith, operators-regrouped 1 e)))

plain-storing : (name : List ℕ) (index value : Expression) → plain_statement (simple_tree (Storing name index value)) ≡ Stated (Simply (Storing name (regrouped index) (regrouped value)))
plain-storing name index value =
    fold_put plain_inner_here name (expression_tree index) (expression_tree value)
    ∙ ap (λ e. Stated (Simply (Storing name e (plain_expression (expression_tree value))))) (plain-regrouped index)
    ∙ ap (λ e. Stated (Simply (Storing name (regrouped index) e))) (plain-regrouped value)

storing_covers : (level : ℕ) (name : List ℕ) (index value : Expression) → IsTrue (is_grouped index) → IsTrue (is_grouped value) → Covers in_statement (spell_simple level (Storing name index value)) (spell_inner level (plain_statement (simple_tree (Storing name index value))))
storing_covers level name index value is also =
    let front = plain level (Name name) ∷ mark level OpenBracket ∷ [] in
    let middle = mark level CloseBracket ∷ mark level Assign ∷ [] in
    let xs = spell_simple level (Storing name index value) in
    let ys = spell_simple level (Storing name (regrouped index) (regrouped value)) in
    subst (λ i. Covers in_statement xs (spell_inner level i)) (sym (plain-storing name index value))
    (ended level (plain level (Name name)) (mark level OpenBracket ∷ spell_whole (level + 1) index ++ (middle ++ spell_whole level value)) ys refl
    (covers_followed xs ys (closed_simple level (Storing name index value))
    (follows_both (front ++ spell_whole (level + 1) index) (front ++ spell_whole (level + 1) (regrouped index)) (middle ++ spell_whole level value) (middle ++ spell_whole level (regrouped value))
    (follows_behind front (spell_whole (level + 1) index) (spell_whole (level + 1) (regrouped index)) (follows_expression (level + 1) (Anew Operators ∷ []) index is))
    (follows_behind middle (spell_whole level value) (spell_whole level (regrouped value)) (follows_expression level (Anew Operators ∷ []) value also)))))

pub simple_covers : (level : ℕ) (simple : Simple) → IsTrue (is_simple simple) → Covers in_statement (spell_simple level simple) (spell_inner level (plain_statement (simple_tree simple)))
simple_covers level (Assignment name value) is = assignment_covers level name value is
simple_covers level (Change name direction value) is = change_covers level name direction value is
simple_covers level (Step name direction) is = step_covers level name direction
simple_covers level (Storing name index value) is =
    let parts = and_parts (is_grouped index) (is_grouped value) is in
    storing_covers level name index value parts.0 parts.1

-- ---- declarations

declare_covers : (level : ℕ) (name : List ℕ) → Covers in_statement (counting level (OneMore Variables ∷ []) (Name name) ∷ []) (spell_inner level (plain_statement (stmt.Declare name)))
declare_covers level name =
    let token = counting level (OneMore Variables ∷ []) (Name name) in
    subst (λ i. Covers in_statement (token ∷ []) (spell_inner level i)) (sym (fold_declare plain_inner_here name))
    (covers_around in_statement level (Word word.Int ∷ []) (Mark Semicolon ∷ []) (token ∷ []) (token ∷ []) refl refl (λ h. level_of_fine token (fine_first token [] h))
    (covers_followed (token ∷ []) (token ∷ []) (closed_one level Variables (Name name) refl) (follows_itself (token ∷ []))))

declarator_covers : (level : ℕ) (declarator : Declarator) → IsTrue (is_declarator declarator) → Covers in_statement (spell_declarator level declarator) (lines level (declarator_trees declarator))
declarator_covers level (Bare name) is = subst (Covers in_statement (spell_declarator level (Bare name))) (one_line level (stmt.Declare name)) (declare_covers level name)
declarator_covers level (Valued name value) is =
    let token = counting level (OneMore Variables ∷ []) (Name name) in
    covers_once in_statement token level (Name name) (mark level Assign ∷ spell_right level value) (lines level (declarator_trees (Valued name value))) (λ h. h)
    (covers_both in_statement (token ∷ []) (spell_inner level (plain_statement (stmt.Declare name))) (spell_simple level (Assignment name value)) (lines level (right_tree name value ∷ []))
    (declare_covers level name)
    (subst (Covers in_statement (spell_simple level (Assignment name value))) (one_line level (right_tree name value)) (assignment_covers level name value is)))

declarators_cover : (level : ℕ) (declarators : Commas Declarator) → IsTrue (each_of is_declarator declarators) → Covers in_statement (spell_commas level (spell_declarator level) declarators) (lines level (commas_list declarator_trees declarators))
declarators_cover level (One only) is = declarator_covers level only is
declarators_cover level (More before last) is =
    let parts = and_parts (each_of is_declarator before) (is_declarator last) is in
    subst (Covers in_statement (spell_commas level (spell_declarator level) (More before last))) (sym (lines-append level (commas_list declarator_trees before) (declarator_trees last)))
    (covers_both in_statement (spell_commas level (spell_declarator level) before) (lines level (commas_list declarator_trees before))
    (mark level Comma ∷ spell_declarator level last) (lines level (declarator_trees last))
    (declarators_cover level before parts.0)
    (covers_without_front in_statement level (Mark Comma ∷ []) (spell_declarator level last) (lines level (declarator_trees last)) (declarator_covers level last parts.1)))

pub declaration_covers : (level : ℕ) (declarators : Commas Declarator) → IsTrue (each_of is_declarator declarators) → Covers in_statement (spell_declaration level declarators) (lines level (commas_list declarator_trees declarators))
declaration_covers level declarators is =
    covers_without_front in_statement level (Word word.Int ∷ []) (spell_commas level (spell_declarator level) declarators) (lines level (commas_list declarator_trees declarators)) (declarators_cover level declarators is)

pub one_simple_covers : (level : ℕ) (simple : Simple) → IsTrue (is_simple simple) → Covers in_statement (spell_simple level simple) (lines level (one_simple simple))
one_simple_covers level simple is = subst (Covers in_statement (spell_simple level simple)) (one_line level (simple_tree simple)) (simple_covers level simple is)

pub start_covers : (level : ℕ) (start : Start) → IsTrue (is_start start) → Covers in_statement (spell_start level start) (lines level (start_trees start))
start_covers level NoStart is = covers_none in_statement level []
start_covers level (SimpleStart simple) is = one_simple_covers level simple is
start_covers level (DeclaringStart declarators) is = declaration_covers level declarators is

pub last_covers : (level : ℕ) (last : Option Simple) → IsTrue (if_any is_simple last) → Covers in_statement (spell_any (spell_simple level) last) (lines level (if_there one_simple last))
last_covers level None is = covers_none in_statement level []
last_covers level (Some simple) is = one_simple_covers level simple is
