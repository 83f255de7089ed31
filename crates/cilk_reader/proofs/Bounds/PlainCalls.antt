-- The canonical syntax of a call, of an addition and of what stands behind `=` follows its own.
use Rattle.std.proofs.Common.{◌≡◌, ℕ, ◌+◌, Bool, true, false, IsTrue, Option, Some, None, List, [], ◌∷◌, ◌++◌, map, refl, sym, ap, ◌∙◌, subst}
use Rattle.std.proofs.lemmas.Bool.{and_parts}
use Rattle.std.proofs.lemmas.List.{map-append}
use Rattle.cilk_tree.specs.declared.token.Keyword.TheVariants.{FetchAdd}
use Rattle.cilk_tree.specs.declared.token.Sign.TheVariants.{OpenParen, CloseParen, OpenBracket, CloseBracket, Comma}
use Rattle.cilk_tree.specs.declared.token.Token.TheVariants.{Name, Mark}
use Rattle.cilk_tree.specs.declared.tree.Expr.{Expr}
use Rattle.cilk_tree.specs.Canonical.{plain_expression}
use Rattle.cilk_tree.specs.declared.count.Counted.{Counted}
use Rattle.cilk_tree.specs.declared.count.Counted.TheVariants.{Operators, Arguments}
use Rattle.cilk_tree.specs.declared.count.Count.{Count}
use Rattle.cilk_tree.specs.declared.count.Count.TheVariants.{Anew, OneMore}
use Rattle.cilk_tree.specs.Levels.{Spelled, counting, plain, mark, word_at, spawn_word, spell_expression, spell_whole, spell_argument, spell_commas, spell_any, spell_call, spell_addition, spell_right}
use Rattle.cilk_tree.specs.Sugar.{commas_list, one_expression, expression_tree, argument_trees, call_tree, addition_tree, right_tree}
use Rattle.cilk_tree.specs.Syntax.{Commas, One, More, Expression, Call, Addition, Right, Value, Result, Fetched, Assignment, Simply, Stated, is_grouped, each_of, if_any, is_call, is_addition, is_right}
use Rattle.cilk_tree.specs.Writable.{commas_after, commas_of, plain_call, plain_target, plain_added, plain_inner_here, plain_statement}
use Rattle.cilk_reader.proofs.Bounds.Covering.{Fine, fine_each}
use Rattle.cilk_reader.proofs.Bounds.Folds.{fold_add, fold_assign, fold_call, fold_spawn}
use Rattle.cilk_reader.proofs.Bounds.PlainExpressions.{regrouped, plain-regrouped, weight, operators-regrouped, matches_expressions}
use Rattle.cilk_reader.proofs.Bounds.PlainLevels.{kept}
use Rattle.cilk_reader.proofs.Bounds.Tallies.{Matches, matches_itself, matches_both}

-- ---- lists with commas

abbrev pub commas_map : {T U : Type 0} → (T → U) → Commas T → Commas U
commas_map change (One only) = One (change only)
commas_map change (More before last) = More (commas_map change before) (change last)

commas_after_push : {T : Type 0} (before : Commas T) (xs : List T) (last : T) → commas_after before (xs ++ last ∷ []) ≡ More (commas_after before xs) last
commas_after_push before [] last = refl
commas_after_push before (x ∷ xs) last = commas_after_push (More before x) xs last

commas_of_push : {T : Type 0} (xs : List T) (commas : Commas T) (last : T) → commas_of xs ≡ Some commas → commas_of (xs ++ last ∷ []) ≡ Some (More commas last)
commas_of_push [] commas last is = cc
commas_of_push (x ∷ xs) commas last is = let pushed = commas_after_push (One x) xs last in cc

-- A list that was read with commas is written with the same.
pub commas_again : {T U : Type 0} (give : T → List U) (change : T → U) → ((t : T) → give t ≡ change t ∷ []) → (commas : Commas T) → commas_of (commas_list give commas) ≡ Some (commas_map change commas)
commas_again give change one (One only) = ap commas_of (one only)
commas_again give change one (More before last) =
    ap (λ xs. commas_of (commas_list give before ++ xs)) (one last) ∙ commas_of_push (commas_list give before) (commas_map change before) (change last) (commas_again give change one before)

map_commas : {T U V : Type 0} (change : U → V) (give : T → List U) (commas : Commas T) → map change (commas_list give commas) ≡ commas_list (λ t. map change (give t)) commas
map_commas change give (One only) = refl
map_commas change give (More before last) =
    map-append change (commas_list give before) (give last) ∙ ap (λ xs. xs ++ map change (give last)) (map_commas change give before)

-- what holds of nothing but a comma, of each part, and of two such lists one after another holds of the whole
pub commas_each : {T : Type 0} (P : List Spelled → Type 0) (level : ℕ) (spell : T → List Spelled) → ((xs ys : List Spelled) → P xs → P ys → P (xs ++ ys)) → P (mark level Comma ∷ []) → ((t : T) → P (spell t)) → (commas : Commas T) → P (spell_commas level spell commas)
commas_each P level spell both comma each (One only) = each only
commas_each P level spell both comma each (More before last) =
    both (spell_commas level spell before) (mark level Comma ∷ spell last) (commas_each P level spell both comma each before) (both (mark level Comma ∷ []) (spell last) comma (each last))

-- ---- tokens that follow others

-- The second do the same to each count as the first, and are fine where those are.
pub record Follows (xs ys : List Spelled) : Type 0 where
  pub fine : Fine xs → Fine ys
  pub matches : (counted : Counted) → Matches counted xs ys

pub follows_itself : (xs : List Spelled) → Follows xs xs
follows_itself xs = record { fine = λ h. h; matches = λ c. matches_itself c xs }

pub follows_both : (xs ys more others : List Spelled) → Follows xs ys → Follows more others → Follows (xs ++ more) (ys ++ others)
follows_both xs ys more others first second = record {
  fine = fine_each xs ys more others first.fine second.fine;
  matches = λ c. matches_both c xs ys more others (first.matches c) (second.matches c);
}

pub follows_behind : (front xs ys : List Spelled) → Follows xs ys → Follows (front ++ xs) (front ++ ys)
follows_behind front xs ys follows = follows_both front front xs ys (follows_itself front) follows

pub follows_before : (end xs ys : List Spelled) → Follows xs ys → Follows (xs ++ end) (ys ++ end)
follows_before end xs ys follows = follows_both xs ys end end follows (follows_itself end)

pub follows_expression : (level : ℕ) (first : List Count) (e : Expression) → IsTrue (is_grouped e) → Follows (spell_expression level first e) (spell_expression level first (regrouped e))
follows_expression level first e is = record {
  fine = (kept e is).bare level first;
  matches = λ c. matches_expressions c level level first e (regrouped e) (sym (operators-regrouped (weight c) e));
}

follows_commas : (level : ℕ) (arguments : Commas Expression) → IsTrue (each_of is_grouped arguments) → Follows (spell_commas level (spell_argument level) arguments) (spell_commas level (spell_argument level) (commas_map regrouped arguments))
follows_commas level (One only) is = follows_expression level (OneMore Arguments ∷ Anew Operators ∷ []) only is
follows_commas level (More before last) is =
    let parts = and_parts (each_of is_grouped before) (is_grouped last) is in
    follows_both (spell_commas level (spell_argument level) before) (spell_commas level (spell_argument level) (commas_map regrouped before))
    (mark level Comma ∷ spell_argument level last) (mark level Comma ∷ spell_argument level (regrouped last))
    (follows_commas level before parts.0)
    (follows_behind (mark level Comma ∷ []) (spell_argument level last) (spell_argument level (regrouped last)) (follows_expression level (OneMore Arguments ∷ Anew Operators ∷ []) last parts.1))

follows_arguments : (level : ℕ) (arguments : Option (Commas Expression)) → IsTrue (if_any (each_of is_grouped) arguments) → Follows (spell_any (spell_commas level (spell_argument level)) arguments) (spell_any (spell_commas level (spell_argument level)) (commas_of (map plain_expression (argument_trees arguments))))
follows_arguments level None is = follows_itself []
follows_arguments level (Some arguments) is =
    subst (λ o. Follows (spell_commas level (spell_argument level) arguments) (spell_any (spell_commas level (spell_argument level)) o))
    (sym (ap commas_of (map_commas plain_expression one_expression arguments) ∙ commas_again (λ e. map plain_expression (one_expression e)) regrouped (λ e. ap (λ p. p ∷ []) (plain-regrouped e)) arguments))
    (follows_commas level arguments is)

-- the call as it is printed
abbrev pub printed_call : Call → Call
printed_call call = plain_call call.spawned call.name (argument_trees call.arguments)

pub follows_call : (level : ℕ) (call : Call) → IsTrue (is_call call) → Follows (spell_call level call) (spell_call level (printed_call call))
follows_call level call is =
    let front = plain level (Name call.name) ∷ counting level (Anew Arguments ∷ []) (Mark OpenParen) ∷ [] in
    let xs = spell_any (spell_commas level (spell_argument level)) call.arguments in
    let ys = spell_any (spell_commas level (spell_argument level)) (printed_call call).arguments in
    follows_before (mark level CloseParen ∷ []) (spawn_word level call.spawned ++ (front ++ xs)) (spawn_word level call.spawned ++ (front ++ ys))
    (follows_behind (spawn_word level call.spawned) (front ++ xs) (front ++ ys) (follows_behind front xs ys (follows_arguments level call.arguments is)))

-- the addition as it is printed
abbrev pub printed_addition : Addition → Addition
printed_addition addition = record { name = addition.name; index = regrouped addition.index; addend = regrouped addition.addend }

pub follows_addition : (level : ℕ) (addition : Addition) → IsTrue (is_addition addition) → Follows (spell_addition level addition) (spell_addition level (printed_addition addition))
follows_addition level addition is =
    let parts = and_parts (is_grouped addition.index) (is_grouped addition.addend) is in
    let front = word_at level FetchAdd ∷ mark level OpenParen ∷ plain level (Name addition.name) ∷ mark level OpenBracket ∷ [] in
    let middle = mark level CloseBracket ∷ mark level Comma ∷ [] in
    let index = spell_whole (level + 1) addition.index in
    let printed_index = spell_whole (level + 1) (regrouped addition.index) in
    let addend = spell_whole level addition.addend in
    let printed_addend = spell_whole level (regrouped addition.addend) in
    follows_before (mark level CloseParen ∷ []) ((front ++ index) ++ (middle ++ addend)) ((front ++ printed_index) ++ (middle ++ printed_addend))
    (follows_both (front ++ index) (front ++ printed_index) (middle ++ addend) (middle ++ printed_addend)
    (follows_behind front index printed_index (follows_expression (level + 1) (Anew Operators ∷ []) addition.index parts.0))
    (follows_behind middle addend printed_addend (follows_expression level (Anew Operators ∷ []) addition.addend parts.1)))

abbrev pub printed_right : Right → Right
printed_right (Value value) = Value (regrouped value)
printed_right (Result call) = Result (printed_call call)
printed_right (Fetched addition) = Fetched (printed_addition addition)

pub follows_right : (level : ℕ) (value : Right) → IsTrue (is_right value) → Follows (spell_right level value) (spell_right level (printed_right value))
follows_right level (Value value) is = follows_expression level (Anew Operators ∷ []) value is
follows_right level (Result call) is = follows_call level call is
follows_right level (Fetched addition) is = follows_addition level addition is

pub plain-call_tree : (target : Option (List ℕ)) (spawned : Bool) (name : List ℕ) (arguments : List Expr) → plain_statement (call_tree target spawned name arguments) ≡ plain_target target (plain_call spawned name arguments)
plain-call_tree target false name arguments = fold_call plain_inner_here target name arguments
plain-call_tree target true name arguments = fold_spawn plain_inner_here target name arguments

pub plain-addition_tree : (target : Option (List ℕ)) (addition : Addition) → plain_statement (addition_tree target addition) ≡ plain_added target (printed_addition addition)
plain-addition_tree target addition =
    fold_add plain_inner_here target addition.name (expression_tree addition.index) (expression_tree addition.addend)
    ∙ ap (λ e. plain_added target (record { name = addition.name; index = e; addend = plain_expression (expression_tree addition.addend) })) (plain-regrouped addition.index)
    ∙ ap (λ e. plain_added target (record { name = addition.name; index = regrouped addition.index; addend = e })) (plain-regrouped addition.addend)

pub plain-right_tree : (name : List ℕ) (value : Right) → plain_statement (right_tree name value) ≡ Stated (Simply (Assignment name (printed_right value)))
plain-right_tree name (Value value) = fold_assign plain_inner_here name _ ∙ ap (λ e. Stated (Simply (Assignment name (Value e)))) (plain-regrouped value)
plain-right_tree name (Result call) = plain-call_tree (Some name) call.spawned call.name (argument_trees call.arguments)
plain-right_tree name (Fetched addition) = plain-addition_tree (Some name) addition
