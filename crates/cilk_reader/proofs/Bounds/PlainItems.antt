-- The canonical syntax of arrays and functions is covered by their own.
use Rattle.std.proofs.Common.{◌≡◌, ℕ, ◌+◌, pos, Bool, true, false, IsTrue, IsFalse, Some, List, [], ◌∷◌, ◌++◌, map, refl, sym, ap, ◌∙◌, subst, arith}
use Rattle.std.proofs.lemmas.Bool.{false≢true}
use Rattle.std.proofs.lemmas.List.{append-nil, append_assoc, map-append}
use Rattle.cilk_tree.specs.declared.token.Keyword.TheVariants as word
use Rattle.cilk_tree.specs.declared.token.Token.{Token}
use Rattle.cilk_tree.specs.declared.token.Token.TheVariants.{Name, Number, Word, Mark}
use Rattle.cilk_tree.specs.declared.token.Sign.TheVariants.{OpenParen, CloseParen, OpenBracket, CloseBracket, OpenBrace, CloseBrace, Comma, Semicolon}
use Rattle.cilk_tree.specs.declared.count.Counted.{Counted}
use Rattle.cilk_tree.specs.declared.count.Counted.TheVariants.{Operators, Parameters, Arguments, Variables, Arrays, Functions}
use Rattle.cilk_tree.specs.declared.count.Count.{Count}
use Rattle.cilk_tree.specs.declared.count.Count.TheVariants.{Anew, OneMore}
use Rattle.cilk_tree.specs.Counts.{tally, limit}
use Rattle.cilk_tree.specs.Levels.{Spelled, counting, plain, mark, spell_commas, spell_inners, spell_parameter, spell_parameters, result_word, spell_head, spell_function, spell_array, spell_item}
use Rattle.cilk_tree.specs.Sugar.{commas_list, parameter_names, inners_trees, function_tree, one_array}
use Rattle.cilk_tree.specs.Syntax as syntax
use Rattle.cilk_tree.specs.Syntax.{Commas, One, More, NoInners, NoParameters, VoidParameters, Named, Array, Function, Item, Defined, are_inners, is_item}
use Rattle.cilk_tree.specs.Writable.{commas_of, inners_after, plain_statement, plain_parameters, plain_function, plain_array}
use Rattle.cilk_reader.proofs.Bounds.Closed.{in_statement, Closed, closed_both, closed_one, closed_token, quiet_both, quiet_token, covers_followed}
use Rattle.cilk_reader.proofs.Bounds.Covering.{fine_each, Safe, Agrees, Covers, covers_none, covers_both, covers_around, covers_same, covers_without_front, covers_without_end}
use Rattle.cilk_reader.proofs.Bounds.PlainCalls.{commas_map, commas_again, commas_each, follows_itself}
use Rattle.cilk_reader.proofs.Bounds.PlainStatements.{inners_lines, inners_cover, same_token}
use Rattle.cilk_reader.proofs.Bounds.PlainSimples.{lines}
use Rattle.cilk_reader.proofs.Bounds.Tallies.{tally-one, Stays, Adds, adds_bound, adds_token, adds_both, begun_adds}

-- the counts that begin anew with each item
abbrev pub in_item : Counted → Bool
in_item Operators = true
in_item Parameters = true
in_item Arguments = true
in_item Variables = true
in_item Arrays = false
in_item Functions = false

-- ---- parameters

commas_map_same : {T : Type 0} (commas : Commas T) → commas_map (λ (t : T). t) commas ≡ commas
commas_map_same (One only) = refl
commas_map_same (More before last) = ap (λ c. More c last) (commas_map_same before)

closed_parameter : (name : List ℕ) → Closed (spell_parameter name)
closed_parameter name =
    closed_both (counting 0 (OneMore Parameters ∷ []) (Word word.Int) ∷ []) (counting 0 (OneMore Variables ∷ []) (Name name) ∷ [])
    (closed_one 0 Parameters (Word word.Int) refl) (closed_one 0 Variables (Name name) refl)

parameters_cover : (parameters : syntax.Parameters) → Covers in_statement (spell_parameters parameters) (spell_parameters (plain_parameters (commas_of (parameter_names parameters))))
parameters_cover NoParameters = covers_none in_statement 0 []
parameters_cover VoidParameters = covers_none in_statement 0 (Word word.Void ∷ [])
parameters_cover (Named names) =
    let xs = spell_commas 0 spell_parameter names in
    subst (λ p. Covers in_statement xs (spell_parameters (plain_parameters p)))
    (ap Some (sym (commas_map_same names)) ∙ sym (commas_again (λ (name : List ℕ). name ∷ []) (λ name. name) (λ name. refl) names))
    (covers_followed xs xs (commas_each Closed 0 spell_parameter closed_both (closed_token 0 (Mark Comma)) closed_parameter names) (follows_itself xs))

-- ---- functions

-- the tokens behind the words of a function's head
abbrev tail : List ℕ → List Spelled → List Spelled → List Spelled
tail name parameters inside =
    plain 0 (Name name) ∷ mark 0 OpenParen ∷ parameters ++ mark 0 CloseParen ∷ mark 0 OpenBrace ∷ inside ++ mark 0 CloseBrace ∷ []

tail_covers : (name : List ℕ) (parameters others inside lines : List Spelled) → Covers in_statement parameters others → Covers in_statement inside lines → Covers in_statement (tail name parameters inside) (tail name others lines)
tail_covers name parameters others inside lines first second =
    let front = plain 0 (Name name) ∷ mark 0 OpenParen ∷ [] in
    let middle = mark 0 CloseParen ∷ mark 0 OpenBrace ∷ [] in
    covers_both in_statement ((front ++ parameters) ++ (middle ++ inside)) ((front ++ others) ++ (middle ++ lines)) (mark 0 CloseBrace ∷ []) (mark 0 CloseBrace ∷ [])
    (covers_both in_statement (front ++ parameters) (front ++ others) (middle ++ inside) (middle ++ lines)
    (covers_both in_statement front front parameters others (two_same (Name name) (Mark OpenParen)) first)
    (covers_both in_statement middle middle inside lines (two_same (Mark CloseParen) (Mark OpenBrace)) second))
    (same_token 0 (Mark CloseBrace))
  where
    two_same : (one other : Token) → Covers in_statement (plain 0 one ∷ plain 0 other ∷ []) (plain 0 one ∷ plain 0 other ∷ [])
    two_same one other = covers_both in_statement (plain 0 one ∷ []) (plain 0 one ∷ []) (plain 0 other ∷ []) (plain 0 other ∷ []) (same_token 0 one) (same_token 0 other)

-- what the first token of a function counts as
abbrev beginning : List Count
beginning = OneMore Functions ∷ Anew Parameters ∷ Anew Variables ∷ []

-- a first token with which a count begins anew, to which the others then add as many
anew_covers : (c : Counted) (token : Token) (xs ys : List Spelled) → ((n : ℕ) → tally c n beginning ≡ 0) → Agrees c xs ys → Safe c (counting 0 beginning token ∷ xs) (counting 0 beginning token ∷ ys)
anew_covers c token xs ys anew agrees = record {
  begun = λ n m h s. (h, subst (λ k. Stays c k xs) (anew m ∙ sym (anew n)) s.1);
  keeps = λ s. (s.0, agrees.other.stays (tally c (limit c) beginning) (adds_bound c agrees.amount (tally c (limit c) beginning) xs agrees.source s.1));
}

first_covers : (token : Token) (xs ys : List Spelled) → Covers in_statement xs ys → Covers in_item (counting 0 beginning token ∷ xs) (counting 0 beginning token ∷ ys)
first_covers token xs ys covers = record {
  fine = fine_each (counting 0 beginning token ∷ []) (counting 0 beginning token ∷ []) xs ys (λ h. h) covers.fine;
  safe = safe;
  agrees = agrees;
}
  where
    first : Spelled
    first = counting 0 beginning token

    safe : (c : Counted) → IsTrue (in_item c) → Safe c (first ∷ xs) (first ∷ ys)
    safe Operators is =
        let one = covers.safe Operators refl in
        record { begun = λ n m h s. (h, one.begun n m h s.1); keeps = λ s. (s.0, one.keeps s.1) }
    safe Arguments is =
        let one = covers.safe Arguments refl in
        record { begun = λ n m h s. (h, one.begun n m h s.1); keeps = λ s. (s.0, one.keeps s.1) }
    safe Parameters is = anew_covers Parameters token xs ys (λ n. refl) (covers.agrees Parameters refl)
    safe Variables is = anew_covers Variables token xs ys (λ n. refl) (covers.agrees Variables refl)
    safe Arrays is = absurd (false≢true is)
    safe Functions is = absurd (false≢true is)

    one_more : (c : Counted) (each : ℕ) → ((n : ℕ) → tally c n beginning ≡ n + each) → Agrees c xs ys → Agrees c (first ∷ xs) (first ∷ ys)
    one_more c each is one = record {
      amount = each + one.amount;
      source = adds_both c each one.amount _ (first ∷ []) xs refl (adds_token c each first is) one.source;
      other = adds_both c each one.amount _ (first ∷ []) ys refl (adds_token c each first is) one.other;
    }

    agrees : (c : Counted) → IsFalse (in_item c) → Agrees c (first ∷ xs) (first ∷ ys)
    agrees Arrays is = one_more Arrays 0 (λ n. omega arith) (covers.agrees Arrays refl)
    agrees Functions is = one_more Functions 1 (λ n. refl) (covers.agrees Functions refl)
    agrees Operators is = absurd (false≢true (sym is))
    agrees Parameters is = absurd (false≢true (sym is))
    agrees Arguments is = absurd (false≢true (sym is))
    agrees Variables is = absurd (false≢true (sym is))

head_covers : («cilk» gives : Bool) (xs ys : List Spelled) → Covers in_statement xs ys → Covers in_item (spell_head beginning «cilk» gives ++ xs) (spell_head beginning «cilk» gives ++ ys)
head_covers true gives xs ys covers =
    let second = Word (result_word gives) in
    first_covers (Word word.Cilk) (plain 0 second ∷ xs) (plain 0 second ∷ ys) (covers_both in_statement (plain 0 second ∷ []) (plain 0 second ∷ []) xs ys (same_token 0 second) covers)
head_covers false gives xs ys covers = first_covers (Word (result_word gives)) xs ys covers

function_covers : (function : Function) → IsTrue (are_inners function.body) → Covers in_item (spell_function function) (spell_item (plain_function (function_tree function)))
function_covers function is =
    let parameters = spell_parameters function.parameters in
    let others = spell_parameters (plain_parameters (commas_of (parameter_names function.parameters))) in
    let inside = spell_inners 1 function.body in
    let printed = spell_inners 1 (inners_after NoInners (map plain_statement (inners_trees function.body))) in
    let head = spell_head beginning function.«cilk» function.gives in
    covers_same in_item (head ++ tail function.name parameters inside) (spell_function function) (head ++ tail function.name others printed) (spell_item (plain_function (function_tree function)))
    (simp append_assoc) (simp append_assoc)
    (head_covers function.«cilk» function.gives (tail function.name parameters inside) (tail function.name others printed)
    (tail_covers function.name parameters others inside printed (parameters_cover function.parameters)
    (subst (Covers in_statement inside) (sym (inners_lines 1 NoInners (inners_trees function.body))) (inners_cover 1 function.body is))))

-- ---- arrays

array_adds : (c : Counted) (array : Array) → Adds c (tally c 0 (OneMore Arrays ∷ [])) (spell_array array)
array_adds c array =
    let first = counting 0 (OneMore Arrays ∷ []) (Name array.name) in
    let rest = mark 0 OpenBracket ∷ plain 0 (Number (pos array.words)) ∷ mark 0 CloseBracket ∷ [] in
    adds_both c (tally c 0 (OneMore Arrays ∷ [])) 0 (tally c 0 (OneMore Arrays ∷ [])) (first ∷ []) rest (omega arith) (adds_token c (tally c 0 (OneMore Arrays ∷ [])) first (tally-one c Arrays))
    (quiet_both c (mark 0 OpenBracket ∷ plain 0 (Number (pos array.words)) ∷ []) (mark 0 CloseBracket ∷ [])
    (quiet_both c (mark 0 OpenBracket ∷ []) (plain 0 (Number (pos array.words)) ∷ []) (quiet_token c 0 (Mark OpenBracket)) (quiet_token c 0 (Number (pos array.words)))) (quiet_token c 0 (Mark CloseBracket)))

array_same : (array : Array) → Covers in_item (spell_array array) (spell_array array)
array_same array = record { fine = λ h. h; safe = safe; agrees = λ c is. record { amount = tally c 0 (OneMore Arrays ∷ []); source = array_adds c array; other = array_adds c array } }
  where
    safe : (c : Counted) → IsTrue (in_item c) → Safe c (spell_array array) (spell_array array)
    safe Operators is = record { begun = begun_adds Operators (spell_array array) (array_adds Operators array); keeps = λ s. s }
    safe Parameters is = record { begun = begun_adds Parameters (spell_array array) (array_adds Parameters array); keeps = λ s. s }
    safe Arguments is = record { begun = begun_adds Arguments (spell_array array) (array_adds Arguments array); keeps = λ s. s }
    safe Variables is = record { begun = begun_adds Variables (spell_array array) (array_adds Variables array); keeps = λ s. s }
    safe Arrays is = absurd (false≢true is)
    safe Functions is = absurd (false≢true is)

-- the tokens of a list of items
abbrev pub item_lines : List Item → List Spelled
item_lines [] = []
item_lines (item ∷ more) = spell_item item ++ item_lines more

pub item_lines-append : (xs ys : List Item) → item_lines (xs ++ ys) ≡ item_lines xs ++ item_lines ys
item_lines-append [] ys = refl
item_lines-append (x ∷ xs) ys = ap (λ zs. spell_item x ++ zs) (item_lines-append xs ys) ∙ sym (append_assoc (spell_item x) (item_lines xs) (item_lines ys))

array_covers : (array : Array) → Covers in_item (spell_array array) (item_lines (map plain_array (one_array array)))
array_covers array =
    covers_around in_item 0 (Word word.Int ∷ []) (Mark Semicolon ∷ []) (spell_array array) (spell_array array) refl refl (λ h. omega arith) (array_same array)

arrays_cover : (arrays : Commas Array) → Covers in_item (spell_commas 0 spell_array arrays) (item_lines (map plain_array (commas_list one_array arrays)))
arrays_cover (One only) = array_covers only
arrays_cover (More before last) =
    let firsts = commas_list one_array before in
    subst (Covers in_item (spell_commas 0 spell_array (More before last)))
    (sym (ap item_lines (map-append plain_array firsts (one_array last)) ∙ item_lines-append (map plain_array firsts) (map plain_array (one_array last))))
    (covers_both in_item (spell_commas 0 spell_array before) (item_lines (map plain_array firsts)) (mark 0 Comma ∷ spell_array last) (item_lines (map plain_array (one_array last)))
    (arrays_cover before) (covers_without_front in_item 0 (Mark Comma ∷ []) (spell_array last) (item_lines (map plain_array (one_array last))) (array_covers last)))

pub array_items_cover : (arrays : Commas Array) → Covers in_item (spell_item (syntax.Arrays arrays)) (item_lines (map plain_array (commas_list one_array arrays)))
array_items_cover arrays =
    let ys = item_lines (map plain_array (commas_list one_array arrays)) in
    covers_without_front in_item 0 (Word word.Int ∷ []) (spell_commas 0 spell_array arrays ++ mark 0 Semicolon ∷ []) ys
    (covers_without_end in_item 0 (Mark Semicolon ∷ []) (spell_commas 0 spell_array arrays) ys (arrays_cover arrays))

pub function_item_covers : (function : Function) → IsTrue (are_inners function.body) → Covers in_item (spell_item (Defined function)) (item_lines (plain_function (function_tree function) ∷ []))
function_item_covers function is =
    subst (Covers in_item (spell_item (Defined function))) (sym (append-nil (spell_item (plain_function (function_tree function))))) (function_covers function is)
