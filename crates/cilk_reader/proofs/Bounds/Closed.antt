-- For which counts the parts of a statement begin anew, and what they add to the others.
use Rattle.std.proofs.Common.{◌≡◌, ℕ, ◌+◌, Bool, true, false, IsTrue, IsFalse, Option, Some, None, List, [], ◌∷◌, ◌++◌, refl, sym, ap, ◌∙◌, arith}
use Rattle.std.proofs.lemmas.Bool.{false≢true}
use Rattle.cilk_tree.specs.declared.token.Keyword.TheVariants as word
use Rattle.cilk_tree.specs.declared.token.Token.{Token}
use Rattle.cilk_tree.specs.declared.token.Token.TheVariants.{Name, Word, Mark}
use Rattle.cilk_tree.specs.declared.token.Sign.TheVariants.{OpenParen, CloseParen, OpenBracket, CloseBracket, Comma, Assign}
use Rattle.cilk_tree.specs.declared.count.Counted.{Counted}
use Rattle.cilk_tree.specs.declared.count.Counted.TheVariants.{Operators, Parameters, Arguments, Variables, Arrays, Functions}
use Rattle.cilk_tree.specs.declared.count.Count.{Count}
use Rattle.cilk_tree.specs.declared.count.Count.TheVariants.{Anew, OneMore}
use Rattle.cilk_tree.specs.Counts.{tally, limit}
use Rattle.cilk_tree.specs.Levels.{Spelled, counting, plain, mark, spawn_word, step_sign, change_sign, spell_expression, spell_whole, spell_argument, spell_commas, spell_any, spell_call, spell_addition, spell_right, spell_simple}
use Rattle.cilk_tree.specs.Syntax.{Commas, Expression, Call, Addition, Right, Value, Result, Fetched, Simple, Assignment, Change, Step, Storing}
use Rattle.cilk_reader.proofs.Bounds.Covering.{Covers, at_level, signs_add}
use Rattle.cilk_reader.proofs.Bounds.PlainCalls.{Follows, commas_each}
use Rattle.cilk_reader.proofs.Bounds.PlainExpressions.{weight, operators, operators-zero, stays_expression, after-expression, expression_bound}
use Rattle.cilk_reader.proofs.Bounds.Tallies.{tally-one, Adds, adds_none, adds_token, adds_both, Begun, begun_adds, begun_both, matches_adds}

-- the counts that begin anew within a statement
abbrev pub in_statement : Counted → Bool
in_statement Operators = true
in_statement Parameters = false
in_statement Arguments = true
in_statement Variables = false
in_statement Arrays = false
in_statement Functions = false

-- Tokens that begin those counts anew, and add so many to each of the others.
pub record Closed (xs : List Spelled) : Type 0 where
  pub amount : Counted → ℕ
  pub begun : (counted : Counted) → IsTrue (in_statement counted) → Begun counted xs
  pub adds : (counted : Counted) → IsFalse (in_statement counted) → Adds counted (amount counted) xs

pub closed_both : (xs ys : List Spelled) → Closed xs → Closed ys → Closed (xs ++ ys)
closed_both xs ys first second = record {
  amount = λ c. first.amount c + second.amount c;
  begun = λ c is. begun_both c xs ys (first.begun c is) (second.begun c is);
  adds = λ c is. adds_both c (first.amount c) (second.amount c) _ xs ys refl (first.adds c is) (second.adds c is);
}

-- tokens that count as nothing
closed_quiet : (xs : List Spelled) → ((c : Counted) → Adds c 0 xs) → Closed xs
closed_quiet xs quiet = record { amount = λ c. 0; begun = λ c is. begun_adds c xs (quiet c); adds = λ c is. quiet c }

pub closed_token : (level : ℕ) (token : Token) → Closed (plain level token ∷ [])
closed_token level token = closed_quiet (plain level token ∷ []) (λ c. adds_token c 0 (plain level token) (λ n. omega arith))

pub covers_followed : (xs ys : List Spelled) → Closed xs → Follows xs ys → Covers in_statement xs ys
covers_followed xs ys closed follows = record {
  fine = follows.fine;
  safe = λ c is. record { begun = closed.begun c is; keeps = (follows.matches c).stays (limit c) };
  agrees = λ c is. record { amount = closed.amount c; source = closed.adds c is; other = matches_adds c (closed.amount c) xs ys (follows.matches c) (closed.adds c is) };
}

-- ---- expressions

-- an expression adds nothing to a count that neither its operators nor its first token change
pub quiet_expression : (c : Counted) (level : ℕ) (first : List Count) (e : Expression) → weight c ≡ 0 → ((n : ℕ) → tally c n first ≡ n) → Adds c 0 (spell_expression level first e)
quiet_expression c level first e light same =
    let none : operators (weight c) e ≡ 0 = ap (λ w. operators w e) light ∙ operators-zero e in
    record {
      stays = λ n h. stays_expression c n level first e (omega arith) (omega (arith, same n));
      ends = λ n. after-expression c n level first e ∙ omega (arith, same n);
    }

-- What begins the operators anew, here or in a first token with more counts, is the same from whatever number.
begun_operators : (level : ℕ) (first : List Count) (e : Expression) → ((n m : ℕ) → tally Operators n first ≡ tally Operators m first) → Begun Operators (spell_expression level first e)
begun_operators level first e same n m h s = stays_expression Operators n level first e h (omega (arith, same n m, expression_bound Operators m level first e s))

pub closed_whole : (level : ℕ) (e : Expression) → Closed (spell_whole level e)
closed_whole level e = record { amount = λ c. 0; begun = begun; adds = adds }
  where
    begun : (c : Counted) → IsTrue (in_statement c) → Begun c (spell_whole level e)
    begun Operators is = begun_operators level (Anew Operators ∷ []) e (λ n m. refl)
    begun Arguments is = begun_adds Arguments (spell_whole level e) (quiet_expression Arguments level (Anew Operators ∷ []) e refl (λ n. refl))
    begun Parameters is = absurd (false≢true is)
    begun Variables is = absurd (false≢true is)
    begun Arrays is = absurd (false≢true is)
    begun Functions is = absurd (false≢true is)

    adds : (c : Counted) → IsFalse (in_statement c) → Adds c 0 (spell_whole level e)
    adds Operators is = absurd (false≢true (sym is))
    adds Arguments is = absurd (false≢true (sym is))
    adds Parameters is = quiet_expression Parameters level (Anew Operators ∷ []) e refl (λ n. refl)
    adds Variables is = quiet_expression Variables level (Anew Operators ∷ []) e refl (λ n. refl)
    adds Arrays is = quiet_expression Arrays level (Anew Operators ∷ []) e refl (λ n. refl)
    adds Functions is = quiet_expression Functions level (Anew Operators ∷ []) e refl (λ n. refl)

-- ---- calls

arguments_each : (P : List Spelled → Type 0) (level : ℕ) → ((xs ys : List Spelled) → P xs → P ys → P (xs ++ ys)) → P [] → P (mark level Comma ∷ []) → ((e : Expression) → P (spell_argument level e)) → (arguments : Option (Commas Expression)) → P (spell_any (spell_commas level (spell_argument level)) arguments)
arguments_each P level both none comma each None = none
arguments_each P level both none comma each (Some arguments) = commas_each P level (spell_argument level) both comma each arguments

pub quiet_token : (c : Counted) (level : ℕ) (token : Token) → Adds c 0 (plain level token ∷ [])
quiet_token c level token = adds_token c 0 (plain level token) (λ n. omega arith)

pub quiet_both : (c : Counted) (xs ys : List Spelled) → Adds c 0 xs → Adds c 0 ys → Adds c 0 (xs ++ ys)
quiet_both c xs ys = adds_both c 0 0 0 xs ys refl

quiet_spawn : (c : Counted) (level : ℕ) (spawned : Bool) → Adds c 0 (spawn_word level spawned)
quiet_spawn c level true = quiet_token c level (Word word.Spawn)
quiet_spawn c level false = adds_none c

quiet_call : (c : Counted) (level : ℕ) (call : Call) → weight c ≡ 0 → ((n : ℕ) → tally c n (OneMore Arguments ∷ Anew Operators ∷ []) ≡ n) → ((n : ℕ) → tally c n (Anew Arguments ∷ []) ≡ n + 0) → Adds c 0 (spell_call level call)
quiet_call c level call light same opened =
    let front = plain level (Name call.name) ∷ counting level (Anew Arguments ∷ []) (Mark OpenParen) ∷ [] in
    let inner = spell_any (spell_commas level (spell_argument level)) call.arguments in
    quiet_both c (spawn_word level call.spawned ++ (front ++ inner)) (mark level CloseParen ∷ [])
    (quiet_both c (spawn_word level call.spawned) (front ++ inner) (quiet_spawn c level call.spawned)
    (quiet_both c front inner
    (quiet_both c (plain level (Name call.name) ∷ []) (counting level (Anew Arguments ∷ []) (Mark OpenParen) ∷ []) (quiet_token c level (Name call.name)) (adds_token c 0 (counting level (Anew Arguments ∷ []) (Mark OpenParen)) opened))
    (arguments_each (Adds c 0) level (quiet_both c) (adds_none c) (quiet_token c level (Mark Comma)) (λ e. quiet_expression c level (OneMore Arguments ∷ Anew Operators ∷ []) e light same) call.arguments)))
    (quiet_token c level (Mark CloseParen))

begun_operators_call : (level : ℕ) (call : Call) → Begun Operators (spell_call level call)
begun_operators_call level call =
    let front = plain level (Name call.name) ∷ counting level (Anew Arguments ∷ []) (Mark OpenParen) ∷ [] in
    let inner = spell_any (spell_commas level (spell_argument level)) call.arguments in
    let begun_mark = λ (token : Token). begun_adds Operators (plain level token ∷ []) (quiet_token Operators level token) in
    begun_both Operators (spawn_word level call.spawned ++ (front ++ inner)) (mark level CloseParen ∷ [])
    (begun_both Operators (spawn_word level call.spawned) (front ++ inner) (begun_adds Operators (spawn_word level call.spawned) (quiet_spawn Operators level call.spawned))
    (begun_both Operators front inner (λ n m h s. (h, (h, h)))
    (arguments_each (Begun Operators) level (begun_both Operators) (begun_adds Operators [] (adds_none Operators)) (begun_mark (Mark Comma)) (λ e. begun_operators level (OneMore Arguments ∷ Anew Operators ∷ []) e (λ n m. refl)) call.arguments)))
    (begun_mark (Mark CloseParen))

begun_arguments_call : (level : ℕ) (call : Call) → Begun Arguments (spell_call level call)
begun_arguments_call level call =
    let front = plain level (Name call.name) ∷ counting level (Anew Arguments ∷ []) (Mark OpenParen) ∷ [] in
    let inner = spell_any (spell_commas level (spell_argument level)) call.arguments in
    begun_both Arguments (spawn_word level call.spawned ++ (front ++ inner)) (mark level CloseParen ∷ [])
    (begun_both Arguments (spawn_word level call.spawned) (front ++ inner) (begun_adds Arguments (spawn_word level call.spawned) (quiet_spawn Arguments level call.spawned)) (λ n m h s. (h, (h, s.1.1))))
    (begun_adds Arguments (mark level CloseParen ∷ []) (quiet_token Arguments level (Mark CloseParen)))

pub closed_call : (level : ℕ) (call : Call) → Closed (spell_call level call)
closed_call level call = record { amount = λ c. 0; begun = begun; adds = adds }
  where
    begun : (c : Counted) → IsTrue (in_statement c) → Begun c (spell_call level call)
    begun Operators is = begun_operators_call level call
    begun Arguments is = begun_arguments_call level call
    begun Parameters is = absurd (false≢true is)
    begun Variables is = absurd (false≢true is)
    begun Arrays is = absurd (false≢true is)
    begun Functions is = absurd (false≢true is)

    adds : (c : Counted) → IsFalse (in_statement c) → Adds c 0 (spell_call level call)
    adds Operators is = absurd (false≢true (sym is))
    adds Arguments is = absurd (false≢true (sym is))
    adds Parameters is = quiet_call Parameters level call refl (λ n. refl) (λ n. omega arith)
    adds Variables is = quiet_call Variables level call refl (λ n. refl) (λ n. omega arith)
    adds Arrays is = quiet_call Arrays level call refl (λ n. refl) (λ n. omega arith)
    adds Functions is = quiet_call Functions level call refl (λ n. refl) (λ n. omega arith)

pub closed_addition : (level : ℕ) (addition : Addition) → Closed (spell_addition level addition)
closed_addition level addition =
    let opening = Word word.FetchAdd ∷ Mark OpenParen ∷ Name addition.name ∷ Mark OpenBracket ∷ [] in
    let between = Mark CloseBracket ∷ Mark Comma ∷ [] in
    let index = spell_whole (level + 1) addition.index in
    let addend = spell_whole level addition.addend in
    let front = at_level level opening in
    let middle = at_level level between in
    closed_both ((front ++ index) ++ (middle ++ addend)) (mark level CloseParen ∷ [])
    (closed_both (front ++ index) (middle ++ addend)
    (closed_both front index (closed_quiet front (λ c. signs_add c level opening)) (closed_whole (level + 1) addition.index))
    (closed_both middle addend (closed_quiet middle (λ c. signs_add c level between)) (closed_whole level addition.addend))) (closed_token level (Mark CloseParen))

pub closed_right : (level : ℕ) (value : Right) → Closed (spell_right level value)
closed_right level (Value value) = closed_whole level value
closed_right level (Result call) = closed_call level call
closed_right level (Fetched addition) = closed_addition level addition

-- ---- what is declared and changed

-- a count that begins anew in a statement is none of the others
not_same : (c other : Counted) → IsTrue (in_statement c) → IsFalse (in_statement other) → tally c 0 (OneMore other ∷ []) ≡ 0
not_same Operators Parameters is isnt = refl
not_same Operators Variables is isnt = refl
not_same Operators Arrays is isnt = refl
not_same Operators Functions is isnt = refl
not_same Arguments Parameters is isnt = refl
not_same Arguments Variables is isnt = refl
not_same Arguments Arrays is isnt = refl
not_same Arguments Functions is isnt = refl
not_same c Operators is isnt = absurd (false≢true (sym isnt))
not_same c Arguments is isnt = absurd (false≢true (sym isnt))
not_same Parameters other is isnt = absurd (false≢true is)
not_same Variables other is isnt = absurd (false≢true is)
not_same Arrays other is isnt = absurd (false≢true is)
not_same Functions other is isnt = absurd (false≢true is)

-- a token that counts as one more of what does not begin anew in a statement
pub closed_one : (level : ℕ) (other : Counted) (token : Token) → IsFalse (in_statement other) → Closed (counting level (OneMore other ∷ []) token ∷ [])
closed_one level other token isnt =
    let spelled = counting level (OneMore other ∷ []) token in
    record {
      amount = λ c. tally c 0 (OneMore other ∷ []);
      begun = λ c is. begun_adds c (spelled ∷ []) (adds_token c 0 spelled (λ n. omega (arith, tally-one c other n, not_same c other is isnt)));
      adds = λ c is. adds_token c (tally c 0 (OneMore other ∷ [])) spelled (tally-one c other);
    }

-- `+= e` and `-= e`
pub quiet_change : (c : Counted) (level : ℕ) (direction : Token) (value : Expression) → weight c ≡ 0 → ((n : ℕ) → tally c n (Anew Operators ∷ OneMore Operators ∷ []) ≡ n) → Adds c 0 (counting level (Anew Operators ∷ OneMore Operators ∷ []) direction ∷ spell_expression (level + 1) [] value)
quiet_change c level direction value light same =
    let token = counting level (Anew Operators ∷ OneMore Operators ∷ []) direction in
    quiet_both c (token ∷ []) (spell_expression (level + 1) [] value) (adds_token c 0 token (λ n. omega (arith, same n))) (quiet_expression c (level + 1) [] value light (λ n. refl))

closed_change : (level : ℕ) (direction : Token) (value : Expression) → Closed (counting level (Anew Operators ∷ OneMore Operators ∷ []) direction ∷ spell_expression (level + 1) [] value)
closed_change level direction value = record { amount = λ c. 0; begun = begun; adds = adds }
  where
    xs : List Spelled
    xs = counting level (Anew Operators ∷ OneMore Operators ∷ []) direction ∷ spell_expression (level + 1) [] value

    begun : (c : Counted) → IsTrue (in_statement c) → Begun c xs
    begun Operators is = λ n m h s. (h, s.1)
    begun Arguments is = begun_adds Arguments xs (quiet_change Arguments level direction value refl (λ n. refl))
    begun Parameters is = absurd (false≢true is)
    begun Variables is = absurd (false≢true is)
    begun Arrays is = absurd (false≢true is)
    begun Functions is = absurd (false≢true is)

    adds : (c : Counted) → IsFalse (in_statement c) → Adds c 0 xs
    adds Operators is = absurd (false≢true (sym is))
    adds Arguments is = absurd (false≢true (sym is))
    adds Parameters is = quiet_change Parameters level direction value refl (λ n. refl)
    adds Variables is = quiet_change Variables level direction value refl (λ n. refl)
    adds Arrays is = quiet_change Arrays level direction value refl (λ n. refl)
    adds Functions is = quiet_change Functions level direction value refl (λ n. refl)

pub closed_simple : (level : ℕ) (simple : Simple) → Closed (spell_simple level simple)
closed_simple level (Assignment name value) =
    closed_both (plain level (Name name) ∷ mark level Assign ∷ []) (spell_right level value)
    (closed_both (plain level (Name name) ∷ []) (mark level Assign ∷ []) (closed_token level (Name name)) (closed_token level (Mark Assign))) (closed_right level value)
closed_simple level (Change name direction value) =
    closed_both (plain level (Name name) ∷ []) (counting level (Anew Operators ∷ OneMore Operators ∷ []) (Mark (change_sign direction)) ∷ spell_expression (level + 1) [] value)
    (closed_token level (Name name)) (closed_change level (Mark (change_sign direction)) value)
closed_simple level (Step name direction) = closed_both (plain level (Name name) ∷ []) (mark level (step_sign direction) ∷ []) (closed_token level (Name name)) (closed_token level (Mark (step_sign direction)))
closed_simple level (Storing name index value) =
    let front = plain level (Name name) ∷ mark level OpenBracket ∷ [] in
    let middle = mark level CloseBracket ∷ mark level Assign ∷ [] in
    closed_both (front ++ spell_whole (level + 1) index) (middle ++ spell_whole level value)
    (closed_both front (spell_whole (level + 1) index) (closed_both (plain level (Name name) ∷ []) (mark level OpenBracket ∷ []) (closed_token level (Name name)) (closed_token level (Mark OpenBracket))) (closed_whole (level + 1) index))
    (closed_both middle (spell_whole level value) (closed_both (mark level CloseBracket ∷ []) (mark level Assign ∷ []) (closed_token level (Mark CloseBracket)) (closed_token level (Mark Assign))) (closed_whole level value))
