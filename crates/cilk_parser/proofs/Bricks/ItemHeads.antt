-- How the machine goes on with the first tokens of an item. Behind `int` it waits for the third token before it judges.
use Rattle.std.proofs.Common.{◌≡◌, ℕ, Bool, true, false, not, ◌&&◌, if◌then◌else◌, Option, Some, None, List, [], ◌∷◌, refl, ap, sym, ◌∙◌}
use Rattle.std.proofs.lemmas.Bool.{false≢true}
use Rattle.cilk_tree.specs.declared.count.Count.{Count}
use Rattle.cilk_tree.specs.declared.count.Count.TheVariants.{OneMore}
use Rattle.cilk_tree.specs.declared.count.Counted.TheVariants.{Arrays}
use Rattle.cilk_tree.specs.declared.kind.Kind.{Kind}
use Rattle.cilk_tree.specs.declared.kind.Kind.TheVariants.{Unexpected}
use Rattle.cilk_tree.specs.declared.token.Keyword.TheVariants as word
use Rattle.cilk_tree.specs.declared.token.Placed.{Placed}
use Rattle.cilk_tree.specs.declared.token.Sign.TheVariants as sign
use Rattle.cilk_tree.specs.declared.token.Token.{Token}
use Rattle.cilk_tree.specs.declared.token.Token.TheVariants.{Name, Word, Mark}
use Rattle.cilk_tree.specs.Levels.{Spelled, counting, mark, plain, word_at}
use Rattle.cilk_tree.specs.Syntax.{Empty, Source}
use Rattle.cilk_parser.proofs.Bricks.Firsts.{keyword_there}
use Rattle.cilk_parser.proofs.Signs.{same_sign}
use Rattle.cilk_parser.proofs.Bricks.Stepping.{ExpectsName, expects_awaited, from_steps, name_there}
use Rattle.cilk_parser.specs.declared.parser.End.{End}
use Rattle.cilk_parser.specs.declared.tallies.Tallies.{Tallies}
use Rattle.cilk_parser.specs.Contexts.{Heading}
use Rattle.cilk_parser.specs.Spots.{from, is_array_start, is_name_before, is_name_token, is_keyword_token, stepping}
use Rattle.cilk_parser.specs.Run.{Answer, Refused, Tallied, Within, Over, at_end, if_within, judge, judge_token, judge_on, run, run_step, run_judged}
use Rattle.cilk_parser.specs.Steps.{State, Items, AfterCilk, AfterInt, AfterIntName, ArraySize, ParametersStart, Awaits, ArrayOpen, ParametersOpen, AwaitsName, FunctionName, Next, function_counts, goes_on, is_mark, step, step_int, step_int_name, step_items}

-- ---- judged one after another

-- the answer, from the counts on, where the tokens keep the limits
abbrev pub judged_then : Tallied → (Tallies → Answer) → Answer
judged_then (Within t) on = on t
judged_then (Over kind offset) on = Refused kind offset

-- A token is judged before those behind it.
one_more : (j : Tallied) (behind : Tallies → Tallied) (answer : Tallied → Answer) (on : Tallies → Answer) → ((kind : Kind) (offset : ℕ) → answer (Over kind offset) ≡ Refused kind offset) →
    ((t : Tallies) → answer (behind t) ≡ on t) → answer (judge_on j behind) ≡ judged_then j on
one_more (Within t) behind answer on over within = within t
one_more (Over kind offset) behind answer on over within = over kind offset

-- the machine steps with a token
one_step : (steps : Token → Option Next) (end : End) (t : Tallies) (placed : Placed) (places : List Placed) (spelled : Spelled) (next : State) → steps placed.token ≡ goes_on spelled next →
    stepping steps (record { end = end; tallies = t; left = placed ∷ places }) ≡ judged_then (judge_token t spelled placed.offset) (λ later. from next (record { end = end; tallies = later; left = places }))
one_step steps end t placed places spelled next goes =
    ap (run_step (record { state = Items Empty; tallies = t; waiting = [] }) placed (λ r. run end r places)) goes ∙
    one_more (judge_token t spelled placed.offset) Within (run_judged (record { emitted = spelled ∷ []; state = next }) (placed ∷ []) (λ r. run end r places)) (λ later. from next (record { end = end; tallies = later; left = places }))
    (λ kind offset. refl) (λ later. refl)

-- ---- `int` first

-- How the machine would go on with the name of an array, if it knew that it is one.
abbrev pub array_named : Source → List Count → Token → Option Next
array_named before counts (Name name) = goes_on (counting 0 counts (Name name)) (Awaits (ArrayOpen before None name))
array_named before counts _ = None

no_array_name : (before : Source) (counts : List Count) (token : Token) → is_name_token token ≡ false → array_named before counts token ≡ None
no_array_name before counts (Name name) other = absurd (false≢true (sym other))
no_array_name before counts _ other = refl

pub expects_array_name : (before : Source) (counts : List Count) → ExpectsName (array_named before counts) 0 counts (λ name. Awaits (ArrayOpen before None name))
expects_array_name before counts = record { here = λ name. refl; only = no_array_name before counts }

-- A name counts as that of an array where a bracket follows.
abbrev pub name_counts : List Placed → List Count
name_counts places = if is_name_before sign.OpenBracket places then OneMore Arrays ∷ [] else []

-- How the machine would go on with the first token of a function, if it knew that it is one.
abbrev pub step_function : Source → Token → Option Next
step_function before (Word word.Cilk) = goes_on (counting 0 function_counts (Word word.Cilk)) (AfterCilk before)
step_function before (Word word.Void) = goes_on (counting 0 function_counts (Word word.Void)) (AwaitsName (FunctionName before false false))
step_function before (Word word.Int) = goes_on (counting 0 function_counts (Word word.Int)) (AwaitsName (FunctionName before false true))
step_function before _ = None

no_int_name : (before : Source) (token : Token) → is_name_token token ≡ false → step_int before token ≡ None
no_int_name before (Name name) other = absurd (false≢true (sym other))
no_int_name before _ other = refl

neither : (before : Source) (name : List ℕ) (token : Token) → is_mark sign.OpenBracket token ≡ false → is_mark sign.OpenParen token ≡ false → step_int_name before name token ≡ None
neither before name (Mark sign.OpenBracket) no_bracket no_parenthesis = absurd (cc)
neither before name (Mark sign.OpenParen) no_bracket no_parenthesis = absurd (cc)
neither before name _ no_bracket no_parenthesis = refl

module _ (before : Source) (end : End) (t : Tallies) (int : Placed) (is_int : int.token ≡ Word word.Int) where
  behind_int : (places : List Placed) → from (Items before) (record { end = end; tallies = t; left = int ∷ places }) ≡ run end (record { state = AfterInt before; tallies = t; waiting = int ∷ [] }) places
  unfolding run step
  behind_int places = ap (run_step (record { state = Items before; tallies = t; waiting = [] }) int (λ r. run end r places)) (ap (step_items before) is_int)

  -- where no name follows
  unnamed : (other : Placed) (places : List Placed) (counts : List Count) → is_name_token other.token ≡ false →
      run end (record { state = AfterInt before; tallies = t; waiting = int ∷ [] }) (other ∷ places) ≡
      judged_then (judge_token t (word_at 0 word.Int) int.offset) (λ later. stepping (array_named before counts) (record { end = end; tallies = later; left = other ∷ places }))
  unfolding run step
  unnamed other places counts absent =
      ap (run_step (record { state = AfterInt before; tallies = t; waiting = int ∷ [] }) other (λ r. run end r places)) (no_int_name before other.token absent) ∙
      one_more (judge_token t (word_at 0 word.Int) int.offset) Within (λ j. if_within j (Refused Unexpected other.offset)) (λ later. stepping (array_named before counts) (record { end = end; tallies = later; left = other ∷ places }))
      (λ kind offset. refl)
      (λ later. sym (ap (run_step (record { state = Items Empty; tallies = later; waiting = [] }) other (λ r. run end r places)) (no_array_name before counts other.token absent)))

  -- where a name follows
  module _ (name : List ℕ) (second : Placed) (named : second.token ≡ Name name) where
    behind_name : (places : List Placed) →
        run end (record { state = AfterInt before; tallies = t; waiting = int ∷ [] }) (second ∷ places) ≡ run end (record { state = AfterIntName before name; tallies = t; waiting = int ∷ second ∷ [] }) places
    unfolding run step
    behind_name places = ap (run_step (record { state = AfterInt before; tallies = t; waiting = int ∷ [] }) second (λ r. run end r places)) (ap (step_int before) named)

    -- what waits is judged as it would be one after another
    judged_both : (counts : List Count) (more : List Spelled) (waiting places : List Placed) (answer : Tallied → Answer) → ((kind : Kind) (offset : ℕ) → answer (Over kind offset) ≡ Refused kind offset) →
        ((later : Tallies) → answer (judge later more waiting) ≡ from (Awaits (ArrayOpen before None name)) (record { end = end; tallies = later; left = places })) →
        answer (judge t (word_at 0 word.Int ∷ counting 0 counts (Name name) ∷ more) (int ∷ second ∷ waiting)) ≡
        judged_then (judge_token t (word_at 0 word.Int) int.offset) (λ later. stepping (array_named before counts) (record { end = end; tallies = later; left = second ∷ places }))
    judged_both counts more waiting places answer over within =
        one_more (judge_token t (word_at 0 word.Int) int.offset) (λ next. judge next (counting 0 counts (Name name) ∷ more) (second ∷ waiting)) answer _ over
        (λ next.
        one_more (judge_token next (counting 0 counts (Name name)) second.offset) (λ later. judge later more waiting) answer _ over within ∙
        sym (one_step (array_named before counts) end next second places (counting 0 counts (Name name)) (Awaits (ArrayOpen before None name)) (ap (array_named before counts) named)))

    -- where the tokens end
    ended : run end (record { state = AfterIntName before name; tallies = t; waiting = int ∷ second ∷ [] }) [] ≡
        judged_then (judge_token t (word_at 0 word.Int) int.offset) (λ later. stepping (array_named before []) (record { end = end; tallies = later; left = second ∷ [] }))
    unfolding run step
    ended = judged_both [] [] [] [] (λ j. if_within j (at_end end None)) (λ kind offset. refl) (λ later. refl)

    module _ (third : Placed) (places : List Placed) where
      -- where a bracket follows
      bracket : third.token ≡ Mark sign.OpenBracket → run end (record { state = AfterIntName before name; tallies = t; waiting = int ∷ second ∷ [] }) (third ∷ places) ≡
          judged_then (judge_token t (word_at 0 word.Int) int.offset) (λ later. stepping (array_named before (OneMore Arrays ∷ [])) (record { end = end; tallies = later; left = second ∷ third ∷ places }))
      unfolding run step
      bracket is =
          ap (run_step (record { state = AfterIntName before name; tallies = t; waiting = int ∷ second ∷ [] }) third (λ r. run end r places)) (ap (step_int_name before name) is) ∙
          judged_both (OneMore Arrays ∷ []) (mark 0 sign.OpenBracket ∷ []) (third ∷ []) (third ∷ places)
          (run_judged (record { emitted = word_at 0 word.Int ∷ counting 0 (OneMore Arrays ∷ []) (Name name) ∷ mark 0 sign.OpenBracket ∷ []; state = ArraySize before None name }) (int ∷ second ∷ third ∷ []) (λ r. run end r places))
          (λ kind offset. refl)
          (λ later.
          one_more (judge_token later (mark 0 sign.OpenBracket) third.offset) Within
          (run_judged (record { emitted = word_at 0 word.Int ∷ counting 0 (OneMore Arrays ∷ []) (Name name) ∷ mark 0 sign.OpenBracket ∷ []; state = ArraySize before None name }) (int ∷ second ∷ third ∷ []) (λ r. run end r places))
          (λ last. from (ArraySize before None name) (record { end = end; tallies = last; left = places })) (λ kind offset. refl) (λ last. refl) ∙
          sym (from_steps (Awaits (ArrayOpen before None name)) refl (record { end = end; tallies = later; left = third ∷ places }) ∙ one_step (step (Awaits (ArrayOpen before None name))) end later third places (mark 0 sign.OpenBracket) (ArraySize before None name) (ap (step (Awaits (ArrayOpen before None name))) is)))

      -- where neither a bracket nor a parenthesis follows
      other_third : is_mark sign.OpenBracket third.token ≡ false → is_mark sign.OpenParen third.token ≡ false → run end (record { state = AfterIntName before name; tallies = t; waiting = int ∷ second ∷ [] }) (third ∷ places) ≡
          judged_then (judge_token t (word_at 0 word.Int) int.offset) (λ later. stepping (array_named before []) (record { end = end; tallies = later; left = second ∷ third ∷ places }))
      unfolding run step
      other_third no_bracket no_parenthesis =
          ap (run_step (record { state = AfterIntName before name; tallies = t; waiting = int ∷ second ∷ [] }) third (λ r. run end r places)) (neither before name third.token no_bracket no_parenthesis) ∙
          judged_both [] [] [] (third ∷ places) (λ j. if_within j (Refused Unexpected third.offset)) (λ kind offset. refl)
          (λ later. sym (ap (run_step (record { state = Awaits (ArrayOpen before None name); tallies = later; waiting = [] }) third (λ r. run end r places)) ((expects_awaited (ArrayOpen before None name) sign.OpenBracket 0 refl).only third.token no_bracket)))

      -- where a parenthesis follows
      abbrev heading : Heading
      heading = record { before = before; «cilk» = false; gives = true; name = name }

      -- the answer where it was judged with what waits
      abbrev judged : Tallied → Answer
      judged = run_judged (record { emitted = counting 0 function_counts (Word word.Int) ∷ plain 0 (Name name) ∷ mark 0 sign.OpenParen ∷ []; state = ParametersStart heading }) (int ∷ second ∷ third ∷ []) (λ r. run end r places)

      parenthesis : third.token ≡ Mark sign.OpenParen →
          from (Items before) (record { end = end; tallies = t; left = int ∷ second ∷ third ∷ places }) ≡ stepping (step_function before) (record { end = end; tallies = t; left = int ∷ second ∷ third ∷ places })
      unfolding run step
      parenthesis is =
          behind_int (second ∷ third ∷ places) ∙ behind_name (third ∷ places) ∙
          ap (run_step (record { state = AfterIntName before name; tallies = t; waiting = int ∷ second ∷ [] }) third (λ r. run end r places)) (ap (step_int_name before name) is) ∙
          one_more (judge_token t (counting 0 function_counts (Word word.Int)) int.offset) (λ one. judge one (plain 0 (Name name) ∷ mark 0 sign.OpenParen ∷ []) (second ∷ third ∷ [])) judged _ (λ kind offset. refl)
          (λ one.
          one_more (judge_token one (plain 0 (Name name)) second.offset) (λ two. judge two (mark 0 sign.OpenParen ∷ []) (third ∷ [])) judged _ (λ kind offset. refl)
          (λ two.
          one_more (judge_token two (mark 0 sign.OpenParen) third.offset) Within judged (λ last. from (ParametersStart heading) (record { end = end; tallies = last; left = places })) (λ kind offset. refl) (λ last. refl) ∙
          sym (from_steps (Awaits (ParametersOpen heading)) refl (record { end = end; tallies = two; left = third ∷ places }) ∙
          one_step (step (Awaits (ParametersOpen heading))) end two third places (mark 0 sign.OpenParen) (ParametersStart heading) (ap (step (Awaits (ParametersOpen heading))) is))) ∙
          sym (from_steps (AwaitsName (FunctionName before false true)) refl (record { end = end; tallies = one; left = second ∷ third ∷ places }) ∙
          one_step (step (AwaitsName (FunctionName before false true))) end one second (third ∷ places) (plain 0 (Name name)) (Awaits (ParametersOpen heading)) (ap (step (AwaitsName (FunctionName before false true))) named))) ∙
          sym (one_step (step_function before) end t int (second ∷ third ∷ places) (counting 0 function_counts (Word word.Int)) (AwaitsName (FunctionName before false true)) (ap (step_function before) is_int))

  -- ---- what follows `int`

  abbrev behind_array : List Placed → Answer
  behind_array places = judged_then (judge_token t (word_at 0 word.Int) int.offset) (λ later. stepping (array_named before (name_counts places)) (record { end = end; tallies = later; left = places }))

  with_counts : (places : List Placed) (counts : List Count) → name_counts places ≡ counts →
      judged_then (judge_token t (word_at 0 word.Int) int.offset) (λ later. stepping (array_named before counts) (record { end = end; tallies = later; left = places })) ≡ behind_array places
  with_counts places counts same = ap (λ cs. judged_then (judge_token t (word_at 0 word.Int) int.offset) (λ later. stepping (array_named before cs) (record { end = end; tallies = later; left = places }))) (sym same)

  counted : (places : List Placed) (found : Bool) → is_name_before sign.OpenBracket places ≡ found → name_counts places ≡ (if found then OneMore Arrays ∷ [] else [])
  counted places found is = ap (λ b. if b then OneMore Arrays ∷ [] else []) is

  third_of : (name : List ℕ) (second : Placed) (named : second.token ≡ Name name) (third : Placed) (places : List Placed) (found : Bool) → is_mark sign.OpenBracket third.token ≡ found → is_mark sign.OpenParen third.token ≡ false →
      run end (record { state = AfterIntName before name; tallies = t; waiting = int ∷ second ∷ [] }) (third ∷ places) ≡ behind_array (second ∷ third ∷ places)
  third_of name second named third places true found no_call =
      bracket name second named third places (sym (same_sign (Mark sign.OpenBracket) third.token found)) ∙
      with_counts (second ∷ third ∷ places) _ (counted (second ∷ third ∷ places) true (ap (λ token. is_name_token token && is_mark sign.OpenBracket third.token) named ∙ found))
  third_of name second named third places false found no_call =
      other_third name second named third places found no_call ∙
      with_counts (second ∷ third ∷ places) _ (counted (second ∷ third ∷ places) false (ap (λ token. is_name_token token && is_mark sign.OpenBracket third.token) named ∙ found))

  named_of : (name : List ℕ) (second : Placed) (named : second.token ≡ Name name) (places : List Placed) → is_name_before sign.OpenParen (second ∷ places) ≡ false →
      run end (record { state = AfterIntName before name; tallies = t; waiting = int ∷ second ∷ [] }) places ≡ behind_array (second ∷ places)
  named_of name second named [] no_call =
      ended name second named ∙ with_counts (second ∷ []) _ (counted (second ∷ []) false (ap (λ token. is_name_token token && false) named))
  named_of name second named (third ∷ places) no_call =
      third_of name second named third places (is_mark sign.OpenBracket third.token) refl (sym (ap (λ token. is_name_token token && is_mark sign.OpenParen third.token) named) ∙ no_call)

  second_of : (second : Placed) (places : List Placed) (found : Bool) → is_name_token second.token ≡ found → is_name_before sign.OpenParen (second ∷ places) ≡ false →
      run end (record { state = AfterInt before; tallies = t; waiting = int ∷ [] }) (second ∷ places) ≡ behind_array (second ∷ places)
  second_of second places true found no_call =
      let is = name_there second.token found in
      behind_name is.0 second is.1 places ∙ named_of is.0 second is.1 places no_call
  second_of second places false found no_call = unnamed second places (name_counts (second ∷ places)) found

  -- Where no name with a parenthesis follows, the machine goes on as with an array.
  pub int_of_array : (places : List Placed) → is_name_before sign.OpenParen places ≡ false → from (Items before) (record { end = end; tallies = t; left = int ∷ places }) ≡ behind_array places
  unfolding run step
  int_of_array [] no_call = behind_int [] ∙ one_more (judge_token t (word_at 0 word.Int) int.offset) Within (λ j. if_within j (at_end end None)) (λ later. at_end end None) (λ kind offset. refl) (λ later. refl)
  int_of_array (second ∷ places) no_call = behind_int (second ∷ places) ∙ second_of second places (is_name_token second.token) refl no_call

  both_true : (one other : Bool) → (one && other) ≡ true → (one ≡ true) × (other ≡ true)
  both_true true true same = (refl, refl)
  both_true true false same = absurd (cc)
  both_true false other same = absurd (cc)

  -- Where one follows, it goes on as with a function.
  pub int_of_function : (places : List Placed) → is_name_before sign.OpenParen places ≡ true →
      from (Items before) (record { end = end; tallies = t; left = int ∷ places }) ≡ stepping (step_function before) (record { end = end; tallies = t; left = int ∷ places })
  int_of_function [] call = absurd (cc)
  int_of_function (second ∷ []) call = absurd (false≢true ((both_true (is_name_token second.token) false call).1))
  int_of_function (second ∷ third ∷ places) call =
      let both = both_true (is_name_token second.token) (is_mark sign.OpenParen third.token) call in
      let is = name_there second.token both.0 in
      parenthesis is.0 second is.1 third places (sym (same_sign (Mark sign.OpenParen) third.token both.1))

-- ---- the first token of a function

same_unless_int : (before : Source) (token : Token) → is_keyword_token word.Int token ≡ false → step_items before token ≡ step_function before token
same_unless_int before (Word word.Int) other = absurd (cc)
same_unless_int before _ other = refl

not_false : (b : Bool) → not b ≡ false → b ≡ true
not_false true same = refl
not_false false same = absurd (cc)

module _ (before : Source) (end : End) (t : Tallies) (first : Placed) (places : List Placed) where
  from_either : (next : Option Next) →
      run_step (record { state = Items before; tallies = t; waiting = [] }) first (λ r. run end r places) next ≡ run_step (record { state = Items Empty; tallies = t; waiting = [] }) first (λ r. run end r places) next
  from_either None = refl
  from_either (Some next) = refl

  function_first : (is_int : Bool) → is_keyword_token word.Int first.token ≡ is_int → (is_int && not (is_name_before sign.OpenParen places)) ≡ false →
      from (Items before) (record { end = end; tallies = t; left = first ∷ places }) ≡ stepping (step_function before) (record { end = end; tallies = t; left = first ∷ places })
  unfolding run step
  function_first true is no_array = int_of_function before end t first (keyword_there word.Int (first ∷ places) places first refl is) places (not_false (is_name_before sign.OpenParen places) no_array)
  function_first false is no_array =
      from_either (step_items before first.token) ∙ ap (run_step (record { state = Items Empty; tallies = t; waiting = [] }) first (λ r. run end r places)) (same_unless_int before first.token is)

  -- Where an item stands first that is no array, the machine goes on as with a function.
  pub no_array_first : is_array_start (first ∷ places) ≡ false →
      from (Items before) (record { end = end; tallies = t; left = first ∷ places }) ≡ stepping (step_function before) (record { end = end; tallies = t; left = first ∷ places })
  no_array_first no_array = function_first (is_keyword_token word.Int first.token) refl no_array
