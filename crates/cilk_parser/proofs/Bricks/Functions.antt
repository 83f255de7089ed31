-- What is read and refused of a function.
use Rattle.std.proofs.Common.{◌≡◌, ◌≢◌, ℕ, ◌<◌, Bool, true, false, IsTrue, Option, Some, None, List, [], ◌∷◌, ◌++◌, length, Result, Ok, Err, MatchResult, refl, ap, sym, ◌∙◌, subst, arith}
use Rattle.cilk_tree.specs.declared.count.Count.TheVariants.{OneMore}
use Rattle.cilk_tree.specs.declared.count.Counted.TheVariants as counted
use Rattle.cilk_tree.specs.declared.token.Keyword.TheVariants as word
use Rattle.cilk_tree.specs.declared.token.Placed.{Placed}
use Rattle.cilk_tree.specs.declared.token.Sign.TheVariants as sign
use Rattle.cilk_tree.specs.declared.token.Token.{Token}
use Rattle.cilk_tree.specs.declared.token.Token.TheVariants.{Word, Mark}
use Rattle.cilk_tree.specs.declared.tree.Stmt.{Stmt}
use Rattle.cilk_tree.specs.Levels.{counting, mark}
use Rattle.cilk_tree.specs.Sugar.{commas_list, parameter_names}
use Rattle.cilk_tree.specs.Syntax.{Commas, One, More, NoParameters, VoidParameters, Named, Source}
use Rattle.cilk_parser.specs.declared.refusal.ParseRefusal.{ParseRefusal}
use Rattle.cilk_parser.specs.declared.starts.ItemStart.{ItemStart}
use Rattle.cilk_parser.specs.declared.starts.ItemStart.TheVariants as item
use Rattle.cilk_parser.specs.Contexts.{Heading, FunctionBody}
use Rattle.cilk_parser.specs.Spots.{Spot, from, Refuses, unexpected_of, is_array_start, is_keyword, is_sign, is_keyword_token, HasPassed, IsOver, HasRead, LacksSign, HasNamed, LacksName, stepping}
use Rattle.cilk_parser.specs.Phrases.{HasParameter, Lacks, LacksParameter, Parses, function_kind_phrase, function_phrase, inners_phrase, parameters_phrase, result_phrase}
use Rattle.cilk_parser.specs.Starts.{item_start, starts_item}
use Rattle.cilk_parser.specs.Steps.{State, Items, AfterCilk, ParametersStart, AfterParameter, NextParameter, Awaits, ParametersOpen, VoidClose, BodyOpen, AwaitsName, FunctionName, ParameterName, Next, function_counts, goes_on, is_mark, step, step_cilk, step_next_parameter, step_only, step_parameter, step_parameters}
use Rattle.cilk_parser.proofs.Bricks.Stepping.{Expects, awaits_lacks, awaits_name, awaits_no_name, awaits_sign, expects_only, from_steps, keyword_absent, lacks_sign, over_refuses, passed_shorter, passes_on, reads_sign, refuses_as, sign_absent, sign_there, stepping_same, unexpected_refuses}
use Rattle.cilk_parser.proofs.Bricks.Firsts.{keyword_there}
use Rattle.cilk_parser.proofs.Bricks.ItemHeads.{no_array_first, step_function}

-- ---- `int` or `void` behind `cilk`

no_result : (before : Source) (token : Token) → is_keyword_token word.Int token ≡ false → is_keyword_token word.Void token ≡ false → step_cilk before token ≡ None
no_result before (Word word.Int) no_int no_void = absurd (cc)
no_result before (Word word.Void) no_int no_void = absurd (cc)
no_result before _ no_int no_void = refl

module _ (old : Spot) where
  pub result_absent : is_keyword word.Int old.left ≡ false → is_keyword word.Void old.left ≡ false → Lacks result_phrase old (unexpected_of old.end old.left)
  unfolding step
  result_absent no_int no_void before _ =
      refuses_as (unexpected_of old.end old.left) _ _ (from_steps (AfterCilk before) refl old)
      (unexpected_refuses (step_cilk before) old
      (λ placed places first. no_result before placed.token (keyword_absent word.Int old.left places placed first no_int) (keyword_absent word.Void old.left places placed first no_void)))

  module _ (gives : Bool) (int : is_keyword word.Int old.left ≡ gives) (otherwise : gives ≡ false → is_keyword word.Void old.left ≡ true) where
    goes_result : (value : Bool) → gives ≡ value → (before : Source) (placed : Placed) (rest : List Placed) → old.left ≡ placed ∷ rest → step_cilk before placed.token ≡ goes_on (counting 0 [] placed.token) (AwaitsName (FunctionName before true value))
    goes_result true is before placed rest first =
        let same = keyword_there word.Int old.left rest placed first (int ∙ is) in
        ap (step_cilk before) same ∙ ap (λ t. goes_on (counting 0 [] t) (AwaitsName (FunctionName before true true))) (sym same)
    goes_result false is before placed rest first =
        let same = keyword_there word.Void old.left rest placed first (otherwise is) in
        ap (step_cilk before) same ∙ ap (λ t. goes_on (counting 0 [] t) (AwaitsName (FunctionName before true false))) (sym same)

    pub result_over : (refusal : ParseRefusal) → IsOver 0 [] old refusal → Lacks result_phrase old refusal
    unfolding step
    result_over refusal over before _ =
        refuses_as refusal _ _ (from_steps (AfterCilk before) refl old)
        (over_refuses (step_cilk before) (AwaitsName (FunctionName before true gives)) 0 [] old refusal over (goes_result gives refl before over.placed over.rest over.first))

    pub result_reads : (new : Spot) → HasPassed 0 [] old new → Parses result_phrase old new gives
    unfolding step
    result_reads new passed = record {
      syntax = gives;
      same = refl;
      shorter = passed_shorter 0 [] old new passed;
      leads = λ before _.
          from_steps (AfterCilk before) refl old ∙
          passes_on (step_cilk before) (AwaitsName (FunctionName before true gives)) 0 [] old new passed (goes_result gives refl before passed.placed new.left passed.first);
    }

-- ---- the words before the name

-- how the machine goes on with a token that begins a function
abbrev StartsAs : Source → Token → ItemStart → Type 0
StartsAs before token item.Cilk = step_function before token ≡ goes_on (counting 0 function_counts token) (AfterCilk before)
StartsAs before token item.Void = step_function before token ≡ goes_on (counting 0 function_counts token) (AwaitsName (FunctionName before false false))
StartsAs before token item.Int = step_function before token ≡ goes_on (counting 0 function_counts token) (AwaitsName (FunctionName before false true))
StartsAs before token item.Other = step_function before token ≡ None

function_starts : (before : Source) (token : Token) → StartsAs before token (item_start token)
function_starts before (Word word.Cilk) = refl
function_starts before (Word word.Void) = refl
function_starts before (Word word.Int) = refl
function_starts before _ = refl

from_first : (before : Source) (old : Spot) (left : List Placed) → old.left ≡ left → left ≢ [] → is_array_start left ≡ false → from (Items before) old ≡ stepping (step_function before) old
from_first before old [] is some no_array = absurd (some refl)
from_first before old (first ∷ places) is some no_array =
    ap (λ l. from (Items before) (record { end = old.end; tallies = old.tallies; left = l })) is ∙ no_array_first before old.end old.tallies first places no_array ∙
    ap (λ l. stepping (step_function before) (record { end = old.end; tallies = old.tallies; left = l })) (sym is)

module _ (old : Spot) (some : old.left ≢ []) (no_array : is_array_start old.left ≡ false) where
  as_function : (before : Source) → from (Items before) old ≡ stepping (step_function before) old
  as_function before = from_first before old old.left refl some no_array

  starts_as : (before : Source) (placed : Placed) (rest : List Placed) (start : ItemStart) → old.left ≡ placed ∷ rest → starts_item old.left ≡ start → StartsAs before placed.token start
  starts_as before placed rest start first starts = subst (StartsAs before placed.token) (sym (ap starts_item first) ∙ starts) (function_starts before placed.token)

  pub function_absent : starts_item old.left ≡ item.Other → Lacks function_phrase old (unexpected_of old.end old.left)
  function_absent starts before _ =
      refuses_as (unexpected_of old.end old.left) _ _ (as_function before) (unexpected_refuses (step_function before) old (λ placed places first. starts_as before placed places item.Other first starts))

  module _ (next : Source → State) (goes : (before : Source) (placed : Placed) (rest : List Placed) → old.left ≡ placed ∷ rest → step_function before placed.token ≡ goes_on (counting 0 function_counts placed.token) (next before)) where
    kind_over : (refusal : ParseRefusal) → IsOver 0 function_counts old refusal → Lacks function_phrase old refusal
    kind_over refusal over before _ =
        refuses_as refusal _ _ (as_function before) (over_refuses (step_function before) (next before) 0 function_counts old refusal over (goes before over.placed over.rest over.first))

    kind_passed : (new : Spot) → HasPassed 0 function_counts old new → (before : Source) → from (Items before) old ≡ from (next before) new
    kind_passed new passed before = as_function before ∙ passes_on (step_function before) (next before) 0 function_counts old new passed (goes before passed.placed new.left passed.first)

  module _ (starts : starts_item old.left ≡ item.Cilk) where
    pub cilk_over : (refusal : ParseRefusal) → IsOver 0 function_counts old refusal → Lacks function_phrase old refusal
    cilk_over = kind_over AfterCilk (λ before placed rest first. starts_as before placed rest item.Cilk first starts)

    module _ (middle : Spot) (passed : HasPassed 0 function_counts old middle) where
      to_cilk : (before : Source) → from (Items before) old ≡ from (AfterCilk before) middle
      to_cilk = kind_passed AfterCilk (λ before placed rest first. starts_as before placed rest item.Cilk first starts) middle passed

      pub cilk_lacks : (refusal : ParseRefusal) → Lacks result_phrase middle refusal → Lacks function_phrase old refusal
      cilk_lacks refusal lacks before _ = refuses_as refusal _ _ (to_cilk before) (lacks before tt)

      pub cilk_reads : (new : Spot) (gives : Bool) → Parses result_phrase middle new gives → Parses function_kind_phrase old new (true, gives)
      cilk_reads new gives read = record {
        syntax = (true, read.syntax);
        same = ap (λ g. (true, g)) read.same;
        shorter = let a = passed_shorter 0 function_counts old middle passed in let b = read.shorter in omega arith;
        leads = λ before _. to_cilk before ∙ read.leads before tt;
      }

  module _ (starts : starts_item old.left ≡ item.Void) where
    pub void_over : (refusal : ParseRefusal) → IsOver 0 function_counts old refusal → Lacks function_phrase old refusal
    void_over = kind_over (λ before. AwaitsName (FunctionName before false false)) (λ before placed rest first. starts_as before placed rest item.Void first starts)

    pub void_reads : (new : Spot) → HasPassed 0 function_counts old new → Parses function_kind_phrase old new (false, false)
    void_reads new passed = record {
      syntax = (false, false);
      same = refl;
      shorter = passed_shorter 0 function_counts old new passed;
      leads = λ before _. kind_passed (λ others. AwaitsName (FunctionName others false false)) (λ others placed rest first. starts_as others placed rest item.Void first starts) new passed before;
    }

  module _ (starts : starts_item old.left ≡ item.Int) where
    pub int_over : (refusal : ParseRefusal) → IsOver 0 function_counts old refusal → Lacks function_phrase old refusal
    int_over = kind_over (λ before. AwaitsName (FunctionName before false true)) (λ before placed rest first. starts_as before placed rest item.Int first starts)

    pub int_reads : (new : Spot) → HasPassed 0 function_counts old new → Parses function_kind_phrase old new (false, true)
    int_reads new passed = record {
      syntax = (false, true);
      same = refl;
      shorter = passed_shorter 0 function_counts old new passed;
      leads = λ before _. kind_passed (λ others. AwaitsName (FunctionName others false true)) (λ others placed rest first. starts_as others placed rest item.Int first starts) new passed before;
    }

-- ---- a parameter

-- how the machine goes on where a parameter must follow
abbrev step_one : Heading → Option (Commas (List ℕ)) → Token → Option Next
step_one heading before (Word word.Int) = goes_on (counting 0 (OneMore counted.Parameters ∷ []) (Word word.Int)) (AwaitsName (ParameterName heading before))
step_one heading before _ = None

same_first : (heading : Heading) (token : Token) → is_mark sign.CloseParen token ≡ false → is_keyword_token word.Void token ≡ false → step_parameters heading token ≡ step_one heading None token
same_first heading (Mark sign.CloseParen) no_close no_void = absurd (cc)
same_first heading (Word word.Void) no_close no_void = absurd (cc)
same_first heading _ no_close no_void = refl

same_next : (heading : Heading) (names : Commas (List ℕ)) (token : Token) → step_next_parameter heading names token ≡ step_one heading (Some names) token
same_next heading names _ = refl

no_parameter : (heading : Heading) (before : Option (Commas (List ℕ))) (token : Token) → is_keyword_token word.Int token ≡ false → step_one heading before token ≡ None
no_parameter heading before (Word word.Int) absent = absurd (cc)
no_parameter heading before _ absent = refl

module _ (old : Spot) where
  from_start : (heading : Heading) → is_sign sign.CloseParen old.left ≡ false → is_keyword word.Void old.left ≡ false → from (ParametersStart heading) old ≡ stepping (step_one heading None) old
  unfolding step
  from_start heading no_close no_void =
      from_steps (ParametersStart heading) refl old ∙
      stepping_same (step_parameters heading) (step_one heading None) old
      (λ placed places first. same_first heading placed.token (sign_absent sign.CloseParen old.left places placed first no_close) (keyword_absent word.Void old.left places placed first no_void))

  from_next : (heading : Heading) (names : Commas (List ℕ)) → from (NextParameter heading names) old ≡ stepping (step_one heading (Some names)) old
  unfolding step
  from_next heading names =
      from_steps (NextParameter heading names) refl old ∙ stepping_same (step_next_parameter heading names) (step_one heading (Some names)) old (λ placed places first. same_next heading names placed.token)

  refused_parameter : (refusal : ParseRefusal) → ((heading : Heading) (before : Option (Commas (List ℕ))) → Refuses (stepping (step_one heading before) old) refusal) → LacksParameter old refusal
  refused_parameter refusal refused = record {
    first = λ heading no_close no_void. refuses_as refusal _ _ (from_start heading no_close no_void) (refused heading None);
    next = λ heading names. refuses_as refusal _ _ (from_next heading names) (refused heading (Some names));
  }

  pub parameter_absent : is_keyword word.Int old.left ≡ false → LacksParameter old (unexpected_of old.end old.left)
  parameter_absent absent =
      refused_parameter (unexpected_of old.end old.left)
      (λ heading before. unexpected_refuses (step_one heading before) old (λ placed places first. no_parameter heading before placed.token (keyword_absent word.Int old.left places placed first absent)))

  module _ (there : IsTrue (is_keyword word.Int old.left)) where
    goes_one : (heading : Heading) (before : Option (Commas (List ℕ))) (placed : Placed) (rest : List Placed) → old.left ≡ placed ∷ rest →
        step_one heading before placed.token ≡ goes_on (counting 0 (OneMore counted.Parameters ∷ []) placed.token) (AwaitsName (ParameterName heading before))
    goes_one heading before placed rest first =
        let is = keyword_there word.Int old.left rest placed first there in
        ap (step_one heading before) is ∙ ap (λ t. goes_on (counting 0 (OneMore counted.Parameters ∷ []) t) (AwaitsName (ParameterName heading before))) (sym is)

    pub parameter_over : (refusal : ParseRefusal) → IsOver 0 (OneMore counted.Parameters ∷ []) old refusal → LacksParameter old refusal
    parameter_over refusal over =
        refused_parameter refusal
        (λ heading before. over_refuses (step_one heading before) (AwaitsName (ParameterName heading before)) 0 (OneMore counted.Parameters ∷ []) old refusal over (goes_one heading before over.placed over.rest over.first))

    module _ (middle : Spot) (passed : HasPassed 0 (OneMore counted.Parameters ∷ []) old middle) where
      to_name : (heading : Heading) (before : Option (Commas (List ℕ))) → stepping (step_one heading before) old ≡ from (AwaitsName (ParameterName heading before)) middle
      to_name heading before =
          passes_on (step_one heading before) (AwaitsName (ParameterName heading before)) 0 (OneMore counted.Parameters ∷ []) old middle passed (goes_one heading before passed.placed middle.left passed.first)

      -- what was read or refused behind `int`
      pub parameter_answers : (new : Spot) (result : Result (List ℕ) ParseRefusal) →
          MatchResult result (λ name. HasNamed 0 (OneMore counted.Variables ∷ []) name middle new) (λ refusal. LacksName 0 (OneMore counted.Variables ∷ []) middle refusal) →
          MatchResult result (λ name. HasParameter old new name) (λ refusal. LacksParameter old refusal)
      parameter_answers new (Ok name) named = record {
        shorter = let a = passed_shorter 0 (OneMore counted.Parameters ∷ []) old middle passed in let b = passed_shorter 0 (OneMore counted.Variables ∷ []) middle new named.passed in omega arith;
        leads_first = λ heading no_close no_void.
            from_start heading no_close no_void ∙ to_name heading None ∙ awaits_name (ParameterName heading None) 0 (OneMore counted.Variables ∷ []) (λ n. refl) name middle new named;
        leads_next = λ heading names.
            from_next heading names ∙ to_name heading (Some names) ∙ awaits_name (ParameterName heading (Some names)) 0 (OneMore counted.Variables ∷ []) (λ n. refl) name middle new named;
      }
      parameter_answers new (Err refusal) lacks =
          refused_parameter refusal
          (λ heading before. refuses_as refusal _ _ (to_name heading before) (awaits_no_name (ParameterName heading before) 0 (OneMore counted.Variables ∷ []) (λ n. refl) middle refusal lacks))

-- ---- parameters

module _ (old : Spot) where
  -- `void` alone
  module _ (there : IsTrue (is_keyword word.Void old.left)) where
    goes_void : (heading : Heading) (placed : Placed) (rest : List Placed) → old.left ≡ placed ∷ rest → step_parameters heading placed.token ≡ goes_on (counting 0 [] placed.token) (Awaits (VoidClose heading))
    goes_void heading placed rest first =
        let is = keyword_there word.Void old.left rest placed first there in ap (step_parameters heading) is ∙ ap (λ t. goes_on (counting 0 [] t) (Awaits (VoidClose heading))) (sym is)

    pub no_names_over : (refusal : ParseRefusal) → IsOver 0 [] old refusal → Lacks parameters_phrase old refusal
    unfolding step
    no_names_over refusal over heading _ =
        refuses_as refusal _ _ (from_steps (ParametersStart heading) refl old)
        (over_refuses (step_parameters heading) (Awaits (VoidClose heading)) 0 [] old refusal over (goes_void heading over.placed over.rest over.first))

    module _ (middle : Spot) (passed : HasPassed 0 [] old middle) where
      to_close : (heading : Heading) → from (ParametersStart heading) old ≡ from (Awaits (VoidClose heading)) middle
      unfolding step
      to_close heading =
          from_steps (ParametersStart heading) refl old ∙ passes_on (step_parameters heading) (Awaits (VoidClose heading)) 0 [] old middle passed (goes_void heading passed.placed middle.left passed.first)

      pub void_unclosed : (refusal : ParseRefusal) → LacksSign sign.CloseParen 0 middle refusal → Lacks parameters_phrase old refusal
      void_unclosed refusal lacks heading _ = refuses_as refusal _ _ (to_close heading) (awaits_lacks (VoidClose heading) sign.CloseParen 0 refl middle refusal lacks)

      pub void_closed : (new : Spot) (names : List (List ℕ)) → names ≡ [] → HasRead sign.CloseParen 0 middle new → Parses parameters_phrase old new names
      void_closed new names none closed = record {
        syntax = VoidParameters;
        same = none;
        shorter = let a = passed_shorter 0 [] old middle passed in let b = passed_shorter 0 [] middle new closed.passed in omega arith;
        leads = λ heading _. to_close heading ∙ awaits_sign (VoidClose heading) sign.CloseParen 0 refl middle new closed;
      }

  -- nothing at all
  module _ (there : IsTrue (is_sign sign.CloseParen old.left)) where
    goes_close : (heading : Heading) (placed : Placed) (rest : List Placed) → old.left ≡ placed ∷ rest → step_parameters heading placed.token ≡ goes_on (counting 0 [] placed.token) (Awaits (BodyOpen heading NoParameters))
    goes_close heading placed rest first =
        let is = sign_there sign.CloseParen old.left rest placed first there in ap (step_parameters heading) is ∙ ap (λ t. goes_on (counting 0 [] t) (Awaits (BodyOpen heading NoParameters))) (sym is)

    pub nothing_over : (refusal : ParseRefusal) → IsOver 0 [] old refusal → Lacks parameters_phrase old refusal
    unfolding step
    nothing_over refusal over heading _ =
        refuses_as refusal _ _ (from_steps (ParametersStart heading) refl old)
        (over_refuses (step_parameters heading) (Awaits (BodyOpen heading NoParameters)) 0 [] old refusal over (goes_close heading over.placed over.rest over.first))

    pub nothing_reads : (new : Spot) (names : List (List ℕ)) → names ≡ [] → HasPassed 0 [] old new → Parses parameters_phrase old new names
    unfolding step
    nothing_reads new names none passed = record {
      syntax = NoParameters;
      same = none;
      shorter = passed_shorter 0 [] old new passed;
      leads = λ heading _.
          from_steps (ParametersStart heading) refl old ∙
          passes_on (step_parameters heading) (Awaits (BodyOpen heading NoParameters)) 0 [] old new passed (goes_close heading passed.placed new.left passed.first);
    }

-- Some parameters were read.
pub record HasNames (old now : Spot) (trees : List (List ℕ)) : Type 0 where
  pub names : Commas (List ℕ)
  pub same : trees ≡ commas_list (λ name. name ∷ []) names
  pub shorter : length now.left < length old.left
  pub leads : (heading : Heading) → from (ParametersStart heading) old ≡ from (AfterParameter heading names) now

module _ (old : Spot) (no_void : is_keyword word.Void old.left ≡ false) (no_close : is_sign sign.CloseParen old.left ≡ false) where
  pub first_lacks : (refusal : ParseRefusal) → LacksParameter old refusal → Lacks parameters_phrase old refusal
  first_lacks refusal lacks heading _ = lacks.first heading no_close no_void

  pub first_reads : (new : Spot) (name : List ℕ) (names : List (List ℕ)) → names ≡ name ∷ [] → HasParameter old new name → HasNames old new names
  first_reads new name names one read = record { names = One name; same = one; shorter = read.shorter; leads = λ heading. read.leads_first heading no_close no_void }

parameters_end : (heading : Heading) (names : Commas (List ℕ)) (token : Token) → is_mark sign.Comma token ≡ false → step_parameter heading names token ≡ step_only (mark 0 sign.CloseParen) (Awaits (BodyOpen heading (Named names))) token
parameters_end heading names (Mark sign.Comma) absent = absurd (cc)
parameters_end heading names _ absent = refl

module _ (old now : Spot) (trees : List (List ℕ)) (read : HasNames old now trees) where
  module _ (comma : IsTrue (is_sign sign.Comma now.left)) where
    goes_comma : (heading : Heading) (placed : Placed) (rest : List Placed) → now.left ≡ placed ∷ rest → step_parameter heading read.names placed.token ≡ goes_on (counting 0 [] placed.token) (NextParameter heading read.names)
    goes_comma heading placed rest first =
        let is = sign_there sign.Comma now.left rest placed first comma in ap (step_parameter heading read.names) is ∙ ap (λ t. goes_on (counting 0 [] t) (NextParameter heading read.names)) (sym is)

    pub comma_over : (refusal : ParseRefusal) → IsOver 0 [] now refusal → Lacks parameters_phrase old refusal
    unfolding step
    comma_over refusal over heading _ =
        refuses_as refusal _ _ (read.leads heading ∙ from_steps (AfterParameter heading read.names) refl now)
        (over_refuses (step_parameter heading read.names) (NextParameter heading read.names) 0 [] now refusal over (goes_comma heading over.placed over.rest over.first))

    module _ (start : Spot) (passed : HasPassed 0 [] now start) where
      to_next : (heading : Heading) → from (ParametersStart heading) old ≡ from (NextParameter heading read.names) start
      unfolding step
      to_next heading =
          read.leads heading ∙ from_steps (AfterParameter heading read.names) refl now ∙
          passes_on (step_parameter heading read.names) (NextParameter heading read.names) 0 [] now start passed (goes_comma heading passed.placed start.left passed.first)

      pub next_lacks : (refusal : ParseRefusal) → LacksParameter start refusal → Lacks parameters_phrase old refusal
      next_lacks refusal lacks heading _ = refuses_as refusal _ _ (to_next heading) (lacks.next heading read.names)

      module _ (new : Spot) (name : List ℕ) (next : HasParameter start new name) where
        pub next_reads : (pushed : List (List ℕ)) → pushed ≡ trees ++ name ∷ [] → HasNames old new pushed
        next_reads pushed push = record {
          names = More read.names name;
          same = push ∙ ap (λ l. l ++ name ∷ []) read.same;
          shorter = let a = read.shorter in let b = passed_shorter 0 [] now start passed in let d = next.shorter in omega arith;
          leads = λ heading. to_next heading ∙ next.leads_next heading read.names;
        }

        pub next_shorter : length new.left < length now.left
        next_shorter = let b = passed_shorter 0 [] now start passed in let d = next.shorter in omega arith

  module _ (absent : is_sign sign.Comma now.left ≡ false) where
    to_end : (heading : Heading) → from (ParametersStart heading) old ≡ stepping (step_only (mark 0 sign.CloseParen) (Awaits (BodyOpen heading (Named read.names)))) now
    unfolding step
    to_end heading =
        read.leads heading ∙ from_steps (AfterParameter heading read.names) refl now ∙
        stepping_same (step_parameter heading read.names) (step_only (mark 0 sign.CloseParen) (Awaits (BodyOpen heading (Named read.names)))) now
        (λ placed places first. parameters_end heading read.names placed.token (sign_absent sign.Comma now.left places placed first absent))

    ends : (heading : Heading) → Expects (step_only (mark 0 sign.CloseParen) (Awaits (BodyOpen heading (Named read.names)))) sign.CloseParen 0 (Awaits (BodyOpen heading (Named read.names)))
    ends heading = expects_only sign.CloseParen 0 (Awaits (BodyOpen heading (Named read.names)))

    pub names_unclosed : (refusal : ParseRefusal) → LacksSign sign.CloseParen 0 now refusal → Lacks parameters_phrase old refusal
    names_unclosed refusal lacks heading _ = refuses_as refusal _ _ (to_end heading) (lacks_sign _ sign.CloseParen 0 (Awaits (BodyOpen heading (Named read.names))) (ends heading) now refusal lacks)

    pub names_closed : (new : Spot) → HasRead sign.CloseParen 0 now new → Parses parameters_phrase old new trees
    names_closed new closed = record {
      syntax = Named read.names;
      same = read.same;
      shorter = let a = read.shorter in let b = passed_shorter 0 [] now new closed.passed in omega arith;
      leads = λ heading _. to_end heading ∙ reads_sign _ sign.CloseParen 0 (Awaits (BodyOpen heading (Named read.names))) (ends heading) now new closed;
    }

-- ---- the function

module _ (old named : Spot) («cilk» gives : Bool) (words : Parses function_kind_phrase old named («cilk», gives)) where
  to_kind : (before : Source) → from (Items before) old ≡ from (AwaitsName (FunctionName before «cilk» gives)) named
  to_kind before = words.leads before tt ∙ ap (λ kind. from (AwaitsName (FunctionName before kind.0 kind.1)) named) (sym words.same)

  pub function_unnamed : (refusal : ParseRefusal) → LacksName 0 [] named refusal → Lacks function_phrase old refusal
  function_unnamed refusal lacks before _ = refuses_as refusal _ _ (to_kind before) (awaits_no_name (FunctionName before «cilk» gives) 0 [] (λ n. refl) named refusal lacks)

  module _ (name : List ℕ) (open_at : Spot) (read : HasNamed 0 [] name named open_at) where
    abbrev heading : Source → Heading
    heading before = record { before = before; «cilk» = «cilk»; gives = gives; name = name }

    to_open : (before : Source) → from (Items before) old ≡ from (Awaits (ParametersOpen (heading before))) open_at
    to_open before = to_kind before ∙ awaits_name (FunctionName before «cilk» gives) 0 [] (λ n. refl) name named open_at read

    pub parenthesis_lacks : (refusal : ParseRefusal) → LacksSign sign.OpenParen 0 open_at refusal → Lacks function_phrase old refusal
    parenthesis_lacks refusal lacks before _ = refuses_as refusal _ _ (to_open before) (awaits_lacks (ParametersOpen (heading before)) sign.OpenParen 0 refl open_at refusal lacks)

    module _ (start : Spot) (opened : HasRead sign.OpenParen 0 open_at start) where
      to_parameters : (before : Source) → from (Items before) old ≡ from (ParametersStart (heading before)) start
      to_parameters before = to_open before ∙ awaits_sign (ParametersOpen (heading before)) sign.OpenParen 0 refl open_at start opened

      pub parameters_lack : (refusal : ParseRefusal) → Lacks parameters_phrase start refusal → Lacks function_phrase old refusal
      parameters_lack refusal lacks before _ = refuses_as refusal _ _ (to_parameters before) (lacks (heading before) tt)

      module _ (body_at : Spot) (names : List (List ℕ)) (formals : Parses parameters_phrase start body_at names) where
        to_brace : (before : Source) → from (Items before) old ≡ from (Awaits (BodyOpen (heading before) formals.syntax)) body_at
        to_brace before = to_parameters before ∙ formals.leads (heading before) tt

        pub brace_lacks : (refusal : ParseRefusal) → LacksSign sign.OpenBrace 0 body_at refusal → Lacks function_phrase old refusal
        brace_lacks refusal lacks before _ = refuses_as refusal _ _ (to_brace before) (awaits_lacks (BodyOpen (heading before) formals.syntax) sign.OpenBrace 0 refl body_at refusal lacks)

        module _ (inside : Spot) (brace : HasRead sign.OpenBrace 0 body_at inside) where
          pub body_lacks : (refusal : ParseRefusal) → Lacks (inners_phrase 1 0) inside refusal → Lacks function_phrase old refusal
          body_lacks refusal lacks before _ =
              refuses_as refusal _ _ (to_brace before ∙ awaits_sign (BodyOpen (heading before) formals.syntax) sign.OpenBrace 0 refl body_at inside brace)
              (lacks (FunctionBody (heading before) formals.syntax) (refl, refl))

          pub function_reads : (new : Spot) (trees : List Stmt) → Parses (inners_phrase 1 0) inside new trees → Parses function_phrase old new (record { «cilk» = «cilk»; gives = gives; name = name; params = names; body = trees })
          function_reads new trees body = record {
            syntax = record { «cilk» = «cilk»; gives = gives; name = name; parameters = formals.syntax; body = body.syntax };
            same = ap (λ l. record { «cilk» = «cilk»; gives = gives; name = name; params = l; body = trees }) formals.same ∙ ap (λ l. record { «cilk» = «cilk»; gives = gives; name = name; params = parameter_names formals.syntax; body = l }) body.same;
            shorter = let a = words.shorter in let b = passed_shorter 0 [] named open_at read.passed in let d = passed_shorter 0 [] open_at start opened.passed in let e = formals.shorter in
                let f = passed_shorter 0 [] body_at inside brace.passed in let g = body.shorter in omega arith;
            leads = λ before _.
                to_brace before ∙ awaits_sign (BodyOpen (heading before) formals.syntax) sign.OpenBrace 0 refl body_at inside brace ∙
                body.leads (FunctionBody (heading before) formals.syntax) (refl, refl);
          }
