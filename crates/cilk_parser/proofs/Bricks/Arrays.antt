-- What is read and refused of an item with shared arrays.
use Rattle.std.proofs.Common.{◌≡◌, ℕ, ◌<◌, pos, Bool, true, false, not, ◌&&◌, if◌then◌else◌, IsTrue, Option, Some, None, List, [], ◌∷◌, ◌++◌, length, drop, Result, Ok, Err, MatchResult, refl, ap, sym, ◌∙◌, subst, inl, inr, append_assoc, append-nil, arith}
use Rattle.std.proofs.lemmas.Bool.{false≢true}
use Rattle.cilk_tree.specs.declared.count.Count.{Count}
use Rattle.cilk_tree.specs.declared.count.Count.TheVariants.{OneMore}
use Rattle.cilk_tree.specs.declared.count.Counted.TheVariants.{Arrays}
use Rattle.cilk_tree.specs.declared.token.Keyword.TheVariants as word
use Rattle.cilk_tree.specs.declared.token.Placed.{Placed}
use Rattle.cilk_tree.specs.declared.token.Sign.TheVariants as sign
use Rattle.cilk_tree.specs.declared.token.Token.{Token}
use Rattle.cilk_tree.specs.declared.token.Token.TheVariants.{Number, Mark}
use Rattle.cilk_tree.specs.declared.tree.Shared.{Shared}
use Rattle.cilk_tree.specs.Levels.{counting, mark}
use Rattle.cilk_tree.specs.Sugar.{commas_list, if_there, one_array}
use Rattle.cilk_tree.specs.Syntax as syntax
use Rattle.cilk_tree.specs.Syntax.{Commas, Array, Source, Then}
use Rattle.cilk_parser.specs.declared.refusal.ParseRefusal.{ParseRefusal}
use Rattle.cilk_parser.specs.Contexts.{with_last}
use Rattle.cilk_parser.specs.Spots.{Spot, from, Refuses, unexpected_of, is_array_start, is_keyword, is_name_before, is_name_token, is_sign, is_size, is_size_token, HasPassed, IsOver, HasRead, LacksSign, HasNamed, LacksName, HasSize, LacksSize, stepping}
use Rattle.cilk_parser.specs.Phrases.{Lacks, Parses, array_name_phrase, array_phrase, arrays_phrase}
use Rattle.cilk_parser.specs.Run.{judge_token}
use Rattle.cilk_parser.specs.Steps.{Items, ArraySize, AfterArray, Awaits, ArrayOpen, ArrayClose, AwaitsName, ArrayName, goes_on, is_mark, step, step_array, step_only, step_size}
use Rattle.cilk_parser.proofs.Bricks.Stepping.{Expects, awaits_lacks, awaits_name, awaits_no_name, awaits_sign, expects_only, from_steps, lacks_name, lacks_sign, over_refuses, passed_shorter, passes_on, reads_name, reads_sign, refuses_as, sign_absent, sign_there, stepping_same, unexpected_refuses}
use Rattle.cilk_parser.proofs.Bricks.Firsts.{keyword_there}
use Rattle.cilk_parser.proofs.Bricks.ItemHeads.{array_named, expects_array_name, int_of_array, judged_then, name_counts}

-- ---- `int` and the name

array_start : (int call : Bool) → (int && not call) ≡ true → (int ≡ true) × (call ≡ false)
array_start true false same = (refl, refl)
array_start true true same = absurd (cc)
array_start false call same = absurd (cc)

module _ (old : Spot) (starts : IsTrue (is_array_start old.left)) where
  -- the machine's answer with the token that stands first
  of_int : (before : Source) (first : Placed) (places : List Placed) → old.left ≡ first ∷ places →
      from (Items before) old ≡ judged_then (judge_token old.tallies (counting 0 [] first.token) first.offset) (λ later. stepping (array_named before (name_counts places)) (record { end = old.end; tallies = later; left = places }))
  of_int before first places is =
      let start = array_start (is_keyword word.Int old.left) (is_name_before sign.OpenParen (drop 1 old.left)) starts in
      let int = keyword_there word.Int old.left places first is start.0 in
      ap (λ l. from (Items before) (record { end = old.end; tallies = old.tallies; left = l })) is ∙
      int_of_array before old.end old.tallies first int places (sym (ap (λ l. is_name_before sign.OpenParen (drop 1 l)) is) ∙ start.1) ∙
      ap (λ token. judged_then (judge_token old.tallies (counting 0 [] token) first.offset) (λ later. stepping (array_named before (name_counts places)) (record { end = old.end; tallies = later; left = places }))) (sym int)

  pub int_over : (refusal : ParseRefusal) → IsOver 0 [] old refusal → Lacks array_name_phrase old refusal
  int_over refusal over before _ =
      subst (Refuses (from (Items before) old)) (sym over.same)
      (of_int before over.placed over.rest over.first ∙ ap (λ j. judged_then j (λ later. stepping (array_named before (name_counts over.rest)) (record { end = old.end; tallies = later; left = over.rest }))) over.judged)

  module _ (middle : Spot) (passed : HasPassed 0 [] old middle) where
    to_name : (before : Source) → from (Items before) old ≡ stepping (array_named before (name_counts middle.left)) middle
    to_name before =
        of_int before passed.placed middle.left passed.first ∙
        ap (λ j. judged_then j (λ later. stepping (array_named before (name_counts middle.left)) (record { end = old.end; tallies = later; left = middle.left }))) passed.judged ∙
        ap (λ end. stepping (array_named before (name_counts middle.left)) (record { end = end; tallies = middle.tallies; left = middle.left })) (sym passed.end)

    -- as what the name counts
    module _ (counts : List Count) (found : Bool) (is : is_name_before sign.OpenBracket middle.left ≡ found) (counted : counts ≡ (if found then OneMore Arrays ∷ [] else [])) where
      to_counted : (before : Source) → from (Items before) old ≡ stepping (array_named before counts) middle
      to_counted before = to_name before ∙ ap (λ cs. stepping (array_named before cs) middle) (ap (λ b. if b then OneMore Arrays ∷ [] else []) is ∙ sym counted)

      pub array_unnamed : (refusal : ParseRefusal) → LacksName 0 counts middle refusal → Lacks array_name_phrase old refusal
      array_unnamed refusal lacks before _ =
          refuses_as refusal _ _ (to_counted before) (lacks_name (array_named before counts) 0 counts (λ name. Awaits (ArrayOpen before None name)) (expects_array_name before counts) middle refusal lacks)

      pub array_named_reads : (name : List ℕ) (new : Spot) → HasNamed 0 counts name middle new → Parses array_name_phrase old new name
      array_named_reads name new named = record {
        syntax = name;
        same = refl;
        shorter = let a = passed_shorter 0 [] old middle passed in let b = passed_shorter 0 counts middle new named.passed in omega arith;
        leads = λ before _. to_counted before ∙ reads_name (array_named before counts) 0 counts (λ name. Awaits (ArrayOpen before None name)) (expects_array_name before counts) name middle new named;
      }

    -- No bracket follows the name.
    pub no_bracket : is_name_before sign.OpenBracket middle.left ≡ false → (name : List ℕ) (new : Spot) → HasNamed 0 [] name middle new → Lacks array_name_phrase old (unexpected_of new.end new.left)
    no_bracket absent name new named before _ =
        let none = sym (ap (is_name_before sign.OpenBracket) named.passed.first ∙ ap (λ token. is_name_token token && is_sign sign.OpenBracket new.left) named.named) ∙ absent in
        refuses_as (unexpected_of new.end new.left) _ _
        (to_counted [] false absent refl before ∙ reads_name (array_named before []) 0 [] (λ n. Awaits (ArrayOpen before None n)) (expects_array_name before []) name middle new named)
        (awaits_lacks (ArrayOpen before None name) sign.OpenBracket 0 refl new (unexpected_of new.end new.left) (inl (none, refl)))

-- what was read or refused, where a bracket follows the name
pub array_name_answers : (old middle new : Spot) → IsTrue (is_array_start old.left) → HasPassed 0 [] old middle → is_name_before sign.OpenBracket middle.left ≡ true → (result : Result (List ℕ) ParseRefusal) →
    MatchResult result (λ name. HasNamed 0 (OneMore Arrays ∷ []) name middle new) (λ refusal. LacksName 0 (OneMore Arrays ∷ []) middle refusal) →
    MatchResult result (λ name. Parses array_name_phrase old new name) (λ refusal. Lacks array_name_phrase old refusal)
array_name_answers old middle new starts passed found (Ok name) answer = array_named_reads old starts middle passed (OneMore Arrays ∷ []) true found refl name new answer
array_name_answers old middle new starts passed found (Err refusal) answer = array_unnamed old starts middle passed (OneMore Arrays ∷ []) true found refl refusal answer

-- ---- the brackets

words_there : (token : Token) → IsTrue (is_size_token token) → (words : ℕ) × (token ≡ Number (pos words))
words_there (Number (pos words)) there = (words, refl)
words_there _ there = absurd (false≢true there)

no_words : (before : Source) (others : Option (Commas Array)) (name : List ℕ) (token : Token) → is_size_token token ≡ false → step_size before others name token ≡ None
no_words before others name (Number (pos words)) absent = absurd (cc)
no_words before others name _ absent = refl

module _ (name : List ℕ) (old : Spot) where
  pub bracket_lacks : (refusal : ParseRefusal) → LacksSign sign.OpenBracket 0 old refusal → Lacks (array_phrase name) old refusal
  bracket_lacks refusal lacks (before, others) _ = awaits_lacks (ArrayOpen before others name) sign.OpenBracket 0 refl old refusal lacks

  module _ (size : Spot) (opened : HasRead sign.OpenBracket 0 old size) where
    to_size : (before : Source) (others : Option (Commas Array)) → from (Awaits (ArrayOpen before others name)) old ≡ stepping (step_size before others name) size
    unfolding step
    to_size before others = awaits_sign (ArrayOpen before others name) sign.OpenBracket 0 refl old size opened ∙ from_steps (ArraySize before others name) refl size

    goes_words : (before : Source) (others : Option (Commas Array)) (words : ℕ) (token : Token) → token ≡ Number (pos words) →
        step_size before others name token ≡ goes_on (counting 0 [] token) (Awaits (ArrayClose before others name words))
    goes_words before others words token is = ap (step_size before others name) is ∙ ap (λ t. goes_on (counting 0 [] t) (Awaits (ArrayClose before others name words))) (sym is)

    pub words_lacks : (refusal : ParseRefusal) → LacksSize size refusal → Lacks (array_phrase name) old refusal
    words_lacks refusal lacks (before, others) _ = refuses_as refusal _ _ (to_size before others) (elim lacks [
      | inl absent ↦
          subst (Refuses (stepping (step_size before others name) size)) (sym absent.1)
          (unexpected_refuses (step_size before others name) size (λ placed places first. no_words before others name placed.token (subst (λ l. is_size l ≡ false) first absent.0)))
      | inr over ↦
          let is = words_there over.1.placed.token (subst (λ l. IsTrue (is_size l)) over.1.first over.0) in
          over_refuses (step_size before others name) (Awaits (ArrayClose before others name is.0)) 0 [] size refusal over.1 (goes_words before others is.0 over.1.placed.token is.1)
    ])

    module _ (words : ℕ) (close : Spot) (read : HasSize words size close) where
      to_close : (before : Source) (others : Option (Commas Array)) → from (Awaits (ArrayOpen before others name)) old ≡ from (Awaits (ArrayClose before others name words)) close
      to_close before others =
          to_size before others ∙ passes_on (step_size before others name) (Awaits (ArrayClose before others name words)) 0 [] size close read.passed (goes_words before others words read.passed.placed.token read.is)

      pub closing_lacks : (refusal : ParseRefusal) → LacksSign sign.CloseBracket 0 close refusal → Lacks (array_phrase name) old refusal
      closing_lacks refusal lacks (before, others) _ = refuses_as refusal _ _ (to_close before others) (awaits_lacks (ArrayClose before others name words) sign.CloseBracket 0 refl close refusal lacks)

      pub array_reads : (new : Spot) → HasRead sign.CloseBracket 0 close new → Parses (array_phrase name) old new (record { name = name; words = words })
      array_reads new closed = record {
        syntax = words;
        same = refl;
        shorter = let a = passed_shorter 0 [] old size opened.passed in let b = passed_shorter 0 [] size close read.passed in let d = passed_shorter 0 [] close new closed.passed in omega arith;
        leads = λ (before, others) _. to_close before others ∙ awaits_sign (ArrayClose before others name words) sign.CloseBracket 0 refl close new closed;
      }

-- ---- the arrays of an item

-- Behind these arrays the name of the next one was read.
pub record HasNext (old now : Spot) (before so_far : List Shared) (name : List ℕ) : Type 0 where
  pub arrays : Option (Commas Array)
  pub same : so_far ≡ before ++ if_there (commas_list one_array) arrays
  pub shorter : length now.left < length old.left
  pub leads : (others : Source) → from (Items others) old ≡ from (Awaits (ArrayOpen others arrays name)) now

pub first_next : (old now : Spot) (before : List Shared) (name : List ℕ) → Parses array_name_phrase old now name → HasNext old now before before name
first_next old now before name read = record { arrays = None; same = sym (append-nil before); shorter = read.shorter; leads = λ others. read.leads others tt ∙ ap (λ n. from (Awaits (ArrayOpen others None n)) now) (sym read.same) }

-- with one more
with_more : (before so_far : List Shared) (arrays : Option (Commas Array)) (array : Shared) → so_far ≡ before ++ if_there (commas_list one_array) arrays →
    so_far ++ array ∷ [] ≡ before ++ commas_list one_array (with_last arrays (record { name = array.name; words = array.words }))
with_more before so_far None array same = ap (λ l. l ++ array ∷ []) (same ∙ append-nil before)
with_more before so_far (Some arrays) array same = ap (λ l. l ++ array ∷ []) same ∙ append_assoc before (commas_list one_array arrays) (array ∷ [])

-- behind an array, where no comma follows
array_ends : (others : Source) (arrays : Commas Array) (token : Token) → is_mark sign.Comma token ≡ false → step_array others arrays token ≡ step_only (mark 0 sign.Semicolon) (Items (Then others (syntax.Arrays arrays))) token
array_ends others arrays (Mark sign.Comma) absent = absurd (cc)
array_ends others arrays _ absent = refl

module _ (old now : Spot) (before so_far : List Shared) (name : List ℕ) (next : HasNext old now before so_far name) where
  pub brackets_lack : (refusal : ParseRefusal) → Lacks (array_phrase name) now refusal → Lacks arrays_phrase old refusal
  brackets_lack refusal lacks others _ = refuses_as refusal _ _ (next.leads others) (lacks (others, next.arrays) tt)

  module _ (array : Shared) (behind : Spot) (read : Parses (array_phrase name) now behind array) (pushed : List Shared) (push : pushed ≡ so_far ++ array ∷ []) where
    abbrev arrays_so_far : Commas Array
    arrays_so_far = with_last next.arrays (record { name = name; words = read.syntax })

    same_so_far : pushed ≡ before ++ commas_list one_array arrays_so_far
    same_so_far = push ∙ ap (λ a. so_far ++ a ∷ []) read.same ∙ with_more before so_far next.arrays (record { name = name; words = read.syntax }) next.same

    to_array : (others : Source) → from (Items others) old ≡ from (AfterArray others arrays_so_far) behind
    to_array others = next.leads others ∙ read.leads (others, next.arrays) tt

    module _ (comma : IsTrue (is_sign sign.Comma behind.left)) where
      goes_comma : (others : Source) (placed : Placed) (rest : List Placed) → behind.left ≡ placed ∷ rest → step_array others arrays_so_far placed.token ≡ goes_on (counting 0 [] placed.token) (AwaitsName (ArrayName others arrays_so_far))
      goes_comma others placed rest first =
          let is = sign_there sign.Comma behind.left rest placed first comma in
          ap (step_array others arrays_so_far) is ∙ ap (λ t. goes_on (counting 0 [] t) (AwaitsName (ArrayName others arrays_so_far))) (sym is)

      pub comma_over : (refusal : ParseRefusal) → IsOver 0 [] behind refusal → Lacks arrays_phrase old refusal
      unfolding step
      comma_over refusal over others _ =
          refuses_as refusal _ _ (to_array others ∙ from_steps (AfterArray others arrays_so_far) refl behind)
          (over_refuses (step_array others arrays_so_far) (AwaitsName (ArrayName others arrays_so_far)) 0 [] behind refusal over (goes_comma others over.placed over.rest over.first))

      module _ (start : Spot) (passed : HasPassed 0 [] behind start) where
        to_next : (others : Source) → from (Items others) old ≡ from (AwaitsName (ArrayName others arrays_so_far)) start
        unfolding step
        to_next others =
            to_array others ∙ from_steps (AfterArray others arrays_so_far) refl behind ∙
            passes_on (step_array others arrays_so_far) (AwaitsName (ArrayName others arrays_so_far)) 0 [] behind start passed (goes_comma others passed.placed start.left passed.first)

        pub next_unnamed : (refusal : ParseRefusal) → LacksName 0 (OneMore Arrays ∷ []) start refusal → Lacks arrays_phrase old refusal
        next_unnamed refusal lacks others _ = refuses_as refusal _ _ (to_next others) (awaits_no_name (ArrayName others arrays_so_far) 0 (OneMore Arrays ∷ []) (λ n. refl) start refusal lacks)

        pub next_named : (new : Spot) (other : List ℕ) → HasNamed 0 (OneMore Arrays ∷ []) other start new → HasNext old new before pushed other
        next_named new other named = record {
          arrays = Some arrays_so_far;
          same = same_so_far;
          shorter = let a = next.shorter in let b = read.shorter in let d = passed_shorter 0 [] behind start passed in let e = passed_shorter 0 (OneMore Arrays ∷ []) start new named.passed in omega arith;
          leads = λ others. to_next others ∙ awaits_name (ArrayName others arrays_so_far) 0 (OneMore Arrays ∷ []) (λ n. refl) other start new named;
        }

        -- what is left is shorter behind each array
        pub next_shorter : (new : Spot) (other : List ℕ) → HasNamed 0 (OneMore Arrays ∷ []) other start new → length new.left < length now.left
        next_shorter new other named = let b = read.shorter in let d = passed_shorter 0 [] behind start passed in let e = passed_shorter 0 (OneMore Arrays ∷ []) start new named.passed in omega arith

    module _ (absent : is_sign sign.Comma behind.left ≡ false) where
      to_end : (others : Source) → from (Items others) old ≡ stepping (step_only (mark 0 sign.Semicolon) (Items (Then others (syntax.Arrays arrays_so_far)))) behind
      unfolding step
      to_end others =
          to_array others ∙ from_steps (AfterArray others arrays_so_far) refl behind ∙
          stepping_same (step_array others arrays_so_far) (step_only (mark 0 sign.Semicolon) (Items (Then others (syntax.Arrays arrays_so_far)))) behind
          (λ placed places first. array_ends others arrays_so_far placed.token (sign_absent sign.Comma behind.left places placed first absent))

      ends : (others : Source) → Expects (step_only (mark 0 sign.Semicolon) (Items (Then others (syntax.Arrays arrays_so_far)))) sign.Semicolon 0 (Items (Then others (syntax.Arrays arrays_so_far)))
      ends others = expects_only sign.Semicolon 0 (Items (Then others (syntax.Arrays arrays_so_far)))

      -- what was read or refused behind the last array
      pub arrays_answer : (new : Spot) (result : Result (Unit {0}) ParseRefusal) → MatchResult result (λ _. HasRead sign.Semicolon 0 behind new) (λ refusal. LacksSign sign.Semicolon 0 behind refusal) →
          MatchResult result (λ _. Parses arrays_phrase old new (before, pushed)) (λ refusal. Lacks arrays_phrase old refusal)
      arrays_answer new (Ok done) closed = record {
        syntax = arrays_so_far;
        same = same_so_far;
        shorter = let a = next.shorter in let b = read.shorter in let d = passed_shorter 0 [] behind new closed.passed in omega arith;
        leads = λ others _. to_end others ∙ reads_sign _ sign.Semicolon 0 (Items (Then others (syntax.Arrays arrays_so_far))) (ends others) behind new closed;
      }
      arrays_answer new (Err refusal) lacks = λ others _. refuses_as refusal _ _ (to_end others) (lacks_sign _ sign.Semicolon 0 (Items (Then others (syntax.Arrays arrays_so_far))) (ends others) behind refusal lacks)
