-- The first place of a row where a rule is broken.
use Rattle.std.specs.Prelude.{◌≡◌, ℕ, zero, suc, ◌+◌, ◌<◌, List, [], ◌∷◌, Option, Some, None, slice_get}
use Rattle.std.proofs.Common.{refl, sym, ap, ◌∙◌, arith}
use Rattle.std.specs.Option.{option_map, option_map_or, option_or}
use Rattle.cilk_tree.specs.declared.place.CheckPlace.{CheckPlace}
use Rattle.cilk_tree.specs.declared.place.CheckPlace.TheVariants as place
use Rattle.cilk_tree.specs.declared.tree.Function.{Function}
use Rattle.cilk_tree.specs.declared.tree.Program.{Program}
use Rattle.cilk_tree.specs.Lawful.Flow.{flow_of}
use Rattle.cilk_tree.specs.Lawful.Pending.{none}
use Rattle.cilk_checker.specs.Computed.{uses_pending}
use Rattle.cilk_checker.specs.declared.refusal.CheckRefusal.{CheckRefusal}
use Rattle.cilk_checker.specs.declared.refusal.CheckRefusal.TheVariants.{At}
use Rattle.cilk_checker.specs.Judged.{first_refusal, first_use, judged_function, judged_functions, judged_row, refusal_at}
use Rattle.cilk_checker.proofs.Passing.{first_of_both}

pub none_left : {A : Type 0} (a b : Option A) → option_or a b ≡ None → a ≡ None
none_left None b e = refl
none_left (Some x) b e = cc

pub none_right : {A : Type 0} (a b : Option A) → option_or a b ≡ None → b ≡ None
none_right None b e = e
none_right (Some x) b e = cc

pub no_kinds : (place : CheckPlace) (kinds : List ℕ) → refusal_at place kinds ≡ None → kinds ≡ []
no_kinds place [] e = refl
no_kinds place (kind ∷ kinds) e = cc

same_number : (from number : ℕ) → number ≡ from + 0 → number ≡ from
same_number from number at = omega arith

same_thing : {A : Type 0} (x y : A) → Some x ≡ Some y → x ≡ y
same_thing x y e = cc

module _ {A : Type 0} (place_of : ℕ → CheckPlace) (kinds : ℕ → A → List ℕ) where
  abbrev pub kinds_of : ℕ → List A → ℕ → List ℕ
  kinds_of number list index = option_map_or (kinds number) (slice_get list index) []

  -- no rule is broken
  pub row_none : (from : ℕ) (list : List A) → first_refusal (judged_row place_of kinds from list) ≡ None → (index number : ℕ) → number ≡ from + index → kinds_of number list index ≡ []
  row_none from [] e index number at = refl
  row_none from (x ∷ list) e zero number at =
      ap (λ n. kinds n x) (same_number from number at) ∙ no_kinds (place_of from) (kinds from x) (none_left (refusal_at (place_of from) (kinds from x)) (first_refusal (judged_row place_of kinds (from + 1) list)) e)
  row_none from (x ∷ list) e (suc index) number at =
      row_none (from + 1) list (none_right (refusal_at (place_of from) (kinds from x)) (first_refusal (judged_row place_of kinds (from + 1) list)) e) index number (omega (arith, at))

  -- the refusal is at the first place where one is
  pub record IsFirst (from : ℕ) (list : List A) (refusal : CheckRefusal) : Type 0 where
    pub index : ℕ
    pub number : ℕ
    pub kind : ℕ
    pub at : number ≡ from + index
    pub is : refusal ≡ At kind (place_of number)
    pub broken : slice_get (kinds_of number list index) 0 ≡ Some kind
    pub before : (j k : ℕ) → j < index → k ≡ from + j → kinds_of k list j ≡ []

  here : (from : ℕ) (x : A) (list : List A) (refusal : CheckRefusal) (kind : ℕ) (others : List ℕ) → kinds from x ≡ kind ∷ others → refusal ≡ At kind (place_of from) → IsFirst from (x ∷ list) refusal
  here from x list refusal kind others e is = record {
    index = 0;
    number = from;
    kind = kind;
    at = omega arith;
    is = is;
    broken = ap (λ some. slice_get some 0) e;
    before = λ j k h at. absurd (omega (arith, h));
  }

  later : (from : ℕ) (x : A) (list : List A) (refusal : CheckRefusal) → kinds from x ≡ [] → IsFirst (from + 1) list refusal → IsFirst from (x ∷ list) refusal
  later from x list refusal e found = record {
    index = suc found.index;
    number = found.number;
    kind = found.kind;
    at = (let k = found.at in omega (arith, k));
    is = found.is;
    broken = found.broken;
    before = before;
  }
    where
      before : (j k : ℕ) → j < suc found.index → k ≡ from + j → kinds_of k (x ∷ list) j ≡ []
      before zero k h at = ap (λ n. kinds n x) (same_number from k at) ∙ e
      before (suc j) k h at = found.before j k (omega arith) (omega arith)

  pub row_some : (from : ℕ) (list : List A) (refusal : CheckRefusal) → first_refusal (judged_row place_of kinds from list) ≡ Some refusal → IsFirst from list refusal
  row_some from [] refusal e = cc
  row_some from (x ∷ list) refusal e = by_kinds (kinds from x) refl (row_some (from + 1) list refusal)
    where
      by_kinds : (some : List ℕ) → kinds from x ≡ some → (first_refusal (judged_row place_of kinds (from + 1) list) ≡ Some refusal → IsFirst (from + 1) list refusal) → IsFirst from (x ∷ list) refusal
      by_kinds [] k rest = later from x list refusal k (rest (sym (ap (λ some. option_or (refusal_at (place_of from) some) (first_refusal (judged_row place_of kinds (from + 1) list))) k) ∙ e))
      by_kinds (kind ∷ others) k rest = here from x list refusal kind others k (told (sym (ap (λ some. option_or (refusal_at (place_of from) some) (first_refusal (judged_row place_of kinds (from + 1) list))) k) ∙ e))
        where
          told : Some (At kind (place_of from)) ≡ Some refusal → refusal ≡ At kind (place_of from)
          told e = cc

-- ---- functions

module _ (program : Program) where
  abbrev pub of_function : ℕ → Function → Option CheckRefusal
  of_function number function = first_refusal (judged_function program number function)

  rest_of : (from : ℕ) (function : Function) (list : List Function) → first_refusal (judged_functions program from (function ∷ list)) ≡ option_or (of_function from function) (first_refusal (judged_functions program (from + 1) list))
  rest_of from function list = first_of_both (judged_function program from function) (judged_functions program (from + 1) list)

  -- no function breaks a rule
  pub functions_none : (from : ℕ) (list : List Function) → first_refusal (judged_functions program from list) ≡ None → (index number : ℕ) (function : Function) → number ≡ from + index → slice_get list index ≡ Some function → of_function number function ≡ None
  functions_none from [] e index number function at is = cc
  functions_none from (x ∷ list) e zero number function at is =
      (λ i. of_function (same_number from number at i) (sym (same_thing x function is) i)) ∙ none_left (of_function from x) (first_refusal (judged_functions program (from + 1) list)) (sym (rest_of from x list) ∙ e)
  functions_none from (x ∷ list) e (suc index) number function at is =
      functions_none (from + 1) list (none_right (of_function from x) (first_refusal (judged_functions program (from + 1) list)) (sym (rest_of from x list) ∙ e)) index number function (omega arith) is

  -- the first one that does
  pub record IsFirstFunction (from : ℕ) (list : List Function) (refusal : CheckRefusal) : Type 0 where
    pub index : ℕ
    pub number : ℕ
    pub function : Function
    pub at : number ≡ from + index
    pub is : slice_get list index ≡ Some function
    pub refused : of_function number function ≡ Some refusal
    pub before : (j k : ℕ) (other : Function) → j < index → k ≡ from + j → slice_get list j ≡ Some other → of_function k other ≡ None

  function_here : (from : ℕ) (x : Function) (list : List Function) (refusal : CheckRefusal) → of_function from x ≡ Some refusal → IsFirstFunction from (x ∷ list) refusal
  function_here from x list refusal e = record {
    index = 0;
    number = from;
    function = x;
    at = omega arith;
    is = refl;
    refused = e;
    before = λ j k other h at is. absurd (omega (arith, h));
  }

  function_later : (from : ℕ) (x : Function) (list : List Function) (refusal : CheckRefusal) → of_function from x ≡ None → IsFirstFunction (from + 1) list refusal → IsFirstFunction from (x ∷ list) refusal
  function_later from x list refusal e found = record {
    index = suc found.index;
    number = found.number;
    function = found.function;
    at = (let k = found.at in omega (arith, k));
    is = found.is;
    refused = found.refused;
    before = before;
  }
    where
      before : (j k : ℕ) (other : Function) → j < suc found.index → k ≡ from + j → slice_get (x ∷ list) j ≡ Some other → of_function k other ≡ None
      before zero k other h at is = (λ i. of_function (same_number from k at i) (sym (same_thing x other is) i)) ∙ e
      before (suc j) k other h at is = found.before j k other (omega arith) (omega arith) is

  pub functions_some : (from : ℕ) (list : List Function) (refusal : CheckRefusal) → first_refusal (judged_functions program from list) ≡ Some refusal → IsFirstFunction from list refusal
  functions_some from [] refusal e = cc
  functions_some from (x ∷ list) refusal e = by_case (of_function from x) refl (functions_some (from + 1) list refusal)
    where
      by_case : (found : Option CheckRefusal) → of_function from x ≡ found → (first_refusal (judged_functions program (from + 1) list) ≡ Some refusal → IsFirstFunction (from + 1) list refusal) → IsFirstFunction from (x ∷ list) refusal
      by_case None k rest = function_later from x list refusal k (rest (sym (rest_of from x list ∙ ap (λ first. option_or first (first_refusal (judged_functions program (from + 1) list))) k) ∙ e))
      by_case (Some first) k rest = function_here from x list refusal (k ∙ (sym (rest_of from x list ∙ ap (λ some. option_or some (first_refusal (judged_functions program (from + 1) list))) k) ∙ e))

-- ---- uses of pending locals

abbrev pub first_used : Function → Option ℕ
first_used function = slice_get (uses_pending (flow_of function) none) 0

no_place : (number : ℕ) (found : Option ℕ) → option_map (place.Statement number) found ≡ None → found ≡ None
no_place number None e = refl
no_place number (Some statement) e = cc

-- no function uses one
pub uses_none : (from : ℕ) (list : List Function) → first_use from list ≡ None → (index : ℕ) (function : Function) → slice_get list index ≡ Some function → first_used function ≡ None
uses_none from [] e index function is = cc
uses_none from (x ∷ list) e zero function is = ap first_used (sym (same_thing x function is)) ∙ no_place from (first_used x) (none_left (option_map (place.Statement from) (first_used x)) (first_use (from + 1) list) e)
uses_none from (x ∷ list) e (suc index) function is = uses_none (from + 1) list (none_right (option_map (place.Statement from) (first_used x)) (first_use (from + 1) list) e) index function is

-- the first one that does
pub record IsFirstUsing (from : ℕ) (list : List Function) (where_used : CheckPlace) : Type 0 where
  pub index : ℕ
  pub number : ℕ
  pub statement : ℕ
  pub function : Function
  pub at : number ≡ from + index
  pub is : slice_get list index ≡ Some function
  pub used : first_used function ≡ Some statement
  pub there : where_used ≡ place.Statement number statement
  pub before : (j : ℕ) (other : Function) → j < index → slice_get list j ≡ Some other → first_used other ≡ None

using_here : (from : ℕ) (x : Function) (list : List Function) (used : CheckPlace) (statement : ℕ) → first_used x ≡ Some statement → used ≡ place.Statement from statement → IsFirstUsing from (x ∷ list) used
using_here from x list used statement e there = record {
  index = 0;
  number = from;
  statement = statement;
  function = x;
  at = omega arith;
  is = refl;
  used = e;
  there = there;
  before = λ j other h is. absurd (omega (arith, h));
}

using_later : (from : ℕ) (x : Function) (list : List Function) (used : CheckPlace) → first_used x ≡ None → IsFirstUsing (from + 1) list used → IsFirstUsing from (x ∷ list) used
using_later from x list used e found = record {
  index = suc found.index;
  number = found.number;
  statement = found.statement;
  function = found.function;
  at = (let k = found.at in omega (arith, k));
  is = found.is;
  used = found.used;
  there = found.there;
  before = before;
}
  where
    before : (j : ℕ) (other : Function) → j < suc found.index → slice_get (x ∷ list) j ≡ Some other → first_used other ≡ None
    before zero other h is = ap first_used (sym (same_thing x other is)) ∙ e
    before (suc j) other h is = found.before j other (omega arith) is

pub uses_some : (from : ℕ) (list : List Function) (used : CheckPlace) → first_use from list ≡ Some used → IsFirstUsing from list used
uses_some from [] used e = cc
uses_some from (x ∷ list) used e = by_case (first_used x) refl (uses_some (from + 1) list used)
  where
    by_case : (found : Option ℕ) → first_used x ≡ found → (first_use (from + 1) list ≡ Some used → IsFirstUsing (from + 1) list used) → IsFirstUsing from (x ∷ list) used
    by_case None k rest = using_later from x list used k (rest (sym (ap (λ some. option_or (option_map (place.Statement from) some) (first_use (from + 1) list)) k) ∙ e))
    by_case (Some statement) k rest = using_here from x list used statement k (sym (same_thing (place.Statement from statement) used (sym (ap (λ some. option_or (option_map (place.Statement from) some) (first_use (from + 1) list)) k) ∙ e)))
