-- What the refusal that is due says of a program.
use Rattle.std.specs.Prelude.{◌≡◌, ℕ, ◌+◌, ◌<◌, ◌≤◌, false, IsTrue, List, [], ◌∷◌, Option, Some, None, map, slice_get}
use Rattle.std.proofs.Common.{refl, sym, ap, subst, ◌∙◌, inl, inr, arith}
use Rattle.std.proofs.lemmas.Bool.{false≢true}
use Rattle.std.specs.Option.{option_map, option_map_or, option_or}
use Rattle.cilk_checker.proofs.LoopSets.{UsesPending-uses_pending, is_in, uses_pending-UsesPending}
use Rattle.cilk_tree.specs.declared.place.CheckPlace.{CheckPlace}
use Rattle.cilk_tree.specs.declared.place.CheckPlace.TheVariants as place
use Rattle.cilk_tree.specs.declared.tree.Function.{Function}
use Rattle.cilk_tree.specs.declared.tree.Program.{Program}
use Rattle.cilk_tree.specs.Lawful.Flow.{flow_of, sites}
use Rattle.cilk_tree.specs.Lawful.Lawful.{IsCheckRefusal, IsFirstBreach, IsFirstUse, IsLawful, KeepsRules}
use Rattle.cilk_tree.specs.Lawful.Pending.{UsesBeforeSync, none}
use Rattle.cilk_checker.specs.Computed.{uses_pending}
use Rattle.cilk_tree.specs.Lawful.Place.{place_lt}
use Rattle.cilk_tree.specs.Lawful.Rules.{array_kinds, function_kinds, kinds_at, kinds_in, lacks_main, statement_kinds}
use Rattle.cilk_checker.specs.declared.refusal.CheckRefusal.{CheckRefusal}
use Rattle.cilk_checker.specs.declared.refusal.CheckRefusal.TheVariants.{At}
use Rattle.cilk_checker.specs.Judged.{due, first_refusal, first_use, judged_row, judged_statement, refusal_at}
use Rattle.cilk_checker.proofs.Due.{of_arrays, of_functions, of_whole, of_uses, rules_are}
use Rattle.cilk_checker.proofs.Numbering.{function_numbered, judged_numbered}
use Rattle.cilk_checker.proofs.Places.{less_of, parts_of_order}
use Rattle.cilk_checker.proofs.Rising.{array_kinds_rise, first_in, function_kinds_rise, statement_kinds_rise, uses_rise, whole_kinds_rise}
use Rattle.cilk_checker.proofs.Rows.{IsFirst, IsFirstFunction, IsFirstUsing, first_used, functions_none, functions_some, no_kinds, none_left, none_right, of_function, row_none, row_some, uses_none, uses_some}

-- the first number of a list is its least
abbrev IsLed : List ℕ → Type 0
IsLed xs = (first n : ℕ) → slice_get xs 0 ≡ Some first → IsTrue (is_in xs n) → first ≤ n

led_where_some : {A : Type 0} (f : A → List ℕ) → ((x : A) → IsLed (f x)) → (o : Option A) → IsLed (option_map_or f o [])
led_where_some f each None first n e h = absurd (false≢true h)
led_where_some f each (Some x) first n e h = each x first n e h

module _ (program : Program) where
  abbrev Clear : CheckPlace → Type 0
  Clear at = kinds_at program at ≡ []

  -- a function and its statements
  abbrev FunctionClear : ℕ → Type 0
  FunctionClear number = Clear (place.Function number) × ((statement : ℕ) → Clear (place.Statement number statement))

  led_in : (statement : ℕ) (function : Function) → IsLed (kinds_in program statement function)
  led_in statement function = led_where_some (statement_kinds program function) (λ site. (statement_kinds_rise program function site).least) (slice_get (sites (flow_of function)) statement)

  kinds_led : (at : CheckPlace) → IsLed (kinds_at program at)
  kinds_led (place.Shared number) = led_where_some (array_kinds program number) (λ array. (array_kinds_rise program number array).least) (slice_get program.shared number)
  kinds_led (place.Function number) = led_where_some (function_kinds program number) (λ function. (function_kinds_rise program number function).least) (slice_get program.functions number)
  kinds_led (place.Statement number statement) = led_where_some (kinds_in program statement) (led_in statement) (slice_get program.functions number)
  kinds_led place.Whole = (whole_kinds_rise (lacks_main program)).least

  first_breach : (kind : ℕ) (at : CheckPlace) → slice_get (kinds_at program at) 0 ≡ Some kind → ((other : CheckPlace) → IsTrue (place_lt other at) → Clear other) → IsFirstBreach program kind at
  first_breach kind at e before = record { broken = first_in (kinds_at program at) kind e; no_place_before = before; no_kind_below = λ other h. kinds_led at kind other e h }

  -- ---- where no rule is broken

  array_clear : of_arrays program ≡ None → (number : ℕ) → Clear (place.Shared number)
  array_clear e number = row_none place.Shared (array_kinds program) 0 program.shared e number number (omega arith)

  statement_row : (number : ℕ) (function : Function) → first_refusal (map (judged_statement program number function) (sites (flow_of function))) ≡ first_refusal (judged_row (place.Statement number) (λ statement. statement_kinds program function) 0 (sites (flow_of function)))
  statement_row number function = ap first_refusal (judged_numbered program number function 0 (sites (flow_of function)) (function_numbered function))

  known_clear : (number : ℕ) (function : Function) → slice_get program.functions number ≡ Some function → of_function program number function ≡ None → FunctionClear number
  known_clear number function is e =
      let head = refusal_at (place.Function number) (function_kinds program number function) in
      let rest = first_refusal (map (judged_statement program number function) (sites (flow_of function))) in (
        ap (λ some. option_map_or (function_kinds program number) some []) is ∙ no_kinds (place.Function number) (function_kinds program number function) (none_left head rest e),
        λ statement. ap (λ some. option_map_or (kinds_in program statement) some []) is ∙ row_none (place.Statement number) (λ n. statement_kinds program function) 0 (sites (flow_of function)) (sym (statement_row number function) ∙ none_right head rest e) statement statement (omega arith),
      )

  absent_clear : (number : ℕ) → slice_get program.functions number ≡ None → FunctionClear number
  absent_clear number is = (ap (λ some. option_map_or (function_kinds program number) some []) is, λ statement. ap (λ some. option_map_or (kinds_in program statement) some []) is)

  -- a function that breaks no rule, if it is one
  clear_if : (number : ℕ) → ((function : Function) → slice_get program.functions number ≡ Some function → of_function program number function ≡ None) → FunctionClear number
  clear_if number each = by_case (slice_get program.functions number) refl
    where
      by_case : (some : Option Function) → slice_get program.functions number ≡ some → FunctionClear number
      by_case None is = absent_clear number is
      by_case (Some function) is = known_clear number function is (each function is)

  function_clear : of_functions program ≡ None → (number : ℕ) → FunctionClear number
  function_clear e number = clear_if number (λ function is. functions_none program 0 program.functions e number number function (omega arith) is)

  keeps : of_arrays program ≡ None → of_functions program ≡ None → of_whole program ≡ None → KeepsRules program
  keeps e f g (place.Shared number) = array_clear e number
  keeps e f g (place.Function number) = (function_clear f number).0
  keeps e f g (place.Statement number statement) = (function_clear f number).1 statement
  keeps e f g place.Whole = no_kinds place.Whole (kinds_at program place.Whole) (none_left (refusal_at place.Whole (kinds_at program place.Whole)) None g)

  -- ---- where one is

  -- the refusal names the first breach
  record IsBreach (refusal : CheckRefusal) : Type 0 where
    kind : ℕ
    at : CheckPlace
    is : refusal ≡ At kind at
    breach : IsFirstBreach program kind at

  breach_at_array : (refusal : CheckRefusal) → IsFirst place.Shared (array_kinds program) 0 program.shared refusal → IsBreach refusal
  breach_at_array refusal found = record { kind = found.kind; at = place.Shared found.number; is = found.is; breach = first_breach found.kind (place.Shared found.number) broken before }
    where
      same : found.number ≡ found.index
      same = let e = found.at in omega (arith, e)

      broken : slice_get (kinds_at program (place.Shared found.number)) 0 ≡ Some found.kind
      broken = ap (λ index. slice_get (option_map_or (array_kinds program found.number) (slice_get program.shared index) []) 0) same ∙ found.broken

      before : (other : CheckPlace) → IsTrue (place_lt other (place.Shared found.number)) → Clear other
      before (place.Shared m) h = elim (parts_of_order m found.number false h) [ inl less ↦ found.before m m (subst (λ n. m < n) same less) (omega arith) | inr equal ↦ absurd (false≢true equal.1) ]
      before (place.Function m) h = absurd (false≢true h)
      before (place.Statement m s) h = absurd (false≢true h)
      before place.Whole h = absurd (false≢true h)

  module _ (arrays : of_arrays program ≡ None) where
    module _ (refusal : CheckRefusal) (found : IsFirstFunction program 0 program.functions refusal) where
      same_place : found.number ≡ found.index
      same_place = let e = found.at in omega (arith, e)

      there : slice_get program.functions found.number ≡ Some found.function
      there = ap (slice_get program.functions) same_place ∙ found.is

      earlier_clear : (m : ℕ) → m < found.number → FunctionClear m
      earlier_clear m h = clear_if m (λ function is. found.before m m function (subst (λ n. m < n) same_place h) (omega arith) is)

      breach_at_head : (kind : ℕ) (others : List ℕ) → function_kinds program found.number found.function ≡ kind ∷ others → refusal ≡ At kind (place.Function found.number) → IsBreach refusal
      breach_at_head kind others e is = record { kind = kind; at = place.Function found.number; is = is; breach = first_breach kind (place.Function found.number) broken before }
        where
          broken : slice_get (kinds_at program (place.Function found.number)) 0 ≡ Some kind
          broken = ap (λ some. slice_get (option_map_or (function_kinds program found.number) some []) 0) there ∙ ap (λ kinds. slice_get kinds 0) e

          before : (other : CheckPlace) → IsTrue (place_lt other (place.Function found.number)) → Clear other
          before (place.Shared m) h = array_clear arrays m
          before (place.Function m) h = elim (parts_of_order m found.number false h) [ inl less ↦ (earlier_clear m less).0 | inr equal ↦ absurd (false≢true equal.1) ]
          before (place.Statement m s) h = elim (parts_of_order m found.number _ h) [ inl less ↦ (earlier_clear m less).1 s | inr equal ↦ (let k = less_of (s + 1) 0 equal.1 in absurd (omega (arith, k))) ]
          before place.Whole h = absurd (false≢true h)

      breach_at_statement : function_kinds program found.number found.function ≡ [] → IsFirst (place.Statement found.number) (λ statement. statement_kinds program found.function) 0 (sites (flow_of found.function)) refusal → IsBreach refusal
      breach_at_statement e first = record { kind = first.kind; at = place.Statement found.number first.number; is = first.is; breach = first_breach first.kind (place.Statement found.number first.number) broken before }
        where
          same : first.number ≡ first.index
          same = let k = first.at in omega (arith, k)

          broken : slice_get (kinds_at program (place.Statement found.number first.number)) 0 ≡ Some first.kind
          broken =
              ap (λ some. slice_get (option_map_or (kinds_in program first.number) some []) 0) there
              ∙ ap (λ index. slice_get (option_map_or (statement_kinds program found.function) (slice_get (sites (flow_of found.function)) index) []) 0) same
              ∙ first.broken

          before : (other : CheckPlace) → IsTrue (place_lt other (place.Statement found.number first.number)) → Clear other
          before (place.Shared m) h = array_clear arrays m
          before (place.Function m) h = elim (parts_of_order m found.number _ h) [
            | inl less ↦ (earlier_clear m less).0
            | inr equal ↦ ap (λ n. kinds_at program (place.Function n)) equal.0 ∙ ap (λ some. option_map_or (function_kinds program found.number) some []) there ∙ e
          ]
          before (place.Statement m t) h = elim (parts_of_order m found.number _ h) [
            | inl less ↦ (earlier_clear m less).1 t
            | inr equal ↦ (let k = less_of (t + 1) (first.number + 1) equal.1 in
                ap (λ n. kinds_at program (place.Statement n t)) equal.0 ∙ ap (λ some. option_map_or (kinds_in program t) some []) there ∙ first.before t t (omega (arith, k, same)) (omega arith))
          ]
          before place.Whole h = absurd (false≢true h)

      breach_in_function : IsBreach refusal
      breach_in_function = by_kinds (function_kinds program found.number found.function) refl
        where
          by_kinds : (some : List ℕ) → function_kinds program found.number found.function ≡ some → IsBreach refusal
          by_kinds [] e = breach_at_statement e (row_some (place.Statement found.number) (λ statement. statement_kinds program found.function) 0 (sites (flow_of found.function)) refusal
              (sym (statement_row found.number found.function) ∙ sym (ap (λ kinds. option_or (refusal_at (place.Function found.number) kinds) (first_refusal (map (judged_statement program found.number found.function) (sites (flow_of found.function))))) e) ∙ found.refused))
          by_kinds (kind ∷ others) e = breach_at_head kind others e (told (sym (ap (λ kinds. option_or (refusal_at (place.Function found.number) kinds) (first_refusal (map (judged_statement program found.number found.function) (sites (flow_of found.function))))) e) ∙ found.refused))
            where
              told : Some (At kind (place.Function found.number)) ≡ Some refusal → refusal ≡ At kind (place.Function found.number)
              told e = cc

    module _ (functions : of_functions program ≡ None) where
      breach_at_whole : (refusal : CheckRefusal) → of_whole program ≡ Some refusal → IsBreach refusal
      breach_at_whole refusal e = by_kinds (kinds_at program place.Whole) refl
        where
          before : (other : CheckPlace) → IsTrue (place_lt other place.Whole) → Clear other
          before (place.Shared m) h = array_clear arrays m
          before (place.Function m) h = (function_clear functions m).0
          before (place.Statement m s) h = (function_clear functions m).1 s
          before place.Whole h = absurd (false≢true h)

          by_kinds : (some : List ℕ) → kinds_at program place.Whole ≡ some → IsBreach refusal
          by_kinds [] k = absurd (told (sym (ap (λ kinds. option_or (refusal_at place.Whole kinds) None) k) ∙ e))
            where
              told : None ≡ Some refusal → ⊥
              told e = cc
          by_kinds (kind ∷ others) k = record { kind = kind; at = place.Whole; is = told (sym (ap (λ kinds. option_or (refusal_at place.Whole kinds) None) k) ∙ e); breach = first_breach kind place.Whole (ap (λ kinds. slice_get kinds 0) k) before }
            where
              told : Some (At kind place.Whole) ≡ Some refusal → refusal ≡ At kind place.Whole
              told e = cc

  -- ---- pending locals

  used_in : (number : ℕ) (function : Function) → slice_get program.functions number ≡ Some function → (statement : ℕ) → UsesBeforeSync program (place.Statement number statement) → IsTrue (is_in (uses_pending (flow_of function) none) statement)
  used_in number function is statement used =
      let same : used.0 ≡ function = one_thing used.0 function (sym used.1 ∙ is) in
      subst (λ f. IsTrue (is_in (uses_pending (flow_of f) none) statement)) same (uses_pending-UsesPending (flow_of used.0) none statement used.2)
    where
      one_thing : (x y : Function) → Some x ≡ Some y → x ≡ y
      one_thing x y e = cc

  nothing_in : (xs : List ℕ) (n : ℕ) → slice_get xs 0 ≡ None → IsTrue (is_in xs n) → ⊥
  nothing_in [] n e h = false≢true h
  nothing_in (x ∷ xs) n e h = cc

  -- a function where none is used, if it is one
  unused_if : (number : ℕ) → ((function : Function) → slice_get program.functions number ≡ Some function → first_used function ≡ None) → (statement : ℕ) → ¬ UsesBeforeSync program (place.Statement number statement)
  unused_if number each statement used = nothing_in (uses_pending (flow_of used.0) none) statement (each used.0 used.1) (used_in number used.0 used.1 statement used)

  no_uses : first_use 0 program.functions ≡ None → (at : CheckPlace) → ¬ UsesBeforeSync program at
  no_uses e (place.Shared number) = λ h. h
  no_uses e (place.Function number) = λ h. h
  no_uses e (place.Statement number statement) = unused_if number (λ function is. uses_none 0 program.functions e number function is) statement
  no_uses e place.Whole = λ h. h

  first_use_is : KeepsRules program → (at : CheckPlace) → IsFirstUsing 0 program.functions at → IsFirstUse program 209 at
  first_use_is rules at found = record {
    rules = rules;
    of_uses = refl;
    broken = subst (UsesBeforeSync program) (sym found.there) (found.function, is, UsesPending-uses_pending (flow_of found.function) none found.statement (first_in (uses_pending (flow_of found.function) none) found.statement found.used));
    no_place_before = λ other h. before other (subst (λ it. IsTrue (place_lt other it)) found.there h);
  }
    where
      same : found.number ≡ found.index
      same = let k = found.at in omega (arith, k)

      is : slice_get program.functions found.number ≡ Some found.function
      is = ap (slice_get program.functions) same ∙ found.is

      before : (other : CheckPlace) → IsTrue (place_lt other (place.Statement found.number found.statement)) → ¬ UsesBeforeSync program other
      before (place.Shared m) h = λ used. used
      before (place.Function m) h = λ used. used
      before (place.Statement m t) h = elim (parts_of_order m found.number _ h) [
        | inl less ↦ unused_if m (λ function there. found.before m function (subst (λ n. m < n) same less) there) t
        | inr equal ↦ (λ used. (let k = less_of (t + 1) (found.statement + 1) equal.1 in
            let least = (uses_rise (flow_of found.function) none 0 (function_numbered found.function)).least found.statement t found.used (used_in found.number found.function is t (subst (λ n. UsesBeforeSync program (place.Statement n t)) equal.0 used)) in
            absurd (omega (arith, k, least))))
      ]
      before place.Whole h = λ used. used

  -- ---- the refusal that is due

  -- it is one of the definition
  pub record IsDue (refusal : CheckRefusal) : Type 0 where
    pub kind : ℕ
    pub at : CheckPlace
    pub is : refusal ≡ At kind at
    pub refused : IsCheckRefusal program kind at

  of_breach : (refusal : CheckRefusal) → IsBreach refusal → IsDue refusal
  of_breach refusal found = record { kind = found.kind; at = found.at; is = found.is; refused = inl found.breach }

  by_uses : (uses : Option CheckPlace) (refusal : CheckRefusal) → KeepsRules program → first_use 0 program.functions ≡ uses → option_map (At 209) uses ≡ Some refusal → IsDue refusal
  by_uses None refusal rules e f = cc
  by_uses (Some at) refusal rules e f = record { kind = 209; at = at; is = told f; refused = inr (first_use_is rules at (uses_some 0 program.functions at e)) }
    where
      told : Some (At 209 at) ≡ Some refusal → refusal ≡ At 209 at
      told e = cc

  by_parts : (arrays functions whole : Option CheckRefusal) (refusal : CheckRefusal) → of_arrays program ≡ arrays → of_functions program ≡ functions → of_whole program ≡ whole
      → option_or (option_or (option_or arrays functions) whole) (of_uses program) ≡ Some refusal → IsDue refusal
  by_parts (Some first) functions whole refusal e f g d = of_breach refusal (breach_at_array refusal (row_some place.Shared (array_kinds program) 0 program.shared refusal (e ∙ d)))
  by_parts None (Some first) whole refusal e f g d = of_breach refusal (breach_in_function e refusal (functions_some program 0 program.functions refusal (f ∙ d)))
  by_parts None None (Some first) refusal e f g d = of_breach refusal (breach_at_whole e f refusal (g ∙ d))
  by_parts None None None refusal e f g d = by_uses (first_use 0 program.functions) refusal (keeps e f g) refl d

  due_parts : due program ≡ option_or (option_or (option_or (of_arrays program) (of_functions program)) (of_whole program)) (of_uses program)
  due_parts = ap (λ first. option_or first (of_uses program)) (rules_are program)

  pub due_is_refusal : (refusal : CheckRefusal) → due program ≡ Some refusal → IsDue refusal
  due_is_refusal refusal e = by_parts (of_arrays program) (of_functions program) (of_whole program) refusal refl refl refl (sym due_parts ∙ e)

  unmapped : (uses : Option CheckPlace) → option_map (At 209) uses ≡ None → uses ≡ None
  unmapped None e = refl
  unmapped (Some at) e = cc

  pub none_is_lawful : due program ≡ None → IsLawful program
  none_is_lawful e =
      let rules = none_left (option_or (option_or (of_arrays program) (of_functions program)) (of_whole program)) (of_uses program) (sym due_parts ∙ e) in
      let first = none_left (option_or (of_arrays program) (of_functions program)) (of_whole program) rules in
      record {
        rules = keeps (none_left (of_arrays program) (of_functions program) first) (none_right (of_arrays program) (of_functions program) first) (none_right (option_or (of_arrays program) (of_functions program)) (of_whole program) rules);
        syncs = no_uses (unmapped (first_use 0 program.functions) (none_right (option_or (option_or (of_arrays program) (of_functions program)) (of_whole program)) (of_uses program) (sym due_parts ∙ e)));
      }
