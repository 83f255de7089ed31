-- The statements of a lawful source are in range without their names.
use Rattle.std.proofs.Common.{◌≡◌, ℕ, suc, ◌+◌, ◌<◌, ◌≤◌, List, [], ◌∷◌, ◌++◌, length, map, Option, Some, None, refl, sym, ap, ◌∙◌, subst, arith}
use Rattle.std.proofs.lemmas.Bool.{eqb-true}
use Rattle.std.proofs.lemmas.List.{length-map}
use Rattle.std.proofs.lemmas.List.Folds.{find_at}
use Rattle.std.proofs.lemmas.Option.{slice_get-map}
use Rattle.std.specs.List.{flat_map}
use Rattle.std.specs.Option.{option_map}
use Rattle.std.specs.Prelude.{Bool, true, false, not, ◌==◌, slice_get}
use Rattle.std.specs.Str.{bytes_eq}
use Rattle.cilk_tree.specs.declared.tree.Expr.{Expr}
use Rattle.cilk_tree.specs.declared.tree.Function as source_function
use Rattle.cilk_tree.specs.declared.tree.Program as source_program
use Rattle.cilk_tree.specs.declared.tree.Shared.{Shared}
use Rattle.cilk_tree.specs.declared.tree.Stmt.{Stmt, roll-Stmt, map-Stmt, fold-roll-Stmt, ind-Stmt}
use Rattle.cilk_tree.specs.declared.tree.Stmt.TheOpen as head
use Rattle.cilk_tree.specs.declared.tree.Stmt.TheOpen.{Stmt-F}
use Rattle.cilk_tree.specs.Lawful.Flow as flow
use Rattle.cilk_tree.specs.Lawful.Flow.{Part, sites, flow_of, inside, after_all, after_list, part_here, part_of}
use Rattle.cilk_tree.specs.Lawful.Rules.{Use, NeedsFunction, uses, target_uses, array_use, function_use, takes_other, is_function, is_cilk, is_plain}
use Rattle.cilk_tree.specs.Lawful.Scope.{Local, Point, meaning, entry}
use Rattle.cilk_meaning.specs.Resolving.{Resolving, in_order, resolving_here, resolving, resolved_function, resolved, resolved_expr, function_number, array_number, target_number, arguments_of, extents_from}
use Rattle.cilk_meaning.proofs.Parting.{Each, each_parts, in_scope, parts_in_scope}
use Rattle.compiled_code.specs.WellFormed.{IsExprInRange, AreExprsInRange, IsTargetInRange, Suits, IsStmtInRange}
use Rattle.lawful_program.proofs.Clean.{IsClean}
use Rattle.lawful_program.proofs.Growing.{IsNumbered, grows, after_all_grows, after_list_grows}
use Rattle.lawful_program.proofs.Uses.{AreBelow, below_more, IsRight, AreRight, right_front, right_back, array_below, local_below, expr_in_range, exprs_in_range}

not_false : (b : Bool) → not b ≡ false → b ≡ true
not_false true e = refl
not_false false e = absurd cc

same_count : (base : ℕ) (shared : List Shared) → length (extents_from base shared) ≡ length shared
same_count base [] = refl
same_count base (x ∷ shared) = ap suc (same_count (base + x.words) shared)

module _ (source : source_program.Program) (caller : source_function.Function) (locals : ℕ) where
  abbrev arrays : ℕ
  arrays = length (resolved source).shared

  arrays_are : length source.shared ≡ arrays
  arrays_are = sym (same_count 0 source.shared)

  -- a call or spawn of this kind, with the function and the number of arguments that the rules want
  suits : (scope : List Local) (name : List ℕ) (kind : Bool) (arguments : List Expr) (right : IsRight source scope NeedsFunction name) → right.0.«cilk» ≡ kind →
      is_function (takes_other arguments) (meaning source scope name) ≡ false → Suits (resolved source) (function_number source name) kind (arguments_of source arguments scope)
  suits scope name kind arguments right kind_is arity =
      let f = right.0 in
      let found : slice_get source.functions (function_number source name) ≡ Some f = sym (find_at (λ function. bytes_eq function.name name) source.functions) ∙ right.1 in
      let takes : not (length f.params == length arguments) ≡ false = sym (ap (is_function (takes_other arguments)) right.2) ∙ arity in
      let same = eqb-true (length f.params) (length arguments) (not_false _ takes) in
      record {
        function = resolved_function source f;
        is = slice_get-map (resolved_function source) source.functions (function_number source name) ∙ ap (λ o. option_map (resolved_function source) o) found;
        kind_is = kind_is;
        params = length-map arguments (λ argument. resolved_expr source argument scope) ∙ sym same;
      }

  expr_ok : (e : Expr) (scope : List Local) → AreBelow locals scope → AreRight source scope (uses e) → IsExprInRange arrays locals (resolved_expr source e scope)
  expr_ok e scope below r = subst (λ n. IsExprInRange n locals (resolved_expr source e scope)) arrays_are (expr_in_range source locals e scope below r)

  exprs_ok : (es : List Expr) (scope : List Local) → AreBelow locals scope → AreRight source scope (flat_map uses es) → AreExprsInRange arrays locals (arguments_of source es scope)
  exprs_ok es scope below r = subst (λ n. AreExprsInRange n locals (arguments_of source es scope)) arrays_are (exprs_in_range source locals es scope below r)

  target_ok : (target : Option (List ℕ)) (scope : List Local) (rest : List Use) → AreBelow locals scope → AreRight source scope (target_uses target ++ rest) → IsTargetInRange locals (target_number scope target)
  target_ok None scope rest below r = tt
  target_ok (Some name) scope rest below r = local_below source locals scope name below r.0

  -- where the sites of a part are clean and it declares no more locals than there are, what comes of it is in range
  abbrev Fits : Resolving → Part → Type 0
  Fits r p = (point : Point) → IsNumbered point → Each (IsClean source caller) (sites (p.flow point)) → (p.after point).local ≤ locals → IsStmtInRange (resolved source) caller.«cilk» locals (r.stmt point)

  abbrev FitsAt : Stmt → Type 0
  FitsAt s = Fits (resolving source s) (part_of s)

  abbrev Fitting : Type 0
  Fitting = (s : Stmt) × FitsAt s

  abbrev AllFit : List Stmt → Type 0
  AllFit [] = Unit {0}
  AllFit (s ∷ list) = FitsAt s × AllFit list

  all_fit : (ys : List Fitting) → AllFit (map (λ s. s.0) ys)
  all_fit [] = tt
  all_fit (y ∷ ys) = (y.1, all_fit ys)

  list_fits : (list : List Stmt) → AllFit list → (point : Point) → IsNumbered point → Each (IsClean source caller) (sites (flow.in_order (map part_of list) point)) → (after_all (map part_of list) point).local ≤ locals →
      IsStmtInRange (resolved source) caller.«cilk» locals (in_order (map (resolving source) list) point)
  list_fits [] h point n c le = tt
  list_fits (s ∷ list) h point n c le =
      let parts = each_parts (IsClean source caller) (sites ((part_of s).flow point)) (sites (flow.in_order (map part_of list) ((part_of s).after point))) c in
      let first = grows s point n in
      let rest = after_all_grows list ((part_of s).after point) first.numbered in
      let more = rest.more in (
        h.0 point n parts.0 (omega (arith, more, le)),
        subst (λ (p : Part). IsStmtInRange (resolved source) caller.«cilk» locals (in_order (map (resolving source) list) (p.after point))) (sym (in_scope source s))
            (list_fits list h.1 ((part_of s).after point) first.numbered parts.1 le),
      )

  here_below : (point : Point) → IsNumbered point → point.local ≤ locals → AreBelow locals point.scope
  here_below point n le = below_more point.local locals point.scope le n

  layer_fits : (y : Stmt-F Fitting) →
      Fits (resolving_here source (map-Stmt Stmt Resolving (resolving source) (map-Stmt Fitting Stmt (λ s. s.0) y))) (part_here (map-Stmt Stmt Part part_of (map-Stmt Fitting Stmt (λ s. s.0) y)))
  layer_fits (head.Declare name) = λ point n c le. (omega (arith, le), tt)
  layer_fits (head.Assign name value) = λ point n c le. (let below = here_below point n le in (local_below source locals point.scope name below c.0.right.0, expr_ok value point.scope below c.0.right.1))
  layer_fits (head.Put name index value) = λ point n c le.
      (let below = here_below point n le in
      let r = c.0.right.1 in (
        subst (λ k. array_number source name < k) arrays_are (array_below source name c.0.right.0),
        expr_ok index point.scope below (right_front source point.scope (uses index) (uses value) r),
        expr_ok value point.scope below (right_back source point.scope (uses index) (uses value) r),
      ))
  layer_fits (head.Print value) = λ point n c le. expr_ok value point.scope (here_below point n le) c.0.right
  layer_fits (head.If condition met unmet) = λ point n c le.
      (let mets = map (λ (s : Fitting). s.0) met in
      let unmets = map (λ (s : Fitting). s.0) unmet in
      let between = after_list (map part_of mets) (inside point) in
      let parts = each_parts (IsClean source caller) (sites (flow.in_order (map part_of mets) (inside point))) (sites (flow.in_order (map part_of unmets) between)) c.1 in
      let first = after_list_grows mets (inside point) n in
      let second = after_list_grows unmets between first.numbered in
      let a = first.more in
      let b = second.more in (
        expr_ok condition point.scope (here_below point n (omega (arith, a, b, le))) c.0.right,
        list_fits mets (all_fit met) (inside point) n parts.0 (omega (arith, b, le)),
        subst (λ ps. IsStmtInRange (resolved source) caller.«cilk» locals (in_order (map (resolving source) unmets) (after_list ps (inside point)))) (sym (parts_in_scope source mets))
            (list_fits unmets (all_fit unmet) between first.numbered parts.1 le),
      ))
  layer_fits (head.While condition body) = λ point n c le.
      (let bodies = map (λ (s : Fitting). s.0) body in
      let g = after_list_grows bodies (inside point) n in
      let a = g.more in
      (expr_ok condition point.scope (here_below point n (omega (arith, a, le))) c.0.right, list_fits bodies (all_fit body) (inside point) n c.1 le))
  layer_fits (head.Block body) = λ point n c le. list_fits (map (λ (s : Fitting). s.0) body) (all_fit body) (inside point) n c.1 le
  layer_fits (head.Call target name arguments) = λ point n c le.
      (let below = here_below point n le in
      let r = right_back source point.scope (target_uses target) (function_use name ∷ flat_map uses arguments) c.0.right in
      let plain : r.0.0.«cilk» ≡ false = sym (ap (is_function is_cilk) r.0.2) ∙ c.0.calls in
      (suits point.scope name false arguments r.0 plain c.0.arity, target_ok target point.scope _ below c.0.right, exprs_ok arguments point.scope below r.1))
  layer_fits (head.Spawn target name arguments) = λ point n c le.
      (let below = here_below point n le in
      let r = right_back source point.scope (target_uses target) (function_use name ∷ flat_map uses arguments) c.0.right in
      let kind : r.0.0.«cilk» ≡ true = not_false _ (sym (ap (is_function is_plain) r.0.2) ∙ c.0.spawns) in
      (suits point.scope name true arguments r.0 kind c.0.arity, target_ok target point.scope _ below c.0.right, exprs_ok arguments point.scope below r.1, not_false _ c.0.inside))
  layer_fits (head.Add target name index addend) = λ point n c le.
      (let below = here_below point n le in
      let front = right_front source point.scope (target_uses target ++ (array_use name ∷ uses index)) (uses addend) c.0.right in
      let back = right_back source point.scope (target_uses target ++ (array_use name ∷ uses index)) (uses addend) c.0.right in
      let r = right_back source point.scope (target_uses target) (array_use name ∷ uses index) front in (
        subst (λ k. array_number source name < k) arrays_are (array_below source name r.0),
        target_ok target point.scope (array_use name ∷ uses index) below front,
        expr_ok index point.scope below r.1,
        expr_ok addend point.scope below back,
      ))
  layer_fits head.Sync = λ point n c le. not_false _ c.0.inside
  layer_fits (head.Return None) = λ point n c le. tt
  layer_fits (head.Return (Some value)) = λ point n c le. expr_ok value point.scope (here_below point n le) c.0.right

  fits : (s : Stmt) → FitsAt s
  fits = ind-Stmt FitsAt (λ x y is. subst (λ z. FitsAt (roll-Stmt z)) is
      (subst (λ r. Fits r (part_of (roll-Stmt (map-Stmt Fitting Stmt (λ s. s.0) y)))) (sym (fold-roll-Stmt Resolving (resolving_here source) (map-Stmt Fitting Stmt (λ s. s.0) y)))
      (subst (λ p. Fits (resolving_here source (map-Stmt Stmt Resolving (resolving source) (map-Stmt Fitting Stmt (λ s. s.0) y))) p) (sym (fold-roll-Stmt Part part_here (map-Stmt Fitting Stmt (λ s. s.0) y)))
      (layer_fits y))))

  lists_fit : (list : List Stmt) → AllFit list
  lists_fit [] = tt
  lists_fit (s ∷ list) = (fits s, lists_fit list)

  pub body_in_range : IsNumbered (entry caller) → Each (IsClean source caller) (sites (flow_of caller)) → (after_all (map part_of caller.body) (entry caller)).local ≤ locals →
      IsStmtInRange (resolved source) caller.«cilk» locals (in_order (map (resolving source) caller.body) (entry caller))
  body_in_range n c le = list_fits caller.body (lists_fit caller.body) (entry caller) n c le
