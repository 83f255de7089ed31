-- No statement of a lawful source uses a value before its sync, without names either.
use Rattle.std.proofs.Common.{◌≡◌, ℕ, List, [], ◌∷◌, ◌++◌, map, Option, Some, None, refl, sym, ap, ◌∙◌, subst}
use Rattle.std.proofs.lemmas.Bool.{eq-eqb}
use Rattle.std.specs.List.{flat_map, list_any, filter_map}
use Rattle.std.specs.Option.{option_and_then}
use Rattle.std.specs.Prelude.{Bool, true, false, ◌||◌, IsTrue, if◌then◌else◌, unwrap_or, slice_get}
use Rattle.cilk_tree.specs.declared.place.CheckPlace.TheVariants as place
use Rattle.cilk_tree.specs.declared.tree.Function as source_function
use Rattle.cilk_tree.specs.declared.tree.Program as source_program
use Rattle.cilk_tree.specs.declared.tree.Stmt as source_stmt
use Rattle.cilk_tree.specs.declared.tree.Stmt.{roll-Stmt, map-Stmt, fold-roll-Stmt, ind-Stmt}
use Rattle.cilk_tree.specs.declared.tree.Stmt.TheOpen as head
use Rattle.cilk_tree.specs.declared.tree.Stmt.TheOpen.{Stmt-F}
use Rattle.cilk_tree.specs.Lawful.Flow as flow
use Rattle.cilk_tree.specs.Lawful.Flow.{Part, sites, flow_of, inside, after_list, part_here, part_of}
use Rattle.cilk_tree.specs.Lawful.Pending.{needed_local, with_local}
use Rattle.cilk_tree.specs.Lawful.Rules.{Use, head_uses, uses, target_uses, array_use, function_use}
use Rattle.cilk_tree.specs.Lawful.Scope.{Local, Point, entry, local_named}
use Rattle.cilk_checker.specs.Computed.{ends, uses_pending}
use Rattle.cilk_checker.proofs.LoopSets.{is_in, UsesPending-uses_pending}
use Rattle.cilk_meaning.specs.Resolved as tree
use Rattle.cilk_meaning.specs.Resolved.{Expr, Stmt, Function, Program}
use Rattle.cilk_meaning.specs.Resolving.{Resolving, in_order, resolving_here, resolving, resolved_function, resolved, resolved_expr, target_number, part_in, returned}
use Rattle.cilk_meaning.proofs.Parting.{Each, each_parts, in_scope, parts_in_scope, nil_left, nil_right, or_left}
use Rattle.compiled_code.specs.Safe.{Set, none, both, with_target, leaves, IsFree, AreFree, IsTargetFree, IsSafe}
use Rattle.compiled_code.specs.WellFormed.{IsStmtInRange}
use Rattle.compiled_code.proofs.Stands.{compiled_stands}
use Rattle.lawful_program.specs.Laws.{LawfulKeepsValues, LawfulCode}
use Rattle.lawful_program.proofs.Clean.{IsClean, all_clean}
use Rattle.lawful_program.proofs.Formed.{source_of, resolved_at, lawful_is_well_formed}
use Rattle.lawful_program.proofs.Uses.{AreRight, right_front, right_back, AreFreeUses, all_free, free_front, free_back, local_free, expr_free, exprs_free}

-- ---- sets in which there is nothing

abbrev IsNone : Set → Type 0
IsNone set = (k : ℕ) → set k ≡ false

none_free : (set : Set) → IsNone set → (e : Expr) → IsFree set e
none_free set h (tree.Number v) = tt
none_free set h (tree.Local k) = h k
none_free set h (tree.Get a i) = none_free set h i
none_free set h (tree.Unary operator x) = none_free set h x
none_free set h (tree.Binary operator x y) = (none_free set h x, none_free set h y)

none_all_free : (set : Set) → IsNone set → (es : List Expr) → AreFree set es
none_all_free set h [] = tt
none_all_free set h (e ∷ es) = (none_free set h e, none_all_free set h es)

none_target : (set : Set) → IsNone set → (target : Option ℕ) → IsTargetFree set target
none_target set h None = tt
none_target set h (Some k) = h k

none_both : (a b : Set) → IsNone a → IsNone b → IsNone (both a b)
none_both a b ha hb k = ap (λ x. x || b k) (ha k) ∙ hb k

-- a plain function spawns nothing, so nothing waits in it
plain_safe : (program : Program) (locals : ℕ) (s : Stmt) (set : Set) → IsNone set → IsStmtInRange program false locals s → IsSafe false set s × IsNone (leaves s set)
plain_safe program locals tree.Skip set h r = (tt, h)
plain_safe program locals (tree.Then a b) set h r =
    let x = plain_safe program locals a set h r.0 in
    let y = plain_safe program locals b (leaves a set) x.1 r.1 in
    ((x.0, y.0), y.1)
plain_safe program locals (tree.Assign k e) set h r = ((h k, none_free set h e), h)
plain_safe program locals (tree.Put a i e) set h r = ((none_free set h i, none_free set h e), h)
plain_safe program locals (tree.Print e) set h r = (none_free set h e, h)
plain_safe program locals (tree.If t a b) set h r =
    let x = plain_safe program locals a set h r.1 in
    let y = plain_safe program locals b set h r.2 in
    ((none_free set h t, x.0, y.0), none_both (leaves a set) (leaves b set) x.1 y.1)
plain_safe program locals (tree.While t s) set h r =
    let once = plain_safe program locals s set h r.1 in
    let all = none_both set (leaves s set) h once.1 in
    ((none_free (both set (leaves s set)) all t, (plain_safe program locals s (both set (leaves s set)) all r.1).0), all)
plain_safe program locals (tree.Call target f es) set h r = ((none_target set h target, none_all_free set h es), h)
plain_safe program locals (tree.Spawn target f es) set h r = absurd (let clash : false ≡ true = r.3 in cc)
plain_safe program locals (tree.Add target a i e) set h r = ((none_target set h target, none_free set h i, none_free set h e), h)
plain_safe program locals tree.Sync set h r = absurd (let clash : false ≡ true = r in cc)
plain_safe program locals (tree.Return e) set h r = (none_free set h e, λ k. refl)

-- ---- `cilk` procedures

-- a statement by itself uses nothing that waits
not_used : (b : Bool) (n : ℕ) → (if b then n ∷ [] else []) ≡ [] → b ≡ false
not_used true n e = absurd cc
not_used false n e = refl

module _ (source : source_program.Program) (caller : source_function.Function) where
  target_same : (target : Option (List ℕ)) (scope : List Local) (rest : List Use) (set : Set) → AreRight source scope (target_uses target ++ rest) →
      with_target (target_number scope target) set ≡ with_local (option_and_then (local_named scope) target) set
  target_same None scope rest set r = refl
  target_same (Some name) scope rest set r =
      let found = r.0 in
      ap (λ o. with_target (Some (unwrap_or o 0)) set) found.1 ∙ ap (λ o. with_local o set) (sym found.1)

  target_free : (target : Option (List ℕ)) (scope : List Local) (rest : List Use) (set : Set) → AreRight source scope (target_uses target ++ rest) → AreFreeUses source set scope (target_uses target ++ rest) →
      IsTargetFree set (target_number scope target)
  target_free None scope rest set r f = tt
  target_free (Some name) scope rest set r f = local_free source set scope name r.0 f.0

  -- where the sites of a part are clean, it does to a set what its flow does, and is safe where that uses nothing
  pub record Keeps (s : Stmt) (along : flow.Flow) (set : Set) : Type 0 where
    pub same : leaves s set ≡ ends along set
    pub safe : uses_pending along set ≡ [] → IsSafe true set s

  abbrev Fits : Resolving → Part → Type 0
  Fits r p = (point : Point) (set : Set) → Each (IsClean source caller) (sites (p.flow point)) → Keeps (r.stmt point) (p.flow point) set

  abbrev FitsAt : source_stmt.Stmt → Type 0
  FitsAt s = Fits (resolving source s) (part_of s)

  abbrev Fitting : Type 0
  Fitting = (s : source_stmt.Stmt) × FitsAt s

  abbrev AllFit : List source_stmt.Stmt → Type 0
  AllFit [] = Unit {0}
  AllFit (s ∷ list) = FitsAt s × AllFit list

  all_fit : (ys : List Fitting) → AllFit (map (λ s. s.0) ys)
  all_fit [] = tt
  all_fit (y ∷ ys) = (y.1, all_fit ys)

  -- one after another
  follow : (a b : Stmt) (first second : flow.Flow) (set : Set) → Keeps a first set → Keeps b second (ends first set) → Keeps (tree.Then a b) (flow.Then first second) set
  follow a b first second set ka kb = record {
    same = ap (leaves b) ka.same ∙ kb.same;
    safe = λ e. (
      ka.safe (nil_left (uses_pending first set) (uses_pending second (ends first set)) e),
      subst (λ x. IsSafe true x b) (sym ka.same) (kb.safe (nil_right (uses_pending first set) (uses_pending second (ends first set)) e)),
    );
  }

  list_fits : (list : List source_stmt.Stmt) → AllFit list → (point : Point) (set : Set) → Each (IsClean source caller) (sites (flow.in_order (map part_of list) point)) →
      Keeps (in_order (map (resolving source) list) point) (flow.in_order (map part_of list) point) set
  list_fits [] h point set c = record { same = refl; safe = λ e. tt }
  list_fits (s ∷ list) h point set c =
      let parts = each_parts (IsClean source caller) (sites ((part_of s).flow point)) (sites (flow.in_order (map part_of list) ((part_of s).after point))) c in
      let rest = list_fits list h.1 ((part_of s).after point) (ends ((part_of s).flow point) set) parts.1 in
      follow ((resolving source s).stmt point) (in_order (map (resolving source) list) ((resolving source s).part.after point)) ((part_of s).flow point) (flow.in_order (map part_of list) ((part_of s).after point)) set (h.0 point set parts.0)
      (subst (λ (p : Part). Keeps (in_order (map (resolving source) list) (p.after point)) (flow.in_order (map part_of list) ((part_of s).after point)) (ends ((part_of s).flow point) set)) (sym (in_scope source s)) rest)

  -- the uses of a statement by itself, where it uses nothing that waits
  free_here : (point : Point) (h : flow.Head) (set : Set) → list_any set (filter_map (λ (u : Use). needed_local point.scope u.need u.name) (head_uses h)) ≡ false → AreFreeUses source set point.scope (head_uses h)
  free_here point h set e = all_free source set point.scope (head_uses h) e

  layer_fits : (y : Stmt-F Fitting) →
      Fits (resolving_here source (map-Stmt source_stmt.Stmt Resolving (resolving source) (map-Stmt Fitting source_stmt.Stmt (λ s. s.0) y))) (part_here (map-Stmt source_stmt.Stmt Part part_of (map-Stmt Fitting source_stmt.Stmt (λ s. s.0) y)))
  layer_fits (head.Declare name) = λ point set c. record { same = refl; safe = λ e. (or_left (set point.local) false (not_used _ point.statement e), tt) }
  layer_fits (head.Assign name value) = λ point set c. record {
    same = refl;
    safe = λ e.
        (let f = free_here point (head.Assign name value) set (not_used _ point.statement e) in (local_free source set point.scope name c.0.right.0 f.0, expr_free source set value point.scope c.0.right.1 f.1));
  }
  layer_fits (head.Put name index value) = λ point set c. record {
    same = refl;
    safe = λ e.
        (let f = free_here point (head.Put name index value) set (not_used _ point.statement e) in (
          expr_free source set index point.scope (right_front source point.scope (uses index) (uses value) c.0.right.1) (free_front source set point.scope (uses index) (uses value) f.1),
          expr_free source set value point.scope (right_back source point.scope (uses index) (uses value) c.0.right.1) (free_back source set point.scope (uses index) (uses value) f.1),
        ));
  }
  layer_fits (head.Print value) = λ point set c. record { same = refl; safe = λ e. expr_free source set value point.scope c.0.right (free_here point (head.Print value) set (not_used _ point.statement e)) }
  layer_fits (head.If condition met unmet) = λ point set c.
      (let mets = map (λ (s : Fitting). s.0) met in
      let unmets = map (λ (s : Fitting). s.0) unmet in
      let between = after_list (map part_of mets) (inside point) in
      let first = flow.in_order (map part_of mets) (inside point) in
      let second = flow.in_order (map part_of unmets) between in
      let parts = each_parts (IsClean source caller) (sites first) (sites second) c.1 in
      let a = list_fits mets (all_fit met) (inside point) set parts.0 in
      let b = subst (λ ps. Keeps (in_order (map (resolving source) unmets) (after_list ps (inside point))) second set) (sym (parts_in_scope source mets)) (list_fits unmets (all_fit unmet) between set parts.1) in
      record {
        same = ap (λ x. both x (leaves (in_order (map (resolving source) unmets) (after_list (map part_in (map (resolving source) mets)) (inside point))) set)) a.same ∙ ap (λ x. both (ends first set) x) b.same;
        safe = λ e.
            (let inner = nil_right (if list_any set (filter_map (λ (u : Use). needed_local point.scope u.need u.name) (uses condition)) then point.statement ∷ [] else []) (uses_pending first set ++ uses_pending second set) e in
            let here = nil_left (if list_any set (filter_map (λ (u : Use). needed_local point.scope u.need u.name) (uses condition)) then point.statement ∷ [] else []) (uses_pending first set ++ uses_pending second set) e in (
              expr_free source set condition point.scope c.0.right (all_free source set point.scope (uses condition) (not_used _ point.statement here)),
              a.safe (nil_left (uses_pending first set) (uses_pending second set) inner),
              b.safe (nil_right (uses_pending first set) (uses_pending second set) inner),
            ));
      })
  layer_fits (head.While condition body) = λ point set c.
      (let bodies = map (λ (s : Fitting). s.0) body in
      let turn = flow.in_order (map part_of bodies) (inside point) in
      let inner = in_order (map (resolving source) bodies) (inside point) in
      let once = list_fits bodies (all_fit body) (inside point) set c.1 in
      let all = both set (ends turn set) in
      let again = list_fits bodies (all_fit body) (inside point) all c.1 in
      let same : both set (leaves inner set) ≡ all = ap (λ x. both set x) once.same in
      record {
        same = same;
        safe = λ e.
            (let left = if list_any all (filter_map (λ (u : Use). needed_local point.scope u.need u.name) (uses condition)) then point.statement ∷ [] else [] in
            subst (λ x. IsFree x (resolved_expr source condition point.scope) × IsSafe true x inner) (sym same)
            (expr_free source all condition point.scope c.0.right (all_free source all point.scope (uses condition) (not_used _ point.statement (nil_left left (uses_pending turn all) e))), again.safe (nil_right left (uses_pending turn all) e)));
      })
  layer_fits (head.Block body) = λ point set c.
      (let k = list_fits (map (λ (s : Fitting). s.0) body) (all_fit body) (inside point) set c.1 in
      record { same = k.same; safe = k.safe })
  layer_fits (head.Call target name arguments) = λ point set c. record {
    same = refl;
    safe = λ e.
        (let f = free_here point (head.Call target name arguments) set (not_used _ point.statement e) in
        let r = right_back source point.scope (target_uses target) (function_use name ∷ flat_map uses arguments) c.0.right in
        let g = free_back source set point.scope (target_uses target) (function_use name ∷ flat_map uses arguments) f in
        (target_free target point.scope _ set c.0.right f, exprs_free source set arguments point.scope r.1 g.1));
  }
  layer_fits (head.Spawn target name arguments) = λ point set c. record {
    same = target_same target point.scope _ set c.0.right;
    safe = λ e.
        (let f = free_here point (head.Spawn target name arguments) set (not_used _ point.statement e) in
        let r = right_back source point.scope (target_uses target) (function_use name ∷ flat_map uses arguments) c.0.right in
        let g = free_back source set point.scope (target_uses target) (function_use name ∷ flat_map uses arguments) f in
        (target_free target point.scope _ set c.0.right f, exprs_free source set arguments point.scope r.1 g.1));
  }
  layer_fits (head.Add target name index addend) = λ point set c. record {
    same = refl;
    safe = λ e.
        (let f = free_here point (head.Add target name index addend) set (not_used _ point.statement e) in
        let front = target_uses target ++ (array_use name ∷ uses index) in
        let rf = right_front source point.scope front (uses addend) c.0.right in
        let ff = free_front source set point.scope front (uses addend) f in
        let r = right_back source point.scope (target_uses target) (array_use name ∷ uses index) rf in
        let g = free_back source set point.scope (target_uses target) (array_use name ∷ uses index) ff in (
          target_free target point.scope (array_use name ∷ uses index) set rf ff,
          expr_free source set index point.scope r.1 g.1,
          expr_free source set addend point.scope (right_back source point.scope front (uses addend) c.0.right) (free_back source set point.scope front (uses addend) f),
        ));
  }
  layer_fits head.Sync = λ point set c. record { same = refl; safe = λ e. tt }
  layer_fits (head.Return value) = λ point set c. record { same = refl; safe = λ e. none_free none (λ k. refl) (returned source value point.scope) }

  fits : (s : source_stmt.Stmt) → FitsAt s
  fits = ind-Stmt FitsAt (λ x y is. subst (λ z. FitsAt (roll-Stmt z)) is
      (subst (λ r. Fits r (part_of (roll-Stmt (map-Stmt Fitting source_stmt.Stmt (λ s. s.0) y)))) (sym (fold-roll-Stmt Resolving (resolving_here source) (map-Stmt Fitting source_stmt.Stmt (λ s. s.0) y)))
      (subst (λ p. Fits (resolving_here source (map-Stmt source_stmt.Stmt Resolving (resolving source) (map-Stmt Fitting source_stmt.Stmt (λ s. s.0) y))) p) (sym (fold-roll-Stmt Part part_here (map-Stmt Fitting source_stmt.Stmt (λ s. s.0) y)))
      (layer_fits y))))

  lists_fit : (list : List source_stmt.Stmt) → AllFit list
  lists_fit [] = tt
  lists_fit (s ∷ list) = (fits s, lists_fit list)

  body_safe : Each (IsClean source caller) (sites (flow_of caller)) → uses_pending (flow_of caller) none ≡ [] → IsSafe true none (in_order (map (resolving source) caller.body) (entry caller))
  body_safe c e = (list_fits caller.body (lists_fit caller.body) (entry caller) none c).safe e

no_member : (xs : List ℕ) → ((n : ℕ) → IsTrue (is_in xs n) → ⊥) → xs ≡ []
no_member [] h = refl
no_member (x ∷ xs) h = absurd (h x (ap (λ b. b || is_in xs x) (eq-eqb x x refl)))

pub lawful_keeps_values : LawfulKeepsValues
lawful_keeps_values source lawful number function is =
    let f = source_of source lawful number function is in
    subst (λ (g : Function). IsSafe g.«cilk» none g.body) f.2 (by f.0 f.1 f.0.«cilk» refl)
  where
    by : (f : source_function.Function) → slice_get source.functions number ≡ Some f → (kind : Bool) → f.«cilk» ≡ kind → IsSafe f.«cilk» none (resolved_function source f).body
    by f at true kind =
        let unused = no_member (uses_pending (flow_of f) none) (λ n h. lawful.syncs (place.Statement number n) (f, at, UsesPending-uses_pending (flow_of f) none n h)) in
        subst (λ k. IsSafe k none (resolved_function source f).body) (sym kind) (body_safe source f (all_clean source lawful number f at) unused)
    by f at false kind =
        let range = subst (λ k. IsStmtInRange (resolved source) k (resolved_function source f).locals (resolved_function source f).body) kind
        ((lawful_is_well_formed source lawful).0.functions number (resolved_function source f) (resolved_at source lawful number f at)).body in
        subst (λ k. IsSafe k none (resolved_function source f).body) (sym kind) (plain_safe (resolved source) (resolved_function source f).locals (resolved_function source f).body none (λ k. refl) range).0

pub lawful_code : LawfulCode
lawful_code source lawful = compiled_stands (resolved source) (lawful_is_well_formed source lawful).0 (lawful_keeps_values source lawful)
