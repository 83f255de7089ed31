-- The names that a clean statement uses stand for what is needed.
use Rattle.std.proofs.Common.{◌≡◌, ℕ, suc, ◌+◌, ◌<◌, ◌≤◌, List, [], ◌∷◌, ◌++◌, length, Option, Some, None, refl, sym, ap, ◌∙◌, subst, arith}
use Rattle.std.specs.List.{find, flat_map, list_any, filter_map, cons_option, position_or_len}
use Rattle.std.specs.Option.{option_map}
use Rattle.std.specs.Prelude.{Bool, true, false, not, ◌||◌, unwrap_or, if◌then◌else◌}
use Rattle.std.specs.Str.{bytes_eq}
use Rattle.cilk_tree.specs.declared.tree.Expr.{Expr, roll-Expr, map-Expr, fold-roll-Expr, ind-Expr}
use Rattle.cilk_tree.specs.declared.tree.Expr.TheOpen as layer
use Rattle.cilk_tree.specs.declared.tree.Expr.TheOpen.{Expr-F}
use Rattle.cilk_tree.specs.declared.tree.Function.{Function}
use Rattle.cilk_tree.specs.declared.tree.Program.{Program}
use Rattle.cilk_tree.specs.Lawful.Pending.{needed_local}
use Rattle.cilk_tree.specs.Lawful.Rules.{Need, NeedsVariable, NeedsArray, NeedsFunction, Use, uses_here, uses, is_wrong}
use Rattle.cilk_tree.specs.Lawful.Scope.{Local, Procedure, first_meaning, meaning, is_known, local_named, is_array, function_named}
use Rattle.cilk_meaning.specs.Resolved as tree
use Rattle.cilk_meaning.specs.Resolving.{local_number, array_number, expr_here, resolved_expr, arguments_of}
use Rattle.cilk_meaning.proofs.Parting.{or_left, or_right}
use Rattle.compiled_code.specs.Safe.{Set, IsFree, AreFree}
use Rattle.compiled_code.specs.WellFormed.{IsExprInRange, AreExprsInRange}

-- every local in scope has a number below this one
abbrev pub AreBelow : ℕ → List Local → Type 0
AreBelow n [] = Unit {0}
AreBelow n (local ∷ scope) = (local.number < n) × AreBelow n scope

pub below_more : (n m : ℕ) (scope : List Local) → n ≤ m → AreBelow n scope → AreBelow m scope
below_more n m [] le h = tt
below_more n m (local ∷ scope) le h = (let a = h.0 in omega (arith, a, le), below_more n m scope le h.1)

named_step : (n : ℕ) (local : Local) (scope : List Local) (name : List ℕ) (number : ℕ) (b : Bool) → local.number < n → (local_named scope name ≡ Some number → number < n) →
    option_map (λ (l : Local). l.number) (if b then Some local else find (λ l. bytes_eq l.name name) scope) ≡ Some number → number < n
named_step n local scope name number true lt again e = let same : local.number ≡ number = cc in subst (λ k. k < n) same lt
named_step n local scope name number false lt again e = again e

pub named_below : (n : ℕ) (scope : List Local) (name : List ℕ) (number : ℕ) → AreBelow n scope → local_named scope name ≡ Some number → number < n
named_below n [] name number h e = absurd cc
named_below n (local ∷ scope) name number h e = named_step n local scope name number (bytes_eq local.name name) h.0 (named_below n scope name number h.1) e

-- what is among others has a place
place_step : {A : Type 0} (test : A → Bool) (xs : List A) (b : Bool) → (list_any test xs ≡ true → position_or_len test xs < length xs) → b || list_any test xs ≡ true → (if not b then 1 + position_or_len test xs else 0) < suc (length xs)
place_step {A} test xs true again e = omega arith
place_step {A} test xs false again e = let h = again e in omega (arith, h)

place_below : {A : Type 0} (test : A → Bool) (xs : List A) → list_any test xs ≡ true → position_or_len test xs < length xs
place_below {A} test [] e = absurd cc
place_below {A} test (x ∷ xs) e = place_step test xs (test x) (place_below test xs) e

module _ (source : Program) where
  -- the name stands for what is needed
  abbrev pub IsRight : List Local → Need → List ℕ → Type 0
  IsRight scope NeedsVariable name = (number : ℕ) × (local_named scope name ≡ Some number)
  IsRight scope NeedsArray name = is_array source name ≡ true
  IsRight scope NeedsFunction name = (function : Function) × (function_named source name ≡ Some function) × (meaning source scope name ≡ Procedure function)

  right_use : (need : Need) (scope : List Local) (name : List ℕ) (o : Option ℕ) (b : Bool) (p : Option Function) → o ≡ local_named scope name → b ≡ is_array source name → p ≡ function_named source name →
      not (is_known (first_meaning o b p)) ≡ false → is_wrong need (first_meaning o b p) ≡ false → IsRight scope need name
  right_use NeedsVariable scope name (Some number) b p eo eb ep known right = (number, sym eo)
  right_use NeedsVariable scope name None true p eo eb ep known right = absurd cc
  right_use NeedsVariable scope name None false (Some f) eo eb ep known right = absurd cc
  right_use NeedsVariable scope name None false None eo eb ep known right = absurd cc
  right_use NeedsArray scope name (Some number) b p eo eb ep known right = absurd cc
  right_use NeedsArray scope name None true p eo eb ep known right = sym eb
  right_use NeedsArray scope name None false (Some f) eo eb ep known right = absurd cc
  right_use NeedsArray scope name None false None eo eb ep known right = absurd cc
  right_use NeedsFunction scope name (Some number) b p eo eb ep known right = absurd cc
  right_use NeedsFunction scope name None true p eo eb ep known right = absurd cc
  right_use NeedsFunction scope name None false (Some f) eo eb ep known right = (
    f,
    sym ep,
    ap (λ x. first_meaning x (is_array source name) (function_named source name)) (sym eo)
        ∙ ap (λ x. first_meaning None x (function_named source name)) (sym eb) ∙ ap (λ x. first_meaning None false x) (sym ep),
  )
  right_use NeedsFunction scope name None false None eo eb ep known right = absurd cc

  -- every use is right
  abbrev pub AreRight : List Local → List Use → Type 0
  AreRight scope [] = Unit {0}
  AreRight scope (used ∷ rest) = IsRight scope used.need used.name × AreRight scope rest

  pub all_right : (scope : List Local) (used : List Use) → list_any (λ u. not (is_known (meaning source scope u.name))) used ≡ false → list_any (λ u. is_wrong u.need (meaning source scope u.name)) used ≡ false → AreRight scope used
  all_right scope [] known right = tt
  all_right scope (u ∷ used) known right = (
    right_use u.need scope u.name (local_named scope u.name) (is_array source u.name) (function_named source u.name) refl refl refl (or_left _ _ known) (or_left _ _ right),
    all_right scope used (or_right _ _ known) (or_right _ _ right),
  )

  pub right_front : (scope : List Local) (front back : List Use) → AreRight scope (front ++ back) → AreRight scope front
  right_front scope [] back h = tt
  right_front scope (u ∷ front) back h = (h.0, right_front scope front back h.1)

  pub right_back : (scope : List Local) (front back : List Use) → AreRight scope (front ++ back) → AreRight scope back
  right_back scope [] back h = h
  right_back scope (u ∷ front) back h = right_back scope front back h.1

  pub array_below : (name : List ℕ) → is_array source name ≡ true → array_number source name < length source.shared
  array_below name e = place_below (λ array. bytes_eq array.name name) source.shared e

  pub local_below : (n : ℕ) (scope : List Local) (name : List ℕ) → AreBelow n scope → IsRight scope NeedsVariable name → local_number scope name < n
  local_below n scope name h r = subst (λ o. unwrap_or o 0 < n) (sym r.1) (named_below n scope name r.0 h r.1)

  module _ (locals : ℕ) where
    -- ---- expressions are in range

    abbrev InRange : Expr → Type 0
    InRange e = (scope : List Local) → AreBelow locals scope → AreRight scope (uses e) → IsExprInRange (length source.shared) locals (resolved_expr source e scope)

    abbrev Ranged : Type 0
    Ranged = (e : Expr) × InRange e

    abbrev plain_layer : Expr-F Ranged → Expr-F Expr
    plain_layer y = map-Expr Ranged Expr (λ e. e.0) y

    layer_in_range : (y : Expr-F Ranged) (scope : List Local) → AreBelow locals scope → AreRight scope (uses_here (map-Expr Expr (List Use) uses (plain_layer y))) →
        IsExprInRange (length source.shared) locals (expr_here source (map-Expr Expr (List Local → tree.Expr) (resolved_expr source) (plain_layer y)) scope)
    layer_in_range (layer.Number value) scope below r = tt
    layer_in_range (layer.Local name) scope below r = local_below locals scope name below r.0
    layer_in_range (layer.Get name index) scope below r = (array_below name r.0, index.1 scope below r.1)
    layer_in_range (layer.Unary operator operand) scope below r = operand.1 scope below r
    layer_in_range (layer.Binary operator left right) scope below r =
        (left.1 scope below (right_front scope (uses left.0) (uses right.0) r), right.1 scope below (right_back scope (uses left.0) (uses right.0) r))

    pub expr_in_range : (e : Expr) → InRange e
    expr_in_range = ind-Expr InRange (λ x y is. subst (λ z. InRange (roll-Expr z)) is (λ scope below r.
        subst (λ (f : List Local → tree.Expr). IsExprInRange (length source.shared) locals (f scope)) (sym (fold-roll-Expr (List Local → tree.Expr) (expr_here source) (plain_layer y)))
        (layer_in_range y scope below (subst (AreRight scope) (fold-roll-Expr (List Use) uses_here (plain_layer y)) r))))

    pub exprs_in_range : (es : List Expr) (scope : List Local) → AreBelow locals scope → AreRight scope (flat_map uses es) → AreExprsInRange (length source.shared) locals (arguments_of source es scope)
    exprs_in_range [] scope below r = tt
    exprs_in_range (e ∷ es) scope below r =
        (expr_in_range e scope below (right_front scope (uses e) (flat_map uses es) r), exprs_in_range es scope below (right_back scope (uses e) (flat_map uses es) r))

  module _ (set : Set) where
    -- ---- expressions read no local of a set

    -- no use is of a local of the set
    abbrev pub AreFreeUses : List Local → List Use → Type 0
    AreFreeUses scope [] = Unit {0}
    AreFreeUses scope (u ∷ rest) = ((number : ℕ) → needed_local scope u.need u.name ≡ Some number → set number ≡ false) × AreFreeUses scope rest

    one_free : (o : Option ℕ) (rest : List ℕ) → list_any set (cons_option o rest) ≡ false → ((number : ℕ) → o ≡ Some number → set number ≡ false) × (list_any set rest ≡ false)
    one_free None rest e = ((λ number is. absurd cc), e)
    one_free (Some k) rest e = ((λ number is. subst (λ n. set n ≡ false) (let same : k ≡ number = cc in same) (or_left (set k) (list_any set rest) e)), or_right (set k) (list_any set rest) e)

    pub all_free : (scope : List Local) (used : List Use) → list_any set (filter_map (λ (u : Use). needed_local scope u.need u.name) used) ≡ false → AreFreeUses scope used
    all_free scope [] e = tt
    all_free scope (u ∷ used) e =
        let h = one_free (needed_local scope u.need u.name) (filter_map (λ (u : Use). needed_local scope u.need u.name) used) e in
        (h.0, all_free scope used h.1)

    pub free_front : (scope : List Local) (front back : List Use) → AreFreeUses scope (front ++ back) → AreFreeUses scope front
    free_front scope [] back h = tt
    free_front scope (u ∷ front) back h = (h.0, free_front scope front back h.1)

    pub free_back : (scope : List Local) (front back : List Use) → AreFreeUses scope (front ++ back) → AreFreeUses scope back
    free_back scope [] back h = h
    free_back scope (u ∷ front) back h = free_back scope front back h.1

    pub local_free : (scope : List Local) (name : List ℕ) → IsRight scope NeedsVariable name → ((number : ℕ) → local_named scope name ≡ Some number → set number ≡ false) → set (local_number scope name) ≡ false
    local_free scope name r free = subst (λ o. set (unwrap_or o 0) ≡ false) (sym r.1) (free r.0 r.1)

    abbrev Free : Expr → Type 0
    Free e = (scope : List Local) → AreRight scope (uses e) → AreFreeUses scope (uses e) → IsFree set (resolved_expr source e scope)

    abbrev Freed : Type 0
    Freed = (e : Expr) × Free e

    abbrev free_layer : Expr-F Freed → Expr-F Expr
    free_layer y = map-Expr Freed Expr (λ e. e.0) y

    layer_free : (y : Expr-F Freed) (scope : List Local) → AreRight scope (uses_here (map-Expr Expr (List Use) uses (free_layer y))) → AreFreeUses scope (uses_here (map-Expr Expr (List Use) uses (free_layer y))) →
        IsFree set (expr_here source (map-Expr Expr (List Local → tree.Expr) (resolved_expr source) (free_layer y)) scope)
    layer_free (layer.Number value) scope r f = tt
    layer_free (layer.Local name) scope r f = local_free scope name r.0 f.0
    layer_free (layer.Get name index) scope r f = index.1 scope r.1 f.1
    layer_free (layer.Unary operator operand) scope r f = operand.1 scope r f
    layer_free (layer.Binary operator left right) scope r f = (
      left.1 scope (right_front scope (uses left.0) (uses right.0) r) (free_front scope (uses left.0) (uses right.0) f),
      right.1 scope (right_back scope (uses left.0) (uses right.0) r) (free_back scope (uses left.0) (uses right.0) f),
    )

    pub expr_free : (e : Expr) → Free e
    expr_free = ind-Expr Free (λ x y is. subst (λ z. Free (roll-Expr z)) is (λ scope r f.
        subst (λ (g : List Local → tree.Expr). IsFree set (g scope)) (sym (fold-roll-Expr (List Local → tree.Expr) (expr_here source) (free_layer y)))
        (layer_free y scope (subst (AreRight scope) (fold-roll-Expr (List Use) uses_here (free_layer y)) r) (subst (AreFreeUses scope) (fold-roll-Expr (List Use) uses_here (free_layer y)) f))))

    pub exprs_free : (es : List Expr) (scope : List Local) → AreRight scope (flat_map uses es) → AreFreeUses scope (flat_map uses es) → AreFree set (arguments_of source es scope)
    exprs_free [] scope r f = tt
    exprs_free (e ∷ es) scope r f = (
      expr_free e scope (right_front scope (uses e) (flat_map uses es) r) (free_front scope (uses e) (flat_map uses es) f),
      exprs_free es scope (right_back scope (uses e) (flat_map uses es) r) (free_back scope (uses e) (flat_map uses es) f),
    )
