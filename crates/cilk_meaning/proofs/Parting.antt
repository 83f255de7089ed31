-- The plain functions of a lawful source neither spawn nor sync, and call plain functions alone.
use Rattle.std.proofs.Common.{◌≡◌, ℕ, suc, List, [], ◌∷◌, ◌++◌, map, Option, Some, None, refl, sym, ap, ◌∙◌, subst}
use Rattle.std.proofs.lemmas.List.Folds.{find_at}
use Rattle.std.proofs.lemmas.Option.{slice_get-map}
use Rattle.std.specs.List.{flat_map, list_any}
use Rattle.std.specs.Option.{option_map, option_map_or}
use Rattle.std.specs.Prelude.{Bool, true, false, not, ◌||◌, slice_get}
use Rattle.std.specs.Str.{bytes_eq}
use Rattle.cilk_tree.specs.declared.place.CheckPlace.TheVariants as place
use Rattle.cilk_tree.specs.declared.rule.Rule.{Rule}
use Rattle.cilk_tree.specs.declared.rule.Rule.TheVariants as rule
use Rattle.cilk_tree.specs.declared.tree.Expr.{Expr}
use Rattle.cilk_tree.specs.declared.tree.Function as source_function
use Rattle.cilk_tree.specs.declared.tree.Program as source_program
use Rattle.cilk_tree.specs.declared.tree.Stmt.{Stmt, roll-Stmt, map-Stmt, fold-roll-Stmt, ind-Stmt}
use Rattle.cilk_tree.specs.declared.tree.Stmt.TheOpen as head
use Rattle.cilk_tree.specs.declared.tree.Stmt.TheOpen.{Stmt-F}
use Rattle.cilk_tree.specs.Lawful.Flow as flow
use Rattle.cilk_tree.specs.Lawful.Flow.{Site, Part, sites, flow_of, inside, after_all, after_list, part_here, part_of}
use Rattle.cilk_tree.specs.Lawful.Lawful.{IsLawful}
use Rattle.cilk_tree.specs.Lawful.Rules.{Use, NeedsFunction, uses, target_uses, variable_use, function_use, is_wrong, is_function, is_cilk, declares_again, uses_unknown, uses_wrong, has_wrong_arity, lacks_value, spawns_in_plain, calls_cilk, spawns_plain, kind_if, statement_kinds, kinds_in}
use Rattle.cilk_tree.specs.Lawful.Scope.{Point, Meaning, Unknown, Variable, Array, Procedure, entry, first_meaning, meaning, is_known, local_named, is_array, function_named}
use Rattle.cilk_meaning.specs.Laws.{LawfulIsParted, NamesInScope}
use Rattle.cilk_meaning.specs.Parted.{CallsPlain, IsPlain}
use Rattle.cilk_meaning.specs.Resolved.{Function}
use Rattle.cilk_meaning.specs.Resolving.{Resolving, part_in, in_order, resolving_here, resolving, resolved_function, resolved, function_number}

-- ---- lists of sites

abbrev pub Each : (Site → Type 0) → List Site → Type 0
Each P [] = Unit {0}
Each P (site ∷ rest) = P site × Each P rest

pub each_parts : (P : Site → Type 0) (xs ys : List Site) → Each P (xs ++ ys) → Each P xs × Each P ys
each_parts P [] ys h = (tt, h)
each_parts P (x ∷ xs) ys h = let rest = each_parts P xs ys h.1 in ((h.0, rest.0), rest.1)

pub each_of : (P : Site → Type 0) (xs : List Site) → ((k : ℕ) (site : Site) → slice_get xs k ≡ Some site → P site) → Each P xs
each_of P [] h = tt
each_of P (x ∷ xs) h = (h 0 x refl, each_of P xs (λ k site is. h (suc k) site is))

-- ---- what the rules leave of a site

pub nil_left : (xs ys : List ℕ) → xs ++ ys ≡ [] → xs ≡ []
nil_left [] ys e = refl
nil_left (x ∷ xs) ys e = absurd cc

pub nil_right : (xs ys : List ℕ) → xs ++ ys ≡ [] → ys ≡ []
nil_right [] ys e = e
nil_right (x ∷ xs) ys e = absurd cc

pub not_broken : (b : Bool) (kind : Rule) → kind_if b kind ≡ [] → b ≡ false
not_broken true kind e = absurd cc
not_broken false kind e = refl

pub or_left : (a b : Bool) → a || b ≡ false → a ≡ false
or_left true b e = absurd cc
or_left false b e = refl

pub or_right : (a b : Bool) → a || b ≡ false → b ≡ false
or_right true b e = absurd cc
or_right false b e = e

-- a site of this function that keeps the rules on names, spawns, syncs and calls
record IsClean (source : source_program.Program) (function : source_function.Function) (site : Site) : Type 0 where
  known : uses_unknown source site.point site.head ≡ false
  right : uses_wrong source site.point site.head ≡ false
  inside : spawns_in_plain function site.head ≡ false
  calls : calls_cilk source site.point site.head ≡ false

clean : (source : source_program.Program) (function : source_function.Function) (site : Site) → statement_kinds source function site ≡ [] → IsClean source function site
clean source function site e =
    let k1 = kind_if (declares_again source site.point site.head) rule.DuplicateName in
    let k2 = kind_if (uses_unknown source site.point site.head) rule.UnknownName in
    let k3 = kind_if (uses_wrong source site.point site.head) rule.WrongKind in
    let k4 = kind_if (has_wrong_arity source site.point site.head) rule.WrongArity in
    let k5 = kind_if (lacks_value source function site.point site.head) rule.NoValue in
    let k6 = kind_if (spawns_in_plain function site.head) rule.SpawnInPlain in
    let k7 = kind_if (calls_cilk source site.point site.head) rule.CallOfCilk in
    let k8 = kind_if (spawns_plain source site.point site.head) rule.SpawnOfPlain in
    let to7 = nil_left (k1 ++ k2 ++ k3 ++ k4 ++ k5 ++ k6 ++ k7) k8 e in
    let to6 = nil_left (k1 ++ k2 ++ k3 ++ k4 ++ k5 ++ k6) k7 to7 in
    let to5 = nil_left (k1 ++ k2 ++ k3 ++ k4 ++ k5) k6 to6 in
    let to3 = nil_left (k1 ++ k2 ++ k3) k4 (nil_left (k1 ++ k2 ++ k3 ++ k4) k5 to5) in
    record {
      known = not_broken (uses_unknown source site.point site.head) rule.UnknownName (nil_right k1 k2 (nil_left (k1 ++ k2) k3 to3));
      right = not_broken (uses_wrong source site.point site.head) rule.WrongKind (nil_right (k1 ++ k2) k3 to3);
      inside = not_broken (spawns_in_plain function site.head) rule.SpawnInPlain (nil_right (k1 ++ k2 ++ k3 ++ k4 ++ k5) k6 to6);
      calls = not_broken (calls_cilk source site.point site.head) rule.CallOfCilk (nil_right (k1 ++ k2 ++ k3 ++ k4 ++ k5 ++ k6) k7 to7);
    }

-- each site of a function of a lawful source does
all_clean : (source : source_program.Program) → IsLawful source → (number : ℕ) (function : source_function.Function) → slice_get source.functions number ≡ Some function →
    Each (IsClean source function) (sites (flow_of function))
all_clean source lawful number function is = each_of (IsClean source function) (sites (flow_of function)) (λ k site is_site. clean source function site
    (ap (λ o. option_map_or (statement_kinds source function) o []) (sym is_site)
    ∙ ap (λ o. option_map_or (kinds_in source k) o []) (sym is)
    ∙ lawful.rules (place.Statement number k)))

-- ---- what a plain call names

unknown_or : (m : Meaning) → not (is_known m) ≡ false → is_wrong NeedsFunction m ≡ false → is_function is_cilk m ≡ false → (f : source_function.Function) × (m ≡ Procedure f) × (f.«cilk» ≡ false)
unknown_or Unknown known right calls = absurd cc
unknown_or (Variable number) known right calls = absurd cc
unknown_or Array known right calls = absurd cc
unknown_or (Procedure f) known right calls = (f, refl, calls)

pub procedure_is : (o : Option ℕ) (b : Bool) (p : Option source_function.Function) (f : source_function.Function) → first_meaning o b p ≡ Procedure f → p ≡ Some f
procedure_is (Some number) b p f e = absurd cc
procedure_is None true p f e = absurd cc
procedure_is None false (Some g) f e = cc
procedure_is None false None f e = absurd cc

-- the test fails for the function that a call uses, where it fails for all that the call uses
pub any_callee : (test : Use → Bool) (target : Option (List ℕ)) (name : List ℕ) (others : List Use) → list_any test (target_uses target ++ function_use name ∷ others) ≡ false → test (function_use name) ≡ false
any_callee test None name others e = or_left (test (function_use name)) (list_any test others) e
any_callee test (Some x) name others e = or_left (test (function_use name)) (list_any test others) (or_right (test (variable_use x)) (list_any test (function_use name ∷ others)) e)

module _ (source : source_program.Program) where
  callee_plain : (name : List ℕ) (f : source_function.Function) → function_named source name ≡ Some f → f.«cilk» ≡ false → CallsPlain (resolved source) (function_number source name)
  callee_plain name f named plain function is =
      let found : slice_get source.functions (function_number source name) ≡ Some f = sym (find_at (λ function. bytes_eq function.name name) source.functions) ∙ named in
      let same : Some (resolved_function source f) ≡ Some function =
      sym (slice_get-map (resolved_function source) source.functions (function_number source name) ∙ ap (λ o. option_map (resolved_function source) o) found) ∙ is in
      let one : resolved_function source f ≡ function = cc in
      sym (ap (λ (g : Function). g.«cilk») one) ∙ plain

  call_plain : (caller : source_function.Function) (point : Point) (target : Option (List ℕ)) (name : List ℕ) (arguments : List Expr) →
      IsClean source caller (record { point = point; head = head.Call target name arguments }) → CallsPlain (resolved source) (function_number source name)
  call_plain caller point target name arguments c =
      let known = any_callee (λ used. not (is_known (meaning source point.scope used.name))) target name (flat_map uses arguments) c.known in
      let right = any_callee (λ used. is_wrong used.need (meaning source point.scope used.name)) target name (flat_map uses arguments) c.right in
      let callee = unknown_or (meaning source point.scope name) known right c.calls in
      callee_plain name callee.0 (procedure_is (local_named point.scope name) (is_array source name) (function_named source name) callee.0 callee.1) callee.2

  -- ---- the scopes are those of the rules

  abbrev IsInScope : Stmt → Type 0
  IsInScope s = (resolving source s).part ≡ part_of s

  abbrev Scoped : Type 0
  Scoped = (s : Stmt) × IsInScope s

  scoped_parts : (ys : List Scoped) → map part_in (map (resolving source) (map (λ s. s.0) ys)) ≡ map part_of (map (λ s. s.0) ys)
  scoped_parts [] = refl
  scoped_parts (y ∷ ys) = ap (λ p. p ∷ map part_in (map (resolving source) (map (λ s. s.0) ys))) y.1 ∙ ap (λ ps. part_of y.0 ∷ ps) (scoped_parts ys)

  layer_scoped : (y : Stmt-F Scoped) →
      (resolving_here source (map-Stmt Stmt Resolving (resolving source) (map-Stmt Scoped Stmt (λ s. s.0) y))).part ≡ part_here (map-Stmt Stmt Part part_of (map-Stmt Scoped Stmt (λ s. s.0) y))
  layer_scoped (head.Declare name) = refl
  layer_scoped (head.Assign name value) = refl
  layer_scoped (head.Put name index value) = refl
  layer_scoped (head.Print value) = refl
  layer_scoped (head.If condition met unmet) =
      ap (λ ps. part_here (head.If condition ps (map part_in (map (resolving source) (map (λ (s : Scoped). s.0) unmet))))) (scoped_parts met)
      ∙ ap (λ ps. part_here (head.If condition (map part_of (map (λ (s : Scoped). s.0) met)) ps)) (scoped_parts unmet)
  layer_scoped (head.While condition body) = ap (λ ps. part_here (head.While condition ps)) (scoped_parts body)
  layer_scoped (head.Block body) = ap (λ ps. part_here (head.Block ps)) (scoped_parts body)
  layer_scoped (head.Call target name arguments) = refl
  layer_scoped (head.Spawn target name arguments) = refl
  layer_scoped (head.Add target name index addend) = refl
  layer_scoped head.Sync = refl
  layer_scoped (head.Return value) = refl

  pub in_scope : (s : Stmt) → IsInScope s
  in_scope = ind-Stmt IsInScope (λ x y is. subst (λ z. IsInScope (roll-Stmt z)) is
      (ap (λ (r : Resolving). r.part) (fold-roll-Stmt Resolving (resolving_here source) (map-Stmt Scoped Stmt (λ s. s.0) y))
      ∙ layer_scoped y
      ∙ sym (fold-roll-Stmt Part part_here (map-Stmt Scoped Stmt (λ s. s.0) y))))

  pub parts_in_scope : (list : List Stmt) → map part_in (map (resolving source) list) ≡ map part_of list
  parts_in_scope [] = refl
  parts_in_scope (s ∷ list) = ap (λ p. p ∷ map part_in (map (resolving source) list)) (in_scope s) ∙ ap (λ ps. part_of s ∷ ps) (parts_in_scope list)

  -- ---- statements

  module _ (caller : source_function.Function) (is_plain : caller.«cilk» ≡ false) where
    -- where the sites of a part are clean, what comes of it is plain
    abbrev Fits : Resolving → Part → Type 0
    Fits r p = (point : Point) → Each (IsClean source caller) (sites (p.flow point)) → IsPlain (resolved source) (r.stmt point)

    abbrev FitsAt : Stmt → Type 0
    FitsAt s = Fits (resolving source s) (part_of s)

    abbrev Fitting : Type 0
    Fitting = (s : Stmt) × FitsAt s

    abbrev AllFit : List Stmt → Type 0
    AllFit [] = Unit {0}
    AllFit (s ∷ list) = FitsAt s × AllFit list

    all_fit : (ys : List Fitting) → AllFit (map (λ s. s.0) ys)
    all_fit [] = tt
    all_fit (y ∷ ys) = (y.1, all_fit ys)

    list_plain : (list : List Stmt) → AllFit list → (point : Point) → Each (IsClean source caller) (sites (flow.in_order (map part_of list) point)) → IsPlain (resolved source) (in_order (map (resolving source) list) point)
    list_plain [] h point c = tt
    list_plain (s ∷ list) h point c =
        let parts = each_parts (IsClean source caller) (sites ((part_of s).flow point)) (sites (flow.in_order (map part_of list) ((part_of s).after point))) c in (
          h.0 point parts.0,
          subst (λ (p : Part). IsPlain (resolved source) (in_order (map (resolving source) list) (p.after point))) (sym (in_scope s)) (list_plain list h.1 ((part_of s).after point) parts.1),
        )

    no_spawn : (h : flow.Head) → spawns_in_plain caller h ≡ not caller.«cilk» → spawns_in_plain caller h ≡ false → ⊥
    no_spawn h is e = let clash : not caller.«cilk» ≡ false = sym is ∙ e in let yes_cilk : not caller.«cilk» ≡ true = ap not is_plain in cc

    layer_fits : (y : Stmt-F Fitting) →
        Fits (resolving_here source (map-Stmt Stmt Resolving (resolving source) (map-Stmt Fitting Stmt (λ s. s.0) y))) (part_here (map-Stmt Stmt Part part_of (map-Stmt Fitting Stmt (λ s. s.0) y)))
    layer_fits (head.Declare name) = λ point c. tt
    layer_fits (head.Assign name value) = λ point c. tt
    layer_fits (head.Put name index value) = λ point c. tt
    layer_fits (head.Print value) = λ point c. tt
    layer_fits (head.If condition met unmet) = λ point c.
        (let mets = map (λ (s : Fitting). s.0) met in
        let unmets = map (λ (s : Fitting). s.0) unmet in
        let between = after_list (map part_of mets) (inside point) in
        let parts = each_parts (IsClean source caller) (sites (flow.in_order (map part_of mets) (inside point))) (sites (flow.in_order (map part_of unmets) between)) c.1 in (
          list_plain mets (all_fit met) (inside point) parts.0,
          subst (λ ps. IsPlain (resolved source) (in_order (map (resolving source) unmets) (after_list ps (inside point)))) (sym (parts_in_scope mets)) (list_plain unmets (all_fit unmet) between parts.1),
        ))
    layer_fits (head.While condition body) = λ point c. list_plain (map (λ (s : Fitting). s.0) body) (all_fit body) (inside point) c.1
    layer_fits (head.Block body) = λ point c. list_plain (map (λ (s : Fitting). s.0) body) (all_fit body) (inside point) c.1
    layer_fits (head.Call target name arguments) = λ point c. call_plain caller point target name arguments c.0
    layer_fits (head.Spawn target name arguments) = λ point c. no_spawn (head.Spawn target name arguments) refl c.0.inside
    layer_fits (head.Add target name index addend) = λ point c. tt
    layer_fits head.Sync = λ point c. no_spawn head.Sync refl c.0.inside
    layer_fits (head.Return value) = λ point c. tt

    fits : (s : Stmt) → FitsAt s
    fits = ind-Stmt FitsAt (λ x y is. subst (λ z. FitsAt (roll-Stmt z)) is
        (subst (λ r. Fits r (part_of (roll-Stmt (map-Stmt Fitting Stmt (λ s. s.0) y)))) (sym (fold-roll-Stmt Resolving (resolving_here source) (map-Stmt Fitting Stmt (λ s. s.0) y)))
        (subst (λ p. Fits (resolving_here source (map-Stmt Stmt Resolving (resolving source) (map-Stmt Fitting Stmt (λ s. s.0) y))) p) (sym (fold-roll-Stmt Part part_here (map-Stmt Fitting Stmt (λ s. s.0) y)))
        (layer_fits y))))

    lists_fit : (list : List Stmt) → AllFit list
    lists_fit [] = tt
    lists_fit (s ∷ list) = (fits s, lists_fit list)

    body_plain : Each (IsClean source caller) (sites (flow_of caller)) → IsPlain (resolved source) (resolved_function source caller).body
    body_plain c = list_plain caller.body (lists_fit caller.body) (entry caller) c

pub none_clash : {function : Function} → None ≡ Some function → ⊥
none_clash e = cc

pub some_same : {one other : Function} → Some one ≡ Some other → one ≡ other
some_same e = cc

pub lawful_is_parted : LawfulIsParted
lawful_is_parted source lawful number function is is_plain = by (slice_get source.functions number) refl
  where
    by : (found : Option source_function.Function) → slice_get source.functions number ≡ found → IsPlain (resolved source) function.body
    by None none = absurd (none_clash (sym (slice_get-map (resolved_function source) source.functions number ∙ ap (λ o. option_map (resolved_function source) o) none) ∙ is))
    by (Some caller) found =
        let same : resolved_function source caller ≡ function =
        some_same (sym (slice_get-map (resolved_function source) source.functions number ∙ ap (λ o. option_map (resolved_function source) o) found) ∙ is) in
        let caller_plain : caller.«cilk» ≡ false = ap (λ (f : Function). f.«cilk») same ∙ is_plain in
        subst (λ (f : Function). IsPlain (resolved source) f.body) same (body_plain source caller caller_plain (all_clean source lawful number caller found))

pub names_in_scope : NamesInScope
names_in_scope = in_scope
