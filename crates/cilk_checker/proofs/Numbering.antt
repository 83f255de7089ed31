-- The statements of a function are numbered in preorder.
use Rattle.std.specs.Prelude.{◌≡◌, ℕ, ◌+◌, List, [], ◌∷◌, ◌++◌, length, map}
use Rattle.std.proofs.Common.{refl, sym, subst, arith}
use Rattle.std.proofs.lemmas.List.{length-append}
use Rattle.std.specs.List.{fold}
use Rattle.cilk_tree.specs.declared.place.CheckPlace.TheVariants as place
use Rattle.cilk_tree.specs.declared.tree.Function.{Function}
use Rattle.cilk_tree.specs.declared.tree.Program.{Program}
use Rattle.cilk_tree.specs.declared.tree.Stmt.{Stmt, roll-Stmt, map-Stmt, fold-roll-Stmt, ind-Stmt}
use Rattle.cilk_tree.specs.declared.tree.Stmt.TheOpen as layer
use Rattle.cilk_tree.specs.declared.tree.Stmt.TheOpen.{Stmt-F}
use Rattle.cilk_tree.specs.Lawful.Flow.{Site, Part, sites, after_all, after_list, flow_of, in_order, inside, part_here, part_of}
use Rattle.cilk_tree.specs.Lawful.Rules.{statement_kinds}
use Rattle.cilk_tree.specs.Lawful.Scope.{Point, declared, entry}
use Rattle.cilk_checker.specs.Judged.{judged_row, judged_statement}

-- the statements have these numbers, one after another
abbrev pub IsNumbered : ℕ → List Site → Type 0
IsNumbered number [] = Unit {0}
IsNumbered number (site ∷ rest) = (site.point.statement ≡ number) × IsNumbered (number + 1) rest

numbered_on : (number : ℕ) (xs ys : List Site) → IsNumbered number xs → IsNumbered (number + length xs) ys → IsNumbered number (xs ++ ys)
numbered_on number [] ys p q = subst (λ n. IsNumbered n ys) (omega arith) q
numbered_on number (x ∷ xs) ys p q = (p.0, numbered_on (number + 1) xs ys p.1 (subst (λ n. IsNumbered n ys) (omega arith) q))

pub numbered_parts : (number : ℕ) (xs ys : List Site) → IsNumbered number (xs ++ ys) → IsNumbered number xs × IsNumbered (number + length xs) ys
numbered_parts number [] ys p = (tt, subst (λ n. IsNumbered n ys) (omega arith) p)
numbered_parts number (x ∷ xs) ys p =
    let rest = numbered_parts (number + 1) xs ys p.1 in
    ((p.0, rest.0), subst (λ n. IsNumbered n ys) (omega arith) rest.1)

-- a part of a function numbers its statements from the point on
record IsCounted (part : Part) : Type 0 where
  numbered : (point : Point) → IsNumbered point.statement (sites (part.flow point))
  after : (point : Point) → (part.after point).statement ≡ point.statement + length (sites (part.flow point))

abbrev Counted : Type 0
Counted = (s : Stmt) × IsCounted (part_of s)

abbrev parts_of : List Counted → List Part
parts_of ys = map part_of (map (λ s. s.0) ys)

in_order_numbered : (ys : List Counted) (point : Point) → IsNumbered point.statement (sites (in_order (parts_of ys) point))
in_order_numbered [] point = tt
in_order_numbered (y ∷ ys) point =
    numbered_on point.statement (sites ((part_of y.0).flow point)) (sites (in_order (parts_of ys) ((part_of y.0).after point))) (y.1.numbered point)
    (subst (λ n. IsNumbered n (sites (in_order (parts_of ys) ((part_of y.0).after point)))) (y.1.after point) (in_order_numbered ys ((part_of y.0).after point)))

in_order_after : (ys : List Counted) (point : Point) → (after_all (parts_of ys) point).statement ≡ point.statement + length (sites (in_order (parts_of ys) point))
in_order_after [] point = omega arith
in_order_after (y ∷ ys) point =
    let rest = in_order_after ys ((part_of y.0).after point) in
    let first = y.1.after point in
    omega (arith, rest, first, length-append (sites ((part_of y.0).flow point)) (sites (in_order (parts_of ys) ((part_of y.0).after point))))

counted_here : (y : Stmt-F Counted) → IsCounted (part_here (map-Stmt Stmt Part part_of (map-Stmt Counted Stmt (λ s. s.0) y)))
counted_here (layer.Declare name) = record { numbered = λ point. (refl, tt); after = λ point. omega arith }
counted_here (layer.Assign name value) = record { numbered = λ point. (refl, tt); after = λ point. omega arith }
counted_here (layer.Put name index value) = record { numbered = λ point. (refl, tt); after = λ point. omega arith }
counted_here (layer.Print value) = record { numbered = λ point. (refl, tt); after = λ point. omega arith }
counted_here (layer.If condition met unmet) = record {
  numbered = λ point. (
    refl,
    numbered_on (point.statement + 1) (sites (in_order (parts_of met) (inside point))) (sites (in_order (parts_of unmet) (after_list (parts_of met) (inside point)))) (in_order_numbered met (inside point))
        (subst (λ n. IsNumbered n (sites (in_order (parts_of unmet) (after_list (parts_of met) (inside point))))) (in_order_after met (inside point)) (in_order_numbered unmet (after_list (parts_of met) (inside point)))),
  );
  after = λ point.
      let between = after_list (parts_of met) (inside point) in
      let first = in_order_after met (inside point) in
      let second = in_order_after unmet between in
      let lengths = length-append (sites (in_order (parts_of met) (inside point))) (sites (in_order (parts_of unmet) between)) in
      omega (arith, first, second, lengths);
}
counted_here (layer.While condition body) = record {
  numbered = λ point. (refl, in_order_numbered body (inside point));
  after = λ point. let e = in_order_after body (inside point) in omega (arith, e);
}
counted_here (layer.Block inner) = record {
  numbered = λ point. (refl, in_order_numbered inner (inside point));
  after = λ point. let e = in_order_after inner (inside point) in omega (arith, e);
}
counted_here (layer.Call target name arguments) = record { numbered = λ point. (refl, tt); after = λ point. omega arith }
counted_here (layer.Spawn target name arguments) = record { numbered = λ point. (refl, tt); after = λ point. omega arith }
counted_here (layer.Add target name index addend) = record { numbered = λ point. (refl, tt); after = λ point. omega arith }
counted_here layer.Sync = record { numbered = λ point. (refl, tt); after = λ point. omega arith }
counted_here (layer.Return value) = record { numbered = λ point. (refl, tt); after = λ point. omega arith }

counted : (s : Stmt) → IsCounted (part_of s)
counted = ind-Stmt (λ s. IsCounted (part_of s)) (λ x y is. subst (λ z. IsCounted (part_of (roll-Stmt z))) is (subst IsCounted (sym (fold-roll-Stmt Part part_here (map-Stmt Counted Stmt (λ s. s.0) y))) (counted_here y)))

list_numbered : (list : List Stmt) (point : Point) → IsNumbered point.statement (sites (in_order (map part_of list) point))
list_numbered [] point = tt
list_numbered (s ∷ list) point =
    numbered_on point.statement (sites ((part_of s).flow point)) (sites (in_order (map part_of list) ((part_of s).after point))) ((counted s).numbered point)
    (subst (λ n. IsNumbered n (sites (in_order (map part_of list) ((part_of s).after point)))) ((counted s).after point) (list_numbered list ((part_of s).after point)))

begun : (names : List (List ℕ)) (point : Point) → (fold declared point names).statement ≡ point.statement
begun [] point = refl
begun (name ∷ names) point = begun names (declared point name)

-- those of a function, from 0
pub function_numbered : (function : Function) → IsNumbered 0 (sites (flow_of function))
function_numbered function = subst (λ n. IsNumbered n (sites (flow_of function))) (begun function.params (record { statement = 0; local = 0; scope = [] })) (list_numbered function.body (entry function))

-- so what is judged of statements is a row of places
pub judged_numbered : (program : Program) (number : ℕ) (function : Function) (from : ℕ) (list : List Site) → IsNumbered from list
    → map (judged_statement program number function) list ≡ judged_row (place.Statement number) (λ statement. statement_kinds program function) from list
judged_numbered program number function from [] p = refl
judged_numbered program number function from (site ∷ list) p =
    λ i. record { place = place.Statement number (p.0 i); kinds = statement_kinds program function site } ∷ judged_numbered program number function (from + 1) list p.1 i
