-- Locals are numbered upwards: every local in scope at a point has a number below that of the next one.
use Rattle.std.proofs.Common.{◌+◌, ◌≤◌, List, [], ◌∷◌, map, sym, subst, arith}
use Rattle.cilk_tree.specs.declared.tree.Stmt.{Stmt, roll-Stmt, map-Stmt, fold-roll-Stmt, ind-Stmt}
use Rattle.cilk_tree.specs.declared.tree.Stmt.TheOpen as head
use Rattle.cilk_tree.specs.declared.tree.Stmt.TheOpen.{Stmt-F}
use Rattle.cilk_tree.specs.Lawful.Flow.{Part, inside, after_all, after_list, part_here, part_of}
use Rattle.cilk_tree.specs.Lawful.Scope.{Point}
use Rattle.lawful_program.proofs.Uses.{AreBelow, below_more}

abbrev pub IsNumbered : Point → Type 0
IsNumbered point = AreBelow point.local point.scope

-- behind a part the next number is no less, and the scope is numbered still
pub record Grown (from to : Point) : Type 0 where
  pub more : from.local ≤ to.local
  pub numbered : IsNumbered to

abbrev Grows : Part → Type 0
Grows p = (point : Point) → IsNumbered point → Grown point (p.after point)

abbrev Growing : Type 0
Growing = (s : Stmt) × Grows (part_of s)

abbrev AllGrow : List Stmt → Type 0
AllGrow [] = Unit {0}
AllGrow (s ∷ list) = Grows (part_of s) × AllGrow list

all_grow : (ys : List Growing) → AllGrow (map (λ s. s.0) ys)
all_grow [] = tt
all_grow (y ∷ ys) = (y.1, all_grow ys)

list_grows : (list : List Stmt) → AllGrow list → (point : Point) → IsNumbered point → Grown point (after_all (map part_of list) point)
list_grows [] h point n = record { more = omega arith; numbered = n }
list_grows (s ∷ list) h point n =
    let first = h.0 point n in
    let rest = list_grows list h.1 ((part_of s).after point) first.numbered in
    let a = first.more in
    let b = rest.more in
    record { more = omega (arith, a, b); numbered = rest.numbered }

-- a list that a statement holds leaves the scope as it was
held_grows : (list : List Stmt) → AllGrow list → (point : Point) → IsNumbered point → Grown point (after_list (map part_of list) point)
held_grows list h point n =
    let g = list_grows list h point n in
    record { more = g.more; numbered = below_more point.local _ point.scope g.more n }

layer_grows : (y : Stmt-F Growing) → Grows (part_here (map-Stmt Stmt Part part_of (map-Stmt Growing Stmt (λ s. s.0) y)))
layer_grows (head.Declare name) = λ point n. record { more = omega arith; numbered = (omega arith, below_more point.local (point.local + 1) point.scope (omega arith) n) }
layer_grows (head.Assign name value) = λ point n. record { more = omega arith; numbered = n }
layer_grows (head.Put name index value) = λ point n. record { more = omega arith; numbered = n }
layer_grows (head.Print value) = λ point n. record { more = omega arith; numbered = n }
layer_grows (head.If condition met unmet) = λ point n.
    (let mets = map (λ (s : Growing). s.0) met in
    let first = held_grows mets (all_grow met) (inside point) n in
    let second = held_grows (map (λ (s : Growing). s.0) unmet) (all_grow unmet) (after_list (map part_of mets) (inside point)) first.numbered in
    let a = first.more in
    let b = second.more in
    record { more = omega (arith, a, b); numbered = second.numbered })
layer_grows (head.While condition body) = λ point n. let g = held_grows (map (λ (s : Growing). s.0) body) (all_grow body) (inside point) n in record { more = g.more; numbered = g.numbered }
layer_grows (head.Block body) = λ point n. let g = held_grows (map (λ (s : Growing). s.0) body) (all_grow body) (inside point) n in record { more = g.more; numbered = g.numbered }
layer_grows (head.Call target name arguments) = λ point n. record { more = omega arith; numbered = n }
layer_grows (head.Spawn target name arguments) = λ point n. record { more = omega arith; numbered = n }
layer_grows (head.Add target name index addend) = λ point n. record { more = omega arith; numbered = n }
layer_grows head.Sync = λ point n. record { more = omega arith; numbered = n }
layer_grows (head.Return value) = λ point n. record { more = omega arith; numbered = n }

pub grows : (s : Stmt) → Grows (part_of s)
grows = ind-Stmt (λ s. Grows (part_of s)) (λ x y is. subst (λ z. Grows (part_of (roll-Stmt z))) is
    (subst Grows (sym (fold-roll-Stmt Part part_here (map-Stmt Growing Stmt (λ s. s.0) y))) (layer_grows y)))

lists_grow : (list : List Stmt) → AllGrow list
lists_grow [] = tt
lists_grow (s ∷ list) = (grows s, lists_grow list)

pub after_all_grows : (list : List Stmt) (point : Point) → IsNumbered point → Grown point (after_all (map part_of list) point)
after_all_grows list point n = list_grows list (lists_grow list) point n

pub after_list_grows : (list : List Stmt) (point : Point) → IsNumbered point → Grown point (after_list (map part_of list) point)
after_list_grows list point n = held_grows list (lists_grow list) point n
