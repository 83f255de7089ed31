-- Lists of statements: what is done so far, and what is left.
use Rattle.std.specs.Prelude.{◌≡◌, ◌-◌, List, [], ◌∷◌, ◌++◌, map, length, drop}
use Rattle.std.proofs.Common.{refl, sym, ap, subst, ◌∙◌, append_assoc, arith}
use Rattle.std.proofs.lemmas.List.{append-nil, length-append}
use Rattle.std.proofs.Math.Seq.{drop-append_seam}
use Rattle.std.specs.Option.{option_or}
use Rattle.cilk_tree.specs.declared.tree.Stmt.{Stmt, out-Stmt, map-Stmt}
use Rattle.cilk_tree.specs.declared.tree.Stmt.TheOpen as layer
use Rattle.cilk_tree.specs.declared.tree.Stmt.TheOpen.{Stmt-F}
use Rattle.cilk_tree.specs.Lawful.Flow.{Part, after_all, after_here, in_order, part_of}
use Rattle.cilk_tree.specs.Lawful.Scope.{Local, Point}
use Rattle.cilk_checker.specs.declared.around.Around.{Around}
use Rattle.cilk_checker.specs.declared.path.Path.{Path}
use Rattle.cilk_checker.specs.declared.refusal.CheckRefusal.{CheckRefusal}
use Rattle.cilk_checker.specs.Courses.{Course, followed, flow_course, in_row, nothing, path_course}
use Rattle.cilk_checker.specs.Judged.{first_refusal, judged_sites, Passes, Tells}
use Rattle.cilk_checker.proofs.Heads.{part_is, parts}
use Rattle.cilk_checker.proofs.Passing.{first_of_flows, stops_first}

-- ---- courses

followed_in_turn : (a b c : Course) → followed (followed a b) c ≡ followed a (followed b c)
followed_in_turn a b c = λ i. record { ends = λ before. c.ends (b.ends (a.ends before)); uses = λ before. append_assoc (a.uses before) (b.uses (a.ends before)) (c.uses (b.ends (a.ends before))) i }

pub followed_by_nothing : (a : Course) → followed a nothing ≡ a
followed_by_nothing a = λ i. record { ends = a.ends; uses = λ before. append-nil (a.uses before) i }

in_row_more : (courses : List Course) (next rest : Course) → followed (in_row (courses ++ next ∷ [])) rest ≡ followed (in_row courses) (followed next rest)
in_row_more [] next rest = ap (λ course. followed course rest) (followed_by_nothing next)
in_row_more (first ∷ courses) next rest =
    followed_in_turn first (in_row (courses ++ next ∷ [])) rest
    ∙ ap (followed first) (in_row_more courses next rest)
    ∙ sym (followed_in_turn first (in_row courses) (followed next rest))

map_more : (paths : List Path) (path : Path) → map path_course (paths ++ path ∷ []) ≡ map path_course paths ++ path_course path ∷ []
map_more [] path = refl
map_more (first ∷ paths) path = ap (λ rest. path_course first ∷ rest) (map_more paths path)

-- ---- one statement of a list

module _ (around : Around) (statement : Stmt) (now after : Point) (left rest : List Stmt) (split : left ≡ statement ∷ rest) where
  -- a refusal of the next statement is one of the list
  pub list_stops : (refusal : CheckRefusal) → Tells (first_refusal (judged_sites around ((part_of statement).flow now))) refusal → Tells (first_refusal (judged_sites around (in_order (parts left) now))) refusal
  list_stops refusal told = subst (λ list. Tells (first_refusal (judged_sites around (in_order (parts list) now))) refusal) (sym split) (stops_first around ((part_of statement).flow now) (in_order (parts rest) ((part_of statement).after now)) refusal told)

  module _ (course : Course) (passes : Passes around ((part_of statement).flow now) course) (moved : after ≡ (part_of statement).after now) where
    pub list_goes : first_refusal (judged_sites around (in_order (parts left) now)) ≡ first_refusal (judged_sites around (in_order (parts rest) after))
    list_goes =
        ap (λ list. first_refusal (judged_sites around (in_order (parts list) now))) split
        ∙ first_of_flows around ((part_of statement).flow now) (in_order (parts rest) ((part_of statement).after now))
        ∙ ap (λ due. option_or due (first_refusal (judged_sites around (in_order (parts rest) ((part_of statement).after now))))) passes.lawful
        ∙ ap (λ point. first_refusal (judged_sites around (in_order (parts rest) point))) (sym moved)

    pub course_goes : (paths : List Path) (path : Path) → course ≡ path_course path
        → followed (in_row (map path_course (paths ++ path ∷ []))) (flow_course (in_order (parts rest) after)) ≡ followed (in_row (map path_course paths)) (flow_course (in_order (parts left) now))
    course_goes paths path same =
        ap (λ row. followed (in_row row) (flow_course (in_order (parts rest) after))) (map_more paths path)
        ∙ in_row_more (map path_course paths) (path_course path) (flow_course (in_order (parts rest) after))
        ∙ (λ i. followed (in_row (map path_course paths)) (followed ((sym same ∙ passes.followed) i) (flow_course (in_order (parts rest) (moved i)))))
        ∙ ap (λ list. followed (in_row (map path_course paths)) (flow_course (in_order (parts list) now))) (sym split)

  pub point_goes : after ≡ (part_of statement).after now → after_all (parts rest) after ≡ after_all (parts left) now
  point_goes moved = ap (after_all (parts rest)) moved ∙ ap (λ list. after_all (parts list) now) (sym split)

-- ---- what a list declares

module _ (point : Point) where
  extends_here : (statement : Stmt-F Stmt) → (more : List Local) × ((after_here (map-Stmt Stmt Part part_of statement) point).scope ≡ more ++ point.scope)
  extends_here (layer.Declare name) = (record { name = name; number = point.local } ∷ [], refl)
  extends_here (layer.Assign name value) = ([], refl)
  extends_here (layer.Put name index value) = ([], refl)
  extends_here (layer.Print value) = ([], refl)
  extends_here (layer.If condition met unmet) = ([], refl)
  extends_here (layer.While condition body) = ([], refl)
  extends_here (layer.Block inner) = ([], refl)
  extends_here (layer.Call target name arguments) = ([], refl)
  extends_here (layer.Spawn target name arguments) = ([], refl)
  extends_here (layer.Add target name index addend) = ([], refl)
  extends_here layer.Sync = ([], refl)
  extends_here (layer.Return value) = ([], refl)

extends : (list : List Stmt) (point : Point) → (more : List Local) × ((after_all (parts list) point).scope ≡ more ++ point.scope)
extends [] point = ([], refl)
extends (statement ∷ list) point =
    let one = extends_here point (out-Stmt statement) in
    let others = extends list ((part_of statement).after point) in
    (others.0 ++ one.0, others.1 ∙ ap (λ below. others.0 ++ below) (ap (λ part. (part.after point).scope) (part_is point statement (out-Stmt statement) refl) ∙ one.1) ∙ sym (append_assoc others.0 one.0 point.scope))

-- without what the list declared, the scope is the one before it
pub declared_dropped : (list : List Stmt) (point : Point) → drop (length (after_all (parts list) point).scope - length point.scope) (after_all (parts list) point).scope ≡ point.scope
declared_dropped list point =
    let grown = extends list point in
    let more : length (after_all (parts list) point).scope - length point.scope ≡ length grown.0 = ap (λ scope. length scope - length point.scope) grown.1 ∙ omega (arith, length-append grown.0 point.scope) in
    (λ i. drop (more i) (grown.1 i)) ∙ drop-append_seam grown.0 point.scope

-- ---- the same list under another name

module _ (around : Around) (one other : List Stmt) (point : Point) (same : one ≡ other) where
  pub passes_same : (course : Course) → Passes around (in_order (parts one) point) course → Passes around (in_order (parts other) point) course
  passes_same course passes = subst (λ list. Passes around (in_order (parts list) point) course) same passes

  pub tells_same : (refusal : CheckRefusal) → Tells (first_refusal (judged_sites around (in_order (parts one) point))) refusal → Tells (first_refusal (judged_sites around (in_order (parts other) point))) refusal
  tells_same refusal told = subst (λ list. Tells (first_refusal (judged_sites around (in_order (parts list) point))) refusal) same told
