-- The rule on use before a sync by computing.
use Rattle.std.specs.Prelude.{ℕ, List, [], ◌∷◌, ◌++◌, if◌then◌else◌}
use Rattle.std.specs.List.{list_any}
use Rattle.cilk_tree.specs.Lawful.Flow.{Flow, Nothing, At, Then, Either, Loop}
use Rattle.cilk_tree.specs.Lawful.Pending.{Pending, both, after_head, touched}

-- The set after a flow. One turn reaches a loop's set, since a flow keeps all that it is given or nothing,
-- and what it adds does not depend on that.
abbrev pub ends : Flow → Pending → Pending
ends Nothing before = before
ends (At site) before = after_head site.point.scope site.head before
ends (Then first second) before = ends second (ends first before)
ends (Either met unmet) before = both (ends met before) (ends unmet before)
ends (Loop turn) before = both before (ends turn before)

-- and the numbers of the statements that use a pending local
abbrev pub uses_pending : Flow → Pending → List ℕ
uses_pending Nothing before = []
uses_pending (At site) before = if list_any before (touched site.point site.head) then site.point.statement ∷ [] else []
uses_pending (Then first second) before = uses_pending first before ++ uses_pending second (ends first before)
uses_pending (Either met unmet) before = uses_pending met before ++ uses_pending unmet before
uses_pending (Loop turn) before = uses_pending turn (both before (ends turn before))
