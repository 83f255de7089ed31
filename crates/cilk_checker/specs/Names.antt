-- What names stand for, in the checker's own tables.
use Rattle.std.specs.Prelude.{ℕ, List, Option}
use Rattle.std.specs.BTreeMap.{BTreeMap, get_by}
use Rattle.std.specs.Cmp.Lexicographic.{slice_cmp}
use Rattle.std.specs.Ordering.{nat_cmp}
use denote.Ref.{Bor}

-- the value of a name
abbrev pub value_at : {V : Type 0} → BTreeMap (Bor (List ℕ)) V → List ℕ → Option V
value_at values name = get_by (λ key. slice_cmp nat_cmp name key.now) values
