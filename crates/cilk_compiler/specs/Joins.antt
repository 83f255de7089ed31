-- How the code of `x op y` is written: between x and y, and behind y.
use Rattle.std.specs.Prelude.{ℕ, suc, ◌<◌, pos, List, [], ◌∷◌, ◌++◌, length, slice_set}
use Rattle.cilk_tree.specs.declared.tree.BinaryOp.{BinaryOp}
use Rattle.cilk_tree.specs.declared.tree.BinaryOp.TheVariants as op
use Rattle.machine_code.specs.declared.instr.Instr.{Instr}
use Rattle.machine_code.specs.declared.instr.Instr.TheVariants.{Const, Add, Sub, Mul, Div, Rem, Not, Eq, Ne, Lt, Le, Gt, Ge, Jump, JumpIfZero}
use Rattle.cilk_compiler.specs.declared.join.Join.{Join}
use Rattle.cilk_compiler.specs.declared.join.Join.TheVariants.{Operate, And, Or}

-- these instructions and those between the operands, where the jump over the right one leads nowhere yet
abbrev pub opened : BinaryOp → List Instr → List Instr
opened op.And before = before ++ JumpIfZero 0 ∷ []
opened op.Or before = before ++ JumpIfZero (suc (suc (suc (length before)))) ∷ Const (pos 1) ∷ Jump 0 ∷ []
opened op.Eq before = before
opened op.Ne before = before
opened op.Lt before = before
opened op.Le before = before
opened op.Gt before = before
opened op.Ge before = before
opened op.Add before = before
opened op.Sub before = before
opened op.Mul before = before
opened op.Div before = before
opened op.Rem before = before

-- what comes behind the right operand, where the left one ends at this place
abbrev pub join_of : BinaryOp → ℕ → Join
join_of op.And at = And at
join_of op.Or at = Or (suc (suc at))
join_of op.Eq at = Operate Eq
join_of op.Ne at = Operate Ne
join_of op.Lt at = Operate Lt
join_of op.Le at = Operate Le
join_of op.Gt at = Operate Gt
join_of op.Ge at = Operate Ge
join_of op.Add at = Operate Add
join_of op.Sub at = Operate Sub
join_of op.Mul at = Operate Mul
join_of op.Div at = Operate Div
join_of op.Rem at = Operate Rem

-- these instructions and those, where the jump leads behind the right operand
abbrev pub joined : Join → List Instr → List Instr
joined (Operate instr) before = before ++ instr ∷ []
joined (And jump) before =
    let zero = suc (suc (suc (length before))) in
    slice_set (before ++ Not ∷ Not ∷ Jump (suc zero) ∷ Const (pos 0) ∷ []) jump (JumpIfZero zero)
joined (Or jump) before = slice_set (before ++ Not ∷ Not ∷ []) jump (Jump (suc (suc (length before))))

-- the jump is among so many instructions
abbrev pub IsWithin : Join → ℕ → Type 0
IsWithin (Operate instr) count = Unit {0}
IsWithin (And jump) count = jump < count
IsWithin (Or jump) count = jump < count
