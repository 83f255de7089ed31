-- Instructions that stand among others.
use Rattle.std.proofs.Common.{ℕ, suc, ◌+◌, List, [], ◌∷◌, ◌++◌, length, subst, arith}
use Rattle.compiled_code.specs.Carries.{HasAt}
use Rattle.machine_code.specs.declared.instr.Instr.{Instr}

pub has_front : (all : List Instr) (at : ℕ) (front back : List Instr) → HasAt all at (front ++ back) → HasAt all at front
has_front all at [] back h = tt
has_front all at (i ∷ front) back h = (h.0, has_front all (suc at) front back h.1)

pub has_back : (all : List Instr) (at : ℕ) (front back : List Instr) → HasAt all at (front ++ back) → HasAt all (at + length front) back
has_back all at [] back h = subst (λ n. HasAt all n back) (omega arith) h
has_back all at (i ∷ front) back h = subst (λ n. HasAt all n back) (omega arith) (has_back all (suc at) front back h.1)
