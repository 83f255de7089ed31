-- Values, and what operators and indexes make of them.
use Rattle.std.specs.Prelude.{ℕ, zero, suc, ◌+◌, ◌^◌, ℤ, pos, negsuc, ◌+ℤ◌, ◌-ℤ◌, ◌*ℤ◌, neg_ℤ, int_lt, int_le, int_div, int_rem, Bool, true, false, not, ◌&&◌, ◌||◌, if◌then◌else◌, nat_lt, Option, Some, None, Result, Ok, Err}
use Rattle.cilk_tree.specs.declared.tree.BinaryOp.{BinaryOp}
use Rattle.cilk_tree.specs.declared.tree.BinaryOp.TheVariants as op
use Rattle.cilk_tree.specs.declared.tree.UnaryOp.{UnaryOp}
use Rattle.cilk_tree.specs.declared.tree.UnaryOp.TheVariants.{Neg, Not}
use Rattle.cilk_meaning.specs.declared.ends.TrapKind.{TrapKind}
use Rattle.cilk_meaning.specs.declared.ends.TrapKind.TheVariants.{DivideByZero, IndexOutOfRange, Overflow}
use Rattle.cilk_meaning.specs.Resolved.{Extent}

-- the number is a value: one of 64 bits with a sign
abbrev pub fits : ℤ → Bool
fits (pos n) = nat_lt n (2 ^ 63)
fits (negsuc n) = nat_lt n (2 ^ 63)

-- 0 is false, and every other value is true
abbrev pub is_zero : ℤ → Bool
is_zero (pos zero) = true
is_zero (pos (suc n)) = false
is_zero (negsuc n) = false

abbrev pub is_met : ℤ → Bool
is_met value = not (is_zero value)

abbrev pub truth : Bool → ℤ
truth true = pos 1
truth false = pos 0

-- an exact result, where it is a value
abbrev pub exact : ℤ → Result ℤ TrapKind
exact number = if fits number then Ok number else Err Overflow

-- what a divisor other than 0 makes
abbrev pub divided : ℤ → ℤ → Result ℤ TrapKind
divided divisor number = if is_zero divisor then Err DivideByZero else exact number

abbrev pub negated : UnaryOp → ℤ → Result ℤ TrapKind
negated Neg x = exact (neg_ℤ x)
negated Not x = Ok (truth (is_zero x))

-- the value of `&&` or `||` where the left operand decides it; the right one is not evaluated then
abbrev pub decided : BinaryOp → ℤ → Option ℤ
decided op.And x = if is_zero x then Some (pos 0) else None
decided op.Or x = if is_zero x then None else Some (pos 1)
decided _ x = None

-- The value of an operator, or its trap. `/` rounds toward zero, and `%` takes the sign of the dividend.
abbrev pub operated : BinaryOp → ℤ → ℤ → Result ℤ TrapKind
operated op.Or x y = Ok (truth (is_met x || is_met y))
operated op.And x y = Ok (truth (is_met x && is_met y))
operated op.Eq x y = Ok (truth (is_zero (x -ℤ y)))
operated op.Ne x y = Ok (truth (is_met (x -ℤ y)))
operated op.Lt x y = Ok (truth (int_lt x y))
operated op.Le x y = Ok (truth (int_le x y))
operated op.Gt x y = Ok (truth (int_lt y x))
operated op.Ge x y = Ok (truth (int_le y x))
operated op.Add x y = exact (x +ℤ y)
operated op.Sub x y = exact (x -ℤ y)
operated op.Mul x y = exact (x *ℤ y)
operated op.Div x y = divided y (int_div x y)
operated op.Rem x y = divided y (int_rem x y)

-- the shared word of an array at an index, or the trap
abbrev pub word_of : Extent → ℤ → Result ℕ TrapKind
word_of extent (pos index) = if nat_lt index extent.words then Ok (extent.base + index) else Err IndexOutOfRange
word_of extent (negsuc index) = Err IndexOutOfRange
