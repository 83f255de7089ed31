-- What expressions give, and in which order they are evaluated.
use Rattle.std.specs.Prelude.{◌≡◌, pos, negsuc, None, [], ◌∷◌}
use Rattle.cilk_tree.specs.declared.tree.BinaryOp.TheVariants as op
use Rattle.cilk_tree.specs.declared.tree.UnaryOp.TheVariants.{Not}
use Rattle.cilk_meaning.specs.declared.ends.TrapKind.TheVariants.{DivideByZero, IndexOutOfRange, Overflow}
use Rattle.cilk_meaning.specs.Resolved.{Expr, Get, Unary, Binary, Stmt, Put, Add}
use Rattle.cilk_meaning.specs.Cases.Words.{Outcome, number, minus, plain_main, outcome, printing, finishes, prints, traps_at_once}

-- `9223372036854775807`
abbrev pub greatest : Expr
greatest = number 9223372036854775807

-- `-9223372036854775807 - 1`
abbrev pub least : Expr
least = Binary op.Sub (minus greatest) (number 1)

-- `1 / 0` and `9223372036854775807 + 1`
abbrev pub divides : Expr
divides = Binary op.Div (number 1) (number 0)

abbrev pub overflows : Expr
overflows = Binary op.Add greatest (number 1)

-- what comes of `int a[2]; int main() { s }`
abbrev pub doing : Stmt → Outcome
doing statement = outcome (plain_main 0 (statement ∷ [])) 10

pub record ArithmeticCases : Type 0 where
  -- print((-9223372036854775807 - 1) / -1);
  pub quotient_overflows : printing (Binary op.Div least (minus (number 1))) ≡ traps_at_once Overflow
  -- print((-9223372036854775807 - 1) % -1);
  pub remainder_of_least : printing (Binary op.Rem least (minus (number 1))) ≡ prints (pos 0)
  -- print(1 % 0);
  pub remainder_by_zero : printing (Binary op.Rem (number 1) (number 0)) ≡ traps_at_once DivideByZero
  -- print(-7 / 2);
  pub quotient_toward_zero : printing (Binary op.Div (minus (number 7)) (number 2)) ≡ prints (negsuc 2)
  -- print(-7 % 2);
  pub sign_of_dividend : printing (Binary op.Rem (minus (number 7)) (number 2)) ≡ prints (negsuc 0)
  -- print(7 / -2);
  pub quotient_by_negative : printing (Binary op.Div (number 7) (minus (number 2))) ≡ prints (negsuc 2)
  -- print(7 % -2);
  pub remainder_by_negative : printing (Binary op.Rem (number 7) (minus (number 2))) ≡ prints (pos 1)
  -- print(-7 / -2);
  pub quotient_of_negatives : printing (Binary op.Div (minus (number 7)) (minus (number 2))) ≡ prints (pos 3)
  -- print(-7 % -2);
  pub remainder_of_negatives : printing (Binary op.Rem (minus (number 7)) (minus (number 2))) ≡ prints (negsuc 0)
  -- print(9223372036854775807 + 1);
  pub sum_overflows : printing overflows ≡ traps_at_once Overflow
  -- print(-9223372036854775807 - 1);
  pub least_is_value : printing least ≡ prints (negsuc 9223372036854775807)
  -- print(-9223372036854775807 - 2);
  pub difference_overflows : printing (Binary op.Sub (minus greatest) (number 2)) ≡ traps_at_once Overflow
  -- print(-(-9223372036854775807 - 1));
  pub minus_overflows : printing (minus least) ≡ traps_at_once Overflow
  -- print(4611686018427387904 * 2);
  pub product_overflows : printing (Binary op.Mul (number 4611686018427387904) (number 2)) ≡ traps_at_once Overflow
  -- print(4611686018427387904 * -2);
  pub product_is_least : printing (Binary op.Mul (number 4611686018427387904) (minus (number 2))) ≡ prints (negsuc 9223372036854775807)

pub record TestCases : Type 0 where
  -- print(0 && 1 / 0);
  pub and_skips : printing (Binary op.And (number 0) divides) ≡ prints (pos 0)
  -- print(1 || 1 / 0);
  pub or_skips : printing (Binary op.Or (number 1) divides) ≡ prints (pos 1)
  -- print(1 && 1 / 0);
  pub and_goes_on : printing (Binary op.And (number 1) divides) ≡ traps_at_once DivideByZero
  -- print(0 || 1 / 0);
  pub or_goes_on : printing (Binary op.Or (number 0) divides) ≡ traps_at_once DivideByZero
  -- print(2 && -3);
  pub and_gives_one : printing (Binary op.And (number 2) (minus (number 3))) ≡ prints (pos 1)
  -- print(0 || 7);
  pub or_gives_one : printing (Binary op.Or (number 0) (number 7)) ≡ prints (pos 1)
  -- print(7 || 0);
  pub or_left_gives_one : printing (Binary op.Or (number 7) (number 0)) ≡ prints (pos 1)
  -- print(!-2);
  pub not_of_true : printing (Unary Not (minus (number 2))) ≡ prints (pos 0)
  -- print(!0);
  pub not_of_false : printing (Unary Not (number 0)) ≡ prints (pos 1)
  -- print(-1 < 0);
  pub below : printing (Binary op.Lt (minus (number 1)) (number 0)) ≡ prints (pos 1)
  -- print(3 < 3);
  pub below_itself : printing (Binary op.Lt (number 3) (number 3)) ≡ prints (pos 0)
  -- print(3 <= 3);
  pub at_most_itself : printing (Binary op.Le (number 3) (number 3)) ≡ prints (pos 1)
  -- print(-2 > -3);
  pub above : printing (Binary op.Gt (minus (number 2)) (minus (number 3))) ≡ prints (pos 1)
  -- print(-3 >= -2);
  pub at_least : printing (Binary op.Ge (minus (number 3)) (minus (number 2))) ≡ prints (pos 0)
  -- print(9223372036854775807 == -9223372036854775807 - 1);
  pub far_apart : printing (Binary op.Eq greatest least) ≡ prints (pos 0)
  -- print(-5 != -5);
  pub unequal_itself : printing (Binary op.Ne (minus (number 5)) (minus (number 5))) ≡ prints (pos 0)

pub record OrderCases : Type 0 where
  -- print((9223372036854775807 + 1) + 1 / 0);
  pub left_traps_first : printing (Binary op.Add overflows divides) ≡ traps_at_once Overflow
  -- print(1 / 0 + (9223372036854775807 + 1));
  pub left_divides_first : printing (Binary op.Add divides overflows) ≡ traps_at_once DivideByZero
  -- print(1 / 0 && 0);
  pub left_comes_first : printing (Binary op.And divides (number 0)) ≡ traps_at_once DivideByZero
  -- print(a[2]);
  pub index_too_great : printing (Get 0 (number 2)) ≡ traps_at_once IndexOutOfRange
  -- print(a[-1]);
  pub index_negative : printing (Get 0 (minus (number 1))) ≡ traps_at_once IndexOutOfRange
  -- print(a[1]);
  pub last_index : printing (Get 0 (number 1)) ≡ finishes (pos 0 ∷ []) 2
  -- a[-1] = 1;
  pub put_outside : doing (Put 0 (minus (number 1)) (number 1)) ≡ traps_at_once IndexOutOfRange
  -- a[2] = 1 / 0;
  pub value_before_test : doing (Put 0 (number 2) divides) ≡ traps_at_once DivideByZero
  -- a[9223372036854775807 + 1] = 1 / 0;
  pub index_before_value : doing (Put 0 overflows divides) ≡ traps_at_once Overflow
  -- fetch_add(a[9223372036854775807 + 1], 1 / 0);
  pub index_before_addend : doing (Add None 0 overflows divides) ≡ traps_at_once Overflow
