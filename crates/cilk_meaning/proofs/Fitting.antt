-- Which answers fit in the cases.
use Rattle.std.proofs.Common.{zero, suc, [], None, refl, arith}
use Rattle.std.specs.Prelude.{pos}
use Rattle.cilk_meaning.specs.Alone.{HasValues}
use Rattle.cilk_meaning.specs.Cases.Instances.{FittingCases, given_back}
use Rattle.cilk_meaning.specs.Wants.{Children}

given_values : HasValues given_back
given_values zero d lt = refl
given_values (suc zero) d lt = refl
given_values (suc (suc k)) d lt = absurd (omega (arith, lt))

no_children : HasValues (Children [])
no_children k d lt = absurd (omega (arith, lt))

pub fitting_cases : FittingCases
fitting_cases = record {
  two_children = (
    record { suits = refl; values = tt; children = tt },
    (
      record { suits = refl; values = tt; children = tt },
      (
        record { suits = refl; values = given_values; children = refl },
        (record { suits = refl; values = no_children; children = refl }, refl),
      ),
    ),
  );
  other_order = λ fits. (let order = fits.1.1.0.children in absurd cc);
  one_child = λ fits. (let count = fits.1.1.0.children in absurd cc);
  children_again = λ fits. (let count = fits.1.1.1.0.children in absurd cc);
  other_kind = λ fits. (let kind = fits.0.suits in absurd cc);
  behind_end = λ fits. (let rest = fits.1.1.1.1 in absurd cc);
  no_value = λ fits. (let value = fits.1.1.0.values 0 (None, pos 0) (omega arith) in absurd cc);
}
