use Rattle.std.proofs.Common.{rules, ◌≡◌, ℕ, ℤ, pos, negsuc, ap, sym, ◌∙◌, to_z-of_z, SFits, w64}
use Rattle.std.proofs.Math.IntN.{nat_abs}
use Rattle.std.specs.Int.{FitsUnsignedBits}
use Rattle.cilk_tree.specs.declared.token.Token.TheVariants.{Number}
use Rattle.cilk_parser.proofs.Bricks.Firsts.{first_there}
use Rattle.cilk_parser.proofs.parser.Parser.array_size.Goals as goal

same_number : (value : ℤ) (words : ℕ) → FitsUnsignedBits 64 value × (words ≡ nat_abs value) → value ≡ pos words
same_number (pos n) words known = ap pos (sym known.1)
same_number (negsuc n) words known = absurd known.0

pub returns : goal.returns
returns c =
    let passed = c.in_ok-pass.ensures {u = tt} in
    let fits : SFits w64 c.in-Some-Number.value = search rules in
    let known = rw (to_z-of_z fits) at c.in-Ok.ensures in
    record {
      passed = passed;
      is =
          first_there c.in-Some-Number.field-0.now c.args.self.now.left c.pass.new.self.left passed.placed c.in-Some-Number.ensures passed.first ∙ c.in-Some-Number.field-0-is ∙
          ap Number (same_number c.in-Some-Number.value c.in-Ok.words known);
    }
