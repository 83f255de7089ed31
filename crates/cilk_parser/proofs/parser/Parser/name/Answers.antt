use Rattle.std.proofs.Common.{ap, sym, ◌∙◌}
use Rattle.cilk_tree.specs.declared.token.Token.TheVariants.{Name}
use Rattle.cilk_parser.proofs.Bricks.Firsts.{first_there}
use Rattle.cilk_parser.proofs.parser.Parser.name.Goals as goal

pub returns : goal.returns
returns c =
    let passed = c.in_ok-pass.ensures {u = tt} in
    record {
      passed = passed;
      named =
          first_there c.in-Some-Name.field-0.now c.args.self.now.left c.pass.new.self.left passed.placed c.in-Some-Name.ensures passed.first
          ∙ c.in-Some-Name.field-0-is ∙ ap Name (sym c.items.ensures ∙ sym c.in_ok-name.ensures);
    }
