use Rattle.std.proofs.Common.{◌≡◌, ◌+◌, [], ◌∷◌, sym, ap, ◌∙◌, arith, rules}
use Rattle.std.specs.Prelude.{is_some}
use Rattle.std.proofs.lemmas.List.{length-append}
use Rattle.std.proofs.lemmas.Map.Text.{btree_map_updates_str}
use Rattle.cilk_checker.specs.Names.{value_at}
use Rattle.cilk_compiler.proofs.Numbering.{stays, comes, copied_some}
use Rattle.cilk_compiler.proofs.names.Names.add.Goals as goal

pub returns-then-is_some : goal.returns-then-is_some
returns-then-is_some c = λ names is.
    let more : c.in_ok-self.field-0 ≡ c.args.self.now.count + 1 = search rules in
    let count = is.count in
    record {
      count = omega (arith, more, count, length-append names (c.args.name.now ∷ []));
      agrees = stays (value_at c.args.self.now.numbers) names c.args.name.now is.agrees
          (sym (ap is_some c.get.ensures.value) ∙ copied_some c.get.result ∙ sym c.is_some.ensures ∙ c.if-is_some.true);
    }

pub returns : goal.returns
returns c = λ names is.
    let more : c.in_ok-self.field-0 ≡ c.args.self.now.count + 1 = search rules in
    let count = is.count in
    record {
      count = omega (arith, more, count, length-append names (c.args.name.now ∷ []));
      agrees = comes (value_at c.args.self.now.numbers) (value_at c.insert.new.self) names c.args.name.now c.args.self.now.count is.agrees
          (sym (ap is_some c.get.ensures.value) ∙ copied_some c.get.result ∙ sym c.is_some.ensures ∙ c.if-is_some.false)
          is.count
          (btree_map_updates_str c.args.name.now c.args.self.now.numbers c.insert.new.self _ c.in_ok-insert.ensures.updates);
    }
