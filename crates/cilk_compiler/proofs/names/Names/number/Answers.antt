use Rattle.std.proofs.Common.{◌∙◌}
use Rattle.std.specs.Option.{unwrap_or}
use Rattle.cilk_compiler.proofs.Numbering.{number_is}
use Rattle.cilk_compiler.proofs.names.Names.number.Goals as goal

pub returns : goal.returns
returns c = λ names is.
    let found = c.copied.ensures ∙ c.get.ensures.value ∙ is.agrees c.args.name.now in
    c.unwrap_or.ensures ∙ (λ i. unwrap_or (found i) (is.count i)) ∙ number_is names c.args.name.now
