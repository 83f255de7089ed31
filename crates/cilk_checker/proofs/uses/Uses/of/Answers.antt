use Rattle.std.proofs.Common.{◌++◌, false, ap, ◌∙◌}
use Rattle.std.specs.List.{filter_map}
use Rattle.cilk_tree.specs.declared.tree.Stmt.{out-Stmt}
use Rattle.cilk_tree.specs.Lawful.Flow.{head_of}
use Rattle.cilk_tree.specs.Lawful.Pending.{needed_local}
use Rattle.cilk_tree.specs.Lawful.Rules.{head_uses}
use Rattle.cilk_checker.specs.declared.uses.Uses.{Uses}
use Rattle.cilk_checker.proofs.Summing.{sum_unknown, sum_wrong, sum_touched}
use Rattle.cilk_checker.proofs.Flags.{or_false}
use Rattle.cilk_checker.proofs.uses.Uses.of.Goals as goal

pub returns : goal.returns
returns c =
    let program = c.args.names.globals.now.program.now in
    let scope = c.args.names.locals.now.scope in
    let used = head_uses (head_of (out-Stmt c.args.statement.now)) in
    let e = c.in_ok-read_head.ensures in
    let start : Uses = record { unknown = false; wrong = false; touched = c.new.result } in
    record {
      unknown = ap (λ uses. uses.unknown) e ∙ sum_unknown program scope start used ∙ or_false _;
      wrong = ap (λ uses. uses.wrong) e ∙ sum_wrong program scope start used ∙ or_false _;
      touched = ap (λ uses. uses.touched) e ∙ sum_touched program scope start used ∙ ap (λ touched. touched ++ filter_map (λ one. needed_local scope one.need one.name) used) c.new.ensures;
    }
