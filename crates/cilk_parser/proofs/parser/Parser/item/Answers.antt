use Rattle.cilk_parser.proofs.Bricks.Programs.{arrays_item, function_item}
use Rattle.cilk_parser.proofs.parser.Parser.item.Goals as goal

pub returns-then-is_array_start : goal.returns-then-is_array_start
returns-then-is_array_start c = arrays_item _ _ c.args.program.now _ c.arrays.result c.arrays.ensures

pub returns : goal.returns
returns c = function_item _ _ c.args.program.now _ _ (c.in_ok-function.ensures {u = tt}) ((c.in_ok-push.ensures {u = tt}).ok)
