use Rattle.cilk_parser.proofs.Answered.Parsed.{finds_only, finds_program, has_no_fault, reaches_end, refuses_text}
use Rattle.cilk_parser.proofs.parsing.parse.Goals as goal

pub returns-clause-whole : goal.returns-clause-whole
returns-clause-whole c = reaches_end c.args.end c.args.places.now c.program_of.result c.program_of.ensures

pub returns-clause-found : goal.returns-clause-found
returns-clause-found c = finds_program c.args.end c.args.places.now c.program_of.result c.program_of.ensures

pub returns-clause-only : goal.returns-clause-only
returns-clause-only c = finds_only c.args.end c.args.places.now c.program_of.result c.program_of.ensures

pub returns-clause-refused : goal.returns-clause-refused
returns-clause-refused c = refuses_text c.args.end c.args.places.now c.program_of.result c.program_of.ensures

pub returns-clause-faultless : goal.returns-clause-faultless
returns-clause-faultless c = has_no_fault c.args.end c.args.places.now c.program_of.result c.program_of.ensures
