-- The numbers of the rules of lawful programs.
use Rattle.std.specs.Prelude.{ℕ}
use Rattle.cilk_tree.specs.declared.rule.Rule.{Rule}
use Rattle.cilk_tree.specs.declared.rule.Rule.TheVariants.{DuplicateName, UnknownName, WrongKind, WrongArity, NoValue, SpawnInPlain, CallOfCilk, SpawnOfPlain, UsedBeforeSync, NoMain, TooManyWords}

-- the number that is shown
abbrev pub rule_number : Rule → ℕ
rule_number DuplicateName = 201
rule_number UnknownName = 202
rule_number WrongKind = 203
rule_number WrongArity = 204
rule_number NoValue = 205
rule_number SpawnInPlain = 206
rule_number CallOfCilk = 207
rule_number SpawnOfPlain = 208
rule_number UsedBeforeSync = 209
rule_number NoMain = 210
rule_number TooManyWords = 211
