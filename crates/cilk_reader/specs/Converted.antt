-- The reader's answer for what the parser refuses.
use Rattle.cilk_tree.specs.Kind.{kind_number}
use Rattle.cilk_parser.specs.declared.refusal.ParseRefusal.{ParseRefusal}
use Rattle.cilk_parser.specs.declared.refusal.ParseRefusal.TheVariants as parse
use Rattle.cilk_reader.specs.declared.refusal.ReadRefusal.{ReadRefusal}
use Rattle.cilk_reader.specs.declared.refusal.ReadRefusal.TheVariants.{At, Memory}

-- a kind by its number
abbrev pub converted : ParseRefusal → ReadRefusal
converted (parse.At kind offset) = At (kind_number kind) offset
converted parse.Memory = Memory
