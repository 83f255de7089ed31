-- What the parser's refusals say of a text.
use Rattle.std.specs.Prelude.{ℕ, List}
use Rattle.cilk_tree.specs.Spelling.{IsRefusal}
use Rattle.cilk_parser.specs.declared.refusal.ParseRefusal.{ParseRefusal}
use Rattle.cilk_parser.specs.declared.refusal.ParseRefusal.TheVariants.{At, Memory}

-- The text is refused so; nothing is said where memory ran out.
abbrev pub IsRefusedFor : List ℕ → ParseRefusal → Type 0
IsRefusedFor text (At kind offset) = IsRefusal text kind offset
IsRefusedFor text Memory = Unit {0}
