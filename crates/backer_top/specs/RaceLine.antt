-- The line that tells a race.
use Rattle.std.specs.Prelude.{ℕ, ◌-◌, nat_lt, if◌then◌else◌, Option, Some, None, List, [], ◌∷◌, ◌++◌, codes}
use Rattle.std.specs.Fmt.{decimal}
use Rattle.cilk_tree.specs.declared.tree.Program.{Program}
use Rattle.cilk_tree.specs.declared.tree.Shared.{Shared}
use Rattle.race_check.specs.declared.Race.{Race}
use Rattle.span_tree.specs.declared.act.Act.{Act}
use Rattle.span_tree.specs.declared.act.Act.TheVariants.{Read, Write, Add, Print, Spawn, Sync}
use Rattle.span_tree.specs.declared.act.Place.{Place}
use Rattle.span_tree.specs.History.{History, act_at}

-- A shared word in the words of the source: its array and its index there. The arrays lie one behind another.
abbrev pub word_words : List Shared → ℕ → List ℕ
word_words [] word = []
word_words (array ∷ arrays) word =
    if nat_lt word array.words then array.name ++ codes "[" ++ decimal word ++ codes "]" else word_words arrays (word - array.words)

-- what an act does to its word
abbrev pub access_words : Option Act → List ℕ
access_words (Some (Read word value)) = codes "read"
access_words (Some (Write word value)) = codes "write"
access_words (Some (Add word old addend)) = codes "add"
access_words (Some (Print value)) = []
access_words (Some (Spawn child)) = []
access_words (Some Sync) = []
access_words None = []

abbrev pub place_of_access : History → Place → List ℕ
place_of_access history place =
    codes "row " ++ decimal place.row ++ codes " act " ++ decimal place.act ++ codes " " ++ access_words (act_at history place)

-- The word, and the two accesses, the first one first.
abbrev pub race_line : Program → History → Race → List ℕ
race_line program history race =
    codes "race on " ++ word_words program.shared race.word ++ codes ": " ++ place_of_access history race.first ++ codes ", " ++ place_of_access history race.second ++ codes "\n"

-- the line that tells that there is none
abbrev pub no_race_line : List ℕ
no_race_line = codes "no race\n"
