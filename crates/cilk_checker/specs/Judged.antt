-- What is judged of a program, place after place, and the refusal that comes of it.
use Rattle.std.specs.Prelude.{◌≡◌, ◌⊎◌, ℕ, ◌+◌, List, [], ◌∷◌, ◌++◌, Option, Some, None, map, slice_get}
use Rattle.std.specs.Option.{option_map, option_or}
use Rattle.cilk_tree.specs.declared.place.CheckPlace.{CheckPlace}
use Rattle.cilk_tree.specs.declared.place.CheckPlace.TheVariants as place
use Rattle.cilk_tree.specs.declared.rule.Rule.TheVariants.{UsedBeforeSync}
use Rattle.cilk_tree.specs.declared.tree.Function.{Function}
use Rattle.cilk_tree.specs.declared.tree.Program.{Program}
use Rattle.cilk_tree.specs.declared.tree.Shared.{Shared}
use Rattle.cilk_tree.specs.Rule.{rule_number}
use Rattle.cilk_tree.specs.Lawful.Flow.{Flow, Site, sites, flow_of}
use Rattle.cilk_tree.specs.Lawful.Pending.{none}
use Rattle.cilk_checker.specs.Computed.{uses_pending}
use Rattle.cilk_tree.specs.Lawful.Rules.{array_kinds, function_kinds, statement_kinds, kinds_at}
use Rattle.cilk_checker.specs.declared.around.Around.{Around}
use Rattle.cilk_checker.specs.declared.refusal.CheckRefusal.{CheckRefusal}
use Rattle.cilk_checker.specs.declared.refusal.CheckRefusal.TheVariants.{At, Memory}
use Rattle.cilk_checker.specs.Courses.{Course, flow_course}

-- a place, and the kinds that are broken there, ascending
pub record Judged : Type 0 where
  pub place : CheckPlace
  pub kinds : List ℕ

-- the refusal at a place
abbrev pub refusal_at : CheckPlace → List ℕ → Option CheckRefusal
refusal_at place kinds = option_map (λ kind. At kind place) (slice_get kinds 0)

-- the refusal at the first of these places where a rule is broken
abbrev pub first_refusal : List Judged → Option CheckRefusal
first_refusal [] = None
first_refusal (judged ∷ rest) = option_or (refusal_at judged.place judged.kinds) (first_refusal rest)

-- this refusal is told, where that one is due
abbrev pub Tells : Option CheckRefusal → CheckRefusal → Type 0
Tells due refusal = (refusal ≡ Memory) ⊎ (due ≡ Some refusal)

-- the places of these things, from this number on
abbrev pub judged_row : {A : Type 0} → (ℕ → CheckPlace) → (ℕ → A → List ℕ) → ℕ → List A → List Judged
judged_row place_of kinds number [] = []
judged_row place_of kinds number (thing ∷ rest) = record { place = place_of number; kinds = kinds number thing } ∷ judged_row place_of kinds (number + 1) rest

-- the program's arrays from this number on
abbrev pub judged_arrays : Program → ℕ → List Shared → List Judged
judged_arrays program = judged_row place.Shared (array_kinds program)

-- what is judged of a statement of the function of this number
abbrev pub judged_statement : Program → ℕ → Function → Site → Judged
judged_statement program number function site = record { place = place.Statement number site.point.statement; kinds = statement_kinds program function site }

-- a function and its statements
abbrev pub judged_function : Program → ℕ → Function → List Judged
judged_function program number function =
    record { place = place.Function number; kinds = function_kinds program number function } ∷ map (judged_statement program number function) (sites (flow_of function))

-- the program's functions from this number on
abbrev pub judged_functions : Program → ℕ → List Function → List Judged
judged_functions program number [] = []
judged_functions program number (function ∷ rest) = judged_function program number function ++ judged_functions program (number + 1) rest

-- the whole program
abbrev pub judged_program : Program → List Judged
judged_program program =
    judged_arrays program 0 program.shared ++ judged_functions program 0 program.functions
    ++ record { place = place.Whole; kinds = kinds_at program place.Whole } ∷ []

-- the first of the functions from this number on where a pending local is used, and the first statement there that does
abbrev pub first_use : ℕ → List Function → Option CheckPlace
first_use number [] = None
first_use number (function ∷ rest) = option_or (option_map (place.Statement number) (slice_get (uses_pending (flow_of function) none) 0)) (first_use (number + 1) rest)

-- the refusal of a program: where no other rule is broken, that of a local that is used before a sync
abbrev pub due : Program → Option CheckRefusal
due program = option_or (first_refusal (judged_program program)) (option_map (At (rule_number UsedBeforeSync)) (first_use 0 program.functions))

-- what is judged of a statement
abbrev pub judged_site : Around → Site → Judged
judged_site around = judged_statement around.globals.now.program.now around.number around.function.now

-- the statements of a flow
abbrev pub judged_sites : Around → Flow → List Judged
judged_sites around flow = map (judged_site around) (sites flow)

-- no rule is broken at the statements of this flow, and this is its course
pub record Passes (around : Around) (flow : Flow) (course : Course) : Type 0 where
  pub lawful : first_refusal (judged_sites around flow) ≡ None
  pub followed : course ≡ flow_course flow
