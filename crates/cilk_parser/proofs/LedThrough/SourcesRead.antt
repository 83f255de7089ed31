-- The machine reads each source.
use Rattle.std.proofs.Common.{◌≡◌, ℕ, pos, Bool, true, false, IsTrue, Some, List, [], ◌∷◌, refl, ap, sym, ◌∙◌}
use Rattle.std.proofs.lemmas.Bool.{and_parts}
use Rattle.cilk_tree.specs.declared.token.Keyword.TheVariants as word
use Rattle.cilk_tree.specs.declared.token.Sign.TheVariants as sign
use Rattle.cilk_tree.specs.declared.token.Token.{Token}
use Rattle.cilk_tree.specs.declared.token.Token.TheVariants.{Name, Number, Word, Mark}
use Rattle.cilk_tree.specs.Levels.{spell_commas, spell_array, spell_function, spell_head, spell_item, spell_parameter, spell_parameters, spell_source, source_tokens}
use Rattle.cilk_tree.specs.Syntax as syntax
use Rattle.cilk_tree.specs.Syntax.{Commas, One, More, Empty, Then, Array, Function, NoParameters, VoidParameters, Named, Item, Defined, Source, Inners, NoInners, each_in, is_item, are_inners, IsWellFormed}
use Rattle.cilk_parser.specs.Contexts.{Heading, FunctionBody}
use Rattle.cilk_parser.specs.Run.{reads, walk}
use Rattle.cilk_parser.specs.Steps.{Items, AfterInt, AfterArray, ParametersStart, AfterParameter, AtInner, Awaits, BodyOpen, function_counts, step}
use Rattle.cilk_parser.proofs.LedThrough.Ahead.{ahead, ahead_append, four_ahead, ahead_of_none}
use Rattle.cilk_parser.proofs.LedThrough.StatementsRead.{inners_read}
use Rattle.cilk_parser.proofs.Walks.{reads_step, reads_after_walk}

arrays_read : (arrays : Commas Array) (before : Source) (rest : List Token) → reads (AfterInt before) (ahead (spell_commas 0 spell_array arrays) rest) ≡ reads (AfterArray before arrays) rest
unfolding step walk
arrays_read (One only) before rest = reads_after_walk (AfterInt before) (Name only.name ∷ Mark sign.OpenBracket ∷ Number (pos only.words) ∷ Mark sign.CloseBracket ∷ []) rest _ refl
arrays_read (More others last) before rest =
    ap (reads (AfterInt before)) (ahead_append (spell_commas 0 spell_array others) _ rest) ∙ arrays_read others before _ ∙
    reads_after_walk (AfterArray before others) (Mark sign.Comma ∷ Name last.name ∷ Mark sign.OpenBracket ∷ Number (pos last.words) ∷ Mark sign.CloseBracket ∷ []) rest _ refl

-- ---- functions

heading_read : (is_cilk gives : Bool) (before : Source) (name : List ℕ) (rest : List Token) →
    reads (Items before) (ahead (spell_head function_counts is_cilk gives) (Name name ∷ Mark sign.OpenParen ∷ rest)) ≡ reads (ParametersStart (record { before = before; «cilk» = is_cilk; gives = gives; name = name })) rest
unfolding step walk
heading_read true true before name rest = reads_after_walk (Items before) (Word word.Cilk ∷ Word word.Int ∷ Name name ∷ Mark sign.OpenParen ∷ []) rest _ refl
heading_read true false before name rest = reads_after_walk (Items before) (Word word.Cilk ∷ Word word.Void ∷ Name name ∷ Mark sign.OpenParen ∷ []) rest _ refl
heading_read false true before name rest = reads_after_walk (Items before) (Word word.Int ∷ Name name ∷ Mark sign.OpenParen ∷ []) rest _ refl
heading_read false false before name rest = reads_after_walk (Items before) (Word word.Void ∷ Name name ∷ Mark sign.OpenParen ∷ []) rest _ refl

names_read : (names : Commas (List ℕ)) (heading : Heading) (rest : List Token) →
    reads (ParametersStart heading) (ahead (spell_commas 0 spell_parameter names) rest) ≡ reads (AfterParameter heading names) rest
unfolding step walk
names_read (One only) heading rest = reads_after_walk (ParametersStart heading) (Word word.Int ∷ Name only ∷ []) rest _ refl
names_read (More others last) heading rest =
    ap (reads (ParametersStart heading)) (ahead_append (spell_commas 0 spell_parameter others) _ rest) ∙ names_read others heading _ ∙
    reads_after_walk (AfterParameter heading others) (Mark sign.Comma ∷ Word word.Int ∷ Name last ∷ []) rest _ refl

parameters_read : (formals : syntax.Parameters) (heading : Heading) (rest : List Token) →
    reads (ParametersStart heading) (ahead (spell_parameters formals) (Mark sign.CloseParen ∷ rest)) ≡ reads (Awaits (BodyOpen heading formals)) rest
unfolding step walk
parameters_read NoParameters heading rest = reads_step (ParametersStart heading) (Mark sign.CloseParen) rest
parameters_read VoidParameters heading rest = reads_after_walk (ParametersStart heading) (Word word.Void ∷ Mark sign.CloseParen ∷ []) rest _ refl
parameters_read (Named names) heading rest = names_read names heading (Mark sign.CloseParen ∷ rest) ∙ reads_step (AfterParameter heading names) (Mark sign.CloseParen) rest

function_read : (function : Function) (before : Source) (rest : List Token) → IsTrue (are_inners function.body) →
    reads (Items before) (ahead (spell_function function) rest) ≡ reads (Items (Then before (Defined function))) rest
unfolding step
function_read function before rest formed =
    let heading : Heading = record { before = before; «cilk» = function.«cilk»; gives = function.gives; name = function.name } in
    ap (reads (Items before)) (four_ahead (spell_head function_counts function.«cilk» function.gives) _ _ _ rest) ∙ heading_read function.«cilk» function.gives before function.name _ ∙
    parameters_read function.parameters heading _ ∙ reads_step (Awaits (BodyOpen heading function.parameters)) (Mark sign.OpenBrace) _ ∙
    inners_read function.body 1 (FunctionBody heading function.parameters) (Mark sign.CloseBrace ∷ rest) formed refl ∙
    reads_step (AtInner (FunctionBody heading function.parameters) function.body) (Mark sign.CloseBrace) rest

-- ---- items

item_read : (item : Item) (before : Source) (rest : List Token) → IsTrue (is_item item) → reads (Items before) (ahead (spell_item item) rest) ≡ reads (Items (Then before item)) rest
unfolding step
item_read (syntax.Arrays arrays) before rest formed =
    reads_step (Items before) (Word word.Int) _ ∙ ap (reads (AfterInt before)) (ahead_append (spell_commas 0 spell_array arrays) _ rest) ∙ arrays_read arrays before _ ∙
    reads_step (AfterArray before arrays) (Mark sign.Semicolon) rest
item_read (Defined function) before rest formed = function_read function before rest formed

source_read : (source : Source) (rest : List Token) → IsWellFormed source → reads (Items Empty) (ahead (spell_source source) rest) ≡ reads (Items source) rest
source_read Empty rest formed = refl
source_read (Then before last) rest formed =
    let parts = and_parts (each_in is_item before) (is_item last) formed in
    ap (reads (Items Empty)) (ahead_append (spell_source before) (spell_item last) rest) ∙ source_read before (ahead (spell_item last) rest) parts.0 ∙ item_read last before rest parts.1

pub reads_complete : (source : Source) → IsWellFormed source → reads (Items Empty) (source_tokens source) ≡ Some source
unfolding reads
reads_complete source formed = ap (reads (Items Empty)) (sym (ahead_of_none (spell_source source))) ∙ source_read source [] formed
