-- What the machine does between the items and in the head of a function.
use Rattle.std.proofs.Common.{ℕ, Option, List, refl, append_assoc, pos}
use Rattle.std.specs.Option.{IfSome}
use Rattle.cilk_tree.specs.declared.token.Keyword.TheVariants as word
use Rattle.cilk_tree.specs.declared.token.Sign.TheVariants as sign
use Rattle.cilk_tree.specs.declared.token.Token.{Token}
use Rattle.cilk_tree.specs.declared.token.Token.TheVariants.{Number, Word, Mark}
use Rattle.cilk_tree.specs.Syntax.{Commas, Array, Source, IsWellFormed}
use Rattle.cilk_parser.specs.Contexts.{Heading}
use Rattle.cilk_parser.specs.Steps.{AfterCilk, ArraySize, AfterArray, ParametersStart, AfterParameter, NextParameter, step_cilk, step_size, step_array, step_parameters, step_parameter, step_next_parameter}
use Rattle.cilk_parser.proofs.Emitted.Advancing.{Advances, on_here, both}
use Rattle.cilk_parser.proofs.Emitted.SoFar.{so_far}

pub cilk_moves : (before : Source) (token : Token) → IsWellFormed before → IfSome (step_cilk before token) (Advances (so_far (AfterCilk before)) token)
cilk_moves before (Word word.Int) formed = on_here _ _ _ formed refl (simp append_assoc)
cilk_moves before (Word word.Void) formed = on_here _ _ _ formed refl (simp append_assoc)
cilk_moves before _ formed = tt

pub size_moves : (before : Source) (arrays : Option (Commas Array)) (name : List ℕ) (token : Token) → IsWellFormed before →
    IfSome (step_size before arrays name token) (Advances (so_far (ArraySize before arrays name)) token)
size_moves before arrays name (Number (pos words)) formed = on_here _ _ _ formed refl (simp append_assoc)
size_moves before arrays name _ formed = tt

pub array_moves : (before : Source) (arrays : Commas Array) (token : Token) → IsWellFormed before → IfSome (step_array before arrays token) (Advances (so_far (AfterArray before arrays)) token)
array_moves before arrays (Mark sign.Comma) formed = on_here _ _ _ formed refl (simp append_assoc)
array_moves before arrays (Mark sign.Semicolon) formed = on_here _ _ _ (both formed refl) refl (simp append_assoc)
array_moves before arrays _ formed = tt

pub parameters_move : (heading : Heading) (token : Token) → IsWellFormed heading.before → IfSome (step_parameters heading token) (Advances (so_far (ParametersStart heading)) token)
parameters_move heading (Mark sign.CloseParen) formed = on_here _ _ _ formed refl refl
parameters_move heading (Word word.Void) formed = on_here _ _ _ formed refl (simp append_assoc)
parameters_move heading (Word word.Int) formed = on_here _ _ _ formed refl (simp append_assoc)
parameters_move heading _ formed = tt

pub parameter_moves : (heading : Heading) (names : Commas (List ℕ)) (token : Token) → IsWellFormed heading.before →
    IfSome (step_parameter heading names token) (Advances (so_far (AfterParameter heading names)) token)
parameter_moves heading names (Mark sign.Comma) formed = on_here _ _ _ formed refl (simp append_assoc)
parameter_moves heading names (Mark sign.CloseParen) formed = on_here _ _ _ formed refl refl
parameter_moves heading names _ formed = tt

pub next_parameter_moves : (heading : Heading) (names : Commas (List ℕ)) (token : Token) → IsWellFormed heading.before →
    IfSome (step_next_parameter heading names token) (Advances (so_far (NextParameter heading names)) token)
next_parameter_moves heading names (Word word.Int) formed = on_here _ _ _ formed refl refl
next_parameter_moves heading names _ formed = tt
