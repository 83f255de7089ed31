-- What the machine does where one sign or a name alone may follow, and behind what stands behind a `=`.
use Rattle.std.proofs.Common.{◌≡◌, ℕ, Bool, IsTrue, Option, Some, None, List, [], ◌∷◌, ◌++◌, refl, ap, ◌∙◌, append_assoc}
use Rattle.std.specs.Option.{IfSome}
use Rattle.cilk_tree.specs.declared.token.Keyword.TheVariants as word
use Rattle.cilk_tree.specs.declared.token.Sign.TheVariants as sign
use Rattle.cilk_tree.specs.declared.token.Token.{Token}
use Rattle.cilk_tree.specs.declared.token.Token.TheVariants.{Name, Mark}
use Rattle.cilk_tree.specs.Levels.{mark, word_at, spell_commas, spell_argument, spell_array, spell_declarator, spell_parameter, spell_right, spell_source}
use Rattle.cilk_tree.specs.Syntax.{Commas, Declarator, Expression, Right, Assignment, Valued, Calling, Adding, Simply, Syncing, Printing, is_declarator, is_grouped, is_right, each_of}
use Rattle.cilk_parser.specs.Contexts.{with_last, AsStatement, AsForStart, AsForLast, DeclareIn, AsDeclaration, AsForDeclaration, declare_level, RightIn, Assigned, Declared, right_level, CallIn, call_level}
use Rattle.cilk_parser.specs.Steps.{Awaited, ArrayOpen, ArrayClose, ParametersOpen, VoidClose, BodyOpen, CallOpen, CalledEnd, AddOpen, AddIndexOpen, AddComma, AddedEnd, SimpleEnd, StoreAssign, SyncEnd, IfOpen, WhileOpen, ForOpen, PrintOpen, PrintEnd, NameAwaited, FunctionName, ArrayName, ParameterName, DeclaratorName, SpawnedName, AddedName, awaited_state, awaited_token, named_state, named_token, call_of, step_awaited, step_name, step_declarators, step_right, step_argument}
use Rattle.cilk_parser.proofs.Emitted.Advancing.{Stands, Advances, stands_as, on, on_here, advances_as, only_moves, both, spell_with_last, each_with_last}
use Rattle.cilk_parser.proofs.Emitted.Completed.{after_call_stands, after_statement_stands}
use Rattle.cilk_parser.proofs.Emitted.SoFar.{head_so_far, declare_so_far, declarators_so_far, right_so_far, arguments_so_far, awaited_so_far, named_so_far}
use Rattle.cilk_parser.proofs.Emitted.Valid.{IsDeclareOpen, AreDeclarators, IsRightOpen, IsCallOpen, IsAwaitedValid, IsNameAwaitedValid}

-- ---- a sign alone

awaited_stands : (awaited : Awaited) → IsAwaitedValid awaited → Stands (awaited_state awaited) (awaited_so_far awaited ++ awaited_token awaited ∷ [])
awaited_stands (ArrayOpen before arrays name) h = record { valid = h; same = simp append_assoc; settled = refl }
awaited_stands (ArrayClose before arrays name words) h = record {
  valid = h;
  same = ap (λ s. spell_source before ++ word_at 0 word.Int ∷ s) (spell_with_last 0 spell_array arrays (record { name = name; words = words })) ∙ simp append_assoc;
  settled = refl;
}
awaited_stands (ParametersOpen heading) h = record { valid = h; same = refl; settled = refl }
awaited_stands (VoidClose heading) h = record { valid = h; same = refl; settled = refl }
awaited_stands (BodyOpen heading formals) h = record { valid = (h, refl); same = simp append_assoc; settled = refl }
awaited_stands (CallOpen outer spawned name) h = record { valid = h; same = simp append_assoc; settled = refl }
awaited_stands (CalledEnd outer call) h = stands_as _ _ _ (after_statement_stands outer (Calling call) h.0 h.1 refl) (simp append_assoc)
awaited_stands (AddOpen outer) h = record { valid = h; same = simp append_assoc; settled = refl }
awaited_stands (AddIndexOpen outer name) h = record { valid = h; same = simp append_assoc; settled = refl }
awaited_stands (AddComma outer name index) h = record { valid = h; same = simp append_assoc; settled = refl }
awaited_stands (AddedEnd outer addition) h = stands_as _ _ _ (after_statement_stands outer (Adding addition) h.0 h.1 refl) (simp append_assoc)
awaited_stands (SimpleEnd (AsStatement outer) simple) h = stands_as _ _ _ (after_statement_stands outer (Simply simple) h.0 h.1 refl) (simp append_assoc)
awaited_stands (SimpleEnd (AsForStart outer) simple) h = record { valid = h; same = simp append_assoc; settled = refl }
awaited_stands (SimpleEnd (AsForLast outer start condition) simple) h = record { valid = (h.0.0, h.0.1, h.0.2, h.1); same = refl; settled = refl }
awaited_stands (StoreAssign outer name index) h = record { valid = h; same = simp append_assoc; settled = refl }
awaited_stands (SyncEnd outer) h = stands_as _ _ _ (after_statement_stands outer Syncing h refl refl) (simp append_assoc)
awaited_stands (IfOpen outer) h = record { valid = h; same = simp append_assoc; settled = refl }
awaited_stands (WhileOpen outer) h = record { valid = h; same = simp append_assoc; settled = refl }
awaited_stands (ForOpen outer) h = record { valid = h; same = simp append_assoc; settled = refl }
awaited_stands (PrintOpen outer) h = record { valid = h; same = simp append_assoc; settled = refl }
awaited_stands (PrintEnd outer value) h = stands_as _ _ _ (after_statement_stands outer (Printing value) h.0 h.1 refl) (simp append_assoc)

pub awaited_moves : (awaited : Awaited) (token : Token) → IsAwaitedValid awaited → IfSome (step_awaited awaited token) (Advances (awaited_so_far awaited) token)
awaited_moves awaited token h = only_moves (awaited_so_far awaited) (awaited_token awaited) (awaited_state awaited) token (awaited_stands awaited h)

-- ---- a name alone

named_stands : (awaited : NameAwaited) (name : List ℕ) → IsNameAwaitedValid awaited → Stands (named_state awaited name) (named_so_far awaited ++ named_token awaited name ∷ [])
named_stands (FunctionName before is_cilk gives) name h = record { valid = h; same = refl; settled = refl }
named_stands (ArrayName before arrays) name h = record { valid = h; same = refl; settled = refl }
named_stands (ParameterName heading before) name h = record {
  valid = h;
  same = ap (λ s. head_so_far heading ++ mark 0 sign.OpenParen ∷ s) (spell_with_last 0 spell_parameter before name) ∙ simp append_assoc;
  settled = refl;
}
named_stands (DeclaratorName outer before) name h = record { valid = h; same = refl; settled = refl }
named_stands (SpawnedName outer) name h = record { valid = h; same = simp append_assoc; settled = refl }
named_stands (AddedName outer) name h = record { valid = h; same = simp append_assoc; settled = refl }

named_is : (awaited : NameAwaited) (name : List ℕ) → (named_token awaited name).token ≡ Name name
named_is (FunctionName before is_cilk gives) name = refl
named_is (ArrayName before arrays) name = refl
named_is (ParameterName heading before) name = refl
named_is (DeclaratorName outer before) name = refl
named_is (SpawnedName outer) name = refl
named_is (AddedName outer) name = refl

pub name_moves : (awaited : NameAwaited) (token : Token) → IsNameAwaitedValid awaited → IfSome (step_name awaited token) (Advances (named_so_far awaited) token)
name_moves awaited (Name name) h = record { spelled = named_token awaited name; emitted = refl; same = named_is awaited name; stands = named_stands awaited name h }
name_moves awaited _ h = tt

-- ---- behind declarators, what stands behind a `=`, and arguments

pub declarators_move : (outer : DeclareIn) (declarators : Commas Declarator) (token : Token) → IsDeclareOpen outer → IsTrue (each_of is_declarator declarators) →
    IfSome (step_declarators outer declarators token) (Advances (declare_so_far outer ++ spell_commas (declare_level outer) (spell_declarator (declare_level outer)) declarators) token)
declarators_move (AsDeclaration outer before) declarators (Mark sign.Comma) opened formed = on_here _ _ _ (opened, formed) refl (simp append_assoc)
declarators_move (AsForDeclaration outer) declarators (Mark sign.Comma) opened formed = on_here _ _ _ (opened, formed) refl (simp append_assoc)
declarators_move (AsDeclaration outer before) declarators (Mark sign.Semicolon) opened formed = on_here _ _ _ (opened.0, both opened.1 formed) refl (simp append_assoc)
declarators_move (AsForDeclaration outer) declarators (Mark sign.Semicolon) opened formed = on_here _ _ _ (opened, formed) refl (simp append_assoc)
declarators_move (AsDeclaration outer before) declarators _ opened formed = tt
declarators_move (AsForDeclaration outer) declarators _ opened formed = tt

pub declarator_ends : (outer : DeclareIn) (before : Option (Commas Declarator)) (declarator : Declarator) (token : Token) → IsDeclareOpen outer → AreDeclarators before → IsTrue (is_declarator declarator) →
    IfSome (step_declarators outer (with_last before declarator) token) (Advances (declarators_so_far outer before ++ spell_declarator (declare_level outer) declarator) token)
declarator_ends outer before declarator token opened known formed =
    advances_as _ _ token (step_declarators outer (with_last before declarator) token)
    (ap (λ s. declare_so_far outer ++ s) (spell_with_last (declare_level outer) (spell_declarator (declare_level outer)) before declarator) ∙ simp append_assoc)
    (declarators_move outer (with_last before declarator) token opened (each_with_last is_declarator before declarator known formed))

pub right_moves : (outer : RightIn) (right : Right) (token : Token) → IsRightOpen outer → IsTrue (is_right right) →
    IfSome (step_right outer right token) (Advances (right_so_far outer ++ spell_right (right_level outer) right) token)
right_moves (Assigned outer name) right token opened formed =
    advances_as _ _ token (step_awaited (SimpleEnd outer (Assignment name right)) token) (simp append_assoc) (awaited_moves (SimpleEnd outer (Assignment name right)) token (opened, formed))
right_moves (Declared outer before name) right token opened formed =
    advances_as _ _ token (step_declarators outer (with_last before (Valued name right)) token) (simp append_assoc) (declarator_ends outer before (Valued name right) token opened.0 opened.1 formed)

pub argument_moves : (outer : CallIn) (spawned : Bool) (name : List ℕ) (arguments : Commas Expression) (token : Token) → IsCallOpen outer → IsTrue (each_of is_grouped arguments) →
    IfSome (step_argument outer spawned name arguments token) (Advances (arguments_so_far outer spawned name None ++ spell_commas (call_level outer) (spell_argument (call_level outer)) arguments) token)
argument_moves outer spawned name arguments (Mark sign.Comma) opened formed = on_here _ _ _ (opened, formed) refl (simp append_assoc)
argument_moves outer spawned name arguments (Mark sign.CloseParen) opened formed = on _ _ _ _ (after_call_stands outer (call_of spawned name (Some arguments)) opened formed) (simp append_assoc)
argument_moves outer spawned name arguments _ opened formed = tt
