use Rattle.std.proofs.Common.{length, refl, sym, subst}
use Rattle.std.proofs.lemmas.Result.{err_from_is_err_and}
use Rattle.cilk_tree.specs.Lexeme.{Divides, tokens_of}
use Rattle.cilk_tree.specs.Spelling.{Spells, IsFault, IsProgram}
use Rattle.cilk_reader.proofs.Bounds.SpelledTrees.{spelled_is_writable, spelled_is_small}
use Rattle.cilk_reader.proofs.Spelled.{spelled_once}
use Rattle.cilk_reader.proofs.Refusing.{spelled_there, refused_there, answered}
use Rattle.cilk_reader.proofs.reading.read_program.Goals as goal
use Rattle.cilk_reader.proofs.reading.read_program.Goals.{After-drop-division-2}

pub returns-in_err-parse-clause-only : goal.returns-in_err-parse-clause-only
returns-in_err-parse-clause-only c program spelled =
    let from = err_from_is_err_and c.from_residual-in_err-parse.result c.from_residual-in_err-parse.ensures.1 in
    let there = spelled_there c.args.text.now c.in_ok-division.division.places.items c.in_ok-division.division.ending c.in_ok-division.ensures.only program spelled in
    let memory = (c.in_err-parse.ensures {u = tt}).only program there.0 (subst (λ places. IsProgram (tokens_of places) program) (sym c.as_slice.ensures.value) there.1) in
    rw (from.1, from.2, memory) refl

pub returns-in_err-parse-clause-exact : goal.returns-in_err-parse-clause-exact
returns-in_err-parse-clause-exact c kind offset refusal =
    let from = err_from_is_err_and c.from_residual-in_err-parse.result c.from_residual-in_err-parse.ensures.1 in
    let division = c.in_ok-division.division in
    let divides = subst (λ places. Divides 0 c.args.text.now places division.ending) (sym c.as_slice.ensures.value) c.in_ok-division.ensures.divides in
    rw (from.1, from.2) (answered c.args.text.now division.places.items division.ending c.in_ok-division.ensures.only c.in_err-parse.field-0.0 kind offset ((c.in_err-parse.ensures {u = tt}).refused c.args.text.now divides refl) refusal)

pub returns-clause-only : goal.returns-clause-only
returns-clause-only c program spelled =
    let there = spelled_there c.args.text.now c.in_ok-division.division.places.items c.in_ok-division.division.ending c.in_ok-division.ensures.only program spelled in
    (c.in_ok-parse.ensures).only program there.0 (subst (λ places. IsProgram (tokens_of places) program) (sym c.as_slice.ensures.value) there.1)

pub returns-clause-exact : goal.returns-clause-exact
returns-clause-exact c kind offset refusal =
    let division = c.in_ok-division.division in
    let fault = refused_there c.args.text.now division.places.items division.ending c.in_ok-division.ensures.only kind offset refusal in
    (c.in_ok-parse.ensures).faultless kind offset (subst (λ places. IsFault (length c.args.text.now) places division.ending kind offset) (sym c.as_slice.ensures.value) fault)

spelled : (c : After-drop-division-2) → Spells c.args.text.now c.in_ok-parse.field-0
spelled c =
    let division = c.in_ok-division.division in
    let read = c.in_ok-parse.ensures in (
      division.places.items,
      subst (Divides 0 c.args.text.now division.places.items) read.whole c.in_ok-division.ensures.divides,
      subst (λ places. IsProgram (tokens_of places) c.in_ok-parse.field-0) c.as_slice.ensures.value read.found,
    )

pub returns-clause-writable : goal.returns-clause-writable
returns-clause-writable c = spelled_is_writable c.args.text.now c.in_ok-parse.field-0 (spelled c)

pub returns-clause-small : goal.returns-clause-small
returns-clause-small c = spelled_is_small c.args.text.now c.in_ok-parse.field-0 (spelled c)

pub returns-in_err-division-clause-unique : goal.returns-in_err-division-clause-unique
returns-in_err-division-clause-unique c = spelled_once c.args.text.now

pub returns-in_err-parse-clause-unique : goal.returns-in_err-parse-clause-unique
returns-in_err-parse-clause-unique c = spelled_once c.args.text.now

pub returns-clause-unique : goal.returns-clause-unique
returns-clause-unique c = spelled_once c.args.text.now
