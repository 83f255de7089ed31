-- What the machine's answer says of the tokens, as the parser's contract has it.
use Rattle.std.proofs.Common.{◌≡◌, ℕ, Result, Ok, Err, IfOk, IfErr, MatchResult, List, length, refl, sym, ap, ◌∙◌, subst}
use Rattle.cilk_tree.specs.declared.ending.Ending.TheVariants.{Reached}
use Rattle.cilk_tree.specs.declared.kind.Kind.{Kind}
use Rattle.cilk_tree.specs.declared.token.Placed.{Placed}
use Rattle.cilk_tree.specs.declared.tree.Program.{Program}
use Rattle.cilk_tree.specs.Lexeme.{Divides, tokens_of}
use Rattle.cilk_tree.specs.Spelling.{IsFault, IsProgram}
use Rattle.cilk_tree.specs.Sugar.{source_tree}
use Rattle.cilk_parser.specs.declared.parser.End.{End}
use Rattle.cilk_parser.specs.declared.refusal.ParseRefusal.{ParseRefusal}
use Rattle.cilk_parser.specs.declared.refusal.ParseRefusal.TheVariants.{At, Memory}
use Rattle.cilk_parser.specs.Faults.{IsRefusedFor}
use Rattle.cilk_parser.specs.Spots.{Refuses}
use Rattle.cilk_parser.specs.Phrases.{HasProgram, answer_on}
use Rattle.cilk_parser.specs.Run.{Accepted, Refused}
use Rattle.cilk_parser.proofs.Answered.Answers.{accepted_is_program, program_is_accepted, program_has_no_fault, refused_is_first}

module _ (end : End) (places : List Placed) where
  -- the parser's answer is the machine's, unless memory ran out
  abbrev pub IsAnswer : Result Program ParseRefusal → Type 0
  IsAnswer result = MatchResult result (HasProgram end places) (Refuses (answer_on end places))

  pub reaches_end : (result : Result Program ParseRefusal) → IsAnswer result → IfOk result (λ _. end.ending ≡ Reached)
  reaches_end (Ok program) answer = (accepted_is_program end places answer.source answer.answer).0
  reaches_end (Err refusal) answer = tt

  program_there : (program : Program) → HasProgram end places program → IsProgram (tokens_of places) program
  program_there program answer = subst (IsProgram (tokens_of places)) (sym answer.same) (accepted_is_program end places answer.source answer.answer).1

  pub finds_program : (result : Result Program ParseRefusal) → IsAnswer result → IfOk result (λ program. IsProgram (tokens_of places) program)
  finds_program (Ok program) answer = program_there program answer
  finds_program (Err refusal) answer = tt

  pub finds_only : (result : Result Program ParseRefusal) → IsAnswer result → (program : Program) → end.ending ≡ Reached → IsProgram (tokens_of places) program → MatchResult result (λ read. read ≡ program) (λ refusal. refusal ≡ Memory)
  finds_only (Ok read) answer program reached is =
      let accepted = program_is_accepted end places program reached is in
      let same : answer.source ≡ accepted.0 = cc (answer.answer, accepted.1) in
      answer.same ∙ ap source_tree same ∙ sym accepted.2
  finds_only (Err (At kind offset)) answer program reached is =
      let accepted = program_is_accepted end places program reached is in
      absurd (let no : Refused kind offset ≡ Accepted accepted.0 = sym answer ∙ accepted.1 in cc)
  finds_only (Err Memory) answer program reached is = refl

  pub refuses_text : (result : Result Program ParseRefusal) → IsAnswer result → (text : List ℕ) → Divides 0 text places end.ending → end.size ≡ length text → IfErr result (IsRefusedFor text)
  refuses_text (Ok program) answer text divides size = tt
  refuses_text (Err (At kind offset)) answer text divides size = refused_is_first text end places kind offset divides size answer
  refuses_text (Err Memory) answer text divides size = tt

  pub has_no_fault : (result : Result Program ParseRefusal) → IsAnswer result → (kind : Kind) (offset : ℕ) → IsFault end.size places end.ending kind offset → IfOk result (λ _. ⊥)
  has_no_fault (Ok program) answer kind offset fault =
      program_has_no_fault end.size places program kind offset (program_there program answer) (subst (λ ending. IsFault end.size places ending kind offset) (reaches_end (Ok program) answer) fault)
  has_no_fault (Err refusal) answer kind offset fault = tt
