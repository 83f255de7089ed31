-- A text has one division, so it spells a program or is refused, and is refused in one way at most.
use Rattle.std.proofs.Common.{◌≡◌, ◌⊎◌, inl, inr, ℕ, List, length, refl, sym, ap, ◌∙◌, subst, arith}
use Rattle.cilk_parser.specs.declared.refusal.ParseRefusal.{ParseRefusal}
use Rattle.cilk_parser.specs.declared.refusal.ParseRefusal.TheVariants as parse
use Rattle.cilk_parser.specs.Faults.{IsRefusedFor}
use Rattle.cilk_tree.specs.declared.ending.Ending.{Ending}
use Rattle.cilk_tree.specs.declared.ending.Ending.TheVariants.{Reached}
use Rattle.cilk_tree.specs.declared.kind.Kind.{Kind}
use Rattle.cilk_tree.specs.declared.kind.Kind.TheVariants.{BadByte, BadNumber, Unexpected, TooDeep, TooMany}
use Rattle.cilk_tree.specs.declared.token.Placed.{Placed}
use Rattle.cilk_tree.specs.declared.tree.Program.{Program}
use Rattle.cilk_tree.specs.Kind.{kind_number}
use Rattle.cilk_tree.specs.Lexeme.{Divides, tokens_of}
use Rattle.cilk_tree.specs.Spelling.{Spells, IsProgram, IsFault, IsNoLater, IsRefusal}
use Rattle.cilk_reader.specs.Converted.{converted}
use Rattle.cilk_reader.specs.declared.refusal.ReadRefusal.TheVariants as read

same_kind : (one other : Kind) → kind_number one ≡ kind_number other → one ≡ other
same_kind BadByte BadByte same = refl
same_kind BadByte BadNumber same = absurd (omega (arith, same))
same_kind BadByte Unexpected same = absurd (omega (arith, same))
same_kind BadByte TooDeep same = absurd (omega (arith, same))
same_kind BadByte TooMany same = absurd (omega (arith, same))
same_kind BadNumber BadByte same = absurd (omega (arith, same))
same_kind BadNumber BadNumber same = refl
same_kind BadNumber Unexpected same = absurd (omega (arith, same))
same_kind BadNumber TooDeep same = absurd (omega (arith, same))
same_kind BadNumber TooMany same = absurd (omega (arith, same))
same_kind Unexpected BadByte same = absurd (omega (arith, same))
same_kind Unexpected BadNumber same = absurd (omega (arith, same))
same_kind Unexpected Unexpected same = refl
same_kind Unexpected TooDeep same = absurd (omega (arith, same))
same_kind Unexpected TooMany same = absurd (omega (arith, same))
same_kind TooDeep BadByte same = absurd (omega (arith, same))
same_kind TooDeep BadNumber same = absurd (omega (arith, same))
same_kind TooDeep Unexpected same = absurd (omega (arith, same))
same_kind TooDeep TooDeep same = refl
same_kind TooDeep TooMany same = absurd (omega (arith, same))
same_kind TooMany BadByte same = absurd (omega (arith, same))
same_kind TooMany BadNumber same = absurd (omega (arith, same))
same_kind TooMany Unexpected same = absurd (omega (arith, same))
same_kind TooMany TooDeep same = absurd (omega (arith, same))
same_kind TooMany TooMany same = refl

both_no_later : (offset other_offset : ℕ) (kind other : Kind) → IsNoLater offset kind other_offset other → IsNoLater other_offset other offset kind → (kind ≡ other) × (offset ≡ other_offset)
both_no_later offset other_offset kind other (inl before) (inl after) = absurd (omega (arith, before, after))
both_no_later offset other_offset kind other (inl before) (inr same) = absurd (omega (arith, before, same.0))
both_no_later offset other_offset kind other (inr same) (inl after) = absurd (omega (arith, same.0, after))
both_no_later offset other_offset kind other (inr same) (inr too) = (same_kind kind other (omega (arith, same.1, too.1)), same.0)

-- the text's one division
module _ (text : List ℕ) (places : List Placed) (ending : Ending) (only : (others : List Placed) (end : Ending) → Divides 0 text others end → (places ≡ others) × (ending ≡ end)) where
  -- where it spells a program, its tokens are those of that program
  pub spelled_there : (program : Program) → Spells text program → (ending ≡ Reached) × IsProgram (tokens_of places) program
  spelled_there program spelled =
      let same = only spelled.0 Reached spelled.1 in
      (same.1, subst (λ others. IsProgram (tokens_of others) program) (sym same.0) spelled.2)

  -- where it is refused, they are wrong there
  fault_there : (kind : Kind) (offset : ℕ) (others : List Placed) (end : Ending) → (places ≡ others) × (ending ≡ end) → IsFault (length text) others end kind offset → IsFault (length text) places ending kind offset
  fault_there kind offset others end same fault =
      subst (λ e. IsFault (length text) places e kind offset) (sym same.1) (subst (λ p. IsFault (length text) p end kind offset) (sym same.0) fault)

  pub refused_there : (kind : Kind) (offset : ℕ) → IsRefusal text kind offset → IsFault (length text) places ending kind offset
  refused_there kind offset refusal = fault_there kind offset refusal.places refusal.ending (only refusal.places refusal.ending refusal.divides) refusal.fault

  first_there : (kind : Kind) (offset : ℕ) (refusal : IsRefusal text kind offset) (other : Kind) (other_offset : ℕ) → IsFault (length text) places ending other other_offset → IsNoLater offset kind other_offset other
  first_there kind offset refusal other other_offset fault =
      let same = only refusal.places refusal.ending refusal.divides in
      refusal.first other other_offset (subst (λ e. IsFault (length text) refusal.places e other other_offset) same.1 (subst (λ p. IsFault (length text) p ending other other_offset) same.0 fault))

  -- it is refused in one way
  pub refused_once : (kind other : Kind) (offset other_offset : ℕ) → IsRefusal text kind offset → IsRefusal text other other_offset → (kind ≡ other) × (offset ≡ other_offset)
  refused_once kind other offset other_offset refusal too =
      both_no_later offset other_offset kind other
      (first_there kind offset refusal other other_offset (refused_there other other_offset too))
      (first_there other other_offset too kind offset (refused_there kind offset refusal))

  -- what the parser answers of a text that is refused
  pub answered : (parsed : ParseRefusal) (kind : Kind) (offset : ℕ) → IsRefusedFor text parsed → IsRefusal text kind offset → (converted parsed ≡ read.At (kind_number kind) offset) ⊎ (converted parsed ≡ read.Memory)
  answered (parse.At kind offset) other other_offset refused refusal =
      let same = refused_once kind other offset other_offset refused refusal in
      inl (ap (λ k. read.At (kind_number k) offset) same.0 ∙ ap (read.At (kind_number other)) same.1)
  answered parse.Memory other other_offset refused refusal = inr refl
