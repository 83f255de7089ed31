-- How the machine reads the array, the index and the addend of an addition.
use Rattle.std.proofs.Common.{◌≡◌, ℕ, ◌+◌, ◌<◌, List, [], length, refl, ap, ◌∙◌, arith}
use Rattle.cilk_tree.specs.declared.token.Sign.TheVariants.{OpenParen, CloseParen, OpenBracket, CloseBracket, Comma}
use Rattle.cilk_tree.specs.declared.token.Token.TheVariants.{Name}
use Rattle.cilk_tree.specs.declared.tree.Expr.{Expr}
use Rattle.cilk_tree.specs.Levels.{mark, plain}
use Rattle.cilk_tree.specs.Sugar.{expression_tree}
use Rattle.cilk_tree.specs.Syntax.{Expression}
use Rattle.cilk_parser.specs.declared.opening.Opening.TheVariants.{Whole}
use Rattle.cilk_parser.specs.declared.refusal.ParseRefusal.{ParseRefusal}
use Rattle.cilk_parser.specs.Contexts.{CallIn, call_level, AddedAt, AddendOf}
use Rattle.cilk_parser.specs.Spots.{Spot, from, Refuses, HasRead, LacksSign, HasNamed, LacksName}
use Rattle.cilk_parser.specs.Phrases.{Encloses, Lacks, Parses, addition_phrase, enclosed_phrase}
use Rattle.cilk_parser.specs.Steps.{State, Wants, Awaits, AwaitsName, AddOpen, AddIndexOpen, AddComma, AddedName, addition_of, after_addition, step_only}
use Rattle.cilk_parser.proofs.Bricks.Stepping.{awaits_lacks, awaits_name, awaits_no_name, awaits_sign, passed_shorter, refuses_as}

-- The first parts of an addition were read, up to a state of the machine.
pub record AddedSoFar (level : ℕ) (old : Spot) (state : CallIn → State) (now : Spot) : Type 0 where
  pub shorter : length now.left < length old.left
  pub leads : (outer : CallIn) → call_level outer ≡ level → from (Awaits (AddOpen outer)) old ≡ from (state outer) now

-- What is refused there is refused from the beginning.
refused_there : (level : ℕ) (old : Spot) (state : CallIn → State) (now : Spot) → AddedSoFar level old state now → (refusal : ParseRefusal) → ((outer : CallIn) → call_level outer ≡ level → Refuses (from (state outer) now) refusal) →
    Lacks (addition_phrase level) old refusal
refused_there level old state now far refusal lacks outer same = refuses_as refusal _ _ (far.leads outer same) (lacks outer same)

-- ---- the parenthesis, the name and the bracket

pub unopened : (level : ℕ) (old : Spot) (refusal : ParseRefusal) → LacksSign OpenParen level old refusal → Lacks (addition_phrase level) old refusal
unopened level old refusal lacks outer same = awaits_lacks (AddOpen outer) OpenParen level (ap (λ l. mark l OpenParen) same) old refusal lacks

pub opened : (level : ℕ) (old now : Spot) → HasRead OpenParen level old now → AddedSoFar level old (λ outer. AwaitsName (AddedName outer)) now
opened level old now read = record {
  shorter = passed_shorter level [] old now read.passed;
  leads = λ outer same. awaits_sign (AddOpen outer) OpenParen level (ap (λ l. mark l OpenParen) same) old now read;
}

module _ (level : ℕ) (old now : Spot) (far : AddedSoFar level old (λ outer. AwaitsName (AddedName outer)) now) where
  pub unnamed : (refusal : ParseRefusal) → LacksName level [] now refusal → Lacks (addition_phrase level) old refusal
  unnamed refusal lacks = refused_there level old _ now far refusal (λ outer same. awaits_no_name (AddedName outer) level [] (λ name. ap (λ l. plain l (Name name)) same) now refusal lacks)

  pub named : (name : List ℕ) (new : Spot) → HasNamed level [] name now new → AddedSoFar level old (λ outer. Awaits (AddIndexOpen outer name)) new
  named name new read = record {
    shorter = let a = far.shorter in let b = passed_shorter level [] now new read.passed in omega arith;
    leads = λ outer same. far.leads outer same ∙ awaits_name (AddedName outer) level [] (λ n. ap (λ l. plain l (Name n)) same) name now new read;
  }

module _ (level : ℕ) (name : List ℕ) (old now : Spot) (far : AddedSoFar level old (λ outer. Awaits (AddIndexOpen outer name)) now) where
  pub unindexed : (refusal : ParseRefusal) → LacksSign OpenBracket level now refusal → Lacks (addition_phrase level) old refusal
  unindexed refusal lacks = refused_there level old _ now far refusal (λ outer same. awaits_lacks (AddIndexOpen outer name) OpenBracket level (ap (λ l. mark l OpenBracket) same) now refusal lacks)

  pub indexed : (new : Spot) → HasRead OpenBracket level now new → AddedSoFar level old (λ outer. Wants (AddedAt outer name)) new
  indexed new read = record {
    shorter = let a = far.shorter in let b = passed_shorter level [] now new read.passed in omega arith;
    leads = λ outer same. far.leads outer same ∙ awaits_sign (AddIndexOpen outer name) OpenBracket level (ap (λ l. mark l OpenBracket) same) now new read;
  }

-- ---- the index

index_encloses : (level : ℕ) (name : List ℕ) (outer : CallIn) → call_level outer ≡ level → Encloses (level + 1) Whole (AddedAt outer name) level CloseBracket (λ index. Awaits (AddComma outer name index))
index_encloses level name outer same = record {
  fits = record { strong = refl; same_level = ap (λ l. l + 1) same; counted = refl };
  closes = λ index token. ap (λ l. step_only (mark l CloseBracket) (Awaits (AddComma outer name index)) token) same;
}

module _ (level : ℕ) (name : List ℕ) (old now : Spot) (far : AddedSoFar level old (λ outer. Wants (AddedAt outer name)) now) where
  pub lacks_index : (refusal : ParseRefusal) → Lacks (enclosed_phrase (level + 1) Whole CloseBracket level) now refusal → Lacks (addition_phrase level) old refusal
  lacks_index refusal lacks = refused_there level old _ now far refusal (λ outer same. lacks (AddedAt outer name, _) (index_encloses level name outer same))

  pub closed_index : (new : Spot) (tree : Expr) (read : Parses (enclosed_phrase (level + 1) Whole CloseBracket level) now new tree) → AddedSoFar level old (λ outer. Awaits (AddComma outer name read.syntax)) new
  closed_index new tree read = record {
    shorter = let a = far.shorter in let b = read.shorter in omega arith;
    leads = λ outer same. far.leads outer same ∙ read.leads (AddedAt outer name, _) (index_encloses level name outer same);
  }

-- ---- the comma and the addend

module _ (level : ℕ) (name : List ℕ) (index : Expression) (old now : Spot) (far : AddedSoFar level old (λ outer. Awaits (AddComma outer name index)) now) where
  pub unparted : (refusal : ParseRefusal) → LacksSign Comma level now refusal → Lacks (addition_phrase level) old refusal
  unparted refusal lacks = refused_there level old _ now far refusal (λ outer same. awaits_lacks (AddComma outer name index) Comma level (ap (λ l. mark l Comma) same) now refusal lacks)

  pub parted : (new : Spot) → HasRead Comma level now new → AddedSoFar level old (λ outer. Wants (AddendOf outer name index)) new
  parted new read = record {
    shorter = let a = far.shorter in let b = passed_shorter level [] now new read.passed in omega arith;
    leads = λ outer same. far.leads outer same ∙ awaits_sign (AddComma outer name index) Comma level (ap (λ l. mark l Comma) same) now new read;
  }

addend_encloses : (level : ℕ) (name : List ℕ) (index : Expression) (outer : CallIn) → call_level outer ≡ level → Encloses level Whole (AddendOf outer name index) level CloseParen (λ addend. after_addition outer (addition_of name index addend))
addend_encloses level name index outer same = record {
  fits = record { strong = refl; same_level = same; counted = refl };
  closes = λ addend token. ap (λ l. step_only (mark l CloseParen) (after_addition outer (addition_of name index addend)) token) same;
}

module _ (level : ℕ) (name : List ℕ) (index : Expression) (old now : Spot) (far : AddedSoFar level old (λ outer. Wants (AddendOf outer name index)) now) where
  pub lacks_addend : (refusal : ParseRefusal) → Lacks (enclosed_phrase level Whole CloseParen level) now refusal → Lacks (addition_phrase level) old refusal
  lacks_addend refusal lacks = refused_there level old _ now far refusal (λ outer same. lacks (AddendOf outer name index, _) (addend_encloses level name index outer same))

  pub adds : (new : Spot) (tree : Expr) → Parses (enclosed_phrase level Whole CloseParen level) now new tree → (index_tree : Expr) → index_tree ≡ expression_tree index →
      Parses (addition_phrase level) old new (record { name = name; index = index_tree; addend = tree })
  adds new tree read index_tree same_index = record {
    syntax = addition_of name index read.syntax;
    same = rw (same_index, read.same) refl;
    shorter = let a = far.shorter in let b = read.shorter in omega arith;
    leads = λ outer same. far.leads outer same ∙ read.leads (AddendOf outer name index, _) (addend_encloses level name index outer same);
  }
