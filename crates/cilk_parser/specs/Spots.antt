-- Where a parser is in a text, and what is said of the tokens that stand first there.
use Rattle.std.specs.Prelude.{◌≡◌, ◌⊎◌, ℕ, pos, ◌≤◌, Bool, true, false, not, ◌&&◌, IsTrue, Option, None, List, [], ◌∷◌, drop, bytes_eq}
use Rattle.cilk_tree.specs.declared.count.Count.{Count}
use Rattle.cilk_tree.specs.declared.ending.Ending.{Ending}
use Rattle.cilk_tree.specs.declared.ending.Ending.TheVariants.{Reached, Stopped}
use Rattle.cilk_tree.specs.declared.kind.Kind.{Kind}
use Rattle.cilk_tree.specs.declared.kind.Kind.TheVariants.{Unexpected}
use Rattle.cilk_tree.specs.declared.token.Keyword.{Keyword}
use Rattle.cilk_tree.specs.declared.token.Keyword.TheVariants.{Int}
use Rattle.cilk_tree.specs.declared.token.Placed.{Placed}
use Rattle.cilk_tree.specs.declared.token.Sign.{Sign}
use Rattle.cilk_tree.specs.declared.token.Sign.TheVariants.{OpenParen}
use Rattle.cilk_tree.specs.declared.token.Token.{Token}
use Rattle.cilk_tree.specs.declared.token.Token.TheVariants.{Name, Number, Word, Mark}
use Rattle.cilk_tree.specs.Levels.{counting}
use Rattle.cilk_tree.specs.Syntax.{Empty}
use Rattle.cilk_tree.specs.Token.{keyword_text}
use Rattle.cilk_parser.specs.declared.parser.End.{End}
use Rattle.cilk_parser.specs.declared.refusal.ParseRefusal.{ParseRefusal}
use Rattle.cilk_parser.specs.declared.refusal.ParseRefusal.TheVariants.{At, Memory}
use Rattle.cilk_parser.specs.declared.tallies.Tallies.{Tallies}
use Rattle.cilk_parser.specs.Run.{Answer, Refused, Within, Over, at_end, judge_token, run, run_step}
use Rattle.cilk_parser.specs.Steps.{State, Items, Next, is_mark}

-- Where a parser is in a text: how the text ends, what was counted so far, and the tokens that are left.
pub record Spot : Type 0 where
  pub end : End
  pub tallies : Tallies
  pub left : List Placed

-- the machine's answer, where it stands there in a state
abbrev pub from : State → Spot → Answer
from state spot = run spot.end (record { state = state; tallies = spot.tallies; waiting = [] }) spot.left

-- what an error says of the machine's answer
abbrev pub Refuses : Answer → ParseRefusal → Type 0
Refuses answer (At kind offset) = answer ≡ Refused kind offset
Refuses answer Memory = Unit {0}

-- the refusal where the tokens end too early
abbrev pub end_refusal : ℕ → Ending → ParseRefusal
end_refusal size Reached = At Unexpected size
end_refusal size (Stopped kind place) = At kind place

-- the refusal of the first token, or of the end
abbrev pub unexpected_of : End → List Placed → ParseRefusal
unexpected_of end [] = end_refusal end.size end.ending
unexpected_of end (placed ∷ places) = At Unexpected placed.offset

-- the token stands first
abbrev pub StartsAt : Token → List Placed → Type 0
StartsAt token [] = ⊥
StartsAt token (placed ∷ places) = placed.token ≡ token

-- the token is this reserved word
abbrev pub is_keyword_token : Keyword → Token → Bool
is_keyword_token word (Name name) = false
is_keyword_token word (Number value) = false
is_keyword_token word (Word other) = bytes_eq (keyword_text word) (keyword_text other)
is_keyword_token word (Mark sign) = false

-- the sign stands first
abbrev pub is_sign : Sign → List Placed → Bool
is_sign sign [] = false
is_sign sign (placed ∷ places) = is_mark sign placed.token

-- the reserved word stands first
abbrev pub is_keyword : Keyword → List Placed → Bool
is_keyword word [] = false
is_keyword word (placed ∷ places) = is_keyword_token word placed.token

-- The first token has this level and counts as this: it is judged and passed, or refused.
pub record HasPassed (level : ℕ) (counts : List Count) (old new : Spot) : Type 0 where
  pub placed : Placed
  pub first : old.left ≡ placed ∷ new.left
  pub judged : judge_token old.tallies (counting level counts placed.token) placed.offset ≡ Within new.tallies
  pub shallow : level ≤ 64
  pub end : new.end ≡ old.end

pub record IsOver (level : ℕ) (counts : List Count) (old : Spot) (refusal : ParseRefusal) : Type 0 where
  pub placed : Placed
  pub rest : List Placed
  pub first : old.left ≡ placed ∷ rest
  pub kind : Kind
  pub offset : ℕ
  pub judged : judge_token old.tallies (counting level counts placed.token) placed.offset ≡ Over kind offset
  pub same : refusal ≡ At kind offset

-- the sign is read, which has this level
pub record HasRead (sign : Sign) (level : ℕ) (old new : Spot) : Type 0 where
  pub there : IsTrue (is_sign sign old.left)
  pub passed : HasPassed level [] old new

-- another token or none stands there, or the sign is too deep
abbrev pub LacksSign : Sign → ℕ → Spot → ParseRefusal → Type 0
LacksSign sign level old refusal =
    ((is_sign sign old.left ≡ false) × (refusal ≡ unexpected_of old.end old.left)) ⊎ (IsTrue (is_sign sign old.left) × IsOver level [] old refusal)

-- a name stands first
abbrev pub is_name_token : Token → Bool
is_name_token (Name name) = true
is_name_token (Number value) = false
is_name_token (Word word) = false
is_name_token (Mark sign) = false

abbrev pub is_named : List Placed → Bool
is_named [] = false
is_named (placed ∷ places) = is_name_token placed.token

-- the name is read, which has this level and counts as this
pub record HasNamed (level : ℕ) (counts : List Count) (name : List ℕ) (old new : Spot) : Type 0 where
  pub passed : HasPassed level counts old new
  pub named : passed.placed.token ≡ Name name

-- no name stands there, or it is too deep or passes a limit
abbrev pub LacksName : ℕ → List Count → Spot → ParseRefusal → Type 0
LacksName level counts old refusal =
    (refusal ≡ Memory) ⊎ ((is_named old.left ≡ false) × (refusal ≡ unexpected_of old.end old.left)) ⊎ (IsTrue (is_named old.left) × IsOver level counts old refusal)

-- The answer where the first token decides alone how the machine goes on.
abbrev pub stepping : (Token → Option Next) → Spot → Answer
stepping steps spot = elim spot.left as (λ _. Answer) [
  | [] ↦ at_end spot.end None
  | placed ∷ places ↦ run_step (record { state = Items Empty; tallies = spot.tallies; waiting = [] }) placed (λ next. run spot.end next places) (steps placed.token)
]

-- a name stands first, and the sign behind it
abbrev pub is_name_before : Sign → List Placed → Bool
is_name_before sign [] = false
is_name_before sign (placed ∷ places) = is_name_token placed.token && is_sign sign places

-- `int` stands first, and no name with a parenthesis behind it
abbrev pub is_array_start : List Placed → Bool
is_array_start left = is_keyword Int left && not (is_name_before OpenParen (drop 1 left))

-- the number of words of an array is read
pub record HasSize (words : ℕ) (old new : Spot) : Type 0 where
  pub passed : HasPassed 0 [] old new
  pub is : passed.placed.token ≡ Number (pos words)

-- the token may be the number of words of an array
abbrev pub is_size_token : Token → Bool
is_size_token (Number (pos words)) = true
is_size_token _ = false

abbrev pub is_size : List Placed → Bool
is_size [] = false
is_size (placed ∷ places) = is_size_token placed.token

abbrev pub LacksSize : Spot → ParseRefusal → Type 0
LacksSize old refusal = ((is_size old.left ≡ false) × (refusal ≡ unexpected_of old.end old.left)) ⊎ (IsTrue (is_size old.left) × IsOver 0 [] old refusal)
