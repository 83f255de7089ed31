-- The tokens of a syntax before others.
use Rattle.std.proofs.Common.{◌≡◌, List, [], ◌∷◌, ◌++◌, map, refl, ap, ◌∙◌}
use Rattle.cilk_tree.specs.declared.token.Token.{Token}
use Rattle.cilk_tree.specs.Levels.{Spelled}

-- the tokens of these, and then the rest
abbrev pub ahead : List Spelled → List Token → List Token
ahead [] rest = rest
ahead (spelled ∷ more) rest = spelled.token ∷ ahead more rest

pub ahead_append : (first second : List Spelled) (rest : List Token) → ahead (first ++ second) rest ≡ ahead first (ahead second rest)
ahead_append [] second rest = refl
ahead_append (spelled ∷ first) second rest = ap (λ tokens. spelled.token ∷ tokens) (ahead_append first second rest)

-- in four parts
pub four_ahead : (first second third fourth : List Spelled) (rest : List Token) → ahead (first ++ second ++ third ++ fourth) rest ≡ ahead first (ahead second (ahead third (ahead fourth rest)))
four_ahead first second third fourth rest = ahead_append (first ++ second ++ third) fourth rest ∙ ahead_append (first ++ second) third (ahead fourth rest) ∙ ahead_append first second (ahead third (ahead fourth rest))

pub ahead_of_none : (spelled : List Spelled) → ahead spelled [] ≡ map (λ s. s.token) spelled
ahead_of_none [] = refl
ahead_of_none (spelled ∷ more) = ap (λ tokens. spelled.token ∷ tokens) (ahead_of_none more)
