-- The law of a tally that `Chronicle` asks for: a list has one last entry. A source may cite it only from here.
use Rattle.std.proofs.Common.{◌≡◌, ℕ, List, [], ◌∷◌, ◌++◌, sym, ◌∙◌}

last_of : (xs : List ℕ) (x y : ℕ) → xs ++ x ∷ [] ≡ xs ++ y ∷ [] → x ≡ y
last_of [] x y e = cc e
last_of (z ∷ zs) x y e = last_of zs x y (cc e)

pub last_is_one : (t xs : List ℕ) (x y : ℕ) → t ≡ xs ++ x ∷ [] → t ≡ xs ++ y ∷ [] → x ≡ y
last_is_one t xs x y a b = last_of xs x y (sym a ∙ b)
