-- What stands first.
use Rattle.std.proofs.Common.{◌≡◌, ◌≢◌, List, [], ◌∷◌, true, IsTrue, ap, sym, subst}
use Rattle.std.proofs.lemmas.Slice.Eq.{bytes_eq-Decides}
use Rattle.cilk_tree.specs.declared.token.Keyword.{Keyword}
use Rattle.cilk_tree.specs.declared.token.Placed.{Placed}
use Rattle.cilk_tree.specs.declared.token.Token.{Token}
use Rattle.cilk_tree.specs.declared.token.Token.TheVariants.{Name, Number, Word, Mark}
use Rattle.cilk_tree.specs.Token.{keyword_text}
use Rattle.cilk_tree.proofs.Tables.{keyword_injective}
use Rattle.std.proofs.lemmas.Bool.{false≢true}
use Rattle.cilk_parser.specs.Spots.{StartsAt, is_keyword, is_keyword_token}

pub first_there : (token : Token) (left rest : List Placed) (placed : Placed) → StartsAt token left → left ≡ placed ∷ rest → placed.token ≡ token
first_there token left rest placed starts first = subst (StartsAt token) first starts

pub some_there : (token : Token) (left : List Placed) → StartsAt token left → left ≢ []
some_there token left starts none = subst (StartsAt token) none starts

same_word : (word : Keyword) (token : Token) → is_keyword_token word token ≡ true → token ≡ Word word
same_word word (Name name) same = absurd (false≢true same)
same_word word (Number value) same = absurd (false≢true same)
same_word word (Mark sign) same = absurd (false≢true same)
same_word word (Word other) same = ap Word (sym (keyword_injective word other ((bytes_eq-Decides (keyword_text word) (keyword_text other)).0 same)))

pub keyword_there : (word : Keyword) (left rest : List Placed) (placed : Placed) → left ≡ placed ∷ rest → IsTrue (is_keyword word left) → placed.token ≡ Word word
keyword_there word left rest placed first there = same_word word placed.token (subst (λ l. IsTrue (is_keyword word l)) first there)
