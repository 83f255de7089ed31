-- How the reserved words and the signs are written.
use Rattle.std.specs.Prelude.{ℕ, List, [], ◌∷◌, codes}
use Rattle.cilk_tree.specs.declared.token.Keyword.{Keyword}
use Rattle.cilk_tree.specs.declared.token.Keyword.TheVariants.{Cilk, CilkFor, Else, FetchAdd, For, If, Int, Print, Return, Spawn, Sync, Void, While}
use Rattle.cilk_tree.specs.declared.token.Sign.{Sign}
use Rattle.cilk_tree.specs.declared.token.Sign.TheVariants.{Plus, Minus, Star, Slash, Percent, Assign, Equal, NotEqual, Less, LessEqual, Greater, GreaterEqual, AndAnd, OrOr, Bang, PlusPlus, MinusMinus, PlusAssign, MinusAssign, OpenParen, CloseParen, OpenBracket, CloseBracket, OpenBrace, CloseBrace, Comma, Semicolon}

-- how a reserved word is written
abbrev pub keyword_text : Keyword → List ℕ
keyword_text Cilk = codes "cilk"
keyword_text CilkFor = codes "cilk_for"
keyword_text Else = codes "else"
keyword_text FetchAdd = codes "fetch_add"
keyword_text For = codes "for"
keyword_text If = codes "if"
keyword_text Int = codes "int"
keyword_text Print = codes "print"
keyword_text Return = codes "return"
keyword_text Spawn = codes "spawn"
keyword_text Sync = codes "sync"
keyword_text Void = codes "void"
keyword_text While = codes "while"

abbrev pub all_keywords : List Keyword
all_keywords = Cilk ∷ CilkFor ∷ Else ∷ FetchAdd ∷ For ∷ If ∷ Int ∷ Print ∷ Return ∷ Spawn ∷ Sync ∷ Void ∷ While ∷ []

abbrev pub all_signs : List Sign
all_signs =
    Plus ∷ Minus ∷ Star ∷ Slash ∷ Percent ∷ Assign ∷ Equal ∷ NotEqual ∷ Less ∷ LessEqual ∷ Greater ∷ GreaterEqual
    ∷ AndAnd ∷ OrOr ∷ Bang ∷ PlusPlus ∷ MinusMinus ∷ PlusAssign ∷ MinusAssign
    ∷ OpenParen ∷ CloseParen ∷ OpenBracket ∷ CloseBracket ∷ OpenBrace ∷ CloseBrace ∷ Comma ∷ Semicolon ∷ []

-- how a sign is written
abbrev pub sign_text : Sign → List ℕ
sign_text Plus = codes "+"
sign_text Minus = codes "-"
sign_text Star = codes "*"
sign_text Slash = codes "/"
sign_text Percent = codes "%"
sign_text Assign = codes "="
sign_text Equal = codes "=="
sign_text NotEqual = codes "!="
sign_text Less = codes "<"
sign_text LessEqual = codes "<="
sign_text Greater = codes ">"
sign_text GreaterEqual = codes ">="
sign_text AndAnd = codes "&&"
sign_text OrOr = codes "||"
sign_text Bang = codes "!"
sign_text PlusPlus = codes "++"
sign_text MinusMinus = codes "--"
sign_text PlusAssign = codes "+="
sign_text MinusAssign = codes "-="
sign_text OpenParen = codes "("
sign_text CloseParen = codes ")"
sign_text OpenBracket = codes "["
sign_text CloseBracket = codes "]"
sign_text OpenBrace = codes "{"
sign_text CloseBrace = codes "}"
sign_text Comma = codes ","
sign_text Semicolon = codes ";"
