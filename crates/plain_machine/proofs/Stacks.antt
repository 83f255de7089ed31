-- A stack that is kept with its top last.
use Rattle.std.proofs.Common.{◌≡◌, ℕ, ◌+◌, List, ◌++◌, length, take, drop, reverse, sym, ap, ◌∙◌, arith}
use Rattle.std.proofs.lemmas.List.{take-append-drop, reverse-append, reverse-reverse, length-reverse, length-drop, drop_at, take_at}

parts : {A : Type 0} (items : List A) (n : ℕ) → reverse items ≡ reverse (drop n items) ++ reverse (take n items)
parts {A} items n = ap reverse (sym (take-append-drop n items)) ∙ reverse-append (take n items) (drop n items)

rest_length : {A : Type 0} (items : List A) (n m : ℕ) → n + m ≡ length items → length (reverse (drop n items)) ≡ m
rest_length {A} items n m e =
    let a = length-reverse (drop n items) in
    let b = length-drop n items in
    omega (arith, a, b, e)

-- without the last ones, the top first
pub taken_off : {A : Type 0} (items : List A) (n m : ℕ) → n + m ≡ length items → reverse (take n items) ≡ drop m (reverse items)
taken_off {A} items n m e = sym (ap (drop m) (parts items n) ∙ drop_at (reverse (drop n items)) (reverse (take n items)) m (rest_length items n m e))

-- the last ones, as they are kept
pub last_ones : {A : Type 0} (items : List A) (n m : ℕ) → n + m ≡ length items → drop n items ≡ reverse (take m (reverse items))
last_ones {A} items n m e =
    sym (ap (λ (l : List A). reverse (take m l)) (parts items n) ∙ ap reverse (take_at (reverse (drop n items)) (reverse (take n items)) m (rest_length items n m e)) ∙ reverse-reverse (drop n items))
