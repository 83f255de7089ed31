-- Longest runs of the bytes that pass a test, and what a text begins with.
use Rattle.std.proofs.Common.{◌≡◌, ℕ, ◌<◌, add-zero, Bool, true, false, IsTrue, IsFalse, List, [], ◌∷◌, ◌++◌, length, take, drop, get_or, sym, refl, ap, ◌∙◌, subst, arith, get_or-take, get_or-drop, length-drop}
use Rattle.std.specs.List.{list_all, prefix_len}
use Rattle.std.proofs.lemmas.Bool.{and_parts, and_from, both_ways}
use Rattle.std.proofs.lemmas.List.Folds.{length-prefix_len}
use Rattle.std.proofs.lemmas.List.Sums.{list_all-from_AllPass, prefix_len_passes, prefix_len_stops}
use Rattle.cilk_tree.specs.Lexeme.{starts}

starts_without : (p : ℕ → Bool) (xs : List ℕ) → (0 < length xs → p (get_or xs 0 0) ≡ false) → IsFalse (starts p xs)
starts_without p [] h = refl
starts_without p (x ∷ xs) h = h (omega arith)

pub run_all : (p : ℕ → Bool) (xs : List ℕ) → IsTrue (list_all p (take (prefix_len p xs) xs))
run_all p xs =
    list_all-from_AllPass p (take (prefix_len p xs) xs)
    (λ k d within.
    let below : k < prefix_len p xs = omega (arith, length-prefix_len p xs) in
    ap p (get_or-take (prefix_len p xs) xs k d below) ∙ prefix_len_passes p xs k d below)

pub run_ends : (p : ℕ → Bool) (xs : List ℕ) → IsFalse (starts p (drop (prefix_len p xs) xs))
run_ends p xs =
    starts_without p (drop (prefix_len p xs) xs)
    (λ more.
    let first : get_or (drop (prefix_len p xs) xs) 0 0 ≡ get_or xs (prefix_len p xs) 0 = get_or-drop (prefix_len p xs) xs 0 0 ∙ ap (λ i. get_or xs i 0) (add-zero (prefix_len p xs)) in
    let inside : prefix_len p xs < length xs = omega (arith, length-drop (prefix_len p xs) xs) in
    ap p first ∙ prefix_len_stops p xs 0 inside)

-- a text is divided in one way into a run and what begins without one
pub run_unique : (p : ℕ → Bool) (a c b d : List ℕ) → a ++ b ≡ c ++ d → IsTrue (list_all p a) → IsTrue (list_all p c) → IsFalse (starts p b) → IsFalse (starts p d) → (a ≡ c) × (b ≡ d)
run_unique p [] [] b d same all_a all_c ends_b ends_d = (refl, same)
run_unique p [] (y ∷ c) b d same all_a all_c ends_b ends_d =
    absurd (both_ways (p y) (subst (λ s. IsFalse (starts p s)) same ends_b) (and_parts (p y) (list_all p c) all_c).0)
run_unique p (x ∷ a) [] b d same all_a all_c ends_b ends_d =
    absurd (both_ways (p x) (subst (λ s. IsFalse (starts p s)) (sym same) ends_d) (and_parts (p x) (list_all p a) all_a).0)
run_unique p (x ∷ a) (y ∷ c) b d same all_a all_c ends_b ends_d =
    let heads : x ≡ y = cc in
    let tails : a ++ b ≡ c ++ d = cc in
    let both = run_unique p a c b d tails (and_parts (p x) (list_all p a) all_a).1 (and_parts (p y) (list_all p c) all_c).1 ends_b ends_d in
    (λ i. heads i ∷ both.0 i, both.1)

pub starts_weaker : (p q : ℕ → Bool) (bytes : List ℕ) → ((byte : ℕ) → p byte ≡ true → q byte ≡ true) → IsTrue (starts p bytes) → IsTrue (starts q bytes)
starts_weaker p q [] weaker h = cc
starts_weaker p q (x ∷ xs) weaker h = weaker x h

pub starts_apart : (p q : ℕ → Bool) (bytes : List ℕ) → ((byte : ℕ) → p byte ≡ true → q byte ≡ true → ⊥) → IsTrue (starts p bytes) → IsTrue (starts q bytes) → ⊥
starts_apart p q [] apart h k = cc
starts_apart p q (x ∷ xs) apart h k = apart x h k

-- a text that begins with a byte of one kind begins with none of another
pub starts_no : (p q : ℕ → Bool) (bytes : List ℕ) → ((byte : ℕ) → p byte ≡ true → q byte ≡ false) → IsTrue (starts p bytes) → IsFalse (starts q bytes)
starts_no p q [] apart h = refl
starts_no p q (x ∷ xs) apart h = apart x h

pub starts_from_all : (p : ℕ → Bool) (bytes : List ℕ) → IsTrue (list_all p bytes) → 0 < length bytes → IsTrue (starts p bytes)
starts_from_all p [] all some = absurd (omega arith)
starts_from_all p (x ∷ xs) all some = (and_parts (p x) (list_all p xs) all).0

pub starts_append : (p : ℕ → Bool) (front rest : List ℕ) → IsTrue (starts p front) → IsTrue (starts p (front ++ rest))
starts_append p [] rest h = cc
starts_append p (x ∷ front) rest h = h

pub all_weaker : (p q : ℕ → Bool) (bytes : List ℕ) → ((byte : ℕ) → p byte ≡ true → q byte ≡ true) → IsTrue (list_all p bytes) → IsTrue (list_all q bytes)
all_weaker p q [] weaker h = refl
all_weaker p q (x ∷ xs) weaker h =
    let parts = and_parts (p x) (list_all p xs) h in
    and_from (q x) (list_all q xs) (weaker x parts.0) (all_weaker p q xs weaker parts.1)
