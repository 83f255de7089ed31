-- Pages of w words go round n nodes: node m has each page p with p % n ≡ m, as its (p / n)-th one.
use Rattle.std.proofs.Common.{◌≡◌, ℕ, ◌+◌, ◌-◌, ◌*◌, ◌/◌, ◌%◌, ◌<◌, ◌≤◌, ◌^◌, ◌≢◌, ◌⊎◌, inl, inr, min, sym, ◌∙◌, ap, subst, arith}
use Rattle.std.proofs.lemmas.Bool.{cases_lt}
use Rattle.std.proofs.lemmas.Nat.{div-add-mod', div-mul-add, mod-mul-add, div_below, mod_below, mul-le}
use Rattle.std.proofs.Math.Nat.{lt_of_mul-lt-mul_right}
use Rattle.std.proofs.lemmas.Grind.{div_ceil_times}

pub same_page : (n p q : ℕ) → p % n ≡ q % n → p / n ≡ q / n → p ≡ q
same_page n p q place round = sym (div-add-mod' p n) ∙ (ap (λ k. k * n + p % n) round ∙ ap (λ k. q / n * n + k) place) ∙ div-add-mod' q n

-- a place in one row is before or behind another row
pub rows_apart : (a b j w : ℕ) → a ≢ b → j < w → (a * w + j < b * w) ⊎ (b * w + w ≤ a * w + j)
rows_apart a b j w apart inside = elim (cases_lt a b) as (λ _. (a * w + j < b * w) ⊎ (b * w + w ≤ a * w + j)) [
  | inl below ↦ inl (omega (arith, mul-le (a + 1) w b w (omega arith) (omega arith)))
  | inr above ↦ inr (let less : b + 1 ≤ a = omega arith in omega (arith, mul-le (b + 1) w a w less (omega arith)))
]

module _ (n w m : ℕ) where
  -- the page of the word at a place
  pub page_at : (place : ℕ) → 0 < w → ((place / w * n + m) * w + place % w) / w ≡ place / w * n + m
  page_at place some = div-mul-add (place / w * n + m) w (place % w) (mod_below place w some)

  pub home_at : (place : ℕ) → m < n → (place / w * n + m) % n ≡ m
  home_at place is = mod-mul-add (place / w) n m is

  -- the word at the place of a word is this word
  pub word_again : (word : ℕ) → 0 < w → word / w % n ≡ m → (((word / w / n * w + word % w) / w) * n + m) * w + (word / w / n * w + word % w) % w ≡ word
  word_again word some home =
      let inside : word % w < w = mod_below word w some in
      let round : (word / w / n * w + word % w) / w ≡ word / w / n = div-mul-add (word / w / n) w (word % w) inside in
      let place : (word / w / n * w + word % w) % w ≡ word % w = mod-mul-add (word / w / n) w (word % w) inside in
      let page : word / w / n * n + m ≡ word / w = ap (λ k. word / w / n * n + k) (sym home) ∙ div-add-mod' (word / w) n in
      ap (λ k. (k * n + m) * w + (word / w / n * w + word % w) % w) round
      ∙ (ap (λ k. (word / w / n * n + m) * w + k) place
      ∙ (ap (λ k. k * w + word % w) page ∙ div-add-mod' word w))

  module _ (shared rounds : ℕ) (ceil : rounds ≡ (shared - m * w) / (n * w) + min 1 ((shared - m * w) % (n * w))) (some : 0 < w) (is : m < n) where
    whole : 0 < n * w
    whole = let some_node : 1 ≤ n = omega arith in omega (arith, mul-le 1 1 n w some_node some)

    bounds : (shared - m * w ≤ rounds * (n * w)) × (rounds * (n * w) < shared - m * w + n * w)
    bounds = rw ceil (div_ceil_times (shared - m * w) (n * w) whole)

    round_below : (k : ℕ) → (k * n + m) * w < shared → k < rounds
    round_below k used =
        let a : k * (n * w) < rounds * (n * w) = omega (arith, bounds.0) in
        lt_of_mul-lt-mul_right (n * w) a

    pub page_below : (p : ℕ) → p * w < shared → p % n ≡ m → p / n * w + w ≤ rounds * w
    page_below p used home =
        let split : p / n * n + m ≡ p = ap (λ k. p / n * n + k) (sym home) ∙ div-add-mod' p n in
        let below : p / n < rounds = round_below (p / n) (subst (λ q. q * w < shared) (sym split) used) in
        omega (arith, mul-le (p / n + 1) w rounds w (omega arith) (omega arith))

    pub place_used : (place : ℕ) → place < rounds * w → (place / w * n + m) * w < shared
    place_used place below =
        let round : place / w < rounds = div_below place w rounds some below in
        omega (arith, bounds.1, mul-le (place / w + 1) (n * w) rounds (n * w) (omega arith) (omega arith))

    pub few_places : shared < 2 ^ 32 → n ≤ 16 → w ≤ 64 → rounds * w < 2 ^ 33
    few_places small nodes words =
        let part : n * w ≤ 16 * 64 = mul-le n w 16 64 nodes words in
        let some_node : 1 ≤ n = omega arith in
        omega (arith, bounds.1, mul-le (rounds * w) 1 (rounds * w) n (omega arith) some_node)
