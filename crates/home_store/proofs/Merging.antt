-- A part is merged into the list of a home.
use Rattle.std.proofs.Common.{◌≡◌, ◌≢◌, ℕ, ℤ, pos, ◌+◌, ◌*◌, ◌/◌, ◌%◌, ◌<◌, ◌≤◌, List, length, take, drop, get_or, nat_eq, Some, None, unwrap_or, true, false, inl, inr, ◌-◌, ◌^◌, slice_get, refl, sym, ◌∙◌, ap, arith}
use Rattle.std.proofs.lemmas.List.{get_or-take, get_or-drop}
use Rattle.std.proofs.lemmas.Nat.{mod_below, pow_pos}
use Rattle.std.proofs.lemmas.Nat.Bits.{and_pow, bit_at-lt}
use Rattle.std.proofs.lemmas.Option.{unwrap_or-slice_get}
use Rattle.std.specs.Int.{IsBitSet, bit_at}
use Rattle.std.specs.List.{slice_range}
use Rattle.std.specs.Prelude.{if◌then◌else◌, ◌&&◌, Bool, Option}
use Rattle.page_words.specs.Layout.{page_of, home_of}
use Rattle.page_words.specs.Page.{IsMerged}
use Rattle.page_words.specs.declared.config.Config.{Config}
use Rattle.page_messages.specs.declared.parts.Part.{Part}
use Rattle.home_store.proofs.Rounds.{same_page, rows_apart}
use Rattle.home_store.specs.Home.{left_by_part}
use Rattle.home_store.specs.Places.{first_place, place_of, stored}
use Rattle.home_store.proofs.Deciding.{same_number, other_number}

bit_is_set : (mask k : ℕ) → nat_eq (bit_at mask k) 1 ≡ true → IsBitSet mask k
bit_is_set mask k e none = absurd (omega (arith, and_pow mask k, ap (λ b. b * 2 ^ k) (same_number (bit_at mask k) 1 e), pow_pos k))

bit_is_clear : (mask k : ℕ) → nat_eq (bit_at mask k) 1 ≡ false → ¬ IsBitSet mask k
bit_is_clear mask k e set_bit =
    let zero_bit : bit_at mask k ≡ 0 = omega (arith, bit_at-lt mask k, other_number (bit_at mask k) 1 e) in
    set_bit (omega (arith, and_pow mask k, ap (λ b. b * 2 ^ k) zero_bit))

get_or_by_slice_get : (xs ys : List ℤ) (k : ℕ) → slice_get xs k ≡ slice_get ys k → get_or xs k (pos 0) ≡ get_or ys k (pos 0)
get_or_by_slice_get xs ys k e = sym (unwrap_or-slice_get xs k (pos 0)) ∙ (ap (λ o. unwrap_or o (pos 0)) e ∙ unwrap_or-slice_get ys k (pos 0))

get_or_in_range : (xs : List ℤ) (first count k : ℕ) → k < count → get_or (slice_range xs first (first + count)) k (pos 0) ≡ get_or xs (first + k) (pos 0)
get_or_in_range xs first count k below = get_or-take (first + count - first) (drop first xs) k (pos 0) (omega arith) ∙ get_or-drop first xs k (pos 0)

-- the words of a part are merged into the list, from this place on
pub record IsMergedAt (first mask : ℕ) (given old new : List ℤ) : Type 0 where
  pub before : take first new ≡ take first old
  pub page : IsMerged mask given (slice_range old first (first + length given)) (slice_range new first (first + length given))
  pub behind : drop (first + length given) new ≡ drop (first + length given) old

module _ (first mask : ℕ) (given old new : List ℤ) (merged : IsMergedAt first mask given old new) where
  word_before : (place : ℕ) → place < first → get_or new place (pos 0) ≡ get_or old place (pos 0)
  word_before place below = sym (get_or-take first new place (pos 0) below) ∙ (ap (λ xs. get_or xs place (pos 0)) merged.before ∙ get_or-take first old place (pos 0) below)

  word_behind : (place : ℕ) → first + length given ≤ place → get_or new place (pos 0) ≡ get_or old place (pos 0)
  word_behind place above =
      let there : first + length given + (place - (first + length given)) ≡ place = omega arith in
      ap (λ j. get_or new j (pos 0)) (sym there)
      ∙ (sym (get_or-drop (first + length given) new (place - (first + length given)) (pos 0))
      ∙ (ap (λ xs. get_or xs (place - (first + length given)) (pos 0)) merged.behind
      ∙ (get_or-drop (first + length given) old (place - (first + length given)) (pos 0)
      ∙ ap (λ j. get_or old j (pos 0)) there)))

  word_marked : (k : ℕ) → k < length given → IsBitSet mask k → get_or new (first + k) (pos 0) ≡ get_or given k (pos 0)
  word_marked k below is = sym (get_or_in_range new first (length given) k below) ∙ get_or_by_slice_get (slice_range new first (first + length given)) given k (merged.page.marked k is)

  word_unmarked : (k : ℕ) → k < length given → ¬ IsBitSet mask k → get_or new (first + k) (pos 0) ≡ get_or old (first + k) (pos 0)
  word_unmarked k below is = sym (get_or_in_range new first (length given) k below)
      ∙ (get_or_by_slice_get (slice_range new first (first + length given)) (slice_range old first (first + length given)) k (merged.page.others k is)
      ∙ get_or_in_range old first (length given) k below)

module _ (config : Config) (node : ℕ) (some : 0 < config.page_words) (part : Part) (home : home_of config part.page ≡ node) (whole : length part.words ≡ config.page_words)
    (old new : List ℤ) (merged : IsMergedAt (first_place config part.page) part.mask part.words old new) where
  -- a word of another page of the home
  elsewhere : (word : ℕ) → home_of config (page_of config word) ≡ node → part.page ≢ page_of config word → get_or new (place_of config word) (pos 0) ≡ get_or old (place_of config word) (pos 0)
  elsewhere word here other =
      let rounds : page_of config word / config.nodes ≢ part.page / config.nodes = λ same. other (same_page config.nodes part.page (page_of config word) (home ∙ sym here) (sym same)) in
      elim (rows_apart (page_of config word / config.nodes) (part.page / config.nodes) (word % config.page_words) config.page_words rounds (mod_below word config.page_words some))
      as (λ _. get_or new (place_of config word) (pos 0) ≡ get_or old (place_of config word) (pos 0)) [
        | inl below ↦ word_before (first_place config part.page) part.mask part.words old new merged (place_of config word) below
        | inr above ↦ word_behind (first_place config part.page) part.mask part.words old new merged (place_of config word) (omega (arith, whole, above))
      ]

  -- a word of the part's page
  here_marked : (word : ℕ) → part.page ≡ page_of config word → nat_eq (bit_at part.mask (word % config.page_words)) 1 ≡ true →
      get_or new (place_of config word) (pos 0) ≡ get_or part.words (word % config.page_words) (pos 0)
  here_marked word same bit =
      ap (λ p. get_or new (first_place config p + word % config.page_words) (pos 0)) (sym same)
      ∙ word_marked (first_place config part.page) part.mask part.words old new merged (word % config.page_words) (omega (arith, whole, mod_below word config.page_words some)) (bit_is_set part.mask (word % config.page_words) bit)

  here_unmarked : (word : ℕ) → part.page ≡ page_of config word → nat_eq (bit_at part.mask (word % config.page_words)) 1 ≡ false →
      get_or new (place_of config word) (pos 0) ≡ get_or old (place_of config word) (pos 0)
  here_unmarked word same bit =
      ap (λ p. get_or new (first_place config p + word % config.page_words) (pos 0)) (sym same)
      ∙ (word_unmarked (first_place config part.page) part.mask part.words old new merged (word % config.page_words) (omega (arith, whole, mod_below word config.page_words some)) (bit_is_clear part.mask (word % config.page_words) bit)
      ∙ ap (λ p. get_or old (first_place config p + word % config.page_words) (pos 0)) same)

  abbrev left_if : ℕ → Bool → Bool → Option ℤ
  left_if word page bit = if page && bit then Some (get_or part.words (word % config.page_words) (pos 0)) else None

  at_home : (word : ℕ) → home_of config (page_of config word) ≡ node → get_or new (place_of config word) (pos 0) ≡ unwrap_or (left_by_part config part word) (get_or old (place_of config word) (pos 0))
  at_home word here = (elim (nat_eq part.page (page_of config word)) as (λ page. nat_eq part.page (page_of config word) ≡ page →
      get_or new (place_of config word) (pos 0) ≡ unwrap_or (left_if word page (nat_eq (bit_at part.mask (word % config.page_words)) 1)) (get_or old (place_of config word) (pos 0))) [
        | true ↦ λ e. (elim (nat_eq (bit_at part.mask (word % config.page_words)) 1) as (λ bit. nat_eq (bit_at part.mask (word % config.page_words)) 1 ≡ bit →
            get_or new (place_of config word) (pos 0) ≡ unwrap_or (left_if word true bit) (get_or old (place_of config word) (pos 0))) [
              | true ↦ λ bit. here_marked word (same_number part.page (page_of config word) e) bit
              | false ↦ λ bit. here_unmarked word (same_number part.page (page_of config word) e) bit
            ]) refl
        | false ↦ λ e. elsewhere word here (other_number part.page (page_of config word) e)
      ]) refl

  not_home : (word : ℕ) → home_of config (page_of config word) ≢ node → pos 0 ≡ unwrap_or (left_by_part config part word) (pos 0)
  not_home word other = (elim (nat_eq part.page (page_of config word)) as (λ page. nat_eq part.page (page_of config word) ≡ page →
      pos 0 ≡ unwrap_or (left_if word page (nat_eq (bit_at part.mask (word % config.page_words)) 1)) (pos 0)) [
        | true ↦ λ e. absurd (other (ap (home_of config) (sym (same_number part.page (page_of config word) e)) ∙ home))
        | false ↦ λ e. refl
      ]) refl

  pub part_stored : (word : ℕ) → stored config node new word ≡ unwrap_or (left_by_part config part word) (stored config node old word)
  part_stored word = (elim (nat_eq (home_of config (page_of config word)) node) as (λ here. nat_eq (home_of config (page_of config word)) node ≡ here →
      (if here then get_or new (place_of config word) (pos 0) else pos 0) ≡ unwrap_or (left_by_part config part word) (if here then get_or old (place_of config word) (pos 0) else pos 0)) [
        | true ↦ λ e. at_home word (same_number (home_of config (page_of config word)) node e)
        | false ↦ λ e. not_home word (other_number (home_of config (page_of config word)) node e)
      ]) refl
