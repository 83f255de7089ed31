-- What parts of different pages leave in a word, one after another.
use Rattle.std.proofs.Common.{◌≡◌, ◌≢◌, ℕ, ℤ, ◌<◌, ◌≤◌, List, [], ◌∷◌, zero, suc, length, drop, get_or, nat_eq, Some, None, unwrap_or, true, false, refl, sym, ◌∙◌, ap, arith}
use Rattle.std.specs.Option.{option_or}
use Rattle.std.specs.Prelude.{Option}
use Rattle.page_words.specs.Layout.{page_of}
use Rattle.page_words.specs.declared.config.Config.{Config}
use Rattle.page_messages.specs.Fitting.{Ascending, EachFits, PartFits, pages_of}
use Rattle.page_messages.specs.declared.parts.Part.{Part}
use Rattle.home_store.specs.Home.{Home, HasChanged, held, left_by_part, left_by_parts}
use Rattle.home_store.proofs.Deciding.{same_number, other_number, unequal_numbers}

pub fits_at : (config : Config) (parts : List Part) (k : ℕ) (d : Part) → EachFits config parts → k < length parts → PartFits config (get_or parts k d)
fits_at config [] k d fits below = absurd (omega arith)
fits_at config (part ∷ parts) zero d fits below = fits.0
fits_at config (part ∷ parts) (suc k) d fits below = fits_at config parts k d fits.1 (omega arith)

ascending_rest : (part : Part) (parts : List Part) → Ascending (pages_of (part ∷ parts)) → Ascending (pages_of parts)
ascending_rest part [] ascends = tt
ascending_rest part (second ∷ parts) ascends = ascends.1

pub ascending_from : (parts : List Part) (k : ℕ) → Ascending (pages_of parts) → Ascending (pages_of (drop k parts))
ascending_from parts zero ascends = ascends
ascending_from [] (suc k) ascends = tt
ascending_from (part ∷ parts) (suc k) ascends = ascending_from parts k (ascending_rest part parts ascends)

or_nothing : (left : Option ℤ) (old : ℤ) → unwrap_or (option_or left None) old ≡ unwrap_or left old
or_nothing None old = refl
or_nothing (Some value) old = refl

module _ (config : Config) (word : ℕ) where
  left_elsewhere : (part : Part) → part.page ≢ page_of config word → left_by_part config part word ≡ None
  left_elsewhere part other = rw (unequal_numbers part.page (page_of config word) other)

  -- parts of greater pages leave nothing in the word
  left_below : (page : ℕ) (parts : List Part) → page_of config word ≤ page → Ascending (page ∷ pages_of parts) → left_by_parts config parts word ≡ None
  left_below page [] below ascends = refl
  left_below page (part ∷ parts) below ascends =
      let above : page < part.page = ascends.0 in
      let other : part.page ≢ page_of config word = omega arith in
      let here = left_elsewhere part other in
      let rest = left_below part.page parts (omega arith) ascends.1 in
      rw (here, rest)

  -- one part is merged, and then the others
  pub one_more : (part : Part) (parts : List Part) (old : ℤ) → Ascending (pages_of (part ∷ parts)) →
      unwrap_or (left_by_parts config (part ∷ parts) word) old ≡ unwrap_or (left_by_parts config parts word) (unwrap_or (left_by_part config part word) old)
  one_more part parts old ascends = (elim (nat_eq part.page (page_of config word)) as (λ b. nat_eq part.page (page_of config word) ≡ b →
      unwrap_or (left_by_parts config (part ∷ parts) word) old ≡ unwrap_or (left_by_parts config parts word) (unwrap_or (left_by_part config part word) old)) [
        | true ↦ λ e.
            let here : page_of config word ≤ part.page = omega (arith, same_number part.page (page_of config word) e) in
            let rest = left_below part.page parts here ascends in
            rw rest (or_nothing (left_by_part config part word) old)
        | false ↦ λ e. let here = left_elsewhere part (other_number part.page (page_of config word) e) in rw here
      ]) refl

-- The parts that are left, merged now, give what all give that are merged at the start.
pub record IsMerging (parts left : List Part) (start now : Home) : Type 0 where
  pub rest : now ≡ record start { words = now.words }
  pub words : (word : ℕ) → unwrap_or (left_by_parts start.config left word) (held now word) ≡ unwrap_or (left_by_parts start.config parts word) (held start word)

pub none_merged : (parts : List Part) (start : Home) → IsMerging parts parts start start
none_merged parts start = record { rest = refl; words = λ word. refl }

module _ (parts : List Part) (start now : Home) where
  pub part_merged : (part : Part) (left : List Part) (new : Home) → Ascending (pages_of (part ∷ left)) → IsMerging parts (part ∷ left) start now →
      HasChanged (left_by_part start.config part) now new → IsMerging parts left start new
  part_merged part left new ascends before change = record {
    rest = change.rest ∙ ap (λ (home : Home). record home { words = new.words }) before.rest;
    words = λ word.
        ap (unwrap_or (left_by_parts start.config left word)) (change.words word)
        ∙ (sym (one_more start.config word part left (held now word) ascends) ∙ before.words word);
  }

  pub all_merged : IsMerging parts [] start now → HasChanged (left_by_parts start.config parts) start now
  all_merged before = record { words = before.words; rest = before.rest }
