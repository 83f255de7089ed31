-- The set of numbers beside a list of pages, as pages come, move and go.
use Rattle.std.proofs.Common.{◌≡◌, ℕ, true, false, cond, List, [], ◌∷◌, take, length, ◌<◌, ◌-◌, Option, Some, None, is_some, nat_eq, refl, sym, ◌∙◌, ap, subst, arith}
use Rattle.std.specs.List.{AllByRecursion, IsDistinct, list_any}
use Rattle.std.specs.Cmp.{nat_eq_equiv, unsigned_tied, unsigned_Decides}
use Rattle.std.specs.Ordering.{nat_cmp}
use Rattle.std.specs.Option.{option_map_or, option_map}
use Rattle.std.specs.Map.{keys_of, lookup_entry, set_value}
use Rattle.std.specs.BTreeMap.{is_at}
use Rattle.std.specs.BTreeSet.{BTreeSet, contains, IsEmpty, Updates}
use Rattle.std.proofs.lemmas.List.{take_all}
use Rattle.std.proofs.lemmas.Map.{lookup-remove_entry, keys-set_value}
use Rattle.std.proofs.lemmas.Map.Keys.{IsDistinct-head, IsDistinct-tail, IsDistinct-cons}
use Rattle.std.proofs.lemmas.Map.Made.{is_some-lookup}
use Rattle.lru.specs.LruCache.{promoted, lru_cache, put_entries}
use Rattle.lru.proofs.CallerLemmas.{Contains-lookup_entry}
use Rattle.lru.proofs.Pairs.{lookup-lookup_entry}
use Rattle.page_words.specs.Page.{Page}
use Rattle.page_cache.specs.Cache.{AreNumbers, is_resident, page_at, without}

-- what a set's query tells of two numbers
tied : (k q : ℕ) → is_at (nat_cmp k) q ≡ nat_eq k q
tied k q = unsigned_tied k q

-- what holds of all numbers holds of those that are left
all_left : (P : ℕ → Type 0) (k : ℕ) (pages : List (ℕ × Page)) → AllByRecursion P (keys_of pages) → AllByRecursion P (keys_of (without pages k))
all_left P k [] all = all
all_left P k (e ∷ es) (here, rest) = elim (nat_eq k e.0) as (λ b. AllByRecursion P (keys_of (cond b es (e ∷ without es k)))) [
  | true ↦ rest
  | false ↦ (here, all_left P k es rest)
]

distinct_left : (k : ℕ) (pages : List (ℕ × Page)) → IsDistinct nat_eq (keys_of pages) → IsDistinct nat_eq (keys_of (without pages k))
distinct_left k [] distinct = distinct
distinct_left k (e ∷ es) distinct = elim (nat_eq k e.0) as (λ b. IsDistinct nat_eq (keys_of (cond b es (e ∷ without es k)))) [
  | true ↦ IsDistinct-tail nat_eq e.0 (keys_of es) distinct
  | false ↦ IsDistinct-cons nat_eq e.0 (keys_of (without es k)) (all_left _ k es (IsDistinct-head nat_eq e.0 (keys_of es) distinct)) (distinct_left k es (IsDistinct-tail nat_eq e.0 (keys_of es) distinct))
]

-- a page that is not found has another number than each
others : (k : ℕ) (pages : List (ℕ × Page)) → is_resident pages k ≡ false → AllByRecursion (λ q. nat_eq k q ≡ false) (keys_of pages)
others k [] absent = tt
others k (e ∷ es) absent = (elim (nat_eq k e.0) as (λ b. nat_eq k e.0 ≡ b → is_some (cond b (Some e.1) (page_at es k)) ≡ false → AllByRecursion (λ q. nat_eq k q ≡ false) (e.0 ∷ keys_of es)) [
  | true ↦ λ is absent. cc
  | false ↦ λ is absent. (is, others k es absent)
]) refl absent

-- which page is found once another is gone
pub lookup_left : (k q : ℕ) (pages : List (ℕ × Page)) → IsDistinct nat_eq (keys_of pages) → page_at (without pages k) q ≡ cond (nat_eq k q) None (page_at pages q)
lookup_left k q pages distinct = lookup-remove_entry nat_eq_equiv (nat_eq k) (nat_eq_equiv.congr k) q pages distinct

-- only the numbers matter
pub same_numbers : (numbers : BTreeSet ℕ) (old new : List (ℕ × Page)) → keys_of new ≡ keys_of old → AreNumbers numbers old → AreNumbers numbers new
same_numbers numbers old new same are = record {
  same = λ q. are.same q ∙ is_some-lookup (nat_eq q) old ∙ ap (list_any (nat_eq q)) (sym same) ∙ sym (is_some-lookup (nat_eq q) new);
  distinct = subst (IsDistinct nat_eq) (sym same) are.distinct;
}

pub no_numbers : (numbers : BTreeSet ℕ) → IsEmpty numbers → AreNumbers numbers []
unfolding IsDistinct
no_numbers numbers empty = record { same = λ q. ap (list_any (is_at (nat_cmp q))) empty; distinct = tt }

pub numbers_added : (old new : BTreeSet ℕ) (pages : List (ℕ × Page)) (k : ℕ) (page : Page) → is_resident pages k ≡ false → Updates nat_cmp old new k true → AreNumbers old pages → AreNumbers new ((k, page) ∷ pages)
numbers_added old new pages k page absent updates are = record {
  same = λ q. updates.0 q ∙ ap (λ b. cond b true (contains nat_cmp old q)) (tied k q ∙ nat_eq_equiv.symm k q)
      ∙ elim (nat_eq q k) as (λ b. cond b true (contains nat_cmp old q) ≡ is_some (cond b (Some page) (page_at pages q))) [ true ↦ refl | false ↦ are.same q ];
  distinct = IsDistinct-cons nat_eq k (keys_of pages) (others k pages absent) are.distinct;
}

pub numbers_left : (old new : BTreeSet ℕ) (pages : List (ℕ × Page)) (k : ℕ) → Updates nat_cmp old new k false → AreNumbers old pages → AreNumbers new (without pages k)
numbers_left old new pages k updates are = record {
  same = λ q. updates.0 q ∙ ap (λ b. cond b false (contains nat_cmp old q)) (tied k q)
      ∙ elim (nat_eq k q) as (λ b. cond b false (contains nat_cmp old q) ≡ is_some (cond b None (page_at pages q))) [ true ↦ refl | false ↦ are.same q ]
      ∙ ap is_some (sym (lookup_left k q pages are.distinct));
  distinct = distinct_left k pages are.distinct;
}

-- the page at this number goes first, changed
numbers_used : (numbers : BTreeSet ℕ) (pages : List (ℕ × Page)) (k : ℕ) (page : Page) → is_resident pages k ≡ true → AreNumbers numbers pages → AreNumbers numbers ((k, page) ∷ without pages k)
numbers_used numbers pages k page resident are = record {
  same = λ q. are.same q ∙ (elim (nat_eq q k) as (λ b. nat_eq q k ≡ b → is_resident pages q ≡ is_some (cond b (Some page) (page_at (without pages k) q))) [
    | true ↦ λ is. subst (λ n. is_resident pages n ≡ true) (sym ((unsigned_Decides q k).0 is)) resident
    | false ↦ λ other. sym (ap is_some (lookup_left k q pages are.distinct ∙ ap (λ b. cond b None (page_at pages q)) (nat_eq_equiv.symm k q ∙ other)))
  ]) refl;
  distinct = IsDistinct-cons nat_eq k (keys_of (without pages k)) (others k (without pages k) gone) (distinct_left k pages are.distinct);
}
  where
    gone : is_resident (without pages k) k ≡ false
    gone = ap is_some (lookup_left k k pages are.distinct ∙ ap (λ b. cond b None (page_at pages k)) (nat_eq_equiv.refl k))

-- what the kit's cache finds
module _ (k : ℕ) (pages : List (ℕ × Page)) (page : Page) where
  set_first : (e : ℕ × Page) → lookup_entry (nat_eq k) pages ≡ Some e → set_value (nat_eq k) (e ∷ without pages k) page ≡ (k, page) ∷ without pages k
  set_first e found =
      let is : nat_eq k e.0 ≡ true = (Contains-lookup_entry (nat_eq k) pages e found).1 in
      ap (λ b. cond b ((e.0, page) ∷ without pages k) (e ∷ set_value (nat_eq k) (without pages k) page)) is ∙ ap (λ n. (n, page) ∷ without pages k) (sym ((unsigned_Decides k e.0).0 is))

  found_resident : (o : Option (ℕ × Page)) → lookup_entry (nat_eq k) pages ≡ o → is_resident pages k ≡ is_some o
  found_resident o is = ap is_some (sym (lookup-lookup_entry (nat_eq k) pages) ∙ ap (option_map (λ e. e.1)) is) ∙ elim o as (λ p. is_some (option_map (λ e. e.1) p) ≡ is_some p) [ None ↦ refl | Some e ↦ refl ]

  -- where the page is resident, what it makes of a page that was used and then changed
  pub set_promoted : is_resident pages k ≡ true → set_value (nat_eq k) (promoted (nat_eq k) pages) page ≡ (k, page) ∷ without pages k
  set_promoted resident = (elim (lookup_entry (nat_eq k) pages) as (λ o. lookup_entry (nat_eq k) pages ≡ o → set_value (nat_eq k) (option_map_or (λ e. e ∷ without pages k) o pages) page ≡ (k, page) ∷ without pages k) [
    | None ↦ λ none. let never = found_resident None none in cc
    | Some e ↦ λ found. set_first e found
  ]) refl

  -- the numbers are the same, resident or not
  pub numbers_promoted : (numbers : BTreeSet ℕ) → AreNumbers numbers pages → AreNumbers numbers (set_value (nat_eq k) (promoted (nat_eq k) pages) page)
  numbers_promoted numbers are = (elim (lookup_entry (nat_eq k) pages) as (λ o. lookup_entry (nat_eq k) pages ≡ o → AreNumbers numbers (set_value (nat_eq k) (option_map_or (λ e. e ∷ without pages k) o pages) page)) [
    | None ↦ λ none. same_numbers numbers pages _ (keys-set_value (nat_eq k) pages page) are
    | Some e ↦ λ found. subst (AreNumbers numbers) (sym (set_first e found)) (numbers_used numbers pages k page (found_resident (Some e) found) are)
  ]) refl

  pub numbers_kept : (numbers : BTreeSet ℕ) → AreNumbers numbers pages → AreNumbers numbers (set_value (nat_eq k) pages page)
  numbers_kept numbers = same_numbers numbers pages _ (keys-set_value (nat_eq k) pages page)

  -- what it makes of a new page, where it has room
  pub put_absent : (capacity : ℕ) → length pages < capacity → is_resident pages k ≡ false → put_entries nat_eq (lru_cache pages capacity) k page ≡ (k, page) ∷ pages
  put_absent capacity room absent = (elim (lookup_entry (nat_eq k) pages) as (λ o. lookup_entry (nat_eq k) pages ≡ o → option_map_or (λ e. (e.0, page) ∷ without pages k) o ((k, page) ∷ take (capacity - 1) pages) ≡ (k, page) ∷ pages) [
    | None ↦ λ none. ap (λ es. (k, page) ∷ es) (take_all (capacity - 1) pages (omega arith))
    | Some e ↦ λ found. let never = found_resident (Some e) found in cc
  ]) refl
