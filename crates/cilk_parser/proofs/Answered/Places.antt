-- An element of a list at its place.
use Rattle.std.proofs.Common.{◌≡◌, ℕ, zero, suc, ◌+◌, ◌<◌, Some, List, [], ◌∷◌, ◌++◌, length, slice_get, refl, ap, ◌∙◌, sym, arith}
use Rattle.std.proofs.lemmas.Option.{same_Some}

-- The item has this place, behind the first ones.
pub record IsThere {T : Type 0} (items : List T) (place : ℕ) (item : T) : Type 0 where
  pub first : List T
  pub last : List T
  pub same : items ≡ first ++ item ∷ last
  pub size : length first ≡ place

pub split_there : {T : Type 0} (items : List T) (place : ℕ) (item : T) → slice_get items place ≡ Some item → IsThere items place item
split_there [] place item e = absurd (cc)
split_there (other ∷ items) zero item e = record { first = []; last = items; same = ap (λ i. i ∷ items) (same_Some other item e); size = refl }
split_there (other ∷ items) (suc place) item e =
    let h = split_there items place item e in
    record { first = other ∷ h.first; last = h.last; same = ap (λ i. other ∷ i) h.same; size = ap suc h.size }

pub there_behind : {T : Type 0} (first : List T) (item : T) (last : List T) → slice_get (first ++ item ∷ last) (length first) ≡ Some item
there_behind [] item last = refl
there_behind (other ∷ first) item last = there_behind first item last

pub some_there : {T : Type 0} (items : List T) (place : ℕ) → place < length items → (item : T) × (slice_get items place ≡ Some item)
some_there [] place less = absurd (omega arith)
some_there (item ∷ items) zero less = (item, refl)
some_there (item ∷ items) (suc place) less = some_there items place (omega arith)

pub there_in_front : {T : Type 0} (items more : List T) (place : ℕ) → place < length items → slice_get (items ++ more) place ≡ slice_get items place
there_in_front [] more place less = absurd (omega arith)
there_in_front (item ∷ items) more zero less = refl
there_in_front (item ∷ items) more (suc place) less = there_in_front items more place (omega arith)

pub there_behind_front : {T : Type 0} (items more : List T) (place : ℕ) → slice_get (items ++ more) (length items + place) ≡ slice_get more place
there_behind_front [] more place = ap (slice_get more) (omega arith)
there_behind_front (item ∷ items) more place = ap (slice_get (item ∷ (items ++ more))) (next (length items) place) ∙ there_behind_front items more place
  where
    next : (n m : ℕ) → suc n + m ≡ suc (n + m)
    next n m = omega arith

-- Where an item stands in two lists, one behind the other.
pub data Stands {T : Type 0} (first : List T) (item : T) (last ones others : List T) : Type 0 where
  InFront : (rest : List T) (same : ones ≡ first ++ item ∷ rest) → Stands first item last ones others
  Behind : (between : List T) (first_is : first ≡ ones ++ between) (same : others ≡ between ++ item ∷ last) → Stands first item last ones others

pub stands_where : {T : Type 0} (first : List T) (item : T) (last ones others : List T) → first ++ item ∷ last ≡ ones ++ others → Stands first item last ones others
stands_where first item last [] others e = Behind first refl (sym e)
stands_where [] item last (one ∷ ones) others e = InFront ones (ap (λ o. o ∷ ones) (cc))
stands_where (other ∷ first) item last (one ∷ ones) others e = further other first item last one ones others (cc) (stands_where first item last ones others (cc))
  where
    further : {T : Type 0} (other : T) (first : List T) (item : T) (last : List T) (one : T) (ones others : List T) → other ≡ one → Stands first item last ones others →
        Stands (other ∷ first) item last (one ∷ ones) others
    further other first item last one ones others e (InFront rest same) = InFront rest (cc)
    further other first item last one ones others e (Behind between first_is same) = Behind between (cc) same
