-- Joins of which one has changed.
use Rattle.std.proofs.Common.{◌≡◌, ℕ, ◌<◌, ◌≤◌, true, false, cond, nat_eq, List, [], ◌∷◌, Some, None, Option, refl, sym, ap, ◌∙◌, subst, arith, Less, Equal, Greater}
use Rattle.std.specs.Prelude.{ℤ, IsSome}
use Rattle.std.specs.BTreeMap.{BTreeMap, Updates, insert_entry, is_at}
use Rattle.std.specs.Cmp.{unsigned_tied, unsigned_Decides, nat_eq_equiv}
use Rattle.std.specs.Map.{lookup, update}
use Rattle.std.specs.Ordering.{nat_cmp, is_eq, match_ordering}
use Rattle.edge_rule.specs.Joins.{AreJoins, Join, Joins, Values, join_at, is_complete, left_of, value_of}

-- a map is read by the equality of its keys
pub read_at : {X : Type 0} (key : ℕ) (entries : List (ℕ × X)) → lookup (is_at (nat_cmp key)) entries ≡ lookup (nat_eq key) entries
read_at key entries = ap (λ test. lookup test entries) (λ i other. unsigned_tied key other i)

-- where one value has changed
pub updated : {X : Type 0} (old new : BTreeMap ℕ X) (key : ℕ) (value : Option X) → Updates nat_cmp old new key value →
    (other : ℕ) → lookup (nat_eq other) new.entries ≡ update nat_eq (λ k. lookup (nat_eq k) old.entries) key value other
updated old new key value updates other =
    sym (read_at other new.entries) ∙ updates.0 other ∙ (λ i. cond (unsigned_tied key other i) value (read_at other old.entries i))

-- what is left of a join is not complete
pub left_incomplete : (kept join : Join) → left_of kept ≡ Some join → is_complete join ≡ false
left_incomplete kept join = (elim (is_complete kept) as (λ b. is_complete kept ≡ b → cond b None (Some kept) ≡ Some join → is_complete join ≡ false) [
  | true ↦ λ complete left. cc
  | false ↦ λ incomplete left. cc
]) refl

-- The joins of a node stay such, where one that was started has changed and is not complete.
pub still_joins : (old new : Joins) (number : ℕ) (kept : Option Join) → AreJoins old → old.started ≤ new.started → number < new.started →
    ((join : Join) → kept ≡ Some join → is_complete join ≡ false) → ((other : ℕ) → join_at new other ≡ update nat_eq (join_at old) number kept other) → AreJoins new
still_joins old new number kept are more is_started undone changed = record {
  started = λ other waits. (elim (nat_eq number other) as (λ b. nat_eq number other ≡ b → IsSome (cond b kept (join_at old other)) → other < new.started) [
    | true ↦ λ same _. subst (λ n. n < new.started) ((unsigned_Decides number other).0 same) is_started
    | false ↦ λ apart before. let was = are.started other before in omega arith
  ]) refl (subst IsSome (changed other) waits);
  incomplete = λ other join is. (elim (nat_eq number other) as (λ b. cond b kept (join_at old other) ≡ Some join → is_complete join ≡ false) [
    | true ↦ undone join
    | false ↦ are.incomplete other join
  ]) (sym (changed other) ∙ is);
}

-- ---- the value of a child that comes

same_key : (index key : ℕ) → nat_cmp index key ≡ Equal → index ≡ key
same_key index key equal = (unsigned_Decides index key).0 (sym (unsigned_tied index key) ∙ ap is_eq equal)

other_key : (index key : ℕ) → nat_cmp index key ≡ Greater → nat_eq index key ≡ false
other_key index key greater = sym (unsigned_tied index key) ∙ ap is_eq greater

module _ (index : ℕ) (value : ℤ) (other : ℕ) where
  replaced : (key : ℕ) (old : ℤ) (rest : Option ℤ) → index ≡ key → cond (nat_eq other key) (Some value) rest ≡ cond (nat_eq index other) (Some value) (cond (nat_eq other key) (Some old) rest)
  replaced key old rest same =
      ap (λ b. cond b (Some value) rest) turned
      ∙ elim (nat_eq index other) as (λ b. cond b (Some value) rest ≡ cond b (Some value) (cond b (Some old) rest)) [ true ↦ refl | false ↦ refl ]
      ∙ ap (λ b. cond (nat_eq index other) (Some value) (cond b (Some old) rest)) (sym turned)
    where
      turned : nat_eq other key ≡ nat_eq index other
      turned = ap (nat_eq other) (sym same) ∙ nat_eq_equiv.symm other index

  passed : (key : ℕ) (old : ℤ) (new rest : Option ℤ) → nat_eq index key ≡ false → new ≡ cond (nat_eq index other) (Some value) rest →
      cond (nat_eq other key) (Some old) new ≡ cond (nat_eq index other) (Some value) (cond (nat_eq other key) (Some old) rest)
  passed key old new rest apart step = (elim (nat_eq other key) as (λ b. nat_eq other key ≡ b → cond b (Some old) new ≡ cond (nat_eq index other) (Some value) (cond b (Some old) rest)) [
    | true ↦ λ same.
        let elsewhere : nat_eq index other ≡ false = ap (nat_eq index) ((unsigned_Decides other key).0 same) ∙ apart in
        ap (λ b. cond b (Some value) (Some old)) (sym elsewhere)
    | false ↦ λ _. step
  ]) refl

-- Its value stands at its index, and each other one as before.
pub value_with : (came : Values) (index : ℕ) (value : ℤ) (other : ℕ) → value_of (insert_entry nat_cmp came index value) other ≡ update nat_eq (value_of came) index (Some value) other
value_with [] index value other = ap (λ b. cond b (Some value) None) (nat_eq_equiv.symm other index)
value_with ((key, old) ∷ came) index value other = (elim (nat_cmp index key) as (λ order. nat_cmp index key ≡ order →
    value_of (match_ordering order ((index, value) ∷ (key, old) ∷ came) ((key, value) ∷ came) ((key, old) ∷ insert_entry nat_cmp came index value)) other
    ≡ update nat_eq (value_of ((key, old) ∷ came)) index (Some value) other) [
      | Less ↦ λ _. ap (λ b. cond b (Some value) (value_of ((key, old) ∷ came) other)) (nat_eq_equiv.symm other index)
      | Equal ↦ λ equal. replaced index value other key old (value_of came other) (same_key index key equal)
      | Greater ↦ λ greater. passed index value other key old (value_of (insert_entry nat_cmp came index value) other) (value_of came other) (other_key index key greater) (value_with came index value other)
    ]) refl
