-- A join that something came to, and that is over where it is complete.
use Rattle.std.proofs.Common.{◌≡◌, ℕ, ◌<◌, true, cond, nat_eq, Some, None, Result, Ok, Err, refl, sym, ap, ◌∙◌, arith}
use Rattle.std.proofs.lemmas.Map.{update-update}
use Rattle.std.proofs.lemmas.Map.Steps.{set_value_same}
use Rattle.std.specs.Prelude.{OnErr, is_some}
use Rattle.std.specs.BTreeMap.{BTreeMap, Updates, is_at}
use Rattle.std.specs.Map.{lookup, set_value, update}
use Rattle.std.specs.Option.{option_map, unwrap_or}
use Rattle.std.specs.Ordering.{nat_cmp}
use Rattle.edge_rule.specs.Joins.{AreJoins, ChangesJoin, Join, fresh, given_back, is_complete, joined, left_of}
use Rattle.edge_rule.proofs.Changing.{left_incomplete, read_at, still_joins, updated}

-- what is said of an error, where it holds anyway
pub on_err : {T E P : Type 0} (result : Result T E) → P → OnErr result P
on_err (Ok value) p = tt
on_err (Err error) p = p

-- ---- the join of one number

module _ (map : BTreeMap ℕ Join) (number : ℕ) (join : Join) (is : lookup (is_at (nat_cmp number)) map.entries ≡ Some join) where
  pub kept_is : unwrap_or (lookup (nat_eq number) map.entries) fresh ≡ join
  kept_is = ap (λ kept. unwrap_or kept fresh) (sym (read_at number map.entries) ∙ is)

  -- and it was started
  pub is_started : (node started : ℕ) → AreJoins (record { node = node; started = started; waiting = map.entries }) → number < started
  is_started node started are = are.started number (ap is_some (sym (read_at number map.entries) ∙ is))

  module _ (complete : is_complete join ≡ true) where
    pub complete_gives : given_back (unwrap_or (lookup (nat_eq number) map.entries) fresh) ≡ option_map (joined join.came) join.parked
    complete_gives = ap given_back kept_is ∙ ap (λ b. cond b (option_map (joined join.came) join.parked) None) complete

    pub complete_leaves : left_of (unwrap_or (lookup (nat_eq number) map.entries) fresh) ≡ None
    complete_leaves = ap left_of kept_is ∙ ap (λ b. cond b None (Some join)) complete

-- ---- first something comes to it, then it is over where it is complete

module _ (old come new : BTreeMap ℕ Join) (number : ℕ) (kept : Join) (comes : Updates nat_cmp old come number (Some kept)) where
  pub kept_then : unwrap_or (lookup (nat_eq number) come.entries) fresh ≡ kept
  kept_then = ap (λ there. unwrap_or there fresh) (sym (read_at number come.entries) ∙ comes.1)

  module _ (closes : (other : ℕ) → lookup (nat_eq other) new.entries
      ≡ update nat_eq (λ q. lookup (nat_eq q) come.entries) number (left_of (unwrap_or (lookup (nat_eq number) come.entries) fresh)) other) where
    pub settled : (other : ℕ) → lookup (nat_eq other) new.entries ≡ update nat_eq (λ q. lookup (nat_eq q) old.entries) number (left_of kept) other
    settled other =
        closes other
        ∙ (λ i. update nat_eq (λ q. updated old come number (Some kept) comes q i) number (left_of (kept_then i)) other)
        ∙ update-update nat_eq (λ q. lookup (nat_eq q) old.entries) number (Some kept) (left_of kept) other

    pub settled_changes : (node started : ℕ) (wanted : Join) → kept ≡ wanted →
        ChangesJoin (record { node = node; started = started; waiting = old.entries }) (record { node = node; started = started; waiting = new.entries }) number (left_of wanted)
    settled_changes node started wanted is = record {
      node = refl;
      started = refl;
      joins = λ other. settled other ∙ ap (λ join. update nat_eq (λ q. lookup (nat_eq q) old.entries) number (left_of join) other) is;
    }

    -- the joins of the node are such as before
    module _ (node started : ℕ) (are : AreJoins (record { node = node; started = started; waiting = old.entries })) (within : number < started) where
      pub settled_joins : AreJoins (record { node = node; started = started; waiting = new.entries })
      settled_joins =
          still_joins (record { node = node; started = started; waiting = old.entries }) (record { node = node; started = started; waiting = new.entries })
          number (left_of kept) are (omega arith) within (left_incomplete kept) settled

-- ---- nothing came to it

pub unchanged : (old : BTreeMap ℕ Join) (number : ℕ) (join : Join) → lookup (is_at (nat_cmp number)) old.entries ≡ Some join →
    (new : BTreeMap ℕ Join) (kept : Join) → kept ≡ join → new.entries ≡ set_value (is_at (nat_cmp number)) old.entries kept → new.entries ≡ old.entries
unchanged old number join is new kept same set =
    set ∙ ap (set_value (is_at (nat_cmp number)) old.entries) same ∙ set_value_same (is_at (nat_cmp number)) old.entries join is
