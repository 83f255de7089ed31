-- What a history keeps beside its rows, after one act more.
use Rattle.std.proofs.Common.{◌≡◌, ◌≢◌, ◌⊎◌, ℕ, ◌<◌, ◌≤◌, List, [], ◌∷◌, ◌++◌, length, get_or, Some, Result, Ok, Err, sym, ap, ◌∙◌, subst, inl, inr, arith}
use Rattle.std.proofs.lemmas.Bool.{cases_lt}
use Rattle.std.proofs.lemmas.List.{set-append_left, get_or_append_left, get_or_default}
use Rattle.std.specs.Prelude.{ℤ, true, ◌^◌, OnOk, OnErr, slice_set}
use Rattle.span_tree.specs.declared.act.Act.{Act}
use Rattle.span_tree.specs.declared.act.Act.TheVariants.{Spawn}
use Rattle.span_tree.specs.declared.act.Place.{Place}
use Rattle.span_tree.specs.History.{Row, History, no_row, row_at}
use Rattle.span_tree.specs.Kept.{IsKept}
use Rattle.span_tree.specs.Recording.{with_act, next_place, child_row, with_child, IsOpen, spawns_none}
use Rattle.span_tree.proofs.Ways.{no_row_past}
use Rattle.span_tree.proofs.Growing.{same_or, with_length, with_other, act_order, act_numbered, open_inside, child_length, child_order, child_numbered, new_row, old_row}

-- a row that was read
pub parent_read : (rows : History) (row : ℕ) (read : Row) → row < length rows → read ≡ get_or rows row read → read.parent ≡ (row_at rows row).parent
parent_read rows row read lt e = ap (λ (r : Row). r.parent) (e ∙ get_or_default rows row read no_row lt)

pub len_read : (rows : History) (row : ℕ) (read : Row) → row < length rows → read ≡ get_or rows row read → length read.acts ≡ length (row_at rows row).acts
len_read rows row read lt e = ap (λ (r : Row). length r.acts) (e ∙ get_or_default rows row read no_row lt)

module _ (rows : History) (places : List Place) (kept : IsKept rows places) (row : ℕ) (runs : IsOpen rows row) where
  pub inside : row < length rows
  inside = open_inside rows kept.numbered row runs

  pub act_within : (act : Act) → length (row_at (with_act row act rows) row).acts < 2 ^ 32 → (q : ℕ) → length (row_at (with_act row act rows) q).acts < 2 ^ 32
  act_within act lt q = go (same_or q row)
    where
      go : (q ≡ row) ⊎ (q ≢ row) → length (row_at (with_act row act rows) q).acts < 2 ^ 32
      go (inl same) = subst (λ r. length (row_at (with_act row act rows) r).acts < 2 ^ 32) (sym same) lt
      go (inr ne) = subst (λ (r : Row). length r.acts < 2 ^ 32) (sym (with_other rows row act inside q ne)) (kept.within.acts q)

  with_act_kept : (act : Act) → spawns_none act ≡ true → length (row_at (with_act row act rows) row).acts < 2 ^ 32 → IsKept (with_act row act rows) (places ++ next_place row rows ∷ [])
  with_act_kept act plain lt = record {
    numbered = act_numbered rows kept.numbered row act runs plain;
    within = record { rows = subst (λ n. n ≤ 2 ^ 32) (sym (with_length rows row act inside)) kept.within.rows; acts = act_within act lt };
    order = ap (λ l. l ++ next_place row rows ∷ []) kept.order ∙ sym (act_order rows kept.numbered row act runs plain);
  }

  pub pushed : (rows' : History) (places' : List Place) (act : Act) → spawns_none act ≡ true → {A B : Type 0} (result : Result A B) → OnOk result (rows' ≡ with_act row act rows) →
      OnOk result (length (row_at rows' row).acts < 2 ^ 32) → OnOk result (places' ≡ places ++ next_place row rows ∷ []) → OnErr result (rows' ≡ rows) → OnErr result (places' ≡ places) → IsKept rows' places'
  pushed rows' places' act plain (Ok value) is lt order err err' =
      subst (λ h. IsKept h places') (sym is) (subst (λ l. IsKept (with_act row act rows) l) (sym order) (with_act_kept act plain (subst (λ h. length (row_at h row).acts < 2 ^ 32) is lt)))
  pushed rows' places' act plain (Err error) ok lt ok' is order = subst (λ h. IsKept h places') (sym is) (subst (λ l. IsKept rows l) (sym order) kept)

  -- ---- a child

  module _ (proc : ℕ) (args : List ℤ) where
    abbrev born : History
    born = rows ++ child_row row proc args rows ∷ []

    abbrev child : Act
    child = Spawn (length rows)

    born_row : row_at born row ≡ row_at rows row
    born_row = get_or_append_left rows (child_row row proc args rows ∷ []) no_row row inside

    -- the child's row first, and then the act
    pub child_first : with_act row child born ≡ with_child row proc args rows
    child_first =
        set-append_left rows (child_row row proc args rows ∷ []) row (record (row_at born row) { acts = (row_at born row).acts ++ child ∷ [] }) inside
        ∙ ap (λ (r : Row). slice_set rows row (record r { acts = r.acts ++ child ∷ [] }) ++ child_row row proc args rows ∷ []) born_row

    pub same_place : next_place row born ≡ next_place row rows
    same_place = ap (λ (r : Row). record { row = row; act = length r.acts }) born_row

    abbrev grown : History
    grown = with_child row proc args rows

    -- as the code makes it
    pub spawned : (rows' grown' : History) (new : Row) (index number : ℕ) → grown' ≡ rows ++ new ∷ [] → new ≡ record { parent = Some (record { row = row; act = index }); proc = proc; args = args; acts = [] } →
        index ≡ length (row_at rows row).acts → number ≡ length rows → rows' ≡ with_act row (Spawn number) grown' → rows' ≡ grown
    spawned rows' grown' new index number e is at number_is made =
        made ∙ ap (λ n. with_act row (Spawn n) grown') number_is
        ∙ ap (with_act row child) (e ∙ ap (λ r. rows ++ r ∷ []) (is ∙ ap (λ k. record { parent = Some (record { row = row; act = k }); proc = proc; args = args; acts = [] }) at))
        ∙ child_first

    child_within : (q : ℕ) → length (row_at (with_child row proc args rows) row).acts < 2 ^ 32 → length (row_at (with_child row proc args rows) q).acts < 2 ^ 32
    child_within q lt = go (cases_lt q (length rows))
      where
        near : q < length rows → length (row_at grown q).acts < 2 ^ 32
        near le =
            subst (λ (r : Row). length r.acts < 2 ^ 32) (sym (old_row rows row proc args inside q le))
            (act_within child (subst (λ (r : Row). length r.acts < 2 ^ 32) (old_row rows row proc args inside row inside) lt) q)

        past : length rows ≤ q → (q ≡ length rows) ⊎ (q ≢ length rows) → length (row_at grown q).acts < 2 ^ 32
        past le (inl same) = subst (λ r. length (row_at grown r).acts < 2 ^ 32) (sym same) (subst (λ (r : Row). length r.acts < 2 ^ 32) (sym (new_row rows row proc args inside)) (omega arith))
        past le (inr ne) =
            subst (λ (r : Row). length r.acts < 2 ^ 32) (sym (no_row_past grown q (omega (arith, le, ne, child_length rows row proc args inside)))) (omega arith)

        go : (q < length rows) ⊎ (length rows ≤ q) → length (row_at grown q).acts < 2 ^ 32
        go (inl lt') = near lt'
        go (inr le) = past le (same_or q (length rows))

    pub with_child_kept : length rows < 2 ^ 32 → length (row_at (with_child row proc args rows) row).acts < 2 ^ 32 → IsKept (with_child row proc args rows) (places ++ next_place row rows ∷ [])
    with_child_kept few lt = record {
      numbered = child_numbered rows kept.numbered row proc args runs;
      within = record { rows = omega (arith, few, child_length rows row proc args inside); acts = λ q. child_within q lt };
      order = ap (λ l. l ++ next_place row rows ∷ []) kept.order ∙ sym (child_order rows kept.numbered row proc args runs);
    }

    pub spawned_kept : (rows' grown' : History) (places' : List Place) (new : Row) (index : ℕ) → grown' ≡ rows ++ new ∷ [] → new ≡ record { parent = Some (record { row = row; act = index }); proc = proc; args = args; acts = [] } →
        index ≡ length (row_at rows row).acts → rows' ≡ grown → places' ≡ places ++ next_place row grown' ∷ [] → length rows < 2 ^ 32 → length (row_at rows' row).acts < 2 ^ 32 → IsKept rows' places'
    spawned_kept rows' grown' places' new index e is at made order few lt =
        let born_is : grown' ≡ born = e ∙ ap (λ r. rows ++ r ∷ []) (is ∙ ap (λ k. record { parent = Some (record { row = row; act = k }); proc = proc; args = args; acts = [] }) at) in
        let place = ap (λ h. next_place row h) born_is ∙ same_place in
        subst (λ h. IsKept h places') (sym made) (subst (λ l. IsKept grown l) (sym (order ∙ ap (λ p. places ++ p ∷ []) place))
        (with_child_kept few (subst (λ h. length (row_at h row).acts < 2 ^ 32) made lt)))
