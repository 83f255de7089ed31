-- The way from a row to a place: by which acts it goes on, and into which children.
use Rattle.std.proofs.Common.{◌≡◌, ◌⊎◌, inl, inr, ℕ, zero, suc, ◌<◌, ◌≤◌, List, [], ◌∷◌, ◌++◌, Option, Some, None, length, refl, sym, ◌∙◌, ap, subst, append_assoc, arith}
use Rattle.std.proofs.lemmas.Bool.{cases_lt}
use Rattle.std.specs.Prelude.{slice_get}
use Rattle.span_tree.specs.declared.act.Act.{Act}
use Rattle.span_tree.specs.declared.act.Act.TheVariants.{Read, Write, Add, Print, Spawn, Sync}
use Rattle.span_tree.specs.declared.act.Place.{Place}
use Rattle.span_tree.specs.Dag.{NoSync, way, way_on}
use Rattle.span_tree.specs.History.{History, IsNumbered, IsPlace, row_at, act_at}
use Rattle.span_tree.proofs.Orders.{row_within}
use Rattle.span_tree.proofs.Ways.{none_is, parent_of, row_way, row_way_is, way_is}

-- The way leads from the row to the place.
abbrev pub Leads : History → ℕ → List ℕ → Place → Type 0
Leads history row [] place = ⊥
Leads history row (act ∷ []) place = place ≡ record { row = row; act = act }
Leads history row (act ∷ (next ∷ rest)) place =
    (child : ℕ) × (act_at history (record { row = row; act = act }) ≡ Some (Spawn child)) × Leads history child (next ∷ rest) place

-- an act stands at the first place of a way to an act
pub leads_from_act : (history : History) (row act : ℕ) (rest : List ℕ) (place : Place) (found : Act) → act_at history place ≡ Some found
    → Leads history row (act ∷ rest) place
    → (first : Act) × (act_at history (record { row = row; act = act }) ≡ Some first)
leads_from_act history row act [] place found is leads = (found, ap (act_at history) (sym leads) ∙ is)
leads_from_act history row act (next ∷ rest) place found is leads = (Spawn (leads.0), leads.1)

module _ (history : History) (numbered : IsNumbered history) where
  row_is_main : (row : ℕ) → row < length history → (row_at history row).parent ≡ None → row ≡ 0
  row_is_main zero within none = refl
  row_is_main (suc row) within none = let found = numbered.parent (suc row) (omega arith) within in absurd (none_is _ found.0 none found.1.named)

  way_more : (row : ℕ) (up : Place) (rest : List ℕ) → row < length history → (row_at history row).parent ≡ Some up
      → row_way history numbered up.row ++ up.act ∷ rest ≡ row_way history numbered row ++ rest
  way_more row up rest within parent =
      let before = (parent_of history numbered row up parent).before in
      sym (append_assoc (row_way history numbered up.row) (up.act ∷ []) rest)
      ∙ ap (λ front. front ++ rest) (sym (row_way_is history numbered row up parent ∙ way_is history numbered up (omega (arith, within, before))))

  leads_on : (row : ℕ) (up : Place) (rest : List ℕ) (place : Place) → act_at history up ≡ Some (Spawn row) → Leads history row rest place
      → Leads history up.row (up.act ∷ rest) place
  leads_on row up [] place spawns leads = absurd leads
  leads_on row up (next ∷ rest) place spawns leads = (row, spawns, leads)

  leads_within : (bound row : ℕ) (rest : List ℕ) (place : Place) → row < bound → row < length history → Leads history row rest place
      → Leads history 0 (row_way history numbered row ++ rest) place
  leads_within zero row rest place less within leads = absurd (omega (arith, less))
  leads_within (suc bound) row rest place less within leads = on (row_at history row).parent refl
      (λ up before leads. leads_within bound up.row (up.act ∷ rest) place (omega (arith, before, less)) (omega (arith, before, within)) leads)
    where
      on : (parent : Option Place) → (row_at history row).parent ≡ parent
          → ((up : Place) → up.row < row → Leads history up.row (up.act ∷ rest) place
          → Leads history 0 (row_way history numbered up.row ++ up.act ∷ rest) place)
          → Leads history 0 (row_way history numbered row ++ rest) place
      on None parent up =
          subst (λ front. Leads history 0 (front ++ rest) place) (sym (ap (way_on (way history)) parent))
          (subst (λ number. Leads history number rest place) (row_is_main row within parent) leads)
      on (Some above) parent up =
          let is = parent_of history numbered row above parent in
          subst (λ whole. Leads history 0 whole place) (way_more row above rest within parent)
          (up above is.before (leads_on row above rest place is.spawns leads))

  -- the way of a place leads to it
  pub way_leads : (place : Place) → IsPlace history place → Leads history 0 (way history place) place
  way_leads place is =
      let within = row_within history numbered place.row place refl is in
      subst (λ whole. Leads history 0 whole place) (sym (way_is history numbered place within))
      (leads_within (suc place.row) place.row (place.act ∷ []) place (omega arith) within refl)

-- ---- a Sync between two acts

pub record SyncBetween (acts : List Act) (first last : ℕ) : Type 0 where
  pub at : ℕ
  pub behind : first < at
  pub up_to : at ≤ last
  pub is : slice_get acts at ≡ Some Sync

is_sync : (act : Option Act) → (act ≡ Some Sync) ⊎ (act ≡ Some Sync → ⊥)
is_sync None = inr (λ is. cc)
is_sync (Some (Read word value)) = inr (λ is. cc)
is_sync (Some (Write word value)) = inr (λ is. cc)
is_sync (Some (Add word old addend)) = inr (λ is. cc)
is_sync (Some (Print value)) = inr (λ is. cc)
is_sync (Some (Spawn child)) = inr (λ is. cc)
is_sync (Some Sync) = inl refl

pub sync_or_none : (acts : List Act) (first last : ℕ) → first < last → SyncBetween acts first last ⊎ NoSync acts first last
sync_or_none acts first zero less = absurd (omega (arith, less))
sync_or_none acts first (suc last) less = on (is_sync (slice_get acts (suc last))) (cases_lt first last) (λ less. sync_or_none acts first last less)
  where
    none : (slice_get acts (suc last) ≡ Some Sync → ⊥) → ((place : ℕ) → first < place → place ≤ last → slice_get acts place ≡ Some Sync → ⊥)
        → NoSync acts first (suc last)
    none not rest = λ place behind up_to is. elim (cases_lt place (suc last)) [
      | inl earlier ↦ rest place behind (omega (arith, earlier)) is
      | inr here ↦ not (let same : place ≡ suc last = omega (arith, here, up_to) in subst (λ it. slice_get acts it ≡ Some Sync) same is)
    ]

    on : (slice_get acts (suc last) ≡ Some Sync) ⊎ (slice_get acts (suc last) ≡ Some Sync → ⊥) → (first < last) ⊎ (last ≤ first)
        → (first < last → SyncBetween acts first last ⊎ NoSync acts first last)
        → SyncBetween acts first (suc last) ⊎ NoSync acts first (suc last)
    on (inl is) which rest = inl (record { at = suc last; behind = less; up_to = omega arith; is = is })
    on (inr not) (inr past) rest = inr (none not (λ place behind up_to is. absurd (omega (arith, past, behind, up_to))))
    on (inr not) (inl more) rest = by (rest more)
      where
        by : SyncBetween acts first last ⊎ NoSync acts first last → SyncBetween acts first (suc last) ⊎ NoSync acts first (suc last)
        by (inl sync) = inl (record { at = sync.at; behind = sync.behind; up_to = (let up_to = sync.up_to in omega (arith, up_to)); is = sync.is })
        by (inr quiet) = inr (none not quiet)
