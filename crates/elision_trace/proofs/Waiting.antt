-- The parents of the running instance wait for their children, in the trace of the log.
use Rattle.std.proofs.Common.{◌≡◌, ℕ, suc, ◌<◌, ◌≤◌, inl, inr, ℤ, Option, Some, List, [], ◌∷◌, ◌++◌, length, refl, sym, ◌∙◌, ap, subst, arith}
use Rattle.backer_order.specs.Edges.{IsOn}
use Rattle.backer_order.specs.Log.{Spawn, Event, Acts}
use Rattle.cilk_meaning.specs.Serve.{Parent, with_child}
use Rattle.cilk_meaning.specs.Wants.{Want, Returns}
use Rattle.determinacy.specs.Replies.{Trace, children, value_in, deposits, want_at, SpawnedBefore}
use Rattle.elision_trace.proofs.Extending.{gives, as_deposit, deposits_more, child_spawned}
use Rattle.elision_trace.proofs.Sound.{Sound, OneMore, Allowed, acts_stood}
use Rattle.elision_trace.proofs.Standing.{Stands, block_unmoved, quiet_other, stands_still}
use Rattle.elision_trace.specs.Tracing.{frame_at}
use Rattle.page_messages.specs.declared.closure.FrameId.{FrameId}
use Rattle.span_tree.specs.Program.{Starts}

-- a parent that waits for the child in this row
pub record Waits (starts : Starts) (trace : Trace) (now : ℕ) (parent : Parent) (child depth : ℕ) : Type 0 where
  pub block : List FrameId
  pub stands : Stands starts trace now parent.entry depth block
  pub has_children : children trace.events now (frame_at parent.entry.row) ≡ frame_at child ∷ block
  pub target : parent.target ≡ trace.target (frame_at child)
  pub before : parent.entry.row < child

-- each waits for the one before it, and the last is `main`
abbrev pub AllWait : Starts → Trace → ℕ → ℕ → List Parent → Type 0
AllWait starts trace now child [] = child ≡ 0
AllWait starts trace now child (parent ∷ parents) =
    Waits starts trace now parent child (length parents) × AllWait starts trace now parent.entry.row parents

-- the frame of a row that a child has
pub record IsRow (rows : ℕ) (frame : FrameId) : Type 0 where
  pub row : ℕ
  pub is : frame ≡ frame_at row
  pub above : 0 < row
  pub below : row < rows

abbrev pub Numbered : Trace → ℕ → ℕ → Type 0
Numbered trace now rows = (child : FrameId) → SpawnedBefore trace.events now child → IsRow rows child

pub same_row : (row other : ℕ) → frame_at row ≡ frame_at other → row ≡ other
same_row row other is = ap (λ (i : FrameId). i.number) is

module _ (starts : Starts) (main : ℕ) (trace more : Trace) (now : ℕ) (event : Event) (sound : Sound starts main trace now)
    (one : OneMore trace more now event) where
  module _ (row : ℕ) (allowed : Allowed starts trace more now event (frame_at row)) where
    pub wait_still : (child : ℕ) (parents : List Parent) → child ≤ row → AllWait starts trace now child parents → AllWait starts more (suc now) child parents
    wait_still child [] inside waits = waits
    wait_still child (parent ∷ parents) inside waits =
        let first = waits.0 in
        let before : parent.entry.row < child = first.before in
        let quiet = quiet_other starts main trace more now event sound one (frame_at row) allowed (frame_at parent.entry.row)
        (λ same. let rows = same_row parent.entry.row row same in absurd (omega (arith, before, rows, inside))) in
        let on_block : IsOn (frame_at child) (children trace.events now (frame_at parent.entry.row)) =
        subst (λ i. IsOn (frame_at child) i) (sym first.has_children) (inl refl) in
        let spawned = child_spawned trace now (frame_at parent.entry.row) (frame_at child) on_block in (
          record {
            block = first.block;
            stands =
                stands_still starts main trace more now event sound one (frame_at row) allowed parent.entry (length parents) first.block quiet first.stands;
            has_children = block_unmoved starts main trace more now event sound one (frame_at parent.entry.row) quiet ∙ first.has_children;
            target = first.target ∙ sym (one.extends.target (frame_at child) spawned);
            before = before;
          },
          wait_still parent.entry.row parents (omega (arith, before, inside)) waits.1,
        )

  -- the children are numbered still, where the new one is
  pub numbered_more : (rows next : ℕ) → rows ≤ next → Numbered trace now rows →
      ((node : ℕ) (parent child : FrameId) → event ≡ Acts node parent (Spawn child) → IsRow next child) → Numbered more (suc now) next
  numbered_more rows next inside numbered new child spawned =
      elim (acts_stood starts main trace more now event sound one spawned.at spawned.node spawned.parent (Spawn child) spawned.is) [
        | inl old ↦
            let is_row = numbered child (record { at = spawned.at; node = spawned.node; parent = spawned.parent; before = old.0; is = old.1 }) in
            record { row = is_row.row; is = is_row.is; above = is_row.above; below = omega (arith, is_row.below, inside) }
        | inr here ↦ new spawned.node spawned.parent child here.1
      ]

-- ---- a child returns

value_is : (want : Option Want) (value : ℤ) → want ≡ Some (Returns value) → value_in want ≡ value
unfolding value_in
value_is want value is = ap value_in is

pub stands_again : (starts : Starts) (trace : Trace) (now : ℕ) (parent : Parent) (child depth : ℕ) (value : ℤ) → Waits starts trace now parent child depth →
    want_at starts trace now (frame_at child) ≡ Some (Returns value) →
    Stands starts trace now (with_child parent value) depth (children trace.events now (frame_at parent.entry.row))
stands_again starts trace now parent child depth value waits returns =
    subst (λ i. Stands starts trace now (with_child parent value) depth i) (sym waits.has_children) (record {
      goes = waits.stands.goes;
      kept =
          ap (λ i. i ++ as_deposit parent.target value ∷ []) waits.stands.kept
          ∙ ap (λ i. deposits (gives starts trace now) waits.block ++ as_deposit i value ∷ []) waits.target
          ∙ ap (λ i. deposits (gives starts trace now) waits.block ++ as_deposit (trace.target (frame_at child)) i ∷ [])
          (sym (value_is (want_at starts trace now (frame_at child)) value returns))
          ∙ sym (deposits_more (gives starts trace now) (frame_at child) waits.block);
      returned = returned;
      spawned = λ other on. child_spawned trace now (frame_at parent.entry.row) other (subst (λ i. IsOn other i) (sym waits.has_children) on);
      born = waits.stands.born;
      has_depth = waits.stands.has_depth;
    })
  where
    returned : (other : FrameId) → IsOn other (frame_at child ∷ waits.block) → (value : ℤ) × (want_at starts trace now other ≡ Some (Returns value))
    returned other (inl same) = (value, ap (λ i. want_at starts trace now i) (sym same) ∙ returns)
    returned other (inr on) = waits.stands.returned other on
