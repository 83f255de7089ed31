-- In the walk each frame stands behind its parent.
use Rattle.std.proofs.Common.{◌≡◌, ◌⊎◌, inl, inr, ℕ, zero, suc, ◌+◌, ◌<◌, ◌≤◌, List, [], ◌∷◌, ◌++◌, Bool, true, false, cond, refl, sym, ◌∙◌, ap, arith}
use Rattle.std.specs.List.{Contains}
use Rattle.page_messages.specs.declared.closure.FrameId.{FrameId}
use Rattle.cluster_rules.specs.Lives.{same_frame, main_id}
use Rattle.cluster_rules.specs.Histories.{Birth, row_number}
use Rattle.cluster_rules.proofs.Marks.{same_self, same_name}
use Rattle.run_history.proofs.Walk.{one, times, children, walk, walk_all}
use Rattle.run_history.proofs.Counts.{times_self}
use Rattle.run_history.proofs.Numbers.{turned, children_in, one_birth, child_birth, child_counts}

module _ (births : List Birth) (once : (frame : FrameId) → times frame (children_in births) ≤ 1) where
  -- the parent of the frame is among these
  abbrev pub HasParent : List FrameId → FrameId → Type 0
  HasParent seen frame = (birth : Birth) → Contains births birth → birth.child ≡ frame → 1 ≤ times birth.parent seen

  -- the parent of each frame is among these, or stands before it
  abbrev pub IsLed : List FrameId → List FrameId → Type 0
  IsLed seen [] = Unit {0}
  IsLed seen (frame ∷ list) = HasParent seen frame × IsLed (frame ∷ seen) list

  led_more : (seen more : List FrameId) → ((frame : FrameId) → 1 ≤ times frame seen → 1 ≤ times frame more) → (list : List FrameId) → IsLed seen list
      → IsLed more list
  led_more seen more all [] led = tt
  led_more seen more all (frame ∷ list) led = (
    (λ birth there child. all birth.parent (led.0 birth there child)),
    led_more (frame ∷ seen) (frame ∷ more) (λ other some. both other (same_frame other frame) some) list led.1,
  )
    where
      both : (other : FrameId) (b : Bool) → 1 ≤ one b + times other seen → 1 ≤ one b + times other more
      both other true some = omega arith
      both other false some = let rest = all other (omega (arith, some)) in omega (arith, rest)

  led_both : (seen front back : List FrameId) → IsLed seen front → IsLed seen back → IsLed seen (front ++ back)
  led_both seen [] back led led' = led'
  led_both seen (frame ∷ front) back led led' =
      (led.0, led_both (frame ∷ seen) front back led.1 (led_more seen (frame ∷ seen) (λ other some. omega (arith, some)) back led'))

  led_all : (seen : List FrameId) (walked : FrameId → List FrameId) (all : List FrameId) → ((frame : FrameId) → 1 ≤ times frame all → IsLed seen (walked frame))
      → (list : List FrameId) → ((frame : FrameId) → 1 ≤ times frame list → 1 ≤ times frame all) → IsLed seen (walk_all walked list)
  led_all seen walked all each [] inside = tt
  led_all seen walked all each (frame ∷ list) inside =
      led_both seen (walked frame) (walk_all walked list) (each frame (inside frame (let self = times_self frame list in omega (arith, self))))
      (led_all seen walked all each list (λ other some. inside other (omega (arith, some))))

  led_walk : (depth : ℕ) (seen : List FrameId) (frame : FrameId) → HasParent seen frame → IsLed seen (walk births depth frame)
  led_walk zero seen frame has = (has, tt)
  led_walk (suc depth) seen frame has = (
    has,
    led_all (frame ∷ seen) (walk births depth) (children births frame) (λ child is. led_walk depth (frame ∷ seen) child (child_has child is))
        (children births frame) (λ other some. some),
  )
    where
      child_has : (child : FrameId) → 1 ≤ times child (children births frame) → HasParent (frame ∷ seen) child
      child_has child is birth there names =
          let it = child_birth births frame child is in
          let same : it.birth ≡ birth = one_birth births once it.birth birth it.there there (it.child_is ∙ sym names) in
          let parent : birth.parent ≡ frame = ap (λ (one : Birth). one.parent) (sym same) ∙ it.parent_is in
          let here = ap (λ one_of. one (same_frame one_of frame)) parent ∙ ap one (same_self frame) in
          omega (arith, here)

  led_before : (seen list : List FrameId) → IsLed seen list → (birth : Birth) → Contains births birth → 1 ≤ times birth.child list
      → (1 ≤ times birth.parent seen) ⊎ (row_number list birth.parent < row_number list birth.child)
  led_before seen [] led birth there some = absurd (omega (arith, some))
  led_before seen (first ∷ list) led birth there some = on (same_frame first birth.child) refl (led_before (first ∷ seen) list led.1 birth there)
    where
      later : (b : Bool) → same_frame first birth.parent ≡ b
          → (1 ≤ times birth.parent (first ∷ seen)) ⊎ (row_number list birth.parent < row_number list birth.child)
          → (1 ≤ times birth.parent seen) ⊎ (cond b 0 (suc (row_number list birth.parent)) < suc (row_number list birth.child))
      later true is found = inr (omega arith)
      later false is (inl was) = inl (let none = ap one (turned first birth.parent false is) in omega (arith, was, none))
      later false is (inr less) = inr (omega (arith, less))

      on : (b : Bool) → same_frame first birth.child ≡ b
          → (1 ≤ times birth.child list → (1 ≤ times birth.parent (first ∷ seen)) ⊎ (row_number list birth.parent < row_number list birth.child))
          → (1 ≤ times birth.parent seen) ⊎ (row_number (first ∷ list) birth.parent < cond b 0 (suc (row_number list birth.child)))
      on true is rest = inl (led.0 birth there (sym (same_name first birth.child is)))
      on false is rest = later (same_frame first birth.parent) refl (rest (let none = ap one (turned first birth.child false is) in omega (arith, some, none)))

  -- A child's number is greater than its parent's.
  pub parent_before : times main_id (children_in births) ≡ 0 → (depth : ℕ) (birth : Birth) → Contains births birth
      → 1 ≤ times birth.child (walk births depth main_id)
      → row_number (walk births depth main_id) birth.parent < row_number (walk births depth main_id) birth.child
  parent_before never depth birth there some = elim (led_before [] (walk births depth main_id) (led_walk depth [] main_id main_has) birth there some) [
    | inl none ↦ absurd (omega (arith, none))
    | inr less ↦ less
  ]
    where
      main_has : HasParent [] main_id
      main_has other is names =
          let counts = child_counts births other is in let none = ap (λ it. times it (children_in births)) names in absurd (omega (arith, counts, none, never))
