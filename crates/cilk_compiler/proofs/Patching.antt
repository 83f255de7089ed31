-- A jump is written before the place where it leads is known, and set then.
use Rattle.std.proofs.Common.{◌≡◌, ℕ, suc, ◌+◌, List, [], ◌∷◌, ◌++◌, length, pos, sym, ap, ◌∙◌, arith, append_assoc, length-append}
use Rattle.std.specs.Prelude.{slice_set}
use Rattle.std.proofs.Math.Seq.{set-append_seam}
use Rattle.machine_code.specs.declared.instr.Instr.{Instr}
use Rattle.machine_code.specs.declared.instr.Instr.TheVariants.{Const, Not, Jump, JumpIfZero, Turn}
use Rattle.compiled_code.specs.Emitted.{and_code, or_code}

-- what stands behind one instruction, grouped from its place on
pub regroup : (a : List Instr) (x : Instr) (b c : List Instr) → ((a ++ x ∷ []) ++ b) ++ c ≡ a ++ x ∷ (b ++ c)
regroup a x b c = append_assoc (a ++ x ∷ []) b c ∙ append_assoc a (x ∷ []) (b ++ c)

one_more : (a : List Instr) (x : Instr) → length (a ++ x ∷ []) ≡ suc (length a)
one_more a x = omega (arith, length-append a (x ∷ []))

-- the instruction at a place is set
pub set_between : (a : List Instr) (x : Instr) (b c : List Instr) (y : Instr) → slice_set (((a ++ x ∷ []) ++ b) ++ c) (length a) y ≡ a ++ y ∷ (b ++ c)
set_between a x b c y = ap (λ l. slice_set l (length a) y) (regroup a x b c) ∙ set-append_seam a x (b ++ c) y

-- ---- `x && y` and `x || y`

module _ (old left : List Instr) (right : ℕ → List Instr) where
  abbrev ends : ℕ
  ends = length old + length left

  first : length (old ++ left) ≡ ends
  first = length-append old left

  pub and_patched : (at : ℕ) →
      let test = (old ++ left) ++ JumpIfZero 0 ∷ [] in
      let all = test ++ right (length test) in
      at ≡ suc (suc (suc (length all))) →
      slice_set (all ++ Not ∷ Not ∷ Jump (suc at) ∷ Const (pos 0) ∷ []) (length (old ++ left)) (JumpIfZero at)
      ≡ old ++ and_code (suc (suc (suc (suc ends + length (right (suc ends)))))) left (right (suc ends))
  and_patched at is =
      let x = JumpIfZero 0 in
      let test = (old ++ left) ++ x ∷ [] in
      let n : length test ≡ suc ends = one_more (old ++ left) x ∙ ap suc first in
      let y = right (suc ends) in
      let all : length (test ++ right (length test)) ≡ suc ends + length y = length-append test (right (length test)) ∙ (λ i. n i + length (right (n i))) in
      let there : at ≡ suc (suc (suc (suc ends + length y))) = is ∙ ap (λ k. suc (suc (suc k))) all in
      set_between (old ++ left) x (right (length test)) (Not ∷ Not ∷ Jump (suc at) ∷ Const (pos 0) ∷ []) (JumpIfZero at)
      ∙ (λ i. (old ++ left) ++ JumpIfZero (there i) ∷ (right (n i) ++ Not ∷ Not ∷ Jump (suc (there i)) ∷ Const (pos 0) ∷ []))
      ∙ append_assoc old left (JumpIfZero (suc (suc (suc (suc ends + length y)))) ∷ (y ++ Not ∷ Not ∷ Jump (suc (suc (suc (suc (suc ends + length y))))) ∷ Const (pos 0) ∷ []))

  pub or_patched : (at jump end : ℕ) → at ≡ length (old ++ left) → jump ≡ suc (suc at) →
      let test = (old ++ left) ++ JumpIfZero (suc (suc (suc at))) ∷ Const (pos 1) ∷ Jump 0 ∷ [] in
      let all = test ++ right (length test) in
      end ≡ suc (suc (length all)) →
      slice_set (all ++ Not ∷ Not ∷ []) jump (Jump end)
      ≡ old ++ or_code (suc (suc (suc ends))) left (right (suc (suc (suc ends))))
  or_patched at jump end at_is jump_is end_is =
      let x = JumpIfZero (suc (suc (suc at))) in
      let start = (old ++ left) ++ x ∷ Const (pos 1) ∷ [] in
      let test = (old ++ left) ++ x ∷ Const (pos 1) ∷ Jump 0 ∷ [] in
      let split : test ≡ start ++ Jump 0 ∷ [] = sym (append_assoc (old ++ left) (x ∷ Const (pos 1) ∷ []) (Jump 0 ∷ [])) in
      let place : length start ≡ suc (suc (length (old ++ left))) = omega (arith, length-append (old ++ left) (x ∷ Const (pos 1) ∷ [])) in
      let jumps : jump ≡ length start = jump_is ∙ ap (λ k. suc (suc k)) at_is ∙ sym place in
      let n : length test ≡ suc (suc (suc ends)) = omega (arith, first, length-append (old ++ left) (x ∷ Const (pos 1) ∷ Jump 0 ∷ [])) in
      let there : at ≡ ends = at_is ∙ first in
      let y = right (suc (suc (suc ends))) in
      let all : length (test ++ right (length test)) ≡ suc (suc (suc ends)) + length y = length-append test (right (length test)) ∙ (λ i. n i + length (right (n i))) in
      let ending : end ≡ suc (suc (suc (suc (suc ends)) + length y)) = end_is ∙ ap (λ k. suc (suc k)) all in
      (λ i. slice_set ((split i ++ right (length test)) ++ Not ∷ Not ∷ []) (jumps i) (Jump end))
      ∙ set_between start (Jump 0) (right (length test)) (Not ∷ Not ∷ []) (Jump end)
      ∙ append_assoc (old ++ left) (x ∷ Const (pos 1) ∷ []) (Jump end ∷ (right (length test) ++ Not ∷ Not ∷ []))
      ∙ (λ i. (old ++ left) ++ JumpIfZero (suc (suc (suc (there i)))) ∷ Const (pos 1) ∷ Jump (ending i) ∷ (right (n i) ++ Not ∷ Not ∷ []))
      ∙ append_assoc old left (JumpIfZero (suc (suc (suc ends))) ∷ Const (pos 1) ∷ Jump (suc (suc (suc (suc (suc ends)) + length y))) ∷ (y ++ Not ∷ Not ∷ []))

-- ---- `while`

module _ (old : List Instr) (test turn : ℕ → List Instr) where
  abbrev condition : List Instr
  condition = test (suc (length old))

  abbrev tested : ℕ
  tested = suc (suc (length old) + length condition)

  abbrev pub turn_tests : List Instr
  turn_tests = (old ++ Turn ∷ []) ++ test (length (old ++ Turn ∷ []))

  abbrev pub turn_made : List Instr
  turn_made = ((turn_tests ++ JumpIfZero 0 ∷ []) ++ turn (length (turn_tests ++ JumpIfZero 0 ∷ []))) ++ Jump (length old) ∷ []

  pub loop_patched : slice_set turn_made (length turn_tests) (JumpIfZero (length turn_made))
      ≡ old ++ (Turn ∷ (condition ++ (JumpIfZero (suc (tested + length (turn tested))) ∷ (turn tested ++ Jump (length old) ∷ []))))
  loop_patched =
      let x = JumpIfZero 0 in
      let back = Jump (length old) ∷ [] in
      let n1 : length (old ++ Turn ∷ []) ≡ suc (length old) = one_more old Turn in
      let n2 : length turn_tests ≡ suc (length old) + length condition = length-append (old ++ Turn ∷ []) (test (length (old ++ Turn ∷ []))) ∙ (λ i. n1 i + length (test (n1 i))) in
      let n3 : length (turn_tests ++ x ∷ []) ≡ tested = one_more turn_tests x ∙ ap suc n2 in
      let body = turn (length (turn_tests ++ x ∷ [])) in
      let n4 : length ((turn_tests ++ x ∷ []) ++ body) ≡ tested + length (turn tested) = length-append (turn_tests ++ x ∷ []) body ∙ (λ i. n3 i + length (turn (n3 i))) in
      let n5 : length turn_made ≡ suc (tested + length (turn tested)) = one_more ((turn_tests ++ x ∷ []) ++ body) (Jump (length old)) ∙ ap suc n4 in
      set_between turn_tests x body back (JumpIfZero (length turn_made))
      ∙ (λ i. ((old ++ Turn ∷ []) ++ test (n1 i)) ++ JumpIfZero (n5 i) ∷ (turn (n3 i) ++ back))
      ∙ regroup old Turn condition (JumpIfZero (suc (tested + length (turn tested))) ∷ (turn tested ++ back))

-- ---- `if`

module _ (old test : List Instr) (met unmet : ℕ → List Instr) where
  abbrev fork : ℕ
  fork = suc (length old + length test)

  abbrev other : ℕ
  other = suc (fork + length (met fork))

  abbrev pub choice_tests : List Instr
  choice_tests = old ++ test

  abbrev pub choice_met : List Instr
  choice_met = (choice_tests ++ JumpIfZero 0 ∷ []) ++ met (length (choice_tests ++ JumpIfZero 0 ∷ []))

  abbrev pub choice_parts : List Instr
  choice_parts = choice_met ++ Jump 0 ∷ []

  abbrev pub choice_forks : List Instr
  choice_forks = slice_set choice_parts (length choice_tests) (JumpIfZero (length choice_parts))

  abbrev pub choice_made : List Instr
  choice_made = choice_forks ++ unmet (length choice_forks)

  pub choice_patched : slice_set choice_made (length choice_met) (Jump (length choice_made))
      ≡ old ++ (test ++ (JumpIfZero other ∷ (met fork ++ (Jump (other + length (unmet other)) ∷ unmet other))))
  choice_patched =
      let n1 : length (choice_tests ++ JumpIfZero 0 ∷ []) ≡ fork = one_more choice_tests (JumpIfZero 0) ∙ ap suc (length-append old test) in
      let body = met (length (choice_tests ++ JumpIfZero 0 ∷ [])) in
      let n2 : length choice_met ≡ fork + length (met fork) = length-append (choice_tests ++ JumpIfZero 0 ∷ []) body ∙ (λ i. n1 i + length (met (n1 i))) in
      let n3 : length choice_parts ≡ other = one_more choice_met (Jump 0) ∙ ap suc n2 in
      let aimed = JumpIfZero (length choice_parts) in
      let front = choice_tests ++ aimed ∷ body in
      let forks : choice_forks ≡ front ++ Jump 0 ∷ [] =
      set_between choice_tests (JumpIfZero 0) body (Jump 0 ∷ []) aimed ∙ sym (append_assoc choice_tests (aimed ∷ body) (Jump 0 ∷ [])) in
      let lengths : length choice_met ≡ length front = omega (arith, length-append (choice_tests ++ JumpIfZero 0 ∷ []) body, length-append choice_tests (JumpIfZero 0 ∷ []), length-append choice_tests (aimed ∷ body)) in
      let n4 : length choice_forks ≡ other = ap length forks ∙ one_more front (Jump 0) ∙ ap suc (sym lengths ∙ n2) in
      let rest = unmet (length choice_forks) in
      let n5 : length choice_made ≡ other + length (unmet other) = length-append choice_forks rest ∙ (λ i. n4 i + length (unmet (n4 i))) in
      (λ i. slice_set (forks i ++ rest) (lengths i) (Jump (length choice_made)))
      ∙ ap (λ l. slice_set l (length front) (Jump (length choice_made))) (append_assoc front (Jump 0 ∷ []) rest)
      ∙ set-append_seam front (Jump 0) rest (Jump (length choice_made))
      ∙ append_assoc choice_tests (aimed ∷ body) (Jump (length choice_made) ∷ rest)
      ∙ append_assoc old test (aimed ∷ (body ++ (Jump (length choice_made) ∷ rest)))
      ∙ (λ i. old ++ (test ++ (JumpIfZero (n3 i) ∷ (met (n1 i) ++ (Jump (n5 i) ∷ unmet (n4 i))))))
