-- How flows pass: one after another, one of two, and in turns.
use Rattle.std.specs.Prelude.{◌≡◌, List, [], ◌∷◌, ◌++◌, map, Option, Some, None, if◌then◌else◌}
use Rattle.std.proofs.Common.{refl, ap, ◌∙◌, inl, inr}
use Rattle.std.specs.List.{list_any}
use Rattle.std.specs.Option.{option_or}
use Rattle.cilk_tree.specs.Lawful.Flow.{Flow, Site, At, Then, Either, Loop, sites}
use Rattle.cilk_checker.proofs.LoopSets.{added_by}
use Rattle.cilk_tree.specs.Lawful.Pending.{Pending, after_head, none, touched}
use Rattle.cilk_checker.specs.Computed.{ends, uses_pending}
use Rattle.cilk_checker.specs.declared.around.Around.{Around}
use Rattle.cilk_checker.specs.declared.path.Step.{Step}
use Rattle.cilk_checker.specs.declared.refusal.CheckRefusal.{CheckRefusal}
use Rattle.cilk_checker.specs.Courses.{Course, after_effect, step_course, flow_course, followed, either, loop}
use Rattle.cilk_checker.specs.Judged.{Judged, refusal_at, first_refusal, judged_site, judged_sites, Passes, Tells}

-- the course of a statement itself
pub step_is : (step : Step) (site : Site) → step.statement ≡ site.point.statement → step.touched ≡ touched site.point site.head → after_effect step.effect ≡ after_head site.point.scope site.head → step_course step ≡ flow_course (At site)
step_is step site p q r = λ i. record { ends = r i; uses = λ before. if list_any before (q i) then p i ∷ [] else [] }

-- of two lists of places, the refusal is that of the first, or else that of the second
pub first_of_both : (xs ys : List Judged) → first_refusal (xs ++ ys) ≡ option_or (first_refusal xs) (first_refusal ys)
first_of_both [] ys = refl
first_of_both (x ∷ xs) ys = ap (option_or (refusal_at x.place x.kinds)) (first_of_both xs ys) ∙ in_turn (refusal_at x.place x.kinds) (first_refusal xs) (first_refusal ys)
  where
    in_turn : (a b c : Option CheckRefusal) → option_or a (option_or b c) ≡ option_or (option_or a b) c
    in_turn (Some a) b c = refl
    in_turn None b c = refl

-- a loop's course, by what a turn adds
loop_is : (turn : Flow) → loop (ends turn none) (flow_course turn) ≡ flow_course (Loop turn)
loop_is turn = λ i. record { ends = λ before. added_by turn before i; uses = λ before. uses_pending turn (added_by turn before i) }

module _ (around : Around) where
  judged_both : (xs ys : List Site) → map (judged_site around) (xs ++ ys) ≡ map (judged_site around) xs ++ map (judged_site around) ys
  judged_both [] ys = refl
  judged_both (x ∷ xs) ys = ap (λ rest. judged_site around x ∷ rest) (judged_both xs ys)

  pub first_of_flows : (first second : Flow) → first_refusal (judged_sites around (Then first second)) ≡ option_or (first_refusal (judged_sites around first)) (first_refusal (judged_sites around second))
  first_of_flows first second = ap first_refusal (judged_both (sites first) (sites second)) ∙ first_of_both (judged_sites around first) (judged_sites around second)

  both_lawful : (first second : Flow) → first_refusal (judged_sites around first) ≡ None → first_refusal (judged_sites around second) ≡ None → first_refusal (judged_sites around (Then first second)) ≡ None
  both_lawful first second e f = first_of_flows first second ∙ ap (λ due. option_or due (first_refusal (judged_sites around second))) e ∙ f

  pub passes_then : (first second : Flow) (one other : Course) → Passes around first one → Passes around second other → Passes around (Then first second) (followed one other)
  passes_then first second one other p q = record { lawful = both_lawful first second p.lawful q.lawful; followed = λ i. followed (p.followed i) (q.followed i) }

  pub passes_either : (met unmet : Flow) (one other : Course) → Passes around met one → Passes around unmet other → Passes around (Either met unmet) (either one other)
  passes_either met unmet one other p q = record { lawful = both_lawful met unmet p.lawful q.lawful; followed = λ i. either (p.followed i) (q.followed i) }

  pub passes_loop : (turn : Flow) (one : Course) (added : Pending) → added ≡ one.ends none → Passes around turn one → Passes around (Loop turn) (loop added one)
  passes_loop turn one added is p = record {
    lawful = p.lawful;
    followed = ap (λ set. loop set one) is ∙ (λ i. loop ((p.followed i).ends none) (p.followed i)) ∙ loop_is turn;
  }

  -- a refusal of the first part is one of the whole
  pub stops_first : (first second : Flow) (refusal : CheckRefusal) → Tells (first_refusal (judged_sites around first)) refusal → Tells (first_refusal (judged_sites around (Then first second))) refusal
  stops_first first second refusal (inl memory) = inl memory
  stops_first first second refusal (inr due) = inr (first_of_flows first second ∙ ap (λ found. option_or found (first_refusal (judged_sites around second))) due)

  -- and so is one of the second part, where the first part is lawful
  pub stops_second : (first second : Flow) (refusal : CheckRefusal) → first_refusal (judged_sites around first) ≡ None → Tells (first_refusal (judged_sites around second)) refusal → Tells (first_refusal (judged_sites around (Then first second))) refusal
  stops_second first second refusal none (inl memory) = inl memory
  stops_second first second refusal none (inr due) = inr (first_of_flows first second ∙ ap (λ found. option_or found (first_refusal (judged_sites around second))) none ∙ due)
