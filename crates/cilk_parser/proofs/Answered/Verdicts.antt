-- The machine's answer tells the first fault of the tokens, or what is at their end.
use Rattle.std.proofs.Common.{◌≡◌, inl, inr, ℕ, ◌<◌, ◌≤◌, Some, List, [], ◌∷◌, ◌++◌, length, slice_get, refl, sym, ◌∙◌, subst, arith, append-nil}
use Rattle.std.proofs.lemmas.List.{map-append, length-map}
use Rattle.std.proofs.lemmas.Option.{slice_get_within}
use Rattle.cilk_tree.specs.declared.kind.Kind.{Kind}
use Rattle.cilk_tree.specs.declared.kind.Kind.TheVariants.{BadByte, BadNumber, Unexpected, TooDeep, TooMany}
use Rattle.cilk_tree.specs.declared.token.Placed.{Placed}
use Rattle.cilk_tree.specs.declared.token.Token.{Token}
use Rattle.cilk_tree.specs.Kind.{kind_number}
use Rattle.cilk_tree.specs.Lexeme.{tokens_of}
use Rattle.cilk_tree.specs.Spelling.{IsTokenFault, IsUnexpected}
use Rattle.cilk_tree.specs.Syntax.{Empty}
use Rattle.cilk_parser.specs.declared.parser.End.{End}
use Rattle.cilk_parser.specs.declared.tallies.Tallies.{Tallies}
use Rattle.cilk_parser.specs.Run.{Answer, Refused, Tallied, Within, Over, at_end, if_within, judge, walk}
use Rattle.cilk_parser.specs.Steps.{Items, Next, finish}
use Rattle.cilk_parser.specs.Tally.{none_counted}
use Rattle.cilk_parser.proofs.Begun.{IsStuck, all_spelled, same_size}
use Rattle.cilk_parser.proofs.Answered.Faults.{IsClean, IsDone, front_clean, passed_fault, passed_least, stuck_unexpected}
use Rattle.cilk_parser.proofs.JudgedLate.Judging.{AreKept, judged_over, judged_within}
use Rattle.cilk_parser.proofs.JudgedLate.Outcomes.{Outcome, Stops, Passes, last_answer}
use Rattle.cilk_parser.proofs.Answered.Places.{there_behind, there_in_front}

-- The first of the tokens with a fault has this one there, and none before it in the order of the kinds.
pub record IsFirstFault (tokens : List Token) (places : List Placed) (kind : Kind) (offset : ℕ) : Type 0 where
  pub place : ℕ
  pub placed : Placed
  pub there : slice_get places place ≡ Some placed
  pub same : offset ≡ placed.offset
  pub fault : IsTokenFault tokens place kind
  pub before : (earlier : ℕ) → earlier < place → IsClean tokens earlier
  pub least : (other : Kind) → IsTokenFault tokens place other → kind_number kind ≤ kind_number other

pub data Verdict (end : End) (places : List Placed) (answer : Answer) : Type 0 where
  AtToken : (kind : Kind) (offset : ℕ) (fault : IsFirstFault (tokens_of places) places kind offset) (same : answer ≡ Refused kind offset) → Verdict end places answer
  AtEnd : (next : Next) (walked : walk (Items Empty) (tokens_of places) ≡ Some next) (kept : AreKept none_counted (all_spelled next))
      (clean : (place : ℕ) → place < length places → IsClean (tokens_of places) place) (same : answer ≡ at_end end (finish next.state)) → Verdict end places answer

module _ (front left : List Placed) (next : Next) (walked : walk (Items Empty) (tokens_of front) ≡ Some next) where
  abbrev tokens : List Token
  tokens = tokens_of front ++ tokens_of left

  spelled_size : length (all_spelled next) ≡ length front
  spelled_size = same_size (tokens_of front) next walked ∙ length-map front (λ p. p.token)

  over_first : (kind : Kind) (offset : ℕ) → IsDone (tokens_of front) (tokens_of left) next walked → judge none_counted (all_spelled next) front ≡ Over kind offset → IsFirstFault tokens (front ++ left) kind offset
  over_first kind offset done over =
      let h = judged_over none_counted (all_spelled next) front kind offset over in
      record {
        place = length h.first;
        placed = h.placed;
        there = there_in_front front left (length h.first) (slice_get_within front (length h.first) h.placed h.at) ∙ h.at;
        same = h.offset_is;
        fault = passed_fault (tokens_of front) (tokens_of left) next walked h.first h.there h.last h.same h.kept kind h.passed;
        before = front_clean (tokens_of front) (tokens_of left) next walked h.first (h.there ∷ h.last) h.same h.kept done;
        least = passed_least (tokens_of front) (tokens_of left) next walked h.first h.there h.last h.same h.kept kind h.passed;
      }

  within_clean : (t : Tallies) → IsDone (tokens_of front) (tokens_of left) next walked → judge none_counted (all_spelled next) front ≡ Within t → (place : ℕ) → place < length front → IsClean tokens place
  within_clean t done within place less =
      front_clean (tokens_of front) (tokens_of left) next walked (all_spelled next) [] (sym (append-nil (all_spelled next))) (judged_within none_counted (all_spelled next) front t (omega (arith, spelled_size)) within) done place
      (omega (arith, spelled_size))

as_places : (places front left : List Placed) (kind : Kind) (offset : ℕ) → places ≡ front ++ left → IsFirstFault (tokens_of front ++ tokens_of left) (front ++ left) kind offset → IsFirstFault (tokens_of places) places kind offset
as_places places front left kind offset parts h =
    subst (λ p. IsFirstFault (tokens_of p) p kind offset) (sym parts) (subst (λ t. IsFirstFault t (front ++ left) kind offset) (sym (map-append (λ p. p.token) front left)) h)

unexpected_least : (tokens : List Token) (place : ℕ) (other : Kind) → IsTokenFault tokens place other → kind_number Unexpected ≤ kind_number other
unexpected_least tokens place BadByte h = absurd h
unexpected_least tokens place BadNumber h = absurd h
unexpected_least tokens place Unexpected h = omega arith
unexpected_least tokens place TooDeep h = omega arith
unexpected_least tokens place TooMany h = omega arith

unexpected_first : (front left : List Placed) (placed : Placed) (next : Next) (t : Tallies) → walk (Items Empty) (tokens_of front) ≡ Some next → IsStuck next.state (tokens_of (placed ∷ left)) →
    judge none_counted (all_spelled next) front ≡ Within t → IsFirstFault (tokens_of front ++ tokens_of (placed ∷ left)) (front ++ placed ∷ left) Unexpected placed.offset
unexpected_first front left placed next t walked stuck within =
    let tokens = tokens_of front ++ tokens_of (placed ∷ left) in
    let fault = stuck_unexpected (tokens_of front) (tokens_of (placed ∷ left)) next walked placed.token (tokens_of left) refl stuck in
    record {
      place = length front;
      placed = placed;
      there = there_behind front placed left;
      same = refl;
      fault = subst (IsUnexpected tokens) (length-map front (λ p. p.token)) fault;
      before = within_clean front (placed ∷ left) next walked t (inr stuck) within;
      least = unexpected_least tokens (length front);
    }

stopped : (end : End) (places front left : List Placed) (next : Next) (answer : Answer) → places ≡ front ++ left → walk (Items Empty) (tokens_of front) ≡ Some next → IsStuck next.state (tokens_of left) →
    (judged : Tallied) → judge none_counted (all_spelled next) front ≡ judged → answer ≡ if_within judged (last_answer end next.state left) → Verdict end places answer
stopped end places front left next answer parts walked stuck (Over kind offset) judged same =
    AtToken kind offset (as_places places front left kind offset parts (over_first front left next walked kind offset (inr stuck) judged)) same
stopped end places front [] next answer parts walked stuck (Within t) judged same =
    let size = spelled_size front [] next walked in
    let kept = judged_within none_counted (all_spelled next) front t (omega (arith, size)) judged in
    let clean = λ (place : ℕ) (less : place < length front). subst (λ t. IsClean t place) (append-nil (tokens_of front)) (within_clean front [] next walked t (inr stuck) judged place less) in
    subst (λ p. Verdict end p answer) (sym (parts ∙ append-nil front)) (AtEnd next walked kept clean same)
stopped end places front (placed ∷ left) next answer parts walked stuck (Within t) judged same =
    AtToken Unexpected placed.offset (as_places places front (placed ∷ left) Unexpected placed.offset parts (unexpected_first front left placed next t walked stuck judged)) same

pub verdict : (end : End) (places : List Placed) (answer : Answer) → Outcome end places answer → Verdict end places answer
verdict end places answer (Stops front left next parts walked stuck same) = stopped end places front left next answer parts walked stuck (judge none_counted (all_spelled next) front) refl same
verdict end places answer (Passes front left next parts walked settled kind offset over same) =
    AtToken kind offset (as_places places front left kind offset parts (over_first front left next walked kind offset (inl settled) over)) same
