-- The last turn of a log is the latest of its turns, and its end their last event.
use Rattle.std.proofs.Common.{◌≡◌, ℕ, List, [], ◌∷◌, ◌++◌, Some, None, length, map, reverse, refl, sym, ◌∙◌, ap, subst}
use Rattle.std.proofs.lemmas.List.{reverse-append, reverse-reverse}
use Rattle.cilk_meaning.specs.declared.ends.NodeEnd.{NodeEnd}
use Rattle.page_messages.specs.declared.log.Turn.{Turn}
use Rattle.cluster_rules.specs.Turns.{WholeTurn, Ended, posted_at}
use Rattle.cluster_rules.specs.Positions.{Moved, Course, course_of, with_taking, with_posts, with_items, with_end}
use Rattle.cluster_rules.specs.Runs.{Cluster, IsRun, logged}
use Rattle.cluster_trace.specs.Ends.{HasEnd}

-- the event of an end
abbrev pub ended_at : ℕ → NodeEnd → Moved
ended_at node end = record { node = node; event = Ended end; message = None }

-- the latest event is this end
pub record EndsLast (turns : List WholeTurn) (end : NodeEnd) : Type 0 where
  pub node : ℕ
  pub earlier : Course
  pub is : course_of turns ≡ ended_at node end ∷ earlier

-- the log tells the turns, the latest first
pub log_is : (cluster : Cluster) (log : List Turn) (run : IsRun cluster log) → log ≡ map logged (reverse (reverse run.turns))
log_is cluster log run = run.log_is ∙ ap (map logged) (sym (reverse-reverse run.turns))

-- the turns, of which the last gives the last turn of the log
record Last (turns : List WholeTurn) (turn : Turn) : Type 0 where
  earlier : List WholeTurn
  last : WholeTurn
  is : turns ≡ earlier ++ last ∷ []
  same : logged last ≡ turn

none_is : (earlier : List Turn) (turn : Turn) → [] ≡ earlier ++ turn ∷ [] → ⊥
none_is [] turn is = absurd (cc)
none_is (first ∷ earlier) turn is = absurd (cc)

last_of : (turns : List WholeTurn) (earlier : List Turn) (turn : Turn) → map logged turns ≡ earlier ++ turn ∷ [] → Last turns turn
last_of [] earlier turn is = absurd (none_is earlier turn is)
last_of (first ∷ []) [] turn is = record { earlier = []; last = first; is = refl; same = cc }
last_of (first ∷ (second ∷ turns)) [] turn is = absurd (cc)
last_of (first ∷ turns) (before ∷ earlier) turn is =
    let rest = last_of turns earlier turn (cc) in
    record { earlier = first ∷ rest.earlier; last = rest.last; is = ap (λ it. first ∷ it) rest.is; same = rest.same }

ended : (last : WholeTurn) (older : List WholeTurn) (end : NodeEnd) → last.end ≡ Some end → EndsLast (last ∷ older) end
unfolding course_of
ended last older end is =
    let number = length older in
    let message = posted_at older last.took in
    record {
      node = last.node;
      earlier = with_taking last.node last.took message
          (with_posts last.node (record { turn = number; index = 0 }) last.posts (with_items last.node last.items (course_of older)));
      is = ap (λ end. with_end last.node end
          (with_taking last.node last.took message
          (with_posts last.node (record { turn = number; index = 0 }) last.posts (with_items last.node last.items (course_of older))))) is;
    }

-- Where a run ended, that is its latest event.
pub ends_last : (cluster : Cluster) (log : List Turn) (run : IsRun cluster log) (end : NodeEnd) → HasEnd log end → EndsLast (reverse run.turns) end
ends_last cluster log run end has =
    let it = last_of run.turns has.0 has.1 (sym run.log_is ∙ has.2) in
    subst (λ turns. EndsLast turns end) (sym (ap reverse it.is ∙ reverse-append it.earlier (it.last ∷ [])))
    (ended it.last (reverse it.earlier) end (ap (λ (turn : Turn). turn.end) it.same ∙ has.3))
