-- That a node waits for nothing, by computing what it waits for.
use Rattle.std.proofs.Common.{◌≡◌, ℕ, List, [], ◌∷◌, ◌++◌, Bool, true, false, cond, not, ◌||◌, refl, ap, subst, arith}
use Rattle.std.specs.Prelude.{◌==◌}
use Rattle.std.specs.List.{list_any}
use Rattle.std.proofs.lemmas.Bool.Decides.{nat_tests}
use Rattle.page_messages.specs.declared.message.Body.{Body}
use Rattle.page_messages.specs.declared.message.Body.TheVariants.{Fetch, Page, Reconcile, Ack, Ask, Grant, Refuse, Done, Park, Add, Added}
use Rattle.cluster_rules.specs.Walking.{since}
use Rattle.cluster_rules.specs.Turns.{Event, Did, Sent, Took, Ended, Past}
use Rattle.cluster_rules.specs.Sendings.{Wait, ForPage, ForAck, ForAdded, requests, begins, ends, awaits, IsQuiet}

abbrev pub same_wait : Wait → Wait → Bool
same_wait (ForPage page) (ForPage other) = other == page
same_wait (ForPage page) (ForAck other) = false
same_wait (ForPage page) ForAdded = false
same_wait (ForAck home) (ForPage other) = false
same_wait (ForAck home) (ForAck other) = other == home
same_wait (ForAck home) ForAdded = false
same_wait ForAdded (ForPage other) = false
same_wait ForAdded (ForAck other) = false
same_wait ForAdded ForAdded = true

abbrev pub begun_in : Body → ℕ → List Wait
begun_in (Fetch page) receiver = ForPage page ∷ []
begun_in (Page page words) receiver = []
begun_in (Reconcile parts) receiver = ForAck receiver ∷ []
begun_in Ack receiver = []
begun_in Ask receiver = []
begun_in (Grant closure) receiver = []
begun_in Refuse receiver = []
begun_in (Done join index value) receiver = []
begun_in (Park join closure) receiver = []
begun_in (Add frame index word addend) receiver = ForAdded ∷ []
begun_in (Added old) receiver = []

abbrev pub begun_by : Event → List Wait
begun_by (Did item) = []
begun_by (Sent message) = begun_in message.body message.receiver
begun_by (Took message) = []
begun_by (Ended end) = []

-- those that the event does not end
abbrev pub left_open : Event → List Wait → List Wait
left_open event [] = []
left_open event (wait ∷ waits) = cond (ends wait event) (left_open event waits) (wait ∷ left_open event waits)

-- what a node still waits for
abbrev pub open_waits : Past → List Wait
open_waits [] = []
open_waits (event ∷ past) = begun_by event ++ left_open event (open_waits past)

-- ---- each wait is among those

same_is : (wait other : Wait) → same_wait wait other ≡ true → other ≡ wait
same_is (ForPage page) (ForPage other) same = let is : other ≡ page = grind (arith, nat_tests) in ap ForPage is
same_is (ForPage page) (ForAck other) same = absurd (cc)
same_is (ForPage page) ForAdded same = absurd (cc)
same_is (ForAck home) (ForPage other) same = absurd (cc)
same_is (ForAck home) (ForAck other) same = let is : other ≡ home = grind (arith, nat_tests) in ap ForAck is
same_is (ForAck home) ForAdded same = absurd (cc)
same_is ForAdded (ForPage other) same = absurd (cc)
same_is ForAdded (ForAck other) same = absurd (cc)
same_is ForAdded ForAdded same = refl

any_front_on : (test : Wait → Bool) (first : Wait) (front back : List Wait) (b : Bool) → test first ≡ b → b || list_any test front ≡ true
    → (list_any test front ≡ true → list_any test (front ++ back) ≡ true) → list_any test ((first ∷ front) ++ back) ≡ true
any_front_on test first front back true such any before = rw such refl
any_front_on test first front back false not any before = rw (not) (before any)

any_front : (test : Wait → Bool) (front back : List Wait) → list_any test front ≡ true → list_any test (front ++ back) ≡ true
any_front test [] back any = absurd (cc)
any_front test (first ∷ front) back any = any_front_on test first front back (test first) refl any (any_front test front back)

or_true : (b : Bool) → b || true ≡ true
or_true true = refl
or_true false = refl

any_back : (test : Wait → Bool) (front back : List Wait) → list_any test back ≡ true → list_any test (front ++ back) ≡ true
any_back test [] back any = any
any_back test (first ∷ front) back any = rw (any_back test front back any) (or_true (test first))

begun_has_in : (wait : Wait) (body : Body) (sender receiver : ℕ) → requests wait (record { sender = sender; receiver = receiver; body = body }) ≡ true
    → list_any (same_wait wait) (begun_in body receiver) ≡ true
begun_has_in (ForPage page) (Fetch other) sender receiver is = rw is refl
begun_has_in (ForAck home) (Reconcile parts) sender receiver is = rw is refl
begun_has_in ForAdded (Add frame index word addend) sender receiver is = refl
begun_has_in (ForPage page) (Page other words) sender receiver is = absurd (cc)
begun_has_in (ForPage page) (Reconcile parts) sender receiver is = absurd (cc)
begun_has_in (ForPage page) Ack sender receiver is = absurd (cc)
begun_has_in (ForPage page) Ask sender receiver is = absurd (cc)
begun_has_in (ForPage page) (Grant closure) sender receiver is = absurd (cc)
begun_has_in (ForPage page) Refuse sender receiver is = absurd (cc)
begun_has_in (ForPage page) (Done join index value) sender receiver is = absurd (cc)
begun_has_in (ForPage page) (Park join closure) sender receiver is = absurd (cc)
begun_has_in (ForPage page) (Add frame index word addend) sender receiver is = absurd (cc)
begun_has_in (ForPage page) (Added old) sender receiver is = absurd (cc)
begun_has_in (ForAck home) (Fetch other) sender receiver is = absurd (cc)
begun_has_in (ForAck home) (Page other words) sender receiver is = absurd (cc)
begun_has_in (ForAck home) Ack sender receiver is = absurd (cc)
begun_has_in (ForAck home) Ask sender receiver is = absurd (cc)
begun_has_in (ForAck home) (Grant closure) sender receiver is = absurd (cc)
begun_has_in (ForAck home) Refuse sender receiver is = absurd (cc)
begun_has_in (ForAck home) (Done join index value) sender receiver is = absurd (cc)
begun_has_in (ForAck home) (Park join closure) sender receiver is = absurd (cc)
begun_has_in (ForAck home) (Add frame index word addend) sender receiver is = absurd (cc)
begun_has_in (ForAck home) (Added old) sender receiver is = absurd (cc)
begun_has_in ForAdded (Fetch other) sender receiver is = absurd (cc)
begun_has_in ForAdded (Page other words) sender receiver is = absurd (cc)
begun_has_in ForAdded (Reconcile parts) sender receiver is = absurd (cc)
begun_has_in ForAdded Ack sender receiver is = absurd (cc)
begun_has_in ForAdded Ask sender receiver is = absurd (cc)
begun_has_in ForAdded (Grant closure) sender receiver is = absurd (cc)
begun_has_in ForAdded Refuse sender receiver is = absurd (cc)
begun_has_in ForAdded (Done join index value) sender receiver is = absurd (cc)
begun_has_in ForAdded (Park join closure) sender receiver is = absurd (cc)
begun_has_in ForAdded (Added old) sender receiver is = absurd (cc)

begun_has : (wait : Wait) (event : Event) → begins wait event ≡ true → list_any (same_wait wait) (begun_by event) ≡ true
begun_has wait (Did item) is = absurd (cc)
begun_has wait (Sent message) is = begun_has_in wait message.body message.sender message.receiver is
begun_has wait (Took message) is = absurd (cc)
begun_has wait (Ended end) is = absurd (cc)

left_on : (wait first : Wait) (event : Event) (waits : List Wait) (same ended : Bool) → same_wait wait first ≡ same → ends first event ≡ ended
    → ends wait event ≡ false
    → same || list_any (same_wait wait) waits ≡ true → (list_any (same_wait wait) waits ≡ true → list_any (same_wait wait) (left_open event waits) ≡ true)
    → list_any (same_wait wait) (cond ended (left_open event waits) (first ∷ left_open event waits)) ≡ true
left_on wait first event waits true true s e not any before =
    let one = same_is wait first s in
    let ends_too : ends wait event ≡ true = subst (λ it. ends it event ≡ true) one e in
    absurd (cc)
left_on wait first event waits true false s e not any before = rw s refl
left_on wait first event waits false true s e not any before = before any
left_on wait first event waits false false s e not any before = rw (s) (before any)

left_has : (wait : Wait) (event : Event) (waits : List Wait) → ends wait event ≡ false → list_any (same_wait wait) waits ≡ true
    → list_any (same_wait wait) (left_open event waits) ≡ true
left_has wait event [] not any = absurd (cc)
left_has wait event (first ∷ waits) not any =
    left_on wait first event waits (same_wait wait first) (ends first event) refl refl not any (left_has wait event waits not)

open_on : (wait : Wait) (event : Event) (past : Past) (ended begun : Bool) → ends wait event ≡ ended → begins wait event ≡ begun
    → list_any (begins wait) (cond ended [] (event ∷ since (ends wait) past)) ≡ true
    → (awaits wait past ≡ true → list_any (same_wait wait) (open_waits past) ≡ true)
    → list_any (same_wait wait) (open_waits (event ∷ past)) ≡ true
open_on wait event past true begun e b any before = absurd (cc)
open_on wait event past false true e b any before =
    any_front (same_wait wait) (begun_by event) (left_open event (open_waits past)) (begun_has wait event b)
open_on wait event past false false e b any before =
    let older : awaits wait past ≡ true = subst (λ it. it || list_any (begins wait) (since (ends wait) past) ≡ true) b any in
    any_back (same_wait wait) (begun_by event) (left_open event (open_waits past)) (left_has wait event (open_waits past) e (before older))

open_has : (wait : Wait) (past : Past) → awaits wait past ≡ true → list_any (same_wait wait) (open_waits past) ≡ true
open_has wait [] any = absurd (cc)
open_has wait (event ∷ past) any = open_on wait event past (ends wait event) (begins wait event) refl refl any (open_has wait past)

quiet_on : (wait : Wait) (past : Past) (b : Bool) → awaits wait past ≡ b → open_waits past ≡ [] → b ≡ false
quiet_on wait past false is none = refl
quiet_on wait past true is none =
    let some : list_any (same_wait wait) [] ≡ true = subst (λ waits. list_any (same_wait wait) waits ≡ true) none (open_has wait past is) in absurd (cc)

-- A node with no open wait waits for nothing.
pub quiet_by : (past : Past) → open_waits past ≡ [] → IsQuiet past
quiet_by past none = λ wait. quiet_on wait past (awaits wait past) refl none
