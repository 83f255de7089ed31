-- What a text calls for is one thing.
use Rattle.std.proofs.Common.{◌≡◌, ◌⊎◌, inl, inr, ℕ, ◌<◌, ◌≤◌, true, false, Option, Some, None, List, [], length, refl, sym, ap, ◌∙◌, subst, arith}
use Rattle.std.proofs.lemmas.Bool.Decides.{nat_tests}
use Rattle.cilk_tree.specs.declared.place.CheckPlace.{CheckPlace}
use Rattle.cilk_tree.specs.declared.tree.Program.{Program}
use Rattle.cilk_tree.specs.Canonical.{canonical_text}
use Rattle.cilk_tree.specs.Lawful.Lawful.{IsCheckRefusal, IsLawful}
use Rattle.cilk_tree.specs.Spelling.{Spells}
use Rattle.cilk_reader.specs.Refusals.{IsRefusedAt}
use Rattle.cilk_meaning.specs.declared.ends.NodeEnd.{NodeEnd}
use Rattle.cilk_meaning.specs.declared.ends.NodeEnd.TheVariants.{Finished, Trapped}
use Rattle.cilk_meaning.specs.declared.ends.NodeEnd.TheVariants as ends
use Rattle.cilk_meaning.specs.declared.ends.TrapKind.{TrapKind}
use Rattle.cilk_meaning.specs.Instance.{limits}
use Rattle.cilk_meaning.specs.Resolving.{resolved}
use Rattle.cilk_meaning.specs.World.{output_of, start_words}
use Rattle.command_words.specs.declared.command.Offline.{Offline}
use Rattle.command_words.specs.declared.command.Offline.TheVariants as offline
use Rattle.elision_history.proofs.Elisions.{elision_is_history}
use Rattle.race_check.specs.declared.Race as found
use Rattle.span_tree.specs.declared.act.Act.{Act}
use Rattle.span_tree.specs.declared.act.Act.TheVariants as act
use Rattle.span_tree.specs.declared.act.Place.{Place}
use Rattle.span_tree.specs.Dag.{IsBefore}
use Rattle.span_tree.specs.History.{History, IsNumbered, act_at}
use Rattle.span_tree.specs.Memory.{IsFirstRace, accesses, holds_at, is_access}
use Rattle.span_tree.proofs.Orders.{not_before_itself, not_both_before}
use Rattle.backer_top.specs.declared.status.SourceRefusal.TheVariants as source
use Rattle.backer_top.specs.declared.status.Status.{Status}
use Rattle.backer_top.specs.declared.status.Status.TheVariants.{Done, Words, Source, ReadFault, WriteFault, Trap, Budget, Race, Memory}
use Rattle.backer_top.specs.Due.{IsDue, IsOfAccepted, Makes, Reply, Tells, TellsRace, NoRace, First, TooLong, Unread, Unlawful, Accepted, done, elided, elided_history, only}
use Rattle.backer_top.specs.Output.{lines}
use Rattle.backer_top.specs.RaceLine.{race_line}
use Rattle.backer_top.specs.Reading.{source_limit}
use Rattle.backer_top.specs.Status.{HasFixedLine, is_shown}

-- ---- the first race of a history is one

accesses_one : (act : Act) (one other : ℕ) → accesses one act ≡ true → accesses other act ≡ true → one ≡ other
accesses_one (act.Read word value) one other is also = grind (arith, nat_tests)
accesses_one (act.Write word value) one other is also = grind (arith, nat_tests)
accesses_one (act.Add word old addend) one other is also = grind (arith, nat_tests)
accesses_one (act.Print value) one other is also = cc
accesses_one (act.Spawn child) one other is also = cc
accesses_one act.Sync one other is also = cc

accesses_one_there : (there : Option Act) (one other : ℕ) → holds_at (accesses one) there ≡ true → holds_at (accesses other) there ≡ true → one ≡ other
accesses_one_there None one other is also = cc
accesses_one_there (Some act) one other is also = accesses_one act one other is also

abbrev race_of : Place → Place → ℕ → found.Race
race_of first second word = record { first = first; second = second; word = word }

same_race : (one other : found.Race) → one.word ≡ other.word → one.first ≡ other.first → one.second ≡ other.second → one ≡ other
same_race one other word first second =
    ap (race_of one.first one.second) word ∙ ap (λ first. race_of first one.second other.word) first ∙ ap (λ second. race_of other.first second other.word) second

module _ (history : History) (numbered : IsNumbered history) where
  same_place : (x y : Place) → (x ≡ y) ⊎ IsBefore history x y → (y ≡ x) ⊎ IsBefore history y x → x ≡ y
  same_place x y (inl is) other = is
  same_place x y (inr before) (inl is) = sym is
  same_place x y (inr before) (inr after) = absurd (not_both_before history numbered x y before after)

  not_before_same : (x y : Place) → IsBefore history x y → y ≡ x → ⊥
  not_before_same x y before is = not_before_itself history numbered x (subst (IsBefore history x) is before)

  same_places : (first second first' second' : Place)
      → IsBefore history second second' ⊎ ((second ≡ second') × ((first ≡ first') ⊎ IsBefore history first first'))
      → IsBefore history second' second ⊎ ((second' ≡ second) × ((first' ≡ first) ⊎ IsBefore history first' first))
      → (first ≡ first') × (second ≡ second')
  same_places first second first' second' (inl before) (inl after) = absurd (not_both_before history numbered second second' before after)
  same_places first second first' second' (inl before) (inr same) = absurd (not_before_same second second' before same.0)
  same_places first second first' second' (inr same) (inl after) = absurd (not_before_same second' second after same.0)
  same_places first second first' second' (inr same) (inr also) = (same_place first first' same.1 also.1, same.0)

  first_once : (one other : found.Race) → IsFirstRace history one.word one.first one.second → IsFirstRace history other.word other.first other.second → one ≡ other
  first_once one other is also =
      let places = same_places one.first one.second other.first other.second
      (is.least other.word other.first other.second also.race also.before) (also.least one.word one.first one.second is.race is.before) in
      let there = subst (λ place. is_access history other.word place ≡ true) (sym places.0) also.race.first in
      same_race one other (accesses_one_there (act_at history one.first) one.word other.word is.race.first there) places.0 places.1

  race_told_once : (program : Program) (one other : Reply) → TellsRace program history one → TellsRace program history other → one ≡ other
  race_told_once program one other (NoRace none is) (NoRace again also) = is ∙ sym also
  race_told_once program one other (NoRace none is) (First race first also) = absurd (none race.word race.first race.second first.race)
  race_told_once program one other (First race first is) (NoRace none also) = absurd (none race.word race.first race.second first.race)
  race_told_once program one other (First race first is) (First race' first' also) =
      is ∙ ap (λ r. record { status = Race r; text = race_line program history r }) (first_once race race' first first') ∙ sym also

-- ---- what a command makes of a program is one thing

tells_once : (end : NodeEnd) (finished : Reply → Type 0) → ((one other : Reply) → finished one → finished other → one ≡ other)
    → (one other : Reply) → Tells end finished one → Tells end finished other → one ≡ other
tells_once Finished finished once one other told again = once one other told again
tells_once (Trapped kind) finished once one other told again = told ∙ sym again
tells_once ends.Budget finished once one other told again = told ∙ sym again

elided_is_numbered : (program : Program) (budget : ℕ) → IsNumbered (elided_history program budget)
elided_is_numbered program budget = (elision_is_history limits (resolved program) (start_words 0 []) budget).0.1.numbered

pub made_once : (command : Offline) (program : Program) (one other : Reply) → Makes command program one → Makes command program other → one ≡ other
made_once (offline.Check file) program one other made again = made ∙ sym again
made_once (offline.Serial file budget) program one other made again =
    tells_once (elided program budget).end (λ reply. reply ≡ done (lines (output_of (elided program budget)))) (λ _ _ is also. is ∙ sym also) one other made again
made_once (offline.Race file budget) program one other made again =
    tells_once (elided program budget).end (TellsRace program (elided_history program budget))
    (race_told_once (elided_history program budget) (elided_is_numbered program budget) program) one other made again

-- ---- what a reply to a text within the limit may be

-- the text was read whole, and no device failed
abbrev pub IsPlain : Status → Type 0
IsPlain Done = Unit {0}
IsPlain (Trap kind node) = Unit {0}
IsPlain (Budget node) = Unit {0}
IsPlain (Race race) = Unit {0}
IsPlain (Source (source.Read number offset)) = Unit {0}
IsPlain (Source (source.Check kind place)) = Unit {0}
IsPlain (Source source.TooLong) = ⊥
IsPlain Words = ⊥
IsPlain ReadFault = ⊥
IsPlain WriteFault = ⊥
IsPlain Memory = ⊥

pub record IsMade (command : Offline) (reply : Reply) : Type 0 where
  pub fixed : HasFixedLine reply.status
  pub silent : is_shown reply.status ≡ false → reply.text ≡ []
  pub accepted : IsOfAccepted command reply.status
  pub plain : IsPlain reply.status

made_done : (command : Offline) (text : List ℕ) → IsMade command (done text)
made_done command text = record { fixed = tt; silent = λ e. cc; accepted = tt; plain = tt }

module _ (command : Offline) (trap : (kind : TrapKind) → IsOfAccepted command (Trap kind 0)) (budget : IsOfAccepted command (Budget 0))
    (finished : Reply → Type 0) (made : (reply : Reply) → finished reply → IsMade command reply) where
  tells_made : (end : NodeEnd) (reply : Reply) → Tells end finished reply → IsMade command reply
  tells_made Finished reply told = made reply told
  tells_made (Trapped kind) reply told = subst (IsMade command) (sym told) (record { fixed = refl; silent = λ _. refl; accepted = trap kind; plain = tt })
  tells_made ends.Budget reply told = subst (IsMade command) (sym told) (record { fixed = refl; silent = λ _. refl; accepted = budget; plain = tt })

race_made : (file : List ℕ) (budget : ℕ) (program : Program) (history : History) (reply : Reply) → TellsRace program history reply → IsMade (offline.Race file budget) reply
race_made file budget program history reply (NoRace none is) = subst (IsMade (offline.Race file budget)) (sym is) (made_done (offline.Race file budget) _)
race_made file budget program history reply (First race first is) =
    subst (IsMade (offline.Race file budget)) (sym is) (record { fixed = tt; silent = λ e. cc; accepted = tt; plain = tt })

pub made_of : (command : Offline) (program : Program) (reply : Reply) → Makes command program reply → IsMade command reply
made_of (offline.Check file) program reply made = subst (IsMade (offline.Check file)) (sym made) (made_done (offline.Check file) (canonical_text program))
made_of (offline.Serial file budget) program reply made =
    tells_made (offline.Serial file budget) (λ kind. tt) tt (λ reply. reply ≡ done (lines (output_of (elided program budget))))
    (λ reply is. subst (IsMade (offline.Serial file budget)) (sym is) (made_done (offline.Serial file budget) _)) (elided program budget).end reply made
made_of (offline.Race file budget) program reply made =
    tells_made (offline.Race file budget) (λ kind. tt) tt (TellsRace program (elided_history program budget))
    (race_made file budget program (elided_history program budget)) (elided program budget).end reply made

-- ---- what a text calls for

only_is_silent : (status : Status) (reply : Reply) → reply ≡ only status → reply.text ≡ []
only_is_silent status reply is = ap (λ r. r.text) is

pub silent_of_due : (command : Offline) (text : List ℕ) (reply : Reply) → IsDue command text reply → is_shown reply.status ≡ false → reply.text ≡ []
silent_of_due command text reply (TooLong long is) unshown = only_is_silent _ reply is
silent_of_due command text reply (Unread number offset short refused is) unshown = only_is_silent _ reply is
silent_of_due command text reply (Unlawful program kind place spelled refused is) unshown = only_is_silent _ reply is
silent_of_due command text reply (Accepted program accepted made) unshown = (made_of command program reply made).silent unshown

plain_only : (status : Status) (reply : Reply) → reply ≡ only status → IsPlain status → IsPlain reply.status
plain_only status reply is plain = subst (λ r. IsPlain r.status) (sym is) plain

pub plain_of_due : (command : Offline) (text : List ℕ) (reply : Reply) → length text ≤ source_limit → IsDue command text reply → IsPlain reply.status
plain_of_due command text reply short (TooLong long is) = absurd (omega (arith, long, short))
plain_of_due command text reply short (Unread number offset short' refused is) = plain_only _ reply is tt
plain_of_due command text reply short (Unlawful program kind place spelled refused is) = plain_only _ reply is tt
plain_of_due command text reply short (Accepted program accepted made) = (made_of command program reply made).plain

-- no text calls for Words
pub words_not_due : (command : Offline) (text : List ℕ) (reply : Reply) → IsDue command text reply → ¬ (reply.status ≡ Words)
words_not_due command text reply (TooLong long is) words = let e : Source source.TooLong ≡ Words = ap (λ r. r.status) (sym is) ∙ words in cc
words_not_due command text reply (Unread number offset short refused is) words = let e : Source (source.Read number offset) ≡ Words = ap (λ r. r.status) (sym is) ∙ words in cc
words_not_due command text reply (Unlawful program kind place spelled refused is) words = let e : Source (source.Check kind place) ≡ Words = ap (λ r. r.status) (sym is) ∙ words in cc
words_not_due command text reply (Accepted program accepted made) words = let plain : IsPlain Words = subst IsPlain words (made_of command program reply made).plain in plain

-- one that is too long
pub due_too_long : (command : Offline) (text : List ℕ) → source_limit < length text → (reply : Reply) → IsDue command text reply → reply ≡ only (Source source.TooLong)
due_too_long command text long reply (TooLong long' is) = is
due_too_long command text long reply (Unread number offset short refused is) = absurd (omega (arith, long, short))
due_too_long command text long reply (Unlawful program kind place spelled refused is) = absurd (omega (arith, long, spelled.0))
due_too_long command text long reply (Accepted program accepted made) = absurd (omega (arith, long, accepted.0.0))

module _ (command : Offline) (text : List ℕ) (short : length text ≤ source_limit) where
  -- one that spells no program
  pub due_unread : (number offset : ℕ) → ((program : Program) → ¬ Spells text program)
      → ((other place : ℕ) → IsRefusedAt text other place → Source (source.Read number offset) ≡ Source (source.Read other place))
      → (reply : Reply) → IsDue command text reply → reply ≡ only (Source (source.Read number offset))
  due_unread number offset none once reply (TooLong long is) = absurd (omega (arith, long, short))
  due_unread number offset none once reply (Unread other place short' refused is) = is ∙ ap only (sym (once other place refused))
  due_unread number offset none once reply (Unlawful program kind place spelled refused is) = absurd (none program spelled.1)
  due_unread number offset none once reply (Accepted program accepted made) = absurd (none program accepted.0.1)

  module _ (program : Program) (one : (other : Program) → Spells text other → program ≡ other) (unrefused : (number offset : ℕ) → ¬ IsRefusedAt text number offset) where
    -- one whose program is not lawful
    pub due_unlawful : (kind : ℕ) (place : CheckPlace) → ¬ IsLawful program
        → ((other : ℕ) (another : CheckPlace) → IsCheckRefusal program other another → Source (source.Check kind place) ≡ Source (source.Check other another))
        → (reply : Reply) → IsDue command text reply → reply ≡ only (Source (source.Check kind place))
    due_unlawful kind place unlawful once reply (TooLong long is) = absurd (omega (arith, long, short))
    due_unlawful kind place unlawful once reply (Unread number offset short' refused is) = absurd (unrefused number offset refused)
    due_unlawful kind place unlawful once reply (Unlawful other kind' place' spelled refused is) =
        is ∙ ap only (sym (once kind' place' (subst (λ p. IsCheckRefusal p kind' place') (sym (one other spelled.1)) refused)))
    due_unlawful kind place unlawful once reply (Accepted other accepted made) = absurd (unlawful (subst IsLawful (sym (one other accepted.0.1)) accepted.1))

    -- one whose program breaks no rule
    pub due_accepted : ((kind : ℕ) (place : CheckPlace) → ¬ IsCheckRefusal program kind place) → (reply : Reply) → IsDue command text reply → Makes command program reply
    due_accepted unbroken reply (TooLong long is) = absurd (omega (arith, long, short))
    due_accepted unbroken reply (Unread number offset short' refused is) = absurd (unrefused number offset refused)
    due_accepted unbroken reply (Unlawful other kind place spelled refused is) =
        absurd (unbroken kind place (subst (λ p. IsCheckRefusal p kind place) (sym (one other spelled.1)) refused))
    due_accepted unbroken reply (Accepted other accepted made) = subst (λ p. Makes command p reply) (sym (one other accepted.0.1)) made
