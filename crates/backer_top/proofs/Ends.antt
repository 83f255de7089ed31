-- How a command ends, by how its parts ended.
use Rattle.std.proofs.Common.{◌≡◌, ◌⊎◌, inl, inr, ℕ, ◌<◌, ◌≤◌, true, false, Option, Some, None, IfSome, IfNone, IsSomeAnd, unwrap_or, List, [], ◌∷◌, ◌++◌, append-nil, length, refl, sym, ap, ◌∙◌, subst, arith}
use Rattle.std.specs.FinMap as map
use Rattle.cilk_tree.specs.declared.kind.Kind.{Kind}
use Rattle.cilk_tree.specs.declared.place.CheckPlace.{CheckPlace}
use Rattle.cilk_tree.specs.declared.tree.Program.{Program}
use Rattle.cilk_tree.specs.Kind.{kind_number}
use Rattle.cilk_tree.specs.Lawful.Lawful.{IsCheckRefusal, IsLawful}
use Rattle.cilk_tree.specs.Spelling.{IsRefusal, Spells}
use Rattle.cilk_reader.specs.Refusals.{IsReason, IsRefusedAt}
use Rattle.cilk_reader.specs.declared.refusal.ReadRefusal.{ReadRefusal}
use Rattle.cilk_reader.specs.declared.refusal.ReadRefusal.TheVariants as read
use Rattle.cilk_checker.specs.Sound.{IsRefusal as IsBreach}
use Rattle.cilk_checker.specs.declared.refusal.CheckRefusal.{CheckRefusal}
use Rattle.cilk_checker.specs.declared.refusal.CheckRefusal.TheVariants as check
use Rattle.command_words.specs.declared.command.Offline.{Offline}
use Rattle.outside.proofs.Joining.{joined-append}
use Rattle.outside.specs.Shelf.{AreSome, Reads, Texts, joined}
use Rattle.backer_top.specs.declared.status.SourceRefusal.{SourceRefusal}
use Rattle.backer_top.specs.declared.status.SourceRefusal.TheVariants as source
use Rattle.backer_top.specs.declared.status.Status.{Status}
use Rattle.backer_top.specs.declared.status.Status.TheVariants.{Done, Words, Source, ReadFault, WriteFault, Trap, Budget, Race, Memory}
use Rattle.backer_top.specs.Due.{Accepts, IsDue, IsOfAccepted, Makes, Reply, TooLong, Unread, Unlawful, Accepted, only}
use Rattle.backer_top.specs.Outcome.{IsReading, IsOutcome, StopsWith}
use Rattle.backer_top.specs.Output.{IsCutShort, IsWritten, SinkUse, WriteFailed}
use Rattle.backer_top.specs.Reading.{IsHeld, IsTextOf, GaveSome, GaveUp, ReadFailed, ReadsWhole, ShelfUse, StopsReading, source_limit}
use Rattle.backer_top.specs.Run.{IsRun, IsStatusDue}
use Rattle.backer_top.specs.Status.{is_shown}
use Rattle.backer_top.proofs.Dues.{IsPlain, due_accepted, due_too_long, due_unlawful, due_unread, made_of, made_once, plain_of_due, silent_of_due}
use Rattle.backer_top.proofs.Pieces.{IsWritten-nothing, nothing_is_whole}

-- ---- how a text within the limit was read and checked

same_reading : (number offset other place : ℕ) (kind : Kind) → other ≡ kind_number kind → (read.At number offset ≡ read.At (kind_number kind) place) ⊎ (read.At number offset ≡ read.Memory)
    → Source (source.Read number offset) ≡ Source (source.Read other place)
same_reading number offset other place kind is (inl same) =
    let numbers : number ≡ kind_number kind = cc in
    let offsets : offset ≡ place = cc in
    ap (λ n. Source (source.Read n offset)) (numbers ∙ sym is) ∙ ap (λ o. Source (source.Read other o)) offsets
same_reading number offset other place kind is (inr memory) = cc

same_breach : (kind : ℕ) (place : CheckPlace) (other : ℕ) (another : CheckPlace) → (check.At kind place ≡ check.At other another) ⊎ (check.At kind place ≡ check.Memory)
    → Source (source.Check kind place) ≡ Source (source.Check other another)
same_breach kind place other another (inl same) =
    let kinds : kind ≡ other = cc in
    let places : place ≡ another = cc in
    ap (λ k. Source (source.Check k place)) kinds ∙ ap (λ p. Source (source.Check other p)) places
same_breach kind place other another (inr memory) = cc

module _ (text : List ℕ) where
  stops_refused : (refusal : SourceRefusal) → ((command : Offline) → IsDue command text (only (Source refusal)))
      → ((command : Offline) (reply : Reply) → IsDue command text reply → reply ≡ only (Source refusal)) → ((program : Program) → ¬ Accepts text program)
      → (status : Status) → (status ≡ Source refusal) ⊎ (status ≡ Memory) → (command : Offline) → StopsWith command text status
  stops_refused refusal due once unaccepted status (inr memory) command = inr memory
  stops_refused refusal due once unaccepted status (inl is) command = inl (subst (λ s. IsOutcome command text (only s)) (sym is) (record {
    due = due command;
    once = once command;
    accepted = λ program accepted. absurd (unaccepted program accepted);
    silent = λ _. refl;
  }))

  module _ (short : length text ≤ source_limit) where
    stops_at : (number offset : ℕ) → IsRefusedAt text number offset → ((program : Program) → Spells text program → read.At number offset ≡ read.Memory)
        → ((kind : Kind) (place : ℕ) → IsRefusal text kind place → (read.At number offset ≡ read.At (kind_number kind) place) ⊎ (read.At number offset ≡ read.Memory))
        → (status : Status) → (status ≡ Source (source.Read number offset)) ⊎ (status ≡ Memory) → (command : Offline) → StopsWith command text status
    stops_at number offset refused none exact =
        let spells_none = λ (program : Program) (spelled : Spells text program). let memory = none program spelled in let no : ⊥ = cc in no in
        stops_refused (source.Read number offset) (λ command. Unread number offset short refused refl)
        (λ command. due_unread command text short number offset spells_none (λ other place again. same_reading number offset other place again.0 again.1 (exact again.0 place again.2)))
        (λ program accepted. spells_none program accepted.0.1)

    -- the reader refused it
    pub stops_unread : (refusal : ReadRefusal) (number offset : ℕ) → refusal ≡ read.At number offset → IsReason text refusal → ((program : Program) → Spells text program → refusal ≡ read.Memory)
        → ((kind : Kind) (place : ℕ) → IsRefusal text kind place → (refusal ≡ read.At (kind_number kind) place) ⊎ (refusal ≡ read.Memory))
        → (status : Status) → (status ≡ Source (source.Read number offset)) ⊎ (status ≡ Memory) → (command : Offline) → StopsWith command text status
    stops_unread refusal number offset is reason none exact =
        stops_at number offset (subst (IsReason text) is reason) (λ program spelled. sym is ∙ none program spelled)
        (λ kind place refused. subst (λ r. (r ≡ read.At (kind_number kind) place) ⊎ (r ≡ read.Memory)) is (exact kind place refused))

    module _ (program : Program) (spelled : Spells text program) (one : (other : Program) → Spells text other → program ≡ other)
        (exact : (kind : Kind) (offset : ℕ) → IsRefusal text kind offset → ⊥) where
      unrefused : (number offset : ℕ) → ¬ IsRefusedAt text number offset
      unrefused number offset refused = exact refused.0 offset refused.2

      -- the checker accepted its program
      pub reads : (checked : Program) → checked ≡ program → IsLawful program → ((kind : ℕ) (place : CheckPlace) → ¬ IsCheckRefusal program kind place) → IsReading text checked
      reads checked same lawful unbroken = subst (IsReading text) (sym same) (record {
        accepted = ((short, spelled), lawful);
        calls_for = λ command. due_accepted command text short program one unrefused unbroken;
      })

      stops_broken : (kind : ℕ) (place : CheckPlace) → IsCheckRefusal program kind place → (IsLawful program → check.At kind place ≡ check.Memory)
          → ((other : ℕ) (another : CheckPlace) → IsCheckRefusal program other another → (check.At kind place ≡ check.At other another) ⊎ (check.At kind place ≡ check.Memory))
          → (status : Status) → (status ≡ Source (source.Check kind place)) ⊎ (status ≡ Memory) → (command : Offline) → StopsWith command text status
      stops_broken kind place broken accepted once =
          let unlawful = λ (lawful : IsLawful program). let memory = accepted lawful in let no : ⊥ = cc in no in
          stops_refused (source.Check kind place) (λ command. Unlawful program kind place (short, spelled) broken refl)
          (λ command. due_unlawful command text short program one unrefused kind place unlawful (λ other another again. same_breach kind place other another (once other another again)))
          (λ other also. unlawful (subst IsLawful (sym (one other also.0.1)) also.1))

      -- the checker refused its program
      pub stops_unlawful : (refusal : CheckRefusal) (kind : ℕ) (place : CheckPlace) → refusal ≡ check.At kind place → IsBreach program refusal → (IsLawful program → refusal ≡ check.Memory)
          → ((other : ℕ) (another : CheckPlace) → IsCheckRefusal program other another → (refusal ≡ check.At other another) ⊎ (refusal ≡ check.Memory))
          → (status : Status) → (status ≡ Source (source.Check kind place)) ⊎ (status ≡ Memory) → (command : Offline) → StopsWith command text status
      stops_unlawful refusal kind place is broken accepted once =
          stops_broken kind place (subst (IsBreach program) is broken) (λ lawful. sym is ∙ accepted lawful)
          (λ other another again. subst (λ r. (r ≡ check.At other another) ⊎ (r ≡ check.Memory)) is (once other another again))

-- what a command makes of its program
pub outcome_made : (command : Offline) (text : List ℕ) (program : Program) (reply : Reply) → IsReading text program → Makes command program reply → IsOutcome command text reply
outcome_made command text program reply reading made = record {
  due = Accepted program reading.accepted made;
  once = λ other is. made_once command program other reply (reading.calls_for command other is) made;
  accepted = λ _ _. (made_of command program reply made).accepted;
  silent = (made_of command program reply made).silent;
}

-- ---- the text that the shelf gave

-- the told text, or another where none is told
abbrev told_or : Option Texts → List ℕ → List ℕ → List ℕ
told_or None name other = other
told_or (Some held) name other = unwrap_or (map.get held name) other

told_or_is : (texts : Option Texts) (name other : List ℕ) → IsTextOf texts name (told_or texts name other)
told_or_is None name other = tt
told_or_is (Some held) name other = elim (map.get held name) as (λ o. IfSome o (λ told. unwrap_or o other ≡ told)) [ None ↦ tt | Some told ↦ refl ]

-- a told text that is too long, or what was given where none is told
long_text : (texts : Option Texts) (name other : List ℕ) (limit : ℕ) → limit < length other → IfSome texts (λ held. IsSomeAnd (map.get held name) (λ text. limit < length text))
    → (limit < length (told_or texts name other)) × IsHeld texts name (told_or texts name other) × IfNone texts (told_or texts name other ≡ other)
long_text None name other limit long told = (long, tt, refl)
long_text (Some held) name other limit long told =
    elim (map.get held name) as (λ o. IsSomeAnd o (λ text. limit < length text) → (limit < length (unwrap_or o other)) × (o ≡ Some (unwrap_or o other)) × Unit {0}) [
      | None ↦ λ none. absurd none
      | Some text ↦ λ more. (more, refl, tt)
    ] told

text_of_held : (texts : Option Texts) (name text : List ℕ) → IsHeld texts name text → IsTextOf texts name text
text_of_held None name text held = tt
text_of_held (Some texts) name text held = subst (λ o. IfSome o (λ told. text ≡ told)) (sym held) refl

-- those before the last are some where all are
pub front_some : (pieces later : List (List ℕ)) → AreSome (pieces ++ later) → AreSome pieces
front_some [] later some = tt
front_some (piece ∷ pieces) later some = (some.0, front_some pieces later some.1)

module _ {S : Type 0} (shelf : ShelfUse S) where
  -- a text within the limit was given whole
  some_of_whole : (text : List ℕ) → ReadsWhole shelf text → GaveSome shelf
  some_of_whole text whole =
      record { pieces = whole.calls.pieces; last = []; some = whole.calls.some; calls = whole.calls.calls; within = subst (λ bytes. length bytes ≤ source_limit) (whole.calls.same ∙ sym (joined-append whole.calls.pieces [] ∙ append-nil (joined whole.calls.pieces))) whole.short }

  -- the shelf failed
  pub source_failed : ReadFailed shelf → GaveUp shelf → (text : List ℕ) × StopsReading shelf text ReadFault
  source_failed fault calls = (told_or (shelf.texts shelf.old) shelf.file [], record { told = told_or_is (shelf.texts shelf.old) shelf.file []; calls = calls; cause = fault })

  -- memory ran out before the text was known
  pub source_unread : GaveSome shelf → (text : List ℕ) × StopsReading shelf text Memory
  source_unread calls = (told_or (shelf.texts shelf.old) shelf.file [], record { told = told_or_is (shelf.texts shelf.old) shelf.file []; calls = inr calls; cause = tt })

  pub source_too_long : (pieces : List (List ℕ)) (last : List ℕ) → AreSome (pieces ++ last ∷ []) → Reads shelf.gave shelf.file shelf.old 0 (pieces ++ last ∷ []) shelf.new → length (joined pieces) ≤ source_limit → source_limit < length (joined (pieces ++ last ∷ []))
      → IfSome (shelf.texts shelf.old) (λ held. IsSomeAnd (map.get held shelf.file) (λ text. source_limit < length text))
      → (text : List ℕ) × StopsReading shelf text (Source source.TooLong)
  source_too_long pieces last some calls within long told =
      let text = told_or (shelf.texts shelf.old) shelf.file (joined (pieces ++ last ∷ [])) in
      let more = long_text (shelf.texts shelf.old) shelf.file (joined (pieces ++ last ∷ [])) source_limit long told in
      (text, record { told = more.1; calls = record { pieces = pieces; last = last; some = some; calls = calls; within = within; long = long; same = more.2 }; cause = more.0 })

  module _ {O : Type 0} (out : SinkUse O) (command : Offline) where
    abbrev Written : List ℕ → Type 0
    Written = IsWritten out.held out.took out.old out.new

    -- where nothing was written, that is all that a status calls for that is not shown
    unshown_output : (text : List ℕ) → out.new ≡ out.old → (status : Status) → is_shown status ≡ false → (reply : Reply) → IsDue command text reply → reply.status ≡ status → Written reply.text
    unshown_output text unwritten status unshown reply due is =
        let none : reply.text ≡ [] = silent_of_due command text reply due (ap is_shown is ∙ unshown) in
        subst (λ new. IsWritten out.held out.took out.old new reply.text) (sym unwritten) (IsWritten-nothing out.held out.took out.old reply.text (ap length none))

    -- memory ran out
    run_memory : (text : List ℕ) → out.new ≡ out.old → IsTextOf (shelf.texts shelf.old) shelf.file text → (shelf.new ≡ shelf.old) ⊎ GaveSome shelf → IsRun shelf out command text Memory
    run_memory text unwritten told calls =
        record { told = told; calls = calls; cause = tt; due = λ _ _. tt; accepted = λ _ _ _ _. tt; output = unshown_output text unwritten Memory refl; unwritten = λ is. cc }

    -- before the shelf was called
    pub run_unstarted : out.new ≡ out.old → shelf.new ≡ shelf.old → (text : List ℕ) × IsRun shelf out command text Memory
    run_unstarted unwritten uncalled =
        let text = told_or (shelf.texts shelf.old) shelf.file [] in
        (text, run_memory text unwritten (told_or_is (shelf.texts shelf.old) shelf.file []) (inl uncalled))

    -- no text within the limit was read
    pub run_unread : (text : List ℕ) → out.new ≡ out.old → (status : Status) → StopsReading shelf text status → IsRun shelf out command text status
    run_unread text unwritten (Source source.TooLong) stops = record {
      told = stops.told;
      calls = stops.calls;
      cause = (only (Source source.TooLong), TooLong stops.cause refl, refl);
      due = λ reply is. sym (ap (λ r. r.status) (due_too_long command text stops.cause reply is));
      accepted = λ _ _ program accepted. absurd (omega (arith, stops.cause, accepted.0.0));
      output = unshown_output text unwritten (Source source.TooLong) refl;
      unwritten = λ is. cc;
    }
    run_unread text unwritten ReadFault stops = record {
      told = stops.told;
      calls = stops.calls;
      cause = stops.cause;
      due = λ _ _. stops.cause;
      accepted = λ unfailed _ _ _. absurd (unfailed stops.cause);
      output = unshown_output text unwritten ReadFault refl;
      unwritten = λ is. cc;
    }
    run_unread text unwritten Memory stops = run_memory text unwritten stops.told stops.calls
    run_unread text unwritten (Source (source.Read number offset)) stops = absurd stops.cause
    run_unread text unwritten (Source (source.Check kind place)) stops = absurd stops.cause
    run_unread text unwritten Done stops = absurd stops.cause
    run_unread text unwritten Words stops = absurd stops.cause
    run_unread text unwritten WriteFault stops = absurd stops.cause
    run_unread text unwritten (Trap kind node) stops = absurd stops.cause
    run_unread text unwritten (Budget node) stops = absurd stops.cause
    run_unread text unwritten (Race race) stops = absurd stops.cause

    -- the text was read, and what is due was answered
    record IsAnswered (text : List ℕ) (status : Status) : Type 0 where
      plain : IsPlain status
      cause : IsStatusDue command text status
      due : (reply : Reply) → IsDue command text reply → status ≡ reply.status
      accepted : (program : Program) → Accepts text program → IsOfAccepted command status
      output : (reply : Reply) → IsDue command text reply → reply.status ≡ status → Written reply.text

    answered : (text : List ℕ) (reply : Reply) → length text ≤ source_limit → IsOutcome command text reply → Written reply.text → IsAnswered text reply.status
    answered text reply short outcome written = record {
      plain = plain_of_due command text reply short outcome.due;
      cause = (reply, outcome.due, refl);
      due = λ other is. sym (ap (λ r. r.status) (outcome.once other is));
      accepted = outcome.accepted;
      output = λ other is same. subst (λ r. Written r.text) (sym (outcome.once other is)) written;
    }

    module _ (text : List ℕ) (whole : ReadsWhole shelf text) where
      run_answered : (status : Status) → IsAnswered text status → IsRun shelf out command text status
      run_answered Done is = record { told = whole.told; calls = whole.calls; cause = is.cause; due = is.due; accepted = λ _ _. is.accepted; output = is.output; unwritten = λ e. cc }
      run_answered (Trap kind node) is = record { told = whole.told; calls = whole.calls; cause = is.cause; due = is.due; accepted = λ _ _. is.accepted; output = is.output; unwritten = λ e. cc }
      run_answered (Budget node) is = record { told = whole.told; calls = whole.calls; cause = is.cause; due = is.due; accepted = λ _ _. is.accepted; output = is.output; unwritten = λ e. cc }
      run_answered (Race race) is = record { told = whole.told; calls = whole.calls; cause = is.cause; due = is.due; accepted = λ _ _. is.accepted; output = is.output; unwritten = λ e. cc }
      run_answered (Source (source.Read number offset)) is = record { told = whole.told; calls = whole.calls; cause = is.cause; due = is.due; accepted = λ _ _. is.accepted; output = is.output; unwritten = λ e. cc }
      run_answered (Source (source.Check kind place)) is = record { told = whole.told; calls = whole.calls; cause = is.cause; due = is.due; accepted = λ _ _. is.accepted; output = is.output; unwritten = λ e. cc }
      run_answered (Source source.TooLong) is = absurd is.plain
      run_answered Words is = absurd is.plain
      run_answered ReadFault is = absurd is.plain
      run_answered WriteFault is = absurd is.plain
      run_answered Memory is = absurd is.plain

      -- the command stopped, and nothing was written
      pub run_stopped : out.new ≡ out.old → (status : Status) → StopsWith command text status → IsRun shelf out command text status
      run_stopped unwritten status (inr memory) =
          subst (IsRun shelf out command text) (sym memory) (run_memory text unwritten (text_of_held (shelf.texts shelf.old) shelf.file text whole.told) (inr (some_of_whole text whole)))
      run_stopped unwritten status (inl outcome) =
          run_answered status (answered text (only status) whole.short outcome
          (subst (λ new. IsWritten out.held out.took out.old new []) (sym unwritten) (IsWritten-nothing out.held out.took out.old [] refl)))

      -- what was made of the text was written
      pub run_written : (reply : Reply) → IsOutcome command text reply → Written reply.text → IsRun shelf out command text reply.status
      run_written reply outcome written = run_answered reply.status (answered text reply whole.short outcome written)

      shown_where_unwritten : (reply : Reply) → IsOutcome command text reply → IsCutShort out.held out.took out.failed out.old out.new reply.text → is_shown reply.status ≡ true
      shown_where_unwritten reply outcome short =
          elim (is_shown reply.status) as (λ b. (b ≡ false → reply.text ≡ []) → b ≡ true) [
            | true ↦ λ _. refl
            | false ↦ λ silent. absurd (nothing_is_whole out.held out.took out.failed out.old out.new reply.text (silent refl) short)
          ] outcome.silent

      -- writing it failed
      pub run_unwritten : (reply : Reply) → IsOutcome command text reply → WriteFailed out → IsCutShort out.held out.took out.failed out.old out.new reply.text → IsRun shelf out command text WriteFault
      run_unwritten reply outcome fault short =
          let shown = shown_where_unwritten reply outcome short in record {
            told = whole.told;
            calls = whole.calls;
            cause = (fault, (reply, outcome.due, shown));
            due = λ other is. (fault, subst (λ r. is_shown r.status ≡ true) (sym (outcome.once other is)) shown);
            accepted = λ _ unfailed _ _. absurd (unfailed fault);
            output = λ other is same. absurd (subst IsPlain same (plain_of_due command text other whole.short is));
            unwritten = λ _ other is. subst (λ r. IsCutShort out.held out.took out.failed out.old out.new r.text) (sym (outcome.once other is)) short;
          }
