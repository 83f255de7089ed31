-- The machine's answer on the tokens of a text is what the definitions say of the text.
use Rattle.std.proofs.Common.{◌≡◌, inl, inr, ⊎_elim, ℕ, ◌+◌, ◌<◌, ◌≤◌, false, not, ◌||◌, IsTrue, Option, Some, None, List, [], ◌∷◌, ◌++◌, length, slice_get, refl, ap, sym, ◌∙◌, subst, arith, append-nil}
use Rattle.std.specs.List.{list_all}
use Rattle.std.proofs.lemmas.Bool.{and_from, and_parts, cases_order, not-true, not_from_false, le-leb, leb-true, le-ltb, ltb-false, or_from, or_parts}
use Rattle.std.proofs.lemmas.List.{length-map}
use Rattle.std.proofs.lemmas.Option.{none-some, same_Some, slice_get_within}
use Rattle.cilk_tree.specs.declared.count.Count.{Count}
use Rattle.cilk_tree.specs.declared.ending.Ending.{Ending}
use Rattle.cilk_tree.specs.declared.ending.Ending.TheVariants.{Reached, Stopped}
use Rattle.cilk_tree.specs.declared.kind.Kind.{Kind}
use Rattle.cilk_tree.specs.declared.token.Placed.{Placed}
use Rattle.cilk_tree.specs.declared.token.Token.{Token}
use Rattle.cilk_tree.specs.declared.tree.Program.{Program}
use Rattle.cilk_tree.specs.Counts.{passes_limit, is_long}
use Rattle.cilk_tree.specs.Kind.{kind_number}
use Rattle.cilk_tree.specs.Lexeme.{Divides, tokens_of}
use Rattle.cilk_tree.specs.Levels.{Spelled, spell_source, source_tokens}
use Rattle.cilk_tree.specs.Spelling.{IsEndFault, IsFault, IsFaultAt, IsNoLater, IsProgram, IsRefusal, IsTokenFault, is_shallow, passes}
use Rattle.cilk_tree.specs.Sugar.{source_tree}
use Rattle.cilk_tree.specs.Syntax.{Empty, Source, IsWellFormed}
use Rattle.cilk_parser.specs.declared.parser.End.{End}
use Rattle.cilk_parser.specs.Phrases.{answer_on}
use Rattle.cilk_parser.specs.Run.{Answer, Accepted, Refused, at_end, reads, walk}
use Rattle.cilk_parser.specs.Steps.{Items, Next, finish}
use Rattle.cilk_parser.specs.Tally.{all_counted_on, is_over, none_counted}
use Rattle.cilk_parser.proofs.Begun.{all_spelled, ended, same_next, source_walks}
use Rattle.cilk_parser.proofs.Answered.Faults.{IsClean, front_clean}
use Rattle.cilk_parser.proofs.JudgedLate.Judging.{AreKept}
use Rattle.cilk_parser.proofs.JudgedLate.Limits.{counted_append, passes_limit_over}
use Rattle.cilk_parser.proofs.Answered.Offsets.{before_end, end_place, offsets_ascend}
use Rattle.cilk_parser.proofs.JudgedLate.Outcomes.{outcome}
use Rattle.cilk_parser.proofs.Emitted.ReadSound.{ReadSound, read_sound}
use Rattle.cilk_parser.proofs.Answered.Verdicts.{IsFirstFault, Verdict, AtToken, AtEnd, verdict}
use Rattle.cilk_parser.proofs.Walks.{reads_after_walk}

-- ---- the limits of a source

kept_limits : (before : List Count) (spelled : List Spelled) → is_over (all_counted_on none_counted before) ≡ false → AreKept (all_counted_on none_counted before) spelled →
    IsTrue (list_all is_shallow spelled) × IsTrue (list_all not (passes before spelled))
kept_limits before [] within kept = (refl, refl)
kept_limits before (spelled ∷ more) within kept =
    let t = all_counted_on none_counted before in
    let after = counted_append none_counted before spelled.counts in
    let first = or_parts (is_over (all_counted_on t spelled.counts)) (is_long spelled.token) kept.0.counts in
    let now = ap is_over after ∙ first.0 in
    let rest = kept_limits (before ++ spelled.counts) more now (subst (λ t. AreKept t more) (sym after) kept.1) in
    let none = or_from (passes_limit before spelled.counts) (is_long spelled.token) (passes_limit_over before spelled.counts within ∙ now) first.1 in (
      and_from (is_shallow spelled) (list_all is_shallow more) (le-leb spelled.level 64 (ltb-false 64 spelled.level kept.0.level)) rest.0,
      and_from (not (passes_limit before spelled.counts || is_long spelled.token)) (list_all not (passes (before ++ spelled.counts) more))
          (not_from_false (passes_limit before spelled.counts || is_long spelled.token) none) rest.1,
    )

limits_kept : (before : List Count) (spelled : List Spelled) → is_over (all_counted_on none_counted before) ≡ false → IsTrue (list_all is_shallow spelled) → IsTrue (list_all not (passes before spelled)) →
    AreKept (all_counted_on none_counted before) spelled
limits_kept before [] within shallow passed = tt
limits_kept before (spelled ∷ more) within shallow passed =
    let t = all_counted_on none_counted before in
    let after = counted_append none_counted before spelled.counts in
    let levels = and_parts (is_shallow spelled) (list_all is_shallow more) shallow in
    let counts = and_parts (not (passes_limit before spelled.counts || is_long spelled.token)) (list_all not (passes (before ++ spelled.counts) more)) passed in
    let none = or_parts (passes_limit before spelled.counts) (is_long spelled.token) (not-true (passes_limit before spelled.counts || is_long spelled.token) counts.0) in
    let now = sym (passes_limit_over before spelled.counts within) ∙ none.0 in (
      record {
        level = le-ltb 64 spelled.level (leb-true spelled.level 64 levels.0);
        counts = or_from (is_over (all_counted_on t spelled.counts)) (is_long spelled.token) (ap is_over (sym after) ∙ now) none.1;
      },
      subst (λ t. AreKept t more) after (limits_kept (before ++ spelled.counts) more now levels.1 counts.1),
    )

-- ---- programs

-- the tokens read to their end
source_read : (tokens : List Token) (next : Next) (source : Source) → walk (Items Empty) tokens ≡ Some next → finish next.state ≡ Some source → ReadSound tokens source
unfolding reads
source_read tokens next source walked e = read_sound tokens source (ap (reads (Items Empty)) (sym (append-nil tokens)) ∙ reads_after_walk (Items Empty) tokens [] next walked ∙ e)

program_from : (tokens : List Token) (next : Next) (source : Source) → walk (Items Empty) tokens ≡ Some next → AreKept none_counted (all_spelled next) → finish next.state ≡ Some source → IsProgram tokens (source_tree source)
program_from tokens next source walked kept e =
    let read = source_read tokens next source walked e in
    let same = ap all_spelled (same_next tokens next (ended source (spell_source source)) walked read.walked) ∙ append-nil (spell_source source) in
    let limits = kept_limits [] (spell_source source) refl (subst (AreKept none_counted) same kept) in
    record {
      source = source;
      formed = read.formed;
      same = sym read.tokens;
      limits = and_from (list_all is_shallow (spell_source source)) (list_all not (passes [] (spell_source source))) limits.0 limits.1;
      tree = refl;
    }

accepted_from : (size : ℕ) (ending : Ending) (source : Source) (read : Option Source) → at_end (record { size = size; ending = ending }) read ≡ Accepted source → (ending ≡ Reached) × (read ≡ Some source)
accepted_from size Reached source (Some read) e = (refl, ap Some (cc))
accepted_from size Reached source None e = absurd (cc)
accepted_from size (Stopped kind place) source read e = absurd (cc)

accepted_by : (end : End) (places : List Placed) (source : Source) (answer : Answer) → answer ≡ Accepted source → Verdict end places answer → (end.ending ≡ Reached) × IsProgram (tokens_of places) (source_tree source)
accepted_by end places source answer e (AtToken kind offset fault same) = absurd (cc)
accepted_by end places source answer e (AtEnd next walked kept clean same) =
    let h = accepted_from end.size end.ending source (finish next.state) (sym same ∙ e) in
    (h.0, program_from (tokens_of places) next source walked kept h.1)

pub accepted_is_program : (end : End) (places : List Placed) (source : Source) → answer_on end places ≡ Accepted source → (end.ending ≡ Reached) × IsProgram (tokens_of places) (source_tree source)
accepted_is_program end places source e = accepted_by end places source (answer_on end places) e (verdict end places (answer_on end places) (outcome end places))

-- ---- no fault in a program

program_walks : (tokens : List Token) (program : Program) (h : IsProgram tokens program) → walk (Items Empty) tokens ≡ Some (ended h.source (spell_source h.source))
program_walks tokens program h = ap (walk (Items Empty)) h.same ∙ source_walks h.source h.formed

program_clean : (tokens : List Token) (program : Program) (place : ℕ) → IsProgram tokens program → place < length tokens → IsClean tokens place
program_clean tokens program place h less =
    let spelled = spell_source h.source in
    let limits = and_parts (list_all is_shallow spelled) (list_all not (passes [] spelled)) h.limits in
    let size = ap length h.same ∙ length-map spelled (λ s. s.token) in
    subst (λ t. IsClean t place) (append-nil tokens)
    (front_clean tokens [] (ended h.source spelled) (program_walks tokens program h) spelled [] refl (limits_kept [] spelled refl limits.0 limits.1) (inr tt) place (omega (arith, size)))

pub program_has_no_fault : (size : ℕ) (places : List Placed) (program : Program) (kind : Kind) (offset : ℕ) → IsProgram (tokens_of places) program → IsFault size places Reached kind offset → ⊥
program_has_no_fault size places program kind offset h (inl fault) =
    program_clean (tokens_of places) program fault.place h (omega (arith, slice_get_within places fault.place fault.placed fault.there, length-map places (λ p. p.token))) kind fault.fault
program_has_no_fault size places program kind offset h (inr fault) = fault.2 h.source h.formed h.same

accepts_by : (end : End) (places : List Placed) (program : Program) (answer : Answer) → end.ending ≡ Reached → IsProgram (tokens_of places) program → Verdict end places answer →
    (source : Source) × (answer ≡ Accepted source) × (program ≡ source_tree source)
accepts_by end places program answer reached h (AtToken kind offset fault same) =
    absurd (program_has_no_fault 0 places program kind offset h (inl (record { place = fault.place; placed = fault.placed; there = fault.there; same = fault.same; fault = fault.fault })))
accepts_by end places program answer reached h (AtEnd next walked kept clean same) =
    let read = ap (λ n. finish n.state) (same_next (tokens_of places) next (ended h.source (spell_source h.source)) walked (program_walks (tokens_of places) program h)) in
    (h.source, same ∙ ap (at_end end) read ∙ ap (λ r. at_end (record { size = end.size; ending = r }) (Some h.source)) reached, h.tree)

pub program_is_accepted : (end : End) (places : List Placed) (program : Program) → end.ending ≡ Reached → IsProgram (tokens_of places) program → (source : Source) × (answer_on end places ≡ Accepted source) × (program ≡ source_tree source)
program_is_accepted end places program reached h = accepts_by end places program (answer_on end places) reached h (verdict end places (answer_on end places) (outcome end places))

-- ---- refusals

end_fault_place : (size : ℕ) (tokens : List Token) (ending : Ending) (kind : Kind) (offset : ℕ) → IsEndFault size tokens ending kind offset → offset ≡ end_place size ending
end_fault_place size tokens Reached kind offset h = h.1
end_fault_place size tokens (Stopped reason place) kind offset h = h.1

end_fault_kind : (size : ℕ) (tokens : List Token) (ending : Ending) (kind other : Kind) (offset other_offset : ℕ) → IsEndFault size tokens ending kind offset → IsEndFault size tokens ending other other_offset → kind ≡ other
end_fault_kind size tokens Reached kind other offset other_offset h g = h.0 ∙ sym g.0
end_fault_kind size tokens (Stopped reason place) kind other offset other_offset h g = h.0 ∙ sym g.0

end_refuses : (size : ℕ) (ending : Ending) (tokens : List Token) (read : Option Source) (kind : Kind) (offset : ℕ) → (read ≡ None → (source : Source) → IsWellFormed source → tokens ≡ source_tokens source → ⊥) →
    at_end (record { size = size; ending = ending }) read ≡ Refused kind offset → IsEndFault size tokens ending kind offset
end_refuses size Reached tokens (Some read) kind offset none e = absurd (cc)
end_refuses size Reached tokens None kind offset none e = (cc, cc, none refl)
end_refuses size (Stopped reason place) tokens read kind offset none e = (cc, cc)

none_read : (tokens : List Token) (next : Next) → walk (Items Empty) tokens ≡ Some next → finish next.state ≡ None → (source : Source) → IsWellFormed source → tokens ≡ source_tokens source → ⊥
none_read tokens next walked none source formed same =
    let walks = ap (walk (Items Empty)) same ∙ source_walks source formed in
    none-some source (sym none ∙ ap (λ n. finish n.state) (same_next tokens next (ended source (spell_source source)) walked walks))

module _ (text : List ℕ) (places : List Placed) (ending : Ending) (divides : Divides 0 text places ending) (kind : Kind) (offset : ℕ) where
  same_place : (fault : IsFirstFault (tokens_of places) places kind offset) (other : Kind) (other_offset : ℕ) (g : IsFaultAt places other other_offset) → fault.place ≡ g.place →
      (offset ≡ other_offset) × (kind_number kind ≤ kind_number other)
  same_place fault other other_offset g same =
      let placed = same_Some fault.placed g.placed (sym fault.there ∙ ap (slice_get places) same ∙ g.there) in
      (fault.same ∙ ap (λ p. p.offset) placed ∙ sym g.same, fault.least other (subst (λ p. IsTokenFault (tokens_of places) p other) (sym same) g.fault))

  token_first : (fault : IsFirstFault (tokens_of places) places kind offset) (other : Kind) (other_offset : ℕ) → IsFault (length text) places ending other other_offset → IsNoLater offset kind other_offset other
  token_first fault other other_offset (inl g) =
      ⊎_elim (λ (same : fault.place ≡ g.place). inr (same_place fault other other_offset g same))
      (⊎_elim (λ (less : fault.place < g.place). inl (omega (arith, offsets_ascend 0 text places ending divides fault.place g.place fault.placed g.placed less fault.there g.there, fault.same, g.same)))
      (λ (less : g.place < fault.place). absurd (fault.before g.place less other g.fault)))
      (cases_order fault.place g.place)
  token_first fault other other_offset (inr g) =
      let size : 0 + length text ≡ length text = omega arith in
      let less = subst (λ n. fault.placed.offset < end_place n ending) size (before_end 0 text places ending divides fault.place fault.placed fault.there) in
      inl (omega (arith, less, fault.same, end_fault_place (length text) (tokens_of places) ending other other_offset g))

  end_first : ((place : ℕ) → place < length places → IsClean (tokens_of places) place) → IsEndFault (length text) (tokens_of places) ending kind offset → (other : Kind) (other_offset : ℕ) →
      IsFault (length text) places ending other other_offset → IsNoLater offset kind other_offset other
  end_first clean fault other other_offset (inl g) = absurd (clean g.place (slice_get_within places g.place g.placed g.there) other g.fault)
  end_first clean fault other other_offset (inr g) =
      inr (
        end_fault_place (length text) (tokens_of places) ending kind offset fault ∙ sym (end_fault_place (length text) (tokens_of places) ending other other_offset g),
        omega (arith, ap kind_number (end_fault_kind (length text) (tokens_of places) ending kind other offset other_offset fault g)),
      )

first_as : (tokens : List Token) (places : List Placed) (reason kind : Kind) (place offset : ℕ) → Refused reason place ≡ Refused kind offset → IsFirstFault tokens places reason place → IsFirstFault tokens places kind offset
first_as tokens places reason kind place offset e h =
    let same : reason ≡ kind = cc in
    let at : place ≡ offset = cc in
    subst (λ k. IsFirstFault tokens places k offset) same (subst (λ o. IsFirstFault tokens places reason o) at h)

refused_by : (text : List ℕ) (end : End) (places : List Placed) (kind : Kind) (offset : ℕ) (answer : Answer) → Divides 0 text places end.ending → end.size ≡ length text → answer ≡ Refused kind offset →
    Verdict end places answer → IsRefusal text kind offset
refused_by text end places kind offset answer divides size e (AtToken reason place found same) =
    let fault = first_as (tokens_of places) places reason kind place offset (sym same ∙ e) found in
    record {
      places = places;
      ending = end.ending;
      divides = divides;
      fault = inl (record { place = fault.place; placed = fault.placed; there = fault.there; same = fault.same; fault = fault.fault });
      first = token_first text places end.ending divides kind offset fault;
    }
refused_by text end places kind offset answer divides size e (AtEnd next walked kept clean same) =
    let tokens = tokens_of places in
    let refuses = end_refuses end.size end.ending tokens (finish next.state) kind offset (none_read tokens next walked) (sym same ∙ e) in
    let fault = subst (λ n. IsEndFault n tokens end.ending kind offset) size refuses in
    record { places = places; ending = end.ending; divides = divides; fault = inr fault; first = end_first text places end.ending divides kind offset clean fault }

pub refused_is_first : (text : List ℕ) (end : End) (places : List Placed) (kind : Kind) (offset : ℕ) → Divides 0 text places end.ending → end.size ≡ length text → answer_on end places ≡ Refused kind offset → IsRefusal text kind offset
refused_is_first text end places kind offset divides size e = refused_by text end places kind offset (answer_on end places) divides size e (verdict end places (answer_on end places) (outcome end places))
