-- The service reads the last value of each word, and leaves it in memory.
use Rattle.std.proofs.Common.{◌≡◌, ℕ, suc, ◌<◌, ◌≤◌, ◌⊎◌, inl, inr, ℤ, true, false, Some, None, List, ◌∷◌, length, refl, sym, ◌∙◌, ap, subst, arith}
use Rattle.std.proofs.lemmas.Bool.{eqb-true, eqb-false}
use Rattle.std.specs.Prelude.{◌==◌, ◌+ℤ◌, if◌then◌else◌}
use Rattle.backer_order.proofs.Search.{Less3, Same3, More3, compare}
use Rattle.backer_order.specs.Log as log
use Rattle.backer_order.specs.Log.{Nothing, Events, SharedMemory}
use Rattle.backer_order.specs.Moments.{Obtains}
use Rattle.cilk_meaning.specs.Values.{fits}
use Rattle.cilk_meaning.specs.World as world
use Rattle.cilk_meaning.specs.World.{World, End, with_word, sum_or_old}
use Rattle.cluster_rules.specs.Home.{sum_in}
use Rattle.determinacy.proofs.Rows.{either_bool}
use Rattle.determinacy.specs.Serial.{LastOf, SerialReads}
use Rattle.elision_trace.proofs.Lasting.{ObtainsBy, LeavesBy, obtains_by, leaves_by, leaves_from, last_same, last_quiet, last_here, obtains_from}
use Rattle.elision_trace.proofs.Logs.{event_here, event_there, nothing_from}
use Rattle.elision_trace.specs.Tracing.{frame_at, event_of, events_in}
use Rattle.page_messages.specs.declared.closure.FrameId.{FrameId}

pub no_obtains : (node word : ℕ) (value : ℤ) → ObtainsBy Nothing node word value → ⊥
no_obtains node word value (inl read) = let is = read.1 in cc
no_obtains node word value (inr add) = let is = add.2 in cc

module _ (memory : SharedMemory) where
  -- what an event gives is the word before it, and what it leaves, the word after it
  pub record Steps (event : world.Event) (before behind : ℕ → ℤ) : Type 0 where
    pub obtains : (node word : ℕ) (value : ℤ) → ObtainsBy (event_of event) node word value → value ≡ before word
    pub words : (word : ℕ) → ((node : ℕ) × LeavesBy memory (event_of event) node word (behind word))
        ⊎ (((node : ℕ) (value : ℤ) → LeavesBy memory (event_of event) node word value → ⊥) × (behind word ≡ before word))

  pub record Reads (words : ℕ → ℤ) (events : List world.Event) : Type 0 where
    pub holds : (word : ℕ) → LastOf (events_in events) memory word (length events) (words word)
    pub reads : SerialReads (events_in events) memory

  module _ (events : List world.Event) (event : world.Event) where
    agrees : (at : ℕ) → at < length events → events_in (event ∷ events) at ≡ events_in events at
    agrees at before = event_there event events at (λ same. absurd (omega (arith, before, same)))

    agrees_below : (now at : ℕ) → now ≤ length events → at < now → events_in (event ∷ events) at ≡ events_in events at
    agrees_below now at inside before = agrees at (omega (arith, inside, before))

    holds_more : (before behind : ℕ → ℤ) → Reads before events → Steps event before behind → (word : ℕ) →
        LastOf (events_in (event ∷ events)) memory word (suc (length events)) (behind word)
    holds_more before behind reads steps word = elim (steps.words word) [
      | inl left ↦ last_here memory (events_in (event ∷ events)) left.0 word (length events) (behind word)
          (leaves_from memory (events_in (event ∷ events)) (length events) (event_of event) left.0 word (behind word) (event_here event events) left.1)
      | inr quiet ↦
          let same : LastOf (events_in (event ∷ events)) memory word (length events) (before word) =
          last_same memory (events_in events) (events_in (event ∷ events)) word (length events) (before word) agrees (reads.holds word) in
          subst (λ i. LastOf (events_in (event ∷ events)) memory word (suc (length events)) i) (sym quiet.1)
          (last_quiet memory (events_in (event ∷ events)) word (length events) (before word)
          (λ leaving. quiet.0 leaving.0 leaving.1.0
          (leaves_by memory (events_in (event ∷ events)) (length events) (event_of event) leaving.0 word leaving.1.0 (event_here event events) leaving.1.1))
          same)
    ]

    reads_more : (before behind : ℕ → ℤ) → Reads before events → Steps event before behind → SerialReads (events_in (event ∷ events)) memory
    reads_more before behind reads steps node word at value obtains = elim (compare at (length events)) [
      | Less3 l ↦
          let old : Obtains (events_in events) node word at value =
          obtains_from (events_in events) at (events_in events at) node word value refl
          (obtains_by (events_in (event ∷ events)) at (events_in events at) node word value (agrees at l) obtains) in
          last_same memory (events_in events) (events_in (event ∷ events)) word at value (λ i below. agrees_below at i (omega arith) below)
          (reads.reads node word at value old)
      | Same3 same ↦
          let now : Obtains (events_in (event ∷ events)) node word (length events) value =
          subst (λ i. Obtains (events_in (event ∷ events)) node word i value) same obtains in
          let is = steps.obtains node word value (obtains_by (events_in (event ∷ events)) (length events) (event_of event) node word value
          (event_here event events) now) in
          let here : LastOf (events_in (event ∷ events)) memory word (length events) (before word) =
          last_same memory (events_in events) (events_in (event ∷ events)) word (length events) (before word) agrees (reads.holds word) in
          let its : LastOf (events_in (event ∷ events)) memory word (length events) value =
          subst (λ i. LastOf (events_in (event ∷ events)) memory word (length events) i) (sym is) here in
          subst (λ i. LastOf (events_in (event ∷ events)) memory word i value) (sym same) its
      | More3 l ↦ absurd (no_obtains node word value
          (obtains_by (events_in (event ∷ events)) at Nothing node word value (nothing_from (event ∷ events) at (omega arith)) obtains))
    ]

    pub more : (before behind : ℕ → ℤ) → Reads before events → Steps event before behind → Reads behind (event ∷ events)
    more before behind reads steps = record { holds = holds_more before behind reads steps; reads = reads_more before behind reads steps }

  -- ---- each event

  pub read_steps : (row word : ℕ) (words : ℕ → ℤ) → Steps (world.Acts row (world.Read word (words word))) words words
  read_steps row word words = record { obtains = obtains; words = λ other. inr ((λ node value leaves. quiet node other value leaves), refl) }
    where
      obtains : (node other : ℕ) (value : ℤ) → ObtainsBy (event_of (world.Acts row (world.Read word (words word)))) node other value → value ≡ words other
      obtains node other value (inl read) =
          let is = read.1 in let same : word ≡ other = cc in let values : words word ≡ value = cc in sym values ∙ ap words same
      obtains node other value (inr add) = let is = add.2 in absurd cc

      quiet : (node other : ℕ) (value : ℤ) → LeavesBy memory (event_of (world.Acts row (world.Read word (words word)))) node other value → ⊥
      quiet node other value (inl write) = let is = write.1 in cc
      quiet node other value (inr add) = let is = add.3 in cc

  -- an event that touches no word
  pub quiet_steps : (event : world.Event) (words : ℕ → ℤ)
      → ((node word : ℕ) (frame : FrameId) (value : ℤ) → event_of event ≡ log.Acts node frame (log.Read word value) → ⊥) →
      ((node word : ℕ) (frame : FrameId) (value : ℤ) → event_of event ≡ log.Acts node frame (log.Write word value) → ⊥) →
      ((node word : ℕ) (frame : FrameId) (old addend : ℤ) → event_of event ≡ log.Acts node frame (log.Add word old addend) → ⊥) → Steps event words words
  quiet_steps event words no_read no_write no_add =
      record { obtains = obtains; words = λ other. inr ((λ node value leaves. quiet node other value leaves), refl) }
    where
      obtains : (node other : ℕ) (value : ℤ) → ObtainsBy (event_of event) node other value → value ≡ words other
      obtains node other value (inl read) = absurd (no_read node other read.0 value read.1)
      obtains node other value (inr add) = absurd (no_add node other add.0 value add.1 add.2)

      quiet : (node other : ℕ) (value : ℤ) → LeavesBy memory (event_of event) node other value → ⊥
      quiet node other value (inl write) = no_write node other write.0 value write.1
      quiet node other value (inr add) = no_add node other add.0 add.1 add.2 add.3

  pub word_here : (word other : ℕ) (value : ℤ) (words : ℕ → ℤ) → (other == word) ≡ true → with_word word value words other ≡ value
  word_here word other value words is = ap (λ i. if i then value else words other) is

  pub word_there : (word other : ℕ) (value : ℤ) (words : ℕ → ℤ) → (other == word) ≡ false → with_word word value words other ≡ words other
  word_there word other value words is = ap (λ i. if i then value else words other) is

  pub write_steps : (row word : ℕ) (value : ℤ) (words : ℕ → ℤ) → Steps (world.Acts row (world.Write word value)) words (with_word word value words)
  write_steps row word value words = record { obtains = obtains; words = left }
    where
      obtains : (node other : ℕ) (got : ℤ) → ObtainsBy (event_of (world.Acts row (world.Write word value))) node other got → got ≡ words other
      obtains node other got (inl read) = let is = read.1 in absurd cc
      obtains node other got (inr add) = let is = add.2 in absurd cc

      only : (node other : ℕ) (got : ℤ) → (other == word) ≡ false → LeavesBy memory (event_of (world.Acts row (world.Write word value))) node other got → ⊥
      only node other got differ (inl write) = let is = write.1 in let same : other ≡ word = cc in eqb-false other word differ same
      only node other got differ (inr add) = let is = add.3 in cc

      left : (other : ℕ) → ((node : ℕ) × LeavesBy memory (event_of (world.Acts row (world.Write word value))) node other (with_word word value words other))
          ⊎ (((node : ℕ) (got : ℤ) → LeavesBy memory (event_of (world.Acts row (world.Write word value))) node other got → ⊥)
          × (with_word word value words other ≡ words other))
      left other = elim (either_bool (other == word)) [
        | inl is ↦ inl (
          0,
          inl (
            frame_at row,
            ap (λ i. log.Acts 0 (frame_at row) (log.Write i value)) (sym (eqb-true other word is))
                ∙ ap (λ i. log.Acts 0 (frame_at row) (log.Write other i)) (sym (word_here word other value words is)),
          ),
        )
        | inr differ ↦ inr ((λ node got. only node other got differ), word_there word other value words differ)
      ]

  pub sum_fits : (old addend : ℤ) → fits (old +ℤ addend) ≡ true → sum_in old addend ≡ Some (sum_or_old old addend)
  sum_fits old addend is =
      ap (λ i. if i then Some (old +ℤ addend) else None) is ∙ ap (λ i. Some i) (sym (ap (λ i. if i then old +ℤ addend else old) is))

  pub sum_lost : (old addend : ℤ) → fits (old +ℤ addend) ≡ false → (sum_in old addend ≡ None) × (sum_or_old old addend ≡ old)
  sum_lost old addend is = (ap (λ i. if i then Some (old +ℤ addend) else None) is, ap (λ i. if i then old +ℤ addend else old) is)
