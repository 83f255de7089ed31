-- Each event of a log is an item.
use Rattle.std.proofs.Common.{◌≡◌, ℕ, zero, suc, ◌<◌, Bool, true, List, [], ◌∷◌, length, reverse, Some, inl, inr, refl, sym, ◌∙◌, ap, arith}
use Rattle.std.proofs.lemmas.List.{reverse-append, length-reverse}
use Rattle.std.proofs.lemmas.Option.{slice_get_within}
use Rattle.std.specs.Prelude.{slice_get}
use Rattle.backer_order.proofs.Search.{Less3, Same3, More3, compare}
use Rattle.cilk_meaning.specs.World.{Event, Acts, Ticks}
use Rattle.determinacy.proofs.Rows.{when_true}
use Rattle.determinacy.specs.Ending.{count, is_item, all_ticks}
use Rattle.elision_trace.proofs.Logs.{event_here, event_there}
use Rattle.span_tree.proofs.Growing.{get_more}
use Rattle.elision_trace.specs.Tracing.{event_of, events_in}

event_item : (event : Event) → is_item (event_of event) ≡ true
unfolding is_item
event_item (Acts row act) = refl
event_item (Ticks row) = refl

pub all_items : (events : List Event) (at : ℕ) → at < length events → is_item (events_in events at) ≡ true
all_items [] at before = absurd (omega (arith, before))
all_items (event ∷ events) at before = elim (compare at (length events)) [
  | Less3 l ↦ ap is_item (event_there event events at (λ same. absurd (omega (arith, same)))) ∙ all_items events at l
  | Same3 same ↦ ap (λ i. is_item (events_in (event ∷ events) i)) same ∙ ap is_item (event_here event events) ∙ event_item event
  | More3 l ↦ absurd (omega (arith, before))
]

count_all : (holds : ℕ → Bool) (number : ℕ) → ((at : ℕ) → at < number → holds at ≡ true) → count holds number ≡ number
unfolding count
count_all holds zero all = refl
count_all holds (suc number) all =
    when_true (holds number) (suc (count holds number)) (count holds number) (all number (omega arith))
    ∙ ap suc (count_all holds number (λ at before. all at (omega (arith, before))))

pub ticks_all : (events : List Event) → all_ticks (events_in events) (length events) ≡ length events
ticks_all events = count_all (λ at. is_item (events_in events at)) (length events) (all_items events)

-- at each position stands the event with this number, the oldest first
pub event_at : (events : List Event) (at : ℕ) (event : Event) → slice_get (reverse events) at ≡ Some event → events_in events at ≡ event_of event
event_at [] at event is = absurd cc
event_at (latest ∷ events) at event is =
    elim (get_more (reverse events) latest event at (ap (λ i. slice_get i at) (sym (reverse-append (latest ∷ []) events)) ∙ is)) [
      | inl old ↦
          let inside = slice_get_within (reverse events) at event old in
          let lengths = length-reverse events in
          event_there latest events at (λ same. absurd (omega (arith, inside, lengths, same))) ∙ event_at events at event old
      | inr new ↦
          ap (events_in (latest ∷ events)) (new.0 ∙ length-reverse events) ∙ event_here latest events ∙ ap event_of new.1
    ]
