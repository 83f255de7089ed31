-- What is defined by walking back says what the rules say in words.
use Rattle.std.proofs.Common.{◌≡◌, ℕ, ℤ, List, ◌∷◌, ◌++◌, Some, None, Bool, true, false, ◌||◌, is_some, refl, ◌∙◌, ap, subst, append_assoc}
use Rattle.std.specs.List.{list_any}
use Rattle.std.specs.Prelude.{slice_index_or, pos}
use Rattle.cluster_rules.specs.Walking.{given, since}
use Rattle.cluster_rules.specs.Turns.{Event, Past}
use Rattle.cluster_rules.specs.Node.{Node, page_of, place_of, start_word}
use Rattle.cluster_rules.specs.Cache.{brings, arrives, drops, written, writes, is_resident, stay, cached}
use Rattle.cluster_rules.specs.Sendings.{sends, is_dirty}
use Rattle.cluster_rules.specs.Home.{changes, stored}
use Rattle.cluster_rules.specs.Written.{Arrival, LastWrite, IsUnsent, LastChange}
use Rattle.cluster_rules.proofs.Backward.{since_at, any_latest, since_front, since_none, none_front, given_at, given_none, gives_some}

-- Resident access: a resident page has been so since an arrival with no Drop behind it.
pub resident_since : (page : ℕ) (past : Past) → is_resident page past ≡ true → (words : List ℤ) × Arrival page past words
resident_since page past resident =
    let found = any_latest (arrives page) (since (drops page) past) resident in
    let latest = found.1 in
    let brought = gives_some (brings page found.0) latest.such in
    let front = since_front (drops page) past in (
      brought.0,
      record {
        newer = latest.newer;
        older = latest.older ++ front.0;
        event = found.0;
        parts = front.1 ∙ ap (λ events. events ++ front.0) latest.parts ∙ append_assoc latest.newer (found.0 ∷ latest.older) front.0;
        brought = brought.1;
        kept =
            none_front (drops page) latest.newer (found.0 ∷ latest.older)
            (subst (λ events. list_any (drops page) events ≡ false) latest.parts (since_none (drops page) past));
        last = latest.none;
      },
    )

pub stay_is : (page : ℕ) (past : Past) (words : List ℤ) (arrival : Arrival page past words) → stay page past ≡ arrival.newer
stay_is page past words arrival =
    ap (since (arrives page)) arrival.parts ∙ since_at (arrives page) arrival.newer arrival.event arrival.older arrival.last (ap is_some arrival.brought)

pub brought_is : (page : ℕ) (past : Past) (words : List ℤ) (arrival : Arrival page past words) → given (brings page) past ≡ Some words
brought_is page past words arrival =
    ap (given (brings page)) arrival.parts ∙ given_at (brings page) arrival.newer arrival.event arrival.older words
    (given_none (brings page) arrival.newer arrival.last) arrival.brought

-- Cached read: the last Write of the word since the arrival.
pub cached_written : (node : Node) (word : ℕ) (value : ℤ) (past : Past) (words : List ℤ) (arrival : Arrival (page_of node word) past words)
    → LastWrite word value arrival.newer → cached node word past ≡ value
cached_written node word value past words arrival write =
    let is : given (written word) (stay (page_of node word) past) ≡ Some value =
    ap (given (written word)) (stay_is (page_of node word) past words arrival ∙ write.parts)
    ∙ given_at (written word) write.newer write.event write.older value (given_none (written word) write.newer write.last) write.wrote in
    rw is refl

-- And where there is none, the word in that arrival.
pub cached_arrived : (node : Node) (word : ℕ) (past : Past) (words : List ℤ) (arrival : Arrival (page_of node word) past words)
    → list_any (writes word) arrival.newer ≡ false → cached node word past ≡ slice_index_or words (place_of node word) (pos 0)
cached_arrived node word past words arrival none =
    let is : given (written word) (stay (page_of node word) past) ≡ None =
    ap (given (written word)) (stay_is (page_of node word) past words arrival) ∙ given_none (written word) arrival.newer none in
    rw (is, brought_is (page_of node word) past words arrival) refl

-- Marked reconcile: a dirty word was written, and its page has neither arrived nor been sent since.
pub dirty_since : (node : Node) (word : ℕ) (past : Past) → is_dirty node word past ≡ true → IsUnsent node word past
dirty_since node word past dirty =
    let test : Event → Bool = λ event. arrives (page_of node word) event || sends (page_of node word) event in
    let found = any_latest (writes word) (since test past) dirty in
    let latest = found.1 in
    let front = since_front test past in
    record {
      newer = latest.newer;
      older = latest.older ++ front.0;
      event = found.0;
      parts = front.1 ∙ ap (λ events. events ++ front.0) latest.parts ∙ append_assoc latest.newer (found.0 ∷ latest.older) front.0;
      wrote = latest.such;
      not_since = none_front test latest.newer (found.0 ∷ latest.older) (subst (λ events. list_any test events ≡ false) latest.parts (since_none test past));
    }

-- Home replies: a stored word is what its last change left.
pub stored_changed : (node : Node) (word : ℕ) (value : ℤ) (past : Past) → LastChange node word value past → stored node word past ≡ value
stored_changed node word value past change =
    rw (ap (given (changes node word)) change.parts ∙ given_at (changes node word) change.newer change.event change.older value change.last change.changed) refl

-- And where there is no change, its start word.
pub stored_at_start : (node : Node) (word : ℕ) (past : Past) → given (changes node word) past ≡ None → stored node word past ≡ start_word node word
stored_at_start node word past none = rw none refl
