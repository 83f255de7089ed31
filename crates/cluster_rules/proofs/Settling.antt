-- That all Writes of a node are settled, by computing.
use Rattle.std.proofs.Common.{◌≡◌, ℕ, List, [], ◌∷◌, ◌++◌, Bool, true, false, ◌&&◌, ◌||◌, not, refl, sym, subst, append_assoc, rules}
use Rattle.std.proofs.lemmas.List.{append-nil}
use Rattle.std.specs.List.{list_any}
use Rattle.cluster_rules.specs.Turns.{Event, Past}
use Rattle.cluster_rules.specs.Node.{Node}
use Rattle.cluster_rules.specs.Cache.{writes}
use Rattle.cluster_rules.specs.Sendings.{sends_word, settles, IsSettled, AllSettled}
use Rattle.cluster_rules.proofs.Testing.{both_true}

no_write_on : (word : ℕ) (past later older : Past) (event : Event) → list_any (writes word) past ≡ false → past ≡ later ++ event ∷ older
    → writes word event ≡ true → ⊥
no_write_on word past [] older event none parts wrote =
    let some : list_any (writes word) (event ∷ older) ≡ false = subst (λ it. list_any (writes word) it ≡ false) parts none in
    let not : writes word event ≡ false = grind (rules) in absurd (cc)
no_write_on word past (first ∷ later) older event none parts wrote =
    let some : list_any (writes word) (first ∷ (later ++ event ∷ older)) ≡ false = subst (λ it. list_any (writes word) it ≡ false) parts none in
    let rest : list_any (writes word) (later ++ event ∷ older) ≡ false = grind (rules) in
    no_write_on word (later ++ event ∷ older) later older event rest refl wrote

-- A word that was never written is settled.
pub settled_unwritten : (node : Node) (word : ℕ) (past : Past) → list_any (writes word) past ≡ false → AllSettled node word past
settled_unwritten node word past none = λ later older event parts wrote. absurd (no_write_on word past later older event none parts wrote)

-- ---- a settled sending among what came later

-- one of these events, behind which those came, is a settled sending of the word
abbrev pub is_sent_home : Node → ℕ → Past → Past → Bool
is_sent_home node word newer [] = false
is_sent_home node word newer (event ∷ older) = (sends_word node word event && settles event newer) || is_sent_home node word (newer ++ event ∷ []) older

sent_home_on : (node : Node) (word : ℕ) (newer : Past) (event : Event) (older : Past) (sends settled : Bool) → sends_word node word event ≡ sends
    → settles event newer ≡ settled
    → (sends && settled) || is_sent_home node word (newer ++ event ∷ []) older ≡ true
    → (is_sent_home node word (newer ++ event ∷ []) older ≡ true → IsSettled node word ((newer ++ event ∷ []) ++ older))
    → IsSettled node word (newer ++ event ∷ older)
sent_home_on node word newer event older true true sends settled is rest =
    record { newer = newer; older = older; event = event; parts = refl; sends = sends; settled = settled }
sent_home_on node word newer event older true false sends settled is rest = subst (IsSettled node word) (append_assoc newer (event ∷ []) older) (rest is)
sent_home_on node word newer event older false settled_so sends settled is rest = subst (IsSettled node word) (append_assoc newer (event ∷ []) older) (rest is)

sent_home : (node : Node) (word : ℕ) (newer later : Past) → is_sent_home node word newer later ≡ true → IsSettled node word (newer ++ later)
sent_home node word newer [] is = absurd (cc)
sent_home node word newer (event ∷ older) is =
    sent_home_on node word newer event older (sends_word node word event) (settles event newer) refl refl is (sent_home node word (newer ++ event ∷ []) older)

-- each of these Writes of the word, behind which those events came, is settled
abbrev pub are_sent_home : Node → ℕ → Past → Past → Bool
are_sent_home node word newer [] = true
are_sent_home node word newer (event ∷ older) =
    (not (writes word event) || is_sent_home node word [] newer) && are_sent_home node word (newer ++ event ∷ []) older

wrote_then : (wrote sent : Bool) → wrote ≡ true → not wrote || sent ≡ true → sent ≡ true
wrote_then true sent is either = either
wrote_then false sent is either = absurd (cc)

same_first : (one other : Event) (ones others : Past) → one ∷ ones ≡ other ∷ others → (one ≡ other) × (ones ≡ others)
same_first one other ones others same = let first : one ≡ other = cc in let rest : ones ≡ others = cc in (first, rest)

settled_at : (node : Node) (word : ℕ) (newer past later older : Past) (event : Event) → are_sent_home node word newer past ≡ true
    → past ≡ later ++ event ∷ older
    → writes word event ≡ true → IsSettled node word (newer ++ later)
settled_at node word newer [] [] older event are parts wrote = absurd (cc)
settled_at node word newer [] (first ∷ later) older event are parts wrote = absurd (cc)
settled_at node word newer (first ∷ past) [] older event are parts wrote =
    let same = same_first first event past older parts in
    let both = both_true (not (writes word first) || is_sent_home node word [] newer) (are_sent_home node word (newer ++ first ∷ []) past) are in
    let wrote_first : writes word first ≡ true = subst (λ it. writes word it ≡ true) (sym same.0) wrote in
    let sent : is_sent_home node word [] newer ≡ true = wrote_then (writes word first) (is_sent_home node word [] newer) wrote_first both.0 in
    subst (IsSettled node word) (sym (append-nil newer)) (sent_home node word [] newer sent)
settled_at node word newer (first ∷ past) (second ∷ later) older event are parts wrote =
    let same = same_first first second past (later ++ event ∷ older) parts in
    let both = both_true (not (writes word first) || is_sent_home node word [] newer) (are_sent_home node word (newer ++ first ∷ []) past) are in
    let rest = settled_at node word (newer ++ first ∷ []) past later older event both.1 same.1 wrote in
    subst (λ it. IsSettled node word (newer ++ it ∷ later)) same.0 (subst (IsSettled node word) (append_assoc newer (first ∷ []) later) rest)

-- The Writes of a word are settled.
pub settled_by : (node : Node) (word : ℕ) (past : Past) → are_sent_home node word [] past ≡ true → AllSettled node word past
settled_by node word past are = λ later older event parts wrote. settled_at node word [] past later older event are parts wrote

-- ---- all words

abbrev pub all_sent_home : Node → List ℕ → Past → Bool
all_sent_home node [] past = true
all_sent_home node (word ∷ words) past = are_sent_home node word [] past && all_sent_home node words past
