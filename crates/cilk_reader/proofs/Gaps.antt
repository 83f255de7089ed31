-- Gaps: how blanks and comments begin and end, and that a text has one gap before what is no blank and no comment.
use Rattle.std.proofs.Common.{Bor, ◌≡◌, ◌≢◌, ℕ, ◌==◌, nat_eq, Bool, true, false, not, IsTrue, IsFalse, List, [], ◌∷◌, ◌++◌, length, take, drop, Option, Some, None, MatchOption, sym, refl, ap, ◌∙◌, subst, arith, append_assoc, take-append-drop}
use Rattle.std.specs.Prelude.{codes}
use Rattle.std.specs.List.{prefix_len, starts_with}
use Rattle.std.specs.Bool.{then_some}
use Rattle.std.proofs.lemmas.Bool.{and_parts, and_from, or_parts, or_from, or_left, or_right, both_ways, not-true, false_from_ne_true}
use Rattle.std.proofs.lemmas.Bool.Decides.{Decides-eqb, nat_tests}
use Rattle.std.proofs.lemmas.Slice.Eq.{starts_is}
use Rattle.cilk_tree.specs.Lexeme.{Piece, Blank, LineComment, BlockComment, piece_text, gap_text, is_piece, is_gap, has_close, ends_line, is_blank, opens_comment, starts}
use Rattle.cilk_reader.specs.Heads.{begins_piece, past_line, IsCommentBody, IsPieceBefore, IsGapBefore}
use Rattle.cilk_reader.proofs.Runs.{run_all, run_ends, run_unique}

pub prefix_from : (text needle rest : List ℕ) → text ≡ needle ++ rest → IsTrue (starts_with nat_eq text needle)
prefix_from text needle rest e = (starts_is Decides-eqb text needle (starts_with nat_eq text needle) refl).1 rest e

pub prefix_split : (text needle : List ℕ) → IsTrue (starts_with nat_eq text needle) → text ≡ needle ++ drop (length needle) text
prefix_split text needle h = (starts_is Decides-eqb text needle (starts_with nat_eq text needle) refl).0 h

-- ---- comments to the end of a line

abbrev not_end : ℕ → Bool
not_end byte = not (byte == 10)

line_ends : (rest : List ℕ) → IsTrue (ends_line rest) → IsFalse (starts not_end rest)
line_ends [] h = refl
line_ends (byte ∷ rest) h = ap not h

ends_from_line : (rest : List ℕ) → IsFalse (starts not_end rest) → IsTrue (ends_line rest)
ends_from_line [] h = refl
ends_from_line (byte ∷ rest) h = grind (arith, nat_tests)

pub line_piece : (text body : List ℕ) → text ≡ codes "//" ++ body → IsPieceBefore text (past_line body)
line_piece text body e = record {
  piece = LineComment (take (prefix_len not_end body) body);
  parts = e ∙ ap (λ b. codes "//" ++ b) (sym (take-append-drop (prefix_len not_end body) body));
  fits = and_from _ _ (run_all not_end body) (ends_from_line (past_line body) (run_ends not_end body));
}

-- ---- comments to their close

-- What is known of a text after the bytes up to the rest, none of which begins a `*/`.
pub record CloseSoFar (text rest : List ℕ) : Type 0 where
  pub none : IsFalse (has_close rest) → IsFalse (has_close text)
  pub found : (after : List ℕ) → IsCommentBody rest after → IsCommentBody text after

no_close_here : (byte : ℕ) (body after : List ℕ) → ((more : List ℕ) → byte ∷ (body ++ after) ≢ codes "*/" ++ more) → IsFalse (starts_with nat_eq (byte ∷ body) (codes "*/"))
no_close_here byte body after other =
    false_from_ne_true _ (λ h. other (drop 2 (byte ∷ body) ++ after) (ap (λ b. b ++ after) (prefix_split (byte ∷ body) (codes "*/") h)))

pub close_so_far_push : (text rest after : List ℕ) (byte : ℕ) → CloseSoFar text rest → rest ≡ byte ∷ after → ((more : List ℕ) → rest ≢ codes "*/" ++ more) → CloseSoFar text after
close_so_far_push text rest after byte so_far e other = record {
  none = λ h.
      so_far.none (subst (λ r. IsFalse (has_close r)) (sym e)
      (or_from _ _ (false_from_ne_true _ (λ begins. other _ (e ∙ prefix_split (byte ∷ after) (codes "*/") begins))) h));
  found = λ end c. so_far.found end (record {
    body = byte ∷ c.body;
    parts = e ∙ ap (λ r. byte ∷ r) c.parts;
    unclosed =
        or_from _ _
        (no_close_here byte c.body (codes "*/" ++ end) (λ more same. other more (e ∙ ap (λ r. byte ∷ r) (c.parts ∙ append_assoc c.body (codes "*/") end) ∙ same)))
        c.unclosed;
  });
}

close_within : (body rest : List ℕ) → IsTrue (has_close (body ++ codes "*/" ++ rest))
close_within [] rest = refl
close_within (byte ∷ body) rest = or_right _ _ (close_within body rest)

slash_star : (byte : ℕ) → byte ≡ 47 → byte ≡ 42 → ⊥
slash_star byte e h = omega arith

-- a comment's body ends at its first `*/`
close_first : (other rest after : List ℕ) → codes "*/" ++ rest ≡ other ++ codes "*/" ++ after → IsFalse (has_close other) → other ≡ []
close_first [] rest after e unclosed = refl
close_first (x ∷ []) rest after e unclosed = absurd (slash_star 47 refl (cc))
close_first (x ∷ y ∷ other) rest after e unclosed =
    let first : x ≡ 42 = cc in
    let second : y ≡ 47 = cc in
    absurd (both_ways _ (or_parts _ _ unclosed).0 (prefix_from (x ∷ y ∷ other) (codes "*/") other (λ i. first i ∷ second i ∷ other)))

close_unique : (body other rest after : List ℕ) → body ++ codes "*/" ++ rest ≡ other ++ codes "*/" ++ after → IsFalse (has_close body) → IsFalse (has_close other) → (body ≡ other) × (rest ≡ after)
close_unique [] other rest after e unclosed unclosed_too =
    let empty = close_first other rest after e unclosed_too in
    let same : 42 ∷ 47 ∷ rest ≡ 42 ∷ 47 ∷ after = e ∙ ap (λ b. b ++ codes "*/" ++ after) empty in
    (sym empty, cc)
close_unique (x ∷ body) [] rest after e unclosed unclosed_too =
    let empty = close_first (x ∷ body) after rest (sym e) unclosed in
    absurd (cc)
close_unique (x ∷ body) (y ∷ other) rest after e unclosed unclosed_too =
    let heads : x ≡ y = cc in
    let tails : body ++ codes "*/" ++ rest ≡ other ++ codes "*/" ++ after = cc in
    let both = close_unique body other rest after tails (or_parts _ _ unclosed).1 (or_parts _ _ unclosed_too).1 in
    (λ i. heads i ∷ both.0 i, both.1)

pub block_piece : (text body : List ℕ) → text ≡ codes "/*" ++ body → (after : Option (Bor (List ℕ))) → MatchOption after (IsFalse (has_close body)) (λ rest. IsCommentBody body rest.now) → MatchOption after (IsFalse (begins_piece text)) (λ rest. IsPieceBefore text rest.now)
block_piece text body e None unclosed = subst (λ t. IsFalse (begins_piece t)) (sym e) unclosed
block_piece text body e (Some rest) c = record {
  piece = BlockComment c.body;
  parts = e ∙ ap (λ b. codes "/*" ++ b) c.parts;
  fits = ap not c.unclosed;
}

-- ---- blanks

pub blank_piece : (text rest : List ℕ) (first : ℕ) (blank : Bool) → text ≡ first ∷ rest → blank ≡ is_blank first → ((more : List ℕ) → text ≢ codes "//" ++ more) → ((more : List ℕ) → text ≢ codes "/*" ++ more) → (after : Bor (List ℕ)) → after.now ≡ rest → MatchOption (then_some blank after) (IsFalse (begins_piece text)) (λ rest. IsPieceBefore text rest.now)
blank_piece text rest first true e is line block after same = record {
  piece = Blank first;
  parts = e ∙ ap (λ r. first ∷ r) (sym same);
  fits = sym is;
}
blank_piece text rest first false e is line block after same =
    or_from _ _ (or_from _ _ (subst (λ t. IsFalse (starts is_blank t)) (sym e) (sym is)) (false_from_ne_true _ (λ h. line _ (prefix_split text (codes "//") h))))
    (false_from_ne_true _ (λ h. block _ (prefix_split text (codes "/*") (and_parts _ _ h).0)))

-- ---- gaps

-- a text that begins with no blank and opens no comment
pub plain_from : (text : List ℕ) → IsFalse (starts is_blank text) → IsFalse (opens_comment text) → IsFalse (begins_piece text)
plain_from text no_blank no_comment =
    let no = or_parts _ _ no_comment in
    or_from _ _ (or_from _ _ no_blank no.0) (false_from_ne_true _ (λ h. both_ways _ no.1 (and_parts _ _ h).0))

piece_begins : (piece : Piece) (rest : List ℕ) → IsTrue (is_piece piece rest) → IsTrue (begins_piece (piece_text piece ++ rest))
piece_begins (Blank byte) rest h = or_left _ _ (or_left _ _ h)
piece_begins (LineComment body) rest h = refl
piece_begins (BlockComment body) rest h = close_within body rest

no_blank_slash : (byte : ℕ) → byte ≡ 47 → IsTrue (is_blank byte) → ⊥
no_blank_slash byte e h = grind (arith, nat_tests)

piece_unique : (piece other : Piece) (rest after : List ℕ) → piece_text piece ++ rest ≡ piece_text other ++ after → IsTrue (is_piece piece rest) → IsTrue (is_piece other after) → (piece ≡ other) × (rest ≡ after)
piece_unique (Blank a) (Blank b) rest after e h k = let same : a ≡ b = cc in (ap Blank same, cc)
piece_unique (Blank a) (LineComment body) rest after e h k = absurd (no_blank_slash a (cc) h)
piece_unique (Blank a) (BlockComment body) rest after e h k = absurd (no_blank_slash a (cc) h)
piece_unique (LineComment body) (Blank b) rest after e h k = absurd (no_blank_slash b (cc) k)
piece_unique (LineComment body) (LineComment other) rest after e h k =
    let inside : body ++ rest ≡ other ++ after = cc in
    let first = and_parts _ _ h in
    let second = and_parts _ _ k in
    let both = run_unique not_end body other rest after inside first.0 second.0 (line_ends rest first.1) (line_ends after second.1) in
    (ap LineComment both.0, both.1)
piece_unique (LineComment body) (BlockComment other) rest after e h k = absurd (slash_star 47 refl (cc))
piece_unique (BlockComment body) (Blank b) rest after e h k = absurd (no_blank_slash b (cc) k)
piece_unique (BlockComment body) (LineComment other) rest after e h k = absurd (slash_star 42 (cc) refl)
piece_unique (BlockComment body) (BlockComment other) rest after e h k =
    let inside : body ++ codes "*/" ++ rest ≡ other ++ codes "*/" ++ after = cc in
    let both = close_unique body other rest after inside (not-true _ h) (not-true _ k) in
    (ap BlockComment both.0, both.1)

gap_begins : (piece : Piece) (gap : List Piece) (rest : List ℕ) → IsTrue (is_gap (piece ∷ gap) rest) → IsTrue (begins_piece (gap_text (piece ∷ gap) ++ rest))
gap_begins piece gap rest h =
    subst (λ t. IsTrue (begins_piece t)) (sym (append_assoc (piece_text piece) (gap_text gap) rest))
    (piece_begins piece (gap_text gap ++ rest) (and_parts _ _ h).0)

-- a text has one gap at most before what begins with no blank and no whole comment
pub gap_unique : (gap other : List Piece) (rest after : List ℕ) → gap_text gap ++ rest ≡ gap_text other ++ after → IsTrue (is_gap gap rest) → IsTrue (is_gap other after) → IsFalse (begins_piece rest) → IsFalse (begins_piece after) → (gap ≡ other) × (rest ≡ after)
gap_unique [] [] rest after e h k plain plain_too = (refl, e)
gap_unique [] (piece ∷ other) rest after e h k plain plain_too =
    absurd (both_ways _ (subst (λ t. IsFalse (begins_piece t)) e plain) (gap_begins piece other after k))
gap_unique (piece ∷ gap) [] rest after e h k plain plain_too =
    absurd (both_ways _ (subst (λ t. IsFalse (begins_piece t)) (sym e) plain_too) (gap_begins piece gap rest h))
gap_unique (piece ∷ gap) (first ∷ other) rest after e h k plain plain_too =
    let one = and_parts _ _ h in
    let two = and_parts _ _ k in
    let firsts = piece_unique piece first (gap_text gap ++ rest) (gap_text other ++ after) (sym (append_assoc (piece_text piece) (gap_text gap) rest) ∙ e ∙ append_assoc (piece_text first) (gap_text other) after) one.0 two.0 in
    let both = gap_unique gap other rest after firsts.1 one.1 two.1 plain plain_too in
    (λ i. firsts.0 i ∷ both.0 i, both.1)

-- a gap before what follows the rest, whatever that is, goes on from the text
pub record GapSoFar (text rest : List ℕ) : Type 0 where
  pub found : (end : List ℕ) → IsGapBefore rest end → IsGapBefore text end

pub gap_so_far_push : (text rest after : List ℕ) → GapSoFar text rest → IsPieceBefore rest after → GapSoFar text after
gap_so_far_push text rest after so_far p = record {
  found = λ end g. so_far.found end (record {
    gap = p.piece ∷ g.gap;
    parts = p.parts ∙ ap (λ r. piece_text p.piece ++ r) g.parts ∙ sym (append_assoc (piece_text p.piece) (gap_text g.gap) end);
    between = and_from _ _ (subst (λ r. IsTrue (is_piece p.piece r)) g.parts p.fits) g.between;
  });
}
