-- What is read within the limits is writable: the canonical syntax of its tree is within them too.
use Rattle.std.proofs.Common.{◌≡◌, ℕ, ◌+◌, Bool, true, false, IsTrue, IsFalse, List, [], ◌∷◌, ◌++◌, map, refl, sym, ap, ◌∙◌, subst, arith}
use Rattle.std.specs.List.{list_all}
use Rattle.std.proofs.lemmas.Bool.{and_parts}
use Rattle.std.proofs.lemmas.List.{append-nil, append_assoc, map-append}
use Rattle.cilk_tree.specs.declared.count.Counted.{Counted}
use Rattle.cilk_tree.specs.Counts.{limit}
use Rattle.cilk_tree.specs.Levels.{Spelled, spell_item, spell_source, source_tokens}
use Rattle.cilk_tree.specs.Spelling.{is_within_limits}
use Rattle.cilk_tree.specs.Sugar.{commas_list, one_array, function_tree, item_arrays, item_functions, row_list, source_tree}
use Rattle.cilk_tree.specs.Syntax.{Empty, Then, Item, Arrays, Defined, Source, each_in, is_item, are_inners, IsWellFormed}
use Rattle.cilk_tree.specs.Writable.{is_token, plain_array, plain_function, row_after, plain_source, IsWritable}
use Rattle.cilk_reader.proofs.Bounds.Covering.{Fine, fine_parts, fine_both, Safe, Covers, safe_both, safe_swap}
use Rattle.cilk_reader.proofs.Bounds.Passing.{KeepsLimits, limits_kept, kept_limits}
use Rattle.cilk_reader.proofs.Bounds.PlainItems.{in_item, item_lines, item_lines-append, array_items_cover, function_item_covers}
use Rattle.cilk_reader.proofs.Bounds.Tallies.{Stays, after, stays_end, stays_both, stays_less, Adds, adds_bound, adds_none, adds_both, begun_adds}

-- ---- arrays and functions, which stand apart in the canonical syntax

record Shares (counted : Counted) (xs firsts seconds : List Spelled) : Type 0 where
  amount : ℕ
  other : ℕ
  source : Adds counted (amount + other) xs
  first : Adds counted amount firsts
  second : Adds counted other seconds

-- Where `xs` are tokens of a source that keep the rules, `firsts` and `seconds` together keep them.
record Divided (xs firsts seconds : List Spelled) : Type 0 where
  fine : Fine xs → Fine firsts × Fine seconds
  first : (counted : Counted) → IsTrue (in_item counted) → Safe counted xs firsts
  second : (counted : Counted) → IsTrue (in_item counted) → Safe counted xs seconds
  shares : (counted : Counted) → IsFalse (in_item counted) → Shares counted xs firsts seconds

divided_none : Divided [] [] []
divided_none = record {
  fine = λ h. (h, h);
  first = nothing;
  second = nothing;
  shares = λ c is. record { amount = 0; other = 0; source = adds_none c; first = adds_none c; second = adds_none c };
}
  where
    nothing : (c : Counted) → IsTrue (in_item c) → Safe c [] []
    nothing c is = record { begun = begun_adds c [] (adds_none c); keeps = λ s. s }

other_way : (xs firsts seconds : List Spelled) → Divided xs firsts seconds → Divided xs seconds firsts
other_way xs firsts seconds divided = record {
  fine = λ h. let parts = divided.fine h in (parts.1, parts.0);
  first = divided.second;
  second = divided.first;
  shares = λ c is.
      let one = divided.shares c is in
      record { amount = one.other; other = one.amount; source = subst (λ n. Adds c n xs) (omega arith) one.source; first = one.second; second = one.first };
}

more_first : (xs firsts seconds ys more : List Spelled) → Divided xs firsts seconds → Covers in_item ys more → Divided (xs ++ ys) (firsts ++ more) seconds
more_first xs firsts seconds ys more divided covers = record {
  fine = λ h.
      let parts = fine_parts xs ys h in
      let both = divided.fine parts.0 in
      (fine_both firsts more both.0 (covers.fine parts.1), both.1);
  first = λ c is. safe_both c xs firsts ys more (divided.first c is) (covers.safe c is);
  second = λ c is. safe_swap c xs seconds ys [] (divided.second c is) (record { begun = (covers.safe c is).begun; keeps = λ s. omega arith });
  shares = λ c is.
      let one = divided.shares c is in
      let two = covers.agrees c is in
      record {
        amount = one.amount + two.amount;
        other = one.other;
        source = adds_both c (one.amount + one.other) two.amount _ xs ys (omega arith) one.source two.source;
        first = adds_both c one.amount two.amount _ firsts more refl one.first two.other;
        second = one.second;
      };
}

divided_covers : (xs firsts seconds : List Spelled) → Divided xs firsts seconds → Covers in_item xs (firsts ++ seconds)
divided_covers xs firsts seconds divided = record {
  fine = λ h. let parts = divided.fine h in fine_both firsts seconds parts.0 parts.1;
  safe = λ c is. record {
    begun = (divided.first c is).begun;
    keeps = λ s.
        let one = (divided.first c is).keeps s in
        stays_both c (limit c) firsts seconds one (stays_less c (after c (limit c) firsts) (limit c) seconds (stays_end c (limit c) firsts one) ((divided.second c is).keeps s));
  };
  agrees = λ c is.
      let one = divided.shares c is in
      record { amount = one.amount + one.other; source = one.source; other = adds_both c one.amount one.other _ firsts seconds refl one.first one.second };
}

-- ---- sources

abbrev array_lines : Source → List Spelled
array_lines source = item_lines (map plain_array (row_list item_arrays source))

abbrev function_lines : Source → List Spelled
function_lines source = item_lines (map plain_function (row_list item_functions source))

lines_of : {T : Type 0} (plain : T → Item) (xs ys : List T) → item_lines (map plain xs) ++ item_lines (map plain ys) ≡ item_lines (map plain (xs ++ ys))
lines_of plain xs ys = sym (ap item_lines (map-append plain xs ys) ∙ item_lines-append (map plain xs) (map plain ys))

source_divided : (source : Source) → IsWellFormed source → Divided (spell_source source) (array_lines source) (function_lines source)
source_divided Empty formed = divided_none
source_divided (Then before (Arrays arrays)) formed =
    let parts = and_parts (each_in is_item before) true formed in
    let xs = spell_source (Then before (Arrays arrays)) in
    subst (λ zs. Divided xs zs (function_lines (Then before (Arrays arrays)))) (lines_of plain_array (row_list item_arrays before) (commas_list one_array arrays))
    (subst (Divided xs (array_lines before ++ item_lines (map plain_array (commas_list one_array arrays)))) (sym (append-nil (function_lines before)) ∙ lines_of plain_function (row_list item_functions before) [])
    (more_first (spell_source before) (array_lines before) (function_lines before) (spell_item (Arrays arrays)) (item_lines (map plain_array (commas_list one_array arrays))) (source_divided before parts.0) (array_items_cover arrays)))
source_divided (Then before (Defined function)) formed =
    let parts = and_parts (each_in is_item before) (are_inners function.body) formed in
    let xs = spell_source (Then before (Defined function)) in
    let last = item_lines (plain_function (function_tree function) ∷ []) in
    subst (Divided xs (array_lines (Then before (Defined function)))) (lines_of plain_function (row_list item_functions before) (function_tree function ∷ []))
    (subst (λ zs. Divided xs zs (function_lines before ++ last)) (sym (append-nil (array_lines before)) ∙ lines_of plain_array (row_list item_arrays before) [])
    (other_way xs (function_lines before ++ last) (array_lines before)
    (more_first (spell_source before) (function_lines before) (array_lines before) (spell_item (Defined function)) last
    (other_way (spell_source before) (array_lines before) (function_lines before) (source_divided before parts.0)) (function_item_covers function parts.1))))

row_tokens : (before : Source) (items : List Item) → spell_source (row_after before items) ≡ spell_source before ++ item_lines items
row_tokens before [] = sym (append-nil (spell_source before))
row_tokens before (item ∷ more) = row_tokens (Then before item) more ∙ append_assoc (spell_source before) (spell_item item) (item_lines more)

plain_tokens : (source : Source) → spell_source (plain_source (source_tree source)) ≡ array_lines source ++ function_lines source
plain_tokens source =
    row_tokens (row_after Empty (map plain_array (row_list item_arrays source))) (map plain_function (row_list item_functions source))
    ∙ ap (λ xs. xs ++ function_lines source) (row_tokens Empty (map plain_array (row_list item_arrays source)))

-- what one source covers keeps its limits
covered_stays : (xs ys : List Spelled) → Covers in_item xs ys → ((c : Counted) → Stays c 0 xs) → (c : Counted) → Stays c 0 ys
covered_stays xs ys covers stays c = either (in_item c) refl
  where
    either : (b : Bool) → in_item c ≡ b → Stays c 0 ys
    either true is =
        let safe = covers.safe c is in
        stays_less c 0 (limit c) ys (omega arith) (safe.keeps (safe.begun (limit c) 0 (omega arith) (stays c)))
    either false is =
        let one = covers.agrees c is in
        one.other.stays 0 (adds_bound c one.amount 0 xs one.source (stays c))

pub plain_keeps_limits : (source : Source) → IsWellFormed source → KeepsLimits source → KeepsLimits (plain_source (source_tree source))
plain_keeps_limits source formed keeps =
    let covers = subst (Covers in_item (spell_source source)) (sym (plain_tokens source)) (divided_covers (spell_source source) (array_lines source) (function_lines source) (source_divided source formed)) in
    record { fine = covers.fine keeps.fine; stays = covered_stays (spell_source source) (spell_source (plain_source (source_tree source))) covers keeps.stays }

-- A tree that is spelled within the limits, by good names and numbers, can be written.
pub written_is_writable : (source : Source) → IsWellFormed source → IsTrue (is_within_limits source) → IsTrue (list_all is_token (source_tokens source)) → IsWritable (source_tree source)
written_is_writable source formed limits tokens =
    kept_limits (plain_source (source_tree source)) (plain_keeps_limits source formed (limits_kept source limits tokens))
