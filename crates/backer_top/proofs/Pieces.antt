-- How a text is written piece after piece.
use Rattle.std.proofs.Common.{◌≡◌, ℕ, zero, suc, ◌+◌, ◌<◌, ◌≤◌, Option, Some, None, IfSome, List, [], ◌∷◌, ◌++◌, length, take, drop, append_assoc, length-append, append-nil, refl, sym, ap, ◌∙◌, subst, arith, inl, inr}
use Rattle.std.proofs.lemmas.Bool.{cases_lt}
use Rattle.std.proofs.lemmas.List.{length-drop, length-take-le, take-append-drop}
use Rattle.outside.specs.Shelf.{joined}
use Rattle.backer_top.specs.Output.{IsCutShort, IsWritten, ArePieces, Puts}

-- a sink that told what it held tells it with the piece, and then with what comes later
held_on : {S : Type 0} (held : S → Option (List ℕ)) (old mid new : S) (piece later bytes : List ℕ) → bytes ≡ piece ++ later
    → IfSome (held old) (λ before. held mid ≡ Some (before ++ piece)) → IfSome (held mid) (λ before. held new ≡ Some (before ++ later))
    → IfSome (held old) (λ before. held new ≡ Some (before ++ bytes))
held_on held old mid new piece later bytes cut first rest =
    elim (held old) as (λ o. IfSome o (λ before. held mid ≡ Some (before ++ piece)) → IfSome o (λ before. held new ≡ Some (before ++ bytes))) [
      | None ↦ λ _. tt
      | Some before ↦ λ told.
          let after = subst (λ o. IfSome o (λ b. held new ≡ Some (b ++ later))) told rest in
          after ∙ ap Some (append_assoc before piece later ∙ ap (λ b. before ++ b) (sym cut))
    ] first

sizes_on : (piece : List ℕ) (pieces : List (List ℕ)) → length piece ≡ 4096 → ArePieces pieces → ArePieces (piece ∷ pieces)
sizes_on piece [] whole sizes = (omega arith, omega arith)
sizes_on piece (next ∷ pieces) whole sizes = (whole, sizes)

-- a whole piece is put, and the rest is written after it
pub IsWritten-more : {S : Type 0} (held : S → Option (List ℕ)) (took : S → List ℕ → S → Type 0) (old mid new : S) (piece later bytes : List ℕ)
    → bytes ≡ piece ++ later → length piece ≡ 4096
    → IfSome (held old) (λ before. held mid ≡ Some (before ++ piece)) → took old piece mid
    → IsWritten held took mid new later → IsWritten held took old new bytes
IsWritten-more held took old mid new piece later bytes cut whole told put rest = record {
  whole = held_on held old mid new piece later bytes cut told rest.whole;
  pieces = piece ∷ rest.pieces;
  cut = ap (λ b. piece ++ b) rest.cut ∙ sym cut;
  sizes = sizes_on piece rest.pieces whole rest.sizes;
  puts = (mid, put, rest.puts);
}

-- the last piece is put
pub IsWritten-last : {S : Type 0} (held : S → Option (List ℕ)) (took : S → List ℕ → S → Type 0) (old new : S) (bytes : List ℕ)
    → 0 < length bytes → length bytes ≤ 4096
    → IfSome (held old) (λ before. held new ≡ Some (before ++ bytes)) → took old bytes new → IsWritten held took old new bytes
IsWritten-last held took old new bytes some fits told put = record {
  whole = told;
  pieces = bytes ∷ [];
  cut = append-nil bytes;
  sizes = (some, fits);
  puts = (new, put, refl);
}

-- no bytes are written by doing nothing
pub IsWritten-nothing : {S : Type 0} (held : S → Option (List ℕ)) (took : S → List ℕ → S → Type 0) (sink : S) (bytes : List ℕ) → length bytes ≡ 0 → IsWritten held took sink sink bytes
IsWritten-nothing held took sink [] none = record {
  whole = elim (held sink) as (λ o. IfSome o (λ before. o ≡ Some (before ++ []))) [ None ↦ tt | Some before ↦ ap Some (sym (append-nil before)) ];
  pieces = [];
  cut = refl;
  sizes = tt;
  puts = refl;
}
IsWritten-nothing held took sink (byte ∷ bytes) none = absurd (omega arith)

sizes_before : (piece : List ℕ) (pieces : List (List ℕ)) → length piece ≡ 4096 → ArePieces pieces → 0 < length pieces → ArePieces (piece ∷ pieces)
sizes_before piece [] whole sizes some = absurd (omega arith)
sizes_before piece (next ∷ pieces) whole sizes some = (whole, sizes)

-- what bytes are cut into: pieces, and at least one where there are bytes
pub record IsCutInto (bytes : List ℕ) (pieces : List (List ℕ)) : Type 0 where
  pub cut : joined pieces ≡ bytes
  pub sizes : ArePieces pieces
  pub some : 0 < length bytes → 0 < length pieces

-- bytes with a whole piece before them are cut after it
pub cut_after : (piece bytes : List ℕ) (pieces : List (List ℕ)) → length piece ≡ 4096 → 0 < length bytes → IsCutInto bytes pieces → IsCutInto (piece ++ bytes) (piece ∷ pieces)
cut_after piece bytes pieces whole more is = record {
  cut = ap (λ b. piece ++ b) is.cut;
  sizes = sizes_before piece pieces whole is.sizes (is.some more);
  some = λ _. omega arith;
}

one_piece : (bytes : List ℕ) → length bytes ≤ 4096 → (pieces : List (List ℕ)) × IsCutInto bytes pieces
one_piece [] small = ([], record { cut = refl; sizes = tt; some = λ more. more })
one_piece (byte ∷ bytes) small = ((byte ∷ bytes) ∷ [], record { cut = append-nil (byte ∷ bytes); sizes = (omega arith, small); some = λ _. omega arith })

-- all bytes can be cut into pieces; `fuel` bounds how many bytes there are
pub cut_up : (fuel : ℕ) (bytes : List ℕ) → length bytes ≤ fuel → (pieces : List (List ℕ)) × IsCutInto bytes pieces
cut_up zero [] few = ([], record { cut = refl; sizes = tt; some = λ more. more })
cut_up zero (byte ∷ bytes) few = absurd (omega arith)
cut_up (suc fuel) bytes few =
    elim (cases_lt 4096 (length bytes)) [
      | inl large ↦
          let whole : length (take 4096 bytes) ≡ 4096 = length-take-le 4096 bytes (omega arith) in
          let left : length (drop 4096 bytes) + 4096 ≡ length bytes = omega (arith, length-drop 4096 bytes) in
          let later = cut_up fuel (drop 4096 bytes) (omega arith) in
          (take 4096 bytes ∷ later.0, subst (λ b. IsCutInto b (take 4096 bytes ∷ later.0)) (take-append-drop 4096 bytes) (cut_after (take 4096 bytes) (drop 4096 bytes) later.0 whole (omega arith) later.1))
      | inr small ↦ one_piece bytes small
    ]

-- a whole piece is taken, and the rest is cut short after it
part_on : {S : Type 0} (held : S → Option (List ℕ)) (old mid new : S) (first piece : List ℕ) (pieces : List (List ℕ))
    → IfSome (held old) (λ before. held mid ≡ Some (before ++ first))
    → IfSome (held mid) (λ before. (kept : ℕ) × (held new ≡ Some (before ++ joined pieces ++ take kept piece)))
    → IfSome (held old) (λ before. (kept : ℕ) × (held new ≡ Some (before ++ joined (first ∷ pieces) ++ take kept piece)))
part_on held old mid new first piece pieces told rest =
    elim (held old) as (λ o. IfSome o (λ before. held mid ≡ Some (before ++ first)) → IfSome o (λ before. (kept : ℕ) × (held new ≡ Some (before ++ joined (first ∷ pieces) ++ take kept piece)))) [
      | None ↦ λ _. tt
      | Some before ↦ λ after.
          let more = subst (λ o. IfSome o (λ b. (kept : ℕ) × (held new ≡ Some (b ++ joined pieces ++ take kept piece)))) after rest in
          (more.0, more.1 ∙ ap (λ b. Some (b ++ take more.0 piece)) (append_assoc before first (joined pieces)))
    ] told

pub IsCutShort-more : {S : Type 0} (held : S → Option (List ℕ)) (took failed : S → List ℕ → S → Type 0) (old mid new : S) (piece later bytes : List ℕ)
    → bytes ≡ piece ++ later → length piece ≡ 4096
    → IfSome (held old) (λ before. held mid ≡ Some (before ++ piece)) → took old piece mid
    → IsCutShort held took failed mid new later → IsCutShort held took failed old new bytes
IsCutShort-more held took failed old mid new piece later bytes cut whole told put short = record {
  pieces = piece ∷ short.pieces;
  piece = short.piece;
  later = short.later;
  last = short.last;
  cut = ap (λ b. piece ++ b) short.cut ∙ sym cut;
  sizes = sizes_before piece (short.pieces ++ short.piece ∷ short.later) whole short.sizes (omega (arith, length-append short.pieces (short.piece ∷ short.later)));
  puts = (mid, put, short.puts);
  broke = short.broke;
  part = part_on held old mid new piece short.piece short.pieces told short.part;
}

-- the very next put fails, of a piece that is whole or the last
pub IsCutShort-now : {S : Type 0} (held : S → Option (List ℕ)) (took failed : S → List ℕ → S → Type 0) (old new : S) (piece bytes : List ℕ) (later : List (List ℕ))
    → joined (piece ∷ later) ≡ bytes → ArePieces (piece ∷ later)
    → IfSome (held old) (λ before. (kept : ℕ) × (held new ≡ Some (before ++ take kept piece))) → failed old piece new
    → IsCutShort held took failed old new bytes
IsCutShort-now held took failed old new piece bytes later cut sizes told broke = record {
  pieces = [];
  piece = piece;
  later = later;
  last = old;
  cut = cut;
  sizes = sizes;
  puts = refl;
  broke = broke;
  part = elim (held old) as (λ o. IfSome o (λ before. (kept : ℕ) × (held new ≡ Some (before ++ take kept piece))) → IfSome o (λ before. (kept : ℕ) × (held new ≡ Some (before ++ [] ++ take kept piece)))) [
    | None ↦ λ _. tt
    | Some before ↦ λ part. (part.0, part.1 ∙ ap (λ b. Some (b ++ take part.0 piece)) (sym (append-nil before)))
  ] told;
}

some_first : (piece : List ℕ) (pieces : List (List ℕ)) → ArePieces (piece ∷ pieces) → 0 < length piece
some_first piece [] sizes = sizes.0
some_first piece (next ∷ pieces) sizes = omega (arith, sizes.0)

-- no bytes are cut into no pieces
no_pieces : (pieces : List (List ℕ)) → ArePieces pieces → joined pieces ≡ [] → pieces ≡ []
no_pieces [] sizes cut = refl
no_pieces (piece ∷ pieces) sizes cut = absurd (omega (arith, some_first piece pieces sizes, length-append piece (joined pieces), ap length cut))

-- writing no bytes leaves the sink as it is
pub same_of_nothing : {S : Type 0} (held : S → Option (List ℕ)) (took : S → List ℕ → S → Type 0) (old new : S) (bytes : List ℕ) → bytes ≡ [] → IsWritten held took old new bytes → new ≡ old
same_of_nothing held took old new bytes none written =
    subst (λ pieces. Puts took old pieces new) (no_pieces written.pieces written.sizes (written.cut ∙ none)) written.puts

-- writing no bytes cannot fail
pub nothing_is_whole : {S : Type 0} (held : S → Option (List ℕ)) (took failed : S → List ℕ → S → Type 0) (old new : S) (bytes : List ℕ) → bytes ≡ [] → ¬ IsCutShort held took failed old new bytes
nothing_is_whole held took failed old new bytes none short =
    let no = no_pieces (short.pieces ++ short.piece ∷ short.later) short.sizes (short.cut ∙ none) in
    omega (arith, length-append short.pieces (short.piece ∷ short.later), ap length no)
