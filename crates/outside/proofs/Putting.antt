-- A piece that is put in parts.
use Rattle.std.proofs.Common.{◌≡◌, ℕ, ◌-◌, List, ◌++◌, Option, Result, Ok, Err, OnErr, length, take, drop, refl, sym, ap, ◌∙◌, subst, append_assoc, take-append-drop}
use Rattle.std.proofs.lemmas.List.{take_at, take_rest}
use Rattle.std.specs.Io.KnownBytes.{Appends}

-- the part that was put moves over the front of what is left
pub split-further : (piece done rest : List ℕ) (count : ℕ) → piece ≡ done ++ rest → piece ≡ (done ++ take count rest) ++ take (length rest - count) (drop count rest)
split-further piece done rest count split =
    split ∙ ap (λ l. done ++ l) (sym (take-append-drop count rest)) ∙ sym (append_assoc done (take count rest) (drop count rest)) ∙ ap (λ l. (done ++ take count rest) ++ l) (sym (take_rest rest count))

pub part-put : (old new : Option (List ℕ)) (piece done rest : List ℕ) → piece ≡ done ++ rest → Appends old new done → (kept : ℕ) × Appends old new (take kept piece)
part-put old new piece done rest split put =
    let front : take (length done) piece ≡ done = ap (take (length done)) split ∙ take_at done rest (length done) refl in
    (length done, subst (Appends old new) (sym front) put)

pub on_err : {T E P : Type 0} (r : Result T E) → P → OnErr r P
on_err (Ok x) holds = tt
on_err (Err e) holds = holds
