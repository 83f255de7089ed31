-- Walks along the serial order.
use Rattle.std.proofs.Common.{◌≡◌, ℕ, ◌+◌, ◌<◌, List, [], ◌∷◌, ◌++◌, length, take, get_or, Option, Some, None, refl, sym, ap, ◌∙◌}
use Rattle.std.proofs.lemmas.List.{take_more}
use Rattle.std.proofs.lemmas.List.Elements.{filter_map-append}
use Rattle.std.specs.List.{filter_map, cons_option}
use Rattle.std.specs.Option.{option_and_then, option_to_list}
use Rattle.std.specs.Prelude.{ℤ}
use Rattle.span_tree.specs.declared.act.Act.{Act}
use Rattle.span_tree.specs.declared.act.Place.{Place}
use Rattle.span_tree.specs.History.{History, act_at}
use Rattle.span_tree.specs.Memory.{printed_by}

one_printed : (o : Option Act) → filter_map printed_by (cons_option o []) ≡ option_to_list (option_and_then printed_by o)
one_printed None = refl
one_printed (Some act) = last (printed_by act)
  where
    last : (p : Option ℤ) → cons_option p [] ≡ option_to_list p
    last None = refl
    last (Some value) = refl

pub printed_more : (h : History) (places : List Place) (i : ℕ) (d : Place) (values : List ℤ) → i < length places → values ≡ filter_map printed_by (filter_map (act_at h) (take i places)) →
    values ++ option_to_list (option_and_then printed_by (act_at h (get_or places i d))) ≡ filter_map printed_by (filter_map (act_at h) (take (i + 1) places))
printed_more h places i d values lt e =
    let front = take i places in
    let place = get_or places i d in
    ap (λ l. l ++ option_to_list (option_and_then printed_by (act_at h place))) e
    ∙ sym (ap (λ l. filter_map printed_by (filter_map (act_at h) l)) (take_more places i d lt)
    ∙ ap (filter_map printed_by) (filter_map-append (act_at h) front (place ∷ []))
    ∙ filter_map-append printed_by (filter_map (act_at h) front) (filter_map (act_at h) (place ∷ []))
    ∙ ap (λ l. filter_map printed_by (filter_map (act_at h) front) ++ l) (one_printed (act_at h place)))
