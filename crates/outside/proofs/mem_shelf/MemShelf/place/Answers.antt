use Rattle.std.proofs.Common.{rules, tests, sym, ◌∙◌, ap, string_bytes}
use Rattle.std.specs.Str.{bytes_eq}
use Rattle.std.proofs.lemmas.Iterator.{YieldsList-from_slice}
use Rattle.std.proofs.lemmas.Iterator.Search.{position_from_yields_List}
use Rattle.outside.specs.MemShelf.{place}
use Rattle.outside.proofs.Places.{position-map}
use Rattle.outside.proofs.mem_shelf.MemShelf.place.Goals as goal

pub returns-clause-first : goal.returns-clause-first
returns-clause-first c =
    let texts = c.self.inside.texts.items in
    position_from_yields_List (λ text. bytes_eq c.args.name.now (string_bytes text.0)) _ _ _ c.position.ensures.ran (YieldsList-from_slice texts cc) (λ x b q k. search (rules, tests))
    ∙ sym (position-map (λ entry. bytes_eq c.args.name.now entry.0) (λ text. (string_bytes text.0, text.1.items)) texts)
    ∙ ap (λ s. place s c.args.name.now) c.self.view_is
