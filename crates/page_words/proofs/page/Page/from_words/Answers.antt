use Rattle.std.proofs.lemmas.List.{drop-replicate}
use Rattle.page_words.proofs.page.Page.from_words.Goals as goal

pub returns : goal.returns
returns c = simp (c.put_first.ensures, c.requires.count, drop-replicate)
