use Rattle.std.proofs.Common.{◌≡◌, ◌+◌, ◌∷◌, ◌++◌, codes, drop, append_assoc, append-nil, sym, ap, ◌∙◌}
use Rattle.std.proofs.lemmas.List.{drop_all, drop_more}
use Rattle.std.proofs.lemmas.Result.{on_ok_weaker}
use Rattle.std.specs.Fmt.{decimal}
use Rattle.backer_top.specs.RaceLine.{word_words}
use Rattle.backer_top.proofs.Naming.{found_in}
use Rattle.backer_top.proofs.race_line.push_word.Goals as goal

pub returns-then-index-array : goal.returns-then-index-array
returns-then-index-array c =
    let arrays = c.args.arrays.now in
    let place = c.loop-array.array-index in
    let index = c.loop-array.index in
    let array = c.array-item.result in
    let later = drop (place + 1) arrays in
    let front : drop place arrays ≡ array ∷ later = drop_more arrays place array c.loop-array-test.true ∙ ap (λ a. a ∷ later) (sym c.array-item.is) in
    let words : word_words arrays c.args.word ≡ array.name ++ (codes "[" ++ decimal index ++ codes "]") =
    sym c.loop-array.invariant.left ∙ ap (λ rest. word_words rest index) front ∙ found_in array later index c.if-index-array.true in
    let named : c.extend_from_slice.new.self.items ≡ c.args.line.now.items ++ array.name =
    c.in_ok-extend_from_slice.ensures.items ∙ ap (λ line. line ++ c.items.result.now) c.loop-array.invariant.same ∙ ap (λ name. c.args.line.now.items ++ name) c.items.ensures in
    on_ok_weaker c.push_index.result
    (λ added. added ∙ ap (λ line. line ++ (codes "[" ++ decimal index ++ codes "]")) named
    ∙ append_assoc c.args.line.now.items array.name (codes "[" ++ decimal index ++ codes "]") ∙ ap (λ words. c.args.line.now.items ++ words) (sym words)) c.push_index.ensures

pub returns : goal.returns
returns c =
    let arrays = c.args.arrays.now in
    let none : word_words arrays c.args.word ≡ word_words (drop c.loop-array.array-index arrays) c.loop-array.index = sym c.loop-array.invariant.left in
    c.loop-array.invariant.same ∙ sym (ap (λ words. c.args.line.now.items ++ words) (none ∙ ap (λ rest. word_words rest c.loop-array.index) (drop_all c.loop-array.array-index arrays c.loop-array-test.false)) ∙ append-nil c.args.line.now.items)
