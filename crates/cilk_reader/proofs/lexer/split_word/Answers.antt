use Rattle.std.proofs.Common.{◌∙◌, IsTrue, IsFalse, ap, sym, subst, take, drop}
use Rattle.std.specs.List.{list_all}
use Rattle.cilk_tree.specs.Lexeme.{is_word, starts}
use Rattle.cilk_reader.proofs.Runs.{run_all, run_ends}
use Rattle.cilk_reader.proofs.lexer.split_word.Goals as goal

pub returns-clause-word : goal.returns-clause-word
returns-clause-word c =
    let text = c.args.text.now in
    subst (λ bs. IsTrue (list_all is_word bs)) (sym (c.split_at.ensures.front ∙ ap (λ n. take n text) c.word_len.ensures.longest)) (run_all is_word text)

pub returns-clause-whole : goal.returns-clause-whole
returns-clause-whole c =
    let text = c.args.text.now in
    subst (λ bs. IsFalse (starts is_word bs)) (sym (c.split_at.ensures.back ∙ ap (λ n. drop n text) c.word_len.ensures.longest)) (run_ends is_word text)
