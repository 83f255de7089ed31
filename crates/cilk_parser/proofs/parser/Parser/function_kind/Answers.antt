use Rattle.std.proofs.Common.{sym, ◌∙◌}
use Rattle.std.proofs.lemmas.Result.{err_from_is_err_and}
use Rattle.cilk_parser.proofs.Bricks.Functions.{cilk_lacks, cilk_over, cilk_reads, function_absent, int_over, int_reads, void_over, void_reads}
use Rattle.cilk_parser.proofs.parser.Parser.function_kind.Goals as goal

pub returns-in_err-pass-in-Cilk : goal.returns-in_err-pass-in-Cilk
returns-in_err-pass-in-Cilk c =
    let p = err_from_is_err_and c.from_residual.result c.from_residual.ensures.1 in
    rw (p.1, p.2) (cilk_over _ c.requires.some c.requires.no_array (sym c.item_start.ensures ∙ c.in-Cilk.is) _ (c.in_err-pass-in-Cilk.ensures {u = tt}))

pub returns-in_err-gives-in-Cilk : goal.returns-in_err-gives-in-Cilk
returns-in_err-gives-in-Cilk c =
    let p = err_from_is_err_and c.from_residual-in_err-gives-in-Cilk.result c.from_residual-in_err-gives-in-Cilk.ensures.1 in
    rw (p.1, p.2)
    (cilk_lacks _ c.requires.some c.requires.no_array (sym c.item_start.ensures ∙ c.in-Cilk.is) _ (c.in_ok-pass-in-Cilk.ensures {u = tt}) _ (c.in_err-gives-in-Cilk.ensures {u = tt}))

pub returns-in_err-pass-in-Void : goal.returns-in_err-pass-in-Void
returns-in_err-pass-in-Void c =
    let p = err_from_is_err_and c.from_residual-in_err-pass-in-Void.result c.from_residual-in_err-pass-in-Void.ensures.1 in
    rw (p.1, p.2) (void_over _ c.requires.some c.requires.no_array (sym c.item_start.ensures ∙ c.in-Void.is) _ (c.in_err-pass-in-Void.ensures {u = tt}))

pub returns-in_err-pass-in-Int : goal.returns-in_err-pass-in-Int
returns-in_err-pass-in-Int c =
    let p = err_from_is_err_and c.from_residual-in_err-pass-in-Int.result c.from_residual-in_err-pass-in-Int.ensures.1 in
    rw (p.1, p.2) (int_over _ c.requires.some c.requires.no_array (sym c.item_start.ensures ∙ c.in-Int.is) _ (c.in_err-pass-in-Int.ensures {u = tt}))

pub returns-in_ok-gives-in-Cilk : goal.returns-in_ok-gives-in-Cilk
returns-in_ok-gives-in-Cilk c =
    cilk_reads _ c.requires.some c.requires.no_array (sym c.item_start.ensures ∙ c.in-Cilk.is) _ (c.in_ok-pass-in-Cilk.ensures {u = tt}) _ _ (c.in_ok-gives-in-Cilk.ensures {u = tt})

pub returns-in_ok-pass-in-Void : goal.returns-in_ok-pass-in-Void
returns-in_ok-pass-in-Void c = void_reads _ c.requires.some c.requires.no_array (sym c.item_start.ensures ∙ c.in-Void.is) _ (c.in_ok-pass-in-Void.ensures {u = tt})

pub returns-in_ok-pass-in-Int : goal.returns-in_ok-pass-in-Int
returns-in_ok-pass-in-Int c = int_reads _ c.requires.some c.requires.no_array (sym c.item_start.ensures ∙ c.in-Int.is) _ (c.in_ok-pass-in-Int.ensures {u = tt})

pub returns-in-Other : goal.returns-in-Other
returns-in-Other c = rw c.unexpected.ensures (function_absent _ c.requires.some c.requires.no_array (sym c.item_start.ensures ∙ c.in-Other.is))
