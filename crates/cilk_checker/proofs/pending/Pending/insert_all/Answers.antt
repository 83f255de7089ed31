use Rattle.std.proofs.Common.{◌<◌, ◌||◌, ◌==◌, false, get_or, take, sym, ap, ◌∙◌, subst, length}
use Rattle.cilk_checker.specs.Sets.{set_of}
use Rattle.cilk_checker.proofs.Flags.{flag_clear, flag_taken}
use Rattle.cilk_checker.proofs.Turns.{next_taken_at}
use Rattle.cilk_checker.proofs.pending.Pending.insert_all.Goals as goal
use Rattle.cilk_checker.proofs.pending.Pending.insert_all.Goals.{then-pending+in_ok-insert, else-pending}

pub loop-local-preserved : goal.loop-local-preserved
loop-local-preserved c =
    let flags = c.args.other.now.flags.items in
    let at = c.loop-local.local in
    let same = c.as_slice-pending-items.ensures.value in
    let within : at < length flags = subst (λ xs. at < length xs) same c.loop-local-test.true in
    λ n. elim c.if-pending.branch [
      | then-pending+in_ok-insert w ↦
          ap (λ pending. set_of pending n) w.self-is ∙ ap (λ set. set n) w.in_ok-insert.ensures ∙ ap (λ b. b || n == at) (c.loop-local.invariant n)
          ∙ flag_taken (set_of c.args.self.now n) flags at n within (sym (ap (λ xs. get_or xs at false) same) ∙ w.if-pending.true)
      | else-pending w ↦
          ap (λ pending. set_of pending n) w.self-is ∙ c.loop-local.invariant n
          ∙ ap (λ b. set_of c.args.self.now n || b) (sym (ap (λ some. get_or some n false) (next_taken_at flags at false false within (sym (ap (λ xs. get_or xs at false) same) ∙ w.if-pending.false)) ∙ flag_clear (take at flags) n))
    ]
