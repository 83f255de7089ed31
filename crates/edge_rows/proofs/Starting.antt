-- How many locals a frame has that starts, and children whose targets are among them.
use Rattle.std.proofs.Common.{◌≡◌, ℕ, suc, ◌-◌, ◌<◌, List, [], ◌∷◌, length, Option, Some, None, true, false, refl, ap, sym, subst, arith}
use Rattle.std.proofs.lemmas.List.{length-replicate}
use Rattle.std.proofs.Math.ListN.{replicate}
use Rattle.std.proofs.lemmas.Bool.Decides.{nat_tests}
use Rattle.std.specs.Prelude.{Bool, ℤ, pos, nat_lt, ◌&&◌}
use Rattle.std.specs.List.{list_all}
use Rattle.std.specs.Option.{option_map_or}
use Rattle.machine_code.specs.Machine.{start_frame}
use Rattle.machine_code.specs.declared.code.Proc.{Proc}
use Rattle.page_messages.specs.declared.closure.Child.{Child}
use Rattle.plain_machine.specs.Shown.{Shown}
use Rattle.plain_machine.specs.Standing.{own_locals}
use Rattle.edge_rule.specs.Joins.{AreAmong, IsAmong}

pub two_locals : (shown : Shown) (proc : Proc) (first second : ℤ) (depth : ℕ) → shown ≡ record { frame = start_frame proc (first ∷ second ∷ []) depth; arguments = [] } →
    proc.params ≡ 2 → proc.locals ≡ 2 → length (own_locals shown.frame) ≡ 2
two_locals shown proc first second depth is params locals =
    let added = replicate (proc.locals - proc.params) (pos 0) in
    let here : length (own_locals shown.frame) ≡ suc (suc (length added)) = ap (λ (s : Shown). length (own_locals s.frame)) is in
    let count : length added ≡ proc.locals - proc.params = length-replicate (proc.locals - proc.params) (pos 0) in
    omega (arith, here, count, params, locals)

both : (a b : Bool) → (a && b) ≡ true → (a ≡ true) × (b ≡ true)
both true b e = (refl, e)
both false b e = absurd cc

less : (a b : ℕ) → nat_lt a b ≡ true → a < b
less a b e = grind (arith, nat_tests)

-- Children whose targets are below the number of the locals.
pub among : (locals : List ℤ) (number : ℕ) → length locals ≡ number → (children : List Child) →
    list_all (λ child. option_map_or (λ target. nat_lt target number) child.target true) children ≡ true → AreAmong locals children
among locals number whole [] below = tt
among locals number whole (child ∷ children) below =
    let parts = both _ _ below in
    (one child.target parts.0, among locals number whole children parts.1)
  where
    one : (target : Option ℕ) → option_map_or (λ target. nat_lt target number) target true ≡ true → IsAmong locals target
    one None e = tt
    one (Some target) e = subst (λ n. target < n) (sym whole) (less target number e)
