-- The cases of names.
use Rattle.std.proofs.Common.{◌≡◌, ap}
use Rattle.cilk_meaning.specs.Resolved as tree
use Rattle.cilk_meaning.specs.Resolving.{resolved}
use Rattle.cilk_meaning.specs.Cases.Names.{scopes, scopes_resolved, branches, branches_resolved, NameCases}
use Rattle.cilk_meaning.specs.Cases.Words.{outcome}
use Rattle.cilk_meaning.proofs.Resolving.{resolved_number, resolved_local, resolved_get, resolved_unary, resolved_binary, resolving_declare, resolving_assign, resolving_put, resolving_print, resolving_if, resolving_while, resolving_block, resolving_call, resolving_spawn, resolving_add, resolving_sync, resolving_return}

ruleset forms = (resolved_number, resolved_local, resolved_get, resolved_unary, resolved_binary, resolving_declare, resolving_assign, resolving_put, resolving_print, resolving_if, resolving_while, resolving_block, resolving_call, resolving_spawn, resolving_add, resolving_sync, resolving_return)

scopes_numbered : resolved scopes ≡ scopes_resolved
scopes_numbered = simp forms

branches_numbered : resolved branches ≡ branches_resolved
branches_numbered = simp forms

pub name_cases : NameCases
name_cases = record {
  branches_are_numbered = branches_numbered;
  scopes_are_numbered = scopes_numbered;
  scopes_run = ap (λ (p : tree.Program). outcome p 100) scopes_numbered;
}
