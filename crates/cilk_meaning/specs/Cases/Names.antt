-- Programs with names: what they stand for, and what comes of them.
use Rattle.std.specs.Prelude.{◌≡◌, pos, codes, true, false, Some, None, [], ◌∷◌}
use Rattle.cilk_tree.specs.declared.tree.BinaryOp.TheVariants as op
use Rattle.cilk_tree.specs.declared.tree.Expr.TheVariants as expr
use Rattle.cilk_tree.specs.declared.tree.Program.{Program}
use Rattle.cilk_tree.specs.declared.tree.Stmt.TheVariants as stmt
use Rattle.cilk_tree.specs.declared.tree.UnaryOp.TheVariants.{Neg, Not}
use Rattle.cilk_meaning.specs.Resolved as tree
use Rattle.cilk_meaning.specs.Resolving.{resolved}
use Rattle.cilk_meaning.specs.Cases.Words.{number, minus, in_order, procedure, outcome, finishes}

-- int a[2], b[3];
-- int first(int x) { return b[x]; }
-- int main() { int i; while (i < 2) { int s; s = s + 1; print(s); { int x; x = i; b[x] = x; } i = i + 1; } int x; x = first(1); print(x); }
abbrev pub scopes : Program
scopes = record {
  shared = record { name = codes "a"; words = 2 } ∷ record { name = codes "b"; words = 3 } ∷ [];
  functions =
      record {
        «cilk» = false;
        gives = true;
        name = codes "first";
        params = codes "x" ∷ [];
        body =
            stmt.Return (Some (expr.Get (codes "b") (expr.Local (codes "x")))) ∷ [];
      } ∷
      record {
        «cilk» = false;
        gives = true;
        name = codes "main";
        params = [];
        body =
            stmt.Declare (codes "i") ∷
            stmt.While (expr.Binary op.Lt (expr.Local (codes "i")) (expr.Number (pos 2))) (
            stmt.Declare (codes "s") ∷
            stmt.Assign (codes "s") (expr.Binary op.Add (expr.Local (codes "s")) (expr.Number (pos 1))) ∷
            stmt.Print (expr.Local (codes "s")) ∷
            stmt.Block (
            stmt.Declare (codes "x") ∷
            stmt.Assign (codes "x") (expr.Local (codes "i")) ∷
            stmt.Put (codes "b") (expr.Local (codes "x")) (expr.Local (codes "x")) ∷ []) ∷
            stmt.Assign (codes "i") (expr.Binary op.Add (expr.Local (codes "i")) (expr.Number (pos 1))) ∷ []) ∷
            stmt.Declare (codes "x") ∷
            stmt.Call (Some (codes "x")) (codes "first") (expr.Number (pos 1) ∷ []) ∷
            stmt.Print (expr.Local (codes "x")) ∷ [];
      } ∷ [];
}

-- Locals are numbered as they are declared: `i` is 0, `s` is 1, and the two that are named `x` are 2 and 3.
abbrev pub scopes_resolved : tree.Program
scopes_resolved = record {
  shared = record { base = 0; words = 2 } ∷ record { base = 2; words = 3 } ∷ [];
  main = 1;
  functions =
      record { «cilk» = false; params = 1; locals = 1; body = in_order (tree.Return (tree.Get 1 (tree.Local 0)) ∷ []) } ∷
      record {
        «cilk» = false;
        params = 0;
        locals = 4;
        body = in_order (
            tree.Assign 0 (number 0) ∷
            tree.While (tree.Binary op.Lt (tree.Local 0) (number 2)) (in_order (
            tree.Assign 1 (number 0) ∷
            tree.Assign 1 (tree.Binary op.Add (tree.Local 1) (number 1)) ∷
            tree.Print (tree.Local 1) ∷
            in_order (
            tree.Assign 2 (number 0) ∷
            tree.Assign 2 (tree.Local 0) ∷
            tree.Put 1 (tree.Local 2) (tree.Local 2) ∷ []) ∷
            tree.Assign 0 (tree.Binary op.Add (tree.Local 0) (number 1)) ∷ [])) ∷
            tree.Assign 3 (number 0) ∷
            tree.Call (Some 3) 0 (number 1 ∷ []) ∷
            tree.Print (tree.Local 3) ∷ []);
      } ∷ [];
}

-- int a[2], b[3];
-- cilk void none() { return; }
-- cilk int twice(int n) {
--   int r, s;
--   if (n) { int k; k = fetch_add(b[n], -r); } else { int m; m = !n; r = spawn twice(m); }
--   sync; s = spawn twice(r); sync; return s;
-- }
-- cilk int main() { spawn none(); return 0; }
abbrev pub branches : Program
branches = record {
  shared = record { name = codes "a"; words = 2 } ∷ record { name = codes "b"; words = 3 } ∷ [];
  functions =
      record { «cilk» = true; gives = false; name = codes "none"; params = []; body = stmt.Return None ∷ [] } ∷
      record {
        «cilk» = true;
        gives = true;
        name = codes "twice";
        params = codes "n" ∷ [];
        body =
            stmt.Declare (codes "r") ∷
            stmt.Declare (codes "s") ∷
            stmt.If (expr.Local (codes "n")) (
            stmt.Declare (codes "k") ∷
            stmt.Add (Some (codes "k")) (codes "b") (expr.Local (codes "n")) (expr.Unary Neg (expr.Local (codes "r"))) ∷ []) (
            stmt.Declare (codes "m") ∷
            stmt.Assign (codes "m") (expr.Unary Not (expr.Local (codes "n"))) ∷
            stmt.Spawn (Some (codes "r")) (codes "twice") (expr.Local (codes "m") ∷ []) ∷ []) ∷
            stmt.Sync ∷
            stmt.Spawn (Some (codes "s")) (codes "twice") (expr.Local (codes "r") ∷ []) ∷
            stmt.Sync ∷
            stmt.Return (Some (expr.Local (codes "s"))) ∷ [];
      } ∷
      record { «cilk» = true; gives = true; name = codes "main"; params = []; body = stmt.Spawn None (codes "none") [] ∷ stmt.Return (Some (expr.Number (pos 0))) ∷ [] } ∷ [];
}

-- The locals are `n`, `r`, `s`, and then `k` of the first list and `m` of the second.
abbrev pub branches_resolved : tree.Program
branches_resolved = record {
  shared = record { base = 0; words = 2 } ∷ record { base = 2; words = 3 } ∷ [];
  main = 2;
  functions =
      procedure 0 0 (tree.Return (number 0) ∷ []) ∷
      procedure 1 5 (
      tree.Assign 1 (number 0) ∷
      tree.Assign 2 (number 0) ∷
      tree.If (tree.Local 0)
      (in_order (tree.Assign 3 (number 0) ∷ tree.Add (Some 3) 1 (tree.Local 0) (minus (tree.Local 1)) ∷ []))
      (in_order (tree.Assign 4 (number 0) ∷ tree.Assign 4 (tree.Unary Not (tree.Local 0)) ∷ tree.Spawn (Some 1) 1 (tree.Local 4 ∷ []) ∷ [])) ∷
      tree.Sync ∷
      tree.Spawn (Some 2) 1 (tree.Local 1 ∷ []) ∷
      tree.Sync ∷
      tree.Return (tree.Local 2) ∷ []) ∷
      procedure 0 0 (tree.Spawn None 0 [] ∷ tree.Return (number 0) ∷ []) ∷ [];
}

pub record NameCases : Type 0 where
  pub branches_are_numbered : resolved branches ≡ branches_resolved
  pub scopes_are_numbered : resolved scopes ≡ scopes_resolved
  -- Each turn sets `s` to 0 again. Three tests, two prints and two writes; a call, its read, and a print.
  pub scopes_run : outcome (resolved scopes) 100 ≡ finishes (pos 1 ∷ pos 1 ∷ pos 1 ∷ []) 10
