use Rattle.std.proofs.Common.{◌≡◌, ℕ, List, [], ◌++◌, append-nil, take, arith, length-append, refl, ap, ◌∙◌, subst}
use Rattle.std.proofs.KnownBytes.{Consumes-nil, Consumes-trans}
use Rattle.std.proofs.lemmas.List.{length-take}
use Rattle.std.specs.Io.KnownBytes.{Consumes}
use Rattle.outside.proofs.real_shelf.OpenText.read_up_to.Goals as goal

pub loop-text-init : goal.loop-text-init
loop-text-init g c = record { named = refl; within = omega arith; passed = ([], refl, Consumes-nil _) }

pub returns-then-count-eq0-clause-passed : goal.returns-then-count-eq0-clause-passed
returns-then-count-eq0-clause-passed g c =
    let (passed, size, consumed) = c.loop-text.invariant.passed in
    let none : passed ++ take c.in_ok-count.count c.read_some.new.into ≡ passed = ap (λ n. passed ++ take n c.read_some.new.into) c.if-count-eq0.true ∙ append-nil passed in
    (passed, size, subst (Consumes (g.F.Read.remaining c.args.file) (g.F.Read.remaining c.read_some.new.reader)) none (Consumes-trans _ _ _ passed _ consumed c.in_ok-count.ensures.given))

pub loop-text-preserved : goal.loop-text-preserved
loop-text-preserved g c =
    let (passed, size, consumed) = c.loop-text.invariant.passed in
    let given : List ℕ = take c.in_ok-count.count c.read_some.new.into in
    record {
      named = c.loop-text.invariant.named;
      within = omega (arith, c.min-most.ensures, c.in_ok-count.ensures.within, length-take c.min-most.result c.loop-text.passed, c.loop-text-test.true);
      passed = (passed ++ given, omega (arith, size, length-append passed given, length-take c.in_ok-count.count c.read_some.new.into, c.read_some.auto.into, c.in_ok-count.ensures.within), Consumes-trans _ _ _ passed given consumed c.in_ok-count.ensures.given);
    }
