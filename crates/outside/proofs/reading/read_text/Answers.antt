use Rattle.std.proofs.Common.{◌≡◌, ℕ, List, ◌++◌, length, arith, take, ap, sym, ◌∙◌, subst, length-append}
use Rattle.std.proofs.lemmas.List.{length-take}
use Rattle.outside.proofs.Joining.{ReadSoFar, CallsSoFar, CallsSoFar-append, CallsSoFar-fault, CallsSoFar-last, CallsSoFar-whole, ReadSoFar-append, ReadSoFar-longer, ReadSoFar-whole}
use Rattle.outside.proofs.reading.read_text.Goals as goal

pub returns-in-Err-clause-fault_calls : goal.returns-in-Err-clause-fault_calls
returns-in-Err-clause-fault_calls g c _ =
    CallsSoFar-fault g.L.Shelf.gave g.L.Shelf.failed c.args.name.now c.args.limit c.args.shelf.now c.loop-count.shelf c.read_at.new.self c.loop-count.text.items
    c.len-reached.result (length c.loop-count.piece) (omega (arith, c.len-reached.ensures)) (omega arith) c.in-Err.ensures.failed
    c.loop-count.invariant.calls c.loop-count.invariant.within

pub returns-then-count-eq0-clause-whole : goal.returns-then-count-eq0-clause-whole
returns-then-count-eq0-clause-whole g c =
    ReadSoFar-whole (g.L.Shelf.texts c.args.shelf.now) (g.L.Shelf.texts c.loop-count.shelf) c.args.name.now c.loop-count.text.items c.len-reached.result (length c.loop-count.piece)
    (take c.in-Ok.count c.read_at.new.into) c.loop-count.invariant.front c.loop-count.invariant.texts (omega (arith, c.len-reached.ensures)) c.in-Ok.ensures.told
    (omega arith) (ap (λ n. take n c.read_at.new.into) c.if-count-eq0.true)

pub returns-then-count-eq0-clause-whole_calls : goal.returns-then-count-eq0-clause-whole_calls
returns-then-count-eq0-clause-whole_calls g c =
    CallsSoFar-whole g.L.Shelf.gave c.args.name.now c.args.shelf.now c.loop-count.shelf c.read_at.new.self c.loop-count.text.items (take c.in-Ok.count c.read_at.new.into)
    c.len-reached.result (length c.loop-count.piece) (omega (arith, c.len-reached.ensures)) (omega arith) c.in-Ok.ensures.gave
    c.args.limit c.loop-count.invariant.calls c.loop-count.invariant.within (ap (λ n. take n c.read_at.new.into) c.if-count-eq0.true)

pub returns-then-count-limit-clause-too_long : goal.returns-then-count-limit-clause-too_long
returns-then-count-limit-clause-too_long g c _ =
    let given : List ℕ = take c.in-Ok.count c.read_at.new.into in
    let size : length given ≡ c.in-Ok.count = omega (arith, length-take c.in-Ok.count c.read_at.new.into, c.read_at.auto.into, c.in-Ok.ensures.within) in
    let place : c.len-reached.result ≡ length c.loop-count.text.items = omega (arith, c.len-reached.ensures) in
    ReadSoFar-longer (g.L.Shelf.texts c.args.shelf.now) c.args.name.now (c.loop-count.text.items ++ given) c.args.limit
    (ReadSoFar-append (g.L.Shelf.texts c.args.shelf.now) (g.L.Shelf.texts c.loop-count.shelf) c.args.name.now c.loop-count.text.items c.len-reached.result (length c.loop-count.piece) given
    c.loop-count.invariant.front c.loop-count.invariant.texts place c.in-Ok.ensures.told)
    (omega (arith, length-append c.loop-count.text.items given, size, place, c.if-count-limit.true, c.loop-count.invariant.within))

pub returns-then-count-limit-clause-too_long_calls : goal.returns-then-count-limit-clause-too_long_calls
returns-then-count-limit-clause-too_long_calls g c _ =
    let given : List ℕ = take c.in-Ok.count c.read_at.new.into in
    let size : length given ≡ c.in-Ok.count = omega (arith, length-take c.in-Ok.count c.read_at.new.into, c.read_at.auto.into, c.in-Ok.ensures.within) in
    let place : c.len-reached.result ≡ length c.loop-count.text.items = omega (arith, c.len-reached.ensures) in
    let calls = CallsSoFar-last g.L.Shelf.gave c.args.name.now c.args.shelf.now c.loop-count.shelf c.read_at.new.self c.loop-count.text.items given
    c.len-reached.result (length c.loop-count.piece) place (omega arith) c.in-Ok.ensures.gave
    c.args.limit c.loop-count.invariant.calls c.loop-count.invariant.within (omega (arith, size)) in
    (calls.0, calls.1, calls.2, calls.3, omega (arith, calls.4, size, place, c.if-count-limit.true, c.loop-count.invariant.within), calls.5, calls.6)

pub returns-then-is_err-clause-memory_calls : goal.returns-then-is_err-clause-memory_calls
returns-then-is_err-clause-memory_calls g c _ =
    let given : List ℕ = take c.in-Ok.count c.read_at.new.into in
    let size : length given ≡ c.in-Ok.count = omega (arith, length-take c.in-Ok.count c.read_at.new.into, c.read_at.auto.into, c.in-Ok.ensures.within) in
    let place : c.len-reached.result ≡ length c.loop-count.text.items = omega (arith, c.len-reached.ensures) in
    let calls = CallsSoFar-last g.L.Shelf.gave c.args.name.now c.args.shelf.now c.loop-count.shelf c.read_at.new.self c.loop-count.text.items given
    c.len-reached.result (length c.loop-count.piece) place (omega arith) c.in-Ok.ensures.gave
    c.args.limit c.loop-count.invariant.calls c.loop-count.invariant.within (omega (arith, size)) in
    (calls.0, calls.1, calls.2, omega (arith, calls.4, size, place, c.if-count-limit.false, c.loop-count.invariant.within), calls.5, calls.6)

pub loop-count-preserved : goal.loop-count-preserved
loop-count-preserved g c =
    let given : List ℕ = take c.in-Ok.count c.read_at.new.into in
    let size : length given ≡ c.in-Ok.count = omega (arith, length-take c.in-Ok.count c.read_at.new.into, c.read_at.auto.into, c.in-Ok.ensures.within) in
    let grown : c.extend_from_slice.new.self.items ≡ c.loop-count.text.items ++ given = rw c.if-is_err.ensures.negation at c.extend_from_slice.ensures.items in
    let place : c.len-reached.result ≡ length c.loop-count.text.items = omega (arith, c.len-reached.ensures) in
    record {
      texts = c.in-Ok.ensures.texts ∙ c.loop-count.invariant.texts;
      faults = λ other. omega (arith, c.loop-count.invariant.faults other, c.in-Ok.ensures.faults other);
      front = subst (λ x. ReadSoFar (g.L.Shelf.texts c.args.shelf.now) c.args.name.now x) (sym grown)
          (ReadSoFar-append (g.L.Shelf.texts c.args.shelf.now) (g.L.Shelf.texts c.loop-count.shelf) c.args.name.now c.loop-count.text.items c.len-reached.result
          (length c.loop-count.piece) given c.loop-count.invariant.front c.loop-count.invariant.texts place c.in-Ok.ensures.told);
      calls = subst (λ x. CallsSoFar g.L.Shelf.gave c.args.name.now c.args.shelf.now x c.read_at.new.self) (sym grown)
          (CallsSoFar-append g.L.Shelf.gave c.args.name.now c.args.shelf.now c.loop-count.shelf c.read_at.new.self c.loop-count.text.items given c.len-reached.result
          (length c.loop-count.piece) place (omega arith) c.in-Ok.ensures.gave c.loop-count.invariant.calls (omega (arith, size)));
      within = omega (arith, ap length grown, length-append c.loop-count.text.items given, size, place, c.if-count-limit.false, c.loop-count.invariant.within);
    }
