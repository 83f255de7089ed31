-- Instances that want the same below a number of answers are served alike for fewer ticks than that.
use Rattle.std.proofs.Common.{◌≡◌, ℕ, zero, suc, ◌≤◌, List, [], ◌∷◌, ◌++◌, length, map, Option, Some, None, refl, sym, ap, ◌∙◌, arith}
use Rattle.std.proofs.lemmas.List.{length-map}
use Rattle.std.specs.Prelude.{ℤ, true}
use Rattle.cilk_meaning.specs.Instance.{Meaning}
use Rattle.cilk_meaning.specs.Serve.{Entry, Parent, State, first_of, rest_of, now, after, served, serve_want, serve_return, serve_request, serve, first_state}
use Rattle.cilk_meaning.specs.Wants.{Request, Read, Write, Add, Print, Spawn, Sync, Call, LoopTurn, Want, Asks, Returns, Traps, Deposit, Answer, Value, Children, Done}
use Rattle.cilk_meaning.specs.World.{World, after_read, after_write, after_add, after_print, after_spawn, after_sync, after_tick}
use Rattle.cilk_meaning.proofs.Wanting.{Alike}

abbrev pub Below : ℕ → Meaning → Meaning → Type 0
Below k g h = Alike true k g h

-- two instances that differ in what they want at most
record Two : Type 0 where
  goes : Meaning
  goes' : Meaning
  row : ℕ
  kept : List Deposit
  target : Option ℕ

abbrev one : Two → Entry
one t = record { goes = t.goes; row = t.row; kept = t.kept }

abbrev other : Two → Entry
other t = record { goes = t.goes'; row = t.row; kept = t.kept }

abbrev ones : List Two → List Parent
ones ts = map (λ t. record { entry = one t; target = t.target }) ts

abbrev others : List Two → List Parent
others ts = map (λ t. record { entry = other t; target = t.target }) ts

abbrev AllBelow : ℕ → List Two → Type 0
AllBelow k [] = Unit {0}
AllBelow k (t ∷ ts) = Below k t.goes t.goes' × AllBelow k ts

all_less : (k m : ℕ) (ts : List Two) → k ≤ m → AllBelow m ts → AllBelow k ts
all_less k m [] le h = tt
all_less k m (t ∷ ts) le h = (λ answers lt. h.0 answers (omega arith), all_less k m ts le h.1)

module _ (start start' : ℕ → ℕ → List ℤ → Meaning) (most : ℕ) (alike : (depth f : ℕ) (vs : List ℤ) → Below (suc most) (start depth f vs) (start' depth f vs)) where
  abbrev state : Two → List Two → World → State
  state t ts w = record { running = one t; waiting = ones ts; world = w }

  abbrev state' : Two → List Two → World → State
  state' t ts w = record { running = other t; waiting = others ts; world = w }

  abbrev RequestsAgree : ℕ → Type 0
  RequestsAgree left = (request : Request) (t : Two) (ts : List Two) (w : World) → Below (suc left) t.goes t.goes' → AllBelow (suc left) ts →
      serve_request start left request (state t ts w) ≡ serve_request start' left request (state' t ts w)

  module _ (left : ℕ) (agree : RequestsAgree left) where
    want_alike : (o : Option Want) (t : Two) (ts : List Two) (w : World) → Below (suc left) t.goes t.goes' → AllBelow (suc left) ts →
        ((v : ℤ) → serve_return (serve_request start left) (ones ts) v w ≡ serve_return (serve_request start' left) (others ts) v w) →
        serve_want (serve_request start left) (serve_return (serve_request start left) (ones ts)) o (state t ts w) ≡ serve_want (serve_request start' left) (serve_return (serve_request start' left) (others ts)) o (state' t ts w)
    want_alike None t ts w h hs back = refl
    want_alike (Some (Asks request)) t ts w h hs back = agree request t ts w h hs
    want_alike (Some (Returns v)) t ts w h hs back = back v
    want_alike (Some (Traps kind)) t ts w h hs back = refl

    now_alike : (t : Two) → Below (suc left) t.goes t.goes' → now t.goes ≡ now t.goes'
    now_alike t h = ap first_of (h [] (omega arith))

    return_alike : (ts : List Two) (v : ℤ) (w : World) → AllBelow (suc left) ts → serve_return (serve_request start left) (ones ts) v w ≡ serve_return (serve_request start' left) (others ts) v w
    return_alike [] v w hs = refl
    return_alike (t ∷ ts) v w hs =
        let t' : Two = record { goes = t.goes; goes' = t.goes'; row = t.row; kept = t.kept ++ (t.target, v) ∷ []; target = t.target } in
        want_alike (now t.goes) t' ts w hs.0 hs.1 (λ u. return_alike ts u w hs.1)
        ∙ ap (λ o. serve_want (serve_request start' left) (serve_return (serve_request start' left) (others ts)) o (state' t' ts w)) (now_alike t hs.0)

    with_alike : (t : Two) (ts : List Two) (w : World) → Below (suc left) t.goes t.goes' → AllBelow (suc left) ts →
        serve start left (state t ts w) ≡ serve start' left (state' t ts w)
    with_alike t ts w h hs =
        want_alike (now t.goes) t ts w h hs (λ v. return_alike ts v w hs)
        ∙ ap (λ o. serve_want (serve_request start' left) (serve_return (serve_request start' left) (others ts)) o (state' t ts w)) (now_alike t h)

  -- behind an answer
  module _ (left : ℕ) (agree : RequestsAgree left) (t : Two) (ts : List Two) (h : Below (suc (suc left)) t.goes t.goes') (hs : AllBelow (suc (suc left)) ts) where
    replied_alike : (answer : Answer) (kept : List Deposit) (w : World) →
        serve start left (record { running = record { goes = after t.goes answer; row = t.row; kept = kept }; waiting = ones ts; world = w })
        ≡ serve start' left (record { running = record { goes = after t.goes' answer; row = t.row; kept = kept }; waiting = others ts; world = w })
    replied_alike answer kept w =
        with_alike left agree (record { goes = after t.goes answer; goes' = after t.goes' answer; row = t.row; kept = kept; target = None }) ts w
        (λ answers lt. ap rest_of (h (answer ∷ answers) (omega arith))) (all_less (suc left) (suc (suc left)) ts (omega arith) hs)

    lengths : length (ones ts) ≡ length (others ts)
    lengths = length-map ts _ ∙ sym (length-map ts _)

    spawned_alike : left ≤ most → (target : Option ℕ) (f : ℕ) (vs : List ℤ) (w : World) →
        serve start left (served start (Spawn target f vs) (state t ts w)) ≡ serve start' left (served start' (Spawn target f vs) (state' t ts w))
    spawned_alike le target f vs w =
        let parent : Two = record { goes = after t.goes Done; goes' = after t.goes' Done; row = t.row; kept = t.kept; target = target } in
        let child : Two = record { goes = start (suc (length (ones ts))) f vs; goes' = start' (suc (length (ones ts))) f vs; row = w.rows; kept = []; target = None } in
        with_alike left agree child (parent ∷ ts) (after_spawn t.row f vs w)
        (λ answers lt. alike (suc (length (ones ts))) f vs answers (omega arith))
        (λ answers lt. ap rest_of (h (Done ∷ answers) (omega arith)), all_less (suc left) (suc (suc left)) ts (omega arith) hs)
        ∙ ap (λ n. serve start' left (record {
          running = record { goes = start' (suc n) f vs; row = w.rows; kept = [] };
          waiting = record { entry = record { goes = after t.goes' Done; row = t.row; kept = t.kept }; target = target } ∷ others ts;
          world = after_spawn t.row f vs w;
        })) lengths

    served_alike : left ≤ most → (request : Request) (w : World) → serve start left (served start request (state t ts w)) ≡ serve start' left (served start' request (state' t ts w))
    served_alike le (Read word) w = replied_alike (Value (w.memory word)) t.kept (after_read t.row word w)
    served_alike le (Write word value) w = replied_alike Done t.kept (after_write t.row word value w)
    served_alike le (Add word addend) w = replied_alike (Value (w.memory word)) t.kept (after_add t.row word addend w)
    served_alike le (Print value) w = replied_alike Done t.kept (after_print t.row value w)
    served_alike le (Spawn target f vs) w = spawned_alike le target f vs w
    served_alike le Sync w = replied_alike (Children t.kept) [] (after_sync t.row w)
    served_alike le Call w = replied_alike Done t.kept (after_tick t.row w)
    served_alike le LoopTurn w = replied_alike Done t.kept (after_tick t.row w)

  requests_agree : (left : ℕ) → left ≤ suc most → RequestsAgree left
  requests_agree zero le = λ request t ts w h hs. refl
  requests_agree (suc left) le = λ request t ts w h hs.
      served_alike left (requests_agree left (omega arith)) t ts h hs (omega arith) request w

  -- The service of `main` is the same.
  pub served_same : (main : ℕ) (memory : ℕ → ℤ) → serve start most (first_state start main memory) ≡ serve start' most (first_state start' main memory)
  served_same main memory =
      with_alike most (requests_agree most (omega arith)) (record { goes = start 0 main []; goes' = start' 0 main []; row = 0; kept = []; target = None }) [] _
      (alike 0 main []) tt
