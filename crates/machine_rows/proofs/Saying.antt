-- From what `Frame::want` said to the answers that may be given then.
use Rattle.std.proofs.Common.{◌≡◌, Option, Some, None, refl, sym, ap, ◌∙◌, subst}
use Rattle.std.specs.Prelude.{true}
use Rattle.std.specs.Option.{option_map}
use Rattle.cilk_meaning.specs.Serve.{now}
use Rattle.cilk_meaning.specs.Wants.{Request, Read, Write, Add, Print, Spawn, Sync, Call, LoopTurn, Want, Asks, Returns, Traps, suits}
use Rattle.machine_code.specs.Machine.{Code, Frame, wants}
use Rattle.plain_machine.specs.Shown.{Suits, WantsNext, meant, shown_request, shown_want}
use Rattle.machine_rows.specs.Saying.{gets}
use Rattle.plain_machine.specs.declared.want.Answer.{Answer}
use Rattle.plain_machine.specs.declared.want.Answer.TheVariants as given
use Rattle.plain_machine.specs.declared.want.Want as declared

request_gets : (request : Request) (answer : Answer) → gets (shown_request request) answer ≡ true → suits request (meant request answer) ≡ true
request_gets (Read word) (given.Value v) e = refl
request_gets (Read word) given.Done e = absurd cc
request_gets (Write word value) (given.Value v) e = absurd cc
request_gets (Write word value) given.Done e = refl
request_gets (Add word addend) (given.Value v) e = refl
request_gets (Add word addend) given.Done e = absurd cc
request_gets (Print value) (given.Value v) e = absurd cc
request_gets (Print value) given.Done e = refl
request_gets (Spawn target procedure arguments) (given.Value v) e = absurd cc
request_gets (Spawn target procedure arguments) given.Done e = refl
request_gets Sync (given.Value v) e = absurd cc
request_gets Sync given.Done e = refl
request_gets Call (given.Value v) e = absurd cc
request_gets Call given.Done e = refl
request_gets LoopTurn (given.Value v) e = absurd cc
request_gets LoopTurn given.Done e = refl

next_gets : (code : Code) (frame : Frame) (answer : Answer) (next : Want) → WantsNext code frame next → gets (shown_want next) answer ≡ true → Suits code frame answer
next_gets code frame answer (Asks request) next e = record { request = request; next = next; suits = request_gets request answer e }
next_gets code frame (given.Value v) (Returns value) next e = absurd cc
next_gets code frame given.Done (Returns value) next e = absurd cc
next_gets code frame (given.Value v) (Traps kind) next e = absurd cc
next_gets code frame given.Done (Traps kind) next e = absurd cc

-- Where the frame said this want, an answer that it gets may be given.
pub said_gets : (code : Code) (frame : Frame) (said : declared.Want) (answer : Answer) → option_map shown_want (now (wants code frame)) ≡ Some said → gets said answer ≡ true → Suits code frame answer
said_gets code frame said answer is e = go (now (wants code frame)) refl
  where
    go : (o : Option Want) → now (wants code frame) ≡ o → Suits code frame answer
    go None here = absurd (let h : None ≡ Some said = ap (option_map shown_want) (sym here) ∙ is in cc)
    go (Some next) here =
        let h : Some (shown_want next) ≡ Some said = ap (option_map shown_want) (sym here) ∙ is in
        let same : said ≡ shown_want next = cc in
        next_gets code frame answer next here (subst (λ (w : declared.Want). gets w answer ≡ true) same e)
