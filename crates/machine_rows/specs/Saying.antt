-- Which answers a want gets.
use Rattle.std.specs.Prelude.{Bool, true, false}
use Rattle.plain_machine.specs.declared.want.Answer.{Answer}
use Rattle.plain_machine.specs.declared.want.Answer.TheVariants.{Value, Done}
use Rattle.plain_machine.specs.declared.want.Want.{Want}
use Rattle.plain_machine.specs.declared.want.Want.TheVariants.{Read, Write, Add, Print, Spawn, Sync, Call, LoopTurn}

-- a value at a read or an add, `Done` at each other request
abbrev pub gets : Want → Answer → Bool
gets (Read word) (Value value) = true
gets (Add word addend) (Value value) = true
gets (Write word value) Done = true
gets (Print value) Done = true
gets (Spawn procedure target) Done = true
gets Sync Done = true
gets Call Done = true
gets LoopTurn Done = true
gets _ _ = false
