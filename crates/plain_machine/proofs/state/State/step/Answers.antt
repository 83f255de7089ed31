use Rattle.std.proofs.Common.{refl, sym, ◌∙◌, subst, ◌∷◌, w64, FitsSigned, rules}
use Rattle.std.proofs.lemmas.Int.{to_z-of_z}
use Rattle.machine_code.specs.declared.instr.Instr.TheVariants as instr
use Rattle.machine_code.specs.Machine.{GoesOn, next_with}
use Rattle.plain_machine.specs.Stepping.{Makes}
use Rattle.plain_machine.proofs.Finding.{fine}
use Rattle.plain_machine.proofs.Ready.{ready, leaves_ready, local_inside, stored_inside, call_inside, spawn_inside, made, stays}
use Rattle.plain_machine.proofs.state.State.step.Goals as goal

pub push-requires : goal.push-requires
push-requires c = ready c.args.code.now c.args.self.now c.requires (instr.Const c.in-Const.value) c.in-Const.ensures refl

pub load-requires-clause-ready : goal.load-requires-clause-ready
load-requires-clause-ready c = ready c.args.code.now c.args.self.now c.requires (instr.Load c.in-Load.local) c.in-Load.ensures refl

pub load-requires-clause-local : goal.load-requires-clause-local
load-requires-clause-local c = local_inside c.args.code.now c.args.self.now c.requires c.in-Load.local c.in-Load.ensures

pub store-requires-clause-ready : goal.store-requires-clause-ready
store-requires-clause-ready c = ready c.args.code.now c.args.self.now c.requires (instr.Store c.in-Store.local) c.in-Store.ensures refl

pub store-requires-clause-local : goal.store-requires-clause-local
store-requires-clause-local c = stored_inside c.args.code.now c.args.self.now c.requires c.in-Store.local c.in-Store.ensures

pub pop-requires : goal.pop-requires
pop-requires c = ready c.args.code.now c.args.self.now c.requires instr.Pop c.in-Pop.ensures refl

pub binary-requires : goal.binary-requires
binary-requires c = ready c.args.code.now c.args.self.now c.requires instr.Add c.in-Add.ensures refl

pub binary-requires-in-Sub : goal.binary-requires-in-Sub
binary-requires-in-Sub c = ready c.args.code.now c.args.self.now c.requires instr.Sub c.in-Sub.ensures refl

pub binary-requires-in-Mul : goal.binary-requires-in-Mul
binary-requires-in-Mul c = ready c.args.code.now c.args.self.now c.requires instr.Mul c.in-Mul.ensures refl

pub binary-requires-in-Div : goal.binary-requires-in-Div
binary-requires-in-Div c = ready c.args.code.now c.args.self.now c.requires instr.Div c.in-Div.ensures refl

pub binary-requires-in-Rem : goal.binary-requires-in-Rem
binary-requires-in-Rem c = ready c.args.code.now c.args.self.now c.requires instr.Rem c.in-Rem.ensures refl

pub binary-requires-in-Eq : goal.binary-requires-in-Eq
binary-requires-in-Eq c = ready c.args.code.now c.args.self.now c.requires instr.Eq c.in-Eq.ensures refl

pub binary-requires-in-Ne : goal.binary-requires-in-Ne
binary-requires-in-Ne c = ready c.args.code.now c.args.self.now c.requires instr.Ne c.in-Ne.ensures refl

pub binary-requires-in-Lt : goal.binary-requires-in-Lt
binary-requires-in-Lt c = ready c.args.code.now c.args.self.now c.requires instr.Lt c.in-Lt.ensures refl

pub binary-requires-in-Le : goal.binary-requires-in-Le
binary-requires-in-Le c = ready c.args.code.now c.args.self.now c.requires instr.Le c.in-Le.ensures refl

pub binary-requires-in-Gt : goal.binary-requires-in-Gt
binary-requires-in-Gt c = ready c.args.code.now c.args.self.now c.requires instr.Gt c.in-Gt.ensures refl

pub binary-requires-in-Ge : goal.binary-requires-in-Ge
binary-requires-in-Ge c = ready c.args.code.now c.args.self.now c.requires instr.Ge c.in-Ge.ensures refl

pub unary-requires : goal.unary-requires
unary-requires c = ready c.args.code.now c.args.self.now c.requires instr.Neg c.in-Neg.ensures refl

pub unary-requires-in-Not : goal.unary-requires-in-Not
unary-requires-in-Not c = ready c.args.code.now c.args.self.now c.requires instr.Not c.in-Not.ensures refl

pub jump_if_zero-requires : goal.jump_if_zero-requires
jump_if_zero-requires c = ready c.args.code.now c.args.self.now c.requires (instr.JumpIfZero c.in-JumpIfZero.to) c.in-JumpIfZero.ensures refl

pub read-requires-clause-ready : goal.read-requires-clause-ready
read-requires-clause-ready c = ready c.args.code.now c.args.self.now c.requires (instr.ReadShared c.in-ReadShared.array) c.in-ReadShared.ensures refl

pub read-requires-clause-array : goal.read-requires-clause-array
read-requires-clause-array c = (fine c.args.code.now c.args.self.now c.requires (instr.ReadShared c.in-ReadShared.array) c.in-ReadShared.ensures).in_range

pub write-requires-clause-ready : goal.write-requires-clause-ready
write-requires-clause-ready c = ready c.args.code.now c.args.self.now c.requires (instr.WriteShared c.in-WriteShared.array) c.in-WriteShared.ensures refl

pub write-requires-clause-array : goal.write-requires-clause-array
write-requires-clause-array c = (fine c.args.code.now c.args.self.now c.requires (instr.WriteShared c.in-WriteShared.array) c.in-WriteShared.ensures).in_range

pub add-requires-clause-ready : goal.add-requires-clause-ready
add-requires-clause-ready c = ready c.args.code.now c.args.self.now c.requires (instr.AddShared c.in-AddShared.array) c.in-AddShared.ensures refl

pub add-requires-clause-array : goal.add-requires-clause-array
add-requires-clause-array c = (fine c.args.code.now c.args.self.now c.requires (instr.AddShared c.in-AddShared.array) c.in-AddShared.ensures).in_range

pub print-requires : goal.print-requires
print-requires c = ready c.args.code.now c.args.self.now c.requires instr.PrintTop c.in-PrintTop.ensures refl

pub go_back-requires-clause-ready : goal.go_back-requires-clause-ready
go_back-requires-clause-ready c = leaves_ready c.args.code.now c.args.self.now c.requires c.in-Return.ensures

pub returns-in-Const : goal.returns-in-Const
returns-in-Const c =
    let fits : FitsSigned w64 c.in-Const.value = search rules in
    made c.args.code.now c.args.self.now c.requires (instr.Const c.in-Const.value) c.in-Const.ensures _ _ (sym c.has_overflowed.ensures ∙ c.if-has_overflowed.false)
    (subst (λ v. Makes (GoesOn (next_with c.args.self.now (v ∷ c.args.self.now.running.operands))) c.args.self.now c.push.new.self c.push.result) (to_z-of_z w64 c.in-Const.value fits) (c.push.ensures c.args.code.now))

pub returns-in-Load : goal.returns-in-Load
returns-in-Load c = made c.args.code.now c.args.self.now c.requires (instr.Load c.in-Load.local) c.in-Load.ensures _ _ (sym c.has_overflowed.ensures ∙ c.if-has_overflowed.false) (c.load.ensures c.args.code.now)

pub returns-in-Store : goal.returns-in-Store
returns-in-Store c = made c.args.code.now c.args.self.now c.requires (instr.Store c.in-Store.local) c.in-Store.ensures _ _ (sym c.has_overflowed.ensures ∙ c.if-has_overflowed.false) (c.store.ensures c.args.code.now)

pub returns-in-Pop : goal.returns-in-Pop
returns-in-Pop c = made c.args.code.now c.args.self.now c.requires instr.Pop c.in-Pop.ensures _ _ (sym c.has_overflowed.ensures ∙ c.if-has_overflowed.false) (c.pop.ensures c.args.code.now)

pub returns-in-Jump : goal.returns-in-Jump
returns-in-Jump c = made c.args.code.now c.args.self.now c.requires (instr.Jump c.in-Jump.to) c.in-Jump.ensures _ _ (sym c.has_overflowed.ensures ∙ c.if-has_overflowed.false) (c.jump.ensures c.args.code.now)

pub returns-in-JumpIfZero : goal.returns-in-JumpIfZero
returns-in-JumpIfZero c = made c.args.code.now c.args.self.now c.requires (instr.JumpIfZero c.in-JumpIfZero.to) c.in-JumpIfZero.ensures _ _ (sym c.has_overflowed.ensures ∙ c.if-has_overflowed.false) (c.jump_if_zero.ensures c.args.code.now)

pub returns-in-Return : goal.returns-in-Return
returns-in-Return c = made c.args.code.now c.args.self.now c.requires instr.Return c.in-Return.ensures _ _ (sym c.has_overflowed.ensures ∙ c.if-has_overflowed.false) (c.go_back.ensures c.args.code.now)

pub returns-in-PrintTop : goal.returns-in-PrintTop
returns-in-PrintTop c = stays c.args.code.now c.args.self.now c.requires instr.PrintTop c.in-PrintTop.ensures _ (sym c.has_overflowed.ensures ∙ c.if-has_overflowed.false) (c.print.ensures c.args.code.now)

pub returns-in-Call : goal.returns-in-Call
returns-in-Call c =
    let known = call_inside c.args.code.now c.args.self.now c.requires c.in-Call.field-0 c.in-Call.ensures in
    stays c.args.code.now c.args.self.now c.requires (instr.Call c.in-Call.field-0) c.in-Call.ensures _ (sym c.has_overflowed.ensures ∙ c.if-has_overflowed.false) (c.wants_call.ensures c.args.code.now c.in-Call.field-0 known.0 known.1)

pub returns-in-Spawn : goal.returns-in-Spawn
returns-in-Spawn c =
    let known = spawn_inside c.args.code.now c.args.self.now c.requires c.in-Spawn.procedure c.in-Spawn.target c.in-Spawn.ensures in
    stays c.args.code.now c.args.self.now c.requires (instr.Spawn c.in-Spawn.procedure c.in-Spawn.target) c.in-Spawn.ensures _ (sym c.has_overflowed.ensures ∙ c.if-has_overflowed.false) (c.wants_spawn.ensures c.args.code.now known.0 known.1)
