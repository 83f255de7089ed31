use Rattle.std.proofs.Common.{◌≡◌, ◌-◌, suc, ap, arith, refl, sym, ◌∙◌, subst, w64, to_z, of_z, FitsSigned, rules}
use Rattle.std.proofs.lemmas.Int.{to_z-of_z}
use Rattle.plain_machine.specs.declared.want.Want.TheVariants as shown
use Rattle.cilk_meaning.specs.declared.ends.NodeEnd.TheVariants.{Trapped, Budget}
use Rattle.cilk_meaning.specs.Serve.{serve}
use Rattle.cilk_meaning.specs.Wants.{Asks, Traps}
use Rattle.machine_code.specs.Machine.{starts}
use Rattle.plain_machine.specs.Shown.{WantsNext}
use Rattle.serial_run.specs.Serving.{ServesWant, meant_by}
use Rattle.serial_run.specs.declared.run.Run.{Run}
use Rattle.serial_run.proofs.Turning.{RunsOn, ends_so, is_request, request_leads, request_nearer, return_leads, return_nearer, spent_served, standing_on, trap_served, wants_so}
use Rattle.serial_run.proofs.run.Run.turn.Goals as goal

pub want-requires : goal.want-requires
want-requires c = c.requires.1.fine

pub give_back-requires : goal.give_back-requires
give_back-requires c = (
  c.args.code.now,
  standing_on c.args.code.now c.args.self.now _
      (record { parents = refl; recording = refl; words = refl; fine = c.want.ensures.stands; stepped = c.want.ensures.stepped; same = c.want.ensures.same }) c.requires,
)

pub serve-requires : goal.serve-requires
serve-requires c = record {
  standing = standing_on c.args.code.now c.args.self.now _
      (record { parents = refl; recording = refl; words = refl; fine = c.want.ensures.stands; stepped = c.want.ensures.stepped; same = c.want.ensures.same }) c.requires;
  wants = wants_so c.args.code.now c.args.self.now.frame.frame c.want.new.self.frame c.want.result c.want.new.self.arguments c.want.ensures.want c.want.ensures.arguments c.want.ensures.same;
}

pub returns-in-Return-clause-goes : goal.returns-in-Return-clause-goes
returns-in-Return-clause-goes c =
    let fits : FitsSigned w64 c.in-Return.value = search rules in
    let same : to_z w64 (of_z w64 c.in-Return.value) ≡ c.in-Return.value = to_z-of_z w64 c.in-Return.value fits in
    let next = wants_so c.args.code.now c.args.self.now.frame.frame c.want.new.self.frame c.want.result c.want.new.self.arguments c.want.ensures.want c.want.ensures.arguments c.want.ensures.same in
    let mid : Run = record c.args.self.now { frame = c.want.new.self } in
    return_leads c.args.code.now c.args.self.now mid c.give_back.new.self
    (record { parents = refl; recording = refl; words = refl; fine = c.want.ensures.stands; stepped = c.want.ensures.stepped; same = c.want.ensures.same })
    (to_z w64 (of_z w64 c.in-Return.value)) c.give_back.result (subst (λ said. WantsNext c.args.code.now c.want.new.self.frame (meant_by said c.want.new.self.arguments)) (c.in-Return.is ∙ ap shown.Return (sym same)) next) refl c.give_back.ensures.left
    (c.give_back.ensures.back c.args.code.now)

pub returns-in-Return-clause-nearer : goal.returns-in-Return-clause-nearer
returns-in-Return-clause-nearer c =
    let fits : FitsSigned w64 c.in-Return.value = search rules in
    let same : to_z w64 (of_z w64 c.in-Return.value) ≡ c.in-Return.value = to_z-of_z w64 c.in-Return.value fits in
    let next = wants_so c.args.code.now c.args.self.now.frame.frame c.want.new.self.frame c.want.result c.want.new.self.arguments c.want.ensures.want c.want.ensures.arguments c.want.ensures.same in
    let mid : Run = record c.args.self.now { frame = c.want.new.self } in
    return_nearer c.args.code.now c.args.self.now mid c.give_back.new.self
    (record { parents = refl; recording = refl; words = refl; fine = c.want.ensures.stands; stepped = c.want.ensures.stepped; same = c.want.ensures.same })
    (to_z w64 (of_z w64 c.in-Return.value)) c.give_back.result (subst (λ said. WantsNext c.args.code.now c.want.new.self.frame (meant_by said c.want.new.self.arguments)) (c.in-Return.is ∙ ap shown.Return (sym same)) next) refl c.give_back.ensures.left
    (c.give_back.ensures.back c.args.code.now) c.requires

pub returns-in-Trap-clause-goes : goal.returns-in-Trap-clause-goes
returns-in-Trap-clause-goes c =
    let next = wants_so c.args.code.now c.args.self.now.frame.frame c.want.new.self.frame c.want.result c.want.new.self.arguments c.want.ensures.want c.want.ensures.arguments c.want.ensures.same in
    let mid : Run = record c.args.self.now { frame = c.want.new.self } in
    ends_so c.args.code.now c.args.self.now mid mid
    (record { parents = refl; recording = refl; words = refl; fine = c.want.ensures.stands; stepped = c.want.ensures.stepped; same = c.want.ensures.same })
    (Traps c.in-Trap.kind) (subst (λ said. WantsNext c.args.code.now c.want.new.self.frame (meant_by said c.want.new.self.arguments)) c.in-Trap.is next) refl
    (Trapped c.in-Trap.kind) (λ state. trap_served c.args.code.now c.args.self.now.left state c.in-Trap.kind)

pub returns-in_default : goal.returns-in_default
returns-in_default c =
    let next = wants_so c.args.code.now c.args.self.now.frame.frame c.want.new.self.frame c.want.result c.want.new.self.arguments c.want.ensures.want c.want.ensures.arguments c.want.ensures.same in
    let mid : Run = record c.args.self.now { frame = c.want.new.self } in
    let asked = is_request c.want.result c.want.new.self.arguments c.in_default.not-Return c.in_default.not-Trap in
    record {
      goes = ends_so c.args.code.now c.args.self.now mid mid
          (record { parents = refl; recording = refl; words = refl; fine = c.want.ensures.stands; stepped = c.want.ensures.stepped; same = c.want.ensures.same })
          (Asks asked.0) (subst (λ want. WantsNext c.args.code.now c.want.new.self.frame want) asked.1 next) refl
          Budget (λ state wants. ap (λ n. serve (starts c.args.code.now) n state) c.if-self-eq0.true ∙ spent_served c.args.code.now 0 state asked.0 wants);
      nearer = tt;
    }

pub returns-in_ok-serve-in_default-2 : goal.returns-in_ok-serve-in_default-2
returns-in_ok-serve-in_default-2 c =
    let next = wants_so c.args.code.now c.args.self.now.frame.frame c.want.new.self.frame c.want.result c.want.new.self.arguments c.want.ensures.want c.want.ensures.arguments c.want.ensures.same in
    let mid : Run = record c.args.self.now { frame = c.want.new.self; left = c.args.self.now.left - 1 } in
    let on : RunsOn c.args.code.now c.args.self.now mid = record { parents = refl; recording = refl; words = refl; fine = c.want.ensures.stands; stepped = c.want.ensures.stepped; same = c.want.ensures.same } in
    let asked = is_request c.want.result c.want.new.self.arguments c.in_default.not-Return c.in_default.not-Trap in
    let here = subst (λ want. WantsNext c.args.code.now c.want.new.self.frame want) asked.1 next in
    let some : suc (c.args.self.now.left - 1) ≡ c.args.self.now.left = omega (arith, c.if-self-eq0.false) in
    let serves = subst (λ want. ServesWant c.args.code.now want mid c.serve.new.self) asked.1 (c.in_ok-serve-in_default-2.ensures {u = tt}) in
    record {
      goes = request_leads c.args.code.now c.args.self.now mid c.serve.new.self on asked.0 here some serves;
      nearer = request_nearer c.args.code.now c.args.self.now mid c.serve.new.self on asked.0 here some serves c.requires;
    }
