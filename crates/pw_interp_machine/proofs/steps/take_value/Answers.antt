use Rattle.std.proofs.Common.{◌≡◌, refl, sym, ap, ◌∙◌, [], arith}
use Rattle.pw_interp_calls.specs.Functions.{callable_of}
use Rattle.pw_interp_calls.specs.Views.{view_env}
use Rattle.pw_interp_state.specs.Shown.{view_state}
use Rattle.pw_interp_todo.specs.Resuming.{Gave, after, resume}
use Rattle.pw_interp_pushes.proofs.Pushing.{nothing_in}
use Rattle.pw_interp_pushes.proofs.Pushing.{popped_is}
use Rattle.pw_interp_machine.proofs.Standings.{steps_reached}
use Rattle.pw_interp_machine.proofs.steps.take_value.Goals as goal

pub returns-in-Some : goal.returns-in-Some
returns-in-Some c =
    let call = c.args.machine.now.call in
    let e = view_env call.env in
    let told = Gave c.args.given in
    steps_reached call (record call { todo = c.pop.new.self }) (λ rest. rest e call.bound told) (λ rest. after c.in-Some.first rest e call.bound told)
    (popped_is c.pop.new.self.items c.in-Some.first call.todo.items e call.bound told c.in-Some.ensures.items) refl refl
    (c.settle.ensures (callable_of c.args.main).body _ _ (view_state c.args.state.now) _ c.gave_step-answer.ensures)

pub give_back-requires : goal.give_back-requires
give_back-requires c = nothing_in c.pop.new.self.items (omega (arith, c.in-None.ensures.cases.1, c.pop.new.self.ok.0))

pub returns-in-None : goal.returns-in-None
returns-in-None c =
    let call = c.args.machine.now.call in
    let e = view_env call.env in
    let told = Gave c.args.given in
    let old : call.todo.items ≡ [] = nothing_in call.todo.items (omega (arith, c.in-None.ensures.cases.0, call.todo.ok.0)) in
    let new : c.pop.new.self.items ≡ [] = nothing_in c.pop.new.self.items (omega (arith, c.in-None.ensures.cases.1, c.pop.new.self.ok.0)) in
    steps_reached call (record call { todo = c.pop.new.self }) (λ rest. rest e call.bound told) (λ rest. rest e call.bound told)
    (λ rest. ap (λ items. resume items rest e call.bound told) (old ∙ sym new)) refl refl c.give_back.ensures
