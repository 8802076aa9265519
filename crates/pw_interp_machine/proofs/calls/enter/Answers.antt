use Rattle.std.proofs.Common.{◌≡◌, rules, refl, sym, ap, subst, ◌∙◌, Option, [], ◌∷◌, ◌++◌}
use Rattle.std.specs.Prelude.{IfOk, IfErr}
use Rattle.pw_value.specs.declared.value.Value.{Value}
use Rattle.pw_typed.specs.Views.{view_function}
use Rattle.pw_cmean.specs.Acts.{Act, State, ◌>>=◌}
use Rattle.pw_interp_calls.specs.Answers.{Stops}
use Rattle.pw_interp_state.specs.Shown.{Streams, all_shown}
use Rattle.pw_interp_todo.specs.Resuming.{control_act}
use Rattle.pw_interp_pushes.specs.declared.call.Call.{Call}
use Rattle.pw_interp_machine.specs.Standing.{InCall}
use Rattle.pw_interp_machine.specs.Stepping.{body_first}
use Rattle.pw_interp_pushes.proofs.Stopping.{stops_on}
use Rattle.pw_interp_machine.proofs.Standings.{steps_enter, steps_no_memory, steps_stop}
use Rattle.pw_interp_machine.proofs.calls.enter.Goals as goal

pub returns-in_err-call : goal.returns-in_err-call
returns-in_err-call c main world act before behind b =
    steps_stop _ (search rules) (λ rest. stops_on _ _ _ _ _ _ (subst (λ r. IfErr r (λ s. Stops world act before s behind)) c.in_err-call.was b.stopped))

pub returns-in_err-push : goal.returns-in_err-push
returns-in_err-push c main world act before behind b = steps_no_memory (search rules)

pub returns : goal.returns
unfolding body_first control_act
returns c main world act before behind b =
    let old = c.args.machine.now in
    let body = (view_function c.args.f.now).body in
    let Begun : Call → Type 0 = λ call. (next : Option Value → Act (Unit {0})) (st : Streams) (s : State) → all_shown world s ≡ (before, st) → InCall world call (body_first body call) next (behind, st) ((act >>= next) s) in
    let begun = subst Begun (sym c.replace-caller.ensures.after) (subst (λ r. IfOk r Begun) c.in_ok-call.was b.begun) in
    steps_enter old.call old.callers.items act body _ begun (c.in_ok-push.ensures.items ∙ ap (λ x. old.callers.items ++ x ∷ []) c.replace-caller.ensures.value) (λ rest s. refl)
