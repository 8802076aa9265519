-- What a machine has left to do only writes behind what was written and reads on.
use Rattle.std.proofs.Common.{ℕ, zero, suc, ◌≡◌, refl, sym, ap, subst, List, [], ◌∷◌, Option}
use Rattle.pw_value.specs.declared.value.Value.{Value}
use Rattle.pw_typed.specs.Views.{view_exprs}
use Rattle.pw_cmean.specs.Worlds.{World, Body, Callable}
use Rattle.pw_cmean.specs.Acts.{Act, State, Outcome}
use Rattle.pw_cmean.specs.Lasting.{IsLater, state_behind}
use Rattle.pw_cmean.specs.Evaluation.{Env, call}
use Rattle.pw_cmean.specs.Execution.{Flow}
use Rattle.pw_cmean.specs.SourceRun.{calls, finish}
use Rattle.pw_cmean.proofs.ActLaws.{call-r, used-r}
use Rattle.pw_cmean.proofs.TreeLaws.{finish-r, result_of-r}
use Rattle.pw_interp_state.specs.Shown.{Shown, Streams}
use Rattle.pw_interp_calls.specs.Views.{view_env}
use Rattle.pw_interp_todo.specs.declared.todo.Control.{Control}
use Rattle.pw_interp_todo.specs.declared.todo.Control.TheVariants as C
use Rattle.pw_interp_todo.specs.declared.todo.Todo.{Todo}
use Rattle.pw_interp_todo.specs.declared.todo.Todo.TheVariants as T
use Rattle.pw_interp_todo.specs.declared.todo.Transfer.{Transfer}
use Rattle.pw_interp_todo.specs.declared.todo.Transfer.TheVariants as X
use Rattle.pw_interp_todo.specs.Flows.{view_flow}
use Rattle.pw_interp_todo.specs.Resuming.{Rest, Told, Gave, Flowed, Listed, on_value, on_flow, on_list, put_back, end_objects, after, resume, control_act}
use Rattle.pw_interp_todo.specs.Transfers.{transfer_act}
use Rattle.pw_interp_machine.specs.declared.machine.Machine.{Machine}
use Rattle.pw_interp_machine.specs.Orders.{then_finished}
use Rattle.pw_interp_machine.specs.Standing.{Stands}
use Rattle.pw_interp_machine.specs.Waiting.{Active, Call, leave, ended, goes_on, callers_act}
use Rattle.pw_interp_lasting.specs.Going.{GoesOnFrom}
use Rattle.pw_interp_lasting.proofs.Acts.{AreLasting, L, as_before, end_lasts, give_l, lasting, of_one, then_l, wrong_l}
use Rattle.pw_interp_lasting.proofs.Expressions.{asked_l, behind_l, call_l, calls_l, values_l}
use Rattle.pw_interp_lasting.proofs.Statements.{doing_l, remainder_l, use_l}

-- ---- what is told

value_l : (told : Told) (next : Option Value → Act (Unit {0})) → ((v : Option Value) → L (next v)) → L (on_value told next)
unfolding on_value
value_l (Gave given) next p = p given
value_l (Flowed flow) next p = wrong_l
value_l (Listed vs) next p = wrong_l

flow_l : (told : Told) (next : Flow → Act (Unit {0})) → ((flow : Flow) → L (next flow)) → L (on_flow told next)
unfolding on_flow
flow_l (Gave given) next p = wrong_l
flow_l (Flowed flow) next p = p flow
flow_l (Listed vs) next p = wrong_l

list_l : (told : Told) (next : List Value → Act (Unit {0})) → ((vs : List Value) → L (next vs)) → L (on_list told next)
unfolding on_list
list_l (Gave given) next p = wrong_l
list_l (Flowed flow) next p = wrong_l
list_l (Listed vs) next p = p vs

-- ---- what is left to do

abbrev RestLasts : Rest → Type 0
RestLasts rest = (e : Env) (n : ℕ) (told : Told) → L (rest e n told)

objects_l : (count number : ℕ) → L (end_objects count number)
unfolding end_objects
objects_l zero number = give_l tt
objects_l (suc count) number = then_l (objects_l count (suc number)) λ d. end_lasts number

after_l : (k : Todo) (rest : Rest) → RestLasts rest → RestLasts (after k rest)
unfolding after
after_l (T.Operand operand) rest p e n told = value_l told _ λ given. then_l (behind_l operand given e n) λ r. p e n (Gave r)
after_l (T.Argument args token) rest p e n told =
    value_l told _ λ given. then_l (used-r AreLasting lasting _ given) λ v. then_l (values_l (view_exprs args.now) token e n) λ vs. p e n (Listed (v ∷ vs))
after_l (T.Held v) rest p e n told = list_l told _ λ vs. p e n (Listed (v ∷ vs))
after_l (T.Call callee) rest p e n told = list_l told _ λ vs. then_l (call_l callee vs e n) λ r. p e n (Gave r)
after_l (T.Value what bound) rest p e n told = value_l told _ λ given. then_l (use_l what e n given) λ flow. p e bound (Flowed flow)
after_l (T.Flow what bound) rest p e n told = flow_l told _ λ flow. then_l (remainder_l what e n flow) λ f. p e bound (Flowed f)
after_l (T.EndLocal local number before) rest p e n told = then_l (end_lasts number) λ d. p (put_back local before e) n told
after_l T.Returned rest p e n told = flow_l told _ λ flow. then_l (result_of-r AreLasting lasting flow) λ r. p e n (Gave r)
after_l (T.EndParameters count number) rest p e n told = then_l (objects_l count number) λ d. p e n told

resume_l : (todo : List Todo) (rest : Rest) → RestLasts rest → RestLasts (resume todo rest)
resume_l [] rest p = p
resume_l (first ∷ more) rest p = resume_l more (after first rest) (after_l first rest p)

transfer_l : (transfer : Transfer) → L (transfer_act transfer)
unfolding transfer_act
transfer_l X.Read = then_l lasting.gets λ byte. give_l _
transfer_l (X.Write byte) = then_l (lasting.puts byte) λ d. give_l _

control_l : (c : Control) (e : Env) (n : ℕ) (rest : Rest) → RestLasts rest → L (control_act c e n rest)
unfolding control_act
control_l (C.Ask asked) e n rest p = then_l (asked_l asked e n) λ r. p e n (Gave r)
control_l (C.Do what bound) e n rest p = then_l (doing_l what e n) λ flow. p e bound (Flowed flow)
control_l (C.Arguments args token) e n rest p = then_l (values_l (view_exprs args.now) token e n) λ vs. p e n (Listed vs)
control_l (C.Gave given) e n rest p = p e n (Gave given)
control_l (C.Flowed flow) e n rest p = p e n (Flowed (view_flow flow))
control_l C.Listed e n rest p = p e n (Listed [])
control_l (C.Outside transfer) e n rest p = then_l (transfer_l transfer) λ r. p e n (Gave r)

-- ---- callers

leave_l : (a : Active) → L (leave a)
unfolding leave
leave_l a = of_one (leave a) λ s. as_before s _ refl refl refl

ended_l : (a : Active) (next : Option Value → Act (Unit {0})) → ((v : Option Value) → L (next v)) → RestLasts (ended a next)
unfolding ended
ended_l a next p e n told = value_l told _ λ v. then_l (leave_l a) λ d. p v

on_l : (c : Call) (a : Active) (next : Option Value → Act (Unit {0})) → ((v : Option Value) → L (next v)) → (v : Option Value) → L (goes_on c a next v)
unfolding goes_on
on_l c a next p v = resume_l c.todo.items (ended a next) (ended_l a next p) (view_env c.env) c.bound (Gave v)

callers_l : (cs : List Call) (actives : List Active) (next : Option Value → Act (Unit {0})) → ((v : Option Value) → L (next v)) → (v : Option Value) → L (callers_act cs actives next v)
callers_l [] actives next p v = p v
callers_l (c ∷ more) [] next p v = p v
callers_l (c ∷ more) (a ∷ others) next p v = callers_l more others (goes_on c a next) (λ w. on_l c a next p w) v

-- ---- a machine

later_shown : (s t : State) (st : Streams) → st ≡ record { rest = s.rest; read = s.read; out = s.out } → IsLater s t → GoesOnFrom st t
later_shown s t st is p = subst (λ x. GoesOnFrom x t) (sym is) (record { written = p.written; taken = p.taken })

pub stands_later : (main : Body) (world : World) (m : Machine) (now : Shown × Streams) (end : Outcome (Unit {0})) → Stands main world m now end → GoesOnFrom now.1 (state_behind end)
stands_later main world m now end at =
    let here = at.in_call in
    let rest = resume m.call.todo.items (ended here.active (callers_act m.callers.items at.waiting (finish main))) in
    let lasts : L (control_act m.control (view_env m.call.env) m.call.bound rest) =
    control_l m.control (view_env m.call.env) m.call.bound rest
    (resume_l m.call.todo.items (ended here.active (callers_act m.callers.items at.waiting (finish main)))
    (ended_l here.active (callers_act m.callers.items at.waiting (finish main)) (λ v. callers_l m.callers.items at.waiting (finish main) (λ w. finish-r AreLasting lasting main w) v))) in
    subst (λ (o : Outcome (Unit {0})). GoesOnFrom now.1 (state_behind o)) (sym here.comes)
    (later_shown here.state _ now.1 (sym (ap {A = Shown × Streams} (λ x. x.1) here.shows)) (lasts.first here.state))

pub run_later : (world : World) (bound : ℕ) (f : Callable) (args : List Value) (main : Body) (s : State) → IsLater s (state_behind (then_finished (call world (calls world bound) f args) main s))
run_later world bound f args main s =
    let lasts : L (then_finished (call world (calls world bound) f args) main) =
    then_l (call-r AreLasting lasting world _ _ f args (calls_l world bound)) (λ r. finish-r AreLasting lasting main r) in
    lasts.first s
