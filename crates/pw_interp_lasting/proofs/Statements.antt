-- What is left of statements only writes behind what was written and reads on.
use Rattle.std.proofs.Common.{ℕ, ◌-◌, ◌+◌, Bool, false, true, List, [], ◌∷◌, drop, Option}
use Rattle.pw_value.specs.declared.value.Value.{Value}
use Rattle.pw_typed.specs.Views.{view_stmt}
use Rattle.pw_types.specs.TypedTrees.{Statement, Block, If, While, Do, For, Switch, Label, Arms, NoArm, Arm, Otherwise, Statements, Initialiser, Value as ByValue, Bytes as ByBytes, token_of}
use Rattle.pw_types.specs.Labels.{labels_among}
use Rattle.pw_cmean.specs.Acts.{Bound}
use Rattle.pw_cmean.specs.Evaluation.{Env, Calls}
use Rattle.pw_cmean.specs.Execution.{Entry, Front, At_label, Flow, Normal, label_for, items}
use Rattle.pw_cmean.proofs.ActLaws.{AreRelated, branch-r, used-r}
use Rattle.pw_cmean.proofs.TreeLaws.{Parts, condition-r, for_condition-r, drop_value-r, always-r, go_forward-r, caught-r, taking_up-r, after_body-r, turn-r, loop-r, after_switch-r, switch_to-r, with_locals-r, set_local-r, initialise_all-r, meaning-r, items-r, arms-r, behind_arms-r}
use Rattle.pw_interp_todo.specs.declared.statements.Done.{Done}
use Rattle.pw_interp_todo.specs.declared.statements.Done.TheVariants as D
use Rattle.pw_interp_todo.specs.declared.statements.Doing.{Doing}
use Rattle.pw_interp_todo.specs.declared.statements.Part.{Part}
use Rattle.pw_interp_todo.specs.declared.statements.Part.TheVariants as P
use Rattle.pw_interp_todo.specs.declared.statements.Purpose.{Purpose}
use Rattle.pw_interp_todo.specs.declared.statements.Purpose.TheVariants as U
use Rattle.pw_interp_todo.specs.declared.statements.Remainder.{Remainder}
use Rattle.pw_interp_todo.specs.declared.statements.Use.{Use}
use Rattle.pw_interp_todo.specs.Flows.{view_entry}
use Rattle.pw_interp_todo.specs.Going.{members_behind, arm_behind, done_act, remainder_act, arm_or_rest, arm_tested, switched, initialised, purpose_act, use_act}
use Rattle.pw_interp_todo.specs.Loops.{ahead_of, body_of, behind_of, loop_act, top_act, turn_or_leave, top_or_leave, body_behind}
use Rattle.pw_interp_todo.specs.Members.{first_in, count_in, initialisers_in, members_in, members_from, arms_in, arms_from, otherwise_in, taken_in}
use Rattle.pw_interp_todo.specs.Parts.{met_arms, once_of, taking_act, again_act, inside, part_act, doing_act}
use Rattle.pw_interp_lasting.proofs.Acts.{AreLasting, L, lasting, give_l, stop_l, then_l}
use Rattle.pw_interp_lasting.proofs.Expressions.{CallsLast, calls_l, tested_l}

-- calls of two lists
abbrev Related : Calls → Calls → Type 0
Related = AreRelated AreLasting lasting

-- ---- arms, members and the insides of blocks

met_arms_l : (list : Arms) (otherwise : Otherwise) (e : Env) (at : Entry) (cs cs' : Calls) → Related cs cs' → AreLasting Flow (met_arms list otherwise e at cs) (met_arms list otherwise e at cs')
unfolding met_arms
met_arms_l list otherwise e at cs cs' h = arms-r AreLasting lasting list _ at cs cs' e h λ last. behind_arms-r AreLasting lasting otherwise last cs cs' e h

members_l : (rest : Statements) (e : Env) (cs : Calls) (flow : Flow) → CallsLast cs → L (members_behind rest e cs flow)
unfolding members_behind
members_l rest e cs flow h = go_forward-r AreLasting lasting _ flow (λ at. items-r AreLasting lasting rest at cs cs e h) (items-r AreLasting lasting rest Front cs cs e h)

arm_l : (rest : Arms) (otherwise : Otherwise) (e : Env) (cs : Calls) (flow : Flow) → CallsLast cs → L (arm_behind rest otherwise e cs flow)
unfolding arm_behind
arm_l rest otherwise e cs flow h = go_forward-r AreLasting lasting _ flow (λ at. met_arms_l rest otherwise e at cs cs h) (give_l Normal)

inside_l : (initialisers : List Initialiser) (list : Statements) (at : Entry) (cs : Calls) (e : Env) → CallsLast cs → L (inside initialisers list at cs e)
unfolding inside
inside_l initialisers list at cs e h =
    then_l (initialise_all-r AreLasting lasting initialisers at cs cs e h) λ d.
    taking_up-r AreLasting lasting (labels_among list) (λ at' ds. items list at' ds e) at cs cs h λ at' ds ds' k. items-r AreLasting lasting list at' ds ds' e k

-- ---- what takes up gotos

once_l : (s : Statement) (e : Env) (at : Entry) (cs cs' : Calls) → Related cs cs' → AreLasting Flow (once_of s e at cs) (once_of s e at cs')
once_l (Block t first count initialisers list) e at cs cs' h = items-r AreLasting lasting list at cs cs' e h
once_l (If t list otherwise) e at cs cs' h = met_arms_l list otherwise e at cs cs' h
once_l (Label t labels body) e at cs cs' h = meaning-r AreLasting lasting body _ cs cs' e h
once_l _ e at cs cs' h = give_l Normal

taking_l : (s : Statement) (e : Env) (at : Entry) (cs : Calls) → CallsLast cs → L (taking_act s e at cs)
taking_l s e at cs h = taking_up-r AreLasting lasting (taken_in s) (once_of s e) at cs cs h λ at' ds ds' k. once_l s e at' ds ds' k

again_l : (s : Statement) (e : Env) (cs : Calls) (l : ℕ) → CallsLast cs → L (again_act s e cs l)
unfolding again_act
again_l s e [] l h = stop_l Bound
again_l s e (c ∷ cs) l h = taking_l s e (At_label l) cs h.1

-- ---- loops

parts_l : (s : Statement) (e : Env) → Parts AreLasting lasting (ahead_of s e) (body_of s e) (behind_of s e)
parts_l (While t c body) e = record {
  test = λ ds ds' k. condition-r AreLasting lasting c ds ds' e k;
  middle = λ at ds ds' k. meaning-r AreLasting lasting body at ds ds' e k;
  last = λ ds ds' k. always-r AreLasting lasting ds ds';
}
parts_l (Do t body c) e = record {
  test = λ ds ds' k. always-r AreLasting lasting ds ds';
  middle = λ at ds ds' k. meaning-r AreLasting lasting body at ds ds' e k;
  last = λ ds ds' k. condition-r AreLasting lasting c ds ds' e k;
}
parts_l (For t first c third body) e = record {
  test = λ ds ds' k. for_condition-r AreLasting lasting c ds ds' e k;
  middle = λ at ds ds' k. meaning-r AreLasting lasting body at ds ds' e k;
  last = λ ds ds' k. lasting.binds _ _ _ _ _ _ (drop_value-r AreLasting lasting third ds ds' e k) (λ d. give_l true);
}
parts_l _ e = record { test = λ ds ds' k. give_l false; middle = λ at ds ds' k. give_l Normal; last = λ ds ds' k. give_l false }

loop_l : (s : Statement) (e : Env) (cs : Calls) → CallsLast cs → L (loop_act s e cs)
loop_l s e cs h = loop-r AreLasting lasting (ahead_of s e) (body_of s e) (behind_of s e) (parts_l s e) cs cs h

top_l : (s : Statement) (e : Env) (cs : Calls) → CallsLast cs → L (top_act s e cs)
unfolding top_act
top_l s e [] h = stop_l Bound
top_l s e (c ∷ cs) h = loop_l s e cs h.1

turn_l : (s : Statement) (e : Env) (cs : Calls) (more : Bool) → CallsLast cs → L (turn_or_leave s e cs more)
unfolding turn_or_leave
turn_l s e cs more h =
    branch-r AreLasting lasting more (turn-r AreLasting lasting (ahead_of s e) (body_of s e) (behind_of s e) (parts_l s e) Front cs cs h (top_l s e cs h)) (give_l Normal)

top_or_l : (s : Statement) (e : Env) (cs : Calls) (more : Bool) → CallsLast cs → L (top_or_leave s e cs more)
unfolding top_or_leave
top_or_l s e cs more h = branch-r AreLasting lasting more (top_l s e cs h) (give_l Normal)

body_l : (s : Statement) (e : Env) (cs : Calls) (flow : Flow) → CallsLast cs → L (body_behind s e cs flow)
unfolding body_behind
body_l s e cs flow h = after_body-r AreLasting lasting flow (then_l ((parts_l s e).last cs cs h) λ more. top_or_l s e cs more h)

-- ---- behind a part

done_l : (done : Done) (s : Statement) (e : Env) (n : ℕ) (flow : Flow) → L (done_act done s e n flow)
done_l (D.Member i) s e n flow = members_l (members_from i (members_in s)) e _ flow (calls_l e.world n)
done_l (D.Arm i) s e n flow = arm_l (arms_from i (arms_in s)) (otherwise_in s) e _ flow (calls_l e.world n)
done_l D.Taking s e n flow = caught-r AreLasting lasting (taken_in s) flow λ l. again_l s e _ l (calls_l e.world n)
done_l D.Body s e n flow = body_l s e _ flow (calls_l e.world n)
done_l D.Switch s e n flow = after_switch-r AreLasting lasting flow

pub remainder_l : (r : Remainder) (e : Env) (n : ℕ) (flow : Flow) → L (remainder_act r e n flow)
remainder_l r e n flow = done_l r.done (view_stmt r.of.now) e n flow

-- ---- behind a value

arm_or_l : (body : Statement) (rest : Arms) (otherwise : Otherwise) (e : Env) (cs : Calls) (met : Bool) → CallsLast cs → L (arm_or_rest body rest otherwise e cs met)
unfolding arm_or_rest
arm_or_l body rest otherwise e cs met h =
    branch-r AreLasting lasting met (then_l (meaning-r AreLasting lasting body Front cs cs e h) λ flow. arm_l rest otherwise e cs flow h) (met_arms_l rest otherwise e Front cs cs h)

arm_tested_l : (list : Arms) (otherwise : Otherwise) (e : Env) (cs : Calls) (given : Option Value) → CallsLast cs → L (arm_tested list otherwise e cs given)
unfolding arm_tested
arm_tested_l NoArm otherwise e cs given h = give_l Normal
arm_tested_l (Arm t c body rest) otherwise e cs given h = then_l (tested_l e (token_of c) given) λ met. arm_or_l body rest otherwise e cs met h

switched_l : (s : Statement) (e : Env) (cs : Calls) (v : Value) → CallsLast cs → L (switched s e cs v)
unfolding switched
switched_l (Switch t a cases default body) e cs v h = switch_to-r AreLasting lasting (label_for cases default v) λ l. meaning-r AreLasting lasting body (At_label l) cs cs e h
switched_l _ e cs v h = give_l Normal

initialised_l : (list : List Initialiser) (members : Statements) (e : Env) (cs : Calls) (given : Option Value) → CallsLast cs → L (initialised list members e cs given)
unfolding initialised
initialised_l (ByValue k a ∷ rest) members e cs given h =
    then_l (used-r AreLasting lasting _ given) λ v. then_l (set_local-r AreLasting lasting _ k v e) λ d. inside_l rest members Front cs e h
initialised_l (ByBytes k hidden parts ∷ rest) members e cs given h = give_l Normal
initialised_l [] members e cs given h = give_l Normal

purpose_l : (purpose : Purpose) (s : Statement) (e : Env) (n : ℕ) (given : Option Value) → L (purpose_act purpose s e n given)
purpose_l U.Dropped s e n given = give_l Normal
purpose_l (U.Arm i) s e n given = arm_tested_l (arms_from i (arms_in s)) (otherwise_in s) e _ given (calls_l e.world n)
purpose_l U.First s e n given = loop_l s e _ (calls_l e.world n)
purpose_l (U.Ahead token) s e n given = then_l (tested_l e token given) λ more. turn_l s e _ more (calls_l e.world n)
purpose_l (U.Tail token) s e n given = then_l (tested_l e token given) λ more. top_or_l s e _ more (calls_l e.world n)
purpose_l U.Third s e n given = top_l s e _ (calls_l e.world n)
purpose_l (U.Switch token) s e n given = then_l (used-r AreLasting lasting _ given) λ v. switched_l s e _ v (calls_l e.world n)
purpose_l (U.Return token) s e n given = then_l (used-r AreLasting lasting _ given) λ v. give_l _
purpose_l (U.Initialise i) s e n given = initialised_l (drop i (initialisers_in s)) (members_in s) e _ given (calls_l e.world n)

pub use_l : (u : Use) (e : Env) (n : ℕ) (given : Option Value) → L (use_act u e n given)
use_l u e n given = purpose_l u.purpose (view_stmt u.of.now) e n given

-- ---- parts

part_l : (part : Part) (s : Statement) (at : Entry) (e : Env) (n : ℕ) → L (part_act part s at e n)
part_l P.Whole s at e n = meaning-r AreLasting lasting s at _ _ e (calls_l e.world n)
part_l (P.Locals i) s at e n =
    with_locals-r AreLasting lasting (count_in s - i) (first_in s + i) e λ inner. inside_l (initialisers_in s) (members_in s) at _ inner (calls_l e.world n)
part_l (P.Initialisers i) s at e n = inside_l (drop i (initialisers_in s)) (members_in s) at _ e (calls_l e.world n)
part_l P.Taking s at e n = taking_l s e at _ (calls_l e.world n)
part_l (P.Members i) s at e n = items-r AreLasting lasting (members_from i (members_in s)) at _ _ e (calls_l e.world n)
part_l (P.Arms i) s at e n = met_arms_l (arms_from i (arms_in s)) (otherwise_in s) e at _ _ (calls_l e.world n)
part_l P.Top s at e n = loop_l s e _ (calls_l e.world n)

pub doing_l : (d : Doing) (e : Env) (n : ℕ) → L (doing_act d e n)
doing_l d e n = part_l d.part (view_stmt d.of.now) (view_entry d.at) e n
