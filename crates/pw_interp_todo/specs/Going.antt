-- What follows in a statement behind a value or behind a part of it, and what is left of it (ISO C90 6.6).
use Rattle.std.specs.Prelude.{ℕ, ◌≡◌, Bool, Option, Some, List, [], ◌∷◌, ◌++◌, drop}
use Rattle.pw_value.specs.declared.value.Value.{Value}
use Rattle.pw_types.specs.TypedTrees.{Statement, Switch, Arms, NoArm, Arm, Otherwise, Statements, Initialiser, Value as ByValue, Bytes as ByBytes, token_of}
use Rattle.pw_types.specs.Labels.{labels_among, labels_of_arms, labels_behind}
use Rattle.pw_typed.specs.Views.{view_stmt}
use Rattle.pw_cmean.specs.Acts.{Act, State, ◌>>=◌, ◌>>◌, give, branch}
use Rattle.pw_cmean.specs.Evaluation.{Env, Calls, site, used}
use Rattle.pw_cmean.specs.Execution.{Front, At_label, Flow, Normal, Returns, go_forward, caught, set_local, label_for, after_switch, switch_to, meaning, items}
use Rattle.pw_cmean.specs.SourceRun.{calls}
use Rattle.pw_interp_todo.specs.declared.statements.Done.{Done}
use Rattle.pw_interp_todo.specs.declared.statements.Done.TheVariants as D
use Rattle.pw_interp_todo.specs.declared.statements.Going.{Going}
use Rattle.pw_interp_todo.specs.declared.statements.Going.TheVariants as G
use Rattle.pw_interp_todo.specs.declared.statements.Purpose.{Purpose}
use Rattle.pw_interp_todo.specs.declared.statements.Purpose.TheVariants as P
use Rattle.pw_interp_todo.specs.declared.statements.Remainder.{Remainder}
use Rattle.pw_interp_todo.specs.declared.statements.Turn.TheVariants as T
use Rattle.pw_interp_todo.specs.declared.statements.Use.{Use}
use Rattle.pw_interp_todo.specs.Asking.{asked_act}
use Rattle.pw_interp_todo.specs.Flows.{view_flow}
use Rattle.pw_interp_todo.specs.Loops.{loop_act, top_act, turn_or_leave, top_or_leave, body_behind}
use Rattle.pw_interp_todo.specs.Members.{initialisers_in, members_in, members_from, arms_in, arms_from, otherwise_in, taken_in}
use Rattle.pw_interp_todo.specs.Operands.{tested}
use Rattle.pw_interp_todo.specs.Parts.{met_arms, again_act, inside, doing_act, back_act}

-- ---- behind a part

-- behind a member of a list the others
unfoldable pub members_behind : Statements → Env → Calls → Flow → Act Flow
members_behind rest e cs flow = go_forward (labels_among rest) (λ at. items rest at cs e) (items rest Front cs e) flow

-- behind an arm that was met, where others stand behind it
unfoldable pub arm_behind : Arms → Otherwise → Env → Calls → Flow → Act Flow
arm_behind rest otherwise e cs flow = go_forward (labels_of_arms rest ++ labels_behind otherwise) (λ at. met_arms rest otherwise e at cs) (give Normal) flow

abbrev pub done_act : Done → Statement → Env → ℕ → Flow → Act Flow
done_act (D.Member i) s e n = members_behind (members_from i (members_in s)) e (calls e.world n)
done_act (D.Arm i) s e n = arm_behind (arms_from i (arms_in s)) (otherwise_in s) e (calls e.world n)
done_act D.Taking s e n = caught (taken_in s) (again_act s e (calls e.world n))
done_act D.Body s e n = body_behind s e (calls e.world n)
done_act D.Switch s e n = after_switch

abbrev pub remainder_act : Remainder → Env → ℕ → Flow → Act Flow
remainder_act r e n = done_act r.done (view_stmt r.of.now) e n

-- ---- behind a value

-- where the condition of an arm says so, its statement, else the arms behind it
unfoldable pub arm_or_rest : Statement → Arms → Otherwise → Env → Calls → Bool → Act Flow
arm_or_rest body rest otherwise e cs met = branch met (meaning body Front cs e >>= arm_behind rest otherwise e cs) (met_arms rest otherwise e Front cs)

-- the condition of the first of these arms gave this
unfoldable pub arm_tested : Arms → Otherwise → Env → Calls → Option Value → Act Flow
arm_tested NoArm otherwise e cs given = give Normal
arm_tested (Arm t c body rest) otherwise e cs given = tested e (token_of c) given >>= arm_or_rest body rest otherwise e cs

-- the value of a switch
unfoldable pub switched : Statement → Env → Calls → Value → Act Flow
switched (Switch t a cases default body) e cs v = switch_to (label_for cases default v) (λ l. meaning body (At_label l) cs e)
switched _ e cs v = give Normal

-- the first of these initialisers gave this
unfoldable pub initialised : List Initialiser → Statements → Env → Calls → Option Value → Act Flow
initialised (ByValue k a ∷ rest) list e cs given = do
  v ← used (site e (token_of a)) given
  set_local (site e (token_of a)) k v e
  inside rest list Front cs e
initialised (ByBytes k hidden parts ∷ rest) list e cs given = give Normal
initialised [] list e cs given = give Normal

abbrev pub purpose_act : Purpose → Statement → Env → ℕ → Option Value → Act Flow
purpose_act P.Dropped s e n given = give Normal
purpose_act (P.Arm i) s e n given = arm_tested (arms_from i (arms_in s)) (otherwise_in s) e (calls e.world n) given
purpose_act P.First s e n given = loop_act s e (calls e.world n)
purpose_act (P.Ahead token) s e n given = tested e token given >>= turn_or_leave s e (calls e.world n)
purpose_act (P.Tail token) s e n given = tested e token given >>= top_or_leave s e (calls e.world n)
purpose_act P.Third s e n given = top_act s e (calls e.world n)
purpose_act (P.Switch token) s e n given = used (site e token) given >>= switched s e (calls e.world n)
purpose_act (P.Return token) s e n given = used (site e token) given >>= λ v. give (Returns (Some v))
purpose_act (P.Initialise i) s e n given = initialised (drop i (initialisers_in s)) (members_in s) e (calls e.world n) given

abbrev pub use_act : Use → Env → ℕ → Option Value → Act Flow
use_act u e n given = purpose_act u.purpose (view_stmt u.of.now) e n given

-- ---- what is left

abbrev pub going_act : Going → Env → ℕ → Act Flow
going_act (G.Left flow) e n = give (view_flow flow)
going_act (G.On T.Here what) e n = doing_act what e n
going_act (G.On T.Back what) e n = back_act what e n
going_act (G.Then what rest) e n = doing_act what e n >>= remainder_act rest e n
going_act (G.Ask asked use_of) e n = asked_act asked e n >>= use_act use_of e n

-- what is left of an act, wherever it stands and whatever the bound
abbrev pub Leaves : (Env → ℕ → Act Flow) → Going → Type 0
Leaves act going = (e : Env) (n : ℕ) (s : State) → act e n s ≡ going_act going e n s
