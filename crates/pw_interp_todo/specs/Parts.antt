-- Parts of statements as acts (ISO C90 6.6).
use Rattle.std.specs.Prelude.{ℕ, zero, suc, ◌+◌, ◌-◌, List, [], ◌∷◌, drop}
use Rattle.pw_types.specs.TypedTrees.{Statement, Block, If, Label, Arms, Otherwise, Statements, Initialiser}
use Rattle.pw_types.specs.Labels.{labels_among, labels_behind}
use Rattle.pw_typed.specs.Views.{view_stmt}
use Rattle.pw_cmean.specs.Acts.{Act, Bound, ◌>>◌, give, stop}
use Rattle.pw_cmean.specs.Evaluation.{Env, Calls}
use Rattle.pw_cmean.specs.Execution.{Entry, At_label, Flow, Normal, taking_up, with_locals, initialise_all, behind_labels, meaning, items, arms, behind_arms}
use Rattle.pw_cmean.specs.SourceRun.{calls}
use Rattle.pw_interp_todo.specs.declared.statements.Doing.{Doing}
use Rattle.pw_interp_todo.specs.declared.statements.Part.{Part}
use Rattle.pw_interp_todo.specs.declared.statements.Part.TheVariants as P
use Rattle.pw_interp_todo.specs.Flows.{view_entry}
use Rattle.pw_interp_todo.specs.Loops.{loop_act}
use Rattle.pw_interp_todo.specs.Members.{first_in, count_in, initialisers_in, members_in, members_from, arms_in, arms_from, otherwise_in, taken_in}

-- the arms of an `if` and what stands behind its last `else`
unfoldable pub met_arms : Arms → Otherwise → Env → Entry → Calls → Act Flow
met_arms list otherwise e at cs = arms list (labels_behind otherwise) (λ last. behind_arms otherwise last cs e) at cs e

-- what takes up gotos, once
abbrev pub once_of : Statement → Env → Entry → Calls → Act Flow
once_of (Block t first count initialisers list) e at cs = items list at cs e
once_of (If t list otherwise) e at cs = met_arms list otherwise e at cs
once_of (Label t labels body) e at cs = meaning body (behind_labels labels at) cs e
once_of _ e at cs = give Normal

abbrev pub taking_act : Statement → Env → Entry → Calls → Act Flow
taking_act s e at cs = taking_up (taken_in s) (once_of s e) at cs

-- again from a label, with a bound that is one smaller
unfoldable pub again_act : Statement → Env → Calls → ℕ → Act Flow
again_act s e [] l = stop Bound
again_act s e (c ∷ cs) l = taking_act s e (At_label l) cs

-- the inside of a block, whose locals are in scope
unfoldable pub inside : List Initialiser → Statements → Entry → Calls → Env → Act Flow
inside initialisers list at cs e = initialise_all initialisers at cs e >> taking_up (labels_among list) (λ at' cs'. items list at' cs' e) at cs

abbrev pub part_act : Part → Statement → Entry → Env → ℕ → Act Flow
part_act P.Whole s at e n = meaning s at (calls e.world n) e
part_act (P.Locals i) s at e n = with_locals (count_in s - i) (first_in s + i) (inside (initialisers_in s) (members_in s) at (calls e.world n)) e
part_act (P.Initialisers i) s at e n = inside (drop i (initialisers_in s)) (members_in s) at (calls e.world n) e
part_act P.Taking s at e n = taking_act s e at (calls e.world n)
part_act (P.Members i) s at e n = items (members_from i (members_in s)) at (calls e.world n) e
part_act (P.Arms i) s at e n = met_arms (arms_from i (arms_in s)) (otherwise_in s) e at (calls e.world n)
part_act P.Top s at e n = loop_act s e (calls e.world n)

abbrev pub doing_act : Doing → Env → ℕ → Act Flow
doing_act d e n = part_act d.part (view_stmt d.of.now) (view_entry d.at) e n

-- with a bound that is one smaller
unfoldable pub back_act : Doing → Env → ℕ → Act Flow
back_act d e zero = stop Bound
back_act d e (suc n) = doing_act d e n
