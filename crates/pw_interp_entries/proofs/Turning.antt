-- Loops, as they are met and behind their bodies.
use Rattle.std.proofs.Common.{ℕ, zero, suc, ◌≡◌, refl, ap, ◌∙◌, Bool, true, false, Option, Some, None, [], ◌∷◌}
use Rattle.std.specs.Borrow.{Bor}
use Rattle.pw_value.specs.declared.value.Value.{Value}
use Rattle.pw_types.specs.TypedTrees.{Expression, Statement, While, Do, For}
use Rattle.pw_typed.specs.Views.{view_expr, view_stmt}
use Rattle.pw_typed.specs.declared.tree.TExpr.{TExpr}
use Rattle.pw_typed.specs.declared.tree.TStmt.{TStmt}
use Rattle.pw_cmean.specs.Acts.{Act, State, Outcome, Gives, Ends, give, go_on, ◌>>=◌, ◌>>◌, branch}
use Rattle.pw_cmean.specs.Evaluation.{Env, Calls, answer_of}
use Rattle.pw_cmean.specs.Execution as execution
use Rattle.pw_cmean.specs.Execution.{Entry, Front, At_label, Flow, Normal, turn, meet_loop, always, condition, value_of, for_condition, drop_value, after_body, meaning}
use Rattle.pw_cmean.specs.SourceRun.{calls}
use Rattle.pw_interp_todo.specs.declared.flow.Entry as code
use Rattle.pw_interp_todo.specs.declared.statements.Part.TheVariants as P
use Rattle.pw_interp_todo.specs.Asking.{answered}
use Rattle.pw_interp_todo.specs.Loops.{ahead_of, body_of, loop_act, top_act, turn_or_leave, top_or_leave, body_behind}
use Rattle.pw_interp_todo.specs.Operands.{tested}
use Rattle.pw_interp_todo.specs.Parts.{back_act}
use Rattle.pw_interp_todo.proofs.Firsts.{tested_first}
use Rattle.pw_interp_entries.specs.Looping.{body_in, body_act, met_act, counting_act}

module _ (l : Statement) (e : Env) (n : ℕ) (s : State) where
  abbrev cs : Calls
  cs = calls e.world n

  -- the body, and what stands behind it
  turn_is : (at : Entry) → body_act l e at cs s ≡ (body_of l e at cs >>= body_behind l e cs) s
  unfolding turn body_behind top_or_leave
  turn_is at = refl

  body_there : (b : Statement) (at : Entry) → body_in l ≡ Some b → body_of l e at cs ≡ meaning b at cs e
  body_there b at is = by l is
    where
      by : (x : Statement) → body_in x ≡ Some b → body_of x e at cs ≡ meaning b at cs e
      by (While t c body) is = let same : body ≡ b = cc is in ap (λ y. meaning y at cs e) same
      by (Do t body c) is = let same : body ≡ b = cc is in ap (λ y. meaning y at cs e) same
      by (For t first c third body) is = let same : body ≡ b = cc is in ap (λ y. meaning y at cs e) same
      by s is = cc is

  pub turned_in : (b : TStmt) (at : Entry) → body_in l ≡ Some (view_stmt b) → body_act l e at cs s ≡ (meaning (view_stmt b) at cs e >>= body_behind l e cs) s
  turned_in b at is = turn_is at ∙ ap (λ act. (act >>= body_behind l e cs) s) (body_there (view_stmt b) at is)

  pub no_body : (at : Entry) → body_in l ≡ None → body_act l e at cs s ≡ give Normal s
  unfolding body_behind after_body top_or_leave branch ◌>>=◌ go_on give
  no_body at is = turn_is at ∙ by l is
    where
      by : (x : Statement) → body_in x ≡ None → (body_of x e at cs >>= body_behind x e cs) s ≡ give Normal s
      by (While t c body) is = cc is
      by (Do t body c) is = cc is
      by (For t first c third body) is = cc is
      by s is = refl

  -- from its top: what is tested there, and then the body
  pub loop_is : loop_act l e cs s ≡ (ahead_of l e cs >>= turn_or_leave l e cs) s
  unfolding execution.loop turn_or_leave top_act
  loop_is = by cs
    where
      by : (more : Calls) → loop_act l e more s ≡ (ahead_of l e more >>= turn_or_leave l e more) s
      by [] = refl
      by (c ∷ more) = refl

  -- where the condition holds, or there is none
  pub turned : turn_or_leave l e cs true s ≡ body_act l e Front cs s
  unfolding turn_or_leave branch
  turned = refl

  pub left : turn_or_leave l e cs false s ≡ give Normal s
  unfolding turn_or_leave branch
  left = refl

  pub back_or : top_or_leave l e cs true s ≡ top_act l e cs s
  unfolding top_or_leave branch
  back_or = refl

  pub left_or : top_or_leave l e cs false s ≡ give Normal s
  unfolding top_or_leave branch
  left_or = refl

  -- a condition, and then this
  pub condition_is : (c : TExpr) (f : Bool → Act Flow)
      → (condition (view_expr c) cs e >>= f) s ≡ (answered (view_expr c) e n >>= λ given. tested e c.token given >>= f) s
  unfolding condition value_of
  condition_is c f = tested_first e n c.token (view_expr c) f s

  -- no condition, and then this
  pub always_is : (f : Bool → Act Flow) → (always cs >>= f) s ≡ f true s
  unfolding always ◌>>=◌ go_on give
  always_is f = refl

  pub never_is : (f : Bool → Act Flow) → (give false >>= f) s ≡ f false s
  unfolding ◌>>=◌ go_on give
  never_is f = refl

  pub for_none : (f : Bool → Act Flow) → (for_condition None cs e >>= f) s ≡ f true s
  unfolding for_condition ◌>>=◌ go_on give
  for_none f = refl

  pub for_some : (c : TExpr) (f : Bool → Act Flow) → (for_condition (Some (view_expr c)) cs e >>= f) s ≡ (condition (view_expr c) cs e >>= f) s
  unfolding for_condition
  for_some c f = refl

  -- the third part of a `for`
  pub third_none : ((drop_value None cs e >> give true) >>= top_or_leave l e cs) s ≡ top_act l e cs s
  unfolding drop_value ◌>>=◌ go_on give top_or_leave branch
  third_none = refl

  pub third_some : (a : TExpr) → ((drop_value (Some (view_expr a)) cs e >> give true) >>= top_or_leave l e cs) s ≡ (answered (view_expr a) e n >>= λ given. top_act l e cs) s
  unfolding drop_value ◌>>=◌ go_on give top_or_leave branch
  third_some a = by (answer_of (view_expr a) cs e s)
    where
      by : (o : Outcome (Option Value)) → go_on (go_on (go_on o (λ dropped. give (tt {0}))) (λ x. give true)) (top_or_leave l e cs) ≡ go_on o (λ given. top_act l e cs)
      by (Gives v t) = refl
      by (Ends ending t) = refl

  -- as it is met
  pub met_front : met_act l e Front cs s ≡ loop_act l e cs s
  unfolding meet_loop
  met_front = refl

  pub met_label : (k : ℕ) → met_act l e (At_label k) cs s ≡ body_act l e (At_label k) cs s
  unfolding meet_loop top_act
  met_label k = by cs
    where
      by : (more : Calls) → met_act l e (At_label k) more s ≡ body_act l e (At_label k) more s
      by [] = refl
      by (c ∷ more) = refl

  -- the first part of a `for`
  pub counted_some : (a : TExpr) → counting_act (Some (view_expr a)) l e Front cs s ≡ (answered (view_expr a) e n >>= λ given. loop_act l e cs) s
  unfolding counting_act drop_value meet_loop ◌>>=◌ go_on give
  counted_some a = by (answer_of (view_expr a) cs e s)
    where
      by : (o : Outcome (Option Value)) → go_on (go_on o (λ dropped. give (tt {0}))) (λ x. met_act l e Front cs) ≡ go_on o (λ given. loop_act l e cs)
      by (Gives v t) = refl
      by (Ends ending t) = refl

  pub counted_none : counting_act None l e Front cs s ≡ met_act l e Front cs s
  unfolding counting_act drop_value ◌>>=◌ go_on give
  counted_none = refl

  pub counted_label : (first : Option Expression) (k : ℕ) → counting_act first l e (At_label k) cs s ≡ met_act l e (At_label k) cs s
  unfolding counting_act
  counted_label first k = refl

-- back at the top, by the bound
pub top_is : (of : Bor TStmt) (at : code.Entry) (e : Env) (n : ℕ) (s : State) → top_act (view_stmt of.now) e (calls e.world n) s ≡ back_act (record { part = P.Top; of = of; at = at }) e n s
unfolding top_act back_act calls
top_is of at e zero s = refl
top_is of at e (suc n) s = refl
