-- The list of what is left to do: what goes on it is done behind what comes first, and its last is done first.
use Rattle.std.proofs.Common.{ℕ, ◌+◌, ◌≡◌, refl, sym, ap, subst, add-one, arith, ◌∙◌, List, [], ◌∷◌, ◌++◌, length, Result, Err}
use Rattle.std.specs.Borrow.{Bor}
use Rattle.pw_value.specs.declared.value.Value.{Value}
use Rattle.pw_typed.specs.declared.tree.TExpr.{TExpr}
use Rattle.pw_typed.specs.Views.{view_expr, view_exprs}
use Rattle.pw_types.specs.TypedTrees.{OneExpression}
use Rattle.pw_cmean.specs.Worlds.{World}
use Rattle.pw_cmean.specs.Acts.{Act, State, Bound, give, stop, ◌>>=◌}
use Rattle.pw_cmean.specs.Evaluation.{Env, site, used, answer_of, values_of}
use Rattle.pw_cmean.specs.Execution.{Flow}
use Rattle.pw_cmean.specs.SourceRun.{calls}
use Rattle.pw_interp_todo.specs.declared.asked.Asked.{Asked}
use Rattle.pw_interp_todo.specs.declared.asked.Callee.{Callee}
use Rattle.pw_interp_todo.specs.declared.asked.Operand.{Operand}
use Rattle.pw_interp_todo.specs.declared.statements.Doing.{Doing}
use Rattle.pw_interp_todo.specs.declared.statements.Remainder.{Remainder}
use Rattle.pw_interp_todo.specs.declared.statements.Use.{Use}
use Rattle.pw_interp_todo.specs.declared.todo.Todo.{Todo}
use Rattle.pw_interp_todo.specs.declared.todo.Todo.TheVariants as T
use Rattle.pw_interp_calls.specs.declared.ending.Ending.TheVariants as E
use Rattle.pw_interp_calls.specs.declared.ending.Stop.{Stop}
use Rattle.pw_interp_calls.specs.declared.ending.Stop.TheVariants as S
use Rattle.pw_interp_state.specs.Shown.{Shown}
use Rattle.pw_interp_state.specs.Runs.{Runs}
use Rattle.pw_interp_state.proofs.RunLaws.{ends, stopped}
use Rattle.pw_interp_todo.specs.Asking.{asked_act, answered}
use Rattle.pw_interp_todo.specs.Leading.{Continues}
use Rattle.pw_interp_todo.specs.Going.{remainder_act, use_act}
use Rattle.pw_interp_todo.specs.Operands.{behind, call_behind}
use Rattle.pw_interp_todo.specs.Parts.{back_act, doing_act}
use Rattle.pw_interp_todo.specs.Resuming.{Rest, Told, Gave, Flowed, Listed, after, resume, on_value, on_flow, on_list}
use Rattle.pw_interp_todo.proofs.ActLaws.{grouped, follow_same, given_on}
use Rattle.pw_interp_todo.proofs.Resumes.{resume_last}

-- an empty list
pub nothing_in : {A : Type 0} (xs : List A) → length xs ≡ 0 → xs ≡ []
nothing_in [] none = refl
nothing_in (x ∷ xs) none = absurd (omega (arith, none))

module _ (todo : List Todo) (rest : Rest) (e : Env) (n : ℕ) where
  -- with one more the list does that first
  abbrev with_one : Todo → Rest
  with_one k = resume (todo ++ k ∷ []) rest

  last_is : (k : Todo) (told : Told) (s : State) → after k (resume todo rest) e n told s ≡ with_one k e n told s
  last_is k told s = ap (λ r. r e n told s) (sym (resume_last todo k rest))

  pub behind_operand : (asked : Asked) (operand : Operand) (s : State)
      → ((asked_act asked e n >>= λ given. behind operand given e n) >>= λ r. resume todo rest e n (Gave r)) s ≡ (asked_act asked e n >>= λ r. with_one (T.Operand operand) e n (Gave r)) s
  unfolding after on_value
  behind_operand asked operand s =
      grouped (asked_act asked e n) (λ given. behind operand given e n) (λ r. resume todo rest e n (Gave r)) s
      ∙ follow_same (asked_act asked e n) _ _ s (λ given u. last_is (T.Operand operand) (Gave given) u)

  pub behind_arguments : (act : Act (List Value)) (callee : Callee) (s : State)
      → ((act >>= λ vs. call_behind callee vs e n) >>= λ r. resume todo rest e n (Gave r)) s ≡ (act >>= λ vs. with_one (T.Call callee) e n (Listed vs)) s
  unfolding after on_list
  behind_arguments act callee s =
      grouped act (λ vs. call_behind callee vs e n) (λ r. resume todo rest e n (Gave r)) s
      ∙ follow_same act _ _ s (λ vs u. last_is (T.Call callee) (Listed vs) u)

  pub behind_part : (what : Doing) (left : Remainder) (bound : ℕ) (s : State)
      → ((doing_act what e n >>= remainder_act left e n) >>= λ flow. resume todo rest e bound (Flowed flow)) s
      ≡ (doing_act what e n >>= λ flow. with_one (T.Flow left bound) e n (Flowed flow)) s
  unfolding after on_flow
  behind_part what left bound s =
      grouped (doing_act what e n) (remainder_act left e n) (λ flow. resume todo rest e bound (Flowed flow)) s
      ∙ follow_same (doing_act what e n) _ _ s (λ flow u. last_is (T.Flow left bound) (Flowed flow) u)

  pub behind_value : (asked : Asked) (given : Use) (bound : ℕ) (s : State)
      → ((asked_act asked e n >>= use_act given e n) >>= λ flow. resume todo rest e bound (Flowed flow)) s
      ≡ (asked_act asked e n >>= λ r. with_one (T.Value given bound) e n (Gave r)) s
  unfolding after on_value
  behind_value asked given bound s =
      grouped (asked_act asked e n) (use_act given e n) (λ flow. resume todo rest e bound (Flowed flow)) s
      ∙ follow_same (asked_act asked e n) _ _ s (λ r u. last_is (T.Value given bound) (Gave r) u)

  pub behind_first : (first : TExpr) (args : Bor (List TExpr)) (token : ℕ) (s : State)
      → (values_of (OneExpression (view_expr first) (view_exprs args.now)) token (calls e.world n) e >>= λ vs. resume todo rest e n (Listed vs)) s
      ≡ (answered (view_expr first) e n >>= λ r. with_one (T.Argument args token) e n (Gave r)) s
  unfolding answer_of after on_value
  behind_first first args token s =
      let cs = calls e.world n in
      let others = values_of (view_exprs args.now) token cs e in
      let K : List Value → Act (Unit {0}) = λ vs. resume todo rest e n (Listed vs) in
      grouped (answer_of (view_expr first) cs e >>= used (site e token)) (λ v. others >>= λ vs. give (v ∷ vs)) K s
      ∙ grouped (answer_of (view_expr first) cs e) (used (site e token)) (λ v. (others >>= λ vs. give (v ∷ vs)) >>= K) s
      ∙ follow_same (answer_of (view_expr first) cs e) _ _ s (λ given u.
      follow_same (used (site e token) given) _ (λ v. others >>= λ vs. K (v ∷ vs)) u (λ v x.
      grouped others (λ vs. give (v ∷ vs)) K x ∙ follow_same others _ (λ vs. K (v ∷ vs)) x (λ vs y. given_on (v ∷ vs) K y))
      ∙ last_is (T.Argument args token) (Gave given) u)

  -- a value that is held
  pub held_is : (v : Value) (vs : List Value) → with_one (T.Held v) e n (Listed vs) ≡ resume todo rest e n (Listed (v ∷ vs))
  unfolding after on_list
  held_is v vs = ap (λ r. r e n (Listed vs)) (resume_last todo (T.Held v) rest)

-- the last of the list
pub popped_is : (todo : List Todo) (first : Todo) (items : List Todo) (e : Env) (n : ℕ) (told : Told) → items ≡ todo ++ first ∷ [] → (rest : Rest) → resume items rest e n told ≡ after first (resume todo rest) e n told
popped_is todo first items e n told is rest = ap (λ all. resume all rest e n told) is ∙ ap (λ (r : Rest). r e n told) (resume_last todo first rest)

-- ---- with a bound that is one smaller

pub back_more : (what : Doing) (e : Env) (n m : ℕ) → n ≡ m + 1 → back_act what e n ≡ doing_act what e m
unfolding back_act
back_more what e n m is = ap (back_act what e) (is ∙ add-one m)

pub back_none : (world : World) (w : Shown) (what : Doing) (e : Env) (n : ℕ) (next : Flow → Act (Unit {0})) → n ≡ 0 → Runs world (back_act what e n >>= next) w (Err Bound) w
unfolding back_act
back_none world w what e n next none = subst (λ k. Runs world (back_act what e k >>= next) w (Err Bound) w) (sym none) (ends world (stop {A = Flow} Bound) next w w Bound (stopped world Bound w))

pub back_stopped : {B : Type 0} {left : B → Act (Unit {0})} {world : World} {r : Result B Stop} (w : Shown) (what : Doing) (e : Env) (n : ℕ) (s : Stop) (next : Flow → Act (Unit {0}))
    → n ≡ 0 → s ≡ S.Ended E.Bound → r ≡ Err s → Continues left world (back_act what e n >>= next) w r w
back_stopped {left = left} {world = world} w what e n s next none is answer =
    subst (λ x. Continues left world (back_act what e n >>= next) w x w) (sym (answer ∙ ap Err is)) (record { goes = tt; stopped = back_none world w what e n next none })
