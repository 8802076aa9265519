-- What follows behind the first operand of a node, by its form; what follows behind its last operand asks the node itself.
use Rattle.std.proofs.Common.{ℕ, ◌≡◌, refl, sym, ap, subst, Option, Some, None, Result, Err, false}
use Rattle.pw_value.specs.declared.value.Value.{Value}
use Rattle.pw_value.specs.declared.value.Value.TheVariants as V
use Rattle.pw_types.specs.TypeTrees.{CType, QType, type_of}
use Rattle.pw_types.specs.declared.tree.BinaryOperator.{BinaryOperator}
use Rattle.pw_types.specs.declared.tree.LogicOperator.{LogicOperator}
use Rattle.pw_types.specs.TypedTrees.{Expression, Form, Node, Number, Str, Local, Global, Function, Unary, Binary, Logic, Cond, Comma, Assign, Compound, Step, Cast, Decay, Member, Deref, Address, Call, CallValue, type_at}
use Rattle.pw_cmean.specs.Acts.{Wrong, give, branch, need, wrong, ◌>>=◌}
use Rattle.pw_cmean.specs.Operators.{number_for}
use Rattle.pw_cmean.specs.Evaluation.{Env, site, used, old_value, decides}
use Rattle.pw_interp_state.specs.Shown.{Shown}
use Rattle.pw_interp_state.proofs.RunLaws.{stopped}
use Rattle.pw_interp_calls.specs.declared.ending.Ending.TheVariants as E
use Rattle.pw_interp_calls.specs.declared.ending.Stop.{Stop}
use Rattle.pw_interp_calls.specs.declared.ending.Stop.TheVariants as S
use Rattle.pw_interp_todo.specs.Asking.{answered, placed, answer_first}
use Rattle.pw_interp_todo.specs.Leading.{Continues}
use Rattle.pw_interp_todo.specs.declared.asked.Next.{Next}
use Rattle.pw_interp_todo.specs.Operands.{next_act, tested, right_behind, second_behind, assigned_behind, stored_behind, updated_behind, answer_behind, place_behind}
use Rattle.pw_interp_operands.specs.Groups.{has_place_behind}

module _ (t : ℕ) (ty : QType) (e : Env) (bound : ℕ) (given : Option Value) where
  pub binary_is : {f : Form} (op : BinaryOperator) (a b : Expression) → f ≡ Binary op a b
      → answer_behind (Node t ty f) given e bound
      ≡ (used (site e t) given >>= λ v. answered b e bound >>= λ right. right_behind (Node t ty f) v right e bound)
  unfolding answer_behind
  binary_is op a b is =
      subst (λ x. answer_behind (Node t ty x) given e bound ≡ (used (site e t) given >>= λ v. answered b e bound >>= λ right. right_behind (Node t ty x) v right e bound)) (sym is) refl

  pub logic_is : {f : Form} (op : LogicOperator) (a b : Expression) → f ≡ Logic op a b
      → answer_behind (Node t ty f) given e bound
      ≡ (tested e t given >>= λ first. branch (decides op first) (give (Some (V.Num (number_for first)))) (answered b e bound >>= λ second. second_behind (Node t ty f) second e bound))
  unfolding answer_behind
  logic_is op a b is =
      subst (λ x. answer_behind (Node t ty x) given e bound ≡ (tested e t given >>= λ first. branch (decides op first) (give (Some (V.Num (number_for first)))) (answered b e bound >>= λ second. second_behind (Node t ty x) second e bound))) (sym is) refl

  pub assign_is : {f : Form} (a b : Expression) → f ≡ Assign a b
      → answer_behind (Node t ty f) given e bound
      ≡ (need given >>= λ place. answered b e bound >>= λ right. assigned_behind (Node t ty f) place right e bound)
  unfolding answer_behind
  assign_is a b is =
      subst (λ x. answer_behind (Node t ty x) given e bound ≡ (need given >>= λ place. answered b e bound >>= λ right. assigned_behind (Node t ty x) place right e bound)) (sym is) refl

  pub compound_is : {f : Form} (op : BinaryOperator) (working : CType) (a b : Expression) → f ≡ Compound op working a b
      → answer_behind (Node t ty f) given e bound
      ≡ (need given >>= λ place. old_value e t (type_of (type_at a)) working place >>= λ old. answered b e bound >>= λ right. updated_behind (Node t ty f) place old right e bound)
  unfolding answer_behind
  compound_is op working a b is =
      subst (λ x. answer_behind (Node t ty x) given e bound ≡ (need given >>= λ place. old_value e t (type_of (type_at a)) working place >>= λ old. answered b e bound >>= λ right. updated_behind (Node t ty x) place old right e bound)) (sym is) refl

  pub store_is : {f : Form} (a b : Expression) → f ≡ Assign a b
      → place_behind (Node t ty f) given e bound
      ≡ (need given >>= λ place. answered b e bound >>= λ right. stored_behind (Node t ty f) place right e bound)
  unfolding place_behind
  store_is a b is =
      subst (λ x. place_behind (Node t ty x) given e bound ≡ (need given >>= λ place. answered b e bound >>= λ right. stored_behind (Node t ty x) place right e bound)) (sym is) refl

  -- ---- by the form of a node

  pub by_form : {f g : Form} {w u : Shown} {r : Result Next Stop} → f ≡ g
      → Continues (λ next. next_act next e bound) e.world (answer_behind (Node t ty g) given e bound) w r u → Continues (λ next. next_act next e bound) e.world (answer_behind (Node t ty f) given e bound) w r u
  by_form {w = w} {u = u} {r = r} is c = subst (λ x. Continues (λ next. next_act next e bound) e.world (answer_behind (Node t ty x) given e bound) w r u) (sym is) c

  pub place_by_form : {f g : Form} {w u : Shown} {r : Result Next Stop} → f ≡ g
      → Continues (λ next. next_act next e bound) e.world (place_behind (Node t ty g) given e bound) w r u → Continues (λ next. next_act next e bound) e.world (place_behind (Node t ty f) given e bound) w r u
  place_by_form {w = w} {u = u} {r = r} is c = subst (λ x. Continues (λ next. next_act next e bound) e.world (place_behind (Node t ty x) given e bound) w r u) (sym is) c

  -- the second operand of a comma
  pub comma_is : {f : Form} (a b : Expression) → f ≡ Comma a b → answer_behind (Node t ty f) given e bound ≡ answered b e bound
  unfolding answer_behind
  comma_is a b is = ap (λ x. answer_behind (Node t ty x) given e bound) is

  pub place_comma_is : {f : Form} (a b : Expression) → f ≡ Comma a b → place_behind (Node t ty f) given e bound ≡ placed b e bound
  unfolding place_behind
  place_comma_is a b is = ap (λ x. place_behind (Node t ty x) given e bound) is

  -- ---- behind nothing

  answer_wrong : (form : Form) → answer_first form ≡ None → answer_behind (Node t ty form) given e bound ≡ wrong
  unfolding answer_behind
  answer_wrong (Number n) is = refl
  answer_wrong (Str k) is = refl
  answer_wrong (Local k) is = refl
  answer_wrong (Global s) is = refl
  answer_wrong (Function s) is = refl
  answer_wrong (Unary op a) is = cc is
  answer_wrong (Binary op a b) is = cc is
  answer_wrong (Logic op a b) is = cc is
  answer_wrong (Cond c a b) is = cc is
  answer_wrong (Comma a b) is = cc is
  answer_wrong (Assign a b) is = cc is
  answer_wrong (Compound op working a b) is = cc is
  answer_wrong (Step op a) is = cc is
  answer_wrong (Cast a) is = cc is
  answer_wrong (Decay a) is = refl
  answer_wrong (Member a offset) is = cc is
  answer_wrong (Deref a) is = cc is
  answer_wrong (Address a) is = refl
  answer_wrong (Call s args) is = refl
  answer_wrong (CallValue a args) is = cc is

  place_wrong : (form : Form) → has_place_behind form ≡ false → place_behind (Node t ty form) given e bound ≡ wrong
  unfolding place_behind
  place_wrong (Number n) is = refl
  place_wrong (Str k) is = refl
  place_wrong (Local k) is = refl
  place_wrong (Global s) is = refl
  place_wrong (Function s) is = refl
  place_wrong (Unary op a) is = refl
  place_wrong (Binary op a b) is = refl
  place_wrong (Logic op a b) is = refl
  place_wrong (Cond c a b) is = cc is
  place_wrong (Comma a b) is = cc is
  place_wrong (Assign a b) is = cc is
  place_wrong (Compound op working a b) is = refl
  place_wrong (Step op a) is = refl
  place_wrong (Cast a) is = refl
  place_wrong (Decay a) is = refl
  place_wrong (Member a offset) is = cc is
  place_wrong (Deref a) is = cc is
  place_wrong (Address a) is = refl
  place_wrong (Call s args) is = refl
  place_wrong (CallValue a args) is = refl

  pub no_answer_behind : (form : Form) (w : Shown) → answer_first form ≡ None
      → Continues (λ next. next_act next e bound) e.world (answer_behind (Node t ty form) given e bound) w (Err (S.Ended E.Wrong)) w
  unfolding wrong
  no_answer_behind form w is =
      subst (λ act. Continues (λ next. next_act next e bound) e.world act w (Err (S.Ended E.Wrong)) w) (sym (answer_wrong form is)) (record { goes = tt; stopped = stopped e.world Wrong w })

  pub no_place_behind : (form : Form) (w : Shown) → has_place_behind form ≡ false
      → Continues (λ next. next_act next e bound) e.world (place_behind (Node t ty form) given e bound) w (Err (S.Ended E.Wrong)) w
  unfolding wrong
  no_place_behind form w is =
      subst (λ act. Continues (λ next. next_act next e bound) e.world act w (Err (S.Ended E.Wrong)) w) (sym (place_wrong form is)) (record { goes = tt; stopped = stopped e.world Wrong w })
