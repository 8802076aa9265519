-- Expressions: by their phrases.
use Rattle.std.specs.Prelude.{List}
use Rattle.pw_tree.specs.declared.operator.Access.TheVariants.{Dot, Arrow}
use Rattle.pw_tree.specs.declared.operator.StepOperator.TheVariants as J
use Rattle.pw_tree.specs.declared.operator.UnaryOperator.TheVariants as P
use Rattle.pw_tree.specs.Trees.{Expr, Postfixes, Arguments, Operations}
use Rattle.pw_tree.specs.Trees as S
use Rattle.pw_types.specs.declared.tree.StepOperator.TheVariants as Q
use Rattle.pw_types.specs.TypedTrees.{Expression}
use Rattle.pw_check_walk.specs.Walks.{Walk, bind}
use Rattle.pw_check_rules.specs.Operands.{Operand}
use Rattle.pw_check_rules.specs.Operators.{value_rule}
use Rattle.pw_check_rules.specs.Phrases.{expr_rule, postfixes_rule, arguments_rule, operations_rule}
use Rattle.pw_check_rules.specs.States.{State, Rule, uncounted}
use Rattle.pw_law_checked.proofs.Walking.{Post, post_bind, after_any}
use Rattle.pw_law_checked.specs.Designators.{NamesObjects}
use Rattle.pw_law_checked.proofs.DesignatorNodes.{AreNamed, Names, NamesIn, value_named, identifier_named, number_named, character_named, string_named, sign_named, deref_named, address_named, step_named, size_named, type_size_named, cast_named, operation_named, conditional_named, assignment_named, index_named, call_named, dot_named, arrow_named}

abbrev AreNamedIn : List Expression × State → Type 0
AreNamedIn r = AreNamed r.0

-- what is read in an operand of `sizeof`
uncounted_named : (s : State) (inside : Rule Operand) → ((t : State) → Post (inside t) Names) → Post (uncounted inside s) Names
unfolding uncounted bind
uncounted_named s inside h = post_bind (inside _) _ Names Names (h _) (λ r g. g)

-- an operand, and then its value
valued : {B : Type 0} (w : Walk (Operand × State)) (next : Expression × State → Walk (B × State)) (P : B × State → Type 0) → Post w Names
    → ((r : Expression × State) → NamesObjects r.0 → Post (next r) P) → Post (bind w (λ t. bind (value_rule t.0 t.1) next)) P
valued w next P h k = post_bind w (λ t. bind (value_rule t.0 t.1) next) Names P h (λ r g. post_bind (value_rule r.0 r.1) next NamesIn P (value_named r.0 r.1 g) (λ u f. k u f))

mutual
  unfolding expr_rule

  pub expr_named : (e : Expr) (s : State) → Post (expr_rule e s) Names
  expr_named (S.Identifier w) s = identifier_named w s
  expr_named (S.Number w) s = number_named w s
  expr_named (S.Floating w) s = tt
  expr_named (S.Character w) s = character_named w s
  expr_named (S.Wide w) s = tt
  expr_named (S.Strings ws) s = string_named ws s
  expr_named (S.Paren t e) s = expr_named e s
  expr_named (S.Postfix e rest) s = post_bind _ _ Names Names (expr_named e s) (λ r g. postfixes_named rest r.0 r.1 g)
  expr_named (S.Unary t P.Sizeof e) s = after_any _ _ Names (λ r. size_named t r.0 r.1)
  expr_named (S.Unary t P.Address e) s = post_bind _ _ Names Names (expr_named e s) (λ r g. address_named t r.0 r.1 g)
  expr_named (S.Unary t P.Increment e) s = post_bind _ _ Names Names (expr_named e s) (λ r g. step_named t Q.IncrementBefore r.0 r.1 g)
  expr_named (S.Unary t P.Decrement e) s = post_bind _ _ Names Names (expr_named e s) (λ r g. step_named t Q.DecrementBefore r.0 r.1 g)
  expr_named (S.Unary t P.Dereference e) s = valued _ _ Names (expr_named e s) (λ r g. deref_named t r.0 r.1 g)
  expr_named (S.Unary t P.Plus e) s = valued _ _ Names (expr_named e s) (λ r g. sign_named t P.Plus r.0 r.1 g)
  expr_named (S.Unary t P.Minus e) s = valued _ _ Names (expr_named e s) (λ r g. sign_named t P.Minus r.0 r.1 g)
  expr_named (S.Unary t P.Complement e) s = valued _ _ Names (expr_named e s) (λ r g. sign_named t P.Complement r.0 r.1 g)
  expr_named (S.Unary t P.Not e) s = valued _ _ Names (expr_named e s) (λ r g. sign_named t P.Not r.0 r.1 g)
  expr_named (S.SizeofType t specifiers d) s =
      uncounted_named s _ (λ v.
      after_any _ _ Names (λ r1. after_any _ _ Names (λ r2. after_any _ _ Names (λ r3. after_any _ _ Names (λ r4. type_size_named t _ r4.0 r4.1)))))
  expr_named (S.Cast t specifiers d e) s =
      after_any _ _ Names (λ r1. after_any _ _ Names (λ r2. after_any _ _ Names (λ r3. after_any _ _ Names (λ r4.
      valued _ _ Names (expr_named e r4.1) (λ r5 g. cast_named t r4.0 r5.0 r5.1 g)))))
  expr_named (S.Chain e rest) s = post_bind _ _ Names Names (expr_named e s) (λ r g. operations_named rest r.0 r.1 g)
  expr_named (S.Conditional t c a b) s =
      valued _ _ Names (expr_named c s) (λ r1 g1.
      valued _ _ Names (expr_named a r1.1) (λ r2 g2.
      valued _ _ Names (expr_named b r2.1) (λ r3 g3. conditional_named t r1.0 r2.0 r3.0 r3.1 g1 g2 g3)))
  expr_named (S.Assign t op a b) s =
      post_bind _ _ Names Names (expr_named a s) (λ r1 g1.
      valued _ _ Names (expr_named b r1.1) (λ r2 g2. assignment_named t op r1.0 r2.0 r2.1 g1 g2))

  postfixes_named : (rest : Postfixes) (a : Operand) (s : State) → NamesObjects a.node → Post (postfixes_rule rest a s) Names
  postfixes_named S.NoPostfix a s h = h
  postfixes_named (S.Index t e rest) a s h =
      post_bind _ _ NamesIn Names (value_named a s h) (λ r1 g1.
      valued _ _ Names (expr_named e r1.1) (λ r2 g2.
      post_bind _ _ Names Names (index_named t r1.0 r2.0 r2.1 g1 g2) (λ r3 g3. postfixes_named rest r3.0 r3.1 g3)))
  postfixes_named (S.Call t args rest) a s h =
      post_bind _ _ NamesIn Names (value_named a s h) (λ r1 g1.
      post_bind _ _ AreNamedIn Names (arguments_named args r1.1) (λ r2 g2.
      post_bind _ _ Names Names (call_named t r1.0 r2.0 r2.1 g1 g2) (λ r3 g3. postfixes_named rest r3.0 r3.1 g3)))
  postfixes_named (S.Select t Dot w rest) a s h = post_bind _ _ Names Names (dot_named t w a s h) (λ r g. postfixes_named rest r.0 r.1 g)
  postfixes_named (S.Select t Arrow w rest) a s h =
      post_bind _ _ NamesIn Names (value_named a s h) (λ r1 g1.
      post_bind _ _ Names Names (arrow_named t w r1.0 r1.1 g1) (λ r2 g2. postfixes_named rest r2.0 r2.1 g2))
  postfixes_named (S.Step t J.Increment rest) a s h = post_bind _ _ Names Names (step_named t Q.IncrementBehind a s h) (λ r g. postfixes_named rest r.0 r.1 g)
  postfixes_named (S.Step t J.Decrement rest) a s h = post_bind _ _ Names Names (step_named t Q.DecrementBehind a s h) (λ r g. postfixes_named rest r.0 r.1 g)

  arguments_named : (args : Arguments) (s : State) → Post (arguments_rule args s) AreNamedIn
  arguments_named S.NoArgument s = tt
  arguments_named (S.Argument e rest) s =
      valued _ _ AreNamedIn (expr_named e s) (λ r1 g1.
      post_bind _ _ AreNamedIn AreNamedIn (arguments_named rest r1.1) (λ r2 g2. (g1, g2)))

  operations_named : (rest : Operations) (a : Operand) (s : State) → NamesObjects a.node → Post (operations_rule rest a s) Names
  operations_named S.NoOperation a s h = h
  operations_named (S.Operation t op e rest) a s h =
      post_bind _ _ NamesIn Names (value_named a s h) (λ r1 g1.
      valued _ _ Names (expr_named e r1.1) (λ r2 g2.
      post_bind _ _ Names Names (operation_named t op r1.0 r2.0 r2.1 g1 g2) (λ r3 g3. operations_named rest r3.0 r3.1 g3)))
