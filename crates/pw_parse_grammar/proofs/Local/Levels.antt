-- Expressions from unary ones on in two texts that are one up to a place (6.3.3 to 6.3.17).
use Rattle.std.proofs.Common.{ℕ, zero, suc, ◌+◌, List, ◌∷◌, length, Option, Some, None, arith}
use Rattle.pw_tree.specs.Levels.{level}
use Rattle.pw_tree.specs.Symbols.{Symbol, Reserved, Sign}
use Rattle.pw_tree.specs.Trees.{Expr, NoOperation}
use Rattle.pw_tree.specs.declared.operator.AssignOperator.{AssignOperator}
use Rattle.pw_tree.specs.declared.operator.BinaryOperator.{BinaryOperator}
use Rattle.pw_tree.specs.declared.operator.UnaryOperator.{UnaryOperator}
use Rattle.pw_token.specs.declared.symbol.Keyword.TheVariants as k
use Rattle.pw_token.specs.declared.symbol.Mark.TheVariants as m
use Rattle.pw_parse_grammar.specs.Expressions.{operated, size, operated_or_postfix, unary_by, unary_expr, cast_to, cast_expr, operation_by, operation, operations, conditional_behind, condition_of, assigned, assignment_by, assignment_to, goes_on, above_cast, expr_of}
use Rattle.pw_parse_grammar.specs.Input.{Binding, ahead, step, sees}
use Rattle.pw_parse_grammar.specs.Parts.{Parts}
use Rattle.pw_parse_grammar.specs.Tests.{operator_at, assigns, prefix_operator}
use Rattle.pw_parse_grammar.proofs.Progress.Base.{forward-rules}
use Rattle.pw_parse_grammar.proofs.Progress.Expressions.{enclosed_type_name-left, operated-left, size-left, unary_expr-left, cast_to-left, operation-left, conditional_behind-left, assigned-left, assignment_to-left, goes_on-left}
use Rattle.pw_parse_grammar.proofs.Local.Base.{input, Near, gone, more, Agree, passed, answers, fault-at, Local, local-rules, agree-bind, agree-higher, agree-parser-if, asked, sees-steady}
use Rattle.pw_parse_grammar.proofs.Local.Lists.{item_bound, while-local}
use Rattle.pw_parse_grammar.proofs.Local.Tests.{asked-type_name}
use Rattle.pw_parse_grammar.proofs.Local.Parts.{LocalParts, narrow, expr-at, paren-at}
use Rattle.pw_parse_grammar.proofs.Local.Opens.{enclosed-paren, cast_to-paren, unary-paren}
use Rattle.pw_parse_grammar.proofs.Local.Expressions.{enclosed_type_name-strict, enclosed_type_name-local, postfix_expr-local}

module _ (r w : List (Option Symbol)) (d : ℕ) (parts parts' : Parts) (g : LocalParts r w d parts parts') where
  operated-strict : (op : UnaryOperator) → Local r w (suc d) (λ _. d) (operated parts op) (operated parts' op)
  unfolding operated step
  operated-strict op names n t t' gone = passed (operated-left parts g.left op (length r) (input names r n) (omega arith))
  operated-strict op names n t t' (more s h) = search (local-rules, agree-bind r w d, expr-at g, g.left.expr)

  size-strict : Local r w (suc d) (λ _. d) (size parts) (size parts')
  unfolding size step
  size-strict names n t t' gone = passed (size-left parts g.left (length r) (input names r n) (omega arith))
  size-strict names n t t' (more s h) = asked-type_name r w d _ _ _ _ names (n + 1) _ _ h
      (search (forward-rules, enclosed-paren parts g.left))
      (search (forward-rules, paren-at g))
      (search (forward-rules, g.left.expr, enclosed_type_name-left parts g.left))
      (search (local-rules, agree-bind r w d, enclosed_type_name-local r w d parts parts' g))
      (search (local-rules, agree-bind r w d, expr-at g))

  operated_or_postfix-local : (op : Option UnaryOperator) → Local r w (suc d) (λ _. suc d) (operated_or_postfix parts op) (operated_or_postfix parts' op)
  unfolding operated_or_postfix
  operated_or_postfix-local (Some op) names n t t' h = agree-higher (operated-strict op names n t t' h)
  operated_or_postfix-local None names n t t' h = postfix_expr-local r w d parts parts' g names n t t' h

  unary-by-local : (s : Option Symbol) → Local r w (suc d) (λ _. suc d) (unary_by parts s) (unary_by parts' s)
  unary-by-local (Some (Sign mark)) names n t t' h = operated_or_postfix-local (prefix_operator mark) names n t t' h
  unary-by-local (Some (Reserved k.Sizeof)) names n t t' h = agree-higher (size-strict names n t t' h)
  unary-by-local None names n t t' h = postfix_expr-local r w d parts parts' g names n t t' h
  unary-by-local (Some _) names n t t' h = postfix_expr-local r w d parts parts' g names n t t' h

  unary_expr-local : Local r w (suc d) (λ _. suc d) (unary_expr parts) (unary_expr parts')
  unfolding unary_expr ahead
  unary_expr-local names n t t' gone = passed (unary_expr-left parts g.left (length r) (input names r n) (omega arith))
  unary_expr-local names n t t' (more s h) = unary-by-local s names n _ _ (more s h)

  cast_to-strict : Local r w (suc d) (λ _. d) (cast_to parts) (cast_to parts')
  unfolding cast_to
  cast_to-strict names n t t' h = agree-bind r w d _ (enclosed_type_name-strict r w d parts parts' g names n t t' h) (λ v names n t t' h. search (local-rules, agree-bind r w d, expr-at g)) (λ v n i h. search (forward-rules, g.left.expr))

  cast_expr-local : Local r w (suc d) (λ _. suc d) (cast_expr parts) (cast_expr parts')
  unfolding cast_expr
  cast_expr-local names n t t' h = asked-type_name r w (suc d) _ _ _ _ names n t t' h
      (λ pos. cast_to-paren parts g.left names n r)
      (λ pos. unary-paren parts g.left names n r)
      (search (forward-rules, cast_to-left parts g.left, unary_expr-left parts g.left))
      (agree-higher (cast_to-strict names n t t' h))
      (unary_expr-local names n t t' h)

  -- ---- operators

  operation-by-item : (k : ℕ) (op : Option BinaryOperator) (s : Option Symbol) (names : List Binding) (n : ℕ) (t t' : List (Option Symbol)) → Near r w d t t'
      → Agree r w (item_bound d) (operation_by parts k op (input names (s ∷ t) n)) (operation_by parts' k op (input names (s ∷ t') n))
  unfolding step
  operation-by-item k None s names n t t' h = answers (more s h)
  operation-by-item k (Some op) s names n t t' h = search (local-rules, agree-bind r w d, expr-at g, g.left.expr)

  operation-item : (k : ℕ) → Local r w (suc d) (item_bound d) (operation parts k) (operation parts' k)
  unfolding operation ahead
  operation-item k names n t t' gone = passed (operation-left parts g.left k (length r) (input names r n) (omega arith))
  operation-item k names n t t' (more s h) = operation-by-item k (operator_at k s) s names n _ _ h

  conditional_behind-strict : (c : Expr) → Local r w (suc d) (λ _. d) (conditional_behind parts c) (conditional_behind parts' c)
  unfolding conditional_behind step
  conditional_behind-strict c names n t t' gone = passed (conditional_behind-left parts g.left c (length r) (input names r n) (omega arith))
  conditional_behind-strict c names n t t' (more s h) = search (local-rules, agree-bind r w d, expr-at g, g.left.expr) depth 9 fits 4000

  condition_of-local : (c : Expr) → Local r w (suc d) (λ _. suc d) (condition_of parts c) (condition_of parts' c)
  unfolding condition_of
  condition_of-local c names n t t' h = search (local-rules, asked r w (suc d) (sees m.Question) (sees-steady m.Question), agree-higher, conditional_behind-strict, conditional_behind-left parts g.left)

  assigned-strict : (e : Expr) (op : AssignOperator) → Local r w (suc d) (λ _. d) (assigned parts e op) (assigned parts' e op)
  unfolding assigned step
  assigned-strict e op names n t t' gone = passed (assigned-left parts g.left e op (length r) (input names r n) (omega arith))
  assigned-strict e op names n t t' (more s h) = search (local-rules, agree-bind r w d, expr-at g, g.left.expr)

  assignment-by-local : (e : Expr) (op : Option AssignOperator) → Local r w (suc d) (λ _. suc d) (assignment_by parts e op) (assignment_by parts' e op)
  assignment-by-local e None names n t t' h = answers h
  assignment-by-local e (Some op) names n t t' h = search (agree-parser-if, agree-higher (assigned-strict e op names n t t' h), fault-at r w (suc d))

  assignment_to-local : (e : Expr) → Local r w (suc d) (λ _. suc d) (assignment_to parts e) (assignment_to parts' e)
  unfolding assignment_to ahead
  assignment_to-local e names n t t' gone = passed (assignment_to-left parts g.left e (length r) (input names r n) (omega arith))
  assignment_to-local e names n t t' (more s h) = assignment-by-local e (assigns s) names n _ _ (more s h)

module _ (r w : List (Option Symbol)) (d : ℕ) (parts parts' : Parts) (g : LocalParts r w d parts parts') where
  operations-local : (k : ℕ) → Local r w (suc d) (λ _. suc d) (operations parts k) (operations parts' k)
  unfolding operations
  operations-local k = while-local r w NoOperation (operation parts k) (operation parts' k) (operation-left parts g.left k) (suc d) (λ j c. operation-item r w j parts parts' (narrow j (omega (arith, c)) g) k)

  goes_on-local : (k : ℕ) (e : Expr) → Local r w (suc d) (λ _. suc d) (goes_on parts k e) (goes_on parts' k e)
  unfolding goes_on
  goes_on-local k e names n t t' h = search (local-rules, agree-bind r w (suc d), condition_of-local r w d parts parts' g, assignment_to-local r w d parts parts' g, operations-local)

  above_cast-local : (k : ℕ) → Local r w (suc d) (λ _. suc d) (above_cast parts k) (above_cast parts' k)
  unfolding above_cast
  above_cast-local zero names n t t' h = cast_expr-local r w d parts parts' g names n t t' h
  above_cast-local (suc k) names n t t' h = agree-bind r w (suc d) _ (above_cast-local k names n t t' h) (λ e names n t t' h. goes_on-local (k + 4) e names n t t' h) (λ e n i h. goes_on-left parts g.left (k + 4) e n i h)

  pub expr_of-local : (level : ℕ) → Local r w (suc d) (λ _. suc d) (expr_of parts level) (expr_of parts' level)
  unfolding expr_of
  expr_of-local level names n t t' h = search (agree-parser-if, unary_expr-local r w d parts parts' g, above_cast-local)
