-- Expressions and type names in two texts that are one up to a place (6.3, 6.5.5).
use Rattle.std.proofs.Common.{ℕ, suc, Bool, List, [], ◌∷◌, length, Option, Some, None, arith}
use Rattle.pw_tree.specs.Symbols as symbol
use Rattle.pw_tree.specs.Symbols.{Symbol, Reserved, Sign}
use Rattle.pw_tree.specs.Trees.{NoPostfix, NoArgument}
use Rattle.pw_tree.specs.declared.operator.Access.{Access}
use Rattle.pw_tree.specs.declared.operator.StepOperator.{StepOperator}
use Rattle.pw_token.specs.declared.symbol.Mark.TheVariants as m
use Rattle.pw_parse_grammar.specs.Expressions.{string, strings, step_behind, some_specifiers, type_name, enclosed_type_name, parenthesized, primary_by, primary, argument, some_arguments, arguments, index, call, select, postfix_by, postfix_operation, postfixes, postfix_expr}
use Rattle.pw_parse_grammar.specs.Input.{ahead, step, sees}
use Rattle.pw_parse_grammar.specs.Parts.{Parts}
use Rattle.pw_parse_grammar.proofs.Progress.Base.{forward-rules}
use Rattle.pw_parse_grammar.proofs.Progress.Expressions.{string-left, step_behind-left, type_name-left, parenthesized-left, primary-left, argument-left, some_arguments-left, arguments-left, index-left, call-left, select-left, postfix_operation-left, postfixes-left}
use Rattle.pw_parse_grammar.proofs.Local.Base.{input, Near, gone, more, Agree, passed, answers, faults, Local, wider, local-rules, agree-bind, agree-higher, ordinary-strict, expect-strict, asked, sees-steady}
use Rattle.pw_parse_grammar.proofs.Local.Lists.{item_bound, while-local, comma-local}
use Rattle.pw_parse_grammar.proofs.Local.Parts.{LocalParts, narrow, expr-at, specifiers-at, declarator-at}

string-item : (r w : List (Option Symbol)) (m : ℕ) → Local r w (suc m) (item_bound m) string string
unfolding string ahead step
string-item r w m names n t t' gone = passed (string-left (length r) (input names r n) (omega arith))
string-item r w m names n t t' (more (Some (symbol.Text x)) h) = answers h
string-item r w m names n t t' (more None h) = answers (more None h)
string-item r w m names n t t' (more (Some s) h) = answers (more (Some s) h)

pub strings-local : (r w : List (Option Symbol)) (m : ℕ) → Local r w m (λ _. m) strings strings
unfolding strings
strings-local r w m = while-local r w [] string string string-left m (λ j c. string-item r w j)

module _ (r w : List (Option Symbol)) (d : ℕ) (parts parts' : Parts) (g : LocalParts r w d parts parts') where
  pub some_specifiers-local : (storage : Bool) → Local r w d (λ _. d) (some_specifiers parts storage) (some_specifiers parts' storage)
  unfolding some_specifiers
  some_specifiers-local storage names n t t' h = search (local-rules, agree-bind r w d, specifiers-at g)

  pub type_name-local : Local r w d (λ _. d) (type_name parts) (type_name parts')
  unfolding type_name
  type_name-local names n t t' h = search (local-rules, agree-bind r w d, some_specifiers-local, declarator-at g, g.left.declarator)

  pub enclosed_type_name-strict : Local r w (suc d) (λ _. d) (enclosed_type_name parts) (enclosed_type_name parts')
  unfolding enclosed_type_name
  enclosed_type_name-strict names n t t' h = search (local-rules, agree-bind r w d, expect-strict, type_name-local, type_name-left parts g.left)

  pub enclosed_type_name-local : Local r w d (λ _. d) (enclosed_type_name parts) (enclosed_type_name parts')
  unfolding enclosed_type_name
  enclosed_type_name-local names n t t' h = search (local-rules, agree-bind r w d, type_name-local, type_name-left parts g.left)

  pub parenthesized-strict : Local r w (suc d) (λ _. d) (parenthesized parts) (parenthesized parts')
  unfolding parenthesized step
  parenthesized-strict names n t t' gone = passed (parenthesized-left parts g.left (length r) (input names r n) (omega arith))
  parenthesized-strict names n t t' (more s h) = search (local-rules, agree-bind r w d, expr-at g, g.left.expr)

  pub primary-by-strict : (s : Option Symbol) (names : _) (n : ℕ) (t t' : _) → Near r w d t t' → Agree r w (λ _. suc d) (primary_by parts s (input names (s ∷ t) n)) (primary_by parts' s (input names (s ∷ t') n))
  unfolding ahead step
  primary-by-strict (Some (symbol.Identifier x)) names n t t' h = agree-bind r w d _ (ordinary-strict r w d names n _ _ (more _ h)) (λ v names n t t' h. answers (wider h)) (λ v n i h. search forward-rules)
  primary-by-strict (Some (symbol.Number x)) names n t t' h = search (local-rules)
  primary-by-strict (Some (symbol.Floating x)) names n t t' h = search (local-rules)
  primary-by-strict (Some (symbol.Character x)) names n t t' h = search (local-rules)
  primary-by-strict (Some (symbol.Wide x)) names n t t' h = search (local-rules)
  primary-by-strict (Some (symbol.Text x)) names n t t' h = search (local-rules, more, agree-bind r w (suc d), strings-local)
  primary-by-strict (Some (Sign m.OpenParen)) names n t t' h = search (agree-higher, parenthesized-strict, more)
  primary-by-strict None names n t t' h = faults (more None h)
  primary-by-strict (Some s) names n t t' h = faults (more (Some s) h)

  pub primary-local : Local r w (suc d) (λ _. suc d) (primary parts) (primary parts')
  unfolding primary ahead
  primary-local names n t t' gone = passed (primary-left parts g.left (length r) (input names r n) (omega arith))
  primary-local names n t t' (more s h) = primary-by-strict s names n _ _ h

  pub argument-local : Local r w d (λ _. d) (argument parts) (argument parts')
  unfolding argument
  argument-local names n t t' h = search (local-rules, agree-bind r w d, expr-at g)

  pub index-strict : Local r w (suc d) (λ _. d) (index parts) (index parts')
  unfolding index step
  index-strict names n t t' gone = passed (index-left parts g.left (length r) (input names r n) (omega arith))
  index-strict names n t t' (more s h) = search (local-rules, agree-bind r w d, expr-at g, g.left.expr)

  pub select-strict : (a : Access) → Local r w (suc d) (λ _. d) (select parts a) (select parts' a)
  unfolding select step
  select-strict a names n t t' gone = passed (select-left parts g.left a (length r) (input names r n) (omega arith))
  select-strict a names n t t' (more s h) = search (local-rules, agree-bind r w d)

pub step_behind-strict : (r w : List (Option Symbol)) (d : ℕ) (op : StepOperator) → Local r w (suc d) (λ _. d) (step_behind op) (step_behind op)
unfolding step_behind step
step_behind-strict r w d op names n t t' gone = passed (step_behind-left op (length r) (input names r n) (omega arith))
step_behind-strict r w d op names n t t' (more s h) = answers h

module _ (r w : List (Option Symbol)) (d : ℕ) (parts parts' : Parts) (g : LocalParts r w d parts parts') where
  pub some_arguments-local : Local r w d (λ _. d) (some_arguments parts) (some_arguments parts')
  unfolding some_arguments
  some_arguments-local = comma-local r w NoArgument (argument parts) (argument parts') (argument-left parts g.left) d (λ j c. argument-local r w (suc j) parts parts' (narrow (suc j) c g))

  pub arguments-local : Local r w d (λ _. d) (arguments parts) (arguments parts')
  unfolding arguments
  arguments-local names n t t' h = search (local-rules, asked r w d (sees m.CloseParen) (sees-steady m.CloseParen), some_arguments-local, some_arguments-left parts g.left)

  pub call-strict : Local r w (suc d) (λ _. d) (call parts) (call parts')
  unfolding call step
  call-strict names n t t' gone = passed (call-left parts g.left (length r) (input names r n) (omega arith))
  call-strict names n t t' (more s h) = search (local-rules, agree-bind r w d, arguments-local, arguments-left parts g.left)

  postfix-by-item : (s : Option Symbol) (names : _) (n : ℕ) (t t' : _) → Near r w d t t' → Agree r w (item_bound d) (postfix_by parts s (input names (s ∷ t) n)) (postfix_by parts' s (input names (s ∷ t') n))
  postfix-by-item (Some (Sign m.OpenBracket)) names n t t' h = search (local-rules, more, agree-bind r w d, index-strict r w d parts parts' g)
  postfix-by-item (Some (Sign m.OpenParen)) names n t t' h = search (local-rules, more, agree-bind r w d, call-strict)
  postfix-by-item (Some (Sign m.Dot)) names n t t' h = search (local-rules, more, agree-bind r w d, select-strict r w d parts parts' g)
  postfix-by-item (Some (Sign m.Arrow)) names n t t' h = search (local-rules, more, agree-bind r w d, select-strict r w d parts parts' g)
  postfix-by-item (Some (Sign m.Increment)) names n t t' h = search (local-rules, more, agree-bind r w d, step_behind-strict r w d)
  postfix-by-item (Some (Sign m.Decrement)) names n t t' h = search (local-rules, more, agree-bind r w d, step_behind-strict r w d)
  postfix-by-item None names n t t' h = answers (more None h)
  postfix-by-item (Some s) names n t t' h = answers (more (Some s) h)

  pub postfix_operation-item : Local r w (suc d) (item_bound d) (postfix_operation parts) (postfix_operation parts')
  unfolding postfix_operation ahead
  postfix_operation-item names n t t' gone = passed (postfix_operation-left parts g.left (length r) (input names r n) (omega arith))
  postfix_operation-item names n t t' (more s h) = postfix-by-item s names n _ _ h

module _ (r w : List (Option Symbol)) (d : ℕ) (parts parts' : Parts) (g : LocalParts r w d parts parts') where
  pub postfixes-local : Local r w (suc d) (λ _. suc d) (postfixes parts) (postfixes parts')
  unfolding postfixes
  postfixes-local = while-local r w NoPostfix (postfix_operation parts) (postfix_operation parts') (postfix_operation-left parts g.left) (suc d) (λ j c. postfix_operation-item r w j parts parts' (narrow j (omega (arith, c)) g))

  pub postfix_expr-local : Local r w (suc d) (λ _. suc d) (postfix_expr parts) (postfix_expr parts')
  unfolding postfix_expr
  postfix_expr-local names n t t' h = search (local-rules, agree-bind r w (suc d), primary-local r w d parts parts' g, postfixes-local, postfixes-left parts g.left)
