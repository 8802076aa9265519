-- Expressions and type names do not go back (6.3, 6.5.5).
use Rattle.std.proofs.Common.{ℕ, zero, suc, Bool, [], Option, Some, None}
use Rattle.pw_tree.specs.Symbols as symbol
use Rattle.pw_tree.specs.Symbols.{Symbol, Reserved, Sign}
use Rattle.pw_tree.specs.Trees.{Expr, NoPostfix, NoArgument, NoOperation}
use Rattle.pw_tree.specs.declared.operator.Access.{Access}
use Rattle.pw_tree.specs.declared.operator.AssignOperator.{AssignOperator}
use Rattle.pw_tree.specs.declared.operator.BinaryOperator.{BinaryOperator}
use Rattle.pw_tree.specs.declared.operator.StepOperator.{StepOperator}
use Rattle.pw_tree.specs.declared.operator.UnaryOperator.{UnaryOperator}
use Rattle.pw_token.specs.declared.symbol.Keyword.TheVariants as k
use Rattle.pw_token.specs.declared.symbol.Mark.TheVariants as m
use Rattle.pw_parse_grammar.specs.Expressions.{string_by, string, strings, step_behind, some_specifiers, type_name, enclosed_type_name, parenthesized, primary_by, primary, argument, some_arguments, arguments, index, call, select, postfix_by, postfix_operation, postfixes, postfix_expr, operated, size, operated_or_postfix, unary_by, unary_expr, cast_to, cast_expr, operation_by, operation, operations, conditional_behind, condition_of, assigned, assignment_by, assignment_to, goes_on, above_cast, expr_of}
use Rattle.pw_parse_grammar.specs.Input.{ahead, unless_comma}
use Rattle.pw_parse_grammar.specs.Parts.{Parts}
use Rattle.pw_parse_grammar.specs.Tests.{operator_at, assigns, prefix_operator}
use Rattle.pw_parse_grammar.proofs.Progress.Base.{Forward, ForwardParts, forward-rules, while-left, one_or_more-left, unless_comma-left}

string-by-left : (s : Option Symbol) → Forward (string_by s)
string-by-left (Some (symbol.Text x)) n i h = search forward-rules
string-by-left None n i h = search forward-rules
string-by-left (Some _) n i h = search forward-rules

pub string-left : Forward string
unfolding string
string-left n i h = string-by-left (ahead i) n i h

pub strings-left : Forward strings
unfolding strings
strings-left = while-left [] string string-left

pub step_behind-left : (op : StepOperator) → Forward (step_behind op)
unfolding step_behind
step_behind-left op n i h = search forward-rules

module _ (parts : Parts) (part : ForwardParts parts) where
  pub some_specifiers-left : (storage : Bool) → Forward (some_specifiers parts storage)
  unfolding some_specifiers
  some_specifiers-left storage n i h = search (forward-rules, part.specifiers)

  pub type_name-left : Forward (type_name parts)
  unfolding type_name
  type_name-left n i h = search (forward-rules, some_specifiers-left, part.declarator)

  pub enclosed_type_name-left : Forward (enclosed_type_name parts)
  unfolding enclosed_type_name
  enclosed_type_name-left n i h = search (forward-rules, type_name-left)

  pub parenthesized-left : Forward (parenthesized parts)
  unfolding parenthesized
  parenthesized-left n i h = search (forward-rules, part.expr)

  pub primary-by-left : (s : Option Symbol) → Forward (primary_by parts s)
  primary-by-left (Some (symbol.Identifier x)) n i h = search forward-rules
  primary-by-left (Some (symbol.Number x)) n i h = search forward-rules
  primary-by-left (Some (symbol.Floating x)) n i h = search forward-rules
  primary-by-left (Some (symbol.Character x)) n i h = search forward-rules
  primary-by-left (Some (symbol.Wide x)) n i h = search forward-rules
  primary-by-left (Some (symbol.Text x)) n i h = search (forward-rules, strings-left)
  primary-by-left (Some (Sign m.OpenParen)) n i h = search (forward-rules, parenthesized-left)
  primary-by-left None n i h = search forward-rules
  primary-by-left (Some _) n i h = search forward-rules

  pub primary-left : Forward (primary parts)
  unfolding primary
  primary-left n i h = primary-by-left (ahead i) n i h

  pub argument-left : Forward (argument parts)
  unfolding argument
  argument-left n i h = search (forward-rules, part.expr)

  pub some_arguments-left : Forward (some_arguments parts)
  unfolding some_arguments
  some_arguments-left = one_or_more-left (argument parts) (unless_comma NoArgument) argument-left (unless_comma-left NoArgument)

  pub arguments-left : Forward (arguments parts)
  unfolding arguments
  arguments-left n i h = search (forward-rules, some_arguments-left)

  pub index-left : Forward (index parts)
  unfolding index
  index-left n i h = search (forward-rules, part.expr)

  pub call-left : Forward (call parts)
  unfolding call
  call-left n i h = search (forward-rules, arguments-left)

  pub select-left : (access : Access) → Forward (select parts access)
  unfolding select
  select-left access n i h = search forward-rules

  pub postfix-by-left : (s : Option Symbol) → Forward (postfix_by parts s)
  postfix-by-left (Some (Sign m.OpenBracket)) n i h = search (forward-rules, index-left)
  postfix-by-left (Some (Sign m.OpenParen)) n i h = search (forward-rules, call-left)
  postfix-by-left (Some (Sign m.Dot)) n i h = search (forward-rules, select-left)
  postfix-by-left (Some (Sign m.Arrow)) n i h = search (forward-rules, select-left)
  postfix-by-left (Some (Sign m.Increment)) n i h = search (forward-rules, step_behind-left)
  postfix-by-left (Some (Sign m.Decrement)) n i h = search (forward-rules, step_behind-left)
  postfix-by-left None n i h = search forward-rules
  postfix-by-left (Some _) n i h = search forward-rules

  pub postfix_operation-left : Forward (postfix_operation parts)
  unfolding postfix_operation
  postfix_operation-left n i h = postfix-by-left (ahead i) n i h

  pub postfixes-left : Forward (postfixes parts)
  unfolding postfixes
  postfixes-left = while-left NoPostfix (postfix_operation parts) postfix_operation-left

  pub postfix_expr-left : Forward (postfix_expr parts)
  unfolding postfix_expr
  postfix_expr-left n i h = search (forward-rules, primary-left, postfixes-left)

  pub operated-left : (op : UnaryOperator) → Forward (operated parts op)
  unfolding operated
  operated-left op n i h = search (forward-rules, part.expr)

  pub size-left : Forward (size parts)
  unfolding size
  size-left n i h = search (forward-rules, enclosed_type_name-left, part.expr)

  pub operated_or_postfix-left : (op : Option UnaryOperator) → Forward (operated_or_postfix parts op)
  unfolding operated_or_postfix
  operated_or_postfix-left (Some op) = operated-left op
  operated_or_postfix-left None = postfix_expr-left

  pub unary-by-left : (s : Option Symbol) → Forward (unary_by parts s)
  unary-by-left (Some (Sign mark)) = operated_or_postfix-left (prefix_operator mark)
  unary-by-left (Some (Reserved k.Sizeof)) = size-left
  unary-by-left None = postfix_expr-left
  unary-by-left (Some _) = postfix_expr-left

  pub unary_expr-left : Forward (unary_expr parts)
  unfolding unary_expr
  unary_expr-left n i h = unary-by-left (ahead i) n i h

  pub cast_to-left : Forward (cast_to parts)
  unfolding cast_to
  cast_to-left n i h = search (forward-rules, enclosed_type_name-left, part.expr)

  pub cast_expr-left : Forward (cast_expr parts)
  unfolding cast_expr
  cast_expr-left n i h = search (forward-rules, cast_to-left, unary_expr-left)

  pub operation-by-left : (k : ℕ) (op : Option BinaryOperator) → Forward (operation_by parts k op)
  operation-by-left k None n i h = search forward-rules
  operation-by-left k (Some op) n i h = search (forward-rules, part.expr)

  pub operation-left : (k : ℕ) → Forward (operation parts k)
  unfolding operation
  operation-left k n i h = operation-by-left k (operator_at k (ahead i)) n i h

  pub operations-left : (k : ℕ) → Forward (operations parts k)
  unfolding operations
  operations-left k = while-left NoOperation (operation parts k) (operation-left k)

  pub conditional_behind-left : (c : Expr) → Forward (conditional_behind parts c)
  unfolding conditional_behind
  conditional_behind-left c n i h = search (forward-rules, part.expr) depth 8 fits 2000

  pub condition_of-left : (c : Expr) → Forward (condition_of parts c)
  unfolding condition_of
  condition_of-left c n i h = search (forward-rules, conditional_behind-left)

  pub assigned-left : (e : Expr) (op : AssignOperator) → Forward (assigned parts e op)
  unfolding assigned
  assigned-left e op n i h = search (forward-rules, part.expr)

  pub assignment-by-left : (e : Expr) (op : Option AssignOperator) → Forward (assignment_by parts e op)
  assignment-by-left e None n i h = search forward-rules
  assignment-by-left e (Some op) n i h = search (forward-rules, assigned-left)

  pub assignment_to-left : (e : Expr) → Forward (assignment_to parts e)
  unfolding assignment_to
  assignment_to-left e n i h = assignment-by-left e (assigns (ahead i)) n i h

  pub goes_on-left : (k : ℕ) (e : Expr) → Forward (goes_on parts k e)
  unfolding goes_on
  goes_on-left k e n i h = search (forward-rules, condition_of-left, assignment_to-left, operations-left)

  pub above_cast-left : (k : ℕ) → Forward (above_cast parts k)
  unfolding above_cast
  above_cast-left zero n i h = cast_expr-left n i h
  above_cast-left (suc k) n i h = search (forward-rules, above_cast-left k, goes_on-left)

  pub expr_of-left : (k : ℕ) → Forward (expr_of parts k)
  unfolding expr_of
  expr_of-left k n i h = search (forward-rules, unary_expr-left, above_cast-left)
