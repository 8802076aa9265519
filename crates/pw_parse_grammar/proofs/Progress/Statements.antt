-- Statements and translation units do not go back (6.6, 6.7).
use Rattle.std.proofs.Common.{ℕ, zero, suc, List, [], Option, Some, None}
use Rattle.pw_tree.specs.Symbols.{Symbol, Reserved, Sign, Identifier}
use Rattle.pw_tree.specs.Trees.{Specifiers, Stmt, NoStmt}
use Rattle.pw_token.specs.declared.symbol.Keyword.TheVariants as k
use Rattle.pw_token.specs.declared.symbol.Mark.{Mark}
use Rattle.pw_token.specs.declared.symbol.Mark.TheVariants as m
use Rattle.pw_parse_grammar.specs.Declarations.{parts}
use Rattle.pw_parse_grammar.specs.Input.{Parser, ahead, turns}
use Rattle.pw_parse_grammar.specs.Modules.{function, external_with, external_named, external_behind, external, ends_text, externals}
use Rattle.pw_parse_grammar.specs.Parts.{Declared}
use Rattle.pw_parse_grammar.specs.Statements.{default_label, name_label, empty_stmt, goto_stmt, continue_stmt, break_stmt, case_label, label_by, label, labels, expression_stmt, up_to, return_stmt, condition, else_if, behind_else, alternative, alternatives, if_stmt, switch_stmt, while_stmt, do_stmt, for_stmt, stmt_next, stmts, block, compound_by, compound, unlabeled_by, unlabeled, stmt_of, stmt}
use Rattle.pw_parse_grammar.proofs.Progress.Base.{Forward, forward-rules, while-left, repeat-left, one_or_more-left}
use Rattle.pw_parse_grammar.proofs.Progress.Declarators.{declare_name-left}
use Rattle.pw_parse_grammar.proofs.Progress.Declarations.{parts-left, declarations-left, declaration_with-left}

pub default_label-left : Forward default_label
unfolding default_label
default_label-left n i h = search forward-rules

pub name_label-left : (x : List ℕ) → Forward (name_label x)
unfolding name_label
name_label-left x n i h = search forward-rules

pub empty_stmt-left : Forward empty_stmt
unfolding empty_stmt
empty_stmt-left n i h = search forward-rules

pub goto_stmt-left : Forward goto_stmt
unfolding goto_stmt
goto_stmt-left n i h = search forward-rules

pub continue_stmt-left : Forward continue_stmt
unfolding continue_stmt
continue_stmt-left n i h = search forward-rules

pub break_stmt-left : Forward break_stmt
unfolding break_stmt
break_stmt-left n i h = search forward-rules

module _ (limit : ℕ) where
  pub expr-left : (k : ℕ) → Forward ((parts limit).expr k)
  expr-left = (parts-left limit).expr

  pub case_label-left : Forward (case_label limit)
  unfolding case_label
  case_label-left n i h = search (forward-rules, expr-left)

  pub label-by-left : (s : Option Symbol) → Forward (label_by limit s)
  label-by-left (Some (Reserved k.Case)) n i h = search (forward-rules, case_label-left)
  label-by-left (Some (Reserved k.Default)) n i h = search (forward-rules, default_label-left)
  label-by-left (Some (Identifier x)) n i h = search (forward-rules, name_label-left)
  label-by-left None n i h = search forward-rules
  label-by-left (Some _) n i h = search forward-rules

  pub label-left : Forward (label limit)
  unfolding label
  label-left n i h = label-by-left (ahead i) n i h

  pub labels-left : Forward (labels limit)
  unfolding labels
  labels-left = while-left [] (label limit) label-left

  pub expression_stmt-left : Forward (expression_stmt limit)
  unfolding expression_stmt
  expression_stmt-left n i h = search (forward-rules, expr-left)

  pub up_to-left : (end : Mark) → Forward (up_to limit end)
  unfolding up_to
  up_to-left end n i h = search (forward-rules, expr-left)

  pub return_stmt-left : Forward (return_stmt limit)
  unfolding return_stmt
  return_stmt-left n i h = search (forward-rules, up_to-left)

  pub condition-left : Forward (condition limit)
  unfolding condition
  condition-left n i h = search (forward-rules, expr-left)

module _ (limit : ℕ) (p : Parser Stmt) (g : Forward p) where
  pub else_if-left : Forward (else_if limit p)
  unfolding else_if
  else_if-left n i h = search (forward-rules, condition-left, g)

  pub behind_else-left : Forward (behind_else limit p)
  unfolding behind_else
  behind_else-left n i h = search (forward-rules, else_if-left, g)

  pub alternative-left : Forward (alternative limit p)
  unfolding alternative
  alternative-left n i h = search (forward-rules, behind_else-left)

  pub alternatives-left : Forward (alternatives limit p)
  unfolding alternatives
  alternatives-left n i h = repeat-left (alternative limit p) alternative-left (turns i) n i h

  pub if_stmt-left : Forward (if_stmt limit p)
  unfolding if_stmt
  if_stmt-left n i h = search (forward-rules, condition-left, g, alternatives-left)

  pub switch_stmt-left : Forward (switch_stmt limit p)
  unfolding switch_stmt
  switch_stmt-left n i h = search (forward-rules, condition-left, g)

  pub while_stmt-left : Forward (while_stmt limit p)
  unfolding while_stmt
  while_stmt-left n i h = search (forward-rules, condition-left, g)

  pub do_stmt-left : Forward (do_stmt limit p)
  unfolding do_stmt
  do_stmt-left n i h = search (forward-rules, condition-left, g) depth 8 fits 3000

  pub for_stmt-left : Forward (for_stmt limit p)
  unfolding for_stmt
  for_stmt-left n i h = search (forward-rules, up_to-left, g) depth 8 fits 3000

  pub stmt_next-left : Forward (stmt_next limit p)
  unfolding stmt_next
  stmt_next-left n i h = search (forward-rules, g)

  pub stmts-left : Forward (stmts limit p)
  unfolding stmts
  stmts-left = while-left NoStmt (stmt_next limit p) stmt_next-left

  pub block-left : Forward (block limit p)
  unfolding block
  block-left n i h = search (forward-rules, declarations-left, stmts-left) depth 8 fits 3000

  pub compound-by-left : (s : Option Symbol) → Forward (compound_by limit p s)
  compound-by-left (Some (Reserved k.If)) n i h = if_stmt-left n i h
  compound-by-left (Some (Reserved k.Switch)) n i h = switch_stmt-left n i h
  compound-by-left (Some (Reserved k.While)) n i h = while_stmt-left n i h
  compound-by-left (Some (Reserved k.Do)) n i h = do_stmt-left n i h
  compound-by-left (Some (Reserved k.For)) n i h = for_stmt-left n i h
  compound-by-left None n i h = expression_stmt-left limit n i h
  compound-by-left (Some _) n i h = expression_stmt-left limit n i h

  pub compound-left : Forward (compound limit p)
  unfolding compound
  compound-left n i h = compound-by-left (ahead i) n i h

  pub unlabeled-by-left : (s : Option Symbol) → Forward (unlabeled_by limit p s)
  unlabeled-by-left (Some (Sign m.OpenBrace)) n i h = search (forward-rules, block-left)
  unlabeled-by-left (Some (Sign m.Semicolon)) n i h = empty_stmt-left n i h
  unlabeled-by-left (Some (Reserved k.Goto)) n i h = goto_stmt-left n i h
  unlabeled-by-left (Some (Reserved k.Continue)) n i h = continue_stmt-left n i h
  unlabeled-by-left (Some (Reserved k.Break)) n i h = break_stmt-left n i h
  unlabeled-by-left (Some (Reserved k.Return)) n i h = return_stmt-left limit n i h
  unlabeled-by-left None n i h = compound-left n i h
  unlabeled-by-left (Some _) n i h = compound-left n i h

  pub unlabeled-left : Forward (unlabeled limit p)
  unfolding unlabeled
  unlabeled-left n i h = unlabeled-by-left (ahead i) n i h

  pub stmt_of-left : Forward (stmt_of limit p)
  unfolding stmt_of
  stmt_of-left n i h = search (forward-rules, labels-left, unlabeled-left)

module _ (limit : ℕ) where
  pub stmt-left : (depth : ℕ) → Forward (stmt limit depth)
  unfolding stmt
  stmt-left zero n i h = search forward-rules
  stmt-left (suc depth) n i h = stmt_of-left limit (stmt limit depth) (stmt-left depth) n i h

  -- ---- translation units

  pub function-left : (ss : Specifiers) (d : Declared) → Forward (function limit ss d)
  unfolding function
  function-left ss d n i h = search (forward-rules, declare_name-left, declarations-left, block-left limit (stmt limit limit) (stmt-left limit)) depth 8 fits 3000

  pub external_with-left : (ss : Specifiers) (d : Declared) → Forward (external_with limit ss d)
  unfolding external_with
  external_with-left ss d n i h = search (forward-rules, declaration_with-left, function-left)

  pub external_named-left : (ss : Specifiers) → Forward (external_named limit ss)
  unfolding external_named
  external_named-left ss n i h = search (forward-rules, (parts-left limit).declarator, external_with-left)

  pub external_behind-left : (ss : Specifiers) → Forward (external_behind limit ss)
  unfolding external_behind
  external_behind-left ss n i h = search (forward-rules, external_named-left)

  pub external-left : Forward (external limit)
  unfolding external
  external-left n i h = search (forward-rules, (parts-left limit).specifiers, external_behind-left)

  pub ends_text-left : Forward (ends_text limit)
  unfolding ends_text
  ends_text-left n i h = search forward-rules

  pub externals-left : Forward (externals limit)
  unfolding externals
  externals-left = one_or_more-left (external limit) (ends_text limit) external-left ends_text-left
