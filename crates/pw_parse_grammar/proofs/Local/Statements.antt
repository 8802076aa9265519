-- Statements in two texts that are one up to a place (6.6).
use Rattle.std.proofs.Common.{◌≡◌, ℕ, zero, suc, ◌+◌, ◌≤◌, true, false, List, ◌∷◌, length, Option, Some, None, arith}
use Rattle.pw_tree.specs.Levels.{comma}
use Rattle.pw_tree.specs.Symbols.{Symbol, Reserved, Sign, Identifier}
use Rattle.pw_tree.specs.Trees.{Decl, Stmt, Alternative, NoElse, ElseIf, Block, Braced, NoStmt}
use Rattle.pw_token.specs.declared.symbol.Keyword.TheVariants as k
use Rattle.pw_token.specs.declared.symbol.Mark.{Mark}
use Rattle.pw_token.specs.declared.symbol.Mark.TheVariants as m
use Rattle.pw_parse_grammar.specs.Declarations.{parts}
use Rattle.pw_parse_grammar.specs.Input.{Binding, Parser, ◌>>=◌, ◌>>◌, pure, expect, leave, ahead, step, is_keyword, sees, sees_keyword, past_keyword, is_typedef_name, Last}
use Rattle.pw_parse_grammar.specs.Statements.{empty_stmt, goto_stmt, continue_stmt, break_stmt, expression_stmt, up_to, return_stmt, condition, else_if, behind_else, alternative, alternatives, if_stmt, switch_stmt, while_stmt, do_stmt, for_stmt, stmt_next, stmts, block, compound_by, compound, unlabeled_by, unlabeled, stmt_of, stmt}
use Rattle.pw_parse_grammar.proofs.Trees.Base.{no_turns}
use Rattle.pw_parse_grammar.proofs.Progress.Base.{Left, Forward, forward-rules, left-bind}
use Rattle.pw_parse_grammar.proofs.Progress.Declarations.{parts-left, declarations-left}
use Rattle.pw_parse_grammar.proofs.Progress.Statements.{empty_stmt-left, goto_stmt-left, continue_stmt-left, break_stmt-left, up_to-left, return_stmt-left, condition-left, else_if-left, alternative-left, alternatives-left, if_stmt-left, switch_stmt-left, while_stmt-left, do_stmt-left, for_stmt-left, stmt_next-left, stmts-left, compound-left, unlabeled-left, stmt-left}
use Rattle.pw_parse_grammar.proofs.Local.Base.{input, gone, more, passed, answers, Local, local-rules, agree-bind, agree-higher, agree-eaten-if, asked, sees-steady, sees_keyword-steady, eaten, took, identifier-local, expect-strict, peeked}
use Rattle.pw_parse_grammar.proofs.Local.Lists.{item_bound, turn_bound, while-local, list-local}
use Rattle.pw_parse_grammar.proofs.Local.Parts.{expr-at}
use Rattle.pw_parse_grammar.proofs.Local.Knot.{at-place, parts-open, parts-local}
use Rattle.pw_parse_grammar.proofs.Local.Declarations.{declarations-upto}
use Rattle.pw_parse_grammar.proofs.Local.Labels.{labels-upto, labels-typed}
use Rattle.pw_parse_grammar.proofs.Local.Names.{bind-upto, while-first}

empty_stmt-strict : (r w : List (Option Symbol)) (d : ℕ) → Local r w (suc d) (λ _. d) empty_stmt empty_stmt
unfolding empty_stmt step
empty_stmt-strict r w d names n t t' gone = passed (empty_stmt-left (length r) (input names r n) (omega arith))
empty_stmt-strict r w d names n t t' (more s h) = answers h

goto_stmt-strict : (r w : List (Option Symbol)) (d : ℕ) → Local r w (suc d) (λ _. d) goto_stmt goto_stmt
unfolding goto_stmt step
goto_stmt-strict r w d names n t t' gone = passed (goto_stmt-left (length r) (input names r n) (omega arith))
goto_stmt-strict r w d names n t t' (more s h) = agree-bind r w d _ (identifier-local r w d names (n + 1) _ _ h) (λ x names n t t' h. search (local-rules, agree-bind r w d)) (λ x n i h. search forward-rules)

continue_stmt-strict : (r w : List (Option Symbol)) (d : ℕ) → Local r w (suc d) (λ _. d) continue_stmt continue_stmt
unfolding continue_stmt step
continue_stmt-strict r w d names n t t' gone = passed (continue_stmt-left (length r) (input names r n) (omega arith))
continue_stmt-strict r w d names n t t' (more s h) = search (local-rules, agree-bind r w d)

break_stmt-strict : (r w : List (Option Symbol)) (d : ℕ) → Local r w (suc d) (λ _. d) break_stmt break_stmt
unfolding break_stmt step
break_stmt-strict r w d names n t t' gone = passed (break_stmt-left (length r) (input names r n) (omega arith))
break_stmt-strict r w d names n t t' (more s h) = search (local-rules, agree-bind r w d)

module _ (r w : List (Option Symbol)) (limit limit' d : ℕ) (c : d ≤ limit) (c' : d ≤ limit') where
  expression-at : (level : ℕ) → Local r w d (λ _. d) ((parts limit).expr level) ((parts limit').expr level)
  expression-at = expr-at (parts-local r w d limit limit' c c')

  expr-left : (level : ℕ) → Forward ((parts limit).expr level)
  expr-left = (parts-left limit).expr

  condition-local : Local r w d (λ _. d) (condition limit) (condition limit')
  unfolding condition
  condition-local names n t t' h = search (local-rules, agree-bind r w d, expression-at, expr-left)

  up_to-local : (end : Mark) → Local r w d (λ _. d) (up_to limit end) (up_to limit' end)
  unfolding up_to
  up_to-local end names n t t' h = search (local-rules, agree-bind r w d, eaten r w d end, expression-at, expr-left)

  return_stmt-strict : Local r w (suc d) (λ _. d) (return_stmt limit) (return_stmt limit')
  unfolding return_stmt step
  return_stmt-strict names n t t' gone = passed (return_stmt-left limit (length r) (input names r n) (omega arith))
  return_stmt-strict names n t t' (more s h) = search (local-rules, agree-bind r w d, up_to-local, up_to-left)

expression_stmt-strict : (r w : List (Option Symbol)) (limit limit' d : ℕ) → suc d ≤ limit → suc d ≤ limit' → Local r w (suc d) (λ _. d) (expression_stmt limit) (expression_stmt limit')
unfolding expression_stmt
expression_stmt-strict r w limit limit' d c c' names n t t' h = search (local-rules, agree-bind r w (suc d), agree-bind r w d, expression-at r w limit limit' (suc d) c c', expect-strict r w d)

-- the statement that a rule takes makes the same of both texts, and reads something: a typedef name too, which can only be a label
pub record LocalStmt (r w : List (Option Symbol)) (d : ℕ) (p p' : Parser Stmt) : Type 0 where
  pub left : Forward p
  pub strict : (j : ℕ) → suc j ≤ d → Local r w (suc j) (λ _. j) p p'
  pub typed : 1 ≤ d → (names : List Binding) (n : ℕ) (x : List ℕ) → is_typedef_name (input names r n) x ≡ true → Left (length r) (p (input names (Some (Identifier x) ∷ r) n))

stmt-at : {r w : List (Option Symbol)} {d : ℕ} {p p' : Parser Stmt} → LocalStmt r w d p p' → (k : ℕ) → k ≤ d → Local r w k (λ _. k) p p'
stmt-at {r = r} {w = w} {p = p} {p' = p'} g zero c names n t t' h = at-place r w 0 p p' g.left (omega arith) names n t t' h
stmt-at g (suc k) c names n t t' h = agree-higher (g.strict k c names n t t' h)

fewer : {r w : List (Option Symbol)} {d : ℕ} {p p' : Parser Stmt} → LocalStmt r w d p p' → (k : ℕ) → k ≤ d → LocalStmt r w k p p'
fewer g k c = record { left = g.left; strict = λ j e. g.strict j (omega (arith, e, c)); typed = λ e. g.typed (omega (arith, e, c)) }

abbrev else_if_by : ℕ → Parser Stmt → ℕ → Parser (Alternative → Alternative)
else_if_by limit p n = condition limit >>= λ c. p >>= λ s. pure (ElseIf n c s)

module _ (r w : List (Option Symbol)) (limit limit' d : ℕ) (c : d ≤ limit) (c' : d ≤ limit') (p p' : Parser Stmt) (g : LocalStmt r w d p p') where
  stmt-here : Local r w d (λ _. d) p p'
  stmt-here = stmt-at g d (omega arith)

  else_if-local : Local r w d (λ _. d) (else_if limit p) (else_if limit' p')
  unfolding else_if
  else_if-local names n t t' h = took r w d (else_if_by limit p) (else_if_by limit' p') names n t t' h (search (forward-rules, condition-left, g.left)) (λ u u' k. search (local-rules, agree-bind r w d, condition-local r w limit limit' d c c', stmt-here, g.left))

  behind_else-item : Local r w d (turn_bound d) (behind_else limit p) (behind_else limit' p')
  unfolding behind_else
  behind_else-item names n t t' h = search (local-rules, agree-bind r w d, asked r w d (sees_keyword k.If) (sees_keyword-steady k.If), else_if-local, else_if-left limit p g.left, stmt-here, g.left)

  alternative-item : Local r w (suc d) (turn_bound d) (alternative limit p) (alternative limit' p')
  unfolding alternative sees_keyword ahead step past_keyword
  alternative-item names n t t' gone = passed (alternative-left limit p g.left (length r) (input names r n) (omega arith))
  alternative-item names n t t' (more {t = u} {t' = u'} s h) =
      agree-eaten-if (is_keyword k.Else s) (behind_else limit p) (pure (Last NoElse)) (behind_else limit' p') (pure (Last NoElse)) (input names (s ∷ u) n) (input names u (n + 1)) (input names (s ∷ u') n) (input names u' (n + 1))
      (behind_else-item names (n + 1) u u' h) (answers (more s h))

  switch_stmt-strict : Local r w (suc d) (λ _. d) (switch_stmt limit p) (switch_stmt limit' p')
  unfolding switch_stmt step
  switch_stmt-strict names n t t' gone = passed (switch_stmt-left limit p g.left (length r) (input names r n) (omega arith))
  switch_stmt-strict names n t t' (more s h) = search (local-rules, agree-bind r w d, condition-local r w limit limit' d c c', condition-left, stmt-here, g.left)

  while_stmt-strict : Local r w (suc d) (λ _. d) (while_stmt limit p) (while_stmt limit' p')
  unfolding while_stmt step
  while_stmt-strict names n t t' gone = passed (while_stmt-left limit p g.left (length r) (input names r n) (omega arith))
  while_stmt-strict names n t t' (more s h) = search (local-rules, agree-bind r w d, condition-local r w limit limit' d c c', condition-left, stmt-here, g.left)

  do_stmt-strict : Local r w (suc d) (λ _. d) (do_stmt limit p) (do_stmt limit' p')
  unfolding do_stmt step
  do_stmt-strict names n t t' gone = passed (do_stmt-left limit p g.left (length r) (input names r n) (omega arith))
  do_stmt-strict names n t t' (more s h) = search (local-rules, agree-bind r w d, condition-local r w limit limit' d c c', condition-left, stmt-here, g.left) depth 9 fits 4000

  for_stmt-strict : Local r w (suc d) (λ _. d) (for_stmt limit p) (for_stmt limit' p')
  unfolding for_stmt step
  for_stmt-strict names n t t' gone = passed (for_stmt-left limit p g.left (length r) (input names r n) (omega arith))
  for_stmt-strict names n t t' (more s h) = search (local-rules, agree-bind r w d, up_to-local r w limit limit' d c c', up_to-left, stmt-here, g.left) depth 10 fits 6000

module _ (r w : List (Option Symbol)) (limit limit' d : ℕ) (c : d ≤ limit) (c' : d ≤ limit') (p p' : Parser Stmt) (g : LocalStmt r w d p p') where
  alternatives-local : Local r w d (λ _. d) (alternatives limit p) (alternatives limit' p')
  unfolding alternatives
  alternatives-local = list-local r w (alternative limit p) (alternative limit' p') (alternative-left limit p g.left) d
      (λ j e. alternative-item r w limit limit' j (omega (arith, e, c)) (omega (arith, e, c')) p p' (fewer g j (omega (arith, e))))

  if_stmt-strict : Local r w (suc d) (λ _. d) (if_stmt limit p) (if_stmt limit' p')
  unfolding if_stmt step
  if_stmt-strict names n t t' gone = passed (if_stmt-left limit p g.left (length r) (input names r n) (omega arith))
  if_stmt-strict names n t t' (more s h) =
      search (local-rules, agree-bind r w d, condition-local r w limit limit' d c c', condition-left, stmt-here r w limit limit' d c c' p p' g, g.left, alternatives-local, alternatives-left limit p g.left) depth 9 fits 4000

-- ---- blocks

stmt_next-item : (r w : List (Option Symbol)) (limit limit' d : ℕ) (p p' : Parser Stmt) → LocalStmt r w (suc d) p p' → Local r w (suc d) (item_bound d) (stmt_next limit p) (stmt_next limit' p')
unfolding stmt_next
stmt_next-item r w limit limit' d p p' g names n t t' h =
    asked r w (suc d) (sees m.CloseBrace) (sees-steady m.CloseBrace) _ _ _ _ names n t t' h (search (forward-rules, g.left)) (answers h)
    (agree-bind r w d _ (g.strict d (omega arith) names n t t' h) (λ x names n t t' h. answers h) (λ x n i h. search forward-rules))

module _ (r w : List (Option Symbol)) (limit limit' d : ℕ) (c : d ≤ limit) (c' : d ≤ limit') (p p' : Parser Stmt) (g : LocalStmt r w d p p') where
  stmts-local : Local r w d (λ _. d) (stmts limit p) (stmts limit' p')
  unfolding stmts
  stmts-local = while-local r w NoStmt (stmt_next limit p) (stmt_next limit' p') (stmt_next-left limit p g.left) d (λ j e. stmt_next-item r w limit limit' j p p' (fewer g (suc j) e))

  stmts-typed : 1 ≤ d → (names : List Binding) (n : ℕ) (x : List ℕ) → is_typedef_name (input names r n) x ≡ true → Left (length r) (stmts limit p (input names (Some (Identifier x) ∷ r) n))
  unfolding stmts stmt_next sees ahead
  stmts-typed pos names n x e =
      while-first NoStmt (stmt_next limit p) (stmt_next-left limit p g.left) (length r) (input names (Some (Identifier x) ∷ r) n) (left-bind (g.typed pos names n x e) (λ s j h. search forward-rules))

  -- behind a block's declarations
  abbrev rest_by : ℕ → Parser Stmt → ℕ → ℕ → List Decl → Parser Block
  rest_by count q number outer ds = stmts count q >>= λ ss. expect m.CloseBrace >> (leave outer >> pure (Braced number ds ss))

  rest-left : (number outer : ℕ) (ds : List Decl) → Forward (rest_by limit p number outer ds)
  rest-left number outer ds n i h = search (forward-rules, stmts-left limit p g.left) depth 9 fits 4000

  rest-local : (number outer : ℕ) (ds : List Decl) → Local r w d (λ _. d) (rest_by limit p number outer ds) (rest_by limit' p' number outer ds)
  rest-local number outer ds names n t t' h = search (local-rules, agree-bind r w d, stmts-local) depth 9 fits 4000

  rest-typed : (number outer : ℕ) (ds : List Decl) (names : List Binding) (n : ℕ) (x : List ℕ) → 1 ≤ d → is_typedef_name (input names r n) x ≡ true → Left (length r) (rest_by limit p number outer ds (input names (Some (Identifier x) ∷ r) n))
  rest-typed number outer ds names n x pos e = left-bind (stmts-typed pos names n x e) (λ ss j h. search forward-rules depth 9 fits 4000)

  pub block-strict : Local r w (suc d) (λ _. d) (block limit p) (block limit' p')
  unfolding block
  block-strict names n t t' h = agree-bind r w d _ (expect-strict r w d m.OpenBrace names n t t' h)
      (λ x names' n' t t' h. bind-upto d (rest_by limit' p' n (length names')) (declarations-upto r w limit limit' d c c' names' n' t t' h) (rest-local n (length names')) (rest-left n (length names')) (rest-typed n (length names')))
      (λ x n i h. search (forward-rules, declarations-left limit, stmts-left limit p g.left) depth 9 fits 4000)

-- ---- statements

module _ (r w : List (Option Symbol)) (limit limit' d : ℕ) (c : suc d ≤ limit) (c' : suc d ≤ limit') (p p' : Parser Stmt) (g : LocalStmt r w d p p') where
  low : d ≤ limit
  low = omega (arith, c)

  low' : d ≤ limit'
  low' = omega (arith, c')

  compound-by-strict : (s : Option Symbol) → Local r w (suc d) (λ _. d) (compound_by limit p s) (compound_by limit' p' s)
  compound-by-strict (Some (Reserved k.If)) = if_stmt-strict r w limit limit' d low low' p p' g
  compound-by-strict (Some (Reserved k.Switch)) = switch_stmt-strict r w limit limit' d low low' p p' g
  compound-by-strict (Some (Reserved k.While)) = while_stmt-strict r w limit limit' d low low' p p' g
  compound-by-strict (Some (Reserved k.Do)) = do_stmt-strict r w limit limit' d low low' p p' g
  compound-by-strict (Some (Reserved k.For)) = for_stmt-strict r w limit limit' d low low' p p' g
  compound-by-strict None = expression_stmt-strict r w limit limit' d c c'
  compound-by-strict (Some _) = expression_stmt-strict r w limit limit' d c c'

  compound-strict : Local r w (suc d) (λ _. d) (compound limit p) (compound limit' p')
  unfolding compound
  compound-strict = peeked r w (suc d) (compound_by limit p) (compound_by limit' p') compound-by-strict (compound-left limit p g.left)

  unlabeled-by-strict : (s : Option Symbol) → Local r w (suc d) (λ _. d) (unlabeled_by limit p s) (unlabeled_by limit' p' s)
  unlabeled-by-strict (Some (Sign m.OpenBrace)) names n t t' h = agree-bind r w d _ (block-strict r w limit limit' d low low' p p' g names n t t' h) (λ x names n t t' h. answers h) (λ x n i h. search forward-rules)
  unlabeled-by-strict (Some (Sign m.Semicolon)) names n t t' h = empty_stmt-strict r w d names n t t' h
  unlabeled-by-strict (Some (Reserved k.Goto)) names n t t' h = goto_stmt-strict r w d names n t t' h
  unlabeled-by-strict (Some (Reserved k.Continue)) names n t t' h = continue_stmt-strict r w d names n t t' h
  unlabeled-by-strict (Some (Reserved k.Break)) names n t t' h = break_stmt-strict r w d names n t t' h
  unlabeled-by-strict (Some (Reserved k.Return)) names n t t' h = return_stmt-strict r w limit limit' d low low' names n t t' h
  unlabeled-by-strict None names n t t' h = compound-strict names n t t' h
  unlabeled-by-strict (Some _) names n t t' h = compound-strict names n t t' h

  unlabeled-strict : Local r w (suc d) (λ _. d) (unlabeled limit p) (unlabeled limit' p')
  unfolding unlabeled
  unlabeled-strict = peeked r w (suc d) (unlabeled_by limit p) (unlabeled_by limit' p') unlabeled-by-strict (unlabeled-left limit p g.left)

  -- a statement that begins with an ordinary name reads it
  unlabeled-name : (names : List Binding) (n : ℕ) (x : List ℕ) → is_typedef_name (input names r n) x ≡ false → Left (length r) (unlabeled limit p (input names (Some (Identifier x) ∷ r) n))
  unfolding unlabeled compound expression_stmt ahead
  unlabeled-name names n x e = left-bind ((parts-open limit (omega (arith, c))).name comma names n x r e) (λ e j h. search forward-rules)

  stmt_of-strict : Local r w (suc d) (λ _. d) (stmt_of limit p) (stmt_of limit' p')
  unfolding stmt_of
  stmt_of-strict names n t t' h = bind-upto (suc d) _ (labels-upto r w limit limit' (suc d) c c' names n t t' h)
      (λ ls names n t t' h. agree-bind r w d _ (unlabeled-strict names n t t' h) (λ s names n t t' h. answers h) (λ s n i h. search forward-rules))
      (λ ls n i h. search (forward-rules, unlabeled-left limit p g.left))
      (λ ls names n x pos e. left-bind (unlabeled-name names n x e) (λ s j h. search forward-rules))

  -- a typedef name at the beginning is a label
  stmt_of-typed : (names : List Binding) (n : ℕ) (x : List ℕ) → is_typedef_name (input names r n) x ≡ true → Left (length r) (stmt_of limit p (input names (Some (Identifier x) ∷ r) n))
  unfolding stmt_of
  stmt_of-typed names n x e = left-bind (labels-typed limit r names n x e) (λ ls j h. search (forward-rules, unlabeled-left limit p g.left))

stmt-larger : (r w : List (Option Symbol)) (limit limit' m : ℕ) → suc m ≤ limit → suc m ≤ limit' → (depth depth' : ℕ) → LocalStmt r w m (stmt limit depth) (stmt limit' depth') → LocalStmt r w (suc m) (stmt limit (suc depth)) (stmt limit' (suc depth'))
unfolding stmt
stmt-larger r w limit limit' m c c' depth depth' g = record {
  left = stmt-left limit (suc depth);
  strict = λ j e. stmt_of-strict r w limit limit' j (omega (arith, e, c)) (omega (arith, e, c')) (stmt limit depth) (stmt limit' depth') (fewer g j (omega (arith, e)));
  typed = λ e. stmt_of-typed r w limit limit' m c c' (stmt limit depth) (stmt limit' depth') g;
}

pub stmt-local : (r w : List (Option Symbol)) (limit limit' m : ℕ) → m ≤ limit → m ≤ limit' → (depth depth' : ℕ) → m ≤ depth → m ≤ depth' → LocalStmt r w m (stmt limit depth) (stmt limit' depth')
stmt-local r w limit limit' zero c c' depth depth' e e' = record { left = stmt-left limit depth; strict = λ j h. no_turns h; typed = λ h. no_turns h }
stmt-local r w limit limit' (suc m) c c' zero depth' e e' = no_turns e
stmt-local r w limit limit' (suc m) c c' (suc depth) zero e e' = no_turns e'
stmt-local r w limit limit' (suc m) c c' (suc depth) (suc depth') e e' =
    stmt-larger r w limit limit' m c c' depth depth' (stmt-local r w limit limit' m (omega (arith, c)) (omega (arith, c')) depth depth' (omega (arith, e)) (omega (arith, e')))
