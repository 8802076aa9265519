-- Statements are read (6.6).
use Rattle.std.proofs.Common.{◌≡◌, ℕ, zero, suc, ◌+◌, ◌<◌, ◌≤◌, true, false, not, List, [], ◌∷◌, ◌++◌, length, map, Option, Some, None, Ok, arith, refl, sym, ap, ◌∙◌}
use Rattle.pw_tree.specs.Numbering.{past_expr, past_optional, past_decls, past_label, past_labels, past_stmt, past_alternative, past_stmts, Numbered, NumberedOptional, NumberedDecls, NumberedLabel, NumberedLabels, NumberedStmt, NumberedAlternative, NumberedStmts}
use Rattle.pw_tree.specs.Scopes.{after_expr, after_optional, after_decls, after_label, after_labels, after_stmt, after_alternative, Env}
use Rattle.pw_tree.specs.Spelling.{spell_expr, spell_optional, spell_decls, spell_label, spell_labels, spell_stmt, spell_alternative, spell_stmts}
use Rattle.pw_tree.specs.Symbols.{Symbol, Reserved, Sign}
use Rattle.pw_tree.specs.Trees.{Expr, Decl, Label, CaseLabel, DefaultLabel, NameLabel, Stmt, Compound, Expression, Empty, Labeled, If, Switch, While, Do, For, Goto, Continue, Break, Return, Alternative, NoElse, Otherwise, ElseIf, Braced, Stmts, NoStmt, Next}
use Rattle.pw_tree.specs.WellFormed.{WellFormed, WellFormedOptional, WellFormedDecls, WellFormedLabel, WellFormedLabels, NotLabeled, ends_open, alternative_ends_open, MayPrecede, WellFormedStmt, WellFormedAlternative, WellFormedStmts}
use Rattle.pw_token.specs.declared.symbol.Keyword.TheVariants as k
use Rattle.pw_token.specs.declared.symbol.Mark.{Mark}
use Rattle.pw_token.specs.declared.symbol.Mark.TheVariants as m
use Rattle.pw_parse_grammar.specs.Input.{ahead, step, same_mark, same_keyword, is_mark, is_keyword, sees, sees_keyword, Parser, ◌<$>◌, past, past_keyword, expect, expect_keyword, identifier_by, repeat, turn_of}
use Rattle.pw_parse_grammar.specs.Statements as rules
use Rattle.pw_parse_grammar.specs.Tests.{begins_declaration, begins_specifier}
use Rattle.pw_parse_grammar.specs.Statements.{case_label, default_label, name_label, label, labels, expression_stmt, empty_stmt, goto_stmt, continue_stmt, break_stmt, up_to, return_stmt, condition, else_if, behind_else, alternative, alternatives, if_stmt, switch_stmt, while_stmt, do_stmt, for_stmt, stmt_next, stmts, block, compound, unlabeled, with_labels, stmt_of, stmt}
use Rattle.pw_parse_grammar.proofs.Trees.Base.{at, same, left, turns_enough, no_turns, true_is_not_false, turn_more, turn_last, some_more, some_last}
use Rattle.pw_parse_grammar.proofs.Written.Declarations.{decls-read}
use Rattle.pw_parse_grammar.proofs.Trees.Follow.{Follow, head, joins}
use Rattle.pw_parse_grammar.proofs.Trees.Heads.{begins_expr, expr-begins, expr-no_semicolon, expr-no_close_paren}
use Rattle.pw_parse_grammar.proofs.Written.Knot.{parts-know}
use Rattle.pw_parse_grammar.proofs.Written.Knows.{level_at_most}
use Rattle.pw_parse_grammar.proofs.Trees.Lengths.{length-expr, length-optional, length-label, length-labels, length-stmt, length-stmts, length-decls}
use Rattle.pw_parse_grammar.proofs.Trees.Spreads.{spreads-decls, spreads-stmt}
use Rattle.pw_parse_grammar.proofs.Trees.StatementHeads.{begins_stmt, stmt-begins, stmt-no_declaration, stmt-no_else, stmt-no_close, stmt-no_if, no-label, begins-expression}

-- the names visible behind statements
abbrev pub after_stmts : Env → Stmts → Env
after_stmts env NoStmt = env
after_stmts env (Next s ss) = after_stmts (after_stmt env s) ss

pub spreads-stmts : (more env : Env) (ss : Stmts) → after_stmts (more ++ env) ss ≡ after_stmts more ss ++ env
spreads-stmts more env NoStmt = refl
spreads-stmts more env (Next s ss) = ap (λ v. after_stmts v ss) (spreads-stmt more env s) ∙ spreads-stmts (after_stmt more s) env ss

pub begins-long : (env : Env) (tokens : List Symbol) → begins_stmt env (head tokens) ≡ true → 0 < length tokens
begins-long env [] h = true_is_not_false h
begins-long env (s ∷ tokens) h = omega arith

pub label-long : (l : Label) → 0 < length (spell_label l [])
label-long (CaseLabel t e) = omega arith
label-long (DefaultLabel t) = omega arith
label-long (NameLabel w) = omega arith

-- what stands behind a statement of a block, and what begins a block's statements
stmts-follow : (env : Env) (ss : Stmts) (z : List Symbol) → WellFormedStmts env ss → is_keyword k.Else (head (spell_stmts ss (Sign m.CloseBrace ∷ z))) ≡ false
unfolding spell_stmt WellFormedStmt
stmts-follow env NoStmt z w = refl
stmts-follow env (Next s ss) z w = stmt-no_else env (head (spell_stmt s (spell_stmts ss (Sign m.CloseBrace ∷ z)))) (stmt-begins env s (spell_stmts ss (Sign m.CloseBrace ∷ z)) w.0)

stmts-no_declaration : (env : Env) (ss : Stmts) (z : List Symbol) → WellFormedStmts env ss → (i : ℕ) → begins_declaration true (at env (spell_stmts ss (Sign m.CloseBrace ∷ z)) i) ≡ false
unfolding begins_declaration begins_specifier ahead spell_stmt WellFormedStmt
stmts-no_declaration env NoStmt z w i = refl
stmts-no_declaration env (Next s ss) z w i = stmt-no_declaration env s (spell_stmts ss (Sign m.CloseBrace ∷ z)) i w.0

-- what a block declares is declared in it alone
inner : (env : Env) (ds : List Decl) (ss : Stmts) → after_stmts (after_decls env ds) ss ≡ after_stmts (after_decls [] ds) ss ++ env
inner env ds ss = ap (λ v. after_stmts v ss) (spreads-decls [] env ds) ∙ spreads-stmts (after_decls [] ds) env ss

module _ (limit : ℕ) where
  expression-read : (env : Env) (e : Expr) (z : List Symbol) (n i : ℕ) → WellFormed env e → Numbered n e → Follow 16 z → length (spell_expr e z) < limit → i ≡ n
      → rules.expression limit (at env (spell_expr e z) i) ≡ Ok (e, at (after_expr env e) z (past_expr n e))
  expression-read env e z n i w num follow short at_n = (parts-know limit).expr 16 (omega arith) env e z n i w num (level_at_most e) follow short at_n

  -- ---- 6.6.1

  label-read : (env : Env) (l : Label) (z : List Symbol) (n i : ℕ) → WellFormedLabel env l → NumberedLabel n l → length (spell_label l z) < limit → i ≡ n
      → label limit (at env (spell_label l z) i) ≡ Ok (Some (λ more. l ∷ more), at (after_label env l) z (past_label n l))
  unfolding label case_label default_label name_label expect sees ahead step same_mark
  label-read env (CaseLabel t e) z n i w num short at_n =
      rw ((parts-know limit).expr 14 (omega arith) env e (Sign m.Colon ∷ z) (n + 1) (i + 1) w.1 num.1 w.0 (omega arith) (omega (arith, short)) (omega (arith, at_n)))
      (same (after_expr env e) z (ap (λ v. Some (λ more. CaseLabel v e ∷ more)) (at_n ∙ sym num.0)) (omega (arith, length-expr e (Sign m.Colon ∷ []))))
  label-read env (DefaultLabel t) z n i w num short at_n = same env z (ap (λ v. Some (λ more. DefaultLabel v ∷ more)) (at_n ∙ sym num)) (omega (arith, at_n))
  label-read env (NameLabel x) z n i w num short at_n =
      same env z (ap (λ v. Some (λ more. NameLabel (record { token = v; text = x.text }) ∷ more)) (at_n ∙ sym num)) (omega (arith, at_n))

  abbrev label_next : Parser (Option (List Label → List Label))
  label_next = label limit

  labels-turns : (count : ℕ) (env : Env) (ls : List Label) (z : List Symbol) (n i : ℕ) → WellFormedLabels env ls → NumberedLabels n ls → ((j : ℕ) → label limit (at (after_labels env ls) z j) ≡ Ok (None, at (after_labels env ls) z j))
      → length (spell_labels ls z) < count → length (spell_labels ls z) < limit → i ≡ n
      → repeat (turn_of [] <$> label_next) count (at env (spell_labels ls z) i) ≡ Ok (ls, at (after_labels env ls) z (past_labels n ls))
  labels-turns zero env ls z n i w num none enough short at_n = no_turns enough
  labels-turns (suc count) env [] z n i w num none enough short at_n = some_last [] label_next count (at env z i) (at env z i) (none i) ∙ same env z refl (omega (arith, at_n))
  labels-turns (suc count) env (l ∷ ls) z n i w num none enough short at_n =
      some_more [] label_next count (at env (spell_labels (l ∷ ls) z) i) (at (after_label env l) (spell_labels ls z) (past_label n l)) (at (after_labels (after_label env l) ls) z (past_labels (past_label n l) ls)) (λ more. l ∷ more) ls
      (label-read env l (spell_labels ls z) n i w.0 num.0 short at_n)
      (labels-turns count (after_label env l) ls z (past_label n l) (past_label n l) w.1 num.1 none (omega (arith, enough, length-label l (spell_labels ls z), label-long l)) (omega (arith, short, length-label l (spell_labels ls z))) refl)
      ∙ same (after_labels (after_label env l) ls) z refl (omega (arith, length-label l (spell_labels ls [])))

  labels-read : (env : Env) (ls : List Label) (z : List Symbol) (n i : ℕ) → WellFormedLabels env ls → NumberedLabels n ls → ((j : ℕ) → label limit (at (after_labels env ls) z j) ≡ Ok (None, at (after_labels env ls) z j))
      → length (spell_labels ls z) < limit → i ≡ n
      → labels limit (at env (spell_labels ls z) i) ≡ Ok (ls, at (after_labels env ls) z (past_labels n ls))
  unfolding labels
  labels-read env ls z n i w num none short at_n = labels-turns _ env ls z n i w num none (turns_enough (spell_labels ls z)) short at_n

  -- ---- expressions in statements

  condition-read : (env : Env) (c : Expr) (z : List Symbol) (n i : ℕ) → WellFormed env c → Numbered n c → length (spell_expr c (Sign m.CloseParen ∷ z)) < limit → i + 1 ≡ n
      → condition limit (at env (Sign m.OpenParen ∷ spell_expr c (Sign m.CloseParen ∷ z)) i) ≡ Ok (c, at (after_expr env c) z (past_expr n c + 1))
  unfolding condition expect sees ahead step same_mark
  condition-read env c z n i w num short at_n = rw (expression-read env c (Sign m.CloseParen ∷ z) n (i + 1) w num (omega arith) short at_n) refl

  up_to-read : (mk : Mark) → same_mark mk mk ≡ true → ((env : Env) (o : Option Symbol) → begins_expr env o ≡ true → is_mark mk o ≡ false) → 16 < joins (Some (Sign mk))
      → (env : Env) (x : Option Expr) (z : List Symbol) (n i : ℕ) → WellFormedOptional env x → NumberedOptional n x → length (spell_optional x (Sign mk ∷ z)) < limit → i ≡ n
      → up_to limit mk (at env (spell_optional x (Sign mk ∷ z)) i) ≡ Ok (x, at (after_optional env x) z (past_optional n x + 1))
  unfolding up_to expect sees past ahead step
  up_to-read mk self none follow env None z n i w num short at_n = rw self (same env z refl (omega (arith, at_n)))
  up_to-read mk self none follow env (Some e) z n i w num short at_n =
      rw (none env (head (spell_expr e (Sign mk ∷ z))) (expr-begins env e (Sign mk ∷ z) w))
      (rw (expression-read env e (Sign mk ∷ z) n i w num follow short at_n) (rw self refl))

  up_to-semicolon : (env : Env) (x : Option Expr) (z : List Symbol) (n i : ℕ) → WellFormedOptional env x → NumberedOptional n x → length (spell_optional x (Sign m.Semicolon ∷ z)) < limit → i ≡ n
      → up_to limit m.Semicolon (at env (spell_optional x (Sign m.Semicolon ∷ z)) i) ≡ Ok (x, at (after_optional env x) z (past_optional n x + 1))
  unfolding same_mark
  up_to-semicolon = up_to-read m.Semicolon refl expr-no_semicolon (omega arith)

  up_to-close : (env : Env) (x : Option Expr) (z : List Symbol) (n i : ℕ) → WellFormedOptional env x → NumberedOptional n x → length (spell_optional x (Sign m.CloseParen ∷ z)) < limit → i ≡ n
      → up_to limit m.CloseParen (at env (spell_optional x (Sign m.CloseParen ∷ z)) i) ≡ Ok (x, at (after_optional env x) z (past_optional n x + 1))
  unfolding same_mark
  up_to-close = up_to-read m.CloseParen refl expr-no_close_paren (omega arith)

  -- ---- statements, where p reads those of fewer tokens than d

  abbrev pub ReadsStmt : ℕ → Parser Stmt → Type 0
  ReadsStmt d p = (env : Env) (x : Stmt) (z : List Symbol) (n i : ℕ) → WellFormedStmt env x → NumberedStmt n x → (ends_open x ≡ true → is_keyword k.Else (head z) ≡ false)
      → length (spell_stmt x z) < d → length (spell_stmt x z) < limit → i ≡ n → p (at env (spell_stmt x z) i) ≡ Ok (x, at (after_stmt env x) z (past_stmt n x))

  module _ (d : ℕ) (p : Parser Stmt) (reads : ReadsStmt d p) where
    -- ---- 6.6.4.1

    else_if-read : (env : Env) (c : Expr) (s : Stmt) (z : List Symbol) (n i : ℕ) → WellFormed env c → WellFormedStmt (after_expr env c) s → Numbered n c → NumberedStmt (past_expr n c + 1) s → (ends_open s ≡ true → is_keyword k.Else (head z) ≡ false)
        → length (spell_expr c (Sign m.CloseParen ∷ spell_stmt s z)) < d → length (spell_expr c (Sign m.CloseParen ∷ spell_stmt s z)) < limit → i + 2 ≡ n
        → else_if limit p (at env (Reserved k.If ∷ Sign m.OpenParen ∷ spell_expr c (Sign m.CloseParen ∷ spell_stmt s z)) i) ≡ Ok (ElseIf i c s, at (after_stmt (after_expr env c) s) z (past_stmt (past_expr n c + 1) s))
    unfolding else_if step
    else_if-read env c s z n i w v num nums follow short within at_n =
        let long = length-expr c (Sign m.CloseParen ∷ spell_stmt s z) in
        rw (condition-read env c (spell_stmt s z) n (i + 1) w num within (omega (arith, at_n)))
        (rw (reads (after_expr env c) s z (past_expr n c + 1) (past_expr n c + 1) v nums follow (omega (arith, short, long)) (omega (arith, within, long)) refl) refl)

    -- what stands behind the statement of an `if`
    alternative-follow : (s : Stmt) (a : Alternative) (z : List Symbol) → MayPrecede s a → (alternative_ends_open a ≡ true → is_keyword k.Else (head z) ≡ false) → ends_open s ≡ true → is_keyword k.Else (head (spell_alternative a z)) ≡ false
    unfolding spell_stmt
    alternative-follow s NoElse z may follow is_open = follow refl
    alternative-follow s (Otherwise t) z may follow is_open = true_is_not_false (sym may ∙ is_open)
    alternative-follow s (ElseIf n c t a) z may follow is_open = true_is_not_false (sym may ∙ is_open)

    alternatives-turns : (count : ℕ) (env : Env) (a : Alternative) (z : List Symbol) (n i : ℕ) → WellFormedAlternative env a → NumberedAlternative n a → (alternative_ends_open a ≡ true → is_keyword k.Else (head z) ≡ false)
        → length (spell_alternative a z) < count → length (spell_alternative a z) < d → length (spell_alternative a z) < limit → i ≡ n
        → repeat (alternative limit p) count (at env (spell_alternative a z) i) ≡ Ok (a, at (after_alternative env a) z (past_alternative n a))
    unfolding alternative behind_else sees_keyword past_keyword ahead step same_keyword spell_stmt WellFormedStmt NumberedStmt after_stmt
    alternatives-turns zero env a z n i w num follow enough short within at_n = no_turns enough
    alternatives-turns (suc count) env NoElse z n i w num follow enough short within at_n =
        turn_last (alternative limit p) count (at env z i) (at env z i) NoElse (rw (follow refl) refl) ∙ same env z refl (omega (arith, at_n))
    alternatives-turns (suc count) env (Otherwise s) z n i w num follow enough short within at_n =
        turn_last (alternative limit p) count (at env (Reserved k.Else ∷ spell_stmt s z) i) (at (after_stmt env s) z (past_stmt (n + 1) s)) (Otherwise s)
        (rw (stmt-no_if env s z w.0 w.1) (rw (reads env s z (n + 1) (i + 1) w.1 num follow (omega (arith, short)) (omega (arith, within)) (omega (arith, at_n))) refl))
        ∙ same (after_stmt env s) z refl (omega arith)
    alternatives-turns (suc count) env (ElseIf t c s a) z n i w num follow enough short within at_n =
        let inner = after_stmt (after_expr env c) s in
        let behind = past_stmt (past_expr (n + 3) c + 1) s in
        let more = spell_alternative a z in
        let long = length-expr c (Sign m.CloseParen ∷ spell_stmt s more) in
        turn_more (alternative limit p) count (at env (spell_alternative (ElseIf t c s a) z) i) (at inner more behind) (at (after_alternative inner a) z (past_alternative behind a)) (ElseIf (i + 1) c s) a
        (rw (else_if-read env c s more (n + 3) (i + 1) w.0 w.1 num.1 num.2 (alternative-follow s a z w.2 follow) (omega (arith, short)) (omega (arith, within)) (omega (arith, at_n))) refl)
        (alternatives-turns count inner a z behind behind w.3 num.3 follow (omega (arith, enough, long, length-stmt s more)) (omega (arith, short, long, length-stmt s more)) (omega (arith, within, long, length-stmt s more)) refl)
        ∙ same (after_alternative inner a) z (ap (λ v. ElseIf v c s a) (omega (arith, at_n, num.0))) (omega (arith, length-expr c (Sign m.CloseParen ∷ spell_stmt s (spell_alternative a [])), length-stmt s (spell_alternative a [])))

    if-read : (env : Env) (c : Expr) (s : Stmt) (a : Alternative) (z : List Symbol) (n i : ℕ) → WellFormed env c → WellFormedStmt (after_expr env c) s → MayPrecede s a → WellFormedAlternative (after_stmt (after_expr env c) s) a
        → Numbered (n + 2) c → NumberedStmt (past_expr (n + 2) c + 1) s → NumberedAlternative (past_stmt (past_expr (n + 2) c + 1) s) a → (alternative_ends_open a ≡ true → is_keyword k.Else (head z) ≡ false)
        → length (spell_expr c (Sign m.CloseParen ∷ spell_stmt s (spell_alternative a z))) < d → length (spell_expr c (Sign m.CloseParen ∷ spell_stmt s (spell_alternative a z))) < limit → i ≡ n
        → if_stmt limit p (at env (Reserved k.If ∷ Sign m.OpenParen ∷ spell_expr c (Sign m.CloseParen ∷ spell_stmt s (spell_alternative a z))) i)
        ≡ Ok (If i c s a, at (after_alternative (after_stmt (after_expr env c) s) a) z (past_alternative (past_stmt (past_expr (n + 2) c + 1) s) a))
    unfolding if_stmt alternatives step
    if-read env c s a z n i w v may u num nums numa follow short within at_n =
        let more = spell_alternative a z in
        let long = length-expr c (Sign m.CloseParen ∷ spell_stmt s more) in
        let behind = past_stmt (past_expr (n + 2) c + 1) s in
        rw (condition-read env c (spell_stmt s more) (n + 2) (i + 1) w num within (omega (arith, at_n)))
        (rw (reads (after_expr env c) s more (past_expr (n + 2) c + 1) (past_expr (n + 2) c + 1) v nums (alternative-follow s a z may follow) (omega (arith, short, long)) (omega (arith, within, long)) refl)
        (rw (alternatives-turns (length (map Some more) + 1) (after_stmt (after_expr env c) s) a z behind behind u numa follow (turns_enough more) (omega (arith, short, long, length-stmt s more)) (omega (arith, within, long, length-stmt s more)) refl) refl))

    -- ---- 6.6.2

    stmts-turns : (count : ℕ) (env : Env) (ss : Stmts) (z : List Symbol) (n i : ℕ) → WellFormedStmts env ss → NumberedStmts n ss → length (spell_stmts ss (Sign m.CloseBrace ∷ z)) < count
        → length (spell_stmts ss (Sign m.CloseBrace ∷ z)) < d → length (spell_stmts ss (Sign m.CloseBrace ∷ z)) < limit → i ≡ n
        → repeat (turn_of NoStmt <$> stmt_next limit p) count (at env (spell_stmts ss (Sign m.CloseBrace ∷ z)) i) ≡ Ok (ss, at (after_stmts env ss) (Sign m.CloseBrace ∷ z) (past_stmts n ss))
    unfolding stmt_next sees ahead same_mark spell_stmt WellFormedStmt NumberedStmt
    stmts-turns zero env ss z n i w num enough short within at_n = no_turns enough
    stmts-turns (suc count) env NoStmt z n i w num enough short within at_n =
        some_last NoStmt (stmt_next limit p) count (at env (Sign m.CloseBrace ∷ z) i) (at env (Sign m.CloseBrace ∷ z) i) refl ∙ same env (Sign m.CloseBrace ∷ z) refl (omega (arith, at_n))
    stmts-turns (suc count) env (Next s ss) z n i w num enough short within at_n =
        let more = spell_stmts ss (Sign m.CloseBrace ∷ z) in
        let long = length-stmt s more in
        some_more NoStmt (stmt_next limit p) count (at env (spell_stmt s more) i) (at (after_stmt env s) more (past_stmt n s)) (at (after_stmts (after_stmt env s) ss) (Sign m.CloseBrace ∷ z) (past_stmts (past_stmt n s) ss)) (Next s) ss
        (rw (stmt-no_close env (head (spell_stmt s more)) (stmt-begins env s more w.0)) (rw (reads env s more n i w.0 num.0 (λ is_open. stmts-follow (after_stmt env s) ss z w.1) short within at_n) refl))
        (stmts-turns count (after_stmt env s) ss z (past_stmt n s) (past_stmt n s) w.1 num.1 (omega (arith, enough, long, begins-long env (spell_stmt s []) (stmt-begins env s [] w.0))) (omega (arith, short, long)) (omega (arith, within, long)) refl)
        ∙ same (after_stmts (after_stmt env s) ss) (Sign m.CloseBrace ∷ z) refl (omega (arith, length-stmt s (spell_stmts ss [])))

    pub block-read : (env : Env) (t : ℕ) (ds : List Decl) (ss : Stmts) (z : List Symbol) (n i : ℕ) → WellFormedDecls env ds → WellFormedStmts (after_decls env ds) ss → NumberedDecls (n + 1) ds → NumberedStmts (past_decls (n + 1) ds) ss
        → length (spell_decls ds (spell_stmts ss (Sign m.CloseBrace ∷ z))) < d → length (spell_decls ds (spell_stmts ss (Sign m.CloseBrace ∷ z))) < limit → i ≡ n
        → block limit p (at env (Sign m.OpenBrace ∷ spell_decls ds (spell_stmts ss (Sign m.CloseBrace ∷ z))) i) ≡ Ok (Braced i ds ss, at env z (past_stmts (past_decls (n + 1) ds) ss + 1))
    unfolding block stmts expect sees ahead step same_mark
    block-read env t ds ss z n i w v num nums short within at_n =
        let text = spell_stmts ss (Sign m.CloseBrace ∷ z) in
        let long = length-decls ds text in
        rw (decls-read limit true env ds text (n + 1) (i + 1) w num (stmts-no_declaration (after_decls env ds) ss z v) within (omega (arith, at_n)))
        (rw (stmts-turns (length (map Some text) + 1) (after_decls env ds) ss z (past_decls (n + 1) ds) (past_decls (n + 1) ds) v nums (turns_enough text) (omega (arith, short, long)) (omega (arith, within, long)) refl)
        (rw (inner env ds ss) (rw (left (after_stmts (after_decls [] ds) ss) env) refl)))

    -- ---- 6.6

    unlabeled-read : (env : Env) (x : Stmt) (z : List Symbol) (n i : ℕ) → NotLabeled x → WellFormedStmt env x → NumberedStmt n x → (ends_open x ≡ true → is_keyword k.Else (head z) ≡ false)
        → length (spell_stmt x z) ≤ d → length (spell_stmt x z) < limit → i ≡ n → unlabeled limit p (at env (spell_stmt x z) i) ≡ Ok (x, at (after_stmt env x) z (past_stmt n x))
    unfolding unlabeled compound expression_stmt empty_stmt goto_stmt continue_stmt break_stmt return_stmt switch_stmt while_stmt do_stmt for_stmt identifier_by expect expect_keyword sees sees_keyword ahead step same_mark same_keyword spell_stmt WellFormedStmt NumberedStmt after_stmt
    unlabeled-read env (Compound (Braced t ds ss)) z n i not w num follow short within at_n =
        rw (block-read env t ds ss z n i w.0 w.1 num.1 num.2 (omega (arith, short)) (omega (arith, within)) at_n)
        (same env z (ap (λ v. Compound (Braced v ds ss)) (at_n ∙ sym num.0)) (omega (arith, length-decls ds (spell_stmts ss (Sign m.CloseBrace ∷ [])), length-stmts ss (Sign m.CloseBrace ∷ []))))
    unlabeled-read env (Expression e) z n i not w num follow short within at_n =
        begins-expression limit env env p (spell_expr e (Sign m.Semicolon ∷ z)) i (expr-begins env e (Sign m.Semicolon ∷ z) w)
        ∙ rw (expression-read env e (Sign m.Semicolon ∷ z) n i w num (omega arith) within at_n) (same (after_expr env e) z refl (omega (arith, length-expr e (Sign m.Semicolon ∷ []))))
    unlabeled-read env (Empty t) z n i not w num follow short within at_n = same env z (ap (λ v. Empty v) (at_n ∙ sym num)) (omega (arith, at_n))
    unlabeled-read env (Labeled ls s) z n i not w num follow short within at_n = absurd not
    unlabeled-read env (If t c s a) z n i not w num follow short within at_n =
        if-read env c s a z n i w.0 w.1 w.2 w.3 num.1 num.2 num.3 follow (omega (arith, short)) (omega (arith, within)) at_n
        ∙ same (after_alternative (after_stmt (after_expr env c) s) a) z (ap (λ v. If v c s a) (at_n ∙ sym num.0)) (omega (arith, length-expr c (Sign m.CloseParen ∷ spell_stmt s (spell_alternative a [])), length-stmt s (spell_alternative a [])))
    unlabeled-read env (Switch t e s) z n i not w num follow short within at_n =
        let long = length-expr e (Sign m.CloseParen ∷ spell_stmt s z) in
        rw (condition-read env e (spell_stmt s z) (n + 2) (i + 1) w.0 num.1 (omega (arith, within)) (omega (arith, at_n)))
        (rw (reads (after_expr env e) s z (past_expr (n + 2) e + 1) (past_expr (n + 2) e + 1) w.1 num.2 follow (omega (arith, short, long)) (omega (arith, within, long)) refl)
        (same (after_stmt (after_expr env e) s) z (ap (λ v. Switch v e s) (at_n ∙ sym num.0)) (omega (arith, length-expr e (Sign m.CloseParen ∷ spell_stmt s [])))))
    unlabeled-read env (While t e s) z n i not w num follow short within at_n =
        let long = length-expr e (Sign m.CloseParen ∷ spell_stmt s z) in
        rw (condition-read env e (spell_stmt s z) (n + 2) (i + 1) w.0 num.1 (omega (arith, within)) (omega (arith, at_n)))
        (rw (reads (after_expr env e) s z (past_expr (n + 2) e + 1) (past_expr (n + 2) e + 1) w.1 num.2 follow (omega (arith, short, long)) (omega (arith, within, long)) refl)
        (same (after_stmt (after_expr env e) s) z (ap (λ v. While v e s) (at_n ∙ sym num.0)) (omega (arith, length-expr e (Sign m.CloseParen ∷ spell_stmt s [])))))
    unlabeled-read env (Do t s e) z n i not w num follow short within at_n =
        let text = Reserved k.While ∷ Sign m.OpenParen ∷ spell_expr e (Sign m.CloseParen ∷ Sign m.Semicolon ∷ z) in
        let long = length-stmt s text in
        rw (reads env s text (n + 1) (i + 1) w.0 num.1 (λ is_open. refl) (omega (arith, short)) (omega (arith, within)) (omega (arith, at_n)))
        (rw (condition-read (after_stmt env s) e (Sign m.Semicolon ∷ z) (past_stmt (n + 1) s + 2) (past_stmt (n + 1) s + 1) w.1 num.2 (omega (arith, within, long)) (omega arith))
        (same (after_expr (after_stmt env s) e) z (ap (λ v. Do v s e) (at_n ∙ sym num.0)) (omega (arith, length-stmt s (Reserved k.While ∷ Sign m.OpenParen ∷ spell_expr e (Sign m.CloseParen ∷ Sign m.Semicolon ∷ [])), length-expr e (Sign m.CloseParen ∷ Sign m.Semicolon ∷ [])))))
    unlabeled-read env (For t a b c s) z n i not w num follow short within at_n =
        let third = spell_optional c (Sign m.CloseParen ∷ spell_stmt s z) in
        let second = spell_optional b (Sign m.Semicolon ∷ third) in
        let la = length-optional a (Sign m.Semicolon ∷ second) in
        let lb = length-optional b (Sign m.Semicolon ∷ third) in
        let lc = length-optional c (Sign m.CloseParen ∷ spell_stmt s z) in
        let na = past_optional (n + 2) a + 1 in
        let nb = past_optional na b + 1 in
        let nc = past_optional nb c + 1 in
        let ea = after_optional env a in
        let eb = after_optional ea b in
        let ec = after_optional eb c in
        rw (up_to-semicolon env a second (n + 2) (i + 1 + 1) w.0 num.1 (omega (arith, within)) (omega (arith, at_n)))
        (rw (up_to-semicolon ea b third na na w.1 num.2 (omega (arith, within, la)) refl)
        (rw (up_to-close eb c (spell_stmt s z) nb nb w.2 num.3 (omega (arith, within, la, lb)) refl)
        (rw (reads ec s z nc nc w.3 num.4 follow (omega (arith, short, la, lb, lc)) (omega (arith, within, la, lb, lc)) refl)
        (same (after_stmt ec s) z (ap (λ v. For v a b c s) (at_n ∙ sym num.0))
        (omega (arith, length-optional a (Sign m.Semicolon ∷ spell_optional b (Sign m.Semicolon ∷ spell_optional c (Sign m.CloseParen ∷ spell_stmt s []))), length-optional b (Sign m.Semicolon ∷ spell_optional c (Sign m.CloseParen ∷ spell_stmt s [])), length-optional c (Sign m.CloseParen ∷ spell_stmt s [])))))))
    unlabeled-read env (Goto t x) z n i not w num follow short within at_n =
        same env z (ap (λ v. Goto v (record { token = i + 1; text = x.text })) (at_n ∙ sym num.0) ∙ ap (λ v. Goto t (record { token = v; text = x.text })) (omega (arith, at_n, num.1))) (omega (arith, at_n))
    unlabeled-read env (Continue t) z n i not w num follow short within at_n = same env z (ap (λ v. Continue v) (at_n ∙ sym num)) (omega (arith, at_n))
    unlabeled-read env (Break t) z n i not w num follow short within at_n = same env z (ap (λ v. Break v) (at_n ∙ sym num)) (omega (arith, at_n))
    unlabeled-read env (Return t e) z n i not w num follow short within at_n =
        rw (up_to-semicolon env e z (n + 1) (i + 1) w num.1 (omega (arith, within)) (omega (arith, at_n)))
        (same (after_optional env e) z (ap (λ v. Return v e) (at_n ∙ sym num.0)) (omega (arith, length-optional e (Sign m.Semicolon ∷ []))))

    -- a statement without labels
    plain-read : (env : Env) (x : Stmt) (z : List Symbol) (n i : ℕ) → NotLabeled x → WellFormedStmt env x → NumberedStmt n x → (ends_open x ≡ true → is_keyword k.Else (head z) ≡ false)
        → length (spell_stmt x z) ≤ d → length (spell_stmt x z) < limit → i ≡ n → stmt_of limit p (at env (spell_stmt x z) i) ≡ Ok (x, at (after_stmt env x) z (past_stmt n x))
    unfolding stmt_of
    plain-read env x z n i not w num follow short within at_n =
        rw (labels-read env [] (spell_stmt x z) i i tt tt (λ j. no-label limit env x z j not w) within refl ∙ same env (spell_stmt x z) refl (nothing i))
        (rw (unlabeled-read env x z n i not w num follow short within at_n) refl)
      where
        nothing : (i : ℕ) → i + 0 ≡ i
        nothing i = omega arith

    labeled-read : (env : Env) (l : Label) (ls : List Label) (x : Stmt) (z : List Symbol) (n i : ℕ) → WellFormedLabels env (l ∷ ls) → NotLabeled x → WellFormedStmt (after_labels env (l ∷ ls)) x → NumberedLabels n (l ∷ ls) → NumberedStmt (past_labels n (l ∷ ls)) x
        → (ends_open x ≡ true → is_keyword k.Else (head z) ≡ false) → length (spell_labels (l ∷ ls) (spell_stmt x z)) ≤ d → length (spell_labels (l ∷ ls) (spell_stmt x z)) < limit → i ≡ n
        → stmt_of limit p (at env (spell_labels (l ∷ ls) (spell_stmt x z)) i) ≡ Ok (Labeled (l ∷ ls) x, at (after_stmt (after_labels env (l ∷ ls)) x) z (past_stmt (past_labels n (l ∷ ls)) x))
    unfolding stmt_of
    labeled-read env l ls x z n i w not v num nums follow short within at_n =
        let long = length-labels (l ∷ ls) (spell_stmt x z) in
        rw (labels-read env (l ∷ ls) (spell_stmt x z) n i w num (λ j. no-label limit (after_labels env (l ∷ ls)) x z j not v) within at_n)
        (rw (unlabeled-read (after_labels env (l ∷ ls)) x z (past_labels n (l ∷ ls)) (past_labels n (l ∷ ls)) not v nums follow (omega (arith, short, long)) (omega (arith, within, long)) refl) refl)

    stmt_of-read : ReadsStmt (suc d) (stmt_of limit p)
    unfolding spell_stmt WellFormedStmt NumberedStmt after_stmt
    stmt_of-read env (Labeled [] s) z n i w num follow short within at_n = absurd w.0
    stmt_of-read env (Labeled (l ∷ ls) s) z n i w num follow short within at_n =
        labeled-read env l ls s z n i w.1 w.2 w.3 num.0 num.1 follow (omega (arith, short)) within at_n ∙ same (after_stmt (after_labels env (l ∷ ls)) s) z refl (omega (arith, length-labels (l ∷ ls) (spell_stmt s [])))
    stmt_of-read env (Compound b) z n i w num follow short within at_n = plain-read env (Compound b) z n i tt w num follow (omega (arith, short)) within at_n
    stmt_of-read env (Expression e) z n i w num follow short within at_n = plain-read env (Expression e) z n i tt w num follow (omega (arith, short)) within at_n
    stmt_of-read env (Empty t) z n i w num follow short within at_n = plain-read env (Empty t) z n i tt w num follow (omega (arith, short)) within at_n
    stmt_of-read env (If t c s a) z n i w num follow short within at_n = plain-read env (If t c s a) z n i tt w num follow (omega (arith, short)) within at_n
    stmt_of-read env (Switch t e s) z n i w num follow short within at_n = plain-read env (Switch t e s) z n i tt w num follow (omega (arith, short)) within at_n
    stmt_of-read env (While t e s) z n i w num follow short within at_n = plain-read env (While t e s) z n i tt w num follow (omega (arith, short)) within at_n
    stmt_of-read env (Do t s e) z n i w num follow short within at_n = plain-read env (Do t s e) z n i tt w num follow (omega (arith, short)) within at_n
    stmt_of-read env (For t a b c s) z n i w num follow short within at_n = plain-read env (For t a b c s) z n i tt w num follow (omega (arith, short)) within at_n
    stmt_of-read env (Goto t x) z n i w num follow short within at_n = plain-read env (Goto t x) z n i tt w num follow (omega (arith, short)) within at_n
    stmt_of-read env (Continue t) z n i w num follow short within at_n = plain-read env (Continue t) z n i tt w num follow (omega (arith, short)) within at_n
    stmt_of-read env (Break t) z n i w num follow short within at_n = plain-read env (Break t) z n i tt w num follow (omega (arith, short)) within at_n
    stmt_of-read env (Return t e) z n i w num follow short within at_n = plain-read env (Return t e) z n i tt w num follow (omega (arith, short)) within at_n

  pub stmt-read : (depth : ℕ) → ReadsStmt depth (stmt limit depth)
  unfolding stmt
  stmt-read zero env x z n i w num follow short within at_n = no_turns short
  stmt-read (suc depth) env x z n i w num follow short within at_n = stmt_of-read depth (stmt limit depth) (stmt-read depth) env x z n i w num follow short within at_n
