-- Statements make no more objects without a name than they have tokens: those of their expressions and of the declarations of their
-- blocks.
use Rattle.std.specs.Prelude.{ℕ, ◌≡◌, true, suc, ◌+◌, ◌≤◌, Option, None, Some, List, [], ◌∷◌, length, refl}
use Rattle.std.proofs.Common.{arith}
use Rattle.pw_tree.specs.Trees.{Word, Expr, Stmt, Alternative, Block, Stmts, Label}
use Rattle.pw_tree.specs.Trees as S
use Rattle.pw_tree.specs.Spelling.{spell_expr, spell_optional, spell_label, spell_labels, spell_stmt, spell_alternative, spell_block, spell_stmts}
use Rattle.pw_token.specs.declared.symbol.Mark.TheVariants as m
use Rattle.pw_token.specs.declared.symbol.Keyword.TheVariants as keyword
use Rattle.pw_tree.specs.Symbols.{Symbol, Sign, Reserved}
use Rattle.pw_types.specs.TypedTrees.{Expression, Statement}
use Rattle.pw_check_walk.specs.Walks.{bind}
use Rattle.pw_check_rules.specs.Kinds.{kind_in}
use Rattle.pw_types.specs.WellTyped.{type_in}
use Rattle.pw_check_rules.specs.States.{State, Rule, next_hidden, with_body}
use Rattle.pw_check_rules.specs.Statements.{enter_switch, new_label, case_rule, inside_switch, default_rule, name_label_rule, label_rule, labels_rule, whole_rule, optional_rule, condition_rule, optional_condition, switch_rule, in_switch, in_loop, return_rule, stmt_rule, alternative_rule, block_rule, stmts_rule}
use Rattle.pw_law_checked.proofs.Bare.{is_bare, bare_post}
use Rattle.pw_law_checked.proofs.Walking.{Post}
use Rattle.pw_law_checked.proofs.Still.{Still, value_still}
use Rattle.pw_law_checked.proofs.LabelLaws.{asked_post}
use Rattle.pw_law_valid.proofs.Spending.{Spends, Same, stays, then_spends, still_spends, same_spends, token_before, token_behind}
use Rattle.pw_law_valid.proofs.Phrases.{expr_spends, valued_spends, scoped_spends}
use Rattle.pw_law_valid.proofs.Declarations.{both_less, decls_spends}

less : (n m : ℕ) → n + m ≤ n + suc m
less n m = omega arith

two_less : (n m : ℕ) → n + m ≤ n + suc (suc m)
two_less n m = omega arith

-- ---- parts of statements

whole_spends : (e : Expr) (z : List Symbol) (s : State) → Post (whole_rule e s) (Spends (suc (length (spell_expr e z))) (length z) s)
unfolding whole_rule
whole_spends e z s = then_spends _ _ _ s _ _ (expr_spends e z s) (λ r. still_spends _ r.1 _ (value_still r.0 r.1))

-- behind an expression that may be absent there is a token, which pays for it
optional_spends : (o : Option Expr) (x : Symbol) (z : List Symbol) (s : State) → Post (optional_rule o s) (Spends (length (spell_optional o (x ∷ z))) (length z) s)
unfolding optional_rule
optional_spends None x z s = less (next_hidden s) (length z)
optional_spends (Some e) x z s =
    both_less (length (spell_expr e (x ∷ z))) (length z) s _ (then_spends (suc (length (spell_expr e (x ∷ z)))) (suc (length z)) (suc (length z)) s (whole_rule e s) _ (whole_spends e (x ∷ z) s) (λ r. stays (next_hidden r.1) (suc (length z))))

condition_spends : (t : ℕ) (e : Expr) (z : List Symbol) (s : State) → Post (condition_rule t e s) (Spends (suc (length (spell_expr e z))) (length z) s)
unfolding condition_rule bind
condition_spends t e z s = then_spends (suc (length (spell_expr e z))) (length z) (length z) s (whole_rule e s) _ (whole_spends e z s) (λ r met. stays (next_hidden r.1) (length z))

optional_condition_spends : (t : ℕ) (o : Option Expr) (x : Symbol) (z : List Symbol) (s : State) → Post (optional_condition t o s) (Spends (length (spell_optional o (x ∷ z))) (length z) s)
unfolding optional_condition bind
optional_condition_spends t o x z s =
    then_spends (length (spell_optional o (x ∷ z))) (length z) (length z) s (optional_rule o s) _ (optional_spends o x z s) (λ r met. stays (next_hidden r.1) (length z))

switch_spends : (t : ℕ) (e : Expr) (z : List Symbol) (s : State) → Post (switch_rule t e s) (Spends (suc (length (spell_expr e z))) (length z) s)
unfolding switch_rule bind
switch_spends t e z s = then_spends (suc (length (spell_expr e z))) (length z) (length z) s (whole_rule e s) _ (whole_spends e z s) (λ r met. stays (next_hidden r.1) (length z))

-- a case, once its constant is read
case_same : (t : ℕ) (e : Expression) (s : State) → Post (case_rule t e s) (Same s)
unfolding case_rule new_label bind
case_same t e s = λ met. refl

default_same : (t : ℕ) (s : State) → Post (default_rule t s) (Same s)
unfolding default_rule new_label bind
default_same t s = λ met. refl

name_label_same : (w : Word) (s : State) → Post (name_label_rule w s) (Same s)
unfolding name_label_rule bind
name_label_same w s = λ met. refl

inside_still : (t : ℕ) (s : State) → Post (inside_switch t s) (Still s)
unfolding inside_switch bind
inside_still t s = λ met. refl

label_spends : (l : Label) (z : List Symbol) (s : State) → Post (label_rule l s) (Spends (length (spell_label l z)) (length z) s)
unfolding label_rule
label_spends (S.CaseLabel t e) z s =
    token_behind _ _ s _ (valued_spends _ _ _ s _ _ (then_spends _ _ _ s _ _ (still_spends _ s _ (inside_still t s)) (λ r. expr_spends e (Sign m.Colon ∷ z) r.1)) (λ x. same_spends _ x.1 _ (case_same _ x.0 x.1)))
label_spends (S.DefaultLabel t) z s = token_before _ _ s _ (token_before _ _ s _ (same_spends _ s _ (default_same t s)))
label_spends (S.NameLabel w) z s = token_before _ _ s _ (token_before _ _ s _ (same_spends _ s _ (name_label_same w s)))

labels_spends : (ls : List Label) (z : List Symbol) (s : State) → Post (labels_rule ls s) (Spends (length (spell_labels ls z)) (length z) s)
unfolding labels_rule
labels_spends [] z s = stays (next_hidden s) (length z)
labels_spends (l ∷ rest) z s = then_spends _ _ _ s _ _ (label_spends l (spell_labels rest z) s) (λ r. then_spends _ _ _ r.1 _ _ (labels_spends rest z r.1) (λ u. stays (next_hidden u.1) (length z)))

bare_same : (st : Stmt) → is_bare st ≡ true → (s : State) → Post (stmt_rule st s) (Same s)
bare_same st is s = bare_post (Same s) st is s (λ b. refl)

return_spends : (t : ℕ) (o : Option Expr) (x : Symbol) (z : List Symbol) (s : State) → Post (return_rule t o s) (Spends (suc (length (spell_optional o (x ∷ z)))) (length z) s)
unfolding return_rule bind
return_spends t None x z s = two_less (next_hidden s) (length z)
return_spends t (Some e) x z s =
    then_spends (suc (length (spell_expr e (x ∷ z)))) (suc (length z)) (length z) s (whole_rule e s) _ (whole_spends e (x ∷ z) s) (λ r met. less (next_hidden r.1) (length z))

in_loop_spends : (before behind : ℕ) (body : Rule Statement) (s : State) → ((t : State) → Post (body t) (Spends before behind t)) → Post (in_loop body s) (Spends before behind s)
unfolding in_loop bind
in_loop_spends before behind body s h =
    let t = with_body (λ b. record b { loops = b.loops + 1 }) s in
    then_spends before behind behind t (body t) _ (h t) (λ r. stays (next_hidden r.1) behind)

in_switch_spends : (before behind : ℕ) (e : Expression) (body : Rule Statement) (s : State) → ((t : State) → Post (body t) (Spends before behind t)) → Post (in_switch e body s) (Spends before behind s)
unfolding in_switch bind
in_switch_spends before behind e body s h =
    let t = enter_switch (kind_in (type_in e)) s in
    then_spends before behind behind t (body t) _ (h t) (λ r. stays (next_hidden r.1) behind)

-- ---- statements

mutual
  unfolding stmt_rule spell_stmt

  stmt_spends : (st : Stmt) (z : List Symbol) (s : State) → Post (stmt_rule st s) (Spends (length (spell_stmt st z)) (length z) s)
  stmt_spends (S.Compound b) z s = scoped_spends _ _ (block_rule b) s (λ t. block_spends b z t)
  stmt_spends (S.Expression e) z s = both_less _ _ s _ (valued_spends _ _ _ s _ _ (expr_spends e (Sign m.Semicolon ∷ z) s) (λ r. stays (next_hidden r.1) (suc (length z))))
  stmt_spends (S.Empty t) z s = less (next_hidden s) (length z)
  stmt_spends (S.Labeled ls st) z s = then_spends _ _ _ s _ _ (labels_spends ls _ s) (λ r. then_spends _ _ _ r.1 _ _ (stmt_spends st z r.1) (λ u. stays (next_hidden u.1) (length z)))
  stmt_spends (S.If t c st a) z s =
      token_before _ _ s _ (then_spends _ _ _ s _ _ (condition_spends t c _ s) (λ q.
      token_before _ _ q.1 _ (then_spends _ _ _ q.1 _ _ (stmt_spends st _ q.1) (λ r. then_spends _ _ _ r.1 _ _ (alternative_spends a z r.1) (λ u. stays (next_hidden u.1) (length z))))))
  stmt_spends (S.Switch t e st) z s =
      token_before _ _ s _ (then_spends _ _ _ s _ _ (switch_spends t e _ s) (λ q.
      token_before _ _ q.1 _ (then_spends _ _ _ q.1 _ _ (in_switch_spends _ _ q.0 (stmt_rule st) q.1 (λ u. stmt_spends st z u)) (λ r. stays (next_hidden r.1) (length z)))))
  stmt_spends (S.While t e st) z s =
      token_before _ _ s _ (then_spends _ _ _ s _ _ (condition_spends t e _ s) (λ q.
      token_before _ _ q.1 _ (then_spends _ _ _ q.1 _ _ (in_loop_spends _ _ (stmt_rule st) q.1 (λ u. stmt_spends st z u)) (λ r. stays (next_hidden r.1) (length z)))))
  stmt_spends (S.Do t st e) z s =
      let behind = Sign m.CloseParen ∷ Sign m.Semicolon ∷ z in
      let condition = Reserved keyword.While ∷ Sign m.OpenParen ∷ spell_expr e behind in
      token_before _ _ s _ (then_spends _ (length condition) _ s _ _ (in_loop_spends _ (length condition) (stmt_rule st) s (λ u. stmt_spends st condition u)) (λ q.
      token_before _ _ q.1 _ (then_spends _ (length behind) _ q.1 _ _ (condition_spends t e behind q.1) (λ r. two_less (next_hidden r.1) (length z)))))
  stmt_spends (S.For t a b c st) z s =
      token_before _ _ s _ (token_before _ _ s _ (then_spends _ _ _ s _ _ (optional_spends a (Sign m.Semicolon) (spell_optional b (Sign m.Semicolon ∷ spell_optional c (Sign m.CloseParen ∷ spell_stmt st z))) s) (λ x1.
      then_spends _ _ _ x1.1 _ _ (optional_condition_spends t b (Sign m.Semicolon) (spell_optional c (Sign m.CloseParen ∷ spell_stmt st z)) x1.1) (λ x2.
      then_spends _ _ _ x2.1 _ _ (optional_spends c (Sign m.CloseParen) (spell_stmt st z) x2.1) (λ x3.
      then_spends _ _ _ x3.1 _ _ (in_loop_spends _ _ (stmt_rule st) x3.1 (λ u. stmt_spends st z u)) (λ x4. stays (next_hidden x4.1) (length z)))))))
  stmt_spends (S.Goto t w) z s = token_before _ _ s _ (token_before _ _ s _ (token_before _ _ s _ (same_spends _ s _ (bare_same (S.Goto t w) refl s))))
  stmt_spends (S.Return t e) z s = return_spends t e _ z s
  -- a word and a semicolon
  stmt_spends st z s = token_before _ _ s _ (token_before _ _ s _ (same_spends _ s _ (bare_same st refl s)))

  alternative_spends : (a : Alternative) (z : List Symbol) (s : State) → Post (alternative_rule a s) (Spends (length (spell_alternative a z)) (length z) s)
  alternative_spends S.NoElse z s = stays (next_hidden s) (length z)
  alternative_spends (S.Otherwise st) z s = token_before _ _ s _ (then_spends _ _ _ s _ _ (stmt_spends st z s) (λ r. stays (next_hidden r.1) (length z)))
  alternative_spends (S.ElseIf t c st a) z s =
      token_before _ _ s _ (token_before _ _ s _ (then_spends _ _ _ s _ _ (condition_spends t c _ s) (λ q.
      token_before _ _ q.1 _ (then_spends _ _ _ q.1 _ _ (stmt_spends st _ q.1) (λ r. then_spends _ _ _ r.1 _ _ (alternative_spends a z r.1) (λ u. stays (next_hidden u.1) (length z)))))))

  pub block_spends : (b : Block) (z : List Symbol) (s : State) → Post (block_rule b s) (Spends (length (spell_block b z)) (length z) s)
  block_spends (S.Braced t ds ss) z s =
      asked_post s _ _ (Spends (length (spell_block (S.Braced t ds ss) z)) (length z) s)
      (token_before _ _ s _ (then_spends _ _ _ s _ _ (decls_spends ds _ s) (λ r.
      asked_post r.1 _ _ (Spends _ (length z) r.1)
      (then_spends _ _ _ r.1 _ _ (token_behind _ _ r.1 _ (stmts_spends ss (Sign m.CloseBrace ∷ z) r.1)) (λ u. stays (next_hidden u.1) (length z))))))

  stmts_spends : (ss : Stmts) (z : List Symbol) (s : State) → Post (stmts_rule ss s) (Spends (length (spell_stmts ss z)) (length z) s)
  stmts_spends S.NoStmt z s = stays (next_hidden s) (length z)
  stmts_spends (S.Next st rest) z s = then_spends _ _ _ s _ _ (stmt_spends st _ s) (λ r. then_spends _ _ _ r.1 _ _ (stmts_spends rest z r.1) (λ u. stays (next_hidden u.1) (length z)))
